-- Each call keeps what is so of open files and of published lengths; and what becomes of one node.
use Rattle.std.specs.Prelude.{◌≡◌, ◌≢◌, ◌⊎◌, ◌<◌, ◌≤◌, ℕ, ◌+◌, ◌==◌, ◌||◌, not, Bool, true, false, cond, List, [], ◌∷◌, ◌++◌, length, Option, Some, None, is_none, is_some, slice_set, unwrap_or, ℤ, refl}
use Rattle.std.specs.Option.{option_map_or}
use Rattle.std.proofs.Common.{arith, ap, ◌∙◌, sym, subst, lit<, inl, inr}
use Rattle.std.proofs.Math.Seq.{get_or-append_seam}
use Rattle.std.proofs.lemmas.Bool.{cases_eq, cases_lt, or_parts}
use Rattle.std.proofs.lemmas.Bool.Decides.{Decides-eqb}
use Rattle.std.proofs.lemmas.List.{get_or_append_left, get_or_past, get_or-set_other, get_or-set_same, length-append, length-set}
use Rattle.posix_spec.specs.posix_types.declared.call.Call.{Call}
use Rattle.posix_spec.specs.posix_types.declared.call.Who.{Who}
use Rattle.posix_spec.specs.posix_types.declared.handle.Flags.{Flags}
use Rattle.posix_spec.specs.posix_types.declared.handle.Handle.{Handle}
use Rattle.posix_spec.specs.posix_types.declared.handle.Whence.{Whence}
use Rattle.posix_spec.specs.posix_tables.declared.nodes.File.{File}
use Rattle.posix_spec.specs.posix_tables.declared.nodes.Node.{Node}
use Rattle.posix_spec.specs.posix_tables.declared.open.Description.{Description}
use Rattle.posix_spec.specs.posix_tables.Bytes.{overwritten, resized}
use Rattle.posix_spec.specs.posix_tables.NameRows.{open_rows, rmdir_rows}
use Rattle.posix_spec.specs.posix_tables.Names.{directory_stands, exists_at, file_stands, is_named, node_at_path, number_at}
use Rattle.posix_spec.specs.posix_tables.Nodes.{bytes_of, is_directory, node_at, published_node, published_of}
use Rattle.posix_spec.specs.posix_tables.Open.{closed, is_full, is_open, key_of, may_write, opened, Tables, with_opened}
use Rattle.posix_spec.specs.posix_tables.Outcomes.{first}
use Rattle.posix_spec.specs.FileRows.{close_rows, content, file_number, truncate_rows, write_start}
use Rattle.posix_spec.specs.State.{alone, made, space, State, swept, unnamed, with_file, with_node, with_published}
use Rattle.posix_spec.specs.Step.{close_done, dup_done, empty_file, fsync_done, is_busy, list_done, mkdir_done, moved_offset, open_done, opening, opening_number, pread_done, pwrite_done, read_done, rename_done, renamed, rmdir_done, seek_done, stat_done, truncate_done, unlink_done, write_done, written}
use Rattle.posix_laws.specs.FitsLaws.{length-overwritten, length-resized}
use Rattle.posix_laws.specs.OpenNodes.{is_open-closed, is_open-closed_other, is_open-descriptor, is_open-offset, is_open-opened, opened-is_open}
use Rattle.posix_laws.specs.Publishes.{BeginsPublishing, IsPublishing, KeepsPublishing, PathsLeadToNodes}
use Rattle.posix_laws.specs.RowLaws.{Accepts-from_rows, no_row, none_fits, stepped-keeps}

-- ---- nodes by their numbers

abbrev pub IsFile : Node → Type 0
IsFile x = (file : File) × (x ≡ Node.File file)

pub file_not_gone : (x : Node) → IsFile x → x ≡ Node.Gone → ⊥
file_not_gone x is gone = let never : Node.File is.0 ≡ Node.Gone = sym is.1 ∙ gone in cc

file_there : (x : Node) → x ≢ Node.Gone → x ≢ Node.Directory → IsFile x
file_there Node.Gone there other = absurd (there refl)
file_there Node.Directory there other = absurd (other refl)
file_there (Node.File file) there other = (file, refl)

pub node_below : (nodes : List Node) (n : ℕ) → node_at nodes n ≢ Node.Gone → n < length nodes
node_below nodes n there = elim (cases_lt n (length nodes)) [
  | inl below ↦ below
  | inr past ↦ absurd (there (get_or_past nodes n Node.Gone past))
]

-- another node under a number: there it is, where the number is one, and the others stay
pub node_set : (nodes : List Node) (n : ℕ) (x : Node) (m : ℕ) → (node_at (slice_set nodes n x) m ≡ node_at nodes m) ⊎ ((m ≡ n) × (node_at (slice_set nodes n x) m ≡ x))
node_set nodes n x m = elim (cases_eq m n) [
  | inr other ↦ inl (get_or-set_other nodes n m x Node.Gone other)
  | inl same ↦ elim (cases_lt n (length nodes)) [
    | inl below ↦ inr (same, ap (node_at (slice_set nodes n x)) same ∙ get_or-set_same nodes n x Node.Gone below)
    | inr past ↦ inl (ap (node_at (slice_set nodes n x)) same ∙ (past_set past ∙ ap (node_at nodes) (sym same)))
  ]
] where
  past_set : length nodes ≤ n → node_at (slice_set nodes n x) n ≡ node_at nodes n
  past_set past =
      get_or_past (slice_set nodes n x) n Node.Gone (subst (λ k. k ≤ n) (sym (length-set nodes n x)) past)
      ∙ sym (get_or_past nodes n Node.Gone past)

-- a further node
pub node_pushed : (nodes : List Node) (x : Node) (m : ℕ) → (node_at (nodes ++ x ∷ []) m ≡ node_at nodes m) ⊎ ((m ≡ length nodes) × (node_at (nodes ++ x ∷ []) m ≡ x))
node_pushed nodes x m = elim (cases_eq m (length nodes)) [
  | inl same ↦ inr (same, ap (node_at (nodes ++ x ∷ [])) same ∙ get_or-append_seam nodes x [] Node.Gone)
  | inr other ↦ elim (cases_lt m (length nodes)) [
    | inl below ↦ inl (get_or_append_left nodes (x ∷ []) Node.Gone m below)
    | inr past ↦ inl (
        get_or_past (nodes ++ x ∷ []) m Node.Gone (let long : length (nodes ++ x ∷ []) ≡ length nodes + 1 = length-append nodes (x ∷ []) in omega (arith, long, past, other))
        ∙ sym (get_or_past nodes m Node.Gone past))
  ]
]

-- ---- tests

not_false : (b : Bool) → not b ≡ false → b ≡ true
not_false true is = refl
not_false false is = cc

-- what stands at a path and is no file is a directory, and the other way round
stands_directory : (s : State) (p : List (List ℕ)) → exists_at (space s) p ≡ true → file_stands (space s) p ≡ false → directory_stands (space s) p ≡ true
stands_directory s p = by (node_at_path (space s) p) where
  by : (o : Option ℕ) → is_some o ≡ true → option_map_or (λ n. not (is_directory s.nodes n)) o false ≡ false → option_map_or (is_directory s.nodes) o false ≡ true
  by None there other = cc
  by (Some n) there other = not_false (is_directory s.nodes n) other

no_directory_at : (nodes : List Node) (n : ℕ) (x : Node) → node_at nodes n ≡ x → is_directory nodes n ≡ false → x ≢ Node.Directory
no_directory_at nodes n x is isnt same = let never : true ≡ false = rw (is ∙ same) at isnt in cc

stands_file : (s : State) (p : List (List ℕ)) → exists_at (space s) p ≡ true → directory_stands (space s) p ≡ false → PathsLeadToNodes s → IsFile (node_at s.nodes (number_at (space s) p))
stands_file s p there other paths = file_there (node_at s.nodes (number_at (space s) p)) (paths p there) (by (node_at_path (space s) p) there other) where
  by : (o : Option ℕ) → is_some o ≡ true → option_map_or (is_directory s.nodes) o false ≡ false → node_at s.nodes (unwrap_or o 0) ≢ Node.Directory
  by None it isnt = cc
  by (Some n) it isnt = no_directory_at s.nodes n (node_at s.nodes n) refl isnt

-- ---- one node

-- what is so of one node, by whether it is open
record Publishes (open_now : Bool) (x : Node) : Type 0 where
  file : open_now ≡ true → IsFile x
  within : published_of x ≤ length (bytes_of x)
  closed : open_now ≡ false → published_of x ≡ length (bytes_of x)

one_of : (s : State) (n : ℕ) → IsPublishing s → Publishes (is_open s.tables n) (node_at s.nodes n)
one_of s n is = record { file = is.open_files n; within = is.within n; closed = is.closed n }

all_of : (s : State) → ((n : ℕ) → Publishes (is_open s.tables n) (node_at s.nodes n)) → IsPublishing s
all_of s each = record { open_files = λ n. (each n).file; within = λ n. (each n).within; closed = λ n. (each n).closed }

-- a file of which all is published
whole_file : (b : Bool) (bytes : List ℕ) (n : ℕ) → n ≡ length bytes → Publishes b (Node.File (record { bytes = bytes; published = n }))
whole_file b bytes n is = record { file = λ now. (record { bytes = bytes; published = n }, refl); within = omega (arith, is); closed = λ now. is }

-- what is no file, and not open
no_file : (b : Bool) (x : Node) → b ≡ false → published_of x ≡ length (bytes_of x) → Publishes b x
no_file b x shut is = record { file = λ now. (let never : true ≡ false = sym now ∙ shut in cc); within = omega (arith, is); closed = λ now. is }

published_one : (b : Bool) (x : Node) → Publishes b x → Publishes b (published_node x)
published_one b Node.Gone is = is
published_one b Node.Directory is = is
published_one b (Node.File file) is = whole_file b file.bytes (length file.bytes) refl

published_whole : (x : Node) → published_of (published_node x) ≡ length (bytes_of (published_node x))
published_whole Node.Gone = refl
published_whole Node.Directory = refl
published_whole (Node.File file) = refl

-- ---- changes of nodes

set_node : (s : State) (n : ℕ) (x : Node) → IsPublishing s → Publishes (is_open s.tables n) x → IsPublishing (with_node s n x)
set_node s n x is one = all_of (with_node s n x) (λ m. elim (node_set s.nodes n x m) [
  | inl same ↦ subst (Publishes (is_open s.tables m)) (sym same) (one_of s m is)
  | inr here ↦ subst (Publishes (is_open s.tables m)) (sym here.1) (subst (λ k. Publishes (is_open s.tables k) x) (sym here.0) one)
])

not_open_past : (s : State) (n : ℕ) → IsPublishing s → length s.nodes ≤ n → is_open s.tables n ≡ false
not_open_past s n is past = by (is_open s.tables n) refl where
  by : (b : Bool) → is_open s.tables n ≡ b → is_open s.tables n ≡ false
  by false shut = shut
  by true now = absurd (file_not_gone (node_at s.nodes n) (is.open_files n now) (get_or_past s.nodes n Node.Gone past))

push_node : (s : State) (p : List (List ℕ)) (x : Node) → IsPublishing s → published_of x ≡ length (bytes_of x) → IsPublishing (made s p x)
unfolding made
push_node s p x is whole = all_of (made s p x) (λ m. elim (node_pushed s.nodes x m) [
  | inl same ↦ subst (Publishes (is_open s.tables m)) (sym same) (one_of s m is)
  | inr here ↦ subst (Publishes (is_open s.tables m)) (sym here.1) (no_file (is_open s.tables m) x (not_open_past s m is (omega (arith, here.0))) whole)
])

gone_node : (s : State) (n : ℕ) → IsPublishing s → is_open s.tables n ≡ false → IsPublishing (with_node s n Node.Gone)
gone_node s n is shut = set_node s n Node.Gone is (no_file (is_open s.tables n) Node.Gone shut refl)

swept_node : (s : State) (n : ℕ) → IsPublishing s → IsPublishing (swept alone s n)
unfolding swept
swept_node s n is = by (is_named s.entries n || is_open s.tables n) refl where
  by : (b : Bool) → (is_named s.entries n || is_open s.tables n) ≡ b → IsPublishing (cond b s (with_node s n Node.Gone))
  by true kept = is
  by false goes = gone_node s n is (or_parts (is_named s.entries n) (is_open s.tables n) goes).1

-- a directory is not open
directory_shut : (s : State) (p : List (List ℕ)) → IsPublishing s → directory_stands (space s) p ≡ true → is_open s.tables (number_at (space s) p) ≡ false
directory_shut s p is stands = by (node_at_path (space s) p) stands where
  directory : (x : Node) (nodes : List Node) (n : ℕ) → node_at nodes n ≡ x → is_directory nodes n ≡ true → x ≡ Node.Directory
  directory Node.Gone nodes n here stands = let never : false ≡ true = rw here at stands in cc
  directory Node.Directory nodes n here stands = refl
  directory (Node.File file) nodes n here stands = let never : false ≡ true = rw here at stands in cc

  shut : (n : ℕ) (b : Bool) → is_open s.tables n ≡ b → is_directory s.nodes n ≡ true → is_open s.tables n ≡ false
  shut n false now stands = now
  shut n true now stands =
      let file = is.open_files n now in
      let never : Node.File file.0 ≡ Node.Directory = sym file.1 ∙ directory (node_at s.nodes n) s.nodes n refl stands in
      cc

  by : (o : Option ℕ) → option_map_or (is_directory s.nodes) o false ≡ true → is_open s.tables (unwrap_or o 0) ≡ false
  by None stands = cc
  by (Some n) stands = shut n (is_open s.tables n) refl stands

-- ---- changes of tables

same_open : (s : State) (t : Tables) → IsPublishing s → ((n : ℕ) → is_open t n ≡ is_open s.tables n) → IsPublishing (record s { tables = t })
same_open s t is same = all_of (record s { tables = t }) (λ n. subst (λ b. Publishes b (node_at s.nodes n)) (sym (same n)) (one_of s n is))

moved : (s : State) (who : Who) (h : Handle) (offset : ℕ) → IsPublishing s → IsPublishing (moved_offset s who h offset)
moved s who h offset is = same_open s _ is (λ n. is_open-offset s.tables (unwrap_or (key_of s.tables who h) 0) offset n)

one_opened : (b c : Bool) (x : Node) → Publishes b x → (c ≡ true → IsFile x) → Publishes (b || c) x
one_opened true c x is opens = record { file = λ now. is.file refl; within = is.within; closed = λ shut. absurd (let never : true ≡ false = shut in cc) }
one_opened false c x is opens = record { file = opens; within = is.within; closed = λ shut. is.closed refl }

opens_file : (s : State) (who : Who) (h : Handle) (d : Description) → IsPublishing s → IsFile (node_at s.nodes d.node) → IsPublishing (record s { tables = with_opened s.tables who h d })
opens_file s who h d is file = all_of (record s { tables = with_opened s.tables who h d }) (λ n.
    subst (λ b. Publishes b (node_at s.nodes n)) (sym (is_open-opened s.tables who h d n))
    (one_opened (is_open s.tables n) (d.node == n) (node_at s.nodes n) (one_of s n is)
    (λ same. subst (λ k. IsFile (node_at s.nodes k)) ((Decides-eqb d.node n).0 same) file)))

-- ---- what a handle that is known stands for

known : (t : Tables) (who : Who) (h : Handle) → is_none (opened t who h) ≡ false → (d : Description) × (opened t who h ≡ Some d)
known t who h = by (opened t who h) where
  by : (o : Option Description) → is_none o ≡ false → (d : Description) × (o ≡ Some d)
  by None is = cc
  by (Some d) is = (d, refl)

writes : (t : Tables) (who : Who) (h : Handle) → may_write t who h ≡ true → (d : Description) × (opened t who h ≡ Some d)
writes t who h = by (opened t who h) where
  by : (o : Option Description) → option_map_or (λ (d : Description). d.flags.write) o false ≡ true → (d : Description) × (o ≡ Some d)
  by None is = cc
  by (Some d) is = (d, refl)

number_is : (t : Tables) (who : Who) (h : Handle) (d : Description) → opened t who h ≡ Some d → file_number t who h ≡ d.node
number_is t who h d is = ap (λ (o : Option Description). option_map_or (λ (x : Description). x.node) o 0) is

number_open : (t : Tables) (who : Who) (h : Handle) (d : Description) → opened t who h ≡ Some d → is_open t (file_number t who h) ≡ true
number_open t who h d is = ap (is_open t) (number_is t who h d is) ∙ opened-is_open t who h d is

pub may_write-of : (s : State) (who : Who) (h : Handle) (n : ℕ) → first (truncate_rows s who h n) ≡ None → may_write s.tables who h ≡ true
unfolding truncate_rows
may_write-of s who h n none = not_false (may_write s.tables who h) (no_row _ _ (none_fits (truncate_rows s who h n) none 0 None (lit< tt)))

-- the file that is written to is open
pub written_open : (s : State) (who : Who) (h : Handle) → may_write s.tables who h ≡ true → is_open s.tables (file_number s.tables who h) ≡ true
written_open s who h may = let d = writes s.tables who h may in number_open s.tables who h d.0 d.1

-- ---- calls

by_rmdir : (s : State) (p : List (List ℕ)) → IsPublishing s → first (rmdir_rows (space s) p) ≡ None → IsPublishing (rmdir_done s p).state
unfolding rmdir_rows rmdir_done unnamed
by_rmdir s p is none =
    let each = none_fits (rmdir_rows (space s) p) none in
    let there : exists_at (space s) p ≡ true = not_false (exists_at (space s) p) (no_row _ _ (each 3 None (lit< tt))) in
    let other : file_stands (space s) p ≡ false = no_row _ _ (each 4 None (lit< tt)) in
    gone_node (unnamed s p) (number_at (space s) p) (all_of (unnamed s p) (λ n. one_of s n is)) (directory_shut s p is (stands_directory s p there other))

by_unlink : (s : State) (p : List (List ℕ)) → IsPublishing s → IsPublishing (unlink_done alone s p).state
unfolding unlink_done unnamed
by_unlink s p is = swept_node (unnamed s p) (number_at (space s) p) (all_of (unnamed s p) (λ n. one_of s n is))

by_rename : (s : State) (p q : List (List ℕ)) → IsPublishing s → IsPublishing (rename_done alone s p q).state
unfolding rename_done renamed
by_rename s p q is = by (directory_stands (space s) q) refl (file_stands (space s) q) where
  after : IsPublishing (renamed s p q)
  after = all_of (renamed s p q) (λ n. one_of s n is)

  by : (b : Bool) → directory_stands (space s) q ≡ b → (c : Bool)
      → IsPublishing (cond b (with_node (renamed s p q) (number_at (space s) q) Node.Gone) (cond c (swept alone (renamed s p q) (number_at (space s) q)) (renamed s p q)))
  by true stands c = gone_node (renamed s p q) (number_at (space s) q) after (directory_shut s q is stands)
  by false stands true = swept_node (renamed s p q) (number_at (space s) q) after
  by false stands false = after

-- the file that is opened, which may be made or cut
by_opening : (s : State) (p : List (List ℕ)) (truncate : Bool) → IsPublishing s → PathsLeadToNodes s → directory_stands (space s) p ≡ false
    → IsPublishing (opening s p truncate) × IsFile (node_at (opening s p truncate).nodes (opening_number s p))
unfolding opening made
by_opening s p truncate is paths other = by (exists_at (space s) p) refl truncate where
  by : (b : Bool) → exists_at (space s) p ≡ b → (cut : Bool) → IsPublishing (cond b (cond cut (with_node s (number_at (space s) p) empty_file) s) (made s p empty_file))
      × IsFile (node_at (cond b (cond cut (with_node s (number_at (space s) p) empty_file) s) (made s p empty_file)).nodes (cond b (number_at (space s) p) (length s.nodes)))
  by true there true =
      let n : ℕ = number_at (space s) p in
      (set_node s n empty_file is (whole_file (is_open s.tables n) [] 0 refl), (record { bytes = []; published = 0 }, get_or-set_same s.nodes n empty_file Node.Gone (node_below s.nodes n (paths p there))))
  by true there false = (is, stands_file s p there other paths)
  by false missing cut = (push_node s p empty_file is refl, (record { bytes = []; published = 0 }, get_or-append_seam s.nodes empty_file [] Node.Gone))

opening_tables : (s : State) (p : List (List ℕ)) (cut b : Bool) → exists_at (space s) p ≡ b → (opening s p cut).tables ≡ s.tables
unfolding opening made
opening_tables s p true true is = rw is refl
opening_tables s p false true is = rw is refl
opening_tables s p cut false is = rw is refl

by_open : (s : State) (full : Bool) (who : Who) (h : Handle) (p : List (List ℕ)) (f : Flags) → IsPublishing s → PathsLeadToNodes s → first (open_rows (space s) full (is_busy alone s p) p f) ≡ None
    → IsPublishing (open_done s who h p f).state
unfolding open_rows open_done
by_open s full who h p f is paths none =
    let each = none_fits (open_rows (space s) full (is_busy alone s p) p f) none in
    let opens = by_opening s p f.truncate is paths (no_row _ _ (each 3 None (lit< tt))) in
    let d : Description = record { node = opening_number s p; offset = 0; flags = f } in
    subst (λ t. IsPublishing (record (opening s p f.truncate) { tables = with_opened t who h d })) (opening_tables s p f.truncate (exists_at (space s) p) refl)
    (opens_file (opening s p f.truncate) who h d opens.0 opens.1)

by_close : (s : State) (who : Who) (h : Handle) (d : Description) → IsPublishing s → opened s.tables who h ≡ Some d → IsPublishing (close_done alone s who h).state
unfolding close_done with_published
by_close s who h d is stands =
    let n : ℕ = file_number s.tables who h in
    let left : State = record (with_published s n) { tables = closed s.tables who h } in
    swept_node left n (all_of left each)
  where
    file : ℕ
    file = file_number s.tables who h

    less : (m : ℕ) (x : Node) → Publishes (is_open s.tables m) x → (m ≡ file → published_of x ≡ length (bytes_of x)) → Publishes (is_open (closed s.tables who h) m) x
    less m x one whole = record {
      file = λ now. one.file (is_open-closed s.tables who h m now);
      within = one.within;
      closed = λ shut. elim (cases_eq m file) [
        | inl same ↦ whole same
        | inr other ↦ one.closed (sym (is_open-closed_other s.tables who h d m stands (λ same. other (same ∙ sym (number_is s.tables who h d stands)))) ∙ shut)
      ];
    }

    published_at : (k : ℕ) → node_at (slice_set s.nodes k (published_node (node_at s.nodes k))) k ≡ published_node (node_at s.nodes k)
    published_at k = elim (cases_lt k (length s.nodes)) [
      | inl below ↦ get_or-set_same s.nodes k (published_node (node_at s.nodes k)) Node.Gone below
      | inr past ↦
          let none : node_at s.nodes k ≡ Node.Gone = get_or_past s.nodes k Node.Gone past in
          let longer : length (slice_set s.nodes k (published_node (node_at s.nodes k))) ≤ k = subst (λ m. m ≤ k) (sym (length-set s.nodes k (published_node (node_at s.nodes k)))) past in
          get_or_past (slice_set s.nodes k (published_node (node_at s.nodes k))) k Node.Gone longer ∙ sym (ap published_node none)
    ]

    each : (m : ℕ) → Publishes (is_open (closed s.tables who h) m) (node_at (slice_set s.nodes file (published_node (node_at s.nodes file))) m)
    each m = less m (node_at (slice_set s.nodes file (published_node (node_at s.nodes file))) m)
        (one_of (with_node s file (published_node (node_at s.nodes file))) m (set_node s file _ is (published_one (is_open s.tables file) (node_at s.nodes file) (one_of s file is))))
        (λ same. (let at = ap (node_at (slice_set s.nodes file (published_node (node_at s.nodes file)))) same ∙ published_at file in
        subst (λ x. published_of x ≡ length (bytes_of x)) (sym at) (published_whole (node_at s.nodes file))))

by_dup : (s : State) (who : Who) (h g : Handle) → IsPublishing s → IsPublishing (dup_done s who h g).state
unfolding dup_done
by_dup s who h g is = same_open s _ is (λ n. is_open-descriptor s.tables who g (unwrap_or (key_of s.tables who h) 0) n)

by_published : (s : State) (n : ℕ) → IsPublishing s → IsPublishing (with_published s n)
unfolding with_published
by_published s n is = set_node s n _ is (published_one (is_open s.tables n) (node_at s.nodes n) (one_of s n is))

by_written : (s : State) (who : Who) (h : Handle) (start : ℕ) (x : List ℕ) → IsPublishing s → may_write s.tables who h ≡ true → IsPublishing (written alone s who h start x)
unfolding written with_file
by_written s who h start x is may = set_node s n _ is (longer (node_at s.nodes n) (one_of s n is).within) where
  n : ℕ
  n = file_number s.tables who h

  longer : (y : Node) → published_of y ≤ length (bytes_of y) → Publishes (is_open s.tables n) (Node.File (record { bytes = overwritten (bytes_of y) start x; published = published_of y }))
  longer y within = record {
    file = λ now. (record { bytes = overwritten (bytes_of y) start x; published = published_of y }, refl);
    within = (let long = length-overwritten (bytes_of y) start x in omega (arith, long, within));
    closed = λ shut. (let never : true ≡ false = sym (written_open s who h may) ∙ shut in cc);
  }

by_truncate : (s : State) (who : Who) (h : Handle) (n : ℕ) → IsPublishing s → IsPublishing (truncate_done s who h n).state
unfolding truncate_done with_file
by_truncate s who h n is = set_node s (file_number s.tables who h) _ is (whole_file _ (resized (content s who h) n) n (sym (length-resized (content s who h) n)))

by_read : (s : State) (who : Who) (h : Handle) (n : ℕ) → IsPublishing s → IsPublishing (read_done s who h n).state
unfolding read_done
by_read s who h n is = moved s who h _ is

by_seek : (s : State) (who : Who) (h : Handle) (w : Whence) (i : ℤ) → IsPublishing s → IsPublishing (seek_done s who h w i).state
unfolding seek_done
by_seek s who h w i is = moved s who h _ is

-- Behind each call.
pub publishing_kept : KeepsPublishing
unfolding mkdir_done write_done pwrite_done read_done pread_done seek_done fsync_done stat_done list_done
publishing_kept s who (Call.Mkdir p) is paths = stepped-keeps IsPublishing s _ _ is (λ none. push_node s p Node.Directory is refl)
publishing_kept s who (Call.Rmdir p) is paths = stepped-keeps IsPublishing s _ _ is (by_rmdir s p is)
publishing_kept s who (Call.Unlink p) is paths = stepped-keeps IsPublishing s _ _ is (λ none. by_unlink s p is)
publishing_kept s who (Call.Rename p q) is paths = stepped-keeps IsPublishing s _ _ is (λ none. by_rename s p q is)
publishing_kept s who (Call.Open h p f) is paths = stepped-keeps IsPublishing s _ _ is (by_open s (is_full s.tables) who h p f is paths)
publishing_kept s who (Call.Close h) is paths =
    stepped-keeps IsPublishing s _ _ is (λ none. (let d = known s.tables who h (unknown none) in by_close s who h d.0 is d.1))
  where
    unknown : first (close_rows s.tables who h) ≡ None → is_none (opened s.tables who h) ≡ false
    unknown none = no_row _ _ (none_fits (close_rows s.tables who h) none 0 None (lit< tt))
publishing_kept s who (Call.Dup h g) is paths = stepped-keeps IsPublishing s _ _ is (λ none. by_dup s who h g is)
publishing_kept s who (Call.Read h n) is paths = stepped-keeps IsPublishing s _ _ is (λ none. by_read s who h n is)
publishing_kept s who (Call.Pread h o n) is paths = stepped-keeps IsPublishing s _ _ is (λ none. is)
publishing_kept s who (Call.Write h x) is paths =
    stepped-keeps IsPublishing s _ _ is (λ none. moved (written alone s who h (write_start s who h) x) who h _ (by_written s who h (write_start s who h) x is (Accepts-from_rows s who h (write_start s who h) x none).may_write))
publishing_kept s who (Call.Pwrite h o x) is paths = stepped-keeps IsPublishing s _ _ is (λ none. by_written s who h o x is (Accepts-from_rows s who h o x none).may_write)
publishing_kept s who (Call.Seek h w by) is paths = stepped-keeps IsPublishing s _ _ is (λ none. by_seek s who h w by is)
publishing_kept s who (Call.Truncate h n) is paths = stepped-keeps IsPublishing s _ _ is (λ none. by_truncate s who h n is)
publishing_kept s who (Call.Fsync h) is paths = stepped-keeps IsPublishing s _ _ is (λ none. by_published s (file_number s.tables who h) is)
publishing_kept s who (Call.Stat p) is paths = stepped-keeps IsPublishing s _ _ is (λ none. is)
publishing_kept s who (Call.List p) is paths = stepped-keeps IsPublishing s _ _ is (λ none. is)

pub publishing_begins : BeginsPublishing
publishing_begins s none whole = record {
  open_files = λ n now. (let never : false ≡ true = ap (λ (t : Tables). is_open t n) (sym none) ∙ now in cc);
  within = λ n. (let all = whole n in omega (arith, all));
  closed = λ n shut. whole n;
}
