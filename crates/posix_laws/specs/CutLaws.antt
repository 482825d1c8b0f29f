-- A call of names commutes with the cut of all files to their published lengths.
use Rattle.std.specs.Prelude.{◌≡◌, ℕ, zero, suc, ◌+◌, ◌-◌, ◌||◌, Bool, true, false, cond, count_by, List, [], ◌∷◌, ◌++◌, map, Option, Some, None, slice_set, sum_by, refl}
use Rattle.std.proofs.Common.{ap, ◌∙◌, sym}
use Rattle.std.proofs.Math.ListN.{get_or-map}
use Rattle.std.proofs.Math.Path.{fun_ext}
use Rattle.std.proofs.lemmas.List.{length-map, map-append, map-set}
use Rattle.std.proofs.lemmas.List.Sums.{sum_by-cons}
use Rattle.posix_spec.specs.posix_types.declared.call.Call.{Call}
use Rattle.posix_spec.specs.posix_types.declared.call.Who.{Who}
use Rattle.posix_spec.specs.posix_types.declared.handle.Flags.{Flags}
use Rattle.posix_spec.specs.posix_types.declared.handle.Handle.{Handle}
use Rattle.posix_spec.specs.posix_types.declared.item.Outcome.{Outcome}
use Rattle.posix_spec.specs.posix_tables.declared.nodes.DirEntry.{DirEntry}
use Rattle.posix_spec.specs.posix_tables.declared.nodes.Node.{Node}
use Rattle.posix_spec.specs.posix_tables.NameRows.{mkdir_rows, open_rows, rename_rows, rmdir_rows, unlink_rows}
use Rattle.posix_spec.specs.posix_tables.Names.{directory_stands, exists_at, file_stands, is_named, last_name, lines_taken, longest_name, number_at, parent_at, Space, with_entry, without_entry}
use Rattle.posix_spec.specs.posix_tables.Nodes.{is_directory, is_live, node_at}
use Rattle.posix_spec.specs.posix_tables.Open.{closed, is_full, is_open, with_opened}
use Rattle.posix_spec.specs.posix_tables.Outcomes.{first}
use Rattle.posix_spec.specs.FileRows.{file_number}
use Rattle.posix_spec.specs.State.{alone, made, space, State, swept, unnamed, with_node, with_published}
use Rattle.posix_spec.specs.Step.{close_done, empty_file, mkdir_done, open_done, opening, opening_number, rename_done, renamed, rmdir_done, step, stepped, Stepped, unlink_done}
use Rattle.posix_laws.specs.Cuts.{cut_node, cut_of, CutCommutes, CutSweeps, goes_behind, IsNaming}

-- ---- what names look at

directory_as : (nodes others : List Node) (n : ℕ) → node_at others n ≡ cut_node (node_at nodes n) → is_directory others n ≡ is_directory nodes n
directory_as nodes others n is = by (node_at nodes n) refl is where
  by : (x : Node) → node_at nodes n ≡ x → node_at others n ≡ cut_node x → is_directory others n ≡ is_directory nodes n
  by Node.Gone here cut = rw (here, cut) refl
  by Node.Directory here cut = rw (here, cut) refl
  by (Node.File file) here cut = rw (here, cut) refl

directory_cut : (nodes : List Node) (n : ℕ) → is_directory (map cut_node nodes) n ≡ is_directory nodes n
directory_cut nodes n = directory_as nodes (map cut_node nodes) n (get_or-map cut_node nodes n Node.Gone)

live_cut : (x : Node) → is_live (cut_node x) ≡ is_live x
live_cut Node.Gone = refl
live_cut Node.Directory = refl
live_cut (Node.File file) = refl

count_cut : (nodes : List Node) → count_by is_live (map cut_node nodes) ≡ count_by is_live nodes
count_cut [] = refl
count_cut (x ∷ xs) =
    let one : Node → ℕ = λ y. cond (is_live y) 1 0 in
    let both : one (cut_node x) + sum_by one (map cut_node xs) ≡ one x + sum_by one xs = λ i. cond (live_cut x i) 1 0 + count_cut xs i in
    sum_by-cons one (cut_node x) (map cut_node xs) ∙ both ∙ sym (sum_by-cons one x xs)

pub space_cut : (s : State) → space (cut_of s) ≡ space s
space_cut s =
    let kinds : is_directory (map cut_node s.nodes) ≡ is_directory s.nodes = fun_ext (directory_cut s.nodes) in
    λ i. record {
      directory = kinds i;
      entries = s.entries;
      nodes_left = s.shape.nodes - count_cut s.nodes i;
      lines_left = s.shape.names - sum_by (λ (entry : DirEntry). lines_taken entry.name) s.entries;
      longest = longest_name s.shape;
    }

-- ---- changes

node_cut : (s : State) (n : ℕ) (x : Node) → cut_of (with_node s n x) ≡ with_node (cut_of s) n (cut_node x)
node_cut s n x = ap (λ (nodes : List Node). record s { nodes = nodes }) (map-set cut_node s.nodes n x)

gone_cut : (s : State) (n m : ℕ) → n ≡ m → cut_of (with_node s n Node.Gone) ≡ with_node (cut_of s) m Node.Gone
gone_cut s n m same = node_cut s n Node.Gone ∙ ap (λ k. with_node (cut_of s) k Node.Gone) same

made_cut : (s : State) (p : List (List ℕ)) (x y : Node) → cut_node x ≡ y → cut_of (made s p x) ≡ made (cut_of s) p y
unfolding made
made_cut s p x y is =
    let pushed : map cut_node (s.nodes ++ x ∷ []) ≡ map cut_node s.nodes ++ y ∷ [] = map-append cut_node s.nodes (x ∷ []) ∙ ap (λ (z : Node). map cut_node s.nodes ++ z ∷ []) is in
    let names = sym (space_cut s) in
    let count = sym (length-map s.nodes cut_node) in
    λ i. record s { nodes = pushed i; entries = with_entry s.entries (record { parent = parent_at (names i) p; name = last_name p; child = count i }) }

unnamed_cut : (s : State) (p : List (List ℕ)) → cut_of (unnamed s p) ≡ unnamed (cut_of s) p
unfolding unnamed
unnamed_cut s p = ap (λ (names : Space). record (cut_of s) { entries = without_entry s.entries (parent_at names p) (last_name p) }) (sym (space_cut s))

renamed_cut : (s : State) (p q : List (List ℕ)) → cut_of (renamed s p q) ≡ renamed (cut_of s) p q
unfolding renamed unnamed
renamed_cut s p q =
    ap (λ (names : Space). record (cut_of s) {
      entries =
          with_entry (without_entry (without_entry s.entries (parent_at names p) (last_name p)) (parent_at names q) (last_name q))
          (record { parent = parent_at names q; name = last_name q; child = number_at names p });
    }) (sym (space_cut s))

pub swept_cut : CutSweeps
unfolding swept
swept_cut s n = by (is_named s.entries n || is_open s.tables n) where
  by : (b : Bool) → cut_of (cond b s (with_node s n Node.Gone)) ≡ cond b (cut_of s) (with_node (cut_of s) n Node.Gone)
  by true = refl
  by false = node_cut s n Node.Gone

-- ---- calls

-- where the rows are the same, and what the last row leaves is cut alike
alike : (s : State) (o other : Option Outcome) (last next : Stepped) → other ≡ o → cut_of last.state ≡ next.state → cut_of (stepped s o last).state ≡ (stepped (cut_of s) other next).state
alike s None other last next same acts = rw same acts
alike s (Some outcome) other last next same acts = rw same refl

rmdir_cut : (s : State) (p : List (List ℕ)) → cut_of (rmdir_done s p).state ≡ (rmdir_done (cut_of s) p).state
unfolding rmdir_done
rmdir_cut s p =
    gone_cut (unnamed s p) (number_at (space s) p) (number_at (space (cut_of s)) p) (ap (λ (names : Space). number_at names p) (sym (space_cut s)))
    ∙ ap (λ (t : State). with_node t (number_at (space (cut_of s)) p) Node.Gone) (unnamed_cut s p)

unlink_cut : (s : State) (p : List (List ℕ)) → cut_of (unlink_done alone s p).state ≡ (unlink_done alone (cut_of s) p).state
unfolding unlink_done
unlink_cut s p =
    swept_cut (unnamed s p) (number_at (space s) p)
    ∙ ap (λ (t : State). swept alone t (number_at (space s) p)) (unnamed_cut s p)
    ∙ ap (λ (names : Space). swept alone (unnamed (cut_of s) p) (number_at names p)) (sym (space_cut s))

-- what a rename leaves, by what stood at the new path
abbrev over : Bool → Bool → ℕ → State → State
over b c n t = cond b (with_node t n Node.Gone) (cond c (swept alone t n) t)

over_cut : (s : State) (p q : List (List ℕ)) (b c : Bool) (n : ℕ) → cut_of (over b c n (renamed s p q)) ≡ over b c n (renamed (cut_of s) p q)
over_cut s p q true c n = gone_cut (renamed s p q) n n refl ∙ ap (λ (t : State). with_node t n Node.Gone) (renamed_cut s p q)
over_cut s p q false true n = swept_cut (renamed s p q) n ∙ ap (λ (t : State). swept alone t n) (renamed_cut s p q)
over_cut s p q false false n = renamed_cut s p q

rename_cut : (s : State) (p q : List (List ℕ)) → cut_of (rename_done alone s p q).state ≡ (rename_done alone (cut_of s) p q).state
unfolding rename_done
rename_cut s p q =
    over_cut s p q (directory_stands (space s) q) (file_stands (space s) q) (number_at (space s) q)
    ∙ ap (λ (names : Space). over (directory_stands names q) (file_stands names q) (number_at names q) (renamed (cut_of s) p q)) (sym (space_cut s))

opening_cut : (s : State) (p : List (List ℕ)) (truncate : Bool) → cut_of (opening s p truncate) ≡ opening (cut_of s) p truncate
unfolding opening
opening_cut s p truncate =
    by (exists_at (space s) p) truncate
    ∙ ap (λ (names : Space). cond (exists_at names p) (cond truncate (with_node (cut_of s) (number_at names p) empty_file) (cut_of s)) (made (cut_of s) p empty_file)) (sym (space_cut s))
  where
    by : (b cut : Bool) → cut_of (cond b (cond cut (with_node s (number_at (space s) p) empty_file) s) (made s p empty_file))
        ≡ cond b (cond cut (with_node (cut_of s) (number_at (space s) p) empty_file) (cut_of s)) (made (cut_of s) p empty_file)
    by true true = node_cut s (number_at (space s) p) empty_file
    by true false = refl
    by false cut = made_cut s p empty_file empty_file refl

number_cut : (s : State) (p : List (List ℕ)) → opening_number s p ≡ opening_number (cut_of s) p
number_cut s p =
    let names = sym (space_cut s) in
    let count = sym (length-map s.nodes cut_node) in
    λ i. cond (exists_at (names i) p) (number_at (names i) p) (count i)

open_cut : (s : State) (who : Who) (h : Handle) (p : List (List ℕ)) (f : Flags) → cut_of (open_done s who h p f).state ≡ (open_done (cut_of s) who h p f).state
unfolding open_done
open_cut s who h p f =
    ap (λ (t : State). record t { tables = with_opened s.tables who h (record { node = opening_number s p; offset = 0; flags = f }) }) (opening_cut s p f.truncate)
    ∙ ap (λ (n : ℕ). record (opening (cut_of s) p f.truncate) { tables = with_opened s.tables who h (record { node = n; offset = 0; flags = f }) }) (number_cut s p)

set_twice : (nodes : List Node) (n : ℕ) (x y : Node) → slice_set (slice_set nodes n x) n y ≡ slice_set nodes n y
set_twice [] n x y = refl
set_twice (z ∷ zs) zero x y = refl
set_twice (z ∷ zs) (suc n) x y = ap (λ (ws : List Node). z ∷ ws) (set_twice zs n x y)

-- a close behind which the file goes
closed_gone : (s : State) (who : Who) (h : Handle) → goes_behind s who h ≡ false
    → (close_done alone s who h).state ≡ record (with_node s (file_number s.tables who h) Node.Gone) { tables = closed s.tables who h }
unfolding close_done swept with_published
closed_gone s who h goes = rw goes (ap (λ (nodes : List Node). record s { nodes = nodes; tables = closed s.tables who h }) (set_twice s.nodes (file_number s.tables who h) _ Node.Gone))

close_cut : (s : State) (who : Who) (h : Handle) → goes_behind s who h ≡ false → cut_of (close_done alone s who h).state ≡ (close_done alone (cut_of s) who h).state
close_cut s who h goes =
    ap cut_of (closed_gone s who h goes)
    ∙ ap (λ (t : State). record t { tables = closed s.tables who h }) (node_cut s (file_number s.tables who h) Node.Gone)
    ∙ sym (closed_gone (cut_of s) who h goes)

naming_cut : (s : State) (who : Who) (call : Call) → IsNaming s who call → cut_of (step s who call).state ≡ (step (cut_of s) who call).state
unfolding mkdir_done
naming_cut s who (Call.Mkdir p) is = alike s _ _ _ _ (ap (λ (names : Space). first (mkdir_rows names p)) (space_cut s)) (made_cut s p Node.Directory Node.Directory refl)
naming_cut s who (Call.Rmdir p) is = alike s _ _ _ _ (ap (λ (names : Space). first (rmdir_rows names p)) (space_cut s)) (rmdir_cut s p)
naming_cut s who (Call.Unlink p) is = alike s _ _ _ _ (ap (λ (names : Space). first (unlink_rows names p)) (space_cut s)) (unlink_cut s p)
naming_cut s who (Call.Rename p q) is = alike s _ _ _ _ (ap (λ (names : Space). first (rename_rows names p q)) (space_cut s)) (rename_cut s p q)
naming_cut s who (Call.Open h p f) is = alike s _ _ _ _ (ap (λ (names : Space). first (open_rows names (is_full s.tables) false p f)) (space_cut s)) (open_cut s who h p f)
naming_cut s who (Call.Close h) is = alike s _ _ _ _ refl (close_cut s who h is)
naming_cut s who (Call.Dup h g) is = absurd is
naming_cut s who (Call.Read h n) is = absurd is
naming_cut s who (Call.Pread h o n) is = absurd is
naming_cut s who (Call.Write h x) is = absurd is
naming_cut s who (Call.Pwrite h o x) is = absurd is
naming_cut s who (Call.Seek h w by) is = absurd is
naming_cut s who (Call.Truncate h n) is = absurd is
naming_cut s who (Call.Fsync h) is = absurd is
naming_cut s who (Call.Stat p) is = absurd is
naming_cut s who (Call.List p) is = absurd is

pub names_cut : CutCommutes
names_cut s c is = naming_cut s c.0 c.1 is
