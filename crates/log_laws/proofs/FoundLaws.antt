-- A relink of the next entry of a file carries it out, and volumes that show the same files have the same at each path.
use Rattle.std.specs.Prelude.{◌≡◌, ◌≢◌, ◌⊎◌, ◌<◌, ◌≤◌, ◌+◌, ◌-◌, ◌/◌, ◌==◌, ◌&&◌, ◌||◌, not, nat_lt, ℕ, Bool, true, false, List, map, filter, Option, Some, None, IsSome, option_and_then, refl, if◌then◌else◌}
use Rattle.std.specs.List.{filter_map, range_with_len}
use Rattle.std.proofs.Common.{arith, ap, ◌∙◌, sym, subst, inl, inr}
use Rattle.std.proofs.Math.Path.{fun_ext}
use Rattle.std.proofs.lemmas.Bool.{and_parts, both_ways, cases_Bool, cases_eq, eq-eqb, lt-ltb, ne_eqb}
use Rattle.std.proofs.lemmas.Bool.Decides.{Decides-eqb, nat_tests}
use Rattle.world_write_laws.specs.pm_model.Words.{line_bytes, Words}
use Rattle.world_write_laws.specs.layout_model.Places.{log_line}
use Rattle.world_write_laws.specs.extent_model.declared.extent_words.Extent.{Extent}
use Rattle.world_write_laws.specs.extent_model.Extents.{disk_at, is_within}
use Rattle.world_write_laws.specs.layout_model.declared.lines.Draft.{Draft}
use Rattle.world_write_laws.specs.layout_model.declared.lines.Kind.{Kind}
use Rattle.world_write_laws.specs.layout_model.declared.lines.Kind.TheVariants.{Directory, File, Free, Staging}
use Rattle.world_write_laws.specs.layout_model.Entries.{decode_entry}
use Rattle.world_write_laws.specs.layout_model.Names.{walk}
use Rattle.world_write_laws.specs.image_model.Content.{byte_in, bytes_of_file, disk_by, disk_of, entry_of_block, found, Node, node_by, node_of, size_by, size_of}
use Rattle.world_write_laws.specs.image_model.Live.{is_file, is_live, is_of_file, latest, live_entries, valid_entries}
use Rattle.world_write_laws.specs.image_model.Rules.{AreApart}
use Rattle.world_write_laws.specs.image_model.Volume.{extents, inode, Volume}
use Rattle.world_write_laws.specs.list_laws.Filters.{filter-agree, filter-both, filter-In, In-filter}
use Rattle.world_write_laws.specs.list_laws.Members.{In}
use Rattle.world_write_laws.specs.world_model.JobLaws.{live_file}
use Rattle.world_write_laws.specs.world_model.Latest.{latest-In, latest-most, latest-none}
use Rattle.world_write_laws.specs.Relinks.{Relinks}
use Rattle.log_laws.specs.LiveLaws.{CarriesOutRelinked, HaveSameFound}
use Rattle.log_laws.specs.Logs.{AreSound, HasSameFiles, IsNext}

-- ---- what is shown

node-same : (v w : Volume) (f : Words) → HasSameFiles v w f → (ino : ℕ) → node_of w (live_entries w f) f ino ≡ node_of v (live_entries v f) f ino
unfolding node_of
node-same v w f same ino = ap (λ kind. node_by kind (bytes_of_file w (live_entries w f) f ino)) (same.kind ino) ∙ by (inode v ino).kind refl where
  bytes : (inode v ino).kind ≡ File → bytes_of_file w (live_entries w f) f ino ≡ bytes_of_file v (live_entries v f) f ino
  bytes file = λ i. map (λ n. byte_in f (same.disk ino (n / 4096) file i) n) (range_with_len 0 (same.size ino file i))

  by : (kind : Kind) → (inode v ino).kind ≡ kind
      → node_by kind (bytes_of_file w (live_entries w f) f ino) ≡ node_by kind (bytes_of_file v (live_entries v f) f ino)
  by Free is = refl
  by Directory is = refl
  by File is = ap (node_by File) (bytes is)
  by Staging is = refl

pub same-found : HaveSameFound
unfolding found
same-found v w f same =
    fun_ext (λ path. ap (λ names. option_and_then (node_of w (live_entries w f) f) (walk names 0 path)) same.names
    ∙ ap (λ (node : ℕ → Option Node). option_and_then node (walk v.names 0 path)) (fun_ext (node-same v w f same)))

-- ---- an entry that is left: it is of another file, or a later one

abbrev is_left : Draft → Draft → Bool
is_left d e = not (e.ino == d.ino) || nat_lt d.order e.order

abbrev left : Draft → List Draft → List Draft
left d live = filter (is_left d) live

left-other : (d e : Draft) → e.ino ≢ d.ino → is_left d e ≡ true
left-other d e other = ap (λ b. not b || nat_lt d.order e.order) (ne_eqb e.ino d.ino other)

left-later : (d e : Draft) → d.order < e.order → is_left d e ≡ true
left-later d e later = by (e.ino == d.ino) (nat_lt d.order e.order) (lt-ltb d.order e.order later) where
  by : (a b : Bool) → b ≡ true → (not a || b) ≡ true
  by true b is = is
  by false b is = refl

left-own : (d e : Draft) → e.ino ≡ d.ino → is_left d e ≡ true → d.order < e.order
left-own d e own is =
    let test : nat_lt d.order e.order ≡ true = ap (λ b. not b || nat_lt d.order e.order) (sym (eq-eqb e.ino d.ino own)) ∙ is in
    below d.order e.order test
  where
    below : (a b : ℕ) → nat_lt a b ≡ true → a < b
    below a b t = grind (arith, nat_tests, t)

not-itself : (d : Draft) → is_left d d ≡ false
not-itself d = (λ i. not (eq-eqb d.ino d.ino refl i) || not_less d.order i) where
  not_less : (n : ℕ) → nat_lt n n ≡ false
  not_less n = grind (arith, nat_tests)

kept-by : (p q : Draft → Bool) (xs : List Draft) → ((e : Draft) → In e xs → q e ≡ true → p e ≡ true) → filter q (filter p xs) ≡ filter q xs
kept-by p q xs weaker = sym (filter-both p q xs) ∙ filter-agree (λ e. p e && q e) q xs (λ e is. by (q e) (p e) (weaker e is)) where
  by : (b c : Bool) → (b ≡ true → c ≡ true) → (c && b) ≡ b
  by true true w = refl
  by false true w = refl
  by false false w = refl
  by true false w = let never : false ≡ true = w refl in cc

abbrev covers : ℕ → ℕ → Draft → Bool
covers ino block e = (e.ino == ino) && is_within e.file_block e.count block

-- ---- a relink of the next entry

module _ (v w : Volume) (live : List Draft) (d : Draft) (displaced : List Extent) (change : Relinks v w d displaced) (sound : AreSound v live) (next : IsNext w live d)
    (file : (inode v d.ino).kind ≡ File) where
  -- one of the file that is live is the entry, or comes later
  not-left : (e : Draft) → In e live → e.ino ≡ d.ino → (d ≡ e) ⊎ (is_left d e ≡ true)
  not-left e is own = elim (next.first e is own) [ inl same ↦ inl same | inr later ↦ inr (left-later d e later) ]

  other-entry : (e : Draft) → is_left d e ≡ true → d ≢ e
  other-entry e stays same = both_ways (is_left d d) (not-itself d) (subst (λ x. is_left d x ≡ true) (sym same) stays)

  -- staged blocks stay
  staged-left : (e : Draft) → (inode v e.staging).kind ≡ Staging → AreApart e d → (k : ℕ) → k < e.count
      → disk_at (extents w e.staging) (e.staging_block + k) ≡ disk_at (extents v e.staging) (e.staging_block + k)
  staged-left e staging apart k below = elim (cases_eq e.staging d.staging) [
    | inr other ↦ ap (λ es. disk_at es (e.staging_block + k)) (change.maps e.staging not_file other)
    | inl same ↦
        ap (λ i. disk_at (extents w i) (e.staging_block + k)) same
        ∙ (change.moves.source.blocks (e.staging_block + k)
        ∙ (ap (λ b. if not b then disk_at (extents v d.staging) (e.staging_block + k) else None) (outside same)
        ∙ ap (λ i. disk_at (extents v i) (e.staging_block + k)) (sym same)))
  ]
    where
      not_file : e.staging ≢ d.ino
      not_file same = let never : Staging ≡ File = sym staging ∙ (ap (λ i. (inode v i).kind) same ∙ file) in cc

      past : (from count block : ℕ) → (block < from) ⊎ (from + count ≤ block) → is_within from count block ≡ false
      past from count block (inl before) = grind (arith, nat_tests, before)
      past from count block (inr behind) = grind (arith, nat_tests, behind)

      outside : e.staging ≡ d.staging → is_within d.staging_block d.count (e.staging_block + k) ≡ false
      outside same = elim (apart same) [
        | inl before ↦ past d.staging_block d.count (e.staging_block + k) (inl (omega (arith, before, below)))
        | inr behind ↦ past d.staging_block d.count (e.staging_block + k) (inr (omega (arith, behind)))
      ]

  left-apart : (e : Draft) → In e live → d ≢ e → AreApart e d
  left-apart e is other = elim (sound.apart e d is next.there) [ inl same ↦ absurd (other (sym same)) | inr apart ↦ apart ]

  within-count : (first count block : ℕ) → is_within first count block ≡ true → block - first < count
  within-count first count block is = grind (arith, nat_tests, is)

  -- a staged entry that is left has its blocks where they were
  staged-by : (e : Draft) (ino block : ℕ) → In e live → d ≢ e → covers ino block e ≡ true → disk_by w (Some e) ino block ≡ disk_by v (Some e) ino block
  staged-by e ino block is other covered =
      let within = (and_parts (e.ino == ino) (is_within e.file_block e.count block) covered).1 in
      staged-left e (sound.staging e is) (left-apart e is other) (block - e.file_block) (within-count e.file_block e.count block within)

  own-ino : (e : Draft) (ino block : ℕ) → covers ino block e ≡ true → e.ino ≡ ino
  own-ino e ino block covered = (Decides-eqb e.ino ino).0 (and_parts (e.ino == ino) (is_within e.file_block e.count block) covered).0

  -- ---- the disk block of a file block is the same

  disk-other : (ino block : ℕ) → (inode v ino).kind ≡ File → ino ≢ d.ino → disk_of w (left d live) ino block ≡ disk_of v live ino block
  disk-other ino block is_file other =
      ap (λ o. disk_by w o ino block) (ap latest (kept-by (is_left d) (covers ino block) live (λ e is own. left-other d e (λ same. other (sym (own-ino e ino block own) ∙ same)))))
      ∙ by (entry_of_block live ino block) refl where
        no_staging : ino ≢ d.staging
        no_staging same = let never : File ≡ Staging = sym is_file ∙ (ap (λ i. (inode v i).kind) same ∙ sound.staging d next.there) in cc

        by : (o : Option Draft) → entry_of_block live ino block ≡ o → disk_by w o ino block ≡ disk_by v o ino block
        by None entry = ap (λ es. disk_at es block) (change.maps ino other no_staging)
        by (Some e) entry =
            let its = filter-In (covers ino block) live e (latest-In _ e entry) in
            staged-by e ino block its.0 (λ same. other (sym (own-ino e ino block its.1) ∙ ap (λ (x : Draft). x.ino) (sym same))) its.1

  find : (block : ℕ) (e : Draft) → entry_of_block live d.ino block ≡ Some e → In e live × (covers d.ino block e ≡ true)
  find block e is = filter-In (covers d.ino block) live e (latest-In _ e is)

  find-left : (block : ℕ) (e : Draft) → entry_of_block (left d live) d.ino block ≡ Some e → In e live × (is_left d e ≡ true) × (covers d.ino block e ≡ true)
  find-left block e is =
      let there = filter-In (covers d.ino block) (left d live) e (latest-In _ e is) in
      let before = filter-In (is_left d) live e there.0 in
      (before.0, before.1, there.1)

  into : (block : ℕ) (e : Draft) → In e live → is_left d e ≡ true → covers d.ino block e ≡ true → In e (filter (covers d.ino block) (left d live))
  into block e is stays covered = In-filter (covers d.ino block) (left d live) e (In-filter (is_left d) live e is stays) covered

  moved : (b : ℕ) → disk_at (extents w d.ino) b ≡ (if is_within d.file_block d.count b then disk_at (extents v d.staging) (d.staging_block + (b - d.file_block)) else disk_at (extents v d.ino) b)
  moved b = change.moves.target b

  disk-own : (block : ℕ) → disk_of w (left d live) d.ino block ≡ disk_of v live d.ino block
  disk-own block = by (entry_of_block (left d live) d.ino block) (entry_of_block live d.ino block) refl refl where
    by : (o q : Option Draft) → entry_of_block (left d live) d.ino block ≡ o → entry_of_block live d.ino block ≡ q → disk_of w (left d live) d.ino block ≡ disk_of v live d.ino block
    by None None after before =
        ap (λ o. disk_by w o d.ino block) after
        ∙ (moved block ∙ (ap (λ b. if b then disk_at (extents v d.staging) (d.staging_block + (block - d.file_block)) else disk_at (extents v d.ino) block) nothing ∙ ap (λ o. disk_by v o d.ino block) (sym before))) where
          nothing : is_within d.file_block d.count block ≡ false
          nothing = elim (cases_Bool (is_within d.file_block d.count block)) [
            | inr out ↦ out
            | inl inside ↦
                absurd (latest-none (filter (covers d.ino block) live) d before (In-filter (covers d.ino block) live d next.there (ap (λ b. b && is_within d.file_block d.count block) (eq-eqb d.ino d.ino refl) ∙ inside)))
          ]
    by None (Some e) after before =
        let its = find block e before in
        elim (not-left e its.0 (own-ino e d.ino block its.1)) [
          | inr stays ↦ absurd (latest-none (filter (covers d.ino block) (left d live)) e after (into block e its.0 stays its.1))
          | inl same ↦
              let inside : is_within d.file_block d.count block ≡ true =
              ap (λ (x : Draft). is_within x.file_block x.count block) same ∙ (and_parts (e.ino == d.ino) (is_within e.file_block e.count block) its.1).1
              in
              ap (λ o. disk_by w o d.ino block) after
              ∙ (moved block ∙ (ap (λ b. if b then disk_at (extents v d.staging) (d.staging_block + (block - d.file_block)) else disk_at (extents v d.ino) block) inside
              ∙ (ap (λ (x : Draft). disk_by v (Some x) d.ino block) same ∙ ap (λ o. disk_by v o d.ino block) (sym before))))
        ]
    by (Some e) None after before =
        let its = find-left block e after in
        absurd (latest-none (filter (covers d.ino block) live) e before (In-filter (covers d.ino block) live e its.0 its.2))
    by (Some e) (Some g) after before =
        let its = find-left block e after in
        let mine = find block g before in
        let later = left-own d e (own-ino e d.ino block its.2) its.1 in
        let most : e.order ≤ g.order = latest-most (filter (covers d.ino block) live) g e before (In-filter (covers d.ino block) live e its.0 its.2) in
        let back : g.order ≤ e.order = latest-most (filter (covers d.ino block) (left d live)) e g after (into block g mine.0 (left-later d g (omega (arith, later, most))) mine.1) in
        let order : e.order ≡ g.order = omega (arith, most, back) in
        let same : e ≡ g = sound.orders e g its.0 mine.0 (own-ino e d.ino block its.2 ∙ sym (own-ino g d.ino block mine.1)) order in
        ap (λ o. disk_by w o d.ino block) after
        ∙ (staged-by e d.ino block its.0 (other-entry e its.1) its.2
        ∙ (ap (λ (x : Draft). disk_by v (Some x) d.ino block) same ∙ ap (λ o. disk_by v o d.ino block) (sym before)))

  -- ---- lengths

  abbrev own : Draft → Bool
  own e = e.ino == d.ino

  into-own : (e : Draft) → In e live → is_left d e ≡ true → e.ino ≡ d.ino → In e (filter own (left d live))
  into-own e is stays same = In-filter own (left d live) e (In-filter (is_left d) live e is stays) (eq-eqb e.ino d.ino same)

  size-own : size_of w (left d live) d.ino ≡ size_of v live d.ino
  size-own = by (latest (filter own (left d live))) (latest (filter own live)) refl refl where
    alone : latest (filter own (left d live)) ≡ None → (e : Draft) → In e live → e.ino ≡ d.ino → d ≡ e
    alone none e is same = elim (not-left e is same) [
      | inl it ↦ it
      | inr stays ↦ absurd (latest-none (filter own (left d live)) e none (into-own e is stays same))
    ]

    by : (o q : Option Draft) → latest (filter own (left d live)) ≡ o → latest (filter own live) ≡ q → size_of w (left d live) d.ino ≡ size_of v live d.ino
    by None None after before = absurd (latest-none (filter own live) d before (In-filter own live d next.there (eq-eqb d.ino d.ino refl)))
    by None (Some g) after before =
        let its = filter-In own live g (latest-In _ g before) in
        let it : d ≡ g = alone after g its.0 ((Decides-eqb g.ino d.ino).0 its.1) in
        ap (λ o. size_by o (inode w d.ino).size) after
        ∙ (next.size (alone after) ∙ (ap (λ (x : Draft). x.size) it ∙ ap (λ o. size_by o (inode v d.ino).size) (sym before)))
    by (Some e) None after before =
        let its = filter-In own (left d live) e (latest-In _ e after) in
        absurd (latest-none (filter own live) e before (In-filter own live e (filter-In (is_left d) live e its.0).0 its.1))
    by (Some e) (Some g) after before =
        let its = filter-In own (left d live) e (latest-In _ e after) in
        let its_left = filter-In (is_left d) live e its.0 in
        let mine = filter-In own live g (latest-In _ g before) in
        let e_own : e.ino ≡ d.ino = (Decides-eqb e.ino d.ino).0 its.1 in
        let g_own : g.ino ≡ d.ino = (Decides-eqb g.ino d.ino).0 mine.1 in
        let later = left-own d e e_own its_left.1 in
        let most : e.order ≤ g.order = latest-most (filter own live) g e before (In-filter own live e its_left.0 its.1) in
        let back : g.order ≤ e.order = latest-most (filter own (left d live)) e g after (into-own g mine.0 (left-later d g (omega (arith, later, most))) g_own) in
        let same : e ≡ g = sound.orders e g its_left.0 mine.0 (e_own ∙ sym g_own) (omega (arith, most, back)) in
        ap (λ o. size_by o (inode w d.ino).size) after
        ∙ (ap (λ (x : Draft). x.size) same ∙ ap (λ o. size_by o (inode v d.ino).size) (sym before))

  size-other : (ino : ℕ) → ino ≢ d.ino → size_of w (left d live) ino ≡ size_of v live ino
  size-other ino other =
      ap (λ ds. size_by (latest ds) (inode w ino).size)
      (kept-by (is_left d) (λ (e : Draft). e.ino == ino) live (λ e is its. left-other d e (λ same. other (sym ((Decides-eqb e.ino ino).0 its) ∙ same))))
      ∙ ap (size_by (latest (filter (λ (e : Draft). e.ino == ino) live))) (change.size_others ino other)

  -- ---- what is left

  left-sound : AreSound w (left d live)
  left-sound = record {
    staging = λ e is. (change.same e.staging).kind ∙ sound.staging e (filter-In (is_left d) live e is).0;
    staged = λ e is k below.
        let its = filter-In (is_left d) live e is in
        subst IsSome (sym (staged-left e (sound.staging e its.0) (left-apart e its.0 (other-entry e its.1)) k below)) (sound.staged e its.0 k below);
    apart = λ e g e_is g_is. sound.apart e g (filter-In (is_left d) live e e_is).0 (filter-In (is_left d) live g g_is).0;
    orders = λ e g e_is g_is. sound.orders e g (filter-In (is_left d) live e e_is).0 (filter-In (is_left d) live g g_is).0;
  }

  left-into : (e : Draft) → In e live → d ≢ e → In e (left d live)
  left-into e is other = In-filter (is_left d) live e is (elim (cases_eq e.ino d.ino) [
    | inr elsewhere ↦ left-other d e elsewhere
    | inl same ↦ elim (not-left e is same) [ inl it ↦ absurd (other it) | inr stays ↦ stays ]
  ])

-- ---- just the others are live

live-parts : (v : Volume) (d : Draft) → is_live v d ≡ true → (inode v d.ino).applied < d.order
live-parts v d alive =
    let first = and_parts (is_of_file v d && nat_lt (inode v d.ino).applied d.order) ((inode v d.staging).generation == d.staging_generation) alive in
    below (inode v d.ino).applied d.order (and_parts (is_of_file v d) (nat_lt (inode v d.ino).applied d.order) first.0).1
  where
    below : (a b : ℕ) → nat_lt a b ≡ true → a < b
    below a b t = grind (arith, nat_tests, t)

of-file-same : (v w : Volume) (d : Draft) (displaced : List Extent) → Relinks v w d displaced → (e : Draft) → is_of_file w e ≡ is_of_file v e
of-file-same v w d displaced change e = λ i. is_file ((change.same e.ino).kind i) && ((change.same e.ino).generation i == e.generation)

live-after : (v w : Volume) (d : Draft) (displaced : List Extent) → Relinks v w d displaced → is_live v d ≡ true → (e : Draft) → is_live w e ≡ (is_live v e && is_left d e)
live-after v w d displaced change alive e = elim (cases_eq e.ino d.ino) [
  | inr other ↦
      same (change.applied_others e.ino other) ∙ sym (and_true (is_live v e) (is_left d e) (left-other d e other))
  | inl own ↦
      (λ i. of-file-same v w d displaced change e i && nat_lt ((ap (λ k. (inode w k).applied) own ∙ change.applied) i) e.order && ((change.same e.staging).generation i == e.staging_generation))
      ∙ (by (is_of_file v e) (nat_lt (inode v e.ino).applied e.order) (nat_lt d.order e.order) ((inode v e.staging).generation == e.staging_generation)
      (above (inode v e.ino).applied d.order e.order (subst (λ k. (inode v k).applied < d.order) (sym own) (live-parts v d alive)))
      ∙ ap (λ b. is_live v e && b) (ap (λ b. not b || nat_lt d.order e.order) (sym (eq-eqb e.ino d.ino own))))
]
  where
    same : (inode w e.ino).applied ≡ (inode v e.ino).applied → is_live w e ≡ is_live v e
    same applied = λ i. of-file-same v w d displaced change e i && nat_lt (applied i) e.order && ((change.same e.staging).generation i == e.staging_generation)

    and_true : (a b : Bool) → b ≡ true → (a && b) ≡ a
    and_true true b is = is
    and_true false b is = refl

    above : (a n m : ℕ) → a < n → nat_lt n m ≡ true → nat_lt a m ≡ true
    above a n m low is = grind (arith, nat_tests, low, is)

    by : (file older later staged : Bool) → (later ≡ true → older ≡ true) → (file && later && staged) ≡ (file && older && staged && later)
    by true true true true w = refl
    by true true true false w = refl
    by true true false true w = refl
    by true true false false w = refl
    by true false false true w = refl
    by true false false false w = refl
    by true false true staged w = let never : false ≡ true = w refl in cc
    by false older later staged w = refl

pub valid-same : (v w : Volume) (f : Words) → w.geometry ≡ v.geometry → w.base ≡ v.base → valid_entries w f ≡ valid_entries v f
valid-same v w f geometry base =
    λ i. filter_map (λ slot. decode_entry (line_bytes f (log_line (geometry i) slot)) (base i + slot)) (range_with_len 0 (geometry i).log)

live-left : (v w : Volume) (f : Words) (d : Draft) (displaced : List Extent) → Relinks v w d displaced → w.base ≡ v.base → is_live v d ≡ true
    → live_entries w f ≡ left d (live_entries v f)
live-left v w f d displaced change base alive =
    ap (filter (is_live w)) (valid-same v w f change.geometry base)
    ∙ (filter-agree (is_live w) (λ e. is_live v e && is_left d e) (valid_entries v f) (λ e is. live-after v w d displaced change alive e)
    ∙ filter-both (is_live v) (is_left d) (valid_entries v f))

pub carries-out : CarriesOutRelinked
carries-out v w f d displaced change base sound next = record {
  left = λ e. (
    λ is. let its = filter-In (is_left d) live e (subst (In e) are is) in (its.0, other-entry v w live d displaced change sound next file e its.1),
    λ is. subst (In e) (sym are) (left-into v w live d displaced change sound next file e is.0 is.1),
  );
  sound = subst (AreSound w) (sym are) (left-sound v w live d displaced change sound next file);
  files = record {
    names = change.names;
    kind = λ ino. (change.same ino).kind;
    size = λ ino is. ap (λ ds. size_of w ds ino) are ∙ elim (cases_eq ino d.ino) [
      | inl own ↦ subst (λ i. size_of w (left d live) i ≡ size_of v live i) (sym own) (size-own v w live d displaced change sound next file)
      | inr other ↦ size-other v w live d displaced change sound next file ino other
    ];
    disk = λ ino block is. ap (λ ds. disk_of w ds ino block) are ∙ elim (cases_eq ino d.ino) [
      | inl own ↦ subst (λ i. disk_of w (left d live) i block ≡ disk_of v live i block) (sym own) (disk-own v w live d displaced change sound next file block)
      | inr other ↦ disk-other v w live d displaced change sound next file ino block is other
    ];
  };
} where
  live : List Draft
  live = live_entries v f

  alive : is_live v d ≡ true
  alive = (filter-In (is_live v) (valid_entries v f) d next.there).1

  file : (inode v d.ino).kind ≡ File
  file = live_file v d alive

  are : live_entries w f ≡ left d (live_entries v f)
  are = live-left v w f d displaced change base alive
