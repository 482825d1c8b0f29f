-- A run is carried out: the volume stands for the same state, with one live entry less.
use Rattle.std.specs.Prelude.{◌≡◌, ◌≢◌, ◌⊎◌, ◌<◌, ◌≤◌, ◌+◌, ◌-◌, ◌/◌, ◌==◌, ◌&&◌, ◌||◌, not, nat_lt, ℕ, Bool, true, false, cond, List, [], ◌∷◌, length, map, filter, Option, Some, None, IsSome, option_map, refl, if◌then◌else◌}
use Rattle.std.proofs.Common.{arith, ap, ◌∙◌, sym, subst, inl, inr}
use Rattle.std.proofs.lemmas.Bool.{and_parts, cases_Bool, cases_eq, cases_lt, eq-eqb, lt-ltb, ne_eqb}
use Rattle.std.proofs.lemmas.Bool.Decides.{Decides-eqb, nat_tests}
use Rattle.world_step_laws.specs.world_model.pm_model.Words.{Words}
use Rattle.world_step_laws.specs.world_model.layout_model.Places.{IsGeometry}
use Rattle.world_step_laws.specs.world_model.extent_model.declared.extent_words.Extent.{Extent}
use Rattle.world_step_laws.specs.world_model.extent_model.Extents.{disk_at, is_within}
use Rattle.world_step_laws.specs.world_model.layout_model.declared.lines.Draft.{Draft}
use Rattle.world_step_laws.specs.world_model.layout_model.declared.lines.Kind.TheVariants.{File, Staging}
use Rattle.world_step_laws.specs.world_model.layout_model.Names.{child_named}
use Rattle.world_step_laws.specs.world_model.image_model.Content.{byte_in, disk_by, disk_of, entry_of_block, size_by, size_of}
use Rattle.world_step_laws.specs.world_model.image_model.Live.{is_file, is_live, is_of_file, later_of, latest}
use Rattle.world_step_laws.specs.world_model.image_model.Rules.{AreApart, HasStagingBlocks}
use Rattle.world_step_laws.specs.world_model.image_model.Volume.{extents, inode, Volume}
use Rattle.world_step_laws.specs.world_model.posix_tables.Nodes.{node_at}
use Rattle.world_step_laws.specs.world_model.posix_spec.State.{State}
use Rattle.world_step_laws.specs.world_model.list_laws.Filters.{filter-agree, filter-both, filter-In, In-filter}
use Rattle.world_step_laws.specs.world_model.list_laws.Members.{In}
use Rattle.world_step_laws.specs.world_model.Jobs.{Job, JobsStand, live_claims, staged_block}
use Rattle.world_step_laws.specs.world_model.Stands.{Consecutive, entries_of, is_used, IsUsed, LogStands, NodeStands, number, Stands}
use Rattle.world_step_laws.specs.world_model.JobLaws.{live_file}
use Rattle.world_step_laws.specs.world_model.Landed.{NodeStands-same, SameFile}
use Rattle.world_step_laws.specs.world_model.Latest.{Consecutive-between, latest-In, latest-most, latest-none, OneOrderEach-Consecutive}
use Rattle.world_step_laws.specs.Ages.{AreAged-same}
use Rattle.world_step_laws.specs.Steps.{AreBeside}
use Rattle.world_step_laws.specs.Touched.{only}
use Rattle.world_write_laws.specs.RunsLaws.{KeepsRelinked}
use Rattle.world_write_laws.specs.Relinks.{IsFirst, Relinks}

-- an entry is left: it is of another file, or a later one
abbrev is_left : Draft → Draft → Bool
is_left d e = not (e.ino == d.ino) || nat_lt d.order e.order

abbrev left : Draft → List Draft → List Draft
left d live = filter (is_left d) live

left_other : (d e : Draft) → e.ino ≢ d.ino → is_left d e ≡ true
left_other d e other = ap (λ b. not b || nat_lt d.order e.order) (ne_eqb e.ino d.ino other)

left_later : (d e : Draft) → d.order < e.order → is_left d e ≡ true
left_later d e later = by (e.ino == d.ino) (nat_lt d.order e.order) (lt-ltb d.order e.order later) where
  by : (a b : Bool) → b ≡ true → (not a || b) ≡ true
  by true b is = is
  by false b is = refl

left_own : (d e : Draft) → e.ino ≡ d.ino → is_left d e ≡ true → d.order < e.order
left_own d e own is =
    let test : nat_lt d.order e.order ≡ true = ap (λ b. not b || nat_lt d.order e.order) (sym (eq-eqb e.ino d.ino own)) ∙ is in
    below d.order e.order test
  where
    below : (a b : ℕ) → nat_lt a b ≡ true → a < b
    below a b t = grind (arith, nat_tests, t)

-- ---- the entries of a file

-- what the volume says of the entry before
record Run (v w : Volume) (live : List Draft) (d : Draft) (displaced : List Extent) (rest : List Draft) : Type 0 where
  change : Relinks v w d displaced
  log : LogStands v live
  is_first : IsFirst v w live d rest
  file : (inode v d.ino).kind ≡ File
  there : In d live
  go_on : Consecutive (inode v d.ino).applied (d ∷ rest)

behind_first : (v w : Volume) (live : List Draft) (d : Draft) (displaced : List Extent) (rest : List Draft) → Run v w live d displaced rest → (e : Draft) → In e live → e.ino ≡ d.ino → (d ≡ e) ⊎ (d.order < e.order)
behind_first v w live d displaced rest run e is own =
    at (subst (In e) run.is_first.first (In-filter (λ (x : Draft). x.ino == d.ino) live e is (eq-eqb e.ino d.ino own))) where
      at : In e (d ∷ rest) → (d ≡ e) ⊎ (d.order < e.order)
      at (inl same) = inl same
      at (inr later) = inr (omega (arith, (Consecutive-between ((inode v d.ino).applied + 1) rest e run.go_on.1 later).0, run.go_on.0))

-- filters of the file or of a block of it, with the first entry taken out
kept_by : (p q : Draft → Bool) (xs : List Draft) → ((e : Draft) → In e xs → q e ≡ true → p e ≡ true) → filter q (filter p xs) ≡ filter q xs
kept_by p q xs weaker = sym (filter-both p q xs) ∙ filter-agree (λ e. p e && q e) q xs (λ e is. by (q e) (p e) (weaker e is)) where
  by : (b c : Bool) → (b ≡ true → c ≡ true) → (c && b) ≡ b
  by true true w = refl
  by false true w = refl
  by false false w = refl
  by true false w = let never : false ≡ true = w refl in cc

entries_left_other : (live : List Draft) (d : Draft) (ino : ℕ) → ino ≢ d.ino → entries_of ino (left d live) ≡ entries_of ino live
entries_left_other live d ino other = kept_by (is_left d) (λ e. e.ino == ino) live (λ e is own. left_other d e (λ same. other (sym ((Decides-eqb e.ino ino).0 own) ∙ same)))

filter_all : (p : Draft → Bool) (xs : List Draft) → ((e : Draft) → In e xs → p e ≡ true) → filter p xs ≡ xs
filter_all p [] all = refl
filter_all p (x ∷ xs) all = ap (λ b. cond b (x ∷ filter p xs) (filter p xs)) (all x (inl refl)) ∙ ap (λ ys. x ∷ ys) (filter_all p xs (λ e is. all e (inr is)))

swapped : (p q : Draft → Bool) (xs : List Draft) → filter q (filter p xs) ≡ filter p (filter q xs)
swapped p q xs = sym (filter-both p q xs) ∙ (filter-agree (λ e. p e && q e) (λ e. q e && p e) xs (λ e is. by (p e) (q e)) ∙ filter-both q p xs) where
  by : (a b : Bool) → (a && b) ≡ (b && a)
  by true true = refl
  by true false = refl
  by false true = refl
  by false false = refl

entries_left_own : (v w : Volume) (live : List Draft) (d : Draft) (displaced : List Extent) (rest : List Draft) → Run v w live d displaced rest → entries_of d.ino (left d live) ≡ rest
entries_left_own v w live d displaced rest run =
    swapped (is_left d) (λ e. e.ino == d.ino) live
    ∙ (ap (filter (is_left d)) run.is_first.first
    ∙ (ap (λ b. cond b (d ∷ filter (is_left d) rest) (filter (is_left d) rest)) (not_itself d)
    ∙ filter_all (is_left d) rest (λ e is. left_later d e (omega (arith, (Consecutive-between ((inode v d.ino).applied + 1) rest e run.go_on.1 is).0, run.go_on.0))))) where
      not_itself : (x : Draft) → is_left x x ≡ false
      not_itself x = (λ i. not (eq-eqb x.ino x.ino refl i) || not_less x.order i) where
        not_less : (n : ℕ) → nat_lt n n ≡ false
        not_less n = grind (arith, nat_tests)

-- ---- staged blocks stay

staged_left : (v w : Volume) (live : List Draft) (d : Draft) (displaced : List Extent) (rest : List Draft) → Run v w live d displaced rest → (e : Draft) → (inode v e.staging).kind ≡ Staging → AreApart e d → (k : ℕ) → k < e.count
    → staged_block w e k ≡ staged_block v e k
staged_left v w live d displaced rest run e staging apart k below = elim (cases_eq e.staging d.staging) [
  | inr other ↦ ap (λ es. disk_at es (e.staging_block + k)) (run.change.maps e.staging not_file other)
  | inl same ↦
      ap (λ i. disk_at (extents w i) (e.staging_block + k)) same
      ∙ (run.change.moves.source.blocks (e.staging_block + k)
      ∙ (ap (λ b. if not b then disk_at (extents v d.staging) (e.staging_block + k) else None) (outside same)
      ∙ ap (λ i. disk_at (extents v i) (e.staging_block + k)) (sym same)))
]
  where
    not_file : e.staging ≢ d.ino
    not_file same = let never : Staging ≡ File = sym staging ∙ (ap (λ i. (inode v i).kind) same ∙ run.file) in cc

    past : (from count block : ℕ) → (block < from) ⊎ (from + count ≤ block) → is_within from count block ≡ false
    past from count block (inl before) = grind (arith, nat_tests, before)
    past from count block (inr behind) = grind (arith, nat_tests, behind)

    outside : e.staging ≡ d.staging → is_within d.staging_block d.count (e.staging_block + k) ≡ false
    outside same = elim (apart same) [
      | inl before ↦ past d.staging_block d.count (e.staging_block + k) (inl (omega (arith, before, below)))
      | inr behind ↦ past d.staging_block d.count (e.staging_block + k) (inr (omega (arith, behind)))
    ]

within_count : (first count block : ℕ) → is_within first count block ≡ true → block - first < count
within_count first count block is = grind (arith, nat_tests, is)

-- ---- the disk block of a file block is the same

abbrev covers : ℕ → ℕ → Draft → Bool
covers ino block e = (e.ino == ino) && is_within e.file_block e.count block

-- a staged entry that is left has its blocks where they were
staged_by : (v w : Volume) (live : List Draft) (d : Draft) (displaced : List Extent) (rest : List Draft) → Run v w live d displaced rest → (e : Draft) (ino block : ℕ) → In e live → (d ≢ e) → covers ino block e ≡ true
    → disk_by w (Some e) ino block ≡ disk_by v (Some e) ino block
staged_by v w live d displaced rest run e ino block is other covered =
    let within = (and_parts (e.ino == ino) (is_within e.file_block e.count block) covered).1 in
    elim (run.log.apart e d is run.there) [
      | inl same ↦ absurd (other (sym same))
      | inr apart ↦ staged_left v w live d displaced rest run e (run.log.staging e is) apart (block - e.file_block) (within_count e.file_block e.count block within)
    ]

disk_other : (v w : Volume) (live : List Draft) (d : Draft) (displaced : List Extent) (rest : List Draft) → Run v w live d displaced rest → (ino block : ℕ) → IsUsed v ino → ino ≢ d.ino → disk_of w (left d live) ino block ≡ disk_of v live ino block
disk_other v w live d displaced rest run ino block used other =
    ap (λ o. disk_by w o ino block) (ap latest (kept_by (is_left d) (covers ino block) live (λ e is own. left_other d e (λ same. other (sym (own_ino e own) ∙ same)))))
    ∙ by (entry_of_block live ino block) refl where
      own_ino : (e : Draft) → covers ino block e ≡ true → e.ino ≡ ino
      own_ino e own = (Decides-eqb e.ino ino).0 (and_parts (e.ino == ino) (is_within e.file_block e.count block) own).0

      no_staging : ino ≢ d.staging
      no_staging same = let never : true ≡ false = sym used ∙ (ap (λ i. is_used (inode v i).kind) same ∙ ap is_used (run.log.staging d run.there)) in cc

      by : (o : Option Draft) → entry_of_block live ino block ≡ o → disk_by w o ino block ≡ disk_by v o ino block
      by None entry = ap (λ es. disk_at es block) (run.change.maps ino other no_staging)
      by (Some e) entry =
          let its = filter-In (covers ino block) live e (latest-In _ e entry) in
          staged_by v w live d displaced rest run e ino block its.0 (λ same. other (sym (own_ino e its.1) ∙ ap (λ (x : Draft). x.ino) (sym same))) its.1

disk_own : (v w : Volume) (live : List Draft) (d : Draft) (displaced : List Extent) (rest : List Draft) → Run v w live d displaced rest → (block : ℕ) → disk_of w (left d live) d.ino block ≡ disk_of v live d.ino block
disk_own v w live d displaced rest run block = by (entry_of_block (left d live) d.ino block) (entry_of_block live d.ino block) refl refl where
  own_ino : (e : Draft) → covers d.ino block e ≡ true → e.ino ≡ d.ino
  own_ino e own = (Decides-eqb e.ino d.ino).0 (and_parts (e.ino == d.ino) (is_within e.file_block e.count block) own).0

  find : (e : Draft) → entry_of_block live d.ino block ≡ Some e → In e live × (covers d.ino block e ≡ true)
  find e is = filter-In (covers d.ino block) live e (latest-In _ e is)

  find_left : (e : Draft) → entry_of_block (left d live) d.ino block ≡ Some e → In e live × (is_left d e ≡ true) × (covers d.ino block e ≡ true)
  find_left e is =
      let there = filter-In (covers d.ino block) (left d live) e (latest-In _ e is) in
      let before = filter-In (is_left d) live e there.0 in
      (before.0, before.1, there.1)

  into : (e : Draft) → In e live → is_left d e ≡ true → covers d.ino block e ≡ true → In e (filter (covers d.ino block) (left d live))
  into e is stays covered = In-filter (covers d.ino block) (left d live) e (In-filter (is_left d) live e is stays) covered

  moved : (b : ℕ) → disk_at (extents w d.ino) b ≡ (if is_within d.file_block d.count b then disk_at (extents v d.staging) (d.staging_block + (b - d.file_block)) else disk_at (extents v d.ino) b)
  moved b = run.change.moves.target b

  never_below : (n : ℕ) → n < n → ⊥
  never_below n below = omega (arith, below)

  by : (o q : Option Draft) → entry_of_block (left d live) d.ino block ≡ o → entry_of_block live d.ino block ≡ q → disk_of w (left d live) d.ino block ≡ disk_of v live d.ino block
  by None None after before =
      ap (λ o. disk_by w o d.ino block) after
      ∙ (moved block ∙ (ap (λ b. if b then disk_at (extents v d.staging) (d.staging_block + (block - d.file_block)) else disk_at (extents v d.ino) block) nothing ∙ ap (λ o. disk_by v o d.ino block) (sym before))) where
        nothing : is_within d.file_block d.count block ≡ false
        nothing = elim (cases_Bool (is_within d.file_block d.count block)) [
          | inr out ↦ out
          | inl inside ↦
              absurd (latest-none (filter (covers d.ino block) live) d before (In-filter (covers d.ino block) live d run.there (ap (λ b. b && is_within d.file_block d.count block) (eq-eqb d.ino d.ino refl) ∙ inside)))
        ]
  by None (Some e) after before =
      let its = find e before in
      elim (behind_first v w live d displaced rest run e its.0 (own_ino e its.1)) [
        | inr later ↦ absurd (latest-none (filter (covers d.ino block) (left d live)) e after (into e its.0 (left_later d e later) its.1))
        | inl same ↦
            let inside : is_within d.file_block d.count block ≡ true =
            ap (λ (x : Draft). is_within x.file_block x.count block) same ∙ (and_parts (e.ino == d.ino) (is_within e.file_block e.count block) its.1).1
            in
            ap (λ o. disk_by w o d.ino block) after
            ∙ (moved block ∙ (ap (λ b. if b then disk_at (extents v d.staging) (d.staging_block + (block - d.file_block)) else disk_at (extents v d.ino) block) inside
            ∙ (ap (λ (x : Draft). disk_by v (Some x) d.ino block) same ∙ ap (λ o. disk_by v o d.ino block) (sym before))))
      ]
  by (Some e) None after before =
      let its = find_left e after in
      absurd (latest-none (filter (covers d.ino block) live) e before (In-filter (covers d.ino block) live e its.0 its.2))
  by (Some e) (Some g) after before =
      let its = find_left e after in
      let mine = find g before in
      let later = left_own d e (own_ino e its.2) its.1 in
      let most : e.order ≤ g.order = latest-most (filter (covers d.ino block) live) g e before (In-filter (covers d.ino block) live e its.0 its.2) in
      let back : g.order ≤ e.order = latest-most (filter (covers d.ino block) (left d live)) e g after (into g mine.0 (left_later d g (omega (arith, later, most))) mine.1) in
      let order : e.order ≡ g.order = omega (arith, most, back) in
      let same : e ≡ g =
      OneOrderEach-Consecutive (inode v d.ino).applied (entries_of d.ino live) (run.log.orders d.ino) e g (In-filter (λ (x : Draft). x.ino == d.ino) live e its.0 (eq-eqb e.ino d.ino (own_ino e its.2)))
      (In-filter (λ (x : Draft). x.ino == d.ino) live g mine.0 (eq-eqb g.ino d.ino (own_ino g mine.1))) order
      in
      ap (λ o. disk_by w o d.ino block) after
      ∙ (staged_by v w live d displaced rest run e d.ino block its.0 (λ one. never_below d.order (subst (λ (x : Draft). d.order < x.order) (sym one) later)) its.2
      ∙ (ap (λ (x : Draft). disk_by v (Some x) d.ino block) same ∙ ap (λ o. disk_by v o d.ino block) (sym before)))

-- ---- sizes

size_own : (v w : Volume) (live : List Draft) (d : Draft) (displaced : List Extent) (rest : List Draft) → Run v w live d displaced rest → size_of w (left d live) d.ino ≡ size_of v live d.ino
size_own v w live d displaced rest run =
    ap (λ ds. size_by (latest ds) (inode w d.ino).size) (entries_left_own v w live d displaced rest run)
    ∙ (by rest (latest rest) refl run.is_first.size later ∙ ap (λ ds. size_by (latest ds) (inode v d.ino).size) (sym run.is_first.first)) where
      later : (e : Draft) → In e rest → d.order < e.order
      later e is = omega (arith, (Consecutive-between ((inode v d.ino).applied + 1) rest e run.go_on.1 is).0, run.go_on.0)

      by : (xs : List Draft) (o : Option Draft) → latest xs ≡ o → (xs ≡ [] → (inode w d.ino).size ≡ d.size) → ((e : Draft) → In e xs → d.order < e.order) → size_by (latest xs) (inode w d.ino).size ≡ size_by (latest (d ∷ xs)) (inode v d.ino).size
      by [] o is size low = size refl
      by (x ∷ xs) None is size low = absurd (latest-none (x ∷ xs) x is (inl refl))
      by (x ∷ xs) (Some e) is size low =
          ap (λ q. size_by q (inode w d.ino).size) is
          ∙ sym (ap (λ q. size_by (later_of d q) (inode v d.ino).size) is ∙ ap (λ (b : Bool). size_by (Some (cond b e d)) (inode v d.ino).size) (lt-ltb d.order e.order (low e (latest-In (x ∷ xs) e is))))

same_file : (v w : Volume) (live : List Draft) (f : Words) (d : Draft) (displaced : List Extent) (rest : List Draft) → Run v w live d displaced rest → (ino : ℕ) → IsUsed v ino → SameFile v live f w (left d live) f ino
same_file v w live f d displaced rest run ino used = elim (cases_eq ino d.ino) [
  | inl own ↦ subst (SameFile v live f w (left d live) f) (sym own) (record {
    size = size_own v w live d displaced rest run;
    bytes = λ i below. ap (λ b. byte_in f b i) (disk_own v w live d displaced rest run (i / 4096));
  })
  | inr other ↦ record {
    size = ap (λ ds. size_by (latest ds) (inode w ino).size) (entries_left_other live d ino other) ∙ ap (size_by (latest (entries_of ino live))) (run.change.size_others ino other);
    bytes = λ i below. ap (λ b. byte_in f b i) (disk_other v w live d displaced rest run ino (i / 4096) used other);
  }
]

-- ---- the World

live_parts : (v : Volume) (d : Draft) → is_live v d ≡ true → (inode v d.ino).applied < d.order
live_parts v d alive =
    let first = and_parts (is_of_file v d && nat_lt (inode v d.ino).applied d.order) ((inode v d.staging).generation == d.staging_generation) alive in
    below (inode v d.ino).applied d.order (and_parts (is_of_file v d) (nat_lt (inode v d.ino).applied d.order) first.0).1
  where
    below : (a b : ℕ) → nat_lt a b ≡ true → a < b
    below a b t = grind (arith, nat_tests, t)

of_file_same : (v w : Volume) (d : Draft) (displaced : List Extent) → Relinks v w d displaced → (e : Draft) → is_of_file w e ≡ is_of_file v e
of_file_same v w d displaced change e = λ i. is_file ((change.same e.ino).kind i) && ((change.same e.ino).generation i == e.generation)

live_after : (v w : Volume) (d : Draft) (displaced : List Extent) → Relinks v w d displaced → is_live v d ≡ true → (e : Draft) → is_live w e ≡ (is_live v e && is_left d e)
live_after v w d displaced change alive e = elim (cases_eq e.ino d.ino) [
  | inr other ↦
      same (change.applied_others e.ino other) ∙ sym (and_true (is_live v e) (is_left d e) (left_other d e other))
  | inl own ↦
      (λ i. of_file_same v w d displaced change e i && nat_lt ((ap (λ k. (inode w k).applied) own ∙ change.applied) i) e.order && ((change.same e.staging).generation i == e.staging_generation))
      ∙ (by (is_of_file v e) (nat_lt (inode v e.ino).applied e.order) (nat_lt d.order e.order) ((inode v e.staging).generation == e.staging_generation)
      (above (inode v e.ino).applied d.order e.order (subst (λ k. (inode v k).applied < d.order) (sym own) (live_parts v d alive)))
      ∙ ap (λ b. is_live v e && b) (ap (λ b. not b || nat_lt d.order e.order) (sym (eq-eqb e.ino d.ino own))))
]
  where
    same : (inode w e.ino).applied ≡ (inode v e.ino).applied → is_live w e ≡ is_live v e
    same applied = λ i. of_file_same v w d displaced change e i && nat_lt (applied i) e.order && ((change.same e.staging).generation i == e.staging_generation)

    and_true : (a b : Bool) → b ≡ true → (a && b) ≡ a
    and_true true b is = is
    and_true false b is = refl

    above : (a n m : ℕ) → a < n → nat_lt n m ≡ true → nat_lt a m ≡ true
    above a n m low is = grind (arith, nat_tests, low, is)

    by : (file older later staged : Bool) → (later ≡ true → older ≡ true) → (file && later && staged) ≡ (file && older && staged && later)
    by true true true true w = refl
    by true true true false w = refl
    by true true false true w = refl
    by true true false false w = refl
    by true false false true w = refl
    by true false false false w = refl
    by true false true staged w = let never : false ≡ true = w refl in cc
    by false older later staged w = refl

relinked_jobs : (v w : Volume) (live : List Draft) (f : Words) (numbers : List ℕ) (s : State) (d : Draft) (displaced : List Extent) (rest : List Draft) → Run v w live d displaced rest → (jobs : List Job) → AreBeside (only d.ino) jobs
    → JobsStand v live f numbers s jobs → JobsStand w (left d live) f numbers s jobs
relinked_jobs v w live f numbers s d displaced rest run [] off out = tt
relinked_jobs v w live f numbers s d displaced rest run (j ∷ jobs) off out =
    let job = out.0 in
    let other : j.draft.ino ≢ d.ino = λ same. (let never : true ≡ false = sym (eq-eqb j.draft.ino d.ino same) ∙ off.0 in cc) in
    let applied = run.change.applied_others j.draft.ino other in
    let used : IsUsed v j.draft.ino = ap is_used (live_file v j.draft job.alive) in
    let staged = staged_left v w live d displaced rest run j.draft job.staging (turned d j.draft (job.apart d run.there)) in (
      record {
        draft = job.draft;
        fields = job.fields;
        alive = (λ i. of_file_same v w d displaced run.change j.draft i && nat_lt (applied i) j.draft.order && ((run.change.same j.draft.staging).generation i == j.draft.staging_generation)) ∙ job.alive;
        order = job.order ∙ (λ i. sym applied i + length (sym (entries_left_other live d j.draft.ino other) i) + 1);
        size = job.size;
        rest = λ i below past. ap (λ b. byte_in f b i) (disk_other v w live d displaced rest run j.draft.ino (i / 4096) used other) ∙ job.rest i below past;
        within = job.within;
        parts = job.parts;
        placed = λ i front. subst IsSome (sym (disk_other v w live d displaced rest run j.draft.ino (i / 4096) used other)) (job.placed i front);
        staging = (run.change.same j.draft.staging).kind ∙ job.staging;
        staged = λ k below. subst IsSome (sym (staged k below)) (job.staged k below);
        apart = λ e is. job.apart e (filter-In (is_left d) live e is).0;
        puts = job.puts;
        part = job.part;
      },
      out.1,
      relinked_jobs v w live f numbers s d displaced rest run jobs off.1 out.2,
    )
  where
    turned : (x y : Draft) → AreApart x y → AreApart y x
    turned x y apart same = elim (apart (sym same)) [ inl before ↦ inr before | inr behind ↦ inl behind ]

pub relinked : KeepsRelinked
relinked v w claims jobs f numbers s count d displaced rest world change first off = record {
  valid = record {
    stands = subst (λ l. Stands w l f numbers s) (sym same_live) after;
    out = subst (λ l. JobsStand w l f numbers s jobs) (sym same_live) (relinked_jobs v w live f numbers s d displaced rest run jobs off world.valid.out);
    fits = world.valid.fits;
    room = world.valid.room;
  };
  claims_stand = record {
    orders = λ m n a b is there other a_file b_file ino.
        world.claims_stand.orders m n a b is there other (sym (of_file_same v w d displaced change a) ∙ a_file) (sym (of_file_same v w d displaced change b) ∙ b_file) ino;
    settled = λ slot e is file. settled slot e is (sym (of_file_same v w d displaced change e) ∙ file) (cases_eq e.ino d.ino);
  };
  aged = AreAged-same v w claims count (λ ino. (change.same ino).generation) (λ ino is. (change.same ino).kind ∙ is) world.aged;
  shape = record {
    root = world.shape.root;
    nodes = world.shape.nodes ∙ sym (change.sane.inode_count ∙ (ap (λ g. g.inodes) change.geometry ∙ sym world.valid.stands.sane.inode_count));
    names = world.shape.names ∙ ap length (sym change.names);
  };
  geometry = subst IsGeometry (sym change.geometry) world.geometry;
} where
  live : List Draft
  live = live_claims v claims

  there : In d live
  there = (filter-In (λ (x : Draft). x.ino == d.ino) live d (subst (In d) (sym first.first) (inl refl))).0

  alive : is_live v d ≡ true
  alive = (filter-In (is_live v) (map (λ (c : ℕ × Draft). c.1) claims) d there).1

  stands : Stands v live f numbers s
  stands = world.valid.stands

  run : Run v w live d displaced rest
  run = record {
    change = change;
    log = stands.log;
    is_first = first;
    file = live_file v d alive;
    there = there;
    go_on = subst (Consecutive (inode v d.ino).applied) first.first (stands.log.orders d.ino);
  }

  same_live : live_claims w claims ≡ left d live
  same_live =
      filter-agree (is_live w) (λ e. is_live v e && is_left d e) (map (λ (c : ℕ × Draft). c.1) claims) (λ e is. live_after v w d displaced change alive e)
      ∙ filter-both (is_live v) (is_left d) (map (λ (c : ℕ × Draft). c.1) claims)

  same_used : (ino : ℕ) → is_used (inode w ino).kind ≡ is_used (inode v ino).kind
  same_used ino = ap is_used (change.same ino).kind

  orders : (ino : ℕ) → (ino ≡ d.ino) ⊎ (ino ≢ d.ino) → Consecutive (inode w ino).applied (entries_of ino (left d live))
  orders ino (inl own) =
      subst (λ i. Consecutive (inode w i).applied (entries_of i (left d live))) (sym own)
      (subst (Consecutive (inode w d.ino).applied) (sym (entries_left_own v w live d displaced rest run))
      (subst (λ n. Consecutive n rest) (sym run.go_on.0 ∙ sym change.applied) run.go_on.1))
  orders ino (inr other) =
      subst (λ n. Consecutive n (entries_of ino (left d live))) (sym (change.applied_others ino other))
      (subst (Consecutive (inode v ino).applied) (sym (entries_left_other live d ino other)) (stands.log.orders ino))

  staged : (e : Draft) → In e (left d live) → HasStagingBlocks w e
  staged e is k below =
      let its = filter-In (is_left d) live e is in
      elim (stands.log.apart e d its.0 there) [
        | inl same ↦ absurd (never d e same its.1)
        | inr apart ↦ subst IsSome (sym (staged_left v w live d displaced rest run e (stands.log.staging e its.0) apart k below)) (stands.log.staged e its.0 k below)
      ]
    where
      never : (x y : Draft) → y ≡ x → is_left x y ≡ true → ⊥
      never x y same is_it =
          let low = left_own x y (ap (λ (z : Draft). z.ino) same) is_it in
          let one : y.order ≡ x.order = ap (λ (z : Draft). z.order) same in
          omega (arith, low, one)

  after : Stands w (left d live) f numbers s
  after = record {
    sane = change.sane;
    names = record {
      root = stands.names.root;
      root_used = same_used 0 ∙ stands.names.root_used;
      within = λ i used. stands.names.within i (sym (same_used i) ∙ used);
      one = λ i j a b. stands.names.one i j (sym (same_used i) ∙ a) (sym (same_used j) ∙ b);
      names = λ p name used. ap (λ rows. option_map (number numbers) (child_named rows p name)) change.names ∙ stands.names.names p name (sym (same_used p) ∙ used);
      entry_parents = λ n name m led. (let its = stands.names.entry_parents n name m led in (its.0, same_used its.0 ∙ its.1, its.2));
      distinct = stands.names.distinct;
    };
    nodes = record {
      each = λ ino used. (
          let was = sym (same_used ino) ∙ used in
          subst (λ k. NodeStands w (left d live) f ino k (node_at s.nodes (number numbers ino))) (sym (change.same ino).kind)
          (NodeStands-same v live f w (left d live) f ino (inode v ino).kind (node_at s.nodes (number numbers ino)) (same_file v w live f d displaced rest run ino was) (stands.nodes.each ino was)));
      all = λ n is. (let its = stands.nodes.all n is in (its.0, same_used its.0 ∙ its.1, its.2));
    };
    log = record {
      staging = λ e is. (change.same e.staging).kind ∙ stands.log.staging e (filter-In (is_left d) live e is).0;
      staged = staged;
      apart = λ a b is is_too. stands.log.apart a b (filter-In (is_left d) live a is).0 (filter-In (is_left d) live b is_too).0;
      orders = λ ino. orders ino (cases_eq ino d.ino);
    };
  }

  settled : (slot : ℕ) (e : Draft) → In (slot, e) claims → is_of_file v e ≡ true → (e.ino ≡ d.ino) ⊎ (e.ino ≢ d.ino) → (e.order ≤ (inode w e.ino).applied) ⊎ (is_live w e ≡ true)
  settled slot e is file (inl own) =
      let now : (inode w e.ino).applied ≡ d.order = ap (λ k. (inode w k).applied) own ∙ change.applied in
      elim (world.claims_stand.settled slot e is file) [
        | inl old ↦
            let low = live_parts v d alive in
            let was : (inode v e.ino).applied ≡ (inode v d.ino).applied = ap (λ k. (inode v k).applied) own in
            inl (omega (arith, old, low, was, now))
        | inr live_one ↦ elim (cases_lt d.order e.order) [
          | inl later ↦ inr (live_after v w d displaced change alive e ∙ ((λ i. live_one i && left_later d e later i)))
          | inr old ↦ inl (omega (arith, old, now))
        ]
      ]
  settled slot e is file (inr other) = elim (world.claims_stand.settled slot e is file) [
    | inl old ↦ inl (subst (λ n. e.order ≤ n) (sym (change.applied_others e.ino other)) old)
    | inr live_one ↦ inr (live_after v w d displaced change alive e ∙ (λ i. live_one i && left_other d e other i))
  ]
