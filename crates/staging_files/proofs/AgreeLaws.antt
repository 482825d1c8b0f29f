-- What a staging keeps agrees with K-Split, and goes on to.
use Rattle.std.proofs.Common.{◌≡◌, ◌≢◌, ◌≤◌, ◌<◌, ◌+◌, ◌-◌, ◌/◌, ◌==◌, ◌||◌, not, ℕ, Bool, true, false, [], ◌∷◌, length, Some, Ok, refl, length-append, sym, ◌∙◌, ap, subst, inl, inr, arith, get_or}
use Rattle.std.specs.Prelude.{nat_lt, remove}
use Rattle.std.specs.List.{Any, list_any}
use Rattle.std.proofs.lemmas.Bool.{and_parts, both_ways, cases_Bool, cases_eq, cases_lt, false_from_ne_true}
use Rattle.std.proofs.lemmas.Bool.Decides.{nat_tests}
use Rattle.std.proofs.lemmas.List.{get_or_append_left}
use Rattle.std.proofs.lemmas.List.Edits.{get_or-remove_above, get_or-remove_below, length-remove}
use Rattle.std.proofs.lemmas.List.Folds.{Any-from_list_any, list_any-append, list_any_at}
use Rattle.k_split.specs.pm_model.Cells.{cell, is_single}
use Rattle.k_split.specs.pm_model.CellLaws.{single-home}
use Rattle.k_split.specs.block_pool.FreeSets.{is_among}
use Rattle.k_split.specs.layout_model.Places.{is_data_block}
use Rattle.k_split.specs.image_model.Placed.{block_at}
use Rattle.k_split.specs.image_model.Volume.{extents, inode}
use Rattle.k_split.specs.extent_model.Extents.{covers, disk_at, is_within}
use Rattle.k_split.specs.k_split_model.View.{View}
use Rattle.k_split.specs.MapChanges.{is_free_in, IsMapDone, IsPreallocateAnswer, IsPreallocatedWith}
use Rattle.k_split.specs.Order.{IsInOrder}
use Rattle.k_split.specs.k_split_model.MapChangesChanges.{aged}
use Rattle.k_split.specs.k_split_model.Taken.{with_map}
use Rattle.k_split.specs.volume_laws.Changes.{extents-set_other, extents-set_same}
use Rattle.k_split.specs.volume_change_laws.Switches.{unused-data}
use Rattle.k_split.specs.volume_laws.PoolLaws.{unused-uncovered}
use Rattle.k_split.specs.volume_laws.Uses.{is_unused}
use Rattle.staging_files.specs.declared.runs.StageRun.{StageRun}
use Rattle.staging_files.specs.Keeps.{Agrees, AreFreeSingle, given_to, has_block, is_kept_free, IsAtHome, IsRunSingle, IsSingleAt, IsStaged, IsStaging, IsThere, Staged}
use Rattle.staging_files.specs.Reserves.{IsFreeRun, with_given, with_out}
use Rattle.staging_files.proofs.StagedLaws.{free-from, free-given, free-none, given_to-other, given_to-same, has-parts}

-- a block that is kept as free once a run is out was so before
pub free-before : (s : Staged) (run : StageRun) (x b : ℕ) → is_kept_free (with_out run s) x b ≡ true → is_kept_free s x b ≡ true
free-before s run x b free =
    free-from s x b (free-given (with_out run s) x b free)
    (first (list_any (has_block x b) s.out) (list_any (has_block x b) (run ∷ [])) (sym (list_any-append (has_block x b) s.out (run ∷ [])) ∙ free-none (with_out run s) x b free))
  where
    first : (p q : Bool) → (p || q) ≡ false → p ≡ false
    first true q none = none
    first false q none = refl

-- ---- the first way

pub agrees-taken : (s : Staged) (k : View) (run : StageRun) → Agrees s k → Agrees (with_out run s) k
agrees-taken s k run agrees = record {
  free = λ x b staging free. agrees.free x b staging (free-before s run x b free);
  empty = agrees.empty;
}

pub there-taken : (s : Staged) (k : View) (run : StageRun) → Agrees s k → IsStaging run.staging → IsFreeRun s run.count run.staging run.block → IsThere k run
there-taken s k run agrees staging free b inside =
    agrees.free run.staging b staging (free b (grind (arith, nat_tests, inside)) (grind (arith, nat_tests, inside)))

pub single-taken : (s : Staged) (k : View) (run : StageRun) → AreFreeSingle s k → AreFreeSingle (with_out run s) k
single-taken s k run single x b staging free = single x b staging (free-before s run x b free)

pub run-single-taken : (s : Staged) (k : View) (run : StageRun) → AreFreeSingle s k → IsStaging run.staging → IsFreeRun s run.count run.staging run.block → IsRunSingle k run
run-single-taken s k run single staging free b inside =
    single run.staging b staging (free b (grind (arith, nat_tests, inside)) (grind (arith, nat_tests, inside)))

-- ---- the second way

module _ (x n : ℕ) (k l : View) (order : IsInOrder k) (staging : IsStaging x) (gave : IsPreallocateAnswer x n k l (Ok tt)) where
  with_blocks : IsPreallocatedWith x n k l.volume gave.0
  with_blocks = gave.1

  done : IsMapDone gave.0 k l
  done = gave.2

  below : x < length k.volume.inodes
  below = let whole = order.whole.kept in omega (arith, staging.most, whole.all.inode_count, whole.geometry.least_inodes)

  -- the staging file has the new blocks, in order, and the others have what they had
  pub given-other : (y : ℕ) → y ≢ x → extents l.volume y ≡ extents k.volume y
  unfolding with_blocks
  given-other y other =
      let p = with_blocks.preallocated in
      ap (λ v. extents v y) p.is_preallocated ∙ extents-set_other x (with_map p.blocks p.es (aged (inode k.volume x))) p.blocks p.es k.volume y other

  given-own : extents l.volume x ≡ with_blocks.preallocated.es
  unfolding with_blocks
  given-own =
      let p = with_blocks.preallocated in
      ap (λ v. extents v x) p.is_preallocated
      ∙ extents-set_same x (with_map p.blocks p.es (aged (inode k.volume x))) p.blocks p.es k.volume (omega (arith, below, order.whole.maps.map_count))

  -- a block that it was given, with a disk block that was free
  record IsFresh (b : ℕ) : Type 0 where
    disk : ℕ
    at : disk_at (extents l.volume x) b ≡ Some disk
    was_free : is_free_in k disk ≡ true

  fresh : (b : ℕ) → b < n → IsFresh b
  unfolding with_blocks
  fresh b low =
      let p = with_blocks.preallocated in
      let inside : b < length p.fresh = omega (arith, p.size, low) in
      let test : nat_lt b (length p.fresh) ≡ true = grind (arith, nat_tests, inside) in
      let in_map : disk_at p.es b ≡ Some (block_at p.fresh b) = rw test at (p.map.blocks b) in
      record {
        disk = block_at p.fresh b;
        at = ap (λ es. disk_at es b) given-own ∙ in_map;
        was_free = subst (λ d. is_free_in k d ≡ true) (get_or_append_left p.fresh p.blocks 0 b inside) (p.taken.were_free b 0 (omega (arith, length-append p.fresh p.blocks, inside)));
      }

  -- so each of its words has one candidate
  free-single : (disk i : ℕ) → is_free_in k disk ≡ true → i / 512 ≡ disk → is_single (cell l.cells i) ≡ true
  free-single disk i free at =
      let unused : is_unused k.volume disk ≡ true = (and_parts (is_unused k.volume disk) (not (is_among k.waiting disk)) free).0 in
      let whole = order.whole.kept in
      done.singles i
      (order.unstaged i (ap (is_data_block k.volume.geometry) at ∙ unused-data k.volume disk unused) (λ ino least most.
      subst (λ m. covers (extents k.volume ino) m ≡ false) (sym at)
      (unused-uncovered k.volume disk ino (omega (arith, most, whole.all.inode_count, whole.geometry.least_inodes)) unused)))

  pub fresh-home : (b : ℕ) → b < n → IsAtHome l x b
  fresh-home b low =
      let f = fresh b low in
      record { disk = f.disk; at = f.at; home = λ i at. single-home (cell l.cells i) (free-single f.disk i f.was_free at) }

  pub fresh-single : (b : ℕ) → b < n → IsSingleAt l x b
  fresh-single b low disk i has at =
      let f = fresh b low in
      free-single f.disk i f.was_free (at ∙ some_same disk f.disk (sym has ∙ f.at))
    where
      some_same : (a c : ℕ) → Some a ≡ Some c → a ≡ c
      some_same a c same = cc

  -- what the others have stays
  pub other-home : (y b : ℕ) → y ≢ x → IsAtHome k y b → IsAtHome l y b
  other-home y b other was = record {
    disk = was.disk;
    at = ap (λ es. disk_at es b) (given-other y other) ∙ was.at;
    home = λ i at. done.changes.lent i ∙ was.home i at;
  }

  pub other-single : (y b : ℕ) → y ≢ x → IsSingleAt k y b → IsSingleAt l y b
  other-single y b other was disk i has at = done.singles i (was disk i (ap (λ es. disk_at es b) (sym (given-other y other)) ∙ has) at)

  module _ (s : Staged) (run : StageRun) (keeps : IsStaged s) (of : run.staging ≡ x) where
    free-own : (b : ℕ) → is_kept_free (with_out run (with_given x n s)) x b ≡ true → b < n
    free-own b free = omega (arith, free-given (with_given x n s) x b (free-before (with_given x n s) run x b free), given_to-same s x n keeps staging)

    free-other : (y b : ℕ) → IsStaging y → y ≢ x → is_kept_free (with_out run (with_given x n s)) y b ≡ true → is_kept_free s y b ≡ true
    free-other y b is other free =
        let was = free-before (with_given x n s) run y b free in
        free-from s y b (omega (arith, free-given (with_given x n s) y b was, given_to-other s x n y staging is other)) (free-none (with_given x n s) y b was)

    pub agrees-given : 1 ≤ n → Agrees s k → Agrees (with_out run (with_given x n s)) l
    agrees-given some agrees = record {
      free = λ y b is free. elim (cases_eq y x) [
        | inl same ↦ subst (λ m. IsAtHome l m b) (sym same) (fresh-home b (free-own b (subst (λ m. is_kept_free (with_out run (with_given x n s)) m b ≡ true) same free)))
        | inr other ↦ other-home y b other (agrees.free y b is (free-other y b is other free))
      ];
      empty = λ y is empty. elim (cases_eq y x) [
        | inl same ↦ absurd (omega (arith, some, ap (given_to (with_given x n s)) same, given_to-same s x n keeps staging, empty))
        | inr other ↦ given-other y other ∙ agrees.empty y is (sym (given_to-other s x n y staging is other) ∙ empty)
      ];
    }

    pub single-given : AreFreeSingle s k → AreFreeSingle (with_out run (with_given x n s)) l
    single-given single y b is free = elim (cases_eq y x) [
      | inl same ↦ subst (λ m. IsSingleAt l m b) (sym same) (fresh-single b (free-own b (subst (λ m. is_kept_free (with_out run (with_given x n s)) m b ≡ true) same free)))
      | inr other ↦ other-single y b other (single y b is (free-other y b is other free))
    ]

    pub there-given : run.block ≡ 0 → run.count ≤ n → IsThere l run
    there-given first fits b inside = subst (λ m. IsAtHome l m b) (sym of) (fresh-home b (past b first fits inside))
      where
        past : (b : ℕ) → run.block ≡ 0 → run.count ≤ n → is_within run.block run.count b ≡ true → b < n
        past b first fits inside = let low : b < run.block + run.count = grind (arith, nat_tests, inside) in omega (arith, low, first, fits)

    pub run-single-given : run.block ≡ 0 → run.count ≤ n → IsRunSingle l run
    run-single-given first fits b inside = subst (λ m. IsSingleAt l m b) (sym of) (fresh-single b (past b first fits inside))
      where
        past : (b : ℕ) → run.block ≡ 0 → run.count ≤ n → is_within run.block run.count b ≡ true → b < n
        past b first fits inside = let low : b < run.block + run.count = grind (arith, nat_tests, inside) in omega (arith, low, first, fits)

-- ---- a run comes back

-- a block that is kept as free then, and is none of the run, was so before
free-back : (s : Staged) (place : ℕ) (run : StageRun) (x b : ℕ) → place < length s.out → ((d : StageRun) → get_or s.out place d ≡ run)
    → is_kept_free (record s { out = remove s.out place }) x b ≡ true → has_block x b run ≡ false → is_kept_free s x b ≡ true
free-back s place run x b inside at free away =
    free-from s x b (free-given (record s { out = remove s.out place }) x b free) (false_from_ne_true (list_any (has_block x b) s.out) (λ has. there (Any-from_list_any (has_block x b) s.out has)))
  where
    none : list_any (has_block x b) (remove s.out place) ≡ false
    none = free-none (record s { out = remove s.out place }) x b free

    there : Any (λ r. has_block x b r ≡ true) s.out → ⊥
    there (j, r, low, is, has) = elim (cases_eq j place) [
      | inl same ↦ both_ways (has_block x b run) away (ap (has_block x b) (sym (at r) ∙ (ap (λ m. get_or s.out m r) (sym same) ∙ is)) ∙ has)
      | inr other ↦ elim (cases_lt j place) [
        | inl before ↦
            both_ways (list_any (has_block x b) (remove s.out place)) none
            (list_any_at (has_block x b) (remove s.out place) j r (omega (arith, length-remove s.out place inside, before, inside))
            (ap (has_block x b) (get_or-remove_below s.out place r j before inside ∙ is) ∙ has))
        | inr behind ↦
            both_ways (list_any (has_block x b) (remove s.out place)) none
            (list_any_at (has_block x b) (remove s.out place) (j - 1) r (omega (arith, length-remove s.out place inside, behind, other, low))
            (ap (has_block x b) (get_or-remove_above s.out place r (j - 1) (omega (arith, behind, other)) inside ∙ (ap (λ m. get_or s.out m r) (again j place behind other) ∙ is)) ∙ has))
      ]
    ]
      where
        again : (j place : ℕ) → place ≤ j → j ≢ place → j - 1 + 1 ≡ j
        again j place behind other = omega (arith, behind, other)

module _ (s : Staged) (place : ℕ) (run : StageRun) (inside : place < length s.out) (at : (d : StageRun) → get_or s.out place d ≡ run) where
  pub agrees-back : (k : View) → Agrees s k → IsThere k run → Agrees (record s { out = remove s.out place }) k
  agrees-back k agrees there = record {
    free = λ x b staging free. elim (cases_Bool (has_block x b run)) [
      | inr away ↦ agrees.free x b staging (free-back s place run x b inside at free away)
      | inl has ↦ subst (λ m. IsAtHome k m b) (has-parts x b run has).0 (there b (and_parts (run.staging == x) (is_within run.block run.count b) has).1)
    ];
    empty = agrees.empty;
  }

  pub single-back : (k : View) → AreFreeSingle s k → IsRunSingle k run → AreFreeSingle (record s { out = remove s.out place }) k
  single-back k single there x b staging free = elim (cases_Bool (has_block x b run)) [
    | inr away ↦ single x b staging (free-back s place run x b inside at free away)
    | inl has ↦ subst (λ m. IsSingleAt k m b) (has-parts x b run has).0 (there b (and_parts (run.staging == x) (is_within run.block run.count b) has).1)
  ]
