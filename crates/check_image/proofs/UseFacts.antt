-- The marks of a volume's blocks and names, and the rules that they decide.
use Rattle.std.proofs.Common.{◌≡◌, ℕ, zero, suc, ◌+◌, ◌-◌, ◌<◌, List, [], ◌∷◌, length, map, get_or, refl, sym, ◌∙◌, ap, subst, arith, inl, inr}
use Rattle.std.specs.Prelude.{◌==◌, min, sum_by}
use Rattle.std.specs.List.{count_by, range_with_len}
use Rattle.std.proofs.lemmas.Bool.{eq-eqb, ne_eqb}
use Rattle.std.proofs.lemmas.List.{ext_get_or}
use Rattle.std.proofs.lemmas.List.FromFn.{length-map-range_with_len, get_or-map-range_with_len}
use Rattle.std.proofs.lemmas.List.Sums.{sum_by-cons}
use Rattle.k_journal.specs.layout_model.Places.{Geometry, first_data, data_blocks}
use Rattle.k_reading.specs.extent_model.Counts.{one_if}
use Rattle.k_reading.specs.extent_model.declared.extent_words.Extent.{Extent}
use Rattle.k_reading.specs.layout_model.declared.lines.Inode.{Inode}
use Rattle.k_reading.specs.layout_model.Names.{Rows, row, names_of}
use Rattle.k_reading.specs.image_model.Broken.{below, Holds, HoldAll, FailsFirst, BreaksFirst}
use Rattle.k_reading.specs.image_model.Rules.{IsRowPlaced, HasOneName, AreDirectoriesNamed}
use Rattle.k_reading.specs.image_model.Room.{has_none, unused_blocks}
use Rattle.k_reading.specs.image_model.Uses.{Use, owners}
use Rattle.k_reading.specs.image_model.Volume.{Volume, chain, extents}
use Rattle.k_reading.specs.Pools.{IsOfTables}
use Rattle.k_reading.specs.volume_laws.Lists.{sum_by-agree, sum_by-add}
use Rattle.k_reading.specs.volume_laws.OwnerLaws.{length-owners}
use Rattle.k_reading.specs.volume_laws.UseLaws.{length-uses_by}
use Rattle.k_reading.specs.volume_laws.Uses.{HasAllMaps, in_chain, in_map, uses_of}
use Rattle.check_image.specs.Above.{rows_rule}
use Rattle.check_image.specs.Marks.{AreMarks, AreFew, IsFirstTwice, uses_in}
use Rattle.check_image.specs.Readings.{blocks_rule, tree_rules, AreUseMarks, AreNameMarks}
use Rattle.check_image.proofs.Heads.{holds-one, fails-one}
use Rattle.check_image.proofs.MarkFacts.{marks-agree}

-- the items of a list, by their places
items-by_place : {X : Type 0} (d : X) (xs : List X) → map (λ k. get_or xs k d) (range_with_len 0 (length xs)) ≡ xs
items-by_place d xs =
    ext_get_or d (map (λ k. get_or xs k d) (range_with_len 0 (length xs))) xs (length-map-range_with_len (λ k. get_or xs k d) 0 (length xs))
    (λ i below. get_or-map-range_with_len (λ k. get_or xs k d) 0 (length xs) i i d
    (omega (arith, below, length-map-range_with_len (λ k. get_or xs k d) 0 (length xs))) (omega arith))

-- a sum over numbers in a row, with one number more
pub sum-more : (f : ℕ → ℕ) (a n : ℕ) → sum_by f (range_with_len a (n + 1)) ≡ sum_by f (range_with_len a n) + f (a + n)
sum-more f a zero = ap (λ n. 0 + f n) {x = a} {y = a + 0} (omega arith)
sum-more f a (suc n) =
    omega (
      arith,
      ap (λ m. sum_by f (range_with_len a m)) {x = suc n + 1} {y = suc (n + 1)} (omega arith),
      sum_by-cons f a (range_with_len (a + 1) (n + 1)),
      sum-more f (a + 1) n,
      sum_by-cons f a (range_with_len (a + 1) n),
      ap f {x = a + 1 + n} {y = a + suc n} (omega arith),
    )

sum-of_map : {X Y : Type 0} (f : Y → ℕ) (g : X → Y) (xs : List X) → sum_by f (map g xs) ≡ sum_by (λ x. f (g x)) xs
sum-of_map f g [] = refl
sum-of_map f g (x ∷ xs) =
    sum_by-cons f (g x) (map g xs) ∙ ap (λ n. f (g x) + n) (sum-of_map f g xs) ∙ sym (sum_by-cons (λ y. f (g y)) x xs)

sum-by_place : {X : Type 0} (f : X → ℕ) (d : X) (xs : List X) (n : ℕ) → n ≡ length xs → sum_by (λ k. f (get_or xs k d)) (range_with_len 0 n) ≡ sum_by f xs
sum-by_place f d xs n all =
    ap (λ m. sum_by (λ k. f (get_or xs k d)) (range_with_len 0 m)) all
    ∙ sym (sum-of_map f (λ k. get_or xs k d) (range_with_len 0 (length xs))) ∙ ap (sum_by f) (items-by_place d xs)

-- a block is used as often as the chains and the maps name it
in_chain-items : (blocks : List ℕ) (b : ℕ) → in_chain blocks b ≡ count_by (λ x. x == b) blocks
in_chain-items blocks b = sum-by_place (λ x. one_if (x == b)) 0 blocks (length blocks) refl

pub uses-owners : (v : Volume) (b : ℕ) → HasAllMaps v → length (owners v b) ≡ uses_in v.chains v.maps b
uses-owners v b all =
    length-owners v b
    ∙ sum_by-agree (uses_of v b) (λ ino. count_by (λ x. x == b) (chain v ino) + in_map (extents v ino) b) 0 (length v.inodes)
    (λ ino low below. length-uses_by ino (chain v ino) (extents v ino) b ∙ ap (λ n. n + in_map (extents v ino) b) (in_chain-items (chain v ino) b))
    ∙ sum_by-add (λ ino. count_by (λ x. x == b) (chain v ino)) (λ ino. in_map (extents v ino) b) (range_with_len 0 (length v.inodes))
    ∙ (λ i. sum-by_place (λ blocks. count_by (λ x. x == b) blocks) [] v.chains (length v.inodes) (sym all.chain_count) i
    + sum-by_place (λ (es : List Extent). in_map es b) [] v.maps (length v.inodes) (sym all.map_count) i)

-- the marks that were counted are those of the volume
pub marks-owners : (g : Geometry) (chains : List (List ℕ)) (maps : List (List Extent)) (marks : List ℕ) (v : Volume) → IsOfTables g chains maps v
    → length marks ≡ data_blocks g → AreMarks marks (λ i. uses_in chains maps (first_data g + i)) → AreUseMarks v marks
marks-owners g chains maps marks v of count are = record {
  count = count ∙ ap data_blocks (sym of.geometry);
  uses = marks-agree marks (λ i. uses_in chains maps (first_data g + i)) (λ i. length (owners v (first_data v.geometry + i)))
      (λ i below. (λ t. uses_in (sym of.same_chains t) (sym of.same_maps t) (first_data (sym of.geometry t) + i))
      ∙ sym (uses-owners v (first_data v.geometry + i) of.all)) are;
}

pub marks-names : (v : Volume) (inodes : List Inode) (names : Rows) (marks : List ℕ) → v.inodes ≡ inodes → v.names ≡ names → length marks ≡ length inodes
    → AreMarks marks (names_of names) → AreNameMarks v marks
marks-names v inodes names marks same_inodes same_names count are = record {
  count = count ∙ ap (λ (l : List Inode). length l) (sym same_inodes);
  names = subst (λ (rows : Rows). AreMarks marks (names_of rows)) (sym same_names) are;
}

-- the places that no use is counted for are the blocks that nothing names
sum-shift : (f : ℕ → ℕ) (a n : ℕ) → sum_by (λ k. f (a + k)) (range_with_len 0 n) ≡ sum_by f (range_with_len a n)
sum-shift f a zero = refl
sum-shift f a (suc n) =
    omega (
      arith,
      sum-more (λ k. f (a + k)) 0 n,
      sum-more f a n,
      ap (λ m. sum_by (λ k. f (a + k)) (range_with_len 0 m)) {x = suc n} {y = n + 1} (omega arith),
      ap (λ m. sum_by f (range_with_len a m)) {x = suc n} {y = n + 1} (omega arith),
      ap (λ k. f (a + k)) {x = 0 + n} {y = n} (omega arith),
      sum-shift f a n,
    )

free-mark : (us : List Use) (n : ℕ) → n ≡ min 2 (length us) → one_if (n == 0) ≡ one_if (has_none us)
free-mark [] n is = ap one_if (eq-eqb n 0 (omega arith))
free-mark (u ∷ us) n is = ap one_if (ne_eqb n 0 (λ e. omega arith))

pub marks-unused : (v : Volume) (marks : List ℕ) → AreUseMarks v marks → count_by (λ n. n == 0) marks ≡ unused_blocks v
marks-unused v marks are =
    let first = first_data v.geometry in
    sym (sum-by_place (λ n. one_if (n == 0)) 0 marks (length marks) refl)
    ∙ sum_by-agree (λ k. one_if (get_or marks k 0 == 0)) (λ k. one_if (has_none (owners v (first + k)))) 0 (length marks)
    (λ k low below. free-mark (owners v (first + k)) (get_or marks k 0) (are.uses.each k (omega arith)))
    ∙ sum-shift (λ b. one_if (has_none (owners v b))) first (length marks)
    ∙ ap (λ n. sum_by (λ b. one_if (has_none (owners v b))) (range_with_len first n)) are.count

-- rule 8
pub blocks-once : (v : Volume) (marks : List ℕ) → AreUseMarks v marks → AreFew marks (length marks) → Holds (blocks_rule v)
blocks-once v marks are few p low below =
    let i = p - first_data v.geometry in
    let place : first_data v.geometry + i ≡ p = omega arith in
    let within : i < length marks = omega (arith, are.count) in
    let at : min 2 (length (owners v p)) ≡ get_or marks i 0 = ap (λ b. min 2 (length (owners v b))) (sym place) ∙ sym (are.uses.each i within) in
    let small = few i within in
    omega (arith, at, small)

pub blocks-twice : (v : Volume) (marks : List ℕ) (place : ℕ) → AreUseMarks v marks → IsFirstTwice marks place → FailsFirst (blocks_rule v) (first_data v.geometry + place)
blocks-twice v marks place are first = record {
  from = omega arith;
  within = omega (arith, are.count, first.within);
  before = λ p low early.
      let i = p - first_data v.geometry in
      let at_place : first_data v.geometry + i ≡ p = omega arith in
      let within : i < length marks = omega (arith, first.within) in
      let at : min 2 (length (owners v p)) ≡ get_or marks i 0 = ap (λ b. min 2 (length (owners v b))) (sym at_place) ∙ sym (are.uses.each i within) in
      let small = first.before i (omega arith) in
      omega (arith, at, small);
  fails = λ once. omega (arith, once, are.uses.each place first.within, first.twice);
}

-- rule 10
pub names-once : (v : Volume) (marks : List ℕ) (number count : ℕ) → AreNameMarks v marks → count ≡ length marks → AreFew marks (length marks)
    → Holds (below number count (HasOneName v))
names-once v marks number count are same few p low below =
    let small = few p (omega arith) in omega (arith, are.names.each p (omega arith), small)

pub names-twice : (v : Volume) (marks : List ℕ) (number count place : ℕ) → AreNameMarks v marks → count ≡ length marks → IsFirstTwice marks place
    → FailsFirst (below number count (HasOneName v)) place
names-twice v marks number count place are same first = record {
  from = omega arith;
  within = omega (arith, first.within);
  before = λ p low early. let small = first.before p early in omega (arith, are.names.each p (omega (arith, first.within)), small);
  fails = λ once. omega (arith, once, are.names.each place first.within, first.twice);
}

-- The rules of the tree, in their order.
pub breaks-row : (v : Volume) (place : ℕ) → v.geometry.names ≡ length v.names → FailsFirst (rows_rule v) place → BreaksFirst (tree_rules v) 9 place
breaks-row v place count fails = inl (refl, rows-fail)
  where
    rows-fail : FailsFirst (below 9 v.geometry.names (λ k. IsRowPlaced v k (row v.names k))) place
    rows-fail = record { from = fails.from; within = omega (arith, fails.within); before = fails.before; fails = fails.fails }

pub rows-held : (v : Volume) → v.geometry.names ≡ length v.names → Holds (rows_rule v)
    → Holds (below 9 v.geometry.names (λ k. IsRowPlaced v k (row v.names k)))
rows-held v count held p low below = held p low (omega arith)

pub breaks-directories : (v : Volume) → v.geometry.names ≡ length v.names → Holds (rows_rule v) → (AreDirectoriesNamed v → ⊥)
    → BreaksFirst (tree_rules v) 9 v.geometry.names
breaks-directories v count rows none = inr (rows-held v count rows, inl (refl, fails-one 9 v.geometry.names (AreDirectoriesNamed v) none))

pub breaks-name : (v : Volume) (marks : List ℕ) (place : ℕ) → v.geometry.names ≡ length v.names → Holds (rows_rule v) → AreDirectoriesNamed v
    → v.geometry.inodes ≡ length v.inodes → AreNameMarks v marks → IsFirstTwice marks place → BreaksFirst (tree_rules v) 10 place
breaks-name v marks place count rows named inodes are twice =
    inr (
      rows-held v count rows,
      inr (
        holds-one 9 v.geometry.names (AreDirectoriesNamed v) named,
        inl (refl, names-twice v marks 10 v.geometry.inodes place are (inodes ∙ sym are.count) twice),
      ),
    )

pub tree-held : (v : Volume) (marks : List ℕ) → v.geometry.names ≡ length v.names → Holds (rows_rule v) → AreDirectoriesNamed v
    → v.geometry.inodes ≡ length v.inodes → AreNameMarks v marks → AreFew marks (length marks) → HoldAll (tree_rules v)
tree-held v marks count rows named inodes are few = (
  rows-held v count rows,
  (holds-one 9 v.geometry.names (AreDirectoriesNamed v) named, (names-once v marks 10 v.geometry.inodes are (inodes ∙ sym are.count) few, tt)),
)
