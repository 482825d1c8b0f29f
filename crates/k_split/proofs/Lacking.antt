-- Changes that lack blocks: they are not made with those that are free.
use Rattle.std.proofs.Common.{◌≡◌, ◌≢◌, ◌≤◌, ◌<◌, ◌+◌, ℕ, zero, suc, Bool, true, false, List, [], ◌∷◌, ◌++◌, length, get_or, refl, sym, ◌∙◌, ap, subst, arith, inl, inr}
use Rattle.std.specs.Prelude.{All, count_by, nat_lt}
use Rattle.std.specs.List.{range_with_len}
use Rattle.std.proofs.lemmas.Bool.{cases_lt}
use Rattle.std.proofs.lemmas.Bool.Decides.{nat_tests}
use Rattle.std.proofs.lemmas.List.Sums.{sum_by-cons}
use Rattle.block_io.specs.extent_model.Counts.{one_if}
use Rattle.block_io.specs.extent_model.declared.extent_words.Extent.{Extent}
use Rattle.block_io.specs.extent_model.Moves.{Moves}
use Rattle.block_io.specs.extent_model.Spelling.{has_one_spelling}
use Rattle.block_io.specs.image_model.Volume.{chain, extents, Volume}
use Rattle.block_io.specs.layout_model.Places.{data_blocks, first_data, Geometry, is_data_block}
use Rattle.block_io.specs.k_split_model.MapChangesChanges.{TakesChain}
use Rattle.block_io.specs.k_split_model.Taken.{AreLowest}
use Rattle.block_io.specs.k_split_model.declared.map_changes.moves.Move.{Move}
use Rattle.posix_tables.specs.block_counts.Counts.{blocks_for, chains_for}
use Rattle.k_group_commit.specs.OpenLaws.{free-unused}
use Rattle.k_map_plans.specs.Plans.{WantsToCut, WantsToMove}
use Rattle.k_map_plans.specs.k_plans.Free.{free_blocks, is_free_block}
use Rattle.k_map_plans.specs.k_plans.View.{TablesView}
use Rattle.k_map_plans.specs.volume_change_laws.Switches.{unused-data}
use Rattle.k_tables.specs.k_split_model.View.{View}
use Rattle.k_split.specs.MapChanges.{free_blocks_in, is_free_in, IsMovedWith, IsSizedWith}

-- Numbers that rise, pass a test and lie in a range are no more than those of the range that pass it.
rising-counted : (P : ℕ → Bool) (n first : ℕ) (bs : List ℕ) → ((j k d : ℕ) → j < k → k < length bs → get_or bs j d < get_or bs k d)
    → ((k d : ℕ) → k < length bs → P (get_or bs k d) ≡ true) → ((k d : ℕ) → k < length bs → first ≤ get_or bs k d)
    → ((k d : ℕ) → k < length bs → get_or bs k d < first + n) → length bs ≤ count_by P (range_with_len first n)
rising-counted P n first [] rising passes low high = omega arith
rising-counted P zero first (b ∷ bs) rising passes low high =
    let least : first ≤ b = low 0 0 (omega arith) in
    let most : b < first + 0 = high 0 0 (omega arith) in
    absurd (omega (arith, least, most))
rising-counted P (suc n) first (b ∷ bs) rising passes low high = elim (cases_lt first b) [
  | inl later ↦
      let rest = rising-counted P n (first + 1) (b ∷ bs) rising passes (above later)
      (λ k d below. let most = high k d below in omega (arith, most))
      in
      omega (arith, rest, sum_by-cons (λ x. one_if (P x)) first (range_with_len (first + 1) n))
  | inr same ↦
      let least : first ≤ b = low 0 0 (omega arith) in
      let here : b ≡ first = omega (arith, least, same) in
      let rest = rising-counted P n (first + 1) bs (λ j k d before below. rising (suc j) (suc k) d (omega (arith, before)) (omega (arith, below)))
      (λ k d below. passes (suc k) d (omega (arith, below)))
      (λ k d below. let more : b < get_or bs k d = rising 0 (suc k) d (omega arith) (omega (arith, below)) in omega (arith, more, here))
      (λ k d below. let most = high (suc k) d (omega (arith, below)) in omega (arith, most))
      in
      let one : one_if (P first) ≡ 1 = ap one_if (ap P (sym here) ∙ passes 0 0 (omega arith)) in
      omega (arith, rest, one, sum_by-cons (λ x. one_if (P x)) first (range_with_len (first + 1) n))
]
  where
    above : first < b → (k d : ℕ) → k < length (b ∷ bs) → first + 1 ≤ get_or (b ∷ bs) k d
    above later zero d below = omega (arith, later)
    above later (suc k) d below = let more : b < get_or bs k d = rising 0 (suc k) d (omega arith) below in omega (arith, more, later)

-- the lowest free blocks are no more than there are
pub lowest-few : (t : TablesView) (n : ℕ) (blocks : List ℕ) → AreLowest (is_free_block t) n blocks → n ≤ free_blocks t
lowest-few t n blocks lowest =
    let counted =
    rising-counted (is_free_block t) (data_blocks t.volume.geometry) (first_data t.volume.geometry) blocks
    (λ j k d before below. lowest.rising j k d before below) (λ k d below. lowest.were_free k d below) low high
    in
    omega (arith, counted, lowest.count)
  where
    in_data : (k d : ℕ) → k < length blocks → is_data_block t.volume.geometry (get_or blocks k d) ≡ true
    in_data k d below = unused-data t.volume (get_or blocks k d) (free-unused t (get_or blocks k d) (lowest.were_free k d below))

    least-of : (g : Geometry) (b : ℕ) → is_data_block g b ≡ true → first_data g ≤ b
    least-of g b is = grind (arith, nat_tests)

    most-of : (g : Geometry) (b : ℕ) → is_data_block g b ≡ true → b < first_data g + data_blocks g
    most-of g b is = grind (arith, nat_tests)

    low : (k d : ℕ) → k < length blocks → first_data t.volume.geometry ≤ get_or blocks k d
    low k d below = least-of t.volume.geometry (get_or blocks k d) (in_data k d below)

    high : (k d : ℕ) → k < length blocks → get_or blocks k d < first_data t.volume.geometry + data_blocks t.volume.geometry
    high k d below = most-of t.volume.geometry (get_or blocks k d) (in_data k d below)

-- tables with the free blocks of a view
abbrev of_view : View → TablesView
of_view k = record { volume = k.volume; aside = []; waiting = k.waiting }

-- a cut that wants more blocks than are free
pub cut-lacks : (ino size : ℕ) (k : View) (n : ℕ) → WantsToCut ino size k.volume n → free_blocks_in k < n → (w : Volume) (blocks : List ℕ)
    → IsSizedWith ino size k w blocks → ⊥
cut-lacks ino size k n wants few w blocks is = by is.sized.taken
  where
    same : is.sized.es ≡ wants.0
    same = has_one_spelling is.sized.es wants.0 is.sized.cut.canonical wants.1.canonical (λ b. is.sized.cut.blocks b ∙ sym (wants.1.blocks b))

    by : TakesChain (is_free_in k) (extents k.volume ino) is.sized.es (chain k.volume ino) is.sized.blocks → ⊥
    by (inl kept) = wants.2 (sym same ∙ kept.0)
    by (inr fresh) =
        let least = lowest-few (of_view k) (chains_for (length is.sized.es)) is.sized.blocks fresh.1 in
        let lengths : length is.sized.es ≡ length wants.0 = ap (λ (es : List Extent). length es) same in
        let need : chains_for (length is.sized.es) ≡ n = ap chains_for lengths ∙ sym wants.3 in
        omega (arith, least, need, few)

-- a move that wants more blocks than are free
pub move-lacks : (m : Move) (k : View) (n : ℕ) → WantsToMove m k.volume n → free_blocks_in k < n → (w : Volume) (blocks : List ℕ)
    → IsMovedWith m k w blocks → ⊥
move-lacks m k n wants few w blocks is =
    let moves : Moves m.staging_block m.file_block m.count (extents k.volume m.staging) (extents k.volume m.ino) wants.0 wants.1 wants.2 = wants.3 in
    let left : is.moved.left ≡ wants.0 =
    has_one_spelling is.moved.left wants.0 is.moved.moves.source.canonical moves.source.canonical (λ b. is.moved.moves.source.blocks b ∙ sym (moves.source.blocks b))
    in
    let linked : is.moved.linked ≡ wants.1 =
    has_one_spelling is.moved.linked wants.1 is.moved.moves.canonical moves.canonical (λ b. is.moved.moves.target b ∙ sym (moves.target b))
    in
    let least =
    lowest-few (of_view k) (chains_for (length is.moved.linked) + chains_for (length is.moved.left)) (is.moved.blocks ++ is.moved.rest) is.moved.taken
    in
    let first : chains_for (length is.moved.linked) ≡ chains_for (length wants.1) = ap (λ (es : List Extent). chains_for (length es)) linked in
    let second : chains_for (length is.moved.left) ≡ chains_for (length wants.0) = ap (λ (es : List Extent). chains_for (length es)) left in
    omega (arith, least, first, second, wants.4, few)
