-- Blocks that follow one another, as one comes to them.
use Rattle.std.proofs.Common.{◌≡◌, ◌+◌, ◌-◌, ◌/◌, ◌<◌, ◌≤◌, ℕ, suc, List, [], ◌∷◌, ◌++◌, length, refl, sym, ◌∙◌, ap, arith, append_assoc, ⊎_elim}
use Rattle.std.proofs.lemmas.List.{get_or_at, get_or_append_left, get_or_push, length_push, append-nil}
use Rattle.std.proofs.lemmas.Bool.{cases_lt}
use Rattle.pm_lines.specs.pm_model.Words.{Words}
use Rattle.volume_laws.specs.image_model.Chains.{next_block, blocks_from}
use Rattle.volume_laws.specs.ChainLaws.{length-blocks_from}
use Rattle.volume_laws.specs.image_model.Placed.{block_at, AreInDevice}

-- n blocks, the first of them and those behind it
first_of : (f : Words) (b n m : ℕ) → n ≡ suc m → blocks_from f b n ≡ b ∷ blocks_from f (next_block f b) m
unfolding blocks_from
first_of f b n m one = rw one refl

-- one block more
pub linked_more : (f : Words) (root count b k : ℕ) (blocks : List ℕ) → k < count → blocks_from f root count ≡ blocks ++ blocks_from f b (count - k)
    → blocks_from f root count ≡ (blocks ++ b ∷ []) ++ blocks_from f (next_block f b) (count - (k + 1))
linked_more f root count b k blocks below linked =
    linked ∙ ap (λ rest. blocks ++ rest) (first_of f b (count - k) (count - (k + 1)) (omega arith))
    ∙ sym (append_assoc blocks (b ∷ []) (blocks_from f (next_block f b) (count - (k + 1))))

-- none is left
pub linked_all : (f : Words) (root count b k : ℕ) (blocks : List ℕ) → count ≤ k → blocks_from f root count ≡ blocks ++ blocks_from f b (count - k) → blocks ≡ blocks_from f root count
unfolding blocks_from
linked_all f root count b k blocks all linked =
    let none : count - k ≡ 0 = omega arith in
    sym (rw none at linked ∙ append-nil blocks)

pub in_device_more : (size b : ℕ) (blocks : List ℕ) → AreInDevice size blocks → b < size / 512 → AreInDevice size (blocks ++ b ∷ [])
in_device_more size b blocks in_device within k below = ⊎_elim
    (λ (h : k < length blocks). rw (get_or_append_left blocks (b ∷ []) 0 k h) (in_device k h))
    (λ (h : length blocks ≤ k). rw (get_or_push blocks b 0 k (omega (arith, length_push blocks b))) within)
    (cases_lt k (length blocks))

-- the next block is one of those that one comes to
pub linked_at : (f : Words) (root count b k : ℕ) (blocks : List ℕ) → k < count → length blocks ≡ k → blocks_from f root count ≡ blocks ++ blocks_from f b (count - k)
    → (k < length (blocks_from f root count)) × (block_at (blocks_from f root count) k ≡ b)
linked_at f root count b k blocks below at linked = (
  omega (arith, length-blocks_from f root count),
  ap (λ bs. block_at bs k) (linked ∙ ap (λ rest. blocks ++ rest) (first_of f b (count - k) (count - (k + 1)) (omega arith)))
      ∙ get_or_at blocks b (blocks_from f (next_block f b) (count - (k + 1))) 0 k at,
)
