-- What a chain that is written leaves: outside its blocks, and in them.
use Rattle.std.proofs.Common.{◌≡◌, ◌≢◌, ◌⊎◌, ◌+◌, ◌*◌, ◌/◌, ◌%◌, ◌<◌, ◌≤◌, ℕ, zero, suc, List, [], ◌∷◌, length, if◌then◌else◌, ◌==◌, refl, sym, ◌∙◌, ap, arith, inl, inr, ⊎_elim}
use Rattle.std.proofs.lemmas.Bool.{cases_eq, eq-eqb, ne_eqb, both_ways}
use Rattle.pm_lines.specs.pm_model.declared.Cell.{Cell}
use Rattle.pm_lines.specs.pm_model.CellLaws.{single-home, newest-candidate, candidate-settles, settled-single}
use Rattle.pm_lines.specs.pm_model.Cells.{cell, is_lent, newest, IsCandidate, Settles}
use Rattle.pm_lines.specs.pm_model.Frames.{KeepsSingle}
use Rattle.pm_lines.specs.pm_model.Images.{IsImage, Follows}
use Rattle.pm_lines.specs.pm_model.Words.{Words}
use Rattle.extent_map.specs.extent_model.declared.extent_words.Extent.{Extent}
use Rattle.volume_laws.specs.image_model.Chains.{chain_word, SpellsChain}
use Rattle.volume_laws.specs.ChainLaws.{spells-stands, reads_back}
use Rattle.volume_laws.specs.image_model.Placed.{block_at, part_at, AreSingle, IsOutside}
use Rattle.volume_laws.specs.image_model.Standing.{FitHalves}
use Rattle.extent_map.specs.extent_model.Extents.{IsCanonical}
use Rattle.map_chain.specs.Writes.{HasChainWords, MayWrite, SameOutside, IsWritten}

-- one of the blocks is b, or none is
find_block : (blocks : List ℕ) (b : ℕ) → ((k : ℕ) × (k < length blocks) × (block_at blocks k ≡ b)) ⊎ ((k : ℕ) → k < length blocks → block_at blocks k ≢ b)
find_block [] b = inr (λ k below at. absurd (omega arith))
find_block (c ∷ blocks) b = ⊎_elim
    (λ (e : c ≡ b). inl (0, omega arith, e))
    (λ (ne : c ≢ b). ⊎_elim
    (λ (found : (k : ℕ) × (k < length blocks) × (block_at blocks k ≡ b)). inl (suc found.0, omega (arith, found.1), found.2))
    (λ (none : (k : ℕ) → k < length blocks → block_at blocks k ≢ b). inr (λ k. later c b blocks ne none k))
    (find_block blocks b))
    (cases_eq c b)
  where
    later : (c b : ℕ) (blocks : List ℕ) → c ≢ b → ((k : ℕ) → k < length blocks → block_at blocks k ≢ b) → (k : ℕ) → k < length (c ∷ blocks) → block_at (c ∷ blocks) k ≢ b
    later c b blocks ne none zero below = ne
    later c b blocks ne none (suc k) below = none k (omega arith)

-- the image with the old words in the blocks
before : List ℕ → List Cell → Words → Words
before [] old image i = image i
before (b ∷ blocks) old image i = if b == i / 512 then newest (cell old i) else before blocks old image i

outside-rest : (b : ℕ) (blocks : List ℕ) (i : ℕ) → IsOutside (b ∷ blocks) i → IsOutside blocks i
outside-rest b blocks i out k below = out (suc k) (omega arith)

outside-more : (b : ℕ) (blocks : List ℕ) (i : ℕ) → b ≢ i / 512 → IsOutside blocks i → IsOutside (b ∷ blocks) i
outside-more b blocks i ne out zero below = ne
outside-more b blocks i ne out (suc k) below = out k (omega arith)

before-outside : (blocks : List ℕ) (old : List Cell) (image : Words) (i : ℕ) → IsOutside blocks i → before blocks old image i ≡ image i
unfolding before
before-outside [] old image i out = refl
before-outside (b ∷ blocks) old image i out =
    rw (ne_eqb b (i / 512) (out 0 (omega arith))) (before-outside blocks old image i (outside-rest b blocks i out))

before-candidate : (blocks : List ℕ) (old : List Cell) (image : Words) (i : ℕ) → (IsOutside blocks i → IsCandidate (cell old i) (image i)) → IsCandidate (cell old i) (before blocks old image i)
unfolding before
before-candidate [] old image i candidate = candidate (λ k below. absurd (omega arith))
before-candidate (b ∷ blocks) old image i candidate = ⊎_elim
    (λ (e : b ≡ i / 512). rw (eq-eqb b (i / 512) e) (newest-candidate (cell old i)))
    (λ (ne : b ≢ i / 512). rw (ne_eqb b (i / 512) ne) (before-candidate blocks old image i (λ out. candidate (outside-more b blocks i ne out))))
    (cases_eq b (i / 512))

-- Where the words outside the blocks settle, each image comes from one that is the same there.
pub follows : (blocks : List ℕ) (old new : List Cell) → AreSingle blocks old → ((i : ℕ) → IsOutside blocks i → Settles (cell old i) (cell new i))
    → Follows (SameOutside blocks) old new
follows blocks old new single others image is = (
  before blocks old image,
  record {
    is_image = λ i. before-candidate blocks old image i (λ out. candidate-settles (cell old i) (cell new i) (image i) (others i out) (is i));
    lent = λ i lent. before-outside blocks old image i (λ k below at. both_ways (is_lent (cell old i)) (single-home (cell old i) (single k i below (sym at))) lent);
  },
  λ i out. sym (before-outside blocks old image i out),
)

-- words of one candidate have one again
pub keeps : (blocks : List ℕ) (es : List Extent) (old new : List Cell) → HasChainWords blocks es new → ((i : ℕ) → IsOutside blocks i → Settles (cell old i) (cell new i))
    → KeepsSingle old new
keeps blocks es old new words others i single = ⊎_elim
    (λ (found : (k : ℕ) × (k < length blocks) × (block_at blocks k ≡ i / 512)). rw (words found.0 i found.1 (sym found.2)) refl)
    (λ (none : (k : ℕ) → k < length blocks → block_at blocks k ≢ i / 512). rw (settled-single (cell old i) (cell new i) (others i none) single) refl)
    (find_block blocks (i / 512))

-- each image has the chain
spelled : (blocks : List ℕ) (es : List Extent) (new : List Cell) (image : Words) → HasChainWords blocks es new → length es ≤ 255 * length blocks → IsImage new image
    → SpellsChain image blocks es
spelled blocks es new image words room is = spells-stands image blocks es (record {
  words = λ k j below word.
      let i : ℕ = 512 * block_at blocks k + j in
      let place : i % 512 ≡ j = omega arith in
      rw (words k i below (omega arith)) at (is i) ∙ ap (chain_word (block_at blocks (k + 1)) (part_at es k)) place;
  room = room;
})

-- each image has the chain, and is as one before outside its blocks
pub written : (blocks : List ℕ) (es : List Extent) (old new : List Cell) → MayWrite es blocks old → FitHalves blocks → IsCanonical es
    → ((i : ℕ) → IsOutside blocks i → Settles (cell old i) (cell new i)) → HasChainWords blocks es new → Follows (IsWritten (length old) es blocks) old new
written blocks es old new may small canonical others words image is =
    let same = follows blocks old new may.single others image is in (
      same.0,
      same.1,
      record {
        chain = reads_back image (length old) blocks es may.count small may.in_device canonical (spelled blocks es new image words (omega (arith, may.count)) is);
        others = same.2;
      },
    )
