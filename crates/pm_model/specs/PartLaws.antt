-- Laws of parts that go out and come back, by the place of a word within its part.
use Rattle.std.specs.Prelude.{◌≡◌, ◌+◌, ◌*◌, ◌/◌, ◌%◌, ◌<◌, ℕ, List}
use Rattle.std.proofs.Common.{arith}
use Rattle.std.proofs.Math.Nat.{div-add-mod}
use Rattle.std.proofs.lemmas.Nat.{same_from_place, mod_below}
use Rattle.pm_model.specs.declared.Cell.{Cell}
use Rattle.pm_model.specs.Cells.{cell, unmarked}
use Rattle.pm_model.specs.Parts.{GoesOut, ComesBack}

-- the part of a word, and its place there
pub part_of : (size n k : ℕ) → k < size → ((size * n + k) / size ≡ n) × ((size * n + k) % size ≡ k)
part_of size n k within =
    let i : ℕ = size * n + k in
    same_from_place (i / size) (i % size) n k size (mod_below i size (omega arith)) within (omega (arith, div-add-mod i size))

-- word k of a part that goes out
pub GoesOut-at : (size n : ℕ) (old new part : List Cell) (k : ℕ) → GoesOut size n old new part → k < size → cell part k ≡ cell old (size * n + k)
GoesOut-at size n old new part k out within =
    let at : ((size * n + k) / size ≡ n) × ((size * n + k) % size ≡ k) = part_of size n k within in
    rw at.1 at (out.words (size * n + k) at.0)

-- word k of a part that comes back
pub ComesBack-at : (size n : ℕ) (part old new : List Cell) (k : ℕ) → ComesBack size n part old new → k < size → cell new (size * n + k) ≡ unmarked (cell part k)
ComesBack-at size n part old new k back within =
    let at : ((size * n + k) / size ≡ n) × ((size * n + k) % size ≡ k) = part_of size n k within in
    rw at.1 at (back.words (size * n + k) at.0)
