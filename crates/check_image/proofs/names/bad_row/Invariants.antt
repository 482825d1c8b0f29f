use Rattle.std.proofs.Common.{◌≡◌, ◌<◌, ℕ}
use Rattle.k_reading.specs.layout_model.Names.{row}
use Rattle.k_reading.specs.image_model.Rules.{IsRowPlaced}
use Rattle.k_reading.specs.image_model.Volume.{Volume}
use Rattle.check_image.proofs.names.bad_row.Given as goal

-- the rows so far keep the rule
abbrev pub invariant-loop-line : goal.invariant-loop-line
invariant-loop-line l = (v : Volume) → v.inodes ≡ l.inodes → v.names ≡ l.names → (k : ℕ) → k < l.line → IsRowPlaced v k (row v.names k)
