use Rattle.std.proofs.Common.{◌≡◌, ℕ, take}
use Rattle.std.specs.Option.{option_or}
use Rattle.extent_map.specs.extent_model.Extents.{disk_at, IsCanonical}
use Rattle.k_relink.specs.Steps.{moved_at}
use Rattle.k_relink.proofs.linking.lay.Given as goal

-- the pieces so far are laid
abbrev pub invariant-loop-piece : goal.invariant-loop-piece
invariant-loop-piece l = record {
  canonical : IsCanonical l.map;
  blocks : (b : ℕ) → disk_at l.map b ≡ option_or (moved_at l.from l.to (take l.piece-index l.pieces) b) (disk_at l.initial.map b);
}
