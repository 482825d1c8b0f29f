use Rattle.std.proofs.Common.{◌≡◌, ◌+◌, ◌<◌, ◌≤◌, ℕ, drop, get_or, length, None}
use Rattle.extent_map.specs.extent_model.Extents.{disk_at}
use Rattle.map_collection.proofs.regions.disks_from.Given as goal

-- the extents from the last one on are laid
abbrev pub invariant-loop-left : goal.invariant-loop-left
invariant-loop-left l = record {
  size : length l.disks.items ≡ 512;
  within : l.left ≤ length l.extents;
  blocks : (i : ℕ) → i < 512 → get_or l.disks.items i None ≡ disk_at (drop l.left l.extents) (l.first + i);
}

abbrev pub decreases-loop-left : goal.decreases-loop-left
decreases-loop-left l = l.left
