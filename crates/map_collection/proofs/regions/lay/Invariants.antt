use Rattle.std.proofs.Common.{◌≡◌, ◌+◌, ◌<◌, ℕ, get_or, length, Some, None, cond, nat_lt}
use Rattle.std.specs.Prelude.{◌&&◌}
use Rattle.extent_map.specs.extent_model.Extents.{disk_in, holds}
use Rattle.map_collection.proofs.regions.lay.Given as goal

-- the blocks so far are laid
abbrev pub invariant-loop-block : goal.invariant-loop-block
invariant-loop-block l = record {
  size : length l.disks ≡ 512;
  blocks : (i : ℕ) → i < 512 → get_or l.disks i None
      ≡ cond (holds l.extent (l.first + i) && nat_lt (l.first + i) l.block) (Some (disk_in l.extent (l.first + i))) (get_or l.fn.disks i None);
}
