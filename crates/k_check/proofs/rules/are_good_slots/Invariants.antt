use Rattle.std.proofs.Common.{◌≡◌, ℕ, ◌<◌, None}
use Rattle.std.specs.Prelude.{slice_index_or}
use Rattle.check_image.specs.image_model.Volume.{Volume}
use Rattle.k_check.specs.Slots.{IsGoodWithLater}
use Rattle.k_check.proofs.rules.are_good_slots.Given as goal

-- the slots so far
abbrev pub invariant-loop-place : goal.invariant-loop-place
invariant-loop-place l = (v : Volume) → v.inodes ≡ l.inodes → (s : ℕ) → s < l.place → IsGoodWithLater v l.slots s (slice_index_or l.slots s None)
