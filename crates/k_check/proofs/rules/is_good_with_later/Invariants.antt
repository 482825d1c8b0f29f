use Rattle.std.proofs.Common.{◌≡◌, ℕ, ◌<◌, None}
use Rattle.std.specs.Prelude.{slice_index_or}
use Rattle.check_image.specs.image_model.Volume.{Volume}
use Rattle.k_check.specs.Slots.{IsGoodSlot}
use Rattle.k_check.proofs.rules.is_good_with_later.Given as goal

-- the slots so far
abbrev pub invariant-loop-later : goal.invariant-loop-later
invariant-loop-later l = (v : Volume) → v.inodes ≡ l.inodes → (t : ℕ) → l.place < t → t < l.later → IsGoodSlot v l.draft (slice_index_or l.slots t None)
