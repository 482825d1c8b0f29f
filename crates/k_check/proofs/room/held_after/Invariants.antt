use Rattle.std.proofs.Common.{◌≡◌, ◌≤◌, ◌*◌, ◌^◌, cond}
use Rattle.std.specs.Prelude.{sum_by}
use Rattle.std.specs.List.{range_with_len}
use Rattle.block_counts.specs.Counts.{held_by}
use Rattle.check_image.specs.image_model.Content.{size_of}
use Rattle.check_image.specs.image_model.Room.{is_named_file}
use Rattle.check_image.specs.image_model.Volume.{Volume}
use Rattle.check_image.specs.Readings.{AreNameMarks}
use Rattle.k_check.proofs.room.held_after.Given as goal

-- what the files so far hold
abbrev pub invariant-loop-ino : goal.invariant-loop-ino
invariant-loop-ino l =
    (l.held ≤ l.ino * 2 ^ 53) × ((v : Volume) → v.inodes ≡ l.inodes → AreNameMarks v l.marks
    → l.held ≡ sum_by (λ ino. cond (is_named_file v ino) (held_by (size_of v l.live ino)) 0) (range_with_len 0 l.ino))
