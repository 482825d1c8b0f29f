use Rattle.std.proofs.Common.{◌≡◌, ◌≤◌, ◌<◌, ℕ, true, get_or}
use Rattle.k_reading.specs.image_model.Live.{is_directory}
use Rattle.k_reading.specs.image_model.Volume.{free_inode}
use Rattle.check_image.proofs.names.are_directories_named.Given as goal

-- the directories so far have names
abbrev pub invariant-loop-ino : goal.invariant-loop-ino
invariant-loop-ino l = (k : ℕ) → 0 < k → k < l.ino → is_directory (get_or l.inodes k free_inode).kind ≡ true → 1 ≤ get_or l.marks k 0
