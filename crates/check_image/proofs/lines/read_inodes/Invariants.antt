use Rattle.k_journal.specs.layout_model.Journal.{journaled}
use Rattle.k_reading.specs.image_model.Rules.{HasInode}
use Rattle.k_reading.specs.image_model.Volume.{volume, free_inode}
use Rattle.k_journal.specs.pm_model.Images.{words_of}
use Rattle.check_image.proofs.Fronts.{IsFront}
use Rattle.check_image.proofs.lines.read_inodes.Given as goal

-- the inodes of the lines so far
abbrev pub invariant-loop-ino : goal.invariant-loop-ino
invariant-loop-ino l =
    IsFront free_inode (HasInode (journaled (words_of l.pm))) l.inodes.items (volume l.geometry (journaled (words_of l.pm))).inodes l.ino
