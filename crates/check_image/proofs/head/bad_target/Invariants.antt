use Rattle.std.proofs.Common.{◌<◌, ℕ}
use Rattle.k_reading.specs.image_model.Rules.{HasTarget}
use Rattle.k_journal.specs.pm_model.Images.{words_of}
use Rattle.check_image.proofs.head.bad_target.Given as goal

-- the records so far have journaled targets
abbrev pub invariant-loop-record : goal.invariant-loop-record
invariant-loop-record l = (r : ℕ) → r < l.record → HasTarget l.geometry (words_of l.pm) r
