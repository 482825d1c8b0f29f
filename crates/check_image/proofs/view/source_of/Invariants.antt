use Rattle.std.proofs.Common.{◌/◌, ◌<◌, length}
use Rattle.k_journal.specs.pm_model.Images.{words_of}
use Rattle.check_image.proofs.Views.{StandsAt}
use Rattle.check_image.proofs.view.source_of.Given as goal

-- the line stands there after the records so far
abbrev pub invariant-loop-record : goal.invariant-loop-record
invariant-loop-record l = (l.source < length l.pm / 8) × StandsAt (words_of l.pm) l.record l.line l.source
