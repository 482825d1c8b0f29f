use Rattle.std.proofs.Common.{◌<◌, ℕ}
use Rattle.oplog_entry.specs.pm_model.Cells.{cell}
use Rattle.oplog_entry.specs.layout_model.Places.{log_line}
use Rattle.check_image.specs.image_model.Honest.{SomeHasTwo}
use Rattle.k_check.proofs.crashes.log_has_two.Given as goal

-- no word of the slots so far has two candidates
abbrev pub invariant-loop-slot : goal.invariant-loop-slot
invariant-loop-slot l = (s : ℕ) → s < l.slot → ¬ SomeHasTwo (cell l.pm) (log_line l.geometry s)
