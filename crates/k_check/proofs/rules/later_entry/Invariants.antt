use Rattle.std.proofs.Common.{ℕ, ◌<◌}
use Rattle.oplog_entry.specs.layout_model.Journal.{journaled}
use Rattle.oplog_entry.specs.pm_model.Images.{words_of}
use Rattle.k_check.specs.Slots.{IsNoLaterAt}
use Rattle.k_check.proofs.rules.later_entry.Given as goal

-- the slots so far
abbrev pub invariant-loop-slot : goal.invariant-loop-slot
invariant-loop-slot l = (s : ℕ) → s < l.slot → IsNoLaterAt l.geometry l.base (journaled (words_of l.pm)) s
