use Rattle.oplog_entry.specs.pm_model.Words.{word_at}
use Rattle.k_check.specs.Crashes.{IsCrashImage}
use Rattle.k_check.proofs.crashes.settle_log.Given as goal

-- the slots so far are settled
abbrev pub invariant-loop-slot : goal.invariant-loop-slot
invariant-loop-slot l = IsCrashImage l.geometry l.choice l.pm l.slot (word_at l.bytes)
