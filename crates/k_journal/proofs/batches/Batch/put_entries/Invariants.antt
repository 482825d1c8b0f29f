use Rattle.std.proofs.Common.{take}
use Rattle.k_journal.specs.Batch.{AreLaid}
use Rattle.k_journal.proofs.batches.Batch.put_entries.Given as goal

-- the entries so far are laid
abbrev pub invariant-loop-entry : goal.invariant-loop-entry
invariant-loop-entry l = AreLaid l.initial.self (take l.entry-index l.entries) l.self
