use Rattle.k_journal.specs.Recoveries.{AreJournaled}
use Rattle.pm_lines.specs.pm_model.Images.{words_of}
use Rattle.k_journal.proofs.recoveries.first_fault.Given as goal

abbrev pub invariant-loop-index : goal.invariant-loop-index
invariant-loop-index l = AreJournaled l.geometry l.index (words_of l.pm)
