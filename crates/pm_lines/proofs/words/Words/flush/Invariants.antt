use Rattle.std.proofs.Common.{◌≡◌, length}
use Rattle.pm_model.specs.Cells.{flushed}
use Rattle.pm_lines.proofs.CellsLoops.{ChangedUpTo}
use Rattle.pm_lines.proofs.words.Words.flush.Given as goal

abbrev pub invariant-loop-word : goal.invariant-loop-word
invariant-loop-word l = record { size : length l.self ≡ length l.fn.self; words : ChangedUpTo flushed l.first l.word l.fn.self l.self }
