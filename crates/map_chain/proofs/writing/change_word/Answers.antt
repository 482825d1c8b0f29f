use Rattle.std.proofs.Common.{rules}
use Rattle.map_chain.proofs.writing.change_word.Goals as goal

pub returns-clause-done : goal.returns-clause-done
returns-clause-done c = search rules

pub returns-then-read_word-value-clause-done : goal.returns-then-read_word-value-clause-done
returns-then-read_word-value-clause-done c = search rules
