-- the rows
use Rattle.image_laws.specs.HeadDamage.{record_of_line_5, commit_word_129, log_base_0, log_base_past}
use Rattle.image_laws.proofs.damages.wrong_journals.Goals as goal

pub returns-clause-record : goal.returns-clause-record
returns-clause-record c = record_of_line_5

pub returns-clause-count : goal.returns-clause-count
returns-clause-count c = commit_word_129

pub returns-clause-none : goal.returns-clause-none
returns-clause-none c = log_base_0

pub returns-clause-past : goal.returns-clause-past
returns-clause-past c = log_base_past
