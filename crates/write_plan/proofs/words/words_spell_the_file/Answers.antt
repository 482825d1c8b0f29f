use Rattle.write_plan.proofs.Spelled.{stages_the_file, stands_readable}
use Rattle.write_plan.proofs.words.words_spell_the_file.Goals as goal

pub returns : goal.returns
returns c = record { readable = stands_readable; staged = stages_the_file }
