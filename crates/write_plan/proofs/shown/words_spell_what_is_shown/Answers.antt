use Rattle.write_plan.proofs.Spelled.{stages_what_is_shown}
use Rattle.write_plan.proofs.shown.words_spell_what_is_shown.Goals as goal

pub returns : goal.returns
returns c = stages_what_is_shown
