use Rattle.thread_laws.specs.Kept.{keeps_hands, sized_hands, starts_hands, tells_hands}
use Rattle.thread_laws.proofs.turns.a_turn_keeps_its_world.Goals as goal

pub returns-clause-sized : goal.returns-clause-sized
returns-clause-sized c = sized_hands

pub returns-clause-start : goal.returns-clause-start
returns-clause-start c = starts_hands

pub returns-clause-kept : goal.returns-clause-kept
returns-clause-kept c = keeps_hands

pub returns-clause-know : goal.returns-clause-know
returns-clause-know c = tells_hands
