use Rattle.std.proofs.Common.{subst}
use Rattle.split_world.specs.world_parts.Answers.{IsReady}
use Rattle.split_machine.proofs.Looks.{busy_kept, busy_next, end_kept, out_able, out_next, over_kept, yes_able}
use Rattle.split_machine.proofs.picks.look.Goals as goal

pub returns-in-Yes-clause-able : goal.returns-in-Yes-clause-able
returns-in-Yes-clause-able c = yes_able c.args.world.now c.args.who c.requires.awake (subst (IsReady c.args.world.now c.args.who) c.in-Yes.is c.ready.ensures)

pub returns-in-Yes-clause-goes_on : goal.returns-in-Yes-clause-goes_on
returns-in-Yes-clause-goes_on c is = (subst (IsReady c.args.world.now c.args.who) c.in-Yes.is c.ready.ensures).2

pub returns-in-Out-clause-able : goal.returns-in-Out-clause-able
returns-in-Out-clause-able c = out_able c.args.world.now c.args.who c.requires.awake (subst (IsReady c.args.world.now c.args.who) c.in-Out.is c.ready.ensures)

pub returns-in-Out-clause-goes_on : goal.returns-in-Out-clause-goes_on
returns-in-Out-clause-goes_on c is = out_next c.args.world.now c.args.who c.requires.awake c.requires.next (subst (IsReady c.args.world.now c.args.who) c.in-Out.is c.ready.ensures)

pub returns-in-ScriptEnd-clause-able : goal.returns-in-ScriptEnd-clause-able
returns-in-ScriptEnd-clause-able c = end_kept c.args.world.now c.args.who c.requires.awake (subst (IsReady c.args.world.now c.args.who) c.in-ScriptEnd.is c.ready.ensures)

pub returns-in-ScriptEnd-clause-ended : goal.returns-in-ScriptEnd-clause-ended
returns-in-ScriptEnd-clause-ended c is = (subst (IsReady c.args.world.now c.args.who) c.in-ScriptEnd.is c.ready.ensures).1

pub returns-in-RoundOver-clause-able : goal.returns-in-RoundOver-clause-able
returns-in-RoundOver-clause-able c = over_kept c.args.world.now c.args.who c.requires.awake (subst (IsReady c.args.world.now c.args.who) c.in-RoundOver.is c.ready.ensures)

pub returns-in-RoundOver-clause-goes_on : goal.returns-in-RoundOver-clause-goes_on
returns-in-RoundOver-clause-goes_on c is = (subst (IsReady c.args.world.now c.args.who) c.in-RoundOver.is c.ready.ensures).1

pub returns-in-Busy-clause-able : goal.returns-in-Busy-clause-able
returns-in-Busy-clause-able c = busy_kept c.args.world.now c.args.who c.requires.awake c.in-Busy.ino c.in-Busy.holder (subst (IsReady c.args.world.now c.args.who) c.in-Busy.is c.ready.ensures)

pub returns-in-Busy-clause-goes_on : goal.returns-in-Busy-clause-goes_on
returns-in-Busy-clause-goes_on c is = busy_next c.args.world.now c.args.who c.requires.awake c.in-Busy.ino c.in-Busy.holder (subst (IsReady c.args.world.now c.args.who) c.in-Busy.is c.ready.ensures)
