use Rattle.world_begins.proofs.Rooming.{turn_now}
use Rattle.world_begins.proofs.begins.begins.begin_free.Goals as goal

pub begin_call-requires-clause-turn : goal.begin_call-requires-clause-turn
begin_call-requires-clause-turn c =
    turn_now c.args.p.now c.make_room.new.p c.args.who c.args.call c.in-Ok.ensures.kept c.in-Ok.ensures.view c.in-Ok.ensures.room c.requires.usable c.requires.out c.requires.next c.requires.none c.requires.set_up c.requires.going c.requires.awake c.requires.idle
