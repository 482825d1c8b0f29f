use Rattle.std.proofs.Common.{subst, sym}
use Rattle.world_parts.specs.world_view_laws.Begins.{LosesCall}
use Rattle.world_parts.specs.declared.parts.Parts.{Parts}
use Rattle.world_parts.specs.Seen.{IsKept, seen}
use Rattle.world_parts.proofs.Adding.{few_acts}
use Rattle.world_begins.proofs.Rooming.{off_kept, off_loses}
use Rattle.world_begins.proofs.begins.begins.begin_off.Goals as goal

pub lose_call-requires : goal.lose_call-requires
lose_call-requires c = few_acts c.args.p.now c.requires.kept

pub returns-clause-kept : goal.returns-clause-kept
returns-clause-kept c = subst IsKept (sym c.lose_call.ensures) (off_kept c.args.p.now c.requires.kept c.requires.awake c.args.who c.args.call c.requires.next c.requires.none c.requires.set_up)

pub returns-clause-loses : goal.returns-clause-loses
returns-clause-loses c power off =
    subst (λ (r : Parts). LosesCall c.args.who (seen c.args.p.now) (seen r) power) (sym c.lose_call.ensures) (off_loses c.args.p.now c.requires.kept c.requires.awake c.args.who c.args.call power c.requires.next off)
