use Rattle.std.proofs.Common.{ap, sym, subst}
use Rattle.world_begins.specs.world_parts.world_view_laws.Losses.{KeepsActed, MayCrash}
use Rattle.world_begins.specs.world_parts.world_view_laws.Rounds.{IsLeft}
use Rattle.world_begins.specs.world_parts.world_view_laws.Views.{WorldView}
use Rattle.world_begins.specs.world_parts.Seen.{seen}
use Rattle.world_rounds.proofs.Settles.{acted_lost, left_lost, may_lost}
use Rattle.split_world.proofs.world.World.crash.Goals as goal

pub crash_lost-requires-clause-may : goal.crash_lost-requires-clause-may
crash_lost-requires-clause-may c =
    subst (λ (w : WorldView). MayCrash w c.args.lines.items c.args.out.items c.args.filled.items) (sym (ap seen c.lose.ensures.lost))
    (may_lost (seen c.self.inside.parts) c.args.lines.items c.args.out.items c.args.filled.items
    (subst (λ (w : WorldView). MayCrash w c.args.lines.items c.args.out.items c.args.filled.items) (sym c.self.view_is) c.requires.may))

pub returns-clause-left : goal.returns-clause-left
returns-clause-left c =
    subst (λ (w : WorldView). IsLeft w c.crash_lost.result.pm c.crash_lost.result.history.items c.crash_lost.result.unfinished.items) c.self.view_is
    (left_lost (seen c.self.inside.parts) c.args.lines.items c.args.out.items c.args.filled.items c.crash_lost.result.pm c.crash_lost.result.history.items c.crash_lost.result.unfinished.items
    (subst (λ (w : WorldView). IsLeft w c.crash_lost.result.pm c.crash_lost.result.history.items c.crash_lost.result.unfinished.items) (ap seen c.lose.ensures.lost) c.crash_lost.ensures.left))

pub returns-clause-acted : goal.returns-clause-acted
returns-clause-acted c =
    subst (λ (w : WorldView). KeepsActed w c.args.lines.items c.args.filled.items c.crash_lost.result.pm) c.self.view_is
    (acted_lost (seen c.self.inside.parts) c.args.lines.items c.args.out.items c.args.filled.items c.crash_lost.result.pm
    (subst (λ (w : WorldView). KeepsActed w c.args.lines.items c.args.filled.items c.crash_lost.result.pm) (ap seen c.lose.ensures.lost) c.crash_lost.ensures.acted))
