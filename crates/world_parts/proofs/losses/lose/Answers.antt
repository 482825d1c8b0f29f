use Rattle.world_parts.proofs.Losing.{lost_kept}
use Rattle.world_parts.proofs.losses.lose.Goals as goal

pub returns-clause-kept : goal.returns-clause-kept
returns-clause-kept c = lost_kept c.args.p.now c.requires.kept
