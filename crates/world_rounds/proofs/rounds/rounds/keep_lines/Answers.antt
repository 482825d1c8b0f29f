use Rattle.world_rounds.proofs.Checking.{before_kept}
use Rattle.world_rounds.proofs.rounds.rounds.keep_lines.Goals as goal

pub returns-clause-kept : goal.returns-clause-kept
returns-clause-kept c =
    before_kept c.a_checkpoint_ends_a_round.ensures.before c.args.p.now c.keep_home.new.p c.args.lines.items c.requires.kept c.requires.gone c.requires.may c.keep_home.ensures.home c.keep_home.ensures.rest
