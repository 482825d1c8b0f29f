use Rattle.std.proofs.lemmas.Result.{IfOk-weaker}
use Rattle.crash_judge.proofs.FrontLaws.{here_decided}
use Rattle.crash_judge.proofs.judging.posix.is_kept_here.Goals as goal

pub returns : goal.returns
returns c =
    IfOk-weaker c.is_left.result _ _
    (λ b is. here_decided c.args.state.now c.args.later.now c.args.unfinished.now c.args.left.now c.args.effects.now c.args.extra.now b (cc) c.requires.effects c.requires.extra is) c.is_left.ensures
