use Rattle.std.specs.Prelude.{◌≡◌}
use Rattle.std.proofs.Common.{rules}
use Rattle.std.proofs.lemmas.Result.{IfOk-weaker}
use Rattle.posix_laws.specs.posix_types.declared.call.Mode.{Mode}
use Rattle.crash_judge.proofs.FrontLaws.{judged}
use Rattle.crash_judge.proofs.judging.judge.Goals as goal

pub returns-in-Posix : goal.returns-in-Posix
returns-in-Posix c =
    let mode : c.args.mode ≡ Mode.Posix = first_of (search rules, cc) in
    record {
      exact = IfOk-weaker c.is_posix.result _ _
          (λ b is. judged c.args.mode c.args.shape c.args.start.now c.in_ok-first.first c.args.history.now c.args.unfinished.now c.args.after.now b mode c.in_ok-first.ensures is) c.is_posix.ensures;
    }
