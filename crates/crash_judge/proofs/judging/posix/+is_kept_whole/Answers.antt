use Rattle.std.specs.Prelude.{◌≡◌, length, List}
use Rattle.std.proofs.Common.{arith, rules, subst, sym}
use Rattle.std.proofs.lemmas.Result.{IfOk-weaker}
use Rattle.crash_judge.specs.declared.judge_bytes.effects.Effect.{Effect}
use Rattle.crash_judge.specs.Effects.{AreEffects}
use Rattle.crash_judge.proofs.FrontLaws.{empty, whole_none}
use Rattle.crash_judge.proofs.judging.posix.+is_kept_whole.Goals as goal

pub returns-in_ok-extra-in-None : goal.returns-in_ok-extra-in-None
returns-in_ok-extra-in-None t c =
    let size : length c.args.unfinished.now ≡ 0 = first_of (search rules, omega arith) in
    let none = empty c.args.unfinished.now size in
    let are : AreEffects c.args.history.now c.args.idle.now c.deref.result.now =
    subst (λ (es : List Effect). AreEffects c.args.history.now c.args.idle.now es) (sym c.deref.ensures.value) c.in_ok-extra-in-None.ensures in
    IfOk-weaker c.is_left.result _ _
    (λ b is. whole_none c.args.history.now c.args.acting.now c.args.idle.now c.args.unfinished.now c.args.left.now c.deref.result.now b none are is) c.is_left.ensures
