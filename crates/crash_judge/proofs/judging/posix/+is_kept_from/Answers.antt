use Rattle.std.specs.Prelude.{◌≡◌, true, ◌∷◌, refl}
use Rattle.std.proofs.Common.{rules}
use Rattle.std.proofs.lemmas.Result.{IfOk-weaker}
use Rattle.crash_judge.proofs.FrontLaws.{from_more, here_from}
use Rattle.crash_judge.proofs.judging.posix.+is_kept_from.Goals as goal

pub returns-then-branch : goal.returns-then-branch
returns-then-branch t c = (λ _. here_from _ _ _ _ (c.in_ok-is_kept_here.ensures.0 c.if-branch.true), λ _. refl)

pub returns-in_ok-next-in-Some-Some : goal.returns-in_ok-next-in-Some-Some
returns-in_ok-next-in-Some-Some t c =
    let parts : c.args.later.now ≡ c.in-Some-Some.item.now ∷ c.in-Some-Some.later.now = first_of (search rules, cc) in
    IfOk-weaker c.is_kept_from.result _ _
    (λ b is. from_more c.args.state.now c.in_ok-next-in-Some-Some.next c.args.later.now c.in-Some-Some.later.now c.in-Some-Some.item.now c.args.unfinished.now c.args.left.now b parts
    (λ here. (let true_is : c.in_ok-is_kept_here.field-0 ≡ true = c.in_ok-is_kept_here.ensures.1 here in cc)) c.in_ok-next-in-Some-Some.ensures is) c.is_kept_from.ensures
