use Rattle.std.specs.Prelude.{◌≡◌, true, refl}
use Rattle.std.proofs.lemmas.Result.{IfOk-weaker}
use Rattle.crash_judge.proofs.FrontLaws.{Posix-kept, posix_decided}
use Rattle.crash_judge.proofs.judging.posix.is_posix_after.Goals as goal

pub returns-then-branch-2 : goal.returns-then-branch-2
returns-then-branch-2 c = (λ _. Posix-kept c.args.start.now c.args.history.now c.args.unfinished.now c.args.left.now (c.in_ok-is_front_kept.ensures.0 c.if-branch-2.true), λ _. refl)

pub returns : goal.returns
returns c =
    IfOk-weaker c.is_kept_whole.result _ _
    (λ b is. posix_decided c.args.start.now c.args.done.now c.args.history.now c.args.unfinished.now c.args.left.now b c.requires
    (λ same. (let yes : c.in_ok-has_tree.field-0 ≡ true = c.in_ok-has_tree.ensures.1 same in cc))
    (λ front. (let yes : c.in_ok-is_front_kept.field-0 ≡ true = c.in_ok-is_front_kept.ensures.1 front in cc)) is) c.is_kept_whole.ensures
