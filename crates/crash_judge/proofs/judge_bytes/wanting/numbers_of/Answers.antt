use Rattle.std.proofs.lemmas.Result.{IfOk-weaker}
use Rattle.crash_judge.proofs.WantedLaws.{numbers_told}
use Rattle.crash_judge.proofs.judge_bytes.wanting.numbers_of.Goals as goal

pub returns : goal.returns
returns c =
    IfOk-weaker c.told_numbers.result _ _
    (λ numbers is. numbers_told _ _ _ _ _ _ _ c.in_ok-nodes.ensures c.deref.ensures.value c.in_ok-tree.ensures c.deref-2.ensures.value is) c.told_numbers.ensures
