use Rattle.std.specs.Prelude.{length}
use Rattle.std.proofs.Common.{ap, ◌∙◌}
use Rattle.std.proofs.lemmas.Result.{IfOk-weaker}
use Rattle.posix_laws.specs.posix_spec.State.{State}
use Rattle.crash_judge.specs.Wanted.{numbers_of}
use Rattle.crash_judge.proofs.judging.parts.numbers_after.Goals as goal

pub returns : goal.returns
returns c =
    IfOk-weaker c.numbers_of.result _ _
    (λ numbers is. is ∙ (λ i. numbers_of (length (c.nodes.ensures i)) (c.entries.ensures i)) ∙ ap (λ (m : State). numbers_of (length m.nodes) m.entries) c.in_ok-whole.ensures)
    c.numbers_of.ensures
