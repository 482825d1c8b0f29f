use Rattle.std.specs.Prelude.{◌≡◌}
use Rattle.std.proofs.Common.{ap, ◌∙◌, rules}
use Rattle.std.proofs.lemmas.Result.{IfOk-weaker}
use Rattle.posix_laws.specs.posix_spec.Run.{run}
use Rattle.posix_laws.specs.posix_spec.State.{State}
use Rattle.crash_judge.proofs.PartLaws.{sync_decided}
use Rattle.crash_judge.proofs.judging.parts.is_sync.Goals as goal

pub returns : goal.returns
returns c =
    let same : c.in_ok-clone.field-0 ≡ c.args.start.now = first_of (search rules, cc) in
    let done : c.in_ok-done.done ≡ run c.args.start.now c.args.history.now = c.in_ok-done.ensures ∙ ap (λ (m : State). run m c.args.history.now) same in
    IfOk-weaker c.some_lead.result _ _ (λ b is. sync_decided c.args.start.now c.in_ok-done.done c.args.history.now c.args.unfinished.now c.args.left.now b done is) c.some_lead.ensures
