use Rattle.std.specs.Prelude.{◌≡◌}
use Rattle.std.proofs.Common.{ap, ◌∙◌, rules}
use Rattle.posix_laws.specs.posix_spec.Run.{run}
use Rattle.posix_laws.specs.posix_spec.State.{State}
use Rattle.crash_judge.proofs.judging.posix.is_posix.Goals as goal

pub is_posix_after-requires : goal.is_posix_after-requires
is_posix_after-requires c =
    let same : c.in_ok-clone.field-0 ≡ c.args.start.now = first_of (search rules, cc) in
    c.in_ok-done.ensures ∙ ap (λ (m : State). run m c.args.history.now) same
