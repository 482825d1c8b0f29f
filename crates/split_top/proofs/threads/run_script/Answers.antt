use Rattle.std.proofs.Common.{subst, sym}
use Rattle.command_line.specs.Seen.{seen_options}
use Rattle.split_top.specs.Top.{IsRunOn, step_text}
use Rattle.split_machine.specs.world_view_laws.Starts.{AreInLimits}
use Rattle.split_top.proofs.Runnable.{scripts_are_runnable}
use Rattle.split_top.proofs.threads.run_script.Goals as goal

pub outcome_of-requires-clause-limits : goal.outcome_of-requires-clause-limits
outcome_of-requires-clause-limits g c κs within =
    subst AreInLimits (sym c.in-Ok.ensures.ok)
    (scripts_are_runnable c.scripts_are_spelled.ensures c.scripts_are_within_limits.ensures c.args.bytes.now c.in-Ok.ensures.sound)

pub returns-in-Ok-outcome_of-clause-outcome : goal.returns-in-Ok-outcome_of-clause-outcome
returns-in-Ok-outcome_of-clause-outcome g c image device kept is =
    let o = c.in-Ok-outcome_of.outcome in
    record {
      is_script = c.in-Ok.ensures.sound;
      is_run = subst (λ s. IsRunOn image c.args.opened.geometry s (seen_options c.args.options.now) step_text o.output.items kept) c.in-Ok.ensures.ok (c.in-Ok-outcome_of.ensures.ran image device kept is);
    }
