use Rattle.std.proofs.Common.{false, subst, sym}
use Rattle.command_line.specs.pm_model.Images.{words_of}
use Rattle.command_line.specs.Seen.{seen_options}
use Rattle.split_machine.specs.world_view_laws.Starts.{AreInLimits}
use Rattle.split_top.specs.Worlds.{IsRanOn}
use Rattle.split_top.proofs.Runnable.{scripts_are_runnable}
use Rattle.split_top.proofs.trials.ran_on.Goals as goal

pub run-requires-clause-limits : goal.run-requires-clause-limits
run-requires-clause-limits c =
    subst AreInLimits (sym c.in-Ok.ensures.ok)
    (scripts_are_runnable c.scripts_are_spelled.ensures c.scripts_are_within_limits.ensures c.args.script.now c.in-Ok.ensures.sound)

pub returns-in-Ok-run-clause-ran : goal.returns-in-Ok-run-clause-ran
returns-in-Ok-run-clause-ran c =
    let ran = c.in-Ok-run.ran in
    subst (λ s. IsRanOn false (words_of c.args.opened.pm) c.args.opened.geometry s (seen_options c.args.options.now) ran.history.items ran.unfinished.items ran.tree) c.in-Ok.ensures.ok c.in-Ok-run.ensures.ran
