use Rattle.std.specs.Prelude.{refl}
use Rattle.command_line.specs.pm_model.Images.{words_of}
use Rattle.split_machine.specs.image_model.Rules.{geometry_of}
use Rattle.split_tables.proofs.split_top_proofs.Beginnings.{begins-on}
use Rattle.schedule_tests.proofs.worlds.moments.mounted.Goals as goal

pub mount-requires-clause-limits : goal.mount-requires-clause-limits
mount-requires-clause-limits c = c.requires.limits

pub returns-in-Ok : goal.returns-in-Ok
returns-in-Ok c =
    (begins-on (geometry_of (words_of c.args.pm)) c.args.pm (record { checked = c.in-Ok.ensures.answer.0; numbers = refl; single = c.requires.single }) c.args.scripts c.in-Ok.world c.args.mode c.requires.mode c.requires.limits c.in-Ok.ensures.answer.1).on.first
