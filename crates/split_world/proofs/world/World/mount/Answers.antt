use Rattle.world_rounds.specs.round_laws.pm_model.Images.{words_of}
use Rattle.world_rounds.specs.round_laws.image_model.Rules.{geometry_of}
use Rattle.split_world.proofs.world.World.mount.Goals as goal

pub over-requires-clause-mounted : goal.over-requires-clause-mounted
over-requires-clause-mounted c = (geometry_of (words_of c.args.pm), words_of c.args.pm, c.in_ok-k.ensures.answer.1)

pub returns-in-Ok-clause-answer : goal.returns-in-Ok-clause-answer
returns-in-Ok-clause-answer c = (
  c.in_ok-k.ensures.answer.0,
  c.a_world_begins.ensures.mounted (geometry_of (words_of c.args.pm)) (words_of c.args.pm) c.in_ok-k.k c.args.mode c.args.scripts c.in-Ok.world c.in_ok-k.ensures.answer.1 c.in-Ok.ensures,
  c.in_ok-k.ensures.answer.2,
)
