use Rattle.split_threads.specs.Rounds.{HasCheckpointed}
use Rattle.split_threads.proofs.closes.end_lap.Goals as goal

pub checkpoint-requires : goal.checkpoint-requires
checkpoint-requires c = record { usable = c.requires.in_round.usable; may = c.requires.may }

pub turned_by-requires : goal.turned_by-requires
turned_by-requires c =
    let has : HasCheckpointed c.args.world c.args.power c.checkpoint.new.self c.checkpoint.new.power c.in-Ok.commit = record {
      in_round = c.requires.in_round;
      awake = c.requires.awake;
      none_out = c.requires.may.none_out;
      steps = c.in-Ok.ensures.steps;
      answer = c.in-Ok.ensures.answer;
    } in
    (c.args.world, c.args.power, has)

pub returns : goal.returns
returns c =
    let has : HasCheckpointed c.args.world c.args.power c.checkpoint.new.self c.checkpoint.new.power c.in-Ok.commit = record {
      in_round = c.requires.in_round;
      awake = c.requires.awake;
      none_out = c.requires.may.none_out;
      steps = c.in-Ok.ensures.steps;
      answer = c.in-Ok.ensures.answer;
    } in
    c.turned_by.ensures c.args.world c.args.power has
