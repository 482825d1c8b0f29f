use Rattle.std.specs.Prelude.{refl}
use Rattle.std.proofs.Common.{◌∙◌, arith}
use Rattle.split_machine.specs.Works as works
use Rattle.split_machine.proofs.work.claim_event.Goals as goal

pub give_up-requires : goal.give_up-requires
give_up-requires c =
    let claims = c.in-Err.ensures in
    record {
      usable = c.requires.usable;
      out = c.requires.lines_out;
      job = c.requires.of_world;
      full = omega (arith, claims.0, claims.1, claims.2);
      capacity = claims.1 ∙ c.requires.size;
    }

pub returns-in-Ok : goal.returns-in-Ok
returns-in-Ok c power = works.Claims c.args.job c.in-Ok.slot refl refl c.in-Ok.ensures

pub returns-in-Err : goal.returns-in-Err
returns-in-Err c power = works.GivesUpFull c.args.job c.in-Err.full refl c.in-Err.ensures c.give_up.ensures.given
