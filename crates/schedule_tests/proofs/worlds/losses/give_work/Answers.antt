use Rattle.std.proofs.Common.{◌∙◌, arith, subst, sym}
use Rattle.schedule_tests.specs.Losses.{GivesWork, MayGiveUp}
use Rattle.schedule_tests.proofs.worlds.losses.give_work.Goals as goal

pub give_up-requires : goal.give_up-requires
give_up-requires c =
    let claims = c.in-Err.ensures in
    let may = subst (MayGiveUp c.args.world.now c.args.log.now) c.in-Filled.is c.requires in
    record {
      usable = may.usable;
      out = may.lines_out;
      job = may.of_world;
      full = omega (arith, claims.0, claims.1, claims.2);
      capacity = claims.1 ∙ may.size;
    }

pub returns-in-Err : goal.returns-in-Err
returns-in-Err c =
    subst (GivesWork c.args.world.now c.give_up.new.self c.args.log.now c.claim.new.self) (sym c.in-Filled.is)
    (c.in-Err.full, c.in-Err.ensures, c.give_up.ensures.given)
