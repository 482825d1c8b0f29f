-- the clauses of the write of a chain, over the parts of a new map
use Rattle.std.proofs.Common.{ℕ, List, subst}
use Rattle.k_plans.specs.Maps.{Writes}
use Rattle.k_plans.specs.LandingsPlans.{NewChain}
use Rattle.k_group_commit.proofs.groups.write_one.Goals as goal

pub returns : goal.returns
returns c =
    let Done : NewChain → Type 0 = λ x. Writes x c.args.pm.now c.write.new.pm c.args.power.now c.write.new.power in
    let of : List ℕ → NewChain = λ blocks. record { blocks = blocks; extents = c.one.inside.map } in
    let parts : Done (of c.deref.result.now) = record {
      size = c.write.ensures.size;
      lent = c.write.ensures.lent;
      steps = c.write.ensures.steps;
      off = c.write.ensures.off;
      each_image = c.write.ensures.each_image;
      others = c.write.ensures.others;
      durable = c.write.ensures.durable;
      keeps = c.write.ensures.keeps;
    }
    in
    subst Done c.one.view_is (subst (λ blocks. Done (of blocks)) c.deref.ensures.value parts)
