use Rattle.std.proofs.Common.{◌≡◌, ◌+◌, ap, arith, subst, sym}
use Rattle.world_parts.specs.declared.parts.Parts.{Parts}
use Rattle.world_parts.specs.Seen.{IsKept}
use Rattle.world_parts.proofs.Adding.{few_acts}
use Rattle.world_parts.proofs.Losing.{lost_one}
use Rattle.world_parts.proofs.losses.lose_one.Goals as goal

pub overflow_add-p : goal.overflow_add-p
overflow_add-p c =
    let few = few_acts c.args.p.now c.requires.kept in
    let same : c.lose.new.p.acts ≡ c.args.p.now.acts = ap (λ (p : Parts). p.acts) c.lose.ensures.lost in
    omega (arith, few, same)

pub returns-clause-kept : goal.returns-clause-kept
returns-clause-kept c =
    subst (λ (p : Parts). (let q : Parts = record p { acts = p.acts + 1 } in IsKept q)) (sym c.lose.ensures.lost)
    (lost_one c.args.p.now c.requires.kept c.requires.awake)
