use Rattle.std.proofs.Common.{[], ◌≡◌, ℕ, true, false, Option, None, Err, refl, sym, ◌∙◌, ap, inr, subst}
use Rattle.block_io.specs.pm_model.Powers.{is_on}
use Rattle.k_tables.specs.k_split_model.View.{View}
use Rattle.k_split.specs.Landed.{IsPlanOn}
use Rattle.k_group_commit.specs.PlanJoins.{removed-keeps}
use Rattle.k_map_plans.specs.k_plans.Removing.{IsRemoved}
use Rattle.k_split.specs.Names.{rmdir_row}
use Rattle.k_split.proofs.ChangeLaws.{answer-landed, awake, ready-none, ready-none-ok}
use Rattle.k_split.proofs.Joined.{gather-landed}
use Rattle.k_split.proofs.Powered.{landed-powered}
use Rattle.k_split.proofs.state.KSplit.rmdir.Goals as goal

pub land_change-requires-clause-plan : goal.land_change-requires-clause-plan
land_change-requires-clause-plan c =
    let k = c.self.inside in
    let on : is_on c.args.power.now ≡ true = sym c.on.ensures ∙ c.if-not-on.false in
    let is : k.lost ≡ false = awake k.tables k.group k.pm k.batched k.lost c.args.self.now c.args.power.now c.self.view_is c.requires.awake on in (
      k.tables,
      record {
        ready = ready-none k.tables k.group k.batch k.pm k.batched (c.self.invariant is);
        plan = c.in-Ok.ensures.answer.2;
        keeps = removed-keeps c.args.path.now k.tables.volume c.rmdir.new.self.volume c.in-Ok.ensures.answer.1;
      },
    )

pub returns-in-Ok-clause-answer : goal.returns-in-Ok-clause-answer
returns-in-Ok-clause-answer c unbatched =
    let k = c.self.inside in
    let n = c.land_change.new in
    let on : is_on c.args.power.now ≡ true = sym c.on.ensures ∙ c.if-not-on.false in
    let is : k.lost ≡ false = awake k.tables k.group k.pm k.batched k.lost c.args.self.now c.args.power.now c.self.view_is c.requires.awake on in
    let off : k.batched ≡ false = ap (λ (x : View). x.batched) c.self.view_is ∙ unbatched in
    let planned : IsPlanOn k.tables c.rmdir.new.self k.group c.rmdir.new.batch k.pm k.batched = record {
      ready = ready-none k.tables k.group k.batch k.pm k.batched (c.self.invariant is);
      plan = c.in-Ok.ensures.answer.2;
      keeps = removed-keeps c.args.path.now k.tables.volume c.rmdir.new.self.volume c.in-Ok.ensures.answer.1;
    } in
    answer-landed k.tables c.rmdir.new.self k.group c.rmdir.new.batch k.pm k.batched k.lost c.args.self.now is c.self.view_is planned n.tables n.group n.pm n.lost
    c.land_change.ensures.volume off (rmdir_row c.args.path.now) (λ x done w. IsRemoved c.args.path.now x.volume w) c.args.power.now n.power c.land_change.result
    c.land_change.ensures.same c.land_change.ensures.noted
    (ready-none-ok n.tables n.group n.batch n.pm k.batched c.land_change.result (c.land_change.ensures.ready k.tables planned)) c.in-Ok.ensures.answer.0 c.in-Ok.ensures.answer.1
    (c.land_change.ensures.landed k.tables planned off)

pub returns-in-Ok-clause-gathers : goal.returns-in-Ok-clause-gathers
returns-in-Ok-clause-gathers c batched =
    let k = c.self.inside in
    let n = c.land_change.new in
    let on : is_on c.args.power.now ≡ true = sym c.on.ensures ∙ c.if-not-on.false in
    let is : k.lost ≡ false = awake k.tables k.group k.pm k.batched k.lost c.args.self.now c.args.power.now c.self.view_is c.requires.awake on in
    let gathers : k.batched ≡ true = ap (λ (x : View). x.batched) c.self.view_is ∙ batched in
    let planned : IsPlanOn k.tables c.rmdir.new.self k.group c.rmdir.new.batch k.pm k.batched = record {
      ready = ready-none k.tables k.group k.batch k.pm k.batched (c.self.invariant is);
      plan = c.in-Ok.ensures.answer.2;
      keeps = removed-keeps c.args.path.now k.tables.volume c.rmdir.new.self.volume c.in-Ok.ensures.answer.1;
    } in
    gather-landed k.tables c.rmdir.new.self k.group c.rmdir.new.batch k.pm k.batched k.lost is planned gathers n.tables n.group n.pm n.lost
    c.land_change.ensures.volume (rmdir_row c.args.path.now) (λ x done w. IsRemoved c.args.path.now x.volume w) c.args.self.now n.power c.land_change.result c.self.view_is
    c.land_change.ensures.same c.land_change.ensures.noted
    (ready-none-ok n.tables n.group n.batch n.pm k.batched c.land_change.result (c.land_change.ensures.ready k.tables planned)) c.in-Ok.ensures.answer.0 c.in-Ok.ensures.answer.1
    (c.land_change.ensures.joined k.tables planned gathers)

pub returns-in-Ok-clause-powered : goal.returns-in-Ok-clause-powered
returns-in-Ok-clause-powered c batched =
    let k = c.self.inside in
    let n = c.land_change.new in
    let on : is_on c.args.power.now ≡ true = sym c.on.ensures ∙ c.if-not-on.false in
    let is : k.lost ≡ false = awake k.tables k.group k.pm k.batched k.lost c.args.self.now c.args.power.now c.self.view_is c.requires.awake on in
    let gathers : k.batched ≡ true = ap (λ (x : View). x.batched) c.self.view_is ∙ batched in
    let planned : IsPlanOn k.tables c.rmdir.new.self k.group c.rmdir.new.batch k.pm k.batched = record {
      ready = ready-none k.tables k.group k.batch k.pm k.batched (c.self.invariant is);
      plan = c.in-Ok.ensures.answer.2;
      keeps = removed-keeps c.args.path.now k.tables.volume c.rmdir.new.self.volume c.in-Ok.ensures.answer.1;
    } in
    landed-powered planned.ready.committed k.tables c.rmdir.new.self n.tables [] k.group c.rmdir.new.batch n.group k.pm n.pm n.power c.land_change.result (c.land_change.ensures.joined k.tables planned gathers)
