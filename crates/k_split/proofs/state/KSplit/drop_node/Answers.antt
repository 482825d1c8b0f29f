use Rattle.std.proofs.Common.{[], ◌≡◌, ℕ, true, false, Option, None, Err, refl, sym, ◌∙◌, ap, inr, subst}
use Rattle.block_io.specs.pm_model.Powers.{is_on}
use Rattle.k_tables.specs.k_split_model.View.{View}
use Rattle.k_split.specs.Landed.{IsPlanOn}
use Rattle.k_split.specs.Order.{view_of}
use Rattle.k_group_commit.specs.PlanJoins.{dropped-keeps}
use Rattle.k_map_plans.specs.volume_change_laws.Changes.{MayDrop}
use Rattle.k_tables.specs.k_split_model.ChangesChanges.{dropped}
use Rattle.posix_types.specs.declared.item.Outcome.{Outcome}
use Rattle.k_split.proofs.ChangeLaws.{answer-landed, awake, drop-below, paid-landed, ready-none, ready-none-ok, ready-or-lost}
use Rattle.k_split.proofs.Joined.{gather-landed}
use Rattle.k_split.proofs.state.KSplit.drop_node.Goals as goal

pub land_change-requires-clause-plan : goal.land_change-requires-clause-plan
land_change-requires-clause-plan c =
    let k = c.self.inside in
    let on : is_on c.args.power.now ≡ true = sym c.on.ensures ∙ c.if-not-on.false in
    let is : k.lost ≡ false = awake k.tables k.group k.pm k.batched k.lost c.args.self.now c.args.power.now c.self.view_is c.requires.awake on in (
      k.tables,
      record {
        ready = ready-none k.tables k.group k.batch k.pm k.batched (c.self.invariant is);
        plan = c.drop_node.ensures.plan;
        keeps = dropped-keeps c.args.ino k.tables.volume c.drop_node.new.self.volume (drop-below k.tables k.group k.pm k.batched k.lost c.args.self.now c.args.ino c.self.view_is (c.self.invariant is).opened.whole c.requires.may is) c.drop_node.ensures.dropped;
      },
    )

pub returns-clause-answer : goal.returns-clause-answer
returns-clause-answer c unbatched =
    let k = c.self.inside in
    let n = c.land_change.new in
    let on : is_on c.args.power.now ≡ true = sym c.on.ensures ∙ c.if-not-on.false in
    let is : k.lost ≡ false = awake k.tables k.group k.pm k.batched k.lost c.args.self.now c.args.power.now c.self.view_is c.requires.awake on in
    let off : k.batched ≡ false = ap (λ (x : View). x.batched) c.self.view_is ∙ unbatched in
    let planned : IsPlanOn k.tables c.drop_node.new.self k.group c.drop_node.new.batch k.pm k.batched = record {
      ready = ready-none k.tables k.group k.batch k.pm k.batched (c.self.invariant is);
      plan = c.drop_node.ensures.plan;
      keeps = dropped-keeps c.args.ino k.tables.volume c.drop_node.new.self.volume (drop-below k.tables k.group k.pm k.batched k.lost c.args.self.now c.args.ino c.self.view_is (c.self.invariant is).opened.whole c.requires.may is) c.drop_node.ensures.dropped;
    } in
    answer-landed k.tables c.drop_node.new.self k.group c.drop_node.new.batch k.pm k.batched k.lost c.args.self.now is c.self.view_is planned n.tables n.group n.pm n.lost
    c.land_change.ensures.volume off (λ x. let none : Option Outcome = None in none) (λ x done w. w ≡ dropped c.args.ino x.volume) c.args.power.now n.power c.land_change.result
    c.land_change.ensures.same c.land_change.ensures.noted
    (ready-none-ok n.tables n.group n.batch n.pm k.batched c.land_change.result (c.land_change.ensures.ready k.tables planned)) refl c.drop_node.ensures.dropped
    (c.land_change.ensures.landed k.tables planned off)

pub returns-clause-gathers : goal.returns-clause-gathers
returns-clause-gathers c batched =
    let k = c.self.inside in
    let n = c.land_change.new in
    let on : is_on c.args.power.now ≡ true = sym c.on.ensures ∙ c.if-not-on.false in
    let is : k.lost ≡ false = awake k.tables k.group k.pm k.batched k.lost c.args.self.now c.args.power.now c.self.view_is c.requires.awake on in
    let gathers : k.batched ≡ true = ap (λ (x : View). x.batched) c.self.view_is ∙ batched in
    let planned : IsPlanOn k.tables c.drop_node.new.self k.group c.drop_node.new.batch k.pm k.batched = record {
      ready = ready-none k.tables k.group k.batch k.pm k.batched (c.self.invariant is);
      plan = c.drop_node.ensures.plan;
      keeps = dropped-keeps c.args.ino k.tables.volume c.drop_node.new.self.volume (drop-below k.tables k.group k.pm k.batched k.lost c.args.self.now c.args.ino c.self.view_is (c.self.invariant is).opened.whole c.requires.may is) c.drop_node.ensures.dropped;
    } in
    gather-landed k.tables c.drop_node.new.self k.group c.drop_node.new.batch k.pm k.batched k.lost is planned gathers n.tables n.group n.pm n.lost
    c.land_change.ensures.volume (λ x. let none : Option Outcome = None in none) (λ x done w. w ≡ dropped c.args.ino x.volume) c.args.self.now n.power c.land_change.result c.self.view_is
    c.land_change.ensures.same c.land_change.ensures.noted
    (ready-none-ok n.tables n.group n.batch n.pm k.batched c.land_change.result (c.land_change.ensures.ready k.tables planned)) refl c.drop_node.ensures.dropped
    (c.land_change.ensures.joined k.tables planned gathers)

pub drop_node-requires-clause-may : goal.drop_node-requires-clause-may
drop_node-requires-clause-may c =
    let k = c.self.inside in
    let on : is_on c.args.power.now ≡ true = sym c.on.ensures ∙ c.if-not-on.false in
    let is : k.lost ≡ false = awake k.tables k.group k.pm k.batched k.lost c.args.self.now c.args.power.now c.self.view_is c.requires.awake on in
    subst (λ (x : View). x.lost ≡ false → MayDrop c.args.ino x.volume) (sym c.self.view_is) c.requires.may is

pub invariant_of-self-2 : goal.invariant_of-self-2
invariant_of-self-2 c still =
    let k = c.self.inside in
    let n = c.land_change.new in
    let on : is_on c.args.power.now ≡ true = sym c.on.ensures ∙ c.if-not-on.false in
    let is : k.lost ≡ false = awake k.tables k.group k.pm k.batched k.lost c.args.self.now c.args.power.now c.self.view_is c.requires.awake on in
    let planned : IsPlanOn k.tables c.drop_node.new.self k.group c.drop_node.new.batch k.pm k.batched = record {
      ready = ready-none k.tables k.group k.batch k.pm k.batched (c.self.invariant is);
      plan = c.drop_node.ensures.plan;
      keeps = dropped-keeps c.args.ino k.tables.volume c.drop_node.new.self.volume (drop-below k.tables k.group k.pm k.batched k.lost c.args.self.now c.args.ino c.self.view_is (c.self.invariant is).opened.whole c.requires.may is) c.drop_node.ensures.dropped;
    } in
    ready-or-lost n.tables n.group n.batch n.pm k.batched n.lost c.land_change.result (c.land_change.ensures.ready k.tables planned) c.land_change.ensures.noted still

pub returns-clause-paid : goal.returns-clause-paid
returns-clause-paid c unbatched =
    let k = c.self.inside in
    let n = c.land_change.new in
    let on : is_on c.args.power.now ≡ true = sym c.on.ensures ∙ c.if-not-on.false in
    let is : k.lost ≡ false = awake k.tables k.group k.pm k.batched k.lost c.args.self.now c.args.power.now c.self.view_is c.requires.awake on in
    let off : k.batched ≡ false = ap (λ (x : View). x.batched) c.self.view_is ∙ unbatched in
    let planned : IsPlanOn k.tables c.drop_node.new.self k.group c.drop_node.new.batch k.pm k.batched = record {
      ready = ready-none k.tables k.group k.batch k.pm k.batched (c.self.invariant is);
      plan = c.drop_node.ensures.plan;
      keeps = dropped-keeps c.args.ino k.tables.volume c.drop_node.new.self.volume (drop-below k.tables k.group k.pm k.batched k.lost c.args.self.now c.args.ino c.self.view_is (c.self.invariant is).opened.whole c.requires.may is) c.drop_node.ensures.dropped;
    } in
    paid-landed (λ x. let none : Option Outcome = None in none) k.tables.volume c.drop_node.new.self.volume c.drop_node.new.batch k.pm n.pm
    (view_of k.tables k.group k.pm k.batched k.lost) c.args.self.now c.args.power.now n.power c.land_change.result c.self.view_is refl planned.plan.some
    (c.land_change.ensures.landed k.tables planned off)
