use Rattle.std.proofs.Common.{[], ◌≡◌, true, false, Option, None, List, ℕ, refl, sym, ◌∙◌, ap, subst}
use Rattle.block_io.specs.pm_model.Powers.{is_on}
use Rattle.block_io.specs.image_model.Reading.{base_set}
use Rattle.k_group_commit.specs.PlanJoins.{based-keeps}
use Rattle.k_map_plans.specs.k_plans.Switching.{with_aside}
use Rattle.k_map_plans.specs.k_plans.View.{TablesView}
use Rattle.k_tables.specs.k_split_model.View.{View}
use Rattle.posix_types.specs.declared.item.Outcome.{Outcome}
use Rattle.k_split.specs.Landed.{IsPlanOn}
use Rattle.block_io.specs.pm_model.Images.{Follows}
use Rattle.block_io.specs.image_model.Volume.{Volume}
use Rattle.k_tables.specs.k_split_model.Stands.{IsOldOrNew}
use Rattle.k_split.specs.Order.{IsSteady, view_of}
use Rattle.k_split.proofs.ResetLaws.{landed-images, landed-lent}
use Rattle.k_split.proofs.Steady.{steady-based}
use Rattle.k_split.proofs.ChangeLaws.{awake, landed-at, paid-landed, ready-none, ready-none-ok, ready-or-lost}
use Rattle.k_split.proofs.Changed.{alone-idle, landed-idle}
use Rattle.k_split.proofs.Ready.{committed-is, no-lines}
use Rattle.k_split.proofs.Released.{none_there}
use Rattle.k_split.proofs.state.KSplit.set_base.Goals as goal

pub land_plan-requires : goal.land_plan-requires
land_plan-requires c =
    let k = c.self.inside in
    let on : is_on c.args.power.now ≡ true = sym c.on.ensures ∙ c.if-not-on.false in
    let is : k.lost ≡ false = awake k.tables k.group k.pm k.batched k.lost c.args.self.now c.args.power.now c.self.view_is c.requires.awake on in
    let ready = c.self.invariant is in
    let none : k.group ≡ [] = no-lines k.group (subst (λ (x : View). x.lost ≡ false → x.lines ≡ []) (sym c.self.view_is) c.requires.empty is) in
    let planned : IsPlanOn k.tables c.set_base.new.self k.group c.set_base.new.batch k.pm k.batched = record {
      ready = ready-none k.tables k.group k.batch k.pm k.batched ready;
      plan = c.set_base.ensures.plan;
      keeps = based-keeps c.args.base k.tables.volume c.set_base.new.self.volume (ap (λ (x : TablesView). x.volume) c.set_base.ensures.set);
    } in
    let kept : c.set_base.new.self ≡ with_aside [] c.set_base.new.self = none_there c.set_base.new.self (ap (λ (x : TablesView). x.aside) c.set_base.ensures.set ∙ ready.opened.idle) in
    (k.tables.volume, alone-idle k.tables c.set_base.new.self k.group c.set_base.new.batch k.pm k.batched planned none c.set_base.new.self kept)

pub invariant_of-self-2 : goal.invariant_of-self-2
invariant_of-self-2 c still =
    let k = c.self.inside in
    let on : is_on c.args.power.now ≡ true = sym c.on.ensures ∙ c.if-not-on.false in
    let is : k.lost ≡ false = awake k.tables k.group k.pm k.batched k.lost c.args.self.now c.args.power.now c.self.view_is c.requires.awake on in
    let ready = c.self.invariant is in
    let none : k.group ≡ [] = no-lines k.group (subst (λ (x : View). x.lost ≡ false → x.lines ≡ []) (sym c.self.view_is) c.requires.empty is) in
    let planned : IsPlanOn k.tables c.set_base.new.self k.group c.set_base.new.batch k.pm k.batched = record {
      ready = ready-none k.tables k.group k.batch k.pm k.batched ready;
      plan = c.set_base.ensures.plan;
      keeps = based-keeps c.args.base k.tables.volume c.set_base.new.self.volume (ap (λ (x : TablesView). x.volume) c.set_base.ensures.set);
    } in
    let kept : c.set_base.new.self ≡ with_aside [] c.set_base.new.self = none_there c.set_base.new.self (ap (λ (x : TablesView). x.aside) c.set_base.ensures.set ∙ ready.opened.idle) in
    ready-or-lost c.set_base.new.self k.group c.land_plan.new.batch c.land_plan.new.pm k.batched c.land_plan.new.lost c.land_plan.result
    (landed-idle k.tables c.set_base.new.self k.group c.set_base.new.batch k.pm k.batched planned none c.set_base.new.self kept c.land_plan.new.pm c.args.power.now c.land_plan.new.power
    c.land_plan.new.batch c.land_plan.result
    (c.land_plan.ensures.landed k.tables.volume (alone-idle k.tables c.set_base.new.self k.group c.set_base.new.batch k.pm k.batched planned none c.set_base.new.self kept))
    c.land_plan.ensures.no_lines)
    c.land_plan.ensures.noted still

pub returns-clause-paid : goal.returns-clause-paid
returns-clause-paid c =
    let k = c.self.inside in
    let on : is_on c.args.power.now ≡ true = sym c.on.ensures ∙ c.if-not-on.false in
    let is : k.lost ≡ false = awake k.tables k.group k.pm k.batched k.lost c.args.self.now c.args.power.now c.self.view_is c.requires.awake on in
    let ready = c.self.invariant is in
    let none : k.group ≡ [] = no-lines k.group (subst (λ (x : View). x.lost ≡ false → x.lines ≡ []) (sym c.self.view_is) c.requires.empty is) in
    let planned : IsPlanOn k.tables c.set_base.new.self k.group c.set_base.new.batch k.pm k.batched = record {
      ready = ready-none k.tables k.group k.batch k.pm k.batched ready;
      plan = c.set_base.ensures.plan;
      keeps = based-keeps c.args.base k.tables.volume c.set_base.new.self.volume (ap (λ (x : TablesView). x.volume) c.set_base.ensures.set);
    } in
    let kept : c.set_base.new.self ≡ with_aside [] c.set_base.new.self = none_there c.set_base.new.self (ap (λ (x : TablesView). x.aside) c.set_base.ensures.set ∙ ready.opened.idle) in
    paid-landed (λ x. let none : Option Outcome = None in none) k.tables.volume c.set_base.new.self.volume c.set_base.new.batch k.pm c.land_plan.new.pm
    (view_of k.tables k.group k.pm k.batched k.lost) c.args.self.now c.args.power.now c.land_plan.new.power c.land_plan.result c.self.view_is refl planned.plan.some
    (c.land_plan.ensures.landed k.tables.volume (alone-idle k.tables c.set_base.new.self k.group c.set_base.new.batch k.pm k.batched planned none c.set_base.new.self kept))

pub returns-clause-answer : goal.returns-clause-answer
returns-clause-answer c =
    let k = c.self.inside in
    let on : is_on c.args.power.now ≡ true = sym c.on.ensures ∙ c.if-not-on.false in
    let is : k.lost ≡ false = awake k.tables k.group k.pm k.batched k.lost c.args.self.now c.args.power.now c.self.view_is c.requires.awake on in
    let ready = c.self.invariant is in
    let none : k.group ≡ [] = no-lines k.group (subst (λ (x : View). x.lost ≡ false → x.lines ≡ []) (sym c.self.view_is) c.requires.empty is) in
    let planned : IsPlanOn k.tables c.set_base.new.self k.group c.set_base.new.batch k.pm k.batched = record {
      ready = ready-none k.tables k.group k.batch k.pm k.batched ready;
      plan = c.set_base.ensures.plan;
      keeps = based-keeps c.args.base k.tables.volume c.set_base.new.self.volume (ap (λ (x : TablesView). x.volume) c.set_base.ensures.set);
    } in
    let kept : c.set_base.new.self ≡ with_aside [] c.set_base.new.self = none_there c.set_base.new.self (ap (λ (x : TablesView). x.aside) c.set_base.ensures.set ∙ ready.opened.idle) in
    let landed = c.land_plan.ensures.landed k.tables.volume (alone-idle k.tables c.set_base.new.self k.group c.set_base.new.batch k.pm k.batched planned none c.set_base.new.self kept) in
    landed-at k.tables c.set_base.new.self k.group c.set_base.new.batch k.pm k.batched k.lost c.args.self.now is c.self.view_is planned c.set_base.new.self k.group c.land_plan.new.pm c.land_plan.new.lost
    refl (committed-is k.tables k.group k.batch k.pm k.batched ready ∙ (ready.empty none).0) (λ x. let none : Option Outcome = None in none) (λ x done w. w ≡ base_set c.args.base x.volume)
    c.args.power.now c.land_plan.new.power c.land_plan.result c.land_plan.ensures.same c.land_plan.ensures.noted
    (ready-none-ok c.set_base.new.self k.group c.land_plan.new.batch c.land_plan.new.pm k.batched c.land_plan.result
    (landed-idle k.tables c.set_base.new.self k.group c.set_base.new.batch k.pm k.batched planned none c.set_base.new.self kept c.land_plan.new.pm c.args.power.now c.land_plan.new.power
    c.land_plan.new.batch c.land_plan.result landed c.land_plan.ensures.no_lines))
    refl (ap (λ (x : TablesView). x.volume) c.set_base.ensures.set) landed

pub invariant_of-self-inside-2 : goal.invariant_of-self-inside-2
invariant_of-self-inside-2 c =
    let k = c.self.inside in
    let on : is_on c.args.power.now ≡ true = sym c.on.ensures ∙ c.if-not-on.false in
    let is : k.lost ≡ false = awake k.tables k.group k.pm k.batched k.lost c.args.self.now c.args.power.now c.self.view_is c.requires.awake on in
    let ready = c.self.invariant is in
    let none : k.group ≡ [] = no-lines k.group (subst (λ (x : View). x.lost ≡ false → x.lines ≡ []) (sym c.self.view_is) c.requires.empty is) in
    let planned : IsPlanOn k.tables c.set_base.new.self k.group c.set_base.new.batch k.pm k.batched = record {
      ready = ready-none k.tables k.group k.batch k.pm k.batched ready;
      plan = c.set_base.ensures.plan;
      keeps = based-keeps c.args.base k.tables.volume c.set_base.new.self.volume (ap (λ (x : TablesView). x.volume) c.set_base.ensures.set);
    } in
    let kept : c.set_base.new.self ≡ with_aside [] c.set_base.new.self = none_there c.set_base.new.self (ap (λ (x : TablesView). x.aside) c.set_base.ensures.set ∙ ready.opened.idle) in
    let set : c.set_base.new.self.volume ≡ base_set c.args.base k.tables.volume = ap (λ (x : TablesView). x.volume) c.set_base.ensures.set in
    let landed = c.land_plan.ensures.landed k.tables.volume (alone-idle k.tables c.set_base.new.self k.group c.set_base.new.batch k.pm k.batched planned none c.set_base.new.self kept) in (
      ap (λ (x : TablesView). x.aside) c.set_base.ensures.set ∙ k.none_aside,
      (
        λ batched.
            subst (λ (w : Volume). IsSteady w.geometry c.land_plan.new.pm) (sym set)
            (steady-based k.tables k.group k.batch k.pm k.batched ready c.args.base c.land_plan.new.pm
            (landed-lent k.tables.volume c.set_base.new.self.volume c.set_base.new.batch k.pm c.land_plan.new.pm c.args.power.now c.land_plan.new.power c.land_plan.result landed)
            (subst (λ (w : Volume). Follows (IsOldOrNew k.tables.volume.geometry [] k.tables.volume w) k.pm c.land_plan.new.pm) set
            (landed-images k.tables.volume c.set_base.new.self.volume c.set_base.new.batch k.pm c.land_plan.new.pm c.args.power.now c.land_plan.new.power c.land_plan.result landed))),
        tt,
      ),
    )
