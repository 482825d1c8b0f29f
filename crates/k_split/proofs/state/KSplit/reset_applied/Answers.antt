use Rattle.std.proofs.Common.{[], ◌≡◌, ℕ, true, false, Option, None, Err, refl, sym, ◌∙◌, ap, inl, inr, subst}
use Rattle.std.proofs.lemmas.Bool.{cases_Bool}
use Rattle.block_io.specs.pm_model.Powers.{is_on}
use Rattle.k_tables.specs.k_split_model.View.{View}
use Rattle.k_split.specs.Landed.{IsPlanOn}
use Rattle.k_split.specs.Order.{view_of}
use Rattle.k_group_commit.specs.PlanJoins.{reset-keeps}
use Rattle.block_io.specs.pm_model.Images.{Follows}
use Rattle.k_map_plans.specs.Plans.{IsLiveFile}
use Rattle.k_map_plans.specs.Resets.{reset}
use Rattle.k_map_plans.specs.k_plans.View.{TablesView}
use Rattle.k_split.specs.Resets.{KeepsUnloggedContent}
use Rattle.posix_types.specs.declared.item.Outcome.{Outcome}
use Rattle.k_split.proofs.ChangeLaws.{answer-landed, awake, paid-landed, ready-none, ready-none-ok, ready-or-lost}
use Rattle.k_split.proofs.Joined.{gather-landed}
use Rattle.k_split.proofs.Ready.{no-lines}
use Rattle.k_split.proofs.ResetLaws.{own-map-ready, reset-joined, reset-landed, same-images}
use Rattle.k_split.proofs.state.KSplit.reset_applied.Goals as goal

pub land_change-requires-clause-plan : goal.land_change-requires-clause-plan
land_change-requires-clause-plan c =
    let k = c.self.inside in
    let on : is_on c.args.power.now ≡ true = sym c.on.ensures ∙ c.if-not-on.false in
    let is : k.lost ≡ false = awake k.tables k.group k.pm k.batched k.lost c.args.self.now c.args.power.now c.self.view_is c.requires.awake on in (
      k.tables,
      record {
        ready = ready-none k.tables k.group k.batch k.pm k.batched (c.self.invariant is);
        plan = c.in-Ok.ensures.1;
        keeps = reset-keeps c.args.ino k.tables.volume c.plan_reset.new.tables.volume (ap (λ (x : TablesView). x.volume) c.in-Ok.ensures.0);
      },
    )

pub returns-in-Ok-clause-answer : goal.returns-in-Ok-clause-answer
returns-in-Ok-clause-answer c unbatched =
    let k = c.self.inside in
    let n = c.land_change.new in
    let on : is_on c.args.power.now ≡ true = sym c.on.ensures ∙ c.if-not-on.false in
    let is : k.lost ≡ false = awake k.tables k.group k.pm k.batched k.lost c.args.self.now c.args.power.now c.self.view_is c.requires.awake on in
    let off : k.batched ≡ false = ap (λ (x : View). x.batched) c.self.view_is ∙ unbatched in
    let planned : IsPlanOn k.tables c.plan_reset.new.tables k.group c.plan_reset.new.batch k.pm k.batched = record {
      ready = ready-none k.tables k.group k.batch k.pm k.batched (c.self.invariant is);
      plan = c.in-Ok.ensures.1;
      keeps = reset-keeps c.args.ino k.tables.volume c.plan_reset.new.tables.volume (ap (λ (x : TablesView). x.volume) c.in-Ok.ensures.0);
    } in
    answer-landed k.tables c.plan_reset.new.tables k.group c.plan_reset.new.batch k.pm k.batched k.lost c.args.self.now is c.self.view_is planned n.tables n.group n.pm n.lost
    c.land_change.ensures.volume off (λ x. let none : Option Outcome = None in none) (λ x done w. w ≡ reset c.args.ino x.volume) c.args.power.now n.power c.land_change.result
    c.land_change.ensures.same c.land_change.ensures.noted
    (ready-none-ok n.tables n.group n.batch n.pm k.batched c.land_change.result (c.land_change.ensures.ready k.tables planned)) refl (ap (λ (x : TablesView). x.volume) c.in-Ok.ensures.0)
    (c.land_change.ensures.landed k.tables planned off)

pub returns-in-Ok-clause-gathers : goal.returns-in-Ok-clause-gathers
returns-in-Ok-clause-gathers c batched =
    let k = c.self.inside in
    let n = c.land_change.new in
    let on : is_on c.args.power.now ≡ true = sym c.on.ensures ∙ c.if-not-on.false in
    let is : k.lost ≡ false = awake k.tables k.group k.pm k.batched k.lost c.args.self.now c.args.power.now c.self.view_is c.requires.awake on in
    let gathers : k.batched ≡ true = ap (λ (x : View). x.batched) c.self.view_is ∙ batched in
    let planned : IsPlanOn k.tables c.plan_reset.new.tables k.group c.plan_reset.new.batch k.pm k.batched = record {
      ready = ready-none k.tables k.group k.batch k.pm k.batched (c.self.invariant is);
      plan = c.in-Ok.ensures.1;
      keeps = reset-keeps c.args.ino k.tables.volume c.plan_reset.new.tables.volume (ap (λ (x : TablesView). x.volume) c.in-Ok.ensures.0);
    } in
    gather-landed k.tables c.plan_reset.new.tables k.group c.plan_reset.new.batch k.pm k.batched k.lost is planned gathers n.tables n.group n.pm n.lost
    c.land_change.ensures.volume (λ x. let none : Option Outcome = None in none) (λ x done w. w ≡ reset c.args.ino x.volume) c.args.self.now n.power c.land_change.result c.self.view_is
    c.land_change.ensures.same c.land_change.ensures.noted
    (ready-none-ok n.tables n.group n.batch n.pm k.batched c.land_change.result (c.land_change.ensures.ready k.tables planned)) refl (ap (λ (x : TablesView). x.volume) c.in-Ok.ensures.0)
    (c.land_change.ensures.joined k.tables planned gathers)

pub invariant_of-self-in-Ok : goal.invariant_of-self-in-Ok
invariant_of-self-in-Ok c still =
    let k = c.self.inside in
    let n = c.land_change.new in
    let on : is_on c.args.power.now ≡ true = sym c.on.ensures ∙ c.if-not-on.false in
    let is : k.lost ≡ false = awake k.tables k.group k.pm k.batched k.lost c.args.self.now c.args.power.now c.self.view_is c.requires.awake on in
    let planned : IsPlanOn k.tables c.plan_reset.new.tables k.group c.plan_reset.new.batch k.pm k.batched = record {
      ready = ready-none k.tables k.group k.batch k.pm k.batched (c.self.invariant is);
      plan = c.in-Ok.ensures.1;
      keeps = reset-keeps c.args.ino k.tables.volume c.plan_reset.new.tables.volume (ap (λ (x : TablesView). x.volume) c.in-Ok.ensures.0);
    } in
    ready-or-lost n.tables n.group n.batch n.pm k.batched n.lost c.land_change.result (c.land_change.ensures.ready k.tables planned) c.land_change.ensures.noted still

pub returns-in-Ok-clause-paid : goal.returns-in-Ok-clause-paid
returns-in-Ok-clause-paid c unbatched =
    let k = c.self.inside in
    let n = c.land_change.new in
    let on : is_on c.args.power.now ≡ true = sym c.on.ensures ∙ c.if-not-on.false in
    let is : k.lost ≡ false = awake k.tables k.group k.pm k.batched k.lost c.args.self.now c.args.power.now c.self.view_is c.requires.awake on in
    let off : k.batched ≡ false = ap (λ (x : View). x.batched) c.self.view_is ∙ unbatched in
    let planned : IsPlanOn k.tables c.plan_reset.new.tables k.group c.plan_reset.new.batch k.pm k.batched = record {
      ready = ready-none k.tables k.group k.batch k.pm k.batched (c.self.invariant is);
      plan = c.in-Ok.ensures.1;
      keeps = reset-keeps c.args.ino k.tables.volume c.plan_reset.new.tables.volume (ap (λ (x : TablesView). x.volume) c.in-Ok.ensures.0);
    } in
    paid-landed (λ x. let none : Option Outcome = None in none) k.tables.volume c.plan_reset.new.tables.volume c.plan_reset.new.batch k.pm n.pm
    (view_of k.tables k.group k.pm k.batched k.lost) c.args.self.now c.args.power.now n.power c.land_change.result c.self.view_is refl planned.plan.some
    (c.land_change.ensures.landed k.tables planned off)

pub plan_reset-requires-clause-own : goal.plan_reset-requires-clause-own
plan_reset-requires-clause-own c =
    let k = c.self.inside in
    let on : is_on c.args.power.now ≡ true = sym c.on.ensures ∙ c.if-not-on.false in
    let is : k.lost ≡ false = awake k.tables k.group k.pm k.batched k.lost c.args.self.now c.args.power.now c.self.view_is c.requires.awake on in
    let ready = c.self.invariant is in
    let file : IsLiveFile c.args.ino k.tables.volume = subst (λ (x : View). x.lost ≡ false → IsLiveFile c.args.ino x.volume) (sym c.self.view_is) c.requires.file is in
    own-map-ready k.tables k.group k.batch k.pm k.batched c.args.ino ready file

pub returns-in-Ok-clause-content : goal.returns-in-Ok-clause-content
returns-in-Ok-clause-content c lines =
    let k = c.self.inside in
    let n = c.land_change.new in
    let on : is_on c.args.power.now ≡ true = sym c.on.ensures ∙ c.if-not-on.false in
    let is : k.lost ≡ false = awake k.tables k.group k.pm k.batched k.lost c.args.self.now c.args.power.now c.self.view_is c.requires.awake on in
    let ready = c.self.invariant is in
    let none : k.group ≡ [] = no-lines k.group (subst (λ (x : View). x.lines ≡ []) (sym c.self.view_is) lines) in
    let file : IsLiveFile c.args.ino k.tables.volume = subst (λ (x : View). x.lost ≡ false → IsLiveFile c.args.ino x.volume) (sym c.self.view_is) c.requires.file is in
    let after = ap (λ (x : TablesView). x.volume) c.in-Ok.ensures.0 in
    let planned : IsPlanOn k.tables c.plan_reset.new.tables k.group c.plan_reset.new.batch k.pm k.batched = record {
      ready = ready-none k.tables k.group k.batch k.pm k.batched ready;
      plan = c.in-Ok.ensures.1;
      keeps = reset-keeps c.args.ino k.tables.volume c.plan_reset.new.tables.volume after;
    } in
    subst (λ (x : View). Follows (KeepsUnloggedContent x.volume) x.cells n.pm) c.self.view_is
    (elim (cases_Bool k.batched) [
      | inr off ↦
          reset-landed c.args.ino k.tables c.plan_reset.new.tables k.group c.plan_reset.new.batch k.pm k.batched planned none file.below after n.pm c.args.power.now n.power
          c.land_change.result (c.land_change.ensures.landed k.tables planned off)
      | inl gathers ↦
          reset-joined c.args.ino k.tables c.plan_reset.new.tables k.group c.plan_reset.new.batch k.pm k.batched planned none file.below after n.tables n.group n.pm n.power
          c.land_change.result (c.land_change.ensures.joined k.tables planned gathers)
    ])

pub returns-then-not-on-clause-content : goal.returns-then-not-on-clause-content
returns-then-not-on-clause-content c lines =
    let k = c.self.inside in
    subst (λ (x : View). Follows (KeepsUnloggedContent x.volume) x.cells k.pm) c.self.view_is (same-images k.tables.volume k.pm)

pub returns-in-Err-clause-content : goal.returns-in-Err-clause-content
returns-in-Err-clause-content c lines =
    let k = c.self.inside in
    subst (λ (x : View). Follows (KeepsUnloggedContent x.volume) x.cells k.pm) c.self.view_is (same-images k.tables.volume k.pm)
