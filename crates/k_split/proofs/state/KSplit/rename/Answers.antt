use Rattle.std.proofs.Common.{[], ◌≡◌, ℕ, true, false, Option, None, Err, refl, sym, ◌∙◌, ap, inr, subst}
use Rattle.block_io.specs.pm_model.Powers.{is_on}
use Rattle.k_tables.specs.k_split_model.View.{View}
use Rattle.k_split.specs.Landed.{IsPlanOn}
use Rattle.k_split.specs.Order.{view_of}
use Rattle.k_group_commit.specs.PlanJoins.{renamed-keeps}
use Rattle.k_map_plans.specs.k_plans.Renaming.{IsRenamed}
use Rattle.k_split.specs.Gathers.{IsGatherRename}
use Rattle.k_split.specs.Names.{IsRenameAnswer, rename_row}
use Rattle.k_split.proofs.ChangeLaws.{answer-cut, answer-done, awake, paid-cut, paid-done, ready-none, ready-or-lost, to-do}
use Rattle.k_split.specs.Answers.{IsPaid}
use Rattle.k_split.proofs.Joined.{gather-done, gather-fault}
use Rattle.k_split.proofs.state.KSplit.rename.Goals as goal
use Rattle.k_split.proofs.state.KSplit.rename.Goals.{in-Ok-land_change, in-Err-land_change}

pub land_change-requires-clause-plan : goal.land_change-requires-clause-plan
land_change-requires-clause-plan c =
    let k = c.self.inside in
    let on : is_on c.args.power.now ≡ true = sym c.on.ensures ∙ c.if-not-on.false in
    let is : k.lost ≡ false = awake k.tables k.group k.pm k.batched k.lost c.args.self.now c.args.power.now c.self.view_is c.requires.awake on in (
      k.tables,
      record {
        ready = ready-none k.tables k.group k.batch k.pm k.batched (c.self.invariant is);
        plan = (to-do c.args.path.now c.args.to.now k.tables c.rename.new.self c.rename.new.batch c.in-Ok.lost c.in-Ok.ensures (sym c.is_empty.ensures ∙ c.if-is_empty.false)).2;
        keeps = renamed-keeps c.args.path.now c.args.to.now k.tables.volume c.rename.new.self.volume c.in-Ok.lost (to-do c.args.path.now c.args.to.now k.tables c.rename.new.self c.rename.new.batch c.in-Ok.lost c.in-Ok.ensures (sym c.is_empty.ensures ∙ c.if-is_empty.false)).1;
      },
    )

pub returns-after-land_change-clause-answer : goal.returns-after-land_change-clause-answer
returns-after-land_change-clause-answer c unbatched =
    let k = c.self.inside in
    let n = c.land_change.new in
    let on : is_on c.args.power.now ≡ true = sym c.on.ensures ∙ c.if-not-on.false in
    let is : k.lost ≡ false = awake k.tables k.group k.pm k.batched k.lost c.args.self.now c.args.power.now c.self.view_is c.requires.awake on in
    let off : k.batched ≡ false = ap (λ (x : View). x.batched) c.self.view_is ∙ unbatched in
    let planned : IsPlanOn k.tables c.rename.new.self k.group c.rename.new.batch k.pm k.batched = record {
      ready = ready-none k.tables k.group k.batch k.pm k.batched (c.self.invariant is);
      plan = (to-do c.args.path.now c.args.to.now k.tables c.rename.new.self c.rename.new.batch c.in-Ok.lost c.in-Ok.ensures (sym c.is_empty.ensures ∙ c.if-is_empty.false)).2;
      keeps = renamed-keeps c.args.path.now c.args.to.now k.tables.volume c.rename.new.self.volume c.in-Ok.lost (to-do c.args.path.now c.args.to.now k.tables c.rename.new.self c.rename.new.batch c.in-Ok.lost c.in-Ok.ensures (sym c.is_empty.ensures ∙ c.if-is_empty.false)).1;
    } in
    elim c.match-land_change.branch [
      | in-Ok-land_change w ↦
          subst (IsRenameAnswer c.args.path.now c.args.to.now c.args.self.now (view_of n.tables n.group n.pm k.batched n.lost)) (sym w.result-is)
          (inr (answer-done k.tables c.rename.new.self k.group c.rename.new.batch k.pm k.batched k.lost c.args.self.now is c.self.view_is planned n.tables n.group n.pm n.lost
          c.land_change.ensures.volume off c.in-Ok.lost (rename_row c.args.path.now c.args.to.now) (λ x l w. IsRenamed c.args.path.now c.args.to.now x.volume w l)
          c.args.power.now n.power w.in-Ok-land_change.ensures.same
          (ready-none n.tables n.group n.batch n.pm k.batched (w.in-Ok-land_change.ensures.ready k.tables planned)) (to-do c.args.path.now c.args.to.now k.tables c.rename.new.self c.rename.new.batch c.in-Ok.lost c.in-Ok.ensures (sym c.is_empty.ensures ∙ c.if-is_empty.false)).0 (to-do c.args.path.now c.args.to.now k.tables c.rename.new.self c.rename.new.batch c.in-Ok.lost c.in-Ok.ensures (sym c.is_empty.ensures ∙ c.if-is_empty.false)).1
          (w.in-Ok-land_change.ensures.landed k.tables planned off)))
      | in-Err-land_change w ↦
          subst (IsRenameAnswer c.args.path.now c.args.to.now c.args.self.now (view_of n.tables n.group n.pm k.batched n.lost)) (sym w.result-is)
          (answer-cut k.tables c.rename.new.self k.group c.rename.new.batch k.pm k.batched k.lost c.args.self.now is c.self.view_is planned n.tables n.group n.pm n.lost
          c.land_change.ensures.volume off c.in-Ok.lost (rename_row c.args.path.now c.args.to.now) (λ x l w. IsRenamed c.args.path.now c.args.to.now x.volume w l)
          c.args.power.now n.power w.in-Err-land_change.fault w.in-Err-land_change.ensures.noted (to-do c.args.path.now c.args.to.now k.tables c.rename.new.self c.rename.new.batch c.in-Ok.lost c.in-Ok.ensures (sym c.is_empty.ensures ∙ c.if-is_empty.false)).0 (to-do c.args.path.now c.args.to.now k.tables c.rename.new.self c.rename.new.batch c.in-Ok.lost c.in-Ok.ensures (sym c.is_empty.ensures ∙ c.if-is_empty.false)).1
          (w.in-Err-land_change.ensures.landed k.tables planned off))
    ]

pub returns-after-land_change-clause-gathers : goal.returns-after-land_change-clause-gathers
returns-after-land_change-clause-gathers c batched =
    let k = c.self.inside in
    let n = c.land_change.new in
    let on : is_on c.args.power.now ≡ true = sym c.on.ensures ∙ c.if-not-on.false in
    let is : k.lost ≡ false = awake k.tables k.group k.pm k.batched k.lost c.args.self.now c.args.power.now c.self.view_is c.requires.awake on in
    let gathers : k.batched ≡ true = ap (λ (x : View). x.batched) c.self.view_is ∙ batched in
    let planned : IsPlanOn k.tables c.rename.new.self k.group c.rename.new.batch k.pm k.batched = record {
      ready = ready-none k.tables k.group k.batch k.pm k.batched (c.self.invariant is);
      plan = (to-do c.args.path.now c.args.to.now k.tables c.rename.new.self c.rename.new.batch c.in-Ok.lost c.in-Ok.ensures (sym c.is_empty.ensures ∙ c.if-is_empty.false)).2;
      keeps = renamed-keeps c.args.path.now c.args.to.now k.tables.volume c.rename.new.self.volume c.in-Ok.lost (to-do c.args.path.now c.args.to.now k.tables c.rename.new.self c.rename.new.batch c.in-Ok.lost c.in-Ok.ensures (sym c.is_empty.ensures ∙ c.if-is_empty.false)).1;
    } in
    elim c.match-land_change.branch [
      | in-Ok-land_change w ↦
          subst (IsGatherRename c.args.path.now c.args.to.now c.args.self.now (view_of n.tables n.group n.pm k.batched n.lost)) (sym w.result-is)
          (inr (gather-done k.tables c.rename.new.self k.group c.rename.new.batch k.pm k.batched k.lost is planned gathers n.tables n.group n.pm n.lost
          c.land_change.ensures.volume c.in-Ok.lost (rename_row c.args.path.now c.args.to.now) (λ x l w. IsRenamed c.args.path.now c.args.to.now x.volume w l)
          c.args.self.now c.self.view_is w.in-Ok-land_change.ensures.same
          (ready-none n.tables n.group n.batch n.pm k.batched (w.in-Ok-land_change.ensures.ready k.tables planned)) (to-do c.args.path.now c.args.to.now k.tables c.rename.new.self c.rename.new.batch c.in-Ok.lost c.in-Ok.ensures (sym c.is_empty.ensures ∙ c.if-is_empty.false)).0 (to-do c.args.path.now c.args.to.now k.tables c.rename.new.self c.rename.new.batch c.in-Ok.lost c.in-Ok.ensures (sym c.is_empty.ensures ∙ c.if-is_empty.false)).1
          (w.in-Ok-land_change.ensures.joined k.tables planned gathers).0))
      | in-Err-land_change w ↦
          subst (IsGatherRename c.args.path.now c.args.to.now c.args.self.now (view_of n.tables n.group n.pm k.batched n.lost)) (sym w.result-is)
          (gather-fault k.tables c.rename.new.self k.group c.rename.new.batch k.pm k.batched k.lost is planned gathers n.tables n.group n.pm n.lost
          c.land_change.ensures.volume c.in-Ok.lost (rename_row c.args.path.now c.args.to.now) (λ x l w. IsRenamed c.args.path.now c.args.to.now x.volume w l)
          c.args.self.now n.power w.in-Err-land_change.fault c.self.view_is w.in-Err-land_change.ensures.noted (to-do c.args.path.now c.args.to.now k.tables c.rename.new.self c.rename.new.batch c.in-Ok.lost c.in-Ok.ensures (sym c.is_empty.ensures ∙ c.if-is_empty.false)).0 (to-do c.args.path.now c.args.to.now k.tables c.rename.new.self c.rename.new.batch c.in-Ok.lost c.in-Ok.ensures (sym c.is_empty.ensures ∙ c.if-is_empty.false)).1
          (w.in-Err-land_change.ensures.joined k.tables planned gathers))
    ]

pub invariant_of-self-in-Ok : goal.invariant_of-self-in-Ok
invariant_of-self-in-Ok c still =
    let k = c.self.inside in
    let n = c.land_change.new in
    let on : is_on c.args.power.now ≡ true = sym c.on.ensures ∙ c.if-not-on.false in
    let is : k.lost ≡ false = awake k.tables k.group k.pm k.batched k.lost c.args.self.now c.args.power.now c.self.view_is c.requires.awake on in
    let planned : IsPlanOn k.tables c.rename.new.self k.group c.rename.new.batch k.pm k.batched = record {
      ready = ready-none k.tables k.group k.batch k.pm k.batched (c.self.invariant is);
      plan = (to-do c.args.path.now c.args.to.now k.tables c.rename.new.self c.rename.new.batch c.in-Ok.lost c.in-Ok.ensures (sym c.is_empty.ensures ∙ c.if-is_empty.false)).2;
      keeps = renamed-keeps c.args.path.now c.args.to.now k.tables.volume c.rename.new.self.volume c.in-Ok.lost (to-do c.args.path.now c.args.to.now k.tables c.rename.new.self c.rename.new.batch c.in-Ok.lost c.in-Ok.ensures (sym c.is_empty.ensures ∙ c.if-is_empty.false)).1;
    } in
    ready-or-lost n.tables n.group n.batch n.pm k.batched n.lost c.land_change.result (c.land_change.ensures.ready k.tables planned) c.land_change.ensures.noted still

pub returns-after-land_change-clause-paid : goal.returns-after-land_change-clause-paid
returns-after-land_change-clause-paid c unbatched =
    let k = c.self.inside in
    let n = c.land_change.new in
    let on : is_on c.args.power.now ≡ true = sym c.on.ensures ∙ c.if-not-on.false in
    let is : k.lost ≡ false = awake k.tables k.group k.pm k.batched k.lost c.args.self.now c.args.power.now c.self.view_is c.requires.awake on in
    let off : k.batched ≡ false = ap (λ (x : View). x.batched) c.self.view_is ∙ unbatched in
    let planned : IsPlanOn k.tables c.rename.new.self k.group c.rename.new.batch k.pm k.batched = record {
      ready = ready-none k.tables k.group k.batch k.pm k.batched (c.self.invariant is);
      plan = (to-do c.args.path.now c.args.to.now k.tables c.rename.new.self c.rename.new.batch c.in-Ok.lost c.in-Ok.ensures (sym c.is_empty.ensures ∙ c.if-is_empty.false)).2;
      keeps = renamed-keeps c.args.path.now c.args.to.now k.tables.volume c.rename.new.self.volume c.in-Ok.lost (to-do c.args.path.now c.args.to.now k.tables c.rename.new.self c.rename.new.batch c.in-Ok.lost c.in-Ok.ensures (sym c.is_empty.ensures ∙ c.if-is_empty.false)).1;
    } in
    elim c.match-land_change.branch [
      | in-Ok-land_change w ↦
          subst (IsPaid (rename_row c.args.path.now c.args.to.now c.args.self.now) c.args.power.now n.power) (sym w.result-is)
          (paid-done c.in-Ok.lost (rename_row c.args.path.now c.args.to.now) k.tables.volume c.rename.new.self.volume c.rename.new.batch k.pm n.pm
          (view_of k.tables k.group k.pm k.batched k.lost) c.args.self.now c.args.power.now n.power c.self.view_is (to-do c.args.path.now c.args.to.now k.tables c.rename.new.self c.rename.new.batch c.in-Ok.lost c.in-Ok.ensures (sym c.is_empty.ensures ∙ c.if-is_empty.false)).0 planned.plan.some
          (w.in-Ok-land_change.ensures.landed k.tables planned off))
      | in-Err-land_change w ↦
          subst (IsPaid (rename_row c.args.path.now c.args.to.now c.args.self.now) c.args.power.now n.power) (sym w.result-is)
          (paid-cut (Option ℕ) (rename_row c.args.path.now c.args.to.now c.args.self.now) k.tables.volume c.rename.new.self.volume c.rename.new.batch k.pm n.pm c.args.power.now
          n.power w.in-Err-land_change.fault (w.in-Err-land_change.ensures.landed k.tables planned off))
    ]
