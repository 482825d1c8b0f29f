use Rattle.std.proofs.Common.{[], ◌≡◌, ℕ, true, false, Option, None, Err, refl, sym, ◌∙◌, ap, inr, subst}
use Rattle.block_io.specs.pm_model.Powers.{is_on}
use Rattle.k_tables.specs.k_split_model.View.{View}
use Rattle.k_split.specs.Landed.{IsPlanOn}
use Rattle.k_split.specs.Order.{view_of}
use Rattle.k_group_commit.specs.PlanJoins.{unlinked-keeps}
use Rattle.k_map_plans.specs.k_plans.Removing.{IsUnlinked}
use Rattle.k_split.specs.Gathers.{IsGatherUnlink}
use Rattle.k_split.specs.Names.{IsUnlinkAnswer, unlink_row}
use Rattle.k_split.proofs.ChangeLaws.{answer-cut, answer-done, awake, ready-none}
use Rattle.k_split.proofs.Joined.{gather-done, gather-fault}
use Rattle.k_split.proofs.state.KSplit.unlink.Goals as goal
use Rattle.k_split.proofs.state.KSplit.unlink.Goals.{in-Ok-land_change, in-Err-land_change}

pub land_change-requires-clause-plan : goal.land_change-requires-clause-plan
land_change-requires-clause-plan c =
    let k = c.self.inside in
    let on : is_on c.args.power.now ≡ true = sym c.on.ensures ∙ c.if-not-on.false in
    let is : k.lost ≡ false = awake k.tables k.group k.pm k.batched k.lost c.args.self.now c.args.power.now c.self.view_is c.requires.awake on in (
      k.tables,
      record {
        ready = ready-none k.tables k.group k.batch k.pm k.batched (c.self.invariant is);
        plan = c.in-Ok.ensures.answer.2;
        keeps = unlinked-keeps c.args.path.now k.tables.volume c.unlink.new.self.volume c.in-Ok.ino c.in-Ok.ensures.answer.1;
      },
    )

pub returns-after-land_change-clause-answer : goal.returns-after-land_change-clause-answer
returns-after-land_change-clause-answer c unbatched =
    let k = c.self.inside in
    let n = c.land_change.new in
    let on : is_on c.args.power.now ≡ true = sym c.on.ensures ∙ c.if-not-on.false in
    let is : k.lost ≡ false = awake k.tables k.group k.pm k.batched k.lost c.args.self.now c.args.power.now c.self.view_is c.requires.awake on in
    let off : k.batched ≡ false = ap (λ (x : View). x.batched) c.self.view_is ∙ unbatched in
    let planned : IsPlanOn k.tables c.unlink.new.self k.group c.unlink.new.batch k.pm k.batched = record {
      ready = ready-none k.tables k.group k.batch k.pm k.batched (c.self.invariant is);
      plan = c.in-Ok.ensures.answer.2;
      keeps = unlinked-keeps c.args.path.now k.tables.volume c.unlink.new.self.volume c.in-Ok.ino c.in-Ok.ensures.answer.1;
    } in
    elim c.match-land_change.branch [
      | in-Ok-land_change w ↦
          subst (IsUnlinkAnswer c.args.path.now c.args.self.now (view_of n.tables n.group n.pm k.batched n.lost)) (sym w.result-is)
          (answer-done k.tables c.unlink.new.self k.group c.unlink.new.batch k.pm k.batched k.lost c.args.self.now is c.self.view_is planned n.tables n.group n.pm n.lost
          c.land_change.ensures.volume off c.in-Ok.ino (unlink_row c.args.path.now) (λ x ino w. IsUnlinked c.args.path.now x.volume w ino)
          c.args.power.now n.power w.in-Ok-land_change.ensures.same
          (ready-none n.tables n.group n.batch n.pm k.batched (w.in-Ok-land_change.ensures.ready k.tables planned)) c.in-Ok.ensures.answer.0 c.in-Ok.ensures.answer.1
          (w.in-Ok-land_change.ensures.landed k.tables planned off))
      | in-Err-land_change w ↦
          subst (IsUnlinkAnswer c.args.path.now c.args.self.now (view_of n.tables n.group n.pm k.batched n.lost)) (sym w.result-is)
          (answer-cut k.tables c.unlink.new.self k.group c.unlink.new.batch k.pm k.batched k.lost c.args.self.now is c.self.view_is planned n.tables n.group n.pm n.lost
          c.land_change.ensures.volume off c.in-Ok.ino (unlink_row c.args.path.now) (λ x ino w. IsUnlinked c.args.path.now x.volume w ino)
          c.args.power.now n.power w.in-Err-land_change.fault w.in-Err-land_change.ensures.noted c.in-Ok.ensures.answer.0 c.in-Ok.ensures.answer.1
          (w.in-Err-land_change.ensures.landed k.tables planned off))
    ]

pub returns-after-land_change-clause-gathers : goal.returns-after-land_change-clause-gathers
returns-after-land_change-clause-gathers c batched =
    let k = c.self.inside in
    let n = c.land_change.new in
    let on : is_on c.args.power.now ≡ true = sym c.on.ensures ∙ c.if-not-on.false in
    let is : k.lost ≡ false = awake k.tables k.group k.pm k.batched k.lost c.args.self.now c.args.power.now c.self.view_is c.requires.awake on in
    let gathers : k.batched ≡ true = ap (λ (x : View). x.batched) c.self.view_is ∙ batched in
    let planned : IsPlanOn k.tables c.unlink.new.self k.group c.unlink.new.batch k.pm k.batched = record {
      ready = ready-none k.tables k.group k.batch k.pm k.batched (c.self.invariant is);
      plan = c.in-Ok.ensures.answer.2;
      keeps = unlinked-keeps c.args.path.now k.tables.volume c.unlink.new.self.volume c.in-Ok.ino c.in-Ok.ensures.answer.1;
    } in
    elim c.match-land_change.branch [
      | in-Ok-land_change w ↦
          subst (IsGatherUnlink c.args.path.now c.args.self.now (view_of n.tables n.group n.pm k.batched n.lost)) (sym w.result-is)
          (gather-done k.tables c.unlink.new.self k.group c.unlink.new.batch k.pm k.batched k.lost is planned gathers n.tables n.group n.pm n.lost
          c.land_change.ensures.volume c.in-Ok.ino (unlink_row c.args.path.now) (λ x ino w. IsUnlinked c.args.path.now x.volume w ino)
          c.args.self.now c.self.view_is w.in-Ok-land_change.ensures.same
          (ready-none n.tables n.group n.batch n.pm k.batched (w.in-Ok-land_change.ensures.ready k.tables planned)) c.in-Ok.ensures.answer.0 c.in-Ok.ensures.answer.1
          (w.in-Ok-land_change.ensures.joined k.tables planned gathers).0)
      | in-Err-land_change w ↦
          subst (IsGatherUnlink c.args.path.now c.args.self.now (view_of n.tables n.group n.pm k.batched n.lost)) (sym w.result-is)
          (gather-fault k.tables c.unlink.new.self k.group c.unlink.new.batch k.pm k.batched k.lost is planned gathers n.tables n.group n.pm n.lost
          c.land_change.ensures.volume c.in-Ok.ino (unlink_row c.args.path.now) (λ x ino w. IsUnlinked c.args.path.now x.volume w ino)
          c.args.self.now n.power w.in-Err-land_change.fault c.self.view_is w.in-Err-land_change.ensures.noted c.in-Ok.ensures.answer.0 c.in-Ok.ensures.answer.1
          (w.in-Err-land_change.ensures.joined k.tables planned gathers))
    ]
