use Rattle.std.proofs.Common.{[], ◌≡◌, ℕ, true, false, sym, ◌∙◌, ap, subst}
use Rattle.block_io.specs.pm_model.Powers.{is_on}
use Rattle.k_group_commit.specs.PlanJoins.{made-keeps}
use Rattle.k_map_plans.specs.k_plans.Making.{IsMade}
use Rattle.k_tables.specs.k_split_model.View.{View}
use Rattle.std.specs.Prelude.{Result}
use Rattle.k_split.specs.declared.faults.KFault.{KFault}
use Rattle.k_split.specs.Answers.{IsPowered}
use Rattle.k_split.specs.Gathers.{IsGatherMake}
use Rattle.k_split.specs.Landed.{IsPlanOn}
use Rattle.k_split.specs.Names.{IsMakeAnswer, make_row}
use Rattle.k_split.specs.Order.{view_of}
use Rattle.k_split.proofs.ChangeLaws.{answer-cut, answer-done, awake, ready-none}
use Rattle.k_split.proofs.Joined.{gather-done, gather-fault}
use Rattle.k_split.proofs.Powered.{fault-powered}
use Rattle.k_split.proofs.state.KSplit.make.Goals as goal
use Rattle.k_split.proofs.state.KSplit.make.Goals.{in-Ok-land_change, in-Err-land_change}

pub land_change-requires-clause-plan : goal.land_change-requires-clause-plan
land_change-requires-clause-plan c =
    let k = c.self.inside in
    let on : is_on c.args.power.now ≡ true = sym c.on.ensures ∙ c.if-not-on.false in
    let is : k.lost ≡ false = awake k.tables k.group k.pm k.batched k.lost c.args.self.now c.args.power.now c.self.view_is c.requires.awake on in (
      k.tables,
      record {
        ready = ready-none k.tables k.group k.batch k.pm k.batched (c.self.invariant is);
        plan = c.in-Ok.ensures.2;
        keeps = made-keeps c.args.directory c.args.path.now k.tables.volume c.make.new.self.volume c.in-Ok.ino c.in-Ok.ensures.1;
      },
    )

pub returns-after-land_change-clause-answer : goal.returns-after-land_change-clause-answer
returns-after-land_change-clause-answer c unbatched =
    let k = c.self.inside in
    let n = c.land_change.new in
    let on : is_on c.args.power.now ≡ true = sym c.on.ensures ∙ c.if-not-on.false in
    let is : k.lost ≡ false = awake k.tables k.group k.pm k.batched k.lost c.args.self.now c.args.power.now c.self.view_is c.requires.awake on in
    let off : k.batched ≡ false = ap (λ (x : View). x.batched) c.self.view_is ∙ unbatched in
    let planned : IsPlanOn k.tables c.make.new.self k.group c.make.new.batch k.pm k.batched = record {
      ready = ready-none k.tables k.group k.batch k.pm k.batched (c.self.invariant is);
      plan = c.in-Ok.ensures.2;
      keeps = made-keeps c.args.directory c.args.path.now k.tables.volume c.make.new.self.volume c.in-Ok.ino c.in-Ok.ensures.1;
    } in
    elim c.match-land_change.branch [
      | in-Ok-land_change w ↦
          subst (IsMakeAnswer c.args.directory c.args.path.now c.args.self.now (view_of n.tables n.group n.pm k.batched n.lost)) (sym w.result-is)
          (answer-done k.tables c.make.new.self k.group c.make.new.batch k.pm k.batched k.lost c.args.self.now is c.self.view_is planned n.tables n.group n.pm n.lost
          c.land_change.ensures.volume off c.in-Ok.ino (make_row c.args.path.now) (λ x ino w. IsMade c.args.directory c.args.path.now x.volume w ino)
          c.args.power.now n.power w.in-Ok-land_change.ensures.same
          (ready-none n.tables n.group n.batch n.pm k.batched (w.in-Ok-land_change.ensures.ready k.tables planned)) c.in-Ok.ensures.0 c.in-Ok.ensures.1
          (w.in-Ok-land_change.ensures.landed k.tables planned off))
      | in-Err-land_change w ↦
          subst (IsMakeAnswer c.args.directory c.args.path.now c.args.self.now (view_of n.tables n.group n.pm k.batched n.lost)) (sym w.result-is)
          (answer-cut k.tables c.make.new.self k.group c.make.new.batch k.pm k.batched k.lost c.args.self.now is c.self.view_is planned n.tables n.group n.pm n.lost
          c.land_change.ensures.volume off c.in-Ok.ino (make_row c.args.path.now) (λ x ino w. IsMade c.args.directory c.args.path.now x.volume w ino)
          c.args.power.now n.power w.in-Err-land_change.fault w.in-Err-land_change.ensures.noted c.in-Ok.ensures.0 c.in-Ok.ensures.1
          (w.in-Err-land_change.ensures.landed k.tables planned off))
    ]

pub returns-after-land_change-clause-gathers : goal.returns-after-land_change-clause-gathers
returns-after-land_change-clause-gathers c batched =
    let k = c.self.inside in
    let n = c.land_change.new in
    let on : is_on c.args.power.now ≡ true = sym c.on.ensures ∙ c.if-not-on.false in
    let is : k.lost ≡ false = awake k.tables k.group k.pm k.batched k.lost c.args.self.now c.args.power.now c.self.view_is c.requires.awake on in
    let gathers : k.batched ≡ true = ap (λ (x : View). x.batched) c.self.view_is ∙ batched in
    let planned : IsPlanOn k.tables c.make.new.self k.group c.make.new.batch k.pm k.batched = record {
      ready = ready-none k.tables k.group k.batch k.pm k.batched (c.self.invariant is);
      plan = c.in-Ok.ensures.2;
      keeps = made-keeps c.args.directory c.args.path.now k.tables.volume c.make.new.self.volume c.in-Ok.ino c.in-Ok.ensures.1;
    } in
    elim c.match-land_change.branch [
      | in-Ok-land_change w ↦
          subst (IsGatherMake c.args.directory c.args.path.now c.args.self.now (view_of n.tables n.group n.pm k.batched n.lost)) (sym w.result-is)
          (gather-done k.tables c.make.new.self k.group c.make.new.batch k.pm k.batched k.lost is planned gathers n.tables n.group n.pm n.lost
          c.land_change.ensures.volume c.in-Ok.ino (make_row c.args.path.now) (λ x ino w. IsMade c.args.directory c.args.path.now x.volume w ino)
          c.args.self.now c.self.view_is w.in-Ok-land_change.ensures.same
          (ready-none n.tables n.group n.batch n.pm k.batched (w.in-Ok-land_change.ensures.ready k.tables planned)) c.in-Ok.ensures.0 c.in-Ok.ensures.1
          (w.in-Ok-land_change.ensures.joined k.tables planned gathers).0)
      | in-Err-land_change w ↦
          subst (IsGatherMake c.args.directory c.args.path.now c.args.self.now (view_of n.tables n.group n.pm k.batched n.lost)) (sym w.result-is)
          (gather-fault k.tables c.make.new.self k.group c.make.new.batch k.pm k.batched k.lost is planned gathers n.tables n.group n.pm n.lost
          c.land_change.ensures.volume c.in-Ok.ino (make_row c.args.path.now) (λ x ino w. IsMade c.args.directory c.args.path.now x.volume w ino)
          c.args.self.now n.power w.in-Err-land_change.fault c.self.view_is w.in-Err-land_change.ensures.noted c.in-Ok.ensures.0 c.in-Ok.ensures.1
          (w.in-Err-land_change.ensures.joined k.tables planned gathers))
    ]

pub returns-after-land_change-clause-powered : goal.returns-after-land_change-clause-powered
returns-after-land_change-clause-powered c batched =
    let k = c.self.inside in
    let n = c.land_change.new in
    let on : is_on c.args.power.now ≡ true = sym c.on.ensures ∙ c.if-not-on.false in
    let is : k.lost ≡ false = awake k.tables k.group k.pm k.batched k.lost c.args.self.now c.args.power.now c.self.view_is c.requires.awake on in
    let gathers : k.batched ≡ true = ap (λ (x : View). x.batched) c.self.view_is ∙ batched in
    let planned : IsPlanOn k.tables c.make.new.self k.group c.make.new.batch k.pm k.batched = record {
      ready = ready-none k.tables k.group k.batch k.pm k.batched (c.self.invariant is);
      plan = c.in-Ok.ensures.2;
      keeps = made-keeps c.args.directory c.args.path.now k.tables.volume c.make.new.self.volume c.in-Ok.ino c.in-Ok.ensures.1;
    } in
    elim c.match-land_change.branch [
      | in-Ok-land_change w ↦
          subst (λ (r : Result ℕ KFault). IsPowered n.power r) (sym w.result-is) (w.in-Ok-land_change.ensures.joined k.tables planned gathers).1
      | in-Err-land_change w ↦
          subst (λ (r : Result ℕ KFault). IsPowered n.power r) (sym w.result-is)
          (fault-powered ℕ planned.ready.committed k.tables c.make.new.self n.tables [] k.group c.make.new.batch n.group k.pm n.pm n.power w.in-Err-land_change.fault (w.in-Err-land_change.ensures.joined k.tables planned gathers))
    ]
