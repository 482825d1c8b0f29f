use Rattle.std.proofs.Common.{◌≡◌, ◌∷◌, ◌∙◌, [], ℕ, None, Ok, true, false, List, ap, subst, sym}
use Rattle.block_io.specs.pm_model.Powers.{is_on}
use Rattle.k_map_plans.specs.Plans.{fill_row as plan_row, IsLiveFile, row_of}
use Rattle.k_tables.specs.k_split_model.View.{View}
use Rattle.k_split.proofs.ChangeLaws.{awake, ready-none-ok, ready-or-lost}
use Rattle.k_split.proofs.Fills.{fill-answer, fill-gathers, fill-on, fill-paid}
use Rattle.k_split.proofs.Released.{none_there}
use Rattle.k_split.specs.Filling.{fill_row, IsFillJoin, IsFillLanded, IsFillPlanOn}
use Rattle.k_split.proofs.state.KSplit.fill_holes.Goals as goal

pub land_filled-requires-clause-plan : goal.land_filled-requires-clause-plan
land_filled-requires-clause-plan c =
    let k = c.self.inside in
    let on : is_on c.args.power.now ≡ true = sym c.on.ensures ∙ c.if-not-on.false in
    let is : k.lost ≡ false = awake k.tables k.group k.pm k.batched k.lost c.args.self.now c.args.power.now c.self.view_is c.requires.awake on in
    let ready = c.self.invariant is in
    let file : IsLiveFile c.args.ino k.tables.volume = subst (λ (x : View). x.lost ≡ false → IsLiveFile c.args.ino x.volume) (sym c.self.view_is) c.requires.file is in
    let plan : IsFillPlanOn c.deref.result.now k.tables c.plan_fill.new.tables (c.in-Ok.planned.1 ∷ []) k.group c.plan_fill.new.batch k.pm k.batched =
    subst (λ (fs : List ℕ). IsFillPlanOn fs k.tables c.plan_fill.new.tables (c.in-Ok.planned.1 ∷ []) k.group c.plan_fill.new.batch k.pm k.batched) (sym c.deref.ensures.value)
    (fill-on k.tables c.plan_fill.new.tables k.pm k.batched k.group k.batch c.plan_fill.new.batch c.in-Ok.planned.1 c.in-Ok.planned.0.items c.args.ino c.args.first c.args.count
    ready file c.in-Ok.ensures.planned.filled c.in-Ok.ensures.planned.one)
    in
    (k.tables, plan)

pub invariant_of-self-2 : goal.invariant_of-self-2
invariant_of-self-2 c still =
    let k = c.self.inside in
    let on : is_on c.args.power.now ≡ true = sym c.on.ensures ∙ c.if-not-on.false in
    let is : k.lost ≡ false = awake k.tables k.group k.pm k.batched k.lost c.args.self.now c.args.power.now c.self.view_is c.requires.awake on in
    let ready = c.self.invariant is in
    let file : IsLiveFile c.args.ino k.tables.volume = subst (λ (x : View). x.lost ≡ false → IsLiveFile c.args.ino x.volume) (sym c.self.view_is) c.requires.file is in
    let plan : IsFillPlanOn c.deref.result.now k.tables c.plan_fill.new.tables (c.in-Ok.planned.1 ∷ []) k.group c.plan_fill.new.batch k.pm k.batched =
    subst (λ (fs : List ℕ). IsFillPlanOn fs k.tables c.plan_fill.new.tables (c.in-Ok.planned.1 ∷ []) k.group c.plan_fill.new.batch k.pm k.batched) (sym c.deref.ensures.value)
    (fill-on k.tables c.plan_fill.new.tables k.pm k.batched k.group k.batch c.plan_fill.new.batch c.in-Ok.planned.1 c.in-Ok.planned.0.items c.args.ino c.args.first c.args.count
    ready file c.in-Ok.ensures.planned.filled c.in-Ok.ensures.planned.one)
    in
    let n = c.land_filled.new in
    ready-or-lost n.tables n.group n.batch n.pm k.batched n.lost c.land_filled.result (c.land_filled.ensures.ready k.tables plan) c.land_filled.ensures.noted still

pub returns-clause-paid : goal.returns-clause-paid
returns-clause-paid c unbatched =
    let k = c.self.inside in
    let on : is_on c.args.power.now ≡ true = sym c.on.ensures ∙ c.if-not-on.false in
    let is : k.lost ≡ false = awake k.tables k.group k.pm k.batched k.lost c.args.self.now c.args.power.now c.self.view_is c.requires.awake on in
    let ready = c.self.invariant is in
    let file : IsLiveFile c.args.ino k.tables.volume = subst (λ (x : View). x.lost ≡ false → IsLiveFile c.args.ino x.volume) (sym c.self.view_is) c.requires.file is in
    let plan : IsFillPlanOn c.deref.result.now k.tables c.plan_fill.new.tables (c.in-Ok.planned.1 ∷ []) k.group c.plan_fill.new.batch k.pm k.batched =
    subst (λ (fs : List ℕ). IsFillPlanOn fs k.tables c.plan_fill.new.tables (c.in-Ok.planned.1 ∷ []) k.group c.plan_fill.new.batch k.pm k.batched) (sym c.deref.ensures.value)
    (fill-on k.tables c.plan_fill.new.tables k.pm k.batched k.group k.batch c.plan_fill.new.batch c.in-Ok.planned.1 c.in-Ok.planned.0.items c.args.ino c.args.first c.args.count
    ready file c.in-Ok.ensures.planned.filled c.in-Ok.ensures.planned.one)
    in
    let row : fill_row c.args.ino c.args.first c.args.count c.args.self.now ≡ None =
    subst (λ (x : View). fill_row c.args.ino c.args.first c.args.count x ≡ None) c.self.view_is
    (sym (ap (plan_row c.args.ino c.args.first c.args.count) (none_there k.tables ready.opened.idle))
    ∙ sym c.may_fill.ensures.row ∙ ap row_of (c.in-Ok-true.is ∙ ap (λ b. Ok b) c.in-Ok-true.field-0-test))
    in
    let n = c.land_filled.new in
    let off : k.batched ≡ false = ap (λ (x : View). x.batched) c.self.view_is ∙ unbatched in
    fill-paid c.deref.result.now c.in-Ok.planned.1 k.tables.volume c.plan_fill.new.tables.volume k.pm n.pm c.args.power.now n.power c.land_filled.result
    (fill_row c.args.ino c.args.first c.args.count c.args.self.now) row (c.land_filled.ensures.landed k.tables plan off)

pub returns-clause-answer : goal.returns-clause-answer
returns-clause-answer c unbatched =
    let k = c.self.inside in
    let on : is_on c.args.power.now ≡ true = sym c.on.ensures ∙ c.if-not-on.false in
    let is : k.lost ≡ false = awake k.tables k.group k.pm k.batched k.lost c.args.self.now c.args.power.now c.self.view_is c.requires.awake on in
    let ready = c.self.invariant is in
    let file : IsLiveFile c.args.ino k.tables.volume = subst (λ (x : View). x.lost ≡ false → IsLiveFile c.args.ino x.volume) (sym c.self.view_is) c.requires.file is in
    let plan : IsFillPlanOn c.deref.result.now k.tables c.plan_fill.new.tables (c.in-Ok.planned.1 ∷ []) k.group c.plan_fill.new.batch k.pm k.batched =
    subst (λ (fs : List ℕ). IsFillPlanOn fs k.tables c.plan_fill.new.tables (c.in-Ok.planned.1 ∷ []) k.group c.plan_fill.new.batch k.pm k.batched) (sym c.deref.ensures.value)
    (fill-on k.tables c.plan_fill.new.tables k.pm k.batched k.group k.batch c.plan_fill.new.batch c.in-Ok.planned.1 c.in-Ok.planned.0.items c.args.ino c.args.first c.args.count
    ready file c.in-Ok.ensures.planned.filled c.in-Ok.ensures.planned.one)
    in
    let row : fill_row c.args.ino c.args.first c.args.count c.args.self.now ≡ None =
    subst (λ (x : View). fill_row c.args.ino c.args.first c.args.count x ≡ None) c.self.view_is
    (sym (ap (plan_row c.args.ino c.args.first c.args.count) (none_there k.tables ready.opened.idle))
    ∙ sym c.may_fill.ensures.row ∙ ap row_of (c.in-Ok-true.is ∙ ap (λ b. Ok b) c.in-Ok-true.field-0-test))
    in
    let n = c.land_filled.new in
    let off : k.batched ≡ false = ap (λ (x : View). x.batched) c.self.view_is ∙ unbatched in
    let landed : IsFillLanded c.in-Ok.planned.0.items (c.in-Ok.planned.1 ∷ []) k.tables.volume c.plan_fill.new.tables.volume k.pm n.pm c.args.power.now n.power c.land_filled.result =
    subst (λ (fs : List ℕ). IsFillLanded fs (c.in-Ok.planned.1 ∷ []) k.tables.volume c.plan_fill.new.tables.volume k.pm n.pm c.args.power.now n.power c.land_filled.result)
    c.deref.ensures.value (c.land_filled.ensures.landed k.tables plan off)
    in
    fill-answer k.tables c.plan_fill.new.tables k.pm k.batched k.group k.batch c.plan_fill.new.batch c.in-Ok.planned.1 c.in-Ok.planned.0.items c.args.ino c.args.first c.args.count
    ready file c.in-Ok.ensures.planned.filled c.in-Ok.ensures.planned.one k.lost is c.args.self.now c.self.view_is row n.tables n.group n.pm n.lost c.land_filled.ensures.volume
    c.args.power.now n.power c.land_filled.result off c.land_filled.ensures.same c.land_filled.ensures.noted
    (ready-none-ok n.tables n.group n.batch n.pm k.batched c.land_filled.result (c.land_filled.ensures.ready k.tables plan)) landed

pub returns-clause-gathers : goal.returns-clause-gathers
returns-clause-gathers c batched =
    let k = c.self.inside in
    let on : is_on c.args.power.now ≡ true = sym c.on.ensures ∙ c.if-not-on.false in
    let is : k.lost ≡ false = awake k.tables k.group k.pm k.batched k.lost c.args.self.now c.args.power.now c.self.view_is c.requires.awake on in
    let ready = c.self.invariant is in
    let file : IsLiveFile c.args.ino k.tables.volume = subst (λ (x : View). x.lost ≡ false → IsLiveFile c.args.ino x.volume) (sym c.self.view_is) c.requires.file is in
    let plan : IsFillPlanOn c.deref.result.now k.tables c.plan_fill.new.tables (c.in-Ok.planned.1 ∷ []) k.group c.plan_fill.new.batch k.pm k.batched =
    subst (λ (fs : List ℕ). IsFillPlanOn fs k.tables c.plan_fill.new.tables (c.in-Ok.planned.1 ∷ []) k.group c.plan_fill.new.batch k.pm k.batched) (sym c.deref.ensures.value)
    (fill-on k.tables c.plan_fill.new.tables k.pm k.batched k.group k.batch c.plan_fill.new.batch c.in-Ok.planned.1 c.in-Ok.planned.0.items c.args.ino c.args.first c.args.count
    ready file c.in-Ok.ensures.planned.filled c.in-Ok.ensures.planned.one)
    in
    let row : fill_row c.args.ino c.args.first c.args.count c.args.self.now ≡ None =
    subst (λ (x : View). fill_row c.args.ino c.args.first c.args.count x ≡ None) c.self.view_is
    (sym (ap (plan_row c.args.ino c.args.first c.args.count) (none_there k.tables ready.opened.idle))
    ∙ sym c.may_fill.ensures.row ∙ ap row_of (c.in-Ok-true.is ∙ ap (λ b. Ok b) c.in-Ok-true.field-0-test))
    in
    let n = c.land_filled.new in
    let gathers : k.batched ≡ true = ap (λ (x : View). x.batched) c.self.view_is ∙ batched in
    let Joins : List ℕ → Type 0 = λ fs. (s : IsFillPlanOn fs k.tables c.plan_fill.new.tables (c.in-Ok.planned.1 ∷ []) k.group c.plan_fill.new.batch k.pm k.batched)
    → IsFillJoin fs (c.in-Ok.planned.1 ∷ []) s.planned.ready.committed k.tables c.plan_fill.new.tables n.tables k.group c.plan_fill.new.batch n.group k.pm n.pm n.power c.land_filled.result in
    let all : Joins c.deref.result.now = λ s. c.land_filled.ensures.joined k.tables s gathers in
    let one : Joins c.in-Ok.planned.0.items = subst Joins c.deref.ensures.value all in
    let own =
    fill-on k.tables c.plan_fill.new.tables k.pm k.batched k.group k.batch c.plan_fill.new.batch c.in-Ok.planned.1 c.in-Ok.planned.0.items c.args.ino c.args.first c.args.count
    ready file c.in-Ok.ensures.planned.filled c.in-Ok.ensures.planned.one
    in
    fill-gathers k.tables c.plan_fill.new.tables k.pm k.batched k.group k.batch c.plan_fill.new.batch c.in-Ok.planned.1 c.in-Ok.planned.0.items c.args.ino c.args.first c.args.count
    ready file c.in-Ok.ensures.planned.filled c.in-Ok.ensures.planned.one k.lost is c.args.self.now c.self.view_is row n.tables n.group n.pm n.lost c.land_filled.ensures.volume
    n.power c.land_filled.result gathers c.land_filled.ensures.same c.land_filled.ensures.noted
    (ready-none-ok n.tables n.group n.batch n.pm k.batched c.land_filled.result (c.land_filled.ensures.ready k.tables plan)) (one own)
