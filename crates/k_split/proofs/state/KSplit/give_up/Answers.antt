use Rattle.std.proofs.Common.{[], ◌≡◌, ◌∷◌, ◌++◌, ◌/◌, ◌<◌, ℕ, true, false, List, Option, None, refl, sym, ◌∙◌, ap, arith, inl, inr, subst}
use Rattle.block_io.specs.pm_model.Powers.{is_on}
use Rattle.block_io.specs.image_model.Volume.{inode}
use Rattle.k_map_plans.specs.k_plans.LandingsPlans.{blocks_of, NewChain}
use Rattle.k_tables.specs.k_split_model.View.{View}
use Rattle.k_split.specs.MapLanded.{IsMapPlanOn}
use Rattle.k_split.proofs.ChangeLaws.{awake, ready-none, ready-none-ok, ready-or-lost}
use Rattle.k_split.proofs.MapAnswers.{map-paid}
use Rattle.k_split.proofs.MapJoined.{answer-maps, gather-maps}
use Rattle.k_group_commit.specs.MapJoins.{given-joins}
use Rattle.k_map_plans.specs.Plans.{IsStagingFile}
use Rattle.k_map_plans.specs.k_plans.WrittenLaws.{blocks_of-one}
use Rattle.k_split.specs.MapChanges.{IsGivenUpWith, IsStagedSingle}
use Rattle.k_split.proofs.MapAnswers.{given-chain, single-unstaged, unstaged-from}
use Rattle.k_split.proofs.state.KSplit.give_up.Goals as goal

pub land_maps_change-requires-clause-plan : goal.land_maps_change-requires-clause-plan
land_maps_change-requires-clause-plan c =
    let k = c.self.inside in
    let on : is_on c.args.power.now ≡ true = sym c.on.ensures ∙ c.if-not-on.false in
    let is : k.lost ≡ false = awake k.tables k.group k.pm k.batched k.lost c.args.self.now c.args.power.now c.self.view_is c.requires.awake on in
    let ready = c.self.invariant is in
    let file : IsStagingFile c.args.staging k.tables.volume = subst (λ (x : View). x.lost ≡ false → IsStagingFile c.args.staging x.volume) (sym c.self.view_is) c.requires.staging is in
    let home : IsStagedSingle c.args.staging k.tables.volume k.pm = subst (λ (x : View). x.lost ≡ false → IsStagedSingle c.args.staging x.volume x.cells) (sym c.self.view_is) c.requires.home is in
    let planned-one = c.in-Ok.ensures in
    let planned : IsMapPlanOn k.tables c.plan_give_up.new.tables c.from_ref.result.now k.group c.plan_give_up.new.batch k.pm k.batched =
    subst (λ (ns : List NewChain). IsMapPlanOn k.tables c.plan_give_up.new.tables ns k.group c.plan_give_up.new.batch k.pm k.batched) (sym c.from_ref.ensures.value) (record {
      ready = ready-none k.tables k.group k.batch k.pm k.batched ready;
      plan = planned-one.1.plan;
      joining = given-joins k.tables c.plan_give_up.new.tables c.args.staging c.plan_give_up.new.batch ready.opened.whole file.below c.in-Ok.map planned-one.0 planned-one.1;
      keeps = λ e singles. unstaged-from k.tables.volume c.plan_give_up.new.tables.volume k.pm e planned-one.1.plan.geometry singles ready.unstaged
          (single-unstaged k.tables.volume c.plan_give_up.new.tables.volume c.args.staging (inode k.tables.volume c.args.staging) [] [] planned-one.0 k.pm home);
    })
    in
    (k.tables, planned)

pub invariant_of-self-2 : goal.invariant_of-self-2
invariant_of-self-2 c still =
    let k = c.self.inside in
    let on : is_on c.args.power.now ≡ true = sym c.on.ensures ∙ c.if-not-on.false in
    let is : k.lost ≡ false = awake k.tables k.group k.pm k.batched k.lost c.args.self.now c.args.power.now c.self.view_is c.requires.awake on in
    let ready = c.self.invariant is in
    let file : IsStagingFile c.args.staging k.tables.volume = subst (λ (x : View). x.lost ≡ false → IsStagingFile c.args.staging x.volume) (sym c.self.view_is) c.requires.staging is in
    let home : IsStagedSingle c.args.staging k.tables.volume k.pm = subst (λ (x : View). x.lost ≡ false → IsStagedSingle c.args.staging x.volume x.cells) (sym c.self.view_is) c.requires.home is in
    let planned-one = c.in-Ok.ensures in
    let n = c.land_maps_change.new in
    let planned : IsMapPlanOn k.tables c.plan_give_up.new.tables c.from_ref.result.now k.group c.plan_give_up.new.batch k.pm k.batched =
    subst (λ (ns : List NewChain). IsMapPlanOn k.tables c.plan_give_up.new.tables ns k.group c.plan_give_up.new.batch k.pm k.batched) (sym c.from_ref.ensures.value) (record {
      ready = ready-none k.tables k.group k.batch k.pm k.batched ready;
      plan = planned-one.1.plan;
      joining = given-joins k.tables c.plan_give_up.new.tables c.args.staging c.plan_give_up.new.batch ready.opened.whole file.below c.in-Ok.map planned-one.0 planned-one.1;
      keeps = λ e singles. unstaged-from k.tables.volume c.plan_give_up.new.tables.volume k.pm e planned-one.1.plan.geometry singles ready.unstaged
          (single-unstaged k.tables.volume c.plan_give_up.new.tables.volume c.args.staging (inode k.tables.volume c.args.staging) [] [] planned-one.0 k.pm home);
    })
    in
    ready-or-lost n.tables n.group n.batch n.pm k.batched n.lost c.land_maps_change.result (c.land_maps_change.ensures.ready k.tables planned)
    c.land_maps_change.ensures.noted still

pub returns-clause-paid : goal.returns-clause-paid
returns-clause-paid c unbatched =
    let k = c.self.inside in
    let on : is_on c.args.power.now ≡ true = sym c.on.ensures ∙ c.if-not-on.false in
    let is : k.lost ≡ false = awake k.tables k.group k.pm k.batched k.lost c.args.self.now c.args.power.now c.self.view_is c.requires.awake on in
    let ready = c.self.invariant is in
    let file : IsStagingFile c.args.staging k.tables.volume = subst (λ (x : View). x.lost ≡ false → IsStagingFile c.args.staging x.volume) (sym c.self.view_is) c.requires.staging is in
    let home : IsStagedSingle c.args.staging k.tables.volume k.pm = subst (λ (x : View). x.lost ≡ false → IsStagedSingle c.args.staging x.volume x.cells) (sym c.self.view_is) c.requires.home is in
    let planned-one = c.in-Ok.ensures in
    let n = c.land_maps_change.new in
    let off : k.batched ≡ false = ap (λ (x : View). x.batched) c.self.view_is ∙ unbatched in
    let planned : IsMapPlanOn k.tables c.plan_give_up.new.tables c.from_ref.result.now k.group c.plan_give_up.new.batch k.pm k.batched =
    subst (λ (ns : List NewChain). IsMapPlanOn k.tables c.plan_give_up.new.tables ns k.group c.plan_give_up.new.batch k.pm k.batched) (sym c.from_ref.ensures.value) (record {
      ready = ready-none k.tables k.group k.batch k.pm k.batched ready;
      plan = planned-one.1.plan;
      joining = given-joins k.tables c.plan_give_up.new.tables c.args.staging c.plan_give_up.new.batch ready.opened.whole file.below c.in-Ok.map planned-one.0 planned-one.1;
      keeps = λ e singles. unstaged-from k.tables.volume c.plan_give_up.new.tables.volume k.pm e planned-one.1.plan.geometry singles ready.unstaged
          (single-unstaged k.tables.volume c.plan_give_up.new.tables.volume c.args.staging (inode k.tables.volume c.args.staging) [] [] planned-one.0 k.pm home);
    })
    in
    map-paid (blocks_of c.from_ref.result.now) k.tables.volume c.plan_give_up.new.tables.volume k.pm n.pm c.args.power.now n.power c.land_maps_change.result
    (c.land_maps_change.ensures.landed k.tables planned off)

pub returns-clause-answer : goal.returns-clause-answer
returns-clause-answer c unbatched =
    let k = c.self.inside in
    let on : is_on c.args.power.now ≡ true = sym c.on.ensures ∙ c.if-not-on.false in
    let is : k.lost ≡ false = awake k.tables k.group k.pm k.batched k.lost c.args.self.now c.args.power.now c.self.view_is c.requires.awake on in
    let ready = c.self.invariant is in
    let file : IsStagingFile c.args.staging k.tables.volume = subst (λ (x : View). x.lost ≡ false → IsStagingFile c.args.staging x.volume) (sym c.self.view_is) c.requires.staging is in
    let home : IsStagedSingle c.args.staging k.tables.volume k.pm = subst (λ (x : View). x.lost ≡ false → IsStagedSingle c.args.staging x.volume x.cells) (sym c.self.view_is) c.requires.home is in
    let planned-one = c.in-Ok.ensures in
    let n = c.land_maps_change.new in
    let off : k.batched ≡ false = ap (λ (x : View). x.batched) c.self.view_is ∙ unbatched in
    let planned : IsMapPlanOn k.tables c.plan_give_up.new.tables c.from_ref.result.now k.group c.plan_give_up.new.batch k.pm k.batched =
    subst (λ (ns : List NewChain). IsMapPlanOn k.tables c.plan_give_up.new.tables ns k.group c.plan_give_up.new.batch k.pm k.batched) (sym c.from_ref.ensures.value) (record {
      ready = ready-none k.tables k.group k.batch k.pm k.batched ready;
      plan = planned-one.1.plan;
      joining = given-joins k.tables c.plan_give_up.new.tables c.args.staging c.plan_give_up.new.batch ready.opened.whole file.below c.in-Ok.map planned-one.0 planned-one.1;
      keeps = λ e singles. unstaged-from k.tables.volume c.plan_give_up.new.tables.volume k.pm e planned-one.1.plan.geometry singles ready.unstaged
          (single-unstaged k.tables.volume c.plan_give_up.new.tables.volume c.args.staging (inode k.tables.volume c.args.staging) [] [] planned-one.0 k.pm home);
    })
    in
    answer-maps k.tables c.plan_give_up.new.tables c.from_ref.result.now k.group c.plan_give_up.new.batch k.pm k.batched k.lost is planned off n.tables n.group n.pm n.lost
    c.land_maps_change.ensures.volume (blocks_of c.from_ref.result.now) (λ x w blocks. IsGivenUpWith c.args.staging x w blocks) c.args.self.now c.args.power.now n.power
    c.land_maps_change.result c.self.view_is c.land_maps_change.ensures.same c.land_maps_change.ensures.noted
    (ready-none-ok n.tables n.group n.batch n.pm k.batched c.land_maps_change.result (c.land_maps_change.ensures.ready k.tables planned))
    (record {
      given = planned-one.0;
      written = ap blocks_of c.from_ref.ensures.value ∙ blocks_of-one c.in-Ok.map ∙ planned-one.1.chain_is
          ∙ given-chain k.tables.volume c.plan_give_up.new.tables.volume c.args.staging ready.opened.whole file planned-one.0;
    })
    (c.land_maps_change.ensures.landed k.tables planned off)

pub returns-clause-gathers : goal.returns-clause-gathers
returns-clause-gathers c batched =
    let k = c.self.inside in
    let on : is_on c.args.power.now ≡ true = sym c.on.ensures ∙ c.if-not-on.false in
    let is : k.lost ≡ false = awake k.tables k.group k.pm k.batched k.lost c.args.self.now c.args.power.now c.self.view_is c.requires.awake on in
    let ready = c.self.invariant is in
    let file : IsStagingFile c.args.staging k.tables.volume = subst (λ (x : View). x.lost ≡ false → IsStagingFile c.args.staging x.volume) (sym c.self.view_is) c.requires.staging is in
    let home : IsStagedSingle c.args.staging k.tables.volume k.pm = subst (λ (x : View). x.lost ≡ false → IsStagedSingle c.args.staging x.volume x.cells) (sym c.self.view_is) c.requires.home is in
    let planned-one = c.in-Ok.ensures in
    let n = c.land_maps_change.new in
    let gathers : k.batched ≡ true = ap (λ (x : View). x.batched) c.self.view_is ∙ batched in
    let planned : IsMapPlanOn k.tables c.plan_give_up.new.tables c.from_ref.result.now k.group c.plan_give_up.new.batch k.pm k.batched =
    subst (λ (ns : List NewChain). IsMapPlanOn k.tables c.plan_give_up.new.tables ns k.group c.plan_give_up.new.batch k.pm k.batched) (sym c.from_ref.ensures.value) (record {
      ready = ready-none k.tables k.group k.batch k.pm k.batched ready;
      plan = planned-one.1.plan;
      joining = given-joins k.tables c.plan_give_up.new.tables c.args.staging c.plan_give_up.new.batch ready.opened.whole file.below c.in-Ok.map planned-one.0 planned-one.1;
      keeps = λ e singles. unstaged-from k.tables.volume c.plan_give_up.new.tables.volume k.pm e planned-one.1.plan.geometry singles ready.unstaged
          (single-unstaged k.tables.volume c.plan_give_up.new.tables.volume c.args.staging (inode k.tables.volume c.args.staging) [] [] planned-one.0 k.pm home);
    })
    in
    gather-maps k.tables c.plan_give_up.new.tables c.from_ref.result.now k.group c.plan_give_up.new.batch k.pm k.batched k.lost is planned gathers n.tables n.group n.pm n.lost
    c.land_maps_change.ensures.volume (λ x w blocks. IsGivenUpWith c.args.staging x w blocks) c.args.self.now n.power
    c.land_maps_change.result c.self.view_is c.land_maps_change.ensures.same c.land_maps_change.ensures.noted
    (ready-none-ok n.tables n.group n.batch n.pm k.batched c.land_maps_change.result (c.land_maps_change.ensures.ready k.tables planned))
    (record {
      given = planned-one.0;
      written = ap blocks_of c.from_ref.ensures.value ∙ blocks_of-one c.in-Ok.map ∙ planned-one.1.chain_is
          ∙ given-chain k.tables.volume c.plan_give_up.new.tables.volume c.args.staging ready.opened.whole file planned-one.0;
    })
    (c.land_maps_change.ensures.joined k.tables planned gathers)
