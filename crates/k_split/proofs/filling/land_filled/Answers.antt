use Rattle.std.proofs.Common.{ap, ◌≡◌, ◌∷◌, ◌+◌, ◌*◌, ◌∙◌, [], true, false, List, length, subst, sym}
use Rattle.block_io.specs.image_model.Volume.{Volume}
use Rattle.block_io.specs.pm_model.Powers.{is_on}
use Rattle.k_map_plans.specs.k_plans.LandingsPlans.{NewChain, blocks_of}
use Rattle.k_split.specs.Landed.{IsLandedJoin}
use Rattle.k_split.specs.MapChanges.{IsMapLanded}
use Rattle.k_split.specs.MapLanded.{IsMapPlanOn}
use Rattle.k_map_plans.specs.k_plans.View.{TablesView}
use Rattle.k_split.specs.Order.{IsSteady}
use Rattle.k_split.proofs.Steady.{steady-stays}
use Rattle.k_split.proofs.FillLands.{fill-alone, fill-joined, fill-landed, fill-lost, goes-zeroed, may-zero-on, plan-zeroed, zeroed-committed, zeroed-lost}
use Rattle.k_split.proofs.filling.land_filled.Goals as goal

pub zero_blocks-requires : goal.zero_blocks-requires
zero_blocks-requires c = record {
  ready = λ on. may-zero-on c.args.fresh.now c.requires.plan.0 c.args.tables.now (c.args.map.now ∷ []) c.args.group.now c.args.batch.now c.args.pm.now c.args.batched c.requires.plan.1;
}

pub returns-then-not-on-clause-landed : goal.returns-then-not-on-clause-landed
returns-then-not-on-clause-landed c t plan off =
    fill-lost c.args.fresh.now (c.args.map.now ∷ []) t.volume c.args.tables.now.volume c.args.batch.now c.args.pm.now
    (fill-alone c.args.fresh.now t c.args.tables.now (c.args.map.now ∷ []) c.args.group.now c.args.batch.now c.args.pm.now c.args.batched plan off)
    c.zero_blocks.new.pm c.zero_blocks.ensures.size c.zero_blocks.ensures.lent c.zero_blocks.ensures.each_image c.zero_blocks.ensures.others
    c.args.power.now c.zero_blocks.new.power (sym c.on.ensures ∙ c.if-not-on.true)

pub returns-then-not-on-clause-joined : goal.returns-then-not-on-clause-joined
returns-then-not-on-clause-joined c t plan batched =
    zeroed-lost c.args.fresh.now t c.args.tables.now (c.args.map.now ∷ []) c.args.group.now c.args.batch.now c.args.pm.now c.args.batched plan
    c.zero_blocks.new.pm c.zero_blocks.ensures.size c.zero_blocks.ensures.lent c.zero_blocks.ensures.each_image c.zero_blocks.ensures.others
    c.release.new.self c.args.group.now c.zero_blocks.new.power (sym c.on.ensures ∙ c.if-not-on.true)

pub land_maps_change-requires-clause-plan : goal.land_maps_change-requires-clause-plan
land_maps_change-requires-clause-plan c =
    let on : is_on c.zero_blocks.new.power ≡ true = sym c.on.ensures ∙ c.if-not-on.false in (
      c.requires.plan.0,
      subst (λ (ns : List NewChain). IsMapPlanOn c.requires.plan.0 c.args.tables.now ns c.args.group.now c.args.batch.now c.zero_blocks.new.pm c.args.batched) (sym c.from_ref.ensures.value)
          (plan-zeroed c.args.fresh.now c.requires.plan.0 c.args.tables.now (c.args.map.now ∷ []) c.args.group.now c.args.batch.now c.args.pm.now c.args.batched c.requires.plan.1
          c.zero_blocks.new.pm c.zero_blocks.ensures.size c.zero_blocks.ensures.lent c.zero_blocks.ensures.each_image c.zero_blocks.ensures.others
          (c.zero_blocks.ensures.durable on) (c.zero_blocks.ensures.keeps on)),
    )

pub returns-clause-landed : goal.returns-clause-landed
returns-clause-landed c t plan off =
    let on : is_on c.zero_blocks.new.power ≡ true = sym c.on.ensures ∙ c.if-not-on.false in
    let still : IsMapPlanOn t c.args.tables.now (c.args.map.now ∷ []) c.args.group.now c.args.batch.now c.zero_blocks.new.pm c.args.batched =
    plan-zeroed c.args.fresh.now t c.args.tables.now (c.args.map.now ∷ []) c.args.group.now c.args.batch.now c.args.pm.now c.args.batched plan
    c.zero_blocks.new.pm c.zero_blocks.ensures.size c.zero_blocks.ensures.lent c.zero_blocks.ensures.each_image c.zero_blocks.ensures.others
    (c.zero_blocks.ensures.durable on) (c.zero_blocks.ensures.keeps on)
    in
    let landed : IsMapLanded (blocks_of (c.args.map.now ∷ [])) t.volume c.args.tables.now.volume c.zero_blocks.new.pm c.land_maps_change.new.pm c.zero_blocks.new.power c.land_maps_change.new.power c.land_maps_change.result =
    subst (λ (ns : List NewChain). IsMapLanded (blocks_of ns) t.volume c.args.tables.now.volume c.zero_blocks.new.pm c.land_maps_change.new.pm c.zero_blocks.new.power c.land_maps_change.new.power c.land_maps_change.result)
    c.from_ref.ensures.value
    (c.land_maps_change.ensures.landed t
    (subst (λ (ns : List NewChain). IsMapPlanOn t c.args.tables.now ns c.args.group.now c.args.batch.now c.zero_blocks.new.pm c.args.batched) (sym c.from_ref.ensures.value) still) off)
    in
    fill-landed c.args.fresh.now (c.args.map.now ∷ []) t.volume c.args.tables.now.volume c.args.batch.now c.args.pm.now
    (fill-alone c.args.fresh.now t c.args.tables.now (c.args.map.now ∷ []) c.args.group.now c.args.batch.now c.args.pm.now c.args.batched plan off)
    c.zero_blocks.new.pm c.zero_blocks.ensures.size c.zero_blocks.ensures.lent c.zero_blocks.ensures.each_image c.zero_blocks.ensures.others
    (c.zero_blocks.ensures.durable on) (c.zero_blocks.ensures.keeps on) c.land_maps_change.new.pm
    (576 * length c.args.fresh.now + 1) c.args.power.now c.zero_blocks.new.power c.land_maps_change.new.power c.land_maps_change.result c.zero_blocks.ensures.steps landed

pub returns-clause-joined : goal.returns-clause-joined
returns-clause-joined c t plan batched =
    let on : is_on c.zero_blocks.new.power ≡ true = sym c.on.ensures ∙ c.if-not-on.false in
    let still : IsMapPlanOn t c.args.tables.now (c.args.map.now ∷ []) c.args.group.now c.args.batch.now c.zero_blocks.new.pm c.args.batched =
    plan-zeroed c.args.fresh.now t c.args.tables.now (c.args.map.now ∷ []) c.args.group.now c.args.batch.now c.args.pm.now c.args.batched plan
    c.zero_blocks.new.pm c.zero_blocks.ensures.size c.zero_blocks.ensures.lent c.zero_blocks.ensures.each_image c.zero_blocks.ensures.others
    (c.zero_blocks.ensures.durable on) (c.zero_blocks.ensures.keeps on)
    in
    let Joins : List NewChain → Type 0 = λ ns. (s : IsMapPlanOn t c.args.tables.now ns c.args.group.now c.args.batch.now c.zero_blocks.new.pm c.args.batched)
    → IsLandedJoin s.ready.committed t c.args.tables.now c.land_maps_change.new.tables ns c.args.group.now c.args.batch.now c.land_maps_change.new.group c.zero_blocks.new.pm c.land_maps_change.new.pm c.land_maps_change.new.power c.land_maps_change.result in
    let all : Joins c.from_ref.result.now = λ s. c.land_maps_change.ensures.joined t s batched in
    let one : Joins (c.args.map.now ∷ []) = subst Joins c.from_ref.ensures.value all in
    fill-joined c.args.fresh.now t c.args.tables.now (c.args.map.now ∷ []) c.args.group.now c.args.batch.now c.args.pm.now c.args.batched plan
    c.zero_blocks.new.pm c.zero_blocks.ensures.size c.zero_blocks.ensures.lent c.zero_blocks.ensures.each_image c.zero_blocks.ensures.others
    (c.zero_blocks.ensures.durable on) (c.zero_blocks.ensures.keeps on) c.land_maps_change.new.tables c.land_maps_change.new.group c.land_maps_change.new.pm
    c.land_maps_change.new.power c.land_maps_change.result
    (subst (λ (u : Volume). IsLandedJoin u t c.args.tables.now c.land_maps_change.new.tables (c.args.map.now ∷ []) c.args.group.now c.args.batch.now c.land_maps_change.new.group
    c.zero_blocks.new.pm c.land_maps_change.new.pm c.land_maps_change.new.power c.land_maps_change.result)
    (zeroed-committed c.args.fresh.now t c.args.tables.now (c.args.map.now ∷ []) c.args.group.now c.args.batch.now c.args.pm.now c.args.batched plan
    c.zero_blocks.new.pm c.zero_blocks.ensures.size c.zero_blocks.ensures.lent c.zero_blocks.ensures.each_image c.zero_blocks.ensures.others
    (c.zero_blocks.ensures.durable on) (c.zero_blocks.ensures.keeps on)) (one still))

pub returns-clause-ready : goal.returns-clause-ready
returns-clause-ready c t plan =
    let on : is_on c.zero_blocks.new.power ≡ true = sym c.on.ensures ∙ c.if-not-on.false in
    let still : IsMapPlanOn t c.args.tables.now (c.args.map.now ∷ []) c.args.group.now c.args.batch.now c.zero_blocks.new.pm c.args.batched =
    plan-zeroed c.args.fresh.now t c.args.tables.now (c.args.map.now ∷ []) c.args.group.now c.args.batch.now c.args.pm.now c.args.batched plan
    c.zero_blocks.new.pm c.zero_blocks.ensures.size c.zero_blocks.ensures.lent c.zero_blocks.ensures.each_image c.zero_blocks.ensures.others
    (c.zero_blocks.ensures.durable on) (c.zero_blocks.ensures.keeps on)
    in
    c.land_maps_change.ensures.ready t
    (subst (λ (ns : List NewChain). IsMapPlanOn t c.args.tables.now ns c.args.group.now c.args.batch.now c.zero_blocks.new.pm c.args.batched) (sym c.from_ref.ensures.value) still)

pub returns-then-not-on-clause-steady : goal.returns-then-not-on-clause-steady
returns-then-not-on-clause-steady c batched =
    let t = c.requires.plan.0 in
    let plan = c.requires.plan.1 in
    let same : t.volume.geometry ≡ c.release.new.self.volume.geometry = sym (ap (λ (x : TablesView). x.volume.geometry) c.release.ensures.released ∙ plan.planned.plan.geometry) in
    subst (λ g. IsSteady g c.zero_blocks.new.pm) same
    (steady-stays t c.args.group.now [] c.args.pm.now c.args.batched plan.planned.ready c.args.fresh.now c.zero_blocks.new.pm
    (goes-zeroed c.args.fresh.now t c.args.tables.now (c.args.map.now ∷ []) c.args.group.now c.args.batch.now c.args.pm.now c.args.batched plan
    c.zero_blocks.new.pm c.zero_blocks.ensures.size c.zero_blocks.ensures.lent c.zero_blocks.ensures.each_image c.zero_blocks.ensures.others))
