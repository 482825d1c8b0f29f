use Rattle.std.proofs.Common.{[], ◌≡◌, ◌≢◌, ◌∷◌, ◌++◌, ◌+◌, ◌*◌, ◌/◌, ◌<◌, ◌≤◌, ℕ, true, false, List, length, Option, None, Err, refl, sym, ◌∙◌, ap, arith, inl, inr, subst}
use Rattle.block_io.specs.image_model.Volume.{inode}
use Rattle.k_map_plans.specs.k_plans.Free.{is_free_block}
use Rattle.k_map_plans.specs.k_plans.LandingsPlans.{blocks_of, NewChain}
use Rattle.k_map_plans.specs.k_plans.View.{TablesView}
use Rattle.k_tables.specs.k_split_model.View.{View}
use Rattle.k_split.specs.MapLanded.{IsMapPlanOn}
use Rattle.k_split.specs.Order.{view_of}
use Rattle.k_split.proofs.ChangeLaws.{ready-none, ready-none-ok, ready-or-lost}
use Rattle.k_split.proofs.MapAnswers.{map-paid}
use Rattle.k_split.proofs.MapJoined.{answer-maps, gather-maps}
use Rattle.std.specs.Prelude.{◌^◌}
use Rattle.block_io.specs.pm_model.Powers.{Steps}
use Rattle.k_map_plans.specs.k_journal.declared.batches.Record.{Record}
use Rattle.k_split.proofs.Ready.{no-lines}
use Rattle.block_io.specs.image_model.Room.{unused_blocks}
use Rattle.block_io.specs.layout_model.Places.{reserve}
use Rattle.k_map_plans.proofs.k_plans_proofs.FreeCounts.{unwaiting-counted}
use Rattle.k_map_plans.specs.Plans.{IsNotMade, WantsToCut}
use Rattle.k_map_plans.specs.declared.map_plans.faults.MapFault.{MapFault}
use Rattle.k_map_plans.specs.k_plans.Free.{free_blocks}
use Rattle.k_split.specs.Gathers.{WantsBlocks}
use Rattle.k_split.specs.MapChanges.{free_blocks_in}
use Rattle.k_split.proofs.Lacking.{cut-lacks}
use Rattle.k_split.proofs.Released.{none_there}
use Rattle.block_io.specs.k_split_model.MapChangesChanges.{IsSized, with_size, WritesChain}
use Rattle.k_group_commit.specs.MapJoins.{sized-joins}
use Rattle.k_map_plans.specs.Plans.{IsLiveFile}
use Rattle.k_split.specs.MapChanges.{IsSizedWith}
use Rattle.k_split.proofs.ChangeLaws.{unstaged-kept}
use Rattle.k_split.proofs.MapAnswers.{file-staged}
use Rattle.k_split.proofs.ResetLaws.{own-map-ready}
use Rattle.k_split.proofs.state.KSplit.resize.Goals as goal

pub land_maps_change-requires-clause-plan : goal.land_maps_change-requires-clause-plan
land_maps_change-requires-clause-plan c =
    let k = c.self.inside in
    let is : k.lost ≡ false = ap (λ (x : View). x.lost) c.self.view_is ∙ c.requires.awake in
    let ready = c.self.invariant is in
    let file : IsLiveFile c.args.ino k.tables.volume = subst (λ (x : View). IsLiveFile c.args.ino x.volume) (sym c.self.view_is) c.requires.file in
    let change = c.in-Ok.ensures.answer in
    let planned : IsMapPlanOn k.tables c.plan_size.new.tables c.listed.result.now k.group c.plan_size.new.batch k.pm k.batched =
    subst (λ (ns : List NewChain). IsMapPlanOn k.tables c.plan_size.new.tables ns k.group c.plan_size.new.batch k.pm k.batched) (sym c.listed.ensures) (record {
      ready = ready-none k.tables k.group k.batch k.pm k.batched ready;
      plan = change.1.plan;
      joining = sized-joins k.tables c.plan_size.new.tables c.args.ino c.plan_size.new.batch ready.opened.whole file.below c.args.size c.in-Ok.map change.0 change.1;
      keeps = λ e singles. unstaged-kept k.tables.volume c.plan_size.new.tables.volume k.pm e change.1.plan.geometry
          (file-staged k.tables.volume c.plan_size.new.tables.volume c.args.ino (with_size c.args.size (inode k.tables.volume c.args.ino)) change.0.blocks change.0.es ready.opened.whole file change.0.is_sized)
          singles ready.unstaged;
    })
    in
    (k.tables, planned)

pub invariant_of-self-2 : goal.invariant_of-self-2
invariant_of-self-2 c still =
    let k = c.self.inside in
    let is : k.lost ≡ false = ap (λ (x : View). x.lost) c.self.view_is ∙ c.requires.awake in
    let ready = c.self.invariant is in
    let file : IsLiveFile c.args.ino k.tables.volume = subst (λ (x : View). IsLiveFile c.args.ino x.volume) (sym c.self.view_is) c.requires.file in
    let change = c.in-Ok.ensures.answer in
    let n = c.land_maps_change.new in
    let planned : IsMapPlanOn k.tables c.plan_size.new.tables c.listed.result.now k.group c.plan_size.new.batch k.pm k.batched =
    subst (λ (ns : List NewChain). IsMapPlanOn k.tables c.plan_size.new.tables ns k.group c.plan_size.new.batch k.pm k.batched) (sym c.listed.ensures) (record {
      ready = ready-none k.tables k.group k.batch k.pm k.batched ready;
      plan = change.1.plan;
      joining = sized-joins k.tables c.plan_size.new.tables c.args.ino c.plan_size.new.batch ready.opened.whole file.below c.args.size c.in-Ok.map change.0 change.1;
      keeps = λ e singles. unstaged-kept k.tables.volume c.plan_size.new.tables.volume k.pm e change.1.plan.geometry
          (file-staged k.tables.volume c.plan_size.new.tables.volume c.args.ino (with_size c.args.size (inode k.tables.volume c.args.ino)) change.0.blocks change.0.es ready.opened.whole file change.0.is_sized)
          singles ready.unstaged;
    })
    in
    ready-or-lost n.tables n.group n.batch n.pm k.batched n.lost c.land_maps_change.result (c.land_maps_change.ensures.ready k.tables planned)
    c.land_maps_change.ensures.noted still

pub returns-clause-paid : goal.returns-clause-paid
returns-clause-paid c unbatched =
    let k = c.self.inside in
    let is : k.lost ≡ false = ap (λ (x : View). x.lost) c.self.view_is ∙ c.requires.awake in
    let ready = c.self.invariant is in
    let file : IsLiveFile c.args.ino k.tables.volume = subst (λ (x : View). IsLiveFile c.args.ino x.volume) (sym c.self.view_is) c.requires.file in
    let change = c.in-Ok.ensures.answer in
    let n = c.land_maps_change.new in
    let off : k.batched ≡ false = ap (λ (x : View). x.batched) c.self.view_is ∙ unbatched in
    let planned : IsMapPlanOn k.tables c.plan_size.new.tables c.listed.result.now k.group c.plan_size.new.batch k.pm k.batched =
    subst (λ (ns : List NewChain). IsMapPlanOn k.tables c.plan_size.new.tables ns k.group c.plan_size.new.batch k.pm k.batched) (sym c.listed.ensures) (record {
      ready = ready-none k.tables k.group k.batch k.pm k.batched ready;
      plan = change.1.plan;
      joining = sized-joins k.tables c.plan_size.new.tables c.args.ino c.plan_size.new.batch ready.opened.whole file.below c.args.size c.in-Ok.map change.0 change.1;
      keeps = λ e singles. unstaged-kept k.tables.volume c.plan_size.new.tables.volume k.pm e change.1.plan.geometry
          (file-staged k.tables.volume c.plan_size.new.tables.volume c.args.ino (with_size c.args.size (inode k.tables.volume c.args.ino)) change.0.blocks change.0.es ready.opened.whole file change.0.is_sized)
          singles ready.unstaged;
    })
    in
    map-paid (blocks_of c.listed.result.now) k.tables.volume c.plan_size.new.tables.volume k.pm n.pm c.args.power.now n.power c.land_maps_change.result
    (c.land_maps_change.ensures.landed k.tables planned off)

pub returns-clause-answer : goal.returns-clause-answer
returns-clause-answer c unbatched =
    let k = c.self.inside in
    let is : k.lost ≡ false = ap (λ (x : View). x.lost) c.self.view_is ∙ c.requires.awake in
    let ready = c.self.invariant is in
    let file : IsLiveFile c.args.ino k.tables.volume = subst (λ (x : View). IsLiveFile c.args.ino x.volume) (sym c.self.view_is) c.requires.file in
    let change = c.in-Ok.ensures.answer in
    let n = c.land_maps_change.new in
    let off : k.batched ≡ false = ap (λ (x : View). x.batched) c.self.view_is ∙ unbatched in
    let planned : IsMapPlanOn k.tables c.plan_size.new.tables c.listed.result.now k.group c.plan_size.new.batch k.pm k.batched =
    subst (λ (ns : List NewChain). IsMapPlanOn k.tables c.plan_size.new.tables ns k.group c.plan_size.new.batch k.pm k.batched) (sym c.listed.ensures) (record {
      ready = ready-none k.tables k.group k.batch k.pm k.batched ready;
      plan = change.1.plan;
      joining = sized-joins k.tables c.plan_size.new.tables c.args.ino c.plan_size.new.batch ready.opened.whole file.below c.args.size c.in-Ok.map change.0 change.1;
      keeps = λ e singles. unstaged-kept k.tables.volume c.plan_size.new.tables.volume k.pm e change.1.plan.geometry
          (file-staged k.tables.volume c.plan_size.new.tables.volume c.args.ino (with_size c.args.size (inode k.tables.volume c.args.ino)) change.0.blocks change.0.es ready.opened.whole file change.0.is_sized)
          singles ready.unstaged;
    })
    in
    answer-maps k.tables c.plan_size.new.tables c.listed.result.now k.group c.plan_size.new.batch k.pm k.batched k.lost is planned off n.tables n.group n.pm n.lost
    c.land_maps_change.ensures.volume (blocks_of c.listed.result.now) (λ x w blocks. IsSizedWith c.args.ino c.args.size x w blocks) c.args.self.now c.args.power.now n.power
    c.land_maps_change.result c.self.view_is c.land_maps_change.ensures.same c.land_maps_change.ensures.noted
    (ready-none-ok n.tables n.group n.batch n.pm k.batched c.land_maps_change.result (c.land_maps_change.ensures.ready k.tables planned))
    (record {
      sized = subst (λ (x : TablesView). IsSized (is_free_block x) c.args.ino c.args.size k.tables.volume c.plan_size.new.tables.volume) (none_there k.tables ready.opened.idle) change.0;
      written = subst (WritesChain c.args.ino k.tables.volume c.plan_size.new.tables.volume) (ap blocks_of (sym c.listed.ensures)) change.1.written;
    })
    (c.land_maps_change.ensures.landed k.tables planned off)

pub returns-clause-gathers : goal.returns-clause-gathers
returns-clause-gathers c batched =
    let k = c.self.inside in
    let is : k.lost ≡ false = ap (λ (x : View). x.lost) c.self.view_is ∙ c.requires.awake in
    let ready = c.self.invariant is in
    let file : IsLiveFile c.args.ino k.tables.volume = subst (λ (x : View). IsLiveFile c.args.ino x.volume) (sym c.self.view_is) c.requires.file in
    let change = c.in-Ok.ensures.answer in
    let n = c.land_maps_change.new in
    let gathers : k.batched ≡ true = ap (λ (x : View). x.batched) c.self.view_is ∙ batched in
    let planned : IsMapPlanOn k.tables c.plan_size.new.tables c.listed.result.now k.group c.plan_size.new.batch k.pm k.batched =
    subst (λ (ns : List NewChain). IsMapPlanOn k.tables c.plan_size.new.tables ns k.group c.plan_size.new.batch k.pm k.batched) (sym c.listed.ensures) (record {
      ready = ready-none k.tables k.group k.batch k.pm k.batched ready;
      plan = change.1.plan;
      joining = sized-joins k.tables c.plan_size.new.tables c.args.ino c.plan_size.new.batch ready.opened.whole file.below c.args.size c.in-Ok.map change.0 change.1;
      keeps = λ e singles. unstaged-kept k.tables.volume c.plan_size.new.tables.volume k.pm e change.1.plan.geometry
          (file-staged k.tables.volume c.plan_size.new.tables.volume c.args.ino (with_size c.args.size (inode k.tables.volume c.args.ino)) change.0.blocks change.0.es ready.opened.whole file change.0.is_sized)
          singles ready.unstaged;
    })
    in
    gather-maps k.tables c.plan_size.new.tables c.listed.result.now k.group c.plan_size.new.batch k.pm k.batched k.lost is planned gathers n.tables n.group n.pm n.lost
    c.land_maps_change.ensures.volume (λ x w blocks. IsSizedWith c.args.ino c.args.size x w blocks) c.args.self.now n.power
    c.land_maps_change.result c.self.view_is c.land_maps_change.ensures.same c.land_maps_change.ensures.noted
    (ready-none-ok n.tables n.group n.batch n.pm k.batched c.land_maps_change.result (c.land_maps_change.ensures.ready k.tables planned))
    (record {
      sized = subst (λ (x : TablesView). IsSized (is_free_block x) c.args.ino c.args.size k.tables.volume c.plan_size.new.tables.volume) (none_there k.tables ready.opened.idle) change.0;
      written = subst (WritesChain c.args.ino k.tables.volume c.plan_size.new.tables.volume) (ap blocks_of (sym c.listed.ensures)) change.1.written;
    })
    (c.land_maps_change.ensures.joined k.tables planned gathers)

pub plan_size-requires-clause-own : goal.plan_size-requires-clause-own
plan_size-requires-clause-own c =
    let k = c.self.inside in
    let is : k.lost ≡ false = ap (λ (x : View). x.lost) c.self.view_is ∙ c.requires.awake in
    let ready = c.self.invariant is in
    let file : IsLiveFile c.args.ino k.tables.volume = subst (λ (x : View). IsLiveFile c.args.ino x.volume) (sym c.self.view_is) c.requires.file in
    own-map-ready k.tables k.group k.batch k.pm k.batched c.args.ino ready file

pub returns-in-Err-Few-clause-wants : goal.returns-in-Err-Few-clause-wants
returns-in-Err-Few-clause-wants c none =
    let k = c.self.inside in
    let is : k.lost ≡ false = ap (λ (x : View). x.lost) c.self.view_is ∙ c.requires.awake in
    let ready = c.self.invariant is in
    let v = view_of k.tables k.group k.pm k.batched k.lost in
    let no : IsNotMade (WantsToCut c.args.ino c.args.size k.tables.volume) k.tables c.plan_size.new.tables c.plan_size.new.batch MapFault.Few =
    subst (IsNotMade (WantsToCut c.args.ino c.args.size k.tables.volume) k.tables c.plan_size.new.tables c.plan_size.new.batch) c.in-Err-Few.field-0-is c.in-Err-Few.ensures.answer
    in
    let few : free_blocks_in v < no.0.0 = subst (λ (x : TablesView). free_blocks x < no.0.0) (none_there k.tables ready.opened.idle) no.0.2 in
    let wants : WantsBlocks (λ (done : Unit {0}) seen w blocks. IsSizedWith c.args.ino c.args.size seen w blocks) v = record {
      waits = λ unwaiting.
          let room : reserve k.tables.volume.geometry ≤ unused_blocks k.tables.volume + 3 =
          subst (λ (x : View). reserve x.volume.geometry ≤ unused_blocks x.volume + 3) (sym c.self.view_is) c.requires.room
          in
          c.plan_size.ensures.enough (omega (arith, room, unwaiting-counted k.tables ready.opened.idle unwaiting)) (c.in-Err-Few.is ∙ ap (λ f. Err f) c.in-Err-Few.field-0-is);
      lacks = λ done w blocks is. cut-lacks c.args.ino c.args.size v no.0.0 no.0.1 few w blocks is;
    }
    in (
      ap (λ (t : TablesView). view_of t k.group k.pm k.batched k.lost) no.1.same ∙ c.self.view_is,
      refl,
      subst (λ (x : View). WantsBlocks (λ (done : Unit {0}) seen w blocks. IsSizedWith c.args.ino c.args.size seen w blocks) x) c.self.view_is wants,
    )

pub returns-clause-steps : goal.returns-clause-steps
returns-clause-steps c lines =
    let k = c.self.inside in
    let none : k.group ≡ [] = no-lines k.group (subst (λ (x : View). x.lines ≡ []) (sym c.self.view_is) lines) in
    subst (λ (group : List Record). Steps (2 ^ 15 + 32 * length group) c.args.power.now c.land_maps_change.new.power) none c.land_maps_change.ensures.steps
