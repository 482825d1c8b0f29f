use Rattle.std.proofs.Common.{[], ◌≡◌, ◌≢◌, ◌∷◌, ◌++◌, ◌+◌, ◌*◌, ◌/◌, ◌<◌, ◌≤◌, ℕ, true, false, List, length, Option, None, Err, refl, sym, ◌∙◌, ap, arith, inl, inr, subst}
use Rattle.block_io.specs.image_model.Volume.{extents}
use Rattle.k_map_plans.specs.k_plans.Free.{is_free_block}
use Rattle.k_map_plans.specs.k_plans.LandingsPlans.{blocks_of, NewChain}
use Rattle.k_map_plans.specs.k_plans.View.{TablesView}
use Rattle.k_tables.specs.k_split_model.View.{View}
use Rattle.k_split.specs.MapLanded.{IsMapPlanOn}
use Rattle.k_split.specs.Order.{view_of}
use Rattle.k_split.proofs.ChangeLaws.{ready-none, ready-none-ok, ready-or-lost}
use Rattle.k_split.proofs.MapAnswers.{map-paid}
use Rattle.k_split.proofs.MapJoined.{answer-maps, gather-maps}
use Rattle.std.specs.Prelude.{◌^◌}
use Rattle.block_io.specs.pm_model.Powers.{Steps}
use Rattle.k_map_plans.specs.k_journal.declared.batches.Record.{Record}
use Rattle.block_io.specs.image_model.Room.{unused_blocks}
use Rattle.block_io.specs.layout_model.Places.{reserve}
use Rattle.k_map_plans.proofs.k_plans_proofs.FreeCounts.{unwaiting-counted}
use Rattle.k_map_plans.specs.Plans.{IsNotMade, WantsToMove}
use Rattle.k_map_plans.specs.declared.map_plans.faults.MapFault.{MapFault}
use Rattle.k_map_plans.specs.k_plans.Free.{free_blocks}
use Rattle.k_split.specs.Gathers.{WantsBlocks}
use Rattle.k_split.specs.MapChanges.{free_blocks_in}
use Rattle.k_split.proofs.Lacking.{move-lacks}
use Rattle.k_split.proofs.Released.{none_there}
use Rattle.block_io.specs.extent_model.Extents.{IsCanonical}
use Rattle.block_io.specs.k_split_model.MapChangesChanges.{IsMoved}
use Rattle.k_group_commit.specs.MapJoins.{moved-joins}
use Rattle.k_map_plans.specs.Plans.{MayMove}
use Rattle.k_split.specs.MapChanges.{IsMovedSingle, IsMovedWith}
use Rattle.k_split.proofs.MapAnswers.{unstaged-from}
use Rattle.k_split.proofs.Ready.{no-lines, reads-ready}
use Rattle.k_split.proofs.Relinks.{blocks_of-two, moved-unstaged}
use Rattle.k_split.proofs.state.KSplit.move_blocks.Goals as goal

pub land_maps_change-requires-clause-plan : goal.land_maps_change-requires-clause-plan
land_maps_change-requires-clause-plan c =
    let k = c.self.inside in
    let is : k.lost ≡ false = ap (λ (x : View). x.lost) c.self.view_is ∙ c.requires.awake in
    let ready = c.self.invariant is in
    let m = c.args.asked.now in
    let may : MayMove m k.tables.volume = subst (λ (x : View). MayMove m x.volume) (sym c.self.view_is) c.requires.may in
    let home : IsMovedSingle m k.tables.volume k.pm = subst (λ (x : View). IsMovedSingle m x.volume x.cells) (sym c.self.view_is) c.requires.home in
    let canonical : IsCanonical (extents k.tables.volume m.staging) =
    ((reads-ready k.tables k.group k.batch k.pm k.batched ready).1.chains m.staging (omega (arith, may.staging.below, ready.opened.whole.kept.all.inode_count))).map.canonical
    in
    let move = c.in-Ok.ensures.answer in
    let planned : IsMapPlanOn k.tables c.plan_move.new.tables (c.in-Ok.maps.0 ∷ c.in-Ok.maps.1 ∷ []) k.group c.plan_move.new.batch k.pm k.batched =
    subst (λ (ns : List NewChain). IsMapPlanOn k.tables c.plan_move.new.tables ns k.group c.plan_move.new.batch k.pm k.batched) refl (record {
      ready = ready-none k.tables k.group k.batch k.pm k.batched ready;
      plan = move.1.plan;
      joining = moved-joins k.tables c.plan_move.new.tables m c.plan_move.new.batch c.in-Ok.maps.0 c.in-Ok.maps.1 move.0.0 ready.opened.whole may move.0.1 move.1;
      keeps = λ e singles. unstaged-from k.tables.volume c.plan_move.new.tables.volume k.pm e move.1.plan.geometry singles ready.unstaged
          (moved-unstaged (is_free_block k.tables) m k.tables.volume c.plan_move.new.tables.volume move.0.0 ready.opened.whole may move.0.1 canonical k.pm home);
    })
    in
    (k.tables, planned)

pub invariant_of-self-2 : goal.invariant_of-self-2
invariant_of-self-2 c still =
    let k = c.self.inside in
    let is : k.lost ≡ false = ap (λ (x : View). x.lost) c.self.view_is ∙ c.requires.awake in
    let ready = c.self.invariant is in
    let m = c.args.asked.now in
    let may : MayMove m k.tables.volume = subst (λ (x : View). MayMove m x.volume) (sym c.self.view_is) c.requires.may in
    let home : IsMovedSingle m k.tables.volume k.pm = subst (λ (x : View). IsMovedSingle m x.volume x.cells) (sym c.self.view_is) c.requires.home in
    let canonical : IsCanonical (extents k.tables.volume m.staging) =
    ((reads-ready k.tables k.group k.batch k.pm k.batched ready).1.chains m.staging (omega (arith, may.staging.below, ready.opened.whole.kept.all.inode_count))).map.canonical
    in
    let move = c.in-Ok.ensures.answer in
    let n = c.land_maps_change.new in
    let planned : IsMapPlanOn k.tables c.plan_move.new.tables (c.in-Ok.maps.0 ∷ c.in-Ok.maps.1 ∷ []) k.group c.plan_move.new.batch k.pm k.batched =
    subst (λ (ns : List NewChain). IsMapPlanOn k.tables c.plan_move.new.tables ns k.group c.plan_move.new.batch k.pm k.batched) refl (record {
      ready = ready-none k.tables k.group k.batch k.pm k.batched ready;
      plan = move.1.plan;
      joining = moved-joins k.tables c.plan_move.new.tables m c.plan_move.new.batch c.in-Ok.maps.0 c.in-Ok.maps.1 move.0.0 ready.opened.whole may move.0.1 move.1;
      keeps = λ e singles. unstaged-from k.tables.volume c.plan_move.new.tables.volume k.pm e move.1.plan.geometry singles ready.unstaged
          (moved-unstaged (is_free_block k.tables) m k.tables.volume c.plan_move.new.tables.volume move.0.0 ready.opened.whole may move.0.1 canonical k.pm home);
    })
    in
    ready-or-lost n.tables n.group n.batch n.pm k.batched n.lost c.land_maps_change.result (c.land_maps_change.ensures.ready k.tables planned)
    c.land_maps_change.ensures.noted still

pub returns-clause-paid : goal.returns-clause-paid
returns-clause-paid c unbatched =
    let k = c.self.inside in
    let is : k.lost ≡ false = ap (λ (x : View). x.lost) c.self.view_is ∙ c.requires.awake in
    let ready = c.self.invariant is in
    let m = c.args.asked.now in
    let may : MayMove m k.tables.volume = subst (λ (x : View). MayMove m x.volume) (sym c.self.view_is) c.requires.may in
    let home : IsMovedSingle m k.tables.volume k.pm = subst (λ (x : View). IsMovedSingle m x.volume x.cells) (sym c.self.view_is) c.requires.home in
    let canonical : IsCanonical (extents k.tables.volume m.staging) =
    ((reads-ready k.tables k.group k.batch k.pm k.batched ready).1.chains m.staging (omega (arith, may.staging.below, ready.opened.whole.kept.all.inode_count))).map.canonical
    in
    let move = c.in-Ok.ensures.answer in
    let n = c.land_maps_change.new in
    let off : k.batched ≡ false = ap (λ (x : View). x.batched) c.self.view_is ∙ unbatched in
    let planned : IsMapPlanOn k.tables c.plan_move.new.tables (c.in-Ok.maps.0 ∷ c.in-Ok.maps.1 ∷ []) k.group c.plan_move.new.batch k.pm k.batched =
    subst (λ (ns : List NewChain). IsMapPlanOn k.tables c.plan_move.new.tables ns k.group c.plan_move.new.batch k.pm k.batched) refl (record {
      ready = ready-none k.tables k.group k.batch k.pm k.batched ready;
      plan = move.1.plan;
      joining = moved-joins k.tables c.plan_move.new.tables m c.plan_move.new.batch c.in-Ok.maps.0 c.in-Ok.maps.1 move.0.0 ready.opened.whole may move.0.1 move.1;
      keeps = λ e singles. unstaged-from k.tables.volume c.plan_move.new.tables.volume k.pm e move.1.plan.geometry singles ready.unstaged
          (moved-unstaged (is_free_block k.tables) m k.tables.volume c.plan_move.new.tables.volume move.0.0 ready.opened.whole may move.0.1 canonical k.pm home);
    })
    in
    map-paid (blocks_of (c.in-Ok.maps.0 ∷ c.in-Ok.maps.1 ∷ [])) k.tables.volume c.plan_move.new.tables.volume k.pm n.pm c.args.power.now n.power c.land_maps_change.result
    (c.land_maps_change.ensures.landed k.tables planned off)

pub returns-clause-answer : goal.returns-clause-answer
returns-clause-answer c unbatched =
    let k = c.self.inside in
    let is : k.lost ≡ false = ap (λ (x : View). x.lost) c.self.view_is ∙ c.requires.awake in
    let ready = c.self.invariant is in
    let m = c.args.asked.now in
    let may : MayMove m k.tables.volume = subst (λ (x : View). MayMove m x.volume) (sym c.self.view_is) c.requires.may in
    let home : IsMovedSingle m k.tables.volume k.pm = subst (λ (x : View). IsMovedSingle m x.volume x.cells) (sym c.self.view_is) c.requires.home in
    let canonical : IsCanonical (extents k.tables.volume m.staging) =
    ((reads-ready k.tables k.group k.batch k.pm k.batched ready).1.chains m.staging (omega (arith, may.staging.below, ready.opened.whole.kept.all.inode_count))).map.canonical
    in
    let move = c.in-Ok.ensures.answer in
    let n = c.land_maps_change.new in
    let off : k.batched ≡ false = ap (λ (x : View). x.batched) c.self.view_is ∙ unbatched in
    let planned : IsMapPlanOn k.tables c.plan_move.new.tables (c.in-Ok.maps.0 ∷ c.in-Ok.maps.1 ∷ []) k.group c.plan_move.new.batch k.pm k.batched =
    subst (λ (ns : List NewChain). IsMapPlanOn k.tables c.plan_move.new.tables ns k.group c.plan_move.new.batch k.pm k.batched) refl (record {
      ready = ready-none k.tables k.group k.batch k.pm k.batched ready;
      plan = move.1.plan;
      joining = moved-joins k.tables c.plan_move.new.tables m c.plan_move.new.batch c.in-Ok.maps.0 c.in-Ok.maps.1 move.0.0 ready.opened.whole may move.0.1 move.1;
      keeps = λ e singles. unstaged-from k.tables.volume c.plan_move.new.tables.volume k.pm e move.1.plan.geometry singles ready.unstaged
          (moved-unstaged (is_free_block k.tables) m k.tables.volume c.plan_move.new.tables.volume move.0.0 ready.opened.whole may move.0.1 canonical k.pm home);
    })
    in
    answer-maps k.tables c.plan_move.new.tables (c.in-Ok.maps.0 ∷ c.in-Ok.maps.1 ∷ []) k.group c.plan_move.new.batch k.pm k.batched k.lost is planned off n.tables n.group n.pm n.lost
    c.land_maps_change.ensures.volume (blocks_of (c.in-Ok.maps.0 ∷ c.in-Ok.maps.1 ∷ [])) (λ x w blocks. IsMovedWith c.args.asked.now x w blocks) c.args.self.now c.args.power.now n.power
    c.land_maps_change.result c.self.view_is c.land_maps_change.ensures.same c.land_maps_change.ensures.noted
    (ready-none-ok n.tables n.group n.batch n.pm k.batched c.land_maps_change.result (c.land_maps_change.ensures.ready k.tables planned))
    (record {
      displaced = move.0.0;
      moved = subst (λ (x : TablesView). IsMoved (is_free_block x) m k.tables.volume c.plan_move.new.tables.volume move.0.0) (none_there k.tables ready.opened.idle) move.0.1;
      written = blocks_of-two c.in-Ok.maps.0 c.in-Ok.maps.1 ∙ (λ i. move.1.file_chain i ++ move.1.staging_chain i);
    })
    (c.land_maps_change.ensures.landed k.tables planned off)

pub returns-clause-gathers : goal.returns-clause-gathers
returns-clause-gathers c batched =
    let k = c.self.inside in
    let is : k.lost ≡ false = ap (λ (x : View). x.lost) c.self.view_is ∙ c.requires.awake in
    let ready = c.self.invariant is in
    let m = c.args.asked.now in
    let may : MayMove m k.tables.volume = subst (λ (x : View). MayMove m x.volume) (sym c.self.view_is) c.requires.may in
    let home : IsMovedSingle m k.tables.volume k.pm = subst (λ (x : View). IsMovedSingle m x.volume x.cells) (sym c.self.view_is) c.requires.home in
    let canonical : IsCanonical (extents k.tables.volume m.staging) =
    ((reads-ready k.tables k.group k.batch k.pm k.batched ready).1.chains m.staging (omega (arith, may.staging.below, ready.opened.whole.kept.all.inode_count))).map.canonical
    in
    let move = c.in-Ok.ensures.answer in
    let n = c.land_maps_change.new in
    let gathers : k.batched ≡ true = ap (λ (x : View). x.batched) c.self.view_is ∙ batched in
    let planned : IsMapPlanOn k.tables c.plan_move.new.tables (c.in-Ok.maps.0 ∷ c.in-Ok.maps.1 ∷ []) k.group c.plan_move.new.batch k.pm k.batched =
    subst (λ (ns : List NewChain). IsMapPlanOn k.tables c.plan_move.new.tables ns k.group c.plan_move.new.batch k.pm k.batched) refl (record {
      ready = ready-none k.tables k.group k.batch k.pm k.batched ready;
      plan = move.1.plan;
      joining = moved-joins k.tables c.plan_move.new.tables m c.plan_move.new.batch c.in-Ok.maps.0 c.in-Ok.maps.1 move.0.0 ready.opened.whole may move.0.1 move.1;
      keeps = λ e singles. unstaged-from k.tables.volume c.plan_move.new.tables.volume k.pm e move.1.plan.geometry singles ready.unstaged
          (moved-unstaged (is_free_block k.tables) m k.tables.volume c.plan_move.new.tables.volume move.0.0 ready.opened.whole may move.0.1 canonical k.pm home);
    })
    in
    gather-maps k.tables c.plan_move.new.tables (c.in-Ok.maps.0 ∷ c.in-Ok.maps.1 ∷ []) k.group c.plan_move.new.batch k.pm k.batched k.lost is planned gathers n.tables n.group n.pm n.lost
    c.land_maps_change.ensures.volume (λ x w blocks. IsMovedWith c.args.asked.now x w blocks) c.args.self.now n.power
    c.land_maps_change.result c.self.view_is c.land_maps_change.ensures.same c.land_maps_change.ensures.noted
    (ready-none-ok n.tables n.group n.batch n.pm k.batched c.land_maps_change.result (c.land_maps_change.ensures.ready k.tables planned))
    (record {
      displaced = move.0.0;
      moved = subst (λ (x : TablesView). IsMoved (is_free_block x) m k.tables.volume c.plan_move.new.tables.volume move.0.0) (none_there k.tables ready.opened.idle) move.0.1;
      written = blocks_of-two c.in-Ok.maps.0 c.in-Ok.maps.1 ∙ (λ i. move.1.file_chain i ++ move.1.staging_chain i);
    })
    (c.land_maps_change.ensures.joined k.tables planned gathers)

pub returns-in-Err-Few-clause-wants : goal.returns-in-Err-Few-clause-wants
returns-in-Err-Few-clause-wants c none =
    let k = c.self.inside in
    let is : k.lost ≡ false = ap (λ (x : View). x.lost) c.self.view_is ∙ c.requires.awake in
    let ready = c.self.invariant is in
    let v = view_of k.tables k.group k.pm k.batched k.lost in
    let no : IsNotMade (WantsToMove c.args.asked.now k.tables.volume) k.tables c.plan_move.new.tables c.plan_move.new.batch MapFault.Few =
    subst (IsNotMade (WantsToMove c.args.asked.now k.tables.volume) k.tables c.plan_move.new.tables c.plan_move.new.batch) c.in-Err-Few.field-0-is c.in-Err-Few.ensures.answer
    in
    let few : free_blocks_in v < no.0.0 = subst (λ (x : TablesView). free_blocks x < no.0.0) (none_there k.tables ready.opened.idle) no.0.2 in
    let wants : WantsBlocks (λ (done : Unit {0}) seen w blocks. IsMovedWith c.args.asked.now seen w blocks) v = record {
      waits = λ unwaiting.
          let room : reserve k.tables.volume.geometry ≤ unused_blocks k.tables.volume + 2 =
          subst (λ (x : View). reserve x.volume.geometry ≤ unused_blocks x.volume + 2) (sym c.self.view_is) c.requires.room
          in
          c.plan_move.ensures.enough (omega (arith, room, unwaiting-counted k.tables ready.opened.idle unwaiting)) (c.in-Err-Few.is ∙ ap (λ f. Err f) c.in-Err-Few.field-0-is);
      lacks = λ done w blocks is. move-lacks c.args.asked.now v no.0.0 no.0.1 few w blocks is;
    }
    in (
      ap (λ (t : TablesView). view_of t k.group k.pm k.batched k.lost) no.1.same ∙ c.self.view_is,
      refl,
      subst (λ (x : View). WantsBlocks (λ (done : Unit {0}) seen w blocks. IsMovedWith c.args.asked.now seen w blocks) x) c.self.view_is wants,
    )

pub returns-clause-steps : goal.returns-clause-steps
returns-clause-steps c lines =
    let k = c.self.inside in
    let none : k.group ≡ [] = no-lines k.group (subst (λ (x : View). x.lines ≡ []) (sym c.self.view_is) lines) in
    subst (λ (group : List Record). Steps (2 ^ 15 + 32 * length group) c.args.power.now c.land_maps_change.new.power) none c.land_maps_change.ensures.steps
