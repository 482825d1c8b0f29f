use Rattle.std.proofs.Common.{◌≡◌, ◌∙◌, ◌+◌, ◌++◌, ◌∷◌, [], ◌<◌, ℕ, List, length, refl, ap, arith, subst, sym}
use Rattle.std.specs.Prelude.{Err}
use Rattle.std.proofs.lemmas.Result.{err_from_is_err_and}
use Rattle.k_plans.specs.Free.{free_blocks}
use Rattle.k_map_plans.specs.declared.map_plans.faults.MapFault.{MapFault}
use Rattle.block_counts.specs.Counts.{chains_for}
use Rattle.k_plans.specs.image_model.Chains.{first_or_zero}
use Rattle.k_plans.specs.image_model.Volume.{Volume, chain}
use Rattle.k_relink.specs.extent_model.Extents.{IsCanonical}
use Rattle.k_relink.specs.extent_model.declared.extent_words.Extent.{Extent}
use Rattle.k_plans.specs.PlanLaws.{turns-none}
use Rattle.k_plans.specs.LandingsPlans.{NewChain, Turns}
use Rattle.k_plans.specs.LandingsPlans.IsMapFrom.{NewMap}
use Rattle.k_map_plans.specs.Moving.{moved_volume}
use Rattle.k_plans.specs.volume_change_laws.Hits.{in_chain-append}
use Rattle.k_plans.specs.volume_laws.Uses.{in_chain, in_map}
use Rattle.k_map_plans.proofs.Moves.{both-may, go-both-as, move-few, moved-aside, plan-two}
use Rattle.k_map_plans.proofs.Refusals.{handed-on}
use Rattle.k_map_plans.proofs.map_plans.moving.place_both.Goals as goal

pub taken_by-requires-clause-staging : goal.taken_by-requires-clause-staging
taken_by-requires-clause-staging c =
    subst (λ (y : Volume). c.args.asked.now.staging < length y.inodes) (sym c.in_ok-placed.ensures.aside.volume) c.requires.may.staging.below

pub taken_by-requires-clause-file : goal.taken_by-requires-clause-file
taken_by-requires-clause-file c =
    subst (λ (y : Volume). c.args.asked.now.ino < length y.inodes) (sym c.in_ok-placed.ensures.aside.volume) c.requires.may.file.below

pub switch_both-requires-clause-may : goal.switch_both-requires-clause-may
switch_both-requires-clause-may c =
    let t = c.args.tables.now in
    let u = c.set_both_aside.new.tables in
    let m = c.args.asked.now in
    let p = c.in_ok-placed.placed in
    let g = c.in_ok-going.going in
    let left = c.args.linked.src in
    let linked = c.args.linked.dst in
    let vol = c.in_ok-placed.ensures.aside.volume in
    let goes : (b : ℕ) → in_chain g.gone.items b ≡ in_chain (chain t.volume m.staging) b + in_chain c.args.moved.now b + in_chain p.file.blocks b =
    λ b.
    omega (
      arith,
      ap (λ (bs : List ℕ). in_chain bs b) c.in_ok-going.ensures.gone,
      in_chain-append (chain u.volume m.staging ++ c.args.moved.now) p.file.blocks b,
      in_chain-append (chain u.volume m.staging) c.args.moved.now b,
      ap (λ (y : Volume). in_chain (chain y m.staging) b) vol,
    )
    in
    let frees : (b : ℕ) → in_chain g.freed.items b
    ≡ in_chain (chain t.volume m.staging) b + in_chain (chain t.volume m.ino) b + in_map c.args.linked.freed.items b =
    λ b.
    omega (
      arith,
      c.in_ok-going.ensures.freed b,
      in_chain-append (chain u.volume m.staging) (chain u.volume m.ino) b,
      ap (λ (y : Volume). in_chain (chain y m.staging) b) vol,
      ap (λ (y : Volume). in_chain (chain y m.ino) b) vol,
      ap (λ (es : List Extent). in_map es b) c.in_ok-placed.ensures.displaced,
    )
    in
    go-both-as m u left g.left p.staging.blocks g.rest.items g.gone.items linked g.linked p.file.blocks g.blocks.items g.freed.items
    (c.in_ok-going.ensures.left ∙ c.in_ok-placed.ensures.staging_map) c.in_ok-going.ensures.rest
    (c.in_ok-going.ensures.linked ∙ c.in_ok-placed.ensures.file_map) c.in_ok-going.ensures.blocks
    (both-may t.volume m left linked c.args.linked.freed.items c.args.moved.now c.requires.whole c.requires.may c.requires.source
    c.requires.target c.requires.moves c.requires.at c.requires.size t u (chains_for (length linked)) (chains_for (length left))
    (p.file.blocks ++ p.staging.blocks) p.file.blocks p.staging.blocks g.gone.items g.freed.items refl c.requires.idle
    c.in_ok-placed.ensures.taken refl refl c.in_ok-placed.ensures.file_size c.in_ok-placed.ensures.staging_size refl goes frees)

pub returns-clause-moved : goal.returns-clause-moved
returns-clause-moved c =
    let m = c.args.asked.now in
    let p = c.in_ok-placed.placed in
    let left_is = c.in_ok-going.ensures.left ∙ c.in_ok-placed.ensures.staging_map in
    let linked_is = c.in_ok-going.ensures.linked ∙ c.in_ok-placed.ensures.file_map in
    let rest_is = c.in_ok-going.ensures.rest in
    let blocks_is = c.in_ok-going.ensures.blocks in
    let vol = c.in_ok-placed.ensures.aside.volume in
    record {
      left = c.args.linked.src;
      linked = c.args.linked.dst;
      blocks = p.file.blocks;
      rest = p.staging.blocks;
      moves = c.requires.moves;
      size = c.in_ok-placed.ensures.file_size;
      taken = c.in_ok-placed.ensures.taken.lowest;
      is_moved = c.switch_both.ensures.moved ∙ (λ i. moved_volume m (left_is i) (rest_is i) (linked_is i) (blocks_is i) (vol i));
    }

pub returns-clause-plan : goal.returns-clause-plan
returns-clause-plan c =
    let t = c.args.tables.now in
    let u = c.set_both_aside.new.tables in
    let p = c.in_ok-placed.placed in
    let file : NewChain = p.file in
    let staging : NewChain = p.staging in
    let n = chains_for (length c.args.linked.dst) + chains_for (length c.args.linked.src) in
    let left_is = c.in_ok-going.ensures.left in
    let linked_is = c.in_ok-going.ensures.linked in
    let rest_is = c.in_ok-going.ensures.rest in
    let blocks_is = c.in_ok-going.ensures.blocks in
    let vol : u.volume ≡ t.volume = c.in_ok-placed.ensures.aside.volume in
    let none : Turns u.volume.geometry (file ∷ staging ∷ []) t.volume u.volume [] =
    subst (λ (y : Volume). Turns y.geometry (file ∷ staging ∷ []) t.volume y []) (sym vol) (turns-none t.volume.geometry (file ∷ staging ∷ []) t.volume)
    in
    let turns : Turns u.volume.geometry (file ∷ staging ∷ []) t.volume c.switch_both.new.tables.volume c.switch_both.new.batch =
    c.switch_both.ensures.turns (file ∷ staging ∷ []) t.volume
    (NewMap 1 (omega arith) (ap first_or_zero rest_is) (ap (λ (es : List Extent). length es) left_is) rest_is left_is)
    (NewMap 0 (omega arith) (ap first_or_zero blocks_is) (ap (λ (es : List Extent). length es) linked_is) blocks_is linked_is) none
    in
    plan-two t c.switch_both.new.tables.volume c.switch_both.new.batch file staging n (p.file.blocks ++ p.staging.blocks)
    (subst IsCanonical (sym c.in_ok-placed.ensures.file_map) c.requires.moves.canonical)
    (subst IsCanonical (sym c.in_ok-placed.ensures.staging_map) c.requires.moves.source.canonical) c.in_ok-placed.ensures.taken.lowest refl
    (c.in_ok-placed.ensures.file_size ∙ ap (λ (es : List Extent). chains_for (length es)) (sym c.in_ok-placed.ensures.file_map))
    (c.in_ok-placed.ensures.staging_size ∙ ap (λ (es : List Extent). chains_for (length es)) (sym c.in_ok-placed.ensures.staging_map))
    (subst (λ (y : Volume). Turns y.geometry (file ∷ staging ∷ []) t.volume c.switch_both.new.tables.volume c.switch_both.new.batch) vol turns)
    (ap (λ (y : Volume). y.geometry) c.switch_both.ensures.moved ∙ ap (λ (y : Volume). y.geometry) vol)
    c.switch_both.ensures.some (omega (arith, c.switch_both.ensures.most)) c.switch_both.ensures.whole

pub returns-clause-aside : goal.returns-clause-aside
returns-clause-aside c =
    let m = c.args.asked.now in
    let p = c.in_ok-placed.placed in
    let left_is = c.in_ok-going.ensures.left ∙ c.in_ok-placed.ensures.staging_map in
    let linked_is = c.in_ok-going.ensures.linked ∙ c.in_ok-placed.ensures.file_map in
    let rest_is = c.in_ok-going.ensures.rest in
    let blocks_is = c.in_ok-going.ensures.blocks in
    let vol = c.in_ok-placed.ensures.aside.volume in
    moved-aside c.args.tables.now c.set_both_aside.new.tables c.switch_both.new.tables m (chains_for (length c.args.linked.dst) + chains_for (length c.args.linked.src))
    c.args.linked.src c.args.linked.dst p.file.blocks p.staging.blocks c.in_ok-placed.ensures.taken c.requires.whole c.requires.may
    (c.switch_both.ensures.moved ∙ (λ i. moved_volume m (left_is i) (rest_is i) (linked_is i) (blocks_is i) (vol i)))
    c.requires.idle c.in_ok-placed.ensures.back c.switch_both.ensures.back c.switch_both.ensures.waiting c.switch_both.ensures.free

-- where it is refused, setting both chains aside was
aside_few : (c : goal.After-from_residual) → c.from_residual.result ≡ Err MapFault.Few → c.set_both_aside.result ≡ Err MapFault.Few
aside_few c few =
    handed-on c.from_residual.result c.set_both_aside.result c.in_err-placed.field-0.0
    (err_from_is_err_and c.from_residual.result c.from_residual.ensures.1) c.in_err-placed.was few

pub returns-in_err-placed-clause-few : goal.returns-in_err-placed-clause-few
returns-in_err-placed-clause-few c few =
    let t = c.args.tables.now in
    move-few t.volume c.args.asked.now c.args.linked.src c.args.linked.dst c.args.linked.freed.items c.args.moved.now c.requires.whole c.requires.may
    c.requires.source c.requires.target c.requires.moves c.requires.at c.requires.size (free_blocks t) (c.set_both_aside.ensures.few (aside_few c few))
