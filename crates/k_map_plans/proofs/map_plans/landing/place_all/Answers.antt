use Rattle.std.proofs.Common.{◌≡◌, ◌∙◌, ◌<◌, ◌∷◌, ℕ, List, length, map, ap, subst, arith}
use Rattle.std.specs.Prelude.{Err, sum_by}
use Rattle.std.proofs.lemmas.List.{length-map}
use Rattle.std.proofs.lemmas.Result.{err_from_is_err_and}
use Rattle.k_relink.specs.extent_model.declared.extent_words.Extent.{Extent}
use Rattle.k_plans.specs.Free.{free_blocks}
use Rattle.k_plans.specs.LandingsPlans.{NewChain}
use Rattle.k_plans.specs.image_model.Volume.{Volume}
use Rattle.k_plans.specs.volume_laws.Uses.{in_chain}
use Rattle.k_plans.specs.k_split_model.MapChangesChanges.{Landing, touched}
use Rattle.k_map_plans.specs.LandingSteps.{chain_size}
use Rattle.k_map_plans.specs.Linking.{left_at}
use Rattle.k_map_plans.specs.declared.map_plans.faults.MapFault.{MapFault}
use Rattle.k_map_plans.proofs.Chains.{length-cut, length-from, touched-from, touched-places}
use Rattle.k_map_plans.proofs.Goings.{aside-once}
use Rattle.k_map_plans.proofs.Landed.{landing-few, landing-may, landing-plan, landing-some, landing-wants, set-for, steps-for}
use Rattle.k_map_plans.proofs.Links.{inodes-room}
use Rattle.k_map_plans.proofs.Refusals.{handed-on}
use Rattle.k_map_plans.proofs.map_plans.landing.place_all.Goals as goal

pub landed_maps-requires : goal.landed_maps-requires
landed_maps-requires c =
    let runs_are = c.deref.ensures.value ∙ ap (λ (x : Landing). x.runs) c.asked.view_is in
    let ts_is = c.deref-2.ensures.value ∙ c.in_ok-touched.ensures ∙ ap touched runs_are in
    let places = touched-places c.args.asked.now.runs c.deref-2.result.now (length c.deref-3.result.now) ts_is
    (ap (λ ls. length ls) c.deref-3.ensures.value ∙ c.requires.linked.keeps.count)
    in
    record { low = places.0; high = places.1 }

pub set_all_aside-requires : goal.set_all_aside-requires
set_all_aside-requires c =
    let runs_are = c.deref.ensures.value ∙ ap (λ (x : Landing). x.runs) c.asked.view_is in
    let ts_is = c.deref-2.ensures.value ∙ c.in_ok-touched.ensures ∙ ap touched runs_are in
    omega (
      arith,
      ap (λ (ms : List (List Extent)). length ms) (c.deref-4.ensures.value ∙ c.in_ok-maps.ensures),
      length-map c.deref-2.result.now (λ x. (left_at c.deref-3.result.now x).map),
      ap (λ (xs : List ℕ). length xs) ts_is,
      length-from 1 (touched c.args.asked.now.runs) (omega arith) (touched-from c.args.asked.now.runs),
    )

pub landing_steps-requires : goal.landing_steps-requires
landing_steps-requires c =
    let t = c.args.tables.now in
    let u = c.set_all_aside.new.tables in
    let m = c.args.asked.now in
    let lk = c.args.linked.now in
    let runs_are = c.deref.ensures.value ∙ ap (λ (x : Landing). x.runs) c.asked.view_is in
    let touched_is = c.in_ok-touched.ensures ∙ ap touched runs_are in
    let got = set-for t u m.runs lk.lefts.items c.deref-3.result.now lk.linked c.in_ok-news.news.items c.deref-2.result.now c.in_ok-maps.maps.items c.deref-4.result.now
    (c.deref-2.ensures.value ∙ touched_is) c.deref-3.ensures.value c.in_ok-maps.ensures c.deref-4.ensures.value c.in_ok-news.ensures.taken
    in
    let ts_is = c.deref-5.ensures.value ∙ touched_is in
    let places = touched-places m.runs c.deref-5.result.now (length lk.lefts.items) ts_is c.requires.linked.keeps.count in
    let inodes : length u.volume.inodes ≡ length t.volume.inodes = ap (λ (y : Volume). length y.inodes) c.in_ok-news.ensures.aside.volume in
    record {
      file = omega (arith, inodes, c.requires.may.file.below);
      low = places.0;
      high = places.1;
      below = omega (arith, inodes, c.requires.linked.keeps.count, inodes-room t.volume c.requires.whole);
      size =
          omega (
            arith,
            ap (λ (ns : List NewChain). length ns) (c.deref-6.ensures.value ∙ got.2),
            length-cut (lk.linked ∷ map (λ x. (left_at lk.lefts.items x).map) (touched m.runs)) got.0,
            length-map (touched m.runs) (λ x. (left_at lk.lefts.items x).map),
            ap (λ (xs : List ℕ). length xs) ts_is,
          );
      extents = c.requires.linked.keeps.displaced_are;
    }

pub switch_all-requires : goal.switch_all-requires
switch_all-requires c =
    let t = c.args.tables.now in
    let u = c.set_all_aside.new.tables in
    let m = c.args.asked.now in
    let lk = c.args.linked.now in
    let news = c.in_ok-news.news.items in
    let steps = c.in_ok-steps.steps.items in
    let runs_are = c.deref.ensures.value ∙ ap (λ (x : Landing). x.runs) c.asked.view_is in
    let touched_is = c.in_ok-touched.ensures ∙ ap touched runs_are in
    let got = set-for t u m.runs lk.lefts.items c.deref-3.result.now lk.linked news c.deref-2.result.now c.in_ok-maps.maps.items c.deref-4.result.now
    (c.deref-2.ensures.value ∙ touched_is) c.deref-3.ensures.value c.in_ok-maps.ensures c.deref-4.ensures.value c.in_ok-news.ensures.taken
    in
    let landing = steps-for u.volume m c.deref-5.result.now lk.lefts.items lk.displaced.items news c.deref-6.result.now steps
    (c.deref-5.ensures.value ∙ touched_is) c.deref-6.ensures.value c.in_ok-steps.ensures
    in
    record {
      empty = c.requires.empty;
      some = landing-some t u m lk.lefts.items lk.linked lk.displaced.items news steps got.0 c.requires.idle c.requires.may c.requires.whole c.requires.linked got.2 got.1 landing;
      few = landing-few t u m lk.lefts.items lk.linked lk.displaced.items news steps got.0 c.requires.idle c.requires.may c.requires.whole c.requires.linked got.2 got.1 landing;
      once = aside-once t u _ got.0 got.1 (λ b. omega (arith, ap (λ ks. in_chain ks b) c.requires.idle));
      may = landing-may t u m lk.lefts.items lk.linked lk.displaced.items news steps got.0 c.requires.idle c.requires.may c.requires.whole c.requires.linked got.2 got.1 landing;
    }

pub returns-clause-planned : goal.returns-clause-planned
returns-clause-planned c =
    let t = c.args.tables.now in
    let u = c.set_all_aside.new.tables in
    let w = c.switch_all.new.tables in
    let m = c.args.asked.now in
    let lk = c.args.linked.now in
    let news = c.in_ok-news.news.items in
    let steps = c.in_ok-steps.steps.items in
    let runs_are = c.deref.ensures.value ∙ ap (λ (x : Landing). x.runs) c.asked.view_is in
    let touched_is = c.in_ok-touched.ensures ∙ ap touched runs_are in
    let got = set-for t u m.runs lk.lefts.items c.deref-3.result.now lk.linked news c.deref-2.result.now c.in_ok-maps.maps.items c.deref-4.result.now
    (c.deref-2.ensures.value ∙ touched_is) c.deref-3.ensures.value c.in_ok-maps.ensures c.deref-4.ensures.value c.in_ok-news.ensures.taken
    in
    let landing = steps-for u.volume m c.deref-5.result.now lk.lefts.items lk.displaced.items news c.deref-6.result.now steps
    (c.deref-5.ensures.value ∙ touched_is) c.deref-6.ensures.value c.in_ok-steps.ensures
    in
    landing-plan t u m lk.lefts.items lk.linked lk.displaced.items news steps got.0 c.requires.idle c.requires.may c.requires.whole c.requires.linked got.2 got.1 landing
    w c.switch_all.new.batch c.switch_all.ensures.after c.switch_all.ensures.whole c.in_ok-news.ensures.back c.switch_all.ensures.back c.switch_all.ensures.waiting
    c.switch_all.ensures.free c.switch_all.ensures.some c.switch_all.ensures.most c.switch_all.ensures.turns

pub returns-in_err-news-clause-few : goal.returns-in_err-news-clause-few
returns-in_err-news-clause-few c few =
    let t = c.args.tables.now in
    let m = c.args.asked.now in
    let lk = c.args.linked.now in
    let runs_are = c.deref.ensures.value ∙ ap (λ (x : Landing). x.runs) c.asked.view_is in
    let ts_is : c.deref-2.result.now ≡ touched m.runs = c.deref-2.ensures.value ∙ c.in_ok-touched.ensures ∙ ap touched runs_are in
    let lefts_are : c.deref-3.result.now ≡ lk.lefts.items = c.deref-3.ensures.value in
    let maps_are : c.deref-4.result.now ≡ lk.linked ∷ map (λ x. (left_at lk.lefts.items x).map) (touched m.runs) =
    c.deref-4.ensures.value ∙ c.in_ok-maps.ensures ∙ (λ i. lk.linked ∷ map (λ x. (left_at (lefts_are i) x).map) (ts_is i))
    in
    let refused : c.set_all_aside.result ≡ Err MapFault.Few =
    handed-on c.from_residual-in_err-news.result c.set_all_aside.result c.in_err-news.field-0.0
    (err_from_is_err_and c.from_residual-in_err-news.result c.from_residual-in_err-news.ensures.1) c.in_err-news.was few
    in
    landing-wants t.volume m lk.lefts.items lk.linked lk.displaced.items c.requires.may c.requires.whole c.requires.linked (free_blocks t)
    (subst (λ ms. free_blocks t < sum_by chain_size ms) maps_are (c.set_all_aside.ensures.few refused))
