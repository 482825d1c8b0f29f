use Rattle.std.proofs.Common.{◌≡◌, ◌∙◌, ◌+◌, ◌-◌, ◌++◌, List, length, length-drop, drop, get_or, take, ap, arith, rules}
use Rattle.std.proofs.lemmas.Grind.{common_steps}
use Rattle.std.proofs.lemmas.List.{take_all}
use Rattle.k_plans.specs.LandingsPlans.{blocks_of, new_at}
use Rattle.k_map_plans.specs.LandingSteps.{staging_step, steps_of}
use Rattle.k_map_plans.specs.Linking.{left_at}
use Rattle.k_map_plans.specs.Steps.{Step}
use Rattle.k_map_plans.proofs.StepLists.{steps-more}
use Rattle.k_map_plans.proofs.map_plans.landing.staging_steps.Goals as goal

pub loop-place-preserved : goal.loop-place-preserved
loop-place-preserved c end =
    let v = c.args.tables.now.volume in
    let ts = c.args.touched.now in
    let news = c.args.news.now in
    let k = c.loop-place.place in
    let left_is : c.index-lefts-staging.result ≡ left_at c.args.lefts.now (get_or ts k 0) = first_of (search rules, grind (arith, common_steps)) in
    let whole : take (length news - k) (drop k news) ≡ drop k news = take_all (length news - k) (drop k news) (omega (arith, length-drop k news)) in
    ap (λ (ss : List Step). ss ++ steps_of v c.args.lefts.now c.args.own.now (drop (k + 1) ts) (drop (k + 1) news) c.staging_step.new.freed.items end) c.in_ok-push.ensures.items
    ∙ steps-more v c.args.lefts.now c.args.own.now ts news k c.loop-place.freed.items c.staging_step.new.freed.items c.loop-place.steps.items c.in_ok-step.step
    c.index-lefts-staging.result c.loop-place-test.true (omega (arith, c.loop-place-test.true, c.requires.size)) left_is c.in_ok-step.ensures.freed
    (c.in_ok-step.ensures.step
    ∙ ap (λ ns. staging_step v (get_or ts k 0) (new_at ns 0) (c.args.own.now ++ (blocks_of (drop 1 ns) ++ c.staging_step.new.freed.items))) whole) end
    ∙ c.loop-place.invariant end
