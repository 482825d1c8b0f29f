use Rattle.std.proofs.Common.{◌≡◌, ◌∙◌, ◌-◌, [], ◌∷◌, List, length, length-drop, drop, take, ap, subst, arith, rules}
use Rattle.std.proofs.lemmas.Grind.{common_steps}
use Rattle.std.proofs.lemmas.List.{take_all}
use Rattle.k_relink.specs.extent_model.declared.extent_words.Extent.{Extent}
use Rattle.k_plans.specs.LandingsPlans.{NewChain, new_at}
use Rattle.k_map_plans.specs.LandingSteps.{IsFileStep, steps_of}
use Rattle.k_map_plans.proofs.map_plans.landing.landing_steps.Goals as goal

pub returns : goal.returns
returns c =
    let v = c.args.tables.now.volume in
    let m = c.args.asked.now in
    let ts = c.args.touched.now in
    let news = c.args.news.now in
    let last = c.in_ok-last.last in
    let own : c.index-news-0.result ≡ new_at news 0 = first_of (search rules, grind (arith, common_steps)) in
    let whole : take (length news - 1) (drop 1 news) ≡ drop 1 news = take_all (length news - 1) (drop 1 news) (omega (arith, length-drop 1 news)) in
    let lefts_are : c.deref.result.now ≡ c.args.linked.now.lefts.items = c.deref.ensures.value in
    let own_is = c.deref-2.ensures.value ∙ ap (λ (n : NewChain). n.blocks) (c.own.view_is ∙ own) in
    let displaced_are : c.deref-3.result.now ≡ c.args.linked.now.displaced.items = c.deref-3.ensures.value in
    record {
      last = last;
      file = subst (λ (n : NewChain). IsFileStep v m ts n c.args.linked.now.displaced.items last) own
          (subst (λ (es : List Extent). IsFileStep v m ts c.index-news-0.result es last) displaced_are c.in_ok-last.ensures);
      all = c.in_ok-push.ensures.items ∙ c.in_ok-steps.ensures (last ∷ []) ∙ (λ i. steps_of v (lefts_are i) (own_is i) ts (whole i) [] (last ∷ []));
    }
