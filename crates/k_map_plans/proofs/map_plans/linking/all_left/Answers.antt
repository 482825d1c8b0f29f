use Rattle.std.proofs.Common.{◌≡◌, ◌∙◌, ◌+◌, ◌++◌, [], ◌∷◌, sym, inl, inr, subst, arith}
use Rattle.std.proofs.lemmas.Bool.{cases_lt}
use Rattle.std.proofs.lemmas.List.FromFn.{map-range_with_len_more}
use Rattle.k_plans.specs.image_model.Volume.{extents}
use Rattle.k_relink.specs.extent_model.Extents.{IsCanonical}
use Rattle.k_map_plans.specs.Linking.{Left, whole_left}
use Rattle.k_map_plans.proofs.map_plans.linking.all_left.Goals as goal

pub loop-place-preserved : goal.loop-place-preserved
loop-place-preserved c =
    let v = c.args.tables.now.volume in
    let inv = c.loop-place.invariant in
    let one : Left = record { map = c.in_ok-map.map; went = c.new.result.items } in
    let one_is : one ≡ whole_left v c.loop-place.place = λ i. record { map = c.in_ok-map.ensures.copy i; went = c.new.ensures.items i } in
    record {
      lefts = c.in_ok-push.ensures.items ∙ (λ i. inv.lefts i ++ (one_is i ∷ [])) ∙ sym (map-range_with_len_more (whole_left v) 0 c.loop-place.place c.loop-place.place (omega arith));
      canonical = λ k below. elim (cases_lt k c.loop-place.place) [
        | inl before ↦ inv.canonical k before
        | inr past ↦ subst (λ j. IsCanonical (extents v (j + 1))) (omega (arith, below, past)) c.in_ok-map.ensures.canonical
      ];
    }

pub returns-clause-canonical : goal.returns-clause-canonical
returns-clause-canonical c k below = c.loop-place.invariant.canonical k (omega (arith, below, c.loop-place-test.false))
