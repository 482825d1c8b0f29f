use Rattle.std.proofs.Common.{◌≡◌, ◌∙◌, ◌+◌, ◌++◌, [], ◌∷◌, ℕ, Bool, true, false, List, map, ap, sym, arith}
use Rattle.std.specs.Prelude.{◌==◌, cond, filter}
use Rattle.std.specs.List.{list_any, range_with_len}
use Rattle.std.proofs.lemmas.List.{append-nil}
use Rattle.std.proofs.lemmas.List.FromFn.{filter_of_map_range_with_len_more}
use Rattle.k_plans.specs.k_split_model.declared.map_changes.moves.MoveRun.{MoveRun}
use Rattle.k_map_plans.proofs.map_plans.landing.touched_by.Goals.{then-is_touched+in_ok-push, else-is_touched}
use Rattle.k_map_plans.proofs.map_plans.landing.touched_by.Goals as goal

pub loop-place-preserved : goal.loop-place-preserved
loop-place-preserved c =
    let p : ℕ → Bool = λ x. list_any (λ (r : MoveRun). r.staging == x) c.args.runs.now in
    let k = c.loop-place.place in
    let before : List ℕ = filter p (map (λ n. n + 1) (range_with_len 0 k)) in
    let more : filter p (map (λ n. n + 1) (range_with_len 0 (k + 1))) ≡ before ++ cond (p (k + 1)) ((k + 1) ∷ []) [] =
    filter_of_map_range_with_len_more p (λ n. n + 1) 0 k k (omega arith)
    in
    elim c.if-is_touched.branch [
      | then-is_touched+in_ok-push w ↦
          let test : p (k + 1) ≡ true = sym c.is_touched.ensures ∙ w.if-is_touched.true in
          ap (λ found. found.items) w.found-is ∙ w.in_ok-push.ensures.items ∙ ap (λ xs. xs ++ (k + 1) ∷ []) c.loop-place.invariant
          ∙ sym (more ∙ ap (λ t. before ++ cond t ((k + 1) ∷ []) []) test)
      | else-is_touched w ↦
          let test : p (k + 1) ≡ false = sym c.is_touched.ensures ∙ w.if-is_touched.false in
          ap (λ found. found.items) w.found-is ∙ c.loop-place.invariant
          ∙ sym (more ∙ ap (λ t. before ++ cond t ((k + 1) ∷ []) []) test ∙ append-nil before)
    ]
