-- The list of the steps of staging files, one more at a time.
use Rattle.std.proofs.Common.{◌≡◌, ◌<◌, ◌+◌, ◌++◌, ℕ, suc, List, [], ◌∷◌, length, get_or, drop, append_assoc, sym, ◌∙◌, ap, arith}
use Rattle.std.proofs.Math.Seq.{drop-cons}
use Rattle.k_plans.specs.image_model.Volume.{Volume}
use Rattle.k_plans.specs.LandingsPlans.{NewChain, blocks_of, new_at, no_new}
use Rattle.k_map_plans.specs.LandingSteps.{freed_with, staging_step, steps_of}
use Rattle.k_map_plans.specs.Linking.{Left, left_at}
use Rattle.k_map_plans.specs.Steps.{Step}

next-drop : {A : Type 0} (xs : List A) (k : ℕ) (d : A) → k < length xs → drop k xs ≡ get_or xs k d ∷ drop (k + 1) xs
next-drop xs k d below =
    let next : suc k ≡ k + 1 = omega arith in
    drop-cons xs k d below ∙ ap (λ (n : ℕ). get_or xs k d ∷ drop n xs) next

pub steps-more : (v : Volume) (lefts : List Left) (own ts : List ℕ) (news : List NewChain) (k : ℕ) (freed freed2 : List ℕ) (done : List Step) (step : Step)
    (left : Left) → k < length ts → k < length news → left ≡ left_at lefts (get_or ts k 0)
    → freed2 ≡ freed_with v left (get_or ts k 0) freed
    → step ≡ staging_step v (get_or ts k 0) (new_at (drop k news) 0) (own ++ (blocks_of (drop 1 (drop k news)) ++ freed2)) → (end : List Step)
    → (done ++ step ∷ []) ++ steps_of v lefts own (drop (k + 1) ts) (drop (k + 1) news) freed2 end
    ≡ done ++ steps_of v lefts own (drop k ts) (drop k news) freed end
steps-more v lefts own ts news k freed freed2 done step left below within left_is freed_is step_is end =
    let x : ℕ = get_or ts k 0 in
    let c : NewChain = get_or news k no_new in
    let front_ts : drop k ts ≡ x ∷ drop (k + 1) ts = next-drop ts k 0 below in
    let front_news : drop k news ≡ c ∷ drop (k + 1) news = next-drop news k no_new within in
    let freed_now : freed2 ≡ freed_with v (left_at lefts x) x freed = freed_is ∙ ap (λ l. freed_with v l x freed) left_is in
    let step_now : step ≡ staging_step v x c (own ++ (blocks_of (drop (k + 1) news) ++ freed_with v (left_at lefts x) x freed)) =
    step_is ∙ (λ i. staging_step v x (new_at (front_news i) 0) (own ++ (blocks_of (drop 1 (front_news i)) ++ freed_now i)))
    in
    append_assoc done (step ∷ []) (steps_of v lefts own (drop (k + 1) ts) (drop (k + 1) news) freed2 end)
    ∙ (λ i. done ++ (step_now i ∷ steps_of v lefts own (drop (k + 1) ts) (drop (k + 1) news) (freed_now i) end))
    ∙ sym (λ i. done ++ steps_of v lefts own (front_ts i) (front_news i) freed end)
