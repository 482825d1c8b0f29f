-- Laws of the words after records: what a record hides, and what stays.
use Rattle.std.specs.Prelude.{◌≡◌, ◌≢◌, ◌<◌, ◌+◌, ◌/◌, ◌%◌, ◌⊎◌, ℕ, zero, suc}
use Rattle.std.proofs.Common.{refl, sym, ◌∙◌, ap, arith, inl, inr, ⊎_elim, add-one}
use Rattle.std.proofs.lemmas.Bool.{cases_eq, eq-eqb, ne_eqb}
use Rattle.image_layout.specs.layout_model.Journal.{patched}
use Rattle.pm_lines.specs.pm_model.Words.{Words}

-- one of the first n records has the line, or none has
pub find_target : (n : ℕ) (t : ℕ → ℕ) (line : ℕ) → ((k : ℕ) × (k < n) × (t k ≡ line)) ⊎ ((k : ℕ) → k < n → t k ≢ line)
find_target zero t line = inr (λ k h e. absurd (omega arith))
find_target (suc n) t line = ⊎_elim
    (λ (e : t n ≡ line). inl (n, omega arith, e))
    (λ (ne : t n ≢ line). ⊎_elim
    (λ (found : (k : ℕ) × (k < n) × (t k ≡ line)). inl (found.0, omega (arith, found.1), found.2))
    (λ (none : (k : ℕ) → k < n → t k ≢ line). inr (λ k h. ⊎_elim
    (λ (same : k ≡ n). rw same ne)
    (λ (other : k ≢ n). none k (omega arith))
    (cases_eq k n)))
    (find_target n t line))
    (cases_eq (t n) line)

-- the last record has the line, or has another
pub patched-last : (n : ℕ) (t : ℕ → ℕ) (c : ℕ → ℕ → ℕ) (f : Words) (w : ℕ) → t n ≡ w / 8 → patched (n + 1) t c f w ≡ c n (w % 8)
unfolding patched
patched-last n t c f w at = rw (add-one, eq-eqb (t n) (w / 8) at) refl

pub patched-skip : (n : ℕ) (t : ℕ → ℕ) (c : ℕ → ℕ → ℕ) (f : Words) (w : ℕ) → t n ≢ w / 8 → patched (n + 1) t c f w ≡ patched n t c f w
unfolding patched
patched-skip n t c f w not_at = rw (add-one, ne_eqb (t n) (w / 8) not_at) refl

-- no record
pub patched-none : (t : ℕ → ℕ) (c : ℕ → ℕ → ℕ) (f : Words) (w : ℕ) → patched 0 t c f w ≡ f w
unfolding patched
patched-none t c f w = refl

-- a word of a line that no record has
pub patched-miss : (n : ℕ) (t : ℕ → ℕ) (c : ℕ → ℕ → ℕ) (f : Words) (w : ℕ) → ((k : ℕ) → k < n → t k ≢ w / 8) → patched n t c f w ≡ f w
patched-miss zero t c f w none = patched-none t c f w
patched-miss (suc n) t c f w none =
    rw (← add-one) (patched-skip n t c f w (none n (omega arith)) ∙ patched-miss n t c f w (λ k h. none k (omega arith)))

-- a word of a line that a record has does not depend on the words before
pub patched-hit : (n : ℕ) (t : ℕ → ℕ) (c : ℕ → ℕ → ℕ) (f g : Words) (w k : ℕ) → k < n → t k ≡ w / 8 → patched n t c f w ≡ patched n t c g w
patched-hit zero t c f g w k below at = absurd (omega arith)
patched-hit (suc n) t c f g w k below at = rw (← add-one) (⊎_elim
    (λ (e : t n ≡ w / 8). patched-last n t c f w e ∙ sym (patched-last n t c g w e))
    (λ (ne : t n ≢ w / 8).
    let other : k ≢ n = λ e. ne (ap t (sym e) ∙ at) in
    patched-skip n t c f w ne ∙ patched-hit n t c f g w k (omega arith) at ∙ sym (patched-skip n t c g w ne))
    (cases_eq (t n) (w / 8)))

-- a word of a line that one record has
pub patched-at : (n : ℕ) (t : ℕ → ℕ) (c : ℕ → ℕ → ℕ) (f : Words) (w k : ℕ) → ((i j : ℕ) → i < j → j < n → t i ≢ t j) → k < n → t k ≡ w / 8
    → patched n t c f w ≡ c k (w % 8)
patched-at zero t c f w k distinct below at = absurd (omega arith)
patched-at (suc n) t c f w k distinct below at = rw (← add-one n) (⊎_elim
    (λ (e : k ≡ n). patched-last n t c f w (ap t (sym e) ∙ at) ∙ ap (λ m. c m (w % 8)) (sym e))
    (λ (ne : k ≢ n).
    let before : k < n = omega arith in
    patched-skip n t c f w (λ e. distinct k n before (omega arith) (at ∙ sym e))
    ∙ patched-at n t c f w k (λ i j less within. distinct i j less (omega arith)) before at)
    (cases_eq k n))

-- records that agree
pub patched-same : (n : ℕ) (t u : ℕ → ℕ) (c d : ℕ → ℕ → ℕ) (f : Words) (w : ℕ) → ((k : ℕ) → k < n → t k ≡ u k) → ((k : ℕ) → k < n → c k (w % 8) ≡ d k (w % 8))
    → patched n t c f w ≡ patched n u d f w
patched-same zero t u c d f w targets contents = patched-none t c f w ∙ sym (patched-none u d f w)
patched-same (suc n) t u c d f w targets contents = rw (← add-one) (⊎_elim
    (λ (e : t n ≡ w / 8). patched-last n t c f w e ∙ contents n (omega arith) ∙ sym (patched-last n u d f w (sym (targets n (omega arith)) ∙ e)))
    (λ (ne : t n ≢ w / 8). patched-skip n t c f w ne
    ∙ patched-same n t u c d f w (λ k h. targets k (omega arith)) (λ k h. contents k (omega arith))
    ∙ sym (patched-skip n u d f w (λ e. ne (targets n (omega arith) ∙ e))))
    (cases_eq (t n) (w / 8)))

-- words that agree before
pub patched-base : (n : ℕ) (t : ℕ → ℕ) (c : ℕ → ℕ → ℕ) (f g : Words) (w : ℕ) → f w ≡ g w → patched n t c f w ≡ patched n t c g w
patched-base n t c f g w same = ⊎_elim
    (λ (found : (k : ℕ) × (k < n) × (t k ≡ w / 8)). patched-hit n t c f g w found.0 found.1 found.2)
    (λ (none : (k : ℕ) → k < n → t k ≢ w / 8). patched-miss n t c f w none ∙ same ∙ sym (patched-miss n t c g w none))
    (find_target n t (w / 8))

-- records that come again change nothing
pub patched-patched : (n : ℕ) (t : ℕ → ℕ) (c : ℕ → ℕ → ℕ) (f : Words) (w : ℕ) → patched n t c (patched n t c f) w ≡ patched n t c f w
patched-patched n t c f w = ⊎_elim
    (λ (found : (k : ℕ) × (k < n) × (t k ≡ w / 8)). patched-hit n t c (patched n t c f) f w found.0 found.1 found.2)
    (λ (none : (k : ℕ) → k < n → t k ≢ w / 8). patched-miss n t c (patched n t c f) w none)
    (find_target n t (w / 8))
