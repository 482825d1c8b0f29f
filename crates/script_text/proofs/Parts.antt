-- Texts that are cut at the first byte of some value.
use Rattle.std.proofs.Common.{◌≡◌, ◌≢◌, ℕ, zero, suc, ◌+◌, ◌<◌, ◌≤◌, List, [], ◌∷◌, length, get_or, take, drop, refl, ◌∙◌, ap, arith, inl, inr, add-one, true, false, ◌++◌, Some, None, sym, append_assoc}
use Rattle.std.proofs.lemmas.Bool.{and_from, and_left, and_right, cases_lt, cond-false, cond-true, eq-eqb, ne_eqb}
use Rattle.std.proofs.lemmas.List.{take_all}
use Rattle.std.proofs.lemmas.List.Folds.{list_all-append}
use Rattle.std.specs.List.{list_all}
use Rattle.layout_model.specs.Spelling.{is_spelled}
use Rattle.script_text.specs.Words.{names_in, parts_by, with_part}

inside : (s b : ℕ) (text : List ℕ) → b ≢ s → parts_by s (b ∷ text) ≡ with_part b (parts_by s text)
unfolding parts_by
inside s b text ne = rw (ne_eqb b s ne) refl

-- no such byte, one part
pub one_part : (s : ℕ) (text : List ℕ) → ((k : ℕ) → k < length text → get_or text k 0 ≢ s) → parts_by s text ≡ text ∷ []
unfolding parts_by
one_part s [] none = refl
one_part s (b ∷ text) none = inside s b text (none 0 (omega arith)) ∙ ap (with_part b) (one_part s text (λ k lt. none (suc k) (omega arith)))

-- the part before the first such byte, and the parts behind it
pub first_part : (s : ℕ) (text : List ℕ) (n : ℕ) → n < length text → ((k : ℕ) → k < n → get_or text k 0 ≢ s) → get_or text n 0 ≡ s → parts_by s text ≡ take n text ∷ parts_by s (drop (n + 1) text)
unfolding parts_by
first_part s [] n within none stop = absurd (omega arith)
first_part s (b ∷ text) zero within none stop = rw (eq-eqb b s stop) refl
first_part s (b ∷ text) (suc n) within none stop =
    inside s b text (none 0 (omega arith))
    ∙ ap (with_part b) (first_part s text n (omega arith) (λ k lt. none (suc k) (omega arith)) stop)
    ∙ (rw (add-one, add-one) refl)

-- the part before the first such byte, or all of the text
pub one_more_part : (s : ℕ) (text : List ℕ) (n : ℕ) → n ≤ length text → ((k : ℕ) → k < n → get_or text k 0 ≢ s) → (n < length text → get_or text n 0 ≡ s) → (more : List (List ℕ)) × (parts_by s text ≡ take n text ∷ more)
one_more_part s text n within none stops =
    elim (cases_lt n (length text)) [
      | inl lt ↦ (parts_by s (drop (n + 1) text), first_part s text n lt none (stops lt))
      | inr ge ↦ ([], one_part s text (λ k lt. none k (omega arith)) ∙ ap (λ (part : List ℕ). part ∷ []) (sym (take_all n text ge)))
    ]

-- ---- the names of a path, part by part: these are read, and the rest is cut at its first slash
pub bad_name : (text rest : List ℕ) (read : List (List ℕ)) (n : ℕ) → parts_by 47 text ≡ read ++ parts_by 47 rest → n ≤ length rest → ((k : ℕ) → k < n → get_or rest k 0 ≢ 47) → (n < length rest → get_or rest n 0 ≡ 47) → is_spelled (take n rest) ≡ false → None ≡ names_in (parts_by 47 text)
bad_name text rest read n parts within none stops bad =
    let cut = one_more_part 47 rest n within none stops in
    let all : list_all is_spelled (read ++ take n rest ∷ cut.0) ≡ false =
    list_all-append is_spelled read (take n rest ∷ cut.0) ∙ and_right (list_all is_spelled read) (list_all is_spelled (take n rest ∷ cut.0)) (and_left (is_spelled (take n rest)) (list_all is_spelled cut.0) bad) in
    sym (ap names_in (parts ∙ ap (λ (more : List (List ℕ)). read ++ more) cut.1) ∙ cond-false (list_all is_spelled (read ++ take n rest ∷ cut.0)) (Some (read ++ take n rest ∷ cut.0)) None all)

-- a name more is spelled
pub spelled_more : (read : List (List ℕ)) (name : List ℕ) → list_all is_spelled read ≡ true → is_spelled name ≡ true → list_all is_spelled (read ++ name ∷ []) ≡ true
spelled_more read name before spelled = list_all-append is_spelled read (name ∷ []) ∙ and_from (list_all is_spelled read) (list_all is_spelled (name ∷ [])) before (and_from (is_spelled name) true spelled refl)

pub last_name : (text rest : List ℕ) (read : List (List ℕ)) (n : ℕ) → parts_by 47 text ≡ read ++ parts_by 47 rest → n ≡ length rest → ((k : ℕ) → k < n → get_or rest k 0 ≢ 47) → list_all is_spelled (read ++ take n rest ∷ []) ≡ true → Some (read ++ take n rest ∷ []) ≡ names_in (parts_by 47 text)
last_name text rest read n parts whole none spelled =
    let one : parts_by 47 rest ≡ take n rest ∷ [] =
    one_part 47 rest (λ k lt. none k (omega arith)) ∙ ap (λ (part : List ℕ). part ∷ []) (sym (take_all n rest (omega arith))) in
    sym (ap names_in (parts ∙ ap (λ (more : List (List ℕ)). read ++ more) one) ∙ cond-true (list_all is_spelled (read ++ take n rest ∷ [])) (Some (read ++ take n rest ∷ [])) None spelled)

pub next_name : (text rest : List ℕ) (read : List (List ℕ)) (n : ℕ) → parts_by 47 text ≡ read ++ parts_by 47 rest → n < length rest → ((k : ℕ) → k < n → get_or rest k 0 ≢ 47) → get_or rest n 0 ≡ 47 → parts_by 47 text ≡ (read ++ take n rest ∷ []) ++ parts_by 47 (drop (n + 1) rest)
next_name text rest read n parts within none slash =
    parts ∙ ap (λ (more : List (List ℕ)). read ++ more) (first_part 47 rest n within none slash) ∙ sym (append_assoc read (take n rest ∷ []) (parts_by 47 (drop (n + 1) rest)))
