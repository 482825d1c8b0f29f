-- Numbers with commas between them, part by part.
use Rattle.std.proofs.Common.{◌≡◌, ◌≢◌, ℕ, ◌+◌, ◌<◌, ◌≤◌, List, [], ◌∷◌, length, get_or, take, drop, refl, ◌∙◌, ap, arith, ◌++◌, Some, None, sym, append_assoc, Option}
use Rattle.std.proofs.lemmas.List.{take_all}
use Rattle.std.specs.Prelude.{option_map, option_and_then}
use Rattle.script_text.specs.Words.{number_in, numbers_in, numbers_of, parts_by}
use Rattle.script_text.proofs.Parts.{first_part, one_more_part, one_part}

-- these numbers were read, and the rest is read behind them
abbrev pub AreRead : List ℕ → List ℕ → List ℕ → Type 0
AreRead word rest read = numbers_in word ≡ option_map (λ ns. read ++ ns) (numbers_in rest)

no_number : (word : List ℕ) (words : List (List ℕ)) → number_in word ≡ None → numbers_of (word ∷ words) ≡ None
unfolding numbers_of
no_number word words none = ap (λ (n : Option ℕ). option_and_then (λ v. option_map (λ (ns : List ℕ). v ∷ ns) (numbers_of words)) n) none

pub some_number : (word : List ℕ) (words : List (List ℕ)) (v : ℕ) → number_in word ≡ Some v → numbers_of (word ∷ words) ≡ option_map (λ (ns : List ℕ). v ∷ ns) (numbers_of words)
unfolding numbers_of
some_number word words v some = ap (λ (n : Option ℕ). option_and_then (λ v. option_map (λ (ns : List ℕ). v ∷ ns) (numbers_of words)) n) some

last_number : (word : List ℕ) (v : ℕ) → number_in word ≡ Some v → numbers_of (word ∷ []) ≡ Some (v ∷ [])
unfolding numbers_of
last_number word v some = some_number word [] v some

pub behind : (read : List ℕ) (v : ℕ) (more : Option (List ℕ)) → option_map (λ (ns : List ℕ). read ++ ns) (option_map (λ (ns : List ℕ). v ∷ ns) more) ≡ option_map (λ (ns : List ℕ). (read ++ v ∷ []) ++ ns) more
behind read v None = refl
behind read v (Some ns) = ap Some (sym (append_assoc read (v ∷ []) ns))

pub none_read : (word rest read : List ℕ) (n : ℕ) → AreRead word rest read → n ≤ length rest → ((k : ℕ) → k < n → get_or rest k 0 ≢ 44) → (n < length rest → get_or rest n 0 ≡ 44) → number_in (take n rest) ≡ None → None ≡ numbers_in word
none_read word rest read n are within none stops bad =
    let cut = one_more_part 44 rest n within none stops in
    sym (are ∙ ap (λ (parts : List (List ℕ)). option_map (λ (ns : List ℕ). read ++ ns) (numbers_of parts)) cut.1 ∙ ap (λ (ns : Option (List ℕ)). option_map (λ (ns : List ℕ). read ++ ns) ns) (no_number (take n rest) cut.0 bad))

pub last_read : (word rest read : List ℕ) (n v : ℕ) → AreRead word rest read → n ≡ length rest → ((k : ℕ) → k < n → get_or rest k 0 ≢ 44) → number_in (take n rest) ≡ Some v → Some (read ++ v ∷ []) ≡ numbers_in word
last_read word rest read n v are whole none some =
    let one : parts_by 44 rest ≡ take n rest ∷ [] =
    one_part 44 rest (λ k lt. none k (omega arith)) ∙ ap (λ (part : List ℕ). part ∷ []) (sym (take_all n rest (omega arith))) in
    sym (are ∙ ap (λ (parts : List (List ℕ)). option_map (λ (ns : List ℕ). read ++ ns) (numbers_of parts)) one ∙ ap (λ (ns : Option (List ℕ)). option_map (λ (ns : List ℕ). read ++ ns) ns) (last_number (take n rest) v some))

pub next_read : (word rest read : List ℕ) (n v : ℕ) → AreRead word rest read → n < length rest → ((k : ℕ) → k < n → get_or rest k 0 ≢ 44) → get_or rest n 0 ≡ 44 → number_in (take n rest) ≡ Some v → AreRead word (drop (n + 1) rest) (read ++ v ∷ [])
next_read word rest read n v are within none stop some =
    are
    ∙ ap (λ (parts : List (List ℕ)). option_map (λ (ns : List ℕ). read ++ ns) (numbers_of parts)) (first_part 44 rest n within none stop)
    ∙ ap (λ (ns : Option (List ℕ)). option_map (λ (ns : List ℕ). read ++ ns) ns) (some_number (take n rest) (parts_by 44 (drop (n + 1) rest)) v some)
    ∙ behind read v (numbers_of (parts_by 44 (drop (n + 1) rest)))
