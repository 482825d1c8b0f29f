-- The first word of a text.
use Rattle.std.proofs.Common.{◌≡◌, ◌≢◌, ℕ, zero, suc, ◌<◌, ◌≤◌, List, [], ◌∷◌, length, get_or, take, drop, refl, ◌∙◌, ap, arith, true, sym, drop-cons}
use Rattle.std.proofs.lemmas.Bool.{eq-eqb, ne_eqb}
use Rattle.std.proofs.lemmas.List.{drop_all}
use Rattle.script_text.specs.Lines.{first_word, words_from, words_of}

-- blanks before a word are dropped
pub words_behind_blanks : (text : List ℕ) (n : ℕ) → n ≤ length text → ((k : ℕ) → k < n → get_or text k 0 ≡ 32) → words_of text ≡ words_of (drop n text)
unfolding words_from
words_behind_blanks [] zero within blank = refl
words_behind_blanks [] (suc n) within blank = absurd (omega arith)
words_behind_blanks (b ∷ text) zero within blank = refl
words_behind_blanks (b ∷ text) (suc n) within blank =
    (rw (eq-eqb b 32 (blank 0 (omega arith))) refl) ∙ words_behind_blanks text n (omega arith) (λ k lt. blank (suc k) (omega arith))

-- a text of blanks has no words
pub no_words : (text : List ℕ) (n : ℕ) → n ≡ length text → ((k : ℕ) → k < n → get_or text k 0 ≡ 32) → words_of text ≡ []
unfolding words_from
no_words text n whole blank = words_behind_blanks text n (omega arith) blank ∙ ap words_of (drop_all n text (omega arith)) ∙ refl

-- a text that goes on in a word: the word's end, and the words behind it
record Inside (text : List ℕ) (n : ℕ) : Type 0 where
  word : first_word text ≡ take n text
  words : words_from true text ≡ words_of (drop n text)

inside : (text : List ℕ) (n : ℕ) → n ≤ length text → ((k : ℕ) → k < n → get_or text k 0 ≢ 32) → (n < length text → get_or text n 0 ≡ 32) → Inside text n
unfolding first_word words_from
inside [] zero within none stops = record { word = refl; words = refl }
inside [] (suc n) within none stops = absurd (omega arith)
inside (b ∷ text) zero within none stops =
    let blank = eq-eqb b 32 (stops (omega arith)) in
    record { word = rw blank refl; words = rw blank refl }
inside (b ∷ text) (suc n) within none stops =
    let other = ne_eqb b 32 (none 0 (omega arith)) in
    let rest = inside text n (omega arith) (λ k lt. none (suc k) (omega arith)) (λ lt. stops (omega arith)) in
    record { word = rw other (ap (λ (w : List ℕ). b ∷ w) rest.word); words = rw other rest.words }

-- a text that begins with a word
pub first_of_words : (text : List ℕ) (n : ℕ) → 0 < length text → get_or text 0 0 ≢ 32 → n ≤ length text → ((k : ℕ) → k < n → get_or text k 0 ≢ 32) → (n < length text → get_or text n 0 ≡ 32) → words_of text ≡ take n text ∷ words_of (drop n text)
unfolding words_from
first_of_words [] n some begins within none stops = absurd (omega arith)
first_of_words (b ∷ text) zero some begins within none stops = absurd (begins (stops (omega arith)))
first_of_words (b ∷ text) (suc n) some begins within none stops =
    let other = ne_eqb b 32 begins in
    let rest = inside text n (omega arith) (λ k lt. none (suc k) (omega arith)) (λ lt. stops (omega arith)) in
    rw other (ap (λ (w : List ℕ). (b ∷ w) ∷ words_from true text) rest.word ∙ ap (λ (ws : List (List ℕ)). (b ∷ take n text) ∷ ws) rest.words)

-- the word is not empty
pub word_some : (text : List ℕ) (n : ℕ) → 0 < length text → get_or text 0 0 ≢ 32 → n ≤ length text → (n < length text → get_or text n 0 ≡ 32) → 0 < n
word_some text zero some begins within stops = absurd (begins (stops some))
word_some text (suc n) some begins within stops = omega arith

-- behind the blanks a word begins
pub record BeginsWithWord (text rest : List ℕ) : Type 0 where
  pub some : 0 < length rest
  pub begins : get_or rest 0 0 ≢ 32
  pub words : words_of text ≡ words_of rest

pub behind_blanks : (text rest : List ℕ) (n : ℕ) → rest ≡ drop n text → n < length text → ((k : ℕ) → k < n → get_or text k 0 ≡ 32) → get_or text n 0 ≢ 32 → BeginsWithWord text rest
behind_blanks text rest n is within blank stops =
    let cons : rest ≡ get_or text n 0 ∷ drop (suc n) text = is ∙ drop-cons text n 0 within in
    record {
      some = omega (arith, ap length cons);
      begins = λ e. stops (ap (λ (l : List ℕ). get_or l 0 0) (sym cons) ∙ e);
      words = words_behind_blanks text n (omega arith) blank ∙ ap words_of (sym is);
    }
