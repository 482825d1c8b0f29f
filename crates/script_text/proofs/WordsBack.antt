-- Words that blanks part are read as those words.
use Rattle.std.proofs.Common.{◌≡◌, ℕ, List, [], ◌∷◌, ◌++◌, length, refl, ◌∙◌, ap, Bool, true, false, not, append_assoc}
use Rattle.std.specs.Prelude.{◌==◌}
use Rattle.std.specs.List.{list_all}
use Rattle.std.proofs.lemmas.Bool.{and_parts, not-true}
use Rattle.script_text.specs.Lines.{first_word, words_from, words_of}

-- a word has some byte and no blank
abbrev pub is_solid_byte : ℕ → Bool
is_solid_byte b = not (b == 32)

abbrev pub is_solid : List ℕ → Bool
is_solid word = list_all is_solid_byte word

pub record IsWord (word : List ℕ) : Type 0 where
  pub solid : is_solid word ≡ true
  pub some : (length word == 0) ≡ false

record Follows (word : List ℕ) (text rest : List ℕ) : Type 0 where
  first : first_word text ≡ word
  words : words_from true text ≡ words_of rest

within : (word rest : List ℕ) → is_solid word ≡ true → Follows word (word ++ 32 ∷ rest) rest
unfolding first_word words_from
within [] rest solid = record { first = refl; words = refl }
within (b ∷ word) rest solid =
    let parts = and_parts (is_solid_byte b) (is_solid word) solid in
    let other : (b == 32) ≡ false = not-true (b == 32) parts.0 in
    let more = within word rest parts.1 in
    record { first = rw other (ap (λ (w : List ℕ). b ∷ w) more.first); words = rw other more.words }

at_end : (word : List ℕ) → is_solid word ≡ true → Follows word word []
unfolding first_word words_from
at_end [] solid = record { first = refl; words = refl }
at_end (b ∷ word) solid =
    let parts = and_parts (is_solid_byte b) (is_solid word) solid in
    let other : (b == 32) ≡ false = not-true (b == 32) parts.0 in
    let more = at_end word parts.1 in
    record { first = rw other (ap (λ (w : List ℕ). b ∷ w) more.first); words = rw other more.words }

pub one_word : (a : List ℕ) → IsWord a → words_of a ≡ a ∷ []
unfolding words_from
one_word [] h = cc (h.some)
one_word (b ∷ rest) h =
    let parts = and_parts (is_solid_byte b) (is_solid rest) h.solid in
    let other : (b == 32) ≡ false = not-true (b == 32) parts.0 in
    let more = at_end rest parts.1 in
    rw other (ap (λ (w : List ℕ). (b ∷ w) ∷ words_from true rest) more.first ∙ ap (λ (ws : List (List ℕ)). (b ∷ rest) ∷ ws) more.words)

pub word_more : (a rest : List ℕ) → IsWord a → words_of (a ++ 32 ∷ rest) ≡ a ∷ words_of rest
unfolding words_from
word_more [] rest h = cc (h.some)
word_more (b ∷ word) rest h =
    let parts = and_parts (is_solid_byte b) (is_solid word) h.solid in
    let other : (b == 32) ≡ false = not-true (b == 32) parts.0 in
    let more = within word rest parts.1 in
    rw other (ap (λ (w : List ℕ). (b ∷ w) ∷ words_from true (word ++ 32 ∷ rest)) more.first ∙ ap (λ (ws : List (List ℕ)). (b ∷ word) ∷ ws) more.words)

pub two_words : (a b : List ℕ) → IsWord a → IsWord b → words_of ((a ++ 32 ∷ []) ++ b) ≡ a ∷ b ∷ []
two_words a b wa wb = ap words_of (append_assoc a (32 ∷ []) b) ∙ word_more a b wa ∙ ap (λ (ws : List (List ℕ)). a ∷ ws) (one_word b wb)

pub three_words : (a b c : List ℕ) → IsWord a → IsWord b → IsWord c → words_of ((((a ++ 32 ∷ []) ++ b) ++ 32 ∷ []) ++ c) ≡ a ∷ b ∷ c ∷ []
three_words a b c wa wb wc =
    ap words_of (append_assoc ((a ++ 32 ∷ []) ++ b) (32 ∷ []) c ∙ append_assoc (a ++ 32 ∷ []) b (32 ∷ c) ∙ append_assoc a (32 ∷ []) (b ++ 32 ∷ c))
    ∙ word_more a (b ++ 32 ∷ c) wa ∙ ap (λ (ws : List (List ℕ)). a ∷ ws) (word_more b c wb ∙ ap (λ (ws : List (List ℕ)). b ∷ ws) (one_word c wc))
