-- The spelling of flags behind each letter.
use Rattle.std.proofs.Common.{append_assoc, refl, ap, sym, arith}
use Rattle.std.proofs.lemmas.Bool.{ne_eqb}
use Rattle.std.proofs.lemmas.List.{append-nil}
use Rattle.layout_model.specs.Fields.{is_same}
use Rattle.std.specs.Prelude.{◌≡◌, ◌==◌, length, List, [], ◌∷◌, ◌++◌, ℕ}
use Rattle.posix_types.specs.declared.handle.Flags.{Flags}
use Rattle.report_text.specs.Texts.{flags_text, letter_if}

abbrev pub behind_x : Flags → List ℕ
behind_x f = letter_if f.truncate (116 ∷ [])

abbrev pub behind_c : Flags → List ℕ
behind_c f = letter_if f.exclusive (120 ∷ []) ++ behind_x f

abbrev pub behind_a : Flags → List ℕ
behind_a f = letter_if f.create (99 ∷ []) ++ behind_c f

abbrev pub behind_w : Flags → List ℕ
behind_w f = letter_if f.append (97 ∷ []) ++ behind_a f

abbrev pub behind_r : Flags → List ℕ
behind_r f = letter_if f.write (119 ∷ []) ++ behind_w f

pub flags_text-is : (f : Flags) → flags_text f ≡ letter_if f.read (114 ∷ []) ++ behind_r f
unfolding flags_text
flags_text-is f = simp append_assoc

pub last_letter : (f : Flags) (word : List ℕ) → is_same word (behind_x f) ≡ is_same word (letter_if f.truncate (116 ∷ []) ++ [])
last_letter f word = ap (is_same word) (sym (append-nil (letter_if f.truncate (116 ∷ []))))

pub is_same-nil : (word : List ℕ) → is_same word [] ≡ (length word == 0)
is_same-nil [] = refl
is_same-nil (b ∷ word) = sym (ne_eqb (length (b ∷ word)) 0 (λ e. omega arith))
