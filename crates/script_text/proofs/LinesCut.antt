-- The lines of a script, joined, are its bytes.
use Rattle.std.proofs.Common.{◌≡◌, ◌≢◌, ℕ, List, [], ◌∷◌, ◌++◌, length, refl, sym, ◌∙◌, ap, arith, Bool, true, false, not, inl, inr, subst}
use Rattle.std.specs.Prelude.{◌==◌, flat_map}
use Rattle.std.specs.List.{list_all}
use Rattle.std.proofs.lemmas.Bool.{and_from, and_parts, cases_eq, eq-eqb, ne_eqb, not_from_false, or_right}
use Rattle.script_text.specs.Laws.{are_ended, AreLinesOf, has_no_end_inside, whole_line}
use Rattle.script_text.specs.Lines.{Line, lines_of, with_front}

-- a byte more in front
whole_line-front : (b : ℕ) (bytes : List ℕ) (is_ended : Bool) → whole_line (record { bytes = b ∷ bytes; is_ended = is_ended }) ≡ b ∷ whole_line (record { bytes = bytes; is_ended = is_ended })
whole_line-front b bytes true = refl
whole_line-front b bytes false = refl

ended-front : (b : ℕ) (line : Line) (lines : List Line) → are_ended (line ∷ lines) ≡ true → are_ended (record line { bytes = b ∷ line.bytes } ∷ lines) ≡ true
ended-front b line [] h = or_right line.is_ended _ (not_from_false (length (b ∷ line.bytes) == 0) (ne_eqb (length (b ∷ line.bytes)) 0 (λ e. omega arith)))
ended-front b line (next ∷ lines) h = h

front : (b : ℕ) (bytes : List ℕ) (lines : List Line) → b ≢ 10 → AreLinesOf bytes lines → AreLinesOf (b ∷ bytes) (with_front b lines)
front b bytes [] other h =
    let no_end : not (b == 10) ≡ true = not_from_false (b == 10) (ne_eqb b 10 other) in
    record {
      joined = ap (λ (l : List ℕ). b ∷ l) h.joined;
      inside = and_from _ true (and_from _ true no_end refl) refl;
      ended = refl;
    }
front b bytes (line ∷ lines) other h =
    let no_end : not (b == 10) ≡ true = not_from_false (b == 10) (ne_eqb b 10 other) in
    let parts = and_parts (has_no_end_inside line) (list_all has_no_end_inside lines) h.inside in
    record {
      joined =
          ap (λ (l : List ℕ). l ++ flat_map whole_line lines) (whole_line-front b line.bytes line.is_ended) ∙ ap (λ (l : List ℕ). b ∷ l) h.joined;
      inside = and_from _ _ (and_from _ _ no_end parts.0) parts.1;
      ended = ended-front b line lines h.ended;
    }

-- a line of no bytes, and its end
ended-more : (lines : List Line) → are_ended lines ≡ true → are_ended (record { bytes = []; is_ended = true } ∷ lines) ≡ true
ended-more [] h = refl
ended-more (next ∷ lines) h = h

end_more : (bytes : List ℕ) (lines : List Line) → AreLinesOf bytes lines → AreLinesOf (10 ∷ bytes) (record { bytes = []; is_ended = true } ∷ lines)
end_more bytes lines h = record {
  joined = ap (λ (l : List ℕ). 10 ∷ l) h.joined;
  inside = h.inside;
  ended = ended-more lines h.ended;
}

pub lines-cut : (bytes : List ℕ) → AreLinesOf bytes (lines_of bytes)
unfolding lines_of
lines-cut [] = record { joined = refl; inside = refl; ended = refl }
lines-cut (b ∷ bytes) =
    elim (cases_eq b 10) [
      | inl end ↦ rw (eq-eqb b 10 end) (subst (λ (c : ℕ). AreLinesOf (c ∷ bytes) (record { bytes = []; is_ended = true } ∷ lines_of bytes)) (sym end) (end_more bytes (lines_of bytes) (lines-cut bytes)))
      | inr other ↦ rw (ne_eqb b 10 other) (front b bytes (lines_of bytes) other (lines-cut bytes))
    ]
