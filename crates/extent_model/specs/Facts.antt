-- Laws of these words, for the layers above.
use Rattle.std.proofs.Common.{◌≡◌, ℕ, zero, suc, ◌+◌, ◌-◌, ◌<◌, ◌≤◌, true, false, List, [], ◌∷◌, ◌++◌, length, get_or, take, Some, None, Option, IsSome, refl, sym, ◌∙◌, subst, inl, inr, arith, length-append}
use Rattle.std.specs.Prelude.{All}
use Rattle.std.specs.Option.{option_or}
use Rattle.std.proofs.lemmas.Bool.{cases_Bool, cases_eq}
use Rattle.std.proofs.lemmas.Bool.Decides.{nat_tests}
use Rattle.std.proofs.lemmas.List.{get_or_append_left, get_or_at, get_or-take, get_or_default, length_push, length-take-le, take_more}
use Rattle.std.proofs.lemmas.List.Elements.{All-push}
use Rattle.std.proofs.lemmas.List.Quantifiers.{all_pairs_push}
use Rattle.extent_model.specs.declared.extent_words.Extent.{Extent}
use Rattle.extent_model.specs.Extents.{holds, disk_in, disk_at, IsExtent, ComesAfter, IsCanonical}

-- what two lists one behind the other give a block
pub disk_at-append : (xs ys : List Extent) (b : ℕ) → disk_at (xs ++ ys) b ≡ option_or (disk_at xs b) (disk_at ys b)
disk_at-append [] ys b = refl
disk_at-append (x ∷ xs) ys b = elim (cases_Bool (holds x b)) [
  | inl h ↦ rw h refl
  | inr h ↦ rw h (disk_at-append xs ys b)
]

-- a block that one of the extents has is mapped
pub disk_at-IsSome : (es : List Extent) (i b : ℕ) (d : Extent) → i < length es → holds (get_or es i d) b ≡ true → IsSome (disk_at es b)
disk_at-IsSome [] i b d lt h = absurd (omega arith)
disk_at-IsSome (x ∷ xs) zero b d lt h = rw h refl
disk_at-IsSome (x ∷ xs) (suc i) b d lt h = elim (cases_Bool (holds x b)) [
  | inl here ↦ rw here refl
  | inr away ↦ rw away (disk_at-IsSome xs i b d (omega arith) h)
]

-- a block that none of them has is not
pub disk_at-None : (es : List Extent) (b : ℕ) → All (λ e. holds e b ≡ false) es → disk_at es b ≡ None
disk_at-None [] b h = refl
disk_at-None (x ∷ xs) b h = rw (h 0 x (omega arith)) (disk_at-None xs b (λ k d lt. h (suc k) d (omega arith)))

-- the rest of the one spelling of a map is the one spelling of a map
pub IsCanonical-tail : (e : Extent) (es : List Extent) → IsCanonical (e ∷ es) → IsCanonical es
IsCanonical-tail e es c = record {
  each = λ k d lt. c.each (suc k) d (omega arith);
  rising = λ i j d lt in_range. c.rising (suc i) (suc j) d (omega arith) (omega arith);
}

-- in the one spelling, the extent that has a block gives it its disk block
pub disk_at_is : (es : List Extent) (i b : ℕ) (d : Extent) → IsCanonical es → i < length es → holds (get_or es i d) b ≡ true → disk_at es b ≡ Some (disk_in (get_or es i d) b)
disk_at_is [] i b d c lt h = absurd (omega arith)
disk_at_is (x ∷ xs) zero b d c lt h = rw h refl
disk_at_is (x ∷ xs) (suc i) b d c lt h =
    let after = c.rising 0 (suc i) d (omega arith) lt in
    let away : holds x b ≡ false = grind (arith, nat_tests, after.after) in
    rw away (disk_at_is xs i b d (IsCanonical-tail x xs c) (omega arith) h)

option_or-None : (o : Option ℕ) → option_or o None ≡ o
option_or-None None = refl
option_or-None (Some d) = refl

-- what one more extent at the end gives a block that no extent before it has, and a block that it does not have
pub disk_at-push_here : (es : List Extent) (x : Extent) (b : ℕ) → disk_at es b ≡ None → holds x b ≡ true → disk_at (es ++ x ∷ []) b ≡ Some (disk_in x b)
disk_at-push_here es x b none here = rw (disk_at-append, none, here) refl

pub disk_at-push_away : (es : List Extent) (x : Extent) (b : ℕ) → holds x b ≡ false → disk_at (es ++ x ∷ []) b ≡ disk_at es b
disk_at-push_away es x b away = rw (disk_at-append, away) (option_or-None (disk_at es b))

-- a front of the one spelling of a map is the one spelling of a map
pub IsCanonical-front : (xs ys : List Extent) → IsCanonical (xs ++ ys) → IsCanonical xs
IsCanonical-front xs ys c = record {
  each = λ k d lt. subst IsExtent (get_or_append_left xs ys d k lt) (c.each k d (omega (arith, length-append xs ys)));
  rising = λ i j d lt in_range.
      subst (λ e. ComesAfter e (get_or xs j d)) (get_or_append_left xs ys d i (omega arith))
      (subst (λ e. ComesAfter (get_or (xs ++ ys) i d) e) (get_or_append_left xs ys d j in_range) (c.rising i j d lt (omega (arith, length-append xs ys))));
}

-- each extent of a front lies before each that comes behind it
pub IsCanonical-last : (xs : List Extent) (x : Extent) → IsCanonical (xs ++ x ∷ []) → IsExtent x × ((k : ℕ) (d : Extent) → k < length xs → ComesAfter (get_or xs k d) x)
IsCanonical-last xs x c =
    let here : (d : Extent) → get_or (xs ++ x ∷ []) (length xs) d ≡ x = λ d. get_or_at xs x [] d (length xs) refl in
    let long = length_push xs x in (
      subst IsExtent (here x) (c.each (length xs) x (omega arith)),
      λ k d lt. subst (λ e. ComesAfter e x) (get_or_append_left xs (x ∷ []) d k lt)
          (subst (λ e. ComesAfter (get_or (xs ++ x ∷ []) k d) e) (here d) (c.rising k (length xs) d lt (omega arith))),
    )

-- what comes after the last extent comes after each
ComesAfter-each : (es : List Extent) (x : Extent) → IsCanonical es → ((k : ℕ) (d : Extent) → k + 1 ≡ length es → ComesAfter (get_or es k d) x) → (k : ℕ) (d : Extent) → k < length es → ComesAfter (get_or es k d) x
ComesAfter-each es x c after_last k d lt = elim (cases_eq (k + 1) (length es)) [
  | inl last ↦ after_last k d last
  | inr inner ↦
      let l = length es - 1 in
      let next : ComesAfter (get_or es k d) (get_or es l d) = c.rising k l d (omega arith) (omega arith) in
      let filled : IsExtent (get_or es l d) = c.each l d (omega arith) in
      let last : ComesAfter (get_or es l d) x = after_last l d (omega arith) in
      record {
        after = omega (arith, next.after, last.after);
        apart = λ joined. omega (arith, next.after, last.after, filled.filled, joined.file);
      }
]

-- the one spelling of a map with one extent more, which comes after the last
pub IsCanonical-push : (es : List Extent) (x : Extent) → IsCanonical es → IsExtent x → ((k : ℕ) (d : Extent) → k + 1 ≡ length es → ComesAfter (get_or es k d) x) → IsCanonical (es ++ x ∷ [])
IsCanonical-push es x c ok after_last = record {
  each = All-push IsExtent es x c.each ok;
  rising = all_pairs_push ComesAfter es x c.rising (ComesAfter-each es x c after_last);
}

-- a block that is mapped is one of an extent, which gives it its disk block
pub disk_at_found : (es : List Extent) (b n : ℕ) (d : Extent) → disk_at es b ≡ Some n → (k : ℕ) × (k < length es) × (holds (get_or es k d) b ≡ true) × (disk_in (get_or es k d) b ≡ n)
disk_at_found [] b n d h = absurd (cc)
disk_at_found (x ∷ xs) b n d h = elim (cases_Bool (holds x b)) [
  | inl here ↦ let is : Some (disk_in x b) ≡ Some n = rw here at h in (0, omega arith, here, cc)
  | inr away ↦
      let rest = disk_at_found xs b n d (rw away at h) in
      (suc rest.0, omega (arith, rest.1), rest.2, rest.3)
]

-- the extents before one in the list lie before it in the file
pub disk_at-take_None : (es : List Extent) (i b : ℕ) (d : Extent) → IsCanonical es → i < length es → (get_or es i d).file ≤ b → disk_at (take i es) b ≡ None
disk_at-take_None es i b d c lt le = disk_at-None (take i es) b (λ k e in_front.
    let size = length-take-le i es (omega arith) in
    let before = c.rising k i d (omega arith) lt in
    let read : get_or (take i es) k e ≡ get_or es k d = get_or-take i es k e (omega arith) ∙ get_or_default es k e d (omega arith) in
    subst (λ (x : Extent). holds x b ≡ false) (sym read) (grind (arith, nat_tests, before.after)))

-- one more extent of the list gives its blocks their disk blocks, and changes no other
pub disk_at-more_here : (es : List Extent) (i b : ℕ) (d : Extent) → IsCanonical es → i < length es → holds (get_or es i d) b ≡ true → disk_at (take (i + 1) es) b ≡ Some (disk_in (get_or es i d) b)
disk_at-more_here es i b d c lt here =
    rw (take_more es i d lt) (disk_at-push_here (take i es) (get_or es i d) b (disk_at-take_None es i b d c lt (grind (arith, nat_tests))) here)

pub disk_at-more_away : (es : List Extent) (i b : ℕ) (d : Extent) → i < length es → holds (get_or es i d) b ≡ false → disk_at (take (i + 1) es) b ≡ disk_at (take i es) b
disk_at-more_away es i b d lt away = rw (take_more es i d lt) (disk_at-push_away (take i es) (get_or es i d) b away)

-- no block from 4,096 on is mapped
pub disk_at-past : (es : List Extent) (b : ℕ) → IsCanonical es → 4096 ≤ b → disk_at es b ≡ None
disk_at-past es b c le = disk_at-None es b (λ k d lt. let ok = c.each k d lt in grind (arith, nat_tests, ok.in_file))
