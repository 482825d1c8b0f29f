-- What a search among the extents of a map finds.
use Rattle.std.proofs.Common.{◌≡◌, ℕ, ◌+◌, ◌-◌, ◌<◌, ◌≤◌, false, List, length, get_or, Some, None, IsSome, sym, ◌∙◌, ap, subst, inl, inr, arith}
use Rattle.std.proofs.lemmas.Bool.{cases_lt, cases_eq}
use Rattle.std.proofs.lemmas.Bool.Decides.{nat_tests}
use Rattle.std.proofs.lemmas.List.{get_or_default}
use Rattle.extent_model.specs.declared.extent_words.Extent.{Extent}
use Rattle.extent_model.specs.Extents.{holds, disk_in, disk_at, IsExtent, ComesAfter, IsCanonical}
use Rattle.extent_map.specs.Pieces.{IsBegun}
use Rattle.extent_model.specs.Facts.{disk_at-None, disk_at-IsSome, disk_at_is}

module _ (es : List Extent) (b n : ℕ) (c : IsCanonical es) (h : IsBegun es b n) where
  -- where none has begun, none has the block
  pub none_begun : n ≡ 0 → disk_at es b ≡ None
  none_begun zero = disk_at-None es b (λ k d lt. let later = h.later k d (omega arith) lt in grind (arith, nat_tests))

  module _ (d : Extent) (some : 0 < n) where
    -- the last that has begun may have it, where it is long enough
    pub last_begun : b - (get_or es (n - 1) d).file < (get_or es (n - 1) d).count → disk_at es b ≡ Some (disk_in (get_or es (n - 1) d) b)
    last_begun long =
        let begun = h.begun (n - 1) d (omega arith) in
        disk_at_is es (n - 1) b d c (omega (arith, h.bound)) (grind (arith, nat_tests))

    -- and else none has it
    pub last_ended : (get_or es (n - 1) d).count ≤ b - (get_or es (n - 1) d).file → disk_at es b ≡ None
    last_ended short = disk_at-None es b (λ k e lt. elim (cases_lt k n) [
      | inl before ↦ elim (cases_eq k (n - 1)) [
        | inl same ↦
            let begun = h.begun (n - 1) d (omega arith) in
            let read : get_or es k e ≡ get_or es (n - 1) d = ap (λ i. get_or es i e) same ∙ get_or_default es (n - 1) e d (omega (arith, h.bound)) in
            subst (λ (x : Extent). holds x b ≡ false) (sym read) (grind (arith, nat_tests))
        | inr apart ↦
            let begun = h.begun (n - 1) e (omega arith) in
            let after = c.rising k (n - 1) e (omega arith) (omega (arith, h.bound)) in
            grind (arith, nat_tests, after.after)
      ]
      | inr behind ↦ let later = h.later k e behind lt in grind (arith, nat_tests)
    ])

-- a map ends where its last extent ends
pub past_last : (es : List Extent) (n : ℕ) (d : Extent) → IsCanonical es → length es ≡ n + 1 → (b : ℕ) → (get_or es n d).file + (get_or es n d).count ≤ b → disk_at es b ≡ None
past_last es n d c size b past = disk_at-None es b (λ k e lt. elim (cases_eq k n) [
  | inl same ↦
      let read : get_or es k e ≡ get_or es n d = ap (λ i. get_or es i e) same ∙ get_or_default es n e d (omega arith) in
      subst (λ (x : Extent). holds x b ≡ false) (sym read) (grind (arith, nat_tests))
  | inr apart ↦
      let after : ComesAfter (get_or es k e) (get_or es n e) = c.rising k n e (omega arith) (omega arith) in
      let read : get_or es n e ≡ get_or es n d = get_or_default es n e d (omega arith) in
      let filled : IsExtent (get_or es n d) = c.each n d (omega arith) in
      grind (arith, nat_tests, after.after, ap (λ (x : Extent). x.file) read)
])

pub last_mapped : (es : List Extent) (n : ℕ) (d : Extent) → IsCanonical es → length es ≡ n + 1 → IsSome (disk_at es ((get_or es n d).file + (get_or es n d).count - 1))
last_mapped es n d c size =
    let filled : IsExtent (get_or es n d) = c.each n d (omega arith) in
    disk_at-IsSome es n _ d (omega arith) (grind (arith, nat_tests, filled.filled))
