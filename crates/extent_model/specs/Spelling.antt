-- Two lists of extents in the one spelling that give every block the same disk block are one list.
use Rattle.std.proofs.Common.{◌≡◌, ℕ, zero, suc, ◌+◌, ◌<◌, ◌≤◌, true, false, List, [], ◌∷◌, length, get_or, Some, None, refl, sym, ◌∙◌, ap, subst, inl, inr, arith}
use Rattle.std.proofs.lemmas.Bool.{cases_lt, cases_Bool}
use Rattle.std.proofs.lemmas.Bool.Decides.{nat_tests}
use Rattle.extent_model.specs.declared.extent_words.Extent.{Extent}
use Rattle.extent_model.specs.Extents.{holds, disk_in, disk_at, ComesAfter, IsCanonical}
use Rattle.extent_model.specs.Facts.{disk_at-None, disk_at_found, IsCanonical-tail}

none≢some : {n : ℕ} → None ≡ Some n → ⊥
none≢some h = cc

some_same : {m n : ℕ} → Some m ≡ Some n → m ≡ n
some_same h = cc

-- two lists give every block the same disk block
abbrev pub AgreeEverywhere : List Extent → List Extent → Type 0
AgreeEverywhere es fs = (b : ℕ) → disk_at es b ≡ disk_at fs b

-- a map has one spelling
abbrev pub HasOneSpelling : Type 0
HasOneSpelling = (es fs : List Extent) → IsCanonical es → IsCanonical fs → AgreeEverywhere es fs → es ≡ fs

-- no block before the first extent is mapped
pub none_before : (f : Extent) (fs : List Extent) → IsCanonical (f ∷ fs) → (b : ℕ) → b < f.file → disk_at (f ∷ fs) b ≡ None
none_before f fs c b lt = disk_at-None (f ∷ fs) b each
  where
    each : (k : ℕ) (d : Extent) → k < length (f ∷ fs) → holds (get_or (f ∷ fs) k d) b ≡ false
    each zero d in_range = grind (arith, nat_tests)
    each (suc k) d in_range = let after = (c.rising 0 (suc k) d (omega arith) in_range).after in grind (arith, nat_tests)

-- no block of an extent is mapped by those behind it
pub none_behind : (e : Extent) (es : List Extent) → IsCanonical (e ∷ es) → (b : ℕ) → holds e b ≡ true → disk_at es b ≡ None
none_behind e es c b here = disk_at-None es b (λ k d lt.
    let after = (c.rising 0 (suc k) d (omega arith) (omega arith)).after in
    grind (arith, nat_tests))

-- the first block of an extent is mapped, to its first disk block
pub first_here : (e : Extent) (es : List Extent) → IsCanonical (e ∷ es) → disk_at (e ∷ es) e.file ≡ Some e.disk
first_here e es c =
    let filled = (c.each 0 e (omega arith)).filled in
    let here : holds e e.file ≡ true = grind (arith, nat_tests) in
    rw here (ap Some (omega arith))

module _ (e f : Extent) (es fs : List Extent) (c : IsCanonical (e ∷ es)) (d : IsCanonical (f ∷ fs)) (agree : AgreeEverywhere (e ∷ es) (f ∷ fs)) where
  -- one map does not begin before the other
  begins_le : f.file ≤ e.file
  begins_le = elim (cases_lt e.file f.file) [
    | inl before ↦ absurd (none≢some (sym (none_before f fs d e.file before) ∙ sym (agree e.file) ∙ first_here e es c))
    | inr at_least ↦ at_least
  ]

  -- the first extent of one is not longer than that of the other
  long_le : e.file ≡ f.file → e.disk ≡ f.disk → f.count ≤ e.count
  long_le same_file same_disk = elim (cases_lt e.count f.count) [
    | inl short ↦
        let b : ℕ = e.file + e.count in
        let in_f : holds f b ≡ true = grind (arith, nat_tests) in
        let not_in_e : holds e b ≡ false = grind (arith, nat_tests) in
        let at_f : disk_at (f ∷ fs) b ≡ Some (disk_in f b) = rw in_f refl in
        let found = disk_at_found es b (disk_in f b) e (rw not_in_e at (agree b ∙ at_f)) in
        let g : Extent = get_or es found.0 e in
        let after : ComesAfter e g = c.rising 0 (suc found.0) e (omega arith) (omega (arith, found.1)) in
        let begun : g.file ≤ b = grind (arith, nat_tests, found.2) in
        absurd (after.apart (record { file = omega (arith, after.after); disk = omega (arith, after.after, found.3) }))
    | inr long ↦ long
  ]

-- two extents with the same numbers are one
same_extent : (e f : Extent) → e.file ≡ f.file → e.disk ≡ f.disk → e.count ≡ f.count → e ≡ f
same_extent e f file disk count =
    let make = λ (a b n : ℕ). (let x : Extent = record { file = a; disk = b; count = n } in x) in
    ap (λ a. make a e.disk e.count) file ∙ (ap (λ b. make f.file b e.count) disk ∙ ap (make f.file f.disk) count)

-- what stands behind equal first extents agrees too
rests_agree : (e f : Extent) (es fs : List Extent) → IsCanonical (e ∷ es) → IsCanonical (f ∷ fs) → AgreeEverywhere (e ∷ es) (f ∷ fs) → e ≡ f → AgreeEverywhere es fs
rests_agree e f es fs c d agree same b = elim (cases_Bool (holds e b)) [
  | inl here ↦ none_behind e es c b here ∙ sym (none_behind f fs d b (subst (λ x. holds x b ≡ true) same here))
  | inr away ↦ rw (away, subst (λ x. holds x b ≡ false) same away) at (agree b)
]

pub has_one_spelling : HasOneSpelling
has_one_spelling [] [] c d agree = refl
has_one_spelling [] (f ∷ fs) c d agree = absurd (none≢some (agree f.file ∙ first_here f fs d))
has_one_spelling (e ∷ es) [] c d agree = absurd (none≢some (sym (agree e.file) ∙ first_here e es c))
has_one_spelling (e ∷ es) (f ∷ fs) c d agree =
    let back : AgreeEverywhere (f ∷ fs) (e ∷ es) = λ b. sym (agree b) in
    let file : e.file ≡ f.file = omega (arith, begins_le e f es fs c d agree, begins_le f e fs es d c back) in
    let disk : e.disk ≡ f.disk = some_same (sym (first_here e es c) ∙ agree e.file ∙ ap (disk_at (f ∷ fs)) file ∙ first_here f fs d) in
    let count : e.count ≡ f.count = omega (arith, long_le e f es fs c d agree file disk, long_le f e fs es d c back (sym file) (sym disk)) in
    let same : e ≡ f = same_extent e f file disk count in
    let rest : es ≡ fs = has_one_spelling es fs (IsCanonical-tail e es c) (IsCanonical-tail f fs d) (rests_agree e f es fs c d agree same) in
    ap (λ x. x ∷ es) same ∙ ap (λ xs. f ∷ xs) rest
