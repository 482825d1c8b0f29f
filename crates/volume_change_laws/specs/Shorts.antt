-- Maps that lie below a file block.
use Rattle.std.specs.Prelude.{◌≡◌, ℕ, suc, ◌+◌, ◌-◌, ◌<◌, ◌≤◌, Bool, true, false, nat_lt, List, [], ◌∷◌, length, All, Some, None}
use Rattle.std.proofs.Common.{arith, sym, ◌∙◌, inl, inr, get_or}
use Rattle.std.proofs.lemmas.Bool.{cases_Bool, cases_lt}
use Rattle.std.proofs.lemmas.Bool.Decides.{nat_tests}
use Rattle.name_laws.specs.k_split_model.image_model.Placed.{no_extent}
use Rattle.name_laws.specs.k_split_model.extent_model.declared.extent_words.Extent.{Extent}
use Rattle.name_laws.specs.k_split_model.extent_model.Extents.{ComesAfter, disk_at, disk_in, holds, IsCanonical, IsExtent}
use Rattle.name_laws.specs.k_split_model.extent_model.Maps.{IsPart}
use Rattle.name_laws.specs.volume_laws.extent_model.Facts.{disk_at_found, disk_at_is, IsCanonical-tail}
use Rattle.name_laws.specs.k_split_model.MapChangesChanges.{HasInOrder}

-- the extents end by the file block
abbrev pub AreBelow : ℕ → List Extent → Type 0
AreBelow limit es = All (λ (e : Extent). e.file + e.count ≤ limit) es

-- a map of which no block from `limit` on is mapped
pub below-mapped : (es : List Extent) (limit : ℕ) → IsCanonical es → ((b n : ℕ) → disk_at es b ≡ Some n → b < limit) → AreBelow limit es
below-mapped es limit c mapped k d within =
    let e : Extent = get_or es k d in
    let is : IsExtent e = c.each k d within in
    let filled = is.filled in
    let last : holds e (e.file + (e.count - 1)) ≡ true = grind (arith, nat_tests, filled) in
    let at = disk_at_is es k (e.file + (e.count - 1)) d c within last in
    omega (arith, mapped (e.file + (e.count - 1)) (disk_in e (e.file + (e.count - 1))) at, filled)

-- and the other way round
pub mapped-below : (es : List Extent) (limit b n : ℕ) → AreBelow limit es → disk_at es b ≡ Some n → b < limit
mapped-below es limit b n below at =
    let found = disk_at_found es b n no_extent at in
    let e : Extent = get_or es found.0 no_extent in
    let inside : b < e.file + e.count = grind (arith, nat_tests, found.2) in
    omega (arith, inside, below found.0 no_extent found.1)

-- blocks in order end by their number
pub in_order-below : (fresh : List ℕ) (es : List Extent) → HasInOrder fresh es → AreBelow (length fresh) es
in_order-below fresh es is = below-mapped es (length fresh) is.canonical (λ b n at. elim (cases_lt b (length fresh)) [
  | inl below ↦ below
  | inr past ↦
      let test : nat_lt b (length fresh) ≡ false = grind (arith, nat_tests, past) in
      let none : disk_at es b ≡ None = rw test at (is.blocks b) in
      let never : None ≡ Some n = sym none ∙ at in
      absurd (cc)
])

-- a part of a map lies where the map does
pub part-below : (chosen : ℕ → Bool) (whole part : List Extent) (limit : ℕ) → IsPart chosen whole part → AreBelow limit whole
    → AreBelow limit part
part-below chosen whole part limit is below = below-mapped part limit is.canonical (λ b n at. elim (cases_Bool (chosen b)) [
  | inl inside ↦
      let same : disk_at part b ≡ disk_at whole b = rw inside at (is.blocks b) in
      mapped-below whole limit b n below (sym same ∙ at)
  | inr outside ↦
      let none : disk_at part b ≡ None = rw outside at (is.blocks b) in
      let never : None ≡ Some n = sym none ∙ at in
      absurd (cc)
])

-- there are no more extents than file blocks
behind : (e : Extent) (es : List Extent) (limit low : ℕ) → IsCanonical (e ∷ es) → AreBelow limit (e ∷ es) → low ≤ e.file
    → length (e ∷ es) + low ≤ limit
behind e [] limit low c below first =
    let is : IsExtent e = c.each 0 e (omega arith) in
    omega (arith, is.filled, below 0 e (omega arith), first)
behind e (x ∷ es) limit low c below first =
    let is : IsExtent e = c.each 0 e (omega arith) in
    let after : ComesAfter e x = c.rising 0 1 e (omega arith) (omega arith) in
    let rest = behind x es limit (e.file + e.count) (IsCanonical-tail e (x ∷ es) c) (λ k d within. below (suc k) d (omega arith)) after.after in
    omega (arith, is.filled, rest, first)

pub length-below : (es : List Extent) (limit : ℕ) → IsCanonical es → AreBelow limit es → length es ≤ limit
length-below [] limit c below = omega arith
length-below (e ∷ es) limit c below = omega (arith, behind e es limit 0 c below (omega arith))
