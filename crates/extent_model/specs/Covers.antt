-- Which disk blocks the extents of a map have, and what a change of the map makes of them.
use Rattle.std.proofs.Common.{◌≡◌, ℕ, ◌+◌, ◌-◌, ◌<◌, ◌≤◌, ◌⊎◌, Bool, true, List, length, get_or, Some, None, sym, ◌∙◌, ap, subst, inl, inr, arith}
use Rattle.std.proofs.lemmas.Bool.{cases_Bool}
use Rattle.std.proofs.lemmas.Bool.Decides.{nat_tests}
use Rattle.std.proofs.lemmas.List.Folds.{list_any_at, Any-from_list_any}
use Rattle.extent_model.specs.declared.extent_words.Extent.{Extent}
use Rattle.extent_model.specs.Extents.{is_within, holds, holds_disk, disk_in, disk_at, covers, IsExtent, IsCanonical}
use Rattle.extent_model.specs.Maps.{IsPart, Replaces}
use Rattle.extent_model.specs.Facts.{disk_at_found, disk_at_is}

none≢some : {n : ℕ} → None ≡ Some n → ⊥
none≢some h = cc

-- a disk block that a file block has is one of the extents'
pub covers-disk_at : (es : List Extent) (b n : ℕ) → disk_at es b ≡ Some n → covers es n ≡ true
covers-disk_at es b n h =
    let empty : Extent = record { file = 0; disk = 0; count = 0 } in
    let found = disk_at_found es b n empty h in
    list_any_at (λ e. holds_disk e n) es found.0 empty found.1 (grind (arith, nat_tests, found.2, found.3))

-- a disk block of one of the extents is that of a file block
pub disk_at-covers : (es : List Extent) (n : ℕ) → IsCanonical es → covers es n ≡ true → (b : ℕ) × (disk_at es b ≡ Some n)
disk_at-covers es n c h =
    let any = Any-from_list_any (λ e. holds_disk e n) es h in
    let e : Extent = any.1 in
    let b : ℕ = e.file + (n - e.disk) in
    let here : holds e b ≡ true = grind (arith, nat_tests, any.4) in
    let same : disk_in e b ≡ n = grind (arith, nat_tests, any.4) in
    (b, disk_at_is es any.0 b e c any.2 (subst (λ x. holds x b ≡ true) (sym any.3) here) ∙ ap Some (ap (λ x. disk_in x b) any.3 ∙ same))

-- a part of a map has no disk block that the map does not have
pub covers-IsPart : (chosen : ℕ → Bool) (whole part : List Extent) → IsPart chosen whole part → (n : ℕ) → covers part n ≡ true → covers whole n ≡ true
covers-IsPart chosen whole part h n has =
    let at = disk_at-covers part n h.canonical has in
    elim (cases_Bool (chosen at.0)) [
      | inl inside ↦ covers-disk_at whole at.0 n (rw inside at (sym (h.blocks at.0) ∙ at.1))
      | inr outside ↦ absurd (none≢some (rw outside at (sym (h.blocks at.0) ∙ at.1)))
    ]

-- a map with a run in the place of a range has no disk block but those of the map before and of the run
pub covers-Replaces : (run : Extent) (old new : List Extent) → Replaces run old new → (n : ℕ) → covers new n ≡ true → (covers old n ≡ true) ⊎ (holds_disk run n ≡ true)
covers-Replaces run old new h n has =
    let at = disk_at-covers new n h.canonical has in
    elim (cases_Bool (holds run at.0)) [
      | inl inside ↦
          let is : Some (disk_in run at.0) ≡ Some n = rw inside at (sym (h.blocks at.0) ∙ at.1) in
          let same : disk_in run at.0 ≡ n = cc in
          inr (grind (arith, nat_tests))
      | inr outside ↦ inl (covers-disk_at old at.0 n (rw outside at (sym (h.blocks at.0) ∙ at.1)))
    ]

-- an extent of what a map has in a range lies in the range
pub IsPart-range : (first count : ℕ) (whole part : List Extent) → IsPart (is_within first count) whole part → (k : ℕ) (d : Extent) → k < length part → (first ≤ (get_or part k d).file) × ((get_or part k d).file + (get_or part k d).count ≤ first + count)
IsPart-range first count whole part h k d lt =
    let e : Extent = get_or part k d in
    let ok : IsExtent e = h.canonical.each k d lt in
    let inside : (b : ℕ) → holds e b ≡ true → is_within first count b ≡ true = λ b here. elim (cases_Bool (is_within first count b)) [
      | inl within ↦ within
      | inr without ↦
          let at : disk_at part b ≡ Some (disk_in e b) = disk_at_is part k b d h.canonical lt here in
          absurd (none≢some (rw without at (sym (h.blocks b) ∙ at)))
    ] in
    let begins : is_within first count e.file ≡ true = inside e.file (grind (arith, nat_tests, ok.filled)) in
    let ends : is_within first count (e.file + e.count - 1) ≡ true = inside (e.file + e.count - 1) (grind (arith, nat_tests, ok.filled)) in
    (grind (arith, nat_tests, begins), grind (arith, nat_tests, ends, ok.filled))
