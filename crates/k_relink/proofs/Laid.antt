-- Pieces that are laid one after the other, and what that makes of a relink.
use Rattle.std.proofs.Common.{◌≡◌, ℕ, ◌+◌, ◌-◌, ◌<◌, ◌≤◌, true, false, not, List, [], length, get_or, take, Some, None, Option, refl, sym, ◌∙◌, ap, inl, inr, arith}
use Rattle.std.specs.Prelude.{is_some, if◌then◌else◌}
use Rattle.std.specs.Option.{option_or}
use Rattle.std.proofs.lemmas.Bool.{cases_lt, cases_Bool, le-leb, lt-leb}
use Rattle.std.proofs.lemmas.Bool.Decides.{nat_tests}
use Rattle.extent_map.specs.extent_model.declared.extent_words.Extent.{Extent}
use Rattle.extent_map.specs.extent_model.Extents.{is_within, holds, disk_in, disk_at, block_count, IsCanonical}
use Rattle.extent_map.specs.extent_model.Maps.{IsPart, Replaces}
use Rattle.extent_map.specs.extent_model.Facts.{disk_at-more_here, disk_at-more_away}
use Rattle.extent_map.specs.extent_model.Counts.{one_if, is_mapped, block_count-balance}
use Rattle.extent_map.specs.extent_model.Moves.{IsMapped, Moves}
use Rattle.k_relink.specs.Steps.{moved_at}

-- a piece at its new place
abbrev pub laid : ℕ → ℕ → Extent → Extent
laid from to e = record { file = e.file - from + to; disk = e.disk; count = e.count }

-- one more piece
module _ (from to : ℕ) (pieces old mid new : List Extent) (i : ℕ) (d : Extent) (c : IsCanonical pieces) (lt : i < length pieces) (low : from ≤ (get_or pieces i d).file)
    (so_far : (b : ℕ) → disk_at mid b ≡ option_or (moved_at from to (take i pieces) b) (disk_at old b)) (replaces : Replaces (laid from to (get_or pieces i d)) mid new) where
  -- a block that the piece does not get has what the pieces so far give it
  other : (b : ℕ) → holds (laid from to (get_or pieces i d)) b ≡ false → moved_at from to (take i pieces) b ≡ moved_at from to (take (i + 1) pieces) b
  other b away = elim (cases_lt b to) [
    | inl before ↦ rw (lt-leb to b before) refl
    | inr behind ↦ rw (le-leb to b behind) (sym (disk_at-more_away pieces i (from + (b - to)) d lt (grind (arith, nat_tests))))
  ]

  pub one_more : (b : ℕ) → disk_at new b ≡ option_or (moved_at from to (take (i + 1) pieces) b) (disk_at old b)
  one_more b = replaces.blocks b ∙ elim (cases_Bool (holds (laid from to (get_or pieces i d)) b)) [
    | inl here ↦
        let q : ℕ = from + (b - to) in
        let behind : to ≤ b = grind (arith, nat_tests) in
        let there : holds (get_or pieces i d) q ≡ true = grind (arith, nat_tests) in
        let same : disk_in (laid from to (get_or pieces i d)) b ≡ disk_in (get_or pieces i d) q = grind (arith, nat_tests) in
        rw (here, le-leb to b behind, disk_at-more_here pieces i q d c lt there) (ap Some same)
    | inr away ↦ rw away (so_far b ∙ ap (λ o. option_or o (disk_at old b)) (other b away))
  ]

option_or-None : (o : Option ℕ) → option_or o None ≡ o
option_or-None None = refl
option_or-None (Some n) = refl

IsCanonical-nil : IsCanonical []
IsCanonical-nil = record { each = λ k d lt. absurd (omega arith); rising = λ i j d lt in_range. absurd (omega arith) }

-- the two maps without their ranges, the pieces that the source had, and the target with the pieces
module _ (from to count : ℕ) (src dst left moved cleared linked freed : List Extent) (full : IsMapped src from count) (sc : IsCanonical src) (dc : IsCanonical dst)
    (source_room : from + count ≤ 4096) (target_room : to + count ≤ 4096)
    (left_is : IsPart (λ b. not (is_within from count b)) src left) (moved_is : IsPart (is_within from count) src moved)
    (cleared_is : IsPart (λ b. not (is_within to count b)) dst cleared) (freed_is : IsPart (is_within to count) dst freed)
    (lc : IsCanonical linked) (linked_is : (b : ℕ) → disk_at linked b ≡ option_or (moved_at from to moved b) (disk_at cleared b)) where
  target : (b : ℕ) → disk_at linked b ≡ (if is_within to count b then disk_at src (from + (b - to)) else disk_at dst b)
  target b = linked_is b ∙ elim (cases_Bool (is_within to count b)) [
    | inl inside ↦
        let q : ℕ = from + (b - to) in
        let behind : to ≤ b = grind (arith, nat_tests, inside) in
        let there : is_within from count q ≡ true = grind (arith, nat_tests, inside) in
        let moves : disk_at moved q ≡ disk_at src q = moved_is.blocks q ∙ (rw there refl) in
        let free : disk_at cleared b ≡ None = cleared_is.blocks b ∙ (rw inside refl) in
        rw (inside, le-leb to b behind, moves, free) (option_or-None (disk_at src q))
    | inr outside ↦
        let stays : disk_at cleared b ≡ disk_at dst b = cleared_is.blocks b ∙ (rw outside refl) in
        let none : moved_at from to moved b ≡ None = elim (cases_lt b to) [
          | inl before ↦ rw (lt-leb to b before) refl
          | inr behind ↦
              let away : is_within from count (from + (b - to)) ≡ false = grind (arith, nat_tests, outside) in
              rw (le-leb to b behind) (moved_is.blocks (from + (b - to)) ∙ (rw away refl))
        ] in
        rw (outside, none, stays) refl
  ]

  source_count : block_count left + count ≡ block_count src
  source_count =
      let each : (b : ℕ) → one_if (is_mapped src b) + one_if (is_mapped [] b) ≡ one_if (is_mapped left b) + one_if (is_within from count b) = λ b. elim (cases_Bool (is_within from count b)) [
        | inl inside ↦
            let has : is_mapped src b ≡ true = full b (grind (arith, nat_tests, inside)) (grind (arith, nat_tests, inside)) in
            let gone : disk_at left b ≡ None = left_is.blocks b ∙ (rw inside refl) in
            rw (has, gone, inside) refl
        | inr outside ↦
            let stays : disk_at left b ≡ disk_at src b = left_is.blocks b ∙ (rw outside refl) in
            rw (stays, outside) refl
      ] in
      omega (arith, block_count-balance src [] left from count sc IsCanonical-nil left_is.canonical source_room each)

  target_count : block_count linked + block_count freed ≡ block_count dst + count
  target_count =
      let each : (b : ℕ) → one_if (is_mapped linked b) + one_if (is_mapped freed b) ≡ one_if (is_mapped dst b) + one_if (is_within to count b) = λ b. elim (cases_Bool (is_within to count b)) [
        | inl inside ↦
            let q : ℕ = from + (b - to) in
            let has : is_mapped src q ≡ true = full q (omega arith) (grind (arith, nat_tests, inside)) in
            let moves : disk_at linked b ≡ disk_at src q = target b ∙ (rw inside refl) in
            let was : disk_at freed b ≡ disk_at dst b = freed_is.blocks b ∙ (rw inside refl) in
            omega (arith, ap one_if (ap is_some moves ∙ has), ap one_if (ap is_some was), ap one_if inside)
        | inr outside ↦
            let stays : disk_at linked b ≡ disk_at dst b = target b ∙ (rw outside refl) in
            let none : disk_at freed b ≡ None = freed_is.blocks b ∙ (rw outside refl) in
            omega (arith, ap one_if (ap is_some stays), ap one_if (ap is_some none), ap one_if outside)
      ] in
      block_count-balance linked freed dst to count lc freed_is.canonical dc target_room each

  pub moves : Moves from to count src dst left linked freed
  moves = record {
    source = left_is;
    canonical = lc;
    target = target;
    freed = freed_is;
    source_count = source_count;
    target_count = target_count;
  }
