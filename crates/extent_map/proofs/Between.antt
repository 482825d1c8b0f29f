-- A list that takes the parts of extents between two file blocks, one extent after the other.
use Rattle.std.proofs.Common.{◌≡◌, ℕ, ◌+◌, ◌<◌, ◌≤◌, true, false, List, [], length, get_or, take, Some, None, min, max, refl, ◌∙◌, inl, inr, arith}
use Rattle.std.proofs.lemmas.Bool.{cases_Bool, lt-ltb, le-ltb}
use Rattle.std.proofs.lemmas.Bool.Decides.{nat_tests}
use Rattle.std.proofs.lemmas.List.Sums.{sum_by_more, count_by_more_yes, count_by_more_no}
use Rattle.extent_model.specs.declared.extent_words.Extent.{Extent}
use Rattle.extent_model.specs.Extents.{is_between, holds, disk_in, disk_at, IsCanonical}
use Rattle.extent_map.specs.Pieces.{shared, overlaps, IsPiece, Appends, AppendsBetween}
use Rattle.extent_model.specs.Facts.{disk_at-take_None, disk_at-more_here, disk_at-more_away}

-- nothing is taken yet
pub between_none : (from to : ℕ) (old : List Extent) → IsCanonical old → ((b : ℕ) → from ≤ b → disk_at old b ≡ None) → AppendsBetween from to [] old old
between_none from to old c behind = record {
  canonical = c;
  blocks = λ b. elim (cases_Bool (is_between from to b)) [
    | inl in_range ↦ rw in_range (behind b (grind (arith, nat_tests)))
    | inr out ↦ rw out refl
  ];
  few = omega arith;
  count = omega arith;
}

-- the list so far, which has the parts of the first i extents, and the part of the next
module _ (from to : ℕ) (es old out : List Extent) (i : ℕ) (d : Extent) (c : IsCanonical es) (lt : i < length es) (behind : (b : ℕ) → from ≤ b → disk_at old b ≡ None) (so_far : AppendsBetween from to (take i es) old out) where
  -- the next part lies behind the list
  pub piece_behind : (p : Extent) → IsPiece from to (get_or es i d) p → (b : ℕ) → p.file ≤ b → disk_at out b ≡ None
  piece_behind p piece b le = so_far.blocks b ∙ elim (cases_Bool (is_between from to b)) [
    | inl in_range ↦ rw in_range (disk_at-take_None es i b d c lt (omega (arith, piece.start)))
    | inr outside ↦ rw outside (behind b (omega (arith, piece.start)))
  ]

  -- the next part is added
  pub between_piece : (p : Extent) (new : List Extent) → IsPiece from to (get_or es i d) p → Appends p out new → AppendsBetween from to (take (i + 1) es) old new
  between_piece p new piece appends = record {
    canonical = appends.map.canonical;
    blocks = λ b. appends.map.blocks b ∙ elim (cases_Bool (holds p b)) [
      | inl held ↦
          let inside : is_between from to b ≡ true = grind (arith, nat_tests, piece.start, piece.end) in
          let same : disk_in p b ≡ disk_in (get_or es i d) b = grind (arith, nat_tests, piece.start, piece.disk) in
          let there : disk_at (take (i + 1) es) b ≡ Some (disk_in (get_or es i d) b) = disk_at-more_here es i b d c lt (grind (arith, nat_tests, piece.start, piece.end)) in
          rw (held, inside, there, same) refl
      | inr not_held ↦ rw not_held (so_far.blocks b ∙ elim (cases_Bool (is_between from to b)) [
        | inl inside ↦ rw (inside, disk_at-more_away es i b d lt (grind (arith, nat_tests, piece.start, piece.end))) refl
        | inr outside ↦ rw outside refl
      ])
    ];
    few =
        let some : overlaps from to (get_or es i d) ≡ true = lt-ltb _ _ (omega (arith, piece.start, piece.end, piece.extent.filled)) in
        omega (arith, so_far.few, appends.few, count_by_more_yes (overlaps from to) es i d lt some);
    count = omega (arith, so_far.count, appends.count, piece.start, piece.end, sum_by_more (shared from to) es i d lt);
  }

  -- the next extent has no part between the two blocks
  pub between_skip : min ((get_or es i d).file + (get_or es i d).count) to ≤ max (get_or es i d).file from → AppendsBetween from to (take (i + 1) es) old out
  between_skip none = record {
    canonical = so_far.canonical;
    blocks = λ b. so_far.blocks b ∙ elim (cases_Bool (is_between from to b)) [
      | inl inside ↦ rw (inside, disk_at-more_away es i b d lt (grind (arith, nat_tests))) refl
      | inr outside ↦ rw outside refl
    ];
    few =
        let no_part : overlaps from to (get_or es i d) ≡ false = le-ltb _ _ none in
        omega (arith, so_far.few, count_by_more_no (overlaps from to) es i d lt no_part);
    count = omega (arith, so_far.count, sum_by_more (shared from to) es i d lt);
  }
