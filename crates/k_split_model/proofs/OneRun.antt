-- A landing of one run: its staging file is the one that is touched, and it has what the move leaves.
use Rattle.std.proofs.Common.{◌≡◌, ℕ, zero, suc, ◌+◌, ◌≤◌, Bool, true, false, List, [], ◌∷◌, ◌++◌, length, refl, sym, ◌∙◌, ap, subst, arith}
use Rattle.std.specs.Prelude.{◌==◌, sum_by, ◌||◌}
use Rattle.std.specs.List.{flat_map, list_any}
use Rattle.std.proofs.lemmas.Bool.{eq-eqb, eqb-true}
use Rattle.std.proofs.lemmas.List.{append-nil, length-append}
use Rattle.image_model.specs.block_counts.Counts.{chains_for}
use Rattle.image_model.specs.extent_model.Moves.{Moves}
use Rattle.image_model.specs.extent_model.declared.extent_words.Extent.{Extent}
use Rattle.image_model.specs.Volume.{Volume, extents, inode}
use Rattle.k_split_model.specs.MapChangesChanges.{AreAllMoved, IsMoved, OneRunIsMoved, landing_of_move, run_of_move, touched, with_lefts, with_length, with_other}
use Rattle.k_split_model.specs.Taken.{AreLowest, switched}
use Rattle.k_split_model.specs.declared.map_changes.moves.Move.{Move}

-- one of four
one_of_four : (P : ℕ → Type 0) → P 1 → P 2 → P 3 → P 4 → (n : ℕ) → 1 ≤ n → n ≤ 4 → P n
one_of_four P p1 p2 p3 p4 zero low high = absurd (omega arith)
one_of_four P p1 p2 p3 p4 (suc zero) low high = p1
one_of_four P p1 p2 p3 p4 (suc (suc zero)) low high = p2
one_of_four P p1 p2 p3 p4 (suc (suc (suc zero))) low high = p3
one_of_four P p1 p2 p3 p4 (suc (suc (suc (suc zero)))) low high = p4
one_of_four P p1 p2 p3 p4 (suc (suc (suc (suc (suc n))))) low high = absurd (omega arith)

touched-one : (m : Move) → 1 ≤ m.staging → m.staging ≤ 4 → touched (run_of_move m ∷ []) ≡ m.staging ∷ []
touched-one m low high =
    one_of_four (λ n. touched (record { staging = n; staging_block = m.staging_block; file_block = m.file_block; count = m.count } ∷ []) ≡ n ∷ [])
    refl refl refl refl m.staging low high

one_of : (t : Bool) → (t || false) ≡ true → t ≡ true
one_of true is = refl
one_of false is = is

-- the maps that are left, at its staging file
left-here : (i : ℕ) (es : List Extent) (maps : ℕ → List Extent) → with_other i es maps i ≡ es
left-here i es maps = rw (eq-eqb i i refl) refl

module _ (free : ℕ → Bool) (m : Move) (v w : Volume) (displaced : List Extent) (low : 1 ≤ m.staging) (high : m.staging ≤ 4) where
  one : touched (run_of_move m ∷ []) ≡ m.staging ∷ []
  one = touched-one m low high

  there : AreAllMoved free (landing_of_move m) v w displaced → IsMoved free m v w displaced
  there is =
      let step = is.moves in
      let left_is : is.left m.staging ≡ step.0 = step.5.0 m.staging ∙ left-here m.staging step.0 (extents v) in
      let linked_is : is.linked ≡ step.1 = step.5.1 in
      let gone_is : displaced ≡ step.2 = step.6 ∙ ap (λ more. step.2 ++ more) step.5.2 ∙ append-nil step.2 in
      record {
        left = is.left m.staging;
        linked = is.linked;
        blocks = is.blocks;
        rest = is.rests m.staging;
        moves = subst (λ es. Moves m.staging_block m.file_block m.count (extents v m.staging) (extents v m.ino) es is.linked displaced) (sym left_is)
            (subst (λ es. Moves m.staging_block m.file_block m.count (extents v m.staging) (extents v m.ino) step.0 es displaced) (sym linked_is)
            (subst (λ es. Moves m.staging_block m.file_block m.count (extents v m.staging) (extents v m.ino) step.0 step.1 es) (sym gone_is) step.4));
        size = is.size;
        taken = subst (λ bs. AreLowest free (chains_for (length is.linked) + chains_for (length (is.left m.staging))) (is.blocks ++ bs)) (append-nil (is.rests m.staging))
            (subst (λ n. AreLowest free (chains_for (length is.linked) + n) (is.blocks ++ flat_map is.rests (m.staging ∷ []))) (omega arith)
            (subst (λ xs. AreLowest free (chains_for (length is.linked) + sum_by (λ x. chains_for (length (is.left x))) xs) (is.blocks ++ flat_map is.rests xs)) one is.taken));
        is_moved = is.is_moved ∙ ap (λ xs. switched m.ino (with_length m.size m.applied (inode v m.ino)) is.blocks is.linked (with_lefts xs is.rests is.left v)) one;
      }

  back : IsMoved free m v w displaced → AreAllMoved free (landing_of_move m) v w displaced
  back is =
      let left : ℕ → List Extent = with_other m.staging is.left (extents v) in
      let here : left m.staging ≡ is.left = left-here m.staging is.left (extents v) in
      record {
        left = left;
        linked = is.linked;
        blocks = is.blocks;
        rests = λ x. is.rest;
        moves = (is.left, is.linked, displaced, [], is.moves, ((λ x. refl), refl, refl), sym (append-nil displaced));
        size = is.size;
        sizes = λ x among.
            let same : m.staging ≡ x = eqb-true m.staging x (one_of (m.staging == x) (subst (λ xs. list_any (λ t. t == x) xs ≡ true) one among)) in
            subst (λ y. length is.rest ≡ chains_for (length (left y))) same
            (omega (arith, is.taken.count, is.size, length-append is.blocks is.rest, ap (λ (es : List Extent). chains_for (length es)) here));
        taken = subst (λ xs. AreLowest free (chains_for (length is.linked) + sum_by (λ x. chains_for (length (left x))) xs) (is.blocks ++ flat_map (λ x. is.rest) xs)) (sym one)
            (subst (λ n. AreLowest free (chains_for (length is.linked) + n) (is.blocks ++ flat_map (λ x. is.rest) (m.staging ∷ []))) (omega (arith, ap (λ (es : List Extent). chains_for (length es)) here))
            (subst (λ bs. AreLowest free (chains_for (length is.linked) + chains_for (length is.left)) (is.blocks ++ bs)) (sym (append-nil is.rest)) is.taken));
        is_moved = is.is_moved
            ∙ ap (λ es. switched m.ino (with_length m.size m.applied (inode v m.ino)) is.blocks is.linked (switched m.staging (inode v m.staging) is.rest es v)) (sym here)
            ∙ ap (λ xs. switched m.ino (with_length m.size m.applied (inode v m.ino)) is.blocks is.linked (with_lefts xs (λ x. is.rest) left v)) (sym one);
      }

pub one-run : OneRunIsMoved
one-run free m v w displaced low high = (there free m v w displaced low high, back free m v w displaced low high)
