-- Lines that are taken out of a device one after another.
use Rattle.std.proofs.Common.{◌≡◌, ℕ, ◌+◌, ◌*◌, ◌/◌, ◌<◌, ◌≤◌, List, [], ◌∷◌, ◌++◌, length, true, sym, refl, ap, ◌∙◌, subst, ⊎_elim, arith, length-append}
use Rattle.std.proofs.lemmas.Bool.{cases_lt}
use Rattle.std.proofs.lemmas.List.{get_or_append_left}
use Rattle.oplog_entry.specs.pm_model.declared.Cell.{Cell}
use Rattle.oplog_entry.specs.pm_model.Cells.{cell, is_single}
use Rattle.oplog_entry.specs.pm_model.Parts.{GoesOut, Part}
use Rattle.oplog_entry.specs.pm_model.PartLaws.{GoesOut-at}
use Rattle.oplog_entry.specs.EntryLines.{IsSingle}
use Rattle.oplog_entry.specs.LogLines.{line_at}

-- The lines from n on still have one candidate a word, and so have those that were taken out.
pub record IsTaking (n : ℕ) (device : List Cell) (lines : List Part) : Type 0 where
  pub left : (i : ℕ) → n ≤ i / 8 → is_single (cell device i) ≡ true
  pub taken : (k : ℕ) → k < length lines → IsSingle (line_at lines k).cells
  pub count : length lines ≡ n

pub takes_more : (n : ℕ) (old new : List Cell) (lines : List Part) (line : Part) → IsTaking n old lines → GoesOut 8 n old new line.cells → IsTaking (n + 1) new (lines ++ line ∷ [])
takes_more n old new lines line taking out = record {
  left = λ i above. ap is_single (out.others i (λ e. absurd (omega (arith, above, e)))) ∙ taking.left i (omega (arith, above));
  taken = taken;
  count = omega (arith, length-append lines (line ∷ []), taking.count);
} where
  single : IsSingle line.cells
  single j below = ap is_single (GoesOut-at 8 n old new line.cells j out below) ∙ taking.left (8 * n + j) (omega (arith, below))

  none : Part
  none = record { place = 0; cells = [] }

  last : (ls : List Part) → line_at (ls ++ line ∷ []) (length ls) ≡ line
  last [] = refl
  last (l ∷ ls) = last ls

  taken : (k : ℕ) → k < length (lines ++ line ∷ []) → IsSingle (line_at (lines ++ line ∷ []) k).cells
  taken k below = ⊎_elim
      (λ (before : k < length lines). subst (λ (p : Part). IsSingle p.cells) (sym (get_or_append_left lines (line ∷ []) none k before)) (taking.taken k before))
      (λ (past : length lines ≤ k).
      let at : k ≡ length lines = omega (arith, past, below, length-append lines (line ∷ [])) in
      subst (λ (p : Part). IsSingle p.cells) (sym (ap (λ (m : ℕ). line_at (lines ++ line ∷ []) m) at ∙ last lines)) single)
      (cases_lt k (length lines))
