use Rattle.std.proofs.Common.{◌≡◌, ◌/◌, ◌*◌, ◌<◌, ◌≤◌, ℕ, true, false}
use Rattle.std.specs.Prelude.{slice_index}
use Rattle.pm_model.specs.declared.Cell.TheVariants.{Single}
use Rattle.pm_model.specs.Cells.{cell, fenced, MayHold}
use Rattle.pm_model.specs.Powers.{is_on}
use Rattle.pm_lines.specs.Effects.{stepped_by}
use Rattle.pm_lines.proofs.loans.Loan.write_lines.Given as goal

-- the lines before `line` are flushed, the others are as they were
abbrev pub invariant-loop-line : goal.invariant-loop-line
invariant-loop-line l = record {
  place : l.self.place ≡ l.fn.self.place;
  power : l.power ≡ stepped_by (9 * l.line) l.fn.power;
  later : (i : ℕ) → l.line ≤ i / 8 → cell l.self.cells i ≡ cell l.fn.self.cells i;
  torn : (i : ℕ) → i / 8 < l.line → MayHold (cell l.fn.self.cells i) (slice_index l.words i) (cell l.self.cells i);
  done : is_on l.power ≡ true → (i : ℕ) → i / 8 < l.line → fenced (cell l.self.cells i) ≡ Single (slice_index l.words i);
  off : is_on l.fn.power ≡ false → l.self ≡ l.fn.self;
}
