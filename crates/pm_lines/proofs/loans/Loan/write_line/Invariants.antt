use Rattle.std.proofs.Common.{◌≡◌, ◌≢◌, ◌/◌, ◌%◌, ◌<◌, ◌≤◌, ℕ, true, false}
use Rattle.std.specs.Prelude.{slice_index}
use Rattle.pm_model.specs.declared.Cell.TheVariants.{Single}
use Rattle.pm_model.specs.Cells.{cell, flushed, fenced, MayHold}
use Rattle.pm_model.specs.Powers.{is_on}
use Rattle.pm_lines.specs.Effects.{stepped_by}
use Rattle.pm_lines.proofs.loans.Loan.write_line.Given as goal

-- the words before k are stored, the others are as they were
abbrev pub invariant-loop-k : goal.invariant-loop-k
invariant-loop-k l = record {
  place : l.self.place ≡ l.fn.self.place;
  power : l.power ≡ stepped_by l.k l.fn.power;
  others : (i : ℕ) → i / 8 ≢ l.line → cell l.self.cells i ≡ cell l.fn.self.cells i;
  later : (i : ℕ) → i / 8 ≡ l.line → l.k ≤ i % 8 → cell l.self.cells i ≡ cell l.fn.self.cells i;
  torn : (i : ℕ) → i / 8 ≡ l.line → MayHold (cell l.fn.self.cells i) (slice_index l.words i) (cell l.self.cells i);
  done : is_on l.power ≡ true → (i : ℕ) → i / 8 ≡ l.line → i % 8 < l.k → fenced (flushed (cell l.self.cells i)) ≡ Single (slice_index l.words i);
  off : is_on l.fn.power ≡ false → l.self ≡ l.fn.self;
}
