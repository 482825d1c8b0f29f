use Rattle.std.proofs.Common.{◌≡◌, ◌+◌, ◌*◌, ◌<◌, ◌≤◌, ℕ, true, length}
use Rattle.std.specs.Prelude.{slice_index}
use Rattle.pm_lines.specs.pm_model.declared.Cell.TheVariants.{Single}
use Rattle.pm_lines.specs.pm_model.Cells.{cell}
use Rattle.pm_lines.specs.pm_model.Powers.{is_on, Steps}
use Rattle.write_jobs.specs.Jobs.{blocks_of, loan_at}
use Rattle.write_jobs.proofs.jobs.fills.fill_blocks.Given as goal

-- the blocks before k hold their words, the others are as they were
abbrev pub invariant-loop-k : goal.invariant-loop-k
invariant-loop-k l = record {
  count : length l.loans.items ≡ length l.fn.loans.items;
  places : blocks_of l.loans.items ≡ blocks_of l.fn.loans.items;
  steps : Steps (577 * l.k) l.fn.power l.power;
  later : (n : ℕ) → l.k ≤ n → loan_at l.loans.items n ≡ loan_at l.fn.loans.items n;
  done : is_on l.power ≡ true → (n j : ℕ) → n < l.k → j < 512 → cell (loan_at l.loans.items n).cells j ≡ Single (slice_index l.words (512 * n + j));
}
