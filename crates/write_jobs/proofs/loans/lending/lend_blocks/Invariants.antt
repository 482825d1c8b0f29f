use Rattle.std.proofs.Common.{◌≡◌, ◌≤◌}
use Rattle.std.specs.Prelude.{vec_capacity}
use Rattle.write_jobs.specs.Loans.{AreLoansOf}
use Rattle.write_jobs.proofs.LendLaws.{front}
use Rattle.write_jobs.specs.Blocks.{GoOut}
use Rattle.write_jobs.proofs.loans.lending.lend_blocks.Given as goal

-- the first n blocks are out, each as a loan
abbrev pub invariant-loop-n : goal.invariant-loop-n
invariant-loop-n l = record {
  out : GoOut l.fn.k.volume (front l.draft l.n) l.fn.k.cells l.k.cells;
  loans_are : AreLoansOf l.fn.k.volume l.draft l.fn.k.cells l.n l.loans.items;
  same : l.k ≡ record l.fn.k { cells = l.k.cells };
  room : l.draft.count ≤ vec_capacity l.loans;
}
