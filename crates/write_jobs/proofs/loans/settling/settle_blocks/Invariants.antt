use Rattle.std.proofs.Common.{◌≡◌, ◌++◌}
use Rattle.write_jobs.specs.Loans.{ComeBack}
use Rattle.write_jobs.proofs.loans.settling.settle_blocks.Given as goal

-- the loans so far came back
abbrev pub invariant-loop-loan : goal.invariant-loop-loan
invariant-loop-loan l = record {
  all : l.fn.loans.items ≡ l.yielded ++ l.loan-iterator.rest.items;
  back : ComeBack l.yielded l.fn.k.cells l.k.cells;
  same : l.k ≡ record l.fn.k { cells = l.k.cells };
}
