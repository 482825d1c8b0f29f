use Rattle.std.proofs.Common.{◌≡◌, ◌++◌}
use Rattle.world_parts.specs.world_view_laws.write_end.Blocks.{ComeHome}
use Rattle.world_rounds.proofs.rounds.losses.settle_loans.Given as goal

-- the loans so far came back
abbrev pub invariant-loop-loan : goal.invariant-loop-loan
invariant-loop-loan l = record {
  all : l.fn.loans.items ≡ l.yielded ++ l.loan-iterator.rest.items;
  back : ComeHome l.yielded l.fn.pm l.pm;
}
