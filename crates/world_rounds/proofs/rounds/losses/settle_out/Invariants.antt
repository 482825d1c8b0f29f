use Rattle.std.proofs.Common.{◌≡◌, ◌++◌}
use Rattle.world_parts.specs.world_view_laws.Handed.{loans_out}
use Rattle.world_parts.specs.world_view_laws.write_end.Blocks.{ComeHome}
use Rattle.world_rounds.proofs.rounds.losses.settle_out.Given as goal

-- the blocks of the jobs so far came back
abbrev pub invariant-loop-job : goal.invariant-loop-job
invariant-loop-job l = record {
  all : l.fn.jobs.items ≡ l.yielded ++ l.job-iterator.rest.items;
  back : ComeHome (loans_out l.yielded) l.fn.pm l.pm;
}
