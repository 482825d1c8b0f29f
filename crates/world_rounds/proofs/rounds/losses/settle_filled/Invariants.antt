use Rattle.std.proofs.Common.{◌≡◌, ◌++◌}
use Rattle.world_parts.specs.list_laws.Members.{In}
use Rattle.world_parts.specs.world_view_laws.Handed.{loans_filled}
use Rattle.world_parts.specs.world_view_laws.write_end.Blocks.{ComeHome}
use Rattle.world_parts.specs.write_jobs.Jobs.{FilledView, HoldWords}
use Rattle.world_rounds.proofs.rounds.losses.settle_filled.Given as goal

-- the blocks of the jobs so far came back
abbrev pub invariant-loop-job : goal.invariant-loop-job
invariant-loop-job l = record {
  all : l.fn.jobs.items ≡ l.yielded ++ l.job-iterator.rest.items;
  back : ComeHome (loans_filled l.yielded) l.fn.pm l.pm;
  holds : (job : FilledView) → In job l.yielded → HoldWords job.loans job.words;
}
