use Rattle.std.proofs.Common.{◌≡◌, ◌++◌, map, vec_capacity}
use Rattle.world_parts.specs.world_view_laws.write_end.Ends.{begun_by}
use Rattle.world_rounds.proofs.rounds.losses.calls_of.Given as goal

-- the calls of the jobs so far stand there
abbrev pub invariant-loop-job : goal.invariant-loop-job
invariant-loop-job l = record {
  all : l.fn.pending.items ≡ l.yielded ++ l.job-iterator.rest.items;
  calls : l.calls.items ≡ map begun_by l.yielded;
  room : vec_capacity l.calls ≡ vec_capacity l.fn.spare;
}
