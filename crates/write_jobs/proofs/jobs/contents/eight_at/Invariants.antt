use Rattle.std.proofs.Common.{◌≡◌, ◌<◌, ◌+◌, ℕ, length}
use Rattle.std.specs.Prelude.{slice_index}
use Rattle.write_jobs.specs.Contents.{framed}
use Rattle.write_jobs.proofs.jobs.contents.eight_at.Given as goal

-- the bytes so far
abbrev pub invariant-loop-j : goal.invariant-loop-j
invariant-loop-j l = record {
  long : length l.eight ≡ 8;
  each : (k : ℕ) → k < l.j → slice_index l.eight k ≡ slice_index (framed l.front l.at l.new l.back) (l.first + k);
}
