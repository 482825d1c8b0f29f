use Rattle.std.proofs.Common.{◌≡◌, ◌<◌, ◌+◌, ◌*◌, ℕ, length}
use Rattle.std.specs.Prelude.{slice_index}
use Rattle.pm_lines.specs.pm_model.Words.{word_at}
use Rattle.write_jobs.specs.Contents.{framed}
use Rattle.write_jobs.proofs.jobs.contents.block_at.Given as goal

-- the words so far
abbrev pub invariant-loop-j : goal.invariant-loop-j
invariant-loop-j l = record {
  long : length l.words ≡ 512;
  each : (m : ℕ) → m < l.j → slice_index l.words m ≡ word_at (framed l.front l.at l.new l.back) (512 * l.block + m);
}
