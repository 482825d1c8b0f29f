-- What zeroing a block answers, by how the write of zeros went.
use Rattle.std.specs.Prelude.{◌≡◌, ◌/◌, ℕ, Some, None}
use Rattle.std.proofs.Common.{arith}
use Rattle.write_plan.specs.file_overlay.Runs.{staged_at}
use Rattle.write_plan.specs.live_model.file_table.Files.{Files, runs_in, size_in}
use Rattle.in_place.specs.CleansLaws.{KeepsCleaned, StandsCleaned}
use Rattle.in_place.specs.ZerosLaws.{KeepsZeroed, StandsZeroed, ZeroedReadZero}
use Rattle.in_place.specs.Zeros.{block_end, staged_place}
use Rattle.live_step_laws.specs.k_split_laws.k_journal.declared.outcomes.Commit.{Commit}
use Rattle.live_step_laws.specs.k_split_laws.k_split_model.View.{View}
use Rattle.in_place.specs.Gaps.{HasFile, IsCleared, IsZeroed}
use Rattle.in_place.proofs.Blocks.{cleared_mapped, cleared_staged}
use Rattle.in_place.proofs.Lost.{loses_mapped, loses_staged}
use Rattle.in_place.proofs.Past.{nothing_between}

-- in the map of the file
pub mapped_answer : StandsCleaned → KeepsCleaned → ZeroedReadZero → (k l : View) (files : Files) (ino from : ℕ) → HasFile k files ino → from ≡ size_in files ino → staged_at (runs_in files ino) (from / 4096) ≡ None → (commit : Commit)
    → IsZeroed ino from k l commit → IsCleared ino files (block_end from) k l commit
mapped_answer stands keeps zeroed k l files ino from has is at Commit.Done done =
    cleared_mapped k l files ino from has (omega (arith, is)) stands zeroed at done (nothing_between k files ino from (omega (arith, is)))
mapped_answer stands keeps zeroed k l files ino from has is at Commit.PowerLost cut = loses_mapped k l files ino from (omega (arith, is)) keeps cut

-- in a staging file
pub staged_answer : StandsZeroed → KeepsZeroed → ZeroedReadZero → (k l : View) (files : Files) (ino from staging block : ℕ) → HasFile k files ino → from ≡ size_in files ino → staged_at (runs_in files ino) (from / 4096) ≡ Some (staging, block)
    → (commit : Commit) → IsZeroed staging (staged_place block from) k l commit → IsCleared ino files (block_end from) k l commit
staged_answer stands keeps zeroed k l files ino from staging block has is at Commit.Done done =
    cleared_staged k l files ino from has (omega (arith, is)) staging block stands zeroed at done (nothing_between k files ino from (omega (arith, is)))
staged_answer stands keeps zeroed k l files ino from staging block has is at Commit.PowerLost cut = loses_staged k l files ino from (omega (arith, is)) staging block keeps at cut
