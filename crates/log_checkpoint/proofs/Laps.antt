-- The next lap begins with nothing staged: what it asks for, and what is answered.
use Rattle.std.proofs.Common.{◌≡◌, ◌≤◌, ◌+◌, ◌/◌, ◌^◌, ℕ, zero, suc, Result, Ok, Err, sym, ◌∙◌, ap, subst, inr}
use Rattle.std.specs.declared.alloc.AllocError.{AllocError}
use Rattle.staging_files.specs.image_model.Volume.{extents}
use Rattle.staging_files.specs.extent_model.Covers.{covers-disk_at, disk_at-covers}
use Rattle.file_table.specs.Files.{Files}
use Rattle.fsync_relink.specs.Others.{GoesOn, KeepsRest}
use Rattle.staging_files.specs.k_journal.declared.outcomes.Commit.{Commit}
use Rattle.staging_files.specs.k_map_plans.Plans.{IsStagingFile}
use Rattle.staging_files.specs.k_split_model.View.{View}
use Rattle.staging_files.specs.k_split.Laps.{HasNextLap, IsBaseAnswer, next_base}
use Rattle.staging_files.proofs.GiveUpLaws.{staging-file}
use Rattle.staging_files.specs.GivesUp.{AllStagedSingle, AreGivenUp, IsGiveUpAllAnswer}
use Rattle.staging_files.specs.Keeps.{Staged}
use Rattle.fsync_relink.proofs.RelinkLaws.{has-chain}
use Rattle.log_checkpoint.specs.Gathers.{AreAllDone, IsGatherAnswer, IsLapAnswer}

-- ---- what it asks for, once all files are published

-- words of staged blocks still have one candidate
pub still-single : (k l : View) → KeepsRest k l → GoesOn k → AllStagedSingle k → AllStagedSingle l
still-single k l rest on single x is i has =
    let there : IsStagingFile x k.volume = staging-file k.volume x on.order.whole is in
    let then : IsStagingFile x l.volume = staging-file l.volume x rest.goes_on.order.whole is in
    let at = disk_at-covers (extents l.volume x) (i / 512) (has-chain l x rest.goes_on.order rest.goes_on.unbatched then.below).canonical has in
    rest.singles i (single x is i (covers-disk_at (extents k.volume x) at.0 (i / 512) (rest.staged x at.0 (i / 512) there at.1)))

pub base-same : (k l : View) → KeepsRest k l → next_base l.volume ≡ next_base k.volume
base-same k l rest = λ i. rest.base i + (rest.numbers i).log

pub still-next : (k l : View) → KeepsRest k l → HasNextLap k → HasNextLap l
still-next k l rest next = subst (λ n. n ≤ 2 ^ 63) (sym (base-same k l rest)) next

-- ---- once the staging files gave up their blocks

pub given-on : (n : ℕ) (k l : View) → GoesOn k → AreGivenUp n k l → GoesOn l
given-on zero k l on same = subst GoesOn (sym same) on
given-on (suc n) k l on (middle, before, last) = record {
  order = last.2.order;
  unbatched = last.2.batched ∙ (given-on n k middle on before).unbatched;
  on = last.2.kept_on;
}

-- ---- what is answered

-- the next lap behind it, or the power went in its transaction
pub lap-behind : (k bare l : View) (s t : Staged) (r : Commit) → GoesOn k → IsGiveUpAllAnswer s k t bare (Ok Commit.Done)
    → IsBaseAnswer (next_base bare.volume) bare l r → IsLapAnswer k t l (Ok r)
lap-behind k bare l s t Commit.Done on gave lap = record {
  bare = bare;
  given_up = gave.2;
  lap = subst (λ n. IsBaseAnswer n bare l Commit.Done) (ap next_base gave.1) lap;
  goes_on = record { order = lap.1.order; unbatched = lap.1.batched ∙ (given-on 4 k bare on gave.2).unbatched; on = lap.1.kept_on };
  staging = gave.0;
}
lap-behind k bare l s t Commit.PowerLost on gave lap = inr (bare, gave.2, subst (λ n. IsBaseAnswer n bare l Commit.PowerLost) (ap next_base gave.1) lap)

-- all files were published, and then it went on to this
pub gathered : (t u : Files) (k published l : View) (s : Staged) (r : Result Commit AllocError) → AreAllDone t k u published → IsLapAnswer published s l r → IsGatherAnswer t k s u l r
gathered t u k published l s (Ok Commit.Done) done lap = (published, done, lap)
gathered t u k published l s (Ok Commit.PowerLost) done lap = inr (published, done, lap)
gathered t u k published l s (Err e) done lap = inr (published, done, lap)
