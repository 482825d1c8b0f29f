-- What becomes of a write that has room, by how its parts went.
use Rattle.std.specs.Prelude.{◌≡◌, ◌≤◌, ℕ, true, List, length, Result, Ok, Err}
use Rattle.std.specs.declared.alloc.AllocError.{AllocError}
use Rattle.std.proofs.Common.{ap}
use Rattle.write_plan.specs.pm_model.Powers.{is_on, Supply}
use Rattle.write_plan.specs.layout_model.block_counts.declared.TheConstants.{LONGEST_FILE}
use Rattle.write_plan.specs.file_table.Files.{Files, spare_in}
use Rattle.live_step_laws.specs.ReservesLaws.{StandsReserved}
use Rattle.in_place.specs.Gaps.{block_start, Clears}
use Rattle.write_plan.specs.k_split_model.View.{View}
use Rattle.posix_types.specs.declared.call.Mode.{Mode}
use Rattle.posix_types.specs.declared.call.Who.{Who}
use Rattle.live_step_laws.specs.staging_files.declared.runs.StageRun.{StageRun}
use Rattle.live_step_laws.specs.staging_files.Keeps.{Staged}
use Rattle.write_plan.specs.declared.asks.asking.Target.{Target}
use Rattle.write_plan.specs.eof_laws.block_io.Overwrites.{blocks_reached}
use Rattle.write_begin.specs.declared.begins.beginning.WriteBegun.{WriteBegun}
use Rattle.write_begin.specs.Begins.{IsPaid}
use Rattle.write_begin.specs.Goes.{FitsTarget, Goes, IsGone, IsJobBegun, reached_run}
use Rattle.write_begin.proofs.Runs.{becomes_job, goes_back, IsRun}

-- with its run it is a job, or the run goes back
pub gone_ok : (mode : Mode) (k l m p : View) (old new last : Staged) (files : Files) (who : Who) (target : Target) (x : List ℕ) (count : ℕ) (taken : StageRun) → StandsReserved → 1 ≤ count → count ≤ 33 → IsRun count old k new l taken
    → Clears target.ino files l m (block_start target.start) → FitsTarget files target (length x) → target.size ≤ LONGEST_FILE → count ≡ blocks_reached target.start (length x) → 3 ≤ spare_in files target.ino
    → Goes mode k old files who target x → (result : Result WriteBegun AllocError) → IsJobBegun m p new last files who target x taken result → IsGone mode k p old last files files who target x (reached_run target (length x)) result
gone_ok mode k l m p old new last files who target x count taken law some few answer clears fits small count_is spare goes (Ok (WriteBegun.Answered outcome)) is = absurd is
gone_ok mode k l m p old new last files who target x count taken law some few answer clears fits small count_is spare goes (Ok (WriteBegun.Job job blocks)) is =
    becomes_job mode k l old new files who target x count taken law some few answer m clears p last job blocks.items fits small count_is spare goes is
gone_ok mode k l m p old new last files who target x count taken law some few answer clears fits small count_is spare goes (Ok WriteBegun.Written) is = absurd is
gone_ok mode k l m p old new last files who target x count taken law some few answer clears fits small count_is spare goes (Ok (WriteBegun.RoundOver need left)) is = absurd is
gone_ok mode k l m p old new last files who target x count taken law some few answer clears fits small count_is spare goes (Ok WriteBegun.PowerLost) is = absurd is
gone_ok mode k l m p old new last files who target x count taken law some few answer clears fits small count_is spare goes (Err e) is =
    goes_back mode k l old new files who target x count taken law some few answer m clears goes p last is

-- and the power is on
pub paid_ok : (l m : View) (new last : Staged) (files : Files) (who : Who) (target : Target) (x : List ℕ) (taken : StageRun) (power : Supply) → is_on power ≡ true → (result : Result WriteBegun AllocError)
    → IsJobBegun l m new last files who target x taken result → IsPaid power result
paid_ok l m new last files who target x taken power on (Ok (WriteBegun.Answered outcome)) is = absurd is
paid_ok l m new last files who target x taken power on (Ok (WriteBegun.Job job blocks)) is = on
paid_ok l m new last files who target x taken power on (Ok WriteBegun.Written) is = absurd is
paid_ok l m new last files who target x taken power on (Ok (WriteBegun.RoundOver need left)) is = absurd is
paid_ok l m new last files who target x taken power on (Ok WriteBegun.PowerLost) is = absurd is
paid_ok l m new last files who target x taken power on (Err e) is = on

-- the volume is the same
pub same_volume : (l m : View) (new last : Staged) (files : Files) (who : Who) (target : Target) (x : List ℕ) (taken : StageRun) (result : Result WriteBegun AllocError) → IsJobBegun l m new last files who target x taken result → m.volume ≡ l.volume
same_volume l m new last files who target x taken (Ok (WriteBegun.Answered outcome)) is = absurd is
same_volume l m new last files who target x taken (Ok (WriteBegun.Job job blocks)) is = ap (λ (y : View). y.volume) is.cells_alone
same_volume l m new last files who target x taken (Ok WriteBegun.Written) is = absurd is
same_volume l m new last files who target x taken (Ok (WriteBegun.RoundOver need left)) is = absurd is
same_volume l m new last files who target x taken (Ok WriteBegun.PowerLost) is = absurd is
same_volume l m new last files who target x taken (Err e) is = ap (λ (y : View). y.volume) is.same
