-- From a log that threads filled, closed, to the lines that a World asks for.
use Rattle.std.specs.Prelude.{◌≡◌, ◌⊎◌, ◌≤◌, ℕ, Contains, List, [], Some}
use Rattle.oplog_tail.specs.declared.views.Claim.{Claim}
use Rattle.oplog_tail.specs.Closing.{AreFirst, claims_of_all, LeavesLines}
use Rattle.oplog_tail.specs.Logs.{capacity, LogView}
use Rattle.oplog_tail.specs.Seats.{SeatView}
use Rattle.oplog_tail.specs.Views.{claim}
use Rattle.oplog_tail.specs.oplog_entry.declared.claims.Full.{Full}
use Rattle.oplog_tail.specs.oplog_entry.declared.claims.Mark.TheVariants.{Lost, Written}
use Rattle.round_laws.specs.world_view_laws.pm_model.Parts.{Part}
use Rattle.oplog_tail.specs.layout_model.declared.lines.Draft.{Draft}
use Rattle.round_laws.specs.world_view_laws.list_laws.Members.{In}
use Rattle.round_laws.specs.world_view_laws.write_jobs.Jobs.{FilledView}
use Rattle.round_laws.specs.world_view_laws.Lines.{AreCrashLines, AreFresh, HoldTheClaims}
use Rattle.round_laws.specs.world_view_laws.Views.{WorldView}

-- THE CLAIMS OF A LOG ARE those pairs of slot and entry that were given to `finish`, each written; and those that were taken by jobs whose append lost the
-- power.
pub record AreClaimsOf (claims : List Claim) (done taken : List (ℕ × Draft)) : Type 0 where
  pub written : (n : ℕ) (d : Draft) → In (n, d) done → Contains claims (claim n d Written)
  pub lost : (n : ℕ) (d : Draft) → In (n, d) taken → Contains claims (claim n d Lost)
  pub all : (c : Claim) → Contains claims c → ((c.mark ≡ Written) × In (c.number, c.entry) done) ⊎ ((c.mark ≡ Lost) × In (c.number, c.entry) taken)

-- THE LOG WAS OPENED WITH THE LINES OF THE WORLD'S ROUND, and is closed with these. (Of the World this reads what stays in a round alone.)
pub record IsClosedOver (w : WorldView) (log : LogView) (claims : List Claim) (lines : List Part) : Type 0 where
  pub fresh : AreFresh w log.lines
  pub base : log.base ≡ w.base
  pub closed : LeavesLines log claims lines

-- SUCH LINES ARE THOSE OF A CRASH, where each that was taken is of one filled job, which took one alone;
abbrev pub ClosedCrash : Type 0
ClosedCrash =
    (w : WorldView) (log : LogView) (claims : List Claim) (lines : List Part) (filled : List FilledView) (taken : List (ℕ × Draft)) → IsClosedOver w log claims lines
    → AreClaimsOf claims w.claims taken → ((n : ℕ) (d : Draft) → In (n, d) taken → (job : FilledView) × In job filled × (job.draft ≡ d))
    → ((m n : ℕ) (d : Draft) → In (m, d) taken → In (n, d) taken → m ≡ n) → AreCrashLines w filled taken lines

-- they hold the claims, where none was taken;
abbrev pub ClosedHolds : Type 0
ClosedHolds = (w : WorldView) (log : LogView) (claims : List Claim) (lines : List Part) → IsClosedOver w log claims lines → AreClaimsOf claims w.claims [] → HoldTheClaims w lines

-- and where a seat found the log full, which has a line, something was claimed.
abbrev pub FullIsClaimed : Type 0
FullIsClaimed =
    (log : LogView) (seats : List SeatView) (seat : SeatView) (full : Full) → AreFirst log seats → Contains seats seat → seat.full ≡ Some full → 1 ≤ capacity log
    → (c : Claim) × Contains (claims_of_all seats) c
