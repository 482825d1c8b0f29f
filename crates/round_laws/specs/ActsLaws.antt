-- Each call of a World within a round is an act of its caller: a law for each answer, as one statement.
use Rattle.std.specs.Prelude.{◌≡◌, ◌+◌, ◌^◌, ℕ, true}
use Rattle.world_view_laws.specs.eof_laws.pm_model.Powers.{Steps, Supply}
use Rattle.world_view_laws.specs.eof_laws.posix_types.declared.call.Who.{Who}
use Rattle.world_view_laws.specs.oplog_entry.declared.claims.Full.{Full}
use Rattle.world_view_laws.specs.live_model.Standing.{JobOut}
use Rattle.world_view_laws.specs.write_jobs.Jobs.{FilledView, JobView}
use Rattle.world_view_laws.specs.Acts.{IsAct}
use Rattle.world_view_laws.specs.Begins.{BeginsJob, EndsRound, IsFilledOut, LosesCall, Returns}
use Rattle.world_view_laws.specs.Jobs.{Finishes, GivesUp, LosesFinish}
use Rattle.world_view_laws.specs.Views.{HasNone, WorldView}

-- ---- what `begin` answers, but that it wants memory

abbrev pub ReturnsActs : Type 0
ReturnsActs =
    (who : Who) (old new : WorldView) (before after : Supply) → HasNone old who → Steps (2 ^ 26) before after → Returns who old new before after → IsAct who old new before after

abbrev pub JobActs : Type 0
JobActs =
    (who : Who) (old new : WorldView) (before after : Supply) (job : JobView) → HasNone old who → Steps (2 ^ 26) before after → BeginsJob who old new after job → IsAct who old new before after

abbrev pub RoundEndActs : Type 0
RoundEndActs =
    (who : Who) (old new : WorldView) (before after : Supply) (need left : ℕ) → HasNone old who → Steps (2 ^ 26) before after → EndsRound who old new after need left → IsAct who old new before after

abbrev pub LostCallActs : Type 0
LostCallActs =
    (who : Who) (old new : WorldView) (before after : Supply) → HasNone old who → Steps (2 ^ 26) before after → LosesCall who old new after → IsAct who old new before after

-- the power was found off behind the end of the script
abbrev pub LostEndActs : Type 0
LostEndActs = (who : Who) (old new : WorldView) (power : Supply) → HasNone old who → new ≡ record old { acts = old.acts + 1; lost = true } → IsAct who old new power power

-- nothing was done: it waits, its script has ended, the round was over, or the power was lost before
abbrev pub NothingActs : Type 0
NothingActs = (who : Who) (w : WorldView) (power : Supply) → IsAct who w w power power

-- ---- the ends of a job, and a loss

abbrev pub FinishActs : Type 0
FinishActs =
    (slot : ℕ) (p : JobOut) (job : FilledView) (old new : WorldView) (before after : Supply) → Steps (2 ^ 26) before after → IsFilledOut old p job
    → Finishes slot p old new after → IsAct p.who old new before after

abbrev pub LostFinishActs : Type 0
LostFinishActs =
    (slot : ℕ) (p : JobOut) (job : FilledView) (old new : WorldView) (before after : Supply) → Steps (2 ^ 26) before after → (old.lost ≡ true → after ≡ before)
    → IsFilledOut old p job → LosesFinish slot p old new after → IsAct p.who old new before after

abbrev pub GiveUpActs : Type 0
GiveUpActs = (full : Full) (p : JobOut) (job : FilledView) (old new : WorldView) (power : Supply) → IsFilledOut old p job → GivesUp full p old new → IsAct p.who old new power power

abbrev pub LoseActs : Type 0
LoseActs = (who : Who) (w : WorldView) (power : Supply) → IsAct who w (record w { lost = true }) power power
