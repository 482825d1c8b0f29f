-- What reserving a run leaves of a World with writes in flight, each law as one statement.
use Rattle.std.specs.Prelude.{◌≡◌, ◌≤◌, ◌+◌, ℕ, Bool, Contains, List, [], ◌∷◌, length, Result, Ok, Err}
use Rattle.fsync_relink.specs.world_write_laws.layout_model.Places.{Geometry, reserve}
use Rattle.fsync_relink.specs.world_write_laws.image_model.Room.{unused_blocks}
use Rattle.fsync_relink.specs.world_write_laws.k_split_model.View.{View}
use Rattle.fsync_relink.specs.world_write_laws.posix_types.declared.item.Item.{Item}
use Rattle.fsync_relink.specs.world_write_laws.posix_tables.Open.{Tables}
use Rattle.fsync_relink.specs.world_write_laws.posix_spec.Run.{Unfinished, run}
use Rattle.fsync_relink.specs.world_write_laws.posix_spec.State.{State}
use Rattle.live_model.specs.staging_files.declared.runs.StageFault.{StageFault}
use Rattle.live_model.specs.staging_files.declared.runs.StageRun.{StageRun}
use Rattle.live_model.specs.staging_files.Keeps.{AreApart, IsRunSingle, IsThere, Staged}
use Rattle.live_model.specs.staging_files.Reserves.{IsReserveAnswer}
use Rattle.fsync_relink.specs.world_write_laws.world_model.Jobs.{live_claims}
use Rattle.live_model.specs.Losses.{KeepsWhenLost}
use Rattle.live_model.specs.Standing.{Kept, StandsAt}

-- what the World keeps, with this staging
abbrev pub with_staging : Kept → Staged → Kept
with_staging kept staging = record kept { staging = staging }

-- A RUN IS OUT: they stand together with it in the same state, with the same jobs; it has the blocks, no word of them is lent, each
-- has one candidate, and no run that was out before has one of them; one run at least is out that is none of a live entry or
-- of a job; and the blocks that all runs that are out want are free.
pub record StandsWithRun (g : Geometry) (k l : View) (t : Tables) (kept : Kept) (staging : Staged) (lines : Bool)
    (n : ℕ) (s : State) (taken : StageRun) (stands : StandsAt g k t kept lines n s) : Type 0 where
  pub now : StandsAt g l t (with_staging kept staging) lines n s
  pub jobs_are : now.jobs ≡ stands.jobs
  pub numbers_are : now.numbers ≡ stands.numbers
  pub there : IsThere l taken
  pub single : IsRunSingle l taken
  pub apart : (other : StageRun) → Contains kept.staging.out other → AreApart other taken
  pub owed : length (live_claims l.volume kept.claims) + length stands.jobs + 1 ≤ length staging.out
  pub free : length staging.out + reserve l.volume.geometry ≤ unused_blocks l.volume + 3

abbrev pub StandsReserved : Type 0
StandsReserved =
    (g : Geometry) (k l : View) (t : Tables) (kept : Kept) (staging : Staged) (lines : Bool) (n : ℕ) (s : State)
    (count : ℕ) (taken : StageRun) → (stands : StandsAt g k t kept lines n s)
    → 1 ≤ count → count ≤ 33
    → (let r : Result StageRun StageFault = Ok taken in IsReserveAnswer count kept.staging k staging l r)
    → StandsWithRun g k l t kept staging lines n s taken stands

-- THE POWER WENT in it, in the call c.
abbrev pub KeepsReserved : Type 0
KeepsReserved =
    (g : Geometry) (k l : View) (t : Tables) (kept : Kept) (staging : Staged) (lines : Bool) (n : ℕ) (start : State)
    (history : List Item) (c : Unfinished) (count : ℕ)
    → (stands : StandsAt g k t kept lines n (run start history)) → 1 ≤ count → count ≤ 33
    → (let r : Result StageRun StageFault = Err StageFault.PowerLost in IsReserveAnswer count kept.staging k staging l r)
    → KeepsWhenLost k.volume l.cells kept stands.jobs start history (c ∷ [])
