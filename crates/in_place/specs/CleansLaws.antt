-- The end of a file is cleaned, each law as one statement.
use Rattle.std.specs.Prelude.{◌≡◌, ◌≢◌, ◌≤◌, ℕ, Bool, List, [], ◌∷◌}
use Rattle.live_step_laws.specs.layout_model.declared.lines.Kind.TheVariants.{File}
use Rattle.live_step_laws.specs.layout_model.Places.{Geometry}
use Rattle.live_step_laws.specs.image_model.Volume.{inode}
use Rattle.write_plan.specs.live_model.file_table.Files.{size_in}
use Rattle.live_step_laws.specs.k_split_model.View.{View}
use Rattle.write_plan.specs.live_model.k_split.Bytes.{IsOverwriteCut, IsOverwriteDone, tail_zeros}
use Rattle.live_step_laws.specs.list_laws.Members.{In}
use Rattle.live_step_laws.specs.posix_types.declared.item.Item.{Item}
use Rattle.live_step_laws.specs.posix_tables.Open.{Tables}
use Rattle.live_step_laws.specs.posix_spec.Run.{Unfinished, run}
use Rattle.live_step_laws.specs.posix_spec.State.{State}
use Rattle.live_step_laws.specs.world_model.Jobs.{Job}
use Rattle.write_plan.specs.live_model.Losses.{KeepsWhenLost}
use Rattle.write_plan.specs.live_model.Standing.{Kept, StandsAt}

-- A FILE MAY BE CLEANED from a place on: the file ends there or before, by what is kept of it, and no job that is out is of it.
pub record MayClean (k : View) (kept : Kept) (jobs : List Job) (ino from : ℕ) : Type 0 where
  pub file : (inode k.volume ino).kind ≡ File
  pub behind : size_in kept.files ino ≤ from
  pub others : (j : Job) → In j jobs → j.draft.ino ≢ ino

-- IT IS CLEANED from there to the end of its block: they stand together in the same state.
abbrev pub StandsCleaned : Type 0
StandsCleaned =
    (g : Geometry) (k l : View) (t : Tables) (kept : Kept) (lines : Bool) (n : ℕ) (s : State) (ino from : ℕ)
    → (stands : StandsAt g k t kept lines n s) → MayClean k kept stands.jobs ino from
    → IsOverwriteDone ino from (tail_zeros k.volume ino from) k l
    → (now : StandsAt g l t kept lines n s) × (now.jobs ≡ stands.jobs) × (now.numbers ≡ stands.numbers)

-- THE POWER WENT in it, in the call c.
abbrev pub KeepsCleaned : Type 0
KeepsCleaned =
    (g : Geometry) (k l : View) (t : Tables) (kept : Kept) (lines : Bool) (n : ℕ) (start : State) (history : List Item)
    (c : Unfinished) (ino from : ℕ)
    → (stands : StandsAt g k t kept lines n (run start history)) → MayClean k kept stands.jobs ino from
    → IsOverwriteCut ino from (tail_zeros k.volume ino from) k l
    → KeepsWhenLost k.volume l.cells kept stands.jobs start history (c ∷ [])
