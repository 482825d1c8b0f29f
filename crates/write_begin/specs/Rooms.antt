-- How a whole write makes its room: its holes first, and then its staged part, or its bytes where they lie.
use Rattle.block_counts.specs.declared.TheConstants.{LONGEST_FILE}
use Rattle.std.specs.Prelude.{◌≡◌, ◌≢◌, ◌⊎◌, ◌<◌, ◌≤◌, ◌-◌, ◌/◌, ℕ, true, List, [], Option, None, Some, Result, Ok, Err}
use Rattle.std.specs.declared.alloc.AllocError.{AllocError}
use Rattle.block_counts.specs.Counts.{blocks_for}
use Rattle.write_plan.specs.pm_model.Powers.{is_on, Supply}
use Rattle.write_plan.specs.image_model.Volume.{Volume}
use Rattle.write_plan.specs.file_table.Files.{Files, size_in}
use Rattle.write_plan.specs.k_split_model.View.{View}
use Rattle.posix_types.specs.declared.call.Mode.{Mode}
use Rattle.posix_types.specs.declared.call.Who.{Who}
use Rattle.data_route.specs.declared.writes.WritePlan.{WritePlan}
use Rattle.live_step_laws.specs.staging_files.Keeps.{Staged}
use Rattle.in_place.specs.Holes.{FillsSome, IsPresent, LosesHoles}
use Rattle.in_place.specs.declared.placing.holes.Holes.{Holes}
use Rattle.write_plan.specs.declared.asks.asking.Target.{Target}
use Rattle.write_begin.specs.declared.begins.beginning.WriteBegun.{WriteBegun}
use Rattle.write_begin.specs.Begins.{FillsFor, LacksFor}
use Rattle.write_begin.specs.Goes.{IsGone, KeepsMaps}

-- ---- bytes in place

-- Some bytes lie below the end of the file, in no more blocks than a write has.
pub record LiesWithin (files : Files) (ino : ℕ) (range : ℕ × ℕ) : Type 0 where
  pub some : range.0 < range.1
  pub below : range.1 ≤ size_in files ino
  pub fits : range.1 ≤ LONGEST_FILE
  pub few : blocks_for range.1 - range.0 / 4096 ≤ 33

abbrev pub LieWithin : Files → ℕ → Option (ℕ × ℕ) → Type 0
LieWithin files ino None = Unit {0}
LieWithin files ino (Some range) = LiesWithin files ino range

-- each of them has a block
abbrev pub ArePresent : Volume → Files → ℕ → Option (ℕ × ℕ) → Type 0
ArePresent v files ino None = Unit {0}
ArePresent v files ino (Some range) = (i : ℕ) → range.0 ≤ i → i < range.1 → IsPresent v files ino (i / 4096)

-- ---- their holes

-- memory ran out, maybe behind some holes
abbrev pub FillsPart : View → View → Staged → Files → ℕ → Option (ℕ × ℕ) → Type 0
FillsPart k l staging files ino None = ⊥
FillsPart k l staging files ino (Some range) = FillsSome k l staging files ino (range.0 / 4096) (blocks_for range.1 - range.0 / 4096)

-- The holes are filled, as there was room; or there was none; or the power went; or memory ran out.
abbrev pub IsFrontFilled : View → View → Staged → Files → ℕ → Option (ℕ × ℕ) → Result Holes AllocError → Type 0
IsFrontFilled k l staging files ino placed (Ok Holes.Filled) = FillsFor k l staging files ino placed × ((need left : ℕ) → ¬ LacksFor k k staging files ino placed need left)
IsFrontFilled k l staging files ino placed (Ok (Holes.Lacking need left)) = LacksFor k l staging files ino placed need left
IsFrontFilled k l staging files ino placed (Ok Holes.PowerLost) = LosesHoles k l staging files ino
IsFrontFilled k l staging files ino placed (Err e) = FillsPart k l staging files ino placed

-- ---- a whole write

-- IT STOPS AT ITS HOLES: too few blocks are free for them, though some run is out, and nothing was done; the power went; or memory ran out.
abbrev pub StopsAtHoles : View → View → Staged → Staged → Files → Files → ℕ → Option (ℕ × ℕ) → Result WriteBegun AllocError → Type 0
StopsAtHoles k l old new files then ino placed (Ok (WriteBegun.Answered outcome)) = ⊥
StopsAtHoles k l old new files then ino placed (Ok (WriteBegun.Job job blocks)) = ⊥
StopsAtHoles k l old new files then ino placed (Ok WriteBegun.Written) = ⊥
StopsAtHoles k l old new files then ino placed (Ok (WriteBegun.RoundOver need left)) = LacksFor k l old files ino placed need left × (old.out ≢ []) × (new ≡ old) × (then ≡ files)
StopsAtHoles k l old new files then ino placed (Ok WriteBegun.PowerLost) = LosesHoles k l old files ino
StopsAtHoles k l old new files then ino placed (Err e) = FillsPart k l old files ino placed × (new ≡ old) × (then ≡ files)

-- OR THEY ARE FILLED, as there was room, which leaves a K-Split from which it goes on.
pub record GoesOnFilled (mode : Mode) (k l : View) (old new : Staged) (files then : Files) (who : Who) (target : Target) (x : List ℕ) (plan : WritePlan) (power : Supply) (result : Result WriteBegun AllocError) : Type 0 where
  pub enough : (need left : ℕ) → ¬ LacksFor k k old files target.ino plan.in_place need left
  pub middle : View
  pub filled : FillsFor k middle old files target.ino plan.in_place
  pub below : is_on power ≡ true → KeepsMaps middle.volume l.volume files then None
  pub gone : IsGone mode middle l old new files then who target x plan.staged result

abbrev pub IsTargetGone : Mode → View → View → Staged → Staged → Files → Files → Who → Target → List ℕ → WritePlan → Supply → Result WriteBegun AllocError → Type 0
IsTargetGone mode k l old new files then who target x plan power result =
    StopsAtHoles k l old new files then target.ino plan.in_place result ⊎ GoesOnFilled mode k l old new files then who target x plan power result
