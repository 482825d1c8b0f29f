-- What a call answers and leaves in POSIX mode, over a K-Split that gathers.
use Rattle.std.specs.Prelude.{◌≡◌, ◌<◌, ◌+◌, ◌^◌, ℕ, true, false, List, [], ◌∷◌, ◌++◌, Result, Ok, Err}
use Rattle.eof_laws.specs.pm_model.Powers.{is_on, Supply}
use Rattle.eof_laws.specs.layout_model.Places.{Geometry}
use Rattle.eof_laws.specs.file_table.Files.{Files}
use Rattle.eof_laws.specs.k_split_model.View.{View}
use Rattle.batch_laws.specs.Together.{PosixStandsAt, with_parts}
use Rattle.live_step_laws.specs.k_split_laws.Left.{IsLeftOf}
use Rattle.live_step_laws.specs.live_model.Standing.{Kept}
use Rattle.live_step_laws.specs.live_model.staging_files.Keeps.{Staged}
use Rattle.live_step_laws.specs.live_model.world_image_laws.Back.{IsKeptBack}
use Rattle.posix_types.specs.declared.call.Call.{Call}
use Rattle.posix_types.specs.declared.call.Who.{Who}
use Rattle.posix_types.specs.declared.item.Item.{Item}
use Rattle.posix_types.specs.declared.item.Outcome.{Outcome}
use Rattle.open_files.specs.posix_tables.Open.{Tables}
use Rattle.open_files.specs.posix_spec.Run.{run}
use Rattle.open_files.specs.posix_spec.State.{State}
use Rattle.open_files.specs.posix_spec.Step.{step}
use Rattle.file_calls.specs.declared.names.outcomes.NoMemory.{NoMemory}
use Rattle.file_calls.specs.declared.names.outcomes.Told.{Told}

-- an item of this call, with this outcome
abbrev pub IsItemOf : Who → Call → Outcome → Item → Type 0
IsItemOf who call outcome item = (item.who ≡ who) × (item.call ≡ call) × (item.reply ≡ outcome.reply)

-- THE CALL IS DONE, after whatever history they stand together, with the log lines out: they stand together after it, and the outcome is
-- that of the step.
abbrev pub GatheredAnswers : Who → Call → View → Tables → Staged → Files → View → Tables → Staged → Files → Outcome → Type 0
GatheredAnswers who call k t a f k2 t2 a2 f2 outcome =
    (g : Geometry) (x : Kept) (n : ℕ) (start : State) (history : List Item) (item : Item) → n + 1 < 2 ^ 31 → IsItemOf who call outcome item
    → PosixStandsAt g k t (with_parts x a f) true n start history
    → PosixStandsAt g k2 t2 (with_parts x a2 f2) true (n + 1) start (history ++ item ∷ []) × ((step (run start history) who call).outcome ≡ outcome)

-- THEY STAND TOGETHER STILL, after the same history: a change within a call that is no call's end.
abbrev pub StaysGathered : View → Tables → Staged → Files → View → Tables → Staged → Files → Type 0
StaysGathered k t a f k2 t2 a2 f2 =
    (g : Geometry) (x : Kept) (n : ℕ) (start : State) (history : List Item)
    → PosixStandsAt g k t (with_parts x a f) true n start history → PosixStandsAt g k2 t2 (with_parts x a2 f2) true n start history

-- THE POWER WENT IN IT, whatever history led there: whatever is put back of the log lines, the promise is kept, the call unfinished; and
-- the device is left of the one before.
pub record GatheredLoses (who : Who) (call : Call) (k : View) (t : Tables) (a : Staged) (f : Files) (k2 : View) : Type 0 where
  pub kept : (g : Geometry) (x : Kept) (n : ℕ) (start : State) (history : List Item) → PosixStandsAt g k t (with_parts x a f) true n start history
      → IsKeptBack k.volume k2.cells x.first [] [] start history ((who, call) ∷ [])
  pub left : (g : Geometry) (x : Kept) (n : ℕ) (start : State) (history : List Item) → PosixStandsAt g k t (with_parts x a f) true n start history → IsLeftOf g k.cells k2.cells

-- WHAT A CALL ANSWERS AND LEAVES in POSIX mode: it is done, with the power on; the power went, and is off; or memory ran out, with the power
-- on. Then what was gathered may have been committed, so that what is kept beside K-Split is only to be dropped.
abbrev pub IsGatheredEnd : Who → Call → View → Tables → Staged → Files → View → Tables → Staged → Files → Supply → Supply → Result Told NoMemory → Type 0
IsGatheredEnd who call k t a f k2 t2 a2 f2 old new (Ok (Told.Answered outcome)) = GatheredAnswers who call k t a f k2 t2 a2 f2 outcome × (is_on new ≡ true)
IsGatheredEnd who call k t a f k2 t2 a2 f2 old new (Ok Told.PowerLost) = GatheredLoses who call k t a f k2 × (is_on new ≡ false)
IsGatheredEnd who call k t a f k2 t2 a2 f2 old new (Err e) = is_on new ≡ true
