-- What steps leave of a World with writes in flight, each law as one statement.
use Rattle.std.specs.Prelude.{◌≡◌, ◌≢◌, ◌≤◌, ◌<◌, ◌+◌, ℕ, Bool, true, List, [], length, Option, Some, if◌then◌else◌}
use Rattle.k_split_laws.specs.pm_model.Words.{Words}
use Rattle.k_split_laws.specs.layout_model.Places.{Geometry}
use Rattle.k_split_laws.specs.layout_model.declared.lines.Kind.TheVariants.{File}
use Rattle.k_split_laws.specs.image_model.Live.{is_file}
use Rattle.k_split_laws.specs.image_model.Volume.{inode, Volume}
use Rattle.live_model.specs.posix_laws.Orders.{AreOrdered}
use Rattle.live_model.specs.file_table.Files.{ChangesFile, Files, runs_in, size_in, spare_in}
use Rattle.k_split_laws.specs.k_split_model.View.{View}
use Rattle.k_split_laws.specs.k_split.Answers.{IsDone}
use Rattle.live_model.specs.open_files.Numbered.{numbered_as}
use Rattle.k_split_laws.specs.posix_tables.Open.{is_open, Tables}
use Rattle.k_split_laws.specs.posix_spec.State.{State}
use Rattle.k_split_laws.specs.world_model.Stands.{number}
use Rattle.k_split_laws.specs.world_step_laws.Worlds.{IsWorld}
use Rattle.k_split_laws.specs.Going.{IsStep}
use Rattle.live_model.specs.Standing.{Kept, StandsAt}

-- the size of a line by the inode: 0 of what is no file
abbrev pub size_now : Volume → ℕ → ℕ
size_now w ino = if is_file (inode w ino).kind then (inode w ino).size else 0

-- What is kept of files after a change that touched one: nothing is staged of that one, and its size is its inode's. Room that is
-- spare for runs stays.
pub record AreLeft (touched : Option ℕ) (w : Volume) (old new : Files) : Type 0 where
  pub count : length new.sizes ≡ length old.sizes
  pub runs : (i : ℕ) → touched ≢ Some i → runs_in new i ≡ runs_in old i
  pub sizes : (i : ℕ) → touched ≢ Some i → size_in new i ≡ size_in old i
  pub spares : (i : ℕ) → touched ≢ Some i → spare_in new i ≡ spare_in old i
  pub own_spare : (ino : ℕ) → touched ≡ Some ino → spare_in old ino ≤ spare_in new ino
  pub own_runs : (ino : ℕ) → touched ≡ Some ino → runs_in new ino ≡ []
  pub own_size : (ino : ℕ) → touched ≡ Some ino → size_in new ino ≡ size_now w ino

-- A CHANGE OF K-SPLIT that is a step of the World is done: they stand together in the next state, with the same jobs out.
abbrev pub StandsOn : Type 0
StandsOn =
    (g : Geometry) (k k2 : View) (t t2 : Tables) (kept : Kept) (files : Files) (lines : Bool) (n m : ℕ) (s next : State)
    (after : List ℕ) (later : ℕ) (touched : Option ℕ) → (stands : StandsAt g k t kept lines n s) → IsDone k k2
    → IsStep touched k.volume k2.volume kept.claims stands.jobs stands.numbers after s next stands.count later
    → next.mode ≡ s.mode → later ≤ m → n ≤ m → next.tables ≡ numbered_as (number after) t2
    → ((ino : ℕ) → is_open t2 ino ≡ true → (inode k2.volume ino).kind ≡ File) → AreOrdered next.entries
    → AreLeft touched k2.volume kept.files files
    → (now : StandsAt g k2 t2 (record kept { files = files }) lines m next) × (now.jobs ≡ stands.jobs)
    × (now.numbers ≡ after)

-- What is kept of a file is cleared, and its inode is empty: so it is left.
abbrev pub LeavesCleared : Type 0
LeavesCleared = (w : Volume) (ino : ℕ) (old new : Files) → ChangesFile ino [] 0 old new
    → spare_in old ino ≤ spare_in new ino → ino < length old.sizes → (inode w ino).size ≡ 0
    → AreLeft (Some ino) w old new

-- A CALL that leaves K-Split as it is: they stand together in the next state, with the same jobs out.
abbrev pub StandsStill : Type 0
StandsStill =
    (g : Geometry) (k : View) (t t2 : Tables) (kept : Kept) (lines : Bool) (n : ℕ) (s next : State)
    → (stands : StandsAt g k t kept lines n s) → next.shape ≡ s.shape → next.mode ≡ s.mode
    → ((f : Words) → IsWorld k.volume kept.claims stands.jobs f stands.numbers s stands.count
    → IsWorld k.volume kept.claims stands.jobs f stands.numbers next stands.count)
    → next.tables ≡ numbered_as (number stands.numbers) t2
    → ((ino : ℕ) → is_open t2 ino ≡ true → (inode k.volume ino).kind ≡ File) → AreOrdered next.entries
    → (now : StandsAt g k t2 kept lines (n + 1) next) × (now.jobs ≡ stands.jobs) × (now.numbers ≡ stands.numbers)
