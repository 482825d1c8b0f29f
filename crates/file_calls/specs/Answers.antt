-- What a call over K-Split and the open files answers and leaves.
use Rattle.std.specs.Prelude.{◌≡◌, ◌⊎◌, ◌<◌, ◌+◌, ◌^◌, ℕ, true, false, List, [], ◌∷◌, length, Some, None, Result, Ok, Err, if◌then◌else◌}
use Rattle.eof_laws.specs.pm_model.Frames.{SameLent}
use Rattle.eof_laws.specs.pm_model.Powers.{is_on, Supply}
use Rattle.eof_laws.specs.layout_model.Places.{Geometry}
use Rattle.layout_model.specs.declared.lines.Kind.{Kind}
use Rattle.layout_model.specs.declared.lines.Kind.TheVariants.{Directory, File, Free, Staging}
use Rattle.eof_laws.specs.image_model.Volume.{inode, Volume}
use Rattle.eof_laws.specs.Ends.{FilesEnd}
use Rattle.eof_laws.specs.file_table.Files.{Files, runs_in}
use Rattle.eof_laws.specs.k_journal.Commits.{TakesAStep}
use Rattle.eof_laws.specs.k_split_model.Spaces.{volume_space}
use Rattle.eof_laws.specs.k_split_model.View.{View}
use Rattle.live_step_laws.specs.k_split.declared.faults.KFault.{KFault}
use Rattle.live_step_laws.specs.k_split.Looks.{IsFound}
use Rattle.live_step_laws.specs.k_split_laws.Left.{IsLeftOf}
use Rattle.open_files.specs.declared.files.faults.OpenFault.{OpenFault}
use Rattle.posix_types.specs.declared.call.Call.{Call}
use Rattle.posix_types.specs.declared.call.Who.{Who}
use Rattle.posix_types.specs.declared.handle.Flags.{Flags}
use Rattle.posix_types.specs.declared.item.Item.{Item}
use Rattle.posix_types.specs.declared.item.Outcome.{Outcome}
use Rattle.posix_types.specs.declared.reply.Errno.{Errno}
use Rattle.posix_types.specs.declared.reply.Reply.{Reply}
use Rattle.posix_types.specs.declared.reply.Stat.{Stat}
use Rattle.open_files.specs.posix_tables.NameRows.{too_long_row, walk_row}
use Rattle.open_files.specs.posix_tables.Names.{node_at_path}
use Rattle.open_files.specs.posix_tables.Open.{Tables}
use Rattle.open_files.specs.posix_tables.Outcomes.{answer}
use Rattle.open_files.specs.posix_spec.Afforded.{moves_data}
use Rattle.open_files.specs.posix_spec.Run.{after_call, run}
use Rattle.open_files.specs.posix_spec.State.{alone, State, swept}
use Rattle.open_files.specs.posix_spec.Step.{step}
use Rattle.open_files.specs.posix_spec.Tree.{tree}
use Rattle.live_step_laws.specs.world_model.Jobs.{Job}
use Rattle.live_step_laws.specs.world_model.Stands.{number}
use Rattle.live_step_laws.specs.world_image_laws.LentLaws.{SameBlocks}
use Rattle.live_step_laws.specs.live_model.Losses.{KeepsWhenLost}
use Rattle.live_step_laws.specs.live_model.Standing.{Kept}
use Rattle.live_step_laws.specs.world_step_laws.Steps.{LetsJobsBe}
use Rattle.file_calls.specs.declared.names.outcomes.NoMemory.{NoMemory}
use Rattle.file_calls.specs.declared.names.outcomes.Told.{Told}
use Rattle.file_calls.specs.Runs.{RunsAs, with_files}

-- The call is done, in whatever state they ran, beside jobs of others that are out: they run in its next state, and the outcome
-- is that of the step.
abbrev pub Answers : Who → Call → View → Tables → Files → View → Tables → Files → Outcome → Type 0
Answers who call k t f k2 t2 f2 outcome =
    (g : Geometry) (x : Kept) (n : ℕ) (s : State) → n + 1 < 2 ^ 31 → (runs : RunsAs g k t (with_files x f) n s)
    → LetsJobsBe s (who, call) runs.numbers runs.jobs
    → RunsAs g k2 t2 (with_files x f2) (n + 1) (after_call s (who, call)) × ((step s who call).outcome ≡ outcome)

-- The power went in it, whatever history led there.
abbrev pub Loses : Who → Call → View → Tables → Files → View → Type 0
Loses who call k t f k2 =
    (g : Geometry) (x : Kept) (n : ℕ) (start : State) (history : List Item) → n + 1 < 2 ^ 31
    → (runs : RunsAs g k t (with_files x f) n (run start history))
    → LetsJobsBe (run start history) (who, call) runs.numbers runs.jobs
    → KeepsWhenLost k.volume k2.cells x runs.jobs start history ((who, call) ∷ [])

-- The device is left of the one before: the same words are lent, and the journal of each image can be recovered.
abbrev pub LeavesDevice : Who → Call → View → Tables → Files → View → Type 0
LeavesDevice who call k t f k2 =
    (g : Geometry) (x : Kept) (n : ℕ) (s : State) → n + 1 < 2 ^ 31 → (runs : RunsAs g k t (with_files x f) n s)
    → LetsJobsBe s (who, call) runs.numbers runs.jobs → IsLeftOf g k.cells k2.cells

-- It left the tree as it is, or took a step.
abbrev pub IsSpent : Who → Call → View → Tables → Files → Supply → Supply → Type 0
IsSpent who call k t f old new =
    (g : Geometry) (x : Kept) (n : ℕ) (s : State) → RunsAs g k t (with_files x f) n s
    → (tree (after_call s (who, call)) ≡ tree s) ⊎ TakesAStep old new

-- WHAT A CALL ANSWERS AND LEAVES, and what it takes of the power: it is done, with the power on; the power went, and is off;
-- or memory ran out, and all is as before.
abbrev pub IsEnded : Who → Call → View → Tables → Files → View → Tables → Files → Supply → Supply → Result Told NoMemory
    → Type 0
IsEnded who call k t f k2 t2 f2 old new (Ok (Told.Answered outcome)) =
    Answers who call k t f k2 t2 f2 outcome × (is_on new ≡ true) × IsSpent who call k t f old new
IsEnded who call k t f k2 t2 f2 old new (Ok Told.PowerLost) = Loses who call k t f k2 × LeavesDevice who call k t f k2 × (is_on new ≡ false)
IsEnded who call k t f k2 t2 f2 old new (Err e) = (k2 ≡ k) × (t2 ≡ t) × (f2 ≡ f) × (new ≡ old)

-- Where it is not cut off, the log's base stays, and nothing comes to lie past the end of a file.
abbrev pub KeepsEnds : View → Files → View → Files → Supply → Type 0
KeepsEnds k f k2 f2 new = is_on new ≡ true → (k2.volume.base ≡ k.volume.base) × (FilesEnd k.volume f → FilesEnd k2.volume f2)

-- the device has its size, and the same words are lent
pub record HasSameLoans (old new : View) : Type 0 where
  pub size : length new.cells ≡ length old.cells
  pub lent : SameLent old.cells new.cells

-- the inode is that of a file
pub record IsFileOf (ino : ℕ) (v : Volume) : Type 0 where
  pub below : ino < length v.inodes
  pub is_file : (inode v ino).kind ≡ File

-- HALF WAY through a call of two changes: they run in a state whose tree is that of the call's end, beside the same jobs; and the
-- end is this state with the file swept, which goes if it has no name and nobody has it open. Of the volume v, in which the call
-- began, the lap and the blocks of the jobs stay.
pub record IsHalfWay (g : Geometry) (v : Volume) (k : View) (t : Tables) (x : Kept) (n : ℕ) (jobs : List Job)
    (end : State) (ino : ℕ) : Type 0 where
  pub geometry : k.volume.geometry ≡ v.geometry
  pub base : k.volume.base ≡ v.base
  pub blocks : SameBlocks v k.volume jobs
  pub middle : State
  pub runs : RunsAs g k t x n middle
  pub jobs_are : runs.jobs ≡ jobs
  pub file : IsFileOf ino k.volume
  pub ends : end ≡ swept alone middle (number runs.numbers ino)
  pub tree_is : tree middle ≡ tree end

-- a call came so far, in whatever state it began
abbrev pub ComesHalfWay : Who → Call → View → Tables → Files → View → Tables → ℕ → Type 0
ComesHalfWay who call k t f k1 t1 ino =
    (g : Geometry) (x : Kept) (n : ℕ) (s : State) → n + 1 < 2 ^ 31 → (runs : RunsAs g k t (with_files x f) n s)
    → LetsJobsBe s (who, call) runs.numbers runs.jobs
    → IsHalfWay g k.volume k1 t1 (with_files x f) (n + 1) runs.jobs (after_call s (who, call)) ino

-- the outcome of the call
abbrev pub IsReplyOf : Who → Call → View → Tables → Files → Outcome → Type 0
IsReplyOf who call k t f o = (g : Geometry) (x : Kept) (n : ℕ) (s : State) → RunsAs g k t (with_files x f) n s
    → (step s who call).outcome ≡ o

-- the outcome of a call that a row refused; an end of memory, or of power
abbrev pub told_of : KFault → Result Told NoMemory
told_of (KFault.Refused errno) = Ok (Told.Answered (answer (Reply.Error errno)))
told_of (KFault.Room room) = Ok (Told.Answered (record { reply = Reply.Error Errno.ENOSPC; room = Some room }))
told_of KFault.NoMemory = Err (record {})
told_of KFault.PowerLost = Ok Told.PowerLost

-- what a fault of the open files makes of a call
abbrev pub told_of_open : OpenFault → Result Told NoMemory
told_of_open (OpenFault.Full count) = Ok (Told.Answered (answer (Reply.Error Errno.EMFILE)))
told_of_open OpenFault.NotOpen = Ok (Told.Answered (answer (Reply.Error Errno.EBADF)))
told_of_open OpenFault.NoMemory = Err (record {})

-- what `stat` says of an inode of this kind and size
abbrev pub stat_by : Kind → ℕ → Stat
stat_by Free size = Stat.Directory
stat_by Directory size = Stat.Directory
stat_by File size = Stat.File size
stat_by Staging size = Stat.Directory

-- nothing stands at the path, which leads to a directory
pub record IsMissing (v : Volume) (path : List (List ℕ)) : Type 0 where
  pub short : too_long_row (volume_space v) path ≡ None
  pub walked : walk_row (volume_space v) path ≡ None
  pub none : node_at_path (volume_space v) path ≡ None

-- an `open` cuts no file of which something is staged
abbrev pub CutsNothingStaged : Volume → List (List ℕ) → Flags → Files → Type 0
CutsNothingStaged v path flags f = flags.truncate ≡ true → (ino : ℕ) → IsFound v path (Ok ino) → runs_in f ino ≡ []

-- The most steps that a call takes: 512, and 2^15 where it may move data, as an `open` that cuts.
abbrev pub most_steps : Call → ℕ
most_steps call = if moves_data call then 2 ^ 15 else 512
