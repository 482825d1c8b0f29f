-- The laws of the World's exits, each as one statement.
use Rattle.std.specs.Prelude.{◌≡◌, ◌≢◌, ◌<◌, ◌+◌, ◌^◌, ℕ, true, false, length, Option, None, Some, List, [], ◌∷◌, Result}
use Rattle.world_write_laws.specs.world_step_laws.pm_model.declared.Cell.{Cell}
use Rattle.world_write_laws.specs.world_step_laws.pm_model.Words.{Words}
use Rattle.world_write_laws.specs.world_step_laws.layout_model.declared.lines.Draft.{Draft}
use Rattle.world_write_laws.specs.world_step_laws.layout_model.declared.lines.Kind.TheVariants.{File}
use Rattle.world_write_laws.specs.world_step_laws.image_model.Volume.{inode, Volume}
use Rattle.k_split.specs.k_split_model.MapChangesChanges.{with_size}
use Rattle.k_split.specs.k_split_model.Taken.{switched}
use Rattle.world_write_laws.specs.world_step_laws.volume_laws.Uses.{HasAllMaps}
use Rattle.world_write_laws.specs.world_step_laws.volume_change_laws.Changes.{MayDrop}
use Rattle.world_write_laws.specs.world_step_laws.k_split_model.ChangesChanges.{dropped}
use Rattle.world_write_laws.specs.world_step_laws.k_split_model.Spaces.{volume_space}
use Rattle.world_write_laws.specs.world_step_laws.k_split_model.View.{View}
use Rattle.k_split.specs.k_plans.Making.{IsMade}
use Rattle.k_split.specs.k_plans.Removing.{IsRemoved, IsUnlinked}
use Rattle.k_split.specs.k_plans.Renaming.{IsRenamed}
use Rattle.k_split.specs.layout_model.Spelling.{AreSpelled}
use Rattle.k_split.specs.k_plans.Whole.{IsWhole}
use Rattle.k_split.specs.declared.faults.KFault.{KFault}
use Rattle.k_split.specs.Answers.{IsAnswer, IsCut, IsDone, IsOff}
use Rattle.k_split.specs.MapChanges.{IsSizeAnswer}
use Rattle.world_write_laws.specs.world_step_laws.posix_types.declared.call.Call.{Call}
use Rattle.world_write_laws.specs.world_step_laws.posix_types.declared.call.Mode.{Mode}
use Rattle.world_write_laws.specs.world_step_laws.posix_types.declared.call.Who.{Who}
use Rattle.world_write_laws.specs.world_step_laws.posix_types.declared.handle.Flags.{Flags}
use Rattle.world_write_laws.specs.world_step_laws.posix_types.declared.handle.Handle.{Handle}
use Rattle.world_write_laws.specs.world_step_laws.posix_types.declared.item.Item.{Item}
use Rattle.world_write_laws.specs.world_step_laws.posix_types.declared.item.Outcome.{Outcome}
use Rattle.world_write_laws.specs.world_step_laws.posix_types.declared.reply.Reply.{Reply}
use Rattle.world_write_laws.specs.world_step_laws.posix_tables.NameRows.{mkdir_rows, open_rows, rename_rows, rmdir_rows, unlink_rows}
use Rattle.world_write_laws.specs.world_step_laws.posix_tables.Names.{node_at_path}
use Rattle.world_write_laws.specs.world_step_laws.posix_tables.Open.{is_full, is_open}
use Rattle.world_write_laws.specs.world_step_laws.posix_tables.Outcomes.{answer, first}
use Rattle.world_write_laws.specs.world_step_laws.posix_spec.Run.{after_call, Unfinished, run}
use Rattle.world_write_laws.specs.world_step_laws.posix_spec.State.{alone, State, swept, unnamed as unnamed_state}
use Rattle.world_write_laws.specs.world_step_laws.posix_spec.Step.{is_busy, step}
use Rattle.world_write_laws.specs.world_step_laws.posix_spec.Tree.{tree}
use Rattle.world_write_laws.specs.world_step_laws.world_model.Jobs.{Job, live_claims}
use Rattle.world_write_laws.specs.world_step_laws.world_model.Stands.{entries_of, number}
use Rattle.world_write_laws.specs.world_step_laws.Makers.{renumbered}
use Rattle.world_image_laws.specs.commute_laws.Orders.{AreTwoEach}
use Rattle.world_write_laws.specs.world_step_laws.Steps.{flights_of, LetsJobsBe}
use Rattle.world_write_laws.specs.world_step_laws.Worlds.{IsWorld}
use Rattle.world_image_laws.specs.Images.{HasLogHome, StandsFor}
use Rattle.world_image_laws.specs.ImagesLaws.{IsTreeOf}
use Rattle.world_image_laws.specs.Promised.{KeepsPromise}
use Rattle.world_image_laws.specs.Back.{IsKeptBack}
use Rattle.world_image_laws.specs.LentLaws.{AreFound, LeadsTo}
use Rattle.k_split_laws.specs.Going.{gone_by, IsGoing, IsNameCall, IsStep, moved_so_far, row_of_call}

-- ---- a change of K-Split

-- After a change that is done the World goes on.
abbrev pub GoesOn : Type 0
GoesOn =
    (touched : Option ℕ) (old new : View) (claims : List (ℕ × Draft)) (jobs : List Job) (numbers after : List ℕ) (s next : State) (count later : ℕ) → IsGoing old claims jobs numbers s count → IsDone old new
    → IsStep touched old.volume new.volume claims jobs numbers after s next count later → IsGoing new claims jobs after next later

-- Log lines that are at home show the claims still, and so they do where the change is cut off.
abbrev pub KeepsLog : Type 0
KeepsLog =
    (touched : Option ℕ) (old new : View) (claims : List (ℕ × Draft)) (jobs : List Job) (numbers after : List ℕ) (s next : State) (count later : ℕ) → IsGoing old claims jobs numbers s count → IsDone old new
    → IsStep touched old.volume new.volume claims jobs numbers after s next count later → HasLogHome old.volume old.cells claims → HasLogHome new.volume new.cells claims

-- A change of one call is cut off, in strict and in sync mode, with the log lines at home and no write in flight: the device
-- keeps the promise with that call unfinished.
abbrev pub KeepsPromiseCut : Type 0
KeepsPromiseCut =
    (touched : Option ℕ) (old new : View) (w : Volume) (claims : List (ℕ × Draft)) (numbers after : List ℕ) (s next : State) (count later : ℕ) (start : State) (history : List Item) (c : Unfinished) → start.mode ≢ Mode.Posix
    → IsGoing old claims [] numbers s count → HasLogHome old.volume old.cells claims → IsCut w old new → IsStep touched old.volume w claims [] numbers after s next count later
    → IsTreeOf start history c (tree s) → IsTreeOf start history c (tree next) → KeepsPromise old.volume.geometry new.cells start history (c ∷ [])

-- Where the power was off before the call began, it keeps the promise whatever is unfinished.
abbrev pub KeepsPromiseOff : Type 0
KeepsPromiseOff =
    (old new : View) (claims : List (ℕ × Draft)) (numbers : List ℕ) (start : State) (history : List Item) (unfinished : List Unfinished) (count : ℕ) → IsGoing old claims [] numbers (run start history) count
    → HasLogHome old.volume old.cells claims → IsOff old new → KeepsPromise old.volume.geometry new.cells start history unfinished

-- With writes in flight, in strict and in sync mode, the promise is kept of the device once all is put back, with this call as the last, where
-- the trees that the jobs may leave before and after the change are trees of the history's state;
abbrev pub KeepsImageCut : Type 0
KeepsImageCut =
    (touched : Option ℕ) (old new : View) (w : Volume) (claims : List (ℕ × Draft)) (jobs : List Job) (numbers after : List ℕ) (s next : State) (count later : ℕ) (start : State) (history : List Item) (c : Unfinished)
    (first : Words) → start.mode ≢ Mode.Posix → AreFound start jobs → IsGoing old claims jobs numbers s count → IsCut w old new
    → IsStep touched old.volume w claims jobs numbers after s next count later → LeadsTo start history c jobs s → LeadsTo start history c jobs next
    → IsKeptBack old.volume new.cells first claims jobs start history (c ∷ [])

-- and so it is where the power was off before the call began.
abbrev pub KeepsImageOff : Type 0
KeepsImageOff =
    (old new : View) (claims : List (ℕ × Draft)) (jobs : List Job) (numbers : List ℕ) (start : State) (history : List Item) (count : ℕ) (c : Unfinished) (first : Words)
    → start.mode ≢ Mode.Posix → AreFound start jobs → IsGoing old claims jobs numbers (run start history) count → IsOff old new
    → IsKeptBack old.volume new.cells first claims jobs start history (c ∷ [])

-- and where it is off between two changes of a call.
abbrev pub KeepsImageBetween : Type 0
KeepsImageBetween =
    (old new : View) (claims : List (ℕ × Draft)) (jobs : List Job) (numbers : List ℕ) (s start : State) (history : List Item) (count : ℕ) (c : Unfinished) (first : Words)
    → start.mode ≢ Mode.Posix → AreFound start jobs → IsGoing old claims jobs numbers s count → LeadsTo start history c jobs s → IsOff old new
    → IsKeptBack old.volume new.cells first claims jobs start history (c ∷ [])

-- ---- the changes, each a step of the World

-- `mkdir`
abbrev pub StepsMkdir : Type 0
StepsMkdir =
    (v : Volume) (d : List Cell) (claims : List (ℕ × Draft)) (jobs : List Job) (numbers : List ℕ) (s : State) (count : ℕ) (who : Who) (p : List (List ℕ)) (w : Volume) (ino : ℕ) → StandsFor v d claims jobs numbers s count
    → LetsJobsBe s (who, Call.Mkdir p) numbers jobs → count + 1 < 2 ^ 31 → AreSpelled p → first (mkdir_rows (volume_space v) p) ≡ None → IsMade true p v w ino
    → IsStep (Some ino) v w claims jobs numbers (renumbered numbers ino (length s.nodes)) s (after_call s (who, Call.Mkdir p)) count (count + 1)

-- an `open` that makes the file: in one step, with its description
abbrev pub StepsOpened : Type 0
StepsOpened =
    (v : Volume) (d : List Cell) (claims : List (ℕ × Draft)) (jobs : List Job) (numbers : List ℕ) (s : State) (count : ℕ) (who : Who) (h : Handle) (p : List (List ℕ)) (flags : Flags) (w : Volume) (ino : ℕ) → StandsFor v d claims jobs numbers s count
    → LetsJobsBe s (who, Call.Open h p flags) numbers jobs → count + 1 < 2 ^ 31 → AreSpelled p → first (open_rows (volume_space v) (is_full s.tables) (is_busy alone s p) p flags) ≡ None → IsMade false p v w ino
    → IsStep (Some ino) v w claims jobs numbers (renumbered numbers ino (length s.nodes)) s (after_call s (who, Call.Open h p flags)) count (count + 1)

-- The volume with a file that is cut to nothing: it has no bytes, no chain and no map.
abbrev pub cut_to_nothing : ℕ → Volume → Volume
cut_to_nothing ino v = switched ino (with_size 0 (inode v ino)) [] [] v

-- K-Split gives a file the size 0 by a change like those of names: it writes no block.
abbrev pub CutsAsAnswer : Type 0
CutsAsAnswer =
    (ino : ℕ) (old new : View) (result : Result (Unit {0}) KFault) → HasAllMaps old.volume → ino < length old.volume.inodes → IsSizeAnswer ino 0 old new result
    → IsAnswer None (λ (done : Unit {0}) w. w ≡ cut_to_nothing ino old.volume) old new result

-- an `open` that cuts the file that stands at the path, of which nothing is live
abbrev pub StepsCut : Type 0
StepsCut =
    (v : Volume) (d : List Cell) (claims : List (ℕ × Draft)) (jobs : List Job) (numbers : List ℕ) (s : State) (count : ℕ) (who : Who) (h : Handle) (p : List (List ℕ)) (flags : Flags) (ino : ℕ) (w : Volume) → StandsFor v d claims jobs numbers s count
    → LetsJobsBe s (who, Call.Open h p flags) numbers jobs → first (open_rows (volume_space v) (is_full s.tables) (is_busy alone s p) p flags) ≡ None → flags.truncate ≡ true → node_at_path (volume_space v) p ≡ Some ino → (inode v ino).kind ≡ File
    → entries_of ino (live_claims v claims) ≡ [] → ino < length v.inodes → IsWhole v → IsWhole w → w ≡ cut_to_nothing ino v
    → IsStep (Some ino) v w claims jobs numbers numbers s (after_call s (who, Call.Open h p flags)) count count

-- `rmdir`
abbrev pub StepsRmdir : Type 0
StepsRmdir =
    (v : Volume) (d : List Cell) (claims : List (ℕ × Draft)) (jobs : List Job) (numbers : List ℕ) (s : State) (count : ℕ) (who : Who) (p : List (List ℕ)) (w : Volume) → StandsFor v d claims jobs numbers s count
    → LetsJobsBe s (who, Call.Rmdir p) numbers jobs → first (rmdir_rows (volume_space v) p) ≡ None → (is : IsRemoved p v w) → IsStep (Some is.entry.child) v w claims jobs numbers numbers s (after_call s (who, Call.Rmdir p)) count count

-- `unlink`: first the name goes; then the file may be dropped; and the state of the call's end is that without the name, with
-- the file swept
abbrev pub StepsUnlinked : Type 0
StepsUnlinked =
    (v : Volume) (d : List Cell) (claims : List (ℕ × Draft)) (jobs : List Job) (numbers : List ℕ) (s : State) (count : ℕ) (p : List (List ℕ)) (w : Volume) (ino : ℕ) → StandsFor v d claims jobs numbers s count
    → IsUnlinked p v w ino → IsStep None v w claims jobs numbers numbers s (unnamed_state s p) count count

abbrev pub UnlinksFile : Type 0
UnlinksFile =
    (v : Volume) (d : List Cell) (claims : List (ℕ × Draft)) (jobs : List Job) (numbers : List ℕ) (s : State) (count : ℕ) (p : List (List ℕ)) (w : Volume) (ino : ℕ) → StandsFor v d claims jobs numbers s count
    → IsUnlinked p v w ino → MayDrop ino w

abbrev pub StateOfUnlink : Type 0
StateOfUnlink =
    (v : Volume) (d : List Cell) (claims : List (ℕ × Draft)) (jobs : List Job) (numbers : List ℕ) (s : State) (count : ℕ) (who : Who) (p : List (List ℕ)) (w : Volume) (ino : ℕ) → StandsFor v d claims jobs numbers s count
    → first (unlink_rows (volume_space v) p) ≡ None → IsUnlinked p v w ino → after_call s (who, Call.Unlink p) ≡ swept alone (unnamed_state s p) (number numbers ino)

-- a file without a name goes, which nobody has open
abbrev pub StepsDropped : Type 0
StepsDropped =
    (v : Volume) (d : List Cell) (claims : List (ℕ × Draft)) (jobs : List Job) (numbers : List ℕ) (s : State) (count c : ℕ) → StandsFor v d claims jobs numbers s count
    → MayDrop c v → is_open s.tables (number numbers c) ≡ false → IsStep (Some c) v (dropped c v) claims jobs numbers numbers s (swept alone s (number numbers c)) count count

-- `rename`: what moves, moves, and a directory that stood there goes; a file that stood there loses its name
abbrev pub StepsRename : Type 0
StepsRename =
    (v : Volume) (d : List Cell) (claims : List (ℕ × Draft)) (jobs : List Job) (numbers : List ℕ) (s : State) (count : ℕ) (who : Who) (p q : List (List ℕ)) (w : Volume) (lost : Option ℕ) → StandsFor v d claims jobs numbers s count
    → LetsJobsBe s (who, Call.Rename p q) numbers jobs → first (rename_rows (volume_space v) p q) ≡ None → AreSpelled q → (is : IsRenamed p q v w lost) → IsStep (gone_by v is.moving.target) v w claims jobs numbers numbers s (moved_so_far lost s who p q) count count

-- which may be dropped then; and the state of the call's end is that so far, with the file swept
abbrev pub RenamesOverFile : Type 0
RenamesOverFile =
    (v : Volume) (d : List Cell) (claims : List (ℕ × Draft)) (jobs : List Job) (numbers : List ℕ) (s : State) (count : ℕ) (who : Who) (p q : List (List ℕ)) (w : Volume) (ino : ℕ) → StandsFor v d claims jobs numbers s count
    → first (rename_rows (volume_space v) p q) ≡ None → IsRenamed p q v w (Some ino)
    → MayDrop ino w × (after_call s (who, Call.Rename p q) ≡ swept alone (moved_so_far (Some ino) s who p q) (number numbers ino))

-- ---- the trees between the two changes of a call are that of its end

abbrev pub TreeOfUnlink : Type 0
TreeOfUnlink =
    (v : Volume) (d : List Cell) (claims : List (ℕ × Draft)) (jobs : List Job) (numbers : List ℕ) (s : State) (count : ℕ) (who : Who) (p : List (List ℕ)) (w : Volume) (ino : ℕ) → StandsFor v d claims jobs numbers s count
    → first (unlink_rows (volume_space v) p) ≡ None → IsUnlinked p v w ino → tree (unnamed_state s p) ≡ tree (after_call s (who, Call.Unlink p))

abbrev pub TreeOfRename : Type 0
TreeOfRename =
    (v : Volume) (d : List Cell) (claims : List (ℕ × Draft)) (jobs : List Job) (numbers : List ℕ) (s : State) (count : ℕ) (who : Who) (p q : List (List ℕ)) (w : Volume) (lost : Option ℕ) → StandsFor v d claims jobs numbers s count
    → first (rename_rows (volume_space v) p q) ≡ None → IsRenamed p q v w lost → tree (moved_so_far lost s who p q) ≡ tree (after_call s (who, Call.Rename p q))

-- So it is beside writes in flight: where the trees that they may leave after a file went are trees of the history's state, so are
-- those that they may leave before.
abbrev pub LeadsSwept : Type 0
LeadsSwept =
    (v : Volume) (claims : List (ℕ × Draft)) (jobs : List Job) (f : Words) (numbers : List ℕ) (s : State) (count n : ℕ) (start : State) (history : List Item) (c : Unfinished) → IsWorld v claims jobs f numbers s count → n ≢ 0
    → AreTwoEach (flights_of numbers jobs) → LeadsTo start history c jobs (swept alone s n) → LeadsTo start history c jobs s

-- ---- the replies

-- A call that a row of the volume refuses answers what that row says, and changes nothing; one that none refuses is answered.
abbrev pub RefusedByRow : Type 0
RefusedByRow =
    (v : Volume) (d : List Cell) (claims : List (ℕ × Draft)) (jobs : List Job) (numbers : List ℕ) (s : State) (count : ℕ) (who : Who) (call : Call) (outcome : Outcome) → StandsFor v d claims jobs numbers s count
    → IsNameCall call → row_of_call (volume_space v) call ≡ Some outcome → step s who call ≡ record { state = s; outcome = outcome }

abbrev pub DoneByRow : Type 0
DoneByRow =
    (v : Volume) (d : List Cell) (claims : List (ℕ × Draft)) (jobs : List Job) (numbers : List ℕ) (s : State) (count : ℕ) (who : Who) (call : Call) → StandsFor v d claims jobs numbers s count
    → IsNameCall call → row_of_call (volume_space v) call ≡ None → (step s who call).outcome ≡ answer Reply.Ok
