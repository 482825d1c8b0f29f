-- The laws of changes and replies of a volume that is seen as a state, each as one statement: they look at no device.
use Rattle.std.specs.Prelude.{◌≡◌, ◌<◌, ◌+◌, ◌^◌, ℕ, true, false, length, Option, None, Some, List, []}
use Rattle.world_write_laws.specs.world_step_laws.layout_model.declared.lines.Draft.{Draft}
use Rattle.world_write_laws.specs.world_step_laws.layout_model.declared.lines.Kind.TheVariants.{File}
use Rattle.world_write_laws.specs.world_step_laws.image_model.Volume.{inode, Volume}
use Rattle.world_write_laws.specs.world_step_laws.volume_change_laws.Changes.{MayDrop}
use Rattle.world_write_laws.specs.world_step_laws.k_split_model.ChangesChanges.{dropped}
use Rattle.world_write_laws.specs.world_step_laws.k_split_model.Spaces.{volume_space}
use Rattle.k_split.specs.k_plans.Making.{IsMade}
use Rattle.k_split.specs.k_plans.Removing.{IsRemoved, IsUnlinked}
use Rattle.k_split.specs.k_plans.Renaming.{IsRenamed}
use Rattle.k_split.specs.layout_model.Spelling.{AreSpelled}
use Rattle.k_split.specs.k_plans.Whole.{IsWhole}
use Rattle.world_write_laws.specs.world_step_laws.posix_types.declared.call.Call.{Call}
use Rattle.world_write_laws.specs.world_step_laws.posix_types.declared.call.Who.{Who}
use Rattle.world_write_laws.specs.world_step_laws.posix_types.declared.handle.Flags.{Flags}
use Rattle.world_write_laws.specs.world_step_laws.posix_types.declared.handle.Handle.{Handle}
use Rattle.world_write_laws.specs.world_step_laws.posix_types.declared.item.Outcome.{Outcome}
use Rattle.world_write_laws.specs.world_step_laws.posix_types.declared.reply.Reply.{Reply}
use Rattle.world_write_laws.specs.world_step_laws.posix_tables.NameRows.{mkdir_rows, open_rows, rename_rows, rmdir_rows, unlink_rows}
use Rattle.world_write_laws.specs.world_step_laws.posix_tables.Names.{node_at_path}
use Rattle.world_write_laws.specs.world_step_laws.posix_tables.Open.{is_full, is_open}
use Rattle.world_write_laws.specs.world_step_laws.posix_tables.Outcomes.{answer, first}
use Rattle.world_write_laws.specs.world_step_laws.posix_spec.Run.{after_call}
use Rattle.world_write_laws.specs.world_step_laws.posix_spec.State.{alone, State, swept, unnamed as unnamed_state}
use Rattle.world_write_laws.specs.world_step_laws.posix_spec.Step.{is_busy, step}
use Rattle.world_write_laws.specs.world_step_laws.posix_spec.Tree.{tree}
use Rattle.world_write_laws.specs.world_step_laws.world_model.Jobs.{Job, live_claims}
use Rattle.world_write_laws.specs.world_step_laws.world_model.Stands.{entries_of, number}
use Rattle.world_write_laws.specs.world_step_laws.Makers.{renumbered}
use Rattle.world_write_laws.specs.world_step_laws.Steps.{LetsJobsBe}
use Rattle.k_split_laws.specs.Going.{gone_by, IsNameCall, IsStep, moved_so_far, row_of_call}
use Rattle.k_split_laws.specs.Laws.{cut_to_nothing}
use Rattle.k_split_laws.specs.Seen.{SeenFor}

-- `mkdir`
abbrev pub StepsMkdirSeen : Type 0
StepsMkdirSeen =
    (v : Volume) (claims : List (ℕ × Draft)) (jobs : List Job) (numbers : List ℕ) (s : State) (count : ℕ) (who : Who) (p : List (List ℕ)) (w : Volume) (ino : ℕ) → SeenFor v claims jobs numbers s count
    → LetsJobsBe s (who, Call.Mkdir p) numbers jobs → count + 1 < 2 ^ 31 → AreSpelled p → first (mkdir_rows (volume_space v) p) ≡ None → IsMade true p v w ino
    → IsStep (Some ino) v w claims jobs numbers (renumbered numbers ino (length s.nodes)) s (after_call s (who, Call.Mkdir p)) count (count + 1)

-- an `open` that makes the file
abbrev pub StepsOpenedSeen : Type 0
StepsOpenedSeen =
    (v : Volume) (claims : List (ℕ × Draft)) (jobs : List Job) (numbers : List ℕ) (s : State) (count : ℕ) (who : Who) (h : Handle) (p : List (List ℕ)) (flags : Flags) (w : Volume) (ino : ℕ) → SeenFor v claims jobs numbers s count
    → LetsJobsBe s (who, Call.Open h p flags) numbers jobs → count + 1 < 2 ^ 31 → AreSpelled p → first (open_rows (volume_space v) (is_full s.tables) (is_busy alone s p) p flags) ≡ None → IsMade false p v w ino
    → IsStep (Some ino) v w claims jobs numbers (renumbered numbers ino (length s.nodes)) s (after_call s (who, Call.Open h p flags)) count (count + 1)

-- an `open` that cuts the file that stands at the path, of which nothing is live
abbrev pub StepsCutSeen : Type 0
StepsCutSeen =
    (v : Volume) (claims : List (ℕ × Draft)) (jobs : List Job) (numbers : List ℕ) (s : State) (count : ℕ) (who : Who) (h : Handle) (p : List (List ℕ)) (flags : Flags) (ino : ℕ) (w : Volume) → SeenFor v claims jobs numbers s count
    → LetsJobsBe s (who, Call.Open h p flags) numbers jobs → first (open_rows (volume_space v) (is_full s.tables) (is_busy alone s p) p flags) ≡ None → flags.truncate ≡ true → node_at_path (volume_space v) p ≡ Some ino → (inode v ino).kind ≡ File
    → entries_of ino (live_claims v claims) ≡ [] → ino < length v.inodes → IsWhole v → IsWhole w → w ≡ cut_to_nothing ino v
    → IsStep (Some ino) v w claims jobs numbers numbers s (after_call s (who, Call.Open h p flags)) count count

-- `rmdir`
abbrev pub StepsRmdirSeen : Type 0
StepsRmdirSeen =
    (v : Volume) (claims : List (ℕ × Draft)) (jobs : List Job) (numbers : List ℕ) (s : State) (count : ℕ) (who : Who) (p : List (List ℕ)) (w : Volume) → SeenFor v claims jobs numbers s count
    → LetsJobsBe s (who, Call.Rmdir p) numbers jobs → first (rmdir_rows (volume_space v) p) ≡ None → (is : IsRemoved p v w) → IsStep (Some is.entry.child) v w claims jobs numbers numbers s (after_call s (who, Call.Rmdir p)) count count

-- `unlink`: first the name goes;
abbrev pub StepsUnlinkedSeen : Type 0
StepsUnlinkedSeen =
    (v : Volume) (claims : List (ℕ × Draft)) (jobs : List Job) (numbers : List ℕ) (s : State) (count : ℕ) (p : List (List ℕ)) (w : Volume) (ino : ℕ) → SeenFor v claims jobs numbers s count
    → IsUnlinked p v w ino → IsStep None v w claims jobs numbers numbers s (unnamed_state s p) count count

-- then the file may be dropped;
abbrev pub UnlinksFileSeen : Type 0
UnlinksFileSeen =
    (v : Volume) (claims : List (ℕ × Draft)) (jobs : List Job) (numbers : List ℕ) (s : State) (count : ℕ) (p : List (List ℕ)) (w : Volume) (ino : ℕ) → SeenFor v claims jobs numbers s count
    → IsUnlinked p v w ino → MayDrop ino w

-- and the state of the call's end is that without the name, with the file swept
abbrev pub StateOfUnlinkSeen : Type 0
StateOfUnlinkSeen =
    (v : Volume) (claims : List (ℕ × Draft)) (jobs : List Job) (numbers : List ℕ) (s : State) (count : ℕ) (who : Who) (p : List (List ℕ)) (w : Volume) (ino : ℕ) → SeenFor v claims jobs numbers s count
    → first (unlink_rows (volume_space v) p) ≡ None → IsUnlinked p v w ino → after_call s (who, Call.Unlink p) ≡ swept alone (unnamed_state s p) (number numbers ino)

-- a file without a name goes, which nobody has open
abbrev pub StepsDroppedSeen : Type 0
StepsDroppedSeen =
    (v : Volume) (claims : List (ℕ × Draft)) (jobs : List Job) (numbers : List ℕ) (s : State) (count c : ℕ) → SeenFor v claims jobs numbers s count
    → MayDrop c v → is_open s.tables (number numbers c) ≡ false → IsStep (Some c) v (dropped c v) claims jobs numbers numbers s (swept alone s (number numbers c)) count count

-- `rename`: what moves, moves; a file that stood there loses its name,
abbrev pub StepsRenameSeen : Type 0
StepsRenameSeen =
    (v : Volume) (claims : List (ℕ × Draft)) (jobs : List Job) (numbers : List ℕ) (s : State) (count : ℕ) (who : Who) (p q : List (List ℕ)) (w : Volume) (lost : Option ℕ) → SeenFor v claims jobs numbers s count
    → LetsJobsBe s (who, Call.Rename p q) numbers jobs → first (rename_rows (volume_space v) p q) ≡ None → AreSpelled q → (is : IsRenamed p q v w lost) → IsStep (gone_by v is.moving.target) v w claims jobs numbers numbers s (moved_so_far lost s who p q) count count

-- and may be dropped then; and the state of the call's end is that so far, with the file swept
abbrev pub RenamesOverFileSeen : Type 0
RenamesOverFileSeen =
    (v : Volume) (claims : List (ℕ × Draft)) (jobs : List Job) (numbers : List ℕ) (s : State) (count : ℕ) (who : Who) (p q : List (List ℕ)) (w : Volume) (ino : ℕ) → SeenFor v claims jobs numbers s count
    → first (rename_rows (volume_space v) p q) ≡ None → IsRenamed p q v w (Some ino)
    → MayDrop ino w × (after_call s (who, Call.Rename p q) ≡ swept alone (moved_so_far (Some ino) s who p q) (number numbers ino))

-- the tree between the two changes of a call is that of its end
abbrev pub TreeOfUnlinkSeen : Type 0
TreeOfUnlinkSeen =
    (v : Volume) (claims : List (ℕ × Draft)) (jobs : List Job) (numbers : List ℕ) (s : State) (count : ℕ) (who : Who) (p : List (List ℕ)) (w : Volume) (ino : ℕ) → SeenFor v claims jobs numbers s count
    → first (unlink_rows (volume_space v) p) ≡ None → IsUnlinked p v w ino → tree (unnamed_state s p) ≡ tree (after_call s (who, Call.Unlink p))

-- so it is of `rename`
abbrev pub TreeOfRenameSeen : Type 0
TreeOfRenameSeen =
    (v : Volume) (claims : List (ℕ × Draft)) (jobs : List Job) (numbers : List ℕ) (s : State) (count : ℕ) (who : Who) (p q : List (List ℕ)) (w : Volume) (lost : Option ℕ) → SeenFor v claims jobs numbers s count
    → first (rename_rows (volume_space v) p q) ≡ None → IsRenamed p q v w lost → tree (moved_so_far lost s who p q) ≡ tree (after_call s (who, Call.Rename p q))

-- a call that a row of the volume refuses answers what that row says, and changes nothing;
abbrev pub RefusedByRowSeen : Type 0
RefusedByRowSeen =
    (v : Volume) (claims : List (ℕ × Draft)) (jobs : List Job) (numbers : List ℕ) (s : State) (count : ℕ) (who : Who) (call : Call) (outcome : Outcome) → SeenFor v claims jobs numbers s count
    → IsNameCall call → row_of_call (volume_space v) call ≡ Some outcome → step s who call ≡ record { state = s; outcome = outcome }

-- one that none refuses is answered
abbrev pub DoneByRowSeen : Type 0
DoneByRowSeen =
    (v : Volume) (claims : List (ℕ × Draft)) (jobs : List Job) (numbers : List ℕ) (s : State) (count : ℕ) (who : Who) (call : Call) → SeenFor v claims jobs numbers s count
    → IsNameCall call → row_of_call (volume_space v) call ≡ None → (step s who call).outcome ≡ answer Reply.Ok
