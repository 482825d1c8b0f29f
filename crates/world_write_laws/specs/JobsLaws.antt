-- The laws of jobs and laps, of resized files and of bytes in place, each as one statement. `IsWorld v claims jobs f numbers s count`: the World is valid,
-- `count` nodes were made since the lap began, and `numbers` has the node of each inode.
use Rattle.std.specs.Prelude.{◌≡◌, ◌≤◌, ◌+◌, ℕ, true, List, [], ◌∷◌, ◌++◌, None, Some, slice_set}
use Rattle.world_step_laws.specs.world_model.pm_model.Words.{Words}
use Rattle.world_step_laws.specs.world_model.layout_model.declared.lines.Draft.{Draft}
use Rattle.world_step_laws.specs.world_model.image_model.Reading.{base_set}
use Rattle.world_step_laws.specs.world_model.image_model.Volume.{Volume}
use Rattle.world_step_laws.specs.world_model.posix_types.declared.call.Call.{Call}
use Rattle.world_step_laws.specs.world_model.posix_types.declared.call.Who.{Who}
use Rattle.world_step_laws.specs.world_model.posix_types.declared.handle.Flags.{Flags}
use Rattle.world_step_laws.specs.world_model.posix_types.declared.handle.Handle.{Handle}
use Rattle.world_step_laws.specs.world_model.posix_tables.declared.nodes.Node.{Node}
use Rattle.world_step_laws.specs.world_model.posix_tables.Bytes.{resized}
use Rattle.world_step_laws.specs.world_model.posix_tables.NameRows.{open_rows}
use Rattle.world_step_laws.specs.world_model.posix_tables.Open.{is_full}
use Rattle.world_step_laws.specs.world_model.posix_tables.Outcomes.{first}
use Rattle.world_step_laws.specs.world_model.posix_spec.FileRows.{content, truncate_rows}
use Rattle.world_step_laws.specs.world_model.posix_spec.Run.{after_call}
use Rattle.world_step_laws.specs.world_model.posix_spec.State.{alone, room, space, State}
use Rattle.world_step_laws.specs.world_model.posix_spec.Step.{is_busy}
use Rattle.world_step_laws.specs.world_model.crash_spec.Busy.{waits_for}
use Rattle.world_step_laws.specs.commute_laws.Needs.{needs as needs_of}
use Rattle.world_step_laws.specs.commute_laws.Rooms.{FitsBeside}
use Rattle.world_step_laws.specs.world_model.list_laws.Members.{In}
use Rattle.world_step_laws.specs.world_model.posix_laws.Views.{need_of}
use Rattle.world_step_laws.specs.world_model.Jobs.{AreApartJobs, unfinished_call, HoldsWhole, Job, JobStands, live_claims}
use Rattle.world_step_laws.specs.world_model.Shown.{SameButLent}
use Rattle.world_step_laws.specs.world_model.Stands.{entries_of, number}
use Rattle.world_step_laws.specs.world_model.JobLaws.{acted, needs}
use Rattle.world_step_laws.specs.Steps.{AreBeside, flights_of, GoOn, LetsJobsBe}
use Rattle.world_step_laws.specs.Touched.{only}
use Rattle.world_step_laws.specs.Worlds.{IsWorld}
use Rattle.world_write_laws.specs.Places.{WritesInPlace}
use Rattle.world_write_laws.specs.Resizes.{HasAlone, Resizes}

-- ---- jobs

-- a job begins, last of those in flight: it stands, apart from the others, and its need finds room beside theirs
abbrev pub KeepsBegun : Type 0
KeepsBegun =
    (v : Volume) (claims : List (ℕ × Draft)) (jobs : List Job) (j : Job) (f : Words) (numbers : List ℕ) (s : State)
    (count : ℕ)
    → IsWorld v claims jobs f numbers s count → JobStands v (live_claims v claims) f numbers s j
    → ((i : Job) → In i jobs → AreApartJobs i j) → needs s jobs + need_of s j.who j.call ≤ room s
    → IsWorld v claims (jobs ++ j ∷ []) f numbers s count

-- jobs are filled: words of blocks that are lent to them change
abbrev pub KeepsFilled : Type 0
KeepsFilled =
    (v : Volume) (claims : List (ℕ × Draft)) (jobs : List Job) (f g : Words) (numbers : List ℕ) (s : State) (count : ℕ)
    → IsWorld v claims jobs f numbers s count → SameButLent v jobs f g → IsWorld v claims jobs g numbers s count

-- any of the jobs lands: its blocks hold what is found of it, its entry is claimed in a slot, and the state has what is found
abbrev pub KeepsLanded : Type 0
KeepsLanded =
    (v : Volume) (claims : List (ℕ × Draft)) (a : List Job) (j : Job) (b : List Job) (f : Words) (numbers : List ℕ)
    (s : State) (count slot : ℕ)
    → IsWorld v claims (a ++ j ∷ b) f numbers s count → HoldsWhole v f j.draft j.found
    → IsWorld v (claims ++ (slot, j.draft) ∷ []) (a ++ b) f numbers (acted numbers s j) count

-- any of the jobs finishes: its blocks hold its whole bytes, its entry is claimed in a slot, and its call has acted
abbrev pub KeepsFinished : Type 0
KeepsFinished =
    (v : Volume) (claims : List (ℕ × Draft)) (a : List Job) (j : Job) (b : List Job) (f : Words) (numbers : List ℕ)
    (s : State) (count slot : ℕ)
    → IsWorld v claims (a ++ j ∷ b) f numbers s count → HoldsWhole v f j.draft j.found → j.found ≡ j.whole
    → IsWorld v (claims ++ (slot, j.draft) ∷ []) (a ++ b) f numbers (after_call s (unfinished_call j)) count

-- any of the jobs is given up
abbrev pub KeepsGivenUp : Type 0
KeepsGivenUp =
    (v : Volume) (claims : List (ℕ × Draft)) (a : List Job) (j : Job) (b : List Job) (f : Words) (numbers : List ℕ)
    (s : State) (count : ℕ)
    → IsWorld v claims (a ++ j ∷ b) f numbers s count → IsWorld v claims (a ++ b) f numbers s count

-- ---- laps

-- a new lap begins where nothing is live and no job is in flight: there are no claims, and no node was made
abbrev pub KeepsLap : Type 0
KeepsLap =
    (v : Volume) (claims : List (ℕ × Draft)) (f : Words) (numbers : List ℕ) (s : State) (count base : ℕ)
    → IsWorld v claims [] f numbers s count → live_claims v claims ≡ []
    → IsWorld (base_set base v) [] [] f numbers s 0

-- ---- files that are resized, once their runs are published

-- `truncate`: nothing of the file is live, and the volume has the file with its new bytes
abbrev pub KeepsTruncated : Type 0
KeepsTruncated =
    (v w : Volume) (claims : List (ℕ × Draft)) (jobs : List Job) (f : Words) (numbers : List ℕ) (s : State) (count : ℕ)
    (who : Who) (h : Handle) (n ino : ℕ)
    → IsWorld v claims jobs f numbers s count → LetsJobsBe s (who, Call.Truncate h n) numbers jobs
    → FitsBeside s (who, Call.Truncate h n) (needs_of s (flights_of numbers jobs))
    → first (truncate_rows s who h n) ≡ None → waits_for s (who, Call.Truncate h n) ≡ Some (number numbers ino)
    → Resizes v w ino → entries_of ino (live_claims v claims) ≡ [] → HasAlone w f ino (resized (content s who h) n)
    → IsWorld w claims jobs f numbers (after_call s (who, Call.Truncate h n)) count

-- an `open` that cuts the file
abbrev pub KeepsCut : Type 0
KeepsCut =
    (v w : Volume) (claims : List (ℕ × Draft)) (jobs : List Job) (f : Words) (numbers : List ℕ) (s : State) (count : ℕ)
    (who : Who) (h : Handle) (p : List (List ℕ)) (flags : Flags) (ino : ℕ)
    → IsWorld v claims jobs f numbers s count → LetsJobsBe s (who, Call.Open h p flags) numbers jobs
    → first (open_rows (space s) (is_full s.tables) (is_busy alone s p) p flags) ≡ None → flags.truncate ≡ true
    → waits_for s (who, Call.Open h p flags) ≡ Some (number numbers ino)
    → Resizes v w ino → entries_of ino (live_claims v claims) ≡ [] → HasAlone w f ino []
    → IsWorld w claims jobs f numbers (after_call s (who, Call.Open h p flags)) count

-- ---- bytes in place

-- bytes of a file that no job has are written where they lie, and the next state has them
abbrev pub KeepsInPlace : Type 0
KeepsInPlace =
    (v : Volume) (claims : List (ℕ × Draft)) (jobs : List Job) (f g : Words) (numbers : List ℕ) (s new : State)
    (count ino : ℕ) (bytes : List ℕ) (published : ℕ)
    → IsWorld v claims jobs f numbers s count → WritesInPlace v (live_claims v claims) f g ino bytes
    → AreBeside (only ino) jobs → GoOn s new numbers jobs → new.entries ≡ s.entries → new.shape ≡ s.shape
    → new.nodes ≡ slice_set s.nodes (number numbers ino) (Node.File (record { bytes = bytes; published = published }))
    → IsWorld v claims jobs g numbers new count

-- A job finishes in sync mode: its entry is claimed, and then the bytes of its file below the old length are written in place,
-- so that the file has its whole bytes; its call has acted.
abbrev pub KeepsFinishedInPlace : Type 0
KeepsFinishedInPlace =
    (v : Volume) (claims : List (ℕ × Draft)) (a : List Job) (j : Job) (b : List Job) (f g : Words) (numbers : List ℕ)
    (s : State) (count slot : ℕ)
    → IsWorld v claims (a ++ j ∷ b) f numbers s count → HoldsWhole v f j.draft j.found
    → WritesInPlace v (live_claims v (claims ++ (slot, j.draft) ∷ [])) f g j.draft.ino j.whole
    → IsWorld v (claims ++ (slot, j.draft) ∷ []) (a ++ b) g numbers (after_call s (unfinished_call j)) count
