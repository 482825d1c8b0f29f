-- How jobs come and go in flight, each law as one statement.
use Rattle.std.specs.Prelude.{◌≡◌, ◌≤◌, ◌+◌, ℕ, List, [], ◌∷◌, ◌++◌, length}
use Rattle.write_jobs.specs.pm_model.declared.Cell.{Cell}
use Rattle.write_jobs.specs.pm_model.Images.{IsImage}
use Rattle.write_jobs.specs.pm_model.Parts.{Part}
use Rattle.write_jobs.specs.pm_model.Words.{Words}
use Rattle.write_jobs.specs.layout_model.Journal.{journaled}
use Rattle.write_jobs.specs.layout_model.Places.{reserve}
use Rattle.write_jobs.specs.layout_model.declared.lines.Draft.{Draft}
use Rattle.write_jobs.specs.world_model.image_model.Room.{unused_blocks}
use Rattle.write_jobs.specs.layout_model.declared.lines.Kind.TheVariants.{File}
use Rattle.write_jobs.specs.world_model.image_model.Volume.{inode, Volume}
use Rattle.file_reads.specs.Reads.{FileCanBeRead}
use Rattle.file_reads.specs.k_split_model.Stands.{Stands}
use Rattle.write_jobs.specs.list_laws.Members.{In}
use Rattle.write_jobs.specs.world_model.posix_laws.Views.{need_of}
use Rattle.write_jobs.specs.commute_laws.posix_types.declared.call.Mode.{Mode}
use Rattle.write_jobs.specs.world_model.posix_spec.Run.{after_call}
use Rattle.write_jobs.specs.world_model.posix_spec.State.{room, State}
use Rattle.write_jobs.specs.world_model.JobLaws.{acted, needs}
use Rattle.write_jobs.specs.world_model.Jobs.{AreApartJobs, unfinished_call, Job, JobStands, live_claims}
use Rattle.write_jobs.specs.Jobs.{HoldWords}
use Rattle.write_jobs.specs.Blocks.{ArePutBack, GoOut, SpellWhole}
use Rattle.live_model.specs.Flying.{AreHomeLoans, FileState, IsFlying, with_entry}

-- A JOB BEGINS, last of those in flight: its blocks go out.
abbrev pub FliesBegun : Type 0
FliesBegun =
    (v : Volume) (d e : List Cell) (claims : List (ℕ × Draft)) (jobs : List Job) (j : Job) (files : ℕ → FileState) (numbers : List ℕ) (s : State) (count : ℕ)
    → IsFlying v d claims jobs files numbers s count → ((image : Words) → IsImage d image → JobStands v (live_claims v claims) (journaled image) numbers s j)
    → ((i : Job) → In i jobs → AreApartJobs i j) → needs s jobs + need_of s j.who j.call ≤ room s
    → length (live_claims v claims) + length jobs + reserve v.geometry ≤ unused_blocks v + 2
    → (s.mode ≡ Mode.Strict → j.found ≡ j.whole) → GoOut v j.draft d e → Stands v.geometry v e
    → IsFlying v e claims (jobs ++ j ∷ []) files numbers s count

-- A JOB FINISHES, in strict mode: its blocks come back with its words, its entry is claimed, its run is laid, and its call has acted.
abbrev pub FliesFinished : Type 0
FliesFinished =
    (v : Volume) (d e : List Cell) (claims : List (ℕ × Draft)) (a : List Job) (j : Job) (b : List Job) (files : ℕ → FileState) (numbers : List ℕ) (s : State) (count slot : ℕ) (loans : List Part) (words : List ℕ)
    → IsFlying v d claims (a ++ j ∷ b) files numbers s count → s.mode ≡ Mode.Strict → ArePutBack v j.draft loans d e → length loans ≡ j.draft.count → HoldWords loans words → SpellWhole j.draft words j.whole
    → IsFlying v e (claims ++ (slot, j.draft) ∷ []) (a ++ b) (with_entry files j.draft) numbers (after_call s (unfinished_call j)) count

-- A JOB LANDS, in whatever mode: its blocks come back with its words, its entry is claimed, its run is laid, and the state has what is found of it.
-- (In strict mode that is its whole bytes, so that its call has acted.)
abbrev pub FliesLanded : Type 0
FliesLanded =
    (v : Volume) (d e : List Cell) (claims : List (ℕ × Draft)) (a : List Job) (j : Job) (b : List Job) (files : ℕ → FileState) (numbers : List ℕ) (s : State) (count slot : ℕ) (loans : List Part) (words : List ℕ)
    → IsFlying v d claims (a ++ j ∷ b) files numbers s count → ArePutBack v j.draft loans d e → length loans ≡ j.draft.count → HoldWords loans words → SpellWhole j.draft words j.whole
    → IsFlying v e (claims ++ (slot, j.draft) ∷ []) (a ++ b) (with_entry files j.draft) numbers (acted numbers s j) count

-- A JOB IS GIVEN UP: its blocks come back with whatever they hold.
abbrev pub FliesGivenUp : Type 0
FliesGivenUp =
    (v : Volume) (d e : List Cell) (claims : List (ℕ × Draft)) (a : List Job) (j : Job) (b : List Job) (files : ℕ → FileState) (numbers : List ℕ) (s : State) (count : ℕ) (loans : List Part)
    → IsFlying v d claims (a ++ j ∷ b) files numbers s count → ArePutBack v j.draft loans d e → AreHomeLoans loans
    → IsFlying v e claims (a ++ b) files numbers s count

-- EACH FILE CAN BE READ meanwhile, by what is staged of it and its map.
abbrev pub FliesReadable : Type 0
FliesReadable =
    (v : Volume) (d : List Cell) (claims : List (ℕ × Draft)) (jobs : List Job) (files : ℕ → FileState) (numbers : List ℕ) (s : State) (count ino : ℕ)
    → IsFlying v d claims jobs files numbers s count → (inode v ino).kind ≡ File → FileCanBeRead v d (files ino).runs ino
