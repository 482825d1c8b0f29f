-- What jobs make of the device, each law as one statement.
use Rattle.std.specs.Prelude.{◌≡◌, ◌≤◌, ◌<◌, ◌+◌, ◌-◌, ◌*◌, ℕ, List, [], ◌∷◌, ◌++◌, length, slice_index}
use Rattle.pm_lines.specs.pm_model.declared.Cell.{Cell}
use Rattle.pm_lines.specs.pm_model.Images.{IsImage}
use Rattle.pm_lines.specs.pm_model.Parts.{Part}
use Rattle.pm_lines.specs.pm_model.Words.{Words}
use Rattle.layout_model.specs.Journal.{journaled}
use Rattle.layout_model.specs.Places.{reserve}
use Rattle.layout_model.specs.declared.lines.Draft.{Draft}
use Rattle.world_write_laws.specs.image_model.Room.{unused_blocks}
use Rattle.world_write_laws.specs.image_model.Volume.{Volume}
use Rattle.world_write_laws.specs.k_split_model.Stands.{Stands}
use Rattle.world_write_laws.specs.list_laws.Members.{In}
use Rattle.world_image_laws.specs.posix_tables.Bytes.{bytes_from, overwritten}
use Rattle.world_write_laws.specs.posix_spec.Run.{after_call}
use Rattle.world_write_laws.specs.posix_spec.State.{room, State}
use Rattle.world_write_laws.specs.posix_laws.Views.{need_of}
use Rattle.world_image_laws.specs.Images.{StandsFor}
use Rattle.world_write_laws.specs.world_model.JobLaws.{acted, needs}
use Rattle.world_write_laws.specs.world_model.Jobs.{AreApartJobs, unfinished_call, Job, JobStands, live_claims}
use Rattle.write_jobs.specs.Contents.{SpellBytes, staged_bytes}
use Rattle.write_jobs.specs.Jobs.{HoldWords}
use Rattle.write_jobs.specs.Blocks.{AreOut, ArePutBack, GoOut, SpellWhole}

-- A JOB BEGINS, last of those in flight: it stands by each image, apart from the others, and finds room and free blocks beside
-- them; its blocks go out; and the device, which stands at the volume still, stands for the state with the job in flight.
abbrev pub BeginsJob : Type 0
BeginsJob =
    (v : Volume) (d e : List Cell) (claims : List (ℕ × Draft)) (jobs : List Job) (j : Job) (numbers : List ℕ) (s : State) (count : ℕ)
    → StandsFor v d claims jobs numbers s count → ((image : Words) → IsImage d image → JobStands v (live_claims v claims) (journaled image) numbers s j)
    → ((i : Job) → In i jobs → AreApartJobs i j) → needs s jobs + need_of s j.who j.call ≤ room s
    → length (live_claims v claims) + length jobs + reserve v.geometry ≤ unused_blocks v + 2
    → GoOut v j.draft d e → Stands v.geometry v e
    → StandsFor v e claims (jobs ++ j ∷ []) numbers s count

-- A JOB FINISHES, in strict mode: its blocks come back with the words of its whole bytes, and the device stands for the state
-- after its call, with its entry claimed.
abbrev pub FinishesJob : Type 0
FinishesJob =
    (v : Volume) (d e : List Cell) (claims : List (ℕ × Draft)) (a : List Job) (j : Job) (b : List Job) (numbers : List ℕ) (s : State) (count slot : ℕ) (loans : List Part) (words : List ℕ)
    → StandsFor v d claims (a ++ j ∷ b) numbers s count → AreOut v j.draft d → ArePutBack v j.draft loans d e
    → length loans ≡ j.draft.count → HoldWords loans words → SpellWhole j.draft words j.whole → j.found ≡ j.whole
    → StandsFor v e (claims ++ (slot, j.draft) ∷ []) (a ++ b) numbers (after_call s (unfinished_call j)) count

-- A JOB LANDS, in whatever mode: its blocks come back with the words of its whole bytes, and the device stands for the state that has what is
-- found of it, with its entry claimed.
abbrev pub LandsJob : Type 0
LandsJob =
    (v : Volume) (d e : List Cell) (claims : List (ℕ × Draft)) (a : List Job) (j : Job) (b : List Job) (numbers : List ℕ) (s : State) (count slot : ℕ) (loans : List Part) (words : List ℕ)
    → StandsFor v d claims (a ++ j ∷ b) numbers s count → AreOut v j.draft d → ArePutBack v j.draft loans d e
    → length loans ≡ j.draft.count → HoldWords loans words → SpellWhole j.draft words j.whole
    → StandsFor v e (claims ++ (slot, j.draft) ∷ []) (a ++ b) numbers (acted numbers s j) count

-- A JOB IS GIVEN UP: its blocks come back with whatever they hold.
abbrev pub GivesUpJob : Type 0
GivesUpJob =
    (v : Volume) (d e : List Cell) (claims : List (ℕ × Draft)) (a : List Job) (j : Job) (b : List Job) (numbers : List ℕ) (s : State) (count : ℕ) (loans : List Part)
    → StandsFor v d claims (a ++ j ∷ b) numbers s count → AreOut v j.draft d → ArePutBack v j.draft loans d e
    → StandsFor v e claims (a ++ b) numbers s count

-- What the blocks of a write are to hold are the bytes of the file after it: from `first` on so many blocks, in which the write
-- lies.
abbrev pub StagesWhole : Type 0
StagesWhole =
    (file new : List ℕ) (start first count i : ℕ) → 4096 * first ≤ start → start + length new ≤ 4096 * (first + count) → i < 4096 * count
    → slice_index (staged_bytes (bytes_from file (4096 * first) (4096 * count)) (start - 4096 * first) new count) i ≡ slice_index (overwritten file start new) (4096 * first + i)

-- So the words that spell them spell the file.
abbrev pub SpellsWhole : Type 0
SpellsWhole =
    (draft : Draft) (words file new : List ℕ) (start : ℕ) → 4096 * draft.file_block ≤ start → start + length new ≤ 4096 * (draft.file_block + draft.count)
    → SpellBytes words (staged_bytes (bytes_from file (4096 * draft.file_block) (4096 * draft.count)) (start - 4096 * draft.file_block) new draft.count)
    → SpellWhole draft words (overwritten file start new)
