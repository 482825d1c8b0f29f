-- The images of a device whose log lines and data blocks are out: those that a power loss may leave once each of them is put
-- back as it was at that moment; and the promise for all of them.
use Rattle.std.specs.Prelude.{ℕ, List, [], ◌∷◌, ◌++◌, length, map, take, drop, Option, None, Some}
use Rattle.image_laws.specs.pm_model.declared.Cell.{Cell}
use Rattle.image_laws.specs.pm_model.Parts.{IsImageWith, put_back}
use Rattle.image_laws.specs.pm_model.Words.{Words}
use Rattle.image_laws.specs.layout_model.Journal.{journaled}
use Rattle.image_laws.specs.layout_model.declared.lines.Draft.{Draft}
use Rattle.image_laws.specs.image_model.Honest.{IsHonestWith}
use Rattle.image_laws.specs.image_model.Volume.{Volume}
use Rattle.world_step_laws.specs.commute_laws.posix_types.declared.item.Item.{Item}
use Rattle.world_step_laws.specs.commute_laws.posix_spec.Run.{Unfinished}
use Rattle.world_step_laws.specs.commute_laws.posix_spec.State.{State}
use Rattle.world_step_laws.specs.world_model.Jobs.{unfinished_call, Job}
use Rattle.world_step_laws.specs.world_model.Shown.{AreFilled}
use Rattle.world_step_laws.specs.world_model.Lines.{AreLinesOut}
use Rattle.world_image_laws.specs.Promised.{IsKept}

-- The cells that are put back are `back`. The lines hold the claims, and the entries of filled jobs as far as they came, over
-- the words that they had when the lap began (`first`); `slots` says of each job which line it claimed, if it is filled and
-- claimed one. The image is one of the device with these cells, honest, and the blocks of filled jobs hold what is found of
-- them.
pub record IsPutBack (v : Volume) (d : List Cell) (back : ℕ → Cell) (first : Words) (claims : List (ℕ × Draft)) (jobs : List Job) (slots : List (Option ℕ)) (image : Words) : Type 0 where
  pub lines : AreLinesOut v (put_back d back) first claims jobs slots
  pub image_is : IsImageWith d back image
  pub honest : IsHonestWith v.geometry d back image
  pub filled : AreFilled v (journaled image) jobs slots

-- The jobs whose entry may stand in the log: those that have a slot, in their order; and their calls.
abbrev pub jobs_in_log : List (Option ℕ) → List Job → List Job
jobs_in_log [] jobs = []
jobs_in_log (o ∷ slots) [] = []
jobs_in_log (None ∷ slots) (j ∷ jobs) = jobs_in_log slots jobs
jobs_in_log (Some slot ∷ slots) (j ∷ jobs) = j ∷ jobs_in_log slots jobs

abbrev pub calls_in_log : List (Option ℕ) → List Job → List Unfinished
calls_in_log slots jobs = map unfinished_call (jobs_in_log slots jobs)

-- such calls with one among them: behind those of the first jobs, before those of the others
abbrev pub calls_among : List (Option ℕ) → List Job → Unfinished → List Job → List Unfinished
calls_among slots a c b = calls_in_log (take (length a) slots) a ++ c ∷ calls_in_log (drop (length a) slots) b

-- THE PROMISE ONCE ALL IS PUT BACK, after the history: each such image is kept with these calls unfinished, by the jobs whose entry may stand
-- in the log;
abbrev pub IsKeptBackAs : Volume → List Cell → Words → List (ℕ × Draft) → List Job → State → List Item → (List (Option ℕ) → List Unfinished) → Type 0
IsKeptBackAs v d first claims jobs start history calls =
    (back : ℕ → Cell) (slots : List (Option ℕ)) (image : Words) → IsPutBack v d back first claims jobs slots image
    → IsKept v.geometry start history (calls slots) image

-- with the calls of just those jobs, and behind them the last ones;
abbrev pub IsKeptBack : Volume → List Cell → Words → List (ℕ × Draft) → List Job → State → List Item → List Unfinished → Type 0
IsKeptBack v d first claims jobs start history last = IsKeptBackAs v d first claims jobs start history (λ slots. calls_in_log slots jobs ++ last)

-- or with one more call among them.
abbrev pub IsKeptBackAmong : Volume → List Cell → Words → List (ℕ × Draft) → List Job → Unfinished → List Job → State → List Item → Type 0
IsKeptBackAmong v d first claims a c b start history = IsKeptBackAs v d first claims (a ++ b) start history (λ slots. calls_among slots a c b)
