-- The laws of runs, each as one statement. `IsWorld v claims jobs f numbers s count`: the World is valid, `count` nodes were made
-- since the lap began, and `numbers` has the node of each inode.
use Rattle.std.specs.Prelude.{◌≢◌, ℕ, List}
use Rattle.world_step_laws.specs.world_model.pm_model.Words.{Words}
use Rattle.world_step_laws.specs.world_model.extent_model.declared.extent_words.Extent.{Extent}
use Rattle.world_step_laws.specs.world_model.layout_model.declared.lines.Draft.{Draft}
use Rattle.world_step_laws.specs.world_model.image_model.Volume.{Volume}
use Rattle.world_step_laws.specs.world_model.posix_spec.State.{State}
use Rattle.world_step_laws.specs.world_model.list_laws.Members.{In}
use Rattle.world_step_laws.specs.world_model.Jobs.{Job, live_claims}
use Rattle.world_step_laws.specs.Steps.{AreBeside}
use Rattle.world_step_laws.specs.Touched.{only}
use Rattle.world_step_laws.specs.Worlds.{IsWorld}
use Rattle.world_write_laws.specs.Relinks.{IsFirst, Relinks}
use Rattle.world_write_laws.specs.Restages.{Restages}

-- the first live entry of a file is carried out: the state stays, and one entry less is live
abbrev pub KeepsRelinked : Type 0
KeepsRelinked =
    (v w : Volume) (claims : List (ℕ × Draft)) (jobs : List Job) (f : Words) (numbers : List ℕ) (s : State) (count : ℕ)
    (d : Draft) (displaced : List Extent) (rest : List Draft)
    → IsWorld v claims jobs f numbers s count → Relinks v w d displaced → IsFirst v w (live_claims v claims) d rest
    → AreBeside (only d.ino) jobs → IsWorld w claims jobs f numbers s count

-- a staging file in which nothing is live, nor any job, is given up, or gets new blocks
abbrev pub KeepsRestaged : Type 0
KeepsRestaged =
    (v w : Volume) (claims : List (ℕ × Draft)) (jobs : List Job) (f : Words) (numbers : List ℕ) (s : State)
    (count x : ℕ)
    → IsWorld v claims jobs f numbers s count → Restages v w x
    → ((d : Draft) → In d (live_claims v claims) → d.staging ≢ x)
    → ((j : Job) → In j jobs → j.draft.staging ≢ x) → IsWorld w claims jobs f numbers s count
