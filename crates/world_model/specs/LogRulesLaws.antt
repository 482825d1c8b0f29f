-- What the World promises of the log of an image, each promise as one statement.
use Rattle.std.specs.Prelude.{◌≡◌, ◌≤◌, ◌<◌, ℕ, ◌+◌, ◌^◌, List, ◌++◌, Option}
use Rattle.name_laws.specs.pm_model.declared.Cell.{Cell}
use Rattle.name_laws.specs.pm_model.Words.{Words}
use Rattle.name_laws.specs.layout_model.Places.{data_blocks}
use Rattle.name_laws.specs.layout_model.declared.lines.Draft.{Draft}
use Rattle.name_laws.specs.image_model.Honest.{IsHonest}
use Rattle.name_laws.specs.image_model.Rules.{CanRecover, IsOfNoLater}
use Rattle.name_laws.specs.image_model.Volume.{Volume}
use Rattle.crash_spec.specs.posix_laws.posix_spec.State.{State}
use Rattle.world_model.specs.Claims.{ClaimsStand}
use Rattle.world_model.specs.Jobs.{Job, Valid}
use Rattle.world_model.specs.Promised.{IsShown}
use Rattle.world_model.specs.Shown.{AreFilled, landed_pairs, ShowsClaims}
use Rattle.world_model.specs.Lines.{AreLinesOut, HasLogWords}
use Rattle.world_model.specs.Rules.{AreLogRulesKept, HasFreeBlocks}

-- An image that shows a valid world keeps the rules of its log, whichever jobs landed.
abbrev pub KeepsLogRules : Type 0
KeepsLogRules =
    (v : Volume) (claims : List (ℕ × Draft)) (jobs : List Job) (kept image : Words) (numbers : List ℕ) (s : State) (landed : List (Option ℕ))
    → Valid v claims jobs kept numbers s → ClaimsStand v claims → s.shape.data_blocks ≡ data_blocks v.geometry → IsShown v claims jobs kept image landed
    → AreLogRulesKept v image

-- An honest image of log lines that are put back shows the claims, and whole those of the filled jobs that it shows.
abbrev pub ShowsPictures : Type 0
ShowsPictures =
    (v : Volume) (cells : ℕ → Cell) (first image : Words) (claims : List (ℕ × Draft)) (jobs : List Job) (slots : List (Option ℕ))
    → v.base + v.geometry.log ≤ 2 ^ 64 → AreLinesOut v cells first claims jobs slots → HasLogWords v cells image → IsHonest v.geometry cells image → AreFilled v image jobs slots
    → (landed : List (Option ℕ)) × AreFilled v image jobs landed × ShowsClaims v (claims ++ landed_pairs jobs landed) image

-- And none of its lines is an entry of a lap to come.
abbrev pub KeepsLaps : Type 0
KeepsLaps =
    (v : Volume) (cells : ℕ → Cell) (first image : Words) (claims : List (ℕ × Draft)) (jobs : List Job) (slots : List (Option ℕ))
    → v.base + v.geometry.log ≤ 2 ^ 64 → AreLinesOut v cells first claims jobs slots → HasLogWords v cells image → IsHonest v.geometry cells image
    → (slot : ℕ) → slot < v.geometry.log → IsOfNoLater v image slot

-- An image that shows a valid world in which the free blocks are enough to publish each live claim and each job by itself
-- can be recovered, whichever jobs landed.
abbrev pub MayRecover : Type 0
MayRecover =
    (v : Volume) (claims : List (ℕ × Draft)) (jobs : List Job) (kept image : Words) (numbers : List ℕ) (s : State) (landed : List (Option ℕ))
    → Valid v claims jobs kept numbers s → ClaimsStand v claims → s.shape.data_blocks ≡ data_blocks v.geometry → HasFreeBlocks v claims jobs → IsShown v claims jobs kept image landed
    → CanRecover v image
