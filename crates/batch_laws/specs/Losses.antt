-- Where the power goes in a call that gathers, each law as one statement.
use Rattle.std.specs.Prelude.{◌≡◌, ◌⊎◌, ℕ, List, []}
use Rattle.eof_laws.specs.live_model.layout_model.Places.{Geometry}
use Rattle.eof_laws.specs.live_model.image_model.Volume.{Volume}
use Rattle.eof_laws.specs.live_model.file_table.Files.{Files}
use Rattle.eof_laws.specs.live_model.k_split.Answers.{Changes}
use Rattle.eof_laws.specs.live_model.k_split_model.View.{View}
use Rattle.eof_laws.specs.live_model.commute_laws.posix_types.declared.item.Item.{Item}
use Rattle.eof_laws.specs.live_model.posix_spec.Run.{Unfinished}
use Rattle.eof_laws.specs.live_model.posix_spec.State.{State}
use Rattle.eof_laws.specs.live_model.world_image_laws.Images.{HasLogHome}
use Rattle.eof_laws.specs.live_model.world_image_laws.Promised.{KeepsPromise}
use Rattle.batch_laws.specs.Changes.{IsGathered}
use Rattle.batch_laws.specs.Commits.{IsCommitted}
use Rattle.batch_laws.specs.Ready.{GoesReady}

-- ---- the begin of a call

-- A call begins with K-Split as it is, or with a commit, for which it has its cause.
abbrev pub IsBegun : View → View → Type 0
IsBegun k mid = (mid ≡ k) ⊎ IsCommitted k mid

-- The device goes on then, in the state before the call.
abbrev pub BeginGoesOn : Type 0
BeginGoesOn =
    (g : Geometry) (k mid : View) (files : Files) (count : ℕ) (numbers : List ℕ) (start : State) (history : List Item)
    → GoesReady g k files count numbers start history → IsBegun k mid → GoesReady g mid files count numbers start history

-- log lines at home, which show no entry, are so behind a begin and behind a change that gathers
abbrev pub BeginKeepsLog : Type 0
BeginKeepsLog =
    (g : Geometry) (k mid : View) (files : Files) (count : ℕ) (numbers : List ℕ) (start : State) (history : List Item)
    → GoesReady g k files count numbers start history → IsBegun k mid → HasLogHome k.committed k.cells [] → HasLogHome mid.committed mid.cells []

abbrev pub ChangeKeepsLog : Type 0
ChangeKeepsLog = (k l : View) (w : Volume) → IsGathered k l w → HasLogHome k.committed k.cells [] → HasLogHome l.committed l.cells []

-- ---- the power goes

-- THE POWER WENT IN A CALL THAT GATHERS: in the commit with which it began, or with the device as it was when it began or behind that commit.
abbrev pub IsLostIn : View → View → Type 0
IsLostIn k l = Changes k.committed k.volume k.cells l.cells ⊎ ((mid : View) × IsBegun k mid × (l.cells ≡ mid.cells))

-- With the log lines at home the device keeps the promise, this call unfinished and whatever others.
abbrev pub LossKeepsPromise : Type 0
LossKeepsPromise =
    (g : Geometry) (k l : View) (files : Files) (count : ℕ) (numbers : List ℕ) (start : State) (history : List Item) (unfinished : List Unfinished)
    → GoesReady g k files count numbers start history → HasLogHome k.committed k.cells [] → IsLostIn k l → KeepsPromise g l.cells start history unfinished
