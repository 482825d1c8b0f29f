-- A change of names that joins the batch of K-Split: a commit or none, and then a change that gathers; and where the power goes in it.
use Rattle.std.specs.Prelude.{◌≡◌, ◌⊎◌, ℕ, Bool, true, false, List, Ok, Err}
use Rattle.eof_laws.specs.live_model.pm_model.Frames.{KeepsSingle}
use Rattle.eof_laws.specs.live_model.layout_model.Places.{Geometry}
use Rattle.eof_laws.specs.live_model.file_table.Files.{Files}
use Rattle.eof_laws.specs.live_model.k_split.declared.faults.KFault.{KFault}
use Rattle.eof_laws.specs.live_model.k_split.Answers.{Changes}
use Rattle.eof_laws.specs.live_model.k_split.Gathers.{IsCommitted as HasCommitted, IsGatherMake, IsGatherRmdir}
use Rattle.eof_laws.specs.live_model.k_split.Order.{IsInOrder}
use Rattle.eof_laws.specs.live_model.k_split_model.View.{View}
use Rattle.eof_laws.specs.live_model.commute_laws.posix_types.declared.item.Item.{Item}
use Rattle.eof_laws.specs.live_model.posix_spec.State.{State}
use Rattle.k_split_laws.specs.Left.{IsLeftOf}
use Rattle.k_split_laws.specs.k_plans.Making.{IsMade}
use Rattle.k_split_laws.specs.k_plans.Removing.{IsRemoved}
use Rattle.batch_laws.specs.Changes.{IsGathered}
use Rattle.batch_laws.specs.Commits.{IsCommitted}
use Rattle.batch_laws.specs.Losses.{IsLostIn}
use Rattle.batch_laws.specs.Ready.{GoesReady}

-- Nothing is changed, but that the device may be found by other words: each image reads as the committed volume, and is else one of before.
pub record IsStill (k l : View) : Type 0 where
  pub same : l ≡ record k { cells = l.cells }
  pub order : IsInOrder l
  pub changes : Changes k.committed k.committed k.cells l.cells
  pub singles : KeepsSingle k.cells l.cells

-- A change finds K-Split as it was, or its batch committed.
abbrev pub IsFoundFor : View → View → Type 0
IsFoundFor k mid = IsStill k mid ⊎ IsCommitted k mid

-- The device goes on then, in the state before the call.
abbrev pub FoundGoesOn : Type 0
FoundGoesOn =
    (g : Geometry) (k mid : View) (files : Files) (count : ℕ) (numbers : List ℕ) (start : State) (history : List Item)
    → GoesReady g k files count numbers start history → IsFoundFor k mid → GoesReady g mid files count numbers start history

-- What K-Split says of a commit is what is said of it here.
abbrev pub CommitIsFound : Type 0
CommitIsFound = (k l : View) → k.batched ≡ true → k.lost ≡ false → HasCommitted k l → IsCommitted k l

-- IN TWO MOVES: K-Split is found for the change, with its volume as it was, and gathers it.
pub record IsJoinedFrom (k l : View) : Type 0 where
  pub mid : View
  pub found : IsFoundFor k mid
  pub volume : mid.volume ≡ k.volume
  pub gathered : IsGathered mid l l.volume

-- ---- changes of names that joined the batch are made in two moves

abbrev pub MakeJoins : Type 0
MakeJoins =
    (directory : Bool) (p : List (List ℕ)) (k l : View) (ino : ℕ) → IsInOrder k → k.batched ≡ true → k.lost ≡ false → IsGatherMake directory p k l (Ok ino)
    → IsMade directory p k.volume l.volume ino × IsJoinedFrom k l

abbrev pub RmdirJoins : Type 0
RmdirJoins =
    (p : List (List ℕ)) (k l : View) → IsInOrder k → k.batched ≡ true → k.lost ≡ false → IsGatherRmdir p k l (Ok tt) → IsRemoved p k.volume l.volume × IsJoinedFrom k l

-- ---- the power went in one: in the commit with which it began, or with the device as it was

abbrev pub MakeLoses : Type 0
MakeLoses = (directory : Bool) (p : List (List ℕ)) (k l : View) → IsGatherMake directory p k l (Err KFault.PowerLost) → IsLostIn k l

abbrev pub RmdirLoses : Type 0
RmdirLoses = (p : List (List ℕ)) (k l : View) → IsGatherRmdir p k l (Err KFault.PowerLost) → IsLostIn k l

-- and the device is left of the one before
abbrev pub LossLeaves : Type 0
LossLeaves =
    (g : Geometry) (k l : View) (files : Files) (count : ℕ) (numbers : List ℕ) (start : State) (history : List Item)
    → GoesReady g k files count numbers start history → IsLostIn k l → IsLeftOf g k.cells l.cells
