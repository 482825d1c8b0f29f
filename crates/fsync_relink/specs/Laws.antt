-- The changes of K-Split in the words of the World, and the content of their images, each law as one statement.
use Rattle.std.specs.Prelude.{◌≡◌, ℕ, false, List}
use Rattle.log_laws.specs.pm_model.Images.{Follows}
use Rattle.log_laws.specs.pm_model.Words.{Words}
use Rattle.log_laws.specs.layout_model.declared.lines.Draft.{Draft}
use Rattle.log_laws.specs.image_model.Volume.{inode, Volume}
use Rattle.k_split.specs.k_map_plans.Plans.{IsStagingFile, MayMove}
use Rattle.k_split.specs.k_plans.Whole.{IsWhole}
use Rattle.log_laws.specs.k_split_model.View.{View}
use Rattle.k_split.specs.MapChanges.{ChangesMaps, IsGivenUpWith, IsMovedWith, IsPreallocatedWith}
use Rattle.k_split.specs.Order.{IsInOrder}
use Rattle.fsync_relink.specs.Moves.{move_for}
use Rattle.k_split.specs.k_split_model.MapChangesChanges.{given_up}
use Rattle.k_split.specs.k_split_model.declared.map_changes.moves.Move.{Move}
use Rattle.log_laws.specs.world_model.Stands.{IsSane}
use Rattle.log_laws.specs.world_write_laws.Relinks.{Relinks}
use Rattle.log_laws.specs.world_write_laws.Restages.{Restages}
use Rattle.log_laws.specs.world_write_laws.RoomLaws.{GrowsLittle}
use Rattle.log_laws.specs.Logs.{IsDeadIn}
use Rattle.fsync_relink.specs.Images.{IsCarried, IsRestaged}

-- ---- relinks

-- what a move that carries out an entry makes of the World's volume: its relink, chains that grow little, the same log base,
-- and the file's length
pub record IsRelinkOf (d : Draft) (size : ℕ) (old : View) (w : Volume) (blocks : List ℕ) (moved : IsMovedWith (move_for d size) old w blocks) : Type 0 where
  pub relinks : Relinks old.volume w d moved.displaced
  pub little : GrowsLittle old.volume w d
  pub base : w.base ≡ old.volume.base
  pub size_is : (inode w d.ino).size ≡ size

-- A relink of K-Split, done or cut off, is one of the World, where its move carries out a log entry.
abbrev pub GivesRelinks : Type 0
GivesRelinks =
    (d : Draft) (size : ℕ) (old : View) (w : Volume) (blocks : List ℕ) → IsInOrder old → old.batched ≡ false
    → MayMove (move_for d size) old.volume → IsWhole w → (moved : IsMovedWith (move_for d size) old w blocks)
    → IsRelinkOf d size old w blocks moved

-- K-Split in order, with no open batch, has a sane volume.
abbrev pub IsSaneInOrder : Type 0
IsSaneInOrder = (k : View) → IsInOrder k → k.batched ≡ false → IsSane k.volume

-- THE CONTENT IS KEPT: each image of a relink, done or cut off, has the content of the image before, where the move carries out
-- the next entry of its file.
abbrev pub KeepsContent : Type 0
KeepsContent =
    (m : Move) (old new : View) (w : Volume) (blocks : List ℕ) → IsInOrder old → old.batched ≡ false → MayMove m old.volume
    → IsWhole w → IsMovedWith m old w blocks → ChangesMaps blocks old.committed w old.cells new.cells
    → Follows (IsCarried m old.volume w) old.cells new.cells

-- ---- staging files

-- Blocks for a staging file, and a staging file that gives up its own, are changes of a staging file; the log base stays.
abbrev pub GivesRestagesFilled : Type 0
GivesRestagesFilled =
    (staging count : ℕ) (old : View) (w : Volume) (blocks : List ℕ) → IsStagingFile staging old.volume → IsWhole w → IsSane old.volume
    → IsPreallocatedWith staging count old w blocks → Restages old.volume w staging × (w.base ≡ old.volume.base)

abbrev pub GivesRestagesGivenUp : Type 0
GivesRestagesGivenUp =
    (staging : ℕ) (old : View) (w : Volume) (blocks : List ℕ) → IsStagingFile staging old.volume → IsWhole w → IsSane old.volume
    → IsGivenUpWith staging old w blocks → Restages old.volume w staging × (w.base ≡ old.volume.base)

-- What is given up stays dead.
abbrev pub StaysDeadGivenUp : Type 0
StaysDeadGivenUp = (v : Volume) (f : Words) (staging : ℕ) → IsStagingFile staging v → IsDeadIn v f staging → IsDeadIn (given_up staging v) f staging

-- The content is kept: each image of such a change, done or cut off, has the content of the image before.
abbrev pub KeepsContentFilled : Type 0
KeepsContentFilled =
    (staging count : ℕ) (old new : View) (w : Volume) (blocks : List ℕ) → IsInOrder old → old.batched ≡ false
    → IsStagingFile staging old.volume → IsWhole w → IsPreallocatedWith staging count old w blocks
    → ChangesMaps blocks old.committed w old.cells new.cells → Follows (IsRestaged staging old.volume w) old.cells new.cells

abbrev pub KeepsContentGivenUp : Type 0
KeepsContentGivenUp =
    (staging : ℕ) (old new : View) (w : Volume) (blocks : List ℕ) → IsInOrder old → old.batched ≡ false
    → IsStagingFile staging old.volume → IsWhole w → IsGivenUpWith staging old w blocks
    → ChangesMaps blocks old.committed w old.cells new.cells → Follows (IsRestaged staging old.volume w) old.cells new.cells
