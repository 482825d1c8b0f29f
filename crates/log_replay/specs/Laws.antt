-- The laws of remounting, each as one statement.
use Rattle.std.specs.Prelude.{◌≡◌, ◌*◌, ℕ, false, List, [], Option}
use Rattle.world_image_laws.specs.pm_model.declared.Cell.{Cell}
use Rattle.world_image_laws.specs.pm_model.declared.Cell.TheVariants.{Single}
use Rattle.world_image_laws.specs.pm_model.Cells.{cell}
use Rattle.world_image_laws.specs.pm_model.Images.{words_of}
use Rattle.world_image_laws.specs.pm_model.Words.{Words}
use Rattle.world_image_laws.specs.layout_model.Journal.{is_journal_word, journaled}
use Rattle.world_image_laws.specs.layout_model.Places.{commit_word, Geometry}
use Rattle.world_image_laws.specs.layout_model.declared.lines.Kind.TheVariants.{Directory}
use Rattle.world_image_laws.specs.image_model.Content.{found, Node}
use Rattle.world_image_laws.specs.image_model.Rules.{geometry_of, IsChecked}
use Rattle.world_image_laws.specs.image_model.Volume.{inode, Volume}
use Rattle.k_split.specs.k_tables.ContentsTrees.{tree_content}
use Rattle.world_image_laws.specs.posix_types.declared.tree.TreeEntry.{TreeEntry}
use Rattle.world_image_laws.specs.posix_laws.TreeOf.{IsTreeOf}
use Rattle.world_image_laws.specs.world_model.Shown.{IsTreeOfContent}
use Rattle.log_replay.specs.Sheds.{Sheds}

-- Nameless files are in no tree: without them the same stands at each path.
abbrev pub ShowsTheSame : Type 0
ShowsTheSame = (v w : Volume) (f : Words) (path : List (List ℕ)) → Sheds v w → (inode v 0).kind ≡ Directory → found w [] f path ≡ found v [] f path

-- A device is recovered: its words are those that the journal of an image shows, and its journal is empty.
pub record IsRecovered (image : Words) (d : List Cell) : Type 0 where
  pub words : (i : ℕ) → is_journal_word i ≡ false → cell d i ≡ Single (journaled image i)
  pub idle : cell d commit_word ≡ Single 0

-- Where the image is checked, so is the device, with the same geometry, and the same seen through its journal.
pub record IsCheckedToo (g : Geometry) (image : Words) (d : List Cell) : Type 0 where
  pub geometry : geometry_of (words_of d) ≡ g
  pub seen : journaled (words_of d) ≡ journaled image
  pub checked : IsChecked (4096 * g.blocks) (words_of d)

abbrev pub RecoversChecked : Type 0
RecoversChecked =
    (g : Geometry) (image : Words) (d : List Cell) → geometry_of image ≡ g → IsChecked (4096 * g.blocks) image → IsRecovered image d → IsCheckedToo g image d

-- The tree of a content is one as the World speaks of it.
abbrev pub TreesAreOfContent : Type 0
TreesAreOfContent = (content : List (List ℕ) → Option Node) (left : List TreeEntry) → IsTreeOf (tree_content content) left → IsTreeOfContent content left
