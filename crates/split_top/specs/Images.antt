-- What the bytes of an image are to the commands: the fresh image; one that can be opened; or one that is refused, by which rule.
use Rattle.std.specs.Prelude.{◌≡◌, ◌≤◌, ◌+◌, ◌*◌, ◌^◌, ℕ, List, ◌++◌, length, Option, codes, decimal}
use Rattle.command_line.specs.pm_model.Words.{word_at, Words}
use Rattle.command_line.specs.layout_model.Journal.{journaled}
use Rattle.command_line.specs.layout_model.Places.{commit_word, data_blocks, Geometry}
use Rattle.command_line.specs.layout_model.Fresh.{fresh}
use Rattle.split_machine.specs.image_model.Broken.{Breaks}
use Rattle.split_machine.specs.image_model.Content.{content}
use Rattle.split_machine.specs.image_model.FreshVolume.{root_alone}
use Rattle.split_machine.specs.image_model.Rules.{geometry_of, IsChecked}
use Rattle.split_machine.specs.image_model.Volume.{Volume, volume}
use Rattle.posix_types.specs.declared.tree.TreeEntry.{TreeEntry}
use Rattle.split_machine.specs.world_model.Shown.{IsTreeOfContent}
use Rattle.split_machine.specs.Sheds.{AllNamed}
use Rattle.split_machine.specs.Resets.{IsLow}
use Rattle.split_machine.specs.Sweeps.{AreBare, EndsInTime}
use Rattle.split_machine.specs.world_image_laws.Images.{HasNoEntry}
use Rattle.command_line.specs.image_layout.Numbers.{default_numbers}
use Rattle.report_text.specs.Texts.{tree_text}
use Rattle.outside.specs.Outside.{AreOfFile, FileList, IsReplaced}
use Rattle.command_line.specs.Command.{Fresh, Image, Stored}

-- THE FRESH IMAGE with these numbers: a checked image whose content is the root alone.
pub record IsFreshImage (g : Geometry) (bytes : List ℕ) : Type 0 where
  pub size : length bytes ≡ 4096 * g.blocks
  pub words : word_at bytes ≡ fresh g
  pub checked : IsChecked (length bytes) (word_at bytes)
  pub numbers : geometry_of (word_at bytes) ≡ g
  pub root : content g (word_at bytes) ≡ root_alone

-- the bytes of the image that is named: those of its file, as far as the files are told, or of the fresh default image
abbrev pub AreOfImage : Option FileList → Image → List ℕ → Type 0
AreOfImage files Fresh bytes = IsFreshImage default_numbers bytes
AreOfImage files (Stored name) bytes = AreOfFile files name bytes

-- AN IMAGE THAT CAN BE OPENED is a checked one, whatever entries of its log are live.
abbrev pub CanOpen : List ℕ → Type 0
CanOpen bytes = IsChecked (length bytes) (word_at bytes)

-- AN IMAGE IS REFUSED by the first rule that it breaks, with its lowest place.
abbrev pub IsRefused : List ℕ → ℕ → ℕ → Type 0
IsRefused bytes rule place = Breaks (length bytes) (word_at bytes) rule place

-- THE TREE OF AN IMAGE: the image can be opened, and the tree is that of its content.
pub record ShowsTree (bytes : List ℕ) (tree : List TreeEntry) : Type 0 where
  pub can_open : CanOpen bytes
  pub is_tree : IsTreeOfContent (content (geometry_of (word_at bytes)) (word_at bytes)) tree

-- what the device of an image shows through its journal
abbrev pub volume_of : Words → Volume
volume_of f = volume (geometry_of f) (journaled f)

-- AN IMAGE AS A MOUNT LEAVES IT: it shows this tree, its journal is empty, each file has a name and no block past its end, nothing is
-- staged, no slot of its log has an entry, the log's base is at most 2^62 and one lap, and no file has applied an order above 2^62.
pub record IsMounted (bytes : List ℕ) (tree : List TreeEntry) : Type 0 where
  pub shows : ShowsTree bytes tree
  pub idle : word_at bytes commit_word ≡ 0
  pub named : AllNamed (volume_of (word_at bytes))
  pub short : (ino : ℕ) → EndsInTime (volume_of (word_at bytes)) ino
  pub bare : AreBare (volume_of (word_at bytes))
  pub base : (volume_of (word_at bytes)).base ≤ 2 ^ 62 + (geometry_of (word_at bytes)).log
  pub low : (ino : ℕ) → IsLow (volume_of (word_at bytes)) ino
  pub no_entry : HasNoEntry (volume_of (word_at bytes)) (journaled (word_at bytes))

-- the text of the tree of an image
pub record IsTreeText (bytes output : List ℕ) : Type 0 where
  pub tree : List TreeEntry
  pub shows : ShowsTree bytes tree
  pub is_text : output ≡ tree_text tree

-- The file of this name was replaced by the fresh image with these numbers, and every other file is as before.
pub record IsMade (name : List ℕ) (g : Geometry) (old new : Option FileList) : Type 0 where
  pub bytes : List ℕ
  pub is_fresh : IsFreshImage g bytes
  pub is_replaced : IsReplaced old new name bytes

-- the line that says how much room there is
abbrev pub blocks_text : Geometry → List ℕ
blocks_text g = decimal (data_blocks g) ++ codes " data blocks\n"
