-- That nothing lies past the end of a file stays so, each law as one statement.
use Rattle.std.specs.Prelude.{◌<◌, ℕ, Bool, List, [], length, Option}
use Rattle.file_table.specs.pm_model.declared.Cell.{Cell}
use Rattle.log_checkpoint.specs.k_plans.image_model.Volume.{Volume}
use Rattle.file_table.specs.Files.{ChangesFile, Files}
use Rattle.log_checkpoint.specs.k_plans.Making.{IsMade}
use Rattle.log_checkpoint.specs.k_plans.Removing.{IsRemoved, IsUnlinked}
use Rattle.log_checkpoint.specs.k_plans.Renaming.{IsRenamed}
use Rattle.log_checkpoint.specs.k_plans.Whole.{IsWhole}
use Rattle.log_checkpoint.specs.k_plans.k_split_model.ChangesChanges.{dropped}
use Rattle.log_checkpoint.specs.k_plans.k_split_model.Stands.{Stands}
use Rattle.log_checkpoint.specs.k_plans.k_split_model.MapChangesChanges.{IsSized}
use Rattle.eof_laws.specs.Ends.{FilesEnd, FreeHaveNone}

-- Where a device stands at a volume that keeps the rules, free inodes have no map;
abbrev pub FreeHasNoMap : Type 0
FreeHasNoMap = (v : Volume) (d : List Cell) → Stands v.geometry v d → IsWhole v → FreeHaveNone v

-- so a node that is made in the place of one has none.
abbrev pub EndMade : Type 0
EndMade =
    (directory : Bool) (path : List (List ℕ)) (v w : Volume) (ino : ℕ) (files : Files) → FreeHaveNone v → IsMade directory path v w ino
    → FilesEnd v files → FilesEnd w files

-- A name goes,
abbrev pub EndUnlinked : Type 0
EndUnlinked = (path : List (List ℕ)) (v w : Volume) (ino : ℕ) (files : Files) → IsUnlinked path v w ino → FilesEnd v files → FilesEnd w files

-- a directory goes,
abbrev pub EndRemoved : Type 0
EndRemoved = (path : List (List ℕ)) (v w : Volume) (files : Files) → IsRemoved path v w → FilesEnd v files → FilesEnd w files

-- a name moves, maybe in the place of another,
abbrev pub EndRenamed : Type 0
EndRenamed =
    (p q : List (List ℕ)) (v w : Volume) (lost : Option ℕ) (files : Files) → IsRenamed p q v w lost → FilesEnd v files → FilesEnd w files

-- a file goes, with what is kept of it,
abbrev pub EndDropped : Type 0
EndDropped =
    (ino : ℕ) (v : Volume) (old new : Files) → ino < length v.inodes → ChangesFile ino [] 0 old new → FilesEnd v old
    → FilesEnd (dropped ino v) new

-- and a file of which nothing is staged then gets a size: its own map ends there, whatever it was.
abbrev pub EndSized : Type 0
EndSized =
    (free : ℕ → Bool) (ino size : ℕ) (v w : Volume) (old new : Files) → ino < length v.inodes → ino < length old.sizes → IsWhole v
    → IsSized free ino size v w → ChangesFile ino [] size old new → FilesEnd v old → FilesEnd w new
