-- The changes of names and maps, of a volume with other sizes: each is the change of the volume, with the sizes behind it.
use Rattle.std.specs.Prelude.{◌≡◌, ℕ, List, length, slice_index, slice_set}
use Rattle.world_image_laws.specs.layout_model.declared.lines.Inode.{Inode}
use Rattle.world_image_laws.specs.layout_model.declared.lines.Kind.{Kind}
use Rattle.world_image_laws.specs.layout_model.Lines.{NameRow}
use Rattle.world_image_laws.specs.extent_model.declared.extent_words.Extent.{Extent}
use Rattle.world_image_laws.specs.image_model.Volume.{Volume}
use Rattle.world_image_laws.specs.k_split_model.ChangesChanges.{dropped, made, removed, renamed, renamed_over_directory, renamed_over_file, unnamed}
use Rattle.world_image_laws.specs.k_split_model.Taken.{switched}
use Rattle.posix_mode_laws.specs.Sides.{sized}

-- a node is made: it has no byte,
abbrev pub SizedMade : Type 0
SizedMade =
    (lengths : List ℕ) (kind : Kind) (ino line : ℕ) (r : NameRow) (v : Volume) → length lengths ≡ length v.inodes → slice_index lengths ino ≡ 0
    → sized lengths (made kind ino line r v) ≡ made kind ino line r (sized lengths v)

-- nor has a directory that goes
abbrev pub SizedRemoved : Type 0
SizedRemoved =
    (lengths : List ℕ) (line ino : ℕ) (v : Volume) → length lengths ≡ length v.inodes → slice_index lengths ino ≡ 0 → sized lengths (removed line ino v) ≡ removed line ino (sized lengths v)

-- names go and move
abbrev pub SizedUnnamed : Type 0
SizedUnnamed = (lengths : List ℕ) (line : ℕ) (v : Volume) → sized lengths (unnamed line v) ≡ unnamed line (sized lengths v)

abbrev pub SizedRenamed : Type 0
SizedRenamed = (lengths : List ℕ) (line : ℕ) (r : NameRow) (v : Volume) → sized lengths (renamed line r v) ≡ renamed line r (sized lengths v)

abbrev pub SizedRenamedOverFile : Type 0
SizedRenamedOverFile =
    (lengths : List ℕ) (line : ℕ) (r : NameRow) (target : ℕ) (v : Volume) → sized lengths (renamed_over_file line r target v) ≡ renamed_over_file line r target (sized lengths v)

abbrev pub SizedRenamedOverDirectory : Type 0
SizedRenamedOverDirectory =
    (lengths : List ℕ) (line : ℕ) (r : NameRow) (target ino : ℕ) (v : Volume) → length lengths ≡ length v.inodes → slice_index lengths ino ≡ 0
    → sized lengths (renamed_over_directory line r target ino v) ≡ renamed_over_directory line r target ino (sized lengths v)

-- a node goes, with its map and its length
abbrev pub SizedDropped : Type 0
SizedDropped = (lengths : List ℕ) (ino : ℕ) (v : Volume) → length lengths ≡ length v.inodes → sized (slice_set lengths ino 0) (dropped ino v) ≡ dropped ino (sized lengths v)

-- an inode has another line, chain and map, and another length
abbrev pub SizedSwitched : Type 0
SizedSwitched =
    (lengths : List ℕ) (ino size : ℕ) (x : Inode) (blocks : List ℕ) (es : List Extent) (v : Volume) → length lengths ≡ length v.inodes
    → sized (slice_set lengths ino size) (switched ino x blocks es v) ≡ switched ino (record x { size = size }) blocks es (sized lengths v)
