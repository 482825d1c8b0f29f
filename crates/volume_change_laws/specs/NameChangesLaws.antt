-- The chief laws of the changes of a volume, each as one statement.
use Rattle.std.specs.Prelude.{◌≡◌, ◌⊎◌, ◌≢◌, ◌<◌, ◌≤◌, ℕ, ◌+◌, ◌%◌, ◌^◌, List, [], ◌∷◌, length, All, true, false, slice_index_or, Some}
use Rattle.name_laws.specs.volume_laws.layout_model.Places.{is_data_block}
use Rattle.name_laws.specs.volume_laws.extent_model.declared.extent_words.Extent.{Extent}
use Rattle.name_laws.specs.volume_laws.layout_model.declared.lines.Inode.{Inode}
use Rattle.name_laws.specs.volume_laws.layout_model.declared.lines.Kind.{Kind}
use Rattle.name_laws.specs.volume_laws.layout_model.declared.lines.Kind.TheVariants.{Free, Directory, File}
use Rattle.name_laws.specs.volume_laws.layout_model.Fresh.{empty_inode}
use Rattle.name_laws.specs.volume_laws.layout_model.Lines.{NameRow}
use Rattle.name_laws.specs.volume_laws.layout_model.Names.{row, child_named, find_name, free_line, has_entries, names_of, up}
use Rattle.name_laws.specs.volume_laws.layout_model.Tables.{IsKeyed}
use Rattle.name_laws.specs.volume_laws.image_model.Kept.{AreKept}
use Rattle.name_laws.specs.volume_laws.image_model.Live.{is_directory}
use Rattle.name_laws.specs.volume_laws.image_model.Reading.{inode_set, row_set}
use Rattle.name_laws.specs.volume_laws.image_model.Rules.{IsInData, file_blocks_of}
use Rattle.name_laws.specs.volume_laws.image_model.Uses.{owners, uses_by}
use Rattle.name_laws.specs.volume_laws.image_model.Volume.{Volume, inode, free_inode}
use Rattle.name_laws.specs.k_split_model.ChangesChanges.{made, unnamed, removed, renamed, renamed_over_file, renamed_over_directory, dropped}
use Rattle.name_laws.specs.k_split_model.Spaces.{volume_space}
use Rattle.name_laws.specs.KeptLaws.{HasAllLines}
use Rattle.name_laws.specs.posix_tables.Names.{directory_path, last_name, has_entries as has_entries_in}
use Rattle.volume_change_laws.specs.CallLaws.{IsKeptVolume, row_to}
use Rattle.volume_change_laws.specs.Changes.{MayMake, MayRename, MayRenameOverFile, MayRenameOverDirectory}
use Rattle.volume_change_laws.specs.FoundLaws.{IsLowestFree}
use Rattle.volume_change_laws.specs.Frames.{LeavesOthers}
use Rattle.volume_change_laws.specs.LookupLaws.{leads_to, leads_nowhere}
use Rattle.volume_change_laws.specs.Sane.{AreSane, HasData, HasBlocksOnce, HasWayUp}
use Rattle.name_laws.specs.Paths.{IsNewAt, MayGo}
use Rattle.name_laws.specs.volume_laws.Uses.{HasAllMaps, uses_of}

-- ---- the changes keep the rules

abbrev pub KeepsMade : Type 0
KeepsMade =
    (kind : Kind) (ino line : ℕ) (r : NameRow) (v : Volume) → AreKept v → HasAllLines v → MayMake kind ino line r v
    → AreKept (made kind ino line r v)

-- a name goes whose node is no directory
abbrev pub KeepsUnnamed : Type 0
KeepsUnnamed =
    (line : ℕ) (r : NameRow) (v : Volume) → AreKept v → HasAllLines v → row v.names line ≡ Some r
    → is_directory (inode v r.child).kind ≡ false → AreKept (unnamed line v)

-- a directory without entries goes with its name
abbrev pub KeepsRemoved : Type 0
KeepsRemoved =
    (line ino : ℕ) (r : NameRow) (v : Volume) → AreKept v → HasAllLines v → row v.names line ≡ Some r → r.child ≡ ino
    → is_directory (inode v ino).kind ≡ true → has_entries v.names ino ≡ false → AreKept (removed line ino v)

abbrev pub KeepsRenamed : Type 0
KeepsRenamed =
    (line : ℕ) (r s : NameRow) (high : ℕ) (v : Volume) → AreKept v → HasAllLines v → MayRename line r s high v
    → AreKept (renamed line s v)

-- an inode m steps below the child of a line that goes elsewhere has a way up still, of less than 16 steps
abbrev pub KeepsWays : Type 0
KeepsWays =
    (v : Volume) (line : ℕ) (r s : NameRow) (high ino : ℕ) → AreSane v → row v.names line ≡ Some r → s.child ≡ r.child
    → up v.names high s.parent ≡ Some 0 → ((m : ℕ) → up v.names m s.parent ≢ Some r.child)
    → ((m : ℕ) → up v.names m ino ≡ Some r.child → high + 1 + m < 16)
    → HasWayUp v.names ino → HasWayUp (row_set line (Some s) v).names ino

abbrev pub KeepsRenamedOverFile : Type 0
KeepsRenamedOverFile =
    (line : ℕ) (r s : NameRow) (high target : ℕ) (t : NameRow) (v : Volume) → AreKept v → HasAllLines v
    → MayRenameOverFile line r s high target t v → AreKept (renamed_over_file line s target v)

abbrev pub KeepsRenamedOverDirectory : Type 0
KeepsRenamedOverDirectory =
    (line : ℕ) (r s : NameRow) (high target ino : ℕ) (t : NameRow) (v : Volume) → AreKept v → HasAllLines v
    → MayRenameOverDirectory line r s high target ino t v → AreKept (renamed_over_directory line s target ino v)

-- a file without a name goes
abbrev pub KeepsDropped : Type 0
KeepsDropped =
    (ino : ℕ) (v : Volume) → AreKept v → HasAllLines v → HasAllMaps v → ino < length v.inodes
    → (inode v ino).kind ≡ File
    → names_of v.names ino ≡ 0 → AreKept (dropped ino v)

-- maps and sizes change, and names and kinds do not
abbrev pub KeepsTree : Type 0
KeepsTree =
    (v : Volume) (base : ℕ) (inodes : List Inode) (chains : List (List ℕ)) (maps : List (List Extent)) → AreKept v
    → HasAllLines v
    → ((ino : ℕ) → (slice_index_or inodes ino free_inode).kind ≡ (inode v ino).kind)
    → HasData (record v { base = base; inodes = inodes; chains = chains; maps = maps })
    → HasBlocksOnce (record v { base = base; inodes = inodes; chains = chains; maps = maps })
    → AreKept (record v { base = base; inodes = inodes; chains = chains; maps = maps })

abbrev pub KeepsSwitched : Type 0
KeepsSwitched =
    (ino : ℕ) (x : Inode) (blocks : List ℕ) (es : List Extent) (v : Volume) → AreKept v → HasAllLines v → HasAllMaps v
    → ino < length v.inodes → x.kind ≡ (inode v ino).kind
    → All (IsInData v.geometry (file_blocks_of x.kind)) es
    → ((b : ℕ) → is_data_block v.geometry b ≡ true → length (uses_by ino blocks es b) + length (owners v b) ≤ 1 + uses_of v b ino)
    → AreKept (inode_set ino x blocks es v)

-- ---- what the rows of a call leave is what its change asks for

-- the inode is free, and the name line the lowest free one
abbrev pub AllowsMade : Type 0
AllowsMade =
    (v : Volume) (p : List (List ℕ)) (parent : ℕ) (kind : Kind) (ino line : ℕ) → IsKeptVolume v
    → IsNewAt (volume_space v) p parent
    → (kind ≡ Directory) ⊎ (kind ≡ File) → ino < length v.inodes → (inode v ino).kind ≡ Free
    → free_line v.names ≡ Some line
    → MayMake kind ino line (record { parent = parent; child = ino; name = last_name p }) v

abbrev pub AllowsRenamed : Type 0
AllowsRenamed =
    (v : Volume) (p q : List (List ℕ)) (from child to line : ℕ) (r : NameRow) → IsKeptVolume v
    → MayGo (volume_space v) p q from child to
    → IsNewAt (volume_space v) q to → row v.names line ≡ Some r → r.child ≡ child
    → MayRename line r (row_to q to child) (length (directory_path q)) v

-- so the calls keep the rules, by what their look-ups found
abbrev pub KeepsMake : Type 0
KeepsMake =
    (v : Volume) (p : List (List ℕ)) (parent : ℕ) (kind : Kind) (ino line : ℕ) → IsKeptVolume v
    → IsNewAt (volume_space v) p parent
    → (kind ≡ Directory) ⊎ (kind ≡ File) → IsLowestFree v.inodes ino → free_line v.names ≡ Some line
    → AreKept (made kind ino line (row_to p parent ino) v)

abbrev pub KeepsUnlink : Type 0
KeepsUnlink =
    (v : Volume) (p : List (List ℕ)) (parent line child : ℕ) → IsKeptVolume v
    → find_name v.names parent (last_name p) ≡ Some (line, child) → (volume_space v).directory child ≡ false
    → AreKept (unnamed line v)

abbrev pub KeepsRmdir : Type 0
KeepsRmdir =
    (v : Volume) (p : List (List ℕ)) (parent line child : ℕ) → IsKeptVolume v
    → find_name v.names parent (last_name p) ≡ Some (line, child) → (volume_space v).directory child ≡ true
    → has_entries_in (volume_space v).entries child ≡ false → AreKept (removed line child v)

abbrev pub KeepsRename : Type 0
KeepsRename =
    (v : Volume) (p q : List (List ℕ)) (from child to line : ℕ) → IsKeptVolume v
    → MayGo (volume_space v) p q from child to
    → find_name v.names from (last_name p) ≡ Some (line, child) → IsNewAt (volume_space v) q to
    → AreKept (renamed line (row_to q to child) v)

-- ---- what a change leaves, and what it sets

abbrev pub LeavesMade : Type 0
LeavesMade =
    (kind : Kind) (ino line : ℕ) (r : NameRow) (v : Volume) → LeavesOthers (ino ∷ []) (line ∷ []) v (made kind ino line r v)

abbrev pub LeavesRenamedOverDirectory : Type 0
LeavesRenamedOverDirectory =
    (line : ℕ) (s : NameRow) (target ino : ℕ) (v : Volume)
    → LeavesOthers (ino ∷ []) (line ∷ target ∷ []) v (renamed_over_directory line s target ino v)

abbrev pub LeavesDropped : Type 0
LeavesDropped = (ino : ℕ) (v : Volume) → LeavesOthers (ino ∷ []) [] v (dropped ino v)

-- the line of a new node is taken once more, and that of one that goes keeps its count
abbrev pub CountsLines : Type 0
CountsLines =
    (kind : Kind) (ino line : ℕ) (r : NameRow) (v : Volume) → ino < length v.inodes
    → inode (made kind ino line r v) ino ≡ empty_inode kind (((inode v ino).generation + 1) % 2 ^ 32)

abbrev pub KeepsCount : Type 0
KeepsCount =
    (ino : ℕ) (v : Volume) → ino < length v.inodes → inode (dropped ino v) ino ≡ empty_inode Free (inode v ino).generation

-- the new name leads to the child, the old one nowhere, and each other one where it led
abbrev pub MovesName : Type 0
MovesName =
    (v : Volume) (line : ℕ) (r s : NameRow) (high parent : ℕ) (name : List ℕ) → IsKeyed v.names
    → MayRename line r s high v
    → child_named (renamed line s v).names parent name ≡ leads_to s (leads_nowhere r (child_named v.names)) parent name
