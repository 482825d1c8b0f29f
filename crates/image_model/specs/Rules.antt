-- The rules of a checked image, each with the places at which it may be broken. An image is `length` bytes, and its
-- words; lines are taken as the pending journal makes them. The rules are tried in their printed order: 1, 2, 3, 4,
-- 11, 5, 6, 7, 8, 9, 10, 12, 13; of one rule the lowest place is named.
use Rattle.std.specs.Prelude.{◌≡◌, ◌≢◌, ◌⊎◌, ℕ, ◌+◌, ◌*◌, ◌/◌, ◌^◌, ◌<◌, ◌≤◌, length, All, true, Option, Some, None, IsSome}
use Rattle.layout_model.specs.pm_model.Words.{Words, line_bytes}
use Rattle.layout_model.specs.Places.{Geometry, first_data, data_blocks, reserve, state_line, commit_word, base_word, log_line, is_data_block, is_journaled_line}
use Rattle.layout_model.specs.Journal.{committed, record_target, journaled}
use Rattle.layout_model.specs.Superblock.{has_magic, has_version, has_numbers, geometry_at}
use Rattle.extent_model.specs.declared.extent_words.Extent.{Extent}
use Rattle.extent_model.specs.Extents.{disk_at, IsCanonical}
use Rattle.layout_model.specs.declared.lines.Draft.{Draft}
use Rattle.layout_model.specs.declared.lines.Inode.{Inode}
use Rattle.layout_model.specs.declared.lines.Kind.{Kind}
use Rattle.layout_model.specs.declared.lines.Kind.TheVariants.{Free, Directory, File, Staging}
use Rattle.layout_model.specs.Entries.{is_self_valid, held_seq}
use Rattle.layout_model.specs.Lines.{NameRow, NameSlot, FreeName, Named, BadName}
use Rattle.layout_model.specs.Names.{row, names_of, up}
use Rattle.image_model.specs.Chains.{SpellsChain}
use Rattle.image_model.specs.Volume.{Volume, volume, inode_at, name_at, inode, chain, extents}
use Rattle.image_model.specs.Uses.{owners}
use Rattle.image_model.specs.Live.{is_file, is_directory, entry_in, is_of_file, is_live, live_entries}
use Rattle.image_model.specs.Room.{held_after_recovery, unused_blocks}

-- what the superblock says
abbrev pub geometry_of : Words → Geometry
geometry_of f = geometry_at (line_bytes f 0)

-- Rule 1, at the length: the image is 64 to 16,384 whole blocks.
pub record IsWholeBlocks (length : ℕ) : Type 0 where
  pub blocks : ℕ
  pub whole : length ≡ 4096 * blocks
  pub least : 64 ≤ blocks
  pub most : blocks ≤ 16384

-- Rules 2 and 3, at 0: the superblock has the magic bytes; its version is known.
abbrev pub HasMagic : Words → Type 0
HasMagic f = has_magic (line_bytes f 0) ≡ true

abbrev pub HasVersion : Words → Type 0
HasVersion f = has_version (line_bytes f 0) ≡ true

-- Rule 4, at 0: the numbers are in range, the blocks are those of the image, and all else in block 0 is zero but
-- the commit word and the log base. Of block 0 the journal may change the line of the log base alone: that line is
-- read as the journal makes it, every other one as it stands, also where a wrong record targets it.
pub record HasNumbers (bytes : ℕ) (f : Words) : Type 0 where
  pub numbers : has_numbers (line_bytes f 0) ≡ true
  pub whole : bytes ≡ 4096 * (geometry_of f).blocks
  pub state : (w : ℕ) → base_word < w → w < base_word + 8 → journaled f w ≡ 0
  pub others : (w : ℕ) → 8 ≤ w → w < 512 → w ≢ commit_word → w / 8 ≢ state_line → f w ≡ 0

-- Rule 11: at a record, a committed one has a journaled target; at 128, at most 128 are committed and the log base
-- is from 1 to 2^63.
abbrev pub HasTarget : Geometry → Words → ℕ → Type 0
HasTarget g f r = r < committed f → is_journaled_line g (record_target f r) ≡ true

pub record HasState (f : Words) : Type 0 where
  pub count : f commit_word ≤ 128
  pub least_base : 1 ≤ journaled f base_word
  pub most_base : journaled f base_word ≤ 2 ^ 63

-- Rule 5, at an inode: its line is an inode line; inode 0 is a directory, 1 to 4 and no others are staging files.
abbrev pub IsKindAt : ℕ → Kind → Type 0
IsKindAt ino Free = 5 ≤ ino
IsKindAt ino Directory = (ino ≡ 0) ⊎ (5 ≤ ino)
IsKindAt ino File = 5 ≤ ino
IsKindAt ino Staging = (1 ≤ ino) × (ino ≤ 4)

pub record HasInode (f : Words) (ino : ℕ) : Type 0 where
  pub line : Inode
  pub is : inode_at f ino ≡ Some line
  pub kind : IsKindAt ino line.kind

-- Rule 6, at a name line: it is a name line; its child is a directory or a file, its parent an inode number in range.
abbrev pub IsNamed : Volume → NameRow → Type 0
IsNamed v r = ((is_directory (inode v r.child).kind ≡ true) ⊎ (is_file (inode v r.child).kind ≡ true)) × (r.parent < v.geometry.inodes)

abbrev pub IsNameSlot : Volume → NameSlot → Type 0
IsNameSlot v FreeName = Unit {0}
IsNameSlot v (Named r) = IsNamed v r
IsNameSlot v BadName = ⊥

-- Rule 7, at an inode: its root leads to a chain with the stated number of extents, in data blocks, and the extents
-- are the one spelling of a map of data blocks: below file block 4,096, of a staging file below 64.
abbrev pub file_blocks_of : Kind → ℕ
file_blocks_of Free = 4096
file_blocks_of Directory = 4096
file_blocks_of File = 4096
file_blocks_of Staging = 64

abbrev pub IsInData : Geometry → ℕ → Extent → Type 0
IsInData g limit e = (e.file + e.count ≤ limit) × (first_data g ≤ e.disk) × (e.disk + e.count ≤ g.blocks)

pub record HasChain (v : Volume) (f : Words) (ino : ℕ) : Type 0 where
  pub spelled : SpellsChain f (chain v ino) (extents v ino)
  pub count : length (extents v ino) ≡ (inode v ino).extents
  pub blocks : All (λ b. is_data_block v.geometry b ≡ true) (chain v ino)
  pub canonical : IsCanonical (extents v ino)
  pub in_data : All (IsInData v.geometry (file_blocks_of (inode v ino).kind)) (extents v ino)

-- Rule 8, at a block: no data block is named twice.
abbrev pub IsNamedOnce : Volume → ℕ → Type 0
IsNamedOnce v b = length (owners v b) ≤ 1

-- Rule 9, at a name line: its parent is a directory; no later line has the same parent and name; going up from it
-- ends at 0 within 16 steps.
pub record IsPlaced (v : Volume) (k : ℕ) (r : NameRow) : Type 0 where
  pub parent : is_directory (inode v r.parent).kind ≡ true
  pub only : (later : ℕ) (s : NameRow) → k < later → row v.names later ≡ Some s → s.parent ≡ r.parent → s.name ≢ r.name
  pub steps : (n : ℕ) × (n < 16) × (up v.names n r.parent ≡ Some 0)

abbrev pub IsRowPlaced : Volume → ℕ → Option NameRow → Type 0
IsRowPlaced v k None = Unit {0}
IsRowPlaced v k (Some r) = IsPlaced v k r

-- and at the count of name lines: every directory but 0 has a name, and 0 has none
pub record AreDirectoriesNamed (v : Volume) : Type 0 where
  pub each : (ino : ℕ) → 0 < ino → is_directory (inode v ino).kind ≡ true → 1 ≤ names_of v.names ino
  pub root : names_of v.names 0 ≡ 0

-- Rule 10, at an inode: no node has two names.
abbrev pub HasOneName : Volume → ℕ → Type 0
HasOneName v ino = names_of v.names ino ≤ 1

-- Rule 12, at 0, on the valid entries. Those that recovery carries out have their staging blocks, and share none; no
-- two of one file have one order; what the files then hold leaves the reserve, and the blocks that nothing names
-- are enough to publish each entry by itself.
abbrev pub HasStagingBlocks : Volume → Draft → Type 0
HasStagingBlocks v d = (k : ℕ) → k < d.count → IsSome (disk_at (extents v d.staging) (d.staging_block + k))

abbrev pub AreApart : Draft → Draft → Type 0
AreApart d e = d.staging ≡ e.staging → (d.staging_block + d.count ≤ e.staging_block) ⊎ (e.staging_block + e.count ≤ d.staging_block)

pub record CanRecover (v : Volume) (f : Words) : Type 0 where
  pub staged : All (HasStagingBlocks v) (live_entries v f)
  pub apart : (s t : ℕ) (d e : Draft) → s < t → t < v.geometry.log → entry_in v f s ≡ Some d → entry_in v f t ≡ Some e → is_live v d ≡ true → is_live v e ≡ true → AreApart d e
  pub orders : (s t : ℕ) (d e : Draft) → s < t → t < v.geometry.log → entry_in v f s ≡ Some d → entry_in v f t ≡ Some e → is_of_file v d ≡ true → is_of_file v e ≡ true → d.ino ≡ e.ino → d.order ≢ e.order
  pub held : held_after_recovery v (live_entries v f) + reserve v.geometry ≤ data_blocks v.geometry
  pub unused : length (live_entries v f) + reserve v.geometry ≤ unused_blocks v + 3

-- Rule 13, at a slot: no line is a valid entry, for the sequence number that it holds, of a lap to come.
abbrev pub IsOfNoLater : Volume → Words → ℕ → Type 0
IsOfNoLater v f slot =
    is_self_valid (line_bytes f (log_line v.geometry slot)) ≡ true → held_seq (line_bytes f (log_line v.geometry slot)) < v.base + v.geometry.log

-- All rules hold of an image with this geometry. `v` is its volume and `j` its words, as the journal makes them.
pub record AreRulesKept (bytes : ℕ) (f : Words) (v : Volume) (j : Words) : Type 0 where
  pub rule_1 : IsWholeBlocks bytes
  pub rule_2 : HasMagic f
  pub rule_3 : HasVersion f
  pub rule_4 : HasNumbers bytes f
  pub rule_11_records : (r : ℕ) → r < 128 → HasTarget (geometry_of f) f r
  pub rule_11_state : HasState f
  pub rule_5 : (ino : ℕ) → ino < v.geometry.inodes → HasInode j ino
  pub rule_6 : (k : ℕ) → k < v.geometry.names → IsNameSlot v (name_at v.geometry j k)
  pub rule_7 : (ino : ℕ) → ino < v.geometry.inodes → HasChain v j ino
  pub rule_8 : (b : ℕ) → is_data_block v.geometry b ≡ true → IsNamedOnce v b
  pub rule_9_lines : (k : ℕ) → k < v.geometry.names → IsRowPlaced v k (row v.names k)
  pub rule_9_directories : AreDirectoriesNamed v
  pub rule_10 : (ino : ℕ) → ino < v.geometry.inodes → HasOneName v ino
  pub rule_12 : CanRecover v j
  pub rule_13 : (slot : ℕ) → slot < v.geometry.log → IsOfNoLater v j slot

-- a checked image of so many bytes
abbrev pub IsChecked : ℕ → Words → Type 0
IsChecked bytes f = AreRulesKept bytes f (volume (geometry_of f) (journaled f)) (journaled f)
