-- When a volume with live log entries stands for a state of the calls.
use Rattle.std.specs.Prelude.{◌≡◌, ◌≢◌, ◌⊎◌, ℕ, ◌+◌, ◌/◌, ◌<◌, Bool, true, false, ◌==◌, List, [], ◌∷◌, length, filter, option_map, Some, slice_index, slice_index_or}
use Rattle.name_laws.specs.volume_laws.image_model.pm_model.Words.{Words}
use Rattle.name_laws.specs.volume_laws.image_model.layout_model.declared.lines.Draft.{Draft}
use Rattle.name_laws.specs.volume_laws.image_model.layout_model.declared.lines.Kind.{Kind}
use Rattle.name_laws.specs.volume_laws.image_model.layout_model.declared.lines.Kind.TheVariants.{Free, Directory, File, Staging}
use Rattle.name_laws.specs.volume_laws.image_model.layout_model.Lines.{is_name, NameRow}
use Rattle.name_laws.specs.volume_laws.image_model.layout_model.Names.{child_named, row}
use Rattle.name_laws.specs.volume_laws.image_model.Content.{byte_in, disk_of, size_of}
use Rattle.name_laws.specs.volume_laws.image_model.Kept.{AreKept}
use Rattle.name_laws.specs.volume_laws.image_model.Rules.{AreApart, HasStagingBlocks}
use Rattle.name_laws.specs.volume_laws.image_model.Volume.{inode, Volume}
use Rattle.crash_spec.specs.posix_laws.posix_tables.declared.nodes.Node.{Node}
use Rattle.crash_spec.specs.posix_laws.posix_tables.Lookups.{AreDistinct}
use Rattle.crash_spec.specs.posix_laws.posix_tables.Names.{child_of}
use Rattle.crash_spec.specs.posix_laws.posix_tables.Nodes.{node_at}
use Rattle.crash_spec.specs.posix_laws.posix_spec.State.{State}
use Rattle.crash_spec.specs.list_laws.Members.{In}

-- The volume is sane: it keeps the rules of a checked image that speak of it alone, each inode has a line, a chain and a
-- map, and each name is spelled as a name.
pub record IsSane (v : Volume) : Type 0 where
  pub kept : AreKept v
  pub inode_count : length v.inodes ≡ v.geometry.inodes
  pub name_count : length v.names ≡ v.geometry.names
  pub chain_count : length v.chains ≡ v.geometry.inodes
  pub map_count : length v.maps ≡ v.geometry.inodes
  pub spelled : (k : ℕ) (r : NameRow) → row v.names k ≡ Some r → is_name r.name ≡ true

-- Numbers: `numbers` has at the place of an inode the number of its node.
abbrev pub number : List ℕ → ℕ → ℕ
number numbers ino = slice_index_or numbers ino 0

-- an inode in use is a directory or a file
abbrev pub is_used : Kind → Bool
is_used Free = false
is_used Directory = true
is_used File = true
is_used Staging = false

abbrev pub IsUsed : Volume → ℕ → Type 0
IsUsed v ino = is_used (inode v ino).kind ≡ true

-- the live entries of a file, as they stand
abbrev pub entries_of : ℕ → List Draft → List Draft
entries_of ino live = filter (λ d. d.ino == ino) live

-- orders that go on one by one
abbrev pub Consecutive : ℕ → List Draft → Type 0
Consecutive last [] = Unit {0}
Consecutive last (d ∷ ds) = (d.order ≡ last + 1) × Consecutive (last + 1) ds

-- The file has these bytes: the size, and each byte where the content has it.
pub record FileStands (v : Volume) (live : List Draft) (f : Words) (ino : ℕ) (bytes : List ℕ) : Type 0 where
  pub size : size_of v live ino ≡ length bytes
  pub each : (i : ℕ) → i < length bytes → byte_in f (disk_of v live ino (i / 4096)) i ≡ slice_index bytes i

-- what the node is, by the kind of its inode
abbrev pub NodeStands : Volume → List Draft → Words → ℕ → Kind → Node → Type 0
NodeStands v live f ino Free node = ⊥
NodeStands v live f ino Staging node = ⊥
NodeStands v live f ino Directory Node.Gone = ⊥
NodeStands v live f ino Directory Node.Directory = Unit {0}
NodeStands v live f ino Directory (Node.File file) = ⊥
NodeStands v live f ino File Node.Gone = ⊥
NodeStands v live f ino File Node.Directory = ⊥
NodeStands v live f ino File (Node.File file) = FileStands v live f ino file.bytes

-- Names. The root is node 0; inodes in use have nodes, no two the same; what a name leads to in the volume it leads to in
-- the state; and each entry of the state is a name of the volume. That names lead from inodes in use to inodes in use is
-- a rule of a sane volume.
pub record NamesStand (v : Volume) (numbers : List ℕ) (s : State) : Type 0 where
  pub root : number numbers 0 ≡ 0
  pub root_used : IsUsed v 0
  pub within : (ino : ℕ) → IsUsed v ino → number numbers ino < length s.nodes
  pub one : (i j : ℕ) → IsUsed v i → IsUsed v j → number numbers i ≡ number numbers j → i ≡ j
  pub names : (p : ℕ) (name : List ℕ) → IsUsed v p → option_map (number numbers) (child_named v.names p name) ≡ child_of s.entries (number numbers p) name
  pub entry_parents : (n : ℕ) (name : List ℕ) (m : ℕ) → child_of s.entries n name ≡ Some m → (p : ℕ) × IsUsed v p × (number numbers p ≡ n)
  pub distinct : AreDistinct s.entries

-- each node in use stands, and each live node of the state has its inode
pub record NodesStand (v : Volume) (live : List Draft) (f : Words) (numbers : List ℕ) (s : State) : Type 0 where
  pub each : (ino : ℕ) → IsUsed v ino → NodeStands v live f ino (inode v ino).kind (node_at s.nodes (number numbers ino))
  pub all : (n : ℕ) → node_at s.nodes n ≢ Node.Gone → (ino : ℕ) × IsUsed v ino × (number numbers ino ≡ n)

-- The live entries: their blocks are in staging files, no two share one, and those of one file have orders that go on from
-- what it has applied.
pub record LogStands (v : Volume) (live : List Draft) : Type 0 where
  pub staging : (d : Draft) → In d live → (inode v d.staging).kind ≡ Staging
  pub staged : (d : Draft) → In d live → HasStagingBlocks v d
  pub apart : (d e : Draft) → In d live → In e live → (d ≡ e) ⊎ AreApart d e
  pub orders : (ino : ℕ) → Consecutive (inode v ino).applied (entries_of ino live)

-- THE VOLUME STANDS FOR THE STATE, by these numbers, with these live entries and these words of data blocks.
pub record Stands (v : Volume) (live : List Draft) (f : Words) (numbers : List ℕ) (s : State) : Type 0 where
  pub sane : IsSane v
  pub names : NamesStand v numbers s
  pub nodes : NodesStand v live f numbers s
  pub log : LogStands v live
