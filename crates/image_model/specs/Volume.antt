-- The volume of an image: its metadata as one value, read from the words as the journal makes them.
use Rattle.std.specs.Prelude.{ℕ, List, [], map, Option, Some, None, unwrap_or, slice_index_or}
use Rattle.std.specs.List.{range_with_len}
use Rattle.layout_model.specs.pm_model.Words.{Words, line_bytes}
use Rattle.layout_model.specs.Places.{Geometry, base_word, inode_line, name_line}
use Rattle.extent_model.specs.declared.extent_words.Extent.{Extent}
use Rattle.layout_model.specs.declared.lines.Inode.{Inode}
use Rattle.layout_model.specs.declared.lines.Kind.TheVariants.{Free}
use Rattle.layout_model.specs.Lines.{NameRow, NameSlot, FreeName, Named, BadName, decode_inode, decode_name}
use Rattle.layout_model.specs.Names.{Rows}
use Rattle.image_model.specs.Chains.{chain_of, map_of}

-- the log base; the inode lines; the name lines, one row a line; and of each inode its chain blocks and its extents
pub record Volume : Type 0 where
  pub geometry : Geometry
  pub base : ℕ
  pub inodes : List Inode
  pub names : Rows
  pub chains : List (List ℕ)
  pub maps : List (List Extent)

-- what stands in an inode line and in a name line
abbrev pub inode_at : Words → ℕ → Option Inode
inode_at f ino = decode_inode (line_bytes f (inode_line ino))

abbrev pub name_at : Geometry → Words → ℕ → NameSlot
name_at g f k = decode_name (line_bytes f (name_line g k))

-- a line that is no inode line counts as free, one that is no name line as free
abbrev pub free_inode : Inode
free_inode = record { kind = Free; generation = 0; size = 0; applied = 0; root = 0; extents = 0 }

abbrev pub inode_or_free : Words → ℕ → Inode
inode_or_free f ino = unwrap_or (inode_at f ino) free_inode

abbrev pub row_of : NameSlot → Option NameRow
row_of FreeName = None
row_of (Named r) = Some r
row_of BadName = None

-- the volume of words in which nothing is pending
unfoldable pub volume : Geometry → Words → Volume
volume g f =
    record {
      geometry = g;
      base = f base_word;
      inodes = map (inode_or_free f) (range_with_len 0 g.inodes);
      names = map (λ k. row_of (name_at g f k)) (range_with_len 0 g.names);
      chains = map (λ ino. chain_of f (inode_or_free f ino)) (range_with_len 0 g.inodes);
      maps = map (λ ino. map_of f (inode_or_free f ino)) (range_with_len 0 g.inodes);
    }

-- the parts of a volume by number; past the last inode a free one
abbrev pub inode : Volume → ℕ → Inode
inode v ino = slice_index_or v.inodes ino free_inode

abbrev pub chain : Volume → ℕ → List ℕ
chain v ino = slice_index_or v.chains ino []

abbrev pub extents : Volume → ℕ → List Extent
extents v ino = slice_index_or v.maps ino []
