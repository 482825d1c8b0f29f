-- Values worked out by hand, as computations of the definitions.
use Rattle.std.proofs.Common.{◌≡◌, ℕ, ◌+◌, ◌^◌, [], ◌∷◌, ◌++◌, refl}
use Rattle.std.specs.Prelude.{Option, Some, None, true, false, replicate}
use Rattle.layout_model.specs.Places.{Geometry, first_data, data_blocks, reserve, inode_line, name_line, log_line}
use Rattle.layout_model.specs.Superblock.{superblock, has_magic, has_version, has_numbers}
use Rattle.layout_model.specs.Fields.{zeros}
use Rattle.layout_model.specs.declared.lines.Draft.{Draft}
use Rattle.layout_model.specs.declared.lines.Inode.{Inode}
use Rattle.layout_model.specs.declared.lines.Kind.TheVariants.{Directory, File}
use Rattle.layout_model.specs.Lines.{NameRow, FreeName, Named, BadName, decode_inode, decode_name, is_inode, is_name}
use Rattle.layout_model.specs.Names.{Rows, parent_of, ends_at_root}
use Rattle.layout_model.specs.Entries.{fnv_1a, fnv_1a_from, entry_body, encode_entry, decode_entry, is_draft, is_self_valid}

-- the default image, and a small one
default_geometry : Geometry
default_geometry = record { version = 1; blocks = 256; log = 64; inodes = 64; names = 128 }

small_geometry : Geometry
small_geometry = record { version = 1; blocks = 64; log = 4; inodes = 16; names = 16 }

default_places : first_data default_geometry ∷ data_blocks default_geometry ∷ reserve default_geometry ∷ [] ≡ 9 ∷ 247 ∷ 4 ∷ []
unfolding default_geometry
default_places = refl

default_lines : inode_line 0 ∷ name_line default_geometry 0 ∷ log_line default_geometry 0 ∷ [] ≡ 320 ∷ 384 ∷ 512 ∷ []
unfolding default_geometry
default_lines = refl

small_places : first_data small_geometry ∷ data_blocks small_geometry ∷ reserve small_geometry ∷ [] ≡ 8 ∷ 56 ∷ 4 ∷ []
unfolding small_geometry
small_places = refl

default_superblock : (has_magic (superblock default_geometry) ≡ true) × (has_version (superblock default_geometry) ≡ true) × (has_numbers (superblock default_geometry) ≡ true)
unfolding default_geometry
default_superblock = (refl, refl, refl)

fnv_of_a : fnv_1a (97 ∷ []) ≡ 3826002220
unfolding fnv_1a_from
fnv_of_a = refl

directory_line : decode_inode ((1 ∷ 0 ∷ 0 ∷ 0 ∷ 7 ∷ []) ++ zeros 59) ≡ Some (record { kind = Directory; generation = 7; size = 0; applied = 0; root = 0; extents = 0 })
unfolding decode_inode
directory_line = refl

-- a directory with a size, a file with a root and no extents, an unknown kind
directory_with_a_size : decode_inode ((1 ∷ []) ++ zeros 7 ++ (1 ∷ []) ++ zeros 55) ≡ None
unfolding decode_inode
directory_with_a_size = refl

root_without_extents : decode_inode ((2 ∷ []) ++ zeros 23 ++ (9 ∷ []) ++ zeros 39) ≡ None
unfolding decode_inode
root_without_extents = refl

unknown_kind : decode_inode ((4 ∷ []) ++ zeros 63) ≡ None
unfolding decode_inode
unknown_kind = refl

free_name_line : decode_name (zeros 64) ≡ FreeName
unfolding decode_name
free_name_line = refl

name_of_length_49 : decode_name (zeros 4 ++ (5 ∷ 0 ∷ 0 ∷ 0 ∷ 49 ∷ []) ++ zeros 55) ≡ BadName
unfolding decode_name
name_of_length_49 = refl

name_line_of_a : decode_name (zeros 4 ++ (5 ∷ 0 ∷ 0 ∷ 0 ∷ 1 ∷ []) ++ zeros 7 ++ (97 ∷ []) ++ zeros 47) ≡ Named (record { parent = 0; child = 5; name = 97 ∷ [] })
unfolding decode_name
name_line_of_a = refl

-- no bytes, `.`, `..`, `...`
dots : is_name [] ∷ is_name (46 ∷ []) ∷ is_name (46 ∷ 46 ∷ []) ∷ is_name (46 ∷ 46 ∷ 46 ∷ []) ∷ [] ≡ false ∷ false ∷ false ∷ true ∷ []
dots = refl

-- a slash, a blank, byte 127, bytes 33 and 126
name_bytes : is_name (97 ∷ 47 ∷ []) ∷ is_name (32 ∷ []) ∷ is_name (127 ∷ []) ∷ is_name (33 ∷ 126 ∷ []) ∷ [] ≡ false ∷ false ∷ false ∷ true ∷ []
name_bytes = refl

name_lengths : is_name (replicate 48 97) ∷ is_name (replicate 49 97) ∷ [] ≡ true ∷ false ∷ []
name_lengths = refl

-- the greatest size and order of a file, and one more
a_file : Inode
a_file = record { kind = File; generation = 1; size = 16777216; applied = 2 ^ 63; root = 9; extents = 1 }

file_ranges : is_inode a_file ∷ is_inode (record a_file { size = 16777217 }) ∷ is_inode (record a_file { applied = 2 ^ 63 + 1 }) ∷ is_inode (record a_file { extents = 0 }) ∷ is_inode (record a_file { root = 0 }) ∷ [] ≡ true ∷ false ∷ false ∷ false ∷ false ∷ []
unfolding a_file
file_ranges = refl

-- an entry, read with its sequence number and with another
an_entry : Draft
an_entry = record { count = 1; order = 1; ino = 6; generation = 1; file_block = 0; staging = 1; staging_block = 1; staging_generation = 1; size = 1 }

entry_read : decode_entry (encode_entry an_entry 7) 7 ≡ Some an_entry
unfolding an_entry decode_entry encode_entry entry_body fnv_1a_from
entry_read = refl

entry_of_another_lap : decode_entry (encode_entry an_entry 7) 8 ≡ None
unfolding an_entry decode_entry encode_entry entry_body fnv_1a_from
entry_of_another_lap = refl

entry_valid_for_itself : is_self_valid (encode_entry an_entry 7) ≡ true
unfolding an_entry decode_entry encode_entry entry_body fnv_1a_from
entry_valid_for_itself = refl

-- counts, orders, file blocks, staging files, staging blocks and sizes at the ends of their ranges and past them
entry_counts : is_draft (record an_entry { count = 0 }) ∷ is_draft (record an_entry { count = 33 }) ∷ is_draft (record an_entry { count = 34 }) ∷ [] ≡ false ∷ true ∷ false ∷ []
unfolding an_entry
entry_counts = refl

entry_orders : is_draft (record an_entry { order = 0 }) ∷ is_draft (record an_entry { order = 2 ^ 63 }) ∷ is_draft (record an_entry { order = 2 ^ 63 + 1 }) ∷ [] ≡ false ∷ true ∷ false ∷ []
unfolding an_entry
entry_orders = refl

entry_blocks : is_draft (record an_entry { file_block = 4095 }) ∷ is_draft (record an_entry { file_block = 4096 }) ∷ is_draft (record an_entry { staging_block = 63 }) ∷ is_draft (record an_entry { staging_block = 64 }) ∷ [] ≡ true ∷ false ∷ true ∷ false ∷ []
unfolding an_entry
entry_blocks = refl

entry_staging : is_draft (record an_entry { staging = 0 }) ∷ is_draft (record an_entry { staging = 4 }) ∷ is_draft (record an_entry { staging = 5 }) ∷ [] ≡ false ∷ true ∷ false ∷ []
unfolding an_entry
entry_staging = refl

entry_sizes : is_draft (record an_entry { size = 16777216 }) ∷ is_draft (record an_entry { size = 16777217 }) ∷ [] ≡ true ∷ false ∷ []
unfolding an_entry
entry_sizes = refl

-- Going up: two directories one in the other and a file below, a second name of the file higher up in the table, and a
-- ring of two directories.
row_of : ℕ → ℕ → Option NameRow
row_of parent child = Some (record { parent = parent; child = child; name = 97 ∷ [] })

table : Rows
table = row_of 0 5 ∷ row_of 6 7 ∷ None ∷ row_of 5 6 ∷ row_of 0 7 ∷ row_of 9 8 ∷ row_of 8 9 ∷ []

lowest_line : parent_of table 7 ∷ parent_of table 6 ∷ parent_of table 0 ∷ [] ≡ Some 6 ∷ Some 5 ∷ None ∷ []
unfolding table row_of
lowest_line = refl

steps_up : ends_at_root table 0 0 ∷ ends_at_root table 2 7 ∷ ends_at_root table 3 7 ∷ ends_at_root table 16 7 ∷ [] ≡ true ∷ false ∷ true ∷ true ∷ []
unfolding table row_of ends_at_root
steps_up = refl

no_way_up : ends_at_root table 16 8 ∷ ends_at_root table 16 9 ∷ ends_at_root table 16 3 ∷ [] ≡ false ∷ false ∷ false ∷ []
unfolding table row_of ends_at_root
no_way_up = refl
