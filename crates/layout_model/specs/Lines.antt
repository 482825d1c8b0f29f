-- Inode lines and name lines, 64 bytes each. Reading takes the fields from their places; a line is one of these
-- exactly where the fields are in range and it is the spelling of them, so that all other bytes are zero.
use Rattle.std.specs.Prelude.{ℕ, ◌-◌, ◌^◌, List, [], ◌∷◌, ◌++◌, length, take, drop, slice_index, Bool, not, ◌&&◌, ◌||◌, ◌==◌, nat_le, if◌then◌else◌, Option, Some, None, option_and_then}
use Rattle.std.specs.List.{list_all}
use Rattle.std.specs.Int.{to_le_bytes, w32, w64}
use Rattle.layout_model.specs.block_counts.declared.TheConstants.{LONGEST_FILE}
use Rattle.layout_model.specs.Fields.{u32_at, u64_at, zeros, is_same}
use Rattle.layout_model.specs.declared.lines.Kind.{Kind}
use Rattle.layout_model.specs.declared.lines.Kind.TheVariants.{Free, Directory, File, Staging}
use Rattle.layout_model.specs.declared.lines.Inode.{Inode}

-- Inode line: 0 the kind; 4 the generation; 8 the size; 16 applied; 24 the root; 28 the number of extents.
abbrev pub code_of_kind : Kind → ℕ
code_of_kind Free = 0
code_of_kind Directory = 1
code_of_kind File = 2
code_of_kind Staging = 3

abbrev pub kind_of_code : ℕ → Option Kind
kind_of_code code =
    if code == 0 then Some Free else if code == 1 then Some Directory else if code == 2 then Some File else if code == 3 then Some Staging else None

abbrev pub encode_inode : Inode → List ℕ
encode_inode x =
    (code_of_kind x.kind ∷ zeros 3) ++ to_le_bytes w32 x.generation ++ to_le_bytes w64 x.size ++ to_le_bytes w64 x.applied
    ++ to_le_bytes w32 x.root ++ to_le_bytes w32 x.extents ++ zeros 32

-- no map, or a root and extents
abbrev pub has_map_or_none : Inode → Bool
has_map_or_none x = if x.root == 0 then x.extents == 0 else not (x.extents == 0)

-- the fields of a line in use may be these
abbrev pub is_inode_of_kind : Kind → Inode → Bool
is_inode_of_kind Free x = (x.size == 0) && (x.applied == 0) && (x.root == 0) && (x.extents == 0)
is_inode_of_kind Directory x = (x.size == 0) && (x.applied == 0) && (x.root == 0) && (x.extents == 0)
is_inode_of_kind File x = nat_le x.size LONGEST_FILE && nat_le x.applied (2 ^ 63) && has_map_or_none x
is_inode_of_kind Staging x = (x.size == 0) && (x.applied == 0) && has_map_or_none x

abbrev pub is_inode : Inode → Bool
is_inode x = is_inode_of_kind x.kind x

abbrev pub inode_fields : List ℕ → Kind → Inode
inode_fields bytes kind =
    record { kind = kind; generation = u32_at bytes 4; size = u64_at bytes 8; applied = u64_at bytes 16; root = u32_at bytes 24; extents = u32_at bytes 28 }

abbrev pub if_inode : List ℕ → Inode → Option Inode
if_inode bytes x = if is_inode x && is_same bytes (encode_inode x) then Some x else None

unfoldable pub decode_inode : List ℕ → Option Inode
decode_inode bytes = option_and_then (λ kind. if_inode bytes (inode_fields bytes kind)) (kind_of_code (slice_index bytes 0))

-- Name line: 0 the parent; 4 the child, 0 for a free line, which is all zeros; 8 the length of the name; 16 its
-- bytes.
pub record NameRow : Type 0 where
  pub parent : ℕ
  pub child : ℕ
  pub name : List ℕ

-- what a name line stands for
pub data NameSlot : Type 0 where
  FreeName : NameSlot
  Named : NameRow → NameSlot
  BadName : NameSlot

-- the longest name of a line, in bytes
abbrev pub line_name_bytes : ℕ
line_name_bytes = 48

-- printable ASCII but the slash
abbrev pub is_name_byte : ℕ → Bool
is_name_byte b = nat_le 33 b && nat_le b 126 && not (b == 47)

-- neither `.` nor `..`
abbrev pub is_dots : List ℕ → Bool
is_dots name = is_same name (46 ∷ []) || is_same name (46 ∷ 46 ∷ [])

abbrev pub is_name : List ℕ → Bool
is_name name = list_all is_name_byte name && nat_le 1 (length name) && nat_le (length name) line_name_bytes && not (is_dots name)

abbrev pub encode_name : NameRow → List ℕ
encode_name r =
    to_le_bytes w32 r.parent ++ to_le_bytes w32 r.child ++ (length r.name ∷ zeros 7) ++ r.name ++ zeros (line_name_bytes - length r.name)

abbrev pub is_name_row : NameRow → Bool
is_name_row r = not (r.child == 0) && is_name r.name

abbrev pub name_fields : List ℕ → NameRow
name_fields bytes = record { parent = u32_at bytes 0; child = u32_at bytes 4; name = take (slice_index bytes 8) (drop 16 bytes) }

abbrev pub if_named : List ℕ → NameRow → NameSlot
if_named bytes r = if is_name_row r && is_same bytes (encode_name r) then Named r else BadName

unfoldable pub decode_name : List ℕ → NameSlot
decode_name bytes = if is_same bytes (zeros 64) then FreeName else if_named bytes (name_fields bytes)
