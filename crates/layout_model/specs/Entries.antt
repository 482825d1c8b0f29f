-- Entries of the log, a line each: 0 the check; 4 the kind and 5 the version, both 1; 6 the count; 8 the sequence
-- number; 16 the order; 24 the inode and 28 its generation; 32 the file block; 36 the staging inode, 40 the staging
-- block and 44 the staging generation; 48 the size afterwards; 56 zero. The check is FNV-1a over bytes 4 to 63.
use Rattle.std.specs.Prelude.{ℕ, ◌+◌, ◌*◌, ◌%◌, ◌^◌, List, [], ◌∷◌, ◌++◌, Bool, ◌&&◌, nat_le, if◌then◌else◌, Option, Some, None, is_some, bit_xor}
use Rattle.std.specs.Int.{to_le_bytes, w16, w32, w64}
use Rattle.layout_model.specs.Fields.{u16_at, u32_at, u64_at, zeros, is_same}
use Rattle.layout_model.specs.declared.lines.Draft.{Draft}
use Rattle.layout_model.specs.block_counts.declared.TheConstants.{LONGEST_FILE}

-- FNV-1a with 32 bits: from the basis on, for each byte the exclusive or with it, times the prime
abbrev pub fnv_basis : ℕ
fnv_basis = 2166136261

abbrev pub fnv_prime : ℕ
fnv_prime = 16777619

unfoldable pub fnv_1a_from : ℕ → List ℕ → ℕ
fnv_1a_from hash [] = hash
fnv_1a_from hash (b ∷ bytes) = fnv_1a_from (bit_xor hash b * fnv_prime % 2 ^ 32) bytes

abbrev pub fnv_1a : List ℕ → ℕ
fnv_1a bytes = fnv_1a_from fnv_basis bytes

-- bytes 4 to 63
unfoldable pub entry_body : Draft → ℕ → List ℕ
entry_body d seq =
    (1 ∷ 1 ∷ []) ++ to_le_bytes w16 d.count ++ to_le_bytes w64 seq ++ to_le_bytes w64 d.order
    ++ to_le_bytes w32 d.ino ++ to_le_bytes w32 d.generation ++ to_le_bytes w32 d.file_block
    ++ to_le_bytes w32 d.staging ++ to_le_bytes w32 d.staging_block ++ to_le_bytes w32 d.staging_generation
    ++ to_le_bytes w64 d.size ++ zeros 8

unfoldable pub encode_entry : Draft → ℕ → List ℕ
encode_entry d seq = to_le_bytes w32 (fnv_1a (entry_body d seq)) ++ entry_body d seq

-- the fields are in range
abbrev pub is_draft : Draft → Bool
is_draft d =
    nat_le 1 d.count && nat_le d.count 33 && nat_le 1 d.order && nat_le d.order (2 ^ 63)
    && nat_le (d.file_block + d.count) 4096 && nat_le 1 d.staging && nat_le d.staging 4
    && nat_le (d.staging_block + d.count) 64 && nat_le d.size LONGEST_FILE

abbrev pub draft_fields : List ℕ → Draft
draft_fields bytes =
    record {
      count = u16_at bytes 6;
      order = u64_at bytes 16;
      ino = u32_at bytes 24;
      generation = u32_at bytes 28;
      file_block = u32_at bytes 32;
      staging = u32_at bytes 36;
      staging_block = u32_at bytes 40;
      staging_generation = u32_at bytes 44;
      size = u64_at bytes 48;
    }

abbrev pub if_draft : List ℕ → ℕ → Draft → Option Draft
if_draft bytes seq d = if is_draft d && is_same bytes (encode_entry d seq) then Some d else None

-- The entry that the bytes are for this sequence number: the bytes are its spelling, or there is none. So a line
-- has one spelling of an entry.
unfoldable pub decode_entry : List ℕ → ℕ → Option Draft
decode_entry bytes seq = if_draft bytes seq (draft_fields bytes)

-- the sequence number that the bytes hold, and whether they are an entry for it
abbrev pub held_seq : List ℕ → ℕ
held_seq bytes = u64_at bytes 8

abbrev pub is_self_valid : List ℕ → Bool
is_self_valid bytes = is_some (decode_entry bytes (held_seq bytes))
