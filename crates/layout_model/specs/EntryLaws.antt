-- Laws of log entries: a line is read as an entry with a sequence number exactly where it is the spelling of that
-- entry with that number, and no line is an entry with two numbers.
use Rattle.std.specs.Prelude.{◌≡◌, ◌≢◌, ℕ, ◌<◌, ◌^◌, List, true, ◌&&◌, Option, Some, None, is_some, refl}
use Rattle.std.specs.Int.{from_le_bytes, to_le_bytes, w32}
use Rattle.std.proofs.Common.{arith, ap, sym, ◌∙◌, subst}
use Rattle.std.proofs.lemmas.Bool.{and_from, and_parts, cond-true}
use Rattle.std.proofs.lemmas.Bool.Decides.{nat_tests}
use Rattle.std.proofs.lemmas.Nat.{from_le_bytes-to_le_bytes_2, from_le_bytes-to_le_bytes_4, from_le_bytes-to_le_bytes_8}
use Rattle.std.proofs.lemmas.Option.{cond_some}
use Rattle.std.proofs.lemmas.Slice.Eq.{bytes_eq-Decides}
use Rattle.layout_model.specs.FieldLaws.{from_le_bytes-bound_4}
use Rattle.layout_model.specs.Fields.{u32_at, is_same}
use Rattle.layout_model.specs.declared.lines.Draft.{Draft}
use Rattle.layout_model.specs.Entries.{entry_body, encode_entry, is_draft, draft_fields, if_draft, decode_entry, held_seq, is_self_valid}

-- The numbers of a draft that no test bounds have room in their places.
pub record FitsDraft (d : Draft) : Type 0 where
  pub ino : d.ino < 2 ^ 32
  pub generation : d.generation < 2 ^ 32
  pub staging_generation : d.staging_generation < 2 ^ 32

-- the line is the one spelling of the draft with the sequence number
pub record IsEntryLine (bytes : List ℕ) (seq : ℕ) (d : Draft) : Type 0 where
  pub fields : is_draft d ≡ true
  pub spelling : bytes ≡ encode_entry d seq
  pub fits : FitsDraft d

-- those that the tests bound
record Bounds (d : Draft) : Type 0 where
  count : d.count < 2 ^ 16
  order : d.order < 2 ^ 64
  file_block : d.file_block < 2 ^ 32
  staging : d.staging < 2 ^ 32
  staging_block : d.staging_block < 2 ^ 32
  size : d.size < 2 ^ 64

bounds : (d : Draft) → is_draft d ≡ true → Bounds d
bounds d ok =
    record {
      count = grind (arith, nat_tests);
      order = grind (arith, nat_tests);
      file_block = grind (arith, nat_tests);
      staging = grind (arith, nat_tests);
      staging_block = grind (arith, nat_tests);
      size = grind (arith, nat_tests);
    }

-- the numbers that stand in the spelling of a draft are its own
pub draft_fields-encode_entry : (d : Draft) (seq : ℕ) → FitsDraft d → is_draft d ≡ true → draft_fields (encode_entry d seq) ≡ d
unfolding encode_entry entry_body
draft_fields-encode_entry d seq fits ok =
    let b = bounds d ok in
    let count = from_le_bytes-to_le_bytes_2 d.count b.count in
    let order = from_le_bytes-to_le_bytes_8 d.order b.order in
    let ino = from_le_bytes-to_le_bytes_4 d.ino fits.ino in
    let generation = from_le_bytes-to_le_bytes_4 d.generation fits.generation in
    let file_block = from_le_bytes-to_le_bytes_4 d.file_block b.file_block in
    let staging = from_le_bytes-to_le_bytes_4 d.staging b.staging in
    let staging_block = from_le_bytes-to_le_bytes_4 d.staging_block b.staging_block in
    let staging_generation = from_le_bytes-to_le_bytes_4 d.staging_generation fits.staging_generation in
    let size = from_le_bytes-to_le_bytes_8 d.size b.size in
    λ i. record {
      count = count i;
      order = order i;
      ino = ino i;
      generation = generation i;
      file_block = file_block i;
      staging = staging i;
      staging_block = staging_block i;
      staging_generation = staging_generation i;
      size = size i;
    }

-- the sequence number that stands in a spelling
pub held_seq-encode_entry : (d : Draft) (seq : ℕ) → seq < 2 ^ 64 → held_seq (encode_entry d seq) ≡ seq
unfolding encode_entry entry_body
held_seq-encode_entry d seq fits = from_le_bytes-to_le_bytes_8 seq fits

if_draft-same : (d : Draft) (seq : ℕ) → is_draft d ≡ true → if_draft (encode_entry d seq) seq d ≡ Some d
if_draft-same d seq ok =
    let line = encode_entry d seq in
    let same : is_same line line ≡ true = (bytes_eq-Decides line line).1 refl in
    cond-true (is_draft d && is_same line line) (Some d) None (and_from (is_draft d) (is_same line line) ok same)

-- what is spelled is read, with the same number
pub decode_entry-encode_entry : (d : Draft) (seq : ℕ) → FitsDraft d → is_draft d ≡ true → decode_entry (encode_entry d seq) seq ≡ Some d
unfolding decode_entry
decode_entry-encode_entry d seq fits ok =
    ap (if_draft (encode_entry d seq) seq) (draft_fields-encode_entry d seq fits ok) ∙ if_draft-same d seq ok

fields_fit : (bytes : List ℕ) (seq : ℕ) → bytes ≡ encode_entry (draft_fields bytes) seq → FitsDraft (draft_fields bytes)
unfolding encode_entry entry_body
fields_fit bytes seq spelling =
    let d = draft_fields bytes in
    let ino : from_le_bytes w32 (to_le_bytes w32 d.ino) ≡ d.ino = ap (λ (l : List ℕ). u32_at l 24) (sym spelling) in
    let generation : from_le_bytes w32 (to_le_bytes w32 d.generation) ≡ d.generation = ap (λ (l : List ℕ). u32_at l 28) (sym spelling) in
    let staging_generation : from_le_bytes w32 (to_le_bytes w32 d.staging_generation) ≡ d.staging_generation = ap (λ (l : List ℕ). u32_at l 44) (sym spelling) in
    record {
      ino = subst (λ n. n < 2 ^ 32) ino (from_le_bytes-bound_4 d.ino);
      generation = subst (λ n. n < 2 ^ 32) generation (from_le_bytes-bound_4 d.generation);
      staging_generation = subst (λ n. n < 2 ^ 32) staging_generation (from_le_bytes-bound_4 d.staging_generation);
    }

-- what is read is spelled so
pub IsEntryLine-decode_entry : (bytes : List ℕ) (seq : ℕ) (d : Draft) → decode_entry bytes seq ≡ Some d → IsEntryLine bytes seq d
unfolding decode_entry
IsEntryLine-decode_entry bytes seq d h =
    let f = draft_fields bytes in
    let chosen = cond_some (is_draft f && is_same bytes (encode_entry f seq)) f d h in
    let parts = and_parts (is_draft f) (is_same bytes (encode_entry f seq)) chosen.0 in
    let spelling = (bytes_eq-Decides bytes (encode_entry f seq)).0 parts.1 in
    subst (IsEntryLine bytes seq) chosen.1 (record { fields = parts.0; spelling = spelling; fits = fields_fit bytes seq spelling })

-- a line that is read with a number holds that number
pub held_seq-decode_entry : (bytes : List ℕ) (seq : ℕ) (d : Draft) → seq < 2 ^ 64 → decode_entry bytes seq ≡ Some d → held_seq bytes ≡ seq
held_seq-decode_entry bytes seq d fits h =
    ap held_seq (IsEntryLine-decode_entry bytes seq d h).spelling ∙ held_seq-encode_entry d seq fits

-- so a line is read with one number alone
pub decode_entry-other_seq : (bytes : List ℕ) (s t : ℕ) (d : Draft) → s < 2 ^ 64 → t < 2 ^ 64 → s ≢ t → decode_entry bytes s ≡ Some d → decode_entry bytes t ≡ None
decode_entry-other_seq bytes s t d s_fits t_fits ne h = other (decode_entry bytes t) refl
  where
    other : (o : Option Draft) → decode_entry bytes t ≡ o → decode_entry bytes t ≡ None
    other None e = e
    other (Some x) e = absurd (ne (sym (held_seq-decode_entry bytes s d s_fits h) ∙ held_seq-decode_entry bytes t x t_fits e))

-- a spelled line is valid for the number that it holds
pub is_self_valid-encode_entry : (d : Draft) (seq : ℕ) → FitsDraft d → is_draft d ≡ true → seq < 2 ^ 64 → is_self_valid (encode_entry d seq) ≡ true
is_self_valid-encode_entry d seq fits ok small =
    let line = encode_entry d seq in
    ap (λ n. is_some (decode_entry line n)) (held_seq-encode_entry d seq small) ∙ ap is_some (decode_entry-encode_entry d seq fits ok)
