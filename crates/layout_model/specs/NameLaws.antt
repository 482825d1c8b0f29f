-- Laws of name lines: a line is read as a name exactly where it is the spelling of that name, and as free exactly
-- where all its bytes are 0.
use Rattle.std.specs.Prelude.{◌≡◌, ℕ, ◌-◌, ◌<◌, ◌^◌, List, length, true, false, not, ◌&&◌, ◌==◌, refl}
use Rattle.std.specs.Int.{from_le_bytes, to_le_bytes, w32}
use Rattle.std.proofs.Common.{ap, sym, ◌∙◌, subst}
use Rattle.std.proofs.lemmas.Bool.{and_from, and_parts, cond-true, cond-false, cond_both, false_from_ne_true, not-true, eqb-false}
use Rattle.std.proofs.lemmas.List.{take_at}
use Rattle.std.proofs.lemmas.Nat.{from_le_bytes-to_le_bytes_4}
use Rattle.std.proofs.lemmas.Slice.Eq.{bytes_eq-Decides}
use Rattle.layout_model.specs.FieldLaws.{from_le_bytes-bound_4}
use Rattle.layout_model.specs.Fields.{u32_at, zeros, is_same}
use Rattle.layout_model.specs.Lines.{NameRow, NameSlot, FreeName, Named, BadName, line_name_bytes, is_name, encode_name, is_name_row, name_fields, if_named, decode_name}

-- the numbers of a name have room in their places
pub record FitsName (r : NameRow) : Type 0 where
  pub parent : r.parent < 2 ^ 32
  pub child : r.child < 2 ^ 32

-- the line is the one spelling of the name
pub record IsNameLine (bytes : List ℕ) (r : NameRow) : Type 0 where
  pub fields : is_name_row r ≡ true
  pub spelling : bytes ≡ encode_name r
  pub fits : FitsName r

-- what stands in the spelling of a name is its own
pub name_fields-encode_name : (r : NameRow) → FitsName r → name_fields (encode_name r) ≡ r
name_fields-encode_name r fits =
    let parent = from_le_bytes-to_le_bytes_4 r.parent fits.parent in
    let child = from_le_bytes-to_le_bytes_4 r.child fits.child in
    let name = take_at r.name (zeros (line_name_bytes - length r.name)) (length r.name) refl in
    λ i. record { parent = parent i; child = child i; name = name i }

if_named-same : (r : NameRow) → is_name_row r ≡ true → if_named (encode_name r) r ≡ Named r
if_named-same r ok =
    let line = encode_name r in
    let same : is_same line line ≡ true = (bytes_eq-Decides line line).1 refl in
    cond-true (is_name_row r && is_same line line) (Named r) BadName (and_from (is_name_row r) (is_same line line) ok same)

-- a name has a child, so its line is not free
not_free : (r : NameRow) → FitsName r → is_name_row r ≡ true → is_same (encode_name r) (zeros 64) ≡ false
not_free r fits ok =
    false_from_ne_true (is_same (encode_name r) (zeros 64)) (λ same.
    let equal = (bytes_eq-Decides (encode_name r) (zeros 64)).0 same in
    let child : r.child ≡ 0 = sym (from_le_bytes-to_le_bytes_4 r.child fits.child) ∙ ap (λ (l : List ℕ). u32_at l 4) equal in
    let used : (r.child == 0) ≡ false = not-true (r.child == 0) (and_parts (not (r.child == 0)) (is_name r.name) ok).0 in
    eqb-false r.child 0 used child)

-- what is spelled is read
pub decode_name-encode_name : (r : NameRow) → FitsName r → is_name_row r ≡ true → decode_name (encode_name r) ≡ Named r
unfolding decode_name
decode_name-encode_name r fits ok =
    let line = encode_name r in
    cond-false (is_same line (zeros 64)) FreeName (if_named line (name_fields line)) (not_free r fits ok)
    ∙ ap (if_named line) (name_fields-encode_name r fits) ∙ if_named-same r ok

-- the line of zeros is free
pub decode_name-zeros : decode_name (zeros 64) ≡ FreeName
unfolding decode_name
decode_name-zeros = refl

fields_fit : (bytes : List ℕ) → bytes ≡ encode_name (name_fields bytes) → FitsName (name_fields bytes)
fields_fit bytes spelling =
    let r = name_fields bytes in
    let parent : from_le_bytes w32 (to_le_bytes w32 r.parent) ≡ r.parent = ap (λ (l : List ℕ). u32_at l 0) (sym spelling) in
    let child : from_le_bytes w32 (to_le_bytes w32 r.child) ≡ r.child = ap (λ (l : List ℕ). u32_at l 4) (sym spelling) in
    record {
      parent = subst (λ n. n < 2 ^ 32) parent (from_le_bytes-bound_4 r.parent);
      child = subst (λ n. n < 2 ^ 32) child (from_le_bytes-bound_4 r.child);
    }

-- what each answer of the reading says of the line
abbrev Says : List ℕ → NameSlot → Type 0
Says bytes FreeName = bytes ≡ zeros 64
Says bytes (Named r) = IsNameLine bytes r
Says bytes BadName = Unit {0}

named_says : (bytes : List ℕ) → Says bytes (if_named bytes (name_fields bytes))
named_says bytes =
    let r = name_fields bytes in
    let same = is_same bytes (encode_name r) in
    cond_both (is_name_row r && same) (Named r) BadName (Says bytes)
    (λ h.
    let parts = and_parts (is_name_row r) same h in
    let spelling = (bytes_eq-Decides bytes (encode_name r)).0 parts.1 in
    record { fields = parts.0; spelling = spelling; fits = fields_fit bytes spelling })
    (λ _. tt)

read_says : (bytes : List ℕ) → Says bytes (decode_name bytes)
unfolding decode_name
read_says bytes =
    cond_both (is_same bytes (zeros 64)) FreeName (if_named bytes (name_fields bytes)) (Says bytes)
    (λ h. (bytes_eq-Decides bytes (zeros 64)).0 h)
    (λ _. named_says bytes)

-- what is read is spelled so
pub IsNameLine-decode_name : (bytes : List ℕ) (r : NameRow) → decode_name bytes ≡ Named r → IsNameLine bytes r
IsNameLine-decode_name bytes r h = subst (Says bytes) h (read_says bytes)

-- what is read as free is all zeros
pub zeros-decode_name : (bytes : List ℕ) → decode_name bytes ≡ FreeName → bytes ≡ zeros 64
zeros-decode_name bytes h = subst (Says bytes) h (read_says bytes)
