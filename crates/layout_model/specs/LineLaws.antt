-- Laws of inode lines: a line is read as an inode exactly where it is the spelling of that inode.
use Rattle.std.specs.Prelude.{◌≡◌, ℕ, ◌<◌, ◌^◌, List, true, ◌&&◌, Some, None, option_and_then, slice_index, refl}
use Rattle.std.specs.Int.{from_le_bytes, to_le_bytes, w32}
use Rattle.std.proofs.Common.{arith, ap, sym, ◌∙◌, subst}
use Rattle.std.proofs.lemmas.Bool.{and_from, and_parts, cond-true}
use Rattle.std.proofs.lemmas.Bool.Decides.{nat_tests}
use Rattle.std.proofs.lemmas.Nat.{from_le_bytes-to_le_bytes_4, from_le_bytes-to_le_bytes_8}
use Rattle.std.proofs.lemmas.Option.{cond_some, option_and_then_some}
use Rattle.std.proofs.lemmas.Slice.Eq.{bytes_eq-Decides}
use Rattle.layout_model.specs.FieldLaws.{from_le_bytes-bound_4}
use Rattle.layout_model.specs.Fields.{u32_at, is_same}
use Rattle.layout_model.specs.declared.lines.Inode.{Inode}
use Rattle.layout_model.specs.declared.lines.Kind.{Kind}
use Rattle.layout_model.specs.declared.lines.Kind.TheVariants.{Free, Directory, File, Staging}
use Rattle.layout_model.specs.Lines.{code_of_kind, kind_of_code, encode_inode, is_inode_of_kind, is_inode, inode_fields, if_inode, decode_inode}

-- the numbers of an inode that no test bounds have room in their places
pub record FitsInode (x : Inode) : Type 0 where
  pub generation : x.generation < 2 ^ 32
  pub root : x.root < 2 ^ 32
  pub extents : x.extents < 2 ^ 32

-- the line is the one spelling of the inode
pub record IsInodeLine (bytes : List ℕ) (x : Inode) : Type 0 where
  pub fields : is_inode x ≡ true
  pub spelling : bytes ≡ encode_inode x
  pub fits : FitsInode x

-- those that the tests bound
sizes_fit : (kind : Kind) (x : Inode) → is_inode_of_kind kind x ≡ true → (x.size < 2 ^ 64) × (x.applied < 2 ^ 64)
sizes_fit Free x ok = (grind (arith, nat_tests), grind (arith, nat_tests))
sizes_fit Directory x ok = (grind (arith, nat_tests), grind (arith, nat_tests))
sizes_fit File x ok = (grind (arith, nat_tests), grind (arith, nat_tests))
sizes_fit Staging x ok = (grind (arith, nat_tests), grind (arith, nat_tests))

-- the numbers that stand in the spelling of an inode are its own
pub inode_fields-encode_inode : (x : Inode) → FitsInode x → is_inode x ≡ true → inode_fields (encode_inode x) x.kind ≡ x
inode_fields-encode_inode x fits ok =
    let sizes = sizes_fit x.kind x ok in
    let generation = from_le_bytes-to_le_bytes_4 x.generation fits.generation in
    let size = from_le_bytes-to_le_bytes_8 x.size sizes.0 in
    let applied = from_le_bytes-to_le_bytes_8 x.applied sizes.1 in
    let root = from_le_bytes-to_le_bytes_4 x.root fits.root in
    let extents = from_le_bytes-to_le_bytes_4 x.extents fits.extents in
    λ i. record { kind = x.kind; generation = generation i; size = size i; applied = applied i; root = root i; extents = extents i }

kind_of_code-code_of_kind : (kind : Kind) → kind_of_code (code_of_kind kind) ≡ Some kind
kind_of_code-code_of_kind Free = refl
kind_of_code-code_of_kind Directory = refl
kind_of_code-code_of_kind File = refl
kind_of_code-code_of_kind Staging = refl

if_inode-same : (x : Inode) → is_inode x ≡ true → if_inode (encode_inode x) x ≡ Some x
if_inode-same x ok =
    let same : is_same (encode_inode x) (encode_inode x) ≡ true = (bytes_eq-Decides (encode_inode x) (encode_inode x)).1 refl in
    cond-true (is_inode x && is_same (encode_inode x) (encode_inode x)) (Some x) None (and_from (is_inode x) (is_same (encode_inode x) (encode_inode x)) ok same)

-- what is spelled is read
pub decode_inode-encode_inode : (x : Inode) → FitsInode x → is_inode x ≡ true → decode_inode (encode_inode x) ≡ Some x
unfolding decode_inode
decode_inode-encode_inode x fits ok =
    let line = encode_inode x in
    ap (option_and_then (λ kind. if_inode line (inode_fields line kind))) (kind_of_code-code_of_kind x.kind)
    ∙ ap (if_inode line) (inode_fields-encode_inode x fits ok) ∙ if_inode-same x ok

fields_fit : (bytes : List ℕ) (kind : Kind) → bytes ≡ encode_inode (inode_fields bytes kind) → FitsInode (inode_fields bytes kind)
fields_fit bytes kind spelling =
    let x = inode_fields bytes kind in
    let generation : from_le_bytes w32 (to_le_bytes w32 x.generation) ≡ x.generation = ap (λ (l : List ℕ). u32_at l 4) (sym spelling) in
    let root : from_le_bytes w32 (to_le_bytes w32 x.root) ≡ x.root = ap (λ (l : List ℕ). u32_at l 24) (sym spelling) in
    let extents : from_le_bytes w32 (to_le_bytes w32 x.extents) ≡ x.extents = ap (λ (l : List ℕ). u32_at l 28) (sym spelling) in
    record {
      generation = subst (λ n. n < 2 ^ 32) generation (from_le_bytes-bound_4 x.generation);
      root = subst (λ n. n < 2 ^ 32) root (from_le_bytes-bound_4 x.root);
      extents = subst (λ n. n < 2 ^ 32) extents (from_le_bytes-bound_4 x.extents);
    }

-- what is read is spelled so
pub IsInodeLine-decode_inode : (bytes : List ℕ) (x : Inode) → decode_inode bytes ≡ Some x → IsInodeLine bytes x
unfolding decode_inode
IsInodeLine-decode_inode bytes x h =
    option_and_then_some (λ kind. if_inode bytes (inode_fields bytes kind)) (kind_of_code (slice_index bytes 0)) x h
    (λ kind _ found.
    let y = inode_fields bytes kind in
    let chosen = cond_some (is_inode y && is_same bytes (encode_inode y)) y x found in
    let parts = and_parts (is_inode y) (is_same bytes (encode_inode y)) chosen.0 in
    let spelling = (bytes_eq-Decides bytes (encode_inode y)).0 parts.1 in
    subst (IsInodeLine bytes) chosen.1 (record { fields = parts.0; spelling = spelling; fits = fields_fit bytes kind spelling }))
