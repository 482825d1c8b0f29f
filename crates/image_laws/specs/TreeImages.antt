-- Images with some files, directories and names on a fresh image, and the volumes that they read as.
use Rattle.std.specs.Prelude.{◌≡◌, ℕ, suc, ◌+◌, ◌<◌, ◌≤◌, List, [], ◌∷◌, length, true, Some, Bool, nat_lt, ◌&&◌, ◌==◌, ◌^◌, refl}
use Rattle.std.specs.List.{list_all}
use Rattle.std.proofs.Common.{arith, inl, inr, ap, sym, ◌∙◌}
use Rattle.std.proofs.lemmas.Bool.{cases_eq, and_parts, eqb-true, ltb-true}
use Rattle.std.proofs.lemmas.List.{get_or-set_same, get_or-set_other}
use Rattle.volume_laws.specs.pm_model.Words.{Words, with_line}
use Rattle.volume_laws.specs.layout_model.Places.{Geometry, IsGeometry, inode_line, name_line}
use Rattle.volume_laws.specs.layout_model.declared.lines.Inode.{Inode}
use Rattle.volume_laws.specs.layout_model.declared.lines.Kind.{Kind}
use Rattle.volume_laws.specs.layout_model.declared.lines.Kind.TheVariants.{Free, Directory, File, Staging}
use Rattle.volume_laws.specs.layout_model.Fresh.{empty_inode, fresh}
use Rattle.volume_laws.specs.layout_model.Lines.{NameRow, Named, is_name_row, encode_inode, decode_inode, encode_name, decode_name}
use Rattle.volume_laws.specs.layout_model.NameLaws.{decode_name-encode_name}
use Rattle.volume_laws.specs.image_model.FreshVolume.{fresh_inode, fresh_volume}
use Rattle.volume_laws.specs.image_model.Reading.{Reads, AreBytes, node_set, row_set}
use Rattle.volume_laws.specs.image_model.Volume.{Volume, inode, free_inode}
use Rattle.volume_laws.specs.SetLaws.{reads-node, reads-row}
use Rattle.image_laws.specs.FreshLaws.{fresh_cases, fresh-reads, inode-fresh}
use Rattle.image_laws.specs.LineDamage.{AreBytes-test, IsLaidOn, laid-fresh, laid-line}

-- inode lines from line i on, of these kinds, each taken once; and name lines from line k on
unfoldable pub with_nodes : ℕ → List Kind → Words → Words
with_nodes i [] f = f
with_nodes i (kind ∷ kinds) f = with_nodes (suc i) kinds (with_line (inode_line i) (encode_inode (empty_inode kind 1)) f)

unfoldable pub with_names : Geometry → ℕ → List NameRow → Words → Words
with_names g k [] f = f
with_names g k (r ∷ rows) f = with_names g (suc k) rows (with_line (name_line g k) (encode_name r) f)

-- the same in a volume
unfoldable pub nodes_set : ℕ → List Kind → Volume → Volume
nodes_set i [] v = v
nodes_set i (kind ∷ kinds) v = nodes_set (suc i) kinds (node_set i (empty_inode kind 1) v)

unfoldable pub names_set : ℕ → List NameRow → Volume → Volume
names_set k [] v = v
names_set k (r ∷ rows) v = names_set (suc k) rows (row_set k (Some r) v)

-- an image with nodes from 5 on and names from line 0 on
abbrev pub tree_image : Geometry → List Kind → List NameRow → Words
tree_image g kinds rows = with_names g 0 rows (with_nodes 5 kinds (fresh g))

abbrev pub tree_volume : Geometry → List Kind → List NameRow → Volume
tree_volume g kinds rows = names_set 0 rows (nodes_set 5 kinds (fresh_volume g))

-- the row has room in its line, and is read from it
pub record IsLineOf (r : NameRow) : Type 0 where
  pub bytes : AreBytes (encode_name r)
  pub reads : decode_name (encode_name r) ≡ Named r

abbrev pub AreLines : List NameRow → Type 0
AreLines [] = Unit {0}
AreLines (r ∷ rows) = IsLineOf r × AreLines rows

-- by a test
abbrev pub line_fits : NameRow → Bool
line_fits r =
    nat_lt r.parent (2 ^ 32) && nat_lt r.child (2 ^ 32) && is_name_row r && list_all (λ b. nat_lt b 256) (encode_name r) && (length (encode_name r) == 64)

IsLineOf-test : (r : NameRow) → line_fits r ≡ true → IsLineOf r
IsLineOf-test r h =
    let size = and_parts (nat_lt r.parent (2 ^ 32) && nat_lt r.child (2 ^ 32) && is_name_row r && list_all (λ b. nat_lt b 256) (encode_name r)) (length (encode_name r) == 64) h in
    let small = and_parts (nat_lt r.parent (2 ^ 32) && nat_lt r.child (2 ^ 32) && is_name_row r) (list_all (λ b. nat_lt b 256) (encode_name r)) size.0 in
    let is_row = and_parts (nat_lt r.parent (2 ^ 32) && nat_lt r.child (2 ^ 32)) (is_name_row r) small.0 in
    let fits = and_parts (nat_lt r.parent (2 ^ 32)) (nat_lt r.child (2 ^ 32)) is_row.0 in
    record {
      bytes = AreBytes-test (encode_name r) (eqb-true (length (encode_name r)) 64 size.1) small.1;
      reads = decode_name-encode_name r (record { parent = ltb-true r.parent (2 ^ 32) fits.0; child = ltb-true r.child (2 ^ 32) fits.1 }) is_row.1;
    }

pub AreLines-test : (rows : List NameRow) → list_all line_fits rows ≡ true → AreLines rows
AreLines-test [] h = tt
AreLines-test (r ∷ rows) h =
    let parts = and_parts (line_fits r) (list_all line_fits rows) h in
    (IsLineOf-test r parts.0, AreLines-test rows parts.1)

-- The lines of inodes without a map.
inode-bytes : (kind : Kind) → AreBytes (encode_inode (empty_inode kind 1))
inode-bytes Free = AreBytes-test (encode_inode (empty_inode Free 1)) refl refl
inode-bytes Directory = AreBytes-test (encode_inode (empty_inode Directory 1)) refl refl
inode-bytes File = AreBytes-test (encode_inode (empty_inode File 1)) refl refl
inode-bytes Staging = AreBytes-test (encode_inode (empty_inode Staging 1)) refl refl

inode-read : (kind : Kind) → decode_inode (encode_inode (empty_inode kind 1)) ≡ Some (empty_inode kind 1)
unfolding decode_inode
inode-read Free = refl
inode-read Directory = refl
inode-read File = refl
inode-read Staging = refl

-- no inode has a map
pub HasNoMaps : Volume → Type 0
HasNoMaps v = (ino : ℕ) → ((inode v ino).root ≡ 0) × ((inode v ino).extents ≡ 0)

fresh-no_maps : (g : Geometry) → IsGeometry g → HasNoMaps (fresh_volume g)
unfolding HasNoMaps
fresh-no_maps g ok ino =
    let line = inode-fresh g ino (omega (arith, ok.least_inodes)) in
    let none : ((fresh_inode ino).root ≡ 0) × ((fresh_inode ino).extents ≡ 0) =
    fresh_cases (λ i x. (x.root ≡ 0) × (x.extents ≡ 0)) ino (λ e. (refl, refl)) (λ from to. (refl, refl)) (λ far. (refl, refl))
    in
    (ap (λ (x : Inode). x.root) line ∙ none.0, ap (λ (x : Inode). x.extents) line ∙ none.1)

set-no_maps : (v : Volume) (i : ℕ) (kind : Kind) → i < length v.inodes → HasNoMaps v → HasNoMaps (node_set i (empty_inode kind 1) v)
unfolding HasNoMaps
set-no_maps v i kind within none ino =
    elim (cases_eq ino i) [
      | inl same ↦
          let own : inode (node_set i (empty_inode kind 1) v) ino ≡ empty_inode kind 1 =
          ap (inode (node_set i (empty_inode kind 1) v)) same ∙ get_or-set_same v.inodes i (empty_inode kind 1) free_inode within
          in
          (ap (λ (x : Inode). x.root) own, ap (λ (x : Inode). x.extents) own)
      | inr apart ↦
          let other : inode (node_set i (empty_inode kind 1) v) ino ≡ inode v ino = get_or-set_other v.inodes i ino (empty_inode kind 1) free_inode apart in
          (ap (λ (x : Inode). x.root) other ∙ (none ino).0, ap (λ (x : Inode). x.extents) other ∙ (none ino).1)
    ]

-- the words with the lines read as the volume with the inodes, and with the rows
reads-nodes : (g : Geometry) (f : Words) (v : Volume) (i : ℕ) (kinds : List Kind) → i + length kinds ≤ g.inodes → HasNoMaps v → Reads g f v → Reads g (with_nodes i kinds f) (nodes_set i kinds v)
unfolding with_nodes nodes_set HasNoMaps
reads-nodes g f v i [] room none r = r
reads-nodes g f v i (kind ∷ kinds) room none r =
    let x = empty_inode kind 1 in
    let within : i < g.inodes = omega arith in
    reads-nodes g (with_line (inode_line i) (encode_inode x) f) (node_set i x v) (suc i) kinds (omega arith)
    (set-no_maps v i kind (omega (arith, r.inode_count)) none)
    (reads-node g f v i x (encode_inode x) within (inode-bytes kind) (inode-read kind) (sym (none i).0) (sym (none i).1) r)

reads-names : (g : Geometry) (f : Words) (v : Volume) (k : ℕ) (rows : List NameRow) → k + length rows ≤ g.names → AreLines rows → Reads g f v → Reads g (with_names g k rows f) (names_set k rows v)
unfolding with_names names_set
reads-names g f v k [] room lines r = r
reads-names g f v k (row ∷ rows) room lines r =
    let within : k < g.names = omega arith in
    reads-names g (with_line (name_line g k) (encode_name row) f) (row_set k (Some row) v) (suc k) rows (omega arith) lines.1
    (reads-row g f v k (Some row) (encode_name row) within lines.0.bytes lines.0.reads r)

pub tree-reads : (g : Geometry) (kinds : List Kind) (rows : List NameRow) → IsGeometry g → 5 + length kinds ≤ g.inodes → length rows ≤ g.names → AreLines rows
    → Reads g (tree_image g kinds rows) (tree_volume g kinds rows)
tree-reads g kinds rows ok few few_names lines =
    reads-names g (with_nodes 5 kinds (fresh g)) (nodes_set 5 kinds (fresh_volume g)) 0 rows (omega arith) lines
    (reads-nodes g (fresh g) (fresh_volume g) 5 kinds few (fresh-no_maps g ok) (fresh-reads g ok))

-- nothing is in the journal, and block 0 is that of the fresh image
laid-nodes : (g : Geometry) (f : Words) (i : ℕ) (kinds : List Kind) → IsLaidOn g f → IsLaidOn g (with_nodes i kinds f)
unfolding with_nodes
laid-nodes g f i [] laid = laid
laid-nodes g f i (kind ∷ kinds) laid =
    laid-nodes g (with_line (inode_line i) (encode_inode (empty_inode kind 1)) f) (suc i) kinds
    (laid-line g f (inode_line i) (encode_inode (empty_inode kind 1)) laid (omega arith))

laid-names : (g : Geometry) (f : Words) (k : ℕ) (rows : List NameRow) → IsLaidOn g f → IsLaidOn g (with_names g k rows f)
unfolding with_names
laid-names g f k [] laid = laid
laid-names g f k (row ∷ rows) laid =
    laid-names g (with_line (name_line g k) (encode_name row) f) (suc k) rows (laid-line g f (name_line g k) (encode_name row) laid (omega arith))

pub tree-laid : (g : Geometry) (kinds : List Kind) (rows : List NameRow) → IsLaidOn g (tree_image g kinds rows)
tree-laid g kinds rows = laid-names g (with_nodes 5 kinds (fresh g)) 0 rows (laid-nodes g (fresh g) 5 kinds (laid-fresh g))
