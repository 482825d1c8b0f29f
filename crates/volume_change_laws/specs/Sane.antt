-- What the rules say of the names of a volume, but that each directory has a name: of any table, whatever its length.
use Rattle.std.specs.Prelude.{◌≡◌, ℕ, ◌<◌, ◌≤◌, All, true, Option, Some, None, refl}
use Rattle.std.proofs.Common.{arith, subst}
use Rattle.name_laws.specs.volume_laws.layout_model.Lines.{NameRow}
use Rattle.name_laws.specs.volume_laws.layout_model.Names.{Rows, row, is_entry, names_of, up}
use Rattle.name_laws.specs.volume_laws.layout_model.TableLaws.{is_entry-own}
use Rattle.name_laws.specs.volume_laws.image_model.Kept.{IsNamedRow, AreKept}
use Rattle.name_laws.specs.volume_laws.image_model.Live.{is_directory}
use Rattle.name_laws.specs.volume_laws.image_model.Rules.{IsKindAt, IsNamed, IsNamedOnce, IsInData, IsRowPlaced, file_blocks_of}
use Rattle.name_laws.specs.volume_laws.image_model.Volume.{Volume, inode, extents}
use Rattle.name_laws.specs.volume_laws.layout_model.Places.{is_data_block}
use Rattle.name_laws.specs.k_split_model.Spaces.{is_directory_in}
use Rattle.name_laws.specs.Forests.{IsForest}
use Rattle.name_laws.specs.KeptLaws.{HasAllLines, kept-forest, kept-placed, kept-named, kept-one_name}

-- going up from the inode one comes to the root in less than 16 steps
abbrev pub HasWayUp : Rows → ℕ → Type 0
HasWayUp rows ino = (n : ℕ) × (n < 16) × (up rows n ino ≡ Some 0)

-- Each row names a node, in a directory from which going up comes to the root; the names are trees, in which no two rows
-- have one parent and name; no node has two names, and the root has none.
pub record AreSane (v : Volume) : Type 0 where
  pub named : (k : ℕ) (r : NameRow) → row v.names k ≡ Some r → IsNamed v r
  pub ways : (k : ℕ) (r : NameRow) → row v.names k ≡ Some r → HasWayUp v.names r.parent
  pub forest : IsForest (is_directory_in v.inodes) v.names
  pub one_name : (ino : ℕ) → names_of v.names ino ≤ 1
  pub root : names_of v.names 0 ≡ 0

-- every directory but the root has a name
abbrev pub HasEachName : Volume → Type 0
HasEachName v = (ino : ℕ) → 0 < ino → is_directory (inode v ino).kind ≡ true → 1 ≤ names_of v.names ino

-- what the rules say of blocks and of kinds
abbrev pub HasKinds : Volume → Type 0
HasKinds v = (ino : ℕ) → ino < v.geometry.inodes → IsKindAt ino (inode v ino).kind

abbrev pub HasData : Volume → Type 0
HasData v =
    (ino : ℕ) → ino < v.geometry.inodes → All (IsInData v.geometry (file_blocks_of (inode v ino).kind)) (extents v ino)

abbrev pub HasBlocksOnce : Volume → Type 0
HasBlocksOnce v = (b : ℕ) → is_data_block v.geometry b ≡ true → IsNamedOnce v b

-- a volume that keeps the rules is sane
pub sane-kept : (v : Volume) → AreKept v → HasAllLines v → AreSane v
sane-kept v kept all = record {
  named = λ k r is. kept-named v k r kept all is;
  ways = λ k r is. (kept-placed v k r kept all is).steps;
  forest = kept-forest v kept all;
  one_name = kept-one_name v kept all;
  root = kept.directories.root;
}

-- and a sane one keeps the rules
pub kept-sane : (v : Volume) → AreSane v → HasEachName v → HasKinds v → HasData v → HasBlocksOnce v → AreKept v
kept-sane v sane each kinds in_data once = record {
  kinds = kinds;
  named = λ k below. its_name k (row v.names k) refl;
  in_data = in_data;
  once = once;
  placed = λ k below. its_place k (row v.names k) refl;
  directories = record { each = each; root = sane.root };
  one_name = λ ino below. sane.one_name ino;
}
  where
    its_name : (k : ℕ) (o : Option NameRow) → row v.names k ≡ o → IsNamedRow v o
    its_name k None is = tt
    its_name k (Some r) is = sane.named k r is

    its_place : (k : ℕ) (o : Option NameRow) → row v.names k ≡ o → IsRowPlaced v k o
    its_place k None is = tt
    its_place k (Some r) is = record {
      parent = sane.forest.parents k r is;
      only = λ later s behind is_s same_parent same_name.
          let entry = is_entry-own (row v.names k) r is in
          let other = subst (λ n. is_entry r.parent n (row v.names later) ≡ true) same_name
          (subst (λ p. is_entry p s.name (row v.names later) ≡ true) same_parent (is_entry-own (row v.names later) s is_s)) in
          absurd (omega (arith, sane.forest.keyed.one_line r.parent r.name k later entry other, behind));
      steps = sane.ways k r is;
    }
