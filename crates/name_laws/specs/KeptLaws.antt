-- The names of a sane volume are trees: what a table of names asks for.
use Rattle.std.specs.Prelude.{◌≡◌, ◌⊎◌, ℕ, suc, ◌<◌, ◌≤◌, List, length, true, false, Option, Some, None, refl}
use Rattle.std.proofs.Common.{arith, ap, sym, ◌∙◌, subst, inl, inr}
use Rattle.std.proofs.lemmas.Bool.{cases_lt, cases_order, false_from_ne_true}
use Rattle.std.proofs.lemmas.List.{get_or_past}
use Rattle.volume_laws.specs.pm_model.Words.{Words}
use Rattle.volume_laws.specs.layout_model.Places.{Geometry}
use Rattle.volume_laws.specs.layout_model.Lines.{NameRow}
use Rattle.volume_laws.specs.layout_model.Names.{row, is_entry, is_child, names_of, parent_of, up}
use Rattle.volume_laws.specs.layout_model.TableLaws.{is_entry-parts, is_child-parts, NamingLine-parent_of}
use Rattle.volume_laws.specs.layout_model.Tables.{IsKeyed, IsAcyclic}
use Rattle.volume_laws.specs.layout_model.UpLaws.{up-past}
use Rattle.volume_laws.specs.image_model.Kept.{IsNamedRow, AreKept}
use Rattle.volume_laws.specs.image_model.Live.{is_file, is_directory}
use Rattle.volume_laws.specs.image_model.Reading.{Reads}
use Rattle.volume_laws.specs.image_model.Rules.{IsNamed, IsPlaced, IsRowPlaced}
use Rattle.volume_laws.specs.image_model.Volume.{Volume, free_inode, inode}
use Rattle.k_split_model.specs.Spaces.{is_directory_in}
use Rattle.name_laws.specs.Forests.{EndsUpwards, IsForest}
use Rattle.name_laws.specs.ForestLaws.{forest-acyclic, up-parent, up-top}
use Rattle.name_laws.specs.RowLaws.{row-below, names_of-none}
use Rattle.name_laws.specs.SetLaws.{parent_of-none}

-- the volume has as many inodes and name lines as its geometry says
pub record HasAllLines (v : Volume) : Type 0 where
  pub inode_count : length v.inodes ≡ v.geometry.inodes
  pub name_count : length v.names ≡ v.geometry.names

-- so has one that words read as
pub reads-all_lines : (g : Geometry) (f : Words) (v : Volume) → Reads g f v → HasAllLines v
reads-all_lines g f v r = record {
  inode_count = r.inode_count ∙ ap (λ (x : Geometry). x.inodes) (sym r.geometry);
  name_count = r.name_count ∙ ap (λ (x : Geometry). x.names) (sym r.geometry);
}

-- a row of it is placed, and names a node
pub kept-placed : (v : Volume) (k : ℕ) (r : NameRow) → AreKept v → HasAllLines v → row v.names k ≡ Some r
    → IsPlaced v k r
kept-placed v k r kept all is =
    subst (IsRowPlaced v k) is (kept.placed k (omega (arith, all.name_count, row-below v.names k r is)))

pub kept-named : (v : Volume) (k : ℕ) (r : NameRow) → AreKept v → HasAllLines v → row v.names k ≡ Some r → IsNamed v r
kept-named v k r kept all is = subst (IsNamedRow v) is (kept.named k (omega (arith, all.name_count, row-below v.names k r is)))

-- a directory or a file is an inode in range
pub node-below : (v : Volume) (ino : ℕ)
    → (is_directory (inode v ino).kind ≡ true) ⊎ (is_file (inode v ino).kind ≡ true) → ino < length v.inodes
node-below v ino node = elim (cases_lt ino (length v.inodes)) [
  | inl below ↦ below
  | inr past ↦
      let free : inode v ino ≡ free_inode = get_or_past v.inodes ino free_inode past in
      elim node [
        | inl directory ↦ let is : false ≡ true = rw free at directory in absurd (cc)
        | inr file ↦ let is : false ≡ true = rw free at file in absurd (cc)
      ]
]

-- no two lines have one parent and name
pub kept-keyed : (v : Volume) → AreKept v → HasAllLines v → IsKeyed v.names
kept-keyed v kept all = record { one_line = one }
  where
    apart : (parent : ℕ) (name : List ℕ) (j k : ℕ) → j < k → is_entry parent name (row v.names j) ≡ true
        → is_entry parent name (row v.names k) ≡ true → ⊥
    apart parent name j k before first second =
        let at_j = is_entry-parts parent name (row v.names j) first in
        let at_k = is_entry-parts parent name (row v.names k) second in
        (kept-placed v j at_j.0 kept all at_j.1).only k at_k.0 before at_k.1 (at_k.2 ∙ sym at_j.2) (at_k.3 ∙ sym at_j.3)

    one : (parent : ℕ) (name : List ℕ) (j k : ℕ) → is_entry parent name (row v.names j) ≡ true
        → is_entry parent name (row v.names k) ≡ true → j ≡ k
    one parent name j k first second = elim (cases_order j k) [
      | inl same ↦ same
      | inr order ↦ elim order [
        | inl before ↦ absurd (apart parent name j k before first second)
        | inr behind ↦ absurd (apart parent name k j behind second first)
      ]
    ]

-- no inode has two names
pub kept-one_name : (v : Volume) → AreKept v → HasAllLines v → (ino : ℕ) → names_of v.names ino ≤ 1
kept-one_name v kept all ino = elim (cases_lt ino v.geometry.inodes) [
  | inl below ↦ kept.one_name ino below
  | inr past ↦
      let none : names_of v.names ino ≡ 0 = names_of-none v.names ino (λ k. false_from_ne_true (is_child ino (row v.names k)) (λ child.
      let parts = is_child-parts ino (row v.names k) child in
      let below = node-below v parts.0.child (kept-named v k parts.0 kept all parts.1).0 in
      omega (arith, below, parts.2, all.inode_count)))
      in
      omega arith
]

-- going up comes to the root, and there to an end
pub kept-ends : (v : Volume) → AreKept v → HasAllLines v → EndsUpwards v.names
kept-ends v kept all ino = by (parent_of v.names ino) refl
  where
    by : (o : Option ℕ) → parent_of v.names ino ≡ o → (n : ℕ) × (up v.names n ino ≡ None)
    by None is = (1, up-top v.names 0 ino is)
    by (Some p) is =
        let named = NamingLine-parent_of v.names ino p is in
        let placed = kept-placed v named.1.line named.1.at kept all named.1.is in
        let steps : (n : ℕ) × (n < 16) × (up v.names n named.1.at.parent ≡ Some 0) = placed.steps in
        let at_p : up v.names steps.0 p ≡ Some 0 = ap (up v.names steps.0) (sym named.1.parent_is) ∙ steps.2 in
        let top : parent_of v.names 0 ≡ None = parent_of-none v.names 0 kept.directories.root in (
          suc (suc steps.0),
          up-parent v.names (suc steps.0) ino p is
              ∙ up-past v.names steps.0 (suc steps.0) p 0 at_p top (omega arith),
        )

pub kept-forest : (v : Volume) → AreKept v → HasAllLines v → IsForest (is_directory_in v.inodes) v.names
kept-forest v kept all = record {
  keyed = kept-keyed v kept all;
  parents = λ line r is. (kept-placed v line r kept all is).parent;
  one_name = λ ino directory. kept-one_name v kept all ino;
  ends = kept-ends v kept all;
}

pub kept-acyclic : (v : Volume) → AreKept v → HasAllLines v → IsAcyclic v.names
kept-acyclic v kept all = forest-acyclic (is_directory_in v.inodes) v.names (kept-forest v kept all)
