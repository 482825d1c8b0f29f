-- Inodes of a sane volume: what the kinds say of names and numbers; and what is said of all inodes after one was set.
use Rattle.std.specs.Prelude.{◌≡◌, ◌≢◌, ◌⊎◌, ℕ, ◌<◌, ◌≤◌, length, All, true, false, slice_set, slice_index_or, Option, Some, None, refl}
use Rattle.std.proofs.Common.{ap, sym, ◌∙◌, subst, inl, inr}
use Rattle.std.proofs.lemmas.Bool.{cases_eq, both_ways, ne_eqb}
use Rattle.name_laws.specs.volume_laws.layout_model.declared.lines.Inode.{Inode}
use Rattle.name_laws.specs.volume_laws.layout_model.declared.lines.Kind.{Kind}
use Rattle.name_laws.specs.volume_laws.layout_model.declared.lines.Kind.TheVariants.{Free, Directory, File, Staging}
use Rattle.name_laws.specs.volume_laws.layout_model.Lines.{NameRow}
use Rattle.name_laws.specs.volume_laws.layout_model.Names.{row, is_child, is_below_parent, names_of, has_entries}
use Rattle.name_laws.specs.volume_laws.image_model.Live.{is_directory, is_file}
use Rattle.name_laws.specs.volume_laws.image_model.Reading.{node_set}
use Rattle.name_laws.specs.volume_laws.image_model.Rules.{IsKindAt, IsInData, file_blocks_of}
use Rattle.name_laws.specs.volume_laws.image_model.Volume.{Volume, inode, chain, extents, free_inode}
use Rattle.name_laws.specs.RowLaws.{has_entries-none, names_of-none}
use Rattle.volume_change_laws.specs.Sane.{AreSane, HasKinds, HasData}
use Rattle.name_laws.specs.volume_laws.Changes.{inode-set_same, inode-set_other}

-- ---- inodes of a sane volume

-- what a row names, and its parent, is in use
pub named-used : (v : Volume) (k : ℕ) (r : NameRow) → AreSane v → row v.names k ≡ Some r → (inode v r.child).kind ≢ Free
named-used v k r sane is free = elim (sane.named k r is).0 [
  | inl directory ↦ both_ways (is_directory (inode v r.child).kind) (ap is_directory free) directory
  | inr file ↦ both_ways (is_file (inode v r.child).kind) (ap is_file free) file
]

-- so what is free has no name
pub free-unnamed : (v : Volume) (ino : ℕ) → AreSane v → (inode v ino).kind ≡ Free → names_of v.names ino ≡ 0
free-unnamed v ino sane free = names_of-none v.names ino (λ k. by k (row v.names k) refl)
  where
    by : (k : ℕ) (o : Option NameRow) → row v.names k ≡ o → is_child ino o ≡ false
    by k None is = refl
    by k (Some r) is = ne_eqb r.child ino (λ e. named-used v k r sane is (ap (λ i. (inode v i).kind) e ∙ free))

-- and what is no directory has no entries
pub plain-empty : (v : Volume) (ino : ℕ) → AreSane v → is_directory (inode v ino).kind ≡ false
    → has_entries v.names ino ≡ false
plain-empty v ino sane plain = has_entries-none v.names ino (λ k. by k (row v.names k) refl)
  where
    by : (k : ℕ) (o : Option NameRow) → row v.names k ≡ o → is_below_parent ino o ≡ false
    by k None is = refl
    by k (Some r) is =
        ne_eqb r.parent ino
        (λ e. both_ways (is_directory (inode v ino).kind) plain (ap (λ i. is_directory (inode v i).kind) (sym e) ∙ sane.forest.parents k r is))

-- a free inode is one from 5 on, and so is a file, and each directory but the root
pub free-number : (kind : Kind) (ino : ℕ) → kind ≡ Free → IsKindAt ino kind → 5 ≤ ino
free-number kind ino free at = subst (IsKindAt ino) free at

pub file-number : (kind : Kind) (ino : ℕ) → kind ≡ File → IsKindAt ino kind → 5 ≤ ino
file-number kind ino file at = subst (IsKindAt ino) file at

pub directory-number : (kind : Kind) (ino : ℕ) → is_directory kind ≡ true → ino ≢ 0 → IsKindAt ino kind → 5 ≤ ino
directory-number Free ino is own at = cc
directory-number Directory ino is own (inl zero) = absurd (own zero)
directory-number Directory ino is own (inr high) = high
directory-number File ino is own at = cc
directory-number Staging ino is own at = cc

-- the kinds of directories and files: what they ask of a number, and of a map
pub node-number : (kind : Kind) (ino : ℕ) → (kind ≡ Directory) ⊎ (kind ≡ File) → 5 ≤ ino → IsKindAt ino kind
node-number kind ino (inl is) high = subst (IsKindAt ino) (sym is) (inr high)
node-number kind ino (inr is) high = subst (IsKindAt ino) (sym is) high

pub node-blocks : (kind : Kind) → (kind ≡ Directory) ⊎ (kind ≡ File) → file_blocks_of kind ≡ 4096
node-blocks kind (inl is) = ap file_blocks_of is
node-blocks kind (inr is) = ap file_blocks_of is

pub node-named : (kind : Kind) → (kind ≡ Directory) ⊎ (kind ≡ File) → (is_directory kind ≡ true) ⊎ (is_file kind ≡ true)
node-named kind (inl is) = inl (ap is_directory is)
node-named kind (inr is) = inr (ap is_file is)

pub directory-blocks : (kind : Kind) → is_directory kind ≡ true → file_blocks_of kind ≡ 4096
directory-blocks Free is = refl
directory-blocks Directory is = refl
directory-blocks File is = refl
directory-blocks Staging is = cc

-- ---- one inode is set

-- what holds of the kinds of all inodes holds after one was set, where it holds of that one
pub set-kinds : (v : Volume) (ino : ℕ) (x : Inode) → ino < length v.inodes → IsKindAt ino x.kind → HasKinds v → (i : ℕ)
    → i < v.geometry.inodes
    → IsKindAt i (inode (node_set ino x v) i).kind
set-kinds v ino x below own kinds i within = elim (cases_eq i ino) [
  | inl here ↦
      subst (λ n. IsKindAt n (inode (node_set ino x v) n).kind) (sym here)
      (subst (λ (y : Inode). IsKindAt ino y.kind) (sym (inode-set_same ino x (chain v ino) (extents v ino) v below)) own)
  | inr apart ↦
      subst (λ (y : Inode). IsKindAt i y.kind) (sym (inode-set_other ino x (chain v ino) (extents v ino) v i apart)) (kinds i within)
]

pub set-data : (v : Volume) (ino : ℕ) (x : Inode) → ino < length v.inodes
    → file_blocks_of x.kind ≡ file_blocks_of (inode v ino).kind → HasData v
    → (i : ℕ) → i < v.geometry.inodes
    → All (IsInData v.geometry (file_blocks_of (inode (node_set ino x v) i).kind)) (extents v i)
set-data v ino x below same in_data i within = elim (cases_eq i ino) [
  | inl here ↦
      let now : file_blocks_of (inode (node_set ino x v) i).kind ≡ file_blocks_of (inode v i).kind =
      ap (λ n. file_blocks_of (inode (node_set ino x v) n).kind) here
      ∙ ap (λ (y : Inode). file_blocks_of y.kind) (inode-set_same ino x (chain v ino) (extents v ino) v below) ∙ same
      ∙ ap (λ n. file_blocks_of (inode v n).kind) (sym here)
      in
      subst (λ n. All (IsInData v.geometry n) (extents v i)) (sym now) (in_data i within)
  | inr apart ↦
      subst (λ (y : Inode). All (IsInData v.geometry (file_blocks_of y.kind)) (extents v i))
      (sym (inode-set_other ino x (chain v ino) (extents v ino) v i apart)) (in_data i within)
]

-- the kind of an inode after one was set that it is not
pub set-other : (v : Volume) (ino : ℕ) (x : Inode) (i : ℕ) → i ≢ ino
    → (slice_index_or (slice_set v.inodes ino x) i free_inode).kind ≡ (inode v i).kind
set-other v ino x i apart = ap (λ (y : Inode). y.kind) (inode-set_other ino x (chain v ino) (extents v ino) v i apart)

pub set-same : (v : Volume) (ino : ℕ) (x : Inode) → ino < length v.inodes
    → (slice_index_or (slice_set v.inodes ino x) ino free_inode).kind ≡ x.kind
set-same v ino x below = ap (λ (y : Inode). y.kind) (inode-set_same ino x (chain v ino) (extents v ino) v below)

-- and where it keeps its kind each inode does
pub set-kind : (v : Volume) (ino : ℕ) (x : Inode) → ino < length v.inodes → x.kind ≡ (inode v ino).kind → (i : ℕ)
    → (slice_index_or (slice_set v.inodes ino x) i free_inode).kind ≡ (inode v i).kind
set-kind v ino x below same i = elim (cases_eq i ino) [
  | inl here ↦
      ap (λ n. (slice_index_or (slice_set v.inodes ino x) n free_inode).kind) here ∙ set-same v ino x below ∙ same
      ∙ ap (λ n. (inode v n).kind) (sym here)
  | inr apart ↦ set-other v ino x i apart
]
