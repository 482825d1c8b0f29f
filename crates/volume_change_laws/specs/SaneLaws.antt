-- Names stay sane where a line is taken, freed or moved, and where nodes change that no row names.
use Rattle.std.specs.Prelude.{◌≡◌, ◌≢◌, ◌⊎◌, ℕ, suc, ◌+◌, ◌<◌, ◌≤◌, List, length, true, false, slice_set, slice_index_or, Some, None}
use Rattle.std.proofs.Common.{arith, ap, sym, ◌∙◌, subst, inl, inr}
use Rattle.std.proofs.lemmas.Bool.{cases_eq, eq-eqb, ne_eqb}
use Rattle.name_laws.specs.volume_laws.extent_model.declared.extent_words.Extent.{Extent}
use Rattle.name_laws.specs.volume_laws.layout_model.declared.lines.Inode.{Inode}
use Rattle.name_laws.specs.volume_laws.layout_model.Lines.{NameRow}
use Rattle.name_laws.specs.volume_laws.layout_model.Names.{Rows, row, is_entry, names_of, has_entries, parent_of, up}
use Rattle.name_laws.specs.volume_laws.image_model.Live.{is_directory, is_file}
use Rattle.name_laws.specs.volume_laws.image_model.Reading.{row_set}
use Rattle.name_laws.specs.volume_laws.image_model.Rules.{IsNamed}
use Rattle.name_laws.specs.volume_laws.image_model.Volume.{Volume, inode, free_inode}
use Rattle.name_laws.specs.k_split_model.Spaces.{is_directory_in}
use Rattle.name_laws.specs.Forests.{SameAbove}
use Rattle.name_laws.specs.ForestLaws.{up-unmoved, up-moved, up-taken, up-freed, meets-or_not, forest-taken, forest-freed, forest-moved}
use Rattle.name_laws.specs.RowLaws.{row-below, has_entries-parent}
use Rattle.name_laws.specs.SetLaws.{row-cases, row-freed, names_of-taken, names_of-freed, names_of-moved, parent_of-moved, parent_of-moved_other}
use Rattle.volume_change_laws.specs.Sane.{AreSane, HasWayUp}
use Rattle.name_laws.specs.volume_laws.Lists.{one_if}

-- ---- a free line is taken

-- the line is free and the name new; the child is a node without names and entries, and not the root; the parent is a
-- directory from which going up comes to the root
pub record MayTake (v : Volume) (line : ℕ) (r : NameRow) : Type 0 where
  pub within : line < length v.names
  pub free : row v.names line ≡ None
  pub is_new : (k : ℕ) → is_entry r.parent r.name (row v.names k) ≡ false
  pub named : IsNamed v r
  pub parent : is_directory (inode v r.parent).kind ≡ true
  pub way : HasWayUp v.names r.parent
  pub unnamed : names_of v.names r.child ≡ 0
  pub empty : has_entries v.names r.child ≡ false
  pub apart : r.parent ≢ r.child
  pub own : r.child ≢ 0

pub sane-taken : (v : Volume) (line : ℕ) (r : NameRow) → AreSane v → MayTake v line r
    → AreSane (row_set line (Some r) v)
sane-taken v line r sane may = record {
  named = λ k t is. elim (row-cases v.names line r k t may.within is) [
    | inl same ↦ subst (IsNamed v) same may.named
    | inr other ↦ sane.named k t other.1
  ];
  ways = λ k t is. elim (row-cases v.names line r k t may.within is) [
    | inl same ↦
        subst (λ (x : NameRow). HasWayUp (slice_set v.names line (Some r)) x.parent) same (still r.parent may.apart may.way)
    | inr other ↦ still t.parent (has_entries-parent v.names r.child k t may.empty other.1) (sane.ways k t other.1)
  ];
  forest =
      forest-taken (is_directory_in v.inodes) v.names line r may.within may.free may.is_new may.parent (λ directory. may.unnamed)
      may.empty may.apart sane.forest;
  one_name = λ ino. elim (cases_eq r.child ino) [
    | inl same ↦ omega (arith, names_of-taken v.names line r ino may.within may.free, ap (names_of v.names) same, may.unnamed, ap one_if (eq-eqb r.child ino same))
    | inr other ↦ omega (arith, names_of-taken v.names line r ino may.within may.free, sane.one_name ino, ap one_if (ne_eqb r.child ino other))
  ];
  root = omega (arith, names_of-taken v.names line r 0 may.within may.free, sane.root, ap one_if (ne_eqb r.child 0 may.own));
}
  where
    still : (ino : ℕ) → ino ≢ r.child → HasWayUp v.names ino → HasWayUp (slice_set v.names line (Some r)) ino
    still ino apart way = (way.0, way.1, up-taken v.names line r way.0 ino may.free may.empty apart ∙ way.2)

-- ---- a line is freed

-- the child of the line has no entries
pub record MayFree (v : Volume) (line : ℕ) (r : NameRow) : Type 0 where
  pub is : row v.names line ≡ Some r
  pub empty : has_entries v.names r.child ≡ false

-- the way up is the same from each other inode
pub way-freed : (v : Volume) (line : ℕ) (r : NameRow) (n ino : ℕ) → MayFree v line r → ino ≢ r.child
    → up (slice_set v.names line None) n ino ≡ up v.names n ino
way-freed v line r n ino may apart = up-freed v.names line r n ino may.is may.empty apart

pub sane-freed : (v : Volume) (line : ℕ) (r : NameRow) → AreSane v → MayFree v line r → AreSane (row_set line None v)
sane-freed v line r sane may = record {
  named = λ k t is. sane.named k t (row-freed v.names line k t is).1;
  ways = λ k t is.
      let was = (row-freed v.names line k t is).1 in
      let way : HasWayUp v.names t.parent = sane.ways k t was in
      (way.0, way.1, way-freed v line r way.0 t.parent may (has_entries-parent v.names r.child k t may.empty was) ∙ way.2);
  forest = forest-freed (is_directory_in v.inodes) v.names line r (row-below v.names line r may.is) may.is may.empty sane.forest;
  one_name = λ ino. omega (arith, names_of-freed v.names line r ino (row-below v.names line r may.is) may.is, sane.one_name ino);
  root = omega (arith, names_of-freed v.names line r 0 (row-below v.names line r may.is) may.is, sane.root);
}

-- ---- a line goes over to another parent or name of its child

-- The name is new, or that of the line itself; the new parent is a directory, `high` steps below the root, and not
-- the child or below it; and what is m steps below the child is less than 16 steps below the root afterwards.
pub record MayMove (v : Volume) (line : ℕ) (r s : NameRow) (high : ℕ) : Type 0 where
  pub is : row v.names line ≡ Some r
  pub same : s.child ≡ r.child
  pub is_new : (k : ℕ) → is_entry s.parent s.name (row v.names k) ≡ true → k ≡ line
  pub parent : is_directory (inode v s.parent).kind ≡ true
  pub within : s.parent < v.geometry.inodes
  pub way : up v.names high s.parent ≡ Some 0
  pub short : high < 16
  pub outside : (m : ℕ) → up v.names m s.parent ≢ Some r.child
  pub deep : (k m : ℕ) (t : NameRow) → row v.names k ≡ Some t → up v.names m t.parent ≡ Some r.child → high + 1 + m < 16

-- The hard lemma: from each inode one comes to the root still, by the old way where it does not lead through the child,
-- and else up to the child and on from its new directory.
pub way-moved : (v : Volume) (line : ℕ) (r s : NameRow) (high ino : ℕ) → AreSane v → row v.names line ≡ Some r
    → s.child ≡ r.child
    → up v.names high s.parent ≡ Some 0 → ((m : ℕ) → up v.names m s.parent ≢ Some r.child)
    → ((m : ℕ) → up v.names m ino ≡ Some r.child → high + 1 + m < 16)
    → HasWayUp v.names ino → HasWayUp (row_set line (Some s) v).names ino
way-moved v line r s high ino sane is same way outside deep own = elim (meets-or_not v.names r.child own.0 ino) [
  | inl met ↦
      let its_parent : parent_of moved r.child ≡ Some s.parent =
      ap (parent_of moved) (sym same)
      ∙ parent_of-moved v.names line r s (row-below v.names line r is) is same (sane.one_name r.child)
      in
      let low : high + 1 + met.0 < 16 = deep met.0 met.2.at in
      let top : up moved high s.parent ≡ Some 0 =
      up-unmoved v.names moved r.child high s.parent above (λ m low. outside m) ∙ way
      in
      (met.0 + suc high, omega (arith, low), up-moved v.names moved r.child s.parent met.0 high ino above its_parent met.2 ∙ top)
  | inr never ↦ (own.0, own.1, up-unmoved v.names moved r.child own.0 ino above never ∙ own.2)
]
  where
    moved : Rows
    moved = slice_set v.names line (Some s)

    above : SameAbove r.child v.names moved
    above i other = parent_of-moved_other v.names line r s i is same (λ e. other (sym e))

pub sane-moved : (v : Volume) (line : ℕ) (r s : NameRow) (high : ℕ) → AreSane v → MayMove v line r s high
    → AreSane (row_set line (Some s) v)
sane-moved v line r s high sane may = record {
  named = λ k t is. elim (row-cases v.names line s k t below is) [
    | inl same ↦ subst (IsNamed v) same its_name
    | inr other ↦ sane.named k t other.1
  ];
  ways = λ k t is. elim (row-cases v.names line s k t below is) [
    | inl same ↦ subst (λ (x : NameRow). HasWayUp moved x.parent) same (high, may.short, top)
    | inr other ↦
        way-moved v line r s high t.parent sane may.is may.same may.way may.outside
        (λ m meets. may.deep k m t other.1 meets) (sane.ways k t other.1)
  ];
  forest =
      forest-moved (is_directory_in v.inodes) v.names line r s below may.is may.same may.is_new may.parent may.outside sane.forest;
  one_name = λ ino. omega (arith, names_of-moved v.names line r s ino below may.is may.same, sane.one_name ino);
  root = names_of-moved v.names line r s 0 below may.is may.same ∙ sane.root;
}
  where
    moved : Rows
    moved = slice_set v.names line (Some s)

    below : line < length v.names
    below = row-below v.names line r may.is

    its_name : IsNamed v s
    its_name =
        let old : IsNamed v r = sane.named line r may.is in
        (subst (λ c. (is_directory (inode v c).kind ≡ true) ⊎ (is_file (inode v c).kind ≡ true)) (sym may.same) old.0, may.within)

    above : SameAbove r.child v.names moved
    above ino other = parent_of-moved_other v.names line r s ino may.is may.same (λ e. other (sym e))

    top : up moved high s.parent ≡ Some 0
    top = up-unmoved v.names moved r.child high s.parent above (λ m low. may.outside m) ∙ may.way

-- ---- nodes change

-- Nodes, chains and maps change, and the kinds of those that rows name stay.
pub sane-nodes : (v : Volume) (inodes : List Inode) (chains : List (List ℕ)) (maps : List (List Extent)) → AreSane v
    → ((k : ℕ) (r : NameRow) → row v.names k ≡ Some r → (slice_index_or inodes r.child free_inode).kind ≡ (inode v r.child).kind)
    → ((k : ℕ) (r : NameRow) → row v.names k ≡ Some r → (slice_index_or inodes r.parent free_inode).kind ≡ (inode v r.parent).kind)
    → AreSane (record v { inodes = inodes; chains = chains; maps = maps })
sane-nodes v inodes chains maps sane children parents = record {
  named = λ k r is.
      let old : IsNamed v r = sane.named k r is in
      (subst (λ kind. (is_directory kind ≡ true) ⊎ (is_file kind ≡ true)) (sym (children k r is)) old.0, old.1);
  ways = sane.ways;
  forest = record {
    keyed = sane.forest.keyed;
    parents = λ k r is. subst (λ kind. is_directory kind ≡ true) (sym (parents k r is)) (sane.forest.parents k r is);
    one_name = λ ino directory. sane.one_name ino;
    ends = sane.forest.ends;
  };
  one_name = sane.one_name;
  root = sane.root;
}
