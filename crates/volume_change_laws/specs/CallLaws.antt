-- What the rows of a call leave is what its change asks for: where none of them fits the change keeps the rules.
use Rattle.std.specs.Prelude.{◌≡◌, ◌⊎◌, ℕ, ◌+◌, ◌<◌, List, [], ◌∷◌, ◌++◌, length, true, false, Some, option_and_then, refl}
use Rattle.std.proofs.Common.{arith, ap, sym, ◌∙◌, inl, inr}
use Rattle.std.proofs.lemmas.Bool.{both_ways, cases_Bool}
use Rattle.std.proofs.lemmas.List.{length-append}
use Rattle.name_laws.specs.volume_laws.layout_model.Places.{IsGeometry}
use Rattle.name_laws.specs.volume_laws.layout_model.declared.lines.Kind.{Kind}
use Rattle.name_laws.specs.volume_laws.layout_model.declared.lines.Kind.TheVariants.{Free, Directory, File, Staging}
use Rattle.name_laws.specs.volume_laws.layout_model.Lines.{NameRow}
use Rattle.name_laws.specs.volume_laws.layout_model.Names.{Rows, row, is_entry, child_named, free_line, up, walk}
use Rattle.name_laws.specs.volume_laws.layout_model.TableLaws.{child_named-at, free_line-some, walk-append, walk-one, walk-up}
use Rattle.name_laws.specs.volume_laws.image_model.Kept.{AreKept}
use Rattle.name_laws.specs.volume_laws.image_model.Live.{is_directory}
use Rattle.name_laws.specs.volume_laws.image_model.Rules.{IsKindAt}
use Rattle.name_laws.specs.volume_laws.image_model.Volume.{Volume, inode}
use Rattle.name_laws.specs.k_split_model.Spaces.{is_directory_in, volume_space}
use Rattle.name_laws.specs.KeptLaws.{HasAllLines}
use Rattle.name_laws.specs.RowLaws.{row-below}
use Rattle.name_laws.specs.SetLaws.{child_named-none}
use Rattle.name_laws.specs.WalkLaws.{walk-empty}
use Rattle.name_laws.specs.posix_tables.Names.{directory_path, is_below, last_name, longest_path, has_entries as has_entries_in, walk as walk_to}
use Rattle.volume_change_laws.specs.Changes.{HasPlace, MayMake, MayUnname, MayRemove, MayRename, MayRenameOver, MayRenameOverFile, MayRenameOverDirectory}
use Rattle.volume_change_laws.specs.NodeLaws.{plain-empty}
use Rattle.volume_change_laws.specs.Sane.{AreSane, sane-kept}
use Rattle.name_laws.specs.EntryLaws.{child_of-rows, has_entries-rows, walk_from-rows}
use Rattle.name_laws.specs.HeightLaws.{height-bound}
use Rattle.name_laws.specs.Paths.{HasDirectory, IsAt, IsNewAt, CanReplace, MayGo}
use Rattle.name_laws.specs.TreeLaws.{below-path, few-names, length-directory, split-last, up-of_walk}

-- the volume keeps the rules, has all its lines, and a root
pub record IsKeptVolume (v : Volume) : Type 0 where
  pub kept : AreKept v
  pub all : HasAllLines v
  pub geometry : IsGeometry v.geometry

root-kind : (kind : Kind) → IsKindAt 0 kind → is_directory kind ≡ true
root-kind Free at = absurd (omega (arith, at))
root-kind Directory at = refl
root-kind File at = absurd (omega (arith, at))
root-kind Staging at = absurd (omega (arith, at.0))

-- inode 0 is a directory
pub root-directory : (v : Volume) → IsKeptVolume v → is_directory (inode v 0).kind ≡ true
root-directory v k = root-kind (inode v 0).kind (k.kept.kinds 0 (omega (arith, k.geometry.least_inodes)))

-- ---- the directory of a path

-- it is a directory, less than 16 steps below the root
pub record IsDirectoryAt (v : Volume) (p : List (List ℕ)) (parent : ℕ) : Type 0 where
  pub path : walk v.names 0 (directory_path p) ≡ Some parent
  pub is : is_directory (inode v parent).kind ≡ true
  pub way : up v.names (length (directory_path p)) parent ≡ Some 0
  pub short : length (directory_path p) < 16

pub directory-at : (v : Volume) (p : List (List ℕ)) (parent : ℕ) → IsKeptVolume v
    → HasDirectory (volume_space v) p parent → IsDirectoryAt v p parent
unfolding walk_to
directory-at v p parent k d =
    let leads = walk_from-rows (is_directory_in v.inodes) v.names 0 (directory_path p) parent d.leads in
    let is = leads.is_directory (root-directory v k) in
    let forest = (sane-kept v k.kept k.all).forest in
    record {
      path = leads.path;
      is = is;
      way = up-of_walk (is_directory_in v.inodes) v.names 0 (directory_path p) parent forest (forest.one_name parent is) leads.path;
      short = omega (arith, length-directory p d.below, few-names 48 p d.short);
    }

-- ---- the line of a path

-- the row of a line that a look-up found
pub record IsRowFound (rows : Rows) (parent : ℕ) (name : List ℕ) (line child : ℕ) : Type 0 where
  pub at : NameRow
  pub is : row rows line ≡ Some at
  pub parent_is : at.parent ≡ parent
  pub name_is : at.name ≡ name
  pub child_is : at.child ≡ child

-- the path of the child
pub path-at : (v : Volume) (p : List (List ℕ)) (parent child : ℕ) → IsKeptVolume v
    → IsAt (volume_space v) p parent child → walk v.names 0 p ≡ Some child
path-at v p parent child k at =
    let named : child_named v.names parent (last_name p) ≡ Some child =
    sym (child_of-rows v.names parent (last_name p)) ∙ at.is
    in
    ap (walk v.names 0) (sym (split-last p at.directory.below))
    ∙ walk-append v.names 0 (directory_path p) (last_name p ∷ [])
    ∙ ap (option_and_then (λ c. walk v.names c (last_name p ∷ []))) (directory-at v p parent k at.directory).path
    ∙ walk-one v.names parent (last_name p) child named

-- a name that is not there is in no line
new-name : (v : Volume) (p : List (List ℕ)) (parent : ℕ) → IsNewAt (volume_space v) p parent → (k : ℕ)
    → is_entry parent (last_name p) (row v.names k) ≡ false
new-name v p parent new =
    child_named-none v.names parent (last_name p) (sym (child_of-rows v.names parent (last_name p)) ∙ new.is_new)

-- ---- mkdir, open of a new file

-- a node is made in a free inode and the lowest free line
pub may-make : (v : Volume) (p : List (List ℕ)) (parent : ℕ) (kind : Kind) (ino line : ℕ) → IsKeptVolume v
    → IsNewAt (volume_space v) p parent
    → (kind ≡ Directory) ⊎ (kind ≡ File) → ino < length v.inodes → (inode v ino).kind ≡ Free
    → free_line v.names ≡ Some line
    → MayMake kind ino line (record { parent = parent; child = ino; name = last_name p }) v
may-make v p parent kind ino line k new is below free first =
    let d = directory-at v p parent k new.directory in
    let at = free_line-some v.names line first in
    record {
      kind_is = is;
      ino_below = below;
      ino_free = free;
      line_below = at.0;
      line_free = at.1;
      child_is = refl;
      is_new = new-name v p parent new;
      parent = d.is;
      way = (length (directory_path p), d.short, d.way);
    }

-- ---- unlink, rmdir

pub may-unname : (v : Volume) (line child : ℕ) (r : NameRow) → row v.names line ≡ Some r → r.child ≡ child
    → (volume_space v).directory child ≡ false
    → MayUnname line r v
may-unname v line child r is child_is plain =
    record { is = is; no_directory = ap (λ i. is_directory (inode v i).kind) child_is ∙ plain }

pub may-remove : (v : Volume) (line child : ℕ) (r : NameRow) → row v.names line ≡ Some r → r.child ≡ child
    → (volume_space v).directory child ≡ true
    → has_entries_in (volume_space v).entries child ≡ false → MayRemove line child r v
may-remove v line child r is child_is directory empty =
    record { is = is; child_is = child_is; directory = directory; empty = sym (has_entries-rows v.names child) ∙ empty }

-- ---- rename

-- the row of the child under its new name
abbrev pub row_to : List (List ℕ) → ℕ → ℕ → NameRow
row_to q to child = record { parent = to; child = child; name = last_name q }

-- The new directory is a place for the child.
pub has-place : (v : Volume) (p q : List (List ℕ)) (from child to : ℕ) (r : NameRow) → IsKeptVolume v
    → MayGo (volume_space v) p q from child to
    → r.child ≡ child → HasPlace r (row_to q to child) (length (directory_path q)) v
has-place v p q from child to r k may child_is = record {
  same = sym child_is;
  parent = d.is;
  way = d.way;
  short = d.short;
  outside = λ m meets. outside m (meets ∙ ap (λ (i : ℕ). Some i) child_is) (cases_Bool (is_directory (inode v child).kind));
  deep = λ line m t is meets. deep line m t is (meets ∙ ap (λ (i : ℕ). Some i) child_is) (cases_Bool (is_directory (inode v child).kind));
}
  where
    sane : AreSane v
    sane = sane-kept v k.kept k.all

    d : IsDirectoryAt v q to
    d = directory-at v q to k may.directory

    -- below what is no directory there is nothing
    plain-below : (m above : ℕ) → is_directory (inode v child).kind ≡ false → is_directory (inode v above).kind ≡ true
        → up v.names m above ≡ Some child → ⊥
    plain-below m above plain directory meets =
        let down : (names : List (List ℕ)) × (length names ≡ m) × (walk v.names child names ≡ Some above) =
        walk-up v.names m above child sane.forest.keyed meets
        in
        let same : child ≡ above = walk-empty v.names child down.0 above (plain-empty v child sane plain) down.2 in
        both_ways (is_directory (inode v child).kind) plain (ap (λ i. is_directory (inode v i).kind) same ∙ directory)

    outside : (m : ℕ) → up v.names m to ≡ Some child
        → (is_directory (inode v child).kind ≡ true) ⊎ (is_directory (inode v child).kind ≡ false) → ⊥
    outside m meets (inl directory) =
        let below =
        below-path (is_directory_in v.inodes) v.names p (directory_path q) (last_name q) child to m sane.forest
        (sane.forest.one_name to d.is)
        (path-at v p from child k may.old) d.path meets
        in
        both_ways (is_below q p) (may.outside directory)
        (ap (λ l. is_below l p) (sym (split-last q may.directory.below)) ∙ below)
    outside m meets (inr plain) = plain-below m to plain d.is meets

    deep : (line m : ℕ) (t : NameRow) → row v.names line ≡ Some t → up v.names m t.parent ≡ Some child
        → (is_directory (inode v child).kind ≡ true) ⊎ (is_directory (inode v child).kind ≡ false)
        → length (directory_path q) + 1 + m < 16
    deep line m t is meets (inl directory) =
        let down : (names : List (List ℕ)) × (length names ≡ m) × (walk v.names child names ≡ Some t.parent) =
        walk-up v.names m t.parent child sane.forest.keyed meets
        in
        let named = child_named-at v.names line t sane.forest.keyed (row-below v.names line t is) is in
        let longer : walk v.names child (down.0 ++ (t.name ∷ [])) ≡ Some t.child =
        walk-append v.names child down.0 (t.name ∷ []) ∙ ap (option_and_then (λ c. walk v.names c (t.name ∷ []))) down.2
        ∙ walk-one v.names t.parent t.name t.child named
        in
        let most = may.deep directory in
        let high =
        height-bound v.names longest_path child (down.0 ++ (t.name ∷ [])) t.child longer
        (omega (arith, most, length-directory q may.directory.below))
        in
        omega (arith, high, most, down.1, length-append down.0 (t.name ∷ []), length-directory q may.directory.below)
    deep line m t is meets (inr plain) = absurd (plain-below m t.parent plain (sane.forest.parents line t is) meets)

-- nothing stands at the new path
pub may-rename : (v : Volume) (p q : List (List ℕ)) (from child to line : ℕ) (r : NameRow) → IsKeptVolume v
    → MayGo (volume_space v) p q from child to
    → IsNewAt (volume_space v) q to → row v.names line ≡ Some r → r.child ≡ child
    → MayRename line r (row_to q to child) (length (directory_path q)) v
may-rename v p q from child to line r k may new is child_is = record {
  is = is;
  is_new = λ l entry. absurd (both_ways (is_entry to (last_name q) (row v.names l)) (new-name v q to new l) entry);
  place = has-place v p q from child to r k may child_is;
}

-- a node stands there, which the child may replace: its line is the one that the path names
may-rename-over : (v : Volume) (p q : List (List ℕ)) (from child to line : ℕ) (r : NameRow) (ino target : ℕ) → IsKeptVolume v
    → MayGo (volume_space v) p q from child to → CanReplace (volume_space v) child ino
    → row v.names line ≡ Some r → r.child ≡ child → (there : IsRowFound v.names to (last_name q) target ino)
    → MayRenameOver line r (row_to q to child) (length (directory_path q)) target there.at v
may-rename-over v p q from child to line r ino target k may can is child_is there = record {
  is = is;
  target_is = there.is;
  apart = λ e. can.apart (sym there.child_is ∙ e ∙ child_is);
  same_parent = there.parent_is;
  same_name = there.name_is;
  place = has-place v p q from child to r k may child_is;
}

pub may-rename-over_file : (v : Volume) (p q : List (List ℕ)) (from child to line : ℕ) (r : NameRow) (ino target : ℕ)
    → IsKeptVolume v
    → MayGo (volume_space v) p q from child to → CanReplace (volume_space v) child ino
    → row v.names line ≡ Some r → r.child ≡ child → (there : IsRowFound v.names to (last_name q) target ino)
    → (volume_space v).directory child ≡ false
    → MayRenameOverFile line r (row_to q to child) (length (directory_path q)) target there.at v
may-rename-over_file v p q from child to line r ino target k may can is child_is there plain = record {
  over = may-rename-over v p q from child to line r ino target k may can is child_is there;
  no_directory = ap (λ i. is_directory (inode v i).kind) there.child_is ∙ can.same ∙ plain;
}

pub may-rename-over_directory : (v : Volume) (p q : List (List ℕ)) (from child to line : ℕ) (r : NameRow) (ino target : ℕ)
    → IsKeptVolume v
    → MayGo (volume_space v) p q from child to → CanReplace (volume_space v) child ino
    → row v.names line ≡ Some r → r.child ≡ child → (there : IsRowFound v.names to (last_name q) target ino)
    → (volume_space v).directory child ≡ true
    → MayRenameOverDirectory line r (row_to q to child) (length (directory_path q)) target ino there.at v
may-rename-over_directory v p q from child to line r ino target k may can is child_is there directory = record {
  over = may-rename-over v p q from child to line r ino target k may can is child_is there;
  child_is = there.child_is;
  directory = can.same ∙ directory;
  empty = sym (has_entries-rows v.names ino) ∙ can.empty directory;
}
