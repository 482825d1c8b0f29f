-- The changes of the calls keep the rules, by what their look-ups found: the line of a name, the lowest free inode and the
-- lowest free name line.
use Rattle.std.specs.Prelude.{◌≡◌, ◌≢◌, ◌⊎◌, ℕ, ◌<◌, List, length, true, false, position, slice_index_or, Some, refl}
use Rattle.std.proofs.Common.{ap, sym, ◌∙◌}
use Rattle.std.proofs.lemmas.List.Quantifiers.{position-Some}
use Rattle.std.proofs.lemmas.Option.{option_and_then_some, same_Some}
use Rattle.name_laws.specs.volume_laws.layout_model.declared.lines.Inode.{Inode}
use Rattle.name_laws.specs.volume_laws.layout_model.declared.lines.Kind.{Kind}
use Rattle.name_laws.specs.volume_laws.layout_model.declared.lines.Kind.TheVariants.{Free, Directory, File, Staging}
use Rattle.name_laws.specs.volume_laws.layout_model.Lines.{NameRow}
use Rattle.name_laws.specs.volume_laws.layout_model.Names.{Rows, row, is_entry, child_of_row, line_and_child, first_row_from, find_name, free_line}
use Rattle.name_laws.specs.volume_laws.layout_model.RowLaws.{first_row-is}
use Rattle.name_laws.specs.volume_laws.layout_model.TableLaws.{is_entry-parts}
use Rattle.name_laws.specs.volume_laws.image_model.Kept.{AreKept}
use Rattle.name_laws.specs.volume_laws.image_model.Volume.{Volume, free_inode}
use Rattle.name_laws.specs.k_split_model.ChangesChanges.{made, unnamed, removed, renamed, renamed_over_file, renamed_over_directory}
use Rattle.name_laws.specs.k_split_model.Spaces.{is_free, volume_space}
use Rattle.name_laws.specs.posix_tables.Names.{directory_path, last_name, has_entries as has_entries_in}
use Rattle.volume_change_laws.specs.CallLaws.{IsKeptVolume, IsRowFound, row_to, may-make, may-unname, may-remove, may-rename, may-rename-over_file, may-rename-over_directory}
use Rattle.volume_change_laws.specs.NameLaws.{made-keeps, unnamed-keeps, removed-keeps, renamed-keeps}
use Rattle.volume_change_laws.specs.OverLaws.{renamed_over_file-keeps, renamed_over_directory-keeps}
use Rattle.name_laws.specs.Paths.{IsNewAt, CanReplace, MayGo}

-- ---- what is found

pub row-found : (rows : Rows) (parent : ℕ) (name : List ℕ) (line child : ℕ)
    → find_name rows parent name ≡ Some (line, child)
    → IsRowFound rows parent name line child
row-found rows parent name line child found =
    option_and_then_some (λ pair. Some (line_and_child pair)) (first_row_from (is_entry parent name) 0 rows) (line, child) found (λ pair look same.
    let first = first_row-is (is_entry parent name) rows pair.0 pair.1 look in
    let parts = is_entry-parts parent name pair.1 first.passes in
    let both : line_and_child pair ≡ (line, child) = same_Some (line_and_child pair) (line, child) same in
    let at_line : pair.0 ≡ line = ap (λ (p : ℕ × ℕ). p.0) both in
    let its_child : child_of_row pair.1 ≡ child = ap (λ (p : ℕ × ℕ). p.1) both in
    record {
      at = parts.0;
      is = ap (row rows) (sym at_line) ∙ first.is ∙ parts.1;
      parent_is = parts.2;
      name_is = parts.3;
      child_is = sym (ap child_of_row parts.1) ∙ its_child;
    })

-- the lowest free inode
pub record IsLowestFree (inodes : List Inode) (ino : ℕ) : Type 0 where
  pub within : ino < length inodes
  pub free : (slice_index_or inodes ino free_inode).kind ≡ Free
  pub before : (i : ℕ) → i < ino → (slice_index_or inodes i free_inode).kind ≢ Free

free-kind : (kind : Kind) → is_free kind ≡ true → kind ≡ Free
free-kind Free is = refl
free-kind Directory is = cc
free-kind File is = cc
free-kind Staging is = cc

used-kind : (kind : Kind) → is_free kind ≡ false → kind ≢ Free
used-kind kind used is = let never : true ≡ false = sym (ap is_free is) ∙ used in cc

pub free-found : (inodes : List Inode) (ino : ℕ) → position (λ (x : Inode). is_free x.kind) inodes ≡ Some ino
    → IsLowestFree inodes ino
free-found inodes ino found =
    let parts = position-Some (λ (x : Inode). is_free x.kind) inodes ino free_inode found in
    record {
      within = parts.0;
      free = free-kind (slice_index_or inodes ino free_inode).kind parts.1;
      before = λ i below. used-kind (slice_index_or inodes i free_inode).kind (parts.2 i below);
    }

-- ---- the calls

pub make-keeps : (v : Volume) (p : List (List ℕ)) (parent : ℕ) (kind : Kind) (ino line : ℕ) → IsKeptVolume v
    → IsNewAt (volume_space v) p parent
    → (kind ≡ Directory) ⊎ (kind ≡ File) → IsLowestFree v.inodes ino → free_line v.names ≡ Some line
    → AreKept (made kind ino line (row_to p parent ino) v)
make-keeps v p parent kind ino line k new is free first =
    made-keeps kind ino line (row_to p parent ino) v k.kept k.all
    (may-make v p parent kind ino line k new is free.within free.free first)

pub unlink-keeps : (v : Volume) (p : List (List ℕ)) (parent line child : ℕ) → IsKeptVolume v
    → find_name v.names parent (last_name p) ≡ Some (line, child) → (volume_space v).directory child ≡ false
    → AreKept (unnamed line v)
unlink-keeps v p parent line child k found plain =
    let at = row-found v.names parent (last_name p) line child found in
    unnamed-keeps line at.at v k.kept k.all (may-unname v line child at.at at.is at.child_is plain)

pub rmdir-keeps : (v : Volume) (p : List (List ℕ)) (parent line child : ℕ) → IsKeptVolume v
    → find_name v.names parent (last_name p) ≡ Some (line, child) → (volume_space v).directory child ≡ true
    → has_entries_in (volume_space v).entries child ≡ false → AreKept (removed line child v)
rmdir-keeps v p parent line child k found directory empty =
    let at = row-found v.names parent (last_name p) line child found in
    removed-keeps line child at.at v k.kept k.all (may-remove v line child at.at at.is at.child_is directory empty)

pub rename-keeps : (v : Volume) (p q : List (List ℕ)) (from child to line : ℕ) → IsKeptVolume v
    → MayGo (volume_space v) p q from child to
    → find_name v.names from (last_name p) ≡ Some (line, child) → IsNewAt (volume_space v) q to
    → AreKept (renamed line (row_to q to child) v)
rename-keeps v p q from child to line k may found new =
    let at = row-found v.names from (last_name p) line child found in
    renamed-keeps line at.at (row_to q to child) (length (directory_path q)) v k.kept k.all
    (may-rename v p q from child to line at.at k may new at.is at.child_is)

pub rename-over_file-keeps : (v : Volume) (p q : List (List ℕ)) (from child to line ino target : ℕ) → IsKeptVolume v
    → MayGo (volume_space v) p q from child to → find_name v.names from (last_name p) ≡ Some (line, child)
    → find_name v.names to (last_name q) ≡ Some (target, ino)
    → CanReplace (volume_space v) child ino
    → (volume_space v).directory child ≡ false → AreKept (renamed_over_file line (row_to q to child) target v)
rename-over_file-keeps v p q from child to line ino target k may found found_there can plain =
    let at = row-found v.names from (last_name p) line child found in
    let over = row-found v.names to (last_name q) target ino found_there in
    renamed_over_file-keeps line at.at (row_to q to child) (length (directory_path q)) target over.at v k.kept k.all
    (may-rename-over_file v p q from child to line at.at ino target k may can at.is at.child_is over plain)

pub rename-over_directory-keeps : (v : Volume) (p q : List (List ℕ)) (from child to line ino target : ℕ)
    → IsKeptVolume v
    → MayGo (volume_space v) p q from child to → find_name v.names from (last_name p) ≡ Some (line, child)
    → find_name v.names to (last_name q) ≡ Some (target, ino)
    → CanReplace (volume_space v) child ino
    → (volume_space v).directory child ≡ true → AreKept (renamed_over_directory line (row_to q to child) target ino v)
rename-over_directory-keeps v p q from child to line ino target k may found found_there can directory =
    let at = row-found v.names from (last_name p) line child found in
    let over = row-found v.names to (last_name q) target ino found_there in
    renamed_over_directory-keeps line at.at (row_to q to child)
    (length (directory_path q)) target ino over.at v k.kept k.all
    (may-rename-over_directory v p q from child to line at.at ino target k may can at.is at.child_is over directory)
