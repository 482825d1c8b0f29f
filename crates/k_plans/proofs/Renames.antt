-- A node that gets another path: the volume stays whole.
use Rattle.std.proofs.Common.{◌≡◌, ◌<◌, ◌⊎◌, ℕ, true, false, not, List, length, sym, ◌∙◌, ap, inl, inr, subst}
use Rattle.std.proofs.lemmas.Bool.{and_from}
use Rattle.std.specs.Prelude.{◌==◌, None, Option, Some, Result, Ok}
use Rattle.layout_model.specs.Lines.{NameRow, is_name, is_name_row}
use Rattle.layout_model.specs.Names.{find_name, is_child, is_entry, row}
use Rattle.layout_model.specs.TableLaws.{is_entry-own}
use Rattle.k_tables.specs.image_model.Reading.{node_set, row_set}
use Rattle.k_tables.specs.image_model.Volume.{Volume, inode}
use Rattle.k_tables.specs.k_names.Finding.{IsRow}
use Rattle.k_tables.specs.k_split_model.ChangesChanges.{gone_node, renamed, renamed_over_directory, renamed_over_file, unnamed}
use Rattle.k_tables.specs.k_split_model.Spaces.{is_directory_in, volume_space}
use Rattle.k_tables.specs.Found.{IsEntryAt, IsMoving, IsTargetAt}
use Rattle.k_tables.specs.declared.tables.removing.Entry.{Entry}
use Rattle.k_tables.specs.declared.tables.renaming.Moving.{Moving}
use Rattle.k_tables.specs.name_laws.KeptLaws.{node-below}
use Rattle.k_tables.specs.name_laws.RowLaws.{names_of-zero}
use Rattle.posix_types.specs.declared.reply.Errno.{Errno}
use Rattle.k_tables.specs.posix_tables.NameRows.{rename_rows}
use Rattle.k_tables.specs.posix_tables.Names.{Space, child_of, last_name, walk}
use Rattle.k_tables.specs.posix_tables.Outcomes.{first}
use Rattle.volume_change_laws.specs.CallLaws.{may-rename, row_to}
use Rattle.volume_change_laws.specs.CountLaws.{gone_node-fits}
use Rattle.volume_change_laws.specs.FoundLaws.{rename-keeps, rename-over_directory-keeps, rename-over_file-keeps, row-found}
use Rattle.volume_change_laws.specs.LineLaws.{lines-node, lines-row, maps-node, maps-row}
use Rattle.k_tables.specs.name_laws.Paths.{CanReplace, IsAt, IsNewAt, MayGo}
use Rattle.k_tables.specs.name_laws.RenameLaws.{rename-may}
use Rattle.layout_model.specs.Spelling.{AreSpelled}
use Rattle.k_plans.specs.Whole.{IsWhole}
use Rattle.k_plans.proofs.Names.{last-fits}
use Rattle.k_plans.proofs.Wholes.{IsBare, directory-bare, inodes-set}

-- What a rename that is not refused found, and the row that it sets.
pub record Moves (p q : List (List ℕ)) (moving : Moving) (r : NameRow) (v : Volume) : Type 0 where
  pub rows : first (rename_rows (volume_space v) p q) ≡ None
  pub is_moving : IsMoving v.inodes v.names p q moving
  pub row_is : r ≡ row_to q moving.parent moving.entry.child

-- ---- what was found is what the rules of names speak of

same_Ok : (a b : ℕ) (o : Result ℕ Errno) → o ≡ Ok a → o ≡ Ok b → a ≡ b
same_Ok a b o first second = cc

same_child : (a b : ℕ) (o : Option ℕ) → o ≡ Some a → o ≡ Some b → a ≡ b
same_child a b o first second = cc

moves-may : (p q : List (List ℕ)) (moving : Moving) (r : NameRow) (v : Volume) → Moves p q moving r v
    → MayGo (volume_space v) p q moving.entry.parent moving.entry.child moving.parent
moves-may p q moving r v m =
    let s = volume_space v in
    let is = m.is_moving in
    let found : (from : ℕ) × (child : ℕ) × (to : ℕ) × MayGo s p q from child to = rename-may s p q m.rows in
    let from : found.0 ≡ moving.entry.parent = same_Ok found.0 moving.entry.parent (walk s p) found.3.old.directory.leads is.is_entry.is_at.directory.leads in
    let child : found.1 ≡ moving.entry.child =
    same_child found.1 moving.entry.child (child_of s.entries moving.entry.parent (last_name p))
    (ap (λ n. child_of s.entries n (last_name p)) (sym from) ∙ found.3.old.is) is.is_entry.is_at.is
    in
    let to : found.2 ≡ moving.parent = same_Ok found.2 moving.parent (walk s q) found.3.directory.leads is.directory.leads in
    subst (λ n. MayGo s p q n moving.entry.child moving.parent) from
    (subst (λ n. MayGo s p q found.0 n moving.parent) child (subst (λ n. MayGo s p q found.0 found.1 n) to found.3))

-- nothing stands at the new path
moves-new : (p q : List (List ℕ)) (moving : Moving) (r : NameRow) (v : Volume) → Moves p q moving r v → moving.target ≡ None
    → IsNewAt (volume_space v) q moving.parent
moves-new p q moving r v m none =
    record { directory = m.is_moving.directory; is_new = subst (IsTargetAt v.inodes v.names q moving.parent) none m.is_moving.is_target }

-- or another node
record IsOver (q : List (List ℕ)) (parent : ℕ) (target : Entry) (v : Volume) : Type 0 where
  at : IsAt (volume_space v) q parent target.child
  line : find_name v.names parent (last_name q) ≡ Some (target.line, target.child)
  is_row : IsRow v.names parent (last_name q) target.line target.child

moves-over : (p q : List (List ℕ)) (moving : Moving) (r : NameRow) (v : Volume) (target : Entry) → Moves p q moving r v
    → moving.target ≡ Some target → IsOver q moving.parent target v
moves-over p q moving r v target m some =
    let there : (target.parent ≡ moving.parent) × IsEntryAt v.inodes v.names q target =
    subst (IsTargetAt v.inodes v.names q moving.parent) some m.is_moving.is_target
    in
    subst (λ n. IsOver q n target v) there.0 (record { at = there.1.is_at; line = there.1.line; is_row = there.1.is_row })

can-replace : (s : Space) (p q : List (List ℕ)) (from child to target : ℕ) → MayGo s p q from child to → IsAt s q to target
    → CanReplace s child target
can-replace s p q from child to target may at = by may.lands
  where
    by : IsNewAt s q to ⊎ ((other : ℕ) × IsAt s q to other × CanReplace s child other) → CanReplace s child target
    by (inl new) =
        let never : None ≡ Some target = sym new.is_new ∙ at.is in
        absurd (cc)
    by (inr other) =
        subst (CanReplace s child) (same_child other.0 target (child_of s.entries to (last_name q)) other.1.is at.is) other.2

-- ---- the row that is set

child-some : (p q : List (List ℕ)) (moving : Moving) (r : NameRow) (v : Volume) → IsWhole v → Moves p q moving r v
    → (moving.entry.child == 0) ≡ false
child-some p q moving r v whole m =
    sym (ap (is_child 0) m.is_moving.is_entry.is_row) ∙ names_of-zero v.names 0 whole.kept.kept.directories.root moving.entry.line

pub moves-row : (p q : List (List ℕ)) (moving : Moving) (r : NameRow) (v : Volume) → IsWhole v → AreSpelled q
    → Moves p q moving r v → is_name_row r ≡ true
moves-row p q moving r v whole spelled m =
    ap is_name_row m.row_is
    ∙ and_from (not (moving.entry.child == 0)) (is_name (last_name q)) (ap not (child-some p q moving r v whole m))
    (last-fits q spelled m.is_moving.directory.below m.is_moving.directory.short)

-- ---- where nothing stands at the new path

pub moves-alone : (p q : List (List ℕ)) (moving : Moving) (r : NameRow) (v : Volume) → IsWhole v → Moves p q moving r v
    → moving.target ≡ None → (k : ℕ) → is_entry r.parent r.name (row v.names k) ≡ true → k ≡ moving.entry.line
moves-alone p q moving r v whole m none k entry =
    let at = row-found v.names moving.entry.parent (last_name p) moving.entry.line moving.entry.child m.is_moving.is_entry.line in
    (may-rename v p q moving.entry.parent moving.entry.child moving.parent moving.entry.line at.at whole.kept (moves-may p q moving r v m)
    (moves-new p q moving r v m none) at.is at.child_is).is_new k
    (ap (λ (x : NameRow). is_entry x.parent x.name (row v.names k)) (sym m.row_is) ∙ entry)

pub moves-whole : (p q : List (List ℕ)) (moving : Moving) (r : NameRow) (v : Volume) → IsWhole v → Moves p q moving r v
    → moving.target ≡ None → IsWhole (renamed moving.entry.line r v)
moves-whole p q moving r v whole m none =
    subst (λ x. IsWhole (renamed moving.entry.line x v)) (sym m.row_is) (record {
      kept = record {
        kept = rename-keeps v p q moving.entry.parent moving.entry.child moving.parent moving.entry.line whole.kept (moves-may p q moving r v m)
            m.is_moving.is_entry.line (moves-new p q moving r v m none);
        all = lines-row moving.entry.line _ v whole.kept.all;
        geometry = whole.kept.geometry;
      };
      maps = maps-row moving.entry.line _ v whole.maps;
      inodes = whole.inodes;
      chains = whole.chains;
    })

-- ---- where another node stands there

-- its line has the name that the row gets
pub over-has : (p q : List (List ℕ)) (moving : Moving) (r : NameRow) (v : Volume) (target : Entry) → Moves p q moving r v
    → moving.target ≡ Some target → is_entry r.parent r.name (row v.names target.line) ≡ true
over-has p q moving r v target m some =
    ap (λ (x : NameRow). is_entry x.parent x.name (row v.names target.line)) m.row_is
    ∙ is_entry-own (row v.names target.line) _ (moves-over p q moving r v target m some).is_row

pub over_file-whole : (p q : List (List ℕ)) (moving : Moving) (r : NameRow) (v : Volume) (target : Entry) → IsWhole v
    → Moves p q moving r v → moving.target ≡ Some target → is_directory_in v.inodes target.child ≡ false
    → IsWhole (renamed_over_file moving.entry.line r target.line v)
over_file-whole p q moving r v target whole m some file =
    let may = moves-may p q moving r v m in
    let over = moves-over p q moving r v target m some in
    let can = can-replace (volume_space v) p q moving.entry.parent moving.entry.child moving.parent target.child may over.at in
    subst (λ x. IsWhole (renamed_over_file moving.entry.line x target.line v)) (sym m.row_is) (record {
      kept = record {
        kept = rename-over_file-keeps v p q moving.entry.parent moving.entry.child moving.parent moving.entry.line target.child target.line whole.kept
            may m.is_moving.is_entry.line over.line can (sym can.same ∙ file);
        all = lines-row moving.entry.line _ (unnamed target.line v) (lines-row target.line None v whole.kept.all);
        geometry = whole.kept.geometry;
      };
      maps = maps-row moving.entry.line _ (unnamed target.line v) (maps-row target.line None v whole.maps);
      inodes = whole.inodes;
      chains = whole.chains;
    })

-- a directory that is replaced is an inode of the table, and has no map
pub over-below : (v : Volume) (ino : ℕ) → is_directory_in v.inodes ino ≡ true → ino < length v.inodes
over-below v ino directory = node-below v ino (inl directory)

pub over-bare : (v : Volume) (ino : ℕ) → IsWhole v → is_directory_in v.inodes ino ≡ true → IsBare (inode v ino)
over-bare v ino whole directory = directory-bare v ino whole directory

pub over_directory-whole : (p q : List (List ℕ)) (moving : Moving) (r : NameRow) (v : Volume) (target : Entry) → IsWhole v
    → Moves p q moving r v → moving.target ≡ Some target → is_directory_in v.inodes target.child ≡ true
    → IsWhole (renamed_over_directory moving.entry.line r target.line target.child v)
over_directory-whole p q moving r v target whole m some directory =
    let may = moves-may p q moving r v m in
    let over = moves-over p q moving r v target m some in
    let can = can-replace (volume_space v) p q moving.entry.parent moving.entry.child moving.parent target.child may over.at in
    let gone = gone_node (inode v target.child) in
    let without = node_set target.child gone v in
    subst (λ x. IsWhole (renamed_over_directory moving.entry.line x target.line target.child v)) (sym m.row_is) (record {
      kept = record {
        kept = rename-over_directory-keeps v p q moving.entry.parent moving.entry.child moving.parent moving.entry.line target.child target.line
            whole.kept may m.is_moving.is_entry.line over.line can (sym can.same ∙ directory);
        all = lines-row moving.entry.line _ (row_set target.line None without)
            (lines-row target.line None without (lines-node target.child gone v whole.kept.all));
        geometry = whole.kept.geometry;
      };
      maps = maps-row moving.entry.line _ (row_set target.line None without)
          (maps-row target.line None without (maps-node target.child gone v whole.maps));
      inodes = inodes-set v target.child gone (over-below v target.child directory) (gone_node-fits (inode v target.child)) whole.inodes;
      chains = whole.chains;
    })
