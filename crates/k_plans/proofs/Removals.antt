-- A name that goes: the volume stays whole, and its lines are a plan for it.
use Rattle.std.proofs.Common.{◌≡◌, ◌<◌, ◌≤◌, ℕ, List, [], length, refl, sym, ◌∙◌, ap, inl, arith, subst}
use Rattle.std.specs.Prelude.{None, slice_set}
use Rattle.k_reading.specs.block_pool.FreeSets.{FreeSet}
use Rattle.layout_model.specs.declared.lines.Inode.{Inode}
use Rattle.layout_model.specs.Names.{Rows}
use Rattle.k_tables.specs.image_model.Reading.{node_set, row_set}
use Rattle.k_tables.specs.image_model.Volume.{Volume, inode}
use Rattle.k_journal.specs.declared.batches.Record.{Record}
use Rattle.k_plans.specs.LandingsPlans.{Turns}
use Rattle.k_tables.specs.k_split_model.ChangesChanges.{gone_node, removed, unnamed}
use Rattle.k_tables.specs.Found.{IsDirectoryAt, IsFileAt}
use Rattle.k_tables.specs.declared.tables.removing.Entry.{Entry}
use Rattle.k_tables.specs.name_laws.KeptLaws.{node-below}
use Rattle.volume_change_laws.specs.CountLaws.{gone_node-fits, removed-owners, unnamed-owners}
use Rattle.volume_change_laws.specs.FoundLaws.{rmdir-keeps, unlink-keeps}
use Rattle.volume_change_laws.specs.LineLaws.{lines-node, lines-row, maps-node, maps-row}
use Rattle.k_plans.specs.Free.{AreTables}
use Rattle.k_plans.specs.PlansPlans.{IsPlan}
use Rattle.k_plans.specs.View.{TablesView, with_volume}
use Rattle.k_plans.specs.Whole.{IsWhole}
use Rattle.k_plans.proofs.Wholes.{IsBare, directory-bare, inodes-set, plan-from, tables-same, with_lines, with_names}

-- ---- the name of a file

unnamed-whole : (path : List (List ℕ)) (entry : Entry) (v : Volume) → IsWhole v → IsFileAt v.inodes v.names path entry
    → IsWhole (unnamed entry.line v)
unnamed-whole path entry v whole is = record {
  kept = record {
    kept = unlink-keeps v path entry.parent entry.line entry.child whole.kept is.is_entry.line is.is_file;
    all = lines-row entry.line None v whole.kept.all;
    geometry = whole.kept.geometry;
  };
  maps = maps-row entry.line None v whole.maps;
  inodes = whole.inodes;
  chains = whole.chains;
}

-- the names are those without the name
pub record Unnames (path : List (List ℕ)) (entry : Entry) (t : TablesView) (names : Rows) : Type 0 where
  pub is_file : IsFileAt t.volume.inodes t.volume.names path entry
  pub names_is : names ≡ slice_set t.volume.names entry.line None

unnames-is : (path : List (List ℕ)) (entry : Entry) (t : TablesView) (names : Rows) → Unnames path entry t names
    → with_names names t ≡ with_volume (unnamed entry.line t.volume) t
unnames-is path entry t names u = ap (λ (rows : Rows). with_names rows t) u.names_is

pub unnames-tables : (path : List (List ℕ)) (entry : Entry) (t : TablesView) (names : Rows) (pool held : FreeSet) → AreTables t pool held
    → Unnames path entry t names → AreTables (with_names names t) pool held
unnames-tables path entry t names pool held are u =
    subst (λ n. AreTables n pool held) (sym (unnames-is path entry t names u))
    (tables-same t (unnamed entry.line t.volume) pool held are (unnamed-whole path entry t.volume are.whole u.is_file) refl
    (unnamed-owners entry.line t.volume))

pub unnames-plan : (path : List (List ℕ)) (entry : Entry) (t old : TablesView) (names : Rows) (b : List Record) → t ≡ old
    → IsWhole t.volume → Unnames path entry t names
    → Turns t.volume.geometry [] t.volume (row_set entry.line None t.volume) b → 0 < length b → length b ≤ 1
    → old.aside ≡ [] → IsPlan old (with_names names t) b
unnames-plan path entry t old names b same whole u turns some most idle =
    plan-from t old (with_names names t) (unnamed entry.line t.volume) b same (unnames-is path entry t names u) turns some (omega arith)
    (λ ino least most. refl) (unnamed-whole path entry t.volume whole u.is_file) idle refl (unnamed-owners entry.line t.volume)

-- ---- a directory with its name

-- its inode is one of the table, and has no map
pub removed-below : (path : List (List ℕ)) (entry : Entry) (v : Volume) → IsDirectoryAt v.inodes v.names path entry
    → entry.child < length v.inodes
removed-below path entry v is = node-below v entry.child (inl is.is_directory)

pub removed-bare : (path : List (List ℕ)) (entry : Entry) (v : Volume) → IsWhole v → IsDirectoryAt v.inodes v.names path entry
    → IsBare (inode v entry.child)
removed-bare path entry v whole is = directory-bare v entry.child whole is.is_directory

removed-whole : (path : List (List ℕ)) (entry : Entry) (v : Volume) → IsWhole v → IsDirectoryAt v.inodes v.names path entry
    → IsWhole (removed entry.line entry.child v)
removed-whole path entry v whole is = record {
  kept = record {
    kept = rmdir-keeps v path entry.parent entry.line entry.child whole.kept is.is_entry.line is.is_directory is.is_empty;
    all = lines-row entry.line None (node_set entry.child gone v) (lines-node entry.child gone v whole.kept.all);
    geometry = whole.kept.geometry;
  };
  maps = maps-row entry.line None (node_set entry.child gone v) (maps-node entry.child gone v whole.maps);
  inodes = inodes-set v entry.child gone (removed-below path entry v is) (gone_node-fits (inode v entry.child)) whole.inodes;
  chains = whole.chains;
}
  where
    gone : Inode
    gone = gone_node (inode v entry.child)

-- the inode and the names are those without the directory
pub record Removes (path : List (List ℕ)) (entry : Entry) (t : TablesView) (gone : Inode) (names : Rows) : Type 0 where
  pub is_directory : IsDirectoryAt t.volume.inodes t.volume.names path entry
  pub gone_is : gone ≡ gone_node (inode t.volume entry.child)
  pub names_is : names ≡ slice_set t.volume.names entry.line None

removes-is : (path : List (List ℕ)) (entry : Entry) (t : TablesView) (gone : Inode) (names : Rows) → Removes path entry t gone names
    → with_lines entry.child gone names t ≡ with_volume (removed entry.line entry.child t.volume) t
removes-is path entry t gone names r = λ i. with_lines entry.child (r.gone_is i) (r.names_is i) t

pub removes-tables : (path : List (List ℕ)) (entry : Entry) (t : TablesView) (gone : Inode) (names : Rows) (pool held : FreeSet) → AreTables t pool held
    → Removes path entry t gone names → AreTables (with_lines entry.child gone names t) pool held
removes-tables path entry t gone names pool held are r =
    subst (λ n. AreTables n pool held) (sym (removes-is path entry t gone names r))
    (tables-same t (removed entry.line entry.child t.volume) pool held are (removed-whole path entry t.volume are.whole r.is_directory) refl
    (removed-owners entry.line entry.child t.volume))

pub removes-plan : (path : List (List ℕ)) (entry : Entry) (t old : TablesView) (gone : Inode) (names : Rows) (b : List Record) → t ≡ old
    → IsWhole t.volume → Removes path entry t gone names
    → (gone.root ≡ (inode t.volume entry.child).root → gone.extents ≡ (inode t.volume entry.child).extents
    → Turns t.volume.geometry [] t.volume (row_set entry.line None (node_set entry.child gone t.volume)) b)
    → 0 < length b → length b ≤ 2 → old.aside ≡ [] → IsPlan old (with_lines entry.child gone names t) b
removes-plan path entry t old gone names b same whole r turns some most idle =
    let v = t.volume in
    let none = removed-bare path entry v whole r.is_directory in
    plan-from t old (with_lines entry.child gone names t) (removed entry.line entry.child v) b same
    (removes-is path entry t gone names r)
    (subst (λ (x : Inode). Turns v.geometry [] v (row_set entry.line None (node_set entry.child x v)) b) r.gone_is
    (turns (ap (λ (x : Inode). x.root) r.gone_is ∙ sym none.root) (ap (λ (x : Inode). x.extents) r.gone_is ∙ sym none.extents)))
    some (omega arith) (λ ino least few. refl) (removed-whole path entry v whole r.is_directory) idle refl
    (removed-owners entry.line entry.child v)
