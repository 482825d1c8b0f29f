-- The changes of names keep the rules, each under what it asks for.
use Rattle.std.specs.Prelude.{◌≡◌, ◌≢◌, ◌⊎◌, ℕ, ◌<◌, ◌≤◌, length, true, false, slice_set, slice_index_or, Some, None, refl}
use Rattle.std.proofs.Common.{arith, ap, sym, ◌∙◌, subst, inl, inr}
use Rattle.std.proofs.lemmas.Bool.{cases_eq, both_ways, eq-eqb, ne_eqb}
use Rattle.name_laws.specs.volume_laws.layout_model.declared.lines.Kind.{Kind}
use Rattle.name_laws.specs.volume_laws.layout_model.Lines.{NameRow}
use Rattle.name_laws.specs.volume_laws.layout_model.Names.{row, is_child, names_of, has_entries}
use Rattle.name_laws.specs.volume_laws.image_model.Kept.{AreKept}
use Rattle.name_laws.specs.volume_laws.image_model.Live.{is_directory, is_file}
use Rattle.name_laws.specs.volume_laws.image_model.Reading.{node_set, row_set}
use Rattle.name_laws.specs.volume_laws.image_model.Rules.{file_blocks_of}
use Rattle.name_laws.specs.volume_laws.image_model.Volume.{Volume, inode, free_inode}
use Rattle.name_laws.specs.k_split_model.ChangesChanges.{new_node, gone_node, made, unnamed, removed, renamed}
use Rattle.name_laws.specs.KeptLaws.{HasAllLines, node-below}
use Rattle.name_laws.specs.RowLaws.{row-below, has_entries-parent, names_of-zero, names_of-one_line}
use Rattle.name_laws.specs.SetLaws.{row-freed, names_of-taken, names_of-freed, names_of-moved}
use Rattle.volume_change_laws.specs.Changes.{MayMake, MayUnname, MayRemove, MayRename}
use Rattle.volume_change_laws.specs.NodeLaws.{named-used, free-unnamed, plain-empty, free-number, directory-number, node-number, node-blocks, node-named, directory-blocks, set-kinds, set-data, set-other, set-same}
use Rattle.volume_change_laws.specs.Sane.{AreSane, HasKinds, sane-kept, kept-sane}
use Rattle.volume_change_laws.specs.SaneLaws.{sane-taken, sane-freed, sane-moved, sane-nodes}
use Rattle.name_laws.specs.volume_laws.Lists.{one_if}
use Rattle.name_laws.specs.volume_laws.OwnerLaws.{owners-node, owners-row}

-- ---- a node is made

-- The node is there, without a name yet; so this is no change that keeps the rules, but names stay sane.
made-sane : (kind : Kind) (ino line : ℕ) (r : NameRow) (v : Volume) → AreSane v → HasKinds v → HasAllLines v
    → MayMake kind ino line r v
    → AreSane (made kind ino line r v)
made-sane kind ino line r v sane kinds all may =
    sane-taken (node_set ino (new_node kind (inode v ino)) v) line r
    (sane-nodes v (slice_set v.inodes ino (new_node kind (inode v ino))) v.chains v.maps sane
    (λ k t is. set-other v ino (new_node kind (inode v ino)) t.child (λ e. named-used v k t sane is (ap (λ i. (inode v i).kind) e ∙ may.ino_free)))
    (λ k t is. set-other v ino (new_node kind (inode v ino)) t.parent (other_parent t.parent (sane.forest.parents k t is))))
    (record {
      within = may.line_below;
      free = may.line_free;
      is_new = may.is_new;
      named = (
        subst (λ i. (is_directory (slice_index_or (slice_set v.inodes ino (new_node kind (inode v ino))) i free_inode).kind ≡ true) ⊎ (is_file (slice_index_or (slice_set v.inodes ino (new_node kind (inode v ino))) i free_inode).kind ≡ true))
            (sym may.child_is)
            (subst (λ x. (is_directory x ≡ true) ⊎ (is_file x ≡ true)) (sym (set-same v ino (new_node kind (inode v ino)) may.ino_below)) (node-named kind may.kind_is)),
        omega (arith, all.inode_count, node-below v r.parent (inl may.parent)),
      );
      parent = ap is_directory (set-other v ino (new_node kind (inode v ino)) r.parent (other_parent r.parent may.parent)) ∙ may.parent;
      way = may.way;
      unnamed = ap (names_of v.names) may.child_is ∙ free-unnamed v ino sane may.ino_free;
      empty = ap (has_entries v.names) may.child_is ∙ plain-empty v ino sane (ap is_directory may.ino_free);
      apart = λ e. other_parent r.parent may.parent (e ∙ may.child_is);
      own = λ e. omega (arith, free-number (inode v ino).kind ino may.ino_free (kinds ino (omega (arith, may.ino_below, all.inode_count))), may.child_is, e);
    })
  where
    other_parent : (p : ℕ) → is_directory (inode v p).kind ≡ true → p ≢ ino
    other_parent p directory e =
        both_ways (is_directory (inode v p).kind)
        (ap (λ i. is_directory (inode v i).kind) e ∙ ap is_directory may.ino_free) directory

pub made-keeps : (kind : Kind) (ino line : ℕ) (r : NameRow) (v : Volume) → AreKept v → HasAllLines v
    → MayMake kind ino line r v
    → AreKept (made kind ino line r v)
made-keeps kind ino line r v kept all may =
    let sane = sane-kept v kept all in
    let x = new_node kind (inode v ino) in
    kept-sane (made kind ino line r v) (made-sane kind ino line r v sane kept.kinds all may)
    (λ i own directory. elim (cases_eq i ino) [
      | inl here ↦
          omega (arith, names_of-taken v.names line r i may.line_below may.line_free, ap one_if (eq-eqb r.child i (may.child_is ∙ sym here)))
      | inr apart ↦
          let was : is_directory (inode v i).kind ≡ true =
          sym (ap is_directory (set-other v ino x i apart)) ∙ directory
          in
          omega (arith, names_of-taken v.names line r i may.line_below may.line_free, kept.directories.each i own was)
    ])
    (set-kinds v ino x may.ino_below (node-number kind ino may.kind_is (free-number (inode v ino).kind ino may.ino_free (kept.kinds ino (omega (arith, may.ino_below, all.inode_count))))) kept.kinds)
    (set-data v ino x may.ino_below (node-blocks kind may.kind_is ∙ sym (ap file_blocks_of may.ino_free)) kept.in_data)
    (λ b is. let same = owners-row (node_set ino x v) line (Some r) b ∙ owners-node v ino x b in omega (arith, kept.once b is, ap length same))

-- ---- a name goes

pub unnamed-keeps : (line : ℕ) (r : NameRow) (v : Volume) → AreKept v → HasAllLines v → MayUnname line r v
    → AreKept (unnamed line v)
unnamed-keeps line r v kept all may =
    let sane = sane-kept v kept all in
    kept-sane (unnamed line v)
    (sane-freed v line r sane (record { is = may.is; empty = plain-empty v r.child sane may.no_directory }))
    (λ i own directory.
    let apart : r.child ≢ i =
    λ e. both_ways (is_directory (inode v i).kind) (ap (λ n. is_directory (inode v n).kind) (sym e) ∙ may.no_directory) directory
    in
    omega (arith, names_of-freed v.names line r i (row-below v.names line r may.is) may.is, ap one_if (ne_eqb r.child i apart), kept.directories.each i own directory))
    kept.kinds kept.in_data
    (λ b is. omega (arith, kept.once b is, ap length (owners-row v line None b)))

-- ---- a directory goes with its name

pub removed-keeps : (line ino : ℕ) (r : NameRow) (v : Volume) → AreKept v → HasAllLines v → MayRemove line ino r v
    → AreKept (removed line ino v)
removed-keeps line ino r v kept all may =
    let sane = sane-kept v kept all in
    let x = gone_node (inode v ino) in
    let below : ino < length v.inodes = node-below v ino (inl may.directory) in
    let within : ino < v.geometry.inodes = omega (arith, below, all.inode_count) in
    let own_name : ino ≢ 0 =
    λ e. names_root r.child (may.child_is ∙ e) (ap (is_child r.child) may.is ∙ eq-eqb r.child r.child refl) sane.root
    in
    kept-sane (removed line ino v)
    (sane-nodes (row_set line None v) (slice_set v.inodes ino x) v.chains v.maps
    (sane-freed v line r sane (record { is = may.is; empty = ap (has_entries v.names) may.child_is ∙ may.empty }))
    (λ k t is. set-other v ino x t.child (λ e. other_line k t (row-freed v.names line k t is).0 (row-freed v.names line k t is).1 (sane.forest.one_name r.child (ap (λ i. is_directory (inode v i).kind) may.child_is ∙ may.directory)) e))
    (λ k t is. set-other v ino x t.parent (has_entries-parent v.names ino k t may.empty (row-freed v.names line k t is).1)))
    (λ i own directory. elim (cases_eq i ino) [
      | inl here ↦
          let gone : is_directory (slice_index_or (slice_set v.inodes ino x) i free_inode).kind ≡ false =
          ap (λ n. is_directory (slice_index_or (slice_set v.inodes ino x) n free_inode).kind) here
          ∙ ap is_directory (set-same v ino x below)
          in
          absurd (both_ways (is_directory (slice_index_or (slice_set v.inodes ino x) i free_inode).kind) gone directory)
      | inr apart ↦
          let was : is_directory (inode v i).kind ≡ true =
          sym (ap is_directory (set-other v ino x i apart)) ∙ directory
          in
          omega (arith, names_of-freed v.names line r i (row-below v.names line r may.is) may.is, ap one_if (ne_eqb r.child i (λ e. apart (sym e ∙ may.child_is))), kept.directories.each i own was)
    ])
    (set-kinds v ino x below (directory-number (inode v ino).kind ino may.directory own_name (kept.kinds ino within)) kept.kinds)
    (set-data v ino x below (sym (directory-blocks (inode v ino).kind may.directory)) kept.in_data)
    (λ b is. let same = owners-row (node_set ino x v) line None b ∙ owners-node v ino x b in omega (arith, kept.once b is, ap length same))
  where
    other_line : (k : ℕ) (t : NameRow) → k ≢ line → row v.names k ≡ Some t → names_of v.names r.child ≤ 1
        → t.child ≡ ino → ⊥
    other_line k t apart is few e =
        apart (names_of-one_line v.names r.child k line few (ap (is_child r.child) is ∙ eq-eqb t.child r.child (e ∙ sym may.child_is)) (ap (is_child r.child) may.is ∙ eq-eqb r.child r.child refl))

    names_root : (c : ℕ) → c ≡ 0 → is_child c (row v.names line) ≡ true → names_of v.names 0 ≡ 0 → ⊥
    names_root c e is none =
        both_ways (is_child c (row v.names line)) (names_of-zero v.names c (ap (names_of v.names) e ∙ none) line) is

-- ---- a name has another parent or another name

pub renamed-keeps : (line : ℕ) (r s : NameRow) (high : ℕ) (v : Volume) → AreKept v → HasAllLines v
    → MayRename line r s high v
    → AreKept (renamed line s v)
renamed-keeps line r s high v kept all may =
    let sane = sane-kept v kept all in
    kept-sane (renamed line s v)
    (sane-moved v line r s high sane
    (record {
      is = may.is;
      same = may.place.same;
      is_new = may.is_new;
      parent = may.place.parent;
      within = omega (arith, all.inode_count, node-below v s.parent (inl may.place.parent));
      way = may.place.way;
      short = may.place.short;
      outside = may.place.outside;
      deep = may.place.deep;
    }))
    (λ i own directory. omega (arith, names_of-moved v.names line r s i (row-below v.names line r may.is) may.is may.place.same, kept.directories.each i own directory))
    kept.kinds kept.in_data
    (λ b is. omega (arith, kept.once b is, ap length (owners-row v line (Some s) b)))
