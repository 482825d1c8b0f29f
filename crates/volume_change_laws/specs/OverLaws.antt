-- A rename over a file or over an empty directory keeps the rules: the name that stood there goes first, and then it is a
-- rename to a new name.
use Rattle.std.specs.Prelude.{◌≡◌, ◌≢◌, ℕ, List, true, false, slice_set, slice_index_or, Some, None, refl}
use Rattle.std.proofs.Common.{ap, sym, ◌∙◌, subst}
use Rattle.name_laws.specs.volume_laws.extent_model.declared.extent_words.Extent.{Extent}
use Rattle.name_laws.specs.volume_laws.layout_model.declared.lines.Inode.{Inode}
use Rattle.name_laws.specs.volume_laws.layout_model.Lines.{NameRow}
use Rattle.name_laws.specs.volume_laws.layout_model.Names.{row, is_entry, has_entries, up}
use Rattle.name_laws.specs.volume_laws.layout_model.TableLaws.{is_entry-own, is_entry-parts}
use Rattle.name_laws.specs.volume_laws.image_model.Kept.{AreKept}
use Rattle.name_laws.specs.volume_laws.image_model.Live.{is_directory}
use Rattle.name_laws.specs.volume_laws.image_model.Reading.{row_set}
use Rattle.name_laws.specs.volume_laws.image_model.Volume.{Volume, inode, free_inode}
use Rattle.name_laws.specs.k_split_model.ChangesChanges.{gone_node, unnamed, removed, renamed_over_file, renamed_over_directory}
use Rattle.name_laws.specs.KeptLaws.{HasAllLines}
use Rattle.name_laws.specs.RowLaws.{has_entries-parent}
use Rattle.name_laws.specs.SetLaws.{row-freed}
use Rattle.volume_change_laws.specs.Changes.{MayRename, MayRenameOver, MayRenameOverFile, MayRenameOverDirectory}
use Rattle.volume_change_laws.specs.LineLaws.{lines-row, lines-node}
use Rattle.volume_change_laws.specs.NameLaws.{unnamed-keeps, removed-keeps, renamed-keeps}
use Rattle.volume_change_laws.specs.NodeLaws.{plain-empty, set-other}
use Rattle.volume_change_laws.specs.Sane.{AreSane, sane-kept}
use Rattle.volume_change_laws.specs.SaneLaws.{way-freed}
use Rattle.name_laws.specs.volume_laws.Changes.{row-set_other}

-- Where the line of an inode without entries was freed, and the inode may be gone, a rename to its name is one to a new
-- name.
may-after : (line : ℕ) (r s : NameRow) (high target : ℕ) (t : NameRow) (v : Volume) (inodes : List Inode) (chains : List (List ℕ)) (maps : List (List Extent))
    → AreSane v → MayRenameOver line r s high target t v → has_entries v.names t.child ≡ false
    → (slice_index_or inodes s.parent free_inode).kind ≡ (inode v s.parent).kind
    → MayRename line r s high (record (row_set target None v) { inodes = inodes; chains = chains; maps = maps })
may-after line r s high target t v inodes chains maps sane over empty stays = record {
  is = row-set_other v.names target None line other ∙ over.is;
  is_new = λ k entry.
      let parts = is_entry-parts s.parent s.name (row (slice_set v.names target None) k) entry in
      let was = row-freed v.names target k parts.0 parts.1 in
      let own : is_entry s.parent s.name (row v.names k) ≡ true =
      subst (λ n. is_entry s.parent n (row v.names k) ≡ true) parts.3
      (subst (λ p. is_entry p parts.0.name (row v.names k) ≡ true) parts.2 (is_entry-own (row v.names k) parts.0 was.1))
      in
      let there : is_entry s.parent s.name (row v.names target) ≡ true =
      subst (λ n. is_entry s.parent n (row v.names target) ≡ true) over.same_name
      (subst (λ p. is_entry p t.name (row v.names target) ≡ true) over.same_parent (is_entry-own (row v.names target) t over.target_is))
      in
      absurd (was.0 (sane.forest.keyed.one_line s.parent s.name k target own there));
  place = record {
    same = over.place.same;
    parent = ap is_directory stays ∙ over.place.parent;
    way = still high s.parent parent_apart ∙ over.place.way;
    short = over.place.short;
    outside = λ m meets. over.place.outside m (sym (still m s.parent parent_apart) ∙ meets);
    deep = λ k m u is meets.
        let was = row-freed v.names target k u is in
        over.place.deep k m u was.1 (sym (still m u.parent (has_entries-parent v.names t.child k u empty was.1)) ∙ meets);
  };
}
  where
    other : line ≢ target
    other e =
        let both : Some r ≡ Some t = sym over.is ∙ ap (row v.names) e ∙ over.target_is in
        let same : r ≡ t = cc in
        over.apart (ap (λ (x : NameRow). x.child) (sym same))

    parent_apart : s.parent ≢ t.child
    parent_apart e = has_entries-parent v.names t.child target t empty over.target_is (over.same_parent ∙ e)

    still : (n ino : ℕ) → ino ≢ t.child → up (slice_set v.names target None) n ino ≡ up v.names n ino
    still n ino apart = way-freed v target t n ino (record { is = over.target_is; empty = empty }) apart

pub renamed_over_file-keeps : (line : ℕ) (r s : NameRow) (high target : ℕ) (t : NameRow) (v : Volume) → AreKept v
    → HasAllLines v
    → MayRenameOverFile line r s high target t v → AreKept (renamed_over_file line s target v)
renamed_over_file-keeps line r s high target t v kept all may =
    let sane = sane-kept v kept all in
    renamed-keeps line r s high (unnamed target v)
    (unnamed-keeps target t v kept all (record { is = may.over.target_is; no_directory = may.no_directory }))
    (lines-row target None v all)
    (may-after line r s high target t v v.inodes v.chains v.maps sane may.over (plain-empty v t.child sane may.no_directory) refl)

pub renamed_over_directory-keeps : (line : ℕ) (r s : NameRow) (high target ino : ℕ) (t : NameRow) (v : Volume)
    → AreKept v → HasAllLines v
    → MayRenameOverDirectory line r s high target ino t v → AreKept (renamed_over_directory line s target ino v)
renamed_over_directory-keeps line r s high target ino t v kept all may =
    let sane = sane-kept v kept all in
    let empty : has_entries v.names t.child ≡ false = ap (has_entries v.names) may.child_is ∙ may.empty in
    renamed-keeps line r s high (removed target ino v)
    (removed-keeps target ino t v kept all (record { is = may.over.target_is; child_is = may.child_is; directory = may.directory; empty = may.empty }))
    (lines-row target None _ (lines-node ino (gone_node (inode v ino)) v all))
    (may-after line r s high target t v (slice_set v.inodes ino (gone_node (inode v ino))) v.chains v.maps sane may.over empty
    (set-other v ino (gone_node (inode v ino)) s.parent
    (λ e. has_entries-parent v.names t.child target t empty may.over.target_is (may.over.same_parent ∙ e ∙ sym may.child_is))))
