-- The calls by which names and nodes go: `unlink`, `rmdir`, and the last `close` of a file without a name.
use Rattle.std.specs.Prelude.{◌≡◌, ◌≢◌, ◌||◌, ℕ, Bool, true, false, List, Option, Some, None, unwrap_or, slice_set, refl, if◌then◌else◌}
use Rattle.std.proofs.Common.{ap, ◌∙◌, sym, subst}
use Rattle.std.proofs.lemmas.List.{get_or-set_other, get_or-set_same, length-set}
use Rattle.volume_change_laws.specs.pm_model.Words.{Words}
use Rattle.volume_change_laws.specs.layout_model.declared.lines.Draft.{Draft}
use Rattle.volume_change_laws.specs.layout_model.declared.lines.Kind.{Kind}
use Rattle.volume_change_laws.specs.layout_model.declared.lines.Kind.TheVariants.{Free, Directory, File, Staging}
use Rattle.volume_change_laws.specs.layout_model.Lines.{NameRow}
use Rattle.volume_change_laws.specs.layout_model.Names.{child_named, has_entries, row}
use Rattle.volume_change_laws.specs.layout_model.TableLaws.{NamingLine-child_named}
use Rattle.volume_change_laws.specs.image_model.Live.{is_directory}
use Rattle.volume_change_laws.specs.image_model.Volume.{inode, Volume}
use Rattle.volume_change_laws.specs.k_split_model.ChangesChanges.{dropped, gone_node, removed, unnamed}
use Rattle.volume_change_laws.specs.k_split_model.Spaces.{volume_space}
use Rattle.world_model.specs.name_laws.RowLaws.{has_entries-parent}
use Rattle.world_model.specs.name_laws.SetLaws.{row-freed}
use Rattle.volume_change_laws.specs.CallLaws.{IsRowFound, may-remove, may-unname}
use Rattle.volume_change_laws.specs.FoundLaws.{row-found}
use Rattle.volume_change_laws.specs.FrameLaws.{removed-inode, removed-others}
use Rattle.volume_change_laws.specs.NameLaws.{removed-keeps}
use Rattle.commute_laws.specs.posix_types.declared.call.Call.{Call}
use Rattle.commute_laws.specs.posix_types.declared.call.Who.{Who}
use Rattle.commute_laws.specs.posix_tables.declared.nodes.Node.{Node}
use Rattle.commute_laws.specs.posix_tables.NameRows.{rmdir_rows, unlink_rows}
use Rattle.commute_laws.specs.posix_tables.Names.{is_named, last_name, node_at_path, parent_at, without_entry}
use Rattle.commute_laws.specs.posix_tables.Open.{is_open}
use Rattle.commute_laws.specs.posix_tables.Outcomes.{first}
use Rattle.commute_laws.specs.posix_spec.Run.{after_call}
use Rattle.commute_laws.specs.posix_spec.State.{alone, space, State, swept, unnamed as unnamed_state, with_node}
use Rattle.commute_laws.specs.posix_spec.Step.{rmdir_done, stepped, unlink_done}
use Rattle.world_model.specs.Jobs.{Job, live_claims}
use Rattle.world_model.specs.Stands.{is_used, IsSane, IsUsed, number}
use Rattle.world_model.specs.TreeRules.{all_lines, one_name, used_below}
use Rattle.world_step_laws.specs.Rows.{HaveSameRows-Mirrors}
use Rattle.world_step_laws.specs.GoneCalls.{IsWorld-dropped, IsWorld-gone, IsWorld-unnamed}
use Rattle.world_step_laws.specs.MadeCalls.{beside-no_file}
use Rattle.world_step_laws.specs.Nameless.{count-nameless, is_named-nameless, IsNameless, nameless-freed}
use Rattle.world_step_laws.specs.NameTables.{NamesStand-freed, NamesStand-gone, row_used}
use Rattle.world_step_laws.specs.Steps.{GoOn, GoOn-call, GoOn-entries, shown_node}
use Rattle.world_step_laws.specs.Worlds.{IsFound, IsWorld, node_there, parent_number, spelled-set, world_mirror}
use Rattle.world_step_laws.specs.NamesLaws.{KeepsRmdir, KeepsUnlinkClosed, KeepsUnlinkMidway, KeepsUnlinkOpen}

-- A file that is open stays when it is swept, and one that nobody has open and that has no name goes.
pub swept-open : (s : State) (n : ℕ) → is_open s.tables n ≡ true → swept alone s n ≡ s
unfolding swept
swept-open s n is = ap (λ b. if b then s else with_node s n Node.Gone) (by (is_named s.entries n) (is_open s.tables n) is) where
  by : (a b : Bool) → b ≡ true → (a || b) ≡ true
  by true b is = refl
  by false b is = is

pub swept-gone : (s : State) (n : ℕ) → is_named s.entries n ≡ false → is_open s.tables n ≡ false → swept alone s n ≡ with_node s n Node.Gone
unfolding swept
swept-gone s n nameless shut = (λ i. if nameless i || shut i then s else with_node s n Node.Gone)

pub swept-named : (s : State) (n : ℕ) → is_named s.entries n ≡ true → swept alone s n ≡ s
unfolding swept
swept-named s n named = ap (λ b. if b || is_open s.tables n then s else with_node s n Node.Gone) named

pub one_number : (o : Option ℕ) (n : ℕ) → o ≡ Some n → unwrap_or o 0 ≡ n
one_number o n is = ap (λ q. unwrap_or q 0) is

plain_file : (kind : Kind) → is_used kind ≡ true → is_directory kind ≡ false → kind ≡ File
plain_file Free used plain = cc
plain_file Directory used plain = cc
plain_file File used plain = refl
plain_file Staging used plain = cc

pub row_of : (v : Volume) (p : List (List ℕ)) (parent line child : ℕ) → IsFound v p parent line child → IsRowFound v.names parent (last_name p) line child
row_of v p parent line child found = row-found v.names parent (last_name p) line child found.found

-- ---- unlink

-- the name goes; so far the file stays
pub IsWorld-unlinked : (v : Volume) (claims : List (ℕ × Draft)) (jobs : List Job) (f : Words) (numbers : List ℕ) (s new : State) (count : ℕ) (p : List (List ℕ)) (parent line child : ℕ) → IsWorld v claims jobs f numbers s count
    → IsFound v p parent line child → (volume_space v).directory child ≡ false → GoOn s new numbers jobs → new.nodes ≡ s.nodes → new.entries ≡ without_entry s.entries (parent_at (space s) p) (last_name p) → new.shape ≡ s.shape
    → IsWorld (unnamed line v) claims jobs f numbers new count
IsWorld-unlinked v claims jobs f numbers s new count p parent line child world found plain on nodes entries shape =
    let r = row_of v p parent line child found in
    let above = parent_number v numbers s p parent (world_mirror v claims jobs f numbers s count world) found.at.directory in
    IsWorld-unnamed v claims jobs f numbers s new count line r.at world (may-unname v line child r.at r.is r.child_is plain) on nodes
    (entries ∙ (λ i. without_entry s.entries ((above.1 ∙ ap (number numbers) (sym r.parent_is)) i) (sym r.name_is i))) shape

unlink_state : (v : Volume) (claims : List (ℕ × Draft)) (jobs : List Job) (f : Words) (numbers : List ℕ) (s : State) (count : ℕ) (who : Who) (p : List (List ℕ)) (parent line child : ℕ) → IsWorld v claims jobs f numbers s count
    → IsFound v p parent line child → first (unlink_rows (volume_space v) p) ≡ None → after_call s (who, Call.Unlink p) ≡ swept alone (unnamed_state s p) (number numbers child)
unfolding unlink_done
unlink_state v claims jobs f numbers s count who p parent line child world found none =
    let mirror = world_mirror v claims jobs f numbers s count world in
    let none_there : first (unlink_rows (space s) p) ≡ None = ap first (sym ((HaveSameRows-Mirrors (IsUsed v) numbers (volume_space v) (space s) mirror).unlink p)) ∙ none in
    ap (λ o. (stepped s o (unlink_done alone s p)).state) none_there ∙ ap (swept alone (unnamed_state s p)) (one_number (node_at_path (space s) p) (number numbers child) (node_there v numbers s p parent child mirror found.at))

-- `unlink` of a file that is open
pub IsWorld-unlink_open : KeepsUnlinkOpen
unfolding unnamed_state
IsWorld-unlink_open v claims jobs f numbers s count who p parent line child world lets found plain none open_there =
    let same = unlink_state v claims jobs f numbers s count who p parent line child world found none ∙ swept-open (unnamed_state s p) (number numbers child) open_there in
    subst (λ x. IsWorld (unnamed line v) claims jobs f numbers x count) (sym same)
    (IsWorld-unlinked v claims jobs f numbers s (unnamed_state s p) count p parent line child world found plain
    (subst (λ x. GoOn s x numbers jobs) same (GoOn-call v claims jobs f numbers s (who, Call.Unlink p) world.valid lets tt)) refl refl refl)

-- where its name is gone and the file not yet
pub IsWorld-unlink_midway : KeepsUnlinkMidway
unfolding unnamed_state
IsWorld-unlink_midway v claims jobs f numbers s count p parent line child world found plain =
    IsWorld-unlinked v claims jobs f numbers s (unnamed_state s p) count p parent line child world found plain
    (GoOn-entries v claims jobs f numbers s (without_entry s.entries (parent_at (space s) p) (last_name p)) world.valid) refl refl refl

-- `unlink` of a file that nobody has open
pub IsWorld-unlink_closed : KeepsUnlinkClosed
unfolding unnamed_state
IsWorld-unlink_closed v claims jobs f numbers s count who p parent line child world lets found plain none shut =
    let r = row_of v p parent line child found in
    let sane = world.valid.stands.sane in
    let middle = IsWorld-unlink_midway v claims jobs f numbers s count p parent line child world found plain in
    let used : IsUsed v child = subst (IsUsed v) r.child_is (row_used v line r.at sane r.is).1 in
    let nameless : IsNameless (slice_set v.names line None) child = subst (IsNameless (slice_set v.names line None)) r.child_is (nameless-freed v line r.at (one_name v sane r.at.child) r.is) in
    let unnamed_there = is_named-nameless (unnamed line v) numbers (unnamed_state s p) child middle.valid.stands.sane middle.valid.stands.names used nameless in
    let same = unlink_state v claims jobs f numbers s count who p parent line child world found none ∙ swept-gone (unnamed_state s p) (number numbers child) unnamed_there shut in
    let on = subst (λ x. GoOn s x numbers jobs) same (GoOn-call v claims jobs f numbers s (who, Call.Unlink p) world.valid lets tt) in
    subst (λ x. IsWorld (dropped child (unnamed line v)) claims jobs f numbers x count) (sym same)
    (IsWorld-dropped (unnamed line v) claims jobs f numbers (unnamed_state s p) (with_node (unnamed_state s p) (number numbers child) Node.Gone) count child middle (plain_file (inode v child).kind used plain) nameless shut
    (record { flying_on = on.flying_on; files = on.files; fits = on.fits; room = on.room })
    (λ n other. ap shown_node (get_or-set_other s.nodes (number numbers child) n Node.Gone Node.Gone other))
    (get_or-set_same s.nodes (number numbers child) Node.Gone Node.Gone (world.valid.stands.names.within child used)) refl (length-set s.nodes (number numbers child) Node.Gone) refl)

-- ---- rmdir

directory_used : (kind : Kind) → is_directory kind ≡ true → is_used kind ≡ true
directory_used Free is = cc
directory_used Directory is = refl
directory_used File is = cc
directory_used Staging is = cc

pub directory_no_file : (kind : Kind) → is_directory kind ≡ true → kind ≢ File
directory_no_file kind is same = let never : true ≡ false = sym is ∙ ap is_directory same in cc

-- nothing is below a directory without entries
pub directory-empty : (v : Volume) (c : ℕ) → has_entries v.names c ≡ false → (name : List ℕ) → child_named v.names c name ≡ None
directory-empty v c empty name = by (child_named v.names c name) refl where
  by : (o : Option ℕ) → child_named v.names c name ≡ o → child_named v.names c name ≡ None
  by None named = named
  by (Some d) named =
      let line = NamingLine-child_named v.names c name d named in
      absurd (has_entries-parent v.names c line.line line.at empty line.is line.parent_is)

pub IsWorld-rmdir : KeepsRmdir
unfolding rmdir_done unnamed_state
IsWorld-rmdir v claims jobs f numbers s count who p parent line child world lets found directory empty none =
    let r = row_of v p parent line child found in
    let sane = world.valid.stands.sane in
    let mirror = world_mirror v claims jobs f numbers s count world in
    let may = may-remove v line child r.at r.is r.child_is directory empty in
    let used : IsUsed v child = directory_used (inode v child).kind directory in
    let above = parent_number v numbers s p parent mirror found.at.directory in
    let none_there : first (rmdir_rows (space s) p) ≡ None = ap first (sym ((HaveSameRows-Mirrors (IsUsed v) numbers (volume_space v) (space s) mirror).rmdir p)) ∙ none in
    let new : State = with_node (unnamed_state s p) (number numbers child) Node.Gone in
    let same : after_call s (who, Call.Rmdir p) ≡ new =
    ap (λ o. (stepped s o (rmdir_done s p)).state) none_there
    ∙ ap (λ n. with_node (unnamed_state s p) n Node.Gone) (one_number (node_at_path (space s) p) (number numbers child) (node_there v numbers s p parent child mirror found.at))
    in
    let own : inode (removed line child v) child ≡ gone_node (inode v child) = removed-inode line child v (used_below v child used) in
    let entries : new.entries ≡ without_entry s.entries (number numbers r.at.parent) r.at.name =
    λ i. without_entry s.entries ((above.1 ∙ ap (number numbers) (sym r.parent_is)) i) (sym r.name_is i)
    in
    let root : child ≢ 0 = λ zeroth. no_root v line r.at sane r.is (r.child_is ∙ zeroth) in
    let below : (name : List ℕ) → child_named (unnamed line v).names child name ≡ None = λ name. still_empty v line child name may.empty in
    subst (λ x. IsWorld (removed line child v) claims jobs f numbers x count) (sym same)
    (IsWorld-gone v (removed line child v) claims jobs f numbers s new count child world used own (λ ino other. (removed-others line child v).inodes ino (other, tt)) (λ ino other. refl)
    (record {
      kept = removed-keeps line child r.at v sane.kept (all_lines v sane) may;
      inode_count = length-set v.inodes child (gone_node (inode v child)) ∙ sane.inode_count;
      name_count = length-set v.names line None ∙ sane.name_count;
      chain_count = sane.chain_count;
      map_count = sane.map_count;
      spelled = spelled-set v.names line None sane.spelled (λ q is. cc);
    })
    (NamesStand-gone (unnamed line v) (removed line child v) numbers (record s { entries = new.entries }) new child
    (NamesStand-freed v numbers s (record s { entries = new.entries }) line r.at sane world.valid.stands.names r.is entries refl) refl (λ ino other. (removed-others line child v).inodes ino (other, tt)) (ap (λ x. x.kind) own)
    root below used refl (length-set s.nodes (number numbers child) Node.Gone))
    (beside-no_file v (live_claims v claims) f numbers s child jobs world.valid.out (directory_no_file (inode v child).kind directory))
    (subst (λ x. GoOn s x numbers jobs) same (GoOn-call v claims jobs f numbers s (who, Call.Rmdir p) world.valid lets tt))
    (λ n other. ap shown_node (get_or-set_other s.nodes (number numbers child) n Node.Gone Node.Gone other))
    (get_or-set_same s.nodes (number numbers child) Node.Gone Node.Gone (world.valid.stands.names.within child used)) (length-set v.names line None) refl refl)
  where
    no_root : (v : Volume) (line : ℕ) (r : NameRow) → IsSane v → row v.names line ≡ Some r → r.child ≡ 0 → ⊥
    no_root v line r sane is zeroth = count-nameless v.names 0 sane.kept.directories.root line r is zeroth

    still_empty : (v : Volume) (line child : ℕ) (name : List ℕ) → has_entries v.names child ≡ false → child_named (slice_set v.names line None) child name ≡ None
    still_empty v line child name empty = by (child_named (slice_set v.names line None) child name) refl where
      by : (o : Option ℕ) → child_named (slice_set v.names line None) child name ≡ o → child_named (slice_set v.names line None) child name ≡ None
      by None named = named
      by (Some d) named =
          let l = NamingLine-child_named (slice_set v.names line None) child name d named in
          let was = row-freed v.names line l.line l.at l.is in
          absurd (has_entries-parent v.names child l.line l.at empty was.1 l.parent_is)
