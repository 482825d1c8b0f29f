-- `rename`: to a path where nothing stands, over a file that is open or not, and over an empty directory.
use Rattle.std.specs.Prelude.{◌≡◌, ◌≢◌, ℕ, Bool, true, false, cond, not, ◌&&◌, List, length, Option, Some, None, slice_set, option_map, refl, if◌then◌else◌}
use Rattle.std.specs.Option.{option_map_or}
use Rattle.std.proofs.Common.{ap, ◌∙◌, sym, subst}
use Rattle.std.proofs.lemmas.Bool.{ne_eqb}
use Rattle.std.proofs.lemmas.List.{get_or-set_other, get_or-set_same, length-set}
use Rattle.std.proofs.lemmas.Option.{same_Some}
use Rattle.volume_change_laws.specs.pm_model.Words.{Words}
use Rattle.volume_change_laws.specs.layout_model.Fields.{is_same}
use Rattle.volume_change_laws.specs.layout_model.declared.lines.Draft.{Draft}
use Rattle.volume_change_laws.specs.layout_model.declared.lines.Kind.{Kind}
use Rattle.volume_change_laws.specs.layout_model.declared.lines.Kind.TheVariants.{Free, Directory, File, Staging}
use Rattle.volume_change_laws.specs.layout_model.Lines.{is_name, NameRow}
use Rattle.volume_change_laws.specs.layout_model.Names.{child_named, is_entry, row, Rows}
use Rattle.volume_change_laws.specs.image_model.Live.{is_directory}
use Rattle.volume_change_laws.specs.image_model.Volume.{free_inode, inode, Volume}
use Rattle.volume_change_laws.specs.k_split_model.ChangesChanges.{dropped, gone_node, renamed, renamed_over_directory, renamed_over_file}
use Rattle.volume_change_laws.specs.k_split_model.Spaces.{volume_space}
use Rattle.world_model.specs.name_laws.KeptLaws.{kept-keyed}
use Rattle.volume_change_laws.specs.CallLaws.{may-rename, may-rename-over_directory, may-rename-over_file, row_to}
use Rattle.volume_change_laws.specs.Changes.{MayRenameOver}
use Rattle.volume_change_laws.specs.FrameLaws.{renamed_over_directory-others}
use Rattle.volume_change_laws.specs.LookupLaws.{leads_nowhere, leads_to, names-moved, names-moved_over}
use Rattle.volume_change_laws.specs.NameLaws.{renamed-keeps}
use Rattle.volume_change_laws.specs.OverLaws.{renamed_over_directory-keeps, renamed_over_file-keeps}
use Rattle.world_model.specs.name_laws.EntryLaws.{child_of-rows}
use Rattle.world_model.specs.name_laws.Paths.{CanReplace, MayGo}
use Rattle.commute_laws.specs.posix_types.declared.call.Call.{Call}
use Rattle.commute_laws.specs.posix_types.declared.call.Who.{Who}
use Rattle.commute_laws.specs.posix_tables.declared.nodes.Node.{Node}
use Rattle.commute_laws.specs.posix_tables.NameRows.{rename_rows}
use Rattle.commute_laws.specs.posix_tables.Names.{directory_path, last_name, node_at_path, number_at}
use Rattle.commute_laws.specs.posix_tables.Outcomes.{first}
use Rattle.commute_laws.specs.posix_spec.Run.{after_call}
use Rattle.commute_laws.specs.posix_spec.State.{alone, space, State, swept, unnamed as unnamed_state, with_node}
use Rattle.commute_laws.specs.posix_spec.Step.{rename_done, renamed as renamed_state, stepped}
use Rattle.world_model.specs.Jobs.{Job, live_claims}
use Rattle.world_model.specs.Stands.{is_used, IsSane, IsUsed, number}
use Rattle.world_model.specs.TreeRules.{all_lines, one_name, used_below}
use Rattle.world_step_laws.specs.Mirrors.{node_at_path-same}
use Rattle.world_step_laws.specs.Rows.{HaveSameRows-Mirrors}
use Rattle.world_step_laws.specs.GoneCalls.{IsSane-rows, IsWorld-dropped, IsWorld-gone, IsWorld-rows}
use Rattle.world_step_laws.specs.MadeCalls.{beside-no_file}
use Rattle.world_step_laws.specs.Nameless.{count-nameless, is_named-nameless, IsNameless, nameless-moved_over}
use Rattle.world_step_laws.specs.NameTables.{moved_entries, NamesStand-gone, NamesStand-moved, row_used}
use Rattle.world_step_laws.specs.RemoveCalls.{one_number, row_of, swept-gone, swept-open}
use Rattle.world_step_laws.specs.RemoveCalls as removing
use Rattle.world_step_laws.specs.Steps.{GoOn, GoOn-call, GoOn-entries, shown_node}
use Rattle.world_step_laws.specs.Worlds.{IsFound, IsWorld, node_there, parent_number, spelled-set, world_mirror, world_volume}
use Rattle.world_step_laws.specs.NamesLaws.{KeepsRenameDirectory, KeepsRenameClosed, KeepsRenameMidway, KeepsRenameOpen, KeepsRenamed}

spelled_row : (t : NameRow) → is_name t.name ≡ true → (r : NameRow) → Some t ≡ Some r → is_name r.name ≡ true
spelled_row t spelled r is = ap (λ (x : NameRow). is_name x.name) (sym (same_Some t r is)) ∙ spelled

-- the entries of the state after the call, by numbers
renamed_entries : (v : Volume) (claims : List (ℕ × Draft)) (jobs : List Job) (f : Words) (numbers : List ℕ) (s : State) (count : ℕ) (p q : List (List ℕ)) (from line child to : ℕ) → IsWorld v claims jobs f numbers s count
    → (found : IsFound v p from line child) → MayGo (volume_space v) p q from child to
    → (renamed_state s p q).entries
    ≡ moved_entries s.entries (number numbers (row_of v p from line child found).at.parent) (row_of v p from line child found).at.name (record { parent = number numbers to; name = last_name q; child = number numbers child })
unfolding renamed_state unnamed_state
renamed_entries v claims jobs f numbers s count p q from line child to world found may =
    let r = row_of v p from line child found in
    let mirror = world_mirror v claims jobs f numbers s count world in
    let old = parent_number v numbers s p from mirror found.at.directory in
    let new = parent_number v numbers s q to mirror may.directory in
    let num = one_number (node_at_path (space s) p) (number numbers child) (node_there v numbers s p from child mirror found.at) in
    λ i. moved_entries s.entries ((old.1 ∙ ap (number numbers) (sym r.parent_is)) i) (sym r.name_is i) (record { parent = new.1 i; name = last_name q; child = num i })

rename_none : (v : Volume) (claims : List (ℕ × Draft)) (jobs : List Job) (f : Words) (numbers : List ℕ) (s : State) (count : ℕ) (who : Who) (p q : List (List ℕ)) → IsWorld v claims jobs f numbers s count
    → first (rename_rows (volume_space v) p q) ≡ None → after_call s (who, Call.Rename p q) ≡ (rename_done alone s p q).state
rename_none v claims jobs f numbers s count who p q world none =
    ap (λ o. (stepped s o (rename_done alone s p q)).state)
    (ap first (sym ((HaveSameRows-Mirrors (IsUsed v) numbers (volume_space v) (space s) (world_mirror v claims jobs f numbers s count world)).rename p q)) ∙ none)

-- what stands at the new path
stands_none : (s : State) (p q : List (List ℕ)) → node_at_path (space s) q ≡ None → (rename_done alone s p q).state ≡ renamed_state s p q
unfolding rename_done
stands_none s p q none = λ i. by (option_map_or (space s).directory (none i) false) (option_map_or (λ n. not ((space s).directory n)) (none i) false) where
  by : Bool → Bool → State
  by a b = if a then with_node (renamed_state s p q) (number_at (space s) q) Node.Gone else if b then swept alone (renamed_state s p q) (number_at (space s) q) else renamed_state s p q

stands_file : (s : State) (p q : List (List ℕ)) (n : ℕ) → node_at_path (space s) q ≡ Some n → (space s).directory n ≡ false → (rename_done alone s p q).state ≡ swept alone (renamed_state s p q) n
unfolding rename_done
stands_file s p q n there plain =
    (λ i. by (option_map_or (space s).directory (there i) false) (option_map_or (λ k. not ((space s).directory k)) (there i) false) (one_number (node_at_path (space s) q) n there i))
    ∙ (λ i. by (plain i) (not (plain i)) n) where
      by : Bool → Bool → ℕ → State
      by a b k = if a then with_node (renamed_state s p q) k Node.Gone else if b then swept alone (renamed_state s p q) k else renamed_state s p q

stands_directory : (s : State) (p q : List (List ℕ)) (n : ℕ) → node_at_path (space s) q ≡ Some n → (space s).directory n ≡ true → (rename_done alone s p q).state ≡ with_node (renamed_state s p q) n Node.Gone
unfolding rename_done
stands_directory s p q n there is =
    (λ i. by (option_map_or (space s).directory (there i) false) (option_map_or (λ k. not ((space s).directory k)) (there i) false) (one_number (node_at_path (space s) q) n there i))
    ∙ (λ i. by (is i) (not (is i)) n) where
      by : Bool → Bool → ℕ → State
      by a b k = if a then with_node (renamed_state s p q) k Node.Gone else if b then swept alone (renamed_state s p q) k else renamed_state s p q

only_entries : (s : State) (p q : List (List ℕ)) → renamed_state s p q ≡ record s { entries = (renamed_state s p q).entries }
unfolding renamed_state unnamed_state
only_entries s p q = refl

-- ---- nothing stands at the new path

pub IsWorld-renamed : KeepsRenamed
unfolding node_at_path
IsWorld-renamed v claims jobs f numbers s count who p q from line child to world lets none found may is_new spelled =
    let r = row_of v p from line child found in
    let t : NameRow = row_to q to child in
    let sane = world.valid.stands.sane in
    let mirror = world_mirror v claims jobs f numbers s count world in
    let change = may-rename v p q from child to line r.at (world_volume v claims jobs f numbers s count world) may is_new r.is r.child_is in
    let nothing : node_at_path (volume_space v) q ≡ None = rw (is_new.directory.below, is_new.directory.leads) is_new.is_new in
    let nothing_there : node_at_path (space s) q ≡ None = sym (node_at_path-same (IsUsed v) numbers (volume_space v) (space s) mirror q) ∙ ap (option_map (number numbers)) nothing in
    let same : after_call s (who, Call.Rename p q) ≡ record s { entries = (renamed_state s p q).entries } =
    rename_none v claims jobs f numbers s count who p q world none ∙ (stands_none s p q nothing_there ∙ only_entries s p q)
    in
    let above = parent_number v numbers s q to mirror may.directory in
    let rows : Rows = slice_set v.names line (Some t) in
    subst (λ x. IsWorld (renamed line t v) claims jobs f numbers x count) (sym same)
    (IsWorld-rows v rows claims jobs f numbers s (record s { entries = (renamed_state s p q).entries }) count world
    (IsSane-rows v rows sane (renamed-keeps line r.at t (length (directory_path q)) v sane.kept (all_lines v sane) change) (length-set v.names line (Some t)) (spelled-set v.names line (Some t) sane.spelled (spelled_row t spelled)))
    (NamesStand-moved v (renamed line t v) numbers s (record s { entries = (renamed_state s p q).entries }) line r.at t sane world.valid.stands.names r.is above.0 refl
    (λ d name. names-moved v.names line r.at t d name (kept-keyed v sane.kept (all_lines v sane)) r.is change.is_new) (renamed_entries v claims jobs f numbers s count p q from line child to world found may) refl)
    (length-set v.names line (Some t)) (subst (λ x. GoOn s x numbers jobs) same (GoOn-call v claims jobs f numbers s (who, Call.Rename p q) world.valid lets tt)) (λ n. refl) refl)

-- ---- a file stands there, which loses its name

abbrev nothing_if : Bool → Option ℕ
nothing_if b = cond b None None

-- what the lines of the two paths say
record Over (v : Volume) (line : ℕ) (r t : NameRow) (target : ℕ) (u : NameRow) : Type 0 where
  apart : line ≢ target
  others : u.child ≢ t.child
  keeps : (d : ℕ) (name : List ℕ) → child_named (slice_set (slice_set v.names target None) line (Some t)) d name ≡ leads_to t (leads_nowhere r (child_named v.names)) d name

over : (v : Volume) (line : ℕ) (r t : NameRow) (high target : ℕ) (u : NameRow) → IsSane v → t.child ≡ r.child → MayRenameOver line r t high target u v → Over v line r t target u
over v line r t high target u sane same_child may =
    let apart : line ≢ target = λ same. may.apart (sym (ap (λ (x : NameRow). x.child) (same_Some r u (sym may.is ∙ (ap (row v.names) same ∙ may.target_is))))) in
    record {
      apart = apart;
      others = λ same. may.apart (same ∙ same_child);
      keeps = λ d name. names-moved_over v.names line r t target u d name (kept-keyed v sane.kept (all_lines v sane)) may.is may.target_is apart may.same_parent may.same_name;
    }

count_over : (v : Volume) (line : ℕ) (t : NameRow) (target : ℕ) → length (slice_set (slice_set v.names target None) line (Some t)) ≡ length v.names
count_over v line t target = length-set (slice_set v.names target None) line (Some t) ∙ length-set v.names target None

-- the names alone
pub IsWorld-renamed_over : (v : Volume) (claims : List (ℕ × Draft)) (jobs : List Job) (f : Words) (numbers : List ℕ) (s : State) (count : ℕ) (p q : List (List ℕ)) (from line child to target ino : ℕ) → IsWorld v claims jobs f numbers s count
    → IsFound v p from line child → MayGo (volume_space v) p q from child to → IsFound v q to target ino → CanReplace (volume_space v) child ino → (volume_space v).directory child ≡ false → is_name (last_name q) ≡ true
    → GoOn s (record s { entries = (renamed_state s p q).entries }) numbers jobs
    → IsWorld (renamed_over_file line (row_to q to child) target v) claims jobs f numbers (record s { entries = (renamed_state s p q).entries }) count
IsWorld-renamed_over v claims jobs f numbers s count p q from line child to target ino world found may there can plain spelled on =
    let r = row_of v p from line child found in
    let u = row_of v q to target ino there in
    let t : NameRow = row_to q to child in
    let sane = world.valid.stands.sane in
    let change =
    may-rename-over_file v p q from child to line r.at ino target (world_volume v claims jobs f numbers s count world) may can r.is r.child_is u plain
    in
    let tables = over v line r.at t (length (directory_path q)) target u.at sane (sym r.child_is) change.over in
    let above = parent_number v numbers s q to (world_mirror v claims jobs f numbers s count world) may.directory in
    IsWorld-rows v (slice_set (slice_set v.names target None) line (Some t)) claims jobs f numbers s (record s { entries = (renamed_state s p q).entries }) count world
    (IsSane-rows v (slice_set (slice_set v.names target None) line (Some t)) sane (renamed_over_file-keeps line r.at t (length (directory_path q)) target u.at v sane.kept (all_lines v sane) change) (count_over v line t target)
    (spelled-set (slice_set v.names target None) line (Some t) (spelled-set v.names target None sane.spelled (λ w is. cc)) (spelled_row t spelled)))
    (NamesStand-moved v (renamed_over_file line t target v) numbers s (record s { entries = (renamed_state s p q).entries }) line r.at t sane world.valid.stands.names r.is above.0 refl tables.keeps
    (renamed_entries v claims jobs f numbers s count p q from line child to world found may) refl) (count_over v line t target) on (λ n. refl) refl

file_of : (kind : Kind) → is_used kind ≡ true → is_directory kind ≡ false → kind ≡ File
file_of Free used plain = cc
file_of Directory used plain = cc
file_of File used plain = refl
file_of Staging used plain = cc

over_state : (v : Volume) (claims : List (ℕ × Draft)) (jobs : List Job) (f : Words) (numbers : List ℕ) (s : State) (count : ℕ) (who : Who) (p q : List (List ℕ)) (to target ino : ℕ) → IsWorld v claims jobs f numbers s count
    → first (rename_rows (volume_space v) p q) ≡ None → IsFound v q to target ino → IsUsed v ino → (volume_space v).directory ino ≡ false
    → after_call s (who, Call.Rename p q) ≡ swept alone (record s { entries = (renamed_state s p q).entries }) (number numbers ino)
over_state v claims jobs f numbers s count who p q to target ino world none there used plain =
    let mirror = world_mirror v claims jobs f numbers s count world in
    rename_none v claims jobs f numbers s count who p q world none
    ∙ (stands_file s p q (number numbers ino) (node_there v numbers s q to ino mirror there.at) (mirror.directory ino used ∙ plain) ∙ ap (λ x. swept alone x (number numbers ino)) (only_entries s p q))

target_used : (v : Volume) (q : List (List ℕ)) (to target ino : ℕ) → IsSane v → IsFound v q to target ino → IsUsed v ino
target_used v q to target ino sane there =
    let u = row_of v q to target ino there in
    subst (IsUsed v) u.child_is (row_used v target u.at sane u.is).1

-- `rename` over a file that is open
pub IsWorld-rename_open : KeepsRenameOpen
IsWorld-rename_open v claims jobs f numbers s count who p q from line child to target ino world lets none found may there can plain spelled open_there =
    let used = target_used v q to target ino world.valid.stands.sane there in
    let same =
    over_state v claims jobs f numbers s count who p q to target ino world none there used (can.same ∙ plain)
    ∙ swept-open (record s { entries = (renamed_state s p q).entries }) (number numbers ino) open_there
    in
    subst (λ x. IsWorld (renamed_over_file line (row_to q to child) target v) claims jobs f numbers x count) (sym same)
    (IsWorld-renamed_over v claims jobs f numbers s count p q from line child to target ino world found may there can plain spelled
    (subst (λ x. GoOn s x numbers jobs) same (GoOn-call v claims jobs f numbers s (who, Call.Rename p q) world.valid lets tt)))

-- where its name is gone and the file not yet
pub IsWorld-rename_midway : KeepsRenameMidway
IsWorld-rename_midway v claims jobs f numbers s count p q from line child to target ino world found may there can plain spelled =
    IsWorld-renamed_over v claims jobs f numbers s count p q from line child to target ino world found may there can plain spelled (GoOn-entries v claims jobs f numbers s (renamed_state s p q).entries world.valid)

-- `rename` over a file that nobody has open
pub IsWorld-rename_closed : KeepsRenameClosed
IsWorld-rename_closed v claims jobs f numbers s count who p q from line child to target ino world lets none found may there can plain spelled shut =
    let r = row_of v p from line child found in
    let u = row_of v q to target ino there in
    let sane = world.valid.stands.sane in
    let used = target_used v q to target ino sane there in
    let file : (inode v ino).kind ≡ File = file_of (inode v ino).kind used (can.same ∙ plain) in
    let middle : State = record s { entries = (renamed_state s p q).entries } in
    let w : Volume = renamed_over_file line (row_to q to child) target v in
    let half = IsWorld-rename_midway v claims jobs f numbers s count p q from line child to target ino world found may there can plain spelled in
    let nameless : IsNameless w.names ino =
    subst (IsNameless w.names) u.child_is (nameless-moved_over v line r.at (row_to q to child) target u.at (one_name v sane u.at.child) r.is u.is (sym r.child_is) (λ one. can.apart (sym u.child_is ∙ (one ∙ r.child_is))))
    in
    let same =
    over_state v claims jobs f numbers s count who p q to target ino world none there used (can.same ∙ plain)
    ∙ swept-gone middle (number numbers ino) (is_named-nameless w numbers middle ino half.valid.stands.sane half.valid.stands.names used nameless) shut
    in
    let on = subst (λ x. GoOn s x numbers jobs) same (GoOn-call v claims jobs f numbers s (who, Call.Rename p q) world.valid lets tt) in
    subst (λ x. IsWorld (dropped ino w) claims jobs f numbers x count) (sym same)
    (IsWorld-dropped w claims jobs f numbers middle (with_node middle (number numbers ino) Node.Gone) count ino half file nameless shut
    (record { flying_on = on.flying_on; files = on.files; fits = on.fits; room = on.room }) (λ n other. ap shown_node (get_or-set_other s.nodes (number numbers ino) n Node.Gone Node.Gone other))
    (get_or-set_same s.nodes (number numbers ino) Node.Gone Node.Gone (world.valid.stands.names.within ino used)) refl (length-set s.nodes (number numbers ino) Node.Gone) refl)

-- ---- an empty directory stands there, which goes

pub IsWorld-rename_directory : KeepsRenameDirectory
IsWorld-rename_directory v claims jobs f numbers s count who p q from line child to target ino world lets none found may there can directory spelled =
    let r = row_of v p from line child found in
    let u = row_of v q to target ino there in
    let t : NameRow = row_to q to child in
    let sane = world.valid.stands.sane in
    let mirror = world_mirror v claims jobs f numbers s count world in
    let used = target_used v q to target ino sane there in
    let is : is_directory (inode v ino).kind ≡ true = can.same ∙ directory in
    let change =
    may-rename-over_directory v p q from child to line r.at ino target (world_volume v claims jobs f numbers s count world) may can r.is r.child_is u directory
    in
    let tables = over v line r.at t (length (directory_path q)) target u.at sane (sym r.child_is) change.over in
    let above = parent_number v numbers s q to mirror may.directory in
    let middle : State = record s { entries = (renamed_state s p q).entries } in
    let new : State = with_node middle (number numbers ino) Node.Gone in
    let v1 : Volume = renamed_over_file line t target v in
    let w : Volume = renamed_over_directory line t target ino v in
    let same : after_call s (who, Call.Rename p q) ≡ new =
    rename_none v claims jobs f numbers s count who p q world none
    ∙ (stands_directory s p q (number numbers ino) (node_there v numbers s q to ino mirror there.at) (mirror.directory ino used ∙ is) ∙ ap (λ x. with_node x (number numbers ino) Node.Gone) (only_entries s p q))
    in
    let own : inode w ino ≡ gone_node (inode v ino) = get_or-set_same v.inodes ino (gone_node (inode v ino)) free_inode (used_below v ino used) in
    let root : ino ≢ 0 = λ zeroth. count-nameless v.names 0 sane.kept.directories.root target u.at u.is (u.child_is ∙ zeroth) in
    let empty = removing.directory-empty v ino change.empty in
    let outside : to ≢ ino = λ one. never_in v to ino (last_name q) one (empty (last_name q)) (sym (child_of-rows v.names to (last_name q)) ∙ there.at.is) in
    subst (λ x. IsWorld w claims jobs f numbers x count) (sym same)
    (IsWorld-gone v w claims jobs f numbers s new count ino world used own (λ i other. (renamed_over_directory-others line t target ino v).inodes i (other, tt)) (λ i other. refl)
    (record {
      kept = renamed_over_directory-keeps line r.at t (length (directory_path q)) target ino u.at v sane.kept (all_lines v sane) change;
      inode_count = length-set v.inodes ino (gone_node (inode v ino)) ∙ sane.inode_count;
      name_count = count_over v line t target ∙ sane.name_count;
      chain_count = sane.chain_count;
      map_count = sane.map_count;
      spelled = spelled-set (slice_set v.names target None) line (Some t) (spelled-set v.names target None sane.spelled (λ x none_is. cc)) (spelled_row t spelled);
    })
    (NamesStand-gone v1 w numbers middle new ino
    (NamesStand-moved v v1 numbers s middle line r.at t sane world.valid.stands.names r.is above.0 refl tables.keeps (renamed_entries v claims jobs f numbers s count p q from line child to world found may) refl)
    refl (λ i other. (renamed_over_directory-others line t target ino v).inodes i (other, tt)) (ap (λ x. x.kind) own) root
    (λ name. tables.keeps ino name ∙ still_none v r.at t ino name outside (empty name)) used refl (length-set s.nodes (number numbers ino) Node.Gone))
    (beside-no_file v (live_claims v claims) f numbers s ino jobs world.valid.out (removing.directory_no_file (inode v ino).kind is))
    (subst (λ x. GoOn s x numbers jobs) same (GoOn-call v claims jobs f numbers s (who, Call.Rename p q) world.valid lets tt))
    (λ n other. ap shown_node (get_or-set_other s.nodes (number numbers ino) n Node.Gone Node.Gone other))
    (get_or-set_same s.nodes (number numbers ino) Node.Gone Node.Gone (world.valid.stands.names.within ino used)) (count_over v line t target) refl refl)
  where
    never_in : (v : Volume) (to ino : ℕ) (name : List ℕ) → to ≡ ino → child_named v.names ino name ≡ None → child_named v.names to name ≡ Some ino → ⊥
    never_in v to ino name same nothing led = let never : None ≡ Some ino = sym nothing ∙ (ap (λ d. child_named v.names d name) (sym same) ∙ led) in cc

    still_none : (v : Volume) (r t : NameRow) (ino : ℕ) (name : List ℕ) → t.parent ≢ ino → child_named v.names ino name ≡ None → leads_to t (leads_nowhere r (child_named v.names)) ino name ≡ None
    still_none v r t ino name apart nothing =
        ap (λ b. cond (b && is_same t.name name) (Some t.child) (leads_nowhere r (child_named v.names) ino name)) (ne_eqb t.parent ino apart)
        ∙ (ap (cond (is_entry ino name (Some r)) None) nothing ∙ by (is_entry ino name (Some r)))
      where
        by : (b : Bool) → nothing_if b ≡ None
        by true = refl
        by false = refl
