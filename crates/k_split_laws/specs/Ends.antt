-- How calls on names end: the state of a rename's end, the trees between two changes, and the replies.
use Rattle.std.specs.Prelude.{◌≡◌, ◌≢◌, ℕ, Bool, false, true, not, List, [], slice_set, Option, Some, None, if◌then◌else◌, refl}
use Rattle.std.specs.Option.{option_map_or}
use Rattle.std.proofs.Common.{ap, ◌∙◌, sym, subst}
use Rattle.std.proofs.lemmas.Option.{same_Some}
use Rattle.world_write_laws.specs.world_step_laws.pm_model.Words.{Words}
use Rattle.world_write_laws.specs.world_step_laws.layout_model.declared.lines.Draft.{Draft}
use Rattle.world_write_laws.specs.world_step_laws.image_model.Live.{is_directory}
use Rattle.world_write_laws.specs.world_step_laws.image_model.Volume.{inode, Volume}
use Rattle.world_write_laws.specs.world_step_laws.name_laws.Paths.{CanReplace}
use Rattle.world_write_laws.specs.world_step_laws.volume_change_laws.CallLaws.{IsRowFound, root-directory, row_to}
use Rattle.world_write_laws.specs.world_step_laws.volume_change_laws.Changes.{MayDrop}
use Rattle.world_write_laws.specs.world_step_laws.k_split_model.ChangesChanges.{renamed_over_directory, renamed_over_file}
use Rattle.world_write_laws.specs.world_step_laws.k_split_model.Spaces.{is_directory_in, volume_space}
use Rattle.k_split.specs.k_tables.Found.{IsTargetAt}
use Rattle.k_split.specs.k_tables.declared.tables.removing.Entry.{Entry}
use Rattle.k_split.specs.k_tables.declared.tables.renaming.Moving.{Moving}
use Rattle.k_split.specs.k_plans.Renaming.{file_over, IsRenamed, renamed_over}
use Rattle.world_write_laws.specs.world_step_laws.posix_types.declared.call.Call.{Call}
use Rattle.world_write_laws.specs.world_step_laws.posix_types.declared.item.Outcome.{Outcome}
use Rattle.world_write_laws.specs.world_step_laws.posix_types.declared.reply.Reply.{Reply}
use Rattle.world_write_laws.specs.world_step_laws.posix_tables.declared.nodes.Node.{Node}
use Rattle.world_write_laws.specs.world_step_laws.posix_tables.NameRows.{mkdir_rows, rename_rows, rmdir_rows, unlink_rows}
use Rattle.world_write_laws.specs.world_step_laws.posix_tables.Names.{last_name, node_at_path}
use Rattle.world_write_laws.specs.world_step_laws.posix_tables.Outcomes.{answer, first}
use Rattle.world_write_laws.specs.world_step_laws.posix_spec.Run.{after_call}
use Rattle.world_write_laws.specs.world_step_laws.posix_spec.State.{alone, space, State, swept, unnamed as unnamed_state, with_node}
use Rattle.world_write_laws.specs.world_step_laws.posix_spec.Step.{mkdir_done, rename_done, renamed as renamed_state, rmdir_done, Stepped, stepped, unlink_done}
use Rattle.world_write_laws.specs.world_step_laws.posix_spec.Tree.{tree}
use Rattle.world_write_laws.specs.world_step_laws.world_model.Jobs.{Job}
use Rattle.world_write_laws.specs.world_step_laws.world_model.Stands.{IsUsed, number}
use Rattle.world_write_laws.specs.world_step_laws.world_model.TreeRules.{one_name, used_below}
use Rattle.world_write_laws.specs.world_step_laws.Mirrors.{Mirrors}
use Rattle.world_write_laws.specs.world_step_laws.Rows.{HaveSameRows, HaveSameRows-Mirrors}
use Rattle.world_write_laws.specs.world_step_laws.Nameless.{IsNameless, nameless-count, nameless-moved_over}
use Rattle.world_write_laws.specs.world_step_laws.RemoveCalls.{one_number, row_of}
use Rattle.world_write_laws.specs.world_step_laws.Worlds.{IsFound, IsWorld, node_there, world_mirror, world_volume}
use Rattle.world_image_laws.specs.Unseen.{tree-swept}
use Rattle.k_split_laws.specs.Going.{moved_so_far}
use Rattle.k_split_laws.specs.SeenLaws.{DoneByRowSeen, RefusedByRowSeen, RenamesOverFileSeen, TreeOfRenameSeen, TreeOfUnlinkSeen}
use Rattle.k_split_laws.specs.Seen.{SeenFor}
use Rattle.k_split_laws.specs.Moves.{can_replace, may_go, target_at}
use Rattle.k_split_laws.specs.Steps.{found_at, found_used, plain_file, state_unlink_seen}

-- a node that is no directory is not the root
pub not_root_number : (v : Volume) (claims : List (ℕ × Draft)) (jobs : List Job) (f : Words) (numbers : List ℕ) (s : State) (count c : ℕ) → IsWorld v claims jobs f numbers s count → IsUsed v c → is_directory (inode v c).kind ≡ false → number numbers c ≢ 0
not_root_number v claims jobs f numbers s count c world used plain same =
    let names = world.valid.stands.names in
    let root : c ≡ 0 = names.one c 0 used names.root_used (same ∙ sym names.root) in
    let never : true ≡ false = sym (root-directory v (world_volume v claims jobs f numbers s count world)) ∙ (ap (λ n. is_directory (inode v n).kind) (sym root) ∙ plain) in
    cc

-- ---- unlink

pub tree_of_unlink_seen : TreeOfUnlinkSeen
tree_of_unlink_seen v claims jobs numbers s count who p w ino seen none is =
    sym (ap tree (state_unlink_seen v claims jobs numbers s count who p w ino seen none is) ∙ tree-swept (unnamed_state s p) (number numbers ino) other) where
      world : IsWorld v claims jobs seen.words numbers s count
      world = seen.world

      used : IsUsed v is.entry.child
      used = found_used v claims jobs seen.words numbers s count p is.entry.parent is.entry.line is.entry.child world (found_at v p is.entry is.is_file.is_entry)

      other : number numbers ino ≢ 0
      other same = not_root_number v claims jobs seen.words numbers s count is.entry.child world used is.is_file.is_file (ap (number numbers) (sym is.ino_is) ∙ same)

-- ---- rename

-- the state of the end, where a file stood at the new path
stands_file : (s : State) (p q : List (List ℕ)) (n : ℕ) → node_at_path (space s) q ≡ Some n → (space s).directory n ≡ false → (rename_done alone s p q).state ≡ swept alone (renamed_state s p q) n
unfolding rename_done
stands_file s p q n there plain =
    (λ i. by (option_map_or (space s).directory (there i) false) (option_map_or (λ k. not ((space s).directory k)) (there i) false) (one_number (node_at_path (space s) q) n there i))
    ∙ (λ i. by (plain i) (not (plain i)) n) where
      by : Bool → Bool → ℕ → State
      by a b k = if a then with_node (renamed_state s p q) k Node.Gone else if b then swept alone (renamed_state s p q) k else renamed_state s p q

only_entries : (s : State) (p q : List (List ℕ)) → renamed_state s p q ≡ record s { entries = (renamed_state s p q).entries }
unfolding renamed_state unnamed_state
only_entries s p q = refl

-- what stood there
record IsOver (v : Volume) (p q : List (List ℕ)) (w : Volume) (ino : ℕ) (moving : Moving) : Type 0 where
  target : Entry
  there : moving.target ≡ Some target
  plain : is_directory_in v.inodes target.child ≡ false
  ino_is : ino ≡ target.child
  w_is : w ≡ renamed_over_file moving.entry.line (row_to q moving.parent moving.entry.child) target.line v

is_over : (v : Volume) (p q : List (List ℕ)) (w : Volume) (ino : ℕ) (is : IsRenamed p q v w (Some ino)) → IsOver v p q w ino is.moving
is_over v p q w ino is = by is.moving.target refl is.lost_is is.is_renamed where
  some : (t : Entry) → is.moving.target ≡ Some t → (b : Bool) → is_directory_in v.inodes t.child ≡ b → Some ino ≡ (if b then None else Some t.child)
      → w ≡ (if b then renamed_over_directory is.moving.entry.line (row_to q is.moving.parent is.moving.entry.child) t.line t.child v else renamed_over_file is.moving.entry.line (row_to q is.moving.parent is.moving.entry.child) t.line v)
      → IsOver v p q w ino is.moving
  some t there true directory lost w_is = cc
  some t there false directory lost w_is = record { target = t; there = there; plain = directory; ino_is = same_Some ino t.child lost; w_is = w_is }

  by : (o : Option Entry) → is.moving.target ≡ o → Some ino ≡ file_over v.inodes o → w ≡ renamed_over is.moving.entry.line (row_to q is.moving.parent is.moving.entry.child) o v → IsOver v p q w ino is.moving
  by None there lost w_is = cc
  by (Some t) there lost w_is = some t there (is_directory_in v.inodes t.child) refl lost w_is

pub renames_over_file_seen : RenamesOverFileSeen
renames_over_file_seen v claims jobs numbers s count who p q w ino seen none is = (
  subst (λ n. MayDrop n w) (sym o.ino_is) (subst (MayDrop o.target.child) (sym o.w_is) may),
  subst (λ n. after_call s (who, Call.Rename p q) ≡ swept alone (moved_so_far (Some n) s who p q) (number numbers n)) (sym o.ino_is) ends,
) where
  moving : Moving
  moving = is.moving

  o : IsOver v p q w ino is.moving
  o = is_over v p q w ino is

  world : IsWorld v claims jobs seen.words numbers s count
  world = seen.world

  found : IsFound v p moving.entry.parent moving.entry.line moving.entry.child
  found = found_at v p moving.entry is.is_moving.is_entry

  at : IsFound v q moving.parent o.target.line o.target.child
  at = target_at v q moving.parent o.target (subst (IsTargetAt v.inodes v.names q moving.parent) o.there is.is_moving.is_target)

  can : CanReplace (volume_space v) moving.entry.child o.target.child
  can = can_replace (volume_space v) p q moving.entry.parent moving.entry.child moving.parent o.target.child (may_go v p q moving none is.is_moving) at.at

  used : IsUsed v o.target.child
  used = found_used v claims jobs seen.words numbers s count q moving.parent o.target.line o.target.child world at

  r : IsRowFound v.names moving.entry.parent (last_name p) moving.entry.line moving.entry.child
  r = row_of v p moving.entry.parent moving.entry.line moving.entry.child found

  u : IsRowFound v.names moving.parent (last_name q) o.target.line o.target.child
  u = row_of v q moving.parent o.target.line o.target.child at

  nameless : IsNameless (slice_set (slice_set v.names o.target.line None) moving.entry.line (Some (row_to q moving.parent moving.entry.child))) o.target.child
  nameless =
      subst (IsNameless (slice_set (slice_set v.names o.target.line None) moving.entry.line (Some (row_to q moving.parent moving.entry.child)))) u.child_is
      (nameless-moved_over v moving.entry.line r.at (row_to q moving.parent moving.entry.child) o.target.line u.at (one_name v world.valid.stands.sane u.at.child) r.is u.is (sym r.child_is) (λ one. can.apart (sym u.child_is ∙ (one ∙ r.child_is))))

  may : MayDrop o.target.child (renamed_over_file moving.entry.line (row_to q moving.parent moving.entry.child) o.target.line v)
  may = record {
    below = used_below v o.target.child used;
    file = plain_file (inode v o.target.child).kind used o.plain;
    unnamed = nameless-count (slice_set (slice_set v.names o.target.line None) moving.entry.line (Some (row_to q moving.parent moving.entry.child))) o.target.child nameless;
  }

  mirror : Mirrors (IsUsed v) numbers (volume_space v) (space s)
  mirror = world_mirror v claims jobs seen.words numbers s count world

  none_there : first (rename_rows (space s) p q) ≡ None
  none_there = ap first (sym ((HaveSameRows-Mirrors (IsUsed v) numbers (volume_space v) (space s) mirror).rename p q)) ∙ none

  ends : after_call s (who, Call.Rename p q) ≡ swept alone (moved_so_far (Some o.target.child) s who p q) (number numbers o.target.child)
  ends =
      ap (λ x. (stepped s x (rename_done alone s p q)).state) none_there
      ∙ (stands_file s p q (number numbers o.target.child) (node_there v numbers s q moving.parent o.target.child mirror at.at) (mirror.directory o.target.child used ∙ o.plain)
      ∙ ap (λ x. swept alone x (number numbers o.target.child)) (only_entries s p q))

pub tree_of_rename_seen : TreeOfRenameSeen
tree_of_rename_seen v claims jobs numbers s count who p q w None seen none is = refl
tree_of_rename_seen v claims jobs numbers s count who p q w (Some ino) seen none is =
    sym (ap tree (renames_over_file_seen v claims jobs numbers s count who p q w ino seen none is).1 ∙ tree-swept (moved_so_far (Some ino) s who p q) (number numbers ino) other) where
      o : IsOver v p q w ino is.moving
      o = is_over v p q w ino is

      world : IsWorld v claims jobs seen.words numbers s count
      world = seen.world

      at : IsFound v q is.moving.parent o.target.line o.target.child
      at = target_at v q is.moving.parent o.target (subst (IsTargetAt v.inodes v.names q is.moving.parent) o.there is.is_moving.is_target)

      used : IsUsed v o.target.child
      used = found_used v claims jobs seen.words numbers s count q is.moving.parent o.target.line o.target.child world at

      other : number numbers ino ≢ 0
      other same = not_root_number v claims jobs seen.words numbers s count o.target.child world used o.plain (ap (number numbers) (sym o.ino_is) ∙ same)

-- ---- replies

same_rows : (v : Volume) (claims : List (ℕ × Draft)) (jobs : List Job) (numbers : List ℕ) (s : State) (count : ℕ) → SeenFor v claims jobs numbers s count → HaveSameRows (volume_space v) (space s)
same_rows v claims jobs numbers s count seen =
    HaveSameRows-Mirrors (IsUsed v) numbers (volume_space v) (space s) (world_mirror v claims jobs seen.words numbers s count seen.world)

refused : (s : State) (o : Option Outcome) (outcome : Outcome) (last : Stepped) → o ≡ Some outcome → stepped s o last ≡ record { state = s; outcome = outcome }
refused s o outcome last is = ap (λ x. stepped s x last) is

pub refused_by_row_seen : RefusedByRowSeen
refused_by_row_seen v claims jobs numbers s count who (Call.Mkdir p) outcome seen named is =
    refused s (first (mkdir_rows (space s) p)) outcome (mkdir_done s p) (ap first (sym ((same_rows v claims jobs numbers s count seen).mkdir p)) ∙ is)
refused_by_row_seen v claims jobs numbers s count who (Call.Rmdir p) outcome seen named is =
    refused s (first (rmdir_rows (space s) p)) outcome (rmdir_done s p) (ap first (sym ((same_rows v claims jobs numbers s count seen).rmdir p)) ∙ is)
refused_by_row_seen v claims jobs numbers s count who (Call.Unlink p) outcome seen named is =
    refused s (first (unlink_rows (space s) p)) outcome (unlink_done alone s p) (ap first (sym ((same_rows v claims jobs numbers s count seen).unlink p)) ∙ is)
refused_by_row_seen v claims jobs numbers s count who (Call.Rename p q) outcome seen named is =
    refused s (first (rename_rows (space s) p q)) outcome (rename_done alone s p q) (ap first (sym ((same_rows v claims jobs numbers s count seen).rename p q)) ∙ is)
refused_by_row_seen v claims jobs numbers s count who call outcome seen named is = absurd named

acted : (s : State) (o : Option Outcome) (last : Stepped) → o ≡ None → last.outcome ≡ answer Reply.Ok → (stepped s o last).outcome ≡ answer Reply.Ok
acted s o last is ok = ap (λ x. (stepped s x last).outcome) is ∙ ok

pub done_by_row_seen : DoneByRowSeen
unfolding mkdir_done rmdir_done unlink_done rename_done
done_by_row_seen v claims jobs numbers s count who (Call.Mkdir p) seen named is =
    acted s (first (mkdir_rows (space s) p)) (mkdir_done s p) (ap first (sym ((same_rows v claims jobs numbers s count seen).mkdir p)) ∙ is) refl
done_by_row_seen v claims jobs numbers s count who (Call.Rmdir p) seen named is =
    acted s (first (rmdir_rows (space s) p)) (rmdir_done s p) (ap first (sym ((same_rows v claims jobs numbers s count seen).rmdir p)) ∙ is) refl
done_by_row_seen v claims jobs numbers s count who (Call.Unlink p) seen named is =
    acted s (first (unlink_rows (space s) p)) (unlink_done alone s p) (ap first (sym ((same_rows v claims jobs numbers s count seen).unlink p)) ∙ is) refl
done_by_row_seen v claims jobs numbers s count who (Call.Rename p q) seen named is =
    acted s (first (rename_rows (space s) p q)) (rename_done alone s p q) (ap first (sym ((same_rows v claims jobs numbers s count seen).rename p q)) ∙ is) refl
done_by_row_seen v claims jobs numbers s count who call seen named is = absurd named
