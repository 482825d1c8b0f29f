-- What a rename makes of the volume and the state: a step of the World, and a second one where a file lost its name.
use Rattle.std.specs.Prelude.{◌≡◌, ◌⊎◌, ℕ, Bool, false, true, List, [], Option, Some, None, Result, Ok, if◌then◌else◌, refl}
use Rattle.std.proofs.Common.{ap, ◌∙◌, sym, subst, inl, inr}
use Rattle.world_write_laws.specs.world_step_laws.layout_model.Lines.{is_name}
use Rattle.world_write_laws.specs.world_step_laws.image_model.Reading.{node_set}
use Rattle.world_write_laws.specs.world_step_laws.image_model.Volume.{inode, Volume}
use Rattle.world_write_laws.specs.world_step_laws.name_laws.Paths.{CanReplace, IsAt, IsNewAt, MayGo}
use Rattle.world_write_laws.specs.world_step_laws.name_laws.RenameLaws.{rename-may}
use Rattle.world_write_laws.specs.world_step_laws.volume_change_laws.CallLaws.{row_to}
use Rattle.world_write_laws.specs.world_step_laws.k_split_model.ChangesChanges.{gone_node, removed, renamed_over_directory, renamed_over_file, unnamed}
use Rattle.world_write_laws.specs.world_step_laws.k_split_model.Spaces.{is_directory_in, volume_space}
use Rattle.k_split.specs.k_tables.Found.{IsMoving, IsTargetAt}
use Rattle.k_split.specs.k_tables.declared.tables.removing.Entry.{Entry}
use Rattle.k_split.specs.k_tables.declared.tables.renaming.Moving.{Moving}
use Rattle.k_split.specs.k_plans.Renaming.{file_over, renamed_over}
use Rattle.world_write_laws.specs.world_step_laws.posix_types.declared.call.Call.{Call}
use Rattle.world_write_laws.specs.world_step_laws.posix_types.declared.reply.Errno.{Errno}
use Rattle.world_write_laws.specs.world_step_laws.posix_tables.NameRows.{rename_rows}
use Rattle.world_write_laws.specs.world_step_laws.posix_tables.Names.{child_of, last_name, Space, walk}
use Rattle.world_write_laws.specs.world_step_laws.posix_tables.Outcomes.{first}
use Rattle.world_write_laws.specs.world_step_laws.posix_spec.Run.{after_call}
use Rattle.world_write_laws.specs.world_step_laws.posix_spec.Step.{renamed as renamed_state}
use Rattle.world_write_laws.specs.world_step_laws.world_model.TreeRules.{used_below}
use Rattle.world_write_laws.specs.world_step_laws.RenameCalls.{IsWorld-rename_directory, IsWorld-rename_midway, IsWorld-renamed}
use Rattle.world_write_laws.specs.world_step_laws.Worlds.{IsFound, IsWorld}
use Rattle.world_image_laws.specs.ImagesRooms.{room_renamed, room_renamed_over_directory, room_renamed_over_file}
use Rattle.world_image_laws.specs.Settings.{keeps_setting}
use Rattle.k_split_laws.specs.Going.{gone_by, IsStep, moved_so_far}
use Rattle.k_split_laws.specs.SeenLaws.{StepsRenameSeen}
use Rattle.k_split_laws.specs.Spelled.{last_fits}
use Rattle.k_split_laws.specs.Lives.{leaves_gone, leaves_row, leaves_same}
use Rattle.k_split_laws.specs.Steps.{found_at, found_used, used_plain}

-- ---- what was found

same_Ok : (a b : ℕ) (o : Result ℕ Errno) → o ≡ Ok a → o ≡ Ok b → a ≡ b
same_Ok a b o first second = cc

same_child : (a b : ℕ) (o : Option ℕ) → o ≡ Some a → o ≡ Some b → a ≡ b
same_child a b o first second = cc

pub may_go : (v : Volume) (p q : List (List ℕ)) (moving : Moving) → first (rename_rows (volume_space v) p q) ≡ None → IsMoving v.inodes v.names p q moving
    → MayGo (volume_space v) p q moving.entry.parent moving.entry.child moving.parent
may_go v p q moving none is =
    let s = volume_space v in
    let found : (from : ℕ) × (child : ℕ) × (to : ℕ) × MayGo s p q from child to = rename-may s p q none in
    let from : found.0 ≡ moving.entry.parent = same_Ok found.0 moving.entry.parent (walk s p) found.3.old.directory.leads is.is_entry.is_at.directory.leads in
    let child : found.1 ≡ moving.entry.child =
    same_child found.1 moving.entry.child (child_of s.entries moving.entry.parent (last_name p)) (ap (λ n. child_of s.entries n (last_name p)) (sym from) ∙ found.3.old.is) is.is_entry.is_at.is
    in
    let to : found.2 ≡ moving.parent = same_Ok found.2 moving.parent (walk s q) found.3.directory.leads is.directory.leads in
    subst (λ n. MayGo s p q n moving.entry.child moving.parent) from
    (subst (λ n. MayGo s p q found.0 n moving.parent) child (subst (λ n. MayGo s p q found.0 found.1 n) to found.3))

pub can_replace : (s : Space) (p q : List (List ℕ)) (from child to target : ℕ) → MayGo s p q from child to → IsAt s q to target → CanReplace s child target
can_replace s p q from child to target may at = by may.lands where
  by : IsNewAt s q to ⊎ ((other : ℕ) × IsAt s q to other × CanReplace s child other) → CanReplace s child target
  by (inl new) = let never : None ≡ Some target = sym new.is_new ∙ at.is in cc
  by (inr other) = subst (CanReplace s child) (same_child other.0 target (child_of s.entries to (last_name q)) other.1.is at.is) other.2

-- what stood at the new path
pub target_at : (v : Volume) (q : List (List ℕ)) (parent : ℕ) (t : Entry) → IsTargetAt v.inodes v.names q parent (Some t) → IsFound v q parent t.line t.child
target_at v q parent t is = subst (λ n. IsFound v q n t.line t.child) is.0 (found_at v q t is.1)

-- ---- the step

pub steps_rename_seen : StepsRenameSeen
steps_rename_seen v claims jobs numbers s count who p q w lost seen lets none spelled is = by is.moving.target refl is.lost_is is.is_renamed where
  moving : Moving
  moving = is.moving

  may : MayGo (volume_space v) p q moving.entry.parent moving.entry.child moving.parent
  may = may_go v p q moving none is.is_moving

  found : IsFound v p moving.entry.parent moving.entry.line moving.entry.child
  found = found_at v p moving.entry is.is_moving.is_entry

  spells : is_name (last_name q) ≡ true
  spells = last_fits q spelled is.is_moving.directory.below is.is_moving.directory.short

  world : IsWorld v claims jobs seen.words numbers s count
  world = seen.world

  over : (t : Entry) → moving.target ≡ Some t → (b : Bool) → is_directory_in v.inodes t.child ≡ b → lost ≡ (if b then None else Some t.child)
      → w ≡ (if b then renamed_over_directory moving.entry.line (row_to q moving.parent moving.entry.child) t.line t.child v else renamed_over_file moving.entry.line (row_to q moving.parent moving.entry.child) t.line v)
      → IsStep (if b then Some t.child else None) v w claims jobs numbers numbers s (moved_so_far lost s who p q) count count
  over t there true directory lost_is w_is =
      let at = target_at v q moving.parent t (subst (IsTargetAt v.inodes v.names q moving.parent) there is.is_moving.is_target) in
      let can = can_replace (volume_space v) p q moving.entry.parent moving.entry.child moving.parent t.child may at.at in
      let used = found_used v claims jobs seen.words numbers s count q moving.parent t.line t.child world at in
      subst (λ o. IsStep (Some t.child) v w claims jobs numbers numbers s (moved_so_far o s who p q) count count) (sym lost_is)
      (subst (λ x. IsStep (Some t.child) v x claims jobs numbers numbers s (after_call s (who, Call.Rename p q)) count count) (sym w_is)
      (record {
        geometry = refl;
        base = refl;
        staging = λ i is_staging. refl;
        leaves = leaves_row (Some t.child) v (removed t.line t.child v) claims moving.entry.line (Some (row_to q moving.parent moving.entry.child))
            (leaves_row (Some t.child) v (node_set t.child (gone_node (inode v t.child)) v) claims t.line None (leaves_gone v claims count t.child (used_below v t.child used) world.aged (used_plain v t.child used)));
        room = room_renamed_over_directory moving.entry.line (row_to q moving.parent moving.entry.child) t.line t.child v claims jobs s (after_call s (who, Call.Rename p q)) seen.room
            (used_below v t.child used) (keeps_setting s (who, Call.Rename p q)).shape;
        takes = λ f valid.
            IsWorld-rename_directory v claims jobs f numbers s count who p q moving.entry.parent moving.entry.line moving.entry.child moving.parent t.line t.child valid lets none found may at can (sym can.same ∙ directory) spells;
      }))
  over t there false directory lost_is w_is =
      let at = target_at v q moving.parent t (subst (IsTargetAt v.inodes v.names q moving.parent) there is.is_moving.is_target) in
      let can = can_replace (volume_space v) p q moving.entry.parent moving.entry.child moving.parent t.child may at.at in
      subst (λ o. IsStep None v w claims jobs numbers numbers s (moved_so_far o s who p q) count count) (sym lost_is)
      (subst (λ x. IsStep None v x claims jobs numbers numbers s (record s { entries = (renamed_state s p q).entries }) count count) (sym w_is)
      (record {
        geometry = refl;
        base = refl;
        staging = λ i is_staging. refl;
        leaves = leaves_row None v (unnamed t.line v) claims moving.entry.line (Some (row_to q moving.parent moving.entry.child)) (leaves_row None v v claims t.line None (leaves_same v claims));
        room = room_renamed_over_file moving.entry.line (row_to q moving.parent moving.entry.child) t.line v claims jobs s (record s { entries = (renamed_state s p q).entries }) seen.room refl;
        takes = λ f valid.
            IsWorld-rename_midway v claims jobs f numbers s count p q moving.entry.parent moving.entry.line moving.entry.child moving.parent t.line t.child valid found may at can (sym can.same ∙ directory) spells;
      }))

  by : (o : Option Entry) → moving.target ≡ o → lost ≡ file_over v.inodes o → w ≡ renamed_over moving.entry.line (row_to q moving.parent moving.entry.child) o v
      → IsStep (gone_by v o) v w claims jobs numbers numbers s (moved_so_far lost s who p q) count count
  by None there lost_is w_is =
      let new : IsNewAt (volume_space v) q moving.parent =
      record { directory = is.is_moving.directory; is_new = subst (IsTargetAt v.inodes v.names q moving.parent) there is.is_moving.is_target }
      in
      subst (λ o. IsStep None v w claims jobs numbers numbers s (moved_so_far o s who p q) count count) (sym lost_is)
      (subst (λ x. IsStep None v x claims jobs numbers numbers s (after_call s (who, Call.Rename p q)) count count) (sym w_is)
      (record {
        geometry = refl;
        base = refl;
        staging = λ i is_staging. refl;
        leaves = leaves_row None v v claims moving.entry.line (Some (row_to q moving.parent moving.entry.child)) (leaves_same v claims);
        room = room_renamed moving.entry.line (row_to q moving.parent moving.entry.child) v claims jobs s (after_call s (who, Call.Rename p q)) seen.room (keeps_setting s (who, Call.Rename p q)).shape;
        takes = λ f valid.
            IsWorld-renamed v claims jobs f numbers s count who p q moving.entry.parent moving.entry.line moving.entry.child moving.parent valid lets none found may new spells;
      }))
  by (Some t) there lost_is w_is = over t there (is_directory_in v.inodes t.child) refl lost_is w_is
