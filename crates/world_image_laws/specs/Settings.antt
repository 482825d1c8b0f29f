-- No call changes the shape or the mode of a state.
use Rattle.std.specs.Prelude.{◌≡◌, ◌||◌, ℕ, Bool, true, false, cond, List, [], ◌∷◌, refl}
use Rattle.std.proofs.Common.{◌∙◌}
use Rattle.world_step_laws.specs.world_model.posix_types.declared.call.Call.{Call}
use Rattle.world_step_laws.specs.world_model.posix_types.declared.call.Who.{Who}
use Rattle.world_step_laws.specs.world_model.posix_types.declared.handle.Flags.{Flags}
use Rattle.world_step_laws.specs.world_model.posix_types.declared.handle.Handle.{Handle}
use Rattle.world_step_laws.specs.world_model.posix_types.declared.item.Item.{Item}
use Rattle.world_step_laws.specs.world_model.posix_tables.declared.nodes.Node.{Node}
use Rattle.world_step_laws.specs.world_model.posix_tables.NameRows.{list_rows, mkdir_rows, open_rows, rename_rows, rmdir_rows, stat_rows, unlink_rows}
use Rattle.world_step_laws.specs.world_model.posix_tables.Names.{directory_stands, exists_at, file_stands, is_named, number_at}
use Rattle.world_step_laws.specs.world_model.posix_tables.Open.{closed, is_full, is_open}
use Rattle.world_step_laws.specs.world_model.posix_tables.Outcomes.{first}
use Rattle.world_step_laws.specs.world_model.posix_spec.FileRows.{close_rows, dup_rows, file_number, fsync_rows, read_rows, seek_rows, truncate_rows, write_rows, write_start}
use Rattle.world_step_laws.specs.world_model.posix_spec.Run.{after_call, Unfinished, run}
use Rattle.world_step_laws.specs.world_model.posix_spec.State.{alone, made, space, State, swept, unnamed, with_file, with_node, with_published}
use Rattle.world_step_laws.specs.world_model.posix_spec.Step.{close_done, dup_done, empty_file, fsync_done, is_busy, list_done, mkdir_done, open_done, opening, pread_done, pwrite_done, read_done, rename_done, renamed, rmdir_done, seek_done, stat_done, step, truncate_done, unlink_done, write_done, written}
use Rattle.world_step_laws.specs.world_model.posix_laws.RowLaws.{stepped-keeps}

pub record KeepsSetting (s new : State) : Type 0 where
  pub shape : new.shape ≡ s.shape
  pub mode : new.mode ≡ s.mode

same : (s : State) → KeepsSetting s s
same s = record { shape = refl; mode = refl }

either : (s a b : State) (test : Bool) → KeepsSetting s a → KeepsSetting s b → KeepsSetting s (cond test a b)
either s a b true first second = first
either s a b false first second = second

pub keeps_swept : (s m : State) (n : ℕ) → KeepsSetting s m → KeepsSetting s (swept alone m n)
unfolding swept
keeps_swept s m n keeps = either s m (with_node m n Node.Gone) (is_named m.entries n || is_open m.tables n) keeps (record { shape = keeps.shape; mode = keeps.mode })

keeps_mkdir : (s : State) (p : List (List ℕ)) → KeepsSetting s (mkdir_done s p).state
unfolding mkdir_done made
keeps_mkdir s p = record { shape = refl; mode = refl }

keeps_rmdir : (s : State) (p : List (List ℕ)) → KeepsSetting s (rmdir_done s p).state
unfolding rmdir_done unnamed
keeps_rmdir s p = record { shape = refl; mode = refl }

keeps_unlink : (s : State) (p : List (List ℕ)) → KeepsSetting s (unlink_done alone s p).state
unfolding unlink_done unnamed
keeps_unlink s p = keeps_swept s (unnamed s p) (number_at (space s) p) (record { shape = refl; mode = refl })

keeps_renamed : (s : State) (p q : List (List ℕ)) → KeepsSetting s (renamed s p q)
unfolding renamed unnamed
keeps_renamed s p q = record { shape = refl; mode = refl }

keeps_rename : (s : State) (p q : List (List ℕ)) → KeepsSetting s (rename_done alone s p q).state
unfolding rename_done
keeps_rename s p q =
    let keeps = keeps_renamed s p q in
    let swept_there = swept alone (renamed s p q) (number_at (space s) q) in
    either s (with_node (renamed s p q) (number_at (space s) q) Node.Gone) (cond (file_stands (space s) q) swept_there (renamed s p q)) (directory_stands (space s) q) (record { shape = keeps.shape; mode = keeps.mode })
    (either s swept_there (renamed s p q) (file_stands (space s) q) (keeps_swept s (renamed s p q) (number_at (space s) q) keeps) keeps)

keeps_opening : (s : State) (p : List (List ℕ)) (truncate : Bool) → KeepsSetting s (opening s p truncate)
unfolding opening made
keeps_opening s p truncate =
    either s (cond truncate (with_node s (number_at (space s) p) empty_file) s) (made s p empty_file) (exists_at (space s) p)
    (either s (with_node s (number_at (space s) p) empty_file) s truncate (record { shape = refl; mode = refl }) (same s)) (record { shape = refl; mode = refl })

keeps_open : (s : State) (who : Who) (h : Handle) (p : List (List ℕ)) (f : Flags) → KeepsSetting s (open_done s who h p f).state
unfolding open_done
keeps_open s who h p f = let keeps = keeps_opening s p f.truncate in record { shape = keeps.shape; mode = keeps.mode }

keeps_close : (s : State) (who : Who) (h : Handle) → KeepsSetting s (close_done alone s who h).state
unfolding close_done with_published
keeps_close s who h =
    keeps_swept s (record (with_published s (file_number s.tables who h)) { tables = closed s.tables who h }) (file_number s.tables who h) (record { shape = refl; mode = refl })

-- EACH CALL keeps shape and mode.
pub keeps_setting : (s : State) (c : Unfinished) → KeepsSetting s (after_call s c)
unfolding dup_done read_done pread_done write_done pwrite_done written seek_done truncate_done fsync_done stat_done list_done with_file with_published
keeps_setting s (who, Call.Mkdir p) = stepped-keeps (KeepsSetting s) s (first (mkdir_rows (space s) p)) (mkdir_done s p) (same s) (λ none. keeps_mkdir s p)
keeps_setting s (who, Call.Rmdir p) = stepped-keeps (KeepsSetting s) s (first (rmdir_rows (space s) p)) (rmdir_done s p) (same s) (λ none. keeps_rmdir s p)
keeps_setting s (who, Call.Unlink p) = stepped-keeps (KeepsSetting s) s (first (unlink_rows (space s) p)) (unlink_done alone s p) (same s) (λ none. keeps_unlink s p)
keeps_setting s (who, Call.Rename p q) = stepped-keeps (KeepsSetting s) s (first (rename_rows (space s) p q)) (rename_done alone s p q) (same s) (λ none. keeps_rename s p q)
keeps_setting s (who, Call.Open h p f) = stepped-keeps (KeepsSetting s) s (first (open_rows (space s) (is_full s.tables) (is_busy alone s p) p f)) (open_done s who h p f) (same s) (λ none. keeps_open s who h p f)
keeps_setting s (who, Call.Close h) = stepped-keeps (KeepsSetting s) s (first (close_rows s.tables who h)) (close_done alone s who h) (same s) (λ none. keeps_close s who h)
keeps_setting s (who, Call.Dup h g) = stepped-keeps (KeepsSetting s) s (first (dup_rows s.tables who h)) (dup_done s who h g) (same s) (λ none. record { shape = refl; mode = refl })
keeps_setting s (who, Call.Read h n) = stepped-keeps (KeepsSetting s) s (first (read_rows s.tables who h)) (read_done s who h n) (same s) (λ none. record { shape = refl; mode = refl })
keeps_setting s (who, Call.Pread h o n) = stepped-keeps (KeepsSetting s) s (first (read_rows s.tables who h)) (pread_done s who h o n) (same s) (λ none. record { shape = refl; mode = refl })
keeps_setting s (who, Call.Write h x) = stepped-keeps (KeepsSetting s) s (first (write_rows s who h (write_start s who h) x)) (write_done alone s who h x) (same s) (λ none. record { shape = refl; mode = refl })
keeps_setting s (who, Call.Pwrite h o x) = stepped-keeps (KeepsSetting s) s (first (write_rows s who h o x)) (pwrite_done alone s who h o x) (same s) (λ none. record { shape = refl; mode = refl })
keeps_setting s (who, Call.Seek h w by) = stepped-keeps (KeepsSetting s) s (first (seek_rows s who h w by)) (seek_done s who h w by) (same s) (λ none. record { shape = refl; mode = refl })
keeps_setting s (who, Call.Truncate h n) = stepped-keeps (KeepsSetting s) s (first (truncate_rows s who h n)) (truncate_done s who h n) (same s) (λ none. record { shape = refl; mode = refl })
keeps_setting s (who, Call.Fsync h) = stepped-keeps (KeepsSetting s) s (first (fsync_rows s.tables who h)) (fsync_done s who h) (same s) (λ none. record { shape = refl; mode = refl })
keeps_setting s (who, Call.Stat p) = stepped-keeps (KeepsSetting s) s (first (stat_rows (space s) p)) (stat_done s p) (same s) (λ none. record { shape = refl; mode = refl })
keeps_setting s (who, Call.List p) = stepped-keeps (KeepsSetting s) s (first (list_rows (space s) p)) (list_done s p) (same s) (λ none. record { shape = refl; mode = refl })

-- and so does each history
pub setting_run : (s : State) (history : List Item) → KeepsSetting s (run s history)
setting_run s [] = same s
setting_run s (item ∷ items) =
    let first = keeps_setting s (item.who, item.call) in
    let rest = setting_run (step s item.who item.call).state items in
    record { shape = rest.shape ∙ first.shape; mode = rest.mode ∙ first.mode }
