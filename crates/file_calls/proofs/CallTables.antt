-- What calls on names do to tables and entries.
use Rattle.std.specs.Prelude.{◌≡◌, ◌||◌, ℕ, Bool, true, false, cond, List, refl, if◌then◌else◌}
use Rattle.posix_types.specs.declared.call.Call.{Call}
use Rattle.posix_types.specs.declared.call.Who.{Who}
use Rattle.open_files.specs.posix_tables.declared.nodes.Node.{Node}
use Rattle.open_files.specs.posix_tables.NameRows.{mkdir_rows, rename_rows, rmdir_rows, unlink_rows}
use Rattle.open_files.specs.posix_tables.Names.{directory_stands, file_stands, is_named, number_at}
use Rattle.open_files.specs.posix_tables.Open.{is_open}
use Rattle.open_files.specs.posix_tables.Outcomes.{first}
use Rattle.open_files.specs.posix_spec.Run.{after_call}
use Rattle.open_files.specs.posix_spec.State.{alone, made, space, State, swept, unnamed, with_node}
use Rattle.open_files.specs.posix_spec.Step.{mkdir_done, rename_done, renamed, rmdir_done, unlink_done}
use Rattle.open_files.specs.posix_laws.RowLaws.{stepped-keeps}

pub swept_tables : (s : State) (n : ℕ) → (swept alone s n).tables ≡ s.tables
unfolding swept
swept_tables s n = by (is_named s.entries n || is_open s.tables n) where
  by : (b : Bool) → (cond b s (with_node s n Node.Gone)).tables ≡ s.tables
  by true = refl
  by false = refl

pub swept_entries : (s : State) (n : ℕ) → (swept alone s n).entries ≡ s.entries
unfolding swept
swept_entries s n = by (is_named s.entries n || is_open s.tables n) where
  by : (b : Bool) → (cond b s (with_node s n Node.Gone)).entries ≡ s.entries
  by true = refl
  by false = refl

unlinked_tables : (s : State) (p : List (List ℕ)) → (unlink_done alone s p).state.tables ≡ s.tables
unfolding unlink_done unnamed
unlinked_tables s p = swept_tables (unnamed s p) (number_at (space s) p)

renamed_tables : (s : State) (p q : List (List ℕ)) → (rename_done alone s p q).state.tables ≡ s.tables
unfolding rename_done renamed unnamed
renamed_tables s p q = by (directory_stands (space s) q) (file_stands (space s) q) where
  by : (a b : Bool) → (if a then with_node (renamed s p q) (number_at (space s) q) Node.Gone else if b then swept alone (renamed s p q) (number_at (space s) q) else renamed s p q).tables ≡ s.tables
  by true b = refl
  by false true = swept_tables (renamed s p q) (number_at (space s) q)
  by false false = refl

pub tables_mkdir : (s : State) (who : Who) (p : List (List ℕ)) → (after_call s (who, Call.Mkdir p)).tables ≡ s.tables
unfolding mkdir_done made
tables_mkdir s who p = stepped-keeps (λ (x : State). x.tables ≡ s.tables) s (first (mkdir_rows (space s) p)) (mkdir_done s p) refl (λ none. refl)

pub tables_rmdir : (s : State) (who : Who) (p : List (List ℕ)) → (after_call s (who, Call.Rmdir p)).tables ≡ s.tables
unfolding rmdir_done unnamed
tables_rmdir s who p = stepped-keeps (λ (x : State). x.tables ≡ s.tables) s (first (rmdir_rows (space s) p)) (rmdir_done s p) refl (λ none. refl)

pub tables_unlink : (s : State) (who : Who) (p : List (List ℕ)) → (after_call s (who, Call.Unlink p)).tables ≡ s.tables
tables_unlink s who p = stepped-keeps (λ (x : State). x.tables ≡ s.tables) s (first (unlink_rows (space s) p)) (unlink_done alone s p) refl (λ none. unlinked_tables s p)

pub tables_rename : (s : State) (who : Who) (p q : List (List ℕ)) → (after_call s (who, Call.Rename p q)).tables ≡ s.tables
tables_rename s who p q = stepped-keeps (λ (x : State). x.tables ≡ s.tables) s (first (rename_rows (space s) p q)) (rename_done alone s p q) refl (λ none. renamed_tables s p q)
