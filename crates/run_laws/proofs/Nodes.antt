-- What a handle stands for stays while others act on other files: so the node of a job does.
use Rattle.std.specs.Prelude.{◌≡◌, ◌≢◌, ◌||◌, ℕ, ℤ, Bool, true, false, cond, List, Option, Some, None, option_map, unwrap_or, refl}
use Rattle.std.proofs.Common.{ap, ◌∙◌, sym, subst, lit<}
use Rattle.world_view_laws.specs.crash_spec.Busy.{handle_node, waits_for}
use Rattle.world_view_laws.specs.crash_spec.ScheduleLaws.{may_write}
use Rattle.world_view_laws.specs.in_flight.commute_laws.Bystanders.{not_not}
use Rattle.world_view_laws.specs.in_flight.commute_laws.Frames.{AreThreads, granted, IsOpened-from, known, LeavesAlone, other_file}
use Rattle.world_view_laws.specs.in_flight.commute_laws.Handles.{opened-Opens, Opens, Opens-closed, Opens-opened, Opens-with_descriptor, Opens-with_offset, Opens-with_opened}
use Rattle.world_view_laws.specs.posix_laws.RowLaws.{Accepts-from_rows, no_row, none_fits, stepped-keeps}
use Rattle.world_view_laws.specs.posix_types.declared.call.Call.{Call}
use Rattle.world_view_laws.specs.posix_types.declared.call.Who.{Who}
use Rattle.world_view_laws.specs.posix_types.declared.handle.Flags.{Flags}
use Rattle.world_view_laws.specs.posix_types.declared.handle.Handle.{Handle}
use Rattle.world_view_laws.specs.posix_types.declared.handle.Whence.{Whence}
use Rattle.world_view_laws.specs.posix_tables.declared.nodes.Node.{Node}
use Rattle.world_view_laws.specs.posix_tables.declared.open.Description.{Description}
use Rattle.world_view_laws.specs.posix_tables.Names.{directory_stands, file_stands, is_named, number_at}
use Rattle.world_view_laws.specs.posix_tables.Open.{is_full, is_open, key_of, opened, Tables, with_offset}
use Rattle.world_view_laws.specs.posix_spec.FileRows.{close_rows, dup_rows, read_rows, seek_rows, truncate_rows, write_start}
use Rattle.world_view_laws.specs.posix_spec.State.{alone, made, space, State, swept, unnamed, with_file, with_node, with_published}
use Rattle.world_view_laws.specs.posix_spec.Step.{close_done, dup_done, fsync_done, list_done, mkdir_done, open_done, pread_done, pwrite_done, read_done, rename_done, renamed, rmdir_done, seek_done, stat_done, step, truncate_done, unlink_done, write_done, written}

-- what is swept away is no handle
swept_tables : (m : State) (n : ℕ) → (swept alone m n).tables ≡ m.tables
unfolding swept
swept_tables m n = by (is_named m.entries n || is_open m.tables n) where
  by : (b : Bool) → (cond b m (with_node m n Node.Gone)).tables ≡ m.tables
  by true = refl
  by false = refl

unlink_tables : (s : State) (p : List (List ℕ)) → (unlink_done alone s p).state.tables ≡ s.tables
unfolding unlink_done unnamed
unlink_tables s p = swept_tables (unnamed s p) (number_at (space s) p)

rename_tables : (s : State) (p q : List (List ℕ)) → (rename_done alone s p q).state.tables ≡ s.tables
unfolding rename_done renamed
rename_tables s p q = by (directory_stands (space s) q) (file_stands (space s) q) where
  by : (a b : Bool) → (cond a (with_node (renamed s p q) (number_at (space s) q) Node.Gone) (cond b (swept alone (renamed s p q) (number_at (space s) q)) (renamed s p q))).tables ≡ s.tables
  by true b = refl
  by false true = swept_tables (renamed s p q) (number_at (space s) q)
  by false false = refl

module _ (s : State) (who who2 : Who) (h : Handle) (key : ℕ) (d : Description) (threads : AreThreads who who2) (o : Opens s.tables who h key d) where
  abbrev Keeps : State → Type 0
  Keeps new = Opens new.tables who h key d

  -- where the tables stay
  same_tables : (new : State) → new.tables ≡ s.tables → Keeps new
  same_tables new same = subst (λ (t : Tables). Opens t who h key d) (sym same) o

  moved : (m : State) (h2 : Handle) (offset : ℕ) (e : Description) → m.tables ≡ s.tables → opened s.tables who2 h2 ≡ Some e → d.node ≢ e.node
      → Opens (with_offset m.tables (unwrap_or (key_of m.tables who2 h2) 0) offset) who h key d
  moved m h2 offset e same is apart =
      subst (λ (t : Tables). Opens (with_offset t (unwrap_or (key_of t who2 h2) 0) offset) who h key d) (sym same) (Opens-with_offset s.tables who who2 h h2 offset key d e is apart o)

  by_write : (h2 : Handle) (x : List ℕ) (e : Description) → opened s.tables who2 h2 ≡ Some e → d.node ≢ e.node → Keeps (write_done alone s who2 h2 x).state
  unfolding write_done written with_file
  by_write h2 x e is apart = moved (written alone s who2 h2 (write_start s who2 h2) x) h2 _ e refl is apart

  by_close : (h2 : Handle) (e : Description) → opened s.tables who2 h2 ≡ Some e → d.node ≢ e.node → Keeps (close_done alone s who2 h2).state
  unfolding close_done with_published
  by_close h2 e is apart = subst (λ (t : Tables). Opens t who h key d) (sym (swept_tables _ _)) (Opens-closed s.tables who who2 h h2 key d e threads.other threads.thread threads.own is apart o)

  by_open : (h2 : Handle) (p : List (List ℕ)) (f : Flags) → is_full s.tables ≡ false → Keeps (open_done s who2 h2 p f).state
  unfolding open_done
  by_open h2 p f free = Opens-with_opened s.tables who who2 h h2 _ d key free threads.other threads.thread o

  by_dup : (h2 g : Handle) → is_full s.tables ≡ false → Keeps (dup_done s who2 h2 g).state
  unfolding dup_done
  by_dup h2 g free = Opens-with_descriptor s.tables who who2 h g _ key d free threads.other threads.thread o

  by_read : (h2 : Handle) (n : ℕ) (e : Description) → opened s.tables who2 h2 ≡ Some e → d.node ≢ e.node → Keeps (read_done s who2 h2 n).state
  unfolding read_done
  by_read h2 n e is apart = moved s h2 _ e refl is apart

  by_seek : (h2 : Handle) (w : Whence) (by : ℤ) (e : Description) → opened s.tables who2 h2 ≡ Some e → d.node ≢ e.node → Keeps (seek_done s who2 h2 w by).state
  unfolding seek_done
  by_seek h2 w by e is apart = moved s h2 _ e refl is apart

  by_mkdir : (p : List (List ℕ)) → Keeps (mkdir_done s p).state
  unfolding mkdir_done made
  by_mkdir p = o

  by_rmdir : (p : List (List ℕ)) → Keeps (rmdir_done s p).state
  unfolding rmdir_done unnamed
  by_rmdir p = o

  by_pwrite : (h2 : Handle) (start : ℕ) (x : List ℕ) → Keeps (pwrite_done alone s who2 h2 start x).state
  unfolding pwrite_done written with_file
  by_pwrite h2 start x = o

  by_truncate : (h2 : Handle) (n : ℕ) → Keeps (truncate_done s who2 h2 n).state
  unfolding truncate_done with_file
  by_truncate h2 n = o

  by_fsync : (h2 : Handle) → Keeps (fsync_done s who2 h2).state
  unfolding fsync_done with_published
  by_fsync h2 = o

  -- A CALL OF ANOTHER THREAD THAT LEAVES THE FILE ALONE leaves what the handle stands for.
  pub handle_stays : (call : Call) → LeavesAlone s (who2, call) d.node → Keeps (step s who2 call).state
  unfolding waits_for pread_done stat_done list_done dup_rows seek_rows truncate_rows
  handle_stays (Call.Mkdir p) aside = stepped-keeps Keeps s _ _ o (λ none. by_mkdir p)
  handle_stays (Call.Rmdir p) aside = stepped-keeps Keeps s _ _ o (λ none. by_rmdir p)
  handle_stays (Call.Unlink p) aside = stepped-keeps Keeps s _ _ o (λ none. same_tables (unlink_done alone s p).state (unlink_tables s p))
  handle_stays (Call.Rename p q) aside = stepped-keeps Keeps s _ _ o (λ none. same_tables (rename_done alone s p q).state (rename_tables s p q))
  handle_stays (Call.Open h2 p f) aside = stepped-keeps Keeps s _ _ o (λ none. by_open h2 p f (IsOpened-from s p f none).free)
  handle_stays (Call.Close h2) aside =
      stepped-keeps Keeps s _ _ o (λ none.
      let is = known (opened s.tables who2 h2) (no_row _ _ ((none_fits (close_rows s.tables who2 h2) none) 0 None (lit< tt))) in
      by_close h2 is.0 is.1 (other_file s who2 h2 d.node is.0 aside is.1))
  handle_stays (Call.Dup h2 g) aside = stepped-keeps Keeps s _ _ o (λ none. by_dup h2 g (no_row _ _ ((none_fits (dup_rows s.tables who2 h2) none) 1 None (lit< tt))))
  handle_stays (Call.Read h2 n) aside =
      stepped-keeps Keeps s _ _ o (λ none.
      let is = granted (λ (x : Description). x.flags.read) (opened s.tables who2 h2) (not_not _ (no_row _ _ ((none_fits (read_rows s.tables who2 h2) none) 0 None (lit< tt)))) in
      by_read h2 n is.0 is.1 (other_file s who2 h2 d.node is.0 aside is.1))
  handle_stays (Call.Pread h2 o2 n) aside = stepped-keeps Keeps s _ _ o (λ none. o)
  handle_stays (Call.Write h2 x) aside =
      stepped-keeps Keeps s _ _ o (λ none.
      let accepts = Accepts-from_rows s who2 h2 (write_start s who2 h2) x none in
      let is = granted (λ (y : Description). y.flags.write) (opened s.tables who2 h2) accepts.may_write in
      by_write h2 x is.0 is.1 (other_file s who2 h2 d.node is.0 aside is.1))
  handle_stays (Call.Pwrite h2 start x) aside = stepped-keeps Keeps s _ _ o (λ none. by_pwrite h2 start x)
  handle_stays (Call.Seek h2 w by) aside =
      stepped-keeps Keeps s _ _ o (λ none.
      let is = known (opened s.tables who2 h2) (no_row _ _ ((none_fits (seek_rows s who2 h2 w by) none) 0 None (lit< tt))) in
      by_seek h2 w by is.0 is.1 (other_file s who2 h2 d.node is.0 aside is.1))
  handle_stays (Call.Truncate h2 n) aside = stepped-keeps Keeps s _ _ o (λ none. by_truncate h2 n)
  handle_stays (Call.Fsync h2) aside = stepped-keeps Keeps s _ _ o (λ none. by_fsync h2)
  handle_stays (Call.Stat p) aside = stepped-keeps Keeps s _ _ o (λ none. o)
  handle_stays (Call.List p) aside = stepped-keeps Keeps s _ _ o (λ none. o)

-- ---- the node that a handle stands for

node_of : (o : Option Description) (node : ℕ) → option_map (λ (d : Description). d.node) o ≡ Some node → (d : Description) × (o ≡ Some d) × (d.node ≡ node)
node_of None node is = cc
node_of (Some d) node is = (d, refl, cc)

pub handle_node_stays : (s : State) (who who2 : Who) (h : Handle) (call : Call) (node : ℕ) → AreThreads who who2 → LeavesAlone s (who2, call) node → handle_node s who h ≡ Some node
    → handle_node (step s who2 call).state who h ≡ Some node
handle_node_stays s who who2 h call node threads aside is =
    let found = node_of (opened s.tables who h) node is in
    let opens = Opens-opened s.tables who h found.0 found.1 in
    let after = handle_stays s who who2 h opens.0 found.0 threads opens.1 call (subst (λ (n : ℕ). LeavesAlone s (who2, call) n) (sym found.2) aside) in
    ap (option_map (λ (d : Description). d.node)) (opened-Opens (step s who2 call).state.tables who h opens.0 found.0 after) ∙ ap (λ (n : ℕ). Some n) found.2

-- THE NODE OF A WRITE STAYS while others act on other files.
pub node_stays : (s : State) (who who2 : Who) (call call2 : Call) (node : ℕ) → may_write call ≡ true → AreThreads who who2 → LeavesAlone s (who2, call2) node → waits_for s (who, call) ≡ Some node
    → waits_for (step s who2 call2).state (who, call) ≡ Some node
unfolding waits_for
node_stays s who who2 (Call.Mkdir p) call2 node is threads aside waits = cc
node_stays s who who2 (Call.Rmdir p) call2 node is threads aside waits = cc
node_stays s who who2 (Call.Unlink p) call2 node is threads aside waits = cc
node_stays s who who2 (Call.Rename p q) call2 node is threads aside waits = cc
node_stays s who who2 (Call.Open h p f) call2 node is threads aside waits = cc
node_stays s who who2 (Call.Close h) call2 node is threads aside waits = cc
node_stays s who who2 (Call.Dup h g) call2 node is threads aside waits = cc
node_stays s who who2 (Call.Read h n) call2 node is threads aside waits = cc
node_stays s who who2 (Call.Pread h o n) call2 node is threads aside waits = cc
node_stays s who who2 (Call.Write h x) call2 node is threads aside waits = handle_node_stays s who who2 h call2 node threads aside waits
node_stays s who who2 (Call.Pwrite h o x) call2 node is threads aside waits = handle_node_stays s who who2 h call2 node threads aside waits
node_stays s who who2 (Call.Seek h w by) call2 node is threads aside waits = cc
node_stays s who who2 (Call.Truncate h n) call2 node is threads aside waits = handle_node_stays s who who2 h call2 node threads aside waits
node_stays s who who2 (Call.Fsync h) call2 node is threads aside waits = cc
node_stays s who who2 (Call.Stat p) call2 node is threads aside waits = cc
node_stays s who who2 (Call.List p) call2 node is threads aside waits = cc
