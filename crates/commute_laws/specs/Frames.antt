-- The frame: what a logged write in flight sees stays under every call that the busy rule lets through.
use Rattle.std.specs.Prelude.{◌≡◌, ◌≢◌, ℕ, Bool, true, false, cond, not, ◌&&◌, ◌||◌, ◌==◌, List, [], ◌∷◌, Option, Some, None, is_none, is_some, option_map, unwrap_or, refl}
use Rattle.std.specs.List.{list_any}
use Rattle.std.specs.Option.{option_map_or}
use Rattle.std.proofs.Common.{ap, ◌∙◌, sym, subst, inl, inr, lit<}
use Rattle.std.proofs.lemmas.Bool.Decides.{Decides-eqb}
use Rattle.std.proofs.lemmas.List.{get_or-set_other}
use Rattle.crash_spec.specs.list_laws.Members.{In}
use Rattle.crash_spec.specs.posix_laws.posix_types.declared.call.Call.{Call}
use Rattle.crash_spec.specs.posix_laws.posix_types.declared.call.Who.{Who}
use Rattle.crash_spec.specs.posix_laws.posix_types.declared.handle.Flags.{Flags}
use Rattle.crash_spec.specs.posix_laws.posix_types.declared.handle.Handle.{Handle}
use Rattle.crash_spec.specs.posix_laws.posix_tables.declared.nodes.File.{File}
use Rattle.crash_spec.specs.posix_laws.posix_tables.declared.nodes.Node.{Node}
use Rattle.crash_spec.specs.posix_laws.posix_tables.declared.open.Description.{Description}
use Rattle.crash_spec.specs.posix_laws.posix_tables.NameRows.{open_rows}
use Rattle.crash_spec.specs.posix_laws.posix_tables.Names.{exists_at, is_named, node_at_path, number_at, too_long}
use Rattle.crash_spec.specs.posix_laws.posix_tables.Nodes.{node_at}
use Rattle.crash_spec.specs.posix_laws.posix_tables.Outcomes.{first}
use Rattle.crash_spec.specs.posix_laws.posix_tables.Open.{is_full, is_open, key_of, opened, same_who, Tables, with_offset}
use Rattle.crash_spec.specs.posix_laws.posix_spec.FileRows.{close_rows, dup_rows, file_number, fsync_rows, read_rows, seek_rows, truncate_rows, write_start}
use Rattle.crash_spec.specs.posix_laws.posix_spec.Run.{Unfinished}
use Rattle.crash_spec.specs.posix_laws.posix_spec.State.{alone, made, space, State, swept, with_file, with_node, with_published}
use Rattle.crash_spec.specs.posix_laws.posix_spec.Step.{close_done, dup_done, empty_file, fsync_done, is_busy as is_elsewhere, list_done, moved_offset, open_done, opening, pread_done, pwrite_done, read_done, seek_done, stat_done, step, truncate_done, write_done, written}
use Rattle.crash_spec.specs.posix_laws.RowLaws.{Accepts-from_rows, no_row, none_fits, stepped-keeps}
use Rattle.crash_spec.specs.Busy.{handle_node, is_busy, keeps_busy, Out, path_node, waits_for}
use Rattle.commute_laws.specs.Bystanders.{file_within, IsHeld, KeepsFile, KeepsFile-mkdir, KeepsFile-none, KeepsFile-rename, KeepsFile-rmdir, KeepsFile-unlink, kept-made, kept-with_node, not_not}
use Rattle.commute_laws.specs.Handles.{Opens, Opens-closed, Opens-with_descriptor, Opens-with_offset, Opens-with_opened}

-- what a write of a caller to a file sees stays: what its handles of the file stand for, the file, the mode
pub record KeepsSeen (s new : State) (who : Who) (node : ℕ) : Type 0 where
  pub handles : (h : Handle) (key : ℕ) (d : Description) → Opens s.tables who h key d → d.node ≡ node
      → Opens new.tables who h key d
  pub file : node_at new.nodes node ≡ node_at s.nodes node
  pub mode : new.mode ≡ s.mode

-- the call leaves the file alone: it is not the file that the call would wait for
abbrev pub LeavesAlone : State → Unfinished → ℕ → Type 0
LeavesAlone s c node = waits_for s c ≢ Some node

-- two callers, of which the second is not the set-up, nor is the first
pub record AreThreads (who who2 : Who) : Type 0 where
  pub other : same_who who2 who ≡ false
  pub thread : same_who who2 Who.Setup ≡ false
  pub own : same_who Who.Setup who ≡ false

-- ---- the busy rule

any_In : {X : Type 0} (p : X → Bool) (xs : List X) (x : X) → In x xs → p x ≡ true → list_any p xs ≡ true
any_In p [] x is passes = absurd is
any_In p (y ∷ ys) x (inl same) passes = ap (λ b. b || list_any p ys) (ap p same ∙ passes)
any_In p (y ∷ ys) x (inr behind) passes = by (p y) (any_In p ys x behind passes) where
  by : (b : Bool) → list_any p ys ≡ true → (b || list_any p ys) ≡ true
  by true rest = refl
  by false rest = rest

not_and : (a b : Bool) → a ≡ false → b ≡ true → (not a && b) ≡ true
not_and true b first second = cc
not_and false b first second = second

-- A call that does not wait while another caller's write is in flight leaves the file of that write alone.
pub LeavesAlone-idle : (s : State) (out : List Out) (c : Unfinished) (who : Who) (node : ℕ) → is_busy s out c ≡ false
    → In (who, node) out → same_who who c.0 ≡ false → LeavesAlone s c node
unfolding is_busy
LeavesAlone-idle s out c who node idle is other waits =
    let keeps : keeps_busy c.0 node (who, node) ≡ true = not_and (same_who who c.0) (node == node) other ((Decides-eqb node node).1 refl) in
    let busy : list_any (keeps_busy c.0 node) out ≡ true = any_In (keeps_busy c.0 node) out (who, node) is keeps in
    let never : true ≡ false = sym busy ∙ sym (ap (λ o. option_map_or (λ n. list_any (keeps_busy c.0 n) out) o false) waits) ∙ idle in
    cc

-- ---- handles of another file

pub other_file : (s : State) (who : Who) (h : Handle) (node : ℕ) (e : Description) → handle_node s who h ≢ Some node
    → opened s.tables who h ≡ Some e → node ≢ e.node
other_file s who h node e alone_it is same = alone_it (ap (λ (o : Option Description). option_map (λ d. d.node) o) is ∙ ap Some (sym same))

pub file_number-is : (s : State) (who : Who) (h : Handle) (e : Description) → opened s.tables who h ≡ Some e
    → file_number s.tables who h ≡ e.node
file_number-is s who h e is = ap (λ (o : Option Description). option_map_or (λ d. d.node) o 0) is

pub known : {X : Type 0} (o : Option X) → is_none o ≡ false → (x : X) × (o ≡ Some x)
known None is = cc
known (Some x) is = (x, refl)

pub granted : (f : Description → Bool) (o : Option Description) → option_map_or f o false ≡ true
    → (d : Description) × (o ≡ Some d)
granted f None is = cc
granted f (Some d) is = (d, refl)

-- ---- changes, one by one

pub KeepsSeen-none : (s : State) (who : Who) (node : ℕ) → KeepsSeen s s who node
KeepsSeen-none s who node = record { handles = λ h key d o same. o; file = refl; mode = refl }

seen_file : (s new : State) (who : Who) (node : ℕ) → KeepsFile s new node → KeepsSeen s new who node
seen_file s new who node keeps = record { handles = λ h key d o same. subst (λ t. Opens t who h key d) (sym keeps.tables) o; file = keeps.file; mode = keeps.mode }

seen_node : (s m : State) (who : Who) (n node : ℕ) (x : Node) → KeepsSeen s m who node → node ≢ n
    → KeepsSeen s (with_node m n x) who node
seen_node s m who n node x keeps other = record { handles = keeps.handles; file = get_or-set_other m.nodes n node x Node.Gone other ∙ keeps.file; mode = keeps.mode }

seen_swept : (s m : State) (who : Who) (n node : ℕ) → KeepsSeen s m who node → node ≢ n
    → KeepsSeen s (swept alone m n) who node
unfolding swept
seen_swept s m who n node keeps other = by (is_named m.entries n || is_open m.tables n) where
  by : (b : Bool) → KeepsSeen s (cond b m (with_node m n Node.Gone)) who node
  by true = keeps
  by false = seen_node s m who n node Node.Gone keeps other

seen_offset : (s m : State) (who who2 : Who) (node : ℕ) (h2 : Handle) (offset : ℕ) (e : Description)
    → m.tables ≡ s.tables → node_at m.nodes node ≡ node_at s.nodes node → m.mode ≡ s.mode
    → opened s.tables who2 h2 ≡ Some e → node ≢ e.node → KeepsSeen s (moved_offset m who2 h2 offset) who node
seen_offset s m who who2 node h2 offset e tables file mode is other = record {
  handles = λ h key d o same.
      subst (λ (t : Tables). Opens (with_offset t (unwrap_or (key_of t who2 h2) 0) offset) who h key d) (sym tables)
      (Opens-with_offset s.tables who who2 h h2 offset key d e is (λ one. other (sym same ∙ one)) o);
  file = file;
  mode = mode;
}

-- ---- calls with a handle of another file

pub other_number : (s : State) (who : Who) (h : Handle) (node : ℕ) (e : Description) → opened s.tables who h ≡ Some e
    → node ≢ e.node → node ≢ file_number s.tables who h
other_number s who h node e is other same = other (same ∙ file_number-is s who h e is)

seen_close : (s : State) (who who2 : Who) (h2 : Handle) (node : ℕ) (e : Description) → AreThreads who who2
    → opened s.tables who2 h2 ≡ Some e → node ≢ e.node → KeepsSeen s (close_done alone s who2 h2).state who node
unfolding close_done with_published
seen_close s who who2 h2 node e threads is other =
    let apart = other_number s who2 h2 node e is other in
    seen_swept s _ who (file_number s.tables who2 h2) node (record {
      handles = λ h key d o same. Opens-closed s.tables who who2 h h2 key d e threads.other threads.thread threads.own is (λ one. other (sym same ∙ one)) o;
      file = get_or-set_other s.nodes (file_number s.tables who2 h2) node _ Node.Gone apart;
      mode = refl;
    }) apart

seen_dup : (s : State) (who who2 : Who) (h2 g : Handle) (node : ℕ) → AreThreads who who2 → is_full s.tables ≡ false
    → KeepsSeen s (dup_done s who2 h2 g).state who node
unfolding dup_done
seen_dup s who who2 h2 g node threads room_there = record {
  handles = λ h key d o same. Opens-with_descriptor s.tables who who2 h g (unwrap_or (key_of s.tables who2 h2) 0) key d room_there threads.other threads.thread o;
  file = refl;
  mode = refl;
}

seen_written : (s : State) (who who2 : Who) (h2 : Handle) (start : ℕ) (x : List ℕ) (node : ℕ)
    → node ≢ file_number s.tables who2 h2 → KeepsFile s (written alone s who2 h2 start x) node
unfolding written with_file
seen_written s who who2 h2 start x node apart = record { tables = refl; mode = refl; file = get_or-set_other s.nodes (file_number s.tables who2 h2) node _ Node.Gone apart }

seen_write : (s : State) (who who2 : Who) (h2 : Handle) (x : List ℕ) (node : ℕ) (e : Description)
    → opened s.tables who2 h2 ≡ Some e → node ≢ e.node → KeepsSeen s (write_done alone s who2 h2 x).state who node
unfolding write_done
seen_write s who who2 h2 x node e is other =
    let keeps = seen_written s who who2 h2 (write_start s who2 h2) x node (other_number s who2 h2 node e is other) in
    seen_offset s (written alone s who2 h2 (write_start s who2 h2) x) who who2 node h2 _ e keeps.tables keeps.file keeps.mode is other

seen_pwrite : (s : State) (who who2 : Who) (h2 : Handle) (start : ℕ) (x : List ℕ) (node : ℕ) (e : Description)
    → opened s.tables who2 h2 ≡ Some e → node ≢ e.node
    → KeepsSeen s (pwrite_done alone s who2 h2 start x).state who node
unfolding pwrite_done
seen_pwrite s who who2 h2 start x node e is other = seen_file s _ who node (seen_written s who who2 h2 start x node (other_number s who2 h2 node e is other))

seen_truncate : (s : State) (who who2 : Who) (h2 : Handle) (n node : ℕ) (e : Description)
    → opened s.tables who2 h2 ≡ Some e → node ≢ e.node → KeepsSeen s (truncate_done s who2 h2 n).state who node
unfolding truncate_done with_file
seen_truncate s who who2 h2 n node e is other = seen_node s s who (file_number s.tables who2 h2) node _ (KeepsSeen-none s who node) (other_number s who2 h2 node e is other)

seen_fsync : (s : State) (who who2 : Who) (h2 : Handle) (node : ℕ) (e : Description)
    → opened s.tables who2 h2 ≡ Some e → node ≢ e.node → KeepsSeen s (fsync_done s who2 h2).state who node
unfolding fsync_done with_published
seen_fsync s who who2 h2 node e is other = seen_node s s who (file_number s.tables who2 h2) node _ (KeepsSeen-none s who node) (other_number s who2 h2 node e is other)

seen_read : (s : State) (who who2 : Who) (h2 : Handle) (n node : ℕ) (e : Description)
    → opened s.tables who2 h2 ≡ Some e → node ≢ e.node → KeepsSeen s (read_done s who2 h2 n).state who node
unfolding read_done
seen_read s who who2 h2 n node e is other = seen_offset s s who who2 node h2 _ e refl refl refl is other

-- ---- opens

pub path_apart : (s : State) (p : List (List ℕ)) (node : ℕ) → too_long (space s).longest p ≡ false
    → exists_at (space s) p ≡ true → path_node s p ≢ Some node → node ≢ number_at (space s) p
path_apart s p node short there alone_it same = alone_it (ap (λ b. cond b None (node_at_path (space s) p)) short ∙ number (node_at_path (space s) p) there same) where
  number : (o : Option ℕ) → is_some o ≡ true → node ≡ unwrap_or o 0 → o ≡ Some node
  number None is one = cc
  number (Some n) is one = ap Some (sym one)

-- an accepted open: its path is not too long, and there is a free descriptor
pub record IsOpened (s : State) (p : List (List ℕ)) : Type 0 where
  pub short : too_long (space s).longest p ≡ false
  pub free : is_full s.tables ≡ false

pub IsOpened-from : (s : State) (p : List (List ℕ)) (f : Flags)
    → first (open_rows (space s) (is_full s.tables) (is_elsewhere alone s p) p f) ≡ None → IsOpened s p
unfolding open_rows
IsOpened-from s p f none =
    let each = none_fits (open_rows (space s) (is_full s.tables) (is_elsewhere alone s p) p f) none in
    record { short = no_row _ _ (each 0 None (lit< tt)); free = no_row _ _ (each 6 None (lit< tt)) }

seen_opening : (s : State) (who : Who) (p : List (List ℕ)) (truncate : Bool) (node : ℕ) (file : File)
    → node_at s.nodes node ≡ Node.File file
    → (truncate ≡ true → exists_at (space s) p ≡ true → node ≢ number_at (space s) p)
    → KeepsFile s (opening s p truncate) node
unfolding opening
seen_opening s who p truncate node file is other = by (exists_at (space s) p) truncate other where
  by : (b c : Bool) → (c ≡ true → b ≡ true → node ≢ number_at (space s) p)
      → KeepsFile s (cond b (cond c (with_node s (number_at (space s) p) empty_file) s) (made s p empty_file)) node
  by true true apart = kept-with_node s s (number_at (space s) p) node empty_file (KeepsFile-none s node) (apart refl refl)
  by true false apart = KeepsFile-none s node
  by false c apart = kept-made s p empty_file node (file_within s.nodes node file is)

seen_open : (s : State) (who who2 : Who) (h2 : Handle) (p : List (List ℕ)) (f : Flags) (node : ℕ)
    → AreThreads who who2 → IsHeld s node → IsOpened s p
    → (f.truncate ≡ true → path_node s p ≢ Some node) → KeepsSeen s (open_done s who2 h2 p f).state who node
unfolding open_done
seen_open s who who2 h2 p f node threads held accepted apart =
    let keeps = seen_opening s who p f.truncate node held.file held.is (λ cuts there. path_apart s p node accepted.short there (apart cuts)) in
    record {
      handles = λ h key d o same. Opens-with_opened s.tables who who2 h h2 _ d key accepted.free threads.other threads.thread o;
      file = keeps.file;
      mode = keeps.mode;
    }

-- ---- THE FRAME

-- Any call of another thread that leaves the file alone keeps what a write of the file sees.
pub KeepsSeen-step : (s : State) (who who2 : Who) (call : Call) (node : ℕ) → AreThreads who who2 → IsHeld s node
    → LeavesAlone s (who2, call) node → KeepsSeen s (step s who2 call).state who node
unfolding waits_for pread_done seek_done stat_done list_done dup_rows seek_rows truncate_rows
KeepsSeen-step s who who2 (Call.Mkdir p) node threads held aside = seen_file s _ who node (KeepsFile-mkdir s who2 p node held)
KeepsSeen-step s who who2 (Call.Rmdir p) node threads held aside = seen_file s _ who node (KeepsFile-rmdir s who2 p node held)
KeepsSeen-step s who who2 (Call.Unlink p) node threads held aside = seen_file s _ who node (KeepsFile-unlink s who2 p node held)
KeepsSeen-step s who who2 (Call.Rename p q) node threads held aside = seen_file s _ who node (KeepsFile-rename s who2 p q node held)
KeepsSeen-step s who who2 (Call.Open h p f) node threads held aside =
    stepped-keeps (λ new. KeepsSeen s new who node) s _ _ (KeepsSeen-none s who node) (λ none.
    seen_open s who who2 h p f node threads held (IsOpened-from s p f none) (λ cuts. subst (λ b. cond b (path_node s p) None ≢ Some node) cuts aside))
KeepsSeen-step s who who2 (Call.Close h) node threads held aside =
    stepped-keeps (λ new. KeepsSeen s new who node) s _ _ (KeepsSeen-none s who node) (λ none.
    let is = known (opened s.tables who2 h) (no_row _ _ ((none_fits (close_rows s.tables who2 h) none) 0 None (lit< tt))) in
    seen_close s who who2 h node is.0 threads is.1 (other_file s who2 h node is.0 aside is.1))
KeepsSeen-step s who who2 (Call.Dup h g) node threads held aside =
    stepped-keeps (λ new. KeepsSeen s new who node) s _ _ (KeepsSeen-none s who node) (λ none.
    seen_dup s who who2 h g node threads (no_row _ _ ((none_fits (dup_rows s.tables who2 h) none) 1 None (lit< tt))))
KeepsSeen-step s who who2 (Call.Read h n) node threads held aside =
    stepped-keeps (λ new. KeepsSeen s new who node) s _ _ (KeepsSeen-none s who node) (λ none.
    let is = granted (λ d. d.flags.read) (opened s.tables who2 h) (not_not _ (no_row _ _ ((none_fits (read_rows s.tables who2 h) none) 0 None (lit< tt)))) in
    seen_read s who who2 h n node is.0 is.1 (other_file s who2 h node is.0 aside is.1))
KeepsSeen-step s who who2 (Call.Pread h o n) node threads held aside = stepped-keeps (λ new. KeepsSeen s new who node) s _ _ (KeepsSeen-none s who node) (λ none. KeepsSeen-none s who node)
KeepsSeen-step s who who2 (Call.Write h x) node threads held aside =
    stepped-keeps (λ new. KeepsSeen s new who node) s _ _ (KeepsSeen-none s who node) (λ none.
    let accepts = Accepts-from_rows s who2 h (write_start s who2 h) x none in
    let is = granted (λ d. d.flags.write) (opened s.tables who2 h) accepts.may_write in
    seen_write s who who2 h x node is.0 is.1 (other_file s who2 h node is.0 aside is.1))
KeepsSeen-step s who who2 (Call.Pwrite h start x) node threads held aside =
    stepped-keeps (λ new. KeepsSeen s new who node) s _ _ (KeepsSeen-none s who node) (λ none.
    let accepts = Accepts-from_rows s who2 h start x none in
    let is = granted (λ d. d.flags.write) (opened s.tables who2 h) accepts.may_write in
    seen_pwrite s who who2 h start x node is.0 is.1 (other_file s who2 h node is.0 aside is.1))
KeepsSeen-step s who who2 (Call.Seek h w by) node threads held aside =
    stepped-keeps (λ new. KeepsSeen s new who node) s _ _ (KeepsSeen-none s who node) (λ none.
    let is = known (opened s.tables who2 h) (no_row _ _ ((none_fits (seek_rows s who2 h w by) none) 0 None (lit< tt))) in
    seen_offset s s who who2 node h _ is.0 refl refl refl is.1 (other_file s who2 h node is.0 aside is.1))
KeepsSeen-step s who who2 (Call.Truncate h n) node threads held aside =
    stepped-keeps (λ new. KeepsSeen s new who node) s _ _ (KeepsSeen-none s who node) (λ none.
    let is = granted (λ d. d.flags.write) (opened s.tables who2 h) (not_not _ (no_row _ _ ((none_fits (truncate_rows s who2 h n) none) 0 None (lit< tt)))) in
    seen_truncate s who who2 h n node is.0 is.1 (other_file s who2 h node is.0 aside is.1))
KeepsSeen-step s who who2 (Call.Fsync h) node threads held aside =
    stepped-keeps (λ new. KeepsSeen s new who node) s _ _ (KeepsSeen-none s who node) (λ none.
    let is = known (opened s.tables who2 h) (no_row _ _ ((none_fits (fsync_rows s.tables who2 h) none) 0 None (lit< tt))) in
    seen_fsync s who who2 h node is.0 is.1 (other_file s who2 h node is.0 aside is.1))
KeepsSeen-step s who who2 (Call.Stat p) node threads held aside = stepped-keeps (λ new. KeepsSeen s new who node) s _ _ (KeepsSeen-none s who node) (λ none. KeepsSeen-none s who node)
KeepsSeen-step s who who2 (Call.List p) node threads held aside = stepped-keeps (λ new. KeepsSeen s new who node) s _ _ (KeepsSeen-none s who node) (λ none. KeepsSeen-none s who node)
