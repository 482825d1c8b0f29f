-- A write in flight commutes with every call that leaves its file alone and finds room before and after it.
use Rattle.std.specs.Prelude.{◌≡◌, ◌≢◌, ◌≤◌, ℕ, ◌+◌, Bool, true, false, cond, not, ◌==◌, nat_le, nat_lt, List, [], ◌∷◌, length, Option, Some, None, is_none, is_some, unwrap_or, ℤ, refl}
use Rattle.std.specs.Option.{option_map_or}
use Rattle.std.proofs.Common.{ap, ◌∙◌, sym, subst, inl, inr, arith, lit<}
use Rattle.std.proofs.lemmas.Bool.Decides.{nat_tests}
use Rattle.std.proofs.lemmas.List.{get_or-set_other}
use Rattle.crash_spec.specs.posix_laws.posix_types.declared.call.Call.{Call}
use Rattle.crash_spec.specs.posix_laws.posix_types.declared.call.Who.{Who}
use Rattle.crash_spec.specs.posix_laws.posix_types.declared.handle.Flags.{Flags}
use Rattle.crash_spec.specs.posix_laws.posix_types.declared.handle.Handle.{Handle}
use Rattle.crash_spec.specs.posix_laws.posix_types.declared.handle.Whence.{Whence}
use Rattle.crash_spec.specs.posix_laws.posix_types.declared.item.Outcome.{Outcome}
use Rattle.crash_spec.specs.posix_laws.posix_types.declared.reply.Errno.{Errno}
use Rattle.crash_spec.specs.posix_laws.posix_types.declared.reply.Reply.{Reply}
use Rattle.crash_spec.specs.posix_laws.posix_tables.declared.nodes.Node.{Node}
use Rattle.crash_spec.specs.posix_laws.posix_tables.declared.open.Description.{Description}
use Rattle.crash_spec.specs.posix_laws.posix_tables.block_counts.declared.TheConstants.{LONGEST_FILE, LONGEST_WRITE}
use Rattle.crash_spec.specs.posix_laws.posix_tables.Bytes.{bytes_from, moved_place, overwritten, resized}
use Rattle.crash_spec.specs.posix_laws.posix_tables.NameRows.{list_rows, mkdir_rows, open_rows, rename_rows, rmdir_rows, stat_rows, unlink_rows}
use Rattle.crash_spec.specs.posix_laws.posix_tables.Names.{directory_stands, exists_at, file_stands, names_in, node_at_path, number_at}
use Rattle.crash_spec.specs.posix_laws.posix_tables.Nodes.{is_directory, node_at, published_node, published_of}
use Rattle.crash_spec.specs.posix_laws.posix_tables.Open.{closed, is_full, key_of, next_descriptor, opened, with_descriptor, with_offset, with_opened}
use Rattle.crash_spec.specs.posix_laws.posix_tables.Outcomes.{answer, first, idle_row, row, unless}
use Rattle.crash_spec.specs.posix_laws.posix_tables.Room.{growth, write_need}
use Rattle.crash_spec.specs.posix_laws.posix_spec.FileRows.{close_rows, content, dup_rows, file_number, fsync_rows, no_blocks, offset_of, read_rows, seek_base, seek_rows, seek_target, truncate_rows, write_rows, write_start}
use Rattle.crash_spec.specs.posix_laws.posix_spec.Run.{Unfinished}
use Rattle.crash_spec.specs.posix_laws.posix_spec.State.{alone, room, space, State, swept, unnamed, with_file, with_node, with_published}
use Rattle.crash_spec.specs.posix_laws.posix_spec.Step.{close_done, done, dup_done, fsync_done, is_busy as is_elsewhere, list_done, mkdir_done, moved_offset, open_done, opening_number, pread_done, pwrite_done, read_done, rename_done, renamed, rmdir_done, seek_done, stat_done, stat_of, step, stepped, Stepped, truncate_done, unlink_done, write_done, written}
use Rattle.crash_spec.specs.posix_laws.RowLaws.{no_row, none_fits, row-none}
use Rattle.crash_spec.specs.posix_laws.ViewLaws.{content-same, file_number-same, node-same, write_start-same}
use Rattle.crash_spec.specs.posix_laws.Views.{need_of, SameView}
use Rattle.crash_spec.specs.Busy.{handle_node, path_node, waits_for}
use Rattle.commute_laws.specs.Acted.{acted, Change, closed-acted, handle-acted, IsSwept, key_of-acted, made-acted, node-acted, opening-acted, opening_number-acted, option_either, renamed-acted, space-acted, swept-acted, Touches, unknown-acted, unnamed-acted, view-acted, with_descriptor-acted, with_offset-acted, with_opened-acted, with_slot}
use Rattle.commute_laws.specs.Bystanders.{directory_apart, is_open-Opens, no_file, not_not, stands}
use Rattle.commute_laws.specs.Frames.{AreThreads, granted, IsOpened-from, known, LeavesAlone, other_file, other_number, path_apart}
use Rattle.commute_laws.specs.Handles.{key_of-Opens, keys_apart, Opens, Opens-closed, Opens-opened}

-- how many blocks a call takes, if it is accepted; of an unknown handle, none
abbrev pub takes : State → Unfinished → ℕ
takes s (who, Call.Write h x) = cond (is_none (opened s.tables who h)) 0 (need_of s who (Call.Write h x))
takes s (who, Call.Pwrite h start x) = cond (is_none (opened s.tables who h)) 0 (need_of s who (Call.Pwrite h start x))
takes s (who, Call.Truncate h n) = cond (is_none (opened s.tables who h)) 0 (growth (length (content s who h)) n)
takes s c = 0

pub known_takes : (s : State) (who : Who) (h : Handle) (e : Description) (n left : ℕ) → opened s.tables who h ≡ Some e
    → cond (is_none (opened s.tables who h)) 0 n ≤ left → n ≤ left
known_takes s who h e n left is fits = subst (λ (o : Option Description). cond (is_none o) 0 n ≤ left) is fits

-- what a call gave, in a state in which a write in flight has acted besides
abbrev pub besides : Change → Stepped → Stepped
besides c given = record { state = acted given.state c; outcome = given.outcome }

besides-stepped : (s : State) (c : Change) (o new : Option Outcome) (last after : Stepped) → new ≡ o
    → (o ≡ None → after ≡ besides c last) → stepped (acted s c) new after ≡ besides c (stepped s o last)
besides-stepped s c o new last after rows same = ap (λ x. stepped (acted s c) x after) rows ∙ by o same where
  by : (x : Option Outcome) → (x ≡ None → after ≡ besides c last)
      → stepped (acted s c) x after ≡ besides c (stepped s x last)
  by None gives = gives refl
  by (Some outcome) gives = refl

-- ---- calls of names

commutes_mkdir : (s : State) (who : Who) (h : Handle) (c : Change) (p : List (List ℕ)) (who2 : Who)
    → Touches s who h c → step (acted s c) who2 (Call.Mkdir p) ≡ besides c (step s who2 (Call.Mkdir p))
unfolding mkdir_done
commutes_mkdir s who h c p who2 t =
    besides-stepped s c _ _ _ _ (ap (λ sp. first (mkdir_rows sp p)) (space-acted s who h c t)) (λ none. ap (λ x. done x Reply.Ok) (made-acted s who h c p Node.Directory t))

commutes_rmdir : (s : State) (who : Who) (h : Handle) (c : Change) (p : List (List ℕ)) (who2 : Who)
    → Touches s who h c → step (acted s c) who2 (Call.Rmdir p) ≡ besides c (step s who2 (Call.Rmdir p))
unfolding rmdir_done rmdir_rows
commutes_rmdir s who h c p who2 t =
    let names = space-acted s who h c t in
    besides-stepped s c (first (rmdir_rows (space s) p)) _ _ _ (ap (λ sp. first (rmdir_rows sp p)) names) (λ none.
    let each = none_fits (rmdir_rows (space s) p) none in
    let there = not_not (is_some (node_at_path (space s) p)) (no_row _ _ (each 3 None (lit< tt))) in
    let directory = no_file (is_directory s.nodes) (node_at_path (space s) p) there (no_row _ _ (each 4 None (lit< tt))) in
    let other = directory_apart s (number_at (space s) p) c.node t.before t.is directory in
    (λ i. done (with_node (unnamed-acted s who h c p t i) (number_at (names i) p) Node.Gone) Reply.Ok)
    ∙ ap (λ x. done x Reply.Ok) (node-acted (unnamed s p) c (number_at (space s) p) Node.Gone other))

held_swept : (s m : State) (who : Who) (h : Handle) (c : Change) → Touches s who h c → m.tables ≡ s.tables → IsSwept m c
held_swept s m who h c t same =
    let o : Opens m.tables who h c.key t.by = subst (λ x. Opens x who h c.key t.by) (sym same) t.opens in
    record { by = t.by; stands = o.stands; by_node = t.by_node; to_node = t.to_node; held_open = is_open-Opens m.tables who h c.key c.node t.by o t.by_node }

unnamed_tables : (s : State) (p : List (List ℕ)) → (unnamed s p).tables ≡ s.tables
unfolding unnamed
unnamed_tables s p = refl

renamed_tables : (s : State) (p q : List (List ℕ)) → (renamed s p q).tables ≡ s.tables
unfolding renamed
renamed_tables s p q = refl

renamed_nodes : (s : State) (p q : List (List ℕ)) → (renamed s p q).nodes ≡ s.nodes
unfolding renamed
renamed_nodes s p q = refl

commutes_unlink : (s : State) (who : Who) (h : Handle) (c : Change) (p : List (List ℕ)) (who2 : Who)
    → Touches s who h c → step (acted s c) who2 (Call.Unlink p) ≡ besides c (step s who2 (Call.Unlink p))
unfolding unlink_done
commutes_unlink s who h c p who2 t =
    let names = space-acted s who h c t in
    besides-stepped s c _ _ _ _ (ap (λ sp. first (unlink_rows sp p)) names) (λ none.
    (λ i. done (swept alone (unnamed-acted s who h c p t i) (number_at (names i) p)) Reply.Ok)
    ∙ ap (λ x. done x Reply.Ok) (swept-acted (unnamed s p) c (number_at (space s) p) (held_swept s (unnamed s p) who h c t (unnamed_tables s p))))

commutes_rename : (s : State) (who : Who) (h : Handle) (c : Change) (p q : List (List ℕ)) (who2 : Who)
    → Touches s who h c → step (acted s c) who2 (Call.Rename p q) ≡ besides c (step s who2 (Call.Rename p q))
unfolding rename_done
commutes_rename s who h c p q who2 t =
    let names = space-acted s who h c t in
    besides-stepped s c _ _ _ _ (ap (λ sp. first (rename_rows sp p q)) names) (λ none.
    (λ i. (let m : State = renamed-acted s who h c p q t i in
    done (cond (directory_stands (names i) q) (with_node m (number_at (names i) q) Node.Gone) (cond (file_stands (names i) q) (swept alone m (number_at (names i) q)) m)) Reply.Ok))
    ∙ ap (λ x. done x Reply.Ok) (by (directory_stands (space s) q) (file_stands (space s) q) (stands (is_directory s.nodes) (node_at_path (space s) q))))
  where
    by : (b d : Bool) → (b ≡ true → is_directory s.nodes (number_at (space s) q) ≡ true)
        → cond b (with_node (acted (renamed s p q) c) (number_at (space s) q) Node.Gone) (cond d (swept alone (acted (renamed s p q) c) (number_at (space s) q)) (acted (renamed s p q) c))
        ≡ acted (cond b (with_node (renamed s p q) (number_at (space s) q) Node.Gone) (cond d (swept alone (renamed s p q) (number_at (space s) q)) (renamed s p q))) c
    by true d directory = node-acted (renamed s p q) c (number_at (space s) q) Node.Gone (directory_apart s (number_at (space s) q) c.node t.before t.is (directory refl))
    by false true directory = swept-acted (renamed s p q) c (number_at (space s) q) (held_swept s (renamed s p q) who h c t (renamed_tables s p q))
    by false false directory = refl

commutes_stat : (s : State) (who : Who) (h : Handle) (c : Change) (p : List (List ℕ)) (who2 : Who) → Touches s who h c
    → path_node s p ≢ Some c.node → step (acted s c) who2 (Call.Stat p) ≡ besides c (step s who2 (Call.Stat p))
unfolding stat_done stat_rows
commutes_stat s who h c p who2 t aside =
    let names = space-acted s who h c t in
    besides-stepped s c (first (stat_rows (space s) p)) _ _ _ (ap (λ sp. first (stat_rows sp p)) names) (λ none.
    let each = none_fits (stat_rows (space s) p) none in
    let short = no_row _ _ (each 0 None (lit< tt)) in
    let there = not_not (exists_at (space s) p) (no_row _ _ (each 2 None (lit< tt))) in
    let other = path_apart s p c.node short there aside in
    let node = get_or-set_other s.nodes c.node (number_at (space s) p) (Node.File c.file) Node.Gone (λ same. other (sym same)) in
    ap (λ sp. done (acted s c) (Reply.Stat (stat_of (node_at (acted s c).nodes (number_at sp p))))) names
    ∙ ap (λ x. done (acted s c) (Reply.Stat (stat_of x))) node)

commutes_list : (s : State) (who : Who) (h : Handle) (c : Change) (p : List (List ℕ)) (who2 : Who) → Touches s who h c
    → step (acted s c) who2 (Call.List p) ≡ besides c (step s who2 (Call.List p))
unfolding list_done
commutes_list s who h c p who2 t =
    let names = space-acted s who h c t in
    besides-stepped s c _ _ _ _ (ap (λ sp. first (list_rows sp p)) names) (λ none. ap (λ sp. done (acted s c) (Reply.Names (names_in s.entries (number_at sp p)))) names)

-- ---- calls that change what is open

commutes_open : (s : State) (who : Who) (h : Handle) (c : Change) (h2 : Handle) (p : List (List ℕ)) (f : Flags) (who2 : Who)
    → Touches s who h c → (f.truncate ≡ true → path_node s p ≢ Some c.node)
    → step (acted s c) who2 (Call.Open h2 p f) ≡ besides c (step s who2 (Call.Open h2 p f))
unfolding open_done
commutes_open s who h c h2 p f who2 t aside =
    let names = space-acted s who h c t in
    besides-stepped s c (first (open_rows (space s) (is_full s.tables) (is_elsewhere alone s p) p f)) _ _ _ (ap (λ sp. first (open_rows sp (is_full s.tables) false p f)) names) (λ none.
    let accepted = IsOpened-from s p f none in
    let number = opening_number-acted s who h c p t in
    let new : ℕ → Description = λ n. record { node = n; offset = 0; flags = f } in
    let left = opening-acted s who h c p f.truncate t (λ cuts there. path_apart s p c.node accepted.short there (aside cuts)) in
    let tables = ap (λ n. with_opened (with_slot s.tables c) who2 h2 (new n)) number ∙ with_opened-acted s.tables c t.by who2 h2 (new (opening_number s p)) t.opens.stands in
    λ i. done (record (left i) { tables = tables i }) (Reply.Fd (next_descriptor s.tables)))

-- what is known of a handle of another file
record IsOther (s : State) (c : Change) (who2 : Who) (h2 : Handle) : Type 0 where
  of : Description
  is : opened s.tables who2 h2 ≡ Some of
  apart : c.node ≢ of.node
  view : SameView s (acted s c) who2 h2
  key : ℕ
  opens : Opens s.tables who2 h2 key of
  keys : c.key ≢ key

other_of : (s : State) (who : Who) (h : Handle) (c : Change) (who2 : Who) (h2 : Handle) (e : Description)
    → Touches s who h c → handle_node s who2 h2 ≢ Some c.node → opened s.tables who2 h2 ≡ Some e → IsOther s c who2 h2
other_of s who h c who2 h2 e t aside is =
    let apart = other_file s who2 h2 c.node e aside is in
    let found = Opens-opened s.tables who2 h2 e is in
    record {
      of = e;
      is = is;
      apart = apart;
      view = view-acted s who who2 h h2 c e t is apart;
      key = found.0;
      opens = found.1;
      keys = keys_apart s.tables c.key found.0 t.by e t.opens.stands found.1.stands (λ same. apart (sym t.by_node ∙ same));
    }

published-acted : (s : State) (c : Change) (who2 : Who) (h2 : Handle) → IsOther s c who2 h2
    → with_published (acted s c) (file_number (acted s c).tables who2 h2) ≡ acted (with_published s (file_number s.tables who2 h2)) c
unfolding with_published
published-acted s c who2 h2 o =
    let number = file_number-same s (acted s c) who2 h2 o.view in
    let node = node-same s (acted s c) who2 h2 o.view in
    (λ i. with_node (acted s c) (number i) (published_node (node i)))
    ∙ node-acted s c (file_number s.tables who2 h2) (published_node (node_at s.nodes (file_number s.tables who2 h2))) (other_number s who2 h2 c.node o.of o.is o.apart)

commutes_close : (s : State) (who : Who) (h : Handle) (c : Change) (h2 : Handle) (who2 : Who) → Touches s who h c
    → AreThreads who who2 → handle_node s who2 h2 ≢ Some c.node
    → step (acted s c) who2 (Call.Close h2) ≡ besides c (step s who2 (Call.Close h2))
unfolding close_done
commutes_close s who h c h2 who2 t threads aside =
    besides-stepped s c (first (close_rows s.tables who2 h2)) _ _ _ (ap (λ (o : Option Description). first (row (is_none o) Errno.EBADF ∷ [])) (handle-acted s who who2 h h2 c t aside)) (λ none.
    let is = known (opened s.tables who2 h2) (no_row _ _ ((none_fits (close_rows s.tables who2 h2) none) 0 None (lit< tt))) in
    let o = other_of s who h c who2 h2 is.0 t aside is.1 in
    let file : ℕ = file_number s.tables who2 h2 in
    let m : State = record (with_published s file) { tables = closed s.tables who2 h2 } in
    let tables = closed-acted s.tables c who2 h2 o.key o.of o.opens o.keys in
    let number = file_number-same s (acted s c) who2 h2 o.view in
    let still = Opens-closed s.tables who who2 h h2 c.key t.by o.of threads.other threads.thread threads.own o.is (λ same. o.apart (sym t.by_node ∙ same)) t.opens in
    let swept_there : IsSwept m c = record {
      by = t.by;
      stands = still.stands;
      by_node = t.by_node;
      to_node = t.to_node;
      held_open = is_open-Opens (closed s.tables who2 h2) who h c.key c.node t.by still t.by_node;
    } in
    (λ i. done (swept alone (record (published-acted s c who2 h2 o i) { tables = tables i }) (number i)) Reply.Ok)
    ∙ ap (λ x. done x Reply.Ok) (swept-acted m c file swept_there))

commutes_dup : (s : State) (who : Who) (h : Handle) (c : Change) (h2 g : Handle) (who2 : Who) → Touches s who h c
    → handle_node s who2 h2 ≢ Some c.node
    → step (acted s c) who2 (Call.Dup h2 g) ≡ besides c (step s who2 (Call.Dup h2 g))
unfolding dup_done dup_rows
commutes_dup s who h c h2 g who2 t aside =
    besides-stepped s c (first (dup_rows s.tables who2 h2)) _ _ _
    (ap (λ (o : Option Description). first (row (is_none o) Errno.EBADF ∷ row (is_full s.tables) Errno.EMFILE ∷ [])) (handle-acted s who who2 h h2 c t aside)) (λ none.
    ap (λ x. done (record (acted s c) { tables = x }) (Reply.Fd (next_descriptor s.tables)))
    (ap (λ k. with_descriptor (with_slot s.tables c) who2 g (unwrap_or k 0)) (key_of-acted s.tables c who2 h2) ∙ with_descriptor-acted s.tables c who2 g (unwrap_or (key_of s.tables who2 h2) 0)))

-- ---- calls that read, and seeks

offset-acted : (s m : State) (c : Change) (who2 : Who) (h2 : Handle) (offset : ℕ) → IsOther s c who2 h2
    → m.tables ≡ s.tables → moved_offset (acted m c) who2 h2 offset ≡ acted (moved_offset m who2 h2 offset) c
offset-acted s m c who2 h2 offset o same =
    let opens : Opens m.tables who2 h2 o.key o.of = subst (λ x. Opens x who2 h2 o.key o.of) (sym same) o.opens in
    let key : unwrap_or (key_of m.tables who2 h2) 0 ≡ o.key = ap (λ x. unwrap_or x 0) (key_of-Opens m.tables who2 h2 o.key o.of opens) in
    let first_key : unwrap_or (key_of (with_slot m.tables c) who2 h2) 0 ≡ o.key = ap (λ x. unwrap_or x 0) (key_of-acted m.tables c who2 h2) ∙ key in
    let tables = ap (λ k. with_offset (with_slot m.tables c) k offset) first_key ∙ with_offset-acted m.tables c o.key offset o.of opens.stands (λ one. o.keys (sym one)) ∙ ap (λ k. with_slot (with_offset m.tables k offset) c) (sym key) in
    λ i. record (acted m c) { tables = tables i }

offset_of-same : (s new : State) (who : Who) (h : Handle) → SameView s new who h
    → offset_of new.tables who h ≡ offset_of s.tables who h
offset_of-same s new who h view = ap (λ (o : Option Description). option_map_or (λ d. d.offset) o 0) view.handle

read_rows-acted : (s : State) (who : Who) (h : Handle) (c : Change) (who2 : Who) (h2 : Handle) → Touches s who h c
    → handle_node s who2 h2 ≢ Some c.node
    → first (read_rows (acted s c).tables who2 h2) ≡ first (read_rows s.tables who2 h2)
read_rows-acted s who h c who2 h2 t aside = ap (λ (o : Option Description). first (row (not (option_map_or (λ d. d.flags.read) o false)) Errno.EBADF ∷ [])) (handle-acted s who who2 h h2 c t aside)

read_other : (s : State) (who : Who) (h : Handle) (c : Change) (who2 : Who) (h2 : Handle) → Touches s who h c
    → handle_node s who2 h2 ≢ Some c.node → first (read_rows s.tables who2 h2) ≡ None → IsOther s c who2 h2
read_other s who h c who2 h2 t aside none =
    let is = granted (λ d. d.flags.read) (opened s.tables who2 h2) (not_not _ (no_row _ _ ((none_fits (read_rows s.tables who2 h2) none) 0 None (lit< tt)))) in
    other_of s who h c who2 h2 is.0 t aside is.1

commutes_read : (s : State) (who : Who) (h : Handle) (c : Change) (h2 : Handle) (n : ℕ) (who2 : Who)
    → Touches s who h c → handle_node s who2 h2 ≢ Some c.node
    → step (acted s c) who2 (Call.Read h2 n) ≡ besides c (step s who2 (Call.Read h2 n))
unfolding read_done
commutes_read s who h c h2 n who2 t aside =
    besides-stepped s c (first (read_rows s.tables who2 h2)) _ _ _ (read_rows-acted s who h c who2 h2 t aside) (λ none.
    let o = read_other s who h c who2 h2 t aside none in
    let bytes = content-same s (acted s c) who2 h2 o.view in
    let offset = offset_of-same s (acted s c) who2 h2 o.view in
    (λ i. (let got : List ℕ = bytes_from (bytes i) (offset i) n in done (moved_offset (acted s c) who2 h2 (offset i + length got)) (Reply.Bytes got)))
    ∙ (let got : List ℕ = bytes_from (content s who2 h2) (offset_of s.tables who2 h2) n in ap (λ x. done x (Reply.Bytes got)) (offset-acted s s c who2 h2 (offset_of s.tables who2 h2 + length got) o refl)))

commutes_pread : (s : State) (who : Who) (h : Handle) (c : Change) (h2 : Handle) (place n : ℕ) (who2 : Who)
    → Touches s who h c → handle_node s who2 h2 ≢ Some c.node
    → step (acted s c) who2 (Call.Pread h2 place n) ≡ besides c (step s who2 (Call.Pread h2 place n))
unfolding pread_done
commutes_pread s who h c h2 place n who2 t aside =
    besides-stepped s c (first (read_rows s.tables who2 h2)) _ _ _ (read_rows-acted s who h c who2 h2 t aside) (λ none.
    let o = read_other s who h c who2 h2 t aside none in
    ap (λ bytes. done (acted s c) (Reply.Bytes (bytes_from bytes place n))) (content-same s (acted s c) who2 h2 o.view))

seek_base-same : (s new : State) (who : Who) (h : Handle) (w : Whence) → SameView s new who h
    → seek_base new who h w ≡ seek_base s who h w
seek_base-same s new who h Whence.Set view = refl
seek_base-same s new who h Whence.Cur view = offset_of-same s new who h view
seek_base-same s new who h Whence.End view = ap length (content-same s new who h view)

seek_last : (s : State) (c : Change) (h2 : Handle) (w : Whence) (by : ℤ) (who2 : Who) → IsOther s c who2 h2
    → seek_done (acted s c) who2 h2 w by ≡ besides c (seek_done s who2 h2 w by)
unfolding seek_done
seek_last s c h2 w by who2 o =
    ap (λ n. (let place : ℕ = unwrap_or (moved_place n by) 0 in done (moved_offset (acted s c) who2 h2 place) (Reply.Offset place))) (seek_base-same s (acted s c) who2 h2 w o.view)
    ∙ (let place : ℕ = unwrap_or (seek_target s who2 h2 w by) 0 in ap (λ x. done x (Reply.Offset place)) (offset-acted s s c who2 h2 place o refl))

-- a call whose handle is unknown is refused before and after
both_refused : (s : State) (c : Change) (o new : Option Outcome) (last after : Stepped) (out : Outcome) → o ≡ Some out
    → new ≡ Some out → stepped (acted s c) new after ≡ besides c (stepped s o last)
both_refused s c o new last after out is is_new = ap (λ x. stepped (acted s c) x after) is_new ∙ sym (ap (λ x. besides c (stepped s x last)) is)

seek_unknown : (s : State) (h2 : Handle) (w : Whence) (by : ℤ) (who2 : Who) → opened s.tables who2 h2 ≡ None
    → first (seek_rows s who2 h2 w by) ≡ Some (answer (Reply.Error Errno.EBADF))
unfolding seek_rows
seek_unknown s h2 w by who2 none = rw none refl

commutes_seek : (s : State) (who : Who) (h : Handle) (c : Change) (h2 : Handle) (w : Whence) (by : ℤ) (who2 : Who)
    → Touches s who h c → handle_node s who2 h2 ≢ Some c.node
    → step (acted s c) who2 (Call.Seek h2 w by) ≡ besides c (step s who2 (Call.Seek h2 w by))
unfolding seek_rows
commutes_seek s who h c h2 w by who2 t aside = elim (option_either (opened s.tables who2 h2)) [
  | inl none ↦ both_refused s c _ _ _ _ (answer (Reply.Error Errno.EBADF)) (seek_unknown s h2 w by who2 none) (seek_unknown (acted s c) h2 w by who2 (unknown-acted s who who2 h h2 c t none))
  | inr some ↦
      let o = other_of s who h c who2 h2 some.0 t aside some.1 in
      let base = seek_base-same s (acted s c) who2 h2 w o.view in
      let view = o.view in
      besides-stepped s c (first (seek_rows s who2 h2 w by)) (first (seek_rows (acted s c) who2 h2 w by)) _ _
      (λ i. first (row (is_none (view.handle i)) Errno.EBADF ∷ row (is_none (moved_place (base i) by)) Errno.EINVAL ∷ [])) (λ none. seek_last s c h2 w by who2 o)
]

commutes_fsync : (s : State) (who : Who) (h : Handle) (c : Change) (h2 : Handle) (who2 : Who) → Touches s who h c
    → handle_node s who2 h2 ≢ Some c.node
    → step (acted s c) who2 (Call.Fsync h2) ≡ besides c (step s who2 (Call.Fsync h2))
unfolding fsync_done
commutes_fsync s who h c h2 who2 t aside =
    besides-stepped s c (first (fsync_rows s.tables who2 h2)) _ _ _ (ap (λ (o : Option Description). first (row (is_none o) Errno.EBADF ∷ [])) (handle-acted s who who2 h h2 c t aside)) (λ none.
    let is = known (opened s.tables who2 h2) (no_row _ _ ((none_fits (fsync_rows s.tables who2 h2) none) 0 None (lit< tt))) in
    let o = other_of s who h c who2 h2 is.0 t aside is.1 in
    ap (λ x. done x Reply.Ok) (published-acted s c who2 h2 o))

-- ---- calls that take room

pub below_not : (m n : ℕ) → n ≤ m → nat_lt m n ≡ false
below_not m n le = grind (arith, nat_tests)

no_blocks-none : (s : State) (need : ℕ) → need ≤ room s → no_blocks s need ≡ None
no_blocks-none s need fits = row-none _ _ (below_not (room s) need fits)

write_unknown : (s : State) (h2 : Handle) (start : ℕ) (x : List ℕ) (who2 : Who) → opened s.tables who2 h2 ≡ None
    → first (write_rows s who2 h2 start x) ≡ Some (answer (Reply.Error Errno.EBADF))
unfolding write_rows
write_unknown s h2 start x who2 none = rw none refl

-- a write at another file has the same rows, where it finds room
write_rows-same : (s : State) (c : Change) (h2 : Handle) (from start : ℕ) (x : List ℕ) (who2 : Who)
    → SameView s (acted s c) who2 h2 → from ≡ start
    → write_need s.mode (length (content s who2 h2)) start (start + length x) ≤ room s
    → write_need s.mode (length (content s who2 h2)) start (start + length x) ≤ room (acted s c)
    → first (write_rows (acted s c) who2 h2 from x) ≡ first (write_rows s who2 h2 start x)
unfolding write_rows
write_rows-same s c h2 from start x who2 view begins before after =
    let long = ap length (content-same s (acted s c) who2 h2 view) in
    let blocks : no_blocks (acted s c) (write_need s.mode (length (content (acted s c) who2 h2)) from (from + length x)) ≡ no_blocks s (write_need s.mode (length (content s who2 h2)) start (start + length x)) =
    (λ i. no_blocks (acted s c) (write_need s.mode (long i) (begins i) (begins i + length x))) ∙ no_blocks-none (acted s c) _ after ∙ sym (no_blocks-none s _ before) in
    λ i. first (
    row (not (option_map_or (λ d. d.flags.write) (view.handle i) false)) Errno.EBADF
    ∷ row (nat_lt LONGEST_WRITE (length x)) Errno.EINVAL
    ∷ idle_row (length x == 0) (Reply.Count 0)
    ∷ row (nat_lt LONGEST_FILE (begins i + length x)) Errno.EFBIG
    ∷ blocks i
    ∷ []
    )

written-acted : (s : State) (c : Change) (h2 : Handle) (from start : ℕ) (x : List ℕ) (who2 : Who)
    → IsOther s c who2 h2 → from ≡ start
    → written alone (acted s c) who2 h2 from x ≡ acted (written alone s who2 h2 start x) c
unfolding written with_file
written-acted s c h2 from start x who2 o begins =
    let number = file_number-same s (acted s c) who2 h2 o.view in
    let node = node-same s (acted s c) who2 h2 o.view in
    let bytes = content-same s (acted s c) who2 h2 o.view in
    (λ i. with_node (acted s c) (number i) (Node.File (record { bytes = overwritten (bytes i) (begins i) x; published = published_of (node i) })))
    ∙ node-acted s c (file_number s.tables who2 h2) _ (other_number s who2 h2 c.node o.of o.is o.apart)

pub written_tables : (s : State) (who : Who) (h : Handle) (start : ℕ) (x : List ℕ)
    → (written alone s who h start x).tables ≡ s.tables
unfolding written with_file
written_tables s who h start x = refl

commutes_write : (s : State) (who : Who) (h : Handle) (c : Change) (h2 : Handle) (x : List ℕ) (who2 : Who)
    → Touches s who h c → handle_node s who2 h2 ≢ Some c.node
    → takes s (who2, Call.Write h2 x) ≤ room s → takes s (who2, Call.Write h2 x) ≤ room (acted s c)
    → step (acted s c) who2 (Call.Write h2 x) ≡ besides c (step s who2 (Call.Write h2 x))
unfolding write_done
commutes_write s who h c h2 x who2 t aside before after = elim (option_either (opened s.tables who2 h2)) [
  | inl none ↦
      both_refused s c _ _ _ _ (answer (Reply.Error Errno.EBADF)) (write_unknown s h2 (write_start s who2 h2) x who2 none)
      (write_unknown (acted s c) h2 (write_start (acted s c) who2 h2) x who2 (unknown-acted s who who2 h h2 c t none))
  | inr some ↦
      let o = other_of s who h c who2 h2 some.0 t aside some.1 in
      let begins = write_start-same s (acted s c) who2 h2 o.view in
      let start : ℕ = write_start s who2 h2 in
      besides-stepped s c _ _ _ _ (write_rows-same s c h2 (write_start (acted s c) who2 h2) start x who2 o.view begins (known_takes s who2 h2 some.0 _ (room s) some.1 before) (known_takes s who2 h2 some.0 _ (room (acted s c)) some.1 after)) (λ none.
      (λ i. done (moved_offset (written-acted s c h2 (write_start (acted s c) who2 h2) start x who2 o begins i) who2 h2 (begins i + length x)) (Reply.Count (length x)))
      ∙ ap (λ m. done m (Reply.Count (length x))) (offset-acted s (written alone s who2 h2 start x) c who2 h2 (start + length x) o (written_tables s who2 h2 start x)))
]

commutes_pwrite : (s : State) (who : Who) (h : Handle) (c : Change) (h2 : Handle) (start : ℕ) (x : List ℕ) (who2 : Who)
    → Touches s who h c → handle_node s who2 h2 ≢ Some c.node
    → takes s (who2, Call.Pwrite h2 start x) ≤ room s → takes s (who2, Call.Pwrite h2 start x) ≤ room (acted s c)
    → step (acted s c) who2 (Call.Pwrite h2 start x) ≡ besides c (step s who2 (Call.Pwrite h2 start x))
unfolding pwrite_done
commutes_pwrite s who h c h2 start x who2 t aside before after = elim (option_either (opened s.tables who2 h2)) [
  | inl none ↦
      both_refused s c _ _ _ _ (answer (Reply.Error Errno.EBADF)) (write_unknown s h2 start x who2 none) (write_unknown (acted s c) h2 start x who2 (unknown-acted s who who2 h h2 c t none))
  | inr some ↦
      let o = other_of s who h c who2 h2 some.0 t aside some.1 in
      besides-stepped s c _ _ _ _ (write_rows-same s c h2 start start x who2 o.view refl (known_takes s who2 h2 some.0 _ (room s) some.1 before) (known_takes s who2 h2 some.0 _ (room (acted s c)) some.1 after)) (λ none. ap (λ m. done m (Reply.Count (length x))) (written-acted s c h2 start start x who2 o refl))
]

truncate_unknown : (s : State) (h2 : Handle) (n : ℕ) (who2 : Who) → opened s.tables who2 h2 ≡ None
    → first (truncate_rows s who2 h2 n) ≡ Some (answer (Reply.Error Errno.EBADF))
unfolding truncate_rows
truncate_unknown s h2 n who2 none = rw none refl

truncate_rows-same : (s : State) (c : Change) (h2 : Handle) (n : ℕ) (who2 : Who) → SameView s (acted s c) who2 h2
    → growth (length (content s who2 h2)) n ≤ room s → growth (length (content s who2 h2)) n ≤ room (acted s c)
    → first (truncate_rows (acted s c) who2 h2 n) ≡ first (truncate_rows s who2 h2 n)
unfolding truncate_rows
truncate_rows-same s c h2 n who2 view before after =
    let long = ap length (content-same s (acted s c) who2 h2 view) in
    let blocks : no_blocks (acted s c) (growth (length (content (acted s c) who2 h2)) n) ≡ no_blocks s (growth (length (content s who2 h2)) n) =
    ap (λ k. no_blocks (acted s c) (growth k n)) long ∙ no_blocks-none (acted s c) _ after ∙ sym (no_blocks-none s _ before) in
    λ i. first (
    row (not (option_map_or (λ d. d.flags.write) (view.handle i) false)) Errno.EBADF
    ∷ row (nat_lt LONGEST_FILE n) Errno.EFBIG
    ∷ unless (nat_le n (long i)) (blocks i)
    ∷ []
    )

truncate_last : (s : State) (c : Change) (h2 : Handle) (n : ℕ) (who2 : Who) → IsOther s c who2 h2
    → truncate_done (acted s c) who2 h2 n ≡ besides c (truncate_done s who2 h2 n)
unfolding truncate_done with_file
truncate_last s c h2 n who2 o =
    let number = file_number-same s (acted s c) who2 h2 o.view in
    let bytes = content-same s (acted s c) who2 h2 o.view in
    ap (λ x. done x Reply.Ok) (
    (λ i. with_node (acted s c) (number i) (Node.File (record { bytes = resized (bytes i) n; published = n })))
    ∙ node-acted s c (file_number s.tables who2 h2) _ (other_number s who2 h2 c.node o.of o.is o.apart)
    )

commutes_truncate : (s : State) (who : Who) (h : Handle) (c : Change) (h2 : Handle) (n : ℕ) (who2 : Who)
    → Touches s who h c → handle_node s who2 h2 ≢ Some c.node
    → takes s (who2, Call.Truncate h2 n) ≤ room s → takes s (who2, Call.Truncate h2 n) ≤ room (acted s c)
    → step (acted s c) who2 (Call.Truncate h2 n) ≡ besides c (step s who2 (Call.Truncate h2 n))
commutes_truncate s who h c h2 n who2 t aside before after = elim (option_either (opened s.tables who2 h2)) [
  | inl none ↦
      both_refused s c _ _ _ _ (answer (Reply.Error Errno.EBADF)) (truncate_unknown s h2 n who2 none) (truncate_unknown (acted s c) h2 n who2 (unknown-acted s who who2 h h2 c t none))
  | inr some ↦
      let o = other_of s who h c who2 h2 some.0 t aside some.1 in
      besides-stepped s c _ _ _ _ (truncate_rows-same s c h2 n who2 o.view (known_takes s who2 h2 some.0 _ (room s) some.1 before) (known_takes s who2 h2 some.0 _ (room (acted s c)) some.1 after)) (λ none. truncate_last s c h2 n who2 o)
]

-- ---- all calls

-- THE CALL AND THE CHANGE COMMUTE: state and outcome.
pub step-acted : (s : State) (who : Who) (h : Handle) (c : Change) (who2 : Who) (call : Call) → Touches s who h c
    → AreThreads who who2 → LeavesAlone s (who2, call) c.node
    → takes s (who2, call) ≤ room s → takes s (who2, call) ≤ room (acted s c)
    → step (acted s c) who2 call ≡ besides c (step s who2 call)
unfolding waits_for
step-acted s who h c who2 (Call.Mkdir p) t threads aside before after = commutes_mkdir s who h c p who2 t
step-acted s who h c who2 (Call.Rmdir p) t threads aside before after = commutes_rmdir s who h c p who2 t
step-acted s who h c who2 (Call.Unlink p) t threads aside before after = commutes_unlink s who h c p who2 t
step-acted s who h c who2 (Call.Rename p q) t threads aside before after = commutes_rename s who h c p q who2 t
step-acted s who h c who2 (Call.Open h2 p f) t threads aside before after = commutes_open s who h c h2 p f who2 t (λ cuts. subst (λ b. cond b (path_node s p) None ≢ Some c.node) cuts aside)
step-acted s who h c who2 (Call.Close h2) t threads aside before after = commutes_close s who h c h2 who2 t threads aside
step-acted s who h c who2 (Call.Dup h2 g) t threads aside before after = commutes_dup s who h c h2 g who2 t aside
step-acted s who h c who2 (Call.Read h2 n) t threads aside before after = commutes_read s who h c h2 n who2 t aside
step-acted s who h c who2 (Call.Pread h2 o n) t threads aside before after = commutes_pread s who h c h2 o n who2 t aside
step-acted s who h c who2 (Call.Write h2 x) t threads aside before after = commutes_write s who h c h2 x who2 t aside before after
step-acted s who h c who2 (Call.Pwrite h2 o x) t threads aside before after = commutes_pwrite s who h c h2 o x who2 t aside before after
step-acted s who h c who2 (Call.Seek h2 w by) t threads aside before after = commutes_seek s who h c h2 w by who2 t aside
step-acted s who h c who2 (Call.Truncate h2 n) t threads aside before after = commutes_truncate s who h c h2 n who2 t aside before after
step-acted s who h c who2 (Call.Fsync h2) t threads aside before after = commutes_fsync s who h c h2 who2 t aside
step-acted s who h c who2 (Call.Stat p) t threads aside before after = commutes_stat s who h c p who2 t aside
step-acted s who h c who2 (Call.List p) t threads aside before after = commutes_list s who h c p who2 t
