-- What stays whatever calls are made: the shape, and that nodes are never fewer.
use Rattle.std.specs.Prelude.{◌≡◌, ◌≤◌, ◌||◌, ℕ, Bool, true, false, cond, List, [], ◌∷◌, length, ℤ, refl}
use Rattle.std.proofs.Common.{arith, ◌∙◌}
use Rattle.std.proofs.lemmas.List.{length-append, length-set}
use Rattle.posix_spec.specs.posix_types.declared.call.Call.{Call}
use Rattle.posix_spec.specs.posix_types.declared.call.Who.{Who}
use Rattle.posix_spec.specs.posix_types.declared.handle.Flags.{Flags}
use Rattle.posix_spec.specs.posix_types.declared.handle.Handle.{Handle}
use Rattle.posix_spec.specs.posix_types.declared.handle.Whence.{Whence}
use Rattle.posix_spec.specs.posix_types.declared.item.Item.{Item}
use Rattle.posix_spec.specs.posix_tables.declared.nodes.Node.{Node}
use Rattle.posix_spec.specs.posix_tables.Names.{directory_stands, exists_at, file_stands, is_named, number_at}
use Rattle.posix_spec.specs.posix_tables.Open.{closed, is_open, Tables}
use Rattle.posix_spec.specs.FileRows.{file_number, write_start}
use Rattle.posix_spec.specs.Run.{run}
use Rattle.posix_spec.specs.State.{alone, made, space, State, swept, unnamed, with_file, with_node, with_published}
use Rattle.posix_spec.specs.Step.{close_done, dup_done, empty_file, fsync_done, list_done, mkdir_done, open_done, opening, pread_done, pwrite_done, read_done, rename_done, renamed, rmdir_done, seek_done, stat_done, step, truncate_done, unlink_done, write_done, written}
use Rattle.posix_laws.specs.RowLaws.{stepped-keeps}

pub record Lasts (s t : State) : Type 0 where
  pub shape : t.shape ≡ s.shape
  pub count : length s.nodes ≤ length t.nodes

last_own : (s : State) → Lasts s s
last_own s = record { shape = refl; count = omega arith }

last_node : (s t : State) (n : ℕ) (x : Node) → Lasts s t → Lasts s (with_node t n x)
last_node s t n x is = record { shape = is.shape; count = (let same = length-set t.nodes n x in let count = is.count in omega (arith, same, count)) }

last_tables : (s t : State) (tables : Tables) → Lasts s t → Lasts s (record t { tables = tables })
last_tables s t tables is = record { shape = is.shape; count = is.count }

last_made : (s : State) (p : List (List ℕ)) (x : Node) → Lasts s (made s p x)
unfolding made
last_made s p x = record { shape = refl; count = (let more = length-append s.nodes (x ∷ []) in omega (arith, more)) }

last_unnamed : (s : State) (p : List (List ℕ)) → Lasts s (unnamed s p)
unfolding unnamed
last_unnamed s p = record { shape = refl; count = omega arith }

last_renamed : (s : State) (p q : List (List ℕ)) → Lasts s (renamed s p q)
unfolding renamed
last_renamed s p q = record { shape = refl; count = omega arith }

last_swept : (s t : State) (n : ℕ) → Lasts s t → Lasts s (swept alone t n)
unfolding swept
last_swept s t n is = by (is_named t.entries n || is_open t.tables n) where
  by : (b : Bool) → Lasts s (cond b t (with_node t n Node.Gone))
  by true = is
  by false = last_node s t n Node.Gone is

last_published : (s : State) (n : ℕ) → Lasts s (with_published s n)
unfolding with_published
last_published s n = last_node s s n _ (last_own s)

last_rename : (s : State) (p q : List (List ℕ)) → Lasts s (rename_done alone s p q).state
unfolding rename_done
last_rename s p q = by (directory_stands (space s) q) (file_stands (space s) q) where
  by : (b c : Bool) → Lasts s (cond b (with_node (renamed s p q) (number_at (space s) q) Node.Gone) (cond c (swept alone (renamed s p q) (number_at (space s) q)) (renamed s p q)))
  by true c = last_node s (renamed s p q) (number_at (space s) q) Node.Gone (last_renamed s p q)
  by false true = last_swept s (renamed s p q) (number_at (space s) q) (last_renamed s p q)
  by false false = last_renamed s p q

last_opening : (s : State) (p : List (List ℕ)) (truncate : Bool) → Lasts s (opening s p truncate)
unfolding opening
last_opening s p truncate = by (exists_at (space s) p) truncate where
  by : (b cut : Bool) → Lasts s (cond b (cond cut (with_node s (number_at (space s) p) empty_file) s) (made s p empty_file))
  by true true = last_node s s (number_at (space s) p) empty_file (last_own s)
  by true false = last_own s
  by false cut = last_made s p empty_file

last_close : (s : State) (who : Who) (h : Handle) → Lasts s (close_done alone s who h).state
unfolding close_done
last_close s who h =
    let n : ℕ = file_number s.tables who h in
    let left : State = record (with_published s n) { tables = closed s.tables who h } in
    last_swept s left n (last_tables s (with_published s n) (closed s.tables who h) (last_published s n))

last_written : (s : State) (who : Who) (h : Handle) (start : ℕ) (x : List ℕ) → Lasts s (written alone s who h start x)
unfolding written with_file
last_written s who h start x = last_node s s (file_number s.tables who h) _ (last_own s)

last_open : (s : State) (who : Who) (h : Handle) (p : List (List ℕ)) (f : Flags) → Lasts s (open_done s who h p f).state
unfolding open_done
last_open s who h p f = last_tables s (opening s p f.truncate) _ (last_opening s p f.truncate)

last_dup : (s : State) (who : Who) (h g : Handle) → Lasts s (dup_done s who h g).state
unfolding dup_done
last_dup s who h g = last_tables s s _ (last_own s)

last_read : (s : State) (who : Who) (h : Handle) (n : ℕ) → Lasts s (read_done s who h n).state
unfolding read_done
last_read s who h n = last_tables s s _ (last_own s)

last_write : (s : State) (who : Who) (h : Handle) (x : List ℕ) → Lasts s (write_done alone s who h x).state
unfolding write_done
last_write s who h x = last_tables s (written alone s who h (write_start s who h) x) _ (last_written s who h (write_start s who h) x)

last_seek : (s : State) (who : Who) (h : Handle) (w : Whence) (i : ℤ) → Lasts s (seek_done s who h w i).state
unfolding seek_done
last_seek s who h w i = last_tables s s _ (last_own s)

last_truncate : (s : State) (who : Who) (h : Handle) (n : ℕ) → Lasts s (truncate_done s who h n).state
unfolding truncate_done with_file
last_truncate s who h n = last_node s s (file_number s.tables who h) _ (last_own s)

pub step_lasts : (s : State) (who : Who) (call : Call) → Lasts s (step s who call).state
unfolding mkdir_done rmdir_done unlink_done pread_done pwrite_done fsync_done stat_done list_done
step_lasts s who (Call.Mkdir p) = stepped-keeps (Lasts s) s _ _ (last_own s) (λ none. last_made s p Node.Directory)
step_lasts s who (Call.Rmdir p) = stepped-keeps (Lasts s) s _ _ (last_own s) (λ none. last_node s (unnamed s p) (number_at (space s) p) Node.Gone (last_unnamed s p))
step_lasts s who (Call.Unlink p) = stepped-keeps (Lasts s) s _ _ (last_own s) (λ none. last_swept s (unnamed s p) (number_at (space s) p) (last_unnamed s p))
step_lasts s who (Call.Rename p q) = stepped-keeps (Lasts s) s _ _ (last_own s) (λ none. last_rename s p q)
step_lasts s who (Call.Open h p f) = stepped-keeps (Lasts s) s _ _ (last_own s) (λ none. last_open s who h p f)
step_lasts s who (Call.Close h) = stepped-keeps (Lasts s) s _ _ (last_own s) (λ none. last_close s who h)
step_lasts s who (Call.Dup h g) = stepped-keeps (Lasts s) s _ _ (last_own s) (λ none. last_dup s who h g)
step_lasts s who (Call.Read h n) = stepped-keeps (Lasts s) s _ _ (last_own s) (λ none. last_read s who h n)
step_lasts s who (Call.Pread h o n) = stepped-keeps (Lasts s) s _ _ (last_own s) (λ none. last_own s)
step_lasts s who (Call.Write h x) = stepped-keeps (Lasts s) s _ _ (last_own s) (λ none. last_write s who h x)
step_lasts s who (Call.Pwrite h o x) = stepped-keeps (Lasts s) s _ _ (last_own s) (λ none. last_written s who h o x)
step_lasts s who (Call.Seek h w by) = stepped-keeps (Lasts s) s _ _ (last_own s) (λ none. last_seek s who h w by)
step_lasts s who (Call.Truncate h n) = stepped-keeps (Lasts s) s _ _ (last_own s) (λ none. last_truncate s who h n)
step_lasts s who (Call.Fsync h) = stepped-keeps (Lasts s) s _ _ (last_own s) (λ none. last_published s (file_number s.tables who h))
step_lasts s who (Call.Stat p) = stepped-keeps (Lasts s) s _ _ (last_own s) (λ none. last_own s)
step_lasts s who (Call.List p) = stepped-keeps (Lasts s) s _ _ (last_own s) (λ none. last_own s)

-- and so over a history
pub run_lasts : (s : State) (history : List Item) → Lasts s (run s history)
run_lasts s [] = last_own s
run_lasts s (item ∷ items) =
    let first = step_lasts s item.who item.call in
    let rest = run_lasts (step s item.who item.call).state items in
    record { shape = rest.shape ∙ first.shape; count = (let a = first.count in let b = rest.count in omega (arith, a, b)) }
