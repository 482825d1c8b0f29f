-- The room that a call leaves.
use Rattle.std.specs.Prelude.{◌≡◌, ◌≤◌, ℕ, zero, suc, ◌+◌, ◌-◌, max, Bool, true, false, cond, ◌||◌, List, [], ◌∷◌, length, None, slice_set, refl}
use Rattle.std.proofs.Common.{arith, ap, sym, subst}
use Rattle.std.proofs.lemmas.List.Sums.{sum_by-cons, sum_by_push}
use Rattle.crash_spec.specs.posix_laws.block_counts.Counts.{held_by, reserve_for}
use Rattle.crash_spec.specs.posix_laws.posix_types.declared.call.Call.{Call}
use Rattle.crash_spec.specs.posix_laws.posix_types.declared.call.Who.{Who}
use Rattle.crash_spec.specs.posix_laws.posix_types.declared.handle.Flags.{Flags}
use Rattle.crash_spec.specs.posix_laws.posix_types.declared.handle.Handle.{Handle}
use Rattle.crash_spec.specs.posix_laws.posix_types.declared.reply.Shape.{Shape}
use Rattle.crash_spec.specs.posix_laws.posix_tables.declared.nodes.Node.{Node}
use Rattle.crash_spec.specs.posix_laws.posix_tables.Names.{directory_stands, exists_at, file_stands, is_named, number_at}
use Rattle.crash_spec.specs.posix_laws.posix_tables.Nodes.{bytes_of, node_at, published_node}
use Rattle.crash_spec.specs.posix_laws.posix_tables.Open.{closed, is_open}
use Rattle.crash_spec.specs.posix_laws.posix_tables.Outcomes.{first}
use Rattle.crash_spec.specs.posix_laws.posix_tables.Room.{growth, held}
use Rattle.crash_spec.specs.posix_laws.posix_spec.FileRows.{content, file_number, truncate_rows, write_rows, write_start}
use Rattle.crash_spec.specs.posix_laws.posix_spec.Run.{after_call, Unfinished}
use Rattle.crash_spec.specs.posix_laws.posix_spec.State.{alone, made, room, space, State, swept, unnamed, with_file, with_node, with_published}
use Rattle.crash_spec.specs.posix_laws.posix_spec.Step.{close_done, dup_done, empty_file, fsync_done, list_done, mkdir_done, open_done, opening, pread_done, pwrite_done, read_done, rename_done, renamed, rmdir_done, seek_done, stat_done, truncate_done, unlink_done, write_done, written}
use Rattle.crash_spec.specs.posix_laws.FitsLaws.{length-overwritten, length-resized}
use Rattle.crash_spec.specs.posix_laws.RowLaws.{stepped-keeps}
use Rattle.crash_spec.specs.posix_laws.Views.{need_of}

-- If the call is accepted, what it takes fits beside so many blocks.
abbrev pub FitsBeside : State → Unfinished → ℕ → Type 0
FitsBeside s (who, Call.Write h x) k = first (write_rows s who h (write_start s who h) x) ≡ None → need_of s who (Call.Write h x) + k ≤ room s
FitsBeside s (who, Call.Pwrite h start x) k = first (write_rows s who h start x) ≡ None → need_of s who (Call.Pwrite h start x) + k ≤ room s
FitsBeside s (who, Call.Truncate h n) k = first (truncate_rows s who h n) ≡ None → growth (length (content s who h)) n + k ≤ room s
FitsBeside s c k = Unit {0}

-- what a node holds
abbrev pub weight : Node → ℕ
weight node = held_by (length (bytes_of node))

-- The files hold at most so many blocks more, in the same shape.
pub record Grows (s new : State) (most : ℕ) : Type 0 where
  pub held_is : held new.nodes ≤ held s.nodes + most
  pub shape : new.shape ≡ s.shape

-- what the call leaves of the room
pub room-Grows : (s new : State) (most k : ℕ) → Grows s new most → most + k ≤ room s → k ≤ room new
room-Grows s new most k grows fits =
    let same : room new ≡ s.shape.data_blocks - reserve_for s.shape.data_blocks - held new.nodes = ap (λ (x : Shape). x.data_blocks - reserve_for x.data_blocks - held new.nodes) grows.shape in
    let le = grows.held_is in
    rw same (omega (arith, le, fits))

held-set : (nodes : List Node) (n : ℕ) (node : Node) (most : ℕ) → weight node ≤ weight (node_at nodes n) + most
    → held (slice_set nodes n node) ≤ held nodes + most
held-set [] n node most le = omega arith
held-set (x ∷ xs) zero node most le = omega (arith, sum_by-cons weight x xs, sum_by-cons weight node xs, le)
held-set (x ∷ xs) (suc n) node most le = omega (arith, sum_by-cons weight x xs, sum_by-cons weight x (slice_set xs n node), held-set xs n node most le)

grows_none : (s : State) → Grows s s 0
grows_none s = record { held_is = omega arith; shape = refl }

grows_node : (s m : State) (n : ℕ) (node : Node) (more : ℕ) → m.nodes ≡ s.nodes → m.shape ≡ s.shape
    → weight node ≤ weight (node_at s.nodes n) + more → Grows s (with_node m n node) more
grows_node s m n node more nodes shape le = record {
  held_is = subst (λ ns. held (slice_set ns n node) ≤ held s.nodes + more) (sym nodes) (held-set s.nodes n node more le);
  shape = shape;
}

-- a node may also lose its bytes after that
grows_gone : (s m : State) (n most : ℕ) → Grows s m most → Grows s (with_node m n Node.Gone) most
grows_gone s m n most grows =
    let le = held-set m.nodes n Node.Gone 0 (omega arith) in
    let before = grows.held_is in
    record { held_is = omega (arith, le, before); shape = grows.shape }

grows_swept : (s m : State) (n most : ℕ) → Grows s m most → Grows s (swept alone m n) most
unfolding swept
grows_swept s m n most grows = by (is_named m.entries n || is_open m.tables n) where
  by : (b : Bool) → Grows s (cond b m (with_node m n Node.Gone)) most
  by true = grows
  by false = grows_gone s m n most grows

grows_made : (s : State) (p : List (List ℕ)) (node : Node) → weight node ≡ 0 → Grows s (made s p node) 0
unfolding made
grows_made s p node none = record { held_is = omega (arith, sum_by_push weight s.nodes node, none); shape = refl }

published_weight : (node : Node) → weight (published_node node) ≡ weight node
published_weight Node.Gone = refl
published_weight Node.Directory = refl
published_weight (Node.File file) = refl

grows_published : (s : State) (n : ℕ) → Grows s (with_published s n) 0
unfolding with_published
grows_published s n = grows_node s s n (published_node (node_at s.nodes n)) 0 refl refl (omega (arith, published_weight (node_at s.nodes n)))

grown : (from to : ℕ) → held_by to ≤ held_by from + growth from to
grown from to = omega arith

-- ---- calls

grows_write : (s : State) (who : Who) (h : Handle) (start : ℕ) (x : List ℕ)
    → Grows s (written alone s who h start x) (growth (length (content s who h)) (max (length (content s who h)) (start + length x)))
unfolding written with_file
grows_write s who h start x =
    let old : List ℕ = content s who h in
    let long : ℕ = max (length old) (start + length x) in
    grows_node s s (file_number s.tables who h) _ (growth (length old) long) refl refl
    (subst (λ n. held_by n ≤ held_by (length old) + growth (length old) long) (sym (length-overwritten old start x)) (grown (length old) long))

grows_truncate : (s : State) (who : Who) (h : Handle) (n : ℕ)
    → Grows s (truncate_done s who h n).state (growth (length (content s who h)) n)
unfolding truncate_done with_file
grows_truncate s who h n =
    let old : List ℕ = content s who h in
    grows_node s s (file_number s.tables who h) _ (growth (length old) n) refl refl
    (subst (λ m. held_by m ≤ held_by (length old) + growth (length old) n) (sym (length-resized old n)) (grown (length old) n))

grows_mkdir : (s : State) (p : List (List ℕ)) → Grows s (mkdir_done s p).state 0
unfolding mkdir_done
grows_mkdir s p = grows_made s p Node.Directory refl

grows_rmdir : (s : State) (p : List (List ℕ)) → Grows s (rmdir_done s p).state 0
unfolding rmdir_done unnamed
grows_rmdir s p = grows_gone s (unnamed s p) (number_at (space s) p) 0 (record { held_is = omega arith; shape = refl })

grows_unlink : (s : State) (p : List (List ℕ)) → Grows s (unlink_done alone s p).state 0
unfolding unlink_done unnamed
grows_unlink s p = grows_swept s (unnamed s p) (number_at (space s) p) 0 (record { held_is = omega arith; shape = refl })

grows_rename : (s : State) (p q : List (List ℕ)) → Grows s (rename_done alone s p q).state 0
unfolding rename_done renamed
grows_rename s p q = by (directory_stands (space s) q) (file_stands (space s) q) where
  still : Grows s (renamed s p q) 0
  still = record { held_is = omega arith; shape = refl }

  by : (b c : Bool)
      → Grows s (cond b (with_node (renamed s p q) (number_at (space s) q) Node.Gone) (cond c (swept alone (renamed s p q) (number_at (space s) q)) (renamed s p q))) 0
  by true c = grows_gone s (renamed s p q) (number_at (space s) q) 0 still
  by false true = grows_swept s (renamed s p q) (number_at (space s) q) 0 still
  by false false = still

grows_opening : (s : State) (p : List (List ℕ)) (truncate : Bool) → Grows s (opening s p truncate) 0
unfolding opening
grows_opening s p truncate = by (exists_at (space s) p) truncate where
  by : (b c : Bool)
      → Grows s (cond b (cond c (with_node s (number_at (space s) p) empty_file) s) (made s p empty_file)) 0
  by true true = grows_node s s (number_at (space s) p) empty_file 0 refl refl (omega arith)
  by true false = grows_none s
  by false c = grows_made s p empty_file refl

grows_open : (s : State) (who : Who) (h : Handle) (p : List (List ℕ)) (f : Flags)
    → Grows s (open_done s who h p f).state 0
unfolding open_done
grows_open s who h p f = let same = grows_opening s p f.truncate in record { held_is = same.held_is; shape = same.shape }

grows_close : (s : State) (who : Who) (h : Handle) → Grows s (close_done alone s who h).state 0
unfolding close_done
grows_close s who h =
    let file : ℕ = file_number s.tables who h in
    let same = grows_published s file in
    grows_swept s (record (with_published s file) { tables = closed s.tables who h }) file 0 (record { held_is = same.held_is; shape = same.shape })

left : (s : State) (k : ℕ) (new : State) → k ≤ room s → Grows s new 0 → k ≤ room new
left s k new fits grows = room-Grows s new 0 k grows (omega (arith, fits))

-- Whatever call is made: where it fits beside so many blocks, so many are left afterwards.
pub room-step : (s : State) (c : Unfinished) (k : ℕ) → k ≤ room s → FitsBeside s c k → k ≤ room (after_call s c)
unfolding dup_done read_done pread_done write_done pwrite_done seek_done fsync_done stat_done list_done
room-step s (who, Call.Mkdir p) k fits beside = stepped-keeps (λ new. k ≤ room new) s _ _ fits (λ none. left s k _ fits (grows_mkdir s p))
room-step s (who, Call.Rmdir p) k fits beside = stepped-keeps (λ new. k ≤ room new) s _ _ fits (λ none. left s k _ fits (grows_rmdir s p))
room-step s (who, Call.Unlink p) k fits beside = stepped-keeps (λ new. k ≤ room new) s _ _ fits (λ none. left s k _ fits (grows_unlink s p))
room-step s (who, Call.Rename p q) k fits beside = stepped-keeps (λ new. k ≤ room new) s _ _ fits (λ none. left s k _ fits (grows_rename s p q))
room-step s (who, Call.Open h p f) k fits beside = stepped-keeps (λ new. k ≤ room new) s _ _ fits (λ none. left s k _ fits (grows_open s who h p f))
room-step s (who, Call.Close h) k fits beside = stepped-keeps (λ new. k ≤ room new) s _ _ fits (λ none. left s k _ fits (grows_close s who h))
room-step s (who, Call.Dup h g) k fits beside = stepped-keeps (λ new. k ≤ room new) s _ _ fits (λ none. fits)
room-step s (who, Call.Read h n) k fits beside = stepped-keeps (λ new. k ≤ room new) s _ _ fits (λ none. fits)
room-step s (who, Call.Pread h o n) k fits beside = stepped-keeps (λ new. k ≤ room new) s _ _ fits (λ none. fits)
room-step s (who, Call.Write h x) k fits beside =
    stepped-keeps (λ new. k ≤ room new) s _ _ fits (λ none.
    let start : ℕ = write_start s who h in
    let room_there = beside none in
    room-Grows s (written alone s who h start x) (growth (length (content s who h)) (max (length (content s who h)) (start + length x))) k (grows_write s who h start x) (omega (arith, room_there)))
room-step s (who, Call.Pwrite h start x) k fits beside =
    stepped-keeps (λ new. k ≤ room new) s _ _ fits (λ none.
    let room_there = beside none in
    room-Grows s (written alone s who h start x) (growth (length (content s who h)) (max (length (content s who h)) (start + length x))) k (grows_write s who h start x) (omega (arith, room_there)))
room-step s (who, Call.Seek h w by) k fits beside = stepped-keeps (λ new. k ≤ room new) s _ _ fits (λ none. fits)
room-step s (who, Call.Truncate h n) k fits beside = stepped-keeps (λ new. k ≤ room new) s _ _ fits (λ none. room-Grows s _ (growth (length (content s who h)) n) k (grows_truncate s who h n) (beside none))
room-step s (who, Call.Fsync h) k fits beside = stepped-keeps (λ new. k ≤ room new) s _ _ fits (λ none. left s k _ fits (grows_published s (file_number s.tables who h)))
room-step s (who, Call.Stat p) k fits beside = stepped-keeps (λ new. k ≤ room new) s _ _ fits (λ none. fits)
room-step s (who, Call.List p) k fits beside = stepped-keeps (λ new. k ≤ room new) s _ _ fits (λ none. fits)
