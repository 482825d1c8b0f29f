-- What the files hold leaves the reserve, whatever calls are made.
use Rattle.std.specs.Prelude.{◌≡◌, ◌≤◌, ℕ, zero, suc, ◌+◌, ◌-◌, max, Bool, true, false, cond, nat_le, nat_lt, List, [], ◌∷◌, ◌++◌, length, take, drop, replicate, None, slice_set, refl}
use Rattle.std.proofs.Common.{arith, sym, subst, lit<}
use Rattle.std.proofs.lemmas.Bool.Decides.{nat_tests}
use Rattle.std.proofs.lemmas.List.{length-append, length-drop, length-replicate, length-take}
use Rattle.std.proofs.lemmas.List.Sums.{sum_by-cons, sum_by_push}
use Rattle.posix_spec.specs.block_counts.Counts.{blocks_for, chains_for, held_by, reserve_for}
use Rattle.posix_spec.specs.posix_types.declared.call.Call.{Call}
use Rattle.posix_spec.specs.posix_types.declared.call.Who.{Who}
use Rattle.posix_spec.specs.posix_types.declared.handle.Flags.{Flags}
use Rattle.posix_spec.specs.posix_types.declared.handle.Handle.{Handle}
use Rattle.posix_spec.specs.posix_types.declared.item.Item.{Item}
use Rattle.posix_spec.specs.posix_tables.declared.nodes.Node.{Node}
use Rattle.posix_spec.specs.posix_tables.Bytes.{overwritten, resized}
use Rattle.posix_spec.specs.posix_tables.Nodes.{bytes_of, node_at, published_node}
use Rattle.posix_spec.specs.posix_tables.Open.{closed}
use Rattle.posix_spec.specs.posix_tables.Outcomes.{first, unless}
use Rattle.posix_spec.specs.posix_tables.Room.{growth, held}
use Rattle.posix_spec.specs.posix_tables.Names.{directory_stands, exists_at, file_stands, number_at}
use Rattle.posix_spec.specs.FileRows.{content, file_number, no_blocks, truncate_rows, write_start}
use Rattle.posix_spec.specs.Run.{run}
use Rattle.posix_spec.specs.State.{alone, Fits, Instance, made, room, space, State, swept, unnamed, with_file, with_node, with_published}
use Rattle.posix_spec.specs.Step.{close_done, dup_done, empty_file, fsync_done, list_done, mkdir_done, open_done, opening, pread_done, pwrite_done, read_done, rename_done, renamed, rmdir_done, seek_done, stat_done, step, step_of, truncate_done, unlink_done, write_done, written}
use Rattle.posix_laws.specs.RowLaws.{Accepts, Accepts-from_rows, no_row, none_fits, stepped-keeps}

-- where they do, the room is what is left besides
pub room-Fits : (s : State) → Fits s → room s + held s.nodes + reserve_for s.shape.data_blocks ≡ s.shape.data_blocks
room-Fits s fits = omega (arith, fits)

-- Blocks.

blocks_for-le : (a b : ℕ) → a ≤ b → blocks_for a ≤ blocks_for b
blocks_for-le a b le = omega (arith, le)

chains_for-le : (a b : ℕ) → a ≤ b → chains_for a ≤ chains_for b
chains_for-le a b le = omega (arith, le)

-- a longer file holds no less
pub held_by-le : (a b : ℕ) → a ≤ b → held_by a ≤ held_by b
held_by-le a b le =
    let blocks = blocks_for-le a b le in
    let chains = chains_for-le (blocks_for a) (blocks_for b) blocks in
    omega (arith, blocks, chains)

-- what a node holds
abbrev weight : Node → ℕ
weight node = held_by (length (bytes_of node))

-- with another node under a number the files hold at most as much more as that node does
held-set : (nodes : List Node) (n : ℕ) (node : Node) (most : ℕ) → weight node ≤ weight (node_at nodes n) + most → held (slice_set nodes n node) ≤ held nodes + most
held-set [] n node most le = omega arith
held-set (x ∷ xs) zero node most le = omega (arith, sum_by-cons weight x xs, sum_by-cons weight node xs, le)
held-set (x ∷ xs) (suc n) node most le = omega (arith, sum_by-cons weight x xs, sum_by-cons weight x (slice_set xs n node), held-set xs n node most le)

fits_set : (s : State) (n : ℕ) (node : Node) (most : ℕ) → Fits s → most ≤ room s → weight node ≤ weight (node_at s.nodes n) + most → Fits (with_node s n node)
fits_set s n node most fits within le = omega (arith, held-set s.nodes n node most le, within, fits)

fits_gone : (s : State) (n : ℕ) → Fits s → Fits (with_node s n Node.Gone)
fits_gone s n fits = fits_set s n Node.Gone 0 fits (omega arith) (omega arith)

fits_made : (s : State) (p : List (List ℕ)) (node : Node) → weight node ≡ 0 → Fits s → Fits (made s p node)
unfolding made
fits_made s p node none fits = omega (arith, sum_by_push weight s.nodes node, none, fits)

fits_swept : (i : Instance) (s : State) (n : ℕ) → Fits s → Fits (swept i s n)
unfolding swept
fits_swept i s n fits = by _ where
  by : (b : Bool) → Fits (cond b s (with_node s n Node.Gone))
  by true = fits
  by false = fits_gone s n fits

published_weight : (node : Node) → weight (published_node node) ≡ weight node
published_weight Node.Gone = refl
published_weight Node.Directory = refl
published_weight (Node.File file) = refl

fits_published : (s : State) (n : ℕ) → Fits s → Fits (with_published s n)
unfolding with_published
fits_published s n fits = fits_set s n (published_node (node_at s.nodes n)) 0 fits (omega arith) (omega (arith, published_weight (node_at s.nodes n)))

-- Lengths.

pub length-resized : (bytes : List ℕ) (n : ℕ) → length (resized bytes n) ≡ n
length-resized bytes n =
    omega (arith, length-append (take n bytes) (replicate (n - length bytes) 0), length-take n bytes, length-replicate {A = ℕ} (n - length bytes) 0)

pub length-overwritten : (old : List ℕ) (start : ℕ) (new : List ℕ) → length (overwritten old start new) ≡ max (length old) (start + length new)
length-overwritten old start new =
    omega (arith, length-append (resized old start ++ new) (drop (start + length new) old), length-append (resized old start) new, length-resized old start, length-drop (start + length new) old)

-- Calls.

grown : (from to : ℕ) → held_by to ≤ held_by from + growth from to
grown from to = omega arith

fits_written : (i : Instance) (s : State) (who : Who) (h : Handle) (start : ℕ) (x : List ℕ) → Fits s → Accepts s who h start x → Fits (written i s who h start x)
unfolding written with_file
fits_written i s who h start x fits accepts =
    let old : List ℕ = content s who h in
    let long : ℕ = max (length old) (start + length x) in
    let within : growth (length old) long ≤ room s = omega (arith, accepts.room) in
    let le : held_by (length (overwritten old start x)) ≤ held_by (length old) + growth (length old) long =
    subst (λ n. held_by n ≤ held_by (length old) + growth (length old) long) (sym (length-overwritten old start x)) (grown (length old) long) in
    fits_set s (file_number s.tables who h) _ (growth (length old) long) fits within le

fits_truncated : (s : State) (who : Who) (h : Handle) (n : ℕ) → Fits s → first (truncate_rows s who h n) ≡ None → Fits (truncate_done s who h n).state
unfolding truncate_rows truncate_done with_file
fits_truncated s who h n fits none = by (nat_le n (length old)) refl ((none_fits (truncate_rows s who h n) none) 2 None (lit< tt)) where
  old : List ℕ
  old = content s who h

  shorter : nat_le n (length old) ≡ true → n ≤ length old
  shorter is = grind (arith, nat_tests)

  enough : (need left : ℕ) → nat_lt left need ≡ false → need ≤ left
  enough need left is = grind (arith, nat_tests)

  same : (most : ℕ) → held_by n ≤ held_by (length old) + most → held_by (length (resized old n)) ≤ held_by (length old) + most
  same most le = subst (λ m. held_by m ≤ held_by (length old) + most) (sym (length-resized old n)) le

  by : (b : Bool) → nat_le n (length old) ≡ b → unless b (no_blocks s (growth (length old) n)) ≡ None → Fits (with_node s (file_number s.tables who h) (Node.File (record { bytes = resized old n; published = n })))
  by true is row = fits_set s (file_number s.tables who h) _ 0 fits (omega arith) (same 0 (omega (arith, held_by-le n (length old) (shorter is))))
  by false is row =
      fits_set s (file_number s.tables who h) _ (growth (length old) n) fits (enough (growth (length old) n) (room s) (no_row _ _ row)) (same (growth (length old) n) (grown (length old) n))

fits_mkdir : (s : State) (p : List (List ℕ)) → Fits s → Fits (mkdir_done s p).state
unfolding mkdir_done
fits_mkdir s p fits = fits_made s p Node.Directory refl fits

fits_rmdir : (s : State) (p : List (List ℕ)) → Fits s → Fits (rmdir_done s p).state
unfolding rmdir_done unnamed
fits_rmdir s p fits = fits_gone (unnamed s p) (number_at (space s) p) fits

fits_unlink : (i : Instance) (s : State) (p : List (List ℕ)) → Fits s → Fits (unlink_done i s p).state
unfolding unlink_done unnamed
fits_unlink i s p fits = fits_swept i (unnamed s p) (number_at (space s) p) fits

fits_rename : (i : Instance) (s : State) (p q : List (List ℕ)) → Fits s → Fits (rename_done i s p q).state
unfolding rename_done renamed
fits_rename i s p q fits = by (directory_stands (space s) q) (file_stands (space s) q) where
  by : (b c : Bool) → Fits (cond b (with_node (renamed s p q) (number_at (space s) q) Node.Gone) (cond c (swept i (renamed s p q) (number_at (space s) q)) (renamed s p q)))
  by true c = fits_gone (renamed s p q) (number_at (space s) q) fits
  by false true = fits_swept i (renamed s p q) (number_at (space s) q) fits
  by false false = fits

fits_open : (s : State) (who : Who) (h : Handle) (p : List (List ℕ)) (f : Flags) → Fits s → Fits (open_done s who h p f).state
unfolding open_done opening
fits_open s who h p f fits = by (exists_at (space s) p) f.truncate where
  by : (b c : Bool) → Fits (cond b (cond c (with_node s (number_at (space s) p) empty_file) s) (made s p empty_file))
  by true true = fits_set s (number_at (space s) p) empty_file 0 fits (omega arith) (omega arith)
  by true false = fits
  by false c = fits_made s p empty_file refl fits

fits_close : (i : Instance) (s : State) (who : Who) (h : Handle) → Fits s → Fits (close_done i s who h).state
unfolding close_done
fits_close i s who h fits =
    let file : ℕ = file_number s.tables who h in
    let left : State = record (with_published s file) { tables = closed s.tables who h } in
    fits_swept i left file (fits_published s file fits)

-- Whatever call an instance makes, what the files hold leaves the reserve.
pub Fits-step_of : (i : Instance) (s : State) (who : Who) (call : Call) → Fits s → Fits (step_of i s who call).state
unfolding dup_done read_done pread_done write_done pwrite_done seek_done fsync_done stat_done list_done
Fits-step_of i s who (Call.Mkdir p) fits = stepped-keeps Fits s _ _ fits (λ none. fits_mkdir s p fits)
Fits-step_of i s who (Call.Rmdir p) fits = stepped-keeps Fits s _ _ fits (λ none. fits_rmdir s p fits)
Fits-step_of i s who (Call.Unlink p) fits = stepped-keeps Fits s _ _ fits (λ none. fits_unlink i s p fits)
Fits-step_of i s who (Call.Rename p q) fits = stepped-keeps Fits s _ _ fits (λ none. fits_rename i s p q fits)
Fits-step_of i s who (Call.Open h p f) fits = stepped-keeps Fits s _ _ fits (λ none. fits_open s who h p f fits)
Fits-step_of i s who (Call.Close h) fits = stepped-keeps Fits s _ _ fits (λ none. fits_close i s who h fits)
Fits-step_of i s who (Call.Dup h g) fits = stepped-keeps Fits s _ _ fits (λ none. fits)
Fits-step_of i s who (Call.Read h n) fits = stepped-keeps Fits s _ _ fits (λ none. fits)
Fits-step_of i s who (Call.Pread h o n) fits = stepped-keeps Fits s _ _ fits (λ none. fits)
Fits-step_of i s who (Call.Write h x) fits =
    stepped-keeps Fits s _ _ fits (λ none. fits_written i s who h (write_start s who h) x fits (Accepts-from_rows s who h (write_start s who h) x none))
Fits-step_of i s who (Call.Pwrite h o x) fits = stepped-keeps Fits s _ _ fits (λ none. fits_written i s who h o x fits (Accepts-from_rows s who h o x none))
Fits-step_of i s who (Call.Seek h w by) fits = stepped-keeps Fits s _ _ fits (λ none. fits)
Fits-step_of i s who (Call.Truncate h n) fits = stepped-keeps Fits s _ _ fits (fits_truncated s who h n fits)
Fits-step_of i s who (Call.Fsync h) fits = stepped-keeps Fits s _ _ fits (λ none. fits_published s (file_number s.tables who h) fits)
Fits-step_of i s who (Call.Stat p) fits = stepped-keeps Fits s _ _ fits (λ none. fits)
Fits-step_of i s who (Call.List p) fits = stepped-keeps Fits s _ _ fits (λ none. fits)

-- and so over a history
pub Fits-run : (s : State) (history : List Item) → Fits s → Fits (run s history)
Fits-run s [] fits = fits
Fits-run s (item ∷ items) fits = Fits-run (step s item.who item.call).state items (Fits-step_of alone s item.who item.call fits)
