-- The calls that put no byte and shorten no file.
use Rattle.std.specs.Prelude.{◌≡◌, ◌⊎◌, ℕ, ◌&&◌, ◌||◌, nat_le, nat_lt, Bool, true, false, cond, List, [], length, None, refl}
use Rattle.std.proofs.Common.{arith, ap, ◌∙◌, sym, subst, inl, inr}
use Rattle.std.proofs.lemmas.Bool.{cases_lt}
use Rattle.std.proofs.lemmas.Bool.Decides.{nat_tests}
use Rattle.std.proofs.lemmas.List.{get_or_past}
use Rattle.eof_laws.specs.live_model.commute_laws.posix_types.declared.call.Call.{Call}
use Rattle.eof_laws.specs.live_model.commute_laws.posix_types.declared.call.Who.{Who}
use Rattle.eof_laws.specs.live_model.commute_laws.posix_types.declared.handle.Handle.{Handle}
use Rattle.eof_laws.specs.live_model.commute_laws.posix_types.declared.reply.Reply.{Reply}
use Rattle.eof_laws.specs.live_model.commute_laws.posix_types.declared.item.Item.{Item}
use Rattle.eof_laws.specs.live_model.posix_tables.declared.nodes.Node.{Node}
use Rattle.eof_laws.specs.live_model.posix_tables.Names.{directory_stands, exists_at, file_stands, is_named, number_at}
use Rattle.eof_laws.specs.live_model.posix_tables.Nodes.{bytes_of, node_at, published_node}
use Rattle.eof_laws.specs.live_model.posix_tables.Open.{closed, is_open}
use Rattle.eof_laws.specs.live_model.posix_spec.FileRows.{file_number}
use Rattle.eof_laws.specs.live_model.posix_spec.Put.{put_by}
use Rattle.eof_laws.specs.live_model.posix_spec.Run.{after_call, begun}
use Rattle.eof_laws.specs.live_model.posix_spec.State.{alone, made, space, State, swept, unnamed, with_node, with_published}
use Rattle.eof_laws.specs.live_model.posix_spec.Step.{close_done, dup_done, empty_file, list_done, mkdir_done, open_done, opening, pread_done, read_done, rename_done, renamed, rmdir_done, seek_done, stat_done, step, unlink_done}
use Rattle.eof_laws.specs.live_model.posix_laws.PublishLaws.{node_pushed, node_set}
use Rattle.eof_laws.specs.live_model.posix_laws.RowLaws.{stepped-keeps}
use Rattle.eof_laws.specs.live_model.posix_laws.Shortens.{ends_before}
use Rattle.eof_laws.specs.live_model.crash_spec.Posix.{is_fsync, is_ok}
use Rattle.eof_laws.specs.live_model.crash_spec.Values.{value_of}
use Rattle.eof_laws.specs.live_model.crash_spec.Posix.{syncs}
use Rattle.batch_laws.specs.Changes.{PutsNone}
use Rattle.batch_laws.specs.Quiet.{IsQuiet, QuietPutsNone, RefusedPutsNone}

-- a node goes, or has the bytes that it had, or had none
abbrev Loses : Node → Node → Type 0
Loses x y = (y ≡ Node.Gone) ⊎ (bytes_of y ≡ bytes_of x) ⊎ (bytes_of x ≡ [])

abbrev LosesNone : State → State → Type 0
LosesNone s t = (m : ℕ) → Loses (node_at s.nodes m) (node_at t.nodes m)

none_lost : (s : State) → LosesNone s s
none_lost s m = inr (inl refl)

-- a length is not below what is below it
past_end : (n i : ℕ) → (nat_lt i n && nat_le n i) ≡ false
past_end n i = elim (cases_lt i n) [
  | inl below ↦ (let past : nat_le n i ≡ false = grind (arith, nat_tests, below) in ap (λ (b : Bool). nat_lt i n && b) past ∙ and_none (nat_lt i n))
  | inr past ↦ (let below : nat_lt i n ≡ false = grind (arith, nat_tests, past) in ap (λ (b : Bool). b && nat_le n i) below)
] where
  and_none : (b : Bool) → (b && false) ≡ false
  and_none true = refl
  and_none false = refl

and_no : (b : Bool) → (b && false) ≡ false
and_no true = refl
and_no false = refl

not_shorter : (x y : Node) (i : ℕ) → Loses x y → (nat_lt i (length (bytes_of x)) && ends_before y i) ≡ false
not_shorter x y i (inl gone) = ap (λ (z : Node). nat_lt i (length (bytes_of x)) && ends_before z i) gone ∙ and_no (nat_lt i (length (bytes_of x)))
not_shorter x Node.Gone i (inr (inl same)) = and_no (nat_lt i (length (bytes_of x)))
not_shorter x Node.Directory i (inr (inl same)) = and_no (nat_lt i (length (bytes_of x)))
not_shorter x (Node.File file) i (inr (inl same)) = ap (λ (bs : List ℕ). nat_lt i (length bs) && nat_le (length file.bytes) i) (sym same) ∙ past_end (length file.bytes) i
not_shorter x y i (inr (inr none)) = ap (λ (bs : List ℕ). nat_lt i (length bs) && ends_before y i) none ∙ (let below : nat_lt i 0 ≡ false = grind (arith, nat_tests) in ap (λ (b : Bool). b && ends_before y i) below)

-- ---- changes of nodes

lost_made : (s : State) (p : List (List ℕ)) (x : Node) → LosesNone s (made s p x)
unfolding made
lost_made s p x m = elim (node_pushed s.nodes x m) [
  | inl same ↦ inr (inl (ap bytes_of same))
  | inr here ↦ inr (inr (ap bytes_of (get_or_past s.nodes m Node.Gone (let at = here.0 in omega (arith, at)))))
]

lost_gone : (s t : State) (n : ℕ) → LosesNone s t → LosesNone s (with_node t n Node.Gone)
lost_gone s t n lost m = elim (node_set t.nodes n Node.Gone m) [
  | inl same ↦ subst (Loses (node_at s.nodes m)) (sym same) (lost m)
  | inr here ↦ inl here.1
]

lost_swept : (s t : State) (n : ℕ) → LosesNone s t → LosesNone s (swept alone t n)
unfolding swept
lost_swept s t n lost = by (is_named t.entries n || is_open t.tables n) where
  by : (b : Bool) → LosesNone s (cond b t (with_node t n Node.Gone))
  by true = lost
  by false = lost_gone s t n lost

published_bytes : (x : Node) → bytes_of (published_node x) ≡ bytes_of x
published_bytes Node.Gone = refl
published_bytes Node.Directory = refl
published_bytes (Node.File file) = refl

lost_published : (s : State) (n : ℕ) → LosesNone s (with_published s n)
unfolding with_published
lost_published s n m = elim (node_set s.nodes n (published_node (node_at s.nodes n)) m) [
  | inl same ↦ inr (inl (ap bytes_of same))
  | inr here ↦ inr (inl (ap bytes_of here.1 ∙ (published_bytes (node_at s.nodes n) ∙ ap (λ k. bytes_of (node_at s.nodes k)) (sym here.0))))
]

lost_rename : (s : State) (p q : List (List ℕ)) → LosesNone s (rename_done alone s p q).state
unfolding rename_done renamed unnamed
lost_rename s p q = by (directory_stands (space s) q) (file_stands (space s) q) where
  by : (b c : Bool) → LosesNone s (cond b (with_node (renamed s p q) (number_at (space s) q) Node.Gone) (cond c (swept alone (renamed s p q) (number_at (space s) q)) (renamed s p q)))
  by true c = lost_gone s (renamed s p q) (number_at (space s) q) (none_lost s)
  by false true = lost_swept s (renamed s p q) (number_at (space s) q) (none_lost s)
  by false false = none_lost s

lost_opening : (s : State) (p : List (List ℕ)) (truncate : Bool) → (exists_at (space s) p ≡ false) ⊎ (truncate ≡ false) → LosesNone s (opening s p truncate)
unfolding opening
lost_opening s p truncate whole = by (exists_at (space s) p) refl truncate whole where
  by : (b : Bool) → exists_at (space s) p ≡ b → (cut : Bool) → (exists_at (space s) p ≡ false) ⊎ (cut ≡ false)
      → LosesNone s (cond b (cond cut (with_node s (number_at (space s) p) empty_file) s) (made s p empty_file))
  by true there true (inl none) = let never : true ≡ false = sym there ∙ none in cc
  by true there true (inr uncut) = cc
  by true there false is = none_lost s
  by false missing cut is = lost_made s p empty_file

lost_close : (s : State) (who : Who) (h : Handle) → LosesNone s (close_done alone s who h).state
unfolding close_done
lost_close s who h =
    let n : ℕ = file_number s.tables who h in
    let shut : State = record (with_published s n) { tables = closed s.tables who h } in
    lost_swept s shut n (lost_published s n)

lost_call : (s : State) (who : Who) (call : Call) → IsQuiet s call → LosesNone s (step s who call).state
unfolding mkdir_done rmdir_done unlink_done open_done dup_done read_done pread_done seek_done stat_done list_done unnamed
lost_call s who (Call.Mkdir p) is = stepped-keeps (LosesNone s) s _ _ (none_lost s) (λ none. lost_made s p Node.Directory)
lost_call s who (Call.Rmdir p) is = stepped-keeps (LosesNone s) s _ _ (none_lost s) (λ none. lost_gone s (unnamed s p) (number_at (space s) p) (none_lost s))
lost_call s who (Call.Unlink p) is = stepped-keeps (LosesNone s) s _ _ (none_lost s) (λ none. lost_swept s (unnamed s p) (number_at (space s) p) (none_lost s))
lost_call s who (Call.Rename p q) is = stepped-keeps (LosesNone s) s _ _ (none_lost s) (λ none. lost_rename s p q)
lost_call s who (Call.Open h p f) is = stepped-keeps (LosesNone s) s _ _ (none_lost s) (λ none. lost_opening s p f.truncate is)
lost_call s who (Call.Close h) is = stepped-keeps (LosesNone s) s _ _ (none_lost s) (λ none. lost_close s who h)
lost_call s who (Call.Dup h g) is = stepped-keeps (LosesNone s) s _ _ (none_lost s) (λ none. none_lost s)
lost_call s who (Call.Read h n) is = stepped-keeps (LosesNone s) s _ _ (none_lost s) (λ none. none_lost s)
lost_call s who (Call.Pread h o n) is = stepped-keeps (LosesNone s) s _ _ (none_lost s) (λ none. none_lost s)
lost_call s who (Call.Write h x) is = absurd is
lost_call s who (Call.Pwrite h o x) is = absurd is
lost_call s who (Call.Seek h w by) is = stepped-keeps (LosesNone s) s _ _ (none_lost s) (λ none. none_lost s)
lost_call s who (Call.Truncate h n) is = absurd is
lost_call s who (Call.Fsync h) is = absurd is
lost_call s who (Call.Stat p) is = stepped-keeps (LosesNone s) s _ _ (none_lost s) (λ none. none_lost s)
lost_call s who (Call.List p) is = stepped-keeps (LosesNone s) s _ _ (none_lost s) (λ none. none_lost s)

quiet_sync : (s : State) (call : Call) (reply : Reply) → IsQuiet s call → (is_fsync call && is_ok reply) ≡ false
quiet_sync s (Call.Fsync h) reply is = absurd is
quiet_sync s (Call.Mkdir p) reply is = refl
quiet_sync s (Call.Rmdir p) reply is = refl
quiet_sync s (Call.Unlink p) reply is = refl
quiet_sync s (Call.Rename p q) reply is = refl
quiet_sync s (Call.Open h p f) reply is = refl
quiet_sync s (Call.Close h) reply is = refl
quiet_sync s (Call.Dup h g) reply is = refl
quiet_sync s (Call.Read h n) reply is = refl
quiet_sync s (Call.Pread h o n) reply is = refl
quiet_sync s (Call.Write h x) reply is = refl
quiet_sync s (Call.Pwrite h o x) reply is = refl
quiet_sync s (Call.Seek h w by) reply is = refl
quiet_sync s (Call.Truncate h n) reply is = refl
quiet_sync s (Call.Stat p) reply is = refl
quiet_sync s (Call.List p) reply is = refl

quiet_put : (s : State) (who : Who) (call : Call) → IsQuiet s call → put_by s who call ≡ None
unfolding put_by
quiet_put s who (Call.Write h x) is = absurd is
quiet_put s who (Call.Pwrite h o x) is = absurd is
quiet_put s who (Call.Mkdir p) is = refl
quiet_put s who (Call.Rmdir p) is = refl
quiet_put s who (Call.Unlink p) is = refl
quiet_put s who (Call.Rename p q) is = refl
quiet_put s who (Call.Open h p f) is = refl
quiet_put s who (Call.Close h) is = refl
quiet_put s who (Call.Dup h g) is = refl
quiet_put s who (Call.Read h n) is = refl
quiet_put s who (Call.Pread h o n) is = refl
quiet_put s who (Call.Seek h w by) is = refl
quiet_put s who (Call.Truncate h n) is = refl
quiet_put s who (Call.Fsync h) is = refl
quiet_put s who (Call.Stat p) is = refl
quiet_put s who (Call.List p) is = refl

pub quiet_puts_none : QuietPutsNone
quiet_puts_none s item is = record {
  no_sync = quiet_sync s item.call item.reply is;
  puts = λ n i. ap (λ o. value_of o n i) (quiet_put s item.who item.call is);
  shortens_none = λ n i. not_shorter (node_at s.nodes n) (node_at (after_call s (begun item)).nodes n) i (lost_call s item.who item.call is n);
}

pub refused_puts_none : RefusedPutsNone
refused_puts_none s item same none quiet = record {
  no_sync = quiet;
  puts = λ n i. ap (λ o. value_of o n i) none;
  shortens_none = λ n i. not_shorter (node_at s.nodes n) (node_at (after_call s (begun item)).nodes n) i (inr (inl (ap (λ (t : State). bytes_of (node_at t.nodes n)) same)));
}

-- and so does a call, no write and no `fsync`, behind which all nodes are as they were
pub still_puts_none : (s : State) (item : Item) → (after_call s (begun item)).nodes ≡ s.nodes → put_by s item.who item.call ≡ None → syncs item ≡ false → PutsNone s item
still_puts_none s item same none quiet = record {
  no_sync = quiet;
  puts = λ n i. ap (λ o. value_of o n i) none;
  shortens_none = λ n i. not_shorter (node_at s.nodes n) (node_at (after_call s (begun item)).nodes n) i (inr (inl (ap (λ (xs : List Node). bytes_of (node_at xs n)) same)));
}
