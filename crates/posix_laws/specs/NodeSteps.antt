-- What a call makes of one node: it stays or goes, its length is published, it grows while it is open, or it is cut.
use Rattle.std.specs.Prelude.{◌≡◌, ◌⊎◌, ◌<◌, ◌≤◌, ℕ, ◌||◌, ◌&&◌, nat_le, nat_lt, Bool, true, false, cond, List, [], length, Option, Some, None, slice_set, refl}
use Rattle.std.proofs.Common.{arith, ap, ◌∙◌, sym, subst, inl, inr}
use Rattle.std.proofs.lemmas.Bool.{cases_lt}
use Rattle.std.proofs.lemmas.Bool.Decides.{nat_tests}
use Rattle.posix_spec.specs.posix_types.declared.call.Call.{Call}
use Rattle.posix_spec.specs.posix_types.declared.call.Who.{Who}
use Rattle.posix_spec.specs.posix_types.declared.item.Outcome.{Outcome}
use Rattle.posix_spec.specs.posix_types.declared.handle.Handle.{Handle}
use Rattle.posix_spec.specs.posix_tables.declared.nodes.Node.{Node}
use Rattle.posix_spec.specs.posix_tables.Bytes.{overwritten, resized}
use Rattle.posix_spec.specs.posix_tables.Names.{directory_stands, exists_at, file_stands, is_named, number_at}
use Rattle.posix_spec.specs.posix_tables.Nodes.{bytes_of, node_at, published_node, published_of}
use Rattle.posix_spec.specs.posix_tables.Open.{closed, is_open, may_write}
use Rattle.posix_spec.specs.FileRows.{content, file_number, write_start}
use Rattle.posix_spec.specs.Run.{after_call}
use Rattle.posix_spec.specs.State.{alone, made, space, State, swept, unnamed, with_file, with_node, with_published}
use Rattle.posix_spec.specs.Step.{close_done, dup_done, empty_file, fsync_done, list_done, mkdir_done, open_done, opening, pread_done, pwrite_done, read_done, rename_done, renamed, rmdir_done, seek_done, stat_done, step, stepped, Stepped, truncate_done, unlink_done, write_done, written}
use Rattle.posix_laws.specs.FitsLaws.{length-overwritten, length-resized}
use Rattle.posix_laws.specs.Publishes.{HasPublished, IsPublishing, KeepsGone, KeepsPublished, PathsLeadToNodes}
use Rattle.posix_laws.specs.PublishLaws.{file_not_gone, may_write-of, node_below, node_pushed, node_set, written_open}
use Rattle.posix_laws.specs.RowLaws.{Accepts-from_rows}
use Rattle.posix_laws.specs.Shortens.{ends_before, shortens}

-- what cannot be, where a node is gone already
abbrev Never : State → Type 0
Never s = IsPublishing s → PathsLeadToNodes s → ⊥

-- a file with other bytes, of a published length that stays, and not shorter
record Grows (s : State) (x y : Node) : Type 0 where
  published : published_of y ≡ published_of x
  long : length (bytes_of x) ≤ length (bytes_of y)
  live : x ≡ Node.Gone → Never s

-- a file with this length, all of it published
record Ends (s : State) (x y : Node) : Type 0 where
  bytes : List ℕ
  is : y ≡ Node.File (record { bytes = bytes; published = length bytes })
  live : x ≡ Node.Gone → Never s

abbrev Turns : State → Node → Node → Type 0
Turns s x y = (y ≡ x) ⊎ (y ≡ Node.Gone) ⊎ (y ≡ published_node x) ⊎ Grows s x y ⊎ Ends s x y

-- ---- changes of nodes

set_turns : (s : State) (m n : ℕ) (x : Node) → (m ≡ n → Turns s (node_at s.nodes m) x) → Turns s (node_at s.nodes m) (node_at (slice_set s.nodes n x) m)
set_turns s m n x turn = elim (node_set s.nodes n x m) [
  | inl same ↦ inl same
  | inr here ↦ subst (Turns s (node_at s.nodes m)) (sym here.1) (turn here.0)
]

push_turns : (s : State) (p : List (List ℕ)) (m : ℕ) (x : Node) → m < length s.nodes → Turns s (node_at s.nodes m) (node_at (made s p x).nodes m)
unfolding made
push_turns s p m x below = elim (node_pushed s.nodes x m) [
  | inl same ↦ inl same
  | inr here ↦ absurd (omega (arith, here.0, below))
]

gone_turns : (s : State) (m n : ℕ) → Turns s (node_at s.nodes m) (node_at (slice_set s.nodes n Node.Gone) m)
gone_turns s m n = set_turns s m n Node.Gone (λ same. inr (inl refl))

published_turns : (s : State) (m n : ℕ) → Turns s (node_at s.nodes m) (node_at (with_published s n).nodes m)
unfolding with_published
published_turns s m n = set_turns s m n (published_node (node_at s.nodes n)) (λ same. inr (inr (inl (ap (λ k. published_node (node_at s.nodes k)) (sym same)))))

swept_turns : (s t : State) (m n : ℕ) → Turns s (node_at s.nodes m) (node_at t.nodes m) → Turns s (node_at s.nodes m) (node_at (swept alone t n).nodes m)
unfolding swept
swept_turns s t m n turn = by (is_named t.entries n || is_open t.tables n) where
  by : (b : Bool) → Turns s (node_at s.nodes m) (node_at (cond b t (with_node t n Node.Gone)).nodes m)
  by true = turn
  by false = elim (node_set t.nodes n Node.Gone m) [
    | inl same ↦ subst (Turns s (node_at s.nodes m)) (sym same) turn
    | inr here ↦ inr (inl here.1)
  ]

written_turns : (s : State) (who : Who) (h : Handle) (start : ℕ) (x : List ℕ) (m : ℕ) → may_write s.tables who h ≡ true → Turns s (node_at s.nodes m) (node_at (written alone s who h start x).nodes m)
unfolding written with_file
written_turns s who h start x m may = set_turns s m n (grown (node_at s.nodes n)) (λ same. inr (inr (inr (inl (subst (λ k. Grows s (node_at s.nodes k) (grown (node_at s.nodes n))) (sym same) (grows (node_at s.nodes n) refl)))))) where
  n : ℕ
  n = file_number s.tables who h

  grown : Node → Node
  grown y = Node.File (record { bytes = overwritten (bytes_of y) start x; published = published_of y })

  grows : (y : Node) → node_at s.nodes n ≡ y → Grows s y (grown y)
  grows y at = record {
    published = refl;
    long = (let long = length-overwritten (bytes_of y) start x in omega (arith, long));
    live = λ gone is paths. file_not_gone (node_at s.nodes n) (is.open_files n (written_open s who h may)) (at ∙ gone);
  }

truncated_turns : (s : State) (who : Who) (h : Handle) (k m : ℕ) → may_write s.tables who h ≡ true → Turns s (node_at s.nodes m) (node_at (truncate_done s who h k).state.nodes m)
unfolding truncate_done with_file
truncated_turns s who h k m may = set_turns s m n (Node.File (record { bytes = resized (content s who h) k; published = k })) (λ same. inr (inr (inr (inr (subst (λ j. Ends s (node_at s.nodes j) (Node.File (record { bytes = resized (content s who h) k; published = k }))) (sym same) ends))))) where
  n : ℕ
  n = file_number s.tables who h

  ends : Ends s (node_at s.nodes n) (Node.File (record { bytes = resized (content s who h) k; published = k }))
  ends = record {
    bytes = resized (content s who h) k;
    is = ap (λ (j : ℕ). Node.File (record { bytes = resized (content s who h) k; published = j })) (sym (length-resized (content s who h) k));
    live = λ gone is paths. file_not_gone (node_at s.nodes n) (is.open_files n (written_open s who h may)) gone;
  }

opening_turns : (s : State) (p : List (List ℕ)) (truncate : Bool) (m : ℕ) → m < length s.nodes → Turns s (node_at s.nodes m) (node_at (opening s p truncate).nodes m)
unfolding opening
opening_turns s p truncate m below = by (exists_at (space s) p) refl truncate where
  n : ℕ
  n = number_at (space s) p

  ends : exists_at (space s) p ≡ true → Ends s (node_at s.nodes n) empty_file
  ends there = record { bytes = []; is = refl; live = λ gone is paths. paths p there gone }

  by : (b : Bool) → exists_at (space s) p ≡ b → (cut : Bool) → Turns s (node_at s.nodes m) (node_at (cond b (cond cut (with_node s (number_at (space s) p) empty_file) s) (made s p empty_file)).nodes m)
  by true there true = set_turns s m n empty_file (λ same. inr (inr (inr (inr (subst (λ j. Ends s (node_at s.nodes j) empty_file) (sym same) (ends there))))))
  by true there false = inl refl
  by false missing cut = push_turns s p m empty_file below

renamed_turns : (s : State) (p q : List (List ℕ)) (m : ℕ) → Turns s (node_at s.nodes m) (node_at (rename_done alone s p q).state.nodes m)
unfolding rename_done renamed unnamed
renamed_turns s p q m = by (directory_stands (space s) q) (file_stands (space s) q) where
  by : (b c : Bool) → Turns s (node_at s.nodes m) (node_at (cond b (with_node (renamed s p q) (number_at (space s) q) Node.Gone) (cond c (swept alone (renamed s p q) (number_at (space s) q)) (renamed s p q))).nodes m)
  by true c = gone_turns s m (number_at (space s) q)
  by false true = swept_turns s (renamed s p q) m (number_at (space s) q) (inl refl)
  by false false = inl refl

closed_turns : (s : State) (who : Who) (h : Handle) (m : ℕ) → Turns s (node_at s.nodes m) (node_at (close_done alone s who h).state.nodes m)
unfolding close_done
closed_turns s who h m =
    let n : ℕ = file_number s.tables who h in
    let left : State = record (with_published s n) { tables = closed s.tables who h } in
    swept_turns s left m n (published_turns s m n)

-- ---- calls

keeps : (s : State) (m : ℕ) (o : Option Outcome) (last : Stepped) → (o ≡ None → Turns s (node_at s.nodes m) (node_at last.state.nodes m)) → Turns s (node_at s.nodes m) (node_at (stepped s o last).state.nodes m)
keeps s m None last acted = acted refl
keeps s m (Some outcome) last acted = inl refl

node_turns : (s : State) (who : Who) (call : Call) (m : ℕ) → m < length s.nodes → Turns s (node_at s.nodes m) (node_at (step s who call).state.nodes m)
unfolding mkdir_done rmdir_done unlink_done open_done dup_done write_done pwrite_done read_done pread_done seek_done fsync_done stat_done list_done unnamed
node_turns s who (Call.Mkdir p) m below = keeps s m _ _ (λ none. push_turns s p m Node.Directory below)
node_turns s who (Call.Rmdir p) m below = keeps s m _ _ (λ none. gone_turns s m (number_at (space s) p))
node_turns s who (Call.Unlink p) m below = keeps s m _ _ (λ none. swept_turns s (unnamed s p) m (number_at (space s) p) (inl refl))
node_turns s who (Call.Rename p q) m below = keeps s m _ _ (λ none. renamed_turns s p q m)
node_turns s who (Call.Open h p f) m below = keeps s m _ _ (λ none. opening_turns s p f.truncate m below)
node_turns s who (Call.Close h) m below = keeps s m _ _ (λ none. closed_turns s who h m)
node_turns s who (Call.Dup h g) m below = keeps s m _ _ (λ none. inl refl)
node_turns s who (Call.Read h n) m below = keeps s m _ _ (λ none. inl refl)
node_turns s who (Call.Pread h o n) m below = keeps s m _ _ (λ none. inl refl)
node_turns s who (Call.Write h x) m below =
    keeps s m _ _ (λ none. written_turns s who h (write_start s who h) x m (Accepts-from_rows s who h (write_start s who h) x none).may_write)
node_turns s who (Call.Pwrite h o x) m below = keeps s m _ _ (λ none. written_turns s who h o x m (Accepts-from_rows s who h o x none).may_write)
node_turns s who (Call.Seek h w by) m below = keeps s m _ _ (λ none. inl refl)
node_turns s who (Call.Truncate h n) m below = keeps s m _ _ (λ none. truncated_turns s who h n m (may_write-of s who h n none))
node_turns s who (Call.Fsync h) m below = keeps s m _ _ (λ none. published_turns s m (file_number s.tables who h))
node_turns s who (Call.Stat p) m below = keeps s m _ _ (λ none. inl refl)
node_turns s who (Call.List p) m below = keeps s m _ _ (λ none. inl refl)

-- ---- what follows

-- What is gone stays gone.
pub gone_kept : KeepsGone
gone_kept s c n is paths below gone = by (node_turns s c.0 c.1 n below) where
  by : Turns s (node_at s.nodes n) (node_at (after_call s c).nodes n) → node_at (after_call s c).nodes n ≡ Node.Gone
  by (inl same) = same ∙ gone
  by (inr (inl goes)) = goes
  by (inr (inr (inl published))) = published ∙ ap published_node gone
  by (inr (inr (inr (inl grows)))) = absurd (grows.live gone is paths)
  by (inr (inr (inr (inr ends)))) = absurd (ends.live gone is paths)

published_has : (x : Node) (i : ℕ) → HasPublished x i → HasPublished (published_node x) i
published_has Node.Gone i has = has
published_has Node.Directory i has = has
published_has (Node.File file) i has = record { below = has.there; there = has.there }

below_true : (i k : ℕ) → i < k → nat_lt i k ≡ true
below_true i k below = grind (arith, nat_tests)

within_true : (k i : ℕ) → k ≤ i → nat_le k i ≡ true
within_true k i within = grind (arith, nat_tests)

both : (a b : Bool) → a ≡ true → b ≡ true → (a && b) ≡ true
both true b is other = other
both false b is other = cc

-- A published byte stays published, or its file goes, or this call shortens it.
pub published_kept : KeepsPublished
published_kept s c n i is has whole = by (node_turns s c.0 c.1 n (node_below s.nodes n (λ gone. (let none = subst (λ x. HasPublished x i) gone has in absurd (omega (arith, none.there)))))) where
  x : Node
  x = node_at s.nodes n

  y : Node
  y = node_at (after_call s c).nodes n

  cut : (e : Ends s x y) → length e.bytes ≤ i → ⊥
  cut e past =
      let shorter : shortens s c n i ≡ true =
      ap (λ z. nat_lt i (length (bytes_of x)) && ends_before z i) e.is
      ∙ both (nat_lt i (length (bytes_of x))) (nat_le (length e.bytes) i) (below_true i (length (bytes_of x)) has.there) (within_true (length e.bytes) i past) in
      let never : true ≡ false = sym shorter ∙ whole in
      cc

  by : Turns s x y → HasPublished y i ⊎ (y ≡ Node.Gone)
  by (inl same) = inl (subst (λ z. HasPublished z i) (sym same) has)
  by (inr (inl goes)) = inr goes
  by (inr (inr (inl published))) = inl (subst (λ z. HasPublished z i) (sym published) (published_has x i has))
  by (inr (inr (inr (inl grows)))) = inl (record {
    below = subst (λ k. i < k) (sym grows.published) has.below;
    there = (let there = has.there in let long = grows.long in omega (arith, there, long));
  })
  by (inr (inr (inr (inr ends)))) = elim (cases_lt i (length ends.bytes)) [
    | inl below ↦ inl (subst (λ z. HasPublished z i) (sym ends.is) (record { below = below; there = below }))
    | inr past ↦ absurd (cut ends past)
  ]
