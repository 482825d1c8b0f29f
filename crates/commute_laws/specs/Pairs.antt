-- What a write in flight makes of a state, now and after a call of others, and that the two commute.
use Rattle.std.specs.Prelude.{◌≡◌, ◌≢◌, ◌≤◌, ℕ, zero, suc, ◌+◌, cond, List, [], ◌∷◌, length, Option, Some, None, is_none, slice_get, slice_set, unwrap_or, option_map, refl}
use Rattle.std.proofs.Common.{ap, ◌∙◌, sym, subst, inl, inr, arith, lit<}
use Rattle.crash_spec.specs.posix_laws.posix_types.declared.call.Call.{Call}
use Rattle.crash_spec.specs.posix_laws.posix_types.declared.call.Who.{Who}
use Rattle.crash_spec.specs.posix_laws.posix_types.declared.handle.Handle.{Handle}
use Rattle.crash_spec.specs.posix_laws.posix_tables.declared.nodes.File.{File}
use Rattle.crash_spec.specs.posix_laws.posix_tables.declared.nodes.Node.{Node}
use Rattle.crash_spec.specs.posix_laws.posix_tables.declared.open.Description.{Description}
use Rattle.crash_spec.specs.posix_laws.posix_tables.Nodes.{node_at, published_of}
use Rattle.crash_spec.specs.posix_laws.posix_tables.Names.{node_at_path, too_long}
use Rattle.crash_spec.specs.posix_laws.posix_tables.Open.{key_of, opened, with_offset}
use Rattle.crash_spec.specs.posix_laws.posix_tables.Outcomes.{first}
use Rattle.crash_spec.specs.posix_laws.posix_tables.Room.{growth}
use Rattle.crash_spec.specs.posix_laws.posix_spec.FileRows.{truncate_rows, write_rows, write_start}
use Rattle.crash_spec.specs.posix_laws.posix_spec.Put.{put_by}
use Rattle.crash_spec.specs.posix_laws.posix_spec.Run.{after_call, Unfinished}
use Rattle.crash_spec.specs.posix_laws.posix_spec.State.{alone, room, State, with_file}
use Rattle.crash_spec.specs.posix_laws.posix_spec.Step.{pwrite_done, step, stepped, Stepped, write_done, written}
use Rattle.crash_spec.specs.posix_laws.RowLaws.{Accepts-from_rows, no_row, none_fits, put_at-Some, rows-from_Accepts}
use Rattle.crash_spec.specs.posix_laws.PutLaws.{LeavesWhole-step}
use Rattle.crash_spec.specs.posix_laws.Puts.{LeavesWhole, PutsWhole}
use Rattle.crash_spec.specs.posix_laws.ViewLaws.{content-same, need_of-kept, write_start-same}
use Rattle.crash_spec.specs.posix_laws.Views.{need_of, SameView}
use Rattle.crash_spec.specs.Busy.{path_node, waits_for}
use Rattle.commute_laws.specs.Acted.{acted, Change, handle-acted, option_either, space-acted, Touches, unknown-acted, view-acted, with_slot}
use Rattle.commute_laws.specs.Bystanders.{not_not}
use Rattle.commute_laws.specs.Commutes.{step-acted, takes}
use Rattle.commute_laws.specs.Flights.{InFlight, InFlight-step, IsPutBy, KeepsSeen-call, KeepsView-seen, put_at-IsPutBy}
use Rattle.commute_laws.specs.Frames.{AreThreads, granted, KeepsSeen, KeepsSeen-none, LeavesAlone, other_file}
use Rattle.commute_laws.specs.Handles.{key_of-Opens, slot_of, with_offset-is}
use Rattle.commute_laws.specs.Needs.{FitsBeside-put}
use Rattle.commute_laws.specs.Rooms.{FitsBeside, room-step}

-- ---- the change of a write

-- a write in flight makes this change of the state
pub record Acts (s : State) (c : Unfinished) (node : ℕ) (h : Handle) (change : Change) : Type 0 where
  pub touches : Touches s c.0 h change
  pub is : after_call s c ≡ acted s change
  pub node_is : change.node ≡ node

same_slot : {X : Type 0} (xs : List X) (n : ℕ) (x : X) → slice_get xs n ≡ Some x → slice_set xs n x ≡ xs
same_slot [] n x is = refl
same_slot (y ∷ ys) zero x is = let one : y ≡ x = cc in ap (λ z. z ∷ ys) (sym one)
same_slot (y ∷ ys) (suc n) x is = ap (λ zs. y ∷ zs) (same_slot ys n x is)

-- the change of a write, with the description that it leaves
abbrev change_to : State → ℕ → List ℕ → ℕ → Description → Change
change_to s node whole key to = record { key = key; to = to; node = node; file = record { bytes = whole; published = published_of (node_at s.nodes node) } }

acts_by : (s : State) (who : Who) (call : Call) (node : ℕ) (whole : List ℕ) (h : Handle) (puts : IsPutBy s who h node) (to : Description) (file : File)
    → to.node ≡ node → node_at s.nodes node ≡ Node.File file
    → LeavesWhole s (step s who call).state node whole
    → (step s who call).state.tables ≡ with_slot s.tables (change_to s node whole puts.key to)
    → Acts s (who, call) node h (change_to s node whole puts.key to)
acts_by s who call node whole h puts to file same is leaves tables = record {
  touches = record { by = puts.by; opens = puts.opens; by_node = puts.node_is; to_node = same; before = file; is = is };
  is = λ i. record { nodes = leaves.nodes i; entries = leaves.entries i; tables = tables i; shape = leaves.shape i; mode = leaves.mode i };
  node_is = refl;
}

write_tables : (s : State) (who : Who) (h : Handle) (x : List ℕ) (node : ℕ) (whole : List ℕ) (puts : IsPutBy s who h node) (offset : ℕ)
    → offset ≡ write_start s who h + length x
    → first (write_rows s who h (write_start s who h) x) ≡ None
    → (step s who (Call.Write h x)).state.tables ≡ with_slot s.tables (change_to s node whole puts.key (record puts.by { offset = offset }))
unfolding write_done written with_file
write_tables s who h x node whole puts offset same none =
    let key : unwrap_or (key_of s.tables who h) 0 ≡ puts.key = ap (λ k. unwrap_or k 0) (key_of-Opens s.tables who h puts.key puts.by puts.opens) in
    ap (λ o. (stepped s o (write_done alone s who h x)).state.tables) none
    ∙ (λ i. with_offset s.tables (key i) (sym same i))
    ∙ with_offset-is s.tables puts.key offset puts.by puts.opens.stands

pwrite_tables : (s : State) (who : Who) (h : Handle) (start : ℕ) (x : List ℕ) (node : ℕ) (whole : List ℕ) (puts : IsPutBy s who h node)
    → first (write_rows s who h start x) ≡ None
    → (step s who (Call.Pwrite h start x)).state.tables ≡ with_slot s.tables (change_to s node whole puts.key puts.by)
unfolding pwrite_done written with_file
pwrite_tables s who h start x node whole puts none =
    ap (λ o. (stepped s o (pwrite_done alone s who h start x)).state.tables) none
    ∙ (λ i. record s.tables { descriptions = sym (same_slot s.tables.descriptions puts.key (Some puts.by) (slot_of s.tables puts.key puts.by puts.opens.stands)) i })

-- A write in flight makes the same change of a state in which what it sees stayed, and which has the room.
pub record ActsTwice (s new : State) (c : Unfinished) (node : ℕ) : Type 0 where
  pub handle : Handle
  pub change : Change
  pub now : Acts s c node handle change
  pub later : Acts new c node handle change

abbrev kept_put : (s new : State) (who : Who) (h : Handle) (node : ℕ) → IsPutBy s who h node → KeepsSeen s new who node → IsPutBy new who h node
kept_put s new who h node puts keeps = record { key = puts.key; by = puts.by; opens = keeps.handles h puts.key puts.by puts.opens puts.node_is; node_is = puts.node_is }

published_same : (s new : State) (who : Who) (node : ℕ) (whole : List ℕ) (key : ℕ) (to : Description)
    → KeepsSeen s new who node → change_to new node whole key to ≡ change_to s node whole key to
published_same s new who node whole key to keeps = ap (λ (x : Node). (let c : Change = record { key = key; to = to; node = node; file = record { bytes = whole; published = published_of x } } in c)) keeps.file

pub Acts-twice : (s new : State) (who : Who) (call : Call) (node : ℕ) (whole : List ℕ) (file : File)
    → PutsWhole s who call node whole → node_at s.nodes node ≡ Node.File file → KeepsSeen s new who node
    → PutsWhole new who call node whole → ActsTwice s new (who, call) node
unfolding put_by
Acts-twice s new who (Call.Write h x) node whole file puts is keeps again =
    let by = put_at-IsPutBy s who h (write_start s who h) x puts.put node puts.is puts.node_is in
    let view : SameView s new who h = KeepsView-seen s new who (Call.Write h x) node whole puts keeps in
    let none = rows-from_Accepts s who h (write_start s who h) x (put_at-Some s who h (write_start s who h) x puts.put puts.is).0 in
    let none_again = rows-from_Accepts new who h (write_start new who h) x (put_at-Some new who h (write_start new who h) x again.put again.is).0 in
    let to : Description = record by.by { offset = write_start s who h + length x } in
    let offset = ap (λ n. n + length x) (sym (write_start-same s new who h view)) in
    let by_again = kept_put s new who h node by keeps in
    record {
      handle = h;
      change = change_to s node whole by.key to;
      now = acts_by s who (Call.Write h x) node whole h by to file by.node_is is (LeavesWhole-step s who (Call.Write h x) node whole puts) (write_tables s who h x node whole by (write_start s who h + length x) refl none);
      later =
          subst (λ c. Acts new (who, Call.Write h x) node h c) (published_same s new who node whole by.key to keeps)
          (acts_by new who (Call.Write h x) node whole h by_again to file by.node_is (keeps.file ∙ is) (LeavesWhole-step new who (Call.Write h x) node whole again)
          (write_tables new who h x node whole by_again (write_start s who h + length x) offset none_again));
    }
Acts-twice s new who (Call.Pwrite h start x) node whole file puts is keeps again =
    let by = put_at-IsPutBy s who h start x puts.put node puts.is puts.node_is in
    let none = rows-from_Accepts s who h start x (put_at-Some s who h start x puts.put puts.is).0 in
    let none_again = rows-from_Accepts new who h start x (put_at-Some new who h start x again.put again.is).0 in
    let by_again = kept_put s new who h node by keeps in
    record {
      handle = h;
      change = change_to s node whole by.key by.by;
      now = acts_by s who (Call.Pwrite h start x) node whole h by by.by file by.node_is is (LeavesWhole-step s who (Call.Pwrite h start x) node whole puts) (pwrite_tables s who h start x node whole by none);
      later =
          subst (λ c. Acts new (who, Call.Pwrite h start x) node h c) (published_same s new who node whole by.key by.by keeps)
          (acts_by new who (Call.Pwrite h start x) node whole h by_again by.by file by.node_is (keeps.file ∙ is) (LeavesWhole-step new who (Call.Pwrite h start x) node whole again) (pwrite_tables new who h start x node whole by_again none_again));
    }
Acts-twice s new who call node whole file puts is keeps again = let never = puts.is in cc

-- a write in flight finds its room
pub need_of-fits : (s : State) (who : Who) (call : Call) (node : ℕ) (whole : List ℕ) → PutsWhole s who call node whole
    → need_of s who call ≤ room s
unfolding put_by
need_of-fits s who (Call.Write h x) node whole puts = (put_at-Some s who h (write_start s who h) x puts.put puts.is).0.room
need_of-fits s who (Call.Pwrite h start x) node whole puts = (put_at-Some s who h start x puts.put puts.is).0.room
need_of-fits s who call node whole puts = let never = puts.is in cc

pub Acts-now : (s : State) (c : Unfinished) (node : ℕ) (whole : List ℕ) → InFlight s c node whole → ActsTwice s s c node
Acts-now s (who, call) node whole flight = Acts-twice s s who call node whole flight.file flight.puts flight.is (KeepsSeen-none s who node) flight.puts

-- ---- what a call of others takes

is_known : (s : State) (who : Who) (h : Handle) (e : Description) (n k left : ℕ) → opened s.tables who h ≡ Some e
    → cond (is_none (opened s.tables who h)) 0 n + k ≤ left → n + k ≤ left
is_known s who h e n k left is fits = subst (λ (o : Option Description). cond (is_none o) 0 n + k ≤ left) is fits

pub FitsBeside-takes : (s : State) (d : Unfinished) (k : ℕ) → takes s d + k ≤ room s → FitsBeside s d k
unfolding truncate_rows
FitsBeside-takes s (who, Call.Write h x) k fits = λ none.
    let is = granted (λ d. d.flags.write) (opened s.tables who h) (Accepts-from_rows s who h (write_start s who h) x none).may_write in
    is_known s who h is.0 _ k (room s) is.1 fits
FitsBeside-takes s (who, Call.Pwrite h start x) k fits = λ none.
    let is = granted (λ d. d.flags.write) (opened s.tables who h) (Accepts-from_rows s who h start x none).may_write in
    is_known s who h is.0 _ k (room s) is.1 fits
FitsBeside-takes s (who, Call.Truncate h n) k fits = λ none.
    let is = granted (λ d. d.flags.write) (opened s.tables who h) (not_not _ (no_row _ _ ((none_fits (truncate_rows s who h n) none) 0 None (lit< tt)))) in
    is_known s who h is.0 _ k (room s) is.1 fits
FitsBeside-takes s (who, Call.Mkdir p) k fits = tt
FitsBeside-takes s (who, Call.Rmdir p) k fits = tt
FitsBeside-takes s (who, Call.Unlink p) k fits = tt
FitsBeside-takes s (who, Call.Rename p q) k fits = tt
FitsBeside-takes s (who, Call.Open h p f) k fits = tt
FitsBeside-takes s (who, Call.Close h) k fits = tt
FitsBeside-takes s (who, Call.Dup h g) k fits = tt
FitsBeside-takes s (who, Call.Read h n) k fits = tt
FitsBeside-takes s (who, Call.Pread h o n) k fits = tt
FitsBeside-takes s (who, Call.Seek h w by) k fits = tt
FitsBeside-takes s (who, Call.Fsync h) k fits = tt
FitsBeside-takes s (who, Call.Stat p) k fits = tt
FitsBeside-takes s (who, Call.List p) k fits = tt

-- a call takes the same, and waits for the same file, after a write of another file acted
same_taken : (s : State) (who : Who) (h : Handle) (c : Change) (who2 : Who) (h2 : Handle) (n m : ℕ)
    → Touches s who h c → option_map (λ (d : Description). d.node) (opened s.tables who2 h2) ≢ Some c.node
    → (SameView s (acted s c) who2 h2 → m ≡ n)
    → cond (is_none (opened (acted s c).tables who2 h2)) 0 m ≡ cond (is_none (opened s.tables who2 h2)) 0 n
same_taken s who h c who2 h2 n m t aside same = elim (option_either (opened s.tables who2 h2)) [
  | inl none ↦
      ap (λ (o : Option Description). cond (is_none o) 0 m) (unknown-acted s who who2 h h2 c t none) ∙ sym (ap (λ (o : Option Description). cond (is_none o) 0 n) none)
  | inr some ↦
      let view = view-acted s who who2 h h2 c some.0 t some.1 (other_file s who2 h2 c.node some.0 aside some.1) in
      (λ i. cond (is_none (view.handle i)) 0 (same view i))
]

pub takes-acted : (s : State) (who : Who) (h : Handle) (c : Change) (d : Unfinished) → Touches s who h c
    → LeavesAlone s d c.node → takes (acted s c) d ≡ takes s d
unfolding waits_for
takes-acted s who h c (who2, Call.Write h2 x) t aside = same_taken s who h c who2 h2 _ _ t aside (λ view. need_of-kept s (acted s c) who2 (Call.Write h2 x) view)
takes-acted s who h c (who2, Call.Pwrite h2 start x) t aside = same_taken s who h c who2 h2 _ _ t aside (λ view. need_of-kept s (acted s c) who2 (Call.Pwrite h2 start x) view)
takes-acted s who h c (who2, Call.Truncate h2 n) t aside = same_taken s who h c who2 h2 _ _ t aside (λ view. ap (λ (bytes : List ℕ). growth (length bytes) n) (content-same s (acted s c) who2 h2 view))
takes-acted s who h c (who2, Call.Mkdir p) t aside = refl
takes-acted s who h c (who2, Call.Rmdir p) t aside = refl
takes-acted s who h c (who2, Call.Unlink p) t aside = refl
takes-acted s who h c (who2, Call.Rename p q) t aside = refl
takes-acted s who h c (who2, Call.Open h2 p f) t aside = refl
takes-acted s who h c (who2, Call.Close h2) t aside = refl
takes-acted s who h c (who2, Call.Dup h2 g) t aside = refl
takes-acted s who h c (who2, Call.Read h2 n) t aside = refl
takes-acted s who h c (who2, Call.Pread h2 o n) t aside = refl
takes-acted s who h c (who2, Call.Seek h2 w by) t aside = refl
takes-acted s who h c (who2, Call.Fsync h2) t aside = refl
takes-acted s who h c (who2, Call.Stat p) t aside = refl
takes-acted s who h c (who2, Call.List p) t aside = refl

same_node : (s : State) (who : Who) (h : Handle) (c : Change) (who2 : Who) (h2 : Handle) → Touches s who h c
    → option_map (λ (d : Description). d.node) (opened s.tables who2 h2) ≢ Some c.node
    → option_map (λ (d : Description). d.node) (opened (acted s c).tables who2 h2) ≡ option_map (λ (d : Description). d.node) (opened s.tables who2 h2)
same_node s who h c who2 h2 t aside = ap (λ o. option_map (λ (d : Description). d.node) o) (handle-acted s who who2 h h2 c t aside)

same_path : (s : State) (who : Who) (h : Handle) (c : Change) (p : List (List ℕ)) → Touches s who h c
    → path_node (acted s c) p ≡ path_node s p
same_path s who h c p t = ap (λ sp. cond (too_long sp.longest p) None (node_at_path sp p)) (space-acted s who h c t)

pub waits_for-acted : (s : State) (who : Who) (h : Handle) (c : Change) (d : Unfinished) → Touches s who h c
    → LeavesAlone s d c.node → waits_for (acted s c) d ≡ waits_for s d
unfolding waits_for
waits_for-acted s who h c (who2, Call.Mkdir p) t aside = refl
waits_for-acted s who h c (who2, Call.Rmdir p) t aside = refl
waits_for-acted s who h c (who2, Call.Unlink p) t aside = refl
waits_for-acted s who h c (who2, Call.Rename p q) t aside = refl
waits_for-acted s who h c (who2, Call.Open h2 p f) t aside = ap (λ o. cond f.truncate o None) (same_path s who h c p t)
waits_for-acted s who h c (who2, Call.Close h2) t aside = same_node s who h c who2 h2 t aside
waits_for-acted s who h c (who2, Call.Dup h2 g) t aside = same_node s who h c who2 h2 t aside
waits_for-acted s who h c (who2, Call.Read h2 n) t aside = same_node s who h c who2 h2 t aside
waits_for-acted s who h c (who2, Call.Pread h2 o n) t aside = same_node s who h c who2 h2 t aside
waits_for-acted s who h c (who2, Call.Write h2 x) t aside = same_node s who h c who2 h2 t aside
waits_for-acted s who h c (who2, Call.Pwrite h2 o x) t aside = same_node s who h c who2 h2 t aside
waits_for-acted s who h c (who2, Call.Seek h2 w by) t aside = same_node s who h c who2 h2 t aside
waits_for-acted s who h c (who2, Call.Truncate h2 n) t aside = same_node s who h c who2 h2 t aside
waits_for-acted s who h c (who2, Call.Fsync h2) t aside = same_node s who h c who2 h2 t aside
waits_for-acted s who h c (who2, Call.Stat p) t aside = same_path s who h c p t
waits_for-acted s who h c (who2, Call.List p) t aside = refl

-- ---- a write in flight and a call of others

-- after either order the state is the same, and the call gives the same outcome before and after the write
pub record Commute (s : State) (c d : Unfinished) : Type 0 where
  pub states : after_call (after_call s c) d ≡ after_call (after_call s d) c
  pub outcome : (step (after_call s c) d.0 d.1).outcome ≡ (step s d.0 d.1).outcome

pub Commute-call : (s : State) (c d : Unfinished) (node : ℕ) (whole : List ℕ) → InFlight s c node whole
    → AreThreads c.0 d.0 → LeavesAlone s d node → takes s d + need_of s c.0 c.1 ≤ room s → Commute s c d
Commute-call s (who, call) (who2, call2) node whole flight threads aside fits =
    let new : State = after_call s (who2, call2) in
    let beside = FitsBeside-takes s (who2, call2) (need_of s who call) fits in
    let left = room-step s (who2, call2) (need_of s who call) (omega (arith, fits)) beside in
    let again = InFlight-step s (who, call) (who2, call2) node whole threads flight aside left in
    let keeps = KeepsSeen-call s (who, call) (who2, call2) node whole threads flight aside in
    let both = Acts-twice s new who call node whole flight.file flight.puts flight.is keeps again.puts in
    let change : Change = both.change in
    let after = room-step s (who, call) (takes s (who2, call2)) (omega (arith, fits)) (FitsBeside-put s who call node whole (takes s (who2, call2)) flight.puts (omega (arith, fits))) in
    let other = subst (λ n. LeavesAlone s (who2, call2) n) (sym both.now.node_is) aside in
    let one = step-acted s who both.handle change who2 call2 both.now.touches threads other (omega (arith, fits)) (subst (λ x. takes s (who2, call2) ≤ room x) both.now.is after) in
    let first_one = ap (λ x. step x who2 call2) both.now.is ∙ one in
    record { states = ap (λ (g : Stepped). g.state) first_one ∙ sym both.later.is; outcome = ap (λ (g : Stepped). g.outcome) first_one }
