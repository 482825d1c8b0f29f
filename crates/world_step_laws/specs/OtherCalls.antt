-- Calls that leave the volume as it is; and the `close` after which a file without a name goes.
use Rattle.std.specs.Prelude.{◌≡◌, ◌⊎◌, ◌<◌, ℕ, zero, suc, true, false, List, [], ◌∷◌, length, Option, Some, None, slice_set, refl, if◌then◌else◌}
use Rattle.std.proofs.Common.{ap, ◌∙◌, sym, subst, inl, inr}
use Rattle.std.proofs.lemmas.List.{get_or-set_other, get_or-set_same, length-set}
use Rattle.volume_change_laws.specs.pm_model.Words.{Words}
use Rattle.volume_change_laws.specs.layout_model.declared.lines.Draft.{Draft}
use Rattle.volume_change_laws.specs.image_model.Volume.{Volume}
use Rattle.volume_change_laws.specs.k_split_model.ChangesChanges.{dropped}
use Rattle.commute_laws.specs.posix_types.declared.call.Call.{Call}
use Rattle.commute_laws.specs.posix_types.declared.call.Who.{Who}
use Rattle.commute_laws.specs.posix_types.declared.handle.Handle.{Handle}
use Rattle.commute_laws.specs.posix_types.declared.item.Outcome.{Outcome}
use Rattle.commute_laws.specs.posix_tables.declared.nodes.Node.{Node}
use Rattle.commute_laws.specs.posix_tables.Names.{is_named, number_at}
use Rattle.commute_laws.specs.posix_tables.Nodes.{node_at, published_node}
use Rattle.commute_laws.specs.posix_tables.Open.{closed, is_open}
use Rattle.commute_laws.specs.posix_tables.Outcomes.{first}
use Rattle.commute_laws.specs.posix_spec.FileRows.{close_rows, file_number}
use Rattle.commute_laws.specs.posix_spec.Run.{after_call}
use Rattle.commute_laws.specs.posix_spec.State.{alone, made, space, State, swept, with_node, with_published}
use Rattle.commute_laws.specs.posix_spec.Step.{close_done, empty_file, fsync_done, open_done, opening, pread_done, read_done, seek_done, dup_done, list_done, stat_done, stepped, Stepped}
use Rattle.commute_laws.specs.Needs.{needs}
use Rattle.commute_laws.specs.Rooms.{FitsBeside}
use Rattle.commute_laws.specs.posix_laws.RowLaws.{stepped-keeps}
use Rattle.world_model.specs.Jobs.{Job}
use Rattle.world_model.specs.Stands.{is_used, IsUsed}
use Rattle.world_model.specs.Landed.{NamesStand-same}
use Rattle.world_step_laws.specs.GoneCalls.{IsWorld-dropped, IsWorld-rows}
use Rattle.world_step_laws.specs.Nameless.{is_named-nameless}
use Rattle.world_step_laws.specs.RemoveCalls.{swept-gone, swept-named, swept-open}
use Rattle.world_step_laws.specs.Steps.{flights_of, GoOn, GoOn-call, shown_node}
use Rattle.world_step_laws.specs.Worlds.{IsIdle, IsWorld}
use Rattle.world_step_laws.specs.NamesLaws.{KeepsCloseGone, KeepsClosed, KeepsOpened, KeepsIdle}

-- entries, shape, and nodes but for published lengths are the same
pub record SameShown (s new : State) : Type 0 where
  pub entries : new.entries ≡ s.entries
  pub count : length new.nodes ≡ length s.nodes
  pub nodes : (n : ℕ) → shown_node (node_at new.nodes n) ≡ shown_node (node_at s.nodes n)
  pub shape : new.shape ≡ s.shape

-- THE VOLUME STAYS.
pub IsWorld-same : (v : Volume) (claims : List (ℕ × Draft)) (jobs : List Job) (f : Words) (numbers : List ℕ) (s new : State) (count : ℕ) → IsWorld v claims jobs f numbers s count → GoOn s new numbers jobs → SameShown s new
    → IsWorld v claims jobs f numbers new count
IsWorld-same v claims jobs f numbers s new count world on same =
    IsWorld-rows v v.names claims jobs f numbers s new count world world.valid.stands.sane (NamesStand-same v numbers s new same.entries same.count world.valid.stands.names) refl on same.nodes same.shape

pub SameShown-itself : (s : State) → SameShown s s
SameShown-itself s = record { entries = refl; count = refl; nodes = λ n. refl; shape = refl }

shown_published : (node : Node) → shown_node (published_node node) ≡ shown_node node
shown_published Node.Gone = refl
shown_published Node.Directory = refl
shown_published (Node.File file) = refl

published_at : (xs : List Node) (n m : ℕ) → shown_node (node_at (slice_set xs n (published_node (node_at xs n))) m) ≡ shown_node (node_at xs m)
published_at [] n m = refl
published_at (x ∷ xs) zero zero = shown_published x
published_at (x ∷ xs) zero (suc m) = refl
published_at (x ∷ xs) (suc n) zero = refl
published_at (x ∷ xs) (suc n) (suc m) = published_at xs n m

idle_same : (s : State) (who : Who) (call : Call) → IsIdle call → SameShown s (after_call s (who, call))
unfolding dup_done read_done pread_done seek_done fsync_done with_published stat_done list_done
idle_same s who (Call.Mkdir p) idle = absurd idle
idle_same s who (Call.Rmdir p) idle = absurd idle
idle_same s who (Call.Unlink p) idle = absurd idle
idle_same s who (Call.Rename p q) idle = absurd idle
idle_same s who (Call.Open h p flags) idle = absurd idle
idle_same s who (Call.Close h) idle = absurd idle
idle_same s who (Call.Write h x) idle = absurd idle
idle_same s who (Call.Pwrite h o x) idle = absurd idle
idle_same s who (Call.Truncate h n) idle = absurd idle
idle_same s who (Call.Dup h g) idle = stepped-keeps (SameShown s) s _ _ (SameShown-itself s) (λ none. record { entries = refl; count = refl; nodes = λ n. refl; shape = refl })
idle_same s who (Call.Read h n) idle = stepped-keeps (SameShown s) s _ _ (SameShown-itself s) (λ none. record { entries = refl; count = refl; nodes = λ n. refl; shape = refl })
idle_same s who (Call.Pread h o n) idle = stepped-keeps (SameShown s) s _ _ (SameShown-itself s) (λ none. SameShown-itself s)
idle_same s who (Call.Seek h w by) idle = stepped-keeps (SameShown s) s _ _ (SameShown-itself s) (λ none. record { entries = refl; count = refl; nodes = λ n. refl; shape = refl })
idle_same s who (Call.Fsync h) idle = stepped-keeps (SameShown s) s _ _ (SameShown-itself s) (λ none.
    record { entries = refl; count = length-set s.nodes (file_number s.tables who h) _; nodes = λ n. published_at s.nodes (file_number s.tables who h) n; shape = refl })
idle_same s who (Call.Stat p) idle = stepped-keeps (SameShown s) s _ _ (SameShown-itself s) (λ none. SameShown-itself s)
idle_same s who (Call.List p) idle = stepped-keeps (SameShown s) s _ _ (SameShown-itself s) (λ none. SameShown-itself s)

pub IsWorld-idle : KeepsIdle
IsWorld-idle v claims jobs f numbers s count who call world lets idle =
    IsWorld-same v claims jobs f numbers s (after_call s (who, call)) count world (GoOn-call v claims jobs f numbers s (who, call) world.valid lets (beside call idle)) (idle_same s who call idle)
  where
    beside : (c : Call) → IsIdle c → FitsBeside s (who, c) (needs s (flights_of numbers jobs))
    beside (Call.Write h x) never = absurd never
    beside (Call.Pwrite h o x) never = absurd never
    beside (Call.Truncate h n) never = absurd never
    beside c never = tt

-- a call that a row refuses leaves everything
pub IsWorld-refused : (v : Volume) (claims : List (ℕ × Draft)) (jobs : List Job) (f : Words) (numbers : List ℕ) (s : State) (count : ℕ) (o : Option Outcome) (outcome : Outcome) (last : Stepped) → IsWorld v claims jobs f numbers s count
    → o ≡ Some outcome → IsWorld v claims jobs f numbers (stepped s o last).state count
IsWorld-refused v claims jobs f numbers s count o outcome last world is = subst (λ q. IsWorld v claims jobs f numbers (stepped s q last).state count) (sym is) world

-- an `open` of a file that is there, and is not cut
pub IsWorld-opened : KeepsOpened
unfolding open_done opening
IsWorld-opened v claims jobs f numbers s count who h p flags world lets there uncut =
    IsWorld-same v claims jobs f numbers s (after_call s (who, Call.Open h p flags)) count world (GoOn-call v claims jobs f numbers s (who, Call.Open h p flags) world.valid lets tt)
    (stepped-keeps (SameShown s) s _ _ (SameShown-itself s) (λ none. record {
      entries = ap (λ (x : State). x.entries) same;
      count = ap (λ (x : State). length x.nodes) same;
      nodes = λ n. ap (λ (x : State). shown_node (node_at x.nodes n)) same;
      shape = ap (λ (x : State). x.shape) same;
    }))
  where
    same : opening s p flags.truncate ≡ s
    same =
        ap (λ b. if b then (if flags.truncate then with_node s (number_at (space s) p) empty_file else s) else made s p empty_file) there
        ∙ ap (λ b. if b then with_node s (number_at (space s) p) empty_file else s) uncut

-- ---- close

-- the state in which a handle is closed
abbrev pub shut_state : State → Who → Handle → State
shut_state s who h = record (with_published s (file_number s.tables who h)) { tables = closed s.tables who h }

close_same : (s : State) (who : Who) (h : Handle) → SameShown s (shut_state s who h)
unfolding with_published
close_same s who h = record { entries = refl; count = length-set s.nodes (file_number s.tables who h) _; nodes = λ n. published_at s.nodes (file_number s.tables who h) n; shape = refl }

closing : (s : State) (who : Who) (h : Handle) → first (close_rows s.tables who h) ≡ None → after_call s (who, Call.Close h) ≡ swept alone (shut_state s who h) (file_number s.tables who h)
unfolding close_done
closing s who h none = ap (λ o. (stepped s o (close_done alone s who h)).state) none

-- a `close` of a file that stays: it has a name, or is open still
pub IsWorld-closed : KeepsClosed
unfolding with_published
IsWorld-closed v claims jobs f numbers s count who h world lets none stays =
    let same = closing s who h none ∙ by stays in
    subst (λ x. IsWorld v claims jobs f numbers x count) (sym same)
    (IsWorld-same v claims jobs f numbers s (shut_state s who h) count world (subst (λ x. GoOn s x numbers jobs) same (GoOn-call v claims jobs f numbers s (who, Call.Close h) world.valid lets tt)) (close_same s who h))
  where
    by : (is_named s.entries (file_number s.tables who h) ≡ true) ⊎ (is_open (closed s.tables who h) (file_number s.tables who h) ≡ true) → swept alone (shut_state s who h) (file_number s.tables who h) ≡ shut_state s who h
    by (inl named) = swept-named (shut_state s who h) (file_number s.tables who h) named
    by (inr open_still) = swept-open (shut_state s who h) (file_number s.tables who h) open_still

-- the last `close` of a file without a name
pub IsWorld-close_gone : KeepsCloseGone
unfolding with_published
IsWorld-close_gone v claims jobs f numbers s count who h c world lets none file num nameless shut =
    let n = file_number s.tables who h in
    let used : IsUsed v c = ap is_used file in
    let unnamed_there : is_named s.entries n ≡ false =
    ap (is_named s.entries) (sym num) ∙ is_named-nameless v numbers s c world.valid.stands.sane world.valid.stands.names used nameless
    in
    let new : State = with_node (shut_state s who h) n Node.Gone in
    let same : after_call s (who, Call.Close h) ≡ new = closing s who h none ∙ swept-gone (shut_state s who h) n unnamed_there shut in
    let below : n < length (shut_state s who h).nodes =
    subst (λ m. n < m) (sym (close_same s who h).count) (subst (λ m. m < length s.nodes) num (world.valid.stands.names.within c used))
    in
    subst (λ x. IsWorld (dropped c v) claims jobs f numbers x count) (sym same)
    (IsWorld-dropped v claims jobs f numbers s new count c world file nameless (ap (is_open (closed s.tables who h)) num ∙ shut)
    (subst (λ x. GoOn s x numbers jobs) same (GoOn-call v claims jobs f numbers s (who, Call.Close h) world.valid lets tt))
    (λ m other. ap shown_node (get_or-set_other (shut_state s who h).nodes n m Node.Gone Node.Gone (λ one. other (one ∙ sym num))) ∙ (close_same s who h).nodes m)
    (ap (node_at new.nodes) num ∙ get_or-set_same (shut_state s who h).nodes n Node.Gone Node.Gone below) refl (length-set (shut_state s who h).nodes n Node.Gone ∙ (close_same s who h).count) refl)
