-- What a write keeps of others also where only a part of its bytes is found: a state that has other bytes in its file, as many.
use Rattle.std.specs.Prelude.{◌≡◌, ◌≢◌, ◌≤◌, ℕ, ◌+◌, ◌-◌, get_or, List, length}
use Rattle.std.proofs.Common.{arith, ap, ◌∙◌, sym, subst}
use Rattle.std.proofs.lemmas.List.{get_or-set_other}
use Rattle.crash_spec.specs.posix_laws.block_counts.Counts.{held_by, reserve_for}
use Rattle.crash_spec.specs.posix_laws.posix_types.declared.call.Call.{Call}
use Rattle.crash_spec.specs.posix_laws.posix_types.declared.call.Who.{Who}
use Rattle.crash_spec.specs.posix_laws.posix_types.declared.handle.Handle.{Handle}
use Rattle.crash_spec.specs.posix_laws.posix_types.declared.reply.Shape.{Shape}
use Rattle.crash_spec.specs.posix_laws.posix_tables.declared.nodes.Node.{Node}
use Rattle.crash_spec.specs.posix_laws.posix_tables.declared.open.Description.{Description}
use Rattle.crash_spec.specs.posix_laws.posix_tables.Open.{Tables}
use Rattle.crash_spec.specs.posix_laws.posix_tables.Room.{held}
use Rattle.crash_spec.specs.posix_laws.posix_spec.Run.{after_call, Unfinished}
use Rattle.crash_spec.specs.posix_laws.posix_spec.State.{Fits, room, State}
use Rattle.crash_spec.specs.posix_laws.PutLaws.{LeavesWhole-step}
use Rattle.crash_spec.specs.posix_laws.Puts.{LeavesWhole, PutsWhole, with_whole}
use Rattle.crash_spec.specs.posix_laws.Views.{KeepsView, need_of}
use Rattle.commute_laws.specs.Acted.{Change}
use Rattle.commute_laws.specs.Counted.{held-exact, held-put}
use Rattle.commute_laws.specs.Flights.{InFlight, KeepsView-seen}
use Rattle.commute_laws.specs.Frames.{KeepsSeen}
use Rattle.commute_laws.specs.Handles.{keys_apart, Opens, Opens-set}
use Rattle.commute_laws.specs.Pairs.{Acts-now}

-- the handles of other files stand for what they stood for
abbrev pub KeepsOthers : Tables → Tables → ℕ → Type 0
KeepsOthers t new node = (who : Who) (h : Handle) (key : ℕ) (d : Description) → Opens t who h key d → d.node ≢ node → Opens new who h key d

-- a write keeps them
pub KeepsOthers-step : (s : State) (c : Unfinished) (node : ℕ) (whole : List ℕ) → InFlight s c node whole
    → KeepsOthers s.tables (after_call s c).tables node
KeepsOthers-step s c node whole flight who h key d o other =
    let acts = Acts-now s c node whole flight in
    let change : Change = acts.change in
    let t = acts.now.touches in
    let apart = keys_apart s.tables key change.key d t.by o.stands t.opens.stands (λ same. other (same ∙ t.by_node ∙ acts.now.node_is)) in
    subst (λ (x : State). Opens x.tables who h key d) (sym acts.now.is) (Opens-set s.tables who h key change.key d _ apart o)

-- and so what writes of other files see stays, whatever bytes are found in this one
pub KeepsSeen-leaves : (s new : State) (node : ℕ) (found : List ℕ) (who : Who) (other : ℕ)
    → LeavesWhole s new node found → KeepsOthers s.tables new.tables node → other ≢ node → KeepsSeen s new who other
KeepsSeen-leaves s new node found who other leaves keeps apart = record {
  handles = λ h key d o same. keeps who h key d o (λ one. apart (sym same ∙ one));
  file = ap (λ ns. get_or ns other Node.Gone) leaves.nodes ∙ get_or-set_other s.nodes node other (with_whole s node found) Node.Gone apart;
  mode = leaves.mode;
}

pub KeepsView-leaves : (s new : State) (node : ℕ) (found : List ℕ) (who2 : Who) (call2 : Call) (node2 : ℕ) (whole2 : List ℕ)
    → LeavesWhole s new node found → KeepsOthers s.tables new.tables node
    → PutsWhole s who2 call2 node2 whole2 → node2 ≢ node → KeepsView s new who2 call2
KeepsView-leaves s new node found who2 call2 node2 whole2 leaves keeps puts apart = KeepsView-seen s new who2 call2 node2 whole2 puts (KeepsSeen-leaves s new node found who2 node2 leaves keeps apart)

-- what the files hold goes by the length of what is found alone
held_leaves : (s new : State) (c : Unfinished) (node : ℕ) (whole found : List ℕ) → InFlight s c node whole
    → LeavesWhole s new node found → length found ≡ length whole → held new.nodes ≡ held (after_call s c).nodes
held_leaves s new (who, call) node whole found flight leaves long =
    let whole_left = LeavesWhole-step s who call node whole flight.puts in
    let first_one = ap held leaves.nodes in
    let second = ap held whole_left.nodes in
    let a = held-exact s.nodes node (with_whole s node found) flight.file flight.is in
    let b = held-exact s.nodes node (with_whole s node whole) flight.file flight.is in
    let size = ap held_by long in
    omega (arith, first_one, second, a, b, size)

-- The room after a write, all its bytes found or not: what was left besides its need is left.
pub room-leaves : (s new : State) (c : Unfinished) (node : ℕ) (whole found : List ℕ) (k : ℕ) → InFlight s c node whole
    → LeavesWhole s new node found → length found ≡ length whole → need_of s c.0 c.1 + k ≤ room s → k ≤ room new
room-leaves s new (who, call) node whole found k flight leaves long fits =
    let same = held_leaves s new (who, call) node whole found flight leaves long in
    let own = held-put s who call node whole flight in
    let shape : room new ≡ s.shape.data_blocks - reserve_for s.shape.data_blocks - held new.nodes = ap (λ (x : Shape). x.data_blocks - reserve_for x.data_blocks - held new.nodes) leaves.shape in
    rw shape (omega (arith, same, own, fits))

-- and the reserve is left
pub Fits-leaves : (s new : State) (c : Unfinished) (node : ℕ) (whole found : List ℕ) → InFlight s c node whole
    → LeavesWhole s new node found → length found ≡ length whole → need_of s c.0 c.1 ≤ room s → Fits s → Fits new
Fits-leaves s new (who, call) node whole found flight leaves long within fits =
    let same = held_leaves s new (who, call) node whole found flight leaves long in
    let own = held-put s who call node whole flight in
    subst (λ (x : Shape). held new.nodes + reserve_for x.data_blocks ≤ x.data_blocks) (sym leaves.shape) (omega (arith, same, own, within, fits))
