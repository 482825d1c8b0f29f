-- The state with the writes in flight counted: what is held and left, as the World compares it.
use Rattle.std.specs.Prelude.{◌≡◌, ◌<◌, ◌≤◌, ℕ, zero, suc, ◌+◌, ◌-◌, max, Bool, true, false, cond, not, ◌==◌, ◌≢◌, nat_lt, List, [], ◌∷◌, length, map, sum_by, Some, None, slice_set, refl}
use Rattle.std.proofs.Common.{arith, ap, ◌∙◌, sym, subst}
use Rattle.std.proofs.lemmas.Bool.Decides.{nat_tests}
use Rattle.std.proofs.lemmas.List.Sums.{sum_by-cons}
use Rattle.crash_spec.specs.posix_laws.block_counts.Counts.{held_by}
use Rattle.crash_spec.specs.posix_laws.posix_types.declared.call.Call.{Call}
use Rattle.crash_spec.specs.posix_laws.posix_types.declared.call.Who.{Who}
use Rattle.crash_spec.specs.posix_laws.posix_types.declared.handle.Handle.{Handle}
use Rattle.crash_spec.specs.posix_laws.posix_types.declared.item.Outcome.{Outcome}
use Rattle.crash_spec.specs.posix_laws.posix_types.declared.reply.Reply.{Reply}
use Rattle.crash_spec.specs.posix_laws.posix_types.declared.reply.What.{What}
use Rattle.crash_spec.specs.posix_laws.posix_tables.declared.nodes.File.{File}
use Rattle.crash_spec.specs.posix_laws.posix_tables.declared.nodes.Node.{Node}
use Rattle.crash_spec.specs.posix_laws.posix_tables.Bytes.{overwritten}
use Rattle.crash_spec.specs.posix_laws.posix_tables.Nodes.{bytes_of, node_at}
use Rattle.crash_spec.specs.posix_laws.posix_tables.Open.{may_write}
use Rattle.crash_spec.specs.posix_laws.posix_tables.Outcomes.{answer, first, no_space}
use Rattle.crash_spec.specs.posix_laws.posix_tables.Room.{growth, held, staged_below, write_need}
use Rattle.crash_spec.specs.posix_laws.posix_spec.FileRows.{content, file_number, no_blocks, write_rows, write_start}
use Rattle.crash_spec.specs.posix_laws.posix_spec.Put.{Put, put_at, put_by}
use Rattle.crash_spec.specs.posix_laws.posix_spec.Run.{after_call, after_calls, Unfinished}
use Rattle.crash_spec.specs.posix_laws.posix_spec.State.{alone, room, State}
use Rattle.crash_spec.specs.posix_laws.posix_spec.Step.{pwrite_done, step, stepped, write_done}
use Rattle.crash_spec.specs.posix_laws.FitsLaws.{held_by-le, length-overwritten}
use Rattle.crash_spec.specs.posix_laws.RowLaws.{NoRow, put_at-Some, rows-from_Accepts}
use Rattle.crash_spec.specs.posix_laws.PutLaws.{LeavesWhole-step}
use Rattle.crash_spec.specs.posix_laws.Puts.{LeavesWhole, put_bytes, PutsWhole, with_whole}
use Rattle.crash_spec.specs.posix_laws.ViewLaws.{content-same, write_start-same}
use Rattle.crash_spec.specs.posix_laws.Views.{AreAfforded, KeepsView, need_of}
use Rattle.commute_laws.specs.Flights.{InFlight, KeepsView-call}
use Rattle.commute_laws.specs.Needs.{AreAfforded-step, AreInFlight, unfinished_call, FitsBeside-put, Flight, LetsAllBe, LetsAllBe-flight, needs, needs-cons, needs-step}
use Rattle.commute_laws.specs.Commutes.{below_not}
use Rattle.commute_laws.specs.Rooms.{weight}
use Rattle.commute_laws.specs.Orders.{AreTwoEach}

-- ---- the reply

-- A WRITE IN FLIGHT ANSWERS, when it ends, how many bytes it puts, and says nothing of the room.
pub outcome-put : (s : State) (who : Who) (call : Call) (node : ℕ) (whole : List ℕ) (puts : PutsWhole s who call node whole)
    → (step s who call).outcome ≡ answer (Reply.Count (length puts.put.bytes))
unfolding put_by write_done pwrite_done
outcome-put s who (Call.Write h x) node whole puts =
    let says = put_at-Some s who h (write_start s who h) x puts.put puts.is in
    ap (λ o. (stepped s o (write_done alone s who h x)).outcome) (rows-from_Accepts s who h (write_start s who h) x says.0) ∙ ap (λ (p : Put). answer (Reply.Count (length p.bytes))) says.1
outcome-put s who (Call.Pwrite h start x) node whole puts =
    let says = put_at-Some s who h start x puts.put puts.is in
    ap (λ o. (stepped s o (pwrite_done alone s who h start x)).outcome) (rows-from_Accepts s who h start x says.0) ∙ ap (λ (p : Put). answer (Reply.Count (length p.bytes))) says.1
outcome-put s who call node whole puts = let never = puts.is in cc

-- ---- blocks

-- the blocks of the file that a write stages anew, until it finishes
abbrev pub staged_by : State → Unfinished → ℕ
staged_by s (who, Call.Write h x) = staged_below s.mode (length (content s who h)) (write_start s who h) (write_start s who h + length x)
staged_by s (who, Call.Pwrite h start x) = staged_below s.mode (length (content s who h)) start (start + length x)
staged_by s c = 0

abbrev pub staged : State → List Flight → ℕ
staged s flights = sum_by (λ (c : Unfinished). staged_by s c) (map unfinished_call flights)

pub held-exact : (nodes : List Node) (n : ℕ) (node : Node) (file : File) → node_at nodes n ≡ Node.File file
    → held (slice_set nodes n node) + weight (node_at nodes n) ≡ held nodes + weight node
held-exact [] n node file is = cc
held-exact (x ∷ xs) zero node file is = omega (arith, sum_by-cons weight x xs, sum_by-cons weight node xs)
held-exact (x ∷ xs) (suc n) node file is = omega (arith, sum_by-cons weight x xs, sum_by-cons weight x (slice_set xs n node), held-exact xs n node file is)

-- a write that acted: what the files hold rose by the growth of its file
held_grown : (s new : State) (node : ℕ) (whole : List ℕ) (file : File) (start : ℕ) (x : List ℕ)
    → node_at s.nodes node ≡ Node.File file → LeavesWhole s new node whole
    → whole ≡ overwritten (bytes_of (node_at s.nodes node)) start x
    → held new.nodes ≡ held s.nodes + growth (length (bytes_of (node_at s.nodes node))) (max (length (bytes_of (node_at s.nodes node))) (start + length x))
held_grown s new node whole file start x is leaves whole_is =
    let old : List ℕ = bytes_of (node_at s.nodes node) in
    let long : ℕ = max (length old) (start + length x) in
    let after = ap held leaves.nodes in
    let exact = held-exact s.nodes node (with_whole s node whole) file is in
    let size : held_by (length whole) ≡ held_by long = ap held_by (ap length whole_is ∙ length-overwritten old start x) in
    let more = held_by-le (length old) long (omega arith) in
    omega (arith, after, exact, size, more)

held_write : (s new : State) (who : Who) (h : Handle) (node : ℕ) (whole : List ℕ) (file : File) (start : ℕ) (x : List ℕ) (p : Put)
    → put_at s who h start x ≡ Some p → p.node ≡ node → put_bytes s p ≡ whole
    → node_at s.nodes node ≡ Node.File file → LeavesWhole s new node whole
    → held new.nodes ≡ held s.nodes + growth (length (content s who h)) (max (length (content s who h)) (start + length x))
held_write s new who h node whole file start x p is same whole_is there leaves =
    let says = put_at-Some s who h start x p is in
    let number : file_number s.tables who h ≡ node = ap (λ (q : Put). q.node) says.1 ∙ same in
    let bytes : whole ≡ overwritten (bytes_of (node_at s.nodes node)) start x =
    sym whole_is ∙ sym (ap (put_bytes s) says.1) ∙ ap (λ n. overwritten (bytes_of (node_at s.nodes n)) start x) number in
    let grown = held_grown s new node whole file start x there leaves bytes in
    subst (λ n. held new.nodes ≡ held s.nodes + growth (length (bytes_of (node_at s.nodes n))) (max (length (bytes_of (node_at s.nodes n))) (start + length x))) (sym number) grown

pub held-put : (s : State) (who : Who) (call : Call) (node : ℕ) (whole : List ℕ) → InFlight s (who, call) node whole
    → held (after_call s (who, call)).nodes + staged_by s (who, call) ≡ held s.nodes + need_of s who call
unfolding put_by
held-put s who (Call.Write h x) node whole flight =
    let puts = flight.puts in
    let grown = held_write s _ who h node whole flight.file (write_start s who h) x puts.put puts.is puts.node_is puts.whole_is flight.is (LeavesWhole-step s who (Call.Write h x) node whole puts) in
    omega (arith, grown)
held-put s who (Call.Pwrite h start x) node whole flight =
    let puts = flight.puts in
    let grown = held_write s _ who h node whole flight.file start x puts.put puts.is puts.node_is puts.whole_is flight.is (LeavesWhole-step s who (Call.Pwrite h start x) node whole puts) in
    omega (arith, grown)
held-put s who call node whole flight = let puts = flight.puts in let never = puts.is in cc

-- what it stages anew stays with what it sees
staged_by-kept : (s new : State) (who : Who) (call : Call) → KeepsView s new who call
    → staged_by new (who, call) ≡ staged_by s (who, call)
staged_by-kept s new who (Call.Write h x) view =
    let bytes = content-same s new who h view in
    let start = write_start-same s new who h view in
    let mode = view.mode in
    λ i. staged_below (mode i) (length (bytes i)) (start i) (start i + length x)
staged_by-kept s new who (Call.Pwrite h start x) view =
    let bytes = content-same s new who h view in
    let mode = view.mode in
    λ i. staged_below (mode i) (length (bytes i)) start (start + length x)
staged_by-kept s new who call view = refl

staged-cons : (s : State) (f : Flight) (flights : List Flight)
    → staged s (f ∷ flights) ≡ staged_by s f.begun + staged s flights
staged-cons s f flights = sum_by-cons (λ (c : Unfinished). staged_by s c) f.begun (map unfinished_call flights)

staged-step : (s : State) (d : Unfinished) (flights : List Flight) → AreInFlight s flights → LetsAllBe s d flights
    → staged (after_call s d) flights ≡ staged s flights
staged-step s d [] flying lets = refl
staged-step s d (f ∷ flights) flying lets =
    let one = staged_by-kept s (after_call s d) f.begun.0 f.begun.1 (KeepsView-call s f.begun d f.node f.whole lets.0.threads flying.0 lets.0.aside) in
    let rest = staged-step s d flights flying.1 lets.1 in
    staged-cons (after_call s d) f flights ∙ (λ i. one i + rest i) ∙ sym (staged-cons s f flights)

-- what the files hold with the writes in flight counted, each with its new length and with its blocks staged anew added
abbrev pub counted : State → List Flight → ℕ
counted s flights = held (after_calls s (map unfinished_call flights)).nodes + staged s flights

-- WHAT IS COUNTED is what the files hold and what the writes need.
pub counted-needs : (s : State) (flights : List Flight) → AreInFlight s flights → AreTwoEach flights
    → AreAfforded s (map unfinished_call flights) → counted s flights ≡ held s.nodes + needs s flights
counted-needs s [] flying two afforded = refl
counted-needs s (f ∷ flights) flying two afforded =
    let sum = needs-cons s f flights in
    let beside = FitsBeside-put s f.begun.0 f.begun.1 f.node f.whole (needs s flights) flying.0.puts (omega (arith, sum, afforded)) in
    let others = LetsAllBe-flight s f flights flying.0 two.0 in
    let after = AreAfforded-step s f.begun flights flying.1 others (omega (arith, sum, afforded)) beside in
    let rest = counted-needs (after_call s f.begun) flights after.0 two.1 after.1 in
    let own = held-put s f.begun.0 f.begun.1 f.node f.whole flying.0 in
    let needed = needs-step s f.begun flights flying.1 others in
    let kept = staged-step s f.begun flights flying.1 others in
    let blocks = staged-cons s f flights in
    omega (arith, sum, rest, own, needed, kept, blocks)

-- ---- room

-- the room beside the writes in flight
abbrev pub room_beside : State → List Flight → ℕ
room_beside s flights = room s - needs s flights

-- A need that fits beside them fits in the state, and all needs together do.
pub fits_beside-fits : (s : State) (flights : List Flight) (need : ℕ) → need ≤ room_beside s flights → need ≤ room s
fits_beside-fits s flights need fits = omega (arith, fits)

pub fits_beside-all : (s : State) (flights : List Flight) (need : ℕ) → AreAfforded s (map unfinished_call flights)
    → need ≤ room_beside s flights → need + needs s flights ≤ room s
fits_beside-all s flights need afforded fits = omega (arith, afforded, fits)

-- A need above the room of the state never fits beside them.
pub never_fits : (s : State) (flights : List Flight) (need : ℕ) → room s < need → need ≤ room_beside s flights → ⊥
never_fits s flights need above fits = omega (arith, above, fits)

-- ENOSPC is answered exactly by the room of the state.
pub no_blocks-above : (s : State) (need : ℕ) → room s < need
    → no_blocks s need ≡ Some (no_space What.Blocks need (room s))
no_blocks-above s need above = rw (below (room s) need above) refl where
  below : (m n : ℕ) → m < n → nat_lt m n ≡ true
  below m n le = grind (arith, nat_tests)

pub above-no_blocks : (s : State) (need : ℕ) (o : Outcome) → no_blocks s need ≡ Some o → room s < need
above-no_blocks s need o is = by (nat_lt (room s) need) (tested (room s) need) is where
  tested : (m n : ℕ) → nat_lt m n ≡ true → m < n
  tested m n yes_it = grind (arith, nat_tests)

  by : (b : Bool) → (b ≡ true → room s < need) → cond b (Some (no_space What.Blocks need (room s))) None ≡ Some o
      → room s < need
  by true above it = above refl
  by false above it = cc

true_not : (b : Bool) → b ≡ true → not b ≡ false
true_not b is = rw is refl

zero_not : (n : ℕ) → n ≢ 0 → (n == 0) ≡ false
zero_not n is = grind (arith, nat_tests)

-- a write that would be accepted with just its need left, and needs more than the room
pub write-above : (s : State) (who : Who) (h : Handle) (start : ℕ) (x : List ℕ) (need : ℕ)
    → need ≡ write_need s.mode (length (content s who h)) start (start + length x)
    → NoRow (may_write s.tables who h) (length (content s who h)) s.mode start (length x) need → room s < need
    → first (write_rows s who h start x) ≡ Some (no_space What.Blocks need (room s))
unfolding write_rows
write-above s who h start x need is accepts above =
    let blocks = no_blocks-above s need above in
    rw (true_not _ accepts.may_write, below_not _ _ accepts.short, zero_not _ accepts.some, below_not _ _ accepts.end, ← is, blocks) refl
