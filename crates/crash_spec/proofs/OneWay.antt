-- A schedule has one way to go on: who is picked, what one event leads to, and so, without want of space, what all do.
use Rattle.std.specs.Prelude.{◌≡◌, ◌⊎◌, ℕ, ◌+◌, ◌-◌, ◌<◌, ◌≤◌, Bool, true, false, not, List, length, All, Contains, Option, Some, None, slice_get, refl}
use Rattle.std.proofs.Common.{arith, ap, ◌∙◌, sym, subst, inl, inr}
use Rattle.std.proofs.lemmas.Option.{get_or_from_slice_get, slice_get_within}
use Rattle.posix_laws.specs.posix_types.declared.call.Call.{Call}
use Rattle.posix_laws.specs.posix_types.declared.call.Who.{Who}
use Rattle.posix_laws.specs.posix_types.declared.item.Item.{Item}
use Rattle.posix_laws.specs.posix_types.Scripts.{Scripts}
use Rattle.posix_laws.specs.posix_spec.Put.{put_by}
use Rattle.posix_laws.specs.posix_spec.Scripted.{items_of, script_of}
use Rattle.posix_laws.specs.posix_spec.State.{State}
use Rattle.posix_laws.specs.posix_spec.Unfinished.{IsNextCall}
use Rattle.crash_spec.specs.Machine.{Checkpoint, Event, Goes, LacksSpace, Machine, MayLackSpace, Setting, state_of, Checks as Checkpoints}
use Rattle.crash_spec.proofs.MachineLaws.{Checkpoint-idle, IsSound, IsSound-Reaches, MayBegin-Begins}
use Rattle.crash_spec.specs.Orders.{ArePassedOver, BehindList, ByDraw, ByList, InTurn, IsInTurn, IsLowest, Order, Picker, Picks}
use Rattle.crash_spec.specs.ScheduleLaws.{may_write, NeverLacksSpace, NobodyWrites, wants}
use Rattle.crash_spec.specs.Schedules.{Advances, caller_of, Checks, Course, Further, LacksSpaceInTurn, Reaches, runnable, Runs, SetUp, SetUpLacksSpace, Starts}
use Rattle.crash_spec.proofs.Turns.{after, after-Goes, next-Goes, rests-Goes}

-- ---- who is picked

one_lowest : (passes : ℕ → Type 0) (numbers : List ℕ) (n m : ℕ) → IsLowest passes numbers n → IsLowest passes numbers m → n ≡ m
one_lowest passes numbers n m one other =
    let low = one.lowest m other.is_there other.passes_it in
    let high = other.lowest n one.is_there one.passes_it in
    omega (arith, low, high)

one_in_turn : (numbers : List ℕ) (last : Option ℕ) (n m : ℕ) → IsInTurn numbers last n → IsInTurn numbers last m → n ≡ m
one_in_turn numbers None n m one other = one_lowest _ numbers n m one other
one_in_turn numbers (Some last) n m (inl one) (inl other) = one_lowest _ numbers n m one other
one_in_turn numbers (Some last) n m (inl one) (inr other) =
    let below = other.0 n one.is_there in
    let above = one.passes_it in
    absurd (omega (arith, below, above))
one_in_turn numbers (Some last) n m (inr one) (inl other) =
    let below = one.0 m other.is_there in
    let above = other.passes_it in
    absurd (omega (arith, below, above))
one_in_turn numbers (Some last) n m (inr one) (inr other) = one_lowest _ numbers n m one.1 other.1

-- a number of the list that is picked is not passed over
not_behind : (list numbers : List ℕ) (from to k n : ℕ) → from ≤ k → slice_get list k ≡ Some n → Contains numbers n → ArePassedOver list numbers from to → to ≤ k
not_behind list numbers from to k n behind is can passed = elim (before k to) [ inl under ↦ absurd (passed k n behind under is can) | inr over ↦ over ] where
  before : (i j : ℕ) → (i < j) ⊎ (j ≤ i)
  before i j = grind arith

same_number : (list : List ℕ) (k j n m : ℕ) → k ≡ j → slice_get list k ≡ Some n → slice_get list j ≡ Some m → n ≡ m
same_number list k j n m same one other = cc

pub one_pick : (numbers : List ℕ) (p : Picker) (order : Order) (n m : ℕ) (q r : Picker) → Picks numbers p order n q → Picks numbers p order m r → (n ≡ m) × (q ≡ r)
one_pick numbers p order n m q r (ByList list k i after is can passed) (ByList xs j i' after' is' can' passed') =
    let low = not_behind list numbers p.place j k i after is can passed' in
    let high = not_behind list numbers p.place k j i' after' is' can' passed in
    let place : k ≡ j = omega (arith, low, high) in
    let same : i ≡ i' = same_number list k j i i' place is is' in
    (same, cc)
one_pick numbers p order n m q r (ByList list k i after is can passed) (BehindList xs i' passed' turn) =
    let low = not_behind list numbers p.place (length list) k i after is can passed' in
    let high = slice_get_within list k i is in
    absurd (omega (arith, low, high))
one_pick numbers p order n m q r (BehindList list i passed turn) (ByList xs j i' after' is' can' passed') =
    let low = not_behind list numbers p.place (length list) j i' after' is' can' passed in
    let high = slice_get_within list j i' is' in
    absurd (omega (arith, low, high))
one_pick numbers p order n m q r (BehindList list i passed turn) (BehindList xs i' passed' turn') =
    let same : i ≡ i' = one_in_turn numbers p.last i i' turn turn' in
    (same, cc)
one_pick numbers p order n m q r (ByDraw seed i is) (ByDraw seed' i' is') =
    let same : i ≡ i' = cc in
    (same, cc)
one_pick numbers p order n m q r (InTurn i turn) (InTurn i' turn') =
    let same : i ≡ i' = one_in_turn numbers p.last i i' turn turn' in
    (same, cc)

-- ---- what one event leads to

some_is_one : {X : Type 0} (a b : X) → Some a ≡ Some b → a ≡ b
some_is_one a b is = cc

-- two events of one caller lead to one machine
one_machine : (g : Setting) (m a b : Machine) (e f : Event) (who : Who) → Goes g m e a → Goes g m f b → caller_of e ≡ Some who → caller_of f ≡ Some who → a ≡ b
one_machine g m a b e f who one other own own' = some_is_one a b (sym (after-Goes g m a e who one own) ∙ after-Goes g m b f who other own')

-- the set-up and a thread do not both have a next call
apart : (scripts : Scripts) (h : List Item) (n : ℕ) (c d : Call) → IsNextCall scripts h (Who.Setup, c) → IsNextCall scripts h (Who.Thread n, d) → ⊥
apart scripts h n c d first then = omega (arith, slice_get_within scripts.setup (length (items_of h Who.Setup)) c first.call, then.set_up)

not_both : (g : Setting) (m a b : Machine) (e f : Event) (n : ℕ) → IsSound g m → Goes g m e a → Goes g m f b → caller_of e ≡ Some Who.Setup → caller_of f ≡ Some (Who.Thread n) → ⊥
not_both g m a b e f n sound one other own own' =
    let first = next-Goes g m a e Who.Setup sound one own in
    let then = next-Goes g m b f (Who.Thread n) sound other own' in
    apart g.scripts m.history n first.0 then.0 first.1 then.1

not_at_rest : (g : Setting) (m a b : Machine) (e : Event) (who : Who) → Goes g m e a → caller_of e ≡ Some who → Goes g m Checkpoint b → ⊥
not_at_rest g m a b e who one own check =
    let idle = Checkpoint-idle g m b check in
    rests-Goes g m a e who idle.0 idle.1 one own

one_check : (g : Setting) (m a b : Machine) → Goes g m Checkpoint a → Goes g m Checkpoint b → a ≡ b
one_check g m a b (Checkpoints over none) (Checkpoints over' none') = refl

abbrev course : Machine → Picker → Course
course m p = record { machine = m; picker = p }

pub one_event : (g : Setting) (order : Order) (c d e : Course) (more less : ℕ) → IsSound g c.machine → Advances g order c more d → Advances g order c less e → more ≡ 1 → less ≡ 1 → d ≡ e
one_event g order c d e more less sound (SetUpLacksSpace m lacks) other one also = absurd (omega (arith, one))
one_event g order c d e more less sound (LacksSpaceInTurn n m p picks lacks) other one also = absurd (omega (arith, one))
one_event g order c d e more less sound (SetUp f m own goes) (SetUp f' m' own' goes') one also =
    ap (λ k. course k c.picker) (one_machine g c.machine m m' f f' Who.Setup goes goes' own own')
one_event g order c d e more less sound (SetUp f m own goes) (Runs n f' m' p picks own' goes') one also = absurd (not_both g c.machine m m' f f' n sound goes goes' own own')
one_event g order c d e more less sound (SetUp f m own goes) (Checks m' left goes') one also = absurd (not_at_rest g c.machine m m' f Who.Setup goes own goes')
one_event g order c d e more less sound (SetUp f m own goes) (SetUpLacksSpace m' lacks) one also = absurd (omega (arith, also))
one_event g order c d e more less sound (SetUp f m own goes) (LacksSpaceInTurn n m' p picks lacks) one also = absurd (omega (arith, also))
one_event g order c d e more less sound (Runs n f m p picks own goes) (SetUp f' m' own' goes') one also = absurd (not_both g c.machine m' m f' f n sound goes' goes own' own)
one_event g order c d e more less sound (Runs n f m p picks own goes) (Runs n' f' m' p' picks' own' goes') one also =
    let same = one_pick (runnable g c.machine) c.picker order n n' p p' picks picks' in
    let who : Some (Who.Thread n') ≡ Some (Who.Thread n) = ap (λ k. Some (Who.Thread k)) (sym same.0) in
    let machine = one_machine g c.machine m m' f f' (Who.Thread n) goes goes' own (own' ∙ who) in
    ap (λ k. course k p) machine ∙ ap (λ q. course m' q) same.1
one_event g order c d e more less sound (Runs n f m p picks own goes) (Checks m' left goes') one also = absurd (not_at_rest g c.machine m m' f (Who.Thread n) goes own goes')
one_event g order c d e more less sound (Runs n f m p picks own goes) (SetUpLacksSpace m' lacks) one also = absurd (omega (arith, also))
one_event g order c d e more less sound (Runs n f m p picks own goes) (LacksSpaceInTurn n' m' p' picks' lacks) one also = absurd (omega (arith, also))
one_event g order c d e more less sound (Checks m left goes) (SetUp f' m' own' goes') one also = absurd (not_at_rest g c.machine m' m f' Who.Setup goes' own' goes)
one_event g order c d e more less sound (Checks m left goes) (Runs n f' m' p picks own' goes') one also = absurd (not_at_rest g c.machine m' m f' (Who.Thread n) goes' own' goes)
one_event g order c d e more less sound (Checks m left goes) (Checks m' left' goes') one also = ap (λ k. course k c.picker) (one_check g c.machine m m' goes goes')
one_event g order c d e more less sound (Checks m left goes) (SetUpLacksSpace m' lacks) one also = absurd (omega (arith, also))
one_event g order c d e more less sound (Checks m left goes) (LacksSpaceInTurn n m' p picks lacks) one also = absurd (omega (arith, also))

-- from a course that is reached, one event leads on to one course
pub one_event_follows : (g : Setting) (order : Order) (events : ℕ) (c d e : Course) → Reaches g order events c → Advances g order c 1 d → Advances g order c 1 e → d ≡ e
one_event_follows g order events c d e reached one other = one_event g order c d e 1 1 (IsSound-Reaches g order events c reached) one other refl refl

-- ---- what all events lead to

one_way : (g : Setting) (order : Order) (n m : ℕ) (c d : Course) (one : Reaches g order n c) (other : Reaches g order m d)
    → NeverLacksSpace g order n c one → NeverLacksSpace g order m d other → n ≡ m → c ≡ d
one_way g order n m c d Starts Starts plain plain' same = refl
one_way g order n m c d Starts (Further before more b next reached advances) plain plain' same = absurd (omega (arith, same, plain'.0))
one_way g order n m c d (Further before more b next reached advances) Starts plain plain' same = absurd (omega (arith, same, plain.0))
one_way g order n m c d (Further before more b next reached advances) (Further before' more' b' next' reached' advances') plain plain' same =
    let earlier : b ≡ b' = one_way g order before before' b b' reached reached' plain.1 plain'.1 (omega (arith, same, plain.0, plain'.0)) in
    one_event g order b c d more more' (IsSound-Reaches g order before b reached) advances
    (subst (λ (x : Course). Advances g order x more' d) (sym earlier) advances') plain.0 plain'.0

pub one_course : (g : Setting) (order : Order) (events : ℕ) (c d : Course) (one : Reaches g order events c) (other : Reaches g order events d)
    → NeverLacksSpace g order events c one → NeverLacksSpace g order events d other → c ≡ d
one_course g order events c d one other plain plain' = one_way g order events events c d one other plain plain' refl

-- ---- how often space is wanting

-- fewer times than there were events where one may come
record AreFew (m : Machine) (count events : ℕ) : Type 0 where
  few : count ≤ events
  fewer : m.begun ≡ true → m.over ≡ false → count < events

lacks_few : (g : Setting) (m next : Machine) (who : Who) (count events : ℕ) → LacksSpace g m who next → AreFew m count events → AreFew next (count + 1) (events + 0)
lacks_few g m next who count events lacks are = record {
  few = let less = are.fewer lacks.begun (not_over m.over (MayBegin-Begins g m who lacks.call lacks.may).round) in omega (arith, less);
  fewer = λ begun over. (let never : true ≡ false = sym (ap (λ (x : Machine). x.over) lacks.next_is) ∙ over in cc);
} where
  not_over : (b : Bool) → not b ≡ true → b ≡ false
  not_over true is = cc
  not_over false is = refl

event_few : (m next : Machine) (count events : ℕ) → AreFew m count events → AreFew next (count + 0) (events + 1)
event_few m next count events are = let few = are.few in record { few = omega (arith, few); fewer = λ begun over. omega (arith, few) }

advances_few : (g : Setting) (order : Order) (c d : Course) (count events more : ℕ) → Advances g order c more d → AreFew c.machine count events → AreFew d.machine (count + (1 - more)) (events + more)
advances_few g order c d count events more (SetUp e m own goes) are = event_few c.machine m count events are
advances_few g order c d count events more (SetUpLacksSpace m lacks) are = lacks_few g c.machine m Who.Setup count events lacks are
advances_few g order c d count events more (Runs n e m p picks own goes) are = event_few c.machine m count events are
advances_few g order c d count events more (LacksSpaceInTurn n m p picks lacks) are = lacks_few g c.machine m (Who.Thread n) count events lacks are
advances_few g order c d count events more (Checks m left goes) are = event_few c.machine m count events are

wants_few : (g : Setting) (order : Order) (events : ℕ) (c : Course) (reached : Reaches g order events c) → AreFew c.machine (wants g order events c reached) events
wants_few g order events c Starts = record { few = omega arith; fewer = λ begun over. cc }
wants_few g order events c (Further before more b next reached advances) = advances_few g order b c (wants g order before b reached) before more advances (wants_few g order before b reached)

pub wants_are_few : (g : Setting) (order : Order) (events : ℕ) (c : Course) (reached : Reaches g order events c) → wants g order events c reached ≤ events
wants_are_few g order events c reached = (wants_few g order events c reached).few

-- ---- where nobody writes

wants_none : (s : State) (who : Who) (call : Call) → may_write call ≡ false → MayLackSpace s who call → ⊥
unfolding put_by
wants_none s who (Call.Write h x) is may = cc
wants_none s who (Call.Pwrite h o x) is may = cc
wants_none s who (Call.Truncate h n) is may = cc
wants_none s who (Call.Mkdir p) is (inl puts) = cc
wants_none s who (Call.Rmdir p) is (inl puts) = cc
wants_none s who (Call.Unlink p) is (inl puts) = cc
wants_none s who (Call.Rename p q) is (inl puts) = cc
wants_none s who (Call.Open h p f) is (inl puts) = cc
wants_none s who (Call.Close h) is (inl puts) = cc
wants_none s who (Call.Dup h k) is (inl puts) = cc
wants_none s who (Call.Read h n) is (inl puts) = cc
wants_none s who (Call.Pread h o n) is (inl puts) = cc
wants_none s who (Call.Seek h w i) is (inl puts) = cc
wants_none s who (Call.Fsync h) is (inl puts) = cc
wants_none s who (Call.Stat p) is (inl puts) = cc
wants_none s who (Call.List p) is (inl puts) = cc
wants_none s who call is (inr lengthens) = absurd lengthens

nobody_lacks : (g : Setting) (m next : Machine) (who : Who) → NobodyWrites g → LacksSpace g m who next → ⊥
nobody_lacks g m next who nobody lacks =
    wants_none (state_of g m) who lacks.call (quiet (script_of g.scripts who) (length (items_of m.history who)) lacks.call (nobody who) lacks.may.next) lacks.kind where
      quiet : (calls : List Call) (k : ℕ) (call : Call) → All (λ c. may_write c ≡ false) calls → slice_get calls k ≡ Some call → may_write call ≡ false
      quiet calls k call all is = subst (λ (c : Call). may_write c ≡ false) (get_or_from_slice_get calls k call call is) (all k call (slice_get_within calls k call is))

all_events : (g : Setting) (order : Order) (events : ℕ) (c : Course) (reached : Reaches g order events c) → NobodyWrites g → NeverLacksSpace g order events c reached
all_events g order events c Starts nobody = tt
all_events g order events c (Further before more b next reached advances) nobody = (by b next more advances, all_events g order before b reached nobody) where
  by : (x y : Course) (count : ℕ) → Advances g order x count y → count ≡ 1
  by x y count (SetUp e m own goes) = refl
  by x y count (SetUpLacksSpace m lacks) = absurd (nobody_lacks g x.machine m Who.Setup nobody lacks)
  by x y count (Runs n e m p picks own goes) = refl
  by x y count (LacksSpaceInTurn n m p picks lacks) = absurd (nobody_lacks g x.machine m (Who.Thread n) nobody lacks)
  by x y count (Checks m left goes) = refl

pub no_choice : (g : Setting) (order : Order) (events : ℕ) (c d : Course) → NobodyWrites g → Reaches g order events c → Reaches g order events d → c ≡ d
no_choice g order events c d nobody one other = one_course g order events c d one other (all_events g order events c one nobody) (all_events g order events d other nobody)
