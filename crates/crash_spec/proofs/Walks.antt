-- Schedules by computation: a way through the machine, each turn of which is checked, is a schedule.
use Rattle.std.specs.Prelude.{◌≡◌, ◌⊎◌, ℕ, zero, suc, ◌+◌, ◌%◌, ◌<◌, ◌≤◌, Bool, true, false, cond, not, ◌&&◌, ◌||◌, ◌==◌, nat_lt, nat_le, List, [], ◌∷◌, length, Contains, Option, Some, None, option_map, option_and_then, slice_get, slice_index_or, refl}
use Rattle.std.proofs.Common.{arith, ap, ◌∙◌, sym, subst, inl, inr}
use Rattle.std.proofs.lemmas.Bool.Decides.{nat_tests}
use Rattle.std.proofs.lemmas.Option.{get_or_from_slice_get, slice_get_within}
use Rattle.posix_laws.specs.list_laws.Members.{In, slice_get-In}
use Rattle.posix_laws.specs.posix_types.declared.call.Who.{Who}
use Rattle.posix_laws.specs.posix_types.declared.item.Item.{Item}
use Rattle.posix_laws.specs.posix_spec.Run.{Unfinished}
use Rattle.crash_spec.specs.Machine.{at_rest, have_ended, Job, Machine, Setting, unfinished_of, Checks as Checkpoints}
use Rattle.crash_spec.specs.Orders.{ArePassedOver, BehindList, ByDraw, ByList, draw, InTurn, IsInTurn, IsLowest, Listed, none_picked, Order, Picker, Picks, Round, Seeded}
use Rattle.crash_spec.specs.ScheduleLaws.{IsTheOnlySchedule, IsTheSchedule, NeverLacksSpace, NobodyWrites}
use Rattle.crash_spec.specs.Schedules.{Advances, Checks, Course, Further, Reaches, runnable, Runs, SetUp, Starts}
use Rattle.crash_spec.proofs.OneWay.{no_choice, one_course}
use Rattle.crash_spec.proofs.Turns.{after, Goes-after}

-- ---- tests on numbers

-- it is one of them
abbrev among : List ℕ → ℕ → Bool
among [] n = false
among (i ∷ numbers) n = (i == n) || among numbers n

-- each of them that passes is n or more
abbrev are_from : (ℕ → Bool) → List ℕ → ℕ → Bool
are_from passes [] n = true
are_from passes (i ∷ numbers) n = (not (passes i) || nat_le n i) && are_from passes numbers n

-- each of them is at most n
abbrev are_up_to : List ℕ → ℕ → Bool
are_up_to [] n = true
are_up_to (i ∷ numbers) n = nat_le i n && are_up_to numbers n

abbrev is_lowest : (ℕ → Bool) → List ℕ → ℕ → Bool
is_lowest passes numbers n = among numbers n && (passes n && are_from passes numbers n)

abbrev is_in_turn : List ℕ → Option ℕ → ℕ → Bool
is_in_turn numbers None n = is_lowest (λ i. true) numbers n
is_in_turn numbers (Some last) n = is_lowest (λ i. nat_lt last i) numbers n || (are_up_to numbers last && is_lowest (λ i. true) numbers n)

-- a list has this number at a place
abbrev is_this : Option ℕ → ℕ → Bool
is_this None n = false
is_this (Some i) n = i == n

-- what stands at a place is none of them
abbrev is_none_of : List ℕ → Option ℕ → Bool
is_none_of numbers None = true
is_none_of numbers (Some i) = not (among numbers i)

-- so many numbers of a list, from a place on, are none of them
abbrev are_none_of : List ℕ → List ℕ → ℕ → ℕ → Bool
are_none_of list numbers from zero = true
are_none_of list numbers from (suc k) = is_none_of numbers (slice_get list (from + k)) && are_none_of list numbers from k

-- ---- turns

-- Whose event comes next: the set-up's; a thread's, with so many numbers of a list passed over, or behind its end; a
-- thread's that was drawn, or whose turn it is; a Checkpoint.
pub data Turn : Type 0 where
  OfSetUp : Turn
  Skipping : ℕ → ℕ → Turn
  Behind : ℕ → ℕ → Turn
  Drawn : ℕ → Turn
  InRound : ℕ → Turn
  Check : Turn

abbrev picked : List ℕ → Picker → Order → Turn → Option (ℕ × Picker)
picked numbers p (Listed list) (Skipping k n) =
    cond (is_this (slice_get list (p.place + k)) n && (among numbers n && are_none_of list numbers p.place k)) (Some (n, record { place = p.place + k + 1; last = Some n })) None
picked numbers p (Listed list) (Behind k n) =
    cond ((p.place + k == length list) && (are_none_of list numbers p.place k && is_in_turn numbers p.last n)) (Some (n, record { place = length list; last = Some n })) None
picked numbers p (Seeded seed) (Drawn n) = cond (is_this (slice_get numbers (draw seed p.place % length numbers)) n) (Some (n, record { place = p.place + 1; last = Some n })) None
picked numbers p Round (InRound n) = cond (is_in_turn numbers p.last n) (Some (n, record { place = p.place; last = Some n })) None
picked numbers p order turn = None

abbrev are_none : List Job → Bool
are_none [] = true
are_none (job ∷ jobs) = false

-- the course after a thread's event
abbrev ran : Setting → Course → ℕ × Picker → Option Course
ran g c pick = option_map (λ m. record { machine = m; picker = pick.1 }) (after g c.machine (Who.Thread pick.0))

-- and after any
abbrev turned : Setting → Order → Course → Turn → Option Course
turned g order c OfSetUp = option_map (λ m. record c { machine = m }) (after g c.machine Who.Setup)
turned g order c Check =
    cond (c.machine.over && (are_none c.machine.jobs && not (have_ended g c.machine))) (Some (record c { machine = record c.machine { claims = 0; over = false; begun = false } })) None
turned g order c turn = option_and_then (ran g c) (picked (runnable g c.machine) c.picker order turn)

-- and after several
abbrev walked : Setting → Order → List Turn → Course → Option Course
walked g order [] c = Some c
walked g order (turn ∷ turns) c = option_and_then (walked g order turns) (turned g order c turn)

-- ---- the tests are right

both : (a b : Bool) → (a && b) ≡ true → (a ≡ true) × (b ≡ true)
both true b is = (refl, is)
both false b is = cc

either : (a b : Bool) → (a || b) ≡ true → (a ≡ true) ⊎ (b ≡ true)
either true b is = inl refl
either false b is = inr is

same_nat : (i n : ℕ) → (i == n) ≡ true → i ≡ n
same_nat i n is = grind (arith, nat_tests)

up_to : (i n : ℕ) → nat_le i n ≡ true → i ≤ n
up_to i n is = grind (arith, nat_tests)

below : (i n : ℕ) → nat_lt i n ≡ true → i < n
below i n is = grind (arith, nat_tests)

above : (i n : ℕ) → i < n → nat_lt i n ≡ true
above i n is = grind (arith, nat_tests)

equal : (n : ℕ) → (n == n) ≡ true
equal n = grind (arith, nat_tests)

is_true : (a : Bool) → not a ≡ true → a ≡ true → ⊥
is_true true isnt is = cc
is_true false isnt is = cc

among-In : (numbers : List ℕ) (n : ℕ) → among numbers n ≡ true → In n numbers
among-In [] n is = cc
among-In (i ∷ numbers) n is = elim (either (i == n) (among numbers n) is) [ inl same ↦ inl (same_nat i n same) | inr behind ↦ inr (among-In numbers n behind) ]

In-among : (numbers : List ℕ) (n : ℕ) → In n numbers → among numbers n ≡ true
In-among [] n is = absurd is
In-among (i ∷ numbers) n (inl same) = ap (λ b. b || among numbers n) (subst (λ k. (i == k) ≡ true) same (equal i))
In-among (i ∷ numbers) n (inr behind) = second (i == n) (among numbers n) (In-among numbers n behind) where
  second : (a b : Bool) → b ≡ true → (a || b) ≡ true
  second true b is = refl
  second false b is = is

Contains-In : (numbers : List ℕ) (n : ℕ) → Contains numbers n → In n numbers
Contains-In numbers n there = at numbers there.0 there.1 there.2 where
  at : (xs : List ℕ) (k : ℕ) → k < length xs → slice_index_or xs k n ≡ n → In n xs
  at [] k within is = absurd (omega (arith, within))
  at (x ∷ xs) zero within is = inl is
  at (x ∷ xs) (suc k) within is = inr (at xs k (omega (arith, within)) is)

In-Contains : (numbers : List ℕ) (n : ℕ) → In n numbers → Contains numbers n
In-Contains numbers n is =
    let place = slice_get-In numbers n is in
    (place.0, slice_get_within numbers place.0 n place.1, get_or_from_slice_get numbers place.0 n n place.1)

from_lowest : (passes : ℕ → Bool) (numbers : List ℕ) (n i : ℕ) → are_from passes numbers n ≡ true → In i numbers → passes i ≡ true → n ≤ i
from_lowest passes [] n i are is pass = absurd is
from_lowest passes (j ∷ numbers) n i are (inl same) pass =
    let here = both (not (passes j) || nat_le n j) (are_from passes numbers n) are in
    elim (either (not (passes j)) (nat_le n j) here.0) [
      | inl isnt ↦ absurd (is_true (passes j) isnt (ap passes same ∙ pass))
      | inr low ↦ subst (λ k. n ≤ k) same (up_to n j low)
    ]
from_lowest passes (j ∷ numbers) n i are (inr behind) pass =
    from_lowest passes numbers n i (both (not (passes j) || nat_le n j) (are_from passes numbers n) are).1 behind pass

all_up_to : (numbers : List ℕ) (n i : ℕ) → are_up_to numbers n ≡ true → In i numbers → i ≤ n
all_up_to [] n i are is = absurd is
all_up_to (j ∷ numbers) n i are (inl same) = subst (λ k. k ≤ n) same (up_to j n (both (nat_le j n) (are_up_to numbers n) are).0)
all_up_to (j ∷ numbers) n i are (inr behind) = all_up_to numbers n i (both (nat_le j n) (are_up_to numbers n) are).1 behind

lowest : (passes : ℕ → Bool) (P : ℕ → Type 0) (numbers : List ℕ) (n : ℕ) → ((i : ℕ) → passes i ≡ true → P i) → ((i : ℕ) → P i → passes i ≡ true)
    → is_lowest passes numbers n ≡ true → IsLowest P numbers n
lowest passes P numbers n onward back is =
    let one = both (among numbers n) (passes n && are_from passes numbers n) is in
    let two = both (passes n) (are_from passes numbers n) one.1 in
    record {
      is_there = In-Contains numbers n (among-In numbers n one.0);
      passes_it = onward n two.0;
      lowest = λ i there pass. from_lowest passes numbers n i two.1 (Contains-In numbers i there) (back i pass);
    }

lowest_of_all : (numbers : List ℕ) (n : ℕ) → is_lowest (λ i. true) numbers n ≡ true → IsLowest (λ i. Unit {0}) numbers n
lowest_of_all numbers n is = lowest (λ i. true) (λ i. Unit {0}) numbers n (λ i pass. tt) (λ i pass. refl) is

in_turn : (numbers : List ℕ) (last : Option ℕ) (n : ℕ) → is_in_turn numbers last n ≡ true → IsInTurn numbers last n
in_turn numbers None n is = lowest_of_all numbers n is
in_turn numbers (Some last) n is =
    elim (either (is_lowest (λ i. nat_lt last i) numbers n) (are_up_to numbers last && is_lowest (λ i. true) numbers n) is) [
      | inl next ↦ inl (lowest (λ i. nat_lt last i) (λ i. last < i) numbers n (below last) (above last) next)
      | inr first ↦
          let more = both (are_up_to numbers last) (is_lowest (λ i. true) numbers n) first in
          inr ((λ i there. all_up_to numbers last i more.0 (Contains-In numbers i there)), lowest_of_all numbers n more.1)
    ]

this_one : (o : Option ℕ) (n : ℕ) → is_this o n ≡ true → o ≡ Some n
this_one None n is = cc
this_one (Some i) n is = ap Some (same_nat i n is)

not_this : (numbers : List ℕ) (o : Option ℕ) (i : ℕ) → is_none_of numbers o ≡ true → o ≡ Some i → ¬ Contains numbers i
not_this numbers None i none is there = cc
not_this numbers (Some j) i none is there =
    is_true (among numbers j) none (ap (λ k. among numbers k) (let same : j ≡ i = cc in same) ∙ In-among numbers i (Contains-In numbers i there))

passed_over : (list numbers : List ℕ) (from k : ℕ) → are_none_of list numbers from k ≡ true → ArePassedOver list numbers from (from + k)
passed_over list numbers from zero are j i after before is = absurd (omega (arith, after, before))
passed_over list numbers from (suc k) are j i after before is = by (j == from + k) refl (λ under. passed_over list numbers from k tests.1 j i after under is) where
  tests : (is_none_of numbers (slice_get list (from + k)) ≡ true) × (are_none_of list numbers from k ≡ true)
  tests = both (is_none_of numbers (slice_get list (from + k))) (are_none_of list numbers from k) are

  less : (a b : ℕ) → (a == b) ≡ false → a < b + 1 → a < b
  less a b isnt under = grind (arith, nat_tests)

  by : (b : Bool) → (j == from + k) ≡ b → (j < from + k → ¬ Contains numbers i) → ¬ Contains numbers i
  by true same rest = not_this numbers (slice_get list (from + k)) i tests.0 (ap (λ n. slice_get list n) (sym (same_nat j (from + k) same)) ∙ is)
  by false apart rest = rest (less j (from + k) apart (omega (arith, before)))

-- ---- each turn is a step

chosen : {X : Type 0} (b : Bool) (x y : X) → cond b (Some x) None ≡ Some y → (b ≡ true) × (x ≡ y)
chosen true x y is = (refl, cc)
chosen false x y is = cc

abbrev IsPick : List ℕ → Picker → Order → ℕ × Picker → Type 0
IsPick numbers p order pick = Picks numbers p order pick.0 pick.1

is_pick : (numbers : List ℕ) (p : Picker) (order : Order) (turn : Turn) (pick : ℕ × Picker) → picked numbers p order turn ≡ Some pick → IsPick numbers p order pick
is_pick numbers p (Listed list) (Skipping k n) pick is =
    let so = chosen (is_this (slice_get list (p.place + k)) n && (among numbers n && are_none_of list numbers p.place k)) (n, record { place = p.place + k + 1; last = Some n }) pick is in
    let tests = both (is_this (slice_get list (p.place + k)) n) (among numbers n && are_none_of list numbers p.place k) so.0 in
    let more = both (among numbers n) (are_none_of list numbers p.place k) tests.1 in
    subst (IsPick numbers p (Listed list)) so.1
    (ByList list (p.place + k) n (omega arith) (this_one (slice_get list (p.place + k)) n tests.0) (In-Contains numbers n (among-In numbers n more.0)) (passed_over list numbers p.place k more.1))
is_pick numbers p (Listed list) (Behind k n) pick is =
    let so = chosen ((p.place + k == length list) && (are_none_of list numbers p.place k && is_in_turn numbers p.last n)) (n, record { place = length list; last = Some n }) pick is in
    let tests = both (p.place + k == length list) (are_none_of list numbers p.place k && is_in_turn numbers p.last n) so.0 in
    let more = both (are_none_of list numbers p.place k) (is_in_turn numbers p.last n) tests.1 in
    subst (IsPick numbers p (Listed list)) so.1
    (BehindList list n (subst (λ to. ArePassedOver list numbers p.place to) (same_nat (p.place + k) (length list) tests.0) (passed_over list numbers p.place k more.0)) (in_turn numbers p.last n more.1))
is_pick numbers p (Seeded seed) (Drawn n) pick is =
    let so = chosen (is_this (slice_get numbers (draw seed p.place % length numbers)) n) (n, record { place = p.place + 1; last = Some n }) pick is in
    subst (IsPick numbers p (Seeded seed)) so.1 (ByDraw seed n (this_one (slice_get numbers (draw seed p.place % length numbers)) n so.0))
is_pick numbers p Round (InRound n) pick is =
    let so = chosen (is_in_turn numbers p.last n) (n, record { place = p.place; last = Some n }) pick is in
    subst (IsPick numbers p Round) so.1 (InTurn n (in_turn numbers p.last n so.0))
is_pick numbers p order turn pick is = cc

mapped : {X Y : Type 0} (f : X → Y) (o : Option X) (y : Y) → option_map f o ≡ Some y → (x : X) × (o ≡ Some x) × (f x ≡ y)
mapped f None y is = cc
mapped f (Some x) y is = (x, refl, cc)

bound : {X Y : Type 0} (f : X → Option Y) (o : Option X) (y : Y) → option_and_then f o ≡ Some y → (x : X) × (o ≡ Some x) × (f x ≡ Some y)
bound f None y is = cc
bound f (Some x) y is = (x, refl, is)

no_jobs : (jobs : List Job) → are_none jobs ≡ true → jobs ≡ []
no_jobs [] is = refl
no_jobs (job ∷ jobs) is = cc

not_so : (b : Bool) → not b ≡ true → b ≡ false
not_so true is = cc
not_so false is = refl

threads_turn : (g : Setting) (order : Order) (c d : Course) (turn : Turn) → option_and_then (ran g c) (picked (runnable g c.machine) c.picker order turn) ≡ Some d → Advances g order c 1 d
threads_turn g order c d turn is =
    let pick = bound (ran g c) (picked (runnable g c.machine) c.picker order turn) d is in
    let next = mapped (λ (m : Machine). (let k : Course = record { machine = m; picker = pick.0.1 } in k)) (after g c.machine (Who.Thread pick.0.0)) d pick.2 in
    let goes = Goes-after g c.machine next.0 (Who.Thread pick.0.0) next.1 in
    subst (λ (x : Course). Advances g order c 1 x) next.2
    (Runs pick.0.0 goes.event next.0 pick.0.1 (is_pick (runnable g c.machine) c.picker order turn pick.0 pick.1) goes.own goes.goes)

advances : (g : Setting) (order : Order) (c d : Course) (turn : Turn) → turned g order c turn ≡ Some d → Advances g order c 1 d
advances g order c d OfSetUp is =
    let next = mapped (λ (m : Machine). record c { machine = m }) (after g c.machine Who.Setup) d is in
    let goes = Goes-after g c.machine next.0 Who.Setup next.1 in
    subst (λ (x : Course). Advances g order c 1 x) next.2 (SetUp goes.event next.0 goes.own goes.goes)
advances g order c d Check is =
    let ended = have_ended g c.machine in
    let so = chosen (c.machine.over && (are_none c.machine.jobs && not ended)) (record c { machine = record c.machine { claims = 0; over = false; begun = false } }) d is in
    let tests = both c.machine.over (are_none c.machine.jobs && not ended) so.0 in
    let more = both (are_none c.machine.jobs) (not ended) tests.1 in
    subst (λ (x : Course). Advances g order c 1 x) so.1
    (Checks (record c.machine { claims = 0; over = false; begun = false }) (not_so ended more.1) (Checkpoints tests.0 (no_jobs c.machine.jobs more.0)))
advances g order c d (Skipping k n) is = threads_turn g order c d (Skipping k n) is
advances g order c d (Behind k n) is = threads_turn g order c d (Behind k n) is
advances g order c d (Drawn n) is = threads_turn g order c d (Drawn n) is
advances g order c d (InRound n) is = threads_turn g order c d (InRound n) is

-- ---- a way is a schedule

-- a course is reached, and no Begin on the way lacked space
record Way (g : Setting) (order : Order) (events : ℕ) (c : Course) : Type 0 where
  reached : Reaches g order events c
  plain : NeverLacksSpace g order events c reached

abbrev started : Course
started = record { machine = at_rest; picker = none_picked }

way_on : (g : Setting) (order : Order) (turns : List Turn) (events : ℕ) (c d : Course) → Way g order events c → walked g order turns c ≡ Some d → Way g order (events + length turns) d
way_on g order [] events c d way is = subst (λ k. Way g order k d) (let none : events ≡ events + 0 = omega arith in none) (subst (Way g order events) (let same : c ≡ d = cc in same) way)
way_on g order (turn ∷ turns) events c d way is =
    let next = bound (walked g order turns) (turned g order c turn) d is in
    let further : Way g order (events + 1) next.0 = record { reached = Further events 1 c next.0 way.reached (advances g order c next.0 turn next.1); plain = (refl, way.plain) } in
    subst (λ k. Way g order k d) (let more : events + 1 + length turns ≡ events + length (turn ∷ turns) = omega arith in more)
    (way_on g order turns (events + 1) next.0 d further next.2)

the_way : (g : Setting) (order : Order) (turns : List Turn) (d : Course) → walked g order turns started ≡ Some d → Way g order (length turns) d
the_way g order turns d is = subst (λ k. Way g order k d) (let none : 0 + length turns ≡ length turns = omega arith in none)
    (way_on g order turns 0 started d (record { reached = Starts; plain = tt }) is)

-- what a course leaves
abbrev pub Left : Type 0
Left = List Item × List Unfinished

abbrev left_by : Course → Left
left_by c = (c.machine.history, unfinished_of c.machine)

-- what a way leaves
abbrev pub leaves : Setting → Order → List Turn → Option Left
leaves g order turns = option_map left_by (walked g order turns started)

pub the_schedule : (g : Setting) (order : Order) (turns : List Turn) (history : List Item) (unfinished : List Unfinished) → leaves g order turns ≡ Some (history, unfinished)
    → IsTheSchedule g order (length turns) history unfinished
the_schedule g order turns history unfinished is =
    let end = mapped left_by (walked g order turns started) (history, unfinished) is in
    let way = the_way g order turns end.0 end.1 in
    let items : end.0.machine.history ≡ history = ap (λ (x : Left). x.0) end.2 in
    let calls : unfinished_of end.0.machine ≡ unfinished = ap (λ (x : Left). x.1) end.2 in
    record {
      is_scheduled = record { course = end.0; reached = way.reached; history_is = sym items; unfinished_is = sym calls };
      no_other = λ c reached plain.
          let same = one_course g order (length turns) c end.0 reached way.reached plain way.plain in
          (ap (λ (x : Course). x.machine.history) same ∙ items, ap (λ (x : Course). unfinished_of x.machine) same ∙ calls);
    }

pub the_only_schedule : (g : Setting) (order : Order) (turns : List Turn) (history : List Item) (unfinished : List Unfinished) → NobodyWrites g → leaves g order turns ≡ Some (history, unfinished)
    → IsTheOnlySchedule g order (length turns) history unfinished
the_only_schedule g order turns history unfinished nobody is =
    let end = mapped left_by (walked g order turns started) (history, unfinished) is in
    let way = the_way g order turns end.0 end.1 in
    let items : end.0.machine.history ≡ history = ap (λ (x : Left). x.0) end.2 in
    let calls : unfinished_of end.0.machine ≡ unfinished = ap (λ (x : Left). x.1) end.2 in
    record {
      is_scheduled = record { course = end.0; reached = way.reached; history_is = sym items; unfinished_is = sym calls };
      no_other = λ other calls' scheduled.
          let same = no_choice g order (length turns) scheduled.course end.0 nobody scheduled.reached way.reached in
          (scheduled.history_is ∙ (ap (λ (x : Course). x.machine.history) same ∙ items), scheduled.unfinished_is ∙ (ap (λ (x : Course). unfinished_of x.machine) same ∙ calls));
    }
