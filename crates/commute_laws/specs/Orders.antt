-- Writes in flight and a call of others among them, in any order.
use Rattle.std.specs.Prelude.{◌≡◌, ◌≢◌, ◌≤◌, ℕ, ◌+◌, Bool, true, false, cond, List, [], ◌∷◌, ◌++◌, map, Some, refl}
use Rattle.std.proofs.Common.{arith, ap, ◌∙◌, sym, subst, inl, inr}
use Rattle.crash_spec.specs.posix_laws.posix_types.declared.call.Call.{Call}
use Rattle.crash_spec.specs.posix_laws.posix_types.declared.call.Who.{Who}
use Rattle.crash_spec.specs.posix_laws.posix_types.declared.tree.TreeEntry.{TreeEntry}
use Rattle.crash_spec.specs.posix_laws.posix_spec.Put.{put_by}
use Rattle.crash_spec.specs.posix_laws.posix_spec.Run.{after_call, after_calls, Unfinished}
use Rattle.crash_spec.specs.posix_laws.posix_spec.State.{room, State}
use Rattle.crash_spec.specs.posix_laws.posix_spec.Step.{step}
use Rattle.crash_spec.specs.Strict.{StrictFrom}
use Rattle.crash_spec.specs.posix_laws.Puts.{PutsWhole}
use Rattle.crash_spec.specs.posix_laws.Views.{need_of}
use Rattle.crash_spec.specs.Busy.{waits_for}
use Rattle.commute_laws.specs.Acted.{Change}
use Rattle.commute_laws.specs.Commutes.{takes}
use Rattle.commute_laws.specs.Flights.{InFlight, LeavesAlone-put}
use Rattle.commute_laws.specs.Frames.{AreThreads, LeavesAlone}
use Rattle.commute_laws.specs.Needs.{AreAfforded-step, AreInFlight, unfinished_call, FitsBeside-put, Flight, IsApart, LetsAllBe, LetsAllBe-flight, needs, needs-cons, needs-step}
use Rattle.commute_laws.specs.Pairs.{Acts-now, Commute, Commute-call, takes-acted, waits_for-acted}
use Rattle.commute_laws.specs.Rooms.{room-step}

-- ---- two writes

takes_at_most : (b : Bool) (n : ℕ) → cond b 0 n ≤ n
takes_at_most true n = omega arith
takes_at_most false n = omega arith

takes-put : (s : State) (who : Who) (call : Call) (node : ℕ) (whole : List ℕ) → PutsWhole s who call node whole
    → takes s (who, call) ≤ need_of s who call
unfolding put_by
takes-put s who (Call.Write h x) node whole puts = takes_at_most _ _
takes-put s who (Call.Pwrite h start x) node whole puts = takes_at_most _ _
takes-put s who call node whole puts = let never = puts.is in cc

-- Two writes of two files that find room together commute.
pub Commute-two : (s : State) (c d : Unfinished) (node node2 : ℕ) (whole whole2 : List ℕ) → InFlight s c node whole
    → InFlight s d node2 whole2 → AreThreads c.0 d.0 → node2 ≢ node
    → need_of s c.0 c.1 + need_of s d.0 d.1 ≤ room s → Commute s c d
Commute-two s c (who, call) node node2 whole whole2 flight flight2 threads apart fits =
    let most = takes-put s who call node2 whole2 flight2.puts in
    Commute-call s c (who, call) node whole flight threads (LeavesAlone-put s (who, call) node2 node whole2 flight2 apart) (omega (arith, most, fits))

-- ---- the call that stands last

-- each is of another file and another thread than those behind it
abbrev pub AreTwoEach : List Flight → Type 0
AreTwoEach [] = Unit {0}
AreTwoEach (f ∷ flights) = IsApart f flights × AreTwoEach flights

lets-same : (s new : State) (d : Unfinished) (flights : List Flight) → waits_for new d ≡ waits_for s d
    → LetsAllBe s d flights → LetsAllBe new d flights
lets-same s new d [] same lets = tt
lets-same s new d (f ∷ flights) same lets = (record { threads = lets.0.threads; aside = subst (λ o. o ≢ Some f.node) (sym same) lets.0.aside }, lets-same s new d flights same lets.1)

-- what a call takes and waits for stays when a write in flight acted
record Stays (s : State) (f : Flight) (d : Unfinished) : Type 0 where
  taken : takes (after_call s f.begun) d ≡ takes s d
  waits : waits_for (after_call s f.begun) d ≡ waits_for s d

stays : (s : State) (f : Flight) (d : Unfinished) → InFlight s f.begun f.node f.whole → LeavesAlone s d f.node → Stays s f d
stays s f d flight aside =
    let acts = Acts-now s f.begun f.node f.whole flight in
    let change : Change = acts.change in
    let other = subst (λ n. LeavesAlone s d n) (sym acts.now.node_is) aside in
    record {
      taken = ap (λ x. takes x d) acts.now.is ∙ takes-acted s f.begun.0 acts.handle change d acts.now.touches other;
      waits = ap (λ x. waits_for x d) acts.now.is ∙ waits_for-acted s f.begun.0 acts.handle change d acts.now.touches other;
    }

-- what is left for the others once one of the writes acted
record OthersLeft (s : State) (d : Unfinished) (f : Flight) (flights : List Flight) : Type 0 where
  fits_one : takes s d + need_of s f.begun.0 f.begun.1 ≤ room s
  flying : AreInFlight (after_call s f.begun) flights
  lets : LetsAllBe (after_call s f.begun) d flights
  fits : takes (after_call s f.begun) d + needs (after_call s f.begun) flights ≤ room (after_call s f.begun)

others_left : (s : State) (d : Unfinished) (f : Flight) (flights : List Flight) → AreInFlight s (f ∷ flights)
    → AreTwoEach (f ∷ flights) → LetsAllBe s d (f ∷ flights) → takes s d + needs s (f ∷ flights) ≤ room s
    → OthersLeft s d f flights
others_left s d f flights flying two lets fits =
    let sum = needs-cons s f flights in
    let others = LetsAllBe-flight s f flights flying.0 two.0 in
    let beside = FitsBeside-put s f.begun.0 f.begun.1 f.node f.whole (needs s flights) flying.0.puts (omega (arith, sum, fits)) in
    let after = AreAfforded-step s f.begun flights flying.1 others (omega (arith, sum, fits)) beside in
    let same = stays s f d flying.0 lets.0.aside in
    let taken = same.taken in
    let needed = needs-step s f.begun flights flying.1 others in
    let both = FitsBeside-put s f.begun.0 f.begun.1 f.node f.whole (takes s d + needs s flights) flying.0.puts (omega (arith, sum, fits)) in
    let left_over = room-step s f.begun (takes s d + needs s flights) (omega (arith, sum, fits)) both in
    record {
      fits_one = omega (arith, sum, fits);
      flying = after.0;
      lets = lets-same s (after_call s f.begun) d flights same.waits lets.1;
      fits = omega (arith, taken, needed, left_over);
    }

-- A CALL OF OTHERS STANDS LAST: what power loss leaves where the call acted before the writes that were in flight, it may
-- leave where the call is the last of the unfinished ones.
pub StrictFrom-last : (s : State) (d : Unfinished) (flights : List Flight) (left : List TreeEntry) → AreInFlight s flights
    → AreTwoEach flights → LetsAllBe s d flights → takes s d + needs s flights ≤ room s
    → StrictFrom (after_call s d) (map unfinished_call flights) left → StrictFrom s (map unfinished_call flights ++ d ∷ []) left
StrictFrom-last s d [] left flying two lets fits strict = inl strict
StrictFrom-last s d (f ∷ flights) left flying two lets fits (inr idle) =
    let sum = needs-cons s f flights in
    inr (StrictFrom-last s d flights left flying.1 two.1 lets.1 (omega (arith, sum, fits)) idle)
StrictFrom-last s d (f ∷ flights) left flying two lets fits (inl acts) =
    let after = others_left s d f flights flying two lets fits in
    let commute = Commute-call s f.begun d f.node f.whole flying.0 lets.0.threads lets.0.aside after.fits_one in
    inl (StrictFrom-last (after_call s f.begun) d flights left after.flying two.1 after.lets after.fits (subst (λ x. StrictFrom x (map unfinished_call flights) left) (sym commute.states) acts))

-- A CALL GIVES WHAT IT GIVES once the writes in flight have finished: the same outcome, and the same state in either order.
pub record CommuteAll (s : State) (d : Unfinished) (flights : List Flight) : Type 0 where
  pub states : after_call (after_calls s (map unfinished_call flights)) d ≡ after_calls (after_call s d) (map unfinished_call flights)
  pub outcome : (step (after_calls s (map unfinished_call flights)) d.0 d.1).outcome ≡ (step s d.0 d.1).outcome

pub CommuteAll-call : (s : State) (d : Unfinished) (flights : List Flight) → AreInFlight s flights → AreTwoEach flights
    → LetsAllBe s d flights → takes s d + needs s flights ≤ room s → CommuteAll s d flights
CommuteAll-call s d [] flying two lets fits = record { states = refl; outcome = refl }
CommuteAll-call s d (f ∷ flights) flying two lets fits =
    let after = others_left s d f flights flying two lets fits in
    let commute = Commute-call s f.begun d f.node f.whole flying.0 lets.0.threads lets.0.aside after.fits_one in
    let rest = CommuteAll-call (after_call s f.begun) d flights after.flying two.1 after.lets after.fits in
    record {
      states = rest.states ∙ ap (λ x. after_calls x (map unfinished_call flights)) commute.states;
      outcome = rest.outcome ∙ commute.outcome;
    }

-- and a call that changed nothing stands last too
pub StrictFrom-idle : (s : State) (d : Unfinished) (unfinished : List Unfinished) (left : List TreeEntry)
    → StrictFrom s unfinished left → StrictFrom s (unfinished ++ d ∷ []) left
StrictFrom-idle s d [] left strict = inr strict
StrictFrom-idle s d (c ∷ unfinished) left (inl acts) = inl (StrictFrom-idle (after_call s c) d unfinished left acts)
StrictFrom-idle s d (c ∷ unfinished) left (inr idle) = inr (StrictFrom-idle s d unfinished left idle)
