-- What all writes that are in flight need, together.
use Rattle.std.specs.Prelude.{◌≡◌, ◌≢◌, ◌≤◌, ℕ, ◌+◌, List, [], ◌∷◌, ◌++◌, map, sum_by, refl}
use Rattle.std.proofs.Common.{arith, ◌∙◌, sym, subst}
use Rattle.std.proofs.lemmas.List.Sums.{sum_by-cons}
use Rattle.crash_spec.specs.posix_laws.posix_types.declared.call.Call.{Call}
use Rattle.crash_spec.specs.posix_laws.posix_types.declared.call.Who.{Who}
use Rattle.crash_spec.specs.posix_laws.posix_spec.Put.{put_by}
use Rattle.crash_spec.specs.posix_laws.posix_spec.Run.{after_call, Unfinished}
use Rattle.crash_spec.specs.posix_laws.posix_spec.State.{room, State}
use Rattle.crash_spec.specs.posix_laws.Puts.{PutsWhole}
use Rattle.crash_spec.specs.posix_laws.Views.{AreAfforded, need_of}
use Rattle.commute_laws.specs.Flights.{InFlight, InFlight-step, LeavesAlone-put, need_of-step}
use Rattle.commute_laws.specs.Frames.{AreThreads, LeavesAlone}
use Rattle.commute_laws.specs.Rooms.{FitsBeside, room-step}

-- A write that is in flight: the call, its file, and the whole bytes that it puts.
pub record Flight : Type 0 where
  pub begun : Unfinished
  pub node : ℕ
  pub whole : List ℕ

abbrev pub unfinished_call : Flight → Unfinished
unfinished_call f = f.begun

-- what all of them need, in blocks
abbrev pub needs : State → List Flight → ℕ
needs s flights = sum_by (λ (c : Unfinished). need_of s c.0 c.1) (map unfinished_call flights)

abbrev pub AreInFlight : State → List Flight → Type 0
AreInFlight s [] = Unit {0}
AreInFlight s (f ∷ flights) = InFlight s f.begun f.node f.whole × AreInFlight s flights

-- a call of another thread, which leaves the file of the write alone
pub record LetsBe (s : State) (d : Unfinished) (f : Flight) : Type 0 where
  pub threads : AreThreads f.begun.0 d.0
  pub aside : LeavesAlone s d f.node

abbrev pub LetsAllBe : State → Unfinished → List Flight → Type 0
LetsAllBe s d [] = Unit {0}
LetsAllBe s d (f ∷ flights) = LetsBe s d f × LetsAllBe s d flights

pub needs-cons : (s : State) (f : Flight) (flights : List Flight)
    → needs s (f ∷ flights) ≡ need_of s f.begun.0 f.begun.1 + needs s flights
needs-cons s f flights = sum_by-cons (λ (c : Unfinished). need_of s c.0 c.1) f.begun (map unfinished_call flights)

-- Together they need afterwards what they needed.
pub needs-step : (s : State) (d : Unfinished) (flights : List Flight) → AreInFlight s flights → LetsAllBe s d flights
    → needs (after_call s d) flights ≡ needs s flights
needs-step s d [] flying lets = refl
needs-step s d (f ∷ flights) flying lets =
    let one = need_of-step s f.begun d f.node f.whole lets.0.threads flying.0 lets.0.aside in
    let rest = needs-step s d flights flying.1 lets.1 in
    needs-cons (after_call s d) f flights ∙ (λ i. one i + rest i) ∙ sym (needs-cons s f flights)

-- Where their needs find room, each is in flight as before.
pub AreInFlight-step : (s : State) (d : Unfinished) (flights : List Flight) → AreInFlight s flights → LetsAllBe s d flights
    → needs s flights ≤ room (after_call s d) → AreInFlight (after_call s d) flights
AreInFlight-step s d [] flying lets fits = tt
AreInFlight-step s d (f ∷ flights) flying lets fits =
    let parts = needs-cons s f flights in (
      InFlight-step s f.begun d f.node f.whole lets.0.threads flying.0 lets.0.aside (omega (arith, parts, fits)),
      AreInFlight-step s d flights flying.1 lets.1 (omega (arith, parts, fits)),
    )

-- THE NEEDS STAY WITHIN THE ROOM: under a call of others that leaves the files alone and fits beside the needs.
pub AreAfforded-step : (s : State) (d : Unfinished) (flights : List Flight) → AreInFlight s flights → LetsAllBe s d flights
    → AreAfforded s (map unfinished_call flights) → FitsBeside s d (needs s flights)
    → AreInFlight (after_call s d) flights × AreAfforded (after_call s d) (map unfinished_call flights)
AreAfforded-step s d flights flying lets afforded beside =
    let fits = room-step s d (needs s flights) afforded beside in
    (AreInFlight-step s d flights flying lets fits, subst (λ n. n ≤ room (after_call s d)) (sym (needs-step s d flights flying lets)) fits)

-- ---- one of them finishes

pub FitsBeside-put : (s : State) (who : Who) (call : Call) (node : ℕ) (whole : List ℕ) (k : ℕ)
    → PutsWhole s who call node whole → need_of s who call + k ≤ room s → FitsBeside s (who, call) k
unfolding put_by
FitsBeside-put s who (Call.Write h x) node whole k puts fits = λ none. fits
FitsBeside-put s who (Call.Pwrite h start x) node whole k puts fits = λ none. fits
FitsBeside-put s who call node whole k puts fits = let never = puts.is in cc

-- two writes of two threads, on two files
pub record AreTwo (f g : Flight) : Type 0 where
  pub threads : AreThreads g.begun.0 f.begun.0
  pub files : f.node ≢ g.node

abbrev pub IsApart : Flight → List Flight → Type 0
IsApart f [] = Unit {0}
IsApart f (g ∷ flights) = AreTwo f g × IsApart f flights

pub LetsAllBe-flight : (s : State) (f : Flight) (flights : List Flight) → InFlight s f.begun f.node f.whole
    → IsApart f flights → LetsAllBe s f.begun flights
LetsAllBe-flight s f [] flight apart = tt
LetsAllBe-flight s f (g ∷ flights) flight apart = (
  record { threads = apart.0.threads; aside = LeavesAlone-put s f.begun f.node g.node f.whole flight apart.0.files },
  LetsAllBe-flight s f flights flight apart.1,
)

-- any of them may be taken out of the list
pub needs-between : (s : State) (before : List Flight) (f : Flight) (behind : List Flight)
    → needs s (before ++ f ∷ behind) ≡ need_of s f.begun.0 f.begun.1 + needs s (before ++ behind)
needs-between s [] f behind = needs-cons s f behind
needs-between s (g ∷ before) f behind =
    let whole = needs-cons s g (before ++ f ∷ behind) in
    let rest = needs-cons s g (before ++ behind) in
    let inner = needs-between s before f behind in
    omega (arith, whole, rest, inner)

pub AreInFlight-between : (s : State) (before : List Flight) (f : Flight) (behind : List Flight)
    → AreInFlight s (before ++ f ∷ behind) → InFlight s f.begun f.node f.whole × AreInFlight s (before ++ behind)
AreInFlight-between s [] f behind flying = flying
AreInFlight-between s (g ∷ before) f behind flying =
    let inner = AreInFlight-between s before f behind flying.1 in
    (inner.0, (flying.0, inner.1))

-- When one finishes, the others are in flight as before, and find room.
pub AreAfforded-finished : (s : State) (before : List Flight) (f : Flight) (behind : List Flight)
    → AreInFlight s (before ++ f ∷ behind) → IsApart f (before ++ behind)
    → AreAfforded s (map unfinished_call (before ++ f ∷ behind))
    → AreInFlight (after_call s f.begun) (before ++ behind) × AreAfforded (after_call s f.begun) (map unfinished_call (before ++ behind))
AreAfforded-finished s before f behind flying apart afforded =
    let parts = AreInFlight-between s before f behind flying in
    let sum = needs-between s before f behind in
    AreAfforded-step s f.begun (before ++ behind) parts.1 (LetsAllBe-flight s f (before ++ behind) parts.0 apart) (omega (arith, sum, afforded))
    (FitsBeside-put s f.begun.0 f.begun.1 f.node f.whole (needs s (before ++ behind)) parts.0.puts (omega (arith, sum, afforded)))
