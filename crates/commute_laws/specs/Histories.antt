-- Writes in flight over histories, and the busy rule for all of them.
use Rattle.std.specs.Prelude.{◌≡◌, false, List, [], ◌∷◌, map, refl}
use Rattle.std.proofs.Common.{ap, ◌∙◌, inl, inr}
use Rattle.crash_spec.specs.list_laws.Members.{In}
use Rattle.crash_spec.specs.posix_laws.posix_types.declared.item.Item.{Item}
use Rattle.crash_spec.specs.posix_laws.posix_spec.Run.{after_call, begun, Unfinished, run}
use Rattle.crash_spec.specs.posix_laws.posix_spec.State.{State}
use Rattle.crash_spec.specs.posix_laws.Views.{AreAfforded}
use Rattle.crash_spec.specs.Busy.{is_busy, Out}
use Rattle.commute_laws.specs.Frames.{AreThreads, LeavesAlone-idle}
use Rattle.commute_laws.specs.Handles.{same_who-sym}
use Rattle.commute_laws.specs.Needs.{AreAfforded-step, AreInFlight, unfinished_call, Flight, LetsAllBe, needs}
use Rattle.commute_laws.specs.Rooms.{FitsBeside}

-- the calls of a history let the files of the writes in flight alone, and fit beside their needs, each at its place
abbrev pub LetsThrough : State → List Flight → List Item → Type 0
LetsThrough s flights [] = Unit {0}
LetsThrough s flights (item ∷ items) = LetsAllBe s (begun item) flights × FitsBeside s (begun item) (needs s flights) × LetsThrough (after_call s (begun item)) flights items

-- Whatever calls are let through, each write in flight has at the end the effect that it had when it began, and together
-- they find room.
pub AreInFlight-run : (s : State) (flights : List Flight) (items : List Item) → AreInFlight s flights
    → AreAfforded s (map unfinished_call flights) → LetsThrough s flights items
    → AreInFlight (run s items) flights × AreAfforded (run s items) (map unfinished_call flights)
AreInFlight-run s flights [] flying afforded lets = (flying, afforded)
AreInFlight-run s flights (item ∷ items) flying afforded lets =
    let after = AreAfforded-step s (begun item) flights flying lets.0 afforded lets.1 in
    AreInFlight-run (after_call s (begun item)) flights items after.0 after.1 lets.2

-- the writes that are out, as the busy rule sees them
abbrev pub outs : List Flight → List Out
outs flights = map (λ (f : Flight). (f.begun.0, f.node)) flights

abbrev pub AreAllThreads : Unfinished → List Flight → Type 0
AreAllThreads d [] = Unit {0}
AreAllThreads d (f ∷ flights) = AreThreads f.begun.0 d.0 × AreAllThreads d flights

lets_each : (s : State) (d : Unfinished) (all flights : List Flight)
    → ((f : Flight) → In f flights → In (f.begun.0, f.node) (outs all)) → is_busy s (outs all) d ≡ false
    → AreAllThreads d flights → LetsAllBe s d flights
lets_each s d all [] within idle threads = tt
lets_each s d all (f ∷ flights) within idle threads = (
  record {
    threads = threads.0;
    aside = LeavesAlone-idle s (outs all) d f.begun.0 f.node idle (within f (inl refl)) (same_who-sym f.begun.0 d.0 ∙ threads.0.other);
  },
  lets_each s d all flights (λ g i. within g (inr i)) idle threads.1,
)

in_outs : (flights : List Flight) (f : Flight) → In f flights → In (f.begun.0, f.node) (outs flights)
in_outs [] f is = absurd is
in_outs (g ∷ flights) f (inl same) = inl (ap (λ (x : Flight). (let o : Out = (x.begun.0, x.node) in o)) same)
in_outs (g ∷ flights) f (inr i) = inr (in_outs flights f i)

-- A call of another thread that the busy rule lets through lets the files of all writes that are out alone.
pub LetsAllBe-idle : (s : State) (d : Unfinished) (flights : List Flight) → is_busy s (outs flights) d ≡ false
    → AreAllThreads d flights → LetsAllBe s d flights
LetsAllBe-idle s d flights idle threads = lets_each s d flights flights (in_outs flights) idle threads
