-- Looks before the threads start.
use Rattle.std.specs.Prelude.{◌≡◌, ◌≢◌, ◌⊎◌, ◌<◌, ◌≤◌, ◌+◌, ℕ, true, false, List, [], length, slice_get, slice_set, Some, None, refl}
use Rattle.std.proofs.Common.{arith, ◌∙◌, sym, subst, inl, inr, append-nil}
use Rattle.std.proofs.lemmas.Bool.{cases_lt}
use Rattle.std.proofs.lemmas.Bool.Decides.{nat_tests}
use Rattle.std.proofs.lemmas.Option.{slice_get_within}
use Rattle.ruled_turn.specs.Passes.{outside_pass, PassView, TurnView}
use Rattle.thread_laws.specs.world_view_laws.pm_model.Powers.{Supply}
use Rattle.thread_laws.specs.world_view_laws.posix_types.declared.call.Who.{Who}
use Rattle.thread_laws.specs.world_view_laws.posix_spec.Scripted.{IsSetUp}
use Rattle.thread_laws.specs.world_view_laws.declared.views.over.Over.{Over}
use Rattle.thread_laws.specs.world_view_laws.Acts.{shows}
use Rattle.thread_laws.specs.world_view_laws.Views.{WorldView}
use Rattle.thread_laws.specs.Hands.{HandView, Sees, Shown}
use Rattle.thread_laws.specs.Moves.{Knows, MayLeave, next-last, next-who, next_hand}
use Rattle.thread_laws.specs.MovesLaws.{FoundMayLeave}
use Rattle.thread_laws.specs.Places.{at_set, one_at}
use Rattle.thread_laws.specs.States.{IsShownSetUp, StopsAll}
use Rattle.split_threads.specs.Dealt.{HasOnlyLooked, HasSeen, HaveSeen, IsLook, IsShownBy}
use Rattle.split_threads.specs.Rules.{gone_hand}
use Rattle.split_threads.specs.declared.set_up.Look.{Look}
use Rattle.split_threads.specs.declared.turns.Held.{Held}
use Rattle.split_threads.specs.declared.working.Own.{Own}
use Rattle.split_threads.proofs.Started.{only_same, only_twice}

-- ---- one look

-- what a World shows of a look at it
shown_set_up : (w : WorldView) (who : Who) → IsSetUp w.scripts w.history (Who.Thread 0) → IsShownSetUp who (Sees (shows w who))
shown_set_up w Who.Setup is = tt
shown_set_up w (Who.Thread n) is = grind (arith, nat_tests, is)

shown_over : (w : WorldView) (who : Who) → (w.lost ≡ true) ⊎ ((over : Over) × (w.over ≡ Some over)) → StopsAll (Sees (shows w who))
shown_over w who (inl lost) = inr lost
shown_over w who (inr (over, is)) = inl (λ none. (let never : Some over ≡ None = sym is ∙ none in cc))

shown_look : (w : WorldView) (v : HandView) (look : Look) → IsLook w look → IsShownBy (record v { last = Sees (shows w v.who) }) look
shown_look w v Look.SetUp is = shown_set_up w v.who is
shown_look w v Look.Stopped is = shown_over w v.who is
shown_look w v Look.Nothing is = tt

-- whoever's view it is
by_view : (u : HandView) (who : Who) (shown : Shown) (look : Look) → u.who ≡ who → u.last ≡ shown → IsShownBy (record u { who = who; last = shown }) look → IsShownBy u look
by_view u who shown Look.SetUp same last is = subst (λ (s : Shown). IsShownSetUp u.who s) (sym last) (subst (λ (x : Who). IsShownSetUp x shown) (sym same) is)
by_view u who shown Look.Stopped same last is = subst StopsAll (sym last) is
by_view u who shown Look.Nothing same last is = tt

-- IT LOOKED at a World, and left it as it was
pub looked_here : FoundMayLeave → (v : HandView) (w : WorldView) (power : Supply) (look : Look) → Knows w power v → v.out ≡ None → v.begun ≡ None → IsLook w look
    → MayLeave v w w power power × HasOnlyLooked v (next_hand v w w) × IsShownBy (next_hand v w w) look
looked_here law v w power look knows none_out none_begun is =
    let found = law v w power knows none_out none_begun in (
      found.0,
      record { later = found.1; none_out = found.2; none_begun = found.3; done = found.4; full = found.5 },
      by_view (next_hand v w w) v.who (Sees (shows w v.who)) look (next-who v w w) (next-last v w w) (shown_look w v look is),
    )

-- or found it gone
pub looked_gone : (v : HandView) → v.out ≡ None → v.begun ≡ None → HasOnlyLooked v (gone_hand v) × IsShownBy (gone_hand v) Look.Stopped
looked_gone v none_out none_begun = (
  record {
    later = record { who = refl; lap = refl; given = refl; mine = ([], sym (append-nil v.mine)); done = ([], sym (append-nil v.done)); full = λ f. f };
    none_out = none_out;
    none_begun = none_begun;
    done = refl;
    full = refl;
  },
  tt,
)

-- ---- look after look

-- a pass that only looked since it was this one
abbrev pub HasLookedOn : TurnView → PassView Held HandView → PassView Held HandView → Type 0
HasLookedOn turn first pass = (i : ℕ) (v : HandView) → first ≡ outside_pass turn.id i v → v.out ≡ None → v.begun ≡ None
    → (u : HandView) × (pass ≡ outside_pass turn.id i u) × HasOnlyLooked v u

pub looked_first : (turn : TurnView) (pass : PassView Held HandView) → HasLookedOn turn pass pass
looked_first turn pass i v is none_out none_begun = (v, is, only_same v none_out none_begun)

-- what one look leaves
abbrev pub HasLookedOnce : TurnView → PassView Held HandView → PassView Held HandView → Look → Type 0
HasLookedOnce turn old new look = (i : ℕ) (v : HandView) → old ≡ outside_pass turn.id i v → v.out ≡ None → v.begun ≡ None
    → (u : HandView) × (new ≡ outside_pass turn.id i u) × HasOnlyLooked v u × IsShownBy u look

pub looked_then : (turn : TurnView) (first pass new : PassView Held HandView) (look : Look) → HasLookedOn turn first pass → HasLookedOnce turn pass new look → HasLookedOnce turn first new look
looked_then turn first pass new look so_far once i v is none_out none_begun =
    let u = so_far i v is none_out none_begun in
    let t = once i u.0 u.1 u.2.none_out u.2.none_begun in
    (t.0, t.1, only_twice v u.0 t.0 u.2 t.2, t.3)

pub looked_more : (turn : TurnView) (first pass new : PassView Held HandView) (look : Look) → HasLookedOn turn first pass → HasLookedOnce turn pass new look → HasLookedOn turn first new
looked_more turn first pass new look so_far once i v is none_out none_begun =
    let t = looked_then turn first pass new look so_far once i v is none_out none_begun in (t.0, t.1, t.2)

-- ---- all of them

not_true : false ≡ true → ⊥
not_true never = cc

not_false : true ≡ false → ⊥
not_false never = cc

module _ (turn : TurnView) (first : List Own) where
  -- THOSE BELOW PLACE k were shown the set-up; the others are as they were.
  pub record AreSeenTo (k : ℕ) (now : List Own) : Type 0 where
    pub count : length now ≡ length first
    pub seen : (j : ℕ) (a b : Own) → j < k → slice_get first j ≡ Some a → slice_get now j ≡ Some b → HasSeen turn Look.SetUp a b
    pub rest : (j : ℕ) (b : Own) → k ≤ j → slice_get now j ≡ Some b → slice_get first j ≡ Some b

  pub seen_none : AreSeenTo 0 first
  seen_none = record { count = refl; seen = λ j a b below. absurd (omega (arith, below)); rest = λ j b above at. at }

  any_look : (look : Look) (a b : Own) → HasSeen turn look a b → HasSeen turn Look.Nothing a b
  any_look look a b is = record {
    who = is.who;
    seat = is.seat;
    power = is.power;
    view = λ i v pass none_out none_begun. (let u = is.view i v pass none_out none_begun in (u.0, u.1, u.2, tt));
  }

  not_asked : (a : Own) → HasSeen turn Look.Nothing a a
  not_asked a = record { who = refl; seat = refl; power = refl; view = λ i v pass none_out none_begun. (v, pass, only_same v none_out none_begun, tt) }

  -- one at a place became another
  module _ (k : ℕ) (now new : List Own) (own next : Own) (so_far : AreSeenTo k now) (at : slice_get now k ≡ Some own) (new_is : new ≡ slice_set now k next) (count : length new ≡ length now) where
    at_first_place : slice_get first k ≡ Some own
    at_first_place = so_far.rest k own (omega arith) at

    is_there : (j : ℕ) (b : Own) → slice_get new j ≡ Some b → ((j ≡ k) × (next ≡ b)) ⊎ ((j ≢ k) × (slice_get now j ≡ Some b))
    is_there j b there = at_set now k j next b (subst (λ (os : List Own). slice_get os j ≡ Some b) new_is there)

    pub seen_more : HasSeen turn Look.SetUp own next → AreSeenTo (k + 1) new
    seen_more is = record {
      count = count ∙ so_far.count;
      seen = λ j a b below at_a at_b. elim (is_there j b at_b) [
        | inl (same, b_is) ↦ (
            let a_is : own ≡ a = one_at first k own a at_first_place (subst (λ (m : ℕ). slice_get first m ≡ Some a) same at_a) in
            subst (λ (x : Own). HasSeen turn Look.SetUp x b) a_is (subst (λ (x : Own). HasSeen turn Look.SetUp own x) b_is is)
            )
        | inr (apart, there) ↦ so_far.seen j a b (omega (arith, below, apart)) at_a there
      ];
      rest = λ j b above at_b. elim (is_there j b at_b) [
        | inl (same, b_is) ↦ absurd (omega (arith, same, above))
        | inr (apart, there) ↦ so_far.rest j b (omega (arith, above)) there
      ];
    }

    kept_other : (j : ℕ) (a b : Own) → slice_get first j ≡ Some a → slice_get now j ≡ Some b → (j < k) ⊎ (k ≤ j) → HasSeen turn Look.Nothing a b
    kept_other j a b at_a there (inl below) = any_look Look.SetUp a b (so_far.seen j a b below at_a there)
    kept_other j a b at_a there (inr past) =
        let same : a ≡ b = one_at first j a b at_a (so_far.rest j b past there) in
        subst (λ (x : Own). HasSeen turn Look.Nothing a x) same (not_asked a)

    own_other : (j : ℕ) (a b : Own) → slice_get first j ≡ Some a → HasSeen turn Look.Nothing own next → ((j ≡ k) × (next ≡ b)) ⊎ ((j ≢ k) × (slice_get now j ≡ Some b)) → HasSeen turn Look.Nothing a b
    own_other j a b at_a is (inl (same, b_is)) =
        let a_is : own ≡ a = one_at first k own a at_first_place (subst (λ (m : ℕ). slice_get first m ≡ Some a) same at_a) in
        subst (λ (x : Own). HasSeen turn Look.Nothing x b) a_is (subst (λ (x : Own). HasSeen turn Look.Nothing own x) b_is is)
    own_other j a b at_a is (inr (apart, there)) = kept_other j a b at_a there (cases_lt j k)

    pub seen_over : HasSeen turn Look.Stopped own next → slice_get new k ≡ Some next → HaveSeen turn first new false
    seen_over is at_next = record {
      count = count ∙ so_far.count;
      each = λ j a b at_a at_b. own_other j a b at_a (any_look Look.Stopped own next is) (is_there j b at_b);
      every = λ never. absurd (not_true never);
      some = λ none. (k, own, next, at_first_place, at_next, is);
    }

  pub seen_all : (k : ℕ) (now : List Own) → AreSeenTo k now → length first ≤ k → HaveSeen turn first now true
  seen_all k now so_far all = record {
    count = so_far.count;
    each = λ j a b at_a at_b. any_look Look.SetUp a b (so_far.seen j a b (below j a at_a) at_a at_b);
    every = λ yes j a b at_a at_b. so_far.seen j a b (below j a at_a) at_a at_b;
    some = λ never. absurd (not_false never);
  } where
    below : (j : ℕ) (a : Own) → slice_get first j ≡ Some a → j < k
    below j a at = omega (arith, all, slice_get_within first j a at)
