-- Who can run, thread by thread.
use Rattle.std.specs.Prelude.{◌≡◌, ◌≢◌, ◌<◌, ◌+◌, ◌&&◌, ◌++◌, ℕ, Bool, true, false, cond, List, [], ◌∷◌, length, filter, Some, None, Contains, refl}
use Rattle.std.specs.List.{range_with_len}
use Rattle.std.proofs.Common.{arith, ap, ◌∙◌, sym, subst, inl, inr}
use Rattle.std.proofs.lemmas.Bool.{cases_eq}
use Rattle.std.proofs.lemmas.List.{map-id}
use Rattle.std.proofs.lemmas.List.Elements.{Contains-push_cases}
use Rattle.std.proofs.lemmas.List.FromFn.{filter_of_map_range_with_len_more}
use Rattle.posix_types.specs.declared.call.Who.{Who}
use Rattle.run_laws.specs.posix_spec.Scripted.{IsSetUp}
use Rattle.run_laws.specs.list_laws.Members.{In}
use Rattle.run_laws.specs.live_model.Standing.{JobOut}
use Rattle.run_laws.specs.Between.{AreNextCalls, Between}
use Rattle.run_laws.specs.Held.{OutView}
use Rattle.run_laws.specs.CourseLaws.{IsKeptFrom, IsSettingUp, MustCheck}
use Rattle.run_laws.proofs.Left.{set_up_goes_on}
use Rattle.run_laws.specs.world_view_laws.Views.{next_of, WorldView}
use Rattle.split_world.specs.world_parts.declared.outcomes.Ready.{Ready}
use Rattle.split_world.specs.world_parts.Answers.{IsReady}
use Rattle.split_machine.specs.Events.{AreRunnable, HaveEnded, IsAble, IsAbleBy, IsKept, Tells, with_able}

-- ---- what `ready` says

module _ (w : WorldView) (who : Who) (awake : w.lost ≡ false) where
  pub yes_able : IsReady w who Ready.Yes → IsAble w who
  yes_able is = elim is.3 [
    | inl lost ↦ (let never : true ≡ false = sym lost ∙ awake in cc)
    | inr may ↦ inr (is.0, is.1, may)
  ]

  pub out_able : IsReady w who Ready.Out → IsAble w who
  out_able is = inl is

  pub out_next : AreNextCalls w → IsReady w who Ready.Out → next_of w who ≢ None
  out_next next is none =
      let never : None ≡ Some is.0.call = sym none ∙ (ap (next_of w) (sym is.2) ∙ (next is.0 is.1).0) in
      cc

  pub over_kept : IsReady w who Ready.RoundOver → IsKept w who
  over_kept is = (is.0, inr (inl is.2))

  pub busy_kept : (ino : ℕ) (holder : Who) → IsReady w who (Ready.Busy ino holder) → IsKept w who
  busy_kept ino holder is = (is.0, inr (inr (ino, holder, is.3)))

  pub busy_next : (ino : ℕ) (holder : Who) → IsReady w who (Ready.Busy ino holder) → next_of w who ≢ None
  busy_next ino holder is none = (let never : None ≡ Some is.3.call = sym none ∙ is.3.next in cc)

  pub end_kept : IsReady w who Ready.ScriptEnd → IsKept w who
  end_kept is = (is.0, inl is.1)

-- ---- thread by thread

-- Of the threads below a number: those that can run, and whether all have ended.
pub record AreSoFar (w : WorldView) (n : ℕ) (numbers : List ℕ) (all : Bool) : Type 0 where
  pub each : (m : ℕ) → Contains numbers m → IsAble w (Who.Thread m)
  pub filtered : (f : ℕ → Bool) → Tells w f → numbers ≡ filter f (range_with_len 0 n)
  pub others : numbers ≡ [] → (m : ℕ) → m < n → IsKept w (Who.Thread m)
  pub ended : all ≡ true → (m : ℕ) → m < n → next_of w (Who.Thread m) ≡ None
  pub goes_on : all ≡ false → (m : ℕ) × (next_of w (Who.Thread m) ≢ None)

pub none_so_far : (w : WorldView) → AreSoFar w 0 [] true
none_so_far w = record {
  each = λ m there. absurd (omega (arith, there.1));
  filtered = λ f tells. refl;
  others = λ none m below. absurd (omega (arith, below));
  ended = λ all m below. absurd (omega (arith, below));
  goes_on = λ all. (let never : true ≡ false = all in cc);
}

filter_more : (f : ℕ → Bool) (n : ℕ) → filter f (range_with_len 0 (n + 1)) ≡ filter f (range_with_len 0 n) ++ cond (f n) (n ∷ []) []
filter_more f n =
    ap (λ (xs : List ℕ). filter f xs) (sym (map-id (range_with_len 0 (n + 1))))
    ∙ (filter_of_map_range_with_len_more f (λ (i : ℕ). i) 0 n n (omega arith)
    ∙ ap (λ (xs : List ℕ). filter f xs ++ cond (f n) (n ∷ []) []) (map-id (range_with_len 0 n)))

no_push : (xs : List ℕ) (n : ℕ) → xs ++ n ∷ [] ≡ [] → ⊥
no_push [] n is = cc
no_push (x ∷ xs) n is = cc

append_none : (xs : List ℕ) → xs ++ [] ≡ xs
append_none [] = refl
append_none (x ∷ xs) = ap (λ ys. x ∷ ys) (append_none xs)

module _ (w : WorldView) (n : ℕ) (numbers : List ℕ) (all : Bool) (was : AreSoFar w n numbers all) (ended : Bool) (ends : ended ≡ true → next_of w (Who.Thread n) ≡ None) (goes : ended ≡ false → next_of w (Who.Thread n) ≢ None) where
  ended_then : (a b : Bool) → a ≡ all → b ≡ ended → (a && b) ≡ true → (m : ℕ) → m < n + 1 → next_of w (Who.Thread m) ≡ None
  ended_then true true first second is m below = elim (cases_eq m n) [
    | inl same ↦ subst (λ (k : ℕ). next_of w (Who.Thread k) ≡ None) (sym same) (ends (sym second))
    | inr other ↦ was.ended (sym first) m (omega (arith, below, other))
  ]
  ended_then true false first second is m below = (let never : false ≡ true = is in cc)
  ended_then false b first second is m below = (let never : false ≡ true = is in cc)

  goes_then : (a b : Bool) → a ≡ all → b ≡ ended → (a && b) ≡ false → (m : ℕ) × (next_of w (Who.Thread m) ≢ None)
  goes_then true true first second is = (let never : true ≡ false = is in cc)
  goes_then true false first second is = (n, goes (sym second))
  goes_then false b first second is = was.goes_on (sym first)

  pub one_more : (able : Bool) → IsAbleBy w (Who.Thread n) able → AreSoFar w (n + 1) (with_able able numbers n) (all && ended)
  one_more true is = record {
    each = λ m there. elim (Contains-push_cases numbers n m there) [
      | inl old ↦ was.each m old
      | inr same ↦ subst (λ (k : ℕ). IsAble w (Who.Thread k)) same is
    ];
    filtered = λ f tells. (λ k. was.filtered f tells k ++ n ∷ []) ∙ ((λ k. filter f (range_with_len 0 n) ++ cond (sym (tells n true is) k) (n ∷ []) []) ∙ sym (filter_more f n));
    others = λ none m below. absurd (no_push numbers n none);
    ended = ended_then all ended refl refl;
    goes_on = goes_then all ended refl refl;
  }
  one_more false is = record {
    each = was.each;
    filtered = λ f tells. was.filtered f tells ∙ (sym (append_none (filter f (range_with_len 0 n))) ∙ ((λ k. filter f (range_with_len 0 n) ++ cond (sym (tells n false is) k) (n ∷ []) []) ∙ sym (filter_more f n)));
    others = λ none m below. elim (cases_eq m n) [
      | inl same ↦ subst (λ (k : ℕ). IsKept w (Who.Thread k)) (sym same) is
      | inr other ↦ was.others none m (omega (arith, below, other))
    ];
    ended = ended_then all ended refl refl;
    goes_on = goes_then all ended refl refl;
  }

-- ALL OF THEM
pub all_runnable : (w : WorldView) (numbers : List ℕ) (all : Bool) → AreSoFar w (length w.scripts.threads) numbers all → AreRunnable w numbers
all_runnable w numbers all are = record { each = are.each; all = are.filtered; others = are.others }

pub all_ended : (w : WorldView) (numbers : List ℕ) (all : Bool) → AreSoFar w (length w.scripts.threads) numbers all → HaveEnded w all
all_ended w numbers true are = are.ended refl
all_ended w numbers false are = are.goes_on refl

-- ---- the set-up

none_of : {X : Type 0} (xs : List X) → ((x : X) → In x xs → ⊥) → xs ≡ []
none_of [] never = refl
none_of (x ∷ xs) never = absurd (never x (inl refl))

none_long : {X : Type 0} (xs : List X) → length xs ≡ 0 → xs ≡ []
none_long [] is = refl
none_long (x ∷ xs) is = absurd (omega (arith, is))

-- Where it cannot go on, the round is over: no other caller has a job, so that nothing keeps its call waiting.
pub set_up_checks : (w : WorldView) (out : OutView) → Between w out → ¬ IsSetUp w.scripts w.history (Who.Thread 0) → IsKept w Who.Setup → MustCheck w out
set_up_checks w out b not_up kept = record {
  over = by kept.1;
  none_out = none_long out.jobs (omega (arith, b.held.count, ap (λ (ps : List JobOut). length ps) none_pending));
  left = up.left;
} where
  up : IsSettingUp w
  up = set_up_goes_on w out b not_up

  none_pending : w.pending ≡ []
  none_pending = none_of w.pending (λ p there. kept.0 p there (up.own p there))

  by : IsKeptFrom w Who.Setup → w.over ≢ None
  by (inl none) = absurd (up.next none)
  by (inr (inl over)) = over
  by (inr (inr waits)) = absurd (subst (In waits.2.kept.job) none_pending waits.2.kept.out)
