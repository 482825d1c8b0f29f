-- The steps of seats at the table: each is allowed, whatever the table is when it comes; and what is left at the end.
use Rattle.std.proofs.Common.{◌≡◌, ◌≢◌, ℕ, zero, suc, ◌<◌, eqb, List, [], ◌∷◌, length, set, get_or, sym, refl, ap, subst, arith}
use Rattle.std.specs.Prelude.{Contains, slice_get, Option, Some, None}
use mathlib.Core.Option.{none, some}
use mathlib.Core.Option as maybe
use prog.Atomic.{either}
use lib.ListN.{get_elem?}
use Rattle.atomic_table.specs.Table.{Act, Allows, carried_after, Final, gives, homes_after, Joins, keeps, Me, opening, Seen, Splits, State, step, takes, Valid}
use Rattle.atomic_table.proofs.Lists.{set_again}
use Rattle.list_laws.specs.Sums.{sum_one, sum_two}
use Rattle.ruled_turn.specs.declared.views.Opening.{Opening}
use Rattle.ruled_turn.specs.declared.views.Standing.{Standing}
use Rattle.ruled_turn.specs.Standings.{carried_count, first_alone, holds_turn, inside_count, joined, outside, within, without_first}
use Rattle.ruled_turn.specs.Rule.{first_standing, Kept, KeptFor, Rule}
use Rattle.ruled_turn.specs.Steps.{released, taken}
use Rattle.ruled_turn.proofs.Moves.{deals_rule, joins_rule, opens_rule, releases_rule, takes_rule}

module _ {T V : Type 0} (holds : T → List V → Type 0) where
  -- what a step owes where the words are known
  abbrev Goes : ℕ → ℕ → Me (Option T) (Standing T V) → (ℕ → ℕ) → (ℕ → Me (Option T) (Standing T V) → Type 0) → State (Option T) (Standing T V) → List ℕ → Type 0
  Goes n id m f then s ws =
      (w : Standing T V) × (a : Act (Option T)) × Valid s.homes m.1 a
      × Kept holds n (record { words = set ws 0 (f (get_or ws 0 0)); homes = homes_after s.homes m.1 a; views = set s.views id w })
      × then (get_or ws 0 0) (w, carried_after m.1 a)

  pub takes_allowed : (knows : T → V → Type 0) → ((x : T) (views : List V) (i : ℕ) (v : V) → holds x views → slice_get views i ≡ Some v → knows x v)
      → (n slots id : ℕ) (m : Me (Option T) (Standing T V)) → 0 < length m.0.carried
      → Allows (Kept holds n) slots id m 0 (λ w. either (eqb w 0) 1 w) (taken knows (step slots 0 0 1 none) m)
  takes_allowed knows tells n slots id m some_pass s kept count at small =
      subst (Goes n id m (λ w. either (eqb w 0) 1 w) (taken knows (step slots 0 0 1 none) m) s) (sym kept.words) (by kept.word kept.rule) where
        by : (word : ℕ) → Rule holds n word s.homes s.views → Goes n id m (λ w. either (eqb w 0) 1 w) (taken knows (step slots 0 0 1 none) m) s (word ∷ [])
        by zero rule =
            let free = rule.free refl in
            let x : T = free.0 in (
              within m.0.carried x,
              takes 0 (Some x),
              ap (λ (l : List (maybe.Option (Option T))). get_elem? l 0) free.1,
              record { word = 1; words = refl; rule = takes_rule holds n s.homes s.views id m.0 x rule at some_pass refl },
              ((λ is. record { value = x; known = λ i v has. tells x rule.views i v free.2 (rule.fits id m.0 at i v has); seat = refl }), (λ other. absurd (other refl))),
            )
        by (suc zero) rule = (
          m.0,
          keeps,
          tt,
          record { word = 1; words = refl; rule = subst (λ (l : List (Standing T V)). Rule holds n 1 s.homes l) (sym (set_again s.views id m.0 at)) rule },
          ((λ is. absurd (omega (arith, is))), λ other. refl),
        )
        by (suc (suc word)) rule = absurd (omega (arith, rule.one))

  pub releases_allowed : (may : V → T → T → Type 0) (next : V → T → T → V)
      → ((x y : T) (views : List V) (i : ℕ) (v : V) → holds x views → slice_get views i ≡ Some v → may v x y → holds y (set views i (next v x y)))
      → (n slots id i : ℕ) (v : V) (x y : T) → may v x y
      → Allows (Kept holds n) slots id (within ((i, v) ∷ []) x, (0, Some y) ∷ []) 0 (λ _. 0) (λ _. released next (step slots 0 0 0 none) (within ((i, v) ∷ []) x, (0, Some y) ∷ []) 0)
  releases_allowed may next keeps_it n slots id i v x y allowed s kept count at small =
      subst (Goes n id (within ((i, v) ∷ []) x, (0, Some y) ∷ []) (λ _. 0) (λ _. released next (step slots 0 0 0 none) (within ((i, v) ∷ []) x, (0, Some y) ∷ []) 0) s) (sym kept.words) (
        outside ((i, next v x y) ∷ []),
        gives,
        tt,
        record { word = 0; words = refl; rule = releases_rule holds may next keeps_it n kept.word s.homes s.views id i v x y kept.rule at allowed },
        refl,
      )

  pub deals_allowed : (n id : ℕ) (s : Standing T V) → s.inside ≡ None → Splits (Kept holds n) id s (without_first s) (first_alone s)
  deals_allowed n id s idle st kept at = record { word = kept.word; words = kept.words; rule = deals_rule holds n kept.word st.homes st.views id s kept.rule at idle }

  pub joins_allowed : (n id : ℕ) (s : Standing T V) (other : ℕ) (r : Standing T V) → r.inside ≡ None → Joins (Kept holds n) id s other r (joined s r) (outside [])
  joins_allowed n id s other r idle st kept at apart there =
      record { word = kept.word; words = kept.words; rule = joins_rule holds n kept.word st.homes st.views id s other r kept.rule at apart there idle }

  pub opens_kept : (first : T → ℕ → List V) (key : Opening T) (x : T) → key.value.value ≡ x → length (first x key.passes) ≡ key.passes → holds x (first x key.passes)
      → KeptFor holds key (opening (0 ∷ []) (Some x ∷ []) (first_standing first key))
  opens_kept first key x value sized starts =
      subst (λ (z : T). KeptFor holds key (opening (0 ∷ []) (Some x ∷ []) (outside (Rattle.std.specs.List.enumerate_from 0 (first z key.passes))))) (sym value)
      (record { word = 0; words = refl; rule = opens_rule holds key.passes x (first x key.passes) sized starts })

  -- What is left at the end: a value with which the rule holds of views, each at the number of its pass.
  pub record IsEnd (n : ℕ) (carried : List (ℕ × V)) (xs : List (Option T)) : Type 0 where
    pub value : T
    pub views : List V
    pub at_home : get_elem? xs 0 ≡ some (Some value)
    pub law : holds value views
    pub count : length views ≡ n
    pub own : (i : ℕ) (v : V) → Contains carried (i, v) → slice_get views i ≡ Some v

  pub ends : (n id : ℕ) (s : Standing T V) (words : List ℕ) (xs : List (Option T)) → Final (Seen (Kept holds n) id s) words xs → length s.carried ≡ n → s.inside ≡ None → IsEnd n s.carried xs
  ends n id s words xs final all idle = record {
    value = free.0;
    views = rule.views;
    at_home = final.4 0 (Some free.0) (ap (λ (l : List (maybe.Option (Option T))). get_elem? l 0) free.1);
    law = free.2;
    count = rule.count;
    own = rule.fits id s at;
  } where
    st : State (Option T) (Standing T V)
    st = final.0

    kept : Kept holds n st
    kept = final.1.0

    at : get_elem? st.views id ≡ some s
    at = final.1.1

    rule : Rule holds n kept.word st.homes st.views
    rule = kept.rule

    others : (j : ℕ) (r : Standing T V) → j ≢ id → get_elem? st.views j ≡ some r → holds_turn r ≡ 0
    others j r other there = omega (arith, rule.inside_carries j r there, sum_two carried_count st.views j id r s other there at, rule.carried, all)

    nobody : kept.word ≡ 0
    nobody = omega (arith, rule.holders, sum_one holds_turn st.views id s at others, ap inside_count idle)

    free : (x : T) × (st.homes ≡ some (Some x) ∷ []) × holds x rule.views
    free = rule.free nobody
