-- A claim keeps the rule: of a number that has a line, whose line is then out, and of one that has none.
use Rattle.std.proofs.Common.{◌≡◌, ◌≢◌, ℕ, ◌+◌, ◌<◌, ◌≤◌, List, [], ◌∷◌, ◌++◌, length, set, refl, ap, ◌∙◌, subst, ⊎_elim, arith, length-append, length-set}
use Rattle.std.specs.Prelude.{Contains, sum_by, Option, Some, None}
use Rattle.std.proofs.lemmas.List.Elements.{Contains-push_cases}
use mathlib.Core.Option.{none, some}
use mathlib.Core.Option as maybe
use lib.ListN.{get_elem?}
use Rattle.atomic_table.proofs.Lists.{at_set, set_else, set_here}
use Rattle.oplog_entry.specs.image_model.pm_model.Parts.{Part}
use Rattle.oplog_tail.specs.declared.views.Claim.{Claim}
use Rattle.oplog_tail.specs.declared.views.Knows.{Knows}
use Rattle.oplog_tail.specs.declared.views.Opened.{Opened}
use Rattle.oplog_tail.specs.declared.views.Slot.{Slot}
use Rattle.oplog_tail.specs.Views.{claims_of, claims_with, fulls_of, held_with, parts_of, times_in, with_full, with_held, written_of, number_of}
use Rattle.oplog_tail.specs.Rule.{IsHeld, IsKept, IsView, Rule}
use Rattle.oplog_entry.specs.LogLines.{line_at}
use Rattle.oplog_tail.proofs.Counts.{claims_of-full, claims_of-held, times_in-full, times_in-held}
use Rattle.list_laws.specs.Sums.{sum_at, sum_set}
use Rattle.list_laws.specs.Numbers.{one_if, one_if-same, once_more, below_of_once, once_past, with_of_member}

-- A view stays one where the slots of its own numbers stay.
module _ (base : ℕ) (start : List Part) (homes homes' : List (maybe.Option Slot)) (n : ℕ) (same : (k : ℕ) → k ≢ n → get_elem? homes' k ≡ get_elem? homes k) where
  same_held : (h : Option Opened) → held_with n h ≡ 0 → IsHeld start homes h → IsHeld start homes' h
  same_held None free is = tt
  same_held (Some o) free is =
      let other : o.number ≢ n = λ e. absurd (omega (arith, free, one_if-same n, ap (λ (k : ℕ). one_if k n) e)) in
      (is.0, same o.number other ∙ is.1, is.2)

  pub same_kept : (c : Claim) → c.number ≢ n → IsKept base start homes c → IsKept base start homes' c
  same_kept c other is = record { line = is.line; home = same c.number other ∙ is.home; place = is.place; holds = is.holds }

  pub same_view : (u : Knows) → times_in n u ≡ 0 → IsView base start homes u → IsView base start homes' u
  same_view u free is = record {
    few = is.few;
    spent = is.spent;
    past = is.past;
    held = same_held u.held (omega (arith, free)) is.held;
    claims = λ c has. same_kept c (λ e. absurd (omega (arith, with_of_member number_of u.claims c has, free, ap (λ (k : ℕ). claims_with k u.claims) e))) (is.claims c has);
  }

-- a number that a view has lies below the tail
pub below_tail : (seats base : ℕ) (start : List Part) (tail marks : ℕ) (homes : List (maybe.Option Slot)) (views : List Knows) (j : ℕ) (u : Knows) (x : ℕ)
    → Rule seats base start tail marks homes views → get_elem? views j ≡ some u → 1 ≤ times_in x u → x < tail
below_tail seats base start tail marks homes views j u x rule at counted = below_of_once x tail (omega (arith, counted, sum_at (times_in x) views j u at, rule.once x))

-- and no view has the tail
pub tail_free : (seats base : ℕ) (start : List Part) (tail marks : ℕ) (homes : List (maybe.Option Slot)) (views : List Knows) (j : ℕ) (u : Knows)
    → Rule seats base start tail marks homes views → get_elem? views j ≡ some u → times_in tail u ≡ 0
tail_free seats base start tail marks homes views j u rule at = omega (arith, sum_at (times_in tail) views j u at, rule.once tail, once_past tail tail (omega arith))

-- the tail is a small number
pub tail_small : (seats base : ℕ) (start : List Part) (tail marks : ℕ) (homes : List (maybe.Option Slot)) (views : List Knows)
    → Rule seats base start tail marks homes views → sum_by fulls_of views ≤ sum_by parts_of views → tail ≤ length start + seats
tail_small seats base start tail marks homes views rule few = omega (arith, few, rule.fulls, rule.parts)

-- CLAIM OF A LINE
pub claims_line : (seats base : ℕ) (start : List Part) (n marks : ℕ) (homes : List (maybe.Option Slot)) (views : List Knows) (id : ℕ) (v : Knows)
    → Rule seats base start n marks homes views → get_elem? views id ≡ some v → v.held ≡ None → 0 < v.parts → n < length start
    → Rule seats base start (n + 1) marks (set homes n none) (set views id (with_held v n (line_at start n)))
claims_line seats base start n marks homes views id v rule at idle whole below = record {
  size = length-set homes n none ∙ rule.size;
  small = rule.small;
  seats_few = rule.seats_few;
  single = rule.single;
  parts = omega (arith, sum_set parts_of views id v w at, rule.parts);
  claims = omega (arith, sum_set claims_of views id v w at, claims_of-held n v line idle, rule.claims);
  once = λ x. omega (arith, sum_set (times_in x) views id v w at, times_in-held x n v line idle, rule.once x, once_more x n);
  fulls = omega (arith, sum_set fulls_of views id v w at, rule.fulls);
  written = omega (arith, sum_set written_of views id v w at, rule.written);
  each = each;
  fresh = λ k past within. set_else homes n k none (λ e. absurd (omega (arith, past, e))) ∙ rule.fresh k (omega (arith, past)) within;
} where
  line : Part
  line = line_at start n

  w : Knows
  w = with_held v n line

  homes' : List (maybe.Option Slot)
  homes' = set homes n none

  own : IsView base start homes' v
  own = same_view base start homes homes' n (λ k other. set_else homes n k none other) v (tail_free seats base start n marks homes views id v rule at) (rule.each id v at)

  each : (j : ℕ) (u : Knows) → get_elem? (set views id w) j ≡ some u → IsView base start homes' u
  each j u there = ⊎_elim
      (λ (mine : (j ≡ id) × (w ≡ u)). subst (IsView base start homes') mine.1 (record {
        few = own.few;
        spent = λ empty. absurd (omega (arith, empty, whole));
        past = own.past;
        held = (below, set_here homes n none (omega (arith, below, rule.size)), refl);
        claims = own.claims;
      }))
      (λ (other : (j ≢ id) × (get_elem? views j ≡ some u)).
      same_view base start homes homes' n (λ k apart. set_else homes n k none apart) u (tail_free seats base start n marks homes views j u rule other.1) (rule.each j u other.1))
      (at_set views id j w u there)

-- CLAIM PAST THE LAST LINE
pub claims_full : (seats base : ℕ) (start : List Part) (n marks : ℕ) (homes : List (maybe.Option Slot)) (views : List Knows) (id : ℕ) (v : Knows)
    → Rule seats base start n marks homes views → get_elem? views id ≡ some v → v.full ≡ [] → 0 < v.parts → length start ≤ n
    → Rule seats base start (n + 1) marks homes (set views id (with_full v n))
claims_full seats base start n marks homes views id v rule at unfilled whole past = record {
  size = rule.size;
  small = rule.small;
  seats_few = rule.seats_few;
  single = rule.single;
  parts = omega (arith, sum_set parts_of views id v w at, rule.parts);
  claims = omega (arith, sum_set claims_of views id v w at, claims_of-full n v, rule.claims);
  once = λ x. omega (arith, sum_set (times_in x) views id v w at, times_in-full x n v, rule.once x, once_more x n);
  fulls = omega (arith, sum_set fulls_of views id v w at, length-append v.full (n ∷ []), rule.fulls, past);
  written = omega (arith, sum_set written_of views id v w at, rule.written);
  each = each;
  fresh = λ k after within. rule.fresh k (omega (arith, after)) within;
} where
  w : Knows
  w = with_full v n

  own : IsView base start homes v
  own = rule.each id v at

  past' : (k : ℕ) → Contains (v.full ++ n ∷ []) k → length start ≤ k
  past' k has = ⊎_elim (λ (old : Contains v.full k). own.past k old) (λ (same : n ≡ k). omega (arith, same, past)) (Contains-push_cases v.full n k has)

  each : (j : ℕ) (u : Knows) → get_elem? (set views id w) j ≡ some u → IsView base start homes u
  each j u there = ⊎_elim
      (λ (mine : (j ≡ id) × (w ≡ u)). subst (IsView base start homes) mine.1 (record {
        few = omega (arith, length-append v.full (n ∷ []), ap (λ (l : List ℕ). length l) unfilled, whole);
        spent = λ zero_parts. absurd (omega (arith, zero_parts, whole));
        past = past';
        held = own.held;
        claims = own.claims;
      }))
      (λ (other : (j ≢ id) × (get_elem? views j ≡ some u)). rule.each j u other.1)
      (at_set views id j w u there)
