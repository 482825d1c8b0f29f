-- A mark keeps the rule: the line that a seat had out goes back into its slot with its entry.
use Rattle.std.proofs.Common.{◌≡◌, ◌≢◌, ℕ, ◌+◌, ◌<◌, List, [], ◌∷◌, ◌++◌, length, set, ap, ◌∙◌, subst, ⊎_elim, arith, length-set}
use Rattle.std.specs.Prelude.{Contains, Some}
use Rattle.std.proofs.lemmas.List.Elements.{Contains-push_cases}
use mathlib.Core.Option.{none, some}
use mathlib.Core.Option as maybe
use lib.ListN.{get_elem?}
use Rattle.atomic_table.proofs.Lists.{at_set, set_else, set_here}
use Rattle.oplog_entry.specs.image_model.pm_model.Parts.{Part}
use Rattle.layout_model.specs.declared.lines.Draft.{Draft}
use Rattle.oplog_tail.specs.declared.views.Claim.{Claim}
use Rattle.oplog_tail.specs.declared.views.Knows.{Knows}
use Rattle.oplog_entry.specs.declared.claims.Mark.{Mark}
use Rattle.oplog_tail.specs.declared.views.Slot.{Slot}
use Rattle.oplog_tail.specs.declared.views.Slot.TheVariants.{Filled}
use Rattle.oplog_entry.specs.EntryLines.{Holds}
use Rattle.oplog_tail.specs.Views.{claim, claims_of, claims_with, fulls_of, held_with, parts_of, settled, times_in, written_of, number_of}
use Rattle.oplog_tail.specs.Rule.{IsHeld, IsKept, IsView, Rule}
use Rattle.oplog_entry.specs.LogLines.{line_at}
use Rattle.oplog_tail.proofs.Claiming.{below_tail, same_kept, same_view}
use Rattle.oplog_tail.proofs.Counts.{claims_of-settled, times_in-settled, written_of-settled, written_one}
use Rattle.list_laws.specs.Sums.{sum_at, sum_set, sum_two}
use Rattle.list_laws.specs.Numbers.{one_if-same, once-le, with_of_member}

pub marks_line : (seats base : ℕ) (start : List Part) (tail marks : ℕ) (homes : List (maybe.Option Slot)) (views : List Knows) (id : ℕ) (v : Knows) (n : ℕ) (before line : Part) (d : Draft) (mark : Mark)
    → Rule seats base start tail marks homes views → get_elem? views id ≡ some v → v.held ≡ Some (record { number = n; line = before })
    → line.place ≡ before.place → Holds mark d (base + n) before.cells line.cells
    → Rule seats base start tail (marks + written_one mark) (set homes n (some (Filled line d))) (set views id (settled v n d mark))
marks_line seats base start tail marks homes views id v n before line d mark rule at held place holds = record {
  size = length-set homes n (some (Filled line d)) ∙ rule.size;
  small = rule.small;
  seats_few = rule.seats_few;
  single = rule.single;
  parts = omega (arith, sum_set parts_of views id v w at, rule.parts);
  claims = omega (arith, sum_set claims_of views id v w at, claims_of-settled n v before d mark held, rule.claims);
  once = λ x. omega (arith, sum_set (times_in x) views id v w at, times_in-settled x n v before d mark held, rule.once x);
  fulls = omega (arith, sum_set fulls_of views id v w at, rule.fulls);
  written = omega (arith, sum_set written_of views id v w at, written_of-settled n v d mark, rule.written);
  each = each;
  fresh = λ k past within. set_else homes n k (some (Filled line d)) (λ e. absurd (omega (arith, past, e, taken))) ∙ rule.fresh k past within;
} where
  w : Knows
  w = settled v n d mark

  homes' : List (maybe.Option Slot)
  homes' = set homes n (some (Filled line d))

  own : IsView base start homes v
  own = rule.each id v at

  out : (n < length start) × (get_elem? homes n ≡ some none) × (before ≡ line_at start n)
  out = subst (IsHeld start homes) held own.held

  counted : held_with n v.held ≡ 1
  counted = ap (held_with n) held ∙ one_if-same n

  taken : n < tail
  taken = below_tail seats base start tail marks homes views id v n rule at (omega (arith, counted))

  free : (j : ℕ) (u : Knows) → j ≢ id → get_elem? views j ≡ some u → times_in n u ≡ 0
  free j u other there = omega (arith, counted, sum_two (times_in n) views j id u v other there at, rule.once n, once-le n tail)

  apart : (c : Claim) → Contains v.claims c → c.number ≢ n
  apart c has e =
      absurd (omega (arith, counted, with_of_member number_of v.claims c has, ap (λ (k : ℕ). claims_with k v.claims) e, sum_at (times_in n) views id v at, rule.once n, once-le n tail))

  same : (k : ℕ) → k ≢ n → get_elem? homes' k ≡ get_elem? homes k
  same k other = set_else homes n k (some (Filled line d)) other

  kept : IsKept base start homes' (claim n d mark)
  kept = record {
    line = line;
    home = set_here homes n (some (Filled line d)) (omega (arith, out.0, rule.size));
    place = place ∙ ap (λ (p : Part). p.place) out.2;
    holds = subst (λ (p : Part). Holds mark d (base + n) p.cells line.cells) out.2 holds;
  }

  claims : (c : Claim) → Contains (v.claims ++ claim n d mark ∷ []) c → IsKept base start homes' c
  claims c has = ⊎_elim
      (λ (old : Contains v.claims c). same_kept base start homes homes' n same c (apart c old) (own.claims c old))
      (λ (new : claim n d mark ≡ c). subst (IsKept base start homes') new kept)
      (Contains-push_cases v.claims (claim n d mark) c has)

  each : (j : ℕ) (u : Knows) → get_elem? (set views id w) j ≡ some u → IsView base start homes' u
  each j u there = ⊎_elim
      (λ (mine : (j ≡ id) × (w ≡ u)). subst (IsView base start homes') mine.1 (record {
        few = own.few;
        spent = λ empty. claims_of-settled n v before d mark held ∙ own.spent empty;
        past = own.past;
        held = tt;
        claims = claims;
      }))
      (λ (other : (j ≢ id) × (get_elem? views j ≡ some u)). same_view base start homes homes' n same u (free j u other.0 other.1) (rule.each j u other.1))
      (at_set views id j w u there)
