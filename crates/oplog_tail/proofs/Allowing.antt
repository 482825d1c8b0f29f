-- The steps of seats at the table: each is allowed, whatever the table is when it comes.
use Rattle.std.proofs.Common.{◌≡◌, ℕ, zero, suc, ◌+◌, ◌-◌, ◌%◌, ◌^◌, ◌<◌, ◌≤◌, Bool, true, false, cond, List, [], ◌∷◌, length, get_or, set, sym, refl, ap, subst, ⊎_elim, arith}
use Rattle.std.specs.Prelude.{sum_by, slice_index, Option, Some, None}
use Rattle.std.proofs.lemmas.Bool.{cases_lt}
use mathlib.Core.Option.{none, some}
use mir.Val.{bool_byte}
use mathlib.Core.Option as maybe
use Rattle.atomic_table.specs.Table.{Allows, gives, homes_after, Joins, keeps, Me, opening, Splits, State, step, takes}
use Rattle.oplog_entry.specs.image_model.pm_model.Parts.{Part}
use Rattle.layout_model.specs.declared.lines.Draft.{Draft}
use Rattle.oplog_tail.specs.declared.views.Claim.{Claim}
use Rattle.oplog_tail.specs.declared.views.Knows.{Knows}
use Rattle.oplog_entry.specs.declared.claims.Mark.TheVariants.{Lost, Written}
use Rattle.oplog_tail.specs.declared.views.Slot.{Slot}
use Rattle.oplog_tail.specs.declared.views.Slot.TheVariants.{Filled, Fresh}
use Rattle.oplog_tail.specs.declared.views.Start.{Start}
use Rattle.oplog_entry.specs.EntryLines.{Holds}
use Rattle.oplog_tail.specs.Views.{claims_of, fulls_of, joined, newcomer, parts_of, settled, with_full, with_held, written_of, number_of}
use Rattle.oplog_tail.specs.Rule.{Kept, Rule}
use Rattle.oplog_entry.specs.LogLines.{line_at}
use Rattle.oplog_tail.specs.Steps.{claimed, mark_of, marked}
use Rattle.oplog_tail.proofs.Claiming.{below_tail, claims_full, claims_line}
use Rattle.oplog_tail.proofs.Counts.{written_of-le, written_one}
use Rattle.oplog_tail.proofs.Marking.{marks_line}
use Rattle.oplog_tail.proofs.Seating.{deals, gathers}
use Rattle.list_laws.specs.Sums.{sum_at, sum_le}
use Rattle.list_laws.specs.Numbers.{with_of_member}

-- the tail is at most the number of lines and seats, so it does not wrap
pub tail_most : (seats base : ℕ) (start : List Part) (tail marks : ℕ) (homes : List (maybe.Option Slot)) (views : List Knows) → Rule seats base start tail marks homes views → tail ≤ length start + seats
tail_most seats base start tail marks homes views rule =
    omega (arith, sum_le fulls_of parts_of views (λ j v at. (rule.each j v at).few), rule.fulls, rule.parts)

marks_most : (seats base : ℕ) (start : List Part) (tail marks : ℕ) (homes : List (maybe.Option Slot)) (views : List Knows) → Rule seats base start tail marks homes views → marks ≤ length start + seats
marks_most seats base start tail marks homes views rule =
    omega (arith, tail_most seats base start tail marks homes views rule, sum_le written_of claims_of views (λ j v at. written_of-le v), rule.written, rule.claims)

-- what a step owes where the words are known
abbrev Goes : Start → ℕ → ℕ → Me Slot Knows → ℕ → (ℕ → ℕ) → (ℕ → Me Slot Knows → Type 0) → State Slot Knows → List ℕ → Type 0
Goes key slots id m i f then s ws =
    (w : Knows) × (a : Rattle.atomic_table.specs.Table.Act Slot) × Rattle.atomic_table.specs.Table.Valid s.homes m.1 a
    × Kept key (record { words = set ws i (f (get_or ws i 0)); homes = homes_after s.homes m.1 a; views = set s.views id w })
    × then (get_or ws i 0) (w, Rattle.atomic_table.specs.Table.carried_after m.1 a)

pub claims_allowed : (key : Start) (slots id : ℕ) (m : Me Slot Knows) → m.0.held ≡ None → m.0.full ≡ [] → 0 < m.0.parts
    → Allows (Kept key) slots id m 0 (λ n. (n + 1) % 2 ^ 64) (claimed (step slots 0 1 0 none) m)
claims_allowed key slots id m idle unfilled whole s kept count at small =
    subst (Goes key slots id m 0 (λ n. (n + 1) % 2 ^ 64) (claimed (step slots 0 1 0 none) m) s) (sym kept.words) goes where
      v : Knows
      v = m.0

      n : ℕ
      n = kept.tail

      start : List Part
      start = key.lines.value.items

      rule : Rule key.seats key.base start n kept.marks s.homes s.views
      rule = kept.rule

      more : (n + 1) % 2 ^ 64 ≡ n + 1
      more = omega (arith, tail_most key.seats key.base start n kept.marks s.homes s.views rule, rule.small, rule.seats_few)

      words : ((n + 1) % 2 ^ 64) ∷ kept.marks ∷ [] ≡ (n + 1) ∷ kept.marks ∷ []
      words = ap (λ (k : ℕ). k ∷ kept.marks ∷ []) more

      above : (c : Claim) → Rattle.std.specs.Prelude.Contains v.claims c → c.number < n
      above c has = below_tail key.seats key.base start n kept.marks s.homes s.views id v c.number rule at (omega (arith, with_of_member number_of v.claims c has))

      room : claims_of v ≤ n
      room = omega (arith, sum_at claims_of s.views id v at, rule.claims)

      goes : Goes key slots id m 0 (λ k. (k + 1) % 2 ^ 64) (claimed (step slots 0 1 0 none) m) s (n ∷ kept.marks ∷ [])
      goes = ⊎_elim
          (λ (below : n < length start). (
            with_held v n (line_at start n),
            takes n (Fresh (line_at start n)),
            rule.fresh n (omega arith) below,
            record { tail = n + 1; marks = kept.marks; words = words; rule = claims_line key.seats key.base start n kept.marks s.homes s.views id v rule at idle whole below },
            (
              (λ within. record { room = room; above = above; line = line_at start n; single = rule.single n below; seat = refl }),
              (λ past. absurd (omega (arith, past, below, count, rule.size))),
            ),
          ))
          (λ (past : length start ≤ n). (
            with_full v n,
            keeps,
            tt,
            record { tail = n + 1; marks = kept.marks; words = words; rule = claims_full key.seats key.base start n kept.marks s.homes s.views id v rule at unfilled whole past },
            ((λ within. absurd (omega (arith, past, within, count, rule.size))), λ _. refl),
          ))
          (cases_lt n (length start))

mark_counts : (k : ℕ) → k ≤ 1 → written_one (mark_of k) ≡ k
mark_counts zero small = refl
mark_counts (suc zero) small = refl
mark_counts (suc (suc k)) small = absurd (omega arith)

-- the line of a slot that a seat took is the one that it has out
pub same_line : (n : ℕ) (p q : Part) → ◌≡◌ {A = List (ℕ × Slot)} ((n, Fresh p) ∷ []) ((n, Fresh q) ∷ []) → p ≡ q
same_line n p q same =
    let both : ◌≡◌ {A = ℕ × Slot} (n, Fresh p) (n, Fresh q) = cc in
    let slots : Fresh p ≡ Fresh q = ap (λ (x : ℕ × Slot). x.1) both in
    cc

pub mark_of_bool : (on : Bool) → mark_of (bool_byte on) ≡ cond on Written Lost
mark_of_bool true = refl
mark_of_bool false = refl

pub one_of_bool : (on : Bool) → bool_byte on ≤ 1
one_of_bool true = omega arith
one_of_bool false = omega arith

pub marks_allowed : (key : Start) (slots id : ℕ) (v : Knows) (n : ℕ) (before line : Part) (d : Draft) (k : ℕ) → v.held ≡ Some (record { number = n; line = before })
    → line.place ≡ before.place → k ≤ 1 → Holds (mark_of k) d (key.base + n) before.cells line.cells
    → Allows (Kept key) slots id (v, (n, Filled line d) ∷ []) 1 (λ x. (x + k) % 2 ^ 64) (marked (step slots 1 k 0 none) (v, (n, Filled line d) ∷ []))
marks_allowed key slots id v n before line d k held place one holds s kept count at small =
    subst (Goes key slots id (v, (n, Filled line d) ∷ []) 1 (λ x. (x + k) % 2 ^ 64) (marked (step slots 1 k 0 none) (v, (n, Filled line d) ∷ [])) s) (sym kept.words) goes where
      start : List Part
      start = key.lines.value.items

      rule : Rule key.seats key.base start kept.tail kept.marks s.homes s.views
      rule = kept.rule

      more : (kept.marks + k) % 2 ^ 64 ≡ kept.marks + written_one (mark_of k)
      more = omega (arith, marks_most key.seats key.base start kept.tail kept.marks s.homes s.views rule, rule.small, rule.seats_few, mark_counts k one)

      goes : Goes key slots id (v, (n, Filled line d) ∷ []) 1 (λ x. (x + k) % 2 ^ 64) (marked (step slots 1 k 0 none) (v, (n, Filled line d) ∷ [])) s (kept.tail ∷ kept.marks ∷ [])
      goes = (
        settled v n d (mark_of k),
        gives,
        tt,
        record {
          tail = kept.tail;
          marks = kept.marks + written_one (mark_of k);
          words = ap (λ (x : ℕ). kept.tail ∷ x ∷ []) more;
          rule = marks_line key.seats key.base start kept.tail kept.marks s.homes s.views id v n before line d (mark_of k) rule at held place holds;
        },
        refl,
      )

pub deals_allowed : (key : Start) (id parts : ℕ) → 0 < parts → Splits (Kept key) id (newcomer parts) (newcomer (parts - 1)) (newcomer 1)
deals_allowed key id parts some_part s kept at = record {
  tail = kept.tail;
  marks = kept.marks;
  words = kept.words;
  rule = deals key.seats key.base key.lines.value.items kept.tail kept.marks s.homes s.views id parts kept.rule at some_part;
}

pub gathers_allowed : (key : Start) (id : ℕ) (v : Knows) (other : ℕ) (w : Knows) → w.held ≡ None → Joins (Kept key) id v other w (joined v w) (newcomer 0)
gathers_allowed key id v other w idle s kept at apart there = record {
  tail = kept.tail;
  marks = kept.marks;
  words = kept.words;
  rule = gathers key.seats key.base key.lines.value.items kept.tail kept.marks s.homes s.views id v other w kept.rule at apart there idle;
}
