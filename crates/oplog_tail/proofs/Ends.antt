-- What a seat with all parts knows of the slots once no thread shares them.
use Rattle.std.proofs.Common.{◌≡◌, ◌≢◌, ℕ, ◌+◌, ◌<◌, ◌≤◌, List, length, sym, ap, ◌∙◌, ⊎_elim, arith}
use Rattle.std.specs.Prelude.{Contains, None}
use Rattle.std.proofs.lemmas.Bool.{cases_lt}
use mathlib.Core.Option.{some}
use lib.ListN.{get_elem?}
use Rattle.atomic_table.specs.Table.{Final, Seen, State}
use Rattle.oplog_entry.specs.image_model.pm_model.Parts.{Part}
use Rattle.oplog_tail.specs.declared.views.Claim.{Claim}
use Rattle.oplog_tail.specs.declared.views.Knows.{Knows}
use Rattle.oplog_tail.specs.declared.views.Slot.{Slot}
use Rattle.oplog_tail.specs.declared.views.Slot.TheVariants.{Filled, Fresh}
use Rattle.oplog_tail.specs.declared.views.Start.{Start}
use Rattle.oplog_entry.specs.EntryLines.{Holds, IsSingle}
use Rattle.oplog_tail.specs.Views.{claims_with, held_with, parts_of, times, times_in, number_of}
use Rattle.oplog_tail.specs.Rule.{IsView, Kept, Rule}
use Rattle.oplog_entry.specs.LogLines.{line_at}
use Rattle.oplog_tail.proofs.Allowing.{tail_most}
use Rattle.oplog_tail.proofs.Counts.{times_in-le}
use Rattle.oplog_tail.proofs.Slots.{within_of_at}
use Rattle.list_laws.specs.Sums.{sum_one, sum_two}
use Rattle.list_laws.specs.Numbers.{once_below, once_of_below, member_of_with}

-- The seat's numbers are all that were claimed. The slot of a claim has its line with its entry, and the other slots have the
-- lines that were there at first.
pub record IsEnd (key : Start) (v : Knows) (xs : List Slot) : Type 0 where
  pub tail : ℕ
  pub once : (x : ℕ) → times_in x v ≡ once_below x tail
  pub few : tail ≤ length key.lines.value.items + key.seats
  pub size : length xs ≡ length key.lines.value.items
  pub past : (n : ℕ) → Contains v.full n → length key.lines.value.items ≤ n
  pub single : (n : ℕ) → n < length key.lines.value.items → IsSingle (line_at key.lines.value.items n).cells
  pub claimed : (c : Claim) → Contains v.claims c → (c.number < length key.lines.value.items) × ((line : Part) × (get_elem? xs c.number ≡ some (Filled line c.entry))
      × (line.place ≡ (line_at key.lines.value.items c.number).place) × Holds c.mark c.entry (key.base + c.number) (line_at key.lines.value.items c.number).cells line.cells)
  pub others : (n : ℕ) → n < length key.lines.value.items → ((c : Claim) → Contains v.claims c → c.number ≢ n) → get_elem? xs n ≡ some (Fresh (line_at key.lines.value.items n))

pub ends : (key : Start) (words : List ℕ) (xs : List Slot) (id : ℕ) (v : Knows) → Final (Seen (Kept key) id v) words xs → 0 < key.seats → v.parts ≡ key.seats → v.held ≡ None → IsEnd key v xs
ends key words xs id v final some_seat all idle = record {
  tail = kept.tail;
  once = once;
  few = tail_most key.seats key.base start kept.tail kept.marks s.homes s.views rule;
  size = sym final.3 ∙ rule.size;
  past = own.past;
  single = rule.single;
  claimed = λ c has. let is = own.claims c has in
      (omega (arith, within_of_at s.homes c.number (some (Filled is.line c.entry)) is.home, rule.size), (is.line, final.4 c.number (Filled is.line c.entry) is.home, is.place, is.holds));
  others = others;
} where
  start : List Part
  start = key.lines.value.items

  s : State Slot Knows
  s = final.0

  kept : Kept key s
  kept = final.1.0

  at : get_elem? s.views id ≡ some v
  at = final.1.1

  rule : Rule key.seats key.base start kept.tail kept.marks s.homes s.views
  rule = kept.rule

  own : IsView key.base start s.homes v
  own = rule.each id v at

  empty : (x j : ℕ) (w : Knows) → j ≢ id → get_elem? s.views j ≡ some w → times_in x w ≡ 0
  empty x j w other there =
      let parts : w.parts ≡ 0 = omega (arith, sum_two parts_of s.views j id w v other there at, rule.parts, all) in
      omega (arith, times_in-le x w, (rule.each j w there).spent parts)

  once : (x : ℕ) → times_in x v ≡ once_below x kept.tail
  once x = sym (sum_one (times_in x) s.views id v at (empty x)) ∙ rule.once x

  others : (n : ℕ) → n < length start → ((c : Claim) → Contains v.claims c → c.number ≢ n) → get_elem? xs n ≡ some (Fresh (line_at start n))
  others n within none = final.4 n (Fresh (line_at start n)) (rule.fresh n past within) where
    unclaimed : 1 ≤ claims_with n v.claims → ⊥
    unclaimed counted = let c = member_of_with number_of v.claims n counted in none c.0 c.1 c.2

    unfound : 1 ≤ times n v.full → ⊥
    unfound counted = let found = member_of_with (λ (k : ℕ). k) v.full n counted in absurd (omega (arith, own.past found.0 found.1, found.2, within))

    claimed : n < kept.tail → ⊥
    claimed below =
        let count : claims_with n v.claims + times n v.full ≡ 1 = omega (arith, once n, once_of_below n kept.tail below, ap (held_with n) idle) in
        ⊎_elim (λ (lone : claims_with n v.claims < 1). unfound (omega (arith, lone, count))) (λ (counted : 1 ≤ claims_with n v.claims). unclaimed counted) (cases_lt (claims_with n v.claims) 1)

    past : kept.tail ≤ n
    past = ⊎_elim (λ (below : n < kept.tail). absurd (claimed below)) (λ (above : kept.tail ≤ n). above) (cases_lt n kept.tail)
