-- What each step of a seat tells it.
use Rattle.std.specs.Prelude.{◌≡◌, ◌≤◌, ◌<◌, ◌==◌, ℕ, if◌then◌else◌, Contains, List, [], ◌∷◌}
use Rattle.oplog_entry.specs.image_model.pm_model.Parts.{Part}
use Rattle.atomic_table.specs.Table.{Me, rest, Step}
use Rattle.oplog_tail.specs.declared.views.Claim.{Claim}
use Rattle.oplog_tail.specs.declared.views.Knows.{Knows}
use Rattle.oplog_entry.specs.declared.claims.Mark.{Mark}
use Rattle.oplog_entry.specs.declared.claims.Mark.TheVariants.{Lost, Written}
use Rattle.oplog_tail.specs.declared.views.Slot.{Slot}
use Rattle.oplog_tail.specs.declared.views.Slot.TheVariants.{Filled, Fresh, Out}
use Rattle.oplog_entry.specs.EntryLines.{IsSingle}
use Rattle.oplog_tail.specs.Views.{claims_of, settled, with_full, with_held}

-- The number n lies below the number of lines. It is above all that the seat claimed before, of which there are no more than n,
-- and the seat has taken the line of its slot, which is as it was at first and has one candidate a word.
pub record TakesLine (m : Me Slot Knows) (n : ℕ) (new : Me Slot Knows) : Type 0 where
  pub room : claims_of m.0 ≤ n
  pub above : (c : Claim) → Contains m.0.claims c → c.number < n
  pub line : Part
  pub single : IsSingle line.cells
  pub seat : new ≡ (with_held m.0 n line, (n, Fresh line) ∷ m.1)

-- the number found is claimed, with its line where there is one
abbrev pub claimed : Step Slot → Me Slot Knows → ℕ → Me Slot Knows → Type 0
claimed st m n new = (n < st.slots → TakesLine m n new) × (st.slots ≤ n → new ≡ (with_full m.0 n, m.1))

-- the operand is 1 where the entry was written, and else 0
abbrev pub mark_of : ℕ → Mark
mark_of k = if k == 0 then Lost else Written

-- the line that the seat took last is put back with its entry, and marked
abbrev pub settled_as : Knows → ℕ → Slot → Mark → Knows
settled_as v n (Filled line d) mark = settled v n d mark
settled_as v n (Fresh line) mark = v
settled_as v n Out mark = v

abbrev pub settled_first : Knows → List (ℕ × Slot) → Mark → Knows
settled_first v [] mark = v
settled_first v (x ∷ xs) mark = settled_as v x.0 x.1 mark

abbrev pub marked : Step Slot → Me Slot Knows → ℕ → Me Slot Knows → Type 0
marked st m n new = new ≡ (settled_first m.0 m.1 (mark_of st.first), rest m.1)
