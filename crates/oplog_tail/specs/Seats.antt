-- A seat as contracts see it, and what is always true of one.
use Rattle.std.specs.Prelude.{◌≡◌, ◌≤◌, ◌<◌, ℕ, Contains, List, [], ◌∷◌, ◌++◌, map, Option, Some, None}
use Rattle.std.specs.List.Sorted.{IsStrictlyIncreasing}
use Rattle.atomic_table.specs.Seated.{TableId}
use Rattle.atomic_table.specs.Table.{Me}
use Rattle.layout_model.specs.declared.lines.Draft.{Draft}
use Rattle.oplog_tail.specs.declared.views.Claim.{Claim}
use Rattle.oplog_entry.specs.declared.claims.Full.{Full}
use Rattle.oplog_tail.specs.declared.views.Knows.{Knows}
use Rattle.oplog_entry.specs.declared.claims.Mark.{Mark}
use Rattle.oplog_tail.specs.declared.views.Slot.{Slot}
use Rattle.oplog_tail.specs.Views.{claim}

-- which log it is of, what it claimed below the number of lines, in the order of its claims, and its answer once it found the
-- log full
pub record SeatView : Type 0 where
  pub log : TableId
  pub claims : List Claim
  pub full : Option Full

-- the claims as pairs of number and entry
abbrev pub pairs_of : List Claim → List (ℕ × Draft)
pairs_of claims = map (λ c. (c.number, c.entry)) claims

-- a seat with one claim more, and one that found the log full
abbrev pub with_claim : SeatView → ℕ → Draft → Mark → SeatView
with_claim s n d mark = record { log = s.log; claims = s.claims ++ claim n d mark ∷ []; full = s.full }

abbrev pub found_full : SeatView → Full → SeatView
found_full s full = record { log = s.log; claims = s.claims; full = Some full }

-- the claims have rising numbers, all below the capacity
pub record AreClaims (capacity : ℕ) (claims : List Claim) : Type 0 where
  pub rising : IsStrictlyIncreasing (map (λ c. c.number) claims)
  pub below : (c : Claim) → Contains claims c → c.number < capacity

-- the number that the seat found past the last line is that of its answer
abbrev pub IsFound : ℕ → List ℕ → Option Full → Type 0
IsFound capacity numbers None = numbers ≡ []
IsFound capacity numbers (Some full) = (numbers ≡ full.claimed ∷ []) × (full.capacity ≡ capacity) × (capacity ≤ full.claimed)

-- What is true of a seat between two calls: no line is out with it, it stands for itself alone, it has its claims at hand, and
-- there is room for as many claims as the log has lines.
pub record IsResting (capacity : ℕ) (me : Me Slot Knows) (pairs : List (ℕ × Draft)) (room : ℕ) (full : Option Full) : Type 0 where
  pub home : me.1 ≡ []
  pub idle : me.0.held ≡ None
  pub alone : me.0.parts ≡ 1
  pub claims : AreClaims capacity me.0.claims
  pub at_hand : pairs ≡ pairs_of me.0.claims
  pub found : IsFound capacity me.0.full full
  pub roomy : capacity ≤ room
