-- How the log of a round holds claims, while entries are on their way into other lines.
use Rattle.std.specs.Prelude.{◌≡◌, ◌<◌, ◌+◌, ℕ, Contains, List, [], ◌∷◌, ◌++◌, length, Ok}
use Rattle.oplog_entry.specs.pm_model.Parts.{Part}
use Rattle.oplog_entry.specs.pm_model.Words.{Words}
use Rattle.layout_model.specs.declared.lines.Draft.{Draft}
use Rattle.oplog_entry.specs.image_model.LogRule.{HoldsClaims, HoldsEntry, IsAsAtFirst}
use Rattle.oplog_entry.specs.LogLines.{cells_of}
use Rattle.oplog_entry.specs.LogLines.{line_at}
use Rattle.round_log.specs.Rounds.{ChangesLine, IsClaimed, IsRound, RoundView}

-- no claim has the slot
abbrev pub IsUnclaimed : List (ℕ × Draft) → ℕ → Type 0
IsUnclaimed claims n = (d : Draft) → ¬ Contains claims (n, d)

-- THE LOG HOLDS CLAIMS, beside slots of which an entry is on its way: each claim stands whole in the line of its slot; the other slots
-- were taken, and no claim has them; and all other lines are those that the log was opened with.
pub record HoldsRound (start : List Part) (log : RoundView) (claims : List (ℕ × Draft)) (taken : List ℕ) : Type 0 where
  pub count : length log.lines ≡ length start
  pub places : (n : ℕ) → (line_at log.lines n).place ≡ (line_at start n).place
  pub claimed : (n : ℕ) (d : Draft) → Contains claims (n, d) → (n < log.tail) × HoldsEntry (line_at log.lines n).cells d (log.base + n)
  pub out : (n : ℕ) → Contains taken n → (n < log.tail) × IsUnclaimed claims n
  pub others : (n : ℕ) → IsUnclaimed claims n → ¬ Contains taken n → line_at log.lines n ≡ line_at start n

-- ---- laws

-- at the beginning it holds none
abbrev pub HoldsNone : Type 0
HoldsNone = (start : List Part) (base : ℕ) → HoldsRound start (record { lines = start; base = base; tail = 0 }) [] []

-- a slot that is claimed was not taken before, and its line is the one that it was opened with
abbrev pub TakesSlot : Type 0
TakesSlot = (start : List Part) (old new : RoundView) (slot : ℕ) (claims : List (ℕ × Draft)) (taken : List ℕ) → HoldsRound start old claims taken → IsClaimed old new (Ok slot)
    → HoldsRound start new claims (slot ∷ taken) × (line_at new.lines slot ≡ line_at start slot) × (¬ Contains taken slot)

-- the line of a taken slot changes
abbrev pub ChangesTaken : Type 0
ChangesTaken = (start : List Part) (old new : RoundView) (slot : ℕ) (claims : List (ℕ × Draft)) (taken : List ℕ) → HoldsRound start old claims taken → Contains taken slot
    → ChangesLine slot old new → HoldsRound start new claims taken

-- it holds the entry: that is one claim more
abbrev pub ClaimsSlot : Type 0
ClaimsSlot = (start : List Part) (log : RoundView) (slot : ℕ) (d : Draft) (claims : List (ℕ × Draft)) (taken : List ℕ) → HoldsRound start log claims (slot ∷ taken)
    → ¬ Contains taken slot → HoldsEntry (line_at log.lines slot).cells d (log.base + slot) → HoldsRound start log (claims ++ (slot, d) ∷ []) taken

-- where no entry is on its way, the lines hold the claims
abbrev pub LinesHoldClaims : Type 0
LinesHoldClaims = (start : List Part) (log : RoundView) (claims : List (ℕ × Draft)) (first : ℕ → Words) → HoldsRound start log claims [] → IsRound log
    → ((n : ℕ) → n < length start → IsAsAtFirst (line_at start n).cells (first n)) → HoldsClaims log.base (cells_of log.lines) claims first
