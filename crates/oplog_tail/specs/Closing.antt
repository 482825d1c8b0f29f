-- What the lines of a log are once it is closed, by the claims of its seats.
use Rattle.std.specs.Prelude.{◌≡◌, ◌≤◌, ◌<◌, ℕ, ◌+◌, Contains, flat_map, List, [], ◌∷◌, length, map, sum_by, Option, Some, None}
use Rattle.oplog_entry.specs.image_model.pm_model.declared.Cell.{Cell}
use Rattle.oplog_entry.specs.image_model.pm_model.Parts.{Part}
use Rattle.oplog_entry.specs.image_model.pm_model.Words.{Words}
use Rattle.oplog_entry.specs.image_model.LogRule.{words_of_line}
use Rattle.oplog_tail.specs.declared.views.Claim.{Claim}
use Rattle.oplog_entry.specs.declared.claims.Full.{Full}
use Rattle.oplog_entry.specs.declared.claims.Mark.TheVariants.{Written}
use Rattle.oplog_tail.specs.declared.views.Slot.{Slot}
use Rattle.oplog_tail.specs.declared.views.Slot.TheVariants.{Filled, Fresh, Out}
use Rattle.oplog_entry.specs.EntryLines.{Holds}
use Rattle.oplog_tail.specs.Views.{claims_with, times}
use Rattle.oplog_entry.specs.LogLines.{line_at}
use Rattle.oplog_tail.specs.Seats.{SeatView}
use Rattle.oplog_tail.specs.Logs.{capacity, LogView}
use Rattle.list_laws.specs.Numbers.{once_below}

-- the claims of all seats
abbrev pub claims_of_all : List SeatView → List Claim
claims_of_all seats = flat_map (λ s. s.claims) seats

-- the line in a slot that has one
abbrev pub HasLine : Slot → Type 0
HasLine (Fresh line) = Unit {0}
HasLine (Filled line d) = Unit {0}
HasLine Out = ⊥

abbrev pub line_in : Slot → Part
line_in (Fresh line) = line
line_in (Filled line d) = line
line_in Out = record { place = 0; cells = [] }

-- the number of a seat's answer, if it found the log full
abbrev pub full_number : Option Full → List ℕ
full_number None = []
full_number (Some full) = full.claimed ∷ []

-- how often a seat claimed the number x
abbrev pub seat_with : ℕ → SeatView → ℕ
seat_with x s = claims_with x s.claims + times x (full_number s.full)

-- Each number below the tail was claimed by one seat, once, and no other number was: as a claim where there is a line for it,
-- and else as the answer of a seat that found the log full. Those past the last line are no more than the seats.
pub record AreNumbered (log : LogView) (seats : List SeatView) : Type 0 where
  pub tail : ℕ
  pub once : (x : ℕ) → sum_by (seat_with x) seats ≡ once_below x tail
  pub few : tail ≤ capacity log + log.seats
  pub below : (s : SeatView) (c : Claim) → Contains seats s → Contains s.claims c → c.number < capacity log
  pub past : (s : SeatView) (full : Full) → Contains seats s → s.full ≡ Some full → capacity log ≤ full.claimed

-- how often a seat claimed the number x below the number of lines
abbrev pub claim_with : ℕ → SeatView → ℕ
claim_with x s = claims_with x s.claims

-- The claims of all seats have the numbers below `upto`, each once, and that is the number of lines where a seat found the log full.
pub record AreFirst (log : LogView) (seats : List SeatView) : Type 0 where
  pub upto : ℕ
  pub within : upto ≤ capacity log
  pub once : (x : ℕ) → sum_by (claim_with x) seats ≡ once_below x upto
  pub full : (s : SeatView) (full : Full) → Contains seats s → s.full ≡ Some full → upto ≡ capacity log

-- There are as many lines as the log was opened with, each in its place. That of a claim holds what the claim's mark says, and
-- the others are as they were.
pub record LeavesLines (log : LogView) (claims : List Claim) (lines : List Part) : Type 0 where
  pub size : length lines ≡ length log.lines
  pub places : (n : ℕ) → n < length lines → (line_at lines n).place ≡ (line_at log.lines n).place
  pub claimed : (c : Claim) → Contains claims c → (c.number < length lines) × Holds c.mark c.entry (log.base + c.number) (line_at log.lines c.number).cells (line_at lines c.number).cells
  pub others : (n : ℕ) → n < length lines → ((c : Claim) → Contains claims c → ¬ (c.number ≡ n)) → line_at lines n ≡ line_at log.lines n

-- no append lost its power
abbrev pub AllWritten : List Claim → Type 0
AllWritten claims = (c : Claim) → Contains claims c → c.mark ≡ Written

-- the words that a line had at first
abbrev pub first_words : LogView → ℕ → Words
first_words log n = words_of_line (line_at log.lines n).cells
