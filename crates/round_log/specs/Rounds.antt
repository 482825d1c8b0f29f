-- What contracts see of the log of a round.
use Rattle.std.specs.Prelude.{◌≡◌, ◌≢◌, ◌≤◌, ◌<◌, ◌+◌, ◌^◌, ℕ, List, length, Result, Ok, Err}
use Rattle.oplog_entry.specs.pm_model.Parts.{Part}
use Rattle.oplog_entry.specs.declared.claims.Full.{Full}
use Rattle.oplog_entry.specs.LogLines.{line_at}

-- the lines, by rising slot; the log's base; and how many slots were claimed
pub record RoundView : Type 0 where
  pub lines : List Part
  pub base : ℕ
  pub tail : ℕ

-- slots are numbers of 32 bits, and their sequence numbers of 64; no more were claimed than there are
pub record IsRound (log : RoundView) : Type 0 where
  pub few : length log.lines < 2 ^ 32
  pub small : log.base ≤ 2 ^ 63
  pub within : log.tail ≤ length log.lines

-- WHAT `claim` ANSWERS AND LEAVES: the next slot; or there is none, and the answer says how many there are.
abbrev pub IsClaimed : RoundView → RoundView → Result ℕ Full → Type 0
IsClaimed old new (Ok slot) = (slot ≡ old.tail) × (slot < length old.lines) × (new ≡ record old { tail = old.tail + 1 })
IsClaimed old new (Err full) = (full.claimed ≡ old.tail) × (full.capacity ≡ length old.lines) × (old.tail ≡ length old.lines) × (new ≡ old)

-- ONE LINE CHANGES, and stays where it is.
pub record ChangesLine (slot : ℕ) (old new : RoundView) : Type 0 where
  pub base : new.base ≡ old.base
  pub tail : new.tail ≡ old.tail
  pub count : length new.lines ≡ length old.lines
  pub place : (line_at new.lines slot).place ≡ (line_at old.lines slot).place
  pub others : (n : ℕ) → n ≢ slot → line_at new.lines n ≡ line_at old.lines n
