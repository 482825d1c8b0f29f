-- What an append answers, and what it leaves of its seat.
use Rattle.std.specs.Prelude.{◌≡◌, ◌≤◌, ◌<◌, ℕ, true, false, None}
use Rattle.oplog_entry.specs.image_model.pm_model.Powers.{is_on, Supply}
use Rattle.layout_model.specs.declared.lines.Draft.{Draft}
use Rattle.oplog_tail.specs.declared.appends.Appended.{Appended}
use Rattle.oplog_tail.specs.declared.appends.Appended.TheVariants.{Done, PowerLost}
use Rattle.oplog_tail.specs.declared.appends.Appended.TheVariants as answers
use Rattle.oplog_entry.specs.declared.claims.Mark.TheVariants.{Lost, Written}
use Rattle.oplog_tail.specs.Seats.{found_full, SeatView, with_claim}

-- Done, where the power lasts: the seat has one claim more, the one that the receipt shows, and it is written.
-- Full, where the number is past the last line: the seat keeps the answer, and no device step was taken.
-- PowerLost, where the power does not last: the seat has one claim more, and it is lost.
abbrev pub Answers : ℕ → Draft → SeatView → Supply → SeatView → Supply → Appended → Type 0
Answers capacity d old before new later (Done receipt) =
    (old.full ≡ None) × (receipt.slot < capacity) × (receipt.draft ≡ d) × (new ≡ with_claim old receipt.slot d Written) × (is_on later ≡ true)
Answers capacity d old before new later (answers.Full full) =
    (full.capacity ≡ capacity) × (capacity ≤ full.claimed) × (new ≡ found_full old full) × (later ≡ before)
Answers capacity d old before new later PowerLost =
    (old.full ≡ None) × ((n : ℕ) × (n < capacity) × (new ≡ with_claim old n d Lost)) × (is_on later ≡ false)
