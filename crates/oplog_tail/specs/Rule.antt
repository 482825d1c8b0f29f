-- The rule of the log, which holds between any two steps of its threads.
-- Word 0 is the tail, the number that the next claim gets. Word 1 counts the entries that were written. Slot n has line n,
-- with its entry once that is put in, or nothing while a seat has the line.
use Rattle.std.specs.Prelude.{◌≡◌, ◌≤◌, ◌<◌, ℕ, ◌+◌, ◌-◌, Contains, List, [], ◌∷◌, length, slice_index_or, sum_by, Option, Some, None}
use mathlib.Core.Option.{some, none}
use mathlib.Core.Option as maybe
use lib.ListN.{get_elem?}
use Rattle.oplog_entry.specs.image_model.pm_model.Parts.{Part}
use Rattle.atomic_table.specs.Table.{State}
use Rattle.oplog_tail.specs.declared.views.Claim.{Claim}
use Rattle.oplog_tail.specs.declared.views.Knows.{Knows}
use Rattle.oplog_tail.specs.declared.views.Opened.{Opened}
use Rattle.oplog_tail.specs.declared.views.Slot.{Slot}
use Rattle.oplog_tail.specs.declared.views.Slot.TheVariants.{Filled, Fresh}
use Rattle.oplog_tail.specs.declared.views.Start.{Start}
use Rattle.oplog_entry.specs.EntryLines.{Holds, IsSingle}
use Rattle.oplog_entry.specs.LogLines.{line_at}
use Rattle.oplog_tail.specs.Views.{claims_of, fulls_of, newcomer, parts_of, times_in, written_of}
use Rattle.list_laws.specs.Numbers.{once_below}

-- The line of a claim is at home, with the claim's entry, and holds what the claim's mark says.
pub record IsKept (base : ℕ) (start : List Part) (homes : List (maybe.Option Slot)) (c : Claim) : Type 0 where
  pub line : Part
  pub home : get_elem? homes c.number ≡ some (some (Filled line c.entry))
  pub place : line.place ≡ (line_at start c.number).place
  pub holds : Holds c.mark c.entry (base + c.number) (line_at start c.number).cells line.cells

-- the line of a claim that is under way is out, and is known as it was at first
abbrev pub IsHeld : List Part → List (maybe.Option Slot) → Option Opened → Type 0
IsHeld start homes None = Unit {0}
IsHeld start homes (Some o) = (o.number < length start) × (get_elem? homes o.number ≡ some none) × (o.line ≡ line_at start o.number)

-- What holds of the view of one seat. A seat whose parts were given away claimed nothing.
pub record IsView (base : ℕ) (start : List Part) (homes : List (maybe.Option Slot)) (v : Knows) : Type 0 where
  pub few : length v.full ≤ v.parts
  pub spent : v.parts ≡ 0 → claims_of v ≡ 0
  pub past : (n : ℕ) → Contains v.full n → length start ≤ n
  pub held : IsHeld start homes v.held
  pub claims : (c : Claim) → Contains v.claims c → IsKept base start homes c

-- The tail is the number of all claims, those included that were found past the last line, and each number below it was
-- claimed once, by one seat. A line that nobody claimed is at home as it was at first.
pub record Rule (seats base : ℕ) (start : List Part) (tail marks : ℕ) (homes : List (maybe.Option Slot)) (views : List Knows) : Type 0 where
  pub size : length homes ≡ length start
  pub small : length start ≤ 4096
  pub seats_few : seats ≤ 9
  pub single : (n : ℕ) → n < length start → IsSingle (line_at start n).cells
  pub parts : sum_by parts_of views ≡ seats
  pub claims : sum_by claims_of views ≡ tail
  pub once : (x : ℕ) → sum_by (times_in x) views ≡ once_below x tail
  pub fulls : sum_by fulls_of views ≡ tail - length start
  pub written : sum_by written_of views ≡ marks
  pub each : (j : ℕ) (v : Knows) → get_elem? views j ≡ some v → IsView base start homes v
  pub fresh : (n : ℕ) → tail ≤ n → n < length start → get_elem? homes n ≡ some (some (Fresh (line_at start n)))

-- the same of a table of two words, for a log that was opened so
pub record Kept (key : Start) (s : State Slot Knows) : Type 0 where
  pub tail : ℕ
  pub marks : ℕ
  pub words : s.words ≡ tail ∷ marks ∷ []
  pub rule : Rule key.seats key.base key.lines.value.items tail marks s.homes s.views

-- the view of the first seat
abbrev pub first_view : Start → Knows
first_view key = newcomer key.seats
