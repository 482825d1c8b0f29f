-- The lines of a log as they come home once the power went.
use Rattle.std.specs.Prelude.{◌≡◌, ◌⊎◌, ◌<◌, ◌+◌, ◌*◌, ℕ, List, length}
use Rattle.oplog_entry.specs.pm_model.declared.Cell.{Cell}
use Rattle.oplog_entry.specs.pm_model.Parts.{Part}
use Rattle.oplog_entry.specs.pm_model.Words.{Words}
use Rattle.oplog_entry.specs.layout_model.declared.lines.Draft.{Draft}
use Rattle.oplog_entry.specs.layout_model.Places.{Geometry, log_line}
use Rattle.oplog_entry.specs.image_model.LogRule.{HoldsEntry, IsAsAtFirst}
use Rattle.in_place.specs.k_split_laws.block_io.Lines.{AreFrom, line_at}
use Rattle.in_place.specs.k_split_laws.list_laws.Members.{In}
use Rattle.oplog_entry.specs.EntryLines.{entry_words, IsPutOver}
use Rattle.in_place.specs.live_model.write_jobs.Jobs.{FilledView}

-- the words that line n of the log had when the lap began
abbrev pub first_at : Geometry → Words → ℕ → Words
first_at g first n j = first (8 * log_line g n + j)

-- they are the log's lines, by rising slot
pub record AreLinesOf (g : Geometry) (lines : List Part) : Type 0 where
  pub count : length lines ≡ g.log
  pub places : AreFrom (log_line g 0) lines

-- the line that a filled job claimed: it is the entry, whole, or has it put over its first words
abbrev pub IsJobLine : List Cell → Words → Draft → ℕ → Type 0
IsJobLine line first d seq = HoldsEntry line d seq ⊎ IsPutOver line first (entry_words d seq)

-- THE LINES OF A CRASH, in the lap that begins with this number: each claim stands whole in its line; `taken` has the slots that filled
-- jobs claimed, at most one each, with their entries, which stand there as far as they came; and all other lines are as at the
-- beginning of the lap. With no filled job they hold the claims.
pub record AreCrashLines (g : Geometry) (base : ℕ) (first : Words) (claims : List (ℕ × Draft)) (filled : List FilledView) (taken : List (ℕ × Draft)) (lines : List Part) : Type 0 where
  pub are : AreLinesOf g lines
  pub claimed : (n : ℕ) (d : Draft) → In (n, d) claims → (n < length lines) × HoldsEntry (line_at lines n).cells d (base + n)
  pub of_jobs : (n : ℕ) (d : Draft) → In (n, d) taken → (job : FilledView) × In job filled × (job.draft ≡ d)
  pub one_each : (m n : ℕ) (d : Draft) → In (m, d) taken → In (n, d) taken → m ≡ n
  pub entries : (n : ℕ) (d : Draft) → In (n, d) taken → (n < length lines) × IsJobLine (line_at lines n).cells (first_at g first n) d (base + n)
  pub others : (n : ℕ) → n < length lines → ((d : Draft) → ¬ In (n, d) claims) → ((d : Draft) → ¬ In (n, d) taken) → IsAsAtFirst (line_at lines n).cells (first_at g first n)
