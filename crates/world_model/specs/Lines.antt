-- The log lines of a device with lines put back, in the middle of a lap: what claimed lines hold, and the others.
use Rattle.std.specs.Prelude.{◌≡◌, ◌⊎◌, ◌<◌, ℕ, ◌+◌, ◌*◌, true, false, List, [], ◌∷◌, Option, Some, None}
use Rattle.name_laws.specs.pm_model.declared.Cell.{Cell}
use Rattle.name_laws.specs.pm_model.declared.Cell.TheVariants.{Single}
use Rattle.name_laws.specs.pm_model.Cells.{has_two, IsCandidate, is_lent, newest, oldest}
use Rattle.name_laws.specs.pm_model.Words.{line_bytes, Words}
use Rattle.name_laws.specs.layout_model.Places.{log_line}
use Rattle.name_laws.specs.layout_model.declared.lines.Draft.{Draft}
use Rattle.name_laws.specs.layout_model.Entries.{encode_entry, held_seq, is_draft, is_self_valid}
use Rattle.name_laws.specs.layout_model.EntryLaws.{FitsDraft}
use Rattle.name_laws.specs.image_model.Volume.{Volume}
use Rattle.crash_spec.specs.list_laws.Members.{In}
use Rattle.world_model.specs.Jobs.{Job}

-- the line has these words, each alone
abbrev pub HoldsWords : (ℕ → Cell) → Words → ℕ → Type 0
HoldsWords cells words line = (j : ℕ) → j < 8 → cells (8 * line + j) ≡ Single (words (8 * line + j))

-- each word of the line is as it was first, alone or with the word of an entry as the newer candidate
pub record IsPutOver (cells : ℕ → Cell) (first entry : Words) (line : ℕ) : Type 0 where
  pub home : (j : ℕ) → j < 8 → is_lent (cells (8 * line + j)) ≡ false
  pub older : (j : ℕ) → j < 8 → oldest (cells (8 * line + j)) ≡ first (8 * line + j)
  pub newer : (j : ℕ) → j < 8 → has_two (cells (8 * line + j)) ≡ true → newest (cells (8 * line + j)) ≡ entry (8 * line + j)

-- these words spell the entry in the slot
pub record Spells (v : Volume) (slot : ℕ) (d : Draft) (words : Words) : Type 0 where
  pub draft : is_draft d ≡ true
  pub fits : FitsDraft d
  pub spelled : line_bytes words (log_line v.geometry slot) ≡ encode_entry d (v.base + slot)

-- a claimed line holds its entry, whole and single
pub record IsClaimedLine (v : Volume) (cells : ℕ → Cell) (slot : ℕ) (d : Draft) : Type 0 where
  pub below : slot < v.geometry.log
  pub entry : Words
  pub spells : Spells v slot d entry
  pub holds : HoldsWords cells entry (log_line v.geometry slot)

-- the line that a filled job claimed holds its entry, or has it put over what was there first
pub record IsJobLine (v : Volume) (cells : ℕ → Cell) (first : Words) (slot : ℕ) (d : Draft) : Type 0 where
  pub below : slot < v.geometry.log
  pub entry : Words
  pub spells : Spells v slot d entry
  pub holds : HoldsWords cells entry (log_line v.geometry slot) ⊎ IsPutOver cells first entry (log_line v.geometry slot)

-- `slots` says of each job which line it claimed, if it is filled and claimed one
abbrev pub AreJobLines : Volume → (ℕ → Cell) → Words → List Job → List (Option ℕ) → Type 0
AreJobLines v cells first [] slots = Unit {0}
AreJobLines v cells first (j ∷ jobs) [] = Unit {0}
AreJobLines v cells first (j ∷ jobs) (None ∷ slots) = AreJobLines v cells first jobs slots
AreJobLines v cells first (j ∷ jobs) (Some slot ∷ slots) = IsJobLine v cells first slot j.draft × AreJobLines v cells first jobs slots

-- a job claimed the line
abbrev pub IsTaken : List Job → List (Option ℕ) → ℕ → Type 0
IsTaken [] slots n = ⊥
IsTaken (j ∷ jobs) [] n = ⊥
IsTaken (j ∷ jobs) (None ∷ slots) n = IsTaken jobs slots n
IsTaken (j ∷ jobs) (Some slot ∷ slots) n = (slot ≡ n) ⊎ IsTaken jobs slots n

-- The log lines: those of claims hold them, those of filled jobs hold or may hold their entries, and all others have the
-- words that they had when the lap began. Then a line that was an entry was one of an earlier lap.
pub record AreLinesOut (v : Volume) (cells : ℕ → Cell) (first : Words) (claims : List (ℕ × Draft)) (jobs : List Job) (slots : List (Option ℕ)) : Type 0 where
  pub claimed : (slot : ℕ) (d : Draft) → In (slot, d) claims → IsClaimedLine v cells slot d
  pub out : AreJobLines v cells first jobs slots
  pub others : (slot : ℕ) → slot < v.geometry.log → ((d : Draft) → ¬ In (slot, d) claims) → ¬ IsTaken jobs slots slot → HoldsWords cells first (log_line v.geometry slot)
  pub old : (slot : ℕ) → slot < v.geometry.log → is_self_valid (line_bytes first (log_line v.geometry slot)) ≡ true → held_seq (line_bytes first (log_line v.geometry slot)) < v.base

-- each word of a log line is a candidate of its cell
abbrev pub HasLogWords : Volume → (ℕ → Cell) → Words → Type 0
HasLogWords v cells image = (slot j : ℕ) → slot < v.geometry.log → j < 8 → IsCandidate (cells (8 * log_line v.geometry slot + j)) (image (8 * log_line v.geometry slot + j))
