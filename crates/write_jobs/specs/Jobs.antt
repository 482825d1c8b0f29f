-- Logged writes that have begun, with the blocks that they were lent, and what filling makes of them.
use Rattle.std.specs.Prelude.{◌≡◌, ◌≤◌, ◌<◌, ◌+◌, ◌*◌, ℕ, Bool, true, false, List, [], length, map, slice_index, slice_index_or}
use Rattle.pm_lines.specs.pm_model.declared.Cell.TheVariants.{Single}
use Rattle.pm_lines.specs.pm_model.Cells.{cell, is_single}
use Rattle.pm_lines.specs.pm_model.Parts.{Part}
use Rattle.pm_lines.specs.pm_model.Powers.{is_on, Supply}
use Rattle.layout_model.specs.declared.lines.Draft.{Draft}
use Rattle.posix_types.specs.declared.call.Who.{Who}

-- What contracts see of a job: its caller and its entry; the blocks that it was lent, in the order of the entry's blocks; the
-- words that they are to hold, block after block; and whether its power went while it was filled.
pub record JobView : Type 0 where
  pub who : Who
  pub draft : Draft
  pub loans : List Part
  pub words : List ℕ
  pub lost : Bool

-- what they see of a filled one
pub record FilledView : Type 0 where
  pub who : Who
  pub draft : Draft
  pub loans : List Part
  pub words : List ℕ

-- loan k; past the last one none
abbrev pub loan_at : List Part → ℕ → Part
loan_at loans k = slice_index_or loans k (record { place = 0; cells = [] })

-- the disk blocks of the loans
abbrev pub blocks_of : List Part → List ℕ
blocks_of loans = map (λ (loan : Part). loan.place) loans

-- There is a loan for each block of the entry, 33 at most, and 512 words for each.
pub record AreOfEntry (d : Draft) (loans : List Part) (words : List ℕ) : Type 0 where
  pub few : d.count ≤ 33
  pub each_loan : length loans ≡ d.count
  pub each_word : length words ≡ 512 * d.count

-- each word of the loans has one candidate
abbrev pub AreSingle : List Part → Type 0
AreSingle loans = (k j : ℕ) → k < length loans → j < 512 → is_single (cell (loan_at loans k).cells j) ≡ true

-- THE LOANS HOLD THE WORDS, each alone: whatever image they leave, it has these words.
abbrev pub HoldWords : List Part → List ℕ → Type 0
HoldWords loans words = (k j : ℕ) → k < length loans → j < 512 → cell (loan_at loans k).cells j ≡ Single (slice_index words (512 * k + j))

-- The job is of the same caller, entry, words and blocks.
pub record IsSameJob (old : JobView) (who : Who) (draft : Draft) (loans : List Part) (words : List ℕ) : Type 0 where
  pub who_is : who ≡ old.who
  pub draft_is : draft ≡ old.draft
  pub blocks_are : blocks_of loans ≡ blocks_of old.loans
  pub words_are : words ≡ old.words

-- A job that was filled: its blocks hold its words, and the power is on.
pub record IsFilled (old : JobView) (power : Supply) (new : FilledView) : Type 0 where
  pub same : IsSameJob old new.who new.draft new.loans new.words
  pub holds : HoldWords new.loans new.words
  pub on : is_on power ≡ true

-- The power went before all of them were durable.
pub record IsCutOff (old : JobView) (power : Supply) (new : JobView) : Type 0 where
  pub same : IsSameJob old new.who new.draft new.loans new.words
  pub off : is_on power ≡ false
