-- What a landing leaves of images.
use Rattle.std.specs.Prelude.{◌≡◌, ℕ, ◌/◌, List, false}
use Rattle.k_inodes.specs.pm_model.Words.{Words}
use Rattle.k_inodes.specs.layout_model.Journal.{is_journal_word}
use Rattle.volume_change_laws.specs.k_split_model.image_model.Placed.{IsOutside}
use Rattle.k_journal.specs.Batch.{IsNew}
use Rattle.k_journal.specs.declared.batches.Record.{Record}

-- the word is none of the journal's, of the plan's lines and of the new blocks
pub record IsElsewhere (b : List Record) (blocks : List ℕ) (i : ℕ) : Type 0 where
  pub journal : is_journal_word i ≡ false
  pub lines : IsNew b (i / 8)
  pub outside : IsOutside blocks i

-- two images that differ at most in words of the journal, of the plan's lines and of the new blocks
abbrev pub SameElsewhere : List Record → List ℕ → Words → Words → Type 0
SameElsewhere b blocks before image = (i : ℕ) → IsElsewhere b blocks i → image i ≡ before i
