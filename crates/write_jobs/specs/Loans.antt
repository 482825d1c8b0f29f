-- The blocks of an entry as loans.
use Rattle.std.specs.Prelude.{◌≡◌, ◌≢◌, ◌<◌, ◌+◌, ◌*◌, ◌/◌, ◌%◌, ℕ, List, length, Some}
use Rattle.k_split.specs.pm_model.declared.Cell.{Cell}
use Rattle.k_split.specs.pm_model.Cells.{cell, unmarked}
use Rattle.k_split.specs.pm_model.Parts.{Part}
use Rattle.layout_model.specs.declared.lines.Draft.{Draft}
use Rattle.k_split.specs.image_model.Volume.{Volume}
use Rattle.k_split.specs.Loans.{MayLend}
use Rattle.world_write_laws.specs.world_model.Jobs.{staged_block}
use Rattle.write_jobs.specs.Jobs.{loan_at}
use Rattle.write_jobs.specs.Blocks.{ArePutBack, GoOut}

-- Each block of the entry may be lent, and no two places of it have one block.
pub record MayLendAll (v : Volume) (d : List Cell) (draft : Draft) : Type 0 where
  pub may : (n : ℕ) → n < draft.count → (b : ℕ) × MayLend v d draft.staging (draft.staging_block + n) b
  pub apart : (m n b : ℕ) → m < draft.count → n < draft.count → staged_block v draft m ≡ Some b → staged_block v draft n ≡ Some b → m ≡ n

-- The loans are of the first blocks of the entry, in their order, and have the words that these had.
pub record AreLoansOf (v : Volume) (draft : Draft) (d : List Cell) (count : ℕ) (loans : List Part) : Type 0 where
  pub count_is : length loans ≡ count
  pub places : (n : ℕ) → n < count → staged_block v draft n ≡ Some (loan_at loans n).place
  pub words : (n j : ℕ) → n < count → j < 512 → cell (loan_at loans n).cells j ≡ cell d (512 * (loan_at loans n).place + j)

-- THE BLOCKS OF THE ENTRY ARE LENT, each as one of the loans, in their order; nothing else went out.
pub record AreLentBy (v : Volume) (draft : Draft) (d e : List Cell) (loans : List Part) : Type 0 where
  pub out : GoOut v draft d e
  pub loans_are : AreLoansOf v draft d draft.count loans

-- no two loans are of one block
abbrev pub AreApart : List Part → Type 0
AreApart loans = (m n : ℕ) → m < length loans → n < length loans → (loan_at loans m).place ≡ (loan_at loans n).place → m ≡ n

-- THE LOANS CAME BACK: each word of their blocks is the loan's, with its mark ended, and all else is as before.
pub record ComeBack (loans : List Part) (d e : List Cell) : Type 0 where
  pub size : length e ≡ length d
  pub words : (n i : ℕ) → n < length loans → i / 512 ≡ (loan_at loans n).place → cell e i ≡ unmarked (cell (loan_at loans n).cells (i % 512))
  pub beside : (i : ℕ) → ((n : ℕ) → n < length loans → i / 512 ≢ (loan_at loans n).place) → cell e i ≡ cell d i

-- Loans of the blocks of an entry that came back are these blocks, put back.
abbrev pub PutsBack : Type 0
PutsBack =
    (v : Volume) (draft : Draft) (loans : List Part) (d e : List Cell) → length loans ≡ draft.count → ((n : ℕ) → n < draft.count → staged_block v draft n ≡ Some (loan_at loans n).place)
    → ComeBack loans d e → ArePutBack v draft loans d e
