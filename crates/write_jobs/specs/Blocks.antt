-- The blocks of a job: out, and put back; and the words that they hold.
use Rattle.std.specs.Prelude.{◌≡◌, ◌≢◌, ◌<◌, ◌+◌, ◌*◌, ◌/◌, ◌%◌, ◌^◌, ℕ, true, false, List, length, slice_index, Some}
use Rattle.pm_lines.specs.pm_model.declared.Cell.{Cell}
use Rattle.pm_lines.specs.pm_model.Cells.{cell, is_lent, unmarked}
use Rattle.pm_lines.specs.pm_model.Parts.{Part}
use Rattle.layout_model.specs.declared.lines.Draft.{Draft}
use Rattle.world_write_laws.specs.image_model.Volume.{Volume}
use Rattle.world_write_laws.specs.world_model.Jobs.{staged_block}
use Rattle.write_jobs.specs.Jobs.{loan_at}

-- The word lies in a block of the entry; and in none of them.
abbrev pub IsBeside : Volume → Draft → ℕ → Type 0
IsBeside v draft i = (k b : ℕ) → k < draft.count → staged_block v draft k ≡ Some b → i / 512 ≢ b

-- THE BLOCKS OF AN ENTRY ARE OUT: each word of them is lent.
abbrev pub AreOut : Volume → Draft → List Cell → Type 0
AreOut v draft d = (k b i : ℕ) → k < draft.count → staged_block v draft k ≡ Some b → i / 512 ≡ b → is_lent (cell d i) ≡ true

-- THEY ARE PUT BACK as these loans, in the order of the entry's blocks, and all else is as before.
pub record ArePutBack (v : Volume) (draft : Draft) (loans : List Part) (d e : List Cell) : Type 0 where
  pub size : length e ≡ length d
  pub words : (k b i : ℕ) → k < draft.count → staged_block v draft k ≡ Some b → i / 512 ≡ b → cell e i ≡ unmarked (cell (loan_at loans k).cells (i % 512))
  pub beside : (i : ℕ) → IsBeside v draft i → cell e i ≡ cell d i

-- THE WORDS SPELL THE FILE in the blocks of the entry: byte i of block k is that of the whole bytes there, and zero behind their
-- end.
abbrev pub SpellWhole : Draft → List ℕ → List ℕ → Type 0
SpellWhole draft words whole =
    (k i : ℕ) → k < draft.count → i < 4096
    → slice_index words (512 * k + i / 8) / 256 ^ (i % 8) % 256 ≡ slice_index whole (4096 * (draft.file_block + k) + i)

-- THE BLOCKS GO OUT: none of their words was lent, all are, and all else is as before.
pub record GoOut (v : Volume) (draft : Draft) (d e : List Cell) : Type 0 where
  pub size : length e ≡ length d
  pub home : (k b i : ℕ) → k < draft.count → staged_block v draft k ≡ Some b → i / 512 ≡ b → is_lent (cell d i) ≡ false
  pub out : AreOut v draft e
  pub beside : (i : ℕ) → IsBeside v draft i → cell e i ≡ cell d i
