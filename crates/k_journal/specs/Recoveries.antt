-- What a recovery answers and what it leaves.
use Rattle.std.specs.Prelude.{◌≡◌, ◌≢◌, ◌⊎◌, ◌/◌, ◌<◌, ◌≤◌, ℕ, true, false}
use Rattle.image_layout.specs.layout_model.Journal.{journaled, patched, record_target, record_word, is_fault, IsSound}
use Rattle.image_layout.specs.layout_model.Places.{Geometry, commit_word, state_line, inode_line, is_journaled_line}
use Rattle.k_journal.specs.declared.outcomes.Recovered.{Recovered}
use Rattle.k_journal.specs.declared.outcomes.Recovered.TheVariants.{Done, PowerLost, Bad}
use Rattle.pm_lines.specs.pm_model.Words.{Words}

-- Why a journal cannot be recovered, and the number that names it.
pub data IsFirstFault (g : Geometry) (image : Words) (index : ℕ) : Type 0 where
  -- the commit word is above 128
  Count : 128 < image commit_word → index ≡ 128 → IsFirstFault g image index
  -- the committed record, and none before it, has no journaled target
  Target : is_fault g image index ≡ true → ((r : ℕ) → r < index → is_fault g image r ≡ false) → IsFirstFault g image index

abbrev pub IfBad : Recovered → (ℕ → Type 0) → Type 0
IfBad Done P = Unit {0}
IfBad PowerLost P = Unit {0}
IfBad (Bad index) P = P index

abbrev pub IfNotBad : Recovered → Type 0 → Type 0
IfNotBad Done P = P
IfNotBad PowerLost P = P
IfNotBad (Bad index) P = Unit {0}

-- An image after a recovery, or after a part of it, beside the image before.
pub record KeepsView (g : Geometry) (before image : Words) : Type 0 where
  pub view : journaled image ≡ journaled before
  pub others : (w : ℕ) → is_journaled_line g (w / 8) ≡ false → w ≢ commit_word → image w ≡ before w
  pub sound : IsSound g before → IsSound g image

-- the words after the first n records of an image
abbrev pub after_records : ℕ → Words → Words
after_records n image = patched n (record_target image) (record_word image) image

-- none of the first n records has the line
abbrev pub IsNoTarget : ℕ → Words → ℕ → Type 0
IsNoTarget n image line = (r : ℕ) → r < n → record_target image r ≢ line

-- the first n records have targets in a device of so many words
abbrev pub AreWithin : ℕ → Words → ℕ → Type 0
AreWithin n image size = (r : ℕ) → r < n → record_target image r < size / 8

-- the first n records have targets that are no lines of the journal
abbrev pub AreApart : ℕ → Words → Type 0
AreApart n image = (r : ℕ) → r < n → (record_target image r ≡ state_line) ⊎ (inode_line 0 ≤ record_target image r)

-- the first n records have journaled targets
abbrev pub AreJournaled : Geometry → ℕ → Words → Type 0
AreJournaled g n image = (r : ℕ) → r < n → is_journaled_line g (record_target image r) ≡ true

-- What an image of the device tells of how far the recovery of n records came.
pub data IsReplayStage (n : ℕ) (before image : Words) : Type 0 where
  -- the records count, and words that none of them sets are as they were
  Pending : image commit_word ≡ n → ((i : ℕ) → i ≢ commit_word → IsNoTarget n before (i / 8) → image i ≡ before i) → IsReplayStage n before image
  -- no record counts any more, and the lines are set
  Emptied : image commit_word ≡ 0 → ((i : ℕ) → i ≢ commit_word → image i ≡ after_records n before i) → IsReplayStage n before image
