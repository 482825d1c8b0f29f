-- The journal of an image, and the image as its journal makes it. Committed records are those below the commit
-- word. Record r has its target, a line number, in the first word of its first line, and the eight words of the
-- target in its second line. Recovery writes the targets, so that the image with a pending journal stands for the
-- one that recovery leaves.
use Rattle.std.specs.Prelude.{◌≡◌, ℕ, zero, suc, ◌+◌, ◌*◌, ◌/◌, ◌%◌, ◌<◌, ◌≤◌, Bool, true, not, ◌&&◌, ◌||◌, ◌==◌, nat_lt, nat_le, if◌then◌else◌}
use Rattle.pm_model.specs.Words.{Words}
use Rattle.layout_model.specs.Places.{Geometry, commit_word, record_line, is_journaled_line}

-- the words of the journal: the commit word and those of the 128 records
abbrev pub is_journal_word : ℕ → Bool
is_journal_word w = (w == commit_word) || (nat_le 512 w && nat_lt w 2560)

-- the target of record r, and word j of its content
abbrev pub record_target : Words → ℕ → ℕ
record_target image r = image (8 * record_line r)

abbrev pub record_word : Words → ℕ → ℕ → ℕ
record_word image r j = image (8 * (record_line r + 1) + j)

-- how many records are committed; a commit word above 128 commits none
abbrev pub committed : Words → ℕ
committed image = if nat_le (image commit_word) 128 then image commit_word else 0

-- The words after n records, of which record r sets line `target r` to the words `content r`. Of several records
-- of one line the last counts.
unfoldable pub patched : ℕ → (ℕ → ℕ) → (ℕ → ℕ → ℕ) → Words → Words
patched zero target content f w = f w
patched (suc n) target content f w = if target n == w / 8 then content n (w % 8) else patched n target content f w

-- The journaled view of an image: each line is the last of the committed records that target it, or, without one,
-- the line itself. The journal's own words read as 0, since recovery empties it.
abbrev pub journaled : Words → Words
journaled image w =
    if is_journal_word w then 0 else patched (committed image) (record_target image) (record_word image) image w

-- record r is committed and has no journaled target
abbrev pub is_fault : Geometry → Words → ℕ → Bool
is_fault g image r = nat_lt r (committed image) && not (is_journaled_line g (record_target image r))

-- the journal can be recovered: at most 128 records are committed, and each has a journaled target
pub record IsSound (g : Geometry) (image : Words) : Type 0 where
  pub count : image commit_word ≤ 128
  pub targets : (r : ℕ) → r < image commit_word → is_journaled_line g (record_target image r) ≡ true
