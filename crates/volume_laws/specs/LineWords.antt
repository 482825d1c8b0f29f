-- Words of which one line was set: that line reads as the bytes, and every word elsewhere is as it was.
use Rattle.std.specs.Prelude.{◌≡◌, ◌≢◌, ℕ, ◌+◌, ◌*◌, ◌/◌, ◌%◌, ◌<◌, ◌≤◌, ◌==◌, true, false, List}
use Rattle.std.proofs.Common.{arith, subst}
use Rattle.std.proofs.lemmas.Bool.{both_ways, cond-true, cond-false, eq-eqb, ne_eqb}
use Rattle.std.proofs.lemmas.Bool.Decides.{nat_tests}
use Rattle.image_model.specs.pm_model.Bytes.{line_bytes-same, line_bytes-words}
use Rattle.image_model.specs.pm_model.Words.{Words, word_at, line_bytes, with_line}
use Rattle.image_model.specs.layout_model.PlaceLaws.{behind_log-not_journaled}
use Rattle.image_model.specs.layout_model.Places.{Geometry, log_block, is_data_block, is_journaled_line}
use Rattle.image_model.specs.Reading.{AreBytes}

-- a word of the line that was set, and one of another line
pub with_line-in : (line : ℕ) (bytes : List ℕ) (f : Words) (i : ℕ) → i / 8 ≡ line
    → with_line line bytes f i ≡ word_at bytes (i % 8)
with_line-in line bytes f i at = cond-true (i / 8 == line) (word_at bytes (i % 8)) (f i) (eq-eqb (i / 8) line at)

pub with_line-out : (line : ℕ) (bytes : List ℕ) (f : Words) (i : ℕ) → i / 8 ≢ line → with_line line bytes f i ≡ f i
with_line-out line bytes f i at = cond-false (i / 8 == line) (word_at bytes (i % 8)) (f i) (ne_eqb (i / 8) line at)

-- the line that was set reads as the bytes, another line as before
pub line_bytes-set : (line : ℕ) (bytes : List ℕ) (f : Words) → AreBytes bytes
    → line_bytes (with_line line bytes f) line ≡ bytes
line_bytes-set line bytes f are =
    line_bytes-words (with_line line bytes f) line bytes are.size are.small (λ i at. with_line-in line bytes f i at)

pub line_bytes-other : (line other : ℕ) (bytes : List ℕ) (f : Words) → other ≢ line
    → line_bytes (with_line line bytes f) other ≡ line_bytes f other
line_bytes-other line other bytes f apart =
    line_bytes-same (with_line line bytes f) f other (λ i at. with_line-out line bytes f i (λ same. apart (omega arith)))

-- a word of a data block is behind the log lines, and in no journaled line
pub data_word : (g : Geometry) (b j : ℕ) → is_data_block g b ≡ true → j < 512 → 512 * log_block g ≤ 512 * b + j
data_word g b j in_data word = grind (arith, nat_tests)

pub data_word-not_journaled : (g : Geometry) (b j : ℕ) → is_data_block g b ≡ true → j < 512
    → is_journaled_line g ((512 * b + j) / 8) ≡ false
data_word-not_journaled g b j in_data word =
    let behind = data_word g b j in_data word in
    behind_log-not_journaled g ((512 * b + j) / 8) (omega arith)

-- a journaled line has no word of a data block
pub data_word-apart : (g : Geometry) (line b j : ℕ) → is_journaled_line g line ≡ true → is_data_block g b ≡ true
    → j < 512 → (512 * b + j) / 8 ≢ line
data_word-apart g line b j journaled in_data word same =
    both_ways (is_journaled_line g line)
    (subst (λ n. is_journaled_line g n ≡ false) same (data_word-not_journaled g b j in_data word)) journaled
