use Rattle.std.proofs.Common.{◌≡◌, ◌≢◌, ◌/◌, ◌<◌, ◌≤◌, ℕ}
use Rattle.k_journal.specs.layout_model.Places.{commit_word, state_line}
use Rattle.k_journal.specs.pm_model.Images.{words_of}
use Rattle.check_image.proofs.head.are_others_zero.Given as goal

-- the words so far are zero
abbrev pub invariant-loop-word : goal.invariant-loop-word
invariant-loop-word l = (w : ℕ) → 8 ≤ w → w < l.word → w ≢ commit_word → w / 8 ≢ state_line → words_of l.pm w ≡ 0
