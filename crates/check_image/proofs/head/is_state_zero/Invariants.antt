use Rattle.std.proofs.Common.{◌≡◌, ◌<◌, ℕ}
use Rattle.k_journal.specs.layout_model.Journal.{journaled}
use Rattle.k_journal.specs.layout_model.Places.{base_word}
use Rattle.k_journal.specs.pm_model.Images.{words_of}
use Rattle.check_image.proofs.head.is_state_zero.Given as goal

-- the words so far are zero
abbrev pub invariant-loop-word : goal.invariant-loop-word
invariant-loop-word l = (w : ℕ) → base_word < w → w < l.word → journaled (words_of l.pm) w ≡ 0
