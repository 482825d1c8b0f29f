use Rattle.std.proofs.Common.{◌^◌, ◌<◌, ℕ}
use Rattle.command_line.specs.pm_model.Cells.{cell, newest}
use Rattle.split_top.proofs.device_images.has_image.Given as goal

-- each word so far fits 64 bits
abbrev pub invariant-loop-word : goal.invariant-loop-word
invariant-loop-word l = (i : ℕ) → i < l.word → newest (cell l.pm i) < 2 ^ 64
