use Rattle.std.proofs.Common.{arith, refl, ap, ◌∙◌}
use Rattle.k_inodes.specs.image_layout.pm_model.Words.{word_at, with_line}
use Rattle.k_reading.proofs.LineWords.{words-put}
use Rattle.k_reading.proofs.fresh.put_line.Goals as goal

pub returns : goal.returns
returns c =
    words-put c.args.line _ _ c.args.bytes.now c.copy_from_slice.new.self refl (omega arith) c.requires (omega (arith, c.copy_from_slice.ensures.len))
    ∙ ap (λ ys. with_line c.args.line ys (word_at c.args.bytes.now)) c.copy_from_slice.ensures.after
