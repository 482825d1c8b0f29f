use Rattle.std.proofs.Common.{◌≡◌, refl, ◌∙◌, arith}
use Rattle.std.specs.Int.{to_le_bytes, w64}
use Rattle.pm_lines.proofs.ImageBytes.{word_at-put_same, word_at-put_other}
use Rattle.pm_lines.proofs.images.put_word.Goals as goal

pub returns-clause-word : goal.returns-clause-word
returns-clause-word c =
    let written : c.copy_from_slice.new.self ≡ to_le_bytes w64 c.args.word = c.copy_from_slice.ensures.after ∙ c.to_le_bytes.ensures in
    word_at-put_same _ _ c.args.index _ c.args.word written c.requires (omega arith)

pub returns-clause-others : goal.returns-clause-others
returns-clause-others c i other =
    let written : c.copy_from_slice.new.self ≡ to_le_bytes w64 c.args.word = c.copy_from_slice.ensures.after ∙ c.to_le_bytes.ensures in
    word_at-put_other _ _ c.args.index _ i (rw written refl) (omega arith) c.requires other
