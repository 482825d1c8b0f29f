use Rattle.std.proofs.Common.{◌+◌, ◌*◌, ◌∙◌, arith, ap, inl, inr}
use Rattle.std.proofs.lemmas.Bool.{cases_eq}
use Rattle.std.proofs.lemmas.List.{get_or-set_other, get_or-set_same, length-set}
use Rattle.std.specs.Prelude.{slice_index, slice_set}
use Rattle.pm_lines.specs.pm_model.Cells.{cell, newest}
use Rattle.pm_lines.specs.pm_model.Images.{words_of}
use Rattle.block_io.proofs.Bytes.{read_byte}
use Rattle.block_io.proofs.block_bytes.blocks.read_block.Goals as goal

pub loop-j-preserved : goal.loop-j-preserved
loop-j-preserved c =
    let at = 8 * c.loop-word.word + c.loop-j.j in
    let x = slice_index c.to_le_bytes-eight.result c.loop-j.j in
    record {
      size = length-set c.loop-j.out at x ∙ c.loop-j.invariant.size;
      read = λ k below. elim (cases_eq k at) [
        | inl here ↦
            ap (slice_index (slice_set c.loop-j.out at x)) here
            ∙ get_or-set_same c.loop-j.out at x 0 (omega (arith, c.loop-j.invariant.size))
            ∙ ap (λ bs. slice_index bs c.loop-j.j) c.to_le_bytes-eight.ensures
            ∙ read_byte (words_of c.args.pm.now) c.args.block c.loop-word.word c.loop-j.j k c.read_word.result (omega arith) here
            (c.read_word.ensures ∙ ap (λ n. newest (cell c.args.pm.now (512 * n + c.loop-word.word))) c.from.ensures)
        | inr other ↦ get_or-set_other c.loop-j.out at k x 0 other ∙ c.loop-j.invariant.read k (omega (arith, below, other))
      ];
    }
