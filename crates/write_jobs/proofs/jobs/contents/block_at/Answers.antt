use Rattle.std.proofs.Common.{arith, below_more, sym, ◌∙◌, ◌+◌, ◌*◌, get_or-set_other, get_or-set_same}
use Rattle.std.proofs.lemmas.List.{length-set}
use Rattle.write_jobs.specs.Contents.{framed}
use Rattle.write_jobs.proofs.Words.{word_is}
use Rattle.write_jobs.proofs.jobs.contents.block_at.Goals as goal

-- one word more
pub loop-j-preserved : goal.loop-j-preserved
loop-j-preserved c =
    let words = c.loop-j.words in
    let n = c.loop-j.j in
    let word = c.word_at.result in
    let bytes = framed c.args.front.now c.args.at c.args.new.now c.args.back.now in
    record {
      long = length-set words n word ∙ c.loop-j.invariant.long;
      each = below_more _ _
          (λ m low. get_or-set_other words n m word 0 (omega (arith, low)) ∙ c.loop-j.invariant.each m low)
          (get_or-set_same words n word 0 (omega (arith, c.loop-j.invariant.long)) ∙ sym (word_is bytes (512 * c.args.block + n) word (omega arith) (λ j low. c.word_at.ensures j low)));
    }
