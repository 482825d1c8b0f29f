use Rattle.std.proofs.Common.{◌≡◌, ◌+◌, ◌*◌, ◌++◌, replicate, ap, ◌∙◌, arith}
use Rattle.std.proofs.Math.Path.{fun_ext}
use Rattle.std.proofs.lemmas.List.{replicate-append-replicate}
use Rattle.k_inodes.specs.image_layout.pm_model.Words.{word_at}
use Rattle.k_reading.proofs.LineWords.{words-zeros}
use Rattle.k_reading.proofs.fresh.zeros.Goals as goal

pub loop-part-preserved : goal.loop-part-preserved
loop-part-preserved c =
    let n = c.loop-part.part in
    let longer : 256 * n + 256 ≡ 256 * (n + 1) = omega arith in
    c.in_ok-extend_from_slice.ensures.items ∙ ap (λ front. front ++ replicate 256 0) c.loop-part.invariant
    ∙ replicate-append-replicate (256 * n) 256 0 ∙ ap (λ m. replicate m 0) longer

pub returns-clause-words : goal.returns-clause-words
returns-clause-words c =
    fun_ext (λ i. ap (λ bytes. word_at bytes i) c.loop-part.invariant ∙ words-zeros _ i)
