use Rattle.std.proofs.Common.{◌≡◌, ◌∙◌, ◌+◌, ◌-◌, ◌*◌, ◌%◌, List, ℕ, length, subst}
use Rattle.layout_model.specs.pm_model.Images.{words_of}
use Rattle.live_model.specs.data_route.Reads.{read_len}
use Rattle.live_model.specs.file_reads.Reads.{bytes_in}
use Rattle.live_model.specs.write_jobs.Contents.{framed_bytes, SpellBytes}
use Rattle.write_plan.proofs.Beside.{framed_in}
use Rattle.write_plan.proofs.words.words.words_of_write.Goals as goal

pub returns-in_err-back-clause-others : goal.returns-in_err-back-clause-others
returns-in_err-back-clause-others c other block apart = c.in_err-back.ensures.others other block apart ∙ c.in_ok-front.ensures.others other block apart

pub returns-in_err-new-clause-others : goal.returns-in_err-new-clause-others
returns-in_err-new-clause-others c other block apart = c.in_ok-back.ensures.others other block apart ∙ c.in_ok-front.ensures.others other block apart

pub returns-clause-words : goal.returns-clause-words
returns-clause-words c =
    let start : ℕ = c.args.target.start in
    let len : ℕ = length c.args.new.now in
    subst (λ (bytes : List ℕ). SpellBytes c.of.result bytes)
    ((λ i. framed_bytes c.in_ok-front.front.items (start % 4096) (c.in_ok-new.ensures.cases i) c.in_ok-back.back.items c.args.count) ∙ framed_in c.args.k.now c.args.files.now c.args.target.ino start c.args.count c.args.new.now c.in_ok-front.front.items c.in_ok-back.back.items c.requires.fits
    (c.in_ok-front.ensures.bytes
    ∙ (λ i. bytes_in c.args.k.now.volume (words_of c.args.k.now.cells) (c.overlay-overlay.ensures i) c.args.target.ino (start - start % 4096) (read_len (c.size-size.ensures.size i) (start - start % 4096) (start % 4096))))
    (c.in_ok-back.ensures.bytes
    ∙ (λ i. bytes_in c.args.k.now.volume (words_of c.args.k.now.cells) (c.overlay-overlay.ensures i) c.args.target.ino (start + c.len-len.ensures i) (read_len (c.size-size.ensures.size i) (start + c.len-len.ensures i) (4096 * c.from.ensures i - start % 4096 - c.len-len.ensures i)))))
    c.of.ensures

pub returns-clause-others : goal.returns-clause-others
returns-clause-others c other block apart = c.in_ok-back.ensures.others other block apart ∙ c.in_ok-front.ensures.others other block apart
