use Rattle.std.proofs.Common.{arith, subst, ◌<◌, ◌*◌, ℕ, List}
use Rattle.std.specs.Prelude.{slice_index}
use Rattle.write_jobs.specs.Contents.{framed, words_in}
use Rattle.write_jobs.proofs.Framed.{framed_small, spell_framed}
use Rattle.write_jobs.proofs.Words.{length-words, words-spell}
use Rattle.write_jobs.proofs.jobs.contents.StagedBytes.of.Goals as goal

AreSmall : List ℕ → Type 0
AreSmall bytes = (n : ℕ) → slice_index bytes n < 256

pub returns : goal.returns
unfolding AreSmall
returns c =
    let front = c.args.front.items in
    let new = c.args.new in
    let back = c.args.back.items in
    let bytes = framed front c.args.at new back in
    let count = 512 * c.args.count in
    let small = framed_small front c.args.at new back
    (subst AreSmall c.deref.ensures.value c.bytes_are_small.ensures)
    (subst AreSmall c.as_slice.ensures c.bytes_are_small-2.ensures)
    (subst AreSmall c.deref-2.ensures.value c.bytes_are_small-3.ensures) in
    spell_framed front c.args.at new back (words_in bytes count) c.args.count (length-words bytes count) (λ k low. words-spell bytes count k small (omega (arith, low)))
