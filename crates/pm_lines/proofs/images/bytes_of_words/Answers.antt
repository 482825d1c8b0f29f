use Rattle.std.proofs.Common.{◌≡◌, ◌+◌, ◌*◌, ◌<◌, ◌≤◌, ℕ, List, get_or, arith, sym, ap, ◌∙◌, ⊎_elim}
use Rattle.std.proofs.lemmas.Bool.{cases_lt}
use Rattle.std.proofs.lemmas.Grind.{common_steps}
use Rattle.std.proofs.lemmas.List.{get_or_past}
use Rattle.pm_model.specs.Bytes.{word_at-past}
use Rattle.pm_model.specs.Words.{word_at}
use Rattle.pm_lines.proofs.ImageBytes.{words-more, word_at-flat}
use Rattle.pm_lines.proofs.images.bytes_of_words.Goals as goal

pub loop-run-preserved : goal.loop-run-preserved
loop-run-preserved c =
    let first = 32 * c.loop-run.run in
    let run : (k : ℕ) → k < 32 → word_at c.as_flattened.result.now k ≡ get_or c.args.words.now (first + k) 0 = λ k h.
    ap (λ (xs : List ℕ). word_at xs k) c.as_flattened.ensures.value
    ∙ word_at-flat _ (λ j. get_or c.args.words.now (first + j) 0) (λ j below. c.bytes_of_32.ensures j (omega arith)) (λ j. omega (arith, c.type_inv.words (first + j))) k (omega arith) in
    record {
      size = grind (arith, common_steps);
      words = λ i below. rw c.in_ok-extend_from_slice.ensures.items
          (words-more (λ i. get_or c.args.words.now i 0) c.loop-run.bytes.items _ first 32 c.loop-run.invariant.size run c.loop-run.invariant.words i (omega arith));
    }

pub returns-clause-words : goal.returns-clause-words
returns-clause-words c i = ⊎_elim
    (λ (h : i < 32 * c.loop-run.run). c.loop-run.invariant.words i h)
    (λ (h : 32 * c.loop-run.run ≤ i). word_at-past c.loop-run.bytes.items i (omega arith) ∙ sym (get_or_past c.args.words.now i 0 (omega arith)))
    (cases_lt i (32 * c.loop-run.run))
