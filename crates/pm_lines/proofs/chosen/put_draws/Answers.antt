use Rattle.std.proofs.Common.{◌≡◌, ◌≢◌, ◌<◌, ◌≤◌, ℕ, true, cond, sym, ap, ◌∙◌, arith, ⊎_elim}
use Rattle.std.proofs.lemmas.Bool.{cases_lt, cases_eq}
use Rattle.pm_model.specs.declared.Cell.TheVariants.{Single}
use Rattle.pm_model.specs.Cells.{cell, is_single, newest, oldest}
use Rattle.pm_model.specs.Words.{word_at}
use Rattle.pm_lines.specs.Choices.{by_draws, state_after, is_odd_draw, twos_before}
use Rattle.pm_lines.proofs.ImageBytes.{after-none, either-single, twos-same, twos-next}
use Rattle.pm_lines.proofs.chosen.put_draws.Goals as goal

pub loop-word-init : goal.loop-word-init
loop-word-init c = record {
  size = c.requires.size;
  within = omega arith;
  chosen = λ i below. absurd (omega arith);
  single = λ i le single. c.requires.single i single;
  draws = c.seed_from_u64-draws.ensures.same ∙ sym (after-none c.args.seed);
}

pub loop-word-preserved : goal.loop-word-preserved
loop-word-preserved c =
    let d = c.args.words.now in
    let from = c.loop-word.from in
    let w = c.in-Some.word in
    let next = c.in-Some.ensures in
    let twos : twos_before d w ≡ twos_before d from = twos-same d from w next.after (omega (arith, next.below)) next.none in
    let at : c.loop-word.draws ≡ state_after c.args.seed (twos_before d w) = c.loop-word.invariant.draws ∙ ap (state_after c.args.seed) (sym twos) in
    let single : (i : ℕ) → from ≤ i → is_single (cell d i) ≡ true → word_at c.loop-word.bytes i ≡ by_draws c.args.seed d i = λ i after one.
    either-single (is_odd_draw c.args.seed (twos_before d i)) (cell d i) (word_at c.loop-word.bytes i) (c.loop-word.invariant.single i after one) in
    let before : (i : ℕ) → i < w → word_at c.loop-word.bytes i ≡ by_draws c.args.seed d i = λ i below. ⊎_elim
    (λ (h : i < from). c.loop-word.invariant.chosen i h)
    (λ (h : from ≤ i). single i h (next.none i h below))
    (cases_lt i from) in
    let written : word_at c.put_drawn.new.bytes w ≡ by_draws c.args.seed d w =
    c.put_drawn.ensures.word (twos_before d w) c.args.seed at ∙ ap (λ x. cond (is_odd_draw c.args.seed (twos_before d w)) (newest x) (oldest x)) c.cell_of.ensures.cell in
    record {
      size = omega (arith, c.loop-word.invariant.size);
      within = omega (arith, next.below);
      chosen = λ i below. ⊎_elim
          (λ (same : i ≡ w). rw same written)
          (λ (other : i ≢ w). c.put_drawn.ensures.others i other ∙ before i (omega arith))
          (cases_eq i w);
      single = λ i after one. let other : i ≢ w = omega arith in c.loop-word.invariant.single i (omega (arith, next.after)) one ∙ ap Single (sym (c.put_drawn.ensures.others i other));
      draws = c.put_drawn.ensures.after (twos_before d w) c.args.seed at ∙ ap (state_after c.args.seed) (sym (twos-next d w next.below next.two));
    }
