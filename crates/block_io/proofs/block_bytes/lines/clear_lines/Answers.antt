use Rattle.std.proofs.Common.{◌≡◌, ◌≢◌, ◌+◌, ◌/◌, ◌<◌, ◌≤◌, ◌∙◌, ap, arith, inl, inr, subst, sym, ⊎_elim}
use Rattle.std.proofs.lemmas.Bool.{cases_eq}
use Rattle.std.proofs.lemmas.Grind.{common_steps}
use Rattle.pm_lines.specs.pm_model.Cells.{cell, fenced}
use Rattle.block_io.specs.Overwrites.{GoesToZero}
use Rattle.block_io.proofs.block_bytes.lines.clear_lines.Goals as goal

pub loop-line-preserved : goal.loop-line-preserved
loop-line-preserved c =
    let line = c.loop-line.line in
    record {
      size = c.clear_line.ensures.size ∙ c.loop-line.invariant.size;
      steps = grind (arith, common_steps);
      lent = λ i. c.clear_line.ensures.lent i ∙ c.loop-line.invariant.lent i;
      others = λ i off. ⊎_elim
          (λ (before : i / 8 < c.args.first). c.clear_line.ensures.others i (λ at. omega (arith, before, at)) ∙ c.loop-line.invariant.others i (inl before))
          (λ (past : line + 1 ≤ i / 8). c.clear_line.ensures.others i (λ at. omega (arith, past, at)) ∙ c.loop-line.invariant.others i (inr (omega (arith, past))))
          off;
      going = λ i from below. ⊎_elim
          (λ (here : i / 8 ≡ line).
          subst (λ was. GoesToZero was (cell c.clear_line.new.pm i)) (c.loop-line.invariant.others i (inr (omega (arith, here)))) (c.clear_line.ensures.going i here))
          (λ (other : i / 8 ≢ line).
          subst (GoesToZero (cell c.args.pm.now i)) (sym (c.clear_line.ensures.others i other)) (c.loop-line.invariant.going i from (omega (arith, below, other))))
          (cases_eq (i / 8) line);
      done = λ on i from below. ⊎_elim
          (λ (here : i / 8 ≡ line). c.clear_line.ensures.done on i here)
          (λ (other : i / 8 ≢ line). ap fenced (c.clear_line.ensures.others i other) ∙ c.loop-line.invariant.done (c.clear_line.ensures.steps.on_before on) i from (omega (arith, below, other)))
          (cases_eq (i / 8) line);
    }
