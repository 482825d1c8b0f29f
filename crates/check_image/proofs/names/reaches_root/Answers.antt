use Rattle.std.proofs.Common.{◌≡◌, ◌+◌, ◌-◌, suc, sym, ap, ◌∙◌, arith}
use Rattle.k_reading.specs.layout_model.Names.{ends_at_root}
use Rattle.check_image.proofs.NameFacts.{ends-here, ends-up, ends-stops, ends-last}
use Rattle.check_image.proofs.names.reaches_root.Goals as goal

pub returns-then-ino-eq0 : goal.returns-then-ino-eq0
returns-then-ino-eq0 c rows above = sym (c.loop-step.invariant rows above ∙ ends-here rows (15 - c.loop-step._step) c.loop-step.ino c.if-ino-eq0.true)

pub returns-in-None : goal.returns-in-None
returns-in-None c rows above =
    let left : 15 - c.loop-step._step ≡ suc (15 - (c.loop-step._step + 1)) = omega arith in
    sym (c.loop-step.invariant rows above ∙ ap (λ n. ends_at_root rows n c.loop-step.ino) left
    ∙ ends-stops rows (15 - (c.loop-step._step + 1)) c.loop-step.ino c.if-ino-eq0.false (sym (above c.loop-step.ino) ∙ sym c.above_of.ensures ∙ c.in-None.is))

pub loop-step-preserved : goal.loop-step-preserved
loop-step-preserved c rows above =
    let left : 15 - c.loop-step._step ≡ suc (15 - (c.loop-step._step + 1)) = omega arith in
    c.loop-step.invariant rows above ∙ ap (λ n. ends_at_root rows n c.loop-step.ino) left
    ∙ ends-up rows (15 - (c.loop-step._step + 1)) c.loop-step.ino c.in-Some.parent c.if-ino-eq0.false (sym (above c.loop-step.ino) ∙ sym c.above_of.ensures ∙ c.in-Some.is)

pub returns : goal.returns
returns c rows above =
    let left : 15 - c.loop-step._step ≡ 0 = omega arith in
    sym (c.loop-step.invariant rows above ∙ ap (λ n. ends_at_root rows n c.loop-step.ino) left ∙ ends-last rows c.loop-step.ino)
