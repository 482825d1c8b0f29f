use Rattle.std.proofs.Common.{ℕ, ◌%◌, cond, ap, sym, ◌∙◌}
use Rattle.std.specs.Prelude.{◌==◌}
use Rattle.rand_xoshiro.specs.SplitMix64.{mix_u64}
use Rattle.pm_model.specs.Cells.{newest, oldest}
use Rattle.pm_lines.proofs.ImageBytes.{draw-odd, after-more}
use Rattle.pm_lines.proofs.chosen.put_drawn.Goals as goal

pub returns-clause-word : goal.returns-clause-word
returns-clause-word c k seed at =
    c.put_word.ensures.word ∙ c.candidate.ensures ∙ ap (λ b. cond b (newest c.args.cell) (oldest c.args.cell))
    (c.is_odd.ensures.draw ∙ ap (λ (s : ℕ). (mix_u64 s).0 % 2 == 1) at ∙ sym (draw-odd seed k))

pub returns-clause-after : goal.returns-clause-after
returns-clause-after c k seed at = c.is_odd.ensures.after ∙ ap (λ (s : ℕ). (mix_u64 s).1) at ∙ sym (after-more seed k)
