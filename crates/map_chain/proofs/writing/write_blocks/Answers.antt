use Rattle.std.proofs.Common.{◌≡◌, ◌≢◌, ◌+◌, ◌%◌, sym, ◌∙◌, ap, arith, ⊎_elim, rules}
use Rattle.std.proofs.lemmas.Bool.{cases_eq}
use Rattle.std.proofs.lemmas.Grind.{common_steps}
use Rattle.volume_laws.specs.image_model.Chains.{chain_word}
use Rattle.volume_laws.specs.image_model.Placed.{block_at, part_at}
use Rattle.pm_lines.specs.pm_model.declared.Cell.TheVariants.{Single}
use Rattle.pm_lines.specs.pm_model.Cells.{fenced}
use Rattle.map_chain.proofs.writing.write_blocks.Goals as goal

pub loop-k-preserved : goal.loop-k-preserved
loop-k-preserved c =
    let k = c.loop-k.k in
    let blocks = c.args.blocks.now in
    let extents = c.args.extents.now in
    record {
      size = c.write_block.ensures.size ∙ c.loop-k.invariant.size;
      steps = grind (arith, common_steps);
      lent = λ i. c.write_block.ensures.lent i ∙ c.loop-k.invariant.lent i;
      others = λ i none. c.write_block.ensures.others i (λ e. none k (omega arith) (sym e)) ∙ c.loop-k.invariant.others i (λ m h. none m (omega arith));
      done = λ on m i below at. ⊎_elim
          (λ (here : m ≡ k).
          c.write_block.ensures.done on i (at ∙ ap (block_at blocks) here)
          ∙ ap Single (ap (λ next. chain_word next c.part_of-part.result.now (i % 512)) c.next_in.ensures
          ∙ ap (λ part. chain_word (block_at blocks (k + 1)) part (i % 512)) c.part_of-part.ensures.part
          ∙ ap (λ n. chain_word (block_at blocks (n + 1)) (part_at extents n) (i % 512)) (sym here)))
          (λ (ne : m ≢ k).
          ap fenced (c.write_block.ensures.others i (λ e. c.requires.distinct m k (omega arith) (omega arith) (sym at ∙ e)))
          ∙ c.loop-k.invariant.done (c.write_block.ensures.steps.on_before on) m i (omega arith) at)
          (cases_eq m k);
    }

pub returns-clause-others : goal.returns-clause-others
returns-clause-others c = search rules

pub returns-clause-ended : goal.returns-clause-ended
returns-clause-ended c = search rules

pub returns-clause-done : goal.returns-clause-done
returns-clause-done c = search rules
