use Rattle.std.proofs.Common.{arith, ◌≡◌, ◌<◌, ◌+◌, ◌*◌, ℕ, true, length, sym, ap, subst, ◌∙◌}
use Rattle.std.proofs.lemmas.List.{length-set}
use Rattle.pm_lines.specs.pm_model.declared.Cell.TheVariants.{Single}
use Rattle.pm_lines.specs.pm_model.Cells.{cell, is_single}
use Rattle.pm_lines.specs.pm_model.Parts.{Part}
use Rattle.pm_lines.specs.pm_model.PowerLaws.{Steps-then}
use Rattle.pm_lines.specs.pm_model.Powers.{Steps}
use Rattle.write_jobs.specs.Jobs.{loan_at}
use Rattle.write_jobs.proofs.Filling.{loan_is, set_holds, set_other, set_places}
use Rattle.write_jobs.proofs.jobs.fills.fill_blocks.Goals as goal

pub write_block-requires-clause-single : goal.write_block-requires-clause-single
write_block-requires-clause-single c j below =
    let loans = c.loop-k.loans.items in
    let within : c.loop-k.k < length loans = omega arith in
    let is : c.index_mut.result.now ≡ loan_at c.args.loans.now.items c.loop-k.k =
    loan_is loans c.loop-k.k within c.index_mut.result.now c.index_mut.ensures.value ∙ c.loop-k.invariant.later c.loop-k.k (omega arith)
    in subst (λ (p : Part). is_single (cell p.cells j) ≡ true) (sym is) (c.requires.single c.loop-k.k j (omega arith) below)

pub loop-k-preserved : goal.loop-k-preserved
loop-k-preserved c =
    let loans = c.loop-k.loans.items in
    let k = c.loop-k.k in
    let loan = c.write_block.new.self in
    let within : k < length loans = omega arith in
    let is : c.index_mut.result.now ≡ loan_at loans k = loan_is loans k within c.index_mut.result.now c.index_mut.ensures.value in
    record {
      count = length-set loans k loan ∙ c.loop-k.invariant.count;
      places = set_places loans k within loan (c.write_block.ensures.place ∙ ap (λ (p : Part). p.place) is) ∙ c.loop-k.invariant.places;
      steps =
          let more : 577 * k + 577 ≡ 577 * (k + 1) = omega arith in
          subst (λ n. Steps n c.args.power.now c.write_block.new.power) more (Steps-then (577 * k) 577 c.args.power.now c.loop-k.power c.write_block.new.power c.loop-k.invariant.steps c.write_block.ensures.steps);
      later = λ n past. set_other loans k within loan n (λ same. omega (arith, same, past)) ∙ c.loop-k.invariant.later n (omega (arith, past));
      done = λ on. set_holds loans k within loan c.args.words.now (c.loop-k.invariant.done (c.write_block.ensures.steps.on_before on)) (λ j word. c.write_block.ensures.done on j word ∙ ap (λ (v : ℕ). Single v) (c.block.ensures j word));
    }
