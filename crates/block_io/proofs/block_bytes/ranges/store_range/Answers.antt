use Rattle.std.proofs.Common.{◌≡◌, ◌≢◌, ◌+◌, ◌-◌, ◌/◌, ◌<◌, ◌≤◌, ◌∙◌, ℕ, length, Some, ap, arith, subst, sym, ⊎_elim}
use Rattle.std.proofs.lemmas.Bool.{cases_eq}
use Rattle.std.proofs.lemmas.Grind.{common_steps}
use Rattle.extent_map.specs.extent_model.Extents.{disk_at}
use Rattle.pm_lines.specs.pm_model.declared.Cell.TheVariants.{Single}
use Rattle.pm_lines.specs.pm_model.Cells.{cell, fenced, is_single, newest}
use Rattle.pm_lines.specs.pm_model.Images.{words_of}
use Rattle.block_io.specs.Overwrites.{word_with}
use Rattle.block_io.specs.Puts.{HoldsEither}
use Rattle.block_io.proofs.Reached.{apart, as_was, block_of, done_same, each_same, in_range, one_candidate, range_of, within}
use Rattle.block_io.proofs.block_bytes.ranges.store_range.Goals as goal

pub store_block-requires-clause-mapped : goal.store_block-requires-clause-mapped
store_block-requires-clause-mapped c = block_of c.args.map.now c.args.first (length c.args.bytes.now) c.args.pm.now c.requires.some c.requires.may c.loop-m.m (in_range c.args.first (length c.args.bytes.now) c.loop-m.m c.requires.some (omega arith) (omega arith))

pub store_block-requires-clause-in_device : goal.store_block-requires-clause-in_device
store_block-requires-clause-in_device c b at =
    omega (arith, within c.args.map.now c.args.first (length c.args.bytes.now) c.args.pm.now c.requires.some c.requires.may c.loop-m.m b (in_range c.args.first (length c.args.bytes.now) c.loop-m.m c.requires.some (omega arith) (omega arith)) at, c.loop-m.invariant.size)

pub store_block-requires-clause-single : goal.store_block-requires-clause-single
store_block-requires-clause-single c i at =
    let es = c.args.map.now in
    let first = c.args.first in
    let count = length c.args.bytes.now in
    let old = c.args.pm.now in
    ap is_single (as_was es first count old c.requires.some c.requires.may c.loop-m.m i c.loop-m.pm (omega arith) (omega arith) at c.loop-m.invariant.others)
    ∙ one_candidate es first count old c.requires.some c.requires.may c.loop-m.m i (in_range first count c.loop-m.m c.requires.some (omega arith) (omega arith)) at

pub loop-m-preserved : goal.loop-m-preserved
loop-m-preserved c =
    let es = c.args.map.now in
    let first = c.args.first in
    let bytes = c.args.bytes.now in
    let old = c.args.pm.now in
    let new = c.store_block.new.pm in
    let m = c.loop-m.m in
    let count = length bytes in
    let low_m : first / 4096 ≤ m = omega arith in
    let high_m : m < (first + count - 1) / 4096 + 1 = omega arith in
    let was : (i : ℕ) → disk_at es m ≡ Some (i / 512) → cell c.loop-m.pm i ≡ cell old i =
    λ i at. as_was es first count old c.requires.some c.requires.may m i c.loop-m.pm low_m high_m at c.loop-m.invariant.others
    in
    let off : (n i : ℕ) → first / 4096 ≤ n → n < m → disk_at es n ≡ Some (i / 512) → disk_at es m ≢ Some (i / 512) =
    λ n i low below at same. apart es first count old c.requires.some c.requires.may m n i (in_range first count m c.requires.some low_m high_m) low below high_m same at
    in
    record {
      size = c.store_block.ensures.size ∙ c.loop-m.invariant.size;
      steps = grind (arith, common_steps);
      lent = λ i. c.store_block.ensures.lent i ∙ c.loop-m.invariant.lent i;
      others = λ i none. c.store_block.ensures.others i (λ e. none m (omega arith) (omega arith) e) ∙ c.loop-m.invariant.others i (λ n low below. none n low (omega (arith, below)));
      each = λ n i low below at. ⊎_elim
          (λ (here : n ≡ m).
          subst (λ k. HoldsEither (newest (cell old i)) (word_with first bytes k (words_of old) i) (cell new i)) (sym here)
          (each_same first bytes m i c.loop-m.pm old (cell new i) (was i (ap (disk_at es) (sym here) ∙ at)) (c.store_block.ensures.each i (ap (disk_at es) (sym here) ∙ at))))
          (λ (ne : n ≢ m).
          subst (HoldsEither (newest (cell old i)) (word_with first bytes n (words_of old) i)) (sym (c.store_block.ensures.others i (off n i low (omega (arith, below, ne)) at)))
          (c.loop-m.invariant.each n i low (omega (arith, below, ne)) at))
          (cases_eq n m);
      done = λ on n i low below at. ⊎_elim
          (λ (here : n ≡ m).
          subst (λ k. fenced (cell new i) ≡ Single (word_with first bytes k (words_of old) i)) (sym here)
          (done_same first bytes m i c.loop-m.pm old (cell new i) (was i (ap (disk_at es) (sym here) ∙ at)) (c.store_block.ensures.done on i (ap (disk_at es) (sym here) ∙ at))))
          (λ (ne : n ≢ m).
          ap fenced (c.store_block.ensures.others i (off n i low (omega (arith, below, ne)) at))
          ∙ c.loop-m.invariant.done (c.store_block.ensures.steps.on_before on) n i low (omega (arith, below, ne)) at)
          (cases_eq n m);
    }

pub returns-clause-each : goal.returns-clause-each
returns-clause-each c m i reached at =
    let range = range_of c.args.first (length c.args.bytes.now) m reached in
    c.loop-m.invariant.each m i range.0 (omega (arith, range.1)) at
