use Rattle.std.proofs.Common.{◌≡◌, ◌*◌, ◌≤◌, ◌<◌, ℕ, false, sym, ◌∙◌, ap, arith}
use Rattle.std.proofs.lemmas.Grind.{common_steps}
use Rattle.std.proofs.lemmas.List.FromFn.{length-map-range_with_len}
use Rattle.block_pool.specs.Bits.{is_set}
use Rattle.block_pool.proofs.Places.{none_set}
use Rattle.block_pool.proofs.Marks.{none_counted, seen_none}
use Rattle.block_pool.proofs.pool.Pool.none.Goals as goal

pub invariant_of-result : goal.invariant_of-result
invariant_of-result c =
    let room : c.args.count ≤ 64 * c.div_ceil.result = grind (arith, common_steps) in
    let zeros = c.in_ok-words.ensures.items_if_clones_equal (λ y same. same) in
    let clear : (p : ℕ) → p < c.args.count → is_set c.in_ok-words.words.items p ≡ false = λ p lt. ap (λ words. is_set words p) zeros ∙ none_set c.div_ceil.result p (omega arith) in
    record {
      words = grind (arith, common_steps);
      fits = c.requires;
      counted = sym (none_counted c.args.count c.in_ok-words.words.items clear);
    }

pub returns-clause-count : goal.returns-clause-count
returns-clause-count c = length-map-range_with_len _ 0 c.args.count

pub returns-clause-none : goal.returns-clause-none
returns-clause-none c =
    let room : c.args.count ≤ 64 * c.div_ceil.result = grind (arith, common_steps) in
    let zeros = c.in_ok-words.ensures.items_if_clones_equal (λ y same. same) in
    seen_none c.args.first c.args.count c.in_ok-words.words.items (λ p lt. ap (λ words. is_set words p) zeros ∙ none_set c.div_ceil.result p (omega arith))
