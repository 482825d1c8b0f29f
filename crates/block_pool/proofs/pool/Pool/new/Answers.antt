use Rattle.std.proofs.Common.{◌≡◌, ◌<◌, ◌≤◌, ◌+◌, ◌*◌, ◌&&◌, true, not, ℕ, length, sym, ◌∙◌, ap, subst, arith}
use Rattle.std.proofs.lemmas.List.{with_items_is}
use Rattle.std.proofs.lemmas.Grind.{common_steps}
use Rattle.extent_map.specs.extent_model.Extents.{covers}
use Rattle.block_pool.specs.FreeSets.{IsUnused}
use Rattle.block_pool.specs.Bits.{is_set}
use Rattle.block_pool.proofs.Places.{all_set}
use Rattle.block_pool.proofs.Marks.{seen, seen_unused}
use Rattle.block_pool.proofs.pool.Pool.new.Goals as goal

pub returns : goal.returns
returns c =
    let new = c.clear_extents.new.words in
    let size : length new ≡ c.in_ok-words.words.len = omega (arith, c.clear_extents.auto.words, c.deref_mut.ensures.len) in
    let bits : (p : ℕ) → p < c.args.count → is_set new p ≡ not (covers c.args.used.now (c.args.first + p)) = λ p lt.
    let ones = c.deref_mut.ensures.value ∙ c.in_ok-words.ensures.items_if_clones_equal (λ y same. same) in
    let room : c.args.count ≤ 64 * c.div_ceil.result = grind (arith, common_steps) in
    let set : is_set c.deref_mut.result.now p ≡ true = ap (λ words. is_set words p) ones ∙ all_set c.div_ceil.result p (omega arith) in
    c.clear_extents.ensures p ∙ ap (λ bit. bit && not (covers c.args.used.now (c.args.first + p))) set in
    subst (λ words. IsUnused c.args.first c.args.count c.args.used.now (seen c.args.first c.args.count words)) (sym (with_items_is c.in_ok-words.words new size)) (seen_unused c.args.first c.args.count c.args.used.now new bits)
