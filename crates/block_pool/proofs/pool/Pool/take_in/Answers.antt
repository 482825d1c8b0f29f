use Rattle.std.proofs.Common.{◌≡◌, ◌+◌, ◌*◌, ◌≤◌, ◌<◌, ℕ, false, length, get_or, sym, ◌∙◌, ap, subst, arith}
use Rattle.std.specs.Prelude.{bit_or}
use Rattle.std.proofs.lemmas.Grind.{common_steps}
use Rattle.std.proofs.lemmas.List.{with_items_is}
use Rattle.extent_map.specs.extent_model.Counts.{count_below-le}
use Rattle.block_pool.specs.FreeSets.{free_count, is_free_at}
use Rattle.block_pool.specs.Bits.{is_set, IsKept}
use Rattle.block_pool.proofs.Marks.{AreBoth, joined_count, joined_counted, joined_free, none_counted, none_in_words, same_range, seen, seen_none}
use Rattle.block_pool.proofs.pool.Pool.take_in.Goals as goal

pub move_bits-requires-clause-other : goal.move_bits-requires-clause-other
move_bits-requires-clause-other c =
    let a = c.self.inside in
    let b = c.other.inside in
    let range = same_range a.first a.count b.first b.count a.words.items b.words.items c.args.self.now c.args.other.now c.self.view_is c.other.view_is c.requires.same in
    let words : a.count ≤ 64 * length c.deref_mut-2.result.now = omega (arith, range.1, c.other.invariant.words, c.deref_mut-2.ensures.len, b.words.ok) in
    grind (arith, common_steps)

pub overflow_add-self : goal.overflow_add-self
overflow_add-self c =
    let a = c.self.inside in
    let b = c.other.inside in
    let new = c.move_bits.new.words in
    let room : a.count ≤ 64 * c.div_ceil-words.result = grind (arith, common_steps) in
    let both : AreBoth c.div_ceil-words.result a.words.items b.words.items new = λ i lt. c.move_bits.ensures.words i lt ∙ ap (λ words. bit_or (get_or words i 0) (get_or c.deref_mut-2.result.now i 0)) c.deref_mut.ensures.value ∙ ap (λ words. bit_or (get_or a.words.items i 0) (get_or words i 0)) c.deref_mut-2.ensures.value in
    let more = joined_counted a.first a.count b.first b.count c.div_ceil-words.result a.words.items b.words.items new c.args.self.now c.args.other.now c.self.view_is c.other.view_is c.requires.same c.requires.apart room both in
    omega (arith, more, c.self.invariant.counted, c.self.invariant.fits, c.other.invariant.counted, count_below-le (is_set new) a.count)

pub invariant_of-self : goal.invariant_of-self
invariant_of-self c =
    let a = c.self.inside in
    let b = c.other.inside in
    let new = c.move_bits.new.words in
    let room : a.count ≤ 64 * c.div_ceil-words.result = grind (arith, common_steps) in
    let both : AreBoth c.div_ceil-words.result a.words.items b.words.items new = λ i lt. c.move_bits.ensures.words i lt ∙ ap (λ words. bit_or (get_or words i 0) (get_or c.deref_mut-2.result.now i 0)) c.deref_mut.ensures.value ∙ ap (λ words. bit_or (get_or a.words.items i 0) (get_or words i 0)) c.deref_mut-2.ensures.value in
    let more = joined_counted a.first a.count b.first b.count c.div_ceil-words.result a.words.items b.words.items new c.args.self.now c.args.other.now c.self.view_is c.other.view_is c.requires.same c.requires.apart room both in
    let size : length new ≡ a.words.len = omega (arith, c.move_bits.auto.words, c.deref_mut.ensures.len) in
    let kept : IsKept a.first a.count (a.free + b.free) new = record {
      words = omega (arith, size, c.self.invariant.words, a.words.ok);
      fits = c.self.invariant.fits;
      counted = omega (arith, more, c.self.invariant.counted, c.other.invariant.counted);
    } in
    subst (IsKept a.first a.count (a.free + b.free)) (sym (with_items_is a.words new size)) kept

pub invariant_of-other : goal.invariant_of-other
invariant_of-other c =
    let a = c.self.inside in
    let b = c.other.inside in
    let new = c.move_bits.new.other in
    let range = same_range a.first a.count b.first b.count a.words.items b.words.items c.args.self.now c.args.other.now c.self.view_is c.other.view_is c.requires.same in
    let room : a.count ≤ 64 * c.div_ceil-words.result = grind (arith, common_steps) in
    let clear : (p : ℕ) → p < b.count → is_set new p ≡ false = λ p lt. none_in_words c.div_ceil-words.result new c.move_bits.ensures.none p (omega (arith, range.1)) in
    let size : length new ≡ b.words.len = omega (arith, c.move_bits.auto.other, c.deref_mut-2.ensures.len) in
    let kept : IsKept b.first b.count 0 new = record {
      words = omega (arith, size, c.other.invariant.words, b.words.ok);
      fits = c.other.invariant.fits;
      counted = sym (none_counted b.count new clear);
    } in
    subst (IsKept b.first b.count 0) (sym (with_items_is b.words new size)) kept

pub returns-clause-free : goal.returns-clause-free
returns-clause-free c =
    let a = c.self.inside in
    let b = c.other.inside in
    let new = c.move_bits.new.words in
    let room : a.count ≤ 64 * c.div_ceil-words.result = grind (arith, common_steps) in
    let both : AreBoth c.div_ceil-words.result a.words.items b.words.items new = λ i lt. c.move_bits.ensures.words i lt ∙ ap (λ words. bit_or (get_or words i 0) (get_or c.deref_mut-2.result.now i 0)) c.deref_mut.ensures.value ∙ ap (λ words. bit_or (get_or a.words.items i 0) (get_or words i 0)) c.deref_mut-2.ensures.value in
    let size : length new ≡ a.words.len = omega (arith, c.move_bits.auto.words, c.deref_mut.ensures.len) in
    λ block. ap (λ words. is_free_at (seen a.first a.count words) block) (with_items_is a.words new size)
    ∙ joined_free a.first a.count b.first b.count c.div_ceil-words.result a.words.items b.words.items new c.args.self.now c.args.other.now c.self.view_is c.other.view_is c.requires.same c.requires.apart room both block

pub returns-clause-count : goal.returns-clause-count
returns-clause-count c =
    let a = c.self.inside in
    let b = c.other.inside in
    let new = c.move_bits.new.words in
    let room : a.count ≤ 64 * c.div_ceil-words.result = grind (arith, common_steps) in
    let both : AreBoth c.div_ceil-words.result a.words.items b.words.items new = λ i lt. c.move_bits.ensures.words i lt ∙ ap (λ words. bit_or (get_or words i 0) (get_or c.deref_mut-2.result.now i 0)) c.deref_mut.ensures.value ∙ ap (λ words. bit_or (get_or a.words.items i 0) (get_or words i 0)) c.deref_mut-2.ensures.value in
    let size : length new ≡ a.words.len = omega (arith, c.move_bits.auto.words, c.deref_mut.ensures.len) in
    ap (λ words. free_count (seen a.first a.count words)) (with_items_is a.words new size)
    ∙ joined_count a.first a.count b.first b.count c.div_ceil-words.result a.words.items b.words.items new c.args.self.now c.args.other.now c.self.view_is c.other.view_is c.requires.same c.requires.apart room both

pub returns-clause-none : goal.returns-clause-none
returns-clause-none c =
    let a = c.self.inside in
    let b = c.other.inside in
    let new = c.move_bits.new.other in
    let range = same_range a.first a.count b.first b.count a.words.items b.words.items c.args.self.now c.args.other.now c.self.view_is c.other.view_is c.requires.same in
    let room : a.count ≤ 64 * c.div_ceil-words.result = grind (arith, common_steps) in
    let clear : (p : ℕ) → p < b.count → is_set new p ≡ false = λ p lt. none_in_words c.div_ceil-words.result new c.move_bits.ensures.none p (omega (arith, range.1)) in
    let size : length new ≡ b.words.len = omega (arith, c.move_bits.auto.other, c.deref_mut-2.ensures.len) in
    λ block. ap (λ words. is_free_at (seen b.first b.count words) block) (with_items_is b.words new size) ∙ seen_none b.first b.count new clear block
