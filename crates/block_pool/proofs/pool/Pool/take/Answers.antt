use Rattle.std.proofs.Common.{◌≡◌, ℕ, ◌+◌, ◌&&◌, not, length, refl, sym, ◌∙◌, ap, subst, arith}
use Rattle.std.proofs.lemmas.List.{with_items_is}
use Rattle.std.proofs.lemmas.Result.{err_from_is_err_and}
use Rattle.extent_map.specs.extent_model.Counts.{count_below}
use Rattle.block_pool.specs.FreeSets.{is_among, free_count, Takes}
use Rattle.block_pool.specs.Bits.{is_set, AreLowest}
use Rattle.block_pool.proofs.Marks.{seen, free_count-seen, seen_takes}
use Rattle.block_pool.proofs.pool.Pool.take.Goals as goal

pub returns-then-self-n-clause-few : goal.returns-then-self-n-clause-few
returns-then-self-n-clause-few c =
    let inside = c.self.inside in
    (λ _. omega (arith, c.self.invariant.counted, free_count-seen inside.first inside.count inside.words.items, ap free_count c.self.view_is), λ _. refl)

pub returns-in_err-taken-clause-few : goal.returns-in_err-taken-clause-few
returns-in_err-taken-clause-few c =
    let inside = c.self.inside in
    let failed = err_from_is_err_and c.from_residual.result c.from_residual.ensures.1 in
    (λ no_answer. absurd (cc), λ less. absurd (omega (arith, c.self.invariant.counted, free_count-seen inside.first inside.count inside.words.items, ap free_count c.self.view_is)))

pub returns-clause-few : goal.returns-clause-few
returns-clause-few c =
    let inside = c.self.inside in
    (λ no_answer. absurd (cc), λ less. absurd (omega (arith, c.self.invariant.counted, free_count-seen inside.first inside.count inside.words.items, ap free_count c.self.view_is)))

pub returns-clause-taken : goal.returns-clause-taken
returns-clause-taken c =
    let inside = c.self.inside in
    let taken = c.in_ok-taken.taken.items in
    let new = c.clear_blocks.new.words in
    let lowest = subst (λ words. AreLowest words inside.first inside.count c.args.n taken) c.deref.ensures.value c.in_ok-taken.ensures in
    let bits = λ (p : ℕ). c.clear_blocks.ensures.bits p ∙ ap (λ words. is_set words p && not (is_among c.deref-2.result.now (inside.first + p))) c.deref_mut.ensures.value ∙ ap (λ bs. is_set inside.words.items p && not (is_among bs (inside.first + p))) c.deref-2.ensures.value in
    let fewer : count_below (is_set new) inside.count + length taken ≡ count_below (is_set inside.words.items) inside.count =
    omega (arith, c.clear_blocks.ensures.count, ap (λ bs. length bs) c.deref-2.ensures.value, ap (λ words. count_below (is_set words) inside.count) c.deref_mut.ensures.value) in
    let takes = seen_takes inside.first inside.count c.args.n inside.words.items new taken lowest bits fewer in
    let size : length new ≡ inside.words.len = omega (arith, c.clear_blocks.auto.words, c.deref_mut.ensures.len) in
    subst (λ words. Takes c.args.n taken c.args.self.now (seen inside.first inside.count words)) (sym (with_items_is inside.words new size))
    (subst (λ s. Takes c.args.n taken s (seen inside.first inside.count new)) c.self.view_is takes)
