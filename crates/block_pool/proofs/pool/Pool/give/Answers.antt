use Rattle.std.proofs.Common.{◌≡◌, ◌≢◌, ℕ, ◌+◌, ◌-◌, length, sym, ◌∙◌, ap, subst, arith}
use Rattle.std.proofs.lemmas.List.{with_items_is}
use Rattle.block_pool.specs.FreeSets.{Gives}
use Rattle.block_pool.specs.Bits.{is_set, IsKept}
use Rattle.extent_map.specs.extent_model.Counts.{count_below-le}
use Rattle.block_pool.proofs.Marks.{seen, in_range, given_within, given_count, given}
use Rattle.block_pool.proofs.pool.Pool.give.Goals as goal

pub set-requires : goal.set-requires
set-requires c =
    let inside = c.self.inside in
    let within = given_within inside.first inside.count c.args.block inside.words.items inside.words.items c.args.self.now c.self.view_is c.requires.in_range c.requires.used in
    omega (arith, (in_range inside.first inside.count c.args.block within).1, c.self.invariant.words, c.deref_mut.ensures.len, inside.words.ok)

pub overflow_add-self : goal.overflow_add-self
overflow_add-self c =
    let inside = c.self.inside in
    let new = c.set.new.words in
    let others = λ (p : ℕ) (apart : p ≢ c.args.block - inside.first). c.set.ensures.others p apart ∙ ap (λ words. is_set words p) c.deref_mut.ensures.value in
    let more = given_count inside.first inside.count c.args.block inside.words.items new c.args.self.now c.self.view_is c.requires.in_range c.requires.used c.set.ensures.here others in
    omega (arith, more, c.self.invariant.counted, c.self.invariant.fits, count_below-le (is_set new) inside.count)

pub invariant_of-self : goal.invariant_of-self
invariant_of-self c =
    let inside = c.self.inside in
    let new = c.set.new.words in
    let others = λ (p : ℕ) (apart : p ≢ c.args.block - inside.first). c.set.ensures.others p apart ∙ ap (λ words. is_set words p) c.deref_mut.ensures.value in
    let more = given_count inside.first inside.count c.args.block inside.words.items new c.args.self.now c.self.view_is c.requires.in_range c.requires.used c.set.ensures.here others in
    let size : length new ≡ inside.words.len = omega (arith, c.set.auto.words, c.deref_mut.ensures.len) in
    let kept : IsKept inside.first inside.count (inside.free + 1) new = record { words = omega (arith, size, c.self.invariant.words, inside.words.ok); fits = c.self.invariant.fits; counted = omega (arith, more, c.self.invariant.counted) } in
    subst (IsKept inside.first inside.count (inside.free + 1)) (sym (with_items_is inside.words new size)) kept

pub returns : goal.returns
returns c =
    let inside = c.self.inside in
    let new = c.set.new.words in
    let others = λ (p : ℕ) (apart : p ≢ c.args.block - inside.first). c.set.ensures.others p apart ∙ ap (λ words. is_set words p) c.deref_mut.ensures.value in
    let gives = given inside.first inside.count c.args.block inside.words.items new c.args.self.now c.self.view_is c.requires.in_range c.requires.used c.set.ensures.here others in
    let size : length new ≡ inside.words.len = omega (arith, c.set.auto.words, c.deref_mut.ensures.len) in
    subst (λ words. Gives c.args.block c.args.self.now (seen inside.first inside.count words)) (sym (with_items_is inside.words new size)) gives
