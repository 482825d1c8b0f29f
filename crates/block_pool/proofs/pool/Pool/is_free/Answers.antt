use Rattle.std.proofs.Common.{◌≡◌, ◌+◌, ◌-◌, true, false, ltb, refl, sym, ◌∙◌, ap, arith}
use Rattle.std.proofs.lemmas.Bool.{le-leb, lt-ltb, le-ltb}
use Rattle.block_pool.specs.FreeSets.{is_free_at}
use Rattle.block_pool.specs.Bits.{is_set}
use Rattle.block_pool.proofs.Marks.{is_free_at-seen}
use Rattle.block_pool.proofs.pool.Pool.is_free.Goals as goal

pub returns-then-place-self : goal.returns-then-place-self
returns-then-place-self c =
    let inside = c.self.inside in
    let bit = ap (λ words. is_set words (c.args.block - inside.first)) c.deref.ensures.value in
    let high : ltb c.args.block (inside.first + inside.count) ≡ true = lt-ltb _ _ (omega arith) in
    c.is_set.ensures ∙ bit ∙ sym (is_free_at-seen inside.first inside.count inside.words.items c.args.block ∙ (rw (le-leb inside.first c.args.block (omega arith), high) refl)) ∙ ap (λ s. is_free_at s c.args.block) c.self.view_is

pub returns-else-place-self : goal.returns-else-place-self
returns-else-place-self c =
    let inside = c.self.inside in
    let high : ltb c.args.block (inside.first + inside.count) ≡ false = le-ltb _ _ (omega arith) in
    le-ltb _ _ c.if-place-self.false ∙ sym (is_free_at-seen inside.first inside.count inside.words.items c.args.block ∙ (rw (le-leb inside.first c.args.block (omega arith), high) refl)) ∙ ap (λ s. is_free_at s c.args.block) c.self.view_is
