use Rattle.std.proofs.Common.{◌≡◌, ◌<◌, ◌++◌, [], ℕ, List, length, ap, refl, subst, sym, ◌∙◌, true, false}
use Rattle.k_reading.specs.block_pool.FreeSets.{is_among}
use Rattle.k_tables.specs.image_model.Placed.{extent_at}
use Rattle.k_tables.specs.extent_model.declared.extent_words.Extent.{Extent}
use Rattle.k_tables.specs.extent_model.Extents.{holds_disk}
use Rattle.k_plans.specs.Free.{AreTables}
use Rattle.k_plans.specs.Giving.{AreGiven, MayGiveChain, MayGiveMap, is_held}
use Rattle.k_plans.specs.Switching.{with_aside}
use Rattle.k_plans.specs.View.{TablesView, map_blocks}
use Rattle.k_plans.specs.contracts.plans.tables.Tables.{the_view}
use Rattle.k_plans.proofs.Asides.{aside-apart, aside-chain, aside-given, aside-map, pool-takes, released-tables}
use Rattle.k_plans.proofs.plans.tables.Tables.release.Goals as goal

-- the tables before
abbrev before : goal.After-extents → TablesView
before c = the_view c.self.inside

pub give_all-requires-clause-chain : goal.give_all-requires-clause-chain
give_all-requires-clause-chain c =
    subst (λ blocks. MayGiveChain blocks c.self.inside.pool) (sym c.deref.ensures.value)
    (aside-chain (before c) c.self.inside.pool c.self.inside.aside.items c.self.inside.dropped refl c.self.invariant.whole c.self.invariant.back
    (pool-takes (the_view c.self.inside) c.self.inside.pool c.self.inside.held c.self.invariant) c.extents.ensures.canonical)

pub give_all-requires-clause-map : goal.give_all-requires-clause-map
give_all-requires-clause-map c =
    subst (λ es. MayGiveMap es c.self.inside.pool) (sym c.extents.ensures.all)
    (aside-map (before c) c.self.inside.pool c.self.inside.aside.items c.self.inside.dropped refl c.self.invariant.whole c.self.invariant.back
    (pool-takes (the_view c.self.inside) c.self.inside.pool c.self.inside.held c.self.invariant) c.extents.ensures.canonical)

pub give_all-requires-clause-apart : goal.give_all-requires-clause-apart
give_all-requires-clause-apart c =
    let Apart : List ℕ → List Extent → Type 0 =
    λ blocks es. (k b : ℕ) → k < length es → holds_disk (extent_at es k) b ≡ true → is_among blocks b ≡ false
    in
    subst (Apart c.deref.result.now) (sym c.extents.ensures.all)
    (subst (λ blocks. Apart blocks c.self.inside.dropped) (sym c.deref.ensures.value)
    (aside-apart (before c) c.self.inside.pool c.self.inside.aside.items c.self.inside.dropped refl c.self.invariant.whole c.self.invariant.back
    (pool-takes (the_view c.self.inside) c.self.inside.pool c.self.inside.held c.self.invariant) c.extents.ensures.canonical))

-- just the blocks that were set aside are given
given : (c : goal.After-clear) → AreGiven (is_among (the_view c.self.inside).aside) c.self.inside.pool c.give_all.new.pool
given c =
    aside-given (the_view c.self.inside) c.self.inside.pool c.self.inside.aside.items c.self.inside.dropped refl c.self.invariant.whole c.self.invariant.back
    (pool-takes (the_view c.self.inside) c.self.inside.pool c.self.inside.held c.self.invariant) c.extents.ensures.canonical c.self.inside.pool c.give_all.new.pool
    (subst (λ es. AreGiven (is_held c.self.inside.aside.items es) c.self.inside.pool c.give_all.new.pool) c.extents.ensures.all
    (subst (λ blocks. AreGiven (is_held blocks c.extents.result.now) c.self.inside.pool c.give_all.new.pool) c.deref.ensures.value c.give_all.ensures))

none_aside : (c : goal.After-clear) → map_blocks c.new.result ++ c.clear.new.self.items ≡ []
none_aside c = λ i. map_blocks (c.new.ensures i) ++ c.clear.ensures.items i

after : (c : goal.After-clear) → AreTables (with_aside [] (the_view c.self.inside)) c.give_all.new.pool c.self.inside.held
after c = released-tables (the_view c.self.inside) c.self.inside.pool c.self.inside.held c.give_all.new.pool c.self.invariant (given c)

pub invariant_of-self : goal.invariant_of-self
invariant_of-self c =
    subst (λ ks. AreTables (with_aside ks (the_view c.self.inside)) c.give_all.new.pool c.self.inside.held) (sym (none_aside c)) (after c)

pub returns-clause-released : goal.returns-clause-released
returns-clause-released c =
    ap (λ ks. with_aside ks (the_view c.self.inside)) (none_aside c) ∙ ap (with_aside []) c.self.view_is

pub returns-clause-back : goal.returns-clause-back
returns-clause-back c = (invariant_of-self c).back
