use Rattle.std.proofs.Common.{◌≡◌, ◌<◌, ◌++◌, [], ℕ, List, length, refl, subst, sym, true, false}
use Rattle.k_reading.specs.block_pool.FreeSets.{is_among, free_list}
use Rattle.k_tables.specs.image_model.Placed.{extent_at}
use Rattle.k_tables.specs.extent_model.declared.extent_words.Extent.{Extent}
use Rattle.k_tables.specs.extent_model.Extents.{holds_disk}
use Rattle.k_plans.specs.Free.{AreTables}
use Rattle.k_plans.specs.Giving.{AreGiven, MayGiveChain, MayGiveMap, is_held}
use Rattle.k_plans.specs.Switching.{IsHeld, with_aside, with_waiting}
use Rattle.k_plans.specs.View.{TablesView, map_blocks}
use Rattle.k_plans.specs.contracts.plans.tables.Tables.{the_view}
use Rattle.k_plans.proofs.Asides.{aside-apart, aside-chain, aside-given, aside-map, held-among_both, held-tables, held-takes}
use Rattle.k_plans.proofs.plans.tables.Tables.hold.Goals as goal

-- the tables before
abbrev before : goal.After-extents → TablesView
before c = the_view c.self.inside

pub give_all-requires-clause-chain : goal.give_all-requires-clause-chain
give_all-requires-clause-chain c =
    subst (λ blocks. MayGiveChain blocks c.self.inside.held) (sym c.deref.ensures.value)
    (aside-chain (before c) c.self.inside.held c.self.inside.aside.items c.self.inside.dropped refl c.self.invariant.whole c.self.invariant.back
    (held-takes (the_view c.self.inside) c.self.inside.pool c.self.inside.held c.self.invariant refl) c.extents.ensures.canonical)

pub give_all-requires-clause-map : goal.give_all-requires-clause-map
give_all-requires-clause-map c =
    subst (λ es. MayGiveMap es c.self.inside.held) (sym c.extents.ensures.all)
    (aside-map (before c) c.self.inside.held c.self.inside.aside.items c.self.inside.dropped refl c.self.invariant.whole c.self.invariant.back
    (held-takes (the_view c.self.inside) c.self.inside.pool c.self.inside.held c.self.invariant refl) c.extents.ensures.canonical)

pub give_all-requires-clause-apart : goal.give_all-requires-clause-apart
give_all-requires-clause-apart c =
    let Apart : List ℕ → List Extent → Type 0 =
    λ blocks es. (k b : ℕ) → k < length es → holds_disk (extent_at es k) b ≡ true → is_among blocks b ≡ false
    in
    subst (Apart c.deref.result.now) (sym c.extents.ensures.all)
    (subst (λ blocks. Apart blocks c.self.inside.dropped) (sym c.deref.ensures.value)
    (aside-apart (before c) c.self.inside.held c.self.inside.aside.items c.self.inside.dropped refl c.self.invariant.whole c.self.invariant.back
    (held-takes (the_view c.self.inside) c.self.inside.pool c.self.inside.held c.self.invariant refl) c.extents.ensures.canonical))

-- just the blocks that were set aside are given
given : (c : goal.After-clear) → AreGiven (is_among (the_view c.self.inside).aside) c.self.inside.held c.give_all.new.pool
given c =
    aside-given (the_view c.self.inside) c.self.inside.held c.self.inside.aside.items c.self.inside.dropped refl c.self.invariant.whole c.self.invariant.back
    (held-takes (the_view c.self.inside) c.self.inside.pool c.self.inside.held c.self.invariant refl) c.extents.ensures.canonical c.self.inside.held c.give_all.new.pool
    (subst (λ es. AreGiven (is_held c.self.inside.aside.items es) c.self.inside.held c.give_all.new.pool) c.extents.ensures.all
    (subst (λ blocks. AreGiven (is_held blocks c.extents.result.now) c.self.inside.held c.give_all.new.pool) c.deref.ensures.value c.give_all.ensures))

none_aside : (c : goal.After-clear) → map_blocks c.new.result ++ c.clear.new.self.items ≡ []
none_aside c = λ i. map_blocks (c.new.ensures i) ++ c.clear.ensures.items i

-- the tables after
abbrev held : goal.After-clear → List ℕ → TablesView
held c ks = with_waiting (free_list c.give_all.new.pool) (with_aside ks (the_view c.self.inside))

pub invariant_of-self : goal.invariant_of-self
invariant_of-self c =
    subst (λ ks. AreTables (held c ks) c.self.inside.pool c.give_all.new.pool) (sym (none_aside c))
    (held-tables (the_view c.self.inside) c.self.inside.pool c.self.inside.held c.give_all.new.pool c.self.invariant refl (given c))

pub returns-clause-held : goal.returns-clause-held
returns-clause-held c =
    subst (λ (t : TablesView). IsHeld t (held c (map_blocks c.new.result ++ c.clear.new.self.items))) c.self.view_is (record {
      volume = refl;
      aside = none_aside c;
      waiting = held-among_both (the_view c.self.inside) c.self.inside.held c.give_all.new.pool refl (given c);
    })

pub returns-clause-back : goal.returns-clause-back
returns-clause-back c = (invariant_of-self c).back
