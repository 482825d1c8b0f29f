use Rattle.std.proofs.Common.{◌≡◌, ◌∙◌, ◌++◌, ℕ, false, refl, List, Result, Ok, Err, ap, arith, subst, sym}
use Rattle.std.specs.Prelude.{if◌then◌else◌, is_ok, IsOk}
use Rattle.std.proofs.lemmas.Bool.{both_ways}
use Rattle.std.specs.declared.alloc.AllocError.{AllocError}
use Rattle.k_reading.specs.block_pool.FreeSets.{Takes}
use Rattle.k_plans.specs.Free.{AreTables, free_blocks}
use Rattle.k_plans.specs.Switching.{IsSetAside, with_aside}
use Rattle.k_plans.specs.View.{TablesView, map_blocks}
use Rattle.std.proofs.lemmas.List.{append_assoc}
use Rattle.k_plans.specs.contracts.plans.tables.Tables.{the_view}
use Rattle.k_plans.proofs.FreeCounts.{pool-counted}
use Rattle.k_plans.proofs.Switches.{set_aside-is, set_aside-tables}
use Rattle.k_plans.proofs.plans.tables.Tables.set_aside.Goals as goal

-- what was added where there is room for it
added : (r : Result (Unit {0}) AllocError) (now was more : List ℕ) → now ≡ (if is_ok r then was ++ more else was) → IsOk r → now ≡ was ++ more
added (Ok u) now was more is ok = is
added (Err e) now was more is ok = absurd (both_ways false refl ok)

taken_is : (c : goal.After-extend_from_slice-noted) → Takes c.args.count c.in-Some.taken.items c.self.inside.pool c.take.new.self
taken_is c = rw c.in-Some.is at c.in_ok-taken.ensures.taken

items_are : (c : goal.After-extend_from_slice-noted)
    → c.extend_from_slice-noted.new.self.items ≡ c.self.inside.aside.items ++ c.in-Some.taken.items
items_are c =
    added c.extend_from_slice-noted.result c.extend_from_slice-noted.new.self.items c.self.inside.aside.items c.in-Some.taken.items
    (c.extend_from_slice-noted.ensures.items
    ∙ (λ i. if is_ok c.extend_from_slice-noted.result then c.reserve.ensures.items i ++ c.deref.ensures.value i else c.reserve.ensures.items i))
    (c.extend_from_slice-noted.ensures.succeeds (omega (arith, c.in_ok-reserve.ensures.ok, c.deref.ensures.len, (taken_is c).count)))

pub returns-in_default-clause-few : goal.returns-in_default-clause-few
returns-in_default-clause-few c =
    let few = c.take.ensures.few.0 (c.in_ok-taken.was ∙ ap Ok c.in_default.is) in
    omega (arith, few, pool-counted (the_view c.self.inside) c.self.inside.pool c.self.invariant.pool_is, ap free_blocks c.self.view_is)

aside_is : (c : goal.After-extend_from_slice-noted)
    → map_blocks c.self.inside.dropped ++ c.extend_from_slice-noted.new.self.items ≡ (the_view c.self.inside).aside ++ c.in-Some.taken.items
aside_is c =
    ap (λ ks. map_blocks c.self.inside.dropped ++ ks) (items_are c)
    ∙ sym (append_assoc (map_blocks c.self.inside.dropped) c.self.inside.aside.items c.in-Some.taken.items)

pub invariant_of-self-2 : goal.invariant_of-self-2
invariant_of-self-2 c =
    subst (λ ks. AreTables (with_aside ks (the_view c.self.inside)) c.take.new.self c.self.inside.held) (sym (aside_is c))
    (set_aside-tables (the_view c.self.inside) c.args.count c.in-Some.taken.items c.self.inside.pool c.self.inside.held c.take.new.self c.self.invariant (taken_is c))

pub returns-clause-taken : goal.returns-clause-taken
returns-clause-taken c =
    subst (λ (t : TablesView). IsSetAside c.args.count c.in-Some.taken.items t (with_aside (map_blocks c.self.inside.dropped ++ c.extend_from_slice-noted.new.self.items) (the_view c.self.inside)))
    c.self.view_is
    (set_aside-is (the_view c.self.inside) _ c.args.count c.in-Some.taken.items c.self.inside.pool c.self.inside.held c.take.new.self c.self.invariant (taken_is c)
    (ap (λ ks. with_aside ks (the_view c.self.inside)) (aside_is c)))

pub returns-clause-left : goal.returns-clause-left
returns-clause-left c =
    omega (
      arith,
      (taken_is c).left,
      pool-counted (the_view c.self.inside) c.self.inside.pool c.self.invariant.pool_is,
      pool-counted (with_aside (map_blocks c.self.inside.dropped ++ c.extend_from_slice-noted.new.self.items) (the_view c.self.inside)) c.take.new.self (invariant_of-self-2 c).pool_is,
      ap free_blocks c.self.view_is,
    )
