use Rattle.std.proofs.Common.{◌≡◌, ◌∙◌, [], ap, arith, refl, subst, sym}
use Rattle.k_reading.specs.block_pool.Facts.{length-free_list}
use Rattle.k_reading.specs.block_pool.FreeSets.{free_list}
use Rattle.k_plans.specs.Free.{AreTables}
use Rattle.k_plans.specs.Switching.{with_waiting}
use Rattle.k_plans.specs.contracts.plans.tables.Tables.{the_view}
use Rattle.k_plans.proofs.Asides.{nothing-counted, nothing-listed, settled-tables, waits-unfree}
use Rattle.k_plans.proofs.plans.tables.Tables.settle.Goals as goal

pub take_in-requires-clause-apart : goal.take_in-requires-clause-apart
take_in-requires-clause-apart c = waits-unfree (the_view c.self.inside) c.self.inside.pool c.self.inside.held c.self.invariant refl

none_waits : (c : goal.After-take_in) → free_list c.take_in.new.other ≡ []
none_waits c = nothing-listed c.take_in.new.other c.take_in.ensures.none

pub invariant_of-self : goal.invariant_of-self
invariant_of-self c =
    subst (λ ks. AreTables (with_waiting ks (the_view c.self.inside)) c.take_in.new.self c.take_in.new.other) (sym (none_waits c))
    (settled-tables (the_view c.self.inside) c.self.inside.pool c.self.inside.held c.take_in.new.self c.take_in.new.other c.self.invariant refl
    c.take_in.ensures.same c.take_in.ensures.free c.take_in.ensures.other)

pub returns-then-free-gt0-clause-settled : goal.returns-then-free-gt0-clause-settled
returns-then-free-gt0-clause-settled c =
    ap (λ ks. with_waiting ks (the_view c.self.inside)) (none_waits c) ∙ ap (with_waiting []) c.self.view_is

pub returns-then-free-gt0-clause-back : goal.returns-then-free-gt0-clause-back
returns-then-free-gt0-clause-back c = (invariant_of-self c).back

pub returns-else-free-gt0-clause-settled : goal.returns-else-free-gt0-clause-settled
returns-else-free-gt0-clause-settled c =
    let none : free_list c.self.inside.held ≡ [] =
    nothing-counted (free_list c.self.inside.held) (omega (arith, length-free_list c.self.inside.held, c.free.ensures, c.if-free-gt0.false))
    in
    sym c.self.view_is ∙ ap (λ ks. with_waiting ks (the_view c.self.inside)) none ∙ ap (with_waiting []) c.self.view_is
