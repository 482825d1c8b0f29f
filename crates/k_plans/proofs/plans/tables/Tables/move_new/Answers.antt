use Rattle.std.proofs.Common.{◌≡◌, List, [], length, ap, arith, refl, subst, sym}
use Rattle.k_journal.specs.declared.batches.Record.{Record}
use Rattle.k_plans.specs.LandingsPlans.{Turns}
use Rattle.k_plans.specs.PlanLaws.{turns-none}
use Rattle.k_plans.specs.PlansPlans.{IsPlan}
use Rattle.layout_model.specs.Names.{Rows}
use Rattle.k_tables.specs.image_model.Volume.{Volume}
use Rattle.k_plans.specs.contracts.plans.tables.Tables.{the_view}
use Rattle.k_plans.specs.View.{TablesView, with_volume}
use Rattle.k_tables.specs.k_split_model.ChangesChanges.{renamed}
use Rattle.volume_change_laws.specs.CountLaws.{renamed-owners}
use Rattle.k_plans.proofs.Renames.{Moves, moves-alone, moves-row, moves-whole}
use Rattle.k_plans.proofs.Wholes.{after-tables, plan-from, with_names}
use Rattle.k_plans.proofs.plans.tables.Tables.move_new.Goals as goal
use Rattle.k_plans.proofs.plans.tables.Tables.move_new.Goals.{In_ok-set_name}

-- the tables before
abbrev before : In_ok-set_name → TablesView
before c = the_view c.self.inside

moves : (c : In_ok-set_name) → Moves c.args.path.now c.args.to.now c.args.moving c.args.name (before c).volume
moves c =
    subst (λ (t : TablesView). Moves c.args.path.now c.args.to.now c.args.moving c.args.name t.volume) (sym c.self.view_is)
    (record { rows = c.requires.rows; is_moving = c.requires.moving; row_is = c.requires.name })

abbrev after : In_ok-set_name → Volume
after c = renamed c.args.moving.entry.line c.args.name (before c).volume

is_after : (c : In_ok-set_name) → with_names c.set_name.new.names (before c) ≡ with_volume (after c) (before c)
is_after c =
    ap (λ (rows : Rows). with_names rows (before c))
    c.in_ok-set_name.ensures.set

pub set_name-requires-clause-new : goal.set_name-requires-clause-new
set_name-requires-clause-new c =
    moves-alone c.args.path.now c.args.to.now c.args.moving c.args.name _ c.self.invariant.whole
    (subst (λ (t : TablesView). Moves c.args.path.now c.args.to.now c.args.moving c.args.name t.volume) (sym c.self.view_is)
    (record { rows = c.requires.rows; is_moving = c.requires.moving; row_is = c.requires.name })) c.requires.target

pub put_name-requires-clause-fields : goal.put_name-requires-clause-fields
put_name-requires-clause-fields c =
    moves-row c.args.path.now c.args.to.now c.args.moving c.args.name _ c.self.invariant.whole c.requires.spelled
    (subst (λ (t : TablesView). Moves c.args.path.now c.args.to.now c.args.moving c.args.name t.volume) (sym c.self.view_is)
    (record { rows = c.requires.rows; is_moving = c.requires.moving; row_is = c.requires.name }))

pub invariant_of-self-2 : goal.invariant_of-self-2
invariant_of-self-2 c =
    after-tables (before c) _ (after c) c.self.inside.pool c.self.inside.held (is_after c) c.self.invariant
    (moves-whole c.args.path.now c.args.to.now c.args.moving c.args.name (before c).volume c.self.invariant.whole (moves c) c.requires.target)
    refl (renamed-owners c.args.moving.entry.line c.args.name (before c).volume)

pub returns-clause-plan : goal.returns-clause-plan
returns-clause-plan c =
    subst (λ (b : List Record). IsPlan c.args.self.now (with_names c.set_name.new.names (before c)) b) (sym c.in_ok-set_name.ensures.planned)
    (plan-from (before c) c.args.self.now _ (after c) c.put_name.new.batch c.self.view_is (is_after c)
    (c.put_name.ensures.turns [] (before c).volume (before c).volume
    (subst (Turns c.self.inside.geometry [] (before c).volume (before c).volume) (sym c.requires.empty) (turns-none c.self.inside.geometry [] (before c).volume)))
    c.put_name.ensures.some (omega (arith, c.put_name.ensures.count, ap (λ (b : List Record). length b) c.requires.empty))
    (λ ino least few. refl)
    (moves-whole c.args.path.now c.args.to.now c.args.moving c.args.name (before c).volume c.self.invariant.whole (moves c) c.requires.target)
    c.requires.idle refl (renamed-owners c.args.moving.entry.line c.args.name (before c).volume))
