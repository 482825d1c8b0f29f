use Rattle.std.proofs.Common.{List, [], length, ap, arith, subst, sym}
use Rattle.k_journal.specs.declared.batches.Record.{Record}
use Rattle.k_plans.specs.LandingsPlans.{Turns}
use Rattle.k_plans.specs.PlanLaws.{turns-none}
use Rattle.k_plans.specs.contracts.plans.tables.Tables.{the_view}
use Rattle.k_plans.specs.View.{TablesView}
use Rattle.k_tables.specs.Found.{IsFileAt}
use Rattle.k_plans.proofs.Removals.{Unnames, unnames-plan, unnames-tables}
use Rattle.k_plans.proofs.plans.tables.Tables.unlink_at.Goals as goal

-- the tables before
abbrev before : goal.After-clear → TablesView
before c = the_view c.self.inside

unnames : (c : goal.After-clear) → Unnames c.args.path.now c.args.entry (before c) c.clear.new.self
unnames c = record {
  is_file = subst (λ (t : TablesView). IsFileAt t.volume.inodes t.volume.names c.args.path.now c.args.entry) (sym c.self.view_is) c.requires.entry;
  names_is = c.clear.ensures;
}

pub invariant_of-self : goal.invariant_of-self
invariant_of-self c =
    unnames-tables c.args.path.now c.args.entry (before c) c.clear.new.self c.self.inside.pool c.self.inside.held c.self.invariant (unnames c)

pub returns-clause-plan : goal.returns-clause-plan
returns-clause-plan c =
    unnames-plan c.args.path.now c.args.entry (before c) c.args.self.now c.clear.new.self c.clear_name.new.batch c.self.view_is c.self.invariant.whole (unnames c)
    (c.clear_name.ensures.turns [] (before c).volume (before c).volume
    (subst (Turns c.self.inside.geometry [] (before c).volume (before c).volume) (sym c.requires.empty) (turns-none c.self.inside.geometry [] (before c).volume)))
    c.clear_name.ensures.some (omega (arith, c.clear_name.ensures.count, ap (λ (b : List Record). length b) c.requires.empty)) c.requires.idle
