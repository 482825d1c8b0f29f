use Rattle.std.specs.Prelude.{◌+◌, refl, if◌then◌else◌}
use Rattle.std.proofs.Common.{◌∙◌, sym, subst}
use Rattle.run_laws.specs.oplog_entry.LogLines.{line_at}
use Rattle.run_laws.specs.oplog_entry.declared.claims.Mark.TheVariants.{Lost, Written}
use Rattle.run_laws.specs.pm_model.Powers.{is_on}
use Rattle.run_laws.specs.round_log.Stores.{Persists}
use Rattle.split_machine.specs.Works as works
use Rattle.split_machine.proofs.work.persist_event.Goals as goal

pub returns-then-persist : goal.returns-then-persist
returns-then-persist c w =
    works.Persists c.args.job c.args.slot refl (record {
      steps = c.persist.ensures.steps;
      line = c.persist.ensures.line;
      holds = subst (λ b. Persists (if b then Written else Lost) (c.args.log.now.base + c.args.slot) (is_on c.args.power.now) (line_at c.args.log.now.lines c.args.slot).cells (line_at c.persist.new.self.lines c.args.slot).cells) c.persist.ensures.on c.persist.ensures.holds;
    }) (sym c.persist.ensures.on ∙ c.if-persist.true)

pub returns-else-persist : goal.returns-else-persist
returns-else-persist c w =
    works.PersistLoses c.args.job c.args.slot refl (record {
      steps = c.persist.ensures.steps;
      line = c.persist.ensures.line;
      holds = subst (λ b. Persists (if b then Written else Lost) (c.args.log.now.base + c.args.slot) (is_on c.args.power.now) (line_at c.args.log.now.lines c.args.slot).cells (line_at c.persist.new.self.lines c.args.slot).cells) c.persist.ensures.on c.persist.ensures.holds;
    }) (sym c.persist.ensures.on ∙ c.if-persist.false)
