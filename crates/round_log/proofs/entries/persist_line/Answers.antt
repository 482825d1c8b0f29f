use Rattle.std.proofs.Common.{Bool, cond, subst, sym}
use Rattle.oplog_entry.specs.pm_model.Powers.{is_on}
use Rattle.oplog_entry.specs.declared.claims.Mark.TheVariants.{Lost, Written}
use Rattle.round_log.proofs.Storing.{persists, took_last}
use Rattle.round_log.specs.Stores.{Persists}
use Rattle.round_log.proofs.entries.persist_line.Goals as goal

pub returns-clause-took : goal.returns-clause-took
returns-clause-took c = took_last 1 1 c.args.power.now c.flush.new.power c.fence.new.power c.flush.ensures.steps c.fence.ensures.steps c.fence.ensures.power

pub returns-clause-holds : goal.returns-clause-holds
returns-clause-holds c seq =
    subst (λ (b : Bool). Persists (cond b Written Lost) seq (is_on c.args.power.now) c.args.line.now.cells c.fence.new.self.cells) (sym c.on.ensures)
    (persists seq c.args.line.now.cells c.flush.new.self.cells c.fence.new.self.cells (is_on c.args.power.now) (is_on c.flush.new.power) (is_on c.fence.new.power)
    c.flush.ensures.steps.on_before c.fence.ensures.steps.on_before c.flush.ensures.flush c.fence.ensures.fence)
