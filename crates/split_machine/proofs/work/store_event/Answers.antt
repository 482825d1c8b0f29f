use Rattle.std.specs.Prelude.{◌+◌, refl}
use Rattle.std.proofs.Common.{subst}
use Rattle.run_laws.specs.oplog_entry.EntryLines.{entry_words}
use Rattle.run_laws.specs.oplog_entry.LogLines.{line_at}
use Rattle.run_laws.specs.pm_model.Powers.{is_on}
use Rattle.run_laws.specs.round_log.Stores.{HasStored}
use Rattle.split_machine.specs.Works as works
use Rattle.split_machine.proofs.work.store_event.Goals as goal

pub returns : goal.returns
returns c w =
    works.Stores c.args.job c.args.slot c.on.result refl (record {
      steps = c.store.ensures.steps;
      took = c.store.ensures.took;
      line = c.store.ensures.line;
      has = subst (λ d. HasStored (line_at c.args.log.now.lines c.args.slot).cells (entry_words d (c.args.log.now.base + c.args.slot)) (is_on c.store.new.power) (line_at c.store.new.self.lines c.args.slot).cells) c.draft.ensures.draft c.store.ensures.stored;
    }) c.on.ensures
