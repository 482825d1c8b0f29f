use Rattle.oplog_entry.specs.pm_model.Words.{word_at}
use Rattle.k_check.proofs.CrashFacts.{crash-quiet}
use Rattle.k_check.proofs.crashes.settle.Goals as goal

pub returns-then-not-log_has_two : goal.returns-then-not-log_has_two
returns-then-not-log_has_two c =
    crash-quiet c.args.geometry.now c.args.choice c.args.pm.now (word_at c.args.bytes.now) c.requires.chosen (c.log_has_two.ensures c.if-not-log_has_two.true)
