use Rattle.std.proofs.Common.{subst, sym, ◌∙◌}
use Rattle.k_check.specs.layout_model.Journal.{journaled}
use Rattle.k_check.specs.image_model.Live.{live_entries}
use Rattle.k_check.specs.image_model.Volume.{volume}
use Rattle.k_check.specs.pm_model.Images.{words_of}
use Rattle.fsync_relink.specs.log_laws.Orders.{AreInOrder}
use Rattle.log_replay.proofs.MountingMounting.{answer-recovered, order-recovered, too}
use Rattle.log_replay.proofs.Spending.{spent-none, spent-then}
use Rattle.log_replay.proofs.mounting.mounts.mount_checked.Goals as goal

pub mount_recovered-requires-clause-size : goal.mount_recovered-requires-clause-size
mount_recovered-requires-clause-size c = c.recover_journal.ensures.size ∙ c.requires.size

pub mount_recovered-requires-clause-idle : goal.mount_recovered-requires-clause-idle
mount_recovered-requires-clause-idle c = c.in-Done.ensures.words.idle

pub mount_recovered-requires-clause-numbers : goal.mount_recovered-requires-clause-numbers
mount_recovered-requires-clause-numbers c =
    (too c.args.geometry (words_of c.args.pm) c.recover_journal.new.pm c.requires.numbers c.requires.checked c.in-Done.ensures.words).geometry

pub mount_recovered-requires-clause-checked : goal.mount_recovered-requires-clause-checked
mount_recovered-requires-clause-checked c =
    (too c.args.geometry (words_of c.args.pm) c.recover_journal.new.pm c.requires.numbers c.requires.checked c.in-Done.ensures.words).checked

pub mount_recovered-requires-clause-entries : goal.mount_recovered-requires-clause-entries
mount_recovered-requires-clause-entries c =
    let d = c.recover_journal.new.pm in
    let order =
    order-recovered c.args.geometry (words_of c.args.pm) d c.requires.numbers c.requires.checked c.in-Done.ensures.words c.in_ok-entries.entries.items c.in_ok-entries.ensures
    in
    subst (AreInOrder (live_entries (volume c.args.geometry (journaled (words_of d))) (journaled (words_of d)))) (sym c.deref.ensures.value) order

pub returns-in_err-entries-clause-spent : goal.returns-in_err-entries-clause-spent
returns-in_err-entries-clause-spent c = spent-none c.args.power.now

pub returns-clause-spent : goal.returns-clause-spent
returns-clause-spent c =
    spent-then c.args.power.now c.recover_journal.new.power c.mount_recovered.new.power c.recover_journal.ensures.spent c.mount_recovered.ensures.spent

pub returns-clause-answer : goal.returns-clause-answer
returns-clause-answer c =
    answer-recovered c.args.geometry (words_of c.args.pm) c.recover_journal.new.pm c.requires.numbers c.requires.checked c.in-Done.ensures.words
    c.mount_recovered.new.power c.mount_recovered.result c.mount_recovered.ensures.answer

pub returns-in-PowerLost-clause-answer : goal.returns-in-PowerLost-clause-answer
returns-in-PowerLost-clause-answer c = (c.in-PowerLost.ensures.paid, c.in-PowerLost.ensures.lost)
