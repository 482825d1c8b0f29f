use Rattle.std.proofs.Common.{◌*◌, length}
use Rattle.k_journal.specs.pm_model.Images.{words_of}
use Rattle.check_image.proofs.ReadFacts.{if_ok, if_err, on_ok, breaks-body, front-holds}
use Rattle.check_image.proofs.reading.read_volume.Goals as goal

pub returns-in-Ok-clause-ok : goal.returns-in-Ok-clause-ok
returns-in-Ok-clause-ok c =
    let f = words_of c.args.pm.now in
    let bytes = 8 * length c.args.pm.now in
    let body = rw c.in-Ok.ensures.geometry at c.read_tables.ensures.ok in
    if_ok c.read_tables.result _ _ (λ read. on_ok read _ _ (front-holds bytes f c.in-Ok.ensures.ok)) body

pub returns-in-Ok-clause-bad : goal.returns-in-Ok-clause-bad
returns-in-Ok-clause-bad c =
    let f = words_of c.args.pm.now in
    let bytes = 8 * length c.args.pm.now in
    let body = rw c.in-Ok.ensures.geometry at c.read_tables.ensures.bad in
    if_ok c.read_tables.result _ _ (λ read. if_err read _ _ (λ bad. breaks-body bytes f bad.rule bad.place c.in-Ok.ensures.ok)) body
