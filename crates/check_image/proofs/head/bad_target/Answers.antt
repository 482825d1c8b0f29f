use Rattle.std.proofs.Common.{arith, sym, ◌∙◌, ap}
use Rattle.k_journal.specs.layout_model.Places.{is_journaled_line}
use Rattle.k_journal.specs.pm_model.Images.{words_of}
use Rattle.check_image.proofs.Heads.{target-fails, targets-hold}
use Rattle.check_image.proofs.head.bad_target.Goals as goal

pub returns-then-not-is_journaled : goal.returns-then-not-is_journaled
returns-then-not-is_journaled c =
    target-fails c.args.geometry.now (words_of c.args.pm.now) c.loop-record.record
    (rw c.committed-record-end.ensures.number at c.committed-record-end.ensures.few)
    (rw c.committed-record-end.ensures.number at c.loop-record-test.true)
    c.loop-record.invariant
    (ap (is_journaled_line c.args.geometry.now) (sym c.target_of.ensures) ∙ sym c.is_journaled.ensures ∙ c.if-not-is_journaled.true)

pub returns : goal.returns
returns c =
    targets-hold c.args.geometry.now (words_of c.args.pm.now)
    (λ r below. c.loop-record.invariant r (omega (arith, below, c.committed-record-end.ensures.number, c.loop-record-test.false)))
