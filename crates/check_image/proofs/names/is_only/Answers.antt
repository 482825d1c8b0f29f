use Rattle.std.proofs.Common.{◌∙◌, ap, sym, refl, arith}
use Rattle.k_reading.specs.layout_model.Names.{is_entry}
use Rattle.check_image.proofs.NameFacts.{only-kept, only-fails, row-read}
use Rattle.check_image.proofs.names.is_only.Goals as goal

pub returns-then-has_same_name : goal.returns-then-has_same_name
returns-then-has_same_name c = (
  λ no. cc,
  λ only. absurd (only-fails c.args.names.now c.args.line c.loop-later.later c.args.name.now (omega arith)
      (ap (is_entry c.args.name.now.parent c.args.name.now.name) (row-read c.args.names.now c.loop-later.later c.index-names-later.result (omega arith) c.index-names-later.is)
      ∙ sym c.has_same_name.ensures ∙ c.if-has_same_name.true) only),
)

pub returns : goal.returns
returns c = (
  λ yes. only-kept c.args.names.now c.args.line c.args.name.now (λ m behind within. c.loop-later.invariant m behind (omega (arith, within, c.loop-later-test.false))),
  λ only. refl,
)
