use Rattle.std.proofs.Common.{◌≡◌, ◌/◌, ◌∙◌, None, Some, arith, inl, inr, sym}
use Rattle.std.proofs.lemmas.Bool.{cases_lt}
use Rattle.block_io.specs.extent_model.Facts.{disk_at-past}
use Rattle.k_split.proofs.bytes.tail_length.Goals as goal

pub returns-in-Some-clause-short : goal.returns-in-Some-clause-short
returns-in-Some-clause-short c = elim (cases_lt (c.args.from / 4096) 4096) [
  | inl below ↦ omega (arith, below)
  | inr past ↦
      let never : Some c.in-Some.field-0 ≡ None = sym c.in-Some.is ∙ c.lookup.ensures.disk ∙ disk_at-past c.args.map.now (c.args.from / 4096) c.lookup.ensures.canonical past in
      absurd (cc)
]
