-- the law of the definitions, at numbers of their widths
use Rattle.std.proofs.Common.{◌≡◌, ◌∙◌, ap, rules}
use Rattle.layout_model.specs.Lines.{NameRow, decode_name}
use Rattle.layout_model.specs.NameLaws.{decode_name-encode_name}
use Rattle.k_names.proofs.line.encode_name.Goals as goal

pub returns-clause-read : goal.returns-clause-read
returns-clause-read c ok =
    let r : NameRow = record { parent = c.line-inside.inside.0.0; child = c.line-inside.inside.0.1.0; name = c.deref.result.now } in
    let same : r ≡ c.args.line.now = search rules in
    rw (← same) (ap decode_name c.spelled.ensures.line ∙ decode_name-encode_name r c.spelled.ensures.fits (rw (← same) at ok))
