use Rattle.std.proofs.Common.{◌≡◌, ◌+◌, ◌*◌, ◌∙◌, ap, sym, arith}
use Rattle.pm_lines.specs.pm_model.Images.{words_of}
use Rattle.k_tables.specs.Files.{line_in}
use Rattle.k_tables.proofs.FileBytes.{line_in-block}
use Rattle.k_tables.proofs.contents.files.line_in.Goals as goal

pub returns-in-Some : goal.returns-in-Some
returns-in-Some c =
    line_in-block (words_of c.args.pm.now) c.in-Some.b c.args.line _ c.read_line.result c.requires.in_block
    (let at : 64 * c.from.result + c.from-in-Some.result ≡ 64 * c.in-Some.b + c.args.line = omega arith in at)
    c.read_line.ensures.bytes
    ∙ ap (λ o. line_in (words_of c.args.pm.now) o c.args.line) (sym c.in-Some.is)
