use Rattle.std.proofs.Common.{ap, ◌∙◌, ◌++◌, ◌*◌, ◌%◌, take}
use Rattle.pm_lines.specs.pm_model.Images.{words_of}
use Rattle.k_tables.specs.Files.{first_bytes, line_in}
use Rattle.k_tables.proofs.FileBytes.{first_bytes-line}
use Rattle.k_tables.proofs.contents.files.push_line.Goals as goal

pub returns : goal.returns
returns c =
    let f = words_of c.args.pm.now in
    c.in_ok-extend_from_slice.ensures.items
    ∙ (λ i. c.requires.before i ++ take c.args.count (c.line_in-content.ensures i))
    ∙ ap (λ o. first_bytes c.args.map.now f (64 * c.args.line) ++ take c.args.count (line_in f o (c.args.line % 64))) c.lookup.ensures.disk
    ∙ first_bytes-line c.args.map.now f c.args.line c.args.count c.requires.few
