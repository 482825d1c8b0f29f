use Rattle.std.proofs.Common.{◌≡◌, ◌+◌, ◌*◌, ◌%◌, ◌∙◌, sym, ap, arith, rules}
use Rattle.pm_model.specs.Bytes.{line_bytes-words}
use Rattle.pm_model.specs.Cells.{newest}
use Rattle.pm_model.specs.Images.{words_of}
use Rattle.pm_lines.proofs.LentCells.{length_is, cell_home}
use Rattle.pm_lines.proofs.devices.Pm.read_line.Goals as goal

pub newest_of_line-requires : goal.newest_of_line-requires
newest_of_line-requires c = omega (arith, length_is _ _ _ c.self.invariant c.self.view_is, c.requires.in_device)

pub returns-clause-words : goal.returns-clause-words
returns-clause-words c i inside =
    let at : 8 * c.args.line + i % 8 ≡ i = omega arith in
    c.bytes_of_line.ensures (i % 8) (omega arith) ∙ c.newest_of_line.ensures (i % 8) (omega arith)
    ∙ rw at (ap newest (sym (cell_home _ _ _ c.self.invariant c.self.view_is i (c.requires.home i inside))))

pub returns-clause-bytes : goal.returns-clause-bytes
returns-clause-bytes c = sym (line_bytes-words (words_of c.args.self.now) c.args.line _ (omega arith) (λ k. search rules) (λ i inside. sym (returns-clause-words c i inside)))
