use Rattle.std.proofs.Common.{◌≡◌, ◌*◌}
use Rattle.pm_lines.specs.pm_model.Images.{words_of}
use Rattle.k_tables.specs.Files.{first_bytes}
use Rattle.k_tables.proofs.contents.files.read_file.Given as goal

-- the lines so far
abbrev pub invariant-loop-line : goal.invariant-loop-line
invariant-loop-line l = l.bytes.items ≡ first_bytes l.map (words_of l.pm) (64 * l.line)
