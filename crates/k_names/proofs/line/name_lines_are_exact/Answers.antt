-- the laws of the definitions
use Rattle.layout_model.specs.NameLaws.{decode_name-encode_name, IsNameLine-decode_name, zeros-decode_name}
use Rattle.k_names.proofs.line.name_lines_are_exact.Goals as goal

pub returns-clause-read : goal.returns-clause-read
returns-clause-read c = decode_name-encode_name

pub returns-clause-spelled : goal.returns-clause-spelled
returns-clause-spelled c = IsNameLine-decode_name

pub returns-clause-free : goal.returns-clause-free
returns-clause-free c = zeros-decode_name
