use Rattle.open_files.proofs.Starting.{kept-nothing, tables-nothing}
use Rattle.open_files.proofs.files.files.OpenFiles.new.Goals as goal

pub invariant_of-result : goal.invariant_of-result
invariant_of-result c = rw (c.new.ensures.empty, c.in_ok-descriptors.ensures, c.new-2.ensures.items) kept-nothing

pub returns : goal.returns
returns c = rw (c.new.ensures.empty, c.in_ok-descriptors.ensures, c.new-2.ensures.items) tables-nothing
