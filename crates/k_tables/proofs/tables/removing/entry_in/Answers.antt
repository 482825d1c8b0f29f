use Rattle.name_laws.specs.k_split_model.Spaces.{space_of}
use Rattle.k_tables.proofs.RowFacts.{standing-at, standing-none}
use Rattle.k_tables.proofs.tables.removing.entry_in.Goals as goal

pub returns-in-Some-clause-answer : goal.returns-in-Some-clause-answer
returns-in-Some-clause-answer c =
    standing-at (space_of c.args.inodes.now c.args.names.now) c.args.path.now c.in-Some.entry.parent c.in-Some.entry.child
    c.in-Some.ensures.target.1.is_at c.in-Ok.ensures.answer

pub returns-in-None-clause-answer : goal.returns-in-None-clause-answer
returns-in-None-clause-answer c =
    standing-none (space_of c.args.inodes.now c.args.names.now) c.args.path.now c.in-Ok.parent
    c.in-Ok.ensures.found c.in-None.ensures.target c.in-Ok.ensures.answer
