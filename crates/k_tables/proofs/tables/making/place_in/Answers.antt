use Rattle.std.proofs.Common.{sym, ap, ◌∙◌}
use Rattle.name_laws.specs.k_split_model.Spaces.{entries_of, space_of}
use Rattle.posix_tables.specs.Names.{child_of}
use Rattle.k_tables.proofs.RowFacts.{new-exists, new-room}
use Rattle.k_tables.proofs.tables.making.place_in.Goals as goal

pub returns-in-Some-clause-answer : goal.returns-in-Some-clause-answer
returns-in-Some-clause-answer c =
    new-exists (space_of c.args.inodes.now c.args.names.now) c.args.path.now c.args.parent c.in-Some.field-0
    (record { directory = c.requires.directory; is = sym (c.in-Some.ensures ∙ ap (child_of (entries_of c.args.names.now) c.args.parent) c.last.ensures) })

pub returns-in-None-clause-answer : goal.returns-in-None-clause-answer
returns-in-None-clause-answer c =
    c.room_for.ensures.answer
    ∙ new-room (space_of c.args.inodes.now c.args.names.now) c.args.path.now c.args.parent c.requires.directory
    (sym (c.in-None.ensures ∙ ap (child_of (entries_of c.args.names.now) c.args.parent) c.last.ensures))
