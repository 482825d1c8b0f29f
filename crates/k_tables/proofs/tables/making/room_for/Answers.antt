use Rattle.name_laws.specs.k_split_model.Spaces.{is_free, space_of}
use Rattle.layout_model.specs.declared.lines.Inode.{Inode}
use Rattle.k_tables.proofs.RowFacts.{room-nodes, room-lines, room-both}
use Rattle.k_tables.proofs.Rooms.{counted-some, counted-none, lines-some, lines-none}
use Rattle.k_tables.proofs.tables.making.room_for.Goals as goal

pub returns-in_default-clause-answer : goal.returns-in_default-clause-answer
returns-in_default-clause-answer c =
    room-nodes (space_of c.args.inodes.now c.args.names.now) c.args.path.now
    (counted-none (λ (x : Inode). is_free x.kind) c.args.inodes.now c.in_default.ensures.lowest)

pub returns-in_default-free_line-clause-answer : goal.returns-in_default-free_line-clause-answer
returns-in_default-free_line-clause-answer c =
    room-lines (space_of c.args.inodes.now c.args.names.now) c.args.path.now
    (counted-some (λ (x : Inode). is_free x.kind) c.args.inodes.now c.in-Some.ino c.in-Some.ensures.lowest)
    (lines-none c.args.names.now c.in_default-free_line.ensures.lowest)

pub returns-clause-answer : goal.returns-clause-answer
returns-clause-answer c =
    room-both (space_of c.args.inodes.now c.args.names.now) c.args.path.now
    (counted-some (λ (x : Inode). is_free x.kind) c.args.inodes.now c.in-Some.ino c.in-Some.ensures.lowest)
    (lines-some c.args.names.now c.in-Some-free_line.line c.in-Some-free_line.ensures.lowest)
