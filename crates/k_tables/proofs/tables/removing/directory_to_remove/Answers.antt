use Rattle.std.proofs.Common.{sym, ◌∙◌}
use Rattle.name_laws.specs.k_split_model.Spaces.{space_of}
use Rattle.k_tables.specs.Refusals.{outcome_of}
use Rattle.k_tables.proofs.RowFacts.{rmdir-root, rmdir-early, rmdir-late, removal-none}
use Rattle.k_tables.proofs.tables.removing.directory_to_remove.Goals as goal

pub returns-then-is_root-clause-answer : goal.returns-then-is_root-clause-answer
returns-then-is_root-clause-answer c =
    rmdir-root (space_of c.args.inodes.now c.args.names.now) c.args.path.now (sym c.is_root.ensures ∙ c.if-is_root.true)

pub returns-in-Err-clause-answer : goal.returns-in-Err-clause-answer
returns-in-Err-clause-answer c =
    rmdir-early (space_of c.args.inodes.now c.args.names.now) c.args.path.now (outcome_of c.in-Err.refusal)
    (sym c.is_root.ensures ∙ c.if-is_root.false) c.in-Err.ensures.answer

pub returns-in-Some-clause-answer : goal.returns-in-Some-clause-answer
returns-in-Some-clause-answer c =
    c.in-Some.ensures
    ∙ rmdir-late (space_of c.args.inodes.now c.args.names.now) c.args.path.now c.in-Ok.entry.parent c.in-Ok.entry.child
    (sym c.is_root.ensures ∙ c.if-is_root.false) c.in-Ok.ensures.answer c.in-Ok.ensures.found.is_at

pub returns-in-None-clause-answer : goal.returns-in-None-clause-answer
returns-in-None-clause-answer c =
    c.in-None.ensures
    ∙ rmdir-late (space_of c.args.inodes.now c.args.names.now) c.args.path.now c.in-Ok.entry.parent c.in-Ok.entry.child
    (sym c.is_root.ensures ∙ c.if-is_root.false) c.in-Ok.ensures.answer c.in-Ok.ensures.found.is_at

pub returns-in-None-clause-entry : goal.returns-in-None-clause-entry
returns-in-None-clause-entry c =
    let empty = removal-none (space_of c.args.inodes.now c.args.names.now) c.in-Ok.entry.child c.in-None.ensures in
    record { is_entry = c.in-Ok.ensures.found; is_directory = empty.0; is_empty = empty.1 }
