use Rattle.std.proofs.Common.{sym, ◌∙◌}
use Rattle.name_laws.specs.k_split_model.Spaces.{space_of}
use Rattle.k_tables.specs.Refusals.{outcome_of}
use Rattle.k_tables.proofs.RowFacts.{rename-root, rename-early, rename-late}
use Rattle.k_tables.proofs.tables.renaming.entries_to_rename.Goals as goal

pub returns-then-is_either_root-clause-answer : goal.returns-then-is_either_root-clause-answer
returns-then-is_either_root-clause-answer c =
    rename-root (space_of c.args.inodes.now c.args.names.now) c.args.path.now c.args.to.now
    (sym c.is_either_root.ensures ∙ c.if-is_either_root.true)

pub returns-in-Err-clause-answer : goal.returns-in-Err-clause-answer
returns-in-Err-clause-answer c =
    rename-early (space_of c.args.inodes.now c.args.names.now) c.args.path.now c.args.to.now (outcome_of c.in-Err.refusal)
    (sym c.is_either_root.ensures ∙ c.if-is_either_root.false) c.in-Err.ensures.answer

pub returns-in-Ok-clause-answer : goal.returns-in-Ok-clause-answer
returns-in-Ok-clause-answer c =
    c.moving_to.ensures.answer
    ∙ rename-late (space_of c.args.inodes.now c.args.names.now) c.args.path.now c.args.to.now
    (sym c.is_either_root.ensures ∙ c.if-is_either_root.false) c.in-Ok.ensures.answer
