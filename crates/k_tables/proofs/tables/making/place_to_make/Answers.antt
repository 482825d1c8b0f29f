use Rattle.std.proofs.Common.{sym, ◌∙◌}
use Rattle.name_laws.specs.k_split_model.Spaces.{space_of}
use Rattle.k_tables.specs.Refusals.{outcome_of}
use Rattle.k_tables.proofs.RowFacts.{mkdir-root, mkdir-early, mkdir-late}
use Rattle.k_tables.proofs.tables.making.place_to_make.Goals as goal

pub returns-then-is_root-clause-answer : goal.returns-then-is_root-clause-answer
returns-then-is_root-clause-answer c =
    mkdir-root (space_of c.args.inodes.now c.args.names.now) c.args.path.now (sym c.is_root.ensures ∙ c.if-is_root.true)

pub returns-in-Ok-clause-answer : goal.returns-in-Ok-clause-answer
returns-in-Ok-clause-answer c =
    c.place_in.ensures.answer
    ∙ mkdir-late (space_of c.args.inodes.now c.args.names.now) c.args.path.now (sym c.is_root.ensures ∙ c.if-is_root.false) c.in-Ok.ensures.answer

pub returns-in-Err-clause-answer : goal.returns-in-Err-clause-answer
returns-in-Err-clause-answer c =
    mkdir-early (space_of c.args.inodes.now c.args.names.now) c.args.path.now (outcome_of c.in-Err.refusal)
    (sym c.is_root.ensures ∙ c.if-is_root.false) c.in-Err.ensures.answer
