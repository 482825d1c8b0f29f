use Rattle.std.proofs.Common.{sym, ap, ◌∙◌, [], ◌∷◌}
use Rattle.name_laws.specs.k_split_model.Spaces.{space_of}
use Rattle.posix_types.specs.declared.reply.Errno.{Errno}
use Rattle.posix_tables.specs.Outcomes.{first, row}
use Rattle.k_tables.specs.Refusals.{outcome_of}
use Rattle.k_tables.proofs.RowFacts.{unlink-root, unlink-early, unlink-late}
use Rattle.k_tables.proofs.tables.removing.entry_to_unlink.Goals as goal

pub returns-then-is_root-clause-answer : goal.returns-then-is_root-clause-answer
returns-then-is_root-clause-answer c =
    unlink-root (space_of c.args.inodes.now c.args.names.now) c.args.path.now (sym c.is_root.ensures ∙ c.if-is_root.true)

pub returns-in-Err-clause-answer : goal.returns-in-Err-clause-answer
returns-in-Err-clause-answer c =
    unlink-early (space_of c.args.inodes.now c.args.names.now) c.args.path.now (outcome_of c.in-Err.refusal)
    (sym c.is_root.ensures ∙ c.if-is_root.false) c.in-Err.ensures.answer

pub returns-then-is_directory-clause-answer : goal.returns-then-is_directory-clause-answer
returns-then-is_directory-clause-answer c =
    ap (λ b. first (row b Errno.EPERM ∷ [])) (sym (sym c.is_directory.ensures ∙ c.if-is_directory.true))
    ∙ unlink-late (space_of c.args.inodes.now c.args.names.now) c.args.path.now c.in-Ok.entry.parent c.in-Ok.entry.child
    (sym c.is_root.ensures ∙ c.if-is_root.false) c.in-Ok.ensures.answer c.in-Ok.ensures.found.is_at

pub returns-else-is_directory-clause-answer : goal.returns-else-is_directory-clause-answer
returns-else-is_directory-clause-answer c =
    ap (λ b. first (row b Errno.EPERM ∷ [])) (sym (sym c.is_directory.ensures ∙ c.if-is_directory.false))
    ∙ unlink-late (space_of c.args.inodes.now c.args.names.now) c.args.path.now c.in-Ok.entry.parent c.in-Ok.entry.child
    (sym c.is_root.ensures ∙ c.if-is_root.false) c.in-Ok.ensures.answer c.in-Ok.ensures.found.is_at
