use Rattle.std.proofs.Common.{sym, ◌∙◌}
use Rattle.name_laws.specs.k_split_model.Spaces.{space_of}
use Rattle.k_tables.proofs.RowFacts.{kinds-directory, kinds-file}
use Rattle.k_tables.proofs.tables.renaming.refused_kinds.Goals as goal

pub returns-then-is_directory : goal.returns-then-is_directory
returns-then-is_directory c =
    c.refused_directory.ensures
    ∙ kinds-directory (space_of c.args.inodes.now c.args.names.now) c.args.path.now c.args.to.now c.args.node c.args.target
    c.requires.node c.requires.target (sym c.is_directory.ensures ∙ c.if-is_directory.true)

pub returns-else-is_directory : goal.returns-else-is_directory
returns-else-is_directory c =
    c.refused_file.ensures
    ∙ kinds-file (space_of c.args.inodes.now c.args.names.now) c.args.path.now c.args.to.now c.args.node c.args.target
    c.requires.node c.requires.target (sym c.is_directory.ensures ∙ c.if-is_directory.false)
