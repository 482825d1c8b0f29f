use Rattle.std.proofs.Common.{sym, ◌∙◌, ap}
use Rattle.k_tables.specs.k_split_model.Spaces.{is_directory_in}
use Rattle.k_tables.specs.k_split_model.View.{View}
use Rattle.k_split.proofs.LookLaws.{listed-directory, listed-file, listed-lost}
use Rattle.k_split.proofs.state.KSplit.directory_at.Goals as goal

pub returns-in-Err : goal.returns-in-Err
returns-in-Err c = listed-lost c.args.self.now.volume c.args.path.now c.in-Err.errno c.in-Err.ensures

pub returns-then-is_directory : goal.returns-then-is_directory
returns-then-is_directory c =
    listed-directory c.args.self.now.volume c.args.path.now c.in-Ok.ino c.in-Ok.ensures
    (ap (λ (k : View). is_directory_in k.volume.inodes c.in-Ok.ino) (sym c.self.view_is)
    ∙ ap (λ inodes. is_directory_in inodes c.in-Ok.ino) (sym c.inodes.ensures) ∙ sym c.is_directory.ensures ∙ c.if-is_directory.true)

pub returns-else-is_directory : goal.returns-else-is_directory
returns-else-is_directory c =
    listed-file c.args.self.now.volume c.args.path.now c.in-Ok.ino c.in-Ok.ensures
    (ap (λ (k : View). is_directory_in k.volume.inodes c.in-Ok.ino) (sym c.self.view_is)
    ∙ ap (λ inodes. is_directory_in inodes c.in-Ok.ino) (sym c.inodes.ensures) ∙ sym c.is_directory.ensures ∙ c.if-is_directory.false)
