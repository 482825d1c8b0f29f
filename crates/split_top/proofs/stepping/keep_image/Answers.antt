use Rattle.command_line.specs.pm_model.CellLaws.{single-home}
use Rattle.command_line.specs.pm_model.Cells.{cell}
use Rattle.split_top.proofs.stepping.keep_image.Goals as goal

pub choose-requires : goal.choose-requires
choose-requires g c i = single-home (cell c.args.outcome.now.pm i) (c.requires i)
