use Rattle.std.proofs.Common.{Err, subst}
use Rattle.command_line.specs.pm_model.CellLaws.{single-home}
use Rattle.command_line.specs.pm_model.Cells.{cell}
use Rattle.command_line.specs.pm_model.Images.{words_of}
use Rattle.split_machine.specs.image_model.Rules.{geometry_of}
use Rattle.split_machine.specs.Mounts.{IsMountAnswer}
use Rattle.split_top.proofs.Mounted.{own-live, own-tree}
use Rattle.split_top.proofs.Opened.{still-on, unbroken}
use Rattle.split_top.proofs.mounting.mount_image.Goals as goal

pub tree-requires-clause-home : goal.tree-requires-clause-home
tree-requires-clause-home c i = single-home (cell c.in-Ok.k.cells i) (c.in-Ok.ensures.answer.1.rest.single i)

pub returns-in-Ok : goal.returns-in-Ok
returns-in-Ok c =
    let image = words_of c.args.pm in
    let k = c.in-Ok.k in
    let m = c.in-Ok.ensures.answer.1 in
    record {
      mounted = m;
      is_tree = own-tree (geometry_of image) image k m c.in_ok-tree-in-Ok.tree c.a_remount_shows_the_same.ensures.trees (c.in_ok-tree-in-Ok.ensures.content (m.rest.order.none_set m.rest.unbatched) (own-live (geometry_of image) image k m));
    }

pub unreachable-requires : goal.unreachable-requires
unreachable-requires c =
    let answer = subst (λ fault. IsMountAnswer c.args.pm c.always-power.result c.mount.new.power (Err fault)) c.in-Err-Bad.field-0-is c.in-Err-Bad.ensures.answer in
    unbroken c.args.pm c.requires.checked c.in-Err-Bad.field-0-0.rule c.in-Err-Bad.field-0-0.place answer.0

pub unreachable-requires-in-Err-PowerLost : goal.unreachable-requires-in-Err-PowerLost
unreachable-requires-in-Err-PowerLost c =
    let answer = subst (λ fault. IsMountAnswer c.args.pm c.always-power.result c.mount.new.power (Err fault)) c.in-Err-PowerLost.field-0-is c.in-Err-PowerLost.ensures.answer in
    still-on c.always-power.result c.mount.new.power c.always-power.ensures c.in-Err-PowerLost.ensures.spent.given answer.1
