use Rattle.std.proofs.Common.{List, ap, subst, sym}
use Rattle.std.specs.Prelude.{slice_index_or}
use Rattle.layout_model.specs.declared.lines.Inode.{Inode}
use Rattle.k_plans.specs.image_model.Volume.{free_inode}
use Rattle.k_plans.specs.k_journal.declared.batches.Record.{Record}
use Rattle.k_plans.specs.LandingsPlans.{Turns}
use Rattle.k_plans.specs.View.{TablesView}
use Rattle.k_plans.specs.k_split_model.MapChangesChanges.{with_length}
use Rattle.k_map_plans.proofs.Moves.{both-turns}
use Rattle.k_map_plans.proofs.map_plans.moving.switch_both.Goals as goal

pub returns-clause-turns : goal.returns-clause-turns
returns-clause-turns c news v from1 from2 turns =
    let m = c.args.asked.now in
    let t = c.args.tables.now.volume in
    both-turns m t c.switch.new.self.volume c.switch-2.new.self.volume c.args.going.left c.args.going.linked c.args.going.rest.items c.args.going.blocks.items
    (slice_index_or c.inodes.result.now m.staging free_inode)
    (with_length m.size m.applied (slice_index_or c.inodes-2.result.now m.ino free_inode))
    news v c.args.batch.now c.switch.new.batch c.switch-2.new.batch
    (ap (λ (inodes : List Inode). slice_index_or inodes m.staging free_inode) c.inodes.ensures)
    (ap (λ (inodes : List Inode). with_length m.size m.applied (slice_index_or inodes m.ino free_inode)) c.inodes-2.ensures)
    (ap (λ (y : TablesView). y.volume) c.switch.ensures.switched)
    (c.switch.ensures.turns news v)
    (c.switch-2.ensures.turns news v)
    from1 from2
    (subst (λ (b : List Record). Turns t.geometry news v t b) (sym c.requires.empty) turns)
