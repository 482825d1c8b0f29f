use Rattle.std.proofs.Common.{◌≡◌, List, subst, sym}
use Rattle.std.specs.Prelude.{OnOk, slice_index_or}
use Rattle.layout_model.specs.declared.lines.Inode.{Inode}
use Rattle.k_plans.specs.image_model.Volume.{free_inode}
use Rattle.k_plans.specs.View.{with_volume}
use Rattle.k_map_plans.specs.Going.{kept_map, MayKeep}
use Rattle.k_map_plans.specs.Resets.{unapplied}
use Rattle.k_map_plans.proofs.Resets.{reset-answer, reset-may}
use Rattle.k_map_plans.proofs.log_plans.plan_reset.Goals as goal

pub keep_map-requires-clause-may : goal.keep_map-requires-clause-may
keep_map-requires-clause-may c =
    let t = c.args.tables.now in
    subst (λ (inodes : List Inode). MayKeep t c.args.ino (unapplied (slice_index_or inodes c.args.ino free_inode))) (sym c.inodes.ensures)
    (reset-may t c.args.ino c.requires.own c.requires.file c.requires.idle)

pub returns : goal.returns
returns c =
    let t = c.args.tables.now in
    let u = c.keep_map.new.tables in
    reset-answer t u c.args.ino c.keep_map.new.batch c.keep_map.result c.requires.own
    (subst (λ (inodes : List Inode). OnOk c.keep_map.result (u ≡ with_volume (kept_map c.args.ino (unapplied (slice_index_or inodes c.args.ino free_inode)) t.volume) t))
    c.inodes.ensures c.keep_map.ensures.kept)
    c.keep_map.ensures.plan c.keep_map.ensures.line c.keep_map.ensures.aside c.keep_map.ensures.same c.keep_map.ensures.no_lines
