use Rattle.std.proofs.Common.{◌≡◌, ◌∙◌, Err, List, None, ap, subst}
use Rattle.k_plans.specs.image_model.Volume.{extents}
use Rattle.k_relink.specs.extent_model.Extents.{disk_at}
use Rattle.k_relink.specs.extent_model.declared.extent_words.Extent.{Extent}
use Rattle.k_map_plans.proofs.Moves.{no_hole, source-fits}
use Rattle.k_map_plans.proofs.map_plans.moving.move_blocks.Goals as goal

pub blocks_at-requires-clause-fits : goal.blocks_at-requires-clause-fits
blocks_at-requires-clause-fits c = source-fits c.args.tables.now.volume c.args.asked.now c.in_ok-src.ensures.whole c.requires.may

pub relink-requires-clause-source : goal.relink-requires-clause-source
relink-requires-clause-source c = source-fits c.args.tables.now.volume c.args.asked.now c.in_ok-src.ensures.whole c.requires.may

pub unreachable-requires : goal.unreachable-requires
unreachable-requires c =
    let block = c.in-Err-Hole.field-0-0 in
    let hole = (c.relink.ensures.hole block).0 (c.in-Err-Hole.is ∙ ap Err c.in-Err-Hole.field-0-is) in
    let gone : disk_at (extents c.args.tables.now.volume c.args.asked.now.staging) block ≡ None =
    subst (λ (es : List Extent). disk_at es block ≡ None) c.in_ok-src.ensures.copy hole.hole
    in
    no_hole (disk_at (extents c.args.tables.now.volume c.args.asked.now.staging) block) (c.requires.may.there block hole.behind hole.before) gone

pub returns-in-Ok-clause-few : goal.returns-in-Ok-clause-few
returns-in-Ok-clause-few c few = c.place_both.ensures.few few
