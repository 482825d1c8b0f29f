use Rattle.std.proofs.Common.{◌≡◌, ◌∙◌, Err, List, None, ap, arith, rules, subst}
use Rattle.std.proofs.lemmas.Grind.{common_steps}
use Rattle.k_relink.specs.extent_model.Extents.{disk_at}
use Rattle.k_relink.specs.extent_model.declared.extent_words.Extent.{Extent}
use Rattle.k_map_plans.specs.Linking.{left_at}
use Rattle.k_map_plans.proofs.Moves.{no_hole}
use Rattle.k_map_plans.proofs.map_plans.linking.move_run.Goals as goal

pub unreachable-requires : goal.unreachable-requires
unreachable-requires c =
    let block = c.in-Err-Hole.field-0-0 in
    let map = (left_at c.args.lefts.now.items c.args.run.now.staging).map in
    let map_is : c.behind-lefts-3.inside.map ≡ map = first_of (search rules, grind (arith, common_steps)) in
    let hole = (c.relink.ensures.hole block).0 (c.in-Err-Hole.is ∙ ap Err c.in-Err-Hole.field-0-is) in
    no_hole (disk_at map block) (c.requires.there block hole.behind hole.before) (subst (λ (es : List Extent). disk_at es block ≡ None) map_is hole.hole)
