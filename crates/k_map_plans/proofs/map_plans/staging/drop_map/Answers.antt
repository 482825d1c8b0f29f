use Rattle.std.proofs.Common.{◌≡◌, ◌∙◌, [], List, subst, sym}
use Rattle.std.specs.Prelude.{slice_index_or}
use Rattle.layout_model.specs.declared.lines.Inode.{Inode}
use Rattle.k_plans.specs.image_model.Volume.{extents, free_inode}
use Rattle.k_relink.specs.extent_model.declared.extent_words.Extent.{Extent}
use Rattle.k_map_plans.specs.Going.{HasGoneOver, MayGoOver}
use Rattle.k_map_plans.proofs.Goings.{gone-aside}
use Rattle.k_map_plans.proofs.Stagings.{give_up-may, given-is}
use Rattle.k_map_plans.proofs.map_plans.staging.drop_map.Goals as goal

pub go_over-requires-clause-may : goal.go_over-requires-clause-may
go_over-requires-clause-may c =
    let t = c.args.tables.now in
    let map_is : c.extents.result.now ≡ extents t.volume c.args.staging = c.extents.ensures.all ∙ c.in_ok-map.ensures.copy in
    subst (λ (inodes : List Inode). MayGoOver t c.args.staging (slice_index_or inodes c.args.staging free_inode) c.new-none.result c.extents.result.now)
    (sym c.inodes.ensures)
    (subst (λ (es : List Extent). MayGoOver t c.args.staging (slice_index_or t.volume.inodes c.args.staging free_inode) es c.extents.result.now)
    (sym c.new-none.ensures)
    (subst (MayGoOver t c.args.staging (slice_index_or t.volume.inodes c.args.staging free_inode) []) (sym map_is)
    (give_up-may t c.args.staging c.in_ok-map.ensures.whole c.requires.idle c.requires.staging)))

-- it went over to no map
went : (c : goal.After-drop-map-inside)
    → HasGoneOver c.args.staging (slice_index_or c.args.tables.now.volume.inodes c.args.staging free_inode) [] c.args.tables.now c.go_over.new.tables c.go_over.new.batch c.in-Ok.written
went c =
    let t = c.args.tables.now in
    let gone : HasGoneOver c.args.staging (slice_index_or c.inodes.result.now c.args.staging free_inode) c.new-none.result t c.go_over.new.tables c.go_over.new.batch c.in-Ok.written =
    rw c.in-Ok.is at c.go_over.ensures.gone
    in
    subst (λ (inodes : List Inode). HasGoneOver c.args.staging (slice_index_or inodes c.args.staging free_inode) [] t c.go_over.new.tables c.go_over.new.batch c.in-Ok.written)
    c.inodes.ensures
    (subst (λ (es : List Extent). HasGoneOver c.args.staging (slice_index_or c.inodes.result.now c.args.staging free_inode) es t c.go_over.new.tables c.go_over.new.batch c.in-Ok.written)
    c.new-none.ensures gone)

pub returns-in-Ok-clause-given : goal.returns-in-Ok-clause-given
returns-in-Ok-clause-given c =
    given-is c.args.staging (slice_index_or c.args.tables.now.volume.inodes c.args.staging free_inode) c.args.tables.now c.go_over.new.tables c.go_over.new.batch
    c.in-Ok.written (went c)

pub returns-in-Ok-clause-aside : goal.returns-in-Ok-clause-aside
returns-in-Ok-clause-aside c =
    gone-aside c.args.tables.now c.go_over.new.tables c.args.staging (slice_index_or c.args.tables.now.volume.inodes c.args.staging free_inode) []
    c.go_over.new.batch c.in-Ok.written c.requires.idle c.in_ok-map.ensures.back c.requires.staging.below (went c)
