use Rattle.std.proofs.Common.{◌≡◌, true, sym, ap, ◌∙◌, subst}
use Rattle.k_reading.specs.layout_model.Lines.{NameRow}
use Rattle.k_reading.specs.layout_model.Names.{Rows, ends_at_root}
use Rattle.k_reading.specs.image_model.Live.{is_directory}
use Rattle.k_reading.specs.image_model.Volume.{inode}
use Rattle.check_image.specs.Above.{IsOnly}
use Rattle.check_image.proofs.NameFacts.{placed-kept, placed-ends}
use Rattle.check_image.proofs.names.is_placed.Goals as goal

pub returns : goal.returns
returns c v inodes names =
    let parent : c.name.inside.parent ≡ c.args.name.now.parent = ap (λ (r : NameRow). r.parent) c.name.view_is in
    let directory = c.is_directory.ensures v inodes in
    let way = c.reaches_root.ensures c.args.names.now c.requires.above in (
      λ yes. placed-kept v c.args.line c.args.name.now
          (subst (λ n. is_directory (inode v n).kind ≡ true) parent (directory.0 c.if-not-is_directory.false))
          (subst (λ (rows : Rows). IsOnly rows c.args.line c.args.name.now) (sym names) (c.is_only.ensures.0 c.if-not-is_only.false))
          (ap (λ (rows : Rows). ends_at_root rows 15 c.args.name.now.parent) names ∙ ap (ends_at_root c.args.names.now 15) (sym parent) ∙ sym way ∙ yes),
      λ placed. way ∙ ap (ends_at_root c.args.names.now 15) parent
          ∙ ap (λ (rows : Rows). ends_at_root rows 15 c.args.name.now.parent) (sym names) ∙ placed-ends v c.args.line c.args.name.now placed,
    )
