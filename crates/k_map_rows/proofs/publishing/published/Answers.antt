use Rattle.k_map_rows.proofs.Homes.{answer-home}
use Rattle.k_map_rows.proofs.publishing.published.Goals as goal

pub returns : goal.returns
returns c =
    answer-home c.args.three.now.ino c.args.three.now.size c.in_ok-overlay.overlay c.publish.new.overlay c.args.k.now c.publish.new.k
    c.in_ok-publish.field-0 c.in_ok-publish.ensures.answer c.requires
