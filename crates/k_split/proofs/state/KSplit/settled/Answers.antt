use Rattle.std.proofs.Common.{◌≡◌, ◌<◌, ◌*◌, false, List, length, sym, ◌∙◌, ap, arith, subst}
use Rattle.block_io.specs.extent_model.declared.extent_words.Extent.{Extent}
use Rattle.block_io.specs.extent_model.Extents.{disk_at}
use Rattle.block_io.specs.image_model.Volume.{extents, Volume}
use Rattle.block_io.specs.layout_model.Places.{Geometry}
use Rattle.k_tables.specs.k_split_model.Stands.{Stands}
use Rattle.k_tables.specs.k_split_model.View.{View}
use Rattle.k_split.specs.Gathers.{IsSettledAt}
use Rattle.k_split.specs.Order.{view_of}
use Rattle.k_split.proofs.Ready.{committed-is}
use Rattle.k_split.proofs.state.KSplit.settled.Goals as goal

pub standing_block-requires : goal.standing_block-requires
standing_block-requires c =
    let k = c.self.inside in
    let is : k.lost ≡ false = ap (λ (x : View). x.lost) c.self.view_is ∙ c.requires.on in
    let ready = c.self.invariant is in
    let below : c.args.ino < length k.tables.volume.inodes = subst (λ (x : View). c.args.ino < length x.volume.inodes) (sym c.self.view_is) c.requires.below in
    record {
      size = subst (λ (h : Geometry). length k.pm ≡ 512 * h.blocks) (sym c.geometry.ensures.numbers) ready.opened.are.stands.size;
      stands = (ready.committed, subst (λ (h : Geometry). Stands h ready.committed k.pm) (sym c.geometry.ensures.numbers) ready.opened.are.stands);
      below = omega (arith, below, ready.opened.whole.kept.all.inode_count, ap (λ (h : Geometry). h.inodes) c.geometry.ensures.numbers);
    }

pub returns : goal.returns
returns c =
    let k = c.self.inside in
    let is : k.lost ≡ false = ap (λ (x : View). x.lost) c.self.view_is ∙ c.requires.on in
    let ready = c.self.invariant is in
    let v = view_of k.tables k.group k.pm k.batched k.lost in
    let stands = subst (λ (h : Geometry). Stands h ready.committed k.pm) (sym c.geometry.ensures.numbers) ready.opened.are.stands in
    let live : c.lookup-present.result ≡ disk_at (extents k.tables.volume c.args.ino) c.args.block =
    c.lookup-present.ensures.disk ∙ ap (λ (es : List Extent). disk_at es c.args.block) c.in-Some.ensures.map
    in
    let there : c.standing_block.result ≡ disk_at (extents v.committed c.args.ino) c.args.block =
    c.standing_block.ensures ready.committed stands
    ∙ ap (λ (u : Volume). disk_at (extents u c.args.ino) c.args.block) (sym (committed-is k.tables k.group k.batch k.pm k.batched ready))
    in (
      λ same. subst (IsSettledAt c.args.ino c.args.block) c.self.view_is (sym there ∙ sym (c.is_same.ensures.0 same) ∙ live),
      λ at. c.is_same.ensures.1 (live ∙ sym (subst (IsSettledAt c.args.ino c.args.block) (sym c.self.view_is) at) ∙ sym there),
    )
