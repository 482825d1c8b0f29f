use Rattle.std.specs.Prelude.{length, List, map}
use Rattle.std.proofs.Common.{◌∙◌, ap, sym}
use Rattle.posix_tables.specs.declared.nodes.DirEntry.{DirEntry}
use Rattle.posix_tables.specs.Places.{places, tree_entry}
use Rattle.crash_judge.specs.Wanted.{numbers_of}
use Rattle.crash_judge.proofs.NearestLaws.{AreNearest-same, left_decided}
use Rattle.crash_judge.proofs.judge_bytes.nearest.is_left.Goals as goal

pub returns : goal.returns
returns c =
    left_decided c.args.effects.now c.args.extra.now c.args.state.now c.args.left.now c.in_ok-entries.entries.items c.deref-3.result.now c.eq.result c.eq.ensures.exact
    (c.in_ok-entries.ensures ∙ ap (λ (es : List DirEntry). map (tree_entry c.deref-3.result.now) (places es)) c.entries-2.ensures)
    (AreNearest-same c.args.effects.now c.args.extra.now c.deref.result.now (numbers_of (length c.args.state.now.nodes) c.args.state.now.entries) c.deref-2.result.now c.args.left.now
    c.nodes-2.result.now c.args.state.now.nodes c.in_ok-nodes.nodes.items c.deref-3.result.now
    (c.deref.ensures.value ∙ c.in_ok-numbers.ensures ∙ (λ i. numbers_of (length (c.nodes.ensures i)) (c.entries.ensures i)))
    (c.deref-2.ensures.value ∙ c.left.view_is) c.nodes-2.ensures (sym c.deref-3.ensures.value) c.in_ok-nodes.ensures)
