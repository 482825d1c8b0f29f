-- one more inode line
use Rattle.std.proofs.Common.{length, ◌<◌, ◌≡◌, true, refl, sym, subst}
use Rattle.k_inodes.specs.layout_model.PlaceLaws.{journaled-inode}
use Rattle.k_inodes.specs.layout_model.Places.{is_journaled_line}
use Rattle.volume_change_laws.specs.k_split_model.image_model.Volume.{chain, extents}
use Rattle.map_chain.specs.volume_laws.Changes.{inode_set-same}
use Rattle.k_plans.specs.LandingsPlans.{Turns}
use Rattle.k_plans.specs.LandingsPlans.IsMapFrom.{SameMap}
use Rattle.k_plans.specs.PlanLaws.{SetsOneMore, length-with_line_set, turns-inode}
use Rattle.k_plans.proofs.landings.plans.put_inode.Goals as goal

pub returns-clause-turns : goal.returns-clause-turns
returns-clause-turns c news v w blocks es map turns =
    let g = c.args.geometry.now in
    let batch = c.args.batch.now in
    let bytes = c.encode_inode-bytes.result in
    let new = c.put_line.new.self in
    turns-inode g news v w batch new c.args.ino c.args.inode.now blocks es bytes c.requires.ino
    (record { size = c.encode_inode-bytes.ensures.size; small = c.encode_inode-bytes.ensures.small })
    (c.encode_inode-bytes.ensures.read c.requires.fields) map
    (subst (λ line. SetsOneMore batch line bytes new) c.inode_line.ensures c.put_line.ensures.meaning)
    (c.put_line.ensures.lines (is_journaled_line g)
    (subst (λ line. is_journaled_line g line ≡ true) (sym c.inode_line.ensures) (journaled-inode g c.args.ino c.requires.ino)) turns.lines)
    turns

pub returns-clause-node : goal.returns-clause-node
returns-clause-node c news v w root count turns =
    let ino = c.args.ino in
    subst (λ x. Turns c.args.geometry.now news v x c.put_line.new.self) (inode_set-same ino c.args.inode.now w)
    (returns-clause-turns c news v w (chain w ino) (extents w ino) (SameMap root count refl refl) turns)

pub returns-clause-some : goal.returns-clause-some
returns-clause-some c = subst (λ b. 0 < length b) (sym c.put_line.ensures.entries) (length-with_line_set c.args.batch.now _ _)
