use Rattle.std.specs.Prelude.{◌≤◌, ◌+◌, ◌++◌, length, map}
use Rattle.std.specs.Vec.{vec_capacity}
use Rattle.std.proofs.Common.{◌∙◌, Global, Vec, ap, subst, sym}
use Rattle.posix_types.specs.declared.item.Item.{Item}
use Rattle.world_parts.specs.declared.parts.Parts.{Parts}
use Rattle.world_parts.specs.world_view_laws.write_end.Ends.{begun_by}
use Rattle.world_parts.specs.Seen.{unfinished_of}
use Rattle.world_rounds.proofs.Endings.{calls_room, run_ends}
use Rattle.world_rounds.proofs.rounds.unmounts.end_run.Goals as goal

pub left_of-requires-clause-empty : goal.left_of-requires-clause-empty
left_of-requires-clause-empty c = ap (λ (x : Parts). x.spare.items) c.gather_home-commit.ensures.rest ∙ c.requires.kept.room.empty

pub left_of-requires-clause-room : goal.left_of-requires-clause-room
left_of-requires-clause-room c =
    subst (λ (x : Parts). length x.pending.items + length (unfinished_of x.unfinished) ≤ vec_capacity x.spare) (sym c.gather_home-commit.ensures.rest) (calls_room c.args.p c.requires.kept c.requires.awake)

pub returns-clause-ended : goal.returns-clause-ended
returns-clause-ended c =
    run_ends c.an_unmount_ends_a_run.ensures.whole c.an_unmount_ends_a_run.ensures.empty c.an_unmount_ends_a_run.ensures.lost c.args.p c.gather_home-commit.new.p c.args.lines.items c.requires.kept c.requires.awake c.left_of.result c.left_of.ensures.pm
    (ap (λ (h : Vec Item Global). h.items) c.left_of.ensures.history ∙ ap (λ (x : Parts). x.history.items) c.gather_home-commit.ensures.rest)
    c.gather_home-commit.result c.gather_home-commit.new.power c.end_with.result c.gather_home-commit.ensures.gathered c.gather_home-commit.ensures.paid
    (c.left_of.ensures.unfinished ∙ ap (λ (x : Parts). map begun_by x.pending.items ++ unfinished_of x.unfinished) c.gather_home-commit.ensures.rest) c.end_with.ensures
