use Rattle.world_begins.proofs.Rooming.{few_jobs, roomy_kept, roomy_seen}
use Rattle.world_begins.proofs.begins.begins.make_room.Goals as goal

pub reserve_one-requires : goal.reserve_one-requires
reserve_one-requires c = record { few = few_jobs c.args.p.now c.requires.kept }

pub returns-clause-kept : goal.returns-clause-kept
returns-clause-kept c =
    roomy_kept c.args.p.now c.requires.kept c.reserve_one.new.history c.reserve_one.new.claims c.reserve_one.new.pending c.reserve_one.new.spare c.reserve_one.ensures.history c.reserve_one.ensures.claims c.reserve_one.ensures.pending c.reserve_one.ensures.spare

pub returns-clause-view : goal.returns-clause-view
returns-clause-view c =
    roomy_seen c.args.p.now c.requires.kept c.reserve_one.new.history c.reserve_one.new.claims c.reserve_one.new.pending c.reserve_one.new.spare c.reserve_one.ensures.history c.reserve_one.ensures.claims c.reserve_one.ensures.pending c.reserve_one.ensures.spare
