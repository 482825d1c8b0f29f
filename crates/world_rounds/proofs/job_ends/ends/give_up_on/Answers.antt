use Rattle.std.proofs.Common.{◌∙◌, ap}
use Rattle.posix_types.specs.declared.call.Who.{Who}
use Rattle.world_parts.specs.in_flight.live_model.Jobs.{without}
use Rattle.world_rounds.proofs.Finishes.{callers}
use Rattle.world_rounds.proofs.GivesUp.{given_kept, given_so, may_give_up}
use Rattle.world_rounds.proofs.job_ends.ends.give_up_on.Goals as goal

pub take_job-taken-requires : goal.take_job-taken-requires
take_job-taken-requires c = callers c.args.p.now c.requires.kept c.requires.awake c.requires.out c.args.job c.requires.job.0 c.requires.job.1

pub give_up_write-requires : goal.give_up_write-requires
give_up_write-requires c = may_give_up c.args.p.now c.requires.kept c.requires.awake c.requires.out c.args.job c.requires.job.0 c.requires.job.1

pub returns-clause-kept : goal.returns-clause-kept
returns-clause-kept c =
    given_kept c.args.p.now c.requires.kept c.requires.awake c.requires.out c.args.job c.requires.job.0 c.requires.job.1 c.args.full c.ended_by.result c.ended_by.ensures c.give_up_write.new.k c.give_up_write.new.staging c.take_job-taken.new.pending
    (c.take_job-taken.ensures.left ∙ ap (λ (w : Who). without w c.args.p.now.pending.items) c.who.ensures) c.give_up_write.ensures.same c.give_up_write.ensures.runs c.give_up_write.ensures.run_back c.give_up_write.ensures.leaves

pub returns-clause-given : goal.returns-clause-given
returns-clause-given c q is =
    given_so c.args.p.now c.requires.kept c.requires.awake c.requires.out c.args.job q is c.args.full c.ended_by.result c.ended_by.ensures c.give_up_write.new.k c.give_up_write.new.staging c.take_job-taken.new.pending
    (c.take_job-taken.ensures.left ∙ ap (λ (w : Who). without w c.args.p.now.pending.items) c.who.ensures) c.give_up_write.ensures.same c.give_up_write.ensures.runs c.give_up_write.ensures.run_back c.give_up_write.ensures.leaves
