use Rattle.std.proofs.Common.{◌≡◌, ◌<◌, ◌/◌, ◌∙◌, ℕ, true, List, length, ap, subst, sym}
use Rattle.posix_types.specs.declared.call.Who.{Who}
use Rattle.world_parts.specs.in_flight.live_model.Jobs.{without}
use Rattle.world_parts.specs.pm_model.Cells.{cell, is_lent}
use Rattle.world_parts.specs.pm_model.Parts.{Part}
use Rattle.world_parts.specs.write_jobs.Jobs.{loan_at}
use Rattle.world_parts.specs.world_view_laws.write_jobs.Loans.{AreApart, ComeBack}
use Rattle.world_rounds.proofs.Lost.{callers_now, give_kept, give_so, loans_apart_now, loans_out_now}
use Rattle.world_rounds.proofs.job_ends.ends.give_up_off.Goals as goal

pub settle_blocks-requires-clause-out : goal.settle_blocks-requires-clause-out
settle_blocks-requires-clause-out c =
    subst (λ (loans : List Part). (n i : ℕ) → n < length loans → i / 512 ≡ (loan_at loans n).place → is_lent (cell c.args.p.now.k.cells i) ≡ true) (sym c.into_loans.ensures.loans)
    (loans_out_now c.args.p.now c.requires.kept c.requires.gone c.requires.out c.requires.job.0 c.args.job c.requires.job.1)

pub settle_blocks-requires-clause-apart : goal.settle_blocks-requires-clause-apart
settle_blocks-requires-clause-apart c =
    subst AreApart (sym c.into_loans.ensures.loans) (loans_apart_now c.args.p.now c.requires.kept c.requires.gone c.requires.out c.requires.job.0 c.args.job c.requires.job.1)

pub take_job-taken-requires : goal.take_job-taken-requires
take_job-taken-requires c = callers_now c.args.p.now c.requires.kept c.requires.gone c.requires.out c.requires.job.0 c.args.job c.requires.job.1

pub returns-clause-kept : goal.returns-clause-kept
returns-clause-kept c =
    give_kept c.args.p.now c.requires.kept c.requires.gone c.requires.out c.requires.job.0 c.args.job c.requires.job.1 c.settle_blocks.new.k c.into_loans.ensures.holds
    (subst (λ (loans : List Part). ComeBack loans c.args.p.now.k.cells c.settle_blocks.new.k.cells) c.into_loans.ensures.loans c.settle_blocks.ensures.back)
    c.args.full c.ended_by-ended.result c.ended_by-ended.ensures c.take_job-taken.new.pending (c.take_job-taken.ensures.left ∙ ap (λ (w : Who). without w c.args.p.now.pending.items) c.who.ensures)

pub returns-clause-given : goal.returns-clause-given
returns-clause-given c q is =
    give_so c.args.p.now c.requires.kept c.requires.gone c.requires.out q c.args.job is c.settle_blocks.new.k c.into_loans.ensures.holds
    (subst (λ (loans : List Part). ComeBack loans c.args.p.now.k.cells c.settle_blocks.new.k.cells) c.into_loans.ensures.loans c.settle_blocks.ensures.back)
    c.args.full c.ended_by-ended.result c.ended_by-ended.ensures c.take_job-taken.new.pending (c.take_job-taken.ensures.left ∙ ap (λ (w : Who). without w c.args.p.now.pending.items) c.who.ensures)
