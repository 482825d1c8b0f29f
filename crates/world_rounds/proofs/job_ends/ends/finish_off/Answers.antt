use Rattle.std.proofs.Common.{◌≡◌, ◌<◌, ◌/◌, ◌++◌, ◌∷◌, ◌∙◌, [], ℕ, true, List, length, subst, sym}
use Rattle.world_parts.specs.pm_model.Cells.{cell, is_lent}
use Rattle.world_parts.specs.pm_model.Parts.{Part}
use Rattle.world_parts.specs.write_jobs.Jobs.{loan_at}
use Rattle.world_parts.specs.world_view_laws.write_jobs.Loans.{AreApart, ComeBack}
use Rattle.world_rounds.proofs.Lost.{finish_kept, finish_so, loans_apart_now, loans_out_now, room_for_claim}
use Rattle.world_rounds.proofs.job_ends.ends.finish_off.Goals as goal

pub settle_blocks-requires-clause-out : goal.settle_blocks-requires-clause-out
settle_blocks-requires-clause-out c =
    subst (λ (loans : List Part). (n i : ℕ) → n < length loans → i / 512 ≡ (loan_at loans n).place → is_lent (cell c.args.p.now.k.cells i) ≡ true) (sym c.into_loans.ensures.loans)
    (loans_out_now c.args.p.now c.requires.kept c.requires.gone c.requires.out c.requires.job.0 c.args.job c.requires.job.1)

pub settle_blocks-requires-clause-apart : goal.settle_blocks-requires-clause-apart
settle_blocks-requires-clause-apart c =
    subst AreApart (sym c.into_loans.ensures.loans) (loans_apart_now c.args.p.now c.requires.kept c.requires.gone c.requires.out c.requires.job.0 c.args.job c.requires.job.1)

pub push_reserved-requires : goal.push_reserved-requires
push_reserved-requires c = room_for_claim c.args.p.now c.requires.kept c.requires.gone c.requires.out c.requires.job.0 c.args.job c.requires.job.1

pub returns-clause-kept : goal.returns-clause-kept
returns-clause-kept c =
    finish_kept c.args.p.now c.requires.kept c.requires.gone c.requires.out c.requires.job.0 c.args.job c.requires.job.1 c.settle_blocks.new.k c.into_loans.ensures.holds
    (subst (λ (loans : List Part). ComeBack loans c.args.p.now.k.cells c.settle_blocks.new.k.cells) c.into_loans.ensures.loans c.settle_blocks.ensures.back) c.args.slot c.push_reserved.new.self
    (c.push_reserved.ensures.items ∙ (λ i. c.args.p.now.claims.items ++ (c.from.ensures i, c.draft-draft.ensures.draft i) ∷ [])) c.push_reserved.ensures.capacity

pub returns-clause-finished : goal.returns-clause-finished
returns-clause-finished c q is power =
    finish_so c.args.p.now c.requires.kept c.requires.gone c.requires.out q c.args.job is c.settle_blocks.new.k c.into_loans.ensures.holds
    (subst (λ (loans : List Part). ComeBack loans c.args.p.now.k.cells c.settle_blocks.new.k.cells) c.into_loans.ensures.loans c.settle_blocks.ensures.back) c.args.slot c.push_reserved.new.self
    (c.push_reserved.ensures.items ∙ (λ i. c.args.p.now.claims.items ++ (c.from.ensures i, c.draft-draft.ensures.draft i) ∷ [])) c.push_reserved.ensures.capacity power
