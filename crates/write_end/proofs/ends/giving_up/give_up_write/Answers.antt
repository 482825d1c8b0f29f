use Rattle.std.proofs.Common.{◌≡◌, ◌<◌, ◌+◌, ◌/◌, ◌∙◌, ap, ℕ, true, List, length, subst, sym}
use Rattle.std.specs.Prelude.{Contains}
use Rattle.in_place.specs.write_plan.pm_model.Cells.{cell, is_lent}
use Rattle.in_place.specs.write_plan.pm_model.Parts.{Part}
use Rattle.in_place.specs.live_model.write_jobs.world_image_laws.k_split_model.View.{View}
use Rattle.in_place.specs.live_model.staging_files.declared.runs.StageRun.{StageRun}
use Rattle.in_place.specs.live_model.staging_files.GivesUp.{IsGivenBack}
use Rattle.in_place.specs.live_model.staging_files.Keeps.{Staged}
use Rattle.in_place.specs.live_model.write_jobs.Jobs.{loan_at}
use Rattle.in_place.specs.live_model.write_jobs.Loans.{AreApart, ComeBack}
use Rattle.in_place.specs.live_model.Standing.{reserved_run}
use Rattle.write_end.proofs.Ending.{loans_apart, loans_out}
use Rattle.write_end.proofs.GivesUp.{give_up_leaves, one_fewer, run_out}
use Rattle.write_end.proofs.ends.giving_up.give_up_write.Goals as goal

pub settle_blocks-requires-clause-out : goal.settle_blocks-requires-clause-out
settle_blocks-requires-clause-out c =
    subst (λ (loans : List Part). (n i : ℕ) → n < length loans → i / 512 ≡ (loan_at loans n).place → is_lent (cell c.args.k.now.cells i) ≡ true) (sym c.into_loans.ensures.loans)
    (loans_out c.args.k.now c.args.job c.requires.0)

pub settle_blocks-requires-clause-apart : goal.settle_blocks-requires-clause-apart
settle_blocks-requires-clause-apart c = subst AreApart (sym c.into_loans.ensures.loans) (loans_apart c.args.k.now c.args.job c.requires.0)

pub give_back-requires : goal.give_back-requires
give_back-requires c =
    subst (λ (run : StageRun). Contains c.args.staging.now.out run) (sym (c.stage_run_of.ensures ∙ ap reserved_run c.draft.ensures.draft))
    (subst (λ (s : Staged). Contains s.out (reserved_run c.args.job.draft)) c.requires.1 (run_out c.args.k.now c.args.job c.requires.0))

pub returns-clause-runs : goal.returns-clause-runs
returns-clause-runs c =
    let back = c.give_back.ensures.back in
    ap (λ (s : Staged). length s.out + 1) back.now ∙ one_fewer c.args.staging.now.out back.place c.stage_run_of.result back.was

pub returns-clause-run_back : goal.returns-clause-run_back
returns-clause-run_back c =
    subst (λ (run : StageRun). IsGivenBack run c.args.staging.now c.give_back.new.self) (c.stage_run_of.ensures ∙ ap reserved_run c.draft.ensures.draft) c.give_back.ensures.back

pub returns-clause-leaves : goal.returns-clause-leaves
returns-clause-leaves c = λ has staging.
    give_up_leaves c.args.k.now c.settle_blocks.new.k c.args.job c.args.staging.now c.give_back.new.self c.stage_run_of.result c.into_loans.ensures.holds
    (subst (λ (loans : List Part). ComeBack loans c.args.k.now.cells c.settle_blocks.new.k.cells) c.into_loans.ensures.loans c.settle_blocks.ensures.back)
    c.settle_blocks.ensures.same (c.is_lost-lost.ensures.order (ap (λ (w : View). w.lost) c.settle_blocks.ensures.same ∙ has.stands.on))
    (c.stage_run_of.ensures ∙ ap reserved_run c.draft.ensures.draft) c.give_back.ensures.back c.owed-owed.ensures.keeps c.give_back.ensures.agrees c.give_back.ensures.single has staging
