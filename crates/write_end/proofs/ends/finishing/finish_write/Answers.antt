use Rattle.std.proofs.Common.{◌≡◌, ◌<◌, ◌≤◌, ◌+◌, ◌/◌, ◌++◌, ◌∷◌, [], ◌∙◌, ap, arith, ℕ, true, List, length, subst, sym}
use Rattle.in_place.specs.write_plan.pm_model.Cells.{cell, is_lent}
use Rattle.in_place.specs.write_plan.pm_model.Parts.{Part}
use Rattle.layout_model.specs.declared.lines.Draft.{Draft}
use Rattle.layout_model.specs.block_counts.declared.TheConstants.{LONGEST_FILE}
use Rattle.file_overlay.specs.declared.runs.Run.{Run}
use Rattle.in_place.specs.write_plan.file_table.Files.{ChangesFile, runs_in}
use Rattle.in_place.specs.live_model.write_jobs.world_image_laws.k_split_model.View.{View}
use Rattle.in_place.specs.live_model.Overlays.{run_of}
use Rattle.posix_types.specs.declared.call.Who.{Who}
use Rattle.in_place.specs.live_model.write_jobs.Jobs.{loan_at}
use Rattle.in_place.specs.live_model.write_jobs.Loans.{AreApart, ComeBack}
use Rattle.in_place.specs.write_plan.Asks.{moved_by}
use Rattle.write_end.proofs.Asked.{finish_lands, may_lay, may_move_by}
use Rattle.write_end.proofs.Ending.{loans_apart, loans_out}
use Rattle.write_end.proofs.Landed.{landed_is_finished}
use Rattle.write_end.proofs.ends.finishing.finish_write.Goals as goal

pub move_by-requires : goal.move_by-requires
move_by-requires c = may_move_by c.args.k.now c.args.job c.args.tables.now.tables c.args.files.now c.args.call.now c.who.result c.requires.job c.who.ensures

pub settle_blocks-requires-clause-out : goal.settle_blocks-requires-clause-out
settle_blocks-requires-clause-out c =
    subst (λ (loans : List Part). (n i : ℕ) → n < length loans → i / 512 ≡ (loan_at loans n).place → is_lent (cell c.args.k.now.cells i) ≡ true) (sym c.into_loans.ensures.loans)
    (loans_out c.args.k.now c.args.job c.requires.job.0)

pub settle_blocks-requires-clause-apart : goal.settle_blocks-requires-clause-apart
settle_blocks-requires-clause-apart c = subst AreApart (sym c.into_loans.ensures.loans) (loans_apart c.args.k.now c.args.job c.requires.job.0)

pub lay-requires-clause-below : goal.lay-requires-clause-below
lay-requires-clause-below c =
    let may = may_lay c.args.k.now c.args.job c.requires.job.0 c.args.files.now c.requires.job.1.files_are in
    subst (λ (d : Draft). d.ino < length c.args.files.now.sizes) (sym c.draft.ensures.draft) may.below

pub lay-requires-clause-in_file : goal.lay-requires-clause-in_file
lay-requires-clause-in_file c =
    let may = may_lay c.args.k.now c.args.job c.requires.job.0 c.args.files.now c.requires.job.1.files_are in
    omega (
      arith,
      may.in_file,
      ap (λ (r : Run). r.file_block + r.count) c.run_of.ensures,
      ap (λ (d : Draft). d.file_block + d.count) c.draft.ensures.draft,
    )

pub lay-requires-clause-in_staging : goal.lay-requires-clause-in_staging
lay-requires-clause-in_staging c =
    let may = may_lay c.args.k.now c.args.job c.requires.job.0 c.args.files.now c.requires.job.1.files_are in
    omega (
      arith,
      may.in_staging,
      ap (λ (r : Run). r.staging_block + r.count) c.run_of.ensures,
      ap (λ (d : Draft). d.staging_block + d.count) c.draft.ensures.draft,
    )

pub lay-requires-clause-small : goal.lay-requires-clause-small
lay-requires-clause-small c =
    let may = may_lay c.args.k.now c.args.job c.requires.job.0 c.args.files.now c.requires.job.1.files_are in
    subst (λ (d : Draft). d.size ≤ LONGEST_FILE) (sym c.draft.ensures.draft) may.small

pub returns-clause-lands : goal.returns-clause-lands
returns-clause-lands c = λ has write.
    finish_lands c.args.k.now c.settle_blocks.new.k c.args.job c.args.tables.now.tables c.move_by.new.tables.tables c.args.files.now c.lay.new.self c.args.call.now c.args.slot
    c.into_loans.ensures.holds (subst (λ (loans : List Part). ComeBack loans c.args.k.now.cells c.settle_blocks.new.k.cells) c.into_loans.ensures.loans c.settle_blocks.ensures.back)
    c.settle_blocks.ensures.same (c.is_lost-lost.ensures.order (ap (λ (w : View). w.lost) c.settle_blocks.ensures.same ∙ has.stands.on))
    (c.move_by.ensures ∙ ap (λ (w : Who). moved_by c.args.tables.now.tables c.args.files.now w c.args.call.now) c.who.ensures)
    (subst (λ (d : Draft). ChangesFile d.ino (runs_in c.args.files.now d.ino ++ run_of d ∷ []) d.size c.args.files.now c.lay.new.self) c.draft.ensures.draft
    (subst (λ (r : Run). ChangesFile c.draft.result.now.ino (runs_in c.args.files.now c.draft.result.now.ino ++ r ∷ []) c.draft.result.now.size c.args.files.now c.lay.new.self) c.run_of.ensures c.lay.ensures))
    has write

pub returns-clause-leaves : goal.returns-clause-leaves
returns-clause-leaves c = λ has write strict.
    landed_is_finished c.args.k.now c.settle_blocks.new.k c.args.job has c.args.slot c.move_by.new.tables.tables c.lay.new.self strict (returns-clause-lands c has write)
