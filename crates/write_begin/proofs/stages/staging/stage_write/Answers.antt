use Rattle.std.proofs.Common.{◌∙◌, List, ℕ, ap, subst, sym}
use Rattle.write_jobs.specs.pm_model.Parts.{Part}
use Rattle.write_jobs.specs.layout_model.declared.lines.Draft.{Draft}
use Rattle.write_jobs.specs.layout_model.EntryLaws.{FitsDraft}
use Rattle.write_jobs.specs.k_split_model.View.{View}
use Rattle.write_jobs.specs.Jobs.{AreOfEntry, blocks_of, JobView}
use Rattle.write_jobs.specs.Loans.{AreLentBy, MayLendAll}
use Rattle.write_plan.specs.Drafts.{draft_in}
use Rattle.write_begin.specs.Stages.{IsStaged}
use Rattle.write_begin.proofs.Making.{are_single, may_lend, of_entry, readable, small_order}
use Rattle.write_begin.proofs.Staged.{is_staged}
use Rattle.write_begin.proofs.stages.staging.stage_write.Goals as goal

pub draft_of-draft-requires-clause-order : goal.draft_of-draft-requires-clause-order
draft_of-draft-requires-clause-order c = small_order c.args.k.now c.args.files.now c.args.who c.args.target c.args.bytes.now c.args.run c.requires c.entries_are_the_next_ones.ensures

pub words_of_write-requires-clause-readable : goal.words_of_write-requires-clause-readable
words_of_write-requires-clause-readable c = readable c.args.k.now c.args.files.now c.args.who c.args.target c.args.bytes.now c.args.run c.requires c.words_spell_the_file.ensures.readable

pub lend_blocks-requires-clause-may : goal.lend_blocks-requires-clause-may
lend_blocks-requires-clause-may c =
    subst (λ (d : Draft). MayLendAll c.args.k.now.volume c.args.k.now.cells d) (sym (c.draft_of-draft.ensures.draft ∙ ap (λ (n : ℕ). draft_in c.args.k.now.volume c.args.files.now c.args.target n c.args.run) c.len.ensures))
    (may_lend c.args.k.now c.args.files.now c.args.who c.args.target c.args.bytes.now c.args.run c.requires)

pub of-requires-clause-entry : goal.of-requires-clause-entry
of-requires-clause-entry c =
    let lent = subst (λ (d : Draft). AreLentBy c.args.k.now.volume d c.args.k.now.cells c.lend_blocks.new.k.cells c.in_ok-loans.loans.items) (c.draft_of-draft.ensures.draft ∙ ap (λ (n : ℕ). draft_in c.args.k.now.volume c.args.files.now c.args.target n c.args.run) c.len.ensures) c.in_ok-loans.ensures.lent in
    subst (λ (d : Draft). AreOfEntry d c.in_ok-loans.loans.items c.in_ok-words.words) (sym (c.draft_of-draft.ensures.draft ∙ ap (λ (n : ℕ). draft_in c.args.k.now.volume c.args.files.now c.args.target n c.args.run) c.len.ensures))
    (of_entry c.args.k.now c.args.files.now c.args.who c.args.target c.args.bytes.now c.args.run c.requires c.in_ok-loans.loans.items c.in_ok-words.words lent.loans_are c.in_ok-words.ensures.words)

pub of-requires-clause-single : goal.of-requires-clause-single
of-requires-clause-single c =
    let lent = subst (λ (d : Draft). AreLentBy c.args.k.now.volume d c.args.k.now.cells c.lend_blocks.new.k.cells c.in_ok-loans.loans.items) (c.draft_of-draft.ensures.draft ∙ ap (λ (n : ℕ). draft_in c.args.k.now.volume c.args.files.now c.args.target n c.args.run) c.len.ensures) c.in_ok-loans.ensures.lent in
    are_single c.args.k.now c.args.files.now c.args.who c.args.target c.args.bytes.now c.args.run c.requires c.in_ok-loans.loans.items lent.loans_are

pub returns-clause-staged : goal.returns-clause-staged
returns-clause-staged c = λ ready.
    let lent = subst (λ (d : Draft). AreLentBy c.args.k.now.volume d c.args.k.now.cells c.lend_blocks.new.k.cells c.in_ok-loans.loans.items) (c.draft_of-draft.ensures.draft ∙ ap (λ (n : ℕ). draft_in c.args.k.now.volume c.args.files.now c.args.target n c.args.run) c.len.ensures) c.in_ok-loans.ensures.lent in
    subst
    (λ (words : List ℕ). IsStaged c.args.k.now c.lend_blocks.new.k c.args.files.now c.args.who c.args.target c.args.bytes.now c.args.run words c.note_blocks.new.blocks.items ready)
    (sym (ap (λ (job : JobView). job.words) c.of.ensures))
    (is_staged c.entries_are_the_next_ones.ensures c.words_spell_the_file.ensures.staged c.a_job_begins_in_flight.ensures c.args.k.now c.lend_blocks.new.k c.args.files.now c.args.who c.args.target c.args.bytes.now c.args.run
    c.in_ok-words.words c.note_blocks.new.blocks.items c.in_ok-loans.loans.items ready (subst FitsDraft (c.draft_of-draft.ensures.draft ∙ ap (λ (n : ℕ). draft_in c.args.k.now.volume c.args.files.now c.args.target n c.args.run) c.len.ensures) c.draft_of-draft.ensures.fields)
    (c.note_blocks.ensures ∙ ap (λ (loans : List Part). blocks_of loans) c.deref.ensures.value) lent c.in_ok-loans.ensures.same
    (c.is_lost-lost.ensures.order (ap (λ (y : View). y.lost) c.in_ok-loans.ensures.same ∙ ready.stands.on)) c.in_ok-words.ensures.words)
