-- One word more is stored; and once the eight words stand, the line is flushed and fenced.
use Rattle.std.proofs.Common.{◌≡◌, ◌∙◌, arith, subst, sym, ℕ, List, cond, Bool}
use Rattle.oplog_entry.specs.image_model.pm_model.Bytes.{word_at-bytes}
use Rattle.oplog_entry.specs.image_model.pm_model.Powers.{is_on}
use Rattle.oplog_entry.specs.image_model.pm_model.PowerLaws.{Steps-then}
use Rattle.oplog_entry.specs.image_model.pm_model.Words.{word_at}
use Rattle.oplog_entry.specs.EntryLines.{Holds, entry_words}
use Rattle.oplog_entry.specs.declared.claims.Mark.TheVariants.{Lost, Written}
use Rattle.oplog_entry.proofs.EntryWords.{finishes, IsStoring, stores_more}
use Rattle.oplog_tail.proofs.writing.write_entry.Goals as goal

pub loop-word-preserved : goal.loop-word-preserved
loop-word-preserved c =
    let inv = c.loop-word.invariant in
    let word : c.u64_at.result ≡ word_at c.encode-bytes.result c.loop-word.word = c.u64_at.ensures ∙ sym (word_at-bytes c.encode-bytes.result c.loop-word.word) in
    record {
      stores = stores_more c.args.line.now.cells (word_at c.encode-bytes.result) c.loop-word.word (is_on c.loop-word.power) (is_on c.store_word.new.power) c.u64_at.result
          c.loop-word.line.cells c.store_word.new.self.cells c.requires c.loop-word-test.true c.store_word.ensures.steps.on_before word inv.stores c.store_word.ensures.store;
      place = c.store_word.ensures.place ∙ inv.place;
      steps = Steps-then c.loop-word.word 1 c.args.power.now c.loop-word.power c.store_word.new.power inv.steps c.store_word.ensures.steps;
    }

pub returns-clause-holds : goal.returns-clause-holds
returns-clause-holds c =
    let eight : c.loop-word.word ≡ 8 = omega arith in
    let storing : IsStoring c.args.line.now.cells (entry_words c.args.draft.now c.args.seq) 8 (is_on c.loop-word.power) c.loop-word.line.cells =
    subst (λ (n : ℕ). IsStoring c.args.line.now.cells (entry_words c.args.draft.now c.args.seq) n (is_on c.loop-word.power) c.loop-word.line.cells) eight
    (subst (λ (bytes : List ℕ). IsStoring c.args.line.now.cells (word_at bytes) c.loop-word.word (is_on c.loop-word.power) c.loop-word.line.cells) c.encode-bytes.ensures c.loop-word.invariant.stores) in
    subst (λ (b : Bool). Holds (cond b Written Lost) c.args.draft.now c.args.seq c.args.line.now.cells c.fence.new.self.cells) (sym c.on.ensures)
    (finishes c.args.draft.now c.args.seq c.args.line.now.cells c.loop-word.line.cells c.flush.new.self.cells c.fence.new.self.cells
    (is_on c.loop-word.power) (is_on c.flush.new.power) (is_on c.fence.new.power) c.requires c.flush.ensures.steps.on_before c.fence.ensures.steps.on_before storing c.flush.ensures.flush c.fence.ensures.fence)
