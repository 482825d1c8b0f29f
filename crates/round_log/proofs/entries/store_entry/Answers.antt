use Rattle.std.proofs.Common.{◌≡◌, ◌∙◌, arith, subst, sym, ℕ, List}
use Rattle.oplog_entry.specs.pm_model.Bytes.{word_at-bytes}
use Rattle.oplog_entry.specs.pm_model.Powers.{is_on}
use Rattle.oplog_entry.specs.pm_model.PowerLaws.{Steps-then}
use Rattle.oplog_entry.specs.pm_model.Words.{word_at}
use Rattle.oplog_entry.specs.EntryLines.{entry_words}
use Rattle.oplog_entry.proofs.EntryWords.{IsStoring, stores_more}
use Rattle.round_log.proofs.Storing.{stored_all, took_last}
use Rattle.round_log.proofs.entries.store_entry.Goals as goal

pub loop-word-preserved : goal.loop-word-preserved
loop-word-preserved c =
    let inv = c.loop-word.invariant in
    let word : c.u64_at.result ≡ word_at c.encode-bytes.result c.loop-word.word = c.u64_at.ensures ∙ sym (word_at-bytes c.encode-bytes.result c.loop-word.word) in
    record {
      stores = stores_more c.args.line.now.cells (word_at c.encode-bytes.result) c.loop-word.word (is_on c.loop-word.power) (is_on c.store_word.new.power) c.u64_at.result
          c.loop-word.line.cells c.store_word.new.self.cells c.requires c.loop-word-test.true c.store_word.ensures.steps.on_before word inv.stores c.store_word.ensures.store;
      place = c.store_word.ensures.place ∙ inv.place;
      steps = Steps-then c.loop-word.word 1 c.args.power.now c.loop-word.power c.store_word.new.power inv.steps c.store_word.ensures.steps;
      took = λ some. took_last c.loop-word.word 1 c.args.power.now c.loop-word.power c.store_word.new.power inv.steps c.store_word.ensures.steps c.store_word.ensures.power;
    }

pub returns-clause-took : goal.returns-clause-took
returns-clause-took c = c.loop-word.invariant.took (omega arith)

pub returns-clause-stored : goal.returns-clause-stored
returns-clause-stored c =
    let eight : c.loop-word.word ≡ 8 = omega arith in
    stored_all c.args.line.now.cells (entry_words c.args.draft.now c.args.seq) (is_on c.loop-word.power) c.loop-word.line.cells
    (subst (λ (n : ℕ). IsStoring c.args.line.now.cells (entry_words c.args.draft.now c.args.seq) n (is_on c.loop-word.power) c.loop-word.line.cells) eight
    (subst (λ (bytes : List ℕ). IsStoring c.args.line.now.cells (word_at bytes) c.loop-word.word (is_on c.loop-word.power) c.loop-word.line.cells) c.encode-bytes.ensures c.loop-word.invariant.stores))
