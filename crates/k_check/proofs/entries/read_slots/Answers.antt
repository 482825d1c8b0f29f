use Rattle.std.proofs.Common.{ℕ, sym, ◌∙◌, ◌∷◌, [], ◌++◌, ◌+◌, arith}
use Rattle.std.proofs.lemmas.List.FromFn.{map-range_with_len_more}
use Rattle.std.specs.Prelude.{Option}
use Rattle.oplog_entry.specs.layout_model.declared.lines.Draft.{Draft}
use Rattle.oplog_entry.specs.layout_model.Entries.{decode_entry}
use Rattle.oplog_entry.specs.layout_model.Journal.{journaled}
use Rattle.oplog_entry.specs.layout_model.Places.{log_line}
use Rattle.oplog_entry.specs.pm_model.Images.{words_of}
use Rattle.oplog_entry.specs.pm_model.Words.{line_bytes}
use Rattle.k_check.proofs.entries.read_slots.Goals as goal

pub loop-slot-preserved : goal.loop-slot-preserved
loop-slot-preserved c =
    let j = journaled (words_of c.args.pm.now) in
    let read : ℕ → Option Draft = λ s. decode_entry (line_bytes j (log_line c.args.geometry.now s)) (c.args.base + s) in
    c.in_ok-push.ensures.items
    ∙ (λ i. c.loop-slot.invariant i ++ (c.decode.ensures ∙ (λ k. decode_entry (c.log_bytes.ensures k) (c.args.base + c.from.ensures k))) i ∷ [])
    ∙ sym (map-range_with_len_more read 0 c.loop-slot.slot c.loop-slot.slot (omega arith))
