-- The line of a slot is decoded with that slot's number.
use Rattle.std.proofs.Common.{◌≡◌, ◌∙◌, ◌+◌, ◌∷◌, ◌++◌, [], List, ℕ, sym, ap}
use Rattle.std.proofs.lemmas.List.{get_or_read}
use Rattle.pm_lines.specs.pm_model.Images.{words_of}
use Rattle.pm_lines.specs.pm_model.Parts.{Part}
use Rattle.pm_lines.specs.pm_model.Words.{line_bytes}
use Rattle.layout_model.specs.declared.lines.Draft.{Draft}
use Rattle.layout_model.specs.Entries.{decode_entry}
use Rattle.oplog_entry.specs.Scans.{bytes_in}
use Rattle.oplog_entry.proofs.ScanLaws.{entries_skip, entries_take}
use Rattle.oplog_entry.proofs.scanning.scan.Goals as goal
use Rattle.oplog_entry.proofs.scanning.scan.Goals.{in-Some+in_ok-push, in_default}

pub loop-slot-preserved : goal.loop-slot-preserved
loop-slot-preserved c =
    let lines = c.args.lines.now in
    let n = c.loop-slot.slot in
    let base = c.args.base in
    let none : Part = record { place = 0; cells = [] } in
    let line = get_or_read lines n c.index-lines-slot.result c.loop-slot-test.true c.index-lines-slot.is none in
    let bytes = c.bytes_of.ensures ∙ ap (λ (p : Part). line_bytes (words_of p.cells) 0) line in
    let read : c.decode.result ≡ decode_entry (bytes_in lines n) (base + n) = c.decode.ensures ∙ ap (λ (l : List ℕ). decode_entry l (base + n)) bytes in
    elim c.match-decode.branch [
      | in-Some+in_ok-push w ↦
          rw w.found-is
          (w.in_ok-push.ensures.items ∙ ap (λ (xs : List (ℕ × Draft)). xs ++ (n, w.in-Some.draft) ∷ []) c.loop-slot.invariant
          ∙ sym (entries_take lines base n w.in-Some.draft (sym read ∙ w.in-Some.is)))
      | in_default w ↦ rw w.found-is (c.loop-slot.invariant ∙ sym (entries_skip lines base n (sym read ∙ w.in_default.is)))
    ]
