-- One word more stands behind those that stand there.
use Rattle.std.proofs.Common.{◌≡◌, ◌+◌, ◌*◌, ◌++◌, refl, sym, ◌∙◌, ap, arith, take, drop, length, length-append, length-take-le, zero-add}
use Rattle.std.specs.Int.{to_le_bytes, w64}
use Rattle.std.proofs.lemmas.List.{take_at, take_all}
use Rattle.pm_lines.specs.pm_model.Bytes.{line_front-none, line_front-more, line_front-all}
use Rattle.pm_lines.specs.pm_model.Images.{words_of}
use Rattle.oplog_entry.proofs.scanning.bytes_of.Goals as goal

pub loop-word-init : goal.loop-word-init
loop-word-init c = record { size = refl; front = sym (line_front-none (words_of c.args.line.now.cells) 0) }

pub loop-word-preserved : goal.loop-word-preserved
loop-word-preserved c =
    let n = c.loop-word.word in
    let words = words_of c.args.line.now.cells in
    let bytes = c.loop-word.bytes in
    let part = to_le_bytes w64 c.read_word.result in
    let front = take (8 * n) bytes in
    let long : length (front ++ part) ≡ 8 * (n + 1) = omega (arith, length-append front part, length-take-le (8 * n) bytes (omega arith)) in
    let word : part ≡ to_le_bytes w64 (words (8 * 0 + n)) = ap (to_le_bytes w64) (c.read_word.ensures ∙ ap words (sym (zero-add n))) in
    record {
      size = c.put_u64.array_long;
      front = ap (take (8 * (n + 1))) c.put_u64.ensures ∙ take_at (front ++ part) (drop (8 * n + 8) bytes) (8 * (n + 1)) long
          ∙ (λ i. c.loop-word.invariant.front i ++ word i) ∙ sym (line_front-more words 0 n);
    }

pub returns : goal.returns
returns c =
    let eight : c.loop-word.word ≡ 8 = omega arith in
    sym (take_all 64 c.loop-word.bytes (omega arith)) ∙ rw eight at c.loop-word.invariant.front ∙ line_front-all (words_of c.args.line.now.cells) 0
