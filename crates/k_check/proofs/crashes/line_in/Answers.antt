-- One word more stands behind those that stand there.
use Rattle.std.proofs.Common.{◌≡◌, ◌+◌, ◌*◌, ◌++◌, refl, sym, ◌∙◌, ap, arith, take, drop, length, length-append, length-take-le}
use Rattle.std.specs.Int.{to_le_bytes, w64}
use Rattle.std.proofs.lemmas.List.{take_at, take_all}
use Rattle.oplog_entry.specs.pm_model.Bytes.{line_front-none, line_front-more, line_front-all}
use Rattle.oplog_entry.specs.pm_model.Words.{word_at}
use Rattle.k_check.proofs.crashes.line_in.Goals as goal

pub loop-word-init : goal.loop-word-init
loop-word-init c = record { size = refl; front = sym (line_front-none (word_at c.args.bytes.now) c.args.line) }

pub loop-word-preserved : goal.loop-word-preserved
loop-word-preserved c =
    let n = c.loop-word.word in
    let words = word_at c.args.bytes.now in
    let content = c.loop-word.content in
    let part = to_le_bytes w64 c.word_in.result in
    let front = take (8 * n) content in
    let long : length (front ++ part) ≡ 8 * (n + 1) = omega (arith, length-append front part, length-take-le (8 * n) content (omega arith)) in
    let word : part ≡ to_le_bytes w64 (words (8 * c.args.line + n)) = ap (to_le_bytes w64) c.word_in.ensures in
    record {
      size = c.put_u64.array_long;
      front = ap (take (8 * (n + 1))) c.put_u64.ensures ∙ take_at (front ++ part) (drop (8 * n + 8) content) (8 * (n + 1)) long
          ∙ (λ i. c.loop-word.invariant.front i ++ word i) ∙ sym (line_front-more words c.args.line n);
    }

pub returns : goal.returns
returns c =
    let eight : c.loop-word.word ≡ 8 = omega arith in
    sym (take_all 64 c.loop-word.content (omega arith)) ∙ rw eight at c.loop-word.invariant.front ∙ line_front-all (word_at c.args.bytes.now) c.args.line
