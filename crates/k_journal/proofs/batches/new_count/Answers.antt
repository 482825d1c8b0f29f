use Rattle.std.proofs.Common.{◌≡◌, ◌+◌, ℕ, true, false, length, take, sym, ◌∙◌, arith}
use Rattle.k_journal.specs.Batch.{has_line, target, new_lines}
use Rattle.k_journal.proofs.Laid.{new_lines-count}
use Rattle.k_journal.proofs.batches.new_count.Goals as goal
use Rattle.k_journal.proofs.batches.new_count.Goals.{then-not-sets_line, else-not-sets_line}

pub loop-entry-preserved : goal.loop-entry-preserved
loop-entry-preserved c =
    let i : ℕ = c.loop-entry.entry-index in
    let more = new_lines-count c.args.entries.now c.args.others.now i c.loop-entry-test.true in
    elim c.if-not-sets_line.branch [
      | then-not-sets_line w ↦
          let none : has_line c.args.entries.now (target c.args.others.now i) ≡ false = sym c.sets_line.ensures ∙ w.if-not-sets_line.true in
          let one : length (new_lines c.args.entries.now (take (i + 1) c.args.others.now)) ≡ length (new_lines c.args.entries.now (take i c.args.others.now)) + 1 = rw none at more in
          record { counted = omega (arith, one, w.count-is, c.loop-entry.invariant.counted); few = omega (arith, w.count-is, c.loop-entry.invariant.few) }
      | else-not-sets_line w ↦
          let known : has_line c.args.entries.now (target c.args.others.now i) ≡ true = sym c.sets_line.ensures ∙ w.if-not-sets_line.false in
          let same : length (new_lines c.args.entries.now (take (i + 1) c.args.others.now)) ≡ length (new_lines c.args.entries.now (take i c.args.others.now)) + 0 = rw known at more in
          record { counted = omega (arith, same, w.count-is, c.loop-entry.invariant.counted); few = omega (arith, w.count-is, c.loop-entry.invariant.few) }
    ]
