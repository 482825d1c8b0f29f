-- One line more is taken out.
use Rattle.std.proofs.Common.{◌∙◌, ◌+◌, List, subst, sym}
use Rattle.oplog_entry.specs.pm_model.Parts.{Part}
use Rattle.thread_rows.proofs.Taking.{IsTaking, takes_more}
use Rattle.thread_rows.proofs.lines.first_lines.Goals as goal

pub loop-number-preserved : goal.loop-number-preserved
loop-number-preserved c =
    let inv = c.loop-number.invariant in
    record {
      taking = subst (λ (lines : List Part). IsTaking (c.loop-number.number + 1) c.take_line.new.self lines) (sym c.in_ok-push.ensures.items)
          (takes_more c.loop-number.number c.loop-number.pm c.take_line.new.self c.loop-number.lines.items c.take_line.result inv.taking c.take_line.ensures.lent);
      size = c.take_line.ensures.size ∙ inv.size;
    }
