use Rattle.std.proofs.Common.{◌<◌, arith, length, sym}
use Rattle.write_plan.proofs.Orders.{last_order}
use Rattle.write_plan.proofs.drafts.drafts.order_behind.Goals as goal

pub overflow_add-result-else-is_empty : goal.overflow_add-result-else-is_empty
overflow_add-result-else-is_empty c =
    let some : 0 < length c.args.runs.now = grind arith in
    let last = last_order c.args.applied c.args.runs.now (record { file_block = 0; staging = 0; staging_block = 0; count = 0; order = 0 }) some in
    omega (arith, last, c.requires)

pub returns-else-is_empty : goal.returns-else-is_empty
returns-else-is_empty c =
    let some : 0 < length c.args.runs.now = grind arith in
    sym (last_order c.args.applied c.args.runs.now (record { file_block = 0; staging = 0; staging_block = 0; count = 0; order = 0 }) some)
