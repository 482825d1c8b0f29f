use Rattle.std.proofs.Common.{sym, ◌∙◌}
use Rattle.k_split.proofs.LookLaws.{led-long, led-walk}
use Rattle.k_split.proofs.state.KSplit.directory_of.Goals as goal

pub returns-then-is_too_long : goal.returns-then-is_too_long
returns-then-is_too_long c = led-long c.args.self.now.volume c.args.path.now (sym c.is_too_long.ensures ∙ c.if-is_too_long.true)

pub returns : goal.returns
returns c =
    let k = c.self.inside in
    led-walk c.args.self.now k.tables k.group k.pm k.batched k.lost c.inodes.result.now c.names.result.now c.args.path.now c.self.view_is
    c.inodes.ensures c.names.ensures c.parent_of.result (sym c.is_too_long.ensures ∙ c.if-is_too_long.false) c.parent_of.ensures
