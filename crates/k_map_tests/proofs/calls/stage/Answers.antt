use Rattle.std.proofs.Common.{◌*◌, ◌+◌}
use Rattle.k_map_tests.proofs.Lefts.{bytes-left}
use Rattle.k_map_tests.proofs.calls.stage.Goals as goal

pub returns : goal.returns
returns c =
    c.reply_of.ensures c.write_staged.new.self
    (bytes-left c.args.staging (4096 * c.args.block + c.args.put.at) c.deref.result.now c.args.k.now c.write_staged.new.self
    c.write_staged.result c.write_staged.ensures.answer c.requires)
