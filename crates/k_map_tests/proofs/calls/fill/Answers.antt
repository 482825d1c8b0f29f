use Rattle.k_map_tests.proofs.Lefts.{fill-left}
use Rattle.k_map_tests.proofs.calls.fill.Goals as goal

pub returns : goal.returns
returns c =
    c.reply_of.ensures c.fill_holes.new.self
    (fill-left c.args.ino c.args.first c.args.count c.args.k.now c.fill_holes.new.self c.fill_holes.result (c.fill_holes.ensures.answer c.requires.unbatched) c.requires)
