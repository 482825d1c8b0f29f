use Rattle.k_map_tests.proofs.Lefts.{bytes-left}
use Rattle.k_map_tests.proofs.calls.write.Goals as goal

pub returns : goal.returns
returns c =
    c.reply_of.ensures c.write_in_place.new.self
    (bytes-left c.args.ino c.from.result c.deref.result.now c.args.k.now c.write_in_place.new.self c.write_in_place.result
    c.write_in_place.ensures.answer c.requires)
