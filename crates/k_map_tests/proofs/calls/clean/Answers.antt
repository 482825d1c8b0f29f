use Rattle.k_split.specs.Bytes.{tail_zeros}
use Rattle.k_map_tests.proofs.Lefts.{bytes-left}
use Rattle.k_map_tests.proofs.calls.clean.Goals as goal

pub returns : goal.returns
returns c =
    c.reply_of.ensures c.clean_tail.new.self
    (bytes-left c.args.ino c.from-2.result (tail_zeros c.args.k.now.volume c.args.ino c.from-2.result) c.args.k.now c.clean_tail.new.self
    c.clean_tail.result c.clean_tail.ensures.answer c.requires)
