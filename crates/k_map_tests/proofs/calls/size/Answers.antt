use Rattle.k_split.specs.MapChanges.{IsSizedWith}
use Rattle.k_map_tests.proofs.Lefts.{map-left}
use Rattle.k_map_tests.proofs.calls.size.Goals as goal

pub returns : goal.returns
returns c =
    c.reply_of.ensures c.set_size.new.self
    (map-left (λ w blocks. IsSizedWith c.args.ino c.from-2.result c.args.k.now w blocks) c.args.k.now c.set_size.new.self c.set_size.result (c.set_size.ensures.answer c.requires.unbatched) c.requires)

pub has_reserve-requires : goal.has_reserve-requires
has_reserve-requires c = c.requires.order.none_waits c.requires.unbatched
