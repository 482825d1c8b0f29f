use Rattle.k_split.specs.MapChanges.{IsMovedWith}
use Rattle.k_map_tests.proofs.Lefts.{map-left}
use Rattle.k_map_tests.proofs.calls.relink.Goals as goal

pub returns : goal.returns
returns c =
    c.reply_of.ensures c.relink.new.self
    (map-left (λ w blocks. IsMovedWith c.args.asked.now c.args.k.now w blocks) c.args.k.now c.relink.new.self c.relink.result (c.relink.ensures.answer c.requires.unbatched) c.requires)

pub has_reserve-requires : goal.has_reserve-requires
has_reserve-requires c = c.requires.order.none_waits c.requires.unbatched
