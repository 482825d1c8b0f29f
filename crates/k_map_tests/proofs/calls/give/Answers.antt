use Rattle.k_split.specs.MapChanges.{IsGivenUpWith}
use Rattle.k_map_tests.proofs.Lefts.{map-left}
use Rattle.k_map_tests.proofs.calls.give.Goals as goal

pub returns : goal.returns
returns c =
    c.reply_of.ensures c.give_up.new.self
    (map-left (λ w blocks. IsGivenUpWith c.args.staging c.args.k.now w blocks) c.args.k.now c.give_up.new.self c.give_up.result (c.give_up.ensures.answer c.requires.unbatched) c.requires)
