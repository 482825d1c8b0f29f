use Rattle.k_split.specs.MapChanges.{IsPreallocatedWith}
use Rattle.k_map_tests.proofs.Lefts.{map-left}
use Rattle.k_map_tests.proofs.calls.take.Goals as goal

pub returns : goal.returns
returns c =
    c.reply_of.ensures c.preallocate.new.self
    (map-left (λ w blocks. IsPreallocatedWith c.args.staging c.args.count c.args.k.now w blocks) c.args.k.now c.preallocate.new.self c.preallocate.result (c.preallocate.ensures.answer c.requires.unbatched) c.requires)
