use Rattle.std.proofs.Common.{[], refl, arith}
use Rattle.k_split.proofs.k_plans_proofs.FreeCounts.{unwaiting-counted}
use Rattle.k_map_tests.proofs.calls.has_reserve.Goals as goal

pub returns : goal.returns
returns c enough =
    omega (arith, c.has_free.ensures enough, unwaiting-counted (record { volume = c.args.k.now.volume; aside = []; waiting = c.args.k.now.waiting }) refl c.requires)
