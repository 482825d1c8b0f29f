use Rattle.std.proofs.Common.{◌≡◌, ◌≤◌, ◌-◌, ◌*◌, ◌^◌, true}
use Rattle.k_split.specs.pm_model.Powers.{is_on, Steps}
use Rattle.staging_files.proofs.GiveUpLaws.{HasGivenUp}
use Rattle.staging_files.proofs.giving.give_up_each.Given as goal

abbrev pub invariant-loop-staging : goal.invariant-loop-staging
invariant-loop-staging l =
    HasGivenUp (l.staging - 1) l.fn.k l.k × Steps (2 ^ 15 * (l.staging - 1)) l.fn.power l.power × (2 ≤ l.staging → is_on l.power ≡ true)
