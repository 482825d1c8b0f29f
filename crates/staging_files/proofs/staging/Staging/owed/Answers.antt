use Rattle.std.proofs.Common.{◌≤◌, length, arith}
use Rattle.staging_files.specs.FewRuns.{few_runs}
use Rattle.staging_files.proofs.staging.Staging.owed.Goals as goal

pub overflow_cast-result : goal.overflow_cast-result
overflow_cast-result c =
    let few : length c.self.inside.out.items ≤ 256 = few_runs (record { out = c.self.inside.out.items; given = c.self.inside.given }) c.self.invariant in
    omega (arith, few)

pub returns-clause-few : goal.returns-clause-few
returns-clause-few c =
    let few : length c.self.inside.out.items ≤ 256 = few_runs (record { out = c.self.inside.out.items; given = c.self.inside.given }) c.self.invariant in
    omega (arith, few)
