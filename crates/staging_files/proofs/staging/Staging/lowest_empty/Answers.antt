use Rattle.std.proofs.Common.{◌≡◌, false, subst, arith}
use Rattle.staging_files.specs.Reserves.{has_empty}
use Rattle.staging_files.proofs.StagedLaws.{none-empty}
use Rattle.staging_files.proofs.staging.Staging.lowest_empty.Goals as goal

pub returns-clause-none : goal.returns-clause-none
returns-clause-none c =
    subst (λ s. has_empty s ≡ false) c.self.view_is
    (none-empty (record { out = c.self.inside.out.items; given = c.self.inside.given }) c.self.invariant (λ y is. c.loop-staging.invariant y is (omega (arith, is.most))))
