use Rattle.k_plans.specs.Maps.{WritesFirst}
use Rattle.k_group_commit.proofs.groups.write_all.Given as goal

-- the maps before `one` are written
abbrev pub invariant-loop-one : goal.invariant-loop-one
invariant-loop-one l = WritesFirst l.maps l.one-index l.fn.pm l.pm l.fn.power l.power
