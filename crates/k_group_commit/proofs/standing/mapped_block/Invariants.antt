use Rattle.std.specs.Prelude.{length}
use Rattle.pm_lines.specs.pm_model.Images.{words_of}
use Rattle.k_group_commit.specs.StandingLaws.{IsWalked}
use Rattle.k_group_commit.proofs.standing.mapped_block.Given as goal

-- the extents before do not have the block
abbrev pub invariant-loop-k : goal.invariant-loop-k
invariant-loop-k l = IsWalked (words_of l.pm) (length l.pm) l.root l.count l.block l.k l.at
