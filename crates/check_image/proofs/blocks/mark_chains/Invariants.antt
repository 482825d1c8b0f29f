use Rattle.std.proofs.Common.{ℕ, ◌+◌, take}
use Rattle.check_image.specs.Marks.{AreMarks, chain_uses}
use Rattle.check_image.proofs.blocks.mark_chains.Given as goal

-- what is counted so far
abbrev pub invariant-loop-chain : goal.invariant-loop-chain
invariant-loop-chain l = (x : ℕ → ℕ) → AreMarks l.initial.marks x → AreMarks l.marks (λ i. x i + chain_uses (take l.chain-index l.chains) (l.first + i))
