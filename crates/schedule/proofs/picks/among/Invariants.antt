use Rattle.std.specs.Prelude.{◌≢◌, ◌<◌, ℕ, slice_index}
use Rattle.schedule.proofs.picks.among.Given as goal

-- none so far is this one
abbrev pub invariant-loop-other : goal.invariant-loop-other
invariant-loop-other l = (i : ℕ) → i < l.other-index → slice_index l.numbers i ≢ l.n
