use Rattle.std.proofs.Common.{◌≡◌, drop}
use Rattle.crash_judge.specs.Effects.{newest}
use Rattle.crash_judge.proofs.judge_bytes.effects.newest.Given as goal

abbrev pub invariant-loop-e : goal.invariant-loop-e
invariant-loop-e l = newest (drop l.e-index l.effects) l.n l.i l.last ≡ newest l.effects l.n l.i l.v
