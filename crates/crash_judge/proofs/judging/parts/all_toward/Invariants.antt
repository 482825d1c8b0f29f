use Rattle.std.proofs.Common.{◌≡◌, drop}
use Rattle.crash_judge.specs.Parts.{all_toward}
use Rattle.crash_judge.specs.Wanted.{wanted}
use Rattle.crash_judge.proofs.judging.parts.all_toward.Given as goal

abbrev pub invariant-loop-c : goal.invariant-loop-c
invariant-loop-c l = all_toward (wanted l.numbers l.left) l.at (drop l.c-index l.calls) ≡ all_toward (wanted l.numbers l.left) l.state l.calls
