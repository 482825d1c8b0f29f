use Rattle.std.proofs.Common.{◌≡◌, take}
use Rattle.crash_spec.specs.posix_spec.Run.{after_calls}
use Rattle.crash_judge.specs.Effects.{AreEffects}
use Rattle.crash_judge.proofs.judge_bytes.effects.effects_from.Given as goal

abbrev pub invariant-loop-c : goal.invariant-loop-c
invariant-loop-c l = AreEffects l.initial.at (take l.c-index l.calls) l.effects.items × (l.at ≡ after_calls l.initial.at (take l.c-index l.calls))
