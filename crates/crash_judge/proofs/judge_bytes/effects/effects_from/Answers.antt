use Rattle.std.proofs.Common.{arith}
use Rattle.crash_judge.proofs.EffectLaws.{effects_more}
use Rattle.crash_judge.proofs.judge_bytes.effects.effects_from.Goals as goal

pub loop-c-preserved : goal.loop-c-preserved
loop-c-preserved c =
    effects_more c.args.at.now c.loop-c.at c.effect_on.new.at c.args.calls.now c.loop-c.c-index c.c-item.result c.loop-c.effects.items c.push.new.self.items c.in_ok-effect.effect
    (omega arith) c.c-item.is c.loop-c.invariant.0 c.loop-c.invariant.1 c.in_ok-effect.ensures.next c.in_ok-effect.ensures.effect c.in_ok-push.ensures.items
