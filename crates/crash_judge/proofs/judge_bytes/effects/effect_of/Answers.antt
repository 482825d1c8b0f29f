use Rattle.crash_judge.proofs.EffectLaws.{effect_is}
use Rattle.crash_judge.proofs.judge_bytes.effects.effect_of.Goals as goal

pub returns : goal.returns
returns c =
    effect_is c.args.state.now c.args.next.now c.args.c.now _ c.nodes.result.now c.nodes-2.result.now c.requires c.in_ok-put.ensures c.nodes.ensures c.nodes-2.ensures c.in_ok-cuts.ensures
