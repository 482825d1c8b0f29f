use Rattle.std.proofs.Common.{◌∙◌, ap, inr, refl, sym}
use Rattle.world_parts.specs.Seen.{seen}
use Rattle.world_begins.proofs.begins.begins.end_script.Goals as goal

-- the power was found off before the script, which has ended, was looked at
pub returns-clause-begun : goal.returns-clause-begun
returns-clause-begun c =
    inr (inr (c.requires.awake, c.requires.next, ap seen c.lose_one.ensures.lost, refl, sym c.on.ensures ∙ c.if-on.false))
