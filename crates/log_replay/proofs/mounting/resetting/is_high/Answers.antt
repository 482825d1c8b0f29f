use Rattle.std.proofs.Common.{◌≡◌, ◌∙◌, false, sym, true}
use Rattle.log_replay.proofs.Lines.{node-none}
use Rattle.log_replay.proofs.Resets.{free-low}
use Rattle.log_replay.proofs.mounting.resetting.is_high.Goals as goal

pub returns-in-None : goal.returns-in-None
returns-in-None c = (
  λ never. absurd (let no : false ≡ true = never in cc),
  λ high. absurd (free-low c.args.k.now c.args.ino c.requires (node-none c.args.k.now.volume c.args.ino (sym c.node.ensures ∙ c.in-None.is)) high),
)
