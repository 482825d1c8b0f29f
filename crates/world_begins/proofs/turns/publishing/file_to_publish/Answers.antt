use Rattle.std.proofs.Common.{◌∙◌, inr, sym}
use Rattle.std.specs.Prelude.{Some}
use Rattle.world_begins.proofs.Firsts.{no_runs, waited_line}
use Rattle.world_begins.proofs.turns.publishing.file_to_publish.Goals as goal

pub overlay-requires : goal.overlay-requires
overlay-requires c = waited_line c.args.p.now c.args.who c.args.call.now c.requires.turn c.in-Some.ino c.in-Some.ensures

pub returns-then-is_empty : goal.returns-then-is_empty
returns-then-is_empty c =
    inr (Some c.in-Some.ino, c.in-Some.ensures, sym c.overlay.ensures ∙ (sym c.runs.ensures.all ∙ no_runs c.runs.result.now (sym c.is_empty.ensures ∙ c.if-is_empty.true)))
