use Rattle.std.specs.Prelude.{ℕ, List}
use Rattle.std.proofs.Common.{ap, subst, sym}
use Rattle.thread_laws.specs.world_view_laws.pm_model.Cells.{is_single}
use Rattle.thread_laws.specs.world_view_laws.pm_model.Parts.{Part}
use Rattle.thread_laws.specs.world_view_laws.Rounds.{IsRoundBegun}
use Rattle.split_threads.proofs.opening.open_log.Goals as goal

pub open-requires-clause-single : goal.open-requires-clause-single
open-requires-clause-single c n below j within = ap is_single ((c.in_ok-lines.ensures.begun c.requires.awake).lines_are.words n below j within)

pub returns-clause-begun : goal.returns-clause-begun
returns-clause-begun c =
    let old = c.args.world.now in
    let new = c.begin_round.new.self in
    let made = c.in_ok-open.ensures.log in
    subst (λ (ls : List Part). IsRoundBegun old new ls c.in_ok-open.field-0.0.base) (sym made.2)
    (subst (λ (b : ℕ). IsRoundBegun old new c.in_ok-lines.lines.items b) (sym made.0) (c.in_ok-lines.ensures.begun c.requires.awake))
