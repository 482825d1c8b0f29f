use Rattle.std.specs.Prelude.{◌≡◌, false, is_some, None}
use Rattle.std.proofs.Common.{◌∙◌, subst, sym}
use Rattle.run_laws.specs.round_log.Rounds.{RoundView}
use Rattle.run_laws.specs.EventsLaws.{with_log}
use Rattle.split_machine.specs.Events.{IsOpen, seen}
use Rattle.split_machine.proofs.Opened.{begun_open, not_some}
use Rattle.split_machine.proofs.rounds.open_round.Goals as goal

pub returns : goal.returns
returns c =
    let none : (seen c.args.out.now).log ≡ None = not_some (seen c.args.out.now).log (sym c.is_some.ensures ∙ c.if-is_some.false) in
    subst (λ (log : RoundView). IsOpen c.args.world.now (seen c.args.out.now) c.begin_round.new.self (with_log (seen c.args.out.now) log)) (sym c.open.ensures)
    (begun_open c.args.world.now c.begin_round.new.self (seen c.args.out.now) c.in_ok-lines.lines.items c.in_ok-lines.base c.requires none (c.in_ok-lines.ensures.begun c.requires.awake))
