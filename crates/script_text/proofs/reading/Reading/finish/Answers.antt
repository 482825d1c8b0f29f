use Rattle.std.proofs.Common.{◌∙◌, ap, sym, List}
use Rattle.posix_types.specs.declared.call.Call.{Call}
use Rattle.posix_types.specs.Scripts.{Scripts}
use Rattle.script_text.specs.Reached.{State, threads_so_far}
use Rattle.script_text.proofs.Steps.{reached-end}
use Rattle.script_text.proofs.reading.Reading.finish.Goals as goal

pub returns : goal.returns
returns c = λ before h.
    let made : List (List Call) → Scripts = λ threads. record { setup = c.self.inside.setup.items; threads = threads } in
    let whole : State → Scripts = λ s. record { setup = s.setup; threads = threads_so_far s.section s.threads s.calls } in
    ap made c.in_ok-threads.ensures ∙ ap whole c.self.view_is ∙ sym (reached-end c.args.self before h)
