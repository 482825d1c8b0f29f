-- The pass is outside again, as it was.
use Rattle.std.proofs.Common.{◌≡◌, ◌∙◌, Bool, ap, sym}
use Rattle.ruled_turn.specs.Passes.{entered, outside_pass, PassView}
use Rattle.thread_rows.specs.declared.heavies.Heavy.{Heavy}
use Rattle.thread_rows.proofs.waking.hold.Goals as goal

pub leave-requires-clause-may : goal.leave-requires-clause-may
leave-requires-clause-may g c =
    let old = c.requires in
    let x : Heavy = c.enter-value.result in
    let pass : c.enter-value.new.pass ≡ entered (outside_pass c.args.turn.now.id old.0 old.1) x = c.enter-value.ensures.pass ∙ ap (λ (p : PassView Heavy Bool). entered p x) old.2 in
    (old.0, old.1, x, ap (λ (p : PassView Heavy Bool). p.carried) pass, ap (λ (p : PassView Heavy Bool). p.inside) pass, tt)

pub returns : goal.returns
returns g c =
    let old = c.requires in
    let x : Heavy = c.enter-value.result in
    let pass : c.enter-value.new.pass ≡ entered (outside_pass c.args.turn.now.id old.0 old.1) x = c.enter-value.ensures.pass ∙ ap (λ (p : PassView Heavy Bool). entered p x) old.2 in
    c.leave.ensures old.0 old.1 x (ap (λ (p : PassView Heavy Bool). p.carried) pass) (ap (λ (p : PassView Heavy Bool). p.inside) pass)
    ∙ (ap (λ (p : PassView Heavy Bool). outside_pass p.turn old.0 old.1) pass ∙ sym old.2)
