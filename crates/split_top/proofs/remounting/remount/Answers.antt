use Rattle.std.proofs.Common.{◌∙◌, ap, Err, List, Ok, Result, subst, sym, inl, inr}
use Rattle.command_line.specs.layout_model.Places.{Geometry}
use Rattle.command_line.specs.pm_model.declared.Cell.{Cell}
use Rattle.command_line.specs.pm_model.Images.{words_of}
use Rattle.command_line.specs.pm_model.Powers.{Supply}
use Rattle.split_machine.specs.Mounts.{IsLeft, IsMountAnswer, IsMounted}
use Rattle.split_top.specs.Remounts.{GoesOn, IsCrashed, IsRemounted}
use Rattle.split_top.proofs.Opened.{unbroken}
use Rattle.split_top.proofs.Remounts.{cut-crash, goes-on-cut, goes-on-mounted}
use Rattle.split_top.proofs.Results.{follows}
use Rattle.split_top.proofs.remounting.remount.Goals as goal

pub returns-in-Ok-clause-remounted : goal.returns-in-Ok-clause-remounted
returns-in-Ok-clause-remounted c = inl (record {
  after = c.mount.new.power;
  given = c.in-Ok.ensures.spent.given ∙ ap (λ (p : Supply). p.given) c.after-power.ensures;
  lasts = c.in-Ok.ensures.answer.2;
  k = c.in-Ok.k;
  mounted = c.in-Ok.ensures.answer.1;
  is_next = c.into_pm.ensures;
})

pub returns-in-Ok-clause-goes_on : goal.returns-in-Ok-clause-goes_on
returns-in-Ok-clause-goes_on c =
    let image = words_of c.args.pm in
    subst (λ (d : List Cell). GoesOn c.args.geometry.now image d) (sym c.into_pm.ensures)
    (goes-on-mounted c.args.geometry.now image c.in-Ok.k (subst (λ g. IsMounted g image c.in-Ok.k) c.requires.numbers c.in-Ok.ensures.answer.1))

pub crashed_device-requires : goal.crashed_device-requires
crashed_device-requires c =
    let image = words_of c.args.pm in
    let answer = subst (λ fault. IsMountAnswer c.args.pm c.after-power.result c.mount.new.power (Err fault)) c.in-Err-PowerLost.field-0-is c.in-Err-PowerLost.ensures.answer in
    cut-crash c.args.geometry.now image c.in-Err-PowerLost.left (subst (λ g. IsLeft g image c.in-Err-PowerLost.left) c.requires.numbers answer.2)

pub unreachable-requires : goal.unreachable-requires
unreachable-requires c =
    let answer = subst (λ fault. IsMountAnswer c.args.pm c.after-power.result c.mount.new.power (Err fault)) c.in-Err-Bad.field-0-is c.in-Err-Bad.ensures.answer in
    unbroken c.args.pm c.requires.checked c.in-Err-Bad.field-0-0.rule c.in-Err-Bad.field-0-0.place answer.0

pub returns-in-Err-PowerLost-clause-remounted : goal.returns-in-Err-PowerLost-clause-remounted
returns-in-Err-PowerLost-clause-remounted c =
    let answer = subst (λ fault. IsMountAnswer c.args.pm c.after-power.result c.mount.new.power (Err fault)) c.in-Err-PowerLost.field-0-is c.in-Err-PowerLost.ensures.answer in
    follows c.crashed_device.result _ _
    (λ next is. inr (record {
      after = c.mount.new.power;
      given = c.in-Err-PowerLost.ensures.spent.given ∙ ap (λ (p : Supply). p.given) c.after-power.ensures;
      off = answer.1;
      left = c.in-Err-PowerLost.left;
      is_left = answer.2;
      is_next = is;
    }))
    c.crashed_device.ensures.crashed

pub returns-in-Err-PowerLost-clause-goes_on : goal.returns-in-Err-PowerLost-clause-goes_on
returns-in-Err-PowerLost-clause-goes_on c =
    let image = words_of c.args.pm in
    let left = c.in-Err-PowerLost.left in
    let answer = subst (λ fault. IsMountAnswer c.args.pm c.after-power.result c.mount.new.power (Err fault)) c.in-Err-PowerLost.field-0-is c.in-Err-PowerLost.ensures.answer in
    follows c.crashed_device.result _ _
    (λ next is. goes-on-cut c.args.geometry.now c.args.choice image left next (subst (λ g. IsLeft g image left) c.requires.numbers answer.2) is)
    c.crashed_device.ensures.crashed
