use Rattle.std.proofs.Common.{◌≡◌, ◌<◌, ◌∙◌, arith, length, subst, sym}
use Rattle.std.proofs.lemmas.Bool.{eqb-false, eqb-true}
use Rattle.command_line.specs.pm_model.Images.{words_of}
use Rattle.split_top.specs.Remounts.{AreRemounted}
use Rattle.split_top.proofs.Remounts.{goes-on-itself, goes-on-further, remounted-none, remounted-more, rest-of}
use Rattle.split_top.proofs.Results.{follows}
use Rattle.split_top.proofs.remounting.+remount_each.Goals as goal

pub returns-then-is_empty-clause-remounted : goal.returns-then-is_empty-clause-remounted
returns-then-is_empty-clause-remounted t c =
    let none : length c.args.again.now ≡ 0 = eqb-true (length c.args.again.now) 0 (sym c.is_empty.ensures ∙ c.if-is_empty.true) in
    remounted-none c.args.geometry.now c.args.choice c.args.again.now c.args.pm none

pub returns-then-is_empty-clause-goes_on : goal.returns-then-is_empty-clause-goes_on
returns-then-is_empty-clause-goes_on t c = goes-on-itself c.args.geometry.now c.args.pm c.requires

pub returns-clause-remounted : goal.returns-clause-remounted
returns-clause-remounted t c =
    let some : 0 < length c.args.again.now = omega (arith, eqb-false (length c.args.again.now) 0 (sym c.is_empty.ensures ∙ c.if-is_empty.false)) in
    follows c.remount_each.result _ _
    (λ last more. remounted-more c.args.geometry.now c.args.choice c.args.again.now c.args.pm c.in_ok-next.next last some c.in_ok-next.ensures.remounted
    (subst (λ rest. AreRemounted c.args.geometry.now c.args.choice rest c.in_ok-next.next last) (rest-of c.args.again.now) more))
    c.remount_each.ensures.remounted

pub returns-clause-goes_on : goal.returns-clause-goes_on
returns-clause-goes_on t c =
    follows c.remount_each.result _ _
    (λ last goes. goes-on-further c.args.geometry.now (words_of c.args.pm) c.in_ok-next.next last c.in_ok-next.ensures.goes_on goes)
    c.remount_each.ensures.goes_on
