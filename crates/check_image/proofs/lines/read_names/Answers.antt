use Rattle.std.proofs.Common.{◌<◌, ap, arith, sym, subst, None}
use Rattle.k_journal.specs.layout_model.Journal.{journaled}
use Rattle.k_journal.specs.layout_model.Places.{Geometry}
use Rattle.k_reading.specs.image_model.Rules.{IsNameSlot}
use Rattle.k_reading.specs.image_model.Volume.{volume, name_at}
use Rattle.k_journal.specs.pm_model.Images.{words_of}
use Rattle.check_image.proofs.LineFacts.{count-names, count-of, row-read}
use Rattle.check_image.proofs.Fronts.{front-more, front-all, front-holds, front-fails}
use Rattle.check_image.proofs.lines.read_names.Goals as goal

pub returns-in-None-clause-bad : goal.returns-in-None-clause-bad
returns-in-None-clause-bad c =
    let g = c.args.geometry.now in
    let j = journaled (words_of c.args.pm.now) in
    let v = volume g j in
    let below : c.loop-line.line < g.names = omega (arith, c.loop-line-test.true, ap (λ (a : Geometry). a.names) c.geometry.view_is) in
    front-fails None (λ k. IsNameSlot v (name_at g j k)) c.loop-line.names.items v.names 6 c.loop-line.line g.names c.loop-line.invariant below
    (λ named. c.in-None.ensures.bad v (sym c.requires.inodes) (count-of g j c.args.inodes.now c.requires.inodes)
    (subst (IsNameSlot v) (sym c.in_ok-slot_at.ensures) named))

pub loop-line-preserved : goal.loop-line-preserved
loop-line-preserved c =
    let g = c.args.geometry.now in
    let j = journaled (words_of c.args.pm.now) in
    let v = volume g j in
    let below : c.loop-line.line < g.names = omega (arith, c.loop-line-test.true, ap (λ (a : Geometry). a.names) c.geometry.view_is) in
    let good = c.in-Some.ensures.good v (sym c.requires.inodes) (count-of g j c.args.inodes.now c.requires.inodes) in
    front-more None (λ k. IsNameSlot v (name_at g j k)) c.loop-line.names.items v.names _ c.loop-line.line c.in-Some.row c.loop-line.invariant
    (row-read g j c.loop-line.line _ c.in-Some.row below c.in_ok-slot_at.ensures good.0)
    (subst (IsNameSlot v) c.in_ok-slot_at.ensures good.1) c.in_ok-push-in-Some.ensures.items

pub returns-clause-names : goal.returns-clause-names
returns-clause-names c =
    let g = c.args.geometry.now in
    let j = journaled (words_of c.args.pm.now) in
    let v = volume g j in
    let names = ap (λ (a : Geometry). a.names) c.geometry.view_is in
    front-all None (λ k. IsNameSlot v (name_at g j k)) c.loop-line.names.items v.names c.loop-line.line c.loop-line.invariant
    (omega (arith, count-names g j, names, c.loop-line-test.false)) (omega (arith, count-names g j, names, c.loop-line.auto.line-end))

pub returns-clause-ok : goal.returns-clause-ok
returns-clause-ok c =
    let g = c.args.geometry.now in
    let j = journaled (words_of c.args.pm.now) in
    let v = volume g j in
    front-holds None (λ k. IsNameSlot v (name_at g j k)) c.loop-line.names.items v.names 6 c.loop-line.line g.names c.loop-line.invariant
    (omega (arith, c.loop-line-test.false, ap (λ (a : Geometry). a.names) c.geometry.view_is))
