use Rattle.std.proofs.Common.{◌≡◌, ◌∙◌, [], List, length, ap, subst, sym, arith}
use Rattle.k_relink.specs.extent_model.declared.extent_words.Extent.{Extent}
use Rattle.k_relink.specs.extent_model.Extents.{IsCanonical}
use Rattle.k_plans.specs.image_model.Volume.{extents}
use Rattle.k_plans.specs.k_split_model.MapChangesChanges.{Landing}
use Rattle.k_plans.specs.k_split_model.declared.map_changes.moves.MoveRun.{MoveRun}
use Rattle.k_map_plans.specs.Linking.{KeepsLeft}
use Rattle.k_map_plans.proofs.Links.{AreToGo, all-linked, inodes-room, keeps-begin, run-goes, run-ready, to-go-begin}
use Rattle.k_map_plans.proofs.map_plans.linking.link_runs.Goals as goal

pub loop-run-init : goal.loop-run-init
loop-run-init c =
    let v = c.args.tables.now.volume in
    let m = c.args.asked.now in
    let lefts = c.in_ok-lefts.lefts.items in
    let map_is : c.in_ok-linked.linked ≡ extents v m.ino = c.in_ok-linked.ensures.copy ∙ ap (λ (x : Landing). extents v x.ino) c.asked.view_is in
    let canonical = subst (λ (x : Landing). IsCanonical (extents v x.ino)) c.asked.view_is c.in_ok-linked.ensures.canonical in
    let none : c.new-displaced.result.items ≡ [] = c.new-displaced.ensures.items in
    record {
      keeps = subst (λ (es : List Extent). KeepsLeft v m.ino m.runs lefts es c.new-displaced.result.items) (sym map_is)
          (subst (λ (gone : List Extent). KeepsLeft v m.ino m.runs lefts (extents v m.ino) gone) (sym none)
          (keeps-begin v m.ino m.runs lefts c.in_ok-lefts.ensures.lefts c.in_ok-linked.ensures.whole c.in_ok-lefts.ensures.canonical canonical));
      to_go = subst (λ (es : List Extent). AreToGo v m.ino m.runs 0 lefts es c.new-displaced.result.items) (sym map_is)
          (subst (λ (gone : List Extent). AreToGo v m.ino m.runs 0 lefts (extents v m.ino) gone) (sym none)
          (to-go-begin v m.ino m.runs lefts c.in_ok-lefts.ensures.lefts c.requires.each));
    }

pub all_left-requires : goal.all_left-requires
all_left-requires c = inodes-room c.args.tables.now.volume c.in_ok-linked.ensures.whole

pub move_run-requires : goal.move_run-requires
move_run-requires c =
    let v = c.args.tables.now.volume in
    let m = c.args.asked.now in
    let same = c.deref-run-items.ensures.value ∙ ap (λ (x : Landing). x.runs) c.asked.view_is in
    let is = run-ready v m.ino m.runs c.deref-run-items.result.now c.loop-run.run-index c.loop-run.lefts.items c.loop-run.linked c.loop-run.displaced.items
    same c.loop-run-test.true c.in_ok-linked.ensures.whole c.requires.each c.loop-run.invariant.keeps c.loop-run.invariant.to_go
    in
    record { staging = is.low; below = is.below; source = is.source; target = is.target; there = is.there }

pub loop-run-preserved : goal.loop-run-preserved
loop-run-preserved c =
    let v = c.args.tables.now.volume in
    let m = c.args.asked.now in
    let same = c.deref-run-items.ensures.value ∙ ap (λ (x : Landing). x.runs) c.asked.view_is in
    let gone = run-goes v m.ino m.runs c.deref-run-items.result.now c.loop-run.run-index c.loop-run.lefts.items c.move_run.new.lefts.items
    c.loop-run.linked c.move_run.new.linked c.loop-run.displaced.items c.move_run.new.displaced.items same c.loop-run-test.true c.in_ok-linked.ensures.whole
    c.requires.each c.requires.apart c.loop-run.invariant.keeps c.loop-run.invariant.to_go c.in_ok-move_run.ensures
    in
    record { keeps = gone.keeps; to_go = gone.to_go }

pub returns-clause-linked : goal.returns-clause-linked
returns-clause-linked c =
    let v = c.args.tables.now.volume in
    let m = c.args.asked.now in
    let same = c.deref-run-items.ensures.value ∙ ap (λ (x : Landing). x.runs) c.asked.view_is in
    all-linked v m.ino m.runs c.loop-run.run-index c.loop-run.lefts.items c.loop-run.linked c.loop-run.displaced.items
    (omega (arith, c.loop-run-test.false, ap (λ (rs : List MoveRun). length rs) same)) c.loop-run.invariant.to_go c.loop-run.invariant.keeps
