use Rattle.std.proofs.Common.{◌<◌, ◌∙◌, [], ℕ, List, ap, arith, refl, subst, sym}
use Rattle.k_plans.specs.Free.{free_blocks}
use Rattle.k_map_plans.specs.Plans.WantsToPreallocate.{Blocks}
use Rattle.std.specs.Prelude.{IfOk, slice_index_or}
use Rattle.layout_model.specs.declared.lines.Inode.{Inode}
use Rattle.k_plans.specs.image_model.Volume.{free_inode}
use Rattle.k_plans.specs.Switching.{IsSetAside}
use Rattle.k_plans.specs.k_split_model.MapChangesChanges.{aged, HasInOrder}
use Rattle.k_map_plans.specs.Going.{HasGoneOver, MayGoOver}
use Rattle.k_map_plans.proofs.Stagings.{aside-ok, filled-ok, preallocate-few, preallocate-may}
use Rattle.k_map_plans.proofs.map_plans.staging.fill_staging.Goals as goal

pub go_over-requires-clause-may : goal.go_over-requires-clause-may
go_over-requires-clause-may c =
    let t = c.args.tables.now in
    let u = c.set_aside.new.self in
    let aside : IsSetAside c.args.count c.in-Some.fresh.items t u = rw c.in-Some.is at c.in_ok-fresh.ensures.taken in
    let order : HasInOrder c.in-Some.fresh.items c.in_ok-map.map =
    subst (λ (bs : List ℕ). HasInOrder bs c.in_ok-map.map) c.deref.ensures.value c.in_ok-map.ensures
    in
    subst (λ (x : Inode). MayGoOver u c.args.staging x c.in_ok-map.map [])
    (sym (c.aged-line.ensures ∙ ap (λ (inodes : List Inode). aged (slice_index_or inodes c.args.staging free_inode)) c.inodes.ensures))
    (preallocate-may t u c.args.count c.args.staging c.in-Some.fresh.items c.in_ok-map.map aside c.in_ok-fresh.ensures.whole c.requires.idle
    c.requires.staging c.requires.most order c.requires.bare)

pub returns-clause-filled : goal.returns-clause-filled
returns-clause-filled c =
    let t = c.args.tables.now in
    let u = c.set_aside.new.self in
    let aside : IsSetAside c.args.count c.in-Some.fresh.items t u = rw c.in-Some.is at c.in_ok-fresh.ensures.taken in
    let order : HasInOrder c.in-Some.fresh.items c.in_ok-map.map =
    subst (λ (bs : List ℕ). HasInOrder bs c.in_ok-map.map) c.deref.ensures.value c.in_ok-map.ensures
    in
    filled-ok t u c.args.count c.args.staging c.in-Some.fresh.items c.in_ok-map.map aside c.in_ok-fresh.ensures.whole c.requires.idle c.requires.staging
    c.requires.most order c.go_over.new.tables c.go_over.new.batch c.go_over.result
    (subst (λ (x : Inode). IfOk c.go_over.result (HasGoneOver c.args.staging x c.in_ok-map.map u c.go_over.new.tables c.go_over.new.batch))
    (c.aged-line.ensures ∙ ap (λ (inodes : List Inode). aged (slice_index_or inodes c.args.staging free_inode)) c.inodes.ensures)
    c.go_over.ensures.gone)

pub returns-clause-aside : goal.returns-clause-aside
returns-clause-aside c =
    let t = c.args.tables.now in
    let u = c.set_aside.new.self in
    let aside : IsSetAside c.args.count c.in-Some.fresh.items t u = rw c.in-Some.is at c.in_ok-fresh.ensures.taken in
    let order : HasInOrder c.in-Some.fresh.items c.in_ok-map.map =
    subst (λ (bs : List ℕ). HasInOrder bs c.in_ok-map.map) c.deref.ensures.value c.in_ok-map.ensures
    in
    aside-ok t u c.args.count c.args.staging c.in-Some.fresh.items c.in_ok-map.map aside c.in_ok-fresh.ensures.whole c.requires.idle c.requires.staging
    c.requires.most order (aged (slice_index_or u.volume.inodes c.args.staging free_inode)) c.go_over.new.tables c.go_over.new.batch c.go_over.result c.in_ok-fresh.ensures.back
    (subst (λ (x : Inode). IfOk c.go_over.result (HasGoneOver c.args.staging x c.in_ok-map.map u c.go_over.new.tables c.go_over.new.batch))
    (c.aged-line.ensures ∙ ap (λ (inodes : List Inode). aged (slice_index_or inodes c.args.staging free_inode)) c.inodes.ensures)
    c.go_over.ensures.gone)

pub returns-in_default-clause-few : goal.returns-in_default-clause-few
returns-in_default-clause-few c few =
    let none : free_blocks c.args.tables.now < c.args.count = rw c.in_default.is at c.in_ok-fresh.ensures.few in
    ((c.args.count, Blocks refl, none), omega (arith, none))

pub returns-clause-few : goal.returns-clause-few
returns-clause-few c few =
    let t = c.args.tables.now in
    let u = c.set_aside.new.self in
    let aside : IsSetAside c.args.count c.in-Some.fresh.items t u = rw c.in-Some.is at c.in_ok-fresh.ensures.taken in
    let order : HasInOrder c.in-Some.fresh.items c.in_ok-map.map =
    subst (λ (bs : List ℕ). HasInOrder bs c.in_ok-map.map) c.deref.ensures.value c.in_ok-map.ensures
    in
    preallocate-few t u c.args.count c.args.staging c.in-Some.fresh.items c.in_ok-map.map aside c.in_ok-fresh.ensures.whole c.requires.idle c.requires.staging
    c.requires.most order (rw c.in-Some.is at c.in_ok-fresh.ensures.left) (c.go_over.ensures.few few)
