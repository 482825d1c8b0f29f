use Rattle.std.proofs.Common.{◌≡◌, ◌+◌, ◌<◌, ◌∙◌, [], ℕ, List, ap, arith, length, subst, sym}
use Rattle.std.specs.Prelude.{Err, slice_index_or}
use Rattle.layout_model.specs.declared.lines.Inode.{Inode}
use Rattle.k_plans.specs.image_model.Volume.{extents, free_inode}
use Rattle.k_relink.specs.extent_model.declared.extent_words.Extent.{Extent}
use Rattle.k_plans.specs.Switching.{IsSetAside}
use Rattle.k_plans.specs.k_split_model.MapChangesChanges.{Fills, holes}
use Rattle.k_plans.specs.volume_laws.Uses.{in_chain, in_map}
use Rattle.k_map_plans.specs.Going.{HasGoneOver, MayGoOver}
use Rattle.std.proofs.lemmas.Result.{err_from_is_err_and}
use Rattle.k_plans.specs.Free.{free_blocks}
use Rattle.k_map_plans.specs.Plans.WantsToFill.{Holes}
use Rattle.k_map_plans.specs.declared.map_plans.faults.MapFault.{MapFault}
use Rattle.k_map_plans.proofs.Fillings.{fill-few, fill-may, filled-is}
use Rattle.k_map_plans.proofs.Goings.{fresh-aside}
use Rattle.k_map_plans.proofs.Refusals.{handed-on}
use Rattle.k_map_plans.proofs.map_plans.filling.fill_file.Goals as goal

pub go_over-requires-clause-may : goal.go_over-requires-clause-may
go_over-requires-clause-may c =
    let t = c.args.tables.now in
    let u = c.set_aside.new.self in
    let n = c.hole_count-missing.result in
    let bs = c.in-Some.fresh.items in
    let es = c.fill_map.new.map in
    let aside : IsSetAside n bs t u = rw c.in-Some.is at c.in_ok-fresh.ensures.taken in
    let was : c.in_ok-map.map ≡ extents t.volume c.args.ino = c.in_ok-map.ensures.copy in
    let fills : Fills c.args.first c.args.count bs (extents t.volume c.args.ino) es =
    subst (λ (old : List Extent). Fills c.args.first c.args.count bs old es) was
    (subst (λ (xs : List ℕ). Fills c.args.first c.args.count xs c.in_ok-map.map es) c.deref.ensures.value c.in_ok-fill_map.ensures.fills)
    in
    let blocks : (b : ℕ) → in_map es b ≡ in_map (extents t.volume c.args.ino) b + in_chain bs b =
    subst (λ (old : List Extent). (b : ℕ) → in_map es b ≡ in_map old b + in_chain bs b) was
    (subst (λ (xs : List ℕ). (b : ℕ) → in_map es b ≡ in_map c.in_ok-map.map b + in_chain xs b) c.deref.ensures.value c.in_ok-fill_map.ensures.blocks)
    in
    subst (λ (inodes : List Inode). MayGoOver u c.args.ino (slice_index_or inodes c.args.ino free_inode) es []) (sym c.inodes.ensures)
    (fill-may t u n c.args.ino c.args.first c.args.count bs es aside c.in_ok-map.ensures.whole c.requires.file
    fills blocks c.requires.idle)

pub returns-clause-filled : goal.returns-clause-filled
returns-clause-filled c =
    let t = c.args.tables.now in
    let u = c.set_aside.new.self in
    let n = c.hole_count-missing.result in
    let bs = c.in-Some.fresh.items in
    let es = c.fill_map.new.map in
    let aside : IsSetAside n bs t u = rw c.in-Some.is at c.in_ok-fresh.ensures.taken in
    let was : c.in_ok-map.map ≡ extents t.volume c.args.ino = c.in_ok-map.ensures.copy in
    let fills : Fills c.args.first c.args.count bs (extents t.volume c.args.ino) es =
    subst (λ (old : List Extent). Fills c.args.first c.args.count bs old es) was
    (subst (λ (xs : List ℕ). Fills c.args.first c.args.count xs c.in_ok-map.map es) c.deref.ensures.value c.in_ok-fill_map.ensures.fills)
    in
    let size : n ≡ length (holes (extents t.volume c.args.ino) c.args.first c.args.count) =
    c.hole_count-missing.ensures ∙ ap (λ (old : List Extent). length (holes old c.args.first c.args.count)) was
    in
    filled-is t u n c.args.ino c.args.first c.args.count bs es aside c.go_over.new.tables c.go_over.new.batch c.in_ok-written.written
    fills
    (subst (λ (inodes : List Inode). HasGoneOver c.args.ino (slice_index_or inodes c.args.ino free_inode) es u c.go_over.new.tables c.go_over.new.batch c.in_ok-written.written)
    c.inodes.ensures c.in_ok-written.ensures.gone)
    (omega (arith, c.requires.some, size))

pub returns-clause-aside : goal.returns-clause-aside
returns-clause-aside c =
    let t = c.args.tables.now in
    let u = c.set_aside.new.self in
    let n = c.hole_count-missing.result in
    let bs = c.in-Some.fresh.items in
    let es = c.fill_map.new.map in
    let aside : IsSetAside n bs t u = rw c.in-Some.is at c.in_ok-fresh.ensures.taken in
    let was : c.in_ok-map.map ≡ extents t.volume c.args.ino = c.in_ok-map.ensures.copy in
    let fills : Fills c.args.first c.args.count bs (extents t.volume c.args.ino) es =
    subst (λ (old : List Extent). Fills c.args.first c.args.count bs old es) was
    (subst (λ (xs : List ℕ). Fills c.args.first c.args.count xs c.in_ok-map.map es) c.deref.ensures.value c.in_ok-fill_map.ensures.fills)
    in
    let blocks : (b : ℕ) → in_map es b ≡ in_map (extents t.volume c.args.ino) b + in_chain bs b =
    subst (λ (old : List Extent). (b : ℕ) → in_map es b ≡ in_map old b + in_chain bs b) was
    (subst (λ (xs : List ℕ). (b : ℕ) → in_map es b ≡ in_map c.in_ok-map.map b + in_chain xs b) c.deref.ensures.value c.in_ok-fill_map.ensures.blocks)
    in
    fresh-aside t u c.go_over.new.tables n c.args.ino bs (slice_index_or u.volume.inodes c.args.ino free_inode) es c.go_over.new.batch c.in_ok-written.written aside
    (subst (λ (inodes : List Inode). HasGoneOver c.args.ino (slice_index_or inodes c.args.ino free_inode) es u c.go_over.new.tables c.go_over.new.batch c.in_ok-written.written)
    c.inodes.ensures c.in_ok-written.ensures.gone)
    c.requires.idle c.in_ok-map.ensures.back c.in_ok-map.ensures.whole c.requires.file.below (λ k. omega (arith, blocks k))

-- fewer blocks are free than holes
pub returns-in_default-clause-few : goal.returns-in_default-clause-few
returns-in_default-clause-few c few =
    let t = c.args.tables.now in
    let n = c.hole_count-missing.result in
    let size : n ≡ length (holes (extents t.volume c.args.ino) c.args.first c.args.count) =
    c.hole_count-missing.ensures ∙ ap (λ (old : List Extent). length (holes old c.args.first c.args.count)) c.in_ok-map.ensures.copy
    in
    let none : free_blocks t < n = rw c.in_default.is at c.in_ok-fresh.ensures.few in
    ((n, Holes size, none), omega (arith, none, size))

-- or than the holes and the chain
went_few : (c : goal.After-drop-map-inside-in_err-written) → c.from_residual-in_err-written.result ≡ Err MapFault.Few → c.go_over.result ≡ Err MapFault.Few
went_few c few =
    handed-on c.from_residual-in_err-written.result c.go_over.result c.in_err-written.field-0.0
    (err_from_is_err_and c.from_residual-in_err-written.result c.from_residual-in_err-written.ensures.1) c.in_err-written.was few

pub returns-in_err-written-clause-few : goal.returns-in_err-written-clause-few
returns-in_err-written-clause-few c few =
    let t = c.args.tables.now in
    let u = c.set_aside.new.self in
    let n = c.hole_count-missing.result in
    let bs = c.in-Some.fresh.items in
    let es = c.fill_map.new.map in
    let aside : IsSetAside n bs t u = rw c.in-Some.is at c.in_ok-fresh.ensures.taken in
    let was : c.in_ok-map.map ≡ extents t.volume c.args.ino = c.in_ok-map.ensures.copy in
    let fills : Fills c.args.first c.args.count bs (extents t.volume c.args.ino) es =
    subst (λ (old : List Extent). Fills c.args.first c.args.count bs old es) was
    (subst (λ (xs : List ℕ). Fills c.args.first c.args.count xs c.in_ok-map.map es) c.deref.ensures.value c.in_ok-fill_map.ensures.fills)
    in
    let blocks : (b : ℕ) → in_map es b ≡ in_map (extents t.volume c.args.ino) b + in_chain bs b =
    subst (λ (old : List Extent). (b : ℕ) → in_map es b ≡ in_map old b + in_chain bs b) was
    (subst (λ (xs : List ℕ). (b : ℕ) → in_map es b ≡ in_map c.in_ok-map.map b + in_chain xs b) c.deref.ensures.value c.in_ok-fill_map.ensures.blocks)
    in
    let size : n ≡ length (holes (extents t.volume c.args.ino) c.args.first c.args.count) =
    c.hole_count-missing.ensures ∙ ap (λ (old : List Extent). length (holes old c.args.first c.args.count)) was
    in
    let wants = fill-few t u n c.args.ino c.args.first c.args.count bs es aside c.in_ok-map.ensures.whole c.requires.file fills blocks
    (rw c.in-Some.is at c.in_ok-fresh.ensures.left) (c.go_over.ensures.few (went_few c few))
    in
    (wants.0, omega (arith, wants.1, size))
