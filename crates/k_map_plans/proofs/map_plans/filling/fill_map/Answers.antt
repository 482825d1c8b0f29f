use Rattle.std.proofs.Common.{◌≡◌, ◌+◌, ap, arith, get_or, refl, sym, subst}
use Rattle.std.specs.Prelude.{is_none}
use Rattle.k_plans.specs.volume_change_laws.Holes.{HasFilled, blocks-all, filled-hole, filled-mapped, filled-none, next-below}
use Rattle.k_map_plans.proofs.map_plans.filling.fill_map.Goals as goal
use Rattle.k_map_plans.proofs.map_plans.filling.fill_map.Goals.{in-None+in_ok-replace_range-in-None, in-Some}

pub loop-place-init : goal.loop-place-init
loop-place-init c = filled-none c.args.first c.args.fresh.now c.args.map.now c.extents-extents.ensures.canonical

pub bounds-fresh-taken : goal.bounds-fresh-taken
bounds-fresh-taken c =
    next-below c.args.first c.loop-place.place c.args.fresh.now c.loop-place.taken c.args.map.now c.loop-place.map c.loop-place.invariant
    c.args.count (sym c.in-None.ensures.disk) c.requires.each c.loop-place-test.true

pub loop-place-preserved : goal.loop-place-preserved
loop-place-preserved c =
    elim c.match-lookup.branch [
      | in-None+in_ok-replace_range-in-None w ↦
          let more : HasFilled c.args.first (c.loop-place.place + 1) c.args.fresh.now (c.loop-place.taken + 1) c.args.map.now w.replace_range.new.self =
          filled-hole c.args.first c.loop-place.place c.args.fresh.now c.loop-place.taken c.args.map.now c.loop-place.map c.loop-place.invariant
          c.args.count (sym w.in-None.ensures.disk) c.requires.each c.loop-place-test.true w.replace_range.new.self
          (get_or c.args.fresh.now c.loop-place.taken 0) c.requires.in_file refl w.in_ok-replace_range-in-None.ensures.map
          in
          rw (w.map-is, w.taken-is) more
      | in-Some w ↦
          let same : HasFilled c.args.first (c.loop-place.place + 1) c.args.fresh.now c.loop-place.taken c.args.map.now c.loop-place.map =
          filled-mapped c.args.first c.loop-place.place c.args.fresh.now c.loop-place.taken c.args.map.now c.loop-place.map c.loop-place.invariant
          (ap is_none (sym w.in-Some.ensures.disk))
          in
          rw (w.map-is, w.taken-is) same
    ]

pub returns-clause-blocks : goal.returns-clause-blocks
returns-clause-blocks c =
    let all : c.loop-place.place ≡ c.args.count = omega arith in
    blocks-all c.args.first c.args.count c.args.fresh.now c.loop-place.taken c.args.map.now c.loop-place.map
    (subst (λ n. HasFilled c.args.first n c.args.fresh.now c.loop-place.taken c.args.map.now c.loop-place.map) all c.loop-place.invariant)
    c.requires.each
