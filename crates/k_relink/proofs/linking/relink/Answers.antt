use Rattle.std.proofs.Common.{ℕ, not, subst, ◌∙◌, ap}
use Rattle.std.specs.Option.{option_or}
use Rattle.extent_map.specs.extent_model.Extents.{is_within, disk_at}
use Rattle.extent_map.specs.extent_model.Maps.{IsPart}
use Rattle.extent_map.specs.extent_model.Covers.{IsPart-range}
use Rattle.k_relink.specs.Steps.{moved_at}
use Rattle.k_relink.proofs.Laid.{moves}
use Rattle.k_relink.proofs.linking.relink.Goals as goal

-- the pieces that the source had lie in its range
pub lay-requires-clause-within : goal.lay-requires-clause-within
lay-requires-clause-within c = rw c.deref.ensures.value (λ k d lt.
    let range = IsPart-range c.args.src_block c.args.count _ _ c.in_ok-moved.ensures.displaced k d lt in
    record { low = range.0; high = range.1 })

pub returns-clause-moved : goal.returns-clause-moved
returns-clause-moved c =
    let from = c.args.src_block in
    let to = c.args.dst_block in
    let n = c.args.count in
    let src = c.args.src.now in
    let dst = c.args.dst.now in
    let copy = c.in_ok-left.ensures.copy in
    let target = c.in_ok-linked.ensures.copy in
    let left = subst (λ es. IsPart (λ b. not (is_within from n b)) es c.clear_range.new.self) copy c.in_ok-moved.ensures.map in
    let moved = subst (λ es. IsPart (is_within from n) es c.in_ok-moved.moved.items) copy c.in_ok-moved.ensures.displaced in
    let cleared = subst (λ es. IsPart (λ b. not (is_within to n b)) es c.clear_range-2.new.self) target c.in_ok-freed.ensures.map in
    let freed = subst (λ es. IsPart (is_within to n) es c.in_ok-freed.freed.items) target c.in_ok-freed.ensures.displaced in
    let laid = λ (b : ℕ). c.in_ok-lay.ensures.blocks b ∙ ap (λ es. option_or (moved_at from to es b) (disk_at c.clear_range-2.new.self b)) c.deref.ensures.value in
    moves from to n src dst _ _ _ _ _ c.in_default.ensures.none c.in_ok-left.ensures.canonical c.in_ok-linked.ensures.canonical c.requires.source c.requires.target
    left moved cleared freed c.in_ok-lay.ensures.canonical laid
