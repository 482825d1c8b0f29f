use Rattle.std.proofs.Common.{◌≡◌, ◌∙◌, ◌*◌, false, true, length, arith, inl, inr, sym}
use Rattle.pm_lines.specs.pm_model.Cells.{cell}
use Rattle.pm_lines.specs.pm_model.Powers.{is_on}
use Rattle.block_io.specs.Overwrites.{blocks_reached}
use Rattle.block_io.proofs.Cells.{either_fenced, fence_done, settled, took_last}
use Rattle.block_io.proofs.Overwriting.{beside_none, empty_overwritten, kept_single, none_overwritten, overwritten, overwritten_whole}
use Rattle.block_io.proofs.block_bytes.ranges.write_bytes.Goals as goal

pub returns-then-not-on-clause-each_image : goal.returns-then-not-on-clause-each_image
returns-then-not-on-clause-each_image c = none_overwritten c.args.map.now c.args.first c.args.bytes.now c.args.pm.now

pub returns-then-not-on-clause-durable : goal.returns-then-not-on-clause-durable
returns-then-not-on-clause-durable c on = elim c.then-not-on.either [
  | inl off ↦ let never : false ≡ true = sym off ∙ c.on.ensures ∙ on in absurd (cc)
  | inr both ↦ empty_overwritten c.args.map.now c.args.first c.args.bytes.now c.args.pm.now both.1
]

pub returns-then-not-on-clause-took : goal.returns-then-not-on-clause-took
returns-then-not-on-clause-took c on some = elim c.then-not-on.either [
  | inl off ↦ let never : false ≡ true = sym off ∙ c.on.ensures ∙ on in absurd (cc)
  | inr both ↦ absurd (omega (arith, both.1, some))
]

pub returns-clause-took : goal.returns-clause-took
returns-clause-took c on some =
    took_last (576 * blocks_reached c.args.first (length c.args.bytes.now)) 1 c.args.power.now c.store_range.new.power c.fence.new.power c.store_range.ensures.steps c.fence.ensures.steps
    c.fence.ensures.power on

pub returns-clause-each_image : goal.returns-clause-each_image
returns-clause-each_image c =
    overwritten c.args.map.now c.args.first c.args.bytes.now c.args.pm.now c.fence.new.self (omega arith) (λ n. omega (arith, c.type_inv.bytes n)) (c.requires.ready (sym c.on.ensures ∙ c.if-not-on.false))
    (λ i none. settled (is_on c.store_range.new.power) (cell c.args.pm.now i) (cell c.store_range.new.pm i) (cell c.fence.new.self i) (c.store_range.ensures.others i none) (c.fence.ensures.fence.words i))
    (λ m i reached at. either_fenced _ _ (is_on c.store_range.new.power) (cell c.store_range.new.pm i) (cell c.fence.new.self i) (c.fence.ensures.fence.words i) (c.store_range.ensures.each m i reached at))

pub returns-clause-others : goal.returns-clause-others
returns-clause-others c i beside =
    settled (is_on c.store_range.new.power) (cell c.args.pm.now i) (cell c.store_range.new.pm i) (cell c.fence.new.self i)
    (c.store_range.ensures.others i (beside_none c.args.map.now c.args.first (length c.args.bytes.now) i (omega arith) beside)) (c.fence.ensures.fence.words i)

pub returns-clause-durable : goal.returns-clause-durable
returns-clause-durable c on =
    overwritten_whole c.args.map.now c.args.first c.args.bytes.now c.args.pm.now c.fence.new.self (omega arith) (λ n. omega (arith, c.type_inv.bytes n)) (c.requires.ready (sym c.on.ensures ∙ c.if-not-on.false))
    (λ i none. settled (is_on c.store_range.new.power) (cell c.args.pm.now i) (cell c.store_range.new.pm i) (cell c.fence.new.self i) (c.store_range.ensures.others i none) (c.fence.ensures.fence.words i))
    (λ m i reached at. either_fenced _ _ (is_on c.store_range.new.power) (cell c.store_range.new.pm i) (cell c.fence.new.self i) (c.fence.ensures.fence.words i) (c.store_range.ensures.each m i reached at))
    (λ m i reached at.
    let before = c.fence.ensures.steps.on_before on in
    fence_done (is_on c.store_range.new.power) _ (cell c.store_range.new.pm i) (cell c.fence.new.self i) before (c.fence.ensures.fence.words i) (c.store_range.ensures.done before m i reached at))

pub returns-clause-keeps : goal.returns-clause-keeps
returns-clause-keeps c on =
    kept_single c.args.map.now c.args.first c.args.bytes.now c.args.pm.now c.fence.new.self (omega arith) (λ n. omega (arith, c.type_inv.bytes n)) (c.requires.ready (sym c.on.ensures ∙ c.if-not-on.false))
    (λ i none. settled (is_on c.store_range.new.power) (cell c.args.pm.now i) (cell c.store_range.new.pm i) (cell c.fence.new.self i) (c.store_range.ensures.others i none) (c.fence.ensures.fence.words i))
    (λ m i reached at. either_fenced _ _ (is_on c.store_range.new.power) (cell c.store_range.new.pm i) (cell c.fence.new.self i) (c.fence.ensures.fence.words i) (c.store_range.ensures.each m i reached at))
    (λ m i reached at.
    let before = c.fence.ensures.steps.on_before on in
    fence_done (is_on c.store_range.new.power) _ (cell c.store_range.new.pm i) (cell c.fence.new.self i) before (c.fence.ensures.fence.words i) (c.store_range.ensures.done before m i reached at))
