use Rattle.std.proofs.Common.{◌/◌, arith}
use Rattle.block_pool.proofs.Places.{none_in_rest, next_in_rest, none_joined}
use Rattle.block_pool.proofs.bits.next_set.Goals as goal

pub returns-then-found-to-clause-found : goal.returns-then-found-to-clause-found
returns-then-found-to-clause-found c =
    let next = next_in_rest c.args.words.now c.loop-place.place (omega (arith, c.type_inv.words (c.loop-place.place / 64))) c.if-rest-ne0.true in
    record {
      behind = omega (arith, c.loop-place.invariant.behind);
      before = c.if-found-to.true;
      set = next.0;
      none = none_joined _ _ _ _ c.loop-place.invariant.none next.1;
    }

pub returns-else-found-to-clause-none : goal.returns-else-found-to-clause-none
returns-else-found-to-clause-none c =
    let next = next_in_rest c.args.words.now c.loop-place.place (omega (arith, c.type_inv.words (c.loop-place.place / 64))) c.if-rest-ne0.true in
    λ p le lt. none_joined _ _ _ _ c.loop-place.invariant.none next.1 p le (omega (arith, c.if-found-to.false))

pub loop-place-preserved : goal.loop-place-preserved
loop-place-preserved c = record {
  behind = omega (arith, c.loop-place.invariant.behind);
  none = none_joined _ _ _ _ c.loop-place.invariant.none (none_in_rest c.args.words.now c.loop-place.place c.if-rest-ne0.false);
}
