use Rattle.std.specs.Prelude.{◌≡◌, ◌<◌, length, slice_get, slice_index_or, slice_set, Some, refl}
use Rattle.std.proofs.Common.{arith}
use Rattle.std.proofs.lemmas.Option.{slice_get-get_or}
use Rattle.thread_laws.specs.Places.{set_at}
use Rattle.split_threads.proofs.Places.{same_length}
use Rattle.split_threads.proofs.Showing.{seen_all, seen_more, seen_over}
use Rattle.split_threads.proofs.set_up.show_all.Goals as goal

pub returns-then-not-show_one : goal.returns-then-not-show_one
returns-then-not-show_one g c =
    let below : c.loop-k.k < length c.loop-k.owns = omega (arith, c.loop-k-test.true, c.loop-k.invariant.count) in
    let own = slice_index_or c.loop-k.owns c.loop-k.k c.index-owns-k.result in
    let there : slice_get c.loop-k.owns c.loop-k.k ≡ Some own = slice_get-get_or c.loop-k.owns c.loop-k.k c.index-owns-k.result below in
    seen_over c.args.turn.now c.args.owns.now c.loop-k.k c.loop-k.owns (slice_set c.loop-k.owns c.loop-k.k c.show_one.new.own) own c.show_one.new.own c.loop-k.invariant there refl
    (same_length c.loop-k.owns c.loop-k.k c.show_one.new.own) c.if-not-show_one.ensures (set_at c.loop-k.owns c.loop-k.k own c.show_one.new.own there)

pub loop-k-preserved : goal.loop-k-preserved
loop-k-preserved g c =
    let below : c.loop-k.k < length c.loop-k.owns = omega (arith, c.loop-k-test.true, c.loop-k.invariant.count) in
    let own = slice_index_or c.loop-k.owns c.loop-k.k c.index-owns-k.result in
    let there : slice_get c.loop-k.owns c.loop-k.k ≡ Some own = slice_get-get_or c.loop-k.owns c.loop-k.k c.index-owns-k.result below in
    seen_more c.args.turn.now c.args.owns.now c.loop-k.k c.loop-k.owns (slice_set c.loop-k.owns c.loop-k.k c.show_one.new.own) own c.show_one.new.own c.loop-k.invariant there refl
    (same_length c.loop-k.owns c.loop-k.k c.show_one.new.own) c.if-not-show_one.ensures

pub returns : goal.returns
returns g c = seen_all c.args.turn.now c.args.owns.now c.loop-k.k c.loop-k.owns c.loop-k.invariant (omega (arith, c.loop-k-test.false))
