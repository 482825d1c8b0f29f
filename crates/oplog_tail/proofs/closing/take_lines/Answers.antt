-- The line of one slot more is taken out.
use Rattle.std.proofs.Common.{◌≡◌, ◌∙◌, ◌+◌, ◌<◌, ◌++◌, ◌∷◌, [], ℕ, List, Bool, false, map, take, set, length, get_or, ap, sym, subst, arith, add-one, All}
use Rattle.std.specs.Mem.Slots.{slots_counts, slots_filled, slots_items, slots_len}
use Rattle.oplog_tail.specs.Closing.{HasLine, line_in}
use Rattle.oplog_tail.specs.declared.views.Slot.{Slot}
use Rattle.oplog_tail.proofs.Slots.{All-at, emptied, map_take_more, still_filled}
use Rattle.oplog_tail.proofs.closing.take_lines.Goals as goal

pub line_in-requires : goal.line_in-requires
line_in-requires c =
    All-at HasLine (slots_items c.loop-n.closed.slots) c.loop-n.n c.take.result (subst (All HasLine) (sym c.loop-n.invariant.slots) c.requires.lines) c.take.ensures.value

pub loop-n-preserved : goal.loop-n-preserved
loop-n-preserved c =
    let inv = c.loop-n.invariant in
    let n = c.loop-n.n in
    let old = c.loop-n.closed.slots in
    let new = c.take.new.self.slots in
    let xs : List Slot = slots_items old in
    let fs : List Bool = slots_filled old in
    let items : slots_items new ≡ xs = c.take.ensures.others.0 in
    let flags : slots_filled new ≡ set fs n false = c.take.ensures.others.1 in
    let count : slots_len new ≡ slots_len old = c.take.ensures.others.2 in
    let long : slots_len old ≡ length fs = (slots_counts old).1 in
    let test : n < c.slot_count-n-end.result = c.loop-n-test.true in
    let within : n < length fs = omega (arith, test, c.slot_count-n-end.ensures, inv.count, long) in
    let more : map line_in (take (n + 1) xs) ≡ map line_in (take n xs) ++ line_in c.take.result ∷ [] =
    ap (λ (k : ℕ). map line_in (take k xs)) (add-one n) ∙ map_take_more line_in xs n c.take.result c.take.ensures.value in
    let pushed : c.push_reserved.new.self.items ≡ map line_in (take n xs) ++ line_in c.take.result ∷ [] =
    c.push_reserved.ensures.items ∙ (λ i. inv.lines i ++ c.line_in.ensures i ∷ []) in
    record {
      slots = items ∙ inv.slots;
      count = count ∙ inv.count;
      filled = λ k above below. ap (λ (l : List Bool). get_or l k false) flags ∙ still_filled fs n (slots_len old) inv.filled k above (omega (arith, below, count));
      taken = λ k below. ap (λ (l : List Bool). get_or l k false) flags ∙ emptied fs n within inv.taken k below;
      lines = pushed ∙ (sym more ∙ ap (λ (l : List Slot). map line_in (take (n + 1) l)) (sym items));
      pushed = omega (arith, c.push_reserved.ensures.len, inv.pushed);
      room = omega (arith, c.push_reserved.ensures.capacity, inv.room, count);
    }
