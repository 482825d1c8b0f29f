-- One part more goes to a new seat.
use Rattle.std.proofs.Common.{◌≡◌, ◌∙◌, ◌+◌, ◌-◌, ◌<◌, ◌++◌, ◌∷◌, [], ℕ, suc, ap, sym, subst, replicate, arith}
use Rattle.atomic_table.specs.Table.{Me, Splits}
use Rattle.oplog_tail.specs.Logs.{fresh_seat}
use Rattle.oplog_tail.specs.Rule.{Kept}
use Rattle.oplog_tail.specs.Seats.{SeatView}
use Rattle.oplog_tail.specs.Views.{newcomer, with_parts}
use Rattle.oplog_tail.specs.declared.views.Knows.{Knows}
use Rattle.oplog_tail.specs.declared.views.Slot.{Slot}
use Rattle.oplog_tail.proofs.Allowing.{deals_allowed}
use Rattle.oplog_tail.proofs.Slots.{replicate_push}
use Rattle.oplog_tail.proofs.opening.deal.Goals as goal

pub split_seat-place-requires : goal.split_seat-place-requires
split_seat-place-requires c =
    let first = c.loop-seat.first in
    let inv = c.loop-seat.invariant in
    let parts : ℕ = c.args.seats + 1 - c.loop-seat._seat in
    let words = c.requires.table.1 in
    let left : c.loop-seat._seat < c.args.seats = c.loop-seat-test.true in
    let view : first.me.0 ≡ newcomer parts = ap (λ (m : Me Slot Knows). m.0) inv.first in (
      inv.table,
      omega (arith, words),
      subst (λ (v : Knows). Splits (Kept c.args.shared.now.key) first.id v (with_parts v (v.parts - 1)) (newcomer 1)) (sym view) (deals_allowed c.args.shared.now.key first.id parts (omega (arith, left))),
    )

pub loop-seat-preserved : goal.loop-seat-preserved
loop-seat-preserved c =
    let inv = c.loop-seat.invariant in
    let k = c.loop-seat._seat in
    let seat : SeatView = fresh_seat c.args.shared.now.table_id in
    let fresh : c.in_ok-seat_at.field-0 ≡ seat = c.in_ok-seat_at.ensures ∙ ap fresh_seat (c.split_seat-place.ensures.3 ∙ inv.table) in
    let more : suc (k - 1) ≡ k + 1 - 1 = omega (arith, inv.from) in
    record {
      from = omega arith;
      first = c.split_seat-place.ensures.2 ∙ (ap (λ (m : Me Slot Knows). (with_parts m.0 (m.0.parts - 1), m.1)) inv.first ∙ ap (λ (n : ℕ). (newcomer n, [])) (omega arith));
      table = c.split_seat-place.ensures.0 ∙ inv.table;
      dealt = c.in_ok-push.ensures.items ∙ ((λ i. inv.dealt i ++ fresh i ∷ []) ∙ (replicate_push (k - 1) seat ∙ ap (λ (n : ℕ). replicate n seat) more));
    }

pub returns : goal.returns
returns c =
    let inv = c.loop-seat.invariant in
    let k = c.loop-seat._seat in
    let seat : SeatView = fresh_seat c.args.shared.now.table_id in
    let fresh : c.in_ok-seat_at-2.field-0 ≡ seat = c.in_ok-seat_at-2.ensures ∙ ap fresh_seat inv.table in
    let all : suc (k - 1) ≡ c.args.seats = omega arith in
    let last : c.loop-seat.dealt.items ++ c.in_ok-seat_at-2.field-0 ∷ [] ≡ replicate (k - 1) seat ++ seat ∷ [] = (λ i. inv.dealt i ++ fresh i ∷ []) in
    let whole : replicate (k - 1) seat ++ seat ∷ [] ≡ replicate c.args.seats seat = replicate_push (k - 1) seat ∙ ap (λ (n : ℕ). replicate n seat) all in
    c.in_ok-push-2.ensures.items ∙ (last ∙ whole)
