-- A seat that claimed a line and put it back is at rest.
use Rattle.std.proofs.Common.{◌≡◌, ◌∙◌, ◌++◌, ◌∷◌, ◌<◌, [], List, ℕ, cond, ap, sym, subst}
use Rattle.std.specs.Prelude.{vec_capacity}
use Rattle.atomic_table.specs.Seated.{TableId}
use Rattle.layout_model.specs.declared.lines.Draft.{Draft}
use Rattle.oplog_tail.specs.Logs.{LogView}
use Rattle.oplog_tail.specs.Seats.{IsResting, SeatView}
use Rattle.oplog_entry.specs.declared.claims.Mark.TheVariants.{Lost, Written}
use Rattle.oplog_tail.proofs.Resting.{rests_with}
use Rattle.oplog_tail.proofs.logs.OpLog.append.Goals as goal

pub invariant_of-seat-2 : goal.invariant_of-seat-2
invariant_of-seat-2 c =
    let seat = c.seat.inside in
    let new = c.fill-written.new.place in
    let n = c.claim-number.result in
    let d = c.args.draft.now in
    let room : ℕ = vec_capacity seat.claims in
    let of_log : seat.place.table_id ≡ c.self.inside.table.shared.table_id = ap (λ (s : SeatView). s.log) c.seat.view_is ∙ (c.requires.log ∙ sym (ap (λ (l : LogView). l.id) c.self.view_is)) in
    let within : n < c.self.inside.table.shared.table_id.slots = subst (λ (k : ℕ). n < k) c.slot_count-capacity.ensures c.if-number-capacity.false in
    let same : new.table_id ≡ seat.place.table_id = c.fill-written.ensures.table ∙ c.claim-number.ensures.table in
    let below : n < new.table_id.slots = subst (λ (id : TableId). n < id.slots) (sym (same ∙ of_log)) within in
    let rests : IsResting new.table_id.slots seat.place.me seat.claims.items room seat.full =
    subst (λ (id : TableId). IsResting id.slots seat.place.me seat.claims.items room seat.full) (sym same) c.seat.invariant in
    let after : IsResting new.table_id.slots new.me (seat.claims.items ++ (n, d) ∷ []) room seat.full =
    rests_with new.table_id.slots seat.place.me c.claim-number.new.place.me new.me seat.claims.items room seat.full n d (cond c.fill-written.result Written Lost) rests below (c.claim-number.ensures.claimed.0 within) c.fill-written.ensures.settled in
    subst (λ (k : ℕ). IsResting new.table_id.slots new.me c.push_reserved.new.self.items k seat.full) (sym c.push_reserved.ensures.capacity)
    (subst (λ (ps : List (ℕ × Draft)). IsResting new.table_id.slots new.me ps room seat.full) (sym c.push_reserved.ensures.items) after)
