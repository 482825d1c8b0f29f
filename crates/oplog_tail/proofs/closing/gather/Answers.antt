-- The first place is that of the last seat, and takes over what the others know.
use Rattle.std.proofs.Common.{◌≡◌, ◌∙◌, Some, arith}
use Rattle.std.proofs.lemmas.List.Elements.{All-pop}
use Rattle.oplog_tail.specs.Seats.{SeatView}
use Rattle.oplog_tail.proofs.Allowing.{gathers_allowed}
use Rattle.oplog_tail.proofs.Gathering.{IsPlace, whole_one}
use Rattle.oplog_tail.proofs.closing.gather.Goals as goal

pub loop-seat-init : goal.loop-seat-init
loop-seat-init c =
    let table = c.args.shared.now.table_id in
    let s = c.in-Some.last in
    let place = c.place_of-whole in
    let left = c.pop.new.self.items in
    let rest = All-pop (λ (x : SeatView). x.log ≡ table) c.args.seats.items left (Some s) c.in-Some.ensures.items c.requires.table in
    let is : IsPlace table s place.result.table_id place.result.me = record {
      at_table = place.ensures.table ∙ rest.1;
      home = place.ensures.rests;
      idle = place.ensures.idle;
      parts = place.ensures.parts;
      claims = place.ensures.claims;
      full = place.ensures.full;
    } in
    whole_one table c.args.seats.items left s place.result.table_id place.result.me c.in-Some.ensures.items rest.0 is

pub join_seat-requires : goal.join_seat-requires
join_seat-requires c =
    let table = c.args.shared.now.table_id in
    let whole = c.loop-seat.whole in
    let place = c.place_of in
    let words = c.requires.words in
    let rest = All-pop (λ (x : SeatView). x.log ≡ table) c.loop-seat.seats.items c.pop-in-loop-seat.new.self.items (Some c.in-Some-pop.seat) c.in-Some-pop.ensures.items c.loop-seat.invariant.others in (
      c.loop-seat.invariant.at_table,
      place.ensures.table ∙ rest.1,
      place.ensures.rests,
      omega (arith, words),
      gathers_allowed c.args.shared.now.key whole.id whole.me.0 place.result.id place.result.me.0 place.ensures.idle,
    )
