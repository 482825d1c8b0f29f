-- The first seat is that of the last pass, and takes over what the others carry.
use Rattle.std.proofs.Common.{◌≡◌, ◌∙◌, Some, None, arith}
use Rattle.std.proofs.lemmas.List.Elements.{All-pop}
use Rattle.ruled_turn.specs.Passes.{PassView}
use Rattle.ruled_turn.proofs.Allowing.{joins_allowed}
use Rattle.ruled_turn.proofs.Gathering.{IsSeat, whole_more}
use Rattle.ruled_turn.proofs.closing.gather.Goals as goal

pub join_seat-requires : goal.join_seat-requires
join_seat-requires g c =
    let table = c.args.shared.now.table_id in
    let whole = c.loop-pass.whole in
    let seat = c.seat_of in
    let words = c.requires.words in
    let rest = All-pop (λ (p : PassView g.row.T.Denot g.row.V.Denot). p.turn ≡ table) c.loop-pass.passes.items c.pop-in-loop-pass.new.self.items (Some c.in-Some-pop.pass) c.in-Some-pop.ensures.items c.loop-pass.invariant.others in (
      c.loop-pass.invariant.at_table,
      seat.ensures.table ∙ rest.1,
      seat.ensures.home,
      omega (arith, words),
      joins_allowed g.P.Protocol.holds c.args.shared.now.key.passes whole.id whole.me.0 seat.result.id seat.result.me.0 seat.ensures.outside,
    )

pub loop-pass-preserved : goal.loop-pass-preserved
loop-pass-preserved g c =
    let table = c.args.shared.now.table_id in
    let inv = c.loop-pass.invariant in
    let whole = c.loop-pass.whole in
    let seat = c.seat_of in
    let left = c.loop-pass.passes.items in
    let rest = c.pop-in-loop-pass.new.self.items in
    let p = c.in-Some-pop.pass in
    let items = c.in-Some-pop.ensures.items in
    let others = All-pop (λ (q : PassView g.row.T.Denot g.row.V.Denot). q.turn ≡ table) left rest (Some p) items inv.others in
    let idle = All-pop (λ (q : PassView g.row.T.Denot g.row.V.Denot). q.inside ≡ None) left rest (Some p) items inv.others_idle in
    let is : IsSeat table p seat.result.table_id seat.result.me = record {
      at_table = seat.ensures.table ∙ others.1;
      home = seat.ensures.home;
      idle = seat.ensures.outside;
      carried = seat.ensures.carried;
      one = seat.ensures.one;
    } in
    whole_more table c.args.passes.items left rest p whole.table_id c.join_seat.new.seat.table_id seat.result.table_id whole.me c.join_seat.new.seat.me seat.result.me items others.0 idle.0 inv is c.join_seat.ensures.0 c.join_seat.ensures.2
