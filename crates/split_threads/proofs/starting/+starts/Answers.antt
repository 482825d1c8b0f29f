use Rattle.std.proofs.Common.{◌≡◌, ◌≤◌, ◌<◌, ◌+◌, ◌*◌, [], arith, rules, subst, sym, vec_len}
use Rattle.std.specs.Prelude.{List, vec_capacity}
use Rattle.split_threads.specs.Backs.{HaveComeBack}
use Rattle.split_threads.specs.declared.starting.Back.{Back}
use Rattle.split_threads.proofs.Places.{popped_length}
use Rattle.split_threads.proofs.Started.{come_more, last_starts, rest_starts}
use Rattle.split_threads.proofs.starting.+starts.Goals as goal

pub join-back-requires-after_bounds : goal.join-back-requires-after_bounds
join-back-requires-after_bounds g t c κs within =
    let turn = c.args.shared.now.turn in
    let log = c.args.shared.now.log in
    let own = last_starts turn log c.args.owns.items c.pop.new.self.items c.in-Some.own c.in-Some.ensures.items c.requires.may in
    let rest = rest_starts turn log c.args.owns.items c.pop.new.self.items c.in-Some.own c.in-Some.ensures.items c.requires.may in
    let room : (c.args.room.items ≡ []) × (vec_len c.pop.new.self ≤ vec_capacity c.args.room) = (c.requires.room.0, omega (arith, c.requires.room.1, c.in-Some.ensures.len)) in
    let less : 2 * vec_len c.pop.new.self + 1 < 2 * vec_len c.args.owns = omega (arith, c.in-Some.ensures.len) in
    search (rules, own, rest, room, less, within, g.met, c.well_formed, c.lifetimes)

pub push_reserved-requires : goal.push_reserved-requires
push_reserved-requires g t c =
    omega (
      arith,
      c.join-back.ensures.second.as_much,
      c.join-back.ensures.second.back.count,
      c.requires.room.1,
      popped_length c.args.owns.items c.pop.new.self.items c.in-Some.own c.in-Some.ensures.items,
      c.args.owns.ok.0,
      c.join-back.result.1.ok.0,
    )

pub returns : goal.returns
returns g t c = record {
  back = subst (λ (bs : List Back). HaveComeBack c.args.shared.now.turn c.args.shared.now.log c.args.owns.items bs) (sym c.push_reserved.ensures.items)
      (come_more c.args.shared.now.turn c.args.shared.now.log c.args.owns.items c.pop.new.self.items c.in-Some.own c.join-back.result.1.items c.join-back.result.0 c.in-Some.ensures.items c.join-back.ensures.second.back c.join-back.ensures.first);
  as_much = omega (arith, c.join-back.ensures.second.as_much, c.push_reserved.ensures.capacity);
}
