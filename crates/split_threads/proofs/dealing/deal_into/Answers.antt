use Rattle.std.specs.Prelude.{List, ℕ, refl}
use Rattle.std.proofs.Common.{ap, arith, subst, sym}
use Rattle.ruled_turn.specs.Passes.{PassView}
use Rattle.thread_laws.specs.world_view_laws.posix_types.declared.call.Who.{Who}
use Rattle.thread_laws.specs.Hands.{HandView}
use Rattle.split_threads.specs.declared.turns.Held.{Held}
use Rattle.split_threads.specs.declared.working.Own.{Own}
use Rattle.split_threads.proofs.Dealt.{all_dealt, dealt_more, IsDealing}
use Rattle.split_threads.proofs.Places.{empty_list, popped_length}
use Rattle.split_threads.proofs.dealing.deal_into.Goals as goal

pub loop-pass-preserved : goal.loop-pass-preserved
loop-pass-preserved c =
    let inv = c.loop-pass.invariant in
    let rest = c.pop-in-loop-pass.new.self in
    record {
      dealing = subst (λ (os : List Own). IsDealing c.args.passes.items c.args.seats.items c.args.stop rest.items c.pop-in-Some.new.self.items os) (sym c.push_reserved.ensures.items)
          (dealt_more c.args.passes.items c.args.seats.items c.args.stop c.loop-pass.passes.items rest.items c.loop-pass.seats.items c.pop-in-Some.new.self.items c.loop-pass.owns.items _ inv.dealing
          c.in-Some.ensures.items c.in-Some-pop.ensures.items (ap (λ (n : ℕ). Who.Thread n) (omega (arith, c.len.ensures, rest.ok.0))) c.power_for-power.ensures);
      room = omega (
        arith,
        inv.room,
        c.push_reserved.ensures.len,
        c.push_reserved.new.self.ok.0,
        c.loop-pass.owns.ok.0,
        c.push_reserved.ensures.capacity,
        popped_length c.loop-pass.passes.items rest.items c.in-Some.pass c.in-Some.ensures.items,
      );
    }

pub returns : goal.returns
returns c =
    let inv = c.loop-pass.invariant in
    let none = empty_list c.loop-pass.passes.items (omega (arith, c.in_default-pop.ensures.cases.0, c.loop-pass.passes.ok.0)) in
    all_dealt c.args.passes.items c.args.seats.items c.args.stop c.loop-pass.owns.items c.loop-pass.seats.items _
    (subst (λ (ps : List (PassView Held HandView)). IsDealing c.args.passes.items c.args.seats.items c.args.stop ps c.loop-pass.seats.items c.loop-pass.owns.items) none inv.dealing) refl c.requires.seats c.pop.new.self.items
    c.pop-2.new.self.items c.in-Some-Some.ensures.items c.in-Some-Some.ensures'.items refl c.power_for.ensures
