-- One pass more gets a seat of its own.
use Rattle.std.proofs.Common.{◌≡◌, ◌∙◌, ◌+◌, ◌-◌, ◌<◌, ◌++◌, ◌∷◌, [], ℕ, List, suc, ap, sym, map, take, drop, length, arith, Option, None}
use Rattle.atomic_table.specs.Seated.{TableId}
use Rattle.atomic_table.specs.Table.{Me}
use Rattle.ruled_turn.specs.Passes.{outside_pass, PassView}
use Rattle.ruled_turn.specs.Standings.{outside, without_first}
use Rattle.ruled_turn.specs.declared.views.Standing.{Standing}
use Rattle.ruled_turn.proofs.Allowing.{deals_allowed}
use Rattle.ruled_turn.proofs.Gathering.{is_last, is_next, IsLast, IsNext, pass_at}
use Rattle.ruled_turn.proofs.opening.deal.Goals as goal

pub split_seat-seat-requires : goal.split_seat-seat-requires
split_seat-seat-requires g c =
    let first = c.loop-pass.first in
    let inv = c.loop-pass.invariant in
    let words = c.requires.table.1 in
    let idle : first.me.0.inside ≡ None = ap (λ (m : Me (Option g.row.T.Denot) (Standing g.row.T.Denot g.row.V.Denot)). m.0.inside) inv.first in
    (inv.table, omega (arith, words), deals_allowed g.P.Protocol.holds c.args.shared.now.key.passes first.id first.me.0 idle)

pub pass_of-requires : goal.pass_of-requires
pass_of-requires g c =
    let cs : List (ℕ × g.row.V.Denot) = c.args.first.me.0.carried in
    let n : ℕ = c.loop-pass._pass - 1 in
    let inv = c.loop-pass.invariant in
    let test : c.loop-pass._pass < c.args.passes = c.loop-pass-test.true in
    let next : IsNext (λ (p : ℕ × g.row.V.Denot). p) cs n = is_next (λ (p : ℕ × g.row.V.Denot). p) cs n (omega (arith, test, c.requires.count)) in
    let carried : c.loop-pass.first.me.0.carried ≡ drop n cs = ap (λ (m : Me (Option g.row.T.Denot) (Standing g.row.T.Denot g.row.V.Denot)). m.0.carried) inv.first in
    pass_at c.split_seat-seat.result.me next.value (c.split_seat-seat.ensures.4 ∙ (ap (λ (l : List (ℕ × g.row.V.Denot)). (outside (take 1 l), [])) carried ∙ ap (λ (l : List (ℕ × g.row.V.Denot)). (outside l, [])) next.first))

pub loop-pass-preserved : goal.loop-pass-preserved
loop-pass-preserved g c =
    let cs : List (ℕ × g.row.V.Denot) = c.args.first.me.0.carried in
    let table : TableId = c.args.shared.now.table_id in
    let n : ℕ = c.loop-pass._pass - 1 in
    let inv = c.loop-pass.invariant in
    let test : c.loop-pass._pass < c.args.passes = c.loop-pass-test.true in
    let f : ℕ × g.row.V.Denot → PassView g.row.T.Denot g.row.V.Denot = λ p. outside_pass table p.0 p.1 in
    let next : IsNext f cs n = is_next f cs n (omega (arith, test, c.requires.count)) in
    let more : suc n ≡ c.loop-pass._pass + 1 - 1 = omega (arith, inv.from) in
    let carried : c.loop-pass.first.me.0.carried ≡ drop n cs = ap (λ (m : Me (Option g.row.T.Denot) (Standing g.row.T.Denot g.row.V.Denot)). m.0.carried) inv.first in
    let seat : c.split_seat-seat.result.me ≡ (outside (next.value ∷ []), []) =
    c.split_seat-seat.ensures.4 ∙ (ap (λ (l : List (ℕ × g.row.V.Denot)). (outside (take 1 l), [])) carried ∙ ap (λ (l : List (ℕ × g.row.V.Denot)). (outside l, [])) next.first) in
    let at : c.split_seat-seat.result.table_id ≡ table = c.split_seat-seat.ensures.3 ∙ inv.table in
    let pass : c.pass_of.result ≡ f next.value =
    c.pass_of.ensures ∙ (λ i. record { turn = at i; carried = (seat i).0.carried; inside = (seat i).0.inside }) in
    let items : c.push.new.self.items ≡ map f (take n cs) ++ f next.value ∷ [] = c.in_ok-push.ensures.items ∙ (λ i. inv.dealt i ++ pass i ∷ []) in
    record {
      from = omega arith;
      first = c.split_seat-seat.ensures.2 ∙ (ap (λ (m : Me (Option g.row.T.Denot) (Standing g.row.T.Denot g.row.V.Denot)). (without_first m.0, m.1)) inv.first
          ∙ (ap (λ (l : List (ℕ × g.row.V.Denot)). (outside l, [])) next.behind ∙ ap (λ (k : ℕ). (outside (drop k cs), [])) more));
      table = c.split_seat-seat.ensures.0 ∙ inv.table;
      dealt = items ∙ (sym next.before ∙ ap (λ (k : ℕ). map f (take k cs)) more);
    }

pub pass_of-requires-2 : goal.pass_of-requires-2
pass_of-requires-2 g c =
    let cs : List (ℕ × g.row.V.Denot) = c.args.first.me.0.carried in
    let n : ℕ = c.loop-pass._pass - 1 in
    let inv = c.loop-pass.invariant in
    let all : length cs ≡ suc n = omega (arith, inv.from, c.requires.count) in
    let last : IsLast (λ (p : ℕ × g.row.V.Denot). p) cs n = is_last (λ (p : ℕ × g.row.V.Denot). p) cs n all in
    pass_at c.loop-pass.first.me last.value (inv.first ∙ ap (λ (l : List (ℕ × g.row.V.Denot)). (outside l, [])) last.alone)

pub returns : goal.returns
returns g c =
    let cs : List (ℕ × g.row.V.Denot) = c.args.first.me.0.carried in
    let table : TableId = c.args.shared.now.table_id in
    let n : ℕ = c.loop-pass._pass - 1 in
    let inv = c.loop-pass.invariant in
    let f : ℕ × g.row.V.Denot → PassView g.row.T.Denot g.row.V.Denot = λ p. outside_pass table p.0 p.1 in
    let all : length cs ≡ suc n = omega (arith, inv.from, c.requires.count) in
    let last : IsLast f cs n = is_last f cs n all in
    let seat : c.loop-pass.first.me ≡ (outside (last.value ∷ []), []) = inv.first ∙ ap (λ (l : List (ℕ × g.row.V.Denot)). (outside l, [])) last.alone in
    let pass : c.pass_of-2.result ≡ f last.value = c.pass_of-2.ensures ∙ (λ i. record { turn = inv.table i; carried = (seat i).0.carried; inside = (seat i).0.inside }) in
    let items : c.push-2.new.self.items ≡ map f (take n cs) ++ f last.value ∷ [] = c.in_ok-push-2.ensures.items ∙ (λ i. inv.dealt i ++ pass i ∷ []) in
    items ∙ sym last.all
