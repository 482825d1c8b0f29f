use Rattle.std.proofs.Common.{◌∙◌, ◌+◌, ap, arith, refl, sym}
use Rattle.std.specs.Prelude.{ℕ, replicate}
use Rattle.oplog_tail.specs.Logs.{at_first}
use Rattle.ruled_turn.specs.Passes.{passes_with}
use Rattle.thread_laws.specs.Hands.{first_hands}
use Rattle.split_threads.specs.declared.turns.Held.{Held}
use Rattle.split_threads.proofs.Opened.{dealt_count, round_opened, seats_count}
use Rattle.split_threads.proofs.Turned.{may_open}
use Rattle.split_threads.proofs.opening.open_round.Goals as goal

pub deal-requires-clause-some : goal.deal-requires-clause-some
deal-requires-clause-some c =
    let n = c.threads-count.result + 1 in
    let may = may_open c.requires.0 c.args.world c.open_log.new.world c.args.stop c.args.power c.requires.1 c.in-Ok.ensures.begun.new_is n (omega arith) in
    omega (arith, dealt_count c.open_log.new.world c.args.power n may c.in-Ok-open.turn.id c.in-Ok-open.passes.items c.in-Ok-open.ensures.passes)

pub deal-requires-clause-few : goal.deal-requires-clause-few
deal-requires-clause-few c =
    let n = c.threads-count.result + 1 in
    let may = may_open c.requires.0 c.args.world c.open_log.new.world c.args.stop c.args.power c.requires.1 c.in-Ok.ensures.begun.new_is n (omega arith) in
    omega (arith, dealt_count c.open_log.new.world c.args.power n may c.in-Ok-open.turn.id c.in-Ok-open.passes.items c.in-Ok-open.ensures.passes, c.threads-count.ensures.most)

pub deal-requires-clause-seats : goal.deal-requires-clause-seats
deal-requires-clause-seats c =
    let n = c.threads-count.result + 1 in
    let may = may_open c.requires.0 c.args.world c.open_log.new.world c.args.stop c.args.power c.requires.1 c.in-Ok.ensures.begun.new_is n (omega arith) in
    seats_count c.in-Ok.log c.in-Ok.seats.items n c.in-Ok.ensures.seats ∙ sym (dealt_count c.open_log.new.world c.args.power n may c.in-Ok-open.turn.id c.in-Ok-open.passes.items c.in-Ok-open.ensures.passes)

pub returns : goal.returns
returns c =
    let new = c.open_log.new.world in
    let count = ap (λ (n : ℕ). n + 1) c.threads-count.ensures.threads in
    round_opened c.requires.0 c.args.world new c.args.stop c.args.power c.requires.1 c.in-Ok.log.lines c.in-Ok.log.base c.in-Ok.ensures.begun
    (record { turn = c.in-Ok-open.turn; log = c.in-Ok.log; dealt = c.in-Ok-deal.dealt }) c.in-Ok-open.passes.items c.in-Ok.seats.items
    refl (c.in-Ok.ensures.count ∙ count) refl (c.in-Ok.ensures.seats ∙ ap (λ (n : ℕ). replicate n (at_first c.in-Ok.log)) count)
    (c.in-Ok-open.ensures.count ∙ count) (c.in-Ok-open.ensures.passes ∙ ap (λ (n : ℕ). passes_with {T = Held} c.in-Ok-open.turn.id (first_hands new c.args.power n)) count) c.in-Ok-deal.ensures
