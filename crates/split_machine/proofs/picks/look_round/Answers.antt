use Rattle.std.specs.Prelude.{◌≡◌, ◌+◌, ◌&&◌, ℕ, Bool, List, length, true}
use Rattle.std.proofs.Common.{arith, subst, sym}
use Rattle.split_machine.proofs.Looks.{all_runnable, AreSoFar, none_so_far, one_more}
use Rattle.split_machine.proofs.picks.look_round.Goals as goal

pub loop-n-init : goal.loop-n-init
loop-n-init c = subst (λ (xs : List ℕ). AreSoFar c.args.world.now 0 xs true) (sym c.in_ok-numbers.ensures.items) (none_so_far c.args.world.now)

pub loop-n-preserved : goal.loop-n-preserved
loop-n-preserved c =
    subst (λ (b : Bool). AreSoFar c.args.world.now (c.loop-n.n + 1) c.push_able.new.numbers.items b) (sym c.both-all.ensures)
    (subst (λ (xs : List ℕ). AreSoFar c.args.world.now (c.loop-n.n + 1) xs (c.loop-n.all && c.look-able.result.1)) (sym c.in_ok-push_able.ensures)
    (one_more c.args.world.now c.loop-n.n c.loop-n.numbers.items c.loop-n.all c.loop-n.invariant c.look-able.result.1 c.look-able.ensures.ended c.look-able.ensures.goes_on c.look-able.result.0 c.look-able.ensures.able))

pub returns-clause-runnable : goal.returns-clause-runnable
returns-clause-runnable c =
    let same : c.loop-n.n ≡ length c.args.world.now.scripts.threads = omega (arith, c.threads-n-end.ensures.threads) in
    all_runnable c.args.world.now c.loop-n.numbers.items c.loop-n.all (subst (λ (n : ℕ). AreSoFar c.args.world.now n c.loop-n.numbers.items c.loop-n.all) same c.loop-n.invariant)
