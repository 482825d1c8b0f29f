use Rattle.std.proofs.Common.{◌≡◌, ℕ}
use Rattle.thread_laws.specs.Hands.{HandView}
use Rattle.split_threads.specs.Workers.{HasComeSoFar, IsWorker, MayWork}
use Rattle.split_threads.proofs.working.work.Given as goal

-- the worker is idle, and has come so far, whatever its view was at first
abbrev pub invariant-loop : goal.invariant-loop
invariant-loop g l = record {
  who : l.own.who ≡ l.initial.own.who;
  far : (i : ℕ) (v : HandView) → IsWorker l.shared.turn l.shared.log l.initial.own i v → MayWork l.initial.own v
      → HasComeSoFar l.shared.turn l.shared.log v l.initial.own.seat i l.own;
}
