use Rattle.std.proofs.Common.{◌≡◌, drop, fold}
use Rattle.posix_spec.specs.Tree.{bare, planted}
use Rattle.posix_spec.proofs.state.State.open.Given as goal

abbrev pub invariant-loop-entry : goal.invariant-loop-entry
invariant-loop-entry l =
    fold planted l.state (drop l.entry-index l.entry-items) ≡ fold planted (bare l.fn.shape l.fn.mode) l.entry-items
