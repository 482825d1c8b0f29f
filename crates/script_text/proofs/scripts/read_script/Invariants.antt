use Rattle.std.proofs.Common.{◌≡◌, ℕ, ◌+◌, ◌<◌, ◌≤◌, drop, false, length, take}
use Rattle.script_text.specs.Reached.{IsReached}
use Rattle.script_text.specs.Scripts.{breaks_at, kinds_of}
use Rattle.script_text.proofs.scripts.read_script.Given as goal

-- the lines so far were read and none is bad, and the rest are to come
abbrev pub invariant-loop-rest : goal.invariant-loop-rest
invariant-loop-rest l =
    record {
      rest : drop l.line (kinds_of l.bytes) ≡ kinds_of l.rest;
      good : (j : ℕ) → j < l.line → breaks_at (kinds_of l.bytes) j ≡ false;
      reached : IsReached l.reading (take l.line (kinds_of l.bytes));
      few : l.line + length l.rest ≤ length l.bytes;
    }

abbrev pub decreases-loop-rest : goal.decreases-loop-rest
decreases-loop-rest l = length l.rest
