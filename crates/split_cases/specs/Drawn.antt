-- What a generator that is drawn from on the way gives.
use Rattle.std.specs.Prelude.{◌≡◌, ℕ, ◌+◌, List}
use Rattle.posix_types.specs.declared.call.Call.{Call}
use Rattle.crash_spec.specs.Orders.{draw}
use Rattle.split_cases.specs.Load.{calls_by}

-- n calls of a thread, each by one draw, and the generator stands behind these draws
pub record AreDrawn (old new n t : ℕ) (calls : List Call) : Type 0 where
  pub calls_are : calls ≡ calls_by old 0 n t
  pub behind : (k : ℕ) → draw new k ≡ draw old (n + k)
