-- What contracts see of `Scripts`.
use Rattle.std.specs.Prelude.{List}
use Rattle.posix_types.specs.declared.call.Call.{Call}

-- the calls of the set-up, and those of each thread by its number
pub record Scripts : Type 0 where
  pub setup : List Call
  pub threads : List (List Call)
