-- How many device steps a history may take before the power goes, so that steps are not spent on nothing.
use Rattle.std.specs.Prelude.{ℕ, ◌+◌, ◌*◌, ◌^◌, ◌≤◌, Bool, true, false, not, ◌&&◌, nat_lt, IsTrue, List, ◌∷◌, length, map, filter_map}
use Rattle.std.specs.List.{list_any, range_with_len}
use Rattle.posix_types.specs.declared.call.Mode.{Mode}
use Rattle.posix_types.specs.declared.call.Who.{Who}
use Rattle.posix_types.specs.declared.call.Call.{Call}
use Rattle.posix_types.specs.declared.item.Item.{Item}
use Rattle.posix_types.specs.Scripts.{Scripts}
use Rattle.posix_spec.specs.Scripted.{call_count, next_call}

-- a call that may move data
abbrev pub moves_data : Call → Bool
moves_data (Call.Write h x) = true
moves_data (Call.Pwrite h o x) = true
moves_data (Call.Truncate h n) = true
moves_data (Call.Fsync h) = true
moves_data (Call.Open h p f) = f.truncate
moves_data call = false

-- all callers, and the next call of each
abbrev pub callers : Scripts → List Who
callers scripts = Who.Setup ∷ map (λ n. Who.Thread n) (range_with_len 0 (length scripts.threads))

abbrev pub next_calls : Scripts → List Item → List Call
next_calls scripts history = filter_map (next_call scripts history) (callers scripts)

abbrev pub is_posix : Mode → Bool
is_posix Mode.Posix = true
is_posix Mode.Sync = false
is_posix Mode.Strict = false

-- calls are left, none that came or that comes next moves data, and the mode is not POSIX
abbrev pub is_quiet : Mode → Scripts → List Item → Bool
is_quiet mode scripts history =
    not (is_posix mode) && nat_lt (length history) (call_count scripts)
    && not (list_any moves_data (map (λ item. item.call) history)) && not (list_any moves_data (next_calls scripts history))

-- so many steps are afforded by calls that move no data
abbrev pub AffordedByNames : ℕ → List Item → Type 0
AffordedByNames steps history = steps ≤ 512 * (length history + 1)

-- so many steps are afforded by a history
pub record Afforded (steps : ℕ) (history : List Item) (scripts : Scripts) (mode : Mode) : Type 0 where
  pub by_any : steps ≤ 2 ^ 31 * (length history + 2)
  pub by_names : IsTrue (is_quiet mode scripts history) → AffordedByNames steps history
