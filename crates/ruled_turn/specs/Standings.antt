-- What a seat of the turn carries, counted.
use Rattle.std.specs.Prelude.{ℕ, List, ◌++◌, length, take, drop, Option, Some, None}
use Rattle.list_laws.specs.Numbers.{count_with}
use Rattle.ruled_turn.specs.declared.views.Standing.{Standing}

-- whether there is a value
abbrev pub inside_count : {T : Type 0} → Option T → ℕ
inside_count None = 0
inside_count (Some x) = 1

-- the number of a pass
abbrev pub number_of : {V : Type 0} → ℕ × V → ℕ
number_of c = c.0

module _ {T V : Type 0} where
  -- whether it holds the turn
  abbrev pub holds_turn : Standing T V → ℕ
  holds_turn s = inside_count s.inside

  -- how many passes it carries, and how often that of the number i
  abbrev pub carried_count : Standing T V → ℕ
  carried_count s = length s.carried

  abbrev pub carried_with : ℕ → Standing T V → ℕ
  carried_with i s = count_with number_of i s.carried

  -- it carries these passes, and is outside, or inside with the value that it found
  abbrev pub outside : List (ℕ × V) → Standing T V
  outside carried = record { carried = carried; inside = None }

  abbrev pub within : List (ℕ × V) → T → Standing T V
  within carried x = record { carried = carried; inside = Some x }

  -- its first pass goes to another seat
  abbrev pub without_first : Standing T V → Standing T V
  without_first s = record { carried = drop 1 s.carried; inside = s.inside }

  abbrev pub first_alone : Standing T V → Standing T V
  first_alone s = outside (take 1 s.carried)

  -- the passes of another seat come before its own
  abbrev pub joined : Standing T V → Standing T V → Standing T V
  joined s r = record { carried = r.carried ++ s.carried; inside = s.inside }
