-- What each step tells its seat.
use Rattle.std.specs.Prelude.{◌≡◌, ◌≢◌, ℕ, Contains, List, [], ◌∷◌, map, Option, Some, None}
use Rattle.atomic_table.specs.Table.{Me, rest, Step}
use Rattle.ruled_turn.specs.declared.views.Standing.{Standing}
use Rattle.ruled_turn.specs.Standings.{outside, within}

-- what lies in the slot that was taken last
abbrev pub slot_of : {T : Type 0} → List (ℕ × Option T) → Option T
slot_of [] = None
slot_of (c ∷ cs) = c.1

module _ {T V : Type 0} where
  -- The word was 0: the seat is inside, and has taken the value from the slot, of which each pass that it carries knows what the
  -- protocol says.
  pub record Enters (knows : T → V → Type 0) (m new : Me (Option T) (Standing T V)) : Type 0 where
    pub value : T
    pub known : (i : ℕ) (v : V) → Contains m.0.carried (i, v) → knows value v
    pub seat : new ≡ (within m.0.carried value, (0, Some value) ∷ m.1)

  abbrev pub taken : (T → V → Type 0) → Step (Option T) → Me (Option T) (Standing T V) → ℕ → Me (Option T) (Standing T V) → Type 0
  taken knows st m found new = (found ≡ 0 → Enters knows m new) × (found ≢ 0 → new ≡ m)

  -- the views after the holder's value x became y
  abbrev pub advanced : (V → T → T → V) → List (ℕ × V) → T → T → List (ℕ × V)
  advanced next carried x y = map (λ c. (c.0, next c.1 x y)) carried

  abbrev pub left_with : (V → T → T → V) → List (ℕ × V) → Option T → Option T → Standing T V
  left_with next carried (Some x) (Some y) = outside (advanced next carried x y)
  left_with next carried (Some x) None = outside carried
  left_with next carried None y = outside carried

  -- the value that the seat had out goes home, and the seat is outside
  abbrev pub released : (V → T → T → V) → Step (Option T) → Me (Option T) (Standing T V) → ℕ → Me (Option T) (Standing T V) → Type 0
  released next st m found new = new ≡ (left_with next m.0.carried m.0.inside (slot_of m.1), rest m.1)
