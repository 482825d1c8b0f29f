-- The rule of the turn, which holds between any two steps of its threads. The word is 1 while a seat is inside, and else 0. The
-- slot has the value, or nothing while a seat has it.
use Rattle.std.specs.Prelude.{◌≡◌, ◌≤◌, ◌<◌, ℕ, Contains, List, [], ◌∷◌, length, slice_get, sum_by, Option, Some}
use Rattle.std.specs.List.{enumerate_from}
use mathlib.Core.Option.{some, none}
use mathlib.Core.Option as maybe
use lib.ListN.{get_elem?}
use Rattle.atomic_table.specs.Table.{State}
use Rattle.ruled_turn.specs.declared.views.Opening.{Opening}
use Rattle.ruled_turn.specs.declared.views.Standing.{Standing}
use Rattle.ruled_turn.specs.Standings.{carried_count, carried_with, holds_turn, outside}
use Rattle.list_laws.specs.Numbers.{once_below}

module _ {T V : Type 0} (holds : T → List V → Type 0) where
  -- the passes that a seat carries have these views
  abbrev pub Fits : List V → Standing T V → Type 0
  Fits vs s = (i : ℕ) (v : V) → Contains s.carried (i, v) → slice_get vs i ≡ Some v

  -- Each of the n passes is carried by one seat. The rule of the protocol holds of the value, or of the one that was found inside,
  -- and of the views of the passes in their order.
  pub record Rule (n word : ℕ) (homes : List (maybe.Option (Option T))) (seats : List (Standing T V)) : Type 0 where
    pub views : List V
    pub count : length views ≡ n
    pub holders : sum_by holds_turn seats ≡ word
    pub one : word ≤ 1
    pub once : (i : ℕ) → sum_by (carried_with i) seats ≡ once_below i n
    pub carried : sum_by carried_count seats ≡ n
    pub fits : (j : ℕ) (s : Standing T V) → get_elem? seats j ≡ some s → Fits views s
    pub inside_carries : (j : ℕ) (s : Standing T V) → get_elem? seats j ≡ some s → holds_turn s ≤ carried_count s
    pub free : word ≡ 0 → (x : T) × (homes ≡ some (Some x) ∷ []) × holds x views
    pub taken : 0 < word → homes ≡ none ∷ []
    pub entered : (j : ℕ) (s : Standing T V) (x : T) → get_elem? seats j ≡ some s → s.inside ≡ Some x → holds x views

  -- the same of a table of one word
  pub record Kept (n : ℕ) (s : State (Option T) (Standing T V)) : Type 0 where
    pub word : ℕ
    pub words : s.words ≡ word ∷ []
    pub rule : Rule n word s.homes s.views

-- the first seat carries all passes, with the views that the protocol gives them at the opening
abbrev pub first_standing : {T V : Type 0} → (T → ℕ → List V) → Opening T → Standing T V
first_standing first key = outside (enumerate_from 0 (first key.value.value key.passes))

abbrev pub KeptFor : {T V : Type 0} → (T → List V → Type 0) → Opening T → State (Option T) (Standing T V) → Type 0
KeptFor holds key s = Kept holds key.passes s
