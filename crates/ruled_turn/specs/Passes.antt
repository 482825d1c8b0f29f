-- A turn and its passes as contracts see them.
use Rattle.std.specs.Prelude.{◌≡◌, ℕ, Contains, List, [], ◌∷◌, map, slice_get, Option, Some, None}
use Rattle.std.specs.List.{enumerate_from}
use Rattle.atomic_table.specs.Seated.{TableId}
use Rattle.atomic_table.specs.Table.{Me}
use Rattle.ruled_turn.specs.declared.views.Standing.{Standing}

-- which turn it is of, its number and its view as a list of one pair, and the value with which it is inside
pub record PassView (T V : Type 0) : Type 0 where
  pub turn : TableId
  pub carried : List (ℕ × V)
  pub inside : Option T

-- which turn it is, and how many passes it has
pub record TurnView : Type 0 where
  pub id : TableId
  pub passes : ℕ

-- while a pass is inside, it has the slot out, empty
abbrev pub slots_out : {T : Type 0} → Option T → List (ℕ × Option T)
slots_out None = []
slots_out (Some x) = (0, None) ∷ []

module _ {T V : Type 0} where
  -- the pass of that number and view, outside, and inside with a value
  abbrev pub outside_pass : TableId → ℕ → V → PassView T V
  outside_pass turn i v = record { turn = turn; carried = (i, v) ∷ []; inside = None }

  abbrev pub inside_pass : TableId → ℕ → V → T → PassView T V
  inside_pass turn i v x = record { turn = turn; carried = (i, v) ∷ []; inside = Some x }

  -- the passes of a turn that is opened with these views, by their numbers
  abbrev pub passes_with : TableId → List V → List (PassView T V)
  passes_with turn views = map (λ c. outside_pass turn c.0 c.1) (enumerate_from 0 views)

  -- the pass is inside, with a value, and outside, with a view
  abbrev pub entered : PassView T V → T → PassView T V
  entered p x = record { turn = p.turn; carried = p.carried; inside = Some x }

  -- each of the passes has its view in the list, at its number
  abbrev pub HaveViews : List V → List (PassView T V) → Type 0
  HaveViews views passes = (p : PassView T V) (i : ℕ) (v : V) → Contains passes p → p.carried ≡ (i, v) ∷ [] → slice_get views i ≡ Some v

  -- what is true of a pass between two calls: it carries one view
  pub record IsPass (me : Me (Option T) (Standing T V)) : Type 0 where
    pub number : ℕ
    pub view : V
    pub one : me.0.carried ≡ (number, view) ∷ []
    pub out : me.1 ≡ slots_out me.0.inside
