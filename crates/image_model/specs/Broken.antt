-- The rules of a checked image as one list, in the order in which they are tried, and the first of them that an image
-- breaks, with its lowest place.
use Rattle.std.specs.Prelude.{◌≡◌, ◌⊎◌, ℕ, ◌+◌, ◌<◌, ◌≤◌, List, [], ◌∷◌, ◌++◌}
use Rattle.layout_model.specs.pm_model.Words.{Words}
use Rattle.layout_model.specs.Journal.{journaled}
use Rattle.layout_model.specs.Places.{first_data, data_blocks}
use Rattle.layout_model.specs.Names.{row}
use Rattle.image_model.specs.Rules.{geometry_of, IsWholeBlocks, HasMagic, HasVersion, HasNumbers, HasTarget, HasState, HasInode, IsNameSlot, HasChain, IsNamedOnce, IsRowPlaced, AreDirectoriesNamed, HasOneName, CanRecover, IsOfNoLater}
use Rattle.image_model.specs.Volume.{Volume, volume, name_at}

-- A rule: its number, the places at which it is tried, `count` of them from `first` on, and what it asks of each.
pub record Rule : Type 1 where
  pub number : ℕ
  pub first : ℕ
  pub count : ℕ
  pub HoldsAt : ℕ → Type 0

-- a rule with one place, and one that is tried at each number below a count
abbrev pub at_one : ℕ → ℕ → Type 0 → Rule
at_one number place Holds = record { number = number; first = place; count = 1; HoldsAt = λ p. Holds }

abbrev pub below : ℕ → ℕ → (ℕ → Type 0) → Rule
below number count HoldsAt = record { number = number; first = 0; count = count; HoldsAt = HoldsAt }

-- the rule holds at each of its places
abbrev pub Holds : Rule → Type 0
Holds r = (p : ℕ) → r.first ≤ p → p < r.first + r.count → r.HoldsAt p

-- the place is the lowest at which the rule fails
pub record FailsFirst (r : Rule) (place : ℕ) : Type 0 where
  pub from : r.first ≤ place
  pub within : place < r.first + r.count
  pub before : (p : ℕ) → r.first ≤ p → p < place → r.HoldsAt p
  pub fails : ¬ r.HoldsAt place

-- all of the rules hold
abbrev pub HoldAll : List Rule → Type 0
HoldAll [] = Unit {0}
HoldAll (r ∷ rules) = Holds r × HoldAll rules

-- of the rules this one is the first that fails: its number, and the lowest place at which it fails
abbrev pub BreaksFirst : List Rule → ℕ → ℕ → Type 0
BreaksFirst [] number place = ⊥
BreaksFirst (r ∷ rules) number place =
    ((number ≡ r.number) × FailsFirst r place) ⊎ (Holds r × BreaksFirst rules number place)

-- The rules in their order. `v` is the volume of the image, and `j` its words, as the journal makes them.
abbrev pub head_rules : ℕ → Words → List Rule
head_rules bytes f =
    at_one 1 bytes (IsWholeBlocks bytes) ∷ at_one 2 0 (HasMagic f) ∷ at_one 3 0 (HasVersion f) ∷ at_one 4 0 (HasNumbers bytes f)
    ∷ below 11 128 (HasTarget (geometry_of f) f) ∷ at_one 11 128 (HasState f) ∷ []

abbrev pub line_rules : Volume → Words → List Rule
line_rules v j =
    below 5 v.geometry.inodes (HasInode j) ∷ below 6 v.geometry.names (λ k. IsNameSlot v (name_at v.geometry j k))
    ∷ below 7 v.geometry.inodes (HasChain v j) ∷ []

abbrev pub volume_rules : Volume → List Rule
volume_rules v =
    record { number = 8; first = first_data v.geometry; count = data_blocks v.geometry; HoldsAt = IsNamedOnce v }
    ∷ below 9 v.geometry.names (λ k. IsRowPlaced v k (row v.names k)) ∷ at_one 9 v.geometry.names (AreDirectoriesNamed v)
    ∷ below 10 v.geometry.inodes (HasOneName v) ∷ []

abbrev pub log_rules : Volume → Words → List Rule
log_rules v j = at_one 12 0 (CanRecover v j) ∷ below 13 v.geometry.log (IsOfNoLater v j) ∷ []

abbrev pub rules_of : ℕ → Words → Volume → Words → List Rule
rules_of bytes f v j = head_rules bytes f ++ line_rules v j ++ volume_rules v ++ log_rules v j

-- the first rule that an image of so many bytes breaks, and its place
abbrev pub Breaks : ℕ → Words → ℕ → ℕ → Type 0
Breaks bytes f number place = BreaksFirst (rules_of bytes f (volume (geometry_of f) (journaled f)) (journaled f)) number place
