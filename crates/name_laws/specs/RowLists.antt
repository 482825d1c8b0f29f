-- Laws of lists of rows, of which the first that fits gives the outcome.
use Rattle.std.specs.Prelude.{◌≡◌, Bool, true, false, cond, List, [], ◌∷◌, Option, Some, None, refl}
use Rattle.k_split_model.specs.posix_types.declared.item.Outcome.{Outcome}
use Rattle.k_split_model.specs.posix_tables.Outcomes.{first}

abbrev pub AllNone : List (Option Outcome) → Type 0
AllNone [] = Unit {0}
AllNone (o ∷ rows) = (o ≡ None) × AllNone rows

-- where no row fits, each is none
pub none_fits : (rows : List (Option Outcome)) → first rows ≡ None → AllNone rows
none_fits [] none = tt
none_fits (None ∷ rows) none = (refl, none_fits rows none)
none_fits (Some outcome ∷ rows) none = let never : Some outcome ≡ None = none in cc

-- a row that is none does not fit
pub no_row : (b : Bool) (o : Outcome) → cond b (Some o) None ≡ None → b ≡ false
no_row true o none = let never : Some o ≡ None = none in cc
no_row false o none = refl
