-- What is kept, and the tables that it stands for.
use Rattle.std.specs.Prelude.{ℕ, zero, suc, ◌==◌, Bool, false, List, [], ◌∷◌, ◌++◌, map, find, Option}
use Rattle.std.specs.Option.{option_flatten, option_map, option_map_or}
use Rattle.posix_tables.specs.declared.open.Description.{Description}
use Rattle.posix_tables.specs.declared.open.Binding.{Binding}
use Rattle.posix_tables.specs.Open.{Tables}
use Rattle.open_files.specs.declared.files.kept.Kept.{Kept}
use Rattle.open_files.specs.declared.files.kept.Reference.{Reference}

-- what is kept of a description, as the tables have it: the inode stands in the place of the node number
abbrev pub description_of : Kept → Description
description_of kept = record { node = kept.ino; offset = kept.offset; flags = kept.flags }

abbrev pub has_number : ℕ → Option Kept → Bool
has_number number slot = option_map_or (λ kept. kept.number == number) slot false

-- the description with a number, where it is kept
unfoldable pub numbered : List (Option Kept) → ℕ → Option Description
numbered slots number = option_map description_of (option_flatten (find (has_number number) slots))

-- the list of f 0, f 1 and so on, of a length
unfoldable pub tabulated : {X : Type 0} → (ℕ → X) → ℕ → List X
tabulated f zero = []
tabulated f (suc n) = tabulated f n ++ f n ∷ []

abbrev pub number_of : Reference → ℕ
number_of reference = reference.number

abbrev pub refers_to : ℕ → Option Reference → Bool
refers_to number slot = option_map_or (λ reference. reference.number == number) slot false

-- The tables: as many descriptions as were ever opened, each number with the description that is kept with it, if there is one.
abbrev pub tables_of : List (Option Kept) → ℕ → List (Option Reference) → List Binding → Tables
tables_of slots ever_opened descriptors handles = record {
  descriptions = tabulated (numbered slots) ever_opened;
  descriptors = map (option_map number_of) descriptors;
  handles = handles;
}
