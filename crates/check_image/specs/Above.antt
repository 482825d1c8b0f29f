-- The tables that the tree of names is checked with.
use Rattle.std.specs.Prelude.{◌≡◌, ◌≢◌, ℕ, ◌<◌, List, length, Option, Some, None, slice_index_or}
use Rattle.k_reading.specs.layout_model.Lines.{NameRow}
use Rattle.k_reading.specs.layout_model.Names.{Rows, row, parent_of}
use Rattle.k_reading.specs.image_model.Broken.{Rule, below}
use Rattle.k_reading.specs.image_model.Rules.{IsRowPlaced, HasOneName}
use Rattle.k_reading.specs.image_model.Volume.{Volume}

-- the child of a row, where there is one, is one of so many inodes
abbrev pub HasChildBelow : ℕ → Option NameRow → Type 0
HasChildBelow count None = Unit {0}
HasChildBelow count (Some r) = r.child < count

abbrev pub HaveChildrenBelow : ℕ → Rows → Type 0
HaveChildrenBelow count rows = (k : ℕ) → HasChildBelow count (row rows k)

-- of each inode the directory above it, if it has one
abbrev pub IsAbove : Rows → List (Option ℕ) → Type 0
IsAbove rows above = (ino : ℕ) → slice_index_or above ino None ≡ parent_of rows ino

-- no line behind line k has the parent and the name of the row
abbrev pub IsOnly : Rows → ℕ → NameRow → Type 0
IsOnly rows k r = (later : ℕ) (s : NameRow) → k < later → row rows later ≡ Some s → s.parent ≡ r.parent → s.name ≢ r.name

-- rule 9 at the lines, and rule 10
abbrev pub rows_rule : Volume → Rule
rows_rule v = below 9 (length v.names) (λ k. IsRowPlaced v k (row v.names k))

abbrev pub names_rule : Volume → Rule
names_rule v = below 10 (length v.inodes) (HasOneName v)
