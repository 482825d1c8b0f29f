-- The chief laws of tables of names, each as one statement.
use Rattle.std.specs.Prelude.{◌≡◌, ◌≢◌, ◌⊎◌, ℕ, suc, ◌+◌, ◌<◌, ◌≤◌, ◌==◌, Bool, List, length, true, false, cond, slice_set, Option, Some, None}
use Rattle.std.specs.List.{count_by}
use Rattle.volume_laws.specs.layout_model.Lines.{NameRow}
use Rattle.volume_laws.specs.layout_model.Names.{Rows, row, is_entry, is_free_row, find_name, child_named, names_of, has_entries, parent_of, up, walk}
use Rattle.volume_laws.specs.layout_model.Tables.{IsKeyed, IsAcyclic}
use Rattle.volume_laws.specs.image_model.Kept.{AreKept}
use Rattle.volume_laws.specs.image_model.Volume.{Volume}
use Rattle.k_split_model.specs.Spaces.{is_directory_in}
use Rattle.name_laws.specs.Forests.{IsForest, SameAbove, MeetsFirst}
use Rattle.name_laws.specs.KeptLaws.{HasAllLines}
use Rattle.volume_laws.specs.Lists.{one_if}

-- the names of a sane volume are what a table of names asks for
abbrev pub AreTrees : Type 0
AreTrees = (v : Volume) → AreKept v → HasAllLines v → IsForest (is_directory_in v.inodes) v.names

abbrev pub HaveNoWayBack : Type 0
HaveNoWayBack = (directory : ℕ → Bool) (rows : Rows) → IsForest directory rows → IsAcyclic rows

-- ---- a line that was free is taken, for a name that is new

-- the name is found in the line
abbrev pub FindsTaken : Type 0
FindsTaken =
    (rows : Rows) (line : ℕ) (r : NameRow) → line < length rows → IsKeyed rows
    → ((k : ℕ) → is_entry r.parent r.name (row rows k) ≡ true → k ≡ line)
    → find_name (slice_set rows line (Some r)) r.parent r.name ≡ Some (line, r.child)

-- each name, the new one and every other, leads where it should
abbrev pub NamesTaken : Type 0
NamesTaken =
    (rows : Rows) (line : ℕ) (r : NameRow) (parent : ℕ) (name : List ℕ) → line < length rows → row rows line ≡ None
    → (is_entry parent name (Some r) ≡ true → child_named rows parent name ≡ None)
    → child_named (slice_set rows line (Some r)) parent name ≡ cond (is_entry parent name (Some r)) (Some r.child) (child_named rows parent name)

-- the child has one name more
abbrev pub CountsTaken : Type 0
CountsTaken =
    (rows : Rows) (line : ℕ) (r : NameRow) (ino : ℕ) → line < length rows → row rows line ≡ None
    → names_of (slice_set rows line (Some r)) ino ≡ names_of rows ino + one_if (r.child == ino)

-- a child that had no name lies in the directory of the line
abbrev pub LiesAbove : Type 0
LiesAbove =
    (rows : Rows) (line : ℕ) (r : NameRow) → line < length rows → row rows line ≡ None → names_of rows r.child ≡ 0
    → parent_of (slice_set rows line (Some r)) r.child ≡ Some r.parent

-- of what is no directory the forest may have more names
abbrev pub StaysForestTaken : Type 0
StaysForestTaken =
    (directory : ℕ → Bool) (rows : Rows) (line : ℕ) (r : NameRow) → line < length rows → row rows line ≡ None
    → ((k : ℕ) → is_entry r.parent r.name (row rows k) ≡ false) → directory r.parent ≡ true
    → (directory r.child ≡ true → names_of rows r.child ≡ 0) → has_entries rows r.child ≡ false → r.parent ≢ r.child
    → IsForest directory rows → IsForest directory (slice_set rows line (Some r))

-- ---- a line is freed

abbrev pub FindsNoneFreed : Type 0
FindsNoneFreed =
    (rows : Rows) (line : ℕ) (r : NameRow) → IsKeyed rows → row rows line ≡ Some r
    → child_named (slice_set rows line None) r.parent r.name ≡ None

abbrev pub CountsFreed : Type 0
CountsFreed =
    (rows : Rows) (line : ℕ) (r : NameRow) (ino : ℕ) → line < length rows → row rows line ≡ Some r
    → names_of (slice_set rows line None) ino + one_if (r.child == ino) ≡ names_of rows ino

abbrev pub HasNoneAbove : Type 0
HasNoneAbove =
    (rows : Rows) (line : ℕ) (r : NameRow) → line < length rows → row rows line ≡ Some r → names_of rows r.child ≤ 1
    → parent_of (slice_set rows line None) r.child ≡ None

abbrev pub StaysForestFreed : Type 0
StaysForestFreed =
    (directory : ℕ → Bool) (rows : Rows) (line : ℕ) (r : NameRow) → line < length rows → row rows line ≡ Some r
    → has_entries rows r.child ≡ false → IsForest directory rows
    → IsForest directory (slice_set rows line None)

-- ---- elsewhere

-- names of other lines are found as before
abbrev pub FindsOthers : Type 0
FindsOthers =
    (rows : Rows) (line : ℕ) (o : Option NameRow) (parent : ℕ) (name : List ℕ)
    → is_entry parent name (row rows line) ≡ false → is_entry parent name o ≡ false
    → child_named (slice_set rows line o) parent name ≡ child_named rows parent name

-- paths: those that led somewhere lead there still, and new ones to the new child alone; where a name is freed, only
-- those to its child lead there no more
abbrev pub LeadsStill : Type 0
LeadsStill =
    (rows : Rows) (line : ℕ) (r : NameRow) (ino : ℕ) (names : List (List ℕ)) (end : ℕ) → row rows line ≡ None
    → child_named rows r.parent r.name ≡ None
    → walk rows ino names ≡ Some end → walk (slice_set rows line (Some r)) ino names ≡ Some end

abbrev pub LeadsToNew : Type 0
LeadsToNew =
    (rows : Rows) (line : ℕ) (r : NameRow) (ino : ℕ) (names : List (List ℕ)) (end : ℕ) → line < length rows
    → IsKeyed rows → row rows line ≡ None
    → ((k : ℕ) → is_entry r.parent r.name (row rows k) ≡ true → k ≡ line) → has_entries rows r.child ≡ false
    → r.parent ≢ r.child
    → walk (slice_set rows line (Some r)) ino names ≡ Some end → (walk rows ino names ≡ Some end) ⊎ (end ≡ r.child)

abbrev pub LeadsElsewhere : Type 0
LeadsElsewhere =
    (rows : Rows) (line : ℕ) (r : NameRow) (ino : ℕ) (names : List (List ℕ)) (end : ℕ) → IsKeyed rows
    → row rows line ≡ Some r
    → has_entries rows r.child ≡ false → end ≢ r.child → walk rows ino names ≡ Some end
    → walk (slice_set rows line None) ino names ≡ Some end

abbrev pub LeadsNoMore : Type 0
LeadsNoMore =
    (rows : Rows) (line : ℕ) (r : NameRow) (ino : ℕ) (names : List (List ℕ)) → row rows line ≡ Some r
    → names_of rows r.child ≤ 1 → ino ≢ r.child
    → walk (slice_set rows line None) ino names ≢ Some r.child

-- going up is the same from all but a child without entries, and below one that moves as far as that one
abbrev pub GoesUpAsBefore : Type 0
GoesUpAsBefore =
    (rows others : Rows) (child n ino : ℕ) → SameAbove child rows others → has_entries rows child ≡ false → ino ≢ child → up others n ino ≡ up rows n ino

abbrev pub GoesUpThrough : Type 0
GoesUpThrough =
    (rows others : Rows) (child p m n ino : ℕ) → SameAbove child rows others → parent_of others child ≡ Some p → MeetsFirst rows child m ino
    → up others (m + suc n) ino ≡ up others n p

-- a directory may move to any that is not below it
abbrev pub StaysForestMoved : Type 0
StaysForestMoved =
    (directory : ℕ → Bool) (rows : Rows) (line : ℕ) (r s : NameRow) → line < length rows → row rows line ≡ Some r
    → s.child ≡ r.child → ((k : ℕ) → is_entry s.parent s.name (row rows k) ≡ true → k ≡ line)
    → directory s.parent ≡ true → ((m : ℕ) → up rows m s.parent ≢ Some r.child)
    → IsForest directory rows → IsForest directory (slice_set rows line (Some s))

-- one free line less where one is taken
abbrev pub CountsFreeLines : Type 0
CountsFreeLines =
    (rows : Rows) (line : ℕ) (r : NameRow) → line < length rows → row rows line ≡ None
    → count_by is_free_row (slice_set rows line (Some r)) + 1 ≡ count_by is_free_row rows
