-- The entries of a space are the rows of the table in use: look-ups and walks in the one are those in the other.
use Rattle.std.specs.Prelude.{◌≡◌, ℕ, ◌+◌, List, [], ◌∷◌, Bool, true, false, cond, ◌||◌, ◌==◌, find, Option, Some, None, option_map, option_and_then, Ok, Err, refl, if◌then◌else◌}
use Rattle.std.specs.List.{list_any}
use Rattle.std.proofs.Common.{ap, sym, ◌∙◌, subst}
use Rattle.k_split_model.specs.layout_model.Lines.{NameRow}
use Rattle.k_split_model.specs.layout_model.Names.{Rows, is_entry, is_child, line_and_child, first_row_from, child_named, has_entries, walk}
use Rattle.k_split_model.specs.Spaces.{entries_of}
use Rattle.k_split_model.specs.posix_types.declared.reply.Errno.{Errno}
use Rattle.k_split_model.specs.posix_tables.declared.nodes.DirEntry.{DirEntry}
use Rattle.k_split_model.specs.posix_tables.Names.{child_of, downward, is_named, walk_from, is_entry as is_entry_of, has_entries as has_entries_in}

-- ---- look-ups

-- the child in a line that a search found
abbrev child_found : Option (ℕ × Option NameRow) → Option ℕ
child_found o =
    option_and_then (λ (found : ℕ × ℕ). Some found.1) (option_and_then (λ found. Some (line_and_child found)) o)

found_first : (b : Bool) (n : ℕ) (r : NameRow) (o : Option DirEntry) (later : Option (ℕ × Option NameRow))
    → option_map (λ (e : DirEntry). e.child) o ≡ child_found later
    → option_map (λ (e : DirEntry). e.child) (cond b (Some (record { parent = r.parent; name = r.name; child = r.child })) o)
    ≡ child_found (cond b (Some (n, Some r)) later)
found_first true n r o later same = refl
found_first false n r o later same = same

child_from : (rows : Rows) (n parent : ℕ) (name : List ℕ)
    → child_of (entries_of rows) parent name ≡ child_found (first_row_from (is_entry parent name) n rows)
child_from [] n parent name = refl
child_from (None ∷ rows) n parent name = child_from rows (n + 1) parent name
child_from (Some r ∷ rows) n parent name =
    found_first (is_entry parent name (Some r)) n r (find (is_entry_of parent name) (entries_of rows))
    (first_row_from (is_entry parent name) (n + 1) rows) (child_from rows (n + 1) parent name)

-- The child of a name.
pub child_of-rows : (rows : Rows) (parent : ℕ) (name : List ℕ)
    → child_of (entries_of rows) parent name ≡ child_named rows parent name
child_of-rows rows parent name = child_from rows 0 parent name

-- whether a directory has entries
pub has_entries-rows : (rows : Rows) (parent : ℕ) → has_entries_in (entries_of rows) parent ≡ has_entries rows parent
has_entries-rows [] parent = refl
has_entries-rows (None ∷ rows) parent = has_entries-rows rows parent
has_entries-rows (Some r ∷ rows) parent = ap (λ b. (r.parent == parent) || b) (has_entries-rows rows parent)

-- whether a node has a name
pub is_named-rows : (rows : Rows) (ino : ℕ) → is_named (entries_of rows) ino ≡ list_any (is_child ino) rows
is_named-rows [] ino = refl
is_named-rows (None ∷ rows) ino = is_named-rows rows ino
is_named-rows (Some r ∷ rows) ino = ap (λ b. (r.child == ino) || b) (is_named-rows rows ino)

-- ---- walks

-- what a walk says of where it leads: the path in the rows, and that it is a directory where the walk began at one
pub record LeadsTo (directory : ℕ → Bool) (rows : Rows) (at : ℕ) (names : List (List ℕ)) (end : ℕ) : Type 0 where
  pub path : walk rows at names ≡ Some end
  pub is_directory : directory at ≡ true → directory end ≡ true

pub walk_from-rows : (directory : ℕ → Bool) (rows : Rows) (at : ℕ) (names : List (List ℕ)) (end : ℕ)
    → walk_from directory (entries_of rows) at names ≡ Ok end → LeadsTo directory rows at names end
unfolding walk
walk_from-rows directory rows at [] end leads =
    let same : at ≡ end = cc in
    record { path = ap (λ (i : ℕ). Some i) same; is_directory = λ is. subst (λ i. directory i ≡ true) same is }
walk_from-rows directory rows at (name ∷ names) end leads =
    down (child_of (entries_of rows) at name) (child_of-rows rows at name) leads
    (λ child. walk_from-rows directory rows child names end)
  where
    on : (b : Bool) (child : ℕ) → directory child ≡ b → child_named rows at name ≡ Some child
        → (if b then walk_from directory (entries_of rows) child names else Err Errno.ENOTDIR) ≡ Ok end
        → (walk_from directory (entries_of rows) child names ≡ Ok end → LeadsTo directory rows child names end)
        → LeadsTo directory rows at (name ∷ names) end
    on true child is named onward rest =
        let leads_on = rest onward in
        record { path = ap (option_and_then (λ c. walk rows c names)) named ∙ leads_on.path; is_directory = λ _. leads_on.is_directory is }
    on false child is named onward rest = cc

    down : (o : Option ℕ) → o ≡ child_named rows at name
        → downward directory o (λ node. walk_from directory (entries_of rows) node names) ≡ Ok end
        → ((child : ℕ) → walk_from directory (entries_of rows) child names ≡ Ok end → LeadsTo directory rows child names end)
        → LeadsTo directory rows at (name ∷ names) end
    down None same onward rest = cc
    down (Some child) same onward rest = on (directory child) child refl (sym same) onward (rest child)
