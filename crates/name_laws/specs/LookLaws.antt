-- What it says of a path that none of the rows of `open`, `stat` or `list` fits; and that the node at a path is where the
-- path leads in the rows.
use Rattle.std.specs.Prelude.{◌≡◌, ℕ, List, [], ◌∷◌, ◌++◌, length, Bool, true, false, not, ◌&&◌, ◌==◌, nat_lt, Option, Some, None, is_some, option_and_then, Result, Ok, Err, refl}
use Rattle.std.specs.Option.{option_map_or}
use Rattle.std.proofs.Common.{arith, ap, sym, ◌∙◌, subst}
use Rattle.std.proofs.lemmas.Bool.{ne_eqb}
use Rattle.std.proofs.lemmas.Option.{option_and_then_some, same_Some}
use Rattle.k_split_model.specs.layout_model.Lines.{NameRow}
use Rattle.k_split_model.specs.layout_model.Names.{Rows, row, child_named, walk}
use Rattle.k_split_model.specs.layout_model.TableLaws.{walk-append, walk-one, walk-step}
use Rattle.k_split_model.specs.Spaces.{entries_of}
use Rattle.k_split_model.specs.posix_types.declared.handle.Flags.{Flags}
use Rattle.k_split_model.specs.posix_types.declared.reply.Errno.{Errno}
use Rattle.k_split_model.specs.posix_tables.NameRows.{open_rows, stat_rows, list_rows}
use Rattle.k_split_model.specs.posix_tables.Names.{child_of, directory_path, directory_stands, exists_at, file_stands, is_root, last_name, node_at_path, Space, too_long, walk_from, walk as walk_to}
use Rattle.k_split_model.specs.posix_tables.Outcomes.{first}
use Rattle.name_laws.specs.EntryLaws.{child_of-rows, walk_from-rows}
use Rattle.name_laws.specs.PathLaws.{directory-there, new-there, node_left, line_left}
use Rattle.name_laws.specs.Paths.{IsNewAt, HasRoom}
use Rattle.name_laws.specs.RowLists.{AllNone, none_fits, no_row}
use Rattle.name_laws.specs.TreeLaws.{split-last}

-- ---- rows

node-there : (s : Space) (p : List (List ℕ)) → exists_at s p ≡ true → (child : ℕ) × (node_at_path s p ≡ Some child)
node-there s p some = by (node_at_path s p) refl
  where
    by : (o : Option ℕ) → node_at_path s p ≡ o → (child : ℕ) × (node_at_path s p ≡ Some child)
    by None is = let never : false ≡ true = sym (ap is_some is) ∙ some in cc
    by (Some child) is = (child, is)

not_false : (b : Bool) → not b ≡ false → b ≡ true
not_false true h = refl
not_false false h = cc

-- the root exists
root-exists : (s : Space) (p : List (List ℕ)) → exists_at s p ≡ false → is_root p ≡ false
unfolding node_at_path
root-exists s p none = by (is_root p) refl
  where
    by : (b : Bool) → is_root p ≡ b → is_root p ≡ false
    by false is = is
    by true is = let never : true ≡ false = rw is at none in cc

-- `stat`: something stands at the path. `list`: a directory.
pub stat-may : (s : Space) (p : List (List ℕ)) → first (stat_rows s p) ≡ None
    → (child : ℕ) × (node_at_path s p ≡ Some child)
unfolding stat_rows
stat-may s p none =
    let rows : AllNone (stat_rows s p) = none_fits (stat_rows s p) none in
    node-there s p (not_false (exists_at s p) (no_row (not (exists_at s p)) _ rows.1.1.0))

pub list-may : (s : Space) (p : List (List ℕ)) → first (list_rows s p) ≡ None
    → (child : ℕ) × (node_at_path s p ≡ Some child) × (s.directory child ≡ true)
unfolding list_rows
list-may s p none =
    let rows : AllNone (list_rows s p) = none_fits (list_rows s p) none in
    let there = node-there s p (not_false (exists_at s p) (no_row (not (exists_at s p)) _ rows.1.1.0)) in
    let no_file : not (s.directory there.0) ≡ false =
    sym (ap (λ o. option_map_or (λ node. not (s.directory node)) o false) there.1)
    ∙ no_row (file_stands s p) _ rows.1.1.1.0
    in
    (there.0, there.1, not_false (s.directory there.0) no_file)

-- `open` of a path where nothing stands: the flags say that a file is made, its directory is there, and there is room.
pub record MayOpenNew (s : Space) (p : List (List ℕ)) (parent : ℕ) (f : Flags) : Type 0 where
  pub new : IsNewAt s p parent
  pub room : HasRoom s
  pub create : f.create ≡ true

pub open-makes : (s : Space) (full busy : Bool) (p : List (List ℕ)) (f : Flags)
    → first (open_rows s full busy p f) ≡ None
    → exists_at s p ≡ false → (parent : ℕ) × MayOpenNew s p parent f
unfolding open_rows
open-makes s full busy p f none nothing =
    let rows : AllNone (open_rows s full busy p f) = none_fits (open_rows s full busy p f) none in
    let d = directory-there s p (root-exists s p nothing) (no_row (too_long s.longest p) _ rows.0) rows.1.0 in
    let node_row = rows.1.1.1.1.1.1.1.0 in
    let line_row = rows.1.1.1.1.1.1.1.1.0 in (
      d.0,
      record {
        new = new-there s p d.0 d.1 nothing;
        room = record {
          nodes = node_left s.nodes_left (no_row (s.nodes_left == 0) _ (rw nothing at node_row));
          lines = line_left s.lines_left (no_row (nat_lt s.lines_left 1) _ (rw nothing at line_row));
        };
        create = made (no_row (not (exists_at s p) && not f.create) _ rows.1.1.1.1.1.0);
      },
    )
  where
    made : (not (exists_at s p) && not f.create) ≡ false → f.create ≡ true
    made h = not_false f.create (rw nothing at h)

-- `open` of a path where something stands: a file.
pub open-opens : (s : Space) (full busy : Bool) (p : List (List ℕ)) (f : Flags)
    → first (open_rows s full busy p f) ≡ None
    → exists_at s p ≡ true → (child : ℕ) × (node_at_path s p ≡ Some child) × (s.directory child ≡ false)
unfolding open_rows
open-opens s full busy p f none some =
    let rows : AllNone (open_rows s full busy p f) = none_fits (open_rows s full busy p f) none in
    let there = node-there s p some in
    (there.0, there.1, sym (ap (λ o. option_map_or s.directory o false) there.1) ∙ no_row (directory_stands s p) _ rows.1.1.1.0)

-- ---- the node at a path, where only directories have entries

abbrev pub HaveDirectories : (ℕ → Bool) → Rows → Type 0
HaveDirectories directory rows = (k : ℕ) (r : NameRow) → row rows k ≡ Some r → directory r.parent ≡ true

-- from where a path leads to a directory there is a directory
begins-there : (directory : ℕ → Bool) (rows : Rows) (at : ℕ) (names : List (List ℕ)) (end : ℕ)
    → HaveDirectories directory rows
    → walk rows at names ≡ Some end → directory end ≡ true → directory at ≡ true
unfolding walk
begins-there directory rows at [] end parents leads is =
    subst (λ i. directory i ≡ true) (sym (same_Some at end leads)) is
begins-there directory rows at (name ∷ names) end parents leads is =
    let step = walk-step rows at name names end leads in
    subst (λ i. directory i ≡ true) step.first.parent_is (parents step.first.line step.first.at step.first.is)

pub rows-walk_from : (directory : ℕ → Bool) (rows : Rows) (at : ℕ) (names : List (List ℕ)) (end : ℕ)
    → HaveDirectories directory rows
    → walk rows at names ≡ Some end → directory end ≡ true → walk_from directory (entries_of rows) at names ≡ Ok end
unfolding walk
rows-walk_from directory rows at [] end parents leads is = ap (λ (i : ℕ). Ok i) (same_Some at end leads)
rows-walk_from directory rows at (name ∷ names) end parents leads is =
    option_and_then_some (λ c. walk rows c names) (child_named rows at name) end leads (λ child named onward.
    let there = begins-there directory rows child names end parents onward is in
    let found : child_of (entries_of rows) at name ≡ Some child = child_of-rows rows at name ∙ named in
    let rest = rows-walk_from directory rows child names end parents onward is in
    rw (found, there) rest)

-- A path that leads to a node in the rows has it in the space.
pub node_at-rows : (s : Space) (rows : Rows) (p : List (List ℕ)) (node : ℕ) → s.entries ≡ entries_of rows
    → HaveDirectories s.directory rows
    → walk rows 0 p ≡ Some node → node_at_path s p ≡ Some node
unfolding node_at_path walk walk_to
node_at-rows s rows [] node entries parents leads = leads
node_at-rows s rows (front ∷ rest) node entries parents leads =
    let below : is_root (front ∷ rest) ≡ false = ne_eqb (length (front ∷ rest)) 0 (λ e. absurd (omega (arith, e))) in
    let whole : walk rows 0 (directory_path (front ∷ rest) ++ (last_name (front ∷ rest) ∷ [])) ≡ Some node =
    ap (walk rows 0) (split-last (front ∷ rest) below) ∙ leads
    in
    option_and_then_some (λ c. walk rows c (last_name (front ∷ rest) ∷ []))
    (walk rows 0 (directory_path (front ∷ rest))) node
    (sym (walk-append rows 0 (directory_path (front ∷ rest)) (last_name (front ∷ rest) ∷ [])) ∙ whole) (λ parent to_parent onward.
    option_and_then_some (λ c. walk rows c []) (child_named rows parent (last_name (front ∷ rest))) node onward (λ child named ends.
    let step = walk-step rows parent (last_name (front ∷ rest)) [] node onward in
    let is : s.directory parent ≡ true =
    subst (λ i. s.directory i ≡ true) step.first.parent_is (parents step.first.line step.first.at step.first.is)
    in
    let walked : walk_from s.directory s.entries 0 (directory_path (front ∷ rest)) ≡ Ok parent =
    subst (λ es. walk_from s.directory es 0 (directory_path (front ∷ rest)) ≡ Ok parent) (sym entries)
    (rows-walk_from s.directory rows 0 (directory_path (front ∷ rest)) parent parents to_parent is)
    in
    let found : child_of s.entries parent (last_name (front ∷ rest)) ≡ Some node =
    subst (λ es. child_of es parent (last_name (front ∷ rest)) ≡ Some node) (sym entries)
    (child_of-rows rows parent (last_name (front ∷ rest)) ∙ named ∙ ends)
    in
    rw (below, walked) found))

-- And the other way round.
pub rows-node_at : (s : Space) (rows : Rows) (p : List (List ℕ)) (node : ℕ) → s.entries ≡ entries_of rows
    → node_at_path s p ≡ Some node
    → walk rows 0 p ≡ Some node
unfolding node_at_path walk walk_to
rows-node_at s rows [] node entries is = is
rows-node_at s rows (front ∷ rest) node entries is =
    let below : is_root (front ∷ rest) ≡ false = ne_eqb (length (front ∷ rest)) 0 (λ e. absurd (omega (arith, e))) in
    by below (walk_from s.directory s.entries 0 (directory_path (front ∷ rest))) refl
  where
    by : is_root (front ∷ rest) ≡ false → (w : Result ℕ Errno)
        → walk_from s.directory s.entries 0 (directory_path (front ∷ rest)) ≡ w
        → walk rows 0 (front ∷ rest) ≡ Some node
    by below (Err errno) walked = let never : None ≡ Some node = rw (below, walked) at is in cc
    by below (Ok parent) walked =
        let found : child_of s.entries parent (last_name (front ∷ rest)) ≡ Some node = rw (below, walked) at is in
        let named : child_named rows parent (last_name (front ∷ rest)) ≡ Some node =
        sym (child_of-rows rows parent (last_name (front ∷ rest)))
        ∙ subst (λ es. child_of es parent (last_name (front ∷ rest)) ≡ Some node) entries found
        in
        let leads = walk_from-rows s.directory rows 0 (directory_path (front ∷ rest)) parent
        (subst (λ es. walk_from s.directory es 0 (directory_path (front ∷ rest)) ≡ Ok parent) entries walked)
        in
        ap (walk rows 0) (sym (split-last (front ∷ rest) below))
        ∙ walk-append rows 0 (directory_path (front ∷ rest)) (last_name (front ∷ rest) ∷ [])
        ∙ ap (option_and_then (λ c. walk rows c (last_name (front ∷ rest) ∷ []))) leads.path
        ∙ walk-one rows parent (last_name (front ∷ rest)) node named
