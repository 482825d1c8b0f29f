-- Which row of a call fits first, by what was found in the tables.
use Rattle.std.proofs.Common.{◌≡◌, ℕ, Bool, true, false, not, List, [], ◌∷◌, ◌++◌, Option, Some, None, refl, sym, ◌∙◌, ap}
use Rattle.std.specs.Prelude.{◌==◌, ◌&&◌, ◌||◌, nat_lt, is_some, unwrap_or}
use Rattle.std.specs.Option.{option_eq, option_map_or, option_or}
use Rattle.std.proofs.lemmas.Bool.{both_ways, eqb-true, eq-eqb, ne_eqb}
use Rattle.posix_types.specs.declared.item.Outcome.{Outcome}
use Rattle.posix_types.specs.declared.reply.Reply.{Reply}
use Rattle.posix_types.specs.declared.reply.Errno.{Errno}
use Rattle.posix_types.specs.declared.reply.What.{What}
use Rattle.posix_tables.specs.NameRows.{mkdir_rows, no_line, rename_kind_rows, rename_rows, rmdir_rows, too_long_row, unlink_rows, walk_row}
use Rattle.posix_tables.specs.Names.{Space, child_of, directory_stands, exists_at, has_entries, is_root, last_name, node_at_path, number_at}
use Rattle.posix_tables.specs.Outcomes.{answer, first, idle_row, no_space, row, space_row}
use Rattle.name_laws.specs.Paths.{HasDirectory, IsAt}
use Rattle.name_laws.specs.PathLaws.{node_at-path}
use Rattle.k_tables.specs.Refusals.{directory_kind_rows, directory_rows, ends_rows, entry_rows, file_kind_rows, moving_rows, new_rows, removal_rows, room_rows, standing_rows}

-- ---- lists of rows

-- a row that fits before others, and rows of which none does
pub first-front : (xs ys : List (Option Outcome)) (o : Outcome) → Some o ≡ first xs → Some o ≡ first (xs ++ ys)
first-front [] ys o fits = let never : Some o ≡ None = fits in cc
first-front (None ∷ xs) ys o fits = first-front xs ys o fits
first-front (Some x ∷ xs) ys o fits = fits

pub first-pass : (xs ys : List (Option Outcome)) → None ≡ first xs → first ys ≡ first (xs ++ ys)
first-pass [] ys none = refl
first-pass (None ∷ xs) ys none = first-pass xs ys none
first-pass (Some x ∷ xs) ys none = let never : None ≡ Some x = none in cc

-- ---- what stands at a path

node-found : (s : Space) (p : List (List ℕ)) (parent : ℕ) (o : Option ℕ) → HasDirectory s p parent
    → child_of s.entries parent (last_name p) ≡ o → node_at_path s p ≡ o
node-found s p parent o d is = node_at-path s p parent d ∙ is

pub node-at : (s : Space) (p : List (List ℕ)) (parent child : ℕ) → IsAt s p parent child → node_at_path s p ≡ Some child
node-at s p parent child at = node-found s p parent (Some child) at.directory at.is

pub node-none : (s : Space) (p : List (List ℕ)) (parent : ℕ) → HasDirectory s p parent
    → child_of s.entries parent (last_name p) ≡ None → node_at_path s p ≡ None
node-none s p parent d is = node-found s p parent None d is

-- ---- making

pub room-nodes : (s : Space) (p : List (List ℕ)) → (s.nodes_left == 0) ≡ true → Some (no_space What.Nodes 1 0) ≡ first (room_rows s p)
room-nodes s p none = sym (ap (λ b. option_or (space_row b What.Nodes 1 0) (first (no_line s p ∷ []))) none)

pub room-lines : (s : Space) (p : List (List ℕ)) → (s.nodes_left == 0) ≡ false → (s.lines_left == 0) ≡ true
    → Some (no_space What.Names 1 0) ≡ first (room_rows s p)
room-lines s p some none =
    let zero : s.lines_left ≡ 0 = eqb-true s.lines_left 0 none in
    sym (ap (λ b. option_or (space_row b What.Nodes 1 0) (first (no_line s p ∷ []))) some
    ∙ ap (λ n. first (space_row (nat_lt n 1) What.Names 1 n ∷ [])) zero)

pub room-both : (s : Space) (p : List (List ℕ)) → (s.nodes_left == 0) ≡ false → nat_lt s.lines_left 1 ≡ false
    → None ≡ first (room_rows s p)
room-both s p some line =
    sym (ap (λ b. option_or (space_row b What.Nodes 1 0) (first (no_line s p ∷ []))) some
    ∙ ap (λ b. first (space_row b What.Names 1 s.lines_left ∷ [])) line)

pub new-exists : (s : Space) (p : List (List ℕ)) (parent child : ℕ) → IsAt s p parent child
    → Some (answer (Reply.Error Errno.EEXIST)) ≡ first (new_rows s p)
new-exists s p parent child at =
    sym (ap (λ o. option_or (row (is_some o) Errno.EEXIST) (first (room_rows s p))) (node-at s p parent child at))

pub new-room : (s : Space) (p : List (List ℕ)) (parent : ℕ) → HasDirectory s p parent
    → child_of s.entries parent (last_name p) ≡ None → first (room_rows s p) ≡ first (new_rows s p)
new-room s p parent d none =
    sym (ap (λ o. option_or (row (is_some o) Errno.EEXIST) (first (room_rows s p))) (node-none s p parent d none))

pub mkdir-root : (s : Space) (p : List (List ℕ)) → is_root p ≡ true → Some (answer (Reply.Error Errno.EEXIST)) ≡ first (mkdir_rows s p)
unfolding mkdir_rows
mkdir-root s p root = sym (ap (λ b. option_or (row b Errno.EEXIST) (first (directory_rows s p ++ new_rows s p))) root)

pub mkdir-early : (s : Space) (p : List (List ℕ)) (o : Outcome) → is_root p ≡ false → Some o ≡ first (directory_rows s p)
    → Some o ≡ first (mkdir_rows s p)
unfolding mkdir_rows
mkdir-early s p o below early =
    first-front (directory_rows s p) (new_rows s p) o early
    ∙ sym (ap (λ b. option_or (row b Errno.EEXIST) (first (directory_rows s p ++ new_rows s p))) below)

pub mkdir-late : (s : Space) (p : List (List ℕ)) → is_root p ≡ false → None ≡ first (directory_rows s p)
    → first (new_rows s p) ≡ first (mkdir_rows s p)
unfolding mkdir_rows
mkdir-late s p below none =
    first-pass (directory_rows s p) (new_rows s p) none
    ∙ sym (ap (λ b. option_or (row b Errno.EEXIST) (first (directory_rows s p ++ new_rows s p))) below)

-- ---- entries that are there

pub standing-at : (s : Space) (p : List (List ℕ)) (parent child : ℕ) → IsAt s p parent child → None ≡ walk_row s p
    → None ≡ first (standing_rows s p)
standing-at s p parent child at none =
    none ∙ sym (ap (λ o. option_or (walk_row s p) (first (row (not (is_some o)) Errno.ENOENT ∷ []))) (node-at s p parent child at) ∙ alone (walk_row s p))
  where
    alone : (o : Option Outcome) → option_or o None ≡ o
    alone None = refl
    alone (Some x) = refl

pub standing-none : (s : Space) (p : List (List ℕ)) (parent : ℕ) → HasDirectory s p parent
    → child_of s.entries parent (last_name p) ≡ None → None ≡ walk_row s p
    → Some (answer (Reply.Error Errno.ENOENT)) ≡ first (standing_rows s p)
standing-none s p parent d missing none =
    sym (ap (λ o. option_or (walk_row s p) (first (row (not (is_some o)) Errno.ENOENT ∷ []))) (node-none s p parent d missing)
    ∙ ap (λ o. option_or o (Some (answer (Reply.Error Errno.ENOENT)))) (sym none))

-- ---- unlinking

pub unlink-root : (s : Space) (p : List (List ℕ)) → is_root p ≡ true → Some (answer (Reply.Error Errno.EPERM)) ≡ first (unlink_rows s p)
unfolding unlink_rows
unlink-root s p root =
    sym (ap (λ b. option_or (row b Errno.EPERM) (first (entry_rows s p ++ row (directory_stands s p) Errno.EPERM ∷ []))) root)

unlink-below : (s : Space) (p : List (List ℕ)) → is_root p ≡ false
    → first (entry_rows s p ++ row (directory_stands s p) Errno.EPERM ∷ []) ≡ first (unlink_rows s p)
unfolding unlink_rows
unlink-below s p below =
    sym (ap (λ b. option_or (row b Errno.EPERM) (first (entry_rows s p ++ row (directory_stands s p) Errno.EPERM ∷ []))) below)

pub unlink-early : (s : Space) (p : List (List ℕ)) (o : Outcome) → is_root p ≡ false → Some o ≡ first (entry_rows s p)
    → Some o ≡ first (unlink_rows s p)
unlink-early s p o below early =
    first-front (entry_rows s p) (row (directory_stands s p) Errno.EPERM ∷ []) o early ∙ unlink-below s p below

pub unlink-late : (s : Space) (p : List (List ℕ)) (parent child : ℕ) → is_root p ≡ false → None ≡ first (entry_rows s p)
    → IsAt s p parent child → first (row (s.directory child) Errno.EPERM ∷ []) ≡ first (unlink_rows s p)
unlink-late s p parent child below none at =
    sym (ap (λ o. first (row (option_map_or s.directory o false) Errno.EPERM ∷ [])) (node-at s p parent child at))
    ∙ first-pass (entry_rows s p) (row (directory_stands s p) Errno.EPERM ∷ []) none ∙ unlink-below s p below

-- ---- removing a directory

abbrev rest_rows : Space → List (List ℕ) → Option ℕ → List (Option Outcome)
rest_rows s p o =
    row (option_map_or (λ node. not (s.directory node)) o false) Errno.ENOTDIR ∷ row (has_entries s.entries (unwrap_or o 0)) Errno.ENOTEMPTY ∷ []

pub rmdir-root : (s : Space) (p : List (List ℕ)) → is_root p ≡ true → Some (answer (Reply.Error Errno.EBUSY)) ≡ first (rmdir_rows s p)
unfolding rmdir_rows
rmdir-root s p root =
    sym (ap (λ b. option_or (row b Errno.EBUSY) (first (entry_rows s p ++ rest_rows s p (node_at_path s p)))) root)

rmdir-below : (s : Space) (p : List (List ℕ)) → is_root p ≡ false
    → first (entry_rows s p ++ rest_rows s p (node_at_path s p)) ≡ first (rmdir_rows s p)
unfolding rmdir_rows
rmdir-below s p below =
    sym (ap (λ b. option_or (row b Errno.EBUSY) (first (entry_rows s p ++ rest_rows s p (node_at_path s p)))) below)

pub rmdir-early : (s : Space) (p : List (List ℕ)) (o : Outcome) → is_root p ≡ false → Some o ≡ first (entry_rows s p)
    → Some o ≡ first (rmdir_rows s p)
rmdir-early s p o below early =
    first-front (entry_rows s p) (rest_rows s p (node_at_path s p)) o early ∙ rmdir-below s p below

pub rmdir-late : (s : Space) (p : List (List ℕ)) (parent child : ℕ) → is_root p ≡ false → None ≡ first (entry_rows s p)
    → IsAt s p parent child → first (removal_rows s child) ≡ first (rmdir_rows s p)
rmdir-late s p parent child below none at =
    sym (ap (λ o. first (rest_rows s p o)) (node-at s p parent child at))
    ∙ first-pass (entry_rows s p) (rest_rows s p (node_at_path s p)) none ∙ rmdir-below s p below

pub removal-none : (s : Space) (node : ℕ) → None ≡ first (removal_rows s node)
    → (s.directory node ≡ true) × (has_entries s.entries node ≡ false)
removal-none s node none = by (s.directory node) (has_entries s.entries node) none
  where
    by : (b c : Bool) → None ≡ option_or (row (not b) Errno.ENOTDIR) (option_or (row c Errno.ENOTEMPTY) None) → (b ≡ true) × (c ≡ false)
    by true true none = let never : None ≡ Some (answer (Reply.Error Errno.ENOTEMPTY)) = none in cc
    by true false none = (refl, refl)
    by false c none = let never : None ≡ Some (answer (Reply.Error Errno.ENOTDIR)) = none in cc

-- ---- renaming

pub kinds-directory : (s : Space) (p q : List (List ℕ)) (node : ℕ) (target : Option ℕ) → node_at_path s p ≡ Some node
    → node_at_path s q ≡ target → s.directory node ≡ true → first (directory_kind_rows s p q node target) ≡ first (rename_kind_rows s p q)
unfolding rename_kind_rows
kinds-directory s p q node target at to own = sym (rw (at, to, own) refl)

pub kinds-file : (s : Space) (p q : List (List ℕ)) (node : ℕ) (target : Option ℕ) → node_at_path s p ≡ Some node
    → node_at_path s q ≡ target → s.directory node ≡ false → first (file_kind_rows s target) ≡ first (rename_kind_rows s p q)
unfolding rename_kind_rows
kinds-file s p q node target at to own = sym (rw (at, to, own) refl)

pub rename-root : (s : Space) (p q : List (List ℕ)) → (is_root p || is_root q) ≡ true
    → Some (answer (Reply.Error Errno.EBUSY)) ≡ first (rename_rows s p q)
unfolding rename_rows
rename-root s p q root = sym (ap (λ b. option_or (row b Errno.EBUSY) (first (ends_rows s p q ++ moving_rows s p q))) root)

rename-below : (s : Space) (p q : List (List ℕ)) → (is_root p || is_root q) ≡ false
    → first (ends_rows s p q ++ moving_rows s p q) ≡ first (rename_rows s p q)
unfolding rename_rows
rename-below s p q below = sym (ap (λ b. option_or (row b Errno.EBUSY) (first (ends_rows s p q ++ moving_rows s p q))) below)

pub rename-early : (s : Space) (p q : List (List ℕ)) (o : Outcome) → (is_root p || is_root q) ≡ false
    → Some o ≡ first (ends_rows s p q) → Some o ≡ first (rename_rows s p q)
rename-early s p q o below early = first-front (ends_rows s p q) (moving_rows s p q) o early ∙ rename-below s p q below

pub rename-late : (s : Space) (p q : List (List ℕ)) → (is_root p || is_root q) ≡ false → None ≡ first (ends_rows s p q)
    → first (moving_rows s p q) ≡ first (rename_rows s p q)
rename-late s p q below none = first-pass (ends_rows s p q) (moving_rows s p q) none ∙ rename-below s p q below

-- the rows of the ends, one after the other
pub ends-entry : (s : Space) (p q : List (List ℕ)) (o : Outcome) → None ≡ too_long_row s p → None ≡ too_long_row s q
    → Some o ≡ first (standing_rows s p) → Some o ≡ first (ends_rows s p q)
ends-entry s p q o short to_short early =
    first-front (standing_rows s p) (walk_row s q ∷ []) o early
    ∙ (λ i. option_or (short i) (option_or (to_short i) (first (standing_rows s p ++ walk_row s q ∷ []))))

pub ends-directory : (s : Space) (p q : List (List ℕ)) (o : Option Outcome) → None ≡ too_long_row s p → None ≡ too_long_row s q
    → None ≡ first (standing_rows s p) → o ≡ walk_row s q → o ≡ first (ends_rows s p q)
ends-directory s p q o short to_short none is =
    (is ∙ alone (walk_row s q)) ∙ first-pass (standing_rows s p) (walk_row s q ∷ []) none
    ∙ (λ i. option_or (short i) (option_or (to_short i) (first (standing_rows s p ++ walk_row s q ∷ []))))
  where
    alone : (o : Option Outcome) → o ≡ option_or o None
    alone None = refl
    alone (Some x) = refl

-- the same node at both paths
pub moving-same : (s : Space) (p q : List (List ℕ)) (node : ℕ) (target : Option ℕ) → node_at_path s p ≡ Some node → node_at_path s q ≡ target
    → target ≡ Some node → Some (answer Reply.Ok) ≡ first (moving_rows s p q)
moving-same s p q node target at to same =
    let both : node_at_path s q ≡ Some node = to ∙ same in
    let self : (node == node) ≡ true = eq-eqb node node refl in
    sym (ap (λ o. option_or (idle_row (is_some o && (number_at s p == unwrap_or o 0)) Reply.Ok) (first (first (rename_kind_rows s p q) ∷ []))) both
    ∙ ap (λ o. option_or (idle_row (unwrap_or o 0 == node) Reply.Ok) (first (first (rename_kind_rows s p q) ∷ []))) at
    ∙ ap (λ b. option_or (idle_row b Reply.Ok) (first (first (rename_kind_rows s p q) ∷ []))) self)

-- and two nodes, or none at the new path
pub moving-kinds : (s : Space) (p q : List (List ℕ)) (node : ℕ) (target : Option ℕ) (o : Option Outcome) → node_at_path s p ≡ Some node
    → node_at_path s q ≡ target → (target ≡ Some node → ⊥) → o ≡ first (rename_kind_rows s p q) → o ≡ first (moving_rows s p q)
moving-kinds s p q node target o at to other is =
    is ∙ alone (first (rename_kind_rows s p q))
    ∙ sym (ap (λ b. option_or (idle_row b Reply.Ok) (first (first (rename_kind_rows s p q) ∷ []))) apart)
  where
    alone : (x : Option Outcome) → x ≡ option_or x None
    alone None = refl
    alone (Some y) = refl

    by : (t : Option ℕ) → (t ≡ Some node → ⊥) → (is_some t && (node == unwrap_or t 0)) ≡ false
    by None differs = refl
    by (Some n) differs = ne_eqb node n (λ e. differs (ap (λ (m : ℕ). Some m) (sym e)))

    apart : (exists_at s q && (number_at s p == number_at s q)) ≡ false
    apart =
        ap (λ t. is_some t && (number_at s p == unwrap_or t 0)) to
        ∙ ap (λ t. is_some target && (unwrap_or t 0 == unwrap_or target 0)) at ∙ by target other

-- a test of two inodes
pub same_node : (target : Option ℕ) (node : ℕ) → option_eq ◌==◌ target (Some node) ≡ true → target ≡ Some node
same_node None node is = cc
same_node (Some n) node is = ap (λ (m : ℕ). Some m) (eqb-true n node is)

pub other_node : (target : Option ℕ) (node : ℕ) → option_eq ◌==◌ target (Some node) ≡ false → target ≡ Some node → ⊥
other_node None node is same = cc
other_node (Some n) node is same =
    let self : (n == n) ≡ true = eq-eqb n n refl in
    let equal : n ≡ node = cc in
    both_ways (n == node) is (eq-eqb n node equal)
