-- What it says of the paths of a call, and of the room for it, that none of its rows fits.
use Rattle.std.specs.Prelude.{◌≡◌, ◌≢◌, ℕ, List, Bool, true, false, not, ◌==◌, nat_lt, Option, Some, None, is_some, unwrap_or, Result, Ok, Err, refl}
use Rattle.std.specs.Option.{option_map_or}
use Rattle.std.proofs.Common.{arith, ap, sym, ◌∙◌}
use Rattle.std.proofs.lemmas.Bool.{both_ways, eq-eqb}
use Rattle.std.proofs.lemmas.Bool.Decides.{nat_tests}
use Rattle.k_split_model.specs.posix_types.declared.reply.Reply.{Reply}
use Rattle.k_split_model.specs.posix_types.declared.reply.Errno.{Errno}
use Rattle.k_split_model.specs.posix_tables.NameRows.{walk_row, mkdir_rows, rmdir_rows, unlink_rows}
use Rattle.k_split_model.specs.posix_tables.Names.{child_of, directory_stands, exists_at, file_stands, has_entries, is_root, last_name, node_at_path, number_at, Space, too_long, walk}
use Rattle.k_split_model.specs.posix_tables.Outcomes.{answer, first}
use Rattle.name_laws.specs.Paths.{HasDirectory, IsAt, IsNewAt, HasRoom}
use Rattle.name_laws.specs.RowLists.{AllNone, none_fits, no_row}

-- the node at a path whose directory is there
pub node_at-path : (s : Space) (p : List (List ℕ)) (parent : ℕ) → HasDirectory s p parent
    → node_at_path s p ≡ child_of s.entries parent (last_name p)
unfolding node_at_path
node_at-path s p parent d = let below = d.below in let leads = d.leads in rw (below, leads) refl

-- a walk that is not refused leads to a directory
walk-leads : (s : Space) (p : List (List ℕ)) → walk_row s p ≡ None → (parent : ℕ) × (walk s p ≡ Ok parent)
walk-leads s p none = by (walk s p) refl
  where
    by : (w : Result ℕ Errno) → walk s p ≡ w → (parent : ℕ) × (walk s p ≡ Ok parent)
    by (Ok parent) is = (parent, is)
    by (Err errno) is = let never : Some (answer (Reply.Error errno)) ≡ None = rw is at none in cc

pub directory-there : (s : Space) (p : List (List ℕ)) → is_root p ≡ false → too_long s.longest p ≡ false
    → walk_row s p ≡ None
    → (parent : ℕ) × HasDirectory s p parent
directory-there s p below short none =
    let leads = walk-leads s p none in
    (leads.0, record { below = below; short = short; leads = leads.1 })

-- the path leads to a node, or to none
pub new-there : (s : Space) (p : List (List ℕ)) (parent : ℕ) → HasDirectory s p parent → exists_at s p ≡ false
    → IsNewAt s p parent
new-there s p parent d none = record { directory = d; is_new = by (node_at_path s p) refl }
  where
    by : (o : Option ℕ) → node_at_path s p ≡ o → child_of s.entries parent (last_name p) ≡ None
    by None is = sym (node_at-path s p parent d) ∙ is
    by (Some child) is = absurd (both_ways (is_some (node_at_path s p)) none (ap is_some is))

pub child-there : (s : Space) (p : List (List ℕ)) (parent : ℕ) → HasDirectory s p parent → not (exists_at s p) ≡ false
    → (child : ℕ) × IsAt s p parent child × (node_at_path s p ≡ Some child)
child-there s p parent d some = by (node_at_path s p) refl
  where
    by : (o : Option ℕ) → node_at_path s p ≡ o → (child : ℕ) × IsAt s p parent child × (node_at_path s p ≡ Some child)
    by None is = let never : true ≡ false = sym (ap (λ x. not (is_some x)) is) ∙ some in cc
    by (Some child) is = (child, record { directory = d; is = sym (node_at-path s p parent d) ∙ is }, is)

pub node_left : (n : ℕ) → (n == 0) ≡ false → n ≢ 0
node_left n left none = both_ways (n == 0) left (eq-eqb n 0 none)

pub line_left : (n : ℕ) → nat_lt n 1 ≡ false → n ≢ 0
line_left n left none = grind (arith, nat_tests)

-- `mkdir` and `open` of a new file: the directory has no such name, and there is room.
pub mkdir-may : (s : Space) (p : List (List ℕ)) → first (mkdir_rows s p) ≡ None
    → (parent : ℕ) × IsNewAt s p parent × HasRoom s
unfolding mkdir_rows
mkdir-may s p none =
    let rows : AllNone (mkdir_rows s p) = none_fits (mkdir_rows s p) none in
    let d = directory-there s p (no_row (is_root p) _ rows.0) (no_row (too_long s.longest p) _ rows.1.0) rows.1.1.0 in (
      d.0,
      new-there s p d.0 d.1 (no_row (exists_at s p) _ rows.1.1.1.0),
      record { nodes = node_left s.nodes_left (no_row (s.nodes_left == 0) _ rows.1.1.1.1.0); lines = line_left s.lines_left (no_row (nat_lt s.lines_left 1) _ rows.1.1.1.1.1.0) },
    )

-- `unlink`: the path leads to a file.
pub unlink-may : (s : Space) (p : List (List ℕ)) → first (unlink_rows s p) ≡ None
    → (parent : ℕ) × (child : ℕ) × IsAt s p parent child × (s.directory child ≡ false)
unfolding unlink_rows
unlink-may s p none =
    let rows : AllNone (unlink_rows s p) = none_fits (unlink_rows s p) none in
    let d = directory-there s p (no_row (is_root p) _ rows.0) (no_row (too_long s.longest p) _ rows.1.0) rows.1.1.0 in
    let at = child-there s p d.0 d.1 (no_row (not (exists_at s p)) _ rows.1.1.1.0) in
    let file = no_row (directory_stands s p) _ rows.1.1.1.1.0 in
    (d.0, at.0, at.1, sym (ap (λ o. option_map_or s.directory o false) at.2) ∙ file)

-- `rmdir`: the path leads to a directory without entries.
pub rmdir-may : (s : Space) (p : List (List ℕ)) → first (rmdir_rows s p) ≡ None
    → (parent : ℕ) × (child : ℕ) × IsAt s p parent child × (s.directory child ≡ true) × (has_entries s.entries child ≡ false)
unfolding rmdir_rows
rmdir-may s p none =
    let rows : AllNone (rmdir_rows s p) = none_fits (rmdir_rows s p) none in
    let d = directory-there s p (no_row (is_root p) _ rows.0) (no_row (too_long s.longest p) _ rows.1.0) rows.1.1.0 in
    let at = child-there s p d.0 d.1 (no_row (not (exists_at s p)) _ rows.1.1.1.0) in
    let no_file : not (s.directory at.0) ≡ false =
    sym (ap (λ o. option_map_or (λ node. not (s.directory node)) o false) at.2)
    ∙ no_row (file_stands s p) _ rows.1.1.1.1.0
    in
    let empty = no_row (has_entries s.entries (number_at s p)) _ rows.1.1.1.1.1.0 in
    let number : number_at s p ≡ at.0 = ap (λ o. unwrap_or o 0) at.2 in
    (d.0, at.0, at.1, not_not (s.directory at.0) no_file, sym (ap (has_entries s.entries) number) ∙ empty)
  where
    not_not : (b : Bool) → not b ≡ false → b ≡ true
    not_not true h = refl
    not_not false h = cc
