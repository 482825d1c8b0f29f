-- The rows of calls on paths that leave the names as they are, and what stands at a path.
use Rattle.std.specs.Prelude.{◌≡◌, ◌&&◌, not, ℕ, Bool, true, false, List, [], ◌∷◌, Option, Some, None, is_some, Ok, Err, Result, refl, if◌then◌else◌}
use Rattle.std.specs.Option.{option_map_or}
use Rattle.std.proofs.Common.{ap, ◌∙◌, sym, subst}
use Rattle.eof_laws.specs.image_model.Volume.{Volume}
use Rattle.eof_laws.specs.k_split_model.Spaces.{volume_space}
use Rattle.live_step_laws.specs.k_split.Looks.{IsFound, IsLed}
use Rattle.posix_types.specs.declared.handle.Flags.{Flags}
use Rattle.posix_types.specs.declared.item.Outcome.{Outcome}
use Rattle.posix_types.specs.declared.reply.Errno.{Errno}
use Rattle.posix_types.specs.declared.reply.Reply.{Reply}
use Rattle.open_files.specs.posix_tables.NameRows.{mkdir_rows, no_line, no_node, open_rows, stat_rows, too_long_row, walk_row}
use Rattle.open_files.specs.posix_tables.Names.{child_of, directory_stands, exists_at, is_root, last_name, node_at_path, Space, walk}
use Rattle.open_files.specs.posix_tables.Outcomes.{answer, first, row, unless}
use Rattle.live_step_laws.specs.world_step_laws.Mirrors.{Mirrors}

-- ---- lists of rows

skip_two : (a b c : Option Outcome) → a ≡ None → b ≡ None → first (a ∷ b ∷ c ∷ []) ≡ first (c ∷ [])
skip_two a b c one two = λ i. first (one i ∷ two i ∷ c ∷ [])

first_two : (a b c : Option Outcome) → first (a ∷ b ∷ c ∷ []) ≡ None → (a ≡ None) × (b ≡ None)
first_two None None c is = (refl, refl)
first_two (Some o) b c is = cc
first_two None (Some o) c is = cc

two_of_many : (a b : Option Outcome) (rows : List (Option Outcome)) (o : Outcome) → first (a ∷ b ∷ []) ≡ Some o → first (a ∷ b ∷ rows) ≡ Some o
two_of_many (Some x) b rows o is = is
two_of_many None (Some x) rows o is = is
two_of_many None None rows o is = cc

both_none : (a b : Option Outcome) → first (a ∷ b ∷ []) ≡ None → (a ≡ None) × (b ≡ None)
both_none None None is = (refl, refl)
both_none (Some o) b is = cc
both_none None (Some o) is = cc

-- a directory that was found is refused by neither row
pub parent_rows : (v : Volume) (p : List (List ℕ)) (parent : ℕ) → IsLed v p (Ok parent) → (too_long_row (volume_space v) p ≡ None) × (walk_row (volume_space v) p ≡ None)
parent_rows v p parent there = both_none (too_long_row (volume_space v) p) (walk_row (volume_space v) p) there.0

none_of : (o : Option ℕ) → is_some o ≡ false → o ≡ None
none_of None is = refl
none_of (Some n) is = cc

-- ---- what stands at a path

-- a path with a directory leads nowhere where `stat` refuses it
pub missing : (v : Volume) (p : List (List ℕ)) (errno : Errno) (parent : ℕ) → IsFound v p (Err errno) → IsLed v p (Ok parent) → node_at_path (volume_space v) p ≡ None
unfolding stat_rows
missing v p errno parent found there =
    by (exists_at (volume_space v) p) refl
    (sym (skip_two (too_long_row (volume_space v) p) (walk_row (volume_space v) p) (row (not (exists_at (volume_space v) p)) Errno.ENOENT) (parent_rows v p parent there).0 (parent_rows v p parent there).1) ∙ found) where
      by : (b : Bool) → exists_at (volume_space v) p ≡ b → first (row (not (exists_at (volume_space v) p)) Errno.ENOENT ∷ []) ≡ Some (answer (Reply.Error errno)) → node_at_path (volume_space v) p ≡ None
      by true is row_is = let never : None ≡ Some (answer (Reply.Error errno)) = ap (λ b. first (row (not b) Errno.ENOENT ∷ [])) (sym is) ∙ row_is in cc
      by false is row_is = none_of (node_at_path (volume_space v) p) is

-- the rows of what is found do not refuse
pub found_rows : (v : Volume) (p : List (List ℕ)) (ino : ℕ) → IsFound v p (Ok ino) → (too_long_row (volume_space v) p ≡ None) × (walk_row (volume_space v) p ≡ None)
unfolding stat_rows
found_rows v p ino found = first_two (too_long_row (volume_space v) p) (walk_row (volume_space v) p) (row (not (exists_at (volume_space v) p)) Errno.ENOENT) found.0

-- it is in use
pub used_at : (used : ℕ → Type 0) (numbers : List ℕ) (a b : Space) → Mirrors used numbers a b → (p : List (List ℕ)) (ino : ℕ) → node_at_path a p ≡ Some ino → used ino
unfolding node_at_path
used_at used numbers a b m p ino there = by (is_root p) (walk a p) there where
  found_in : Result ℕ Errno → Option ℕ
  found_in (Ok directory) = child_of a.entries directory (last_name p)
  found_in (Err errno) = None

  by : (c : Bool) (r : Result ℕ Errno) → (if c then Some 0 else found_in r) ≡ Some ino → used ino
  by true r is = let zeroth : 0 ≡ ino = cc in subst used zeroth m.root_used
  by false (Ok d) is = m.children d (last_name p) ino is
  by false (Err e) is = cc

-- ---- the rows of `open`

-- of a file that is there
pub open_there_rows : (s : Space) (full : Bool) (p : List (List ℕ)) (f : Flags) (ino : ℕ) → too_long_row s p ≡ None → walk_row s p ≡ None → node_at_path s p ≡ Some ino
    → first (open_rows s full false p f) ≡ first (row (f.create && f.exclusive) Errno.EEXIST ∷ row (s.directory ino) Errno.EISDIR ∷ row full Errno.EMFILE ∷ [])
unfolding open_rows
open_there_rows s full p f ino short walked at =
    λ i. first
    (short i ∷ walked i ∷ row (is_some (at i) && (f.create && f.exclusive)) Errno.EEXIST ∷ row (option_map_or s.directory (at i) false) Errno.EISDIR ∷ row false Errno.EBUSY
    ∷ row (not (is_some (at i)) && not f.create) Errno.ENOENT ∷ row full Errno.EMFILE ∷ unless (is_some (at i)) (no_node s) ∷ unless (is_some (at i)) (no_line s p) ∷ [])

-- of a missing one, in a directory
pub open_missing_rows : (s : Space) (full : Bool) (p : List (List ℕ)) (f : Flags) → too_long_row s p ≡ None → walk_row s p ≡ None → node_at_path s p ≡ None
    → first (open_rows s full false p f) ≡ first (row (not f.create) Errno.ENOENT ∷ row full Errno.EMFILE ∷ no_node s ∷ no_line s p ∷ [])
unfolding open_rows
open_missing_rows s full p f short walked at =
    λ i. first
    (short i ∷ walked i ∷ row (is_some (at i) && (f.create && f.exclusive)) Errno.EEXIST ∷ row (option_map_or s.directory (at i) false) Errno.EISDIR ∷ row false Errno.EBUSY
    ∷ row (not (is_some (at i)) && not f.create) Errno.ENOENT ∷ row full Errno.EMFILE ∷ unless (is_some (at i)) (no_node s) ∷ unless (is_some (at i)) (no_line s p) ∷ [])

no_root : (s : Space) (p : List (List ℕ)) → node_at_path s p ≡ None → is_root p ≡ false
unfolding node_at_path
no_root s p none = by (is_root p) refl none where
  by : (b : Bool) → is_root p ≡ b → node_at_path s p ≡ None → is_root p ≡ false
  by false is there = is
  by true is there =
      let never : Some 0 ≡ None = (λ i. if sym is i then Some 0 else found_in (walk s p)) ∙ there in
      cc
    where
      found_in : Result ℕ Errno → Option ℕ
      found_in (Ok directory) = child_of s.entries directory (last_name p)
      found_in (Err errno) = None

-- which are those of `mkdir`, where it is to be made and a descriptor is free
pub open_made_rows : (s : Space) (p : List (List ℕ)) (f : Flags) → too_long_row s p ≡ None → walk_row s p ≡ None → node_at_path s p ≡ None → f.create ≡ true
    → first (open_rows s false false p f) ≡ first (mkdir_rows s p)
unfolding mkdir_rows
open_made_rows s p f short walked at create =
    open_missing_rows s false p f short walked at ∙ (λ i. first (row (not (create i)) Errno.ENOENT ∷ row false Errno.EMFILE ∷ no_node s ∷ no_line s p ∷ []))
    ∙ sym (λ i. first (row (no_root s p at i) Errno.EEXIST ∷ short i ∷ walked i ∷ row (is_some (at i)) Errno.EEXIST ∷ no_node s ∷ no_line s p ∷ []))

-- of a path that leads to no directory
pub open_lost_rows : (v : Volume) (full : Bool) (p : List (List ℕ)) (f : Flags) (errno : Errno) → IsLed v p (Err errno) → first (open_rows (volume_space v) full false p f) ≡ Some (answer (Reply.Error errno))
unfolding open_rows
open_lost_rows v full p f errno lost = two_of_many (too_long_row (volume_space v) p) (walk_row (volume_space v) p)
    (row (exists_at (volume_space v) p && (f.create && f.exclusive)) Errno.EEXIST ∷ row (directory_stands (volume_space v) p) Errno.EISDIR ∷ row false Errno.EBUSY ∷ row (not (exists_at (volume_space v) p) && not f.create) Errno.ENOENT
    ∷ row full Errno.EMFILE ∷ unless (exists_at (volume_space v) p) (no_node (volume_space v)) ∷ unless (exists_at (volume_space v) p) (no_line (volume_space v) p) ∷ []) (answer (Reply.Error errno)) lost
