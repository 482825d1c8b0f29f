-- What stands at a path, by the rows of a walk, of `stat` and of `list`.
use Rattle.std.proofs.Common.{◌≡◌, ℕ, Bool, true, false, List, [], ◌∷◌, Option, Some, None, Result, Ok, Err, refl, sym, ◌∙◌, ap, subst}
use Rattle.std.specs.Prelude.{not}
use Rattle.std.specs.Option.{option_map_or}
use Rattle.layout_model.specs.Names.{Rows}
use Rattle.block_io.specs.image_model.Volume.{Volume}
use Rattle.block_io.specs.pm_model.declared.Cell.{Cell}
use Rattle.layout_model.specs.declared.lines.Inode.{Inode}
use Rattle.k_map_plans.specs.k_journal.declared.batches.Record.{Record}
use Rattle.k_map_plans.specs.k_plans.View.{TablesView}
use Rattle.k_tables.specs.k_split_model.Spaces.{is_directory_in, space_of, volume_space}
use Rattle.k_tables.specs.k_split_model.View.{View}
use Rattle.posix_types.specs.declared.item.Outcome.{Outcome}
use Rattle.posix_types.specs.declared.reply.Errno.{Errno}
use Rattle.posix_types.specs.declared.reply.Reply.{Reply}
use Rattle.posix_tables.specs.NameRows.{list_rows, stat_rows, too_long_row, walk_row}
use Rattle.posix_tables.specs.Names.{exists_at, file_stands, node_at_path, Space, too_long, walk}
use Rattle.posix_tables.specs.Outcomes.{answer, first, row}
use Rattle.k_split.specs.Looks.{IsDirectoryFound, IsFound, IsLed, led_rows}
use Rattle.k_split.specs.Order.{view_of}

-- ---- by the rows of a walk, and by those of `stat`

long-led : (s : Space) (p : List (List ℕ)) → too_long s.longest p ≡ true → first (led_rows s p) ≡ Some (answer (Reply.Error Errno.ENAMETOOLONG))
long-led s p long = rw long refl

lost-led : (s : Space) (p : List (List ℕ)) (errno : Errno) → too_long s.longest p ≡ false → walk s p ≡ Err errno
    → first (led_rows s p) ≡ Some (answer (Reply.Error errno))
lost-led s p errno short leads = rw (short, leads) refl

some-led : (s : Space) (p : List (List ℕ)) (parent : ℕ) → too_long s.longest p ≡ false → walk s p ≡ Ok parent → first (led_rows s p) ≡ None
some-led s p parent short leads = rw (short, leads) refl

by-walk : (v : Volume) (path : List (List ℕ)) (r : Result ℕ Errno) → too_long 48 path ≡ false → walk (volume_space v) path ≡ r → IsLed v path r
by-walk v path (Ok parent) short leads = (some-led (volume_space v) path parent short leads, leads)
by-walk v path (Err errno) short leads = lost-led (volume_space v) path errno short leads

-- one row more than those of a walk
third-row : (a b c : Option Outcome) (x : Outcome) → first (a ∷ b ∷ []) ≡ Some x → first (a ∷ b ∷ c ∷ []) ≡ Some x
third-row (Some a) b c x is = is
third-row None (Some b) c x is = is
third-row None None c x is = cc

third-first : (a b c : Option Outcome) → first (a ∷ b ∷ []) ≡ None → first (a ∷ b ∷ c ∷ []) ≡ c
third-first (Some a) b c is = cc
third-first None (Some b) c is = cc
third-first None None None is = refl
third-first None None (Some c) is = refl

pub found-lost : (v : Volume) (path : List (List ℕ)) (errno : Errno) → IsLed v path (Err errno) → IsFound v path (Err errno)
unfolding stat_rows
found-lost v path errno led =
    let s = volume_space v in
    third-row (too_long_row s path) (walk_row s path) (row (not (exists_at s path)) Errno.ENOENT) (answer (Reply.Error errno)) led

stat-led : (v : Volume) (path : List (List ℕ)) (parent : ℕ) → IsLed v path (Ok parent)
    → first (stat_rows (volume_space v) path) ≡ row (not (exists_at (volume_space v) path)) Errno.ENOENT
unfolding stat_rows
stat-led v path parent led =
    let s = volume_space v in
    third-first (too_long_row s path) (walk_row s path) (row (not (exists_at s path)) Errno.ENOENT) led.0

none-row : (s : Space) (p : List (List ℕ)) → node_at_path s p ≡ None → row (not (exists_at s p)) Errno.ENOENT ≡ Some (answer (Reply.Error Errno.ENOENT))
none-row s p none = rw none refl

some-row : (s : Space) (p : List (List ℕ)) (ino : ℕ) → node_at_path s p ≡ Some ino → row (not (exists_at s p)) Errno.ENOENT ≡ None
some-row s p ino some = rw some refl

-- tables that are those of a view
module _ (k : View) (t : TablesView) (group : List Record) (d : List Cell) (batched lost : Bool) (inodes : List Inode) (rows : Rows) (path : List (List ℕ))
    (same : view_of t group d batched lost ≡ k) (inodes_are : inodes ≡ t.volume.inodes) (rows_are : rows ≡ t.volume.names) where
  space : space_of inodes rows ≡ volume_space k.volume
  space = (λ i. space_of (inodes_are i) (rows_are i)) ∙ ap (λ (x : View). volume_space x.volume) same

  pub led-walk : (r : Result ℕ Errno) → too_long 48 path ≡ false → r ≡ walk (space_of inodes rows) path → IsLed k.volume path r
  led-walk r short leads = by-walk k.volume path r short (sym (leads ∙ ap (λ s. walk s path) space))

  pub leads-in : (parent : ℕ) → IsLed k.volume path (Ok parent) → walk (space_of inodes rows) path ≡ Ok parent
  leads-in parent led = subst (λ s. walk s path ≡ Ok parent) (sym space) led.1

  pub found-none : (parent : ℕ) → IsLed k.volume path (Ok parent) → node_at_path (space_of inodes rows) path ≡ None → IsFound k.volume path (Err Errno.ENOENT)
  found-none parent led none =
      stat-led k.volume path parent led ∙ none-row (volume_space k.volume) path (subst (λ s. node_at_path s path ≡ None) space none)

  pub found-some : (parent ino : ℕ) → IsLed k.volume path (Ok parent) → node_at_path (space_of inodes rows) path ≡ Some ino → IsFound k.volume path (Ok ino)
  found-some parent ino led some =
      let at = subst (λ s. node_at_path s path ≡ Some ino) space some in
      (stat-led k.volume path parent led ∙ some-row (volume_space k.volume) path ino at, at)

pub led-long : (v : Volume) (path : List (List ℕ)) → too_long 48 path ≡ true → IsLed v path (Err Errno.ENAMETOOLONG)
led-long v path long = long-led (volume_space v) path long

-- ---- by the rows of `list`

-- one row more than those of `stat`
more-row : (a b c d : Option Outcome) (x : Outcome) → first (a ∷ b ∷ c ∷ []) ≡ Some x → first (a ∷ b ∷ c ∷ d ∷ []) ≡ Some x
more-row (Some a) b c d x is = is
more-row None (Some b) c d x is = is
more-row None None (Some c) d x is = is
more-row None None None d x is = cc

last-row : (a b c d : Option Outcome) → first (a ∷ b ∷ c ∷ []) ≡ None → first (a ∷ b ∷ c ∷ d ∷ []) ≡ d
last-row (Some a) b c d is = cc
last-row None (Some b) c d is = cc
last-row None None (Some c) d is = cc
last-row None None None None is = refl
last-row None None None (Some d) is = refl

refused-list : (s : Space) (p : List (List ℕ)) (x : Outcome) → first (stat_rows s p) ≡ Some x → first (list_rows s p) ≡ Some x
unfolding stat_rows list_rows
refused-list s p x is =
    more-row (too_long_row s p) (walk_row s p) (row (not (exists_at s p)) Errno.ENOENT) (row (file_stands s p) Errno.ENOTDIR) x is

file-row : (s : Space) (p : List (List ℕ)) (ino : ℕ) (b : Bool) → node_at_path s p ≡ Some ino → s.directory ino ≡ b
    → row (file_stands s p) Errno.ENOTDIR ≡ row (not b) Errno.ENOTDIR
file-row s p ino b at is = ap (λ o. row (option_map_or (λ n. not (s.directory n)) o false) Errno.ENOTDIR) at ∙ ap (λ x. row (not x) Errno.ENOTDIR) is

found-list : (s : Space) (p : List (List ℕ)) (ino : ℕ) (b : Bool) → first (stat_rows s p) ≡ None → node_at_path s p ≡ Some ino → s.directory ino ≡ b
    → first (list_rows s p) ≡ row (not b) Errno.ENOTDIR
unfolding stat_rows list_rows
found-list s p ino b is at directory =
    last-row (too_long_row s p) (walk_row s p) (row (not (exists_at s p)) Errno.ENOENT) (row (file_stands s p) Errno.ENOTDIR) is
    ∙ file-row s p ino b at directory

-- what was found, and whether it is a directory
pub listed-lost : (v : Volume) (path : List (List ℕ)) (errno : Errno) → IsFound v path (Err errno) → IsDirectoryFound v path (Err errno)
listed-lost v path errno found = refused-list (volume_space v) path (answer (Reply.Error errno)) found

pub listed-directory : (v : Volume) (path : List (List ℕ)) (ino : ℕ) → IsFound v path (Ok ino) → is_directory_in v.inodes ino ≡ true
    → IsDirectoryFound v path (Ok ino)
listed-directory v path ino found is = (found-list (volume_space v) path ino true found.0 found.1 is, found.1)

pub listed-file : (v : Volume) (path : List (List ℕ)) (ino : ℕ) → IsFound v path (Ok ino) → is_directory_in v.inodes ino ≡ false
    → IsDirectoryFound v path (Err Errno.ENOTDIR)
listed-file v path ino found is = found-list (volume_space v) path ino false found.0 found.1 is
