-- Which row refuses a call: each in its turn, where those before it do not fit. And where no condition holds none does.
use Rattle.std.specs.Prelude.{◌≡◌, ◌≢◌, ℕ, List, true, false, not, nat_lt, Some, None, is_some, unwrap_or, Err, refl}
use Rattle.std.specs.Option.{option_map_or}
use Rattle.std.proofs.Common.{arith, ap, ◌∙◌}
use Rattle.std.proofs.lemmas.Bool.{ne_eqb}
use Rattle.std.proofs.lemmas.Bool.Decides.{nat_tests}
use Rattle.k_split_model.specs.posix_types.declared.reply.Reply.{Reply}
use Rattle.k_split_model.specs.posix_types.declared.reply.Errno.{Errno}
use Rattle.k_split_model.specs.posix_types.declared.reply.What.{What}
use Rattle.k_split_model.specs.posix_tables.NameRows.{mkdir_rows, rmdir_rows, unlink_rows}
use Rattle.k_split_model.specs.posix_tables.Names.{directory_stands, exists_at, file_stands, has_entries, is_root, node_at_path, number_at, Space, too_long, walk}
use Rattle.k_split_model.specs.posix_tables.Outcomes.{answer, first, no_space}
use Rattle.name_laws.specs.PathLaws.{node_at-path}
use Rattle.name_laws.specs.Paths.{IsAt, IsNewAt, HasRoom}

-- what stands at a path: a child, or nothing
pub record Stands (s : Space) (p : List (List ℕ)) (child : ℕ) : Type 0 where
  pub is : node_at_path s p ≡ Some child
  pub exists : exists_at s p ≡ true
  pub number : number_at s p ≡ child
  pub directory : directory_stands s p ≡ s.directory child
  pub file : file_stands s p ≡ not (s.directory child)

pub stands-at : (s : Space) (p : List (List ℕ)) (parent child : ℕ) → IsAt s p parent child → Stands s p child
stands-at s p parent child at =
    let is = node_at-path s p parent at.directory ∙ at.is in
    record {
      is = is;
      exists = ap is_some is;
      number = ap (λ o. unwrap_or o 0) is;
      directory = ap (λ o. option_map_or s.directory o false) is;
      file = ap (λ o. option_map_or (λ node. not (s.directory node)) o false) is;
    }

pub nothing-at : (s : Space) (p : List (List ℕ)) (parent : ℕ) → IsNewAt s p parent → exists_at s p ≡ false
nothing-at s p parent new = ap is_some (node_at-path s p parent new.directory ∙ new.is_new)

-- ---- mkdir

pub mkdir-root : (s : Space) (p : List (List ℕ)) → is_root p ≡ true
    → first (mkdir_rows s p) ≡ Some (answer (Reply.Error Errno.EEXIST))
unfolding mkdir_rows
mkdir-root s p root = rw root refl

pub mkdir-long : (s : Space) (p : List (List ℕ)) → is_root p ≡ false → too_long s.longest p ≡ true
    → first (mkdir_rows s p) ≡ Some (answer (Reply.Error Errno.ENAMETOOLONG))
unfolding mkdir_rows
mkdir-long s p below long = rw (below, long) refl

pub mkdir-walk : (s : Space) (p : List (List ℕ)) (errno : Errno) → is_root p ≡ false → too_long s.longest p ≡ false
    → walk s p ≡ Err errno
    → first (mkdir_rows s p) ≡ Some (answer (Reply.Error errno))
unfolding mkdir_rows
mkdir-walk s p errno below short leads = rw (below, short, leads) refl

pub mkdir-exists : (s : Space) (p : List (List ℕ)) (parent child : ℕ) → IsAt s p parent child
    → first (mkdir_rows s p) ≡ Some (answer (Reply.Error Errno.EEXIST))
unfolding mkdir_rows
mkdir-exists s p parent child at =
    let below = at.directory.below in
    let short = at.directory.short in
    let leads = at.directory.leads in
    let exists = (stands-at s p parent child at).exists in
    rw (below, short, leads, exists) refl

pub mkdir-nodes : (s : Space) (p : List (List ℕ)) (parent : ℕ) → IsNewAt s p parent → s.nodes_left ≡ 0
    → first (mkdir_rows s p) ≡ Some (no_space What.Nodes 1 0)
unfolding mkdir_rows
mkdir-nodes s p parent new none =
    let below = new.directory.below in
    let short = new.directory.short in
    let leads = new.directory.leads in
    let nothing = nothing-at s p parent new in
    rw (below, short, leads, nothing, none) refl

pub mkdir-lines : (s : Space) (p : List (List ℕ)) (parent : ℕ) → IsNewAt s p parent → s.nodes_left ≢ 0
    → s.lines_left ≡ 0
    → first (mkdir_rows s p) ≡ Some (no_space What.Names 1 0)
unfolding mkdir_rows
mkdir-lines s p parent new some none =
    let below = new.directory.below in
    let short = new.directory.short in
    let leads = new.directory.leads in
    let nothing = nothing-at s p parent new in
    let nodes = ne_eqb s.nodes_left 0 some in
    rw (below, short, leads, nothing, nodes, none) refl

line_there : (n : ℕ) → n ≢ 0 → nat_lt n 1 ≡ false
line_there n some = grind (arith, nat_tests)

pub mkdir-none : (s : Space) (p : List (List ℕ)) (parent : ℕ) → IsNewAt s p parent → HasRoom s
    → first (mkdir_rows s p) ≡ None
unfolding mkdir_rows
mkdir-none s p parent new room =
    let below = new.directory.below in
    let short = new.directory.short in
    let leads = new.directory.leads in
    let nothing = nothing-at s p parent new in
    let nodes = ne_eqb s.nodes_left 0 room.nodes in
    let lines = line_there s.lines_left room.lines in
    rw (below, short, leads, nothing, nodes, lines) refl

-- ---- unlink

pub unlink-root : (s : Space) (p : List (List ℕ)) → is_root p ≡ true
    → first (unlink_rows s p) ≡ Some (answer (Reply.Error Errno.EPERM))
unfolding unlink_rows
unlink-root s p root = rw root refl

pub unlink-long : (s : Space) (p : List (List ℕ)) → is_root p ≡ false → too_long s.longest p ≡ true
    → first (unlink_rows s p) ≡ Some (answer (Reply.Error Errno.ENAMETOOLONG))
unfolding unlink_rows
unlink-long s p below long = rw (below, long) refl

pub unlink-walk : (s : Space) (p : List (List ℕ)) (errno : Errno) → is_root p ≡ false → too_long s.longest p ≡ false
    → walk s p ≡ Err errno
    → first (unlink_rows s p) ≡ Some (answer (Reply.Error errno))
unfolding unlink_rows
unlink-walk s p errno below short leads = rw (below, short, leads) refl

pub unlink-missing : (s : Space) (p : List (List ℕ)) (parent : ℕ) → IsNewAt s p parent
    → first (unlink_rows s p) ≡ Some (answer (Reply.Error Errno.ENOENT))
unfolding unlink_rows
unlink-missing s p parent new =
    let below = new.directory.below in
    let short = new.directory.short in
    let leads = new.directory.leads in
    let nothing = nothing-at s p parent new in
    rw (below, short, leads, nothing) refl

pub unlink-directory : (s : Space) (p : List (List ℕ)) (parent child : ℕ) → IsAt s p parent child
    → s.directory child ≡ true
    → first (unlink_rows s p) ≡ Some (answer (Reply.Error Errno.EPERM))
unfolding unlink_rows
unlink-directory s p parent child at directory =
    let below = at.directory.below in
    let short = at.directory.short in
    let leads = at.directory.leads in
    let there = stands-at s p parent child at in
    let exists = there.exists in
    let stands = there.directory ∙ directory in
    rw (below, short, leads, exists, stands) refl

pub unlink-none : (s : Space) (p : List (List ℕ)) (parent child : ℕ) → IsAt s p parent child → s.directory child ≡ false
    → first (unlink_rows s p) ≡ None
unfolding unlink_rows
unlink-none s p parent child at file =
    let below = at.directory.below in
    let short = at.directory.short in
    let leads = at.directory.leads in
    let there = stands-at s p parent child at in
    let exists = there.exists in
    let stands = there.directory ∙ file in
    rw (below, short, leads, exists, stands) refl

-- ---- rmdir

pub rmdir-root : (s : Space) (p : List (List ℕ)) → is_root p ≡ true
    → first (rmdir_rows s p) ≡ Some (answer (Reply.Error Errno.EBUSY))
unfolding rmdir_rows
rmdir-root s p root = rw root refl

pub rmdir-long : (s : Space) (p : List (List ℕ)) → is_root p ≡ false → too_long s.longest p ≡ true
    → first (rmdir_rows s p) ≡ Some (answer (Reply.Error Errno.ENAMETOOLONG))
unfolding rmdir_rows
rmdir-long s p below long = rw (below, long) refl

pub rmdir-walk : (s : Space) (p : List (List ℕ)) (errno : Errno) → is_root p ≡ false → too_long s.longest p ≡ false
    → walk s p ≡ Err errno
    → first (rmdir_rows s p) ≡ Some (answer (Reply.Error errno))
unfolding rmdir_rows
rmdir-walk s p errno below short leads = rw (below, short, leads) refl

pub rmdir-missing : (s : Space) (p : List (List ℕ)) (parent : ℕ) → IsNewAt s p parent
    → first (rmdir_rows s p) ≡ Some (answer (Reply.Error Errno.ENOENT))
unfolding rmdir_rows
rmdir-missing s p parent new =
    let below = new.directory.below in
    let short = new.directory.short in
    let leads = new.directory.leads in
    let nothing = nothing-at s p parent new in
    rw (below, short, leads, nothing) refl

pub rmdir-file : (s : Space) (p : List (List ℕ)) (parent child : ℕ) → IsAt s p parent child → s.directory child ≡ false
    → first (rmdir_rows s p) ≡ Some (answer (Reply.Error Errno.ENOTDIR))
unfolding rmdir_rows
rmdir-file s p parent child at file =
    let below = at.directory.below in
    let short = at.directory.short in
    let leads = at.directory.leads in
    let there = stands-at s p parent child at in
    let exists = there.exists in
    let stands = there.file ∙ ap not file in
    rw (below, short, leads, exists, stands) refl

pub rmdir-full : (s : Space) (p : List (List ℕ)) (parent child : ℕ) → IsAt s p parent child → s.directory child ≡ true
    → has_entries s.entries child ≡ true → first (rmdir_rows s p) ≡ Some (answer (Reply.Error Errno.ENOTEMPTY))
unfolding rmdir_rows
rmdir-full s p parent child at directory full =
    let below = at.directory.below in
    let short = at.directory.short in
    let leads = at.directory.leads in
    let there = stands-at s p parent child at in
    let exists = there.exists in
    let stands = there.file ∙ ap not directory in
    let entries = ap (has_entries s.entries) there.number ∙ full in
    rw (below, short, leads, exists, stands, entries) refl

pub rmdir-none : (s : Space) (p : List (List ℕ)) (parent child : ℕ) → IsAt s p parent child → s.directory child ≡ true
    → has_entries s.entries child ≡ false → first (rmdir_rows s p) ≡ None
unfolding rmdir_rows
rmdir-none s p parent child at directory empty =
    let below = at.directory.below in
    let short = at.directory.short in
    let leads = at.directory.leads in
    let there = stands-at s p parent child at in
    let exists = there.exists in
    let stands = there.file ∙ ap not directory in
    let entries = ap (has_entries s.entries) there.number ∙ empty in
    rw (below, short, leads, exists, stands, entries) refl
