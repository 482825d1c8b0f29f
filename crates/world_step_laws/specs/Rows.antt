-- The rows of every call that takes a path are the same over a space and over one that mirrors it.
use Rattle.std.specs.Prelude.{◌≡◌, ℕ, ◌+◌, Bool, not, ◌&&◌, ◌||◌, ◌==◌, nat_lt, List, [], ◌∷◌, length}
use Rattle.std.proofs.Common.{ap}
use Rattle.world_model.specs.name_laws.posix_types.declared.handle.Flags.{Flags}
use Rattle.world_model.specs.name_laws.posix_types.declared.reply.Errno.{Errno}
use Rattle.world_model.specs.name_laws.posix_types.declared.reply.Reply.{Reply}
use Rattle.world_model.specs.name_laws.posix_tables.Names.{directory_stands, exists_at, file_stands, has_entries, height, is_below, is_root, longest_path, number_at, Space}
use Rattle.world_model.specs.name_laws.posix_tables.NameRows.{list_rows, mkdir_rows, no_line, no_node, open_rows, rename_kind_rows, rename_rows, rmdir_rows, stat_rows, too_long_row, unlink_rows, walk_row}
use Rattle.world_model.specs.name_laws.posix_tables.Outcomes.{first, idle_row, row, unless}
use Rattle.world_step_laws.specs.Mirrors.{directory_stands-same, exists-same, file_stands-same, filled-same, height-same, meets-same, Mirrors, walk_row-same}

-- what stands at a path, by all that the rows look at
record SamePath (a b : Space) (p : List (List ℕ)) : Type 0 where
  long : too_long_row a p ≡ too_long_row b p
  walked : walk_row a p ≡ walk_row b p
  there : exists_at a p ≡ exists_at b p
  directory : directory_stands a p ≡ directory_stands b p
  file : file_stands a p ≡ file_stands b p
  filled : has_entries a.entries (number_at a p) ≡ has_entries b.entries (number_at b p)
  high : height a.entries longest_path (number_at a p) ≡ height b.entries longest_path (number_at b p)
  nodes : no_node a ≡ no_node b
  lines : no_line a p ≡ no_line b p

same_path : (used : ℕ → Type 0) (numbers : List ℕ) (a b : Space) → Mirrors used numbers a b → (p : List (List ℕ)) → SamePath a b p
same_path used numbers a b m p = record {
  long = ap (λ n. too_long_row (record a { longest = n }) p) m.longest;
  walked = walk_row-same used numbers a b m p;
  there = exists-same used numbers a b m p;
  directory = directory_stands-same used numbers a b m p;
  file = file_stands-same used numbers a b m p;
  filled = filled-same used numbers a b m p;
  high = height-same used numbers a b m p;
  nodes = ap (λ n. no_node (record a { nodes_left = n })) m.nodes_left;
  lines = ap (λ n. no_line (record a { lines_left = n }) p) m.lines_left;
}

-- THE ROWS ARE THE SAME, of every call that takes a path.
pub record HaveSameRows (a b : Space) : Type 0 where
  pub mkdir : (p : List (List ℕ)) → mkdir_rows a p ≡ mkdir_rows b p
  pub rmdir : (p : List (List ℕ)) → rmdir_rows a p ≡ rmdir_rows b p
  pub unlink : (p : List (List ℕ)) → unlink_rows a p ≡ unlink_rows b p
  pub rename : (p q : List (List ℕ)) → rename_rows a p q ≡ rename_rows b p q
  pub open_ : (full busy : Bool) (p : List (List ℕ)) (f : Flags) → open_rows a full busy p f ≡ open_rows b full busy p f
  pub stat : (p : List (List ℕ)) → stat_rows a p ≡ stat_rows b p
  pub list : (p : List (List ℕ)) → list_rows a p ≡ list_rows b p

same_mkdir : (a b : Space) (p : List (List ℕ)) → SamePath a b p → mkdir_rows a p ≡ mkdir_rows b p
unfolding mkdir_rows
same_mkdir a b p s = λ i. row (is_root p) Errno.EEXIST ∷ s.long i ∷ s.walked i ∷ row (s.there i) Errno.EEXIST ∷ s.nodes i ∷ s.lines i ∷ []

same_rmdir : (a b : Space) (p : List (List ℕ)) → SamePath a b p → rmdir_rows a p ≡ rmdir_rows b p
unfolding rmdir_rows
same_rmdir a b p s =
    λ i. row (is_root p) Errno.EBUSY ∷ s.long i ∷ s.walked i ∷ row (not (s.there i)) Errno.ENOENT ∷ row (s.file i) Errno.ENOTDIR ∷ row (s.filled i) Errno.ENOTEMPTY ∷ []

same_unlink : (a b : Space) (p : List (List ℕ)) → SamePath a b p → unlink_rows a p ≡ unlink_rows b p
unfolding unlink_rows
same_unlink a b p s = λ i. row (is_root p) Errno.EPERM ∷ s.long i ∷ s.walked i ∷ row (not (s.there i)) Errno.ENOENT ∷ row (s.directory i) Errno.EPERM ∷ []

same_stat : (a b : Space) (p : List (List ℕ)) → SamePath a b p → stat_rows a p ≡ stat_rows b p
unfolding stat_rows
same_stat a b p s = λ i. s.long i ∷ s.walked i ∷ row (not (s.there i)) Errno.ENOENT ∷ []

same_list : (a b : Space) (p : List (List ℕ)) → SamePath a b p → list_rows a p ≡ list_rows b p
unfolding list_rows
same_list a b p s = λ i. s.long i ∷ s.walked i ∷ row (not (s.there i)) Errno.ENOENT ∷ row (s.file i) Errno.ENOTDIR ∷ []

same_open : (a b : Space) (full busy : Bool) (p : List (List ℕ)) (f : Flags) → SamePath a b p → open_rows a full busy p f ≡ open_rows b full busy p f
unfolding open_rows
same_open a b full busy p f s =
    λ i. s.long i
    ∷ s.walked i
    ∷ row (s.there i && (f.create && f.exclusive)) Errno.EEXIST
    ∷ row (s.directory i) Errno.EISDIR
    ∷ row busy Errno.EBUSY
    ∷ row (not (s.there i) && not f.create) Errno.ENOENT
    ∷ row full Errno.EMFILE
    ∷ unless (s.there i) (s.nodes i)
    ∷ unless (s.there i) (s.lines i)
    ∷ []

same_kinds : (a b : Space) (p q : List (List ℕ)) → SamePath a b p → SamePath a b q → rename_kind_rows a p q ≡ rename_kind_rows b p q
unfolding rename_kind_rows
same_kinds a b p q s t =
    λ i. row (s.directory i && is_below q p) Errno.EINVAL
    ∷ row (s.directory i && t.file i) Errno.ENOTDIR
    ∷ row (s.directory i && (t.directory i && t.filled i)) Errno.ENOTEMPTY
    ∷ row (s.directory i && nat_lt longest_path (length q + s.high i)) Errno.ENAMETOOLONG
    ∷ row (s.file i && t.directory i) Errno.EISDIR
    ∷ []

same_rename : (a b : Space) (p q : List (List ℕ)) → SamePath a b p → SamePath a b q
    → (number_at a p == number_at a q) ≡ (number_at b p == number_at b q) → rename_rows a p q ≡ rename_rows b p q
unfolding rename_rows
same_rename a b p q s t meets =
    let kinds = same_kinds a b p q s t in
    λ i. row (is_root p || is_root q) Errno.EBUSY
    ∷ s.long i
    ∷ t.long i
    ∷ s.walked i
    ∷ row (not (s.there i)) Errno.ENOENT
    ∷ t.walked i
    ∷ idle_row (t.there i && meets i) Reply.Ok
    ∷ first (kinds i)
    ∷ []

pub HaveSameRows-Mirrors : (used : ℕ → Type 0) (numbers : List ℕ) (a b : Space) → Mirrors used numbers a b → HaveSameRows a b
HaveSameRows-Mirrors used numbers a b m = record {
  mkdir = λ p. same_mkdir a b p (same p);
  rmdir = λ p. same_rmdir a b p (same p);
  unlink = λ p. same_unlink a b p (same p);
  rename = λ p q. same_rename a b p q (same p) (same q) (meets-same used numbers a b m p q);
  open_ = λ full busy p f. same_open a b full busy p f (same p);
  stat = λ p. same_stat a b p (same p);
  list = λ p. same_list a b p (same p);
} where
  same : (p : List (List ℕ)) → SamePath a b p
  same p = same_path used numbers a b m p
