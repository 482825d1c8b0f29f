-- The height of a node, one step at a time.
use Rattle.std.proofs.Common.{◌≡◌, ℕ, zero, suc, ◌+◌, ◌-◌, ◌<◌, max, List, fold, refl, arith}
use Rattle.posix_tables.specs.declared.nodes.DirEntry.{DirEntry}
use Rattle.posix_tables.specs.Names.{entries_in, height}

-- the greatest of a number and of the heights of the nodes of some entries, with their own names
abbrev pub deepest_from : List DirEntry → ℕ → ℕ → List DirEntry → ℕ
deepest_from entries most so_far below = fold (λ so_far entry. max so_far (height entries most entry.child + 1)) so_far below

pub height_none : (entries : List DirEntry) (most node : ℕ) → most ≡ 0 → height entries most node ≡ 0
unfolding height
height_none entries zero node none = refl
height_none entries (suc most) node none = absurd (omega arith)

sub_one : {m : ℕ} → suc m - 1 ≡ m
sub_one = omega arith

pub height_more : (entries : List DirEntry) (most node : ℕ) → 0 < most → height entries most node ≡ deepest_from entries (most - 1) 0 (entries_in entries node)
unfolding height
height_more entries zero node below = absurd (omega arith)
height_more entries (suc most) node below = rw sub_one refl
