-- The path of a directory, one step up at a time.
use Rattle.std.proofs.Common.{◌≡◌, ℕ, zero, suc, ◌-◌, ◌<◌, ◌==◌, ◌++◌, ◌∷◌, [], List, find, refl, arith}
use Rattle.std.specs.Option.{option_map_or}
use Rattle.posix_tables.specs.declared.nodes.DirEntry.{DirEntry}
use Rattle.posix_tables.specs.Places.{path_to}

pub path_to_none : (entries : List DirEntry) (most node : ℕ) → most ≡ 0 → path_to entries most node ≡ []
unfolding path_to
path_to_none entries zero node none = refl
path_to_none entries (suc most) node none = absurd (omega arith)

sub_one : {m : ℕ} → suc m - 1 ≡ m
sub_one = omega arith

pub path_to_more : (entries : List DirEntry) (most node : ℕ) → 0 < most
    → path_to entries most node ≡ option_map_or (λ entry. path_to entries (most - 1) entry.parent ++ entry.name ∷ []) (find (λ entry. entry.child == node) entries) []
unfolding path_to
path_to_more entries zero node below = absurd (omega arith)
path_to_more entries (suc most) node below = rw sub_one refl
