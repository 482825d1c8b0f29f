-- The blocks that files hold, and those that nothing names.
use Rattle.std.specs.Prelude.{ℕ, List, [], ◌∷◌, length, Bool, true, false, ◌&&◌, nat_lt, count_by, sum_by, cond}
use Rattle.std.specs.List.{range_with_len}
use Rattle.layout_model.specs.block_counts.Counts.{held_by}
use Rattle.layout_model.specs.Places.{first_data, data_blocks}
use Rattle.layout_model.specs.declared.lines.Draft.{Draft}
use Rattle.layout_model.specs.Names.{names_of}
use Rattle.image_model.specs.Volume.{Volume, inode}
use Rattle.image_model.specs.Uses.{Use, owners}
use Rattle.image_model.specs.Live.{is_file}
use Rattle.image_model.specs.Content.{size_of}

-- the file has a name
abbrev pub is_named_file : Volume → ℕ → Bool
is_named_file v ino = is_file (inode v ino).kind && nat_lt 0 (names_of v.names ino)

-- what the files that have a name hold once recovery has carried out the live entries
abbrev pub held_after_recovery : Volume → List Draft → ℕ
held_after_recovery v live =
    sum_by (λ ino. cond (is_named_file v ino) (held_by (size_of v live ino)) 0) (range_with_len 0 (length v.inodes))

abbrev pub has_none : List Use → Bool
has_none [] = true
has_none (u ∷ us) = false

-- how many data blocks are named by nothing
abbrev pub unused_blocks : Volume → ℕ
unused_blocks v = count_by (λ b. has_none (owners v b)) (range_with_len (first_data v.geometry) (data_blocks v.geometry))
