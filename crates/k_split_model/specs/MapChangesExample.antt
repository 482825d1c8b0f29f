-- A small volume, and what each change of maps makes of it.
use Rattle.std.specs.Prelude.{◌≡◌, ℕ, Bool, ◌&&◌, List, [], ◌∷◌, None}
use Rattle.image_model.specs.extent_model.declared.extent_words.Extent.{Extent}
use Rattle.image_model.specs.layout_model.Places.{is_data_block}
use Rattle.image_model.specs.layout_model.declared.lines.Inode.{Inode}
use Rattle.image_model.specs.layout_model.declared.lines.Kind.TheVariants.{Free, Directory, File, Staging}
use Rattle.image_model.specs.layout_model.Fresh.{empty_inode}
use Rattle.image_model.specs.Room.{has_none}
use Rattle.image_model.specs.Uses.{owners}
use Rattle.image_model.specs.Volume.{Volume}
use Rattle.k_split_model.specs.declared.map_changes.moves.Move.{Move}
use Rattle.k_split_model.specs.declared.map_changes.moves.MoveRun.{MoveRun}
use Rattle.k_split_model.specs.MapChangesChanges.{AreAllMoved, given_up, IsFilled, IsMoved, IsPreallocated, IsSized, Landing}

-- Data blocks are 8 to 63. Inode 1 is a staging file with chain block 8 and data blocks 10 and 11; inode 5 is a file with chain
-- block 9, its file block 0 on block 12, its file block 2 on block 14, and a hole between.
abbrev pub staged : Inode
staged = record { kind = Staging; generation = 2; size = 0; applied = 0; root = 8; extents = 1 }

abbrev pub filed : Inode
filed = record { kind = File; generation = 7; size = 12000; applied = 2; root = 9; extents = 2 }

abbrev pub run : ℕ → ℕ → ℕ → Extent
run file disk count = record { file = file; disk = disk; count = count }

-- the volume with these inodes 1, 2 and 5, these chains and these maps of theirs
abbrev pub volume_with : Inode → List ℕ → List Extent → Inode → List ℕ → List Extent → Inode → List ℕ → List Extent → Volume
volume_with a a_blocks a_map b b_blocks b_map c c_blocks c_map =
    let empty = empty_inode Staging 4 in
    let none = empty_inode Free 0 in
    record {
      geometry = record { version = 1; blocks = 64; log = 4; inodes = 10; names = 5 };
      base = 1;
      inodes = empty_inode Directory 0 ∷ a ∷ b ∷ empty ∷ empty ∷ c ∷ none ∷ none ∷ none ∷ none ∷ [];
      names = None ∷ None ∷ None ∷ None ∷ None ∷ [];
      chains = [] ∷ a_blocks ∷ b_blocks ∷ [] ∷ [] ∷ c_blocks ∷ [] ∷ [] ∷ [] ∷ [] ∷ [];
      maps = [] ∷ a_map ∷ b_map ∷ [] ∷ [] ∷ c_map ∷ [] ∷ [] ∷ [] ∷ [] ∷ [];
    }

abbrev pub small_volume : Volume
small_volume =
    volume_with staged (8 ∷ []) (run 0 10 2 ∷ []) (empty_inode Staging 4) [] []
    filed (9 ∷ []) (run 0 12 1 ∷ run 2 14 1 ∷ [])

-- a data block that nothing in the volume names; in the small one 13, 15 and those behind
abbrev pub is_free_in : Volume → ℕ → Bool
is_free_in v b = is_data_block v.geometry b && has_none (owners v b)

abbrev pub is_free : ℕ → Bool
is_free b = is_free_in small_volume b

-- block 1 of the staging file goes to file block 2
abbrev pub one_block : Move
one_block =
    record { staging = 1; staging_block = 1; ino = 5; file_block = 2; count = 1; size = 9000; applied = 3 }

-- The small volume with chain block 13 and data block 15 in staging file 2: 16 and those behind are free.
abbrev pub twice_staged : Volume
twice_staged =
    volume_with staged (8 ∷ []) (run 0 10 2 ∷ []) (record { kind = Staging; generation = 4; size = 0; applied = 0; root = 13; extents = 1 })
    (13 ∷ []) (run 0 15 1 ∷ []) filed (9 ∷ []) (run 0 12 1 ∷ run 2 14 1 ∷ [])

-- block 0 of staging file 1 goes to file block 2, and then block 0 of staging file 2 goes there
abbrev pub first_of : ℕ → MoveRun
first_of x = record { staging = x; staging_block = 0; file_block = 2; count = 1 }

abbrev pub both_blocks : Landing
both_blocks = record { ino = 5; runs = first_of 1 ∷ first_of 2 ∷ []; size = 9000; applied = 3 }

pub record AreChangesOfExample : Type 0 where
  -- a size of 100 bytes: file block 0 is left
  pub sized :
      IsSized is_free 5 100 small_volume
      (volume_with staged (8 ∷ []) (run 0 10 2 ∷ []) (empty_inode Staging 4) [] []
      (record { kind = File; generation = 7; size = 100; applied = 2; root = 13; extents = 1 }) (13 ∷ []) (run 0 12 1 ∷ []))
  -- a size of 9,000 bytes: both extents are left, so that the map stays where it is
  pub shortened :
      IsSized is_free 5 9000 small_volume
      (volume_with staged (8 ∷ []) (run 0 10 2 ∷ []) (empty_inode Staging 4) [] []
      (record { kind = File; generation = 7; size = 9000; applied = 2; root = 9; extents = 2 }) (9 ∷ []) (run 0 12 1 ∷ run 2 14 1 ∷ []))
  -- file blocks 0 to 2: the hole has block 13, with which the three are one extent
  pub filled :
      IsFilled is_free 5 0 3 small_volume
      (volume_with staged (8 ∷ []) (run 0 10 2 ∷ []) (empty_inode Staging 4) [] []
      (record { kind = File; generation = 7; size = 12000; applied = 2; root = 15; extents = 1 }) (15 ∷ []) (run 0 12 3 ∷ []))
      (13 ∷ [])
  -- three blocks for staging file 2: 13, 15 and 16
  pub preallocated :
      IsPreallocated is_free 2 3 small_volume
      (volume_with staged (8 ∷ []) (run 0 10 2 ∷ [])
      (record { kind = Staging; generation = 5; size = 0; applied = 0; root = 17; extents = 2 }) (17 ∷ []) (run 0 13 1 ∷ run 1 15 2 ∷ [])
      filed (9 ∷ []) (run 0 12 1 ∷ run 2 14 1 ∷ []))
  pub gives_up :
      given_up 1 small_volume
      ≡ volume_with (empty_inode Staging 2) [] [] (empty_inode Staging 4) [] [] filed (9 ∷ []) (run 0 12 1 ∷ run 2 14 1 ∷ [])
  -- block 11 goes to file block 2, and block 14 is displaced
  pub moved :
      IsMoved is_free one_block small_volume
      (volume_with (record { kind = Staging; generation = 2; size = 0; applied = 0; root = 15; extents = 1 }) (15 ∷ []) (run 0 10 1 ∷ [])
      (empty_inode Staging 4) [] []
      (record { kind = File; generation = 7; size = 9000; applied = 3; root = 13; extents = 2 }) (13 ∷ []) (run 0 12 1 ∷ run 2 11 1 ∷ []))
      (run 2 14 1 ∷ [])
  -- Blocks 10 and 15 of two staging files go to file block 2, one after the other: block 14 is displaced, and then block 10. The
  -- chain of the file has block 16, and that of staging file 1 block 17. Staging file 2 has no block left, and so no chain.
  pub all_moved :
      AreAllMoved (is_free_in twice_staged) both_blocks twice_staged
      (volume_with (record { kind = Staging; generation = 2; size = 0; applied = 0; root = 17; extents = 1 }) (17 ∷ []) (run 1 11 1 ∷ [])
      (empty_inode Staging 4) [] []
      (record { kind = File; generation = 7; size = 9000; applied = 3; root = 16; extents = 2 }) (16 ∷ []) (run 0 12 1 ∷ run 2 15 1 ∷ []))
      (run 2 14 1 ∷ run 2 10 1 ∷ [])
