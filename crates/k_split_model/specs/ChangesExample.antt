-- A small volume, and what each change makes of it, row by row.
use Rattle.std.specs.Prelude.{◌≡◌, ℕ, ◌-◌, ◌^◌, List, [], ◌∷◌, true, false, Some, None, codes}
use Rattle.image_model.specs.extent_model.declared.extent_words.Extent.{Extent}
use Rattle.image_model.specs.layout_model.declared.lines.Inode.{Inode}
use Rattle.image_model.specs.layout_model.declared.lines.Kind.TheVariants.{Free, Directory, File, Staging}
use Rattle.image_model.specs.layout_model.Fresh.{empty_inode}
use Rattle.image_model.specs.layout_model.Lines.{NameRow}
use Rattle.image_model.specs.layout_model.Names.{Rows}
use Rattle.image_model.specs.Volume.{Volume}
use Rattle.k_split_model.specs.ChangesChanges.{dropped, made, new_node, removed, renamed, renamed_over_directory, renamed_over_file, unnamed}
use Rattle.k_split_model.specs.Spaces.{volume_space}

-- inode 5 is a file with a map, 6 is free, 7 and 8 are directories without entries, 9 is a file without a map
abbrev pub five : Inode
five = record { kind = File; generation = 7; size = 100; applied = 2; root = 20; extents = 1 }

abbrev pub six : Inode
six = empty_inode Free (2 ^ 32 - 1)

abbrev pub seven : Inode
seven = empty_inode Directory 3

abbrev pub eight : Inode
eight = empty_inode Directory 4

abbrev pub nine : Inode
nine = empty_inode File 5

abbrev pub extent : Extent
extent = record { file = 0; disk = 21; count = 1 }

abbrev pub row_to : ℕ → ℕ → List ℕ → NameRow
row_to parent child name = record { parent = parent; child = child; name = name }

-- the volume with these inodes 5, 6 and 7, these names, and this chain and map of inode 5
abbrev pub volume_with : Inode → Inode → Inode → Rows → List ℕ → List Extent → Volume
volume_with a b c names blocks es =
    let staging = empty_inode Staging 0 in
    record {
      geometry = record { version = 1; blocks = 64; log = 4; inodes = 10; names = 5 };
      base = 1;
      inodes = empty_inode Directory 0 ∷ staging ∷ staging ∷ staging ∷ staging ∷ a ∷ b ∷ c ∷ eight ∷ nine ∷ [];
      names = names;
      chains = [] ∷ [] ∷ [] ∷ [] ∷ [] ∷ blocks ∷ [] ∷ [] ∷ [] ∷ [] ∷ [];
      maps = [] ∷ [] ∷ [] ∷ [] ∷ [] ∷ es ∷ [] ∷ [] ∷ [] ∷ [] ∷ [];
    }

-- five names in the root: a, a free line, d, e, f
abbrev pub small_volume : Volume
small_volume =
    volume_with five six seven
    (Some (row_to 0 5 (codes "a")) ∷ None ∷ Some (row_to 0 7 (codes "d")) ∷ Some (row_to 0 8 (codes "e")) ∷ Some (row_to 0 9 (codes "f")) ∷ [])
    (20 ∷ []) (extent ∷ [])

-- What the changes make of it. A line of generation 2^32 - 1 that is taken again has generation 0.
pub record AreChangesOfExample : Type 0 where
  pub ages : new_node File five ≡ empty_inode File 8
  pub made_in_line_1 :
      made Directory 6 1 (row_to 7 6 (codes "b")) small_volume
      ≡ volume_with five (empty_inode Directory 0) seven
      (Some (row_to 0 5 (codes "a")) ∷ Some (row_to 7 6 (codes "b")) ∷ Some (row_to 0 7 (codes "d")) ∷ Some (row_to 0 8 (codes "e")) ∷ Some (row_to 0 9 (codes "f")) ∷ [])
      (20 ∷ []) (extent ∷ [])
  pub unnamed_a :
      unnamed 0 small_volume
      ≡ volume_with five six seven (None ∷ None ∷ Some (row_to 0 7 (codes "d")) ∷ Some (row_to 0 8 (codes "e")) ∷ Some (row_to 0 9 (codes "f")) ∷ [])
      (20 ∷ []) (extent ∷ [])
  pub removed_d :
      removed 2 7 small_volume
      ≡ volume_with five six (empty_inode Free 3) (Some (row_to 0 5 (codes "a")) ∷ None ∷ None ∷ Some (row_to 0 8 (codes "e")) ∷ Some (row_to 0 9 (codes "f")) ∷ [])
      (20 ∷ []) (extent ∷ [])
  pub renamed_a :
      renamed 0 (row_to 7 5 (codes "b")) small_volume
      ≡ volume_with five six seven
      (Some (row_to 7 5 (codes "b")) ∷ None ∷ Some (row_to 0 7 (codes "d")) ∷ Some (row_to 0 8 (codes "e")) ∷ Some (row_to 0 9 (codes "f")) ∷ [])
      (20 ∷ []) (extent ∷ [])
  pub f_over_a :
      renamed_over_file 4 (row_to 0 9 (codes "a")) 0 small_volume
      ≡ volume_with five six seven (None ∷ None ∷ Some (row_to 0 7 (codes "d")) ∷ Some (row_to 0 8 (codes "e")) ∷ Some (row_to 0 9 (codes "a")) ∷ [])
      (20 ∷ []) (extent ∷ [])
  pub e_over_d :
      renamed_over_directory 3 (row_to 0 8 (codes "d")) 2 7 small_volume
      ≡ volume_with five six (empty_inode Free 3) (Some (row_to 0 5 (codes "a")) ∷ None ∷ None ∷ Some (row_to 0 8 (codes "d")) ∷ Some (row_to 0 9 (codes "f")) ∷ [])
      (20 ∷ []) (extent ∷ [])
  pub dropped_a :
      dropped 5 (unnamed 0 small_volume)
      ≡ volume_with (empty_inode Free 7) six seven (None ∷ None ∷ Some (row_to 0 7 (codes "d")) ∷ Some (row_to 0 8 (codes "e")) ∷ Some (row_to 0 9 (codes "f")) ∷ [])
      [] []

-- What the rules of names see of it: the free inode and the free line alone are left, and a staging file is no directory.
pub record IsSpaceOfExample : Type 0 where
  pub root : (volume_space small_volume).directory 0 ≡ true
  pub staging : (volume_space small_volume).directory 1 ≡ false
  pub file : (volume_space small_volume).directory 5 ≡ false
  pub directory : (volume_space small_volume).directory 7 ≡ true
  pub past : (volume_space small_volume).directory 10 ≡ false
  pub entries :
      (volume_space small_volume).entries
      ≡ record { parent = 0; name = codes "a"; child = 5 } ∷ record { parent = 0; name = codes "d"; child = 7 }
      ∷ record { parent = 0; name = codes "e"; child = 8 } ∷ record { parent = 0; name = codes "f"; child = 9 } ∷ []
  pub nodes_left : (volume_space small_volume).nodes_left ≡ 1
  pub lines_left : (volume_space small_volume).lines_left ≡ 1
  pub longest : (volume_space small_volume).longest ≡ 48
