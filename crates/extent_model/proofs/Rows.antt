-- Worked rows of the words on extents, by computation: a map of file blocks 0 to 3 on disk blocks 10 to 13, with file
-- blocks 1 and 2 laid on disk blocks 20 and 21.
use Rattle.std.specs.Prelude.{◌≡◌, ℕ, List, [], ◌∷◌, map, Option, Some, None, true, false, refl}
use Rattle.extent_model.specs.declared.extent_words.Extent.{Extent}
use Rattle.extent_model.specs.Extents.{block_count, covers, disk_at}

abbrev laid : List Extent
laid = record { file = 0; disk = 10; count = 1 } ∷ record { file = 1; disk = 20; count = 2 } ∷ record { file = 3; disk = 13; count = 1 } ∷ []

blocks : map (disk_at laid) (0 ∷ 1 ∷ 2 ∷ 3 ∷ 4 ∷ []) ≡ Some 10 ∷ Some 20 ∷ Some 21 ∷ Some 13 ∷ None ∷ []
blocks = refl

disk_blocks : map (covers laid) (10 ∷ 11 ∷ 21 ∷ 22 ∷ []) ≡ true ∷ false ∷ true ∷ false ∷ []
disk_blocks = refl

count : block_count laid ≡ 4
count = refl
