-- What is forgotten agrees with every map.
use Rattle.std.specs.Prelude.{ℕ, List}
use Rattle.extent_map.specs.extent_model.declared.extent_words.Extent.{Extent}
use Rattle.map_collection.specs.Kept.{Agrees, Answer, KeepsNothing}

-- Where nothing is kept of an inode, every map agrees.
abbrev pub ForgottenAgrees : Type 0
ForgottenAgrees = (kept : List Answer) (ino : ℕ) (map : List Extent) → KeepsNothing kept ino → Agrees kept ino map
