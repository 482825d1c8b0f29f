-- Laws of tables for the layer above.
use Rattle.std.specs.Prelude.{◌≡◌, ◌≤◌, ℕ, List, []}
use Rattle.layout_model.specs.pm_model.Words.{Words}
use Rattle.layout_model.specs.Places.{Geometry, IsGeometry}
use Rattle.k_tables.specs.image_model.Kept.{AreKept}
use Rattle.k_tables.specs.image_model.Reading.{Reads}
use Rattle.k_tables.specs.image_model.Room.{unused_blocks}
use Rattle.k_tables.specs.image_model.Volume.{Volume}
use Rattle.k_tables.specs.Found.{IsPlace}
use Rattle.k_tables.specs.declared.tables.making.Place.{Place}
use Rattle.k_plans.specs.Free.{free_blocks}
use Rattle.k_plans.specs.View.{TablesView}
use Rattle.k_plans.specs.Whole.{IsWhole}

-- a volume that is read from words, and keeps the rules, is one that tables may have
abbrev pub IsWholeWhereRead : Type 0
IsWholeWhereRead = (g : Geometry) (f : Words) (v : Volume) → IsGeometry g → Reads g f v → AreKept v → IsWhole v

-- where nothing is set aside and nothing waits, all unused blocks are free
abbrev pub FreeAreUnused : Type 0
FreeAreUnused = (t : TablesView) → t.aside ≡ [] → t.waiting ≡ [] → free_blocks t ≡ unused_blocks t.volume

-- the lowest free inode is none of the root's and the staging files', which are never free
abbrev pub IsBehindStaging : Type 0
IsBehindStaging =
    (v : Volume) (path : List (List ℕ)) (place : Place) → IsWhole v → IsPlace v.inodes v.names path place → 5 ≤ place.ino
