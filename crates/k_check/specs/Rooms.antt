-- The parts of rule 12 that speak of room.
use Rattle.std.specs.Prelude.{◌+◌, ◌≤◌, List, length}
use Rattle.oplog_entry.specs.layout_model.Places.{data_blocks, reserve}
use Rattle.oplog_entry.specs.layout_model.declared.lines.Draft.{Draft}
use Rattle.check_image.specs.image_model.Room.{held_after_recovery, unused_blocks}
use Rattle.check_image.specs.image_model.Volume.{Volume}

pub record HasRoom (v : Volume) (live : List Draft) : Type 0 where
  pub held : held_after_recovery v live + reserve v.geometry ≤ data_blocks v.geometry
  pub unused : length live + reserve v.geometry ≤ unused_blocks v + 3
