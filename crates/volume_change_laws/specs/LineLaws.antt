-- A volume keeps its lines and its maps: as many inodes, chains and maps as before, and as many name lines.
use Rattle.std.specs.Prelude.{ℕ, List, Option}
use Rattle.std.proofs.Common.{sym, ◌∙◌}
use Rattle.std.proofs.lemmas.List.{length-set}
use Rattle.name_laws.specs.volume_laws.extent_model.declared.extent_words.Extent.{Extent}
use Rattle.name_laws.specs.volume_laws.layout_model.declared.lines.Inode.{Inode}
use Rattle.name_laws.specs.volume_laws.layout_model.Lines.{NameRow}
use Rattle.name_laws.specs.volume_laws.image_model.Reading.{inode_set, node_set, row_set}
use Rattle.name_laws.specs.volume_laws.image_model.Volume.{Volume}
use Rattle.name_laws.specs.KeptLaws.{HasAllLines}
use Rattle.name_laws.specs.volume_laws.Uses.{HasAllMaps}

pub lines-row : (k : ℕ) (o : Option NameRow) (v : Volume) → HasAllLines v → HasAllLines (row_set k o v)
lines-row k o v all = record { inode_count = all.inode_count; name_count = length-set v.names k o ∙ all.name_count }

pub lines-node : (ino : ℕ) (x : Inode) (v : Volume) → HasAllLines v → HasAllLines (node_set ino x v)
lines-node ino x v all =
    record { inode_count = length-set v.inodes ino x ∙ all.inode_count; name_count = all.name_count }

pub lines-inode : (ino : ℕ) (x : Inode) (blocks : List ℕ) (es : List Extent) (v : Volume) → HasAllLines v
    → HasAllLines (inode_set ino x blocks es v)
lines-inode ino x blocks es v all =
    record { inode_count = length-set v.inodes ino x ∙ all.inode_count; name_count = all.name_count }

pub maps-row : (k : ℕ) (o : Option NameRow) (v : Volume) → HasAllMaps v → HasAllMaps (row_set k o v)
maps-row k o v all = record { chain_count = all.chain_count; map_count = all.map_count }

pub maps-node : (ino : ℕ) (x : Inode) (v : Volume) → HasAllMaps v → HasAllMaps (node_set ino x v)
maps-node ino x v all = record {
  chain_count = all.chain_count ∙ sym (length-set v.inodes ino x);
  map_count = all.map_count ∙ sym (length-set v.inodes ino x);
}

pub maps-inode : (ino : ℕ) (x : Inode) (blocks : List ℕ) (es : List Extent) (v : Volume) → HasAllMaps v
    → HasAllMaps (inode_set ino x blocks es v)
maps-inode ino x blocks es v all = record {
  chain_count = length-set v.chains ino blocks ∙ all.chain_count ∙ sym (length-set v.inodes ino x);
  map_count = length-set v.maps ino es ∙ all.map_count ∙ sym (length-set v.inodes ino x);
}
