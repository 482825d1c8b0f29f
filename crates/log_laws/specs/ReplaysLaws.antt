-- The laws of replay, each as one statement.
use Rattle.std.specs.Prelude.{◌≡◌, ◌≤◌, ◌+◌, ℕ, true, All, List, length}
use Rattle.world_write_laws.specs.pm_model.Words.{Words}
use Rattle.world_write_laws.specs.layout_model.declared.lines.Draft.{Draft}
use Rattle.world_write_laws.specs.layout_model.Journal.{journaled}
use Rattle.world_write_laws.specs.layout_model.Places.{base_word, Geometry, is_data_block}
use Rattle.world_write_laws.specs.image_model.Checked.{IsLogKept}
use Rattle.world_write_laws.specs.image_model.Live.{live_entries}
use Rattle.world_write_laws.specs.image_model.Room.{held_after_recovery, unused_blocks}
use Rattle.world_write_laws.specs.image_model.Volume.{inode, Volume}
use Rattle.world_write_laws.specs.k_split_model.Stands.{IsOldOrNew}
use Rattle.world_write_laws.specs.list_laws.Members.{In}
use Rattle.log_laws.specs.Logs.{CarriesOut, HasSameFiles}
use Rattle.world_write_laws.specs.volume_laws.Footprint.{SameLog}
use Rattle.world_image_laws.specs.Images.{IsHeaded}
use Rattle.world_write_laws.specs.Relinks.{SameLine}
use Rattle.log_laws.specs.Orders.{AreInOrder, ComeFirst, HaveOwnOrders}

-- The live entries in their order: each comes before the later ones of its file.
abbrev pub ComeFirstInOrder : Type 0
ComeFirstInOrder = (v : Volume) (f : Words) (ds : List Draft) → HaveOwnOrders v f → AreInOrder (live_entries v f) ds → ComeFirst ds

-- By words with the same log lines a volume keeps the rules of its log.
abbrev pub KeepsLogBySameLines : Type 0
KeepsLogBySameLines = (v : Volume) (j h : Words) → SameLog v.geometry j h → IsLogKept v j → IsLogKept v h

-- What the files hold that have names is the same in volumes that show the same files.
abbrev pub HoldsTheSame : Type 0
HoldsTheSame =
    (v w : Volume) (j : Words) → length w.inodes ≡ length v.inodes → HasSameFiles v w j
    → held_after_recovery w (live_entries w j) ≡ held_after_recovery v (live_entries v j)

-- Where a live entry is carried out, which takes one free block at most, the log keeps its rules.
abbrev pub KeepsLogCarriedOut : Type 0
KeepsLogCarriedOut =
    (v w : Volume) (j : Words) (d : Draft) → w.geometry ≡ v.geometry → w.base ≡ v.base → length w.inodes ≡ length v.inodes
    → ((ino : ℕ) → SameLine (inode v ino) (inode w ino)) → CarriesOut v w j d → In d (live_entries v j)
    → unused_blocks v ≤ unused_blocks w + 1 → IsLogKept v j → IsLogKept w j

-- An image of a change that wrote data blocks has a right head.
abbrev pub KeepsHead : Type 0
KeepsHead =
    (g : Geometry) (blocks : List ℕ) (v w : Volume) (before image : Words) → All (λ b. is_data_block g b ≡ true) blocks → IsHeaded g before
    → IsOldOrNew g blocks v w before image → w.base ≡ v.base → v.base ≡ journaled before base_word → IsHeaded g image
