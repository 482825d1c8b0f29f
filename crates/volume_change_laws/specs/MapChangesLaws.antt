-- The chief laws of the changes of maps, each as one statement.
use Rattle.std.specs.Prelude.{◌≡◌, ◌==◌, ℕ, ◌+◌, ◌<◌, ◌≤◌, ◌&&◌, not, Bool, true, List, length, None}
use Rattle.std.specs.List.{list_any}
use Rattle.name_laws.specs.k_split_model.block_counts.Counts.{chains_for}
use Rattle.name_laws.specs.k_split_model.layout_model.Places.{is_data_block, reserve}
use Rattle.name_laws.specs.k_split_model.extent_model.declared.extent_words.Extent.{Extent}
use Rattle.name_laws.specs.k_split_model.extent_model.Extents.{disk_at, IsCanonical}
use Rattle.name_laws.specs.k_split_model.extent_model.Maps.{IsPart, Replaces}
use Rattle.name_laws.specs.k_split_model.extent_model.Moves.{Moves}
use Rattle.name_laws.specs.volume_laws.extent_model.Counts.{one_if}
use Rattle.name_laws.specs.k_split_model.layout_model.declared.lines.Inode.{Inode}
use Rattle.name_laws.specs.k_split_model.image_model.Kept.{AreKept}
use Rattle.name_laws.specs.k_split_model.image_model.Volume.{Volume, extents}
use Rattle.name_laws.specs.k_split_model.MapChangesChanges.{HasInOrder}
use Rattle.name_laws.specs.k_split_model.Taken.{switched}
use Rattle.name_laws.specs.KeptLaws.{HasAllLines}
use Rattle.volume_change_laws.specs.Hits.{AreAt}
use Rattle.volume_change_laws.specs.Switches.{MaySwitch, StandsWith}
use Rattle.name_laws.specs.volume_laws.Uses.{in_chain, in_map, is_unused}

-- ---- an inode goes over to a map

-- the volume keeps the rules
abbrev pub KeepsSwitched : Type 0
KeepsSwitched =
    (v : Volume) (waits : List ℕ) (ino : ℕ) (x : Inode) (blocks : List ℕ) (es : List Extent) (wait : List ℕ)
    → StandsWith v waits → IsCanonical es → MaySwitch v waits ino x blocks es wait → AreKept (switched ino x blocks es v)

-- just the blocks are free that were: what the inode has no longer waits
abbrev pub FreesAsBefore : Type 0
FreesAsBefore =
    (v : Volume) (waits : List ℕ) (ino : ℕ) (x : Inode) (blocks : List ℕ) (es : List Extent) (wait : List ℕ)
    → StandsWith v waits → IsCanonical es → MaySwitch v waits ino x blocks es wait
    → (b : ℕ) → (is_unused (switched ino x blocks es v) b && not (list_any (λ t. t == b) wait)) ≡ (is_unused v b && not (list_any (λ t. t == b) waits))

-- what waits then is named by nothing, and waits once
abbrev pub WaitsUnused : Type 0
WaitsUnused =
    (v : Volume) (waits : List ℕ) (ino : ℕ) (x : Inode) (blocks : List ℕ) (es : List Extent) (wait : List ℕ)
    → StandsWith v waits → IsCanonical es → MaySwitch v waits ino x blocks es wait
    → (b : ℕ) → 1 ≤ in_chain wait b → is_unused (switched ino x blocks es v) b ≡ true

abbrev pub WaitsOnce : Type 0
WaitsOnce =
    (v : Volume) (waits : List ℕ) (ino : ℕ) (x : Inode) (blocks : List ℕ) (es : List Extent) (wait : List ℕ)
    → StandsWith v waits → IsCanonical es → MaySwitch v waits ino x blocks es wait → (b : ℕ) → in_chain wait b ≤ 1

-- ---- how often maps have a disk block

-- two parts of a map, one of the chosen file blocks and one of the others
abbrev pub CountsParts : Type 0
CountsParts =
    (chosen other : ℕ → Bool) (whole part rest : List Extent) (b : ℕ) → IsCanonical whole → IsPart chosen whole part
    → IsPart other whole rest → ((k : ℕ) → other k ≡ not (chosen k)) → in_map part b + in_map rest b ≡ in_map whole b

-- a map that gets the blocks that another one has in a range
abbrev pub CountsLinked : Type 0
CountsLinked =
    (from to count : ℕ) (src dst left linked displaced : List Extent) (blocks : List ℕ) (b : ℕ) → IsCanonical dst
    → Moves from to count src dst left linked displaced → AreAt src from blocks → length blocks ≡ count → to + count ≤ 4096
    → in_map linked b + in_map displaced b ≡ in_map dst b + in_chain blocks b

-- a map of blocks in order, and one that gets a block in a hole
abbrev pub CountsInOrder : Type 0
CountsInOrder = (fresh : List ℕ) (es : List Extent) (b : ℕ) → HasInOrder fresh es → length fresh ≤ 4096 → in_map es b ≡ in_chain fresh b

abbrev pub CountsFilled : Type 0
CountsFilled =
    (run : Extent) (old new : List Extent) (b : ℕ) → IsCanonical old → Replaces run old new → run.count ≡ 1 → run.file < 4096
    → disk_at old run.file ≡ None → in_map new b ≡ in_map old b + one_if (run.disk == b)

-- ---- how many free blocks a change wants

-- a map of data blocks, each at most once: the reserve has room for its chain, and for three blocks more
abbrev pub FitsReserve : Type 0
FitsReserve =
    (v : Volume) (es : List Extent) → IsCanonical es → ((b : ℕ) → in_map es b ≤ 1)
    → ((b : ℕ) → 1 ≤ in_map es b → is_data_block v.geometry b ≡ true) → chains_for (length es) + 3 ≤ reserve v.geometry

-- A file gets a size, or loses a range: with `reserve - 3` free blocks there is room for the new chain.
abbrev pub FindsSized : Type 0
FindsSized =
    (v : Volume) (ino : ℕ) (chosen : ℕ → Bool) (part : List Extent) (free : ℕ) → AreKept v → HasAllLines v → ino < length v.inodes
    → IsCanonical (extents v ino) → IsPart chosen (extents v ino) part → reserve v.geometry ≤ free + 3
    → chains_for (length part) ≤ free

-- Two extents more take one chain block more at most; so do up to 255.
abbrev pub TakesOneMore : Type 0
TakesOneMore = (n more : ℕ) → more ≤ 255 → chains_for (n + more) ≤ chains_for n + 1

abbrev pub TakesNoFewer : Type 0
TakesNoFewer = (n m : ℕ) → n ≤ m → chains_for n ≤ chains_for m
