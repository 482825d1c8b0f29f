-- The chief laws of volumes, each as one statement.
use Rattle.std.specs.Prelude.{◌≡◌, ℕ, ◌*◌, ◌/◌, ◌%◌, ◌<◌, ◌^◌, List, [], ◌∷◌, Option, Some, true, false}
use Rattle.image_model.specs.pm_model.declared.Cell.{Cell}
use Rattle.image_model.specs.pm_model.declared.Cell.TheVariants.{Lent}
use Rattle.image_model.specs.pm_model.Cells.{cell, is_lent, unmarked}
use Rattle.image_model.specs.pm_model.Parts.{GoesOut, ComesBack, put_back}
use Rattle.image_model.specs.pm_model.Words.{Words, with_line}
use Rattle.image_model.specs.layout_model.Journal.{journaled}
use Rattle.image_model.specs.layout_model.Places.{Geometry, state_line, inode_line, name_line}
use Rattle.image_model.specs.extent_model.declared.extent_words.Extent.{Extent}
use Rattle.image_model.specs.layout_model.declared.lines.Inode.{Inode}
use Rattle.image_model.specs.layout_model.Fresh.{state_bytes}
use Rattle.image_model.specs.layout_model.Lines.{NameRow, decode_inode, decode_name}
use Rattle.image_model.specs.Content.{found, content_of, content}
use Rattle.image_model.specs.Live.{live_entries}
use Rattle.image_model.specs.Placed.{IsOutside}
use Rattle.image_model.specs.Reading.{slot_for, StandsFor, Reads, inode_set, row_set, base_set, AreBytes}
use Rattle.image_model.specs.Standing.{IsChain}
use Rattle.image_model.specs.Volume.{Volume, volume}
use Rattle.volume_laws.specs.Footprint.{SameLog, SameData, AreUnread}
use Rattle.volume_laws.specs.LoanLaws.{AllRead}
use Rattle.volume_laws.specs.Reading.{AgreeFor, AreUnchained}

-- words that read as a volume have it as theirs, and so do words that agree in all that its reading looks at
abbrev pub HasOneVolume : Type 0
HasOneVolume = (g : Geometry) (f : Words) (v : Volume) → Reads g f v → volume g f ≡ v

abbrev pub ReadsAlike : Type 0
ReadsAlike = (g : Geometry) (f h : Words) (v : Volume) → AgreeFor g v f h → Reads g f v → Reads g h v

-- a line that is set changes its own part of the volume alone
abbrev pub SetsInode : Type 0
SetsInode =
    (g : Geometry) (f : Words) (v : Volume) (ino : ℕ) (x : Inode) (blocks : List ℕ) (es : List Extent) (bytes : List ℕ)
    → ino < g.inodes → AreBytes bytes → decode_inode bytes ≡ Some x → StandsFor g f x blocks es → Reads g f v
    → Reads g (with_line (inode_line ino) bytes f) (inode_set ino x blocks es v)

abbrev pub SetsRow : Type 0
SetsRow =
    (g : Geometry) (f : Words) (v : Volume) (k : ℕ) (o : Option NameRow) (bytes : List ℕ)
    → k < g.names → AreBytes bytes → decode_name bytes ≡ slot_for o → Reads g f v
    → Reads g (with_line (name_line g k) bytes f) (row_set k o v)

abbrev pub SetsBase : Type 0
SetsBase =
    (g : Geometry) (f : Words) (v : Volume) (base : ℕ) → base < 2 ^ 64 → Reads g f v
    → Reads g (with_line state_line (state_bytes base) f) (base_set base v)

-- a chain that is written into free blocks changes nothing, until an inode is switched to it
abbrev pub WritesFree : Type 0
WritesFree =
    (g : Geometry) (f h : Words) (v : Volume) (blocks : List ℕ) → AreUnchained g v blocks
    → ((i : ℕ) → IsOutside blocks i → h i ≡ f i) → Reads g f v → Reads g h v

abbrev pub Switches : Type 0
Switches =
    (g : Geometry) (f h : Words) (v : Volume) (ino : ℕ) (x : Inode) (blocks : List ℕ) (es : List Extent) (bytes : List ℕ)
    → AreUnchained g v blocks → ((i : ℕ) → IsOutside blocks i → h i ≡ f i)
    → IsChain h (512 * g.blocks) x.root x.extents blocks es
    → ino < g.inodes → AreBytes bytes → decode_inode bytes ≡ Some x → Reads g f v
    → Reads g (with_line (inode_line ino) bytes h) (inode_set ino x blocks es v)

-- the content rests on the volume, the log lines and the files' blocks alone
abbrev pub HasFootprint : Type 0
HasFootprint =
    (g : Geometry) (v : Volume) (f h : Words) → Reads g h v → SameLog g f h → SameData v (live_entries v f) f h
    → content_of g h ≡ found v (live_entries v f) f

-- so images that differ in blocks that no chain has and no file reads have the same content
abbrev pub HasContentBeside : Type 0
HasContentBeside =
    (g : Geometry) (v : Volume) (blocks : List ℕ) (before image : Words) → AreUnchained g v blocks
    → AreUnread v (live_entries v (journaled before)) blocks
    → ((i : ℕ) → IsOutside blocks i → image i ≡ before i) → Reads g (journaled before) v
    → content g image ≡ content g before

-- a device with a part lent and put back has the cells that it had; once the part is back, those with it put back
abbrev pub PutsBackLent : Type 0
PutsBackLent =
    (size n : ℕ) (old new part : List Cell) (w : ℕ → Cell) → GoesOut size n old new part → ((i : ℕ) → i / size ≡ n → w i ≡ cell part (i % size))
    → (i : ℕ) → put_back new w i ≡ put_back old w i

abbrev pub PutsBackSettled : Type 0
PutsBackSettled =
    (size n : ℕ) (part old new : List Cell) (w : ℕ → Cell) → ComesBack size n part old new → ((i : ℕ) → i / size ≡ n → is_lent (cell old i) ≡ true)
    → ((i : ℕ) → i / size ≡ n → w i ≡ unmarked (cell part (i % size))) → (i : ℕ) → put_back new w i ≡ put_back old w i

-- what reads as a volume reads as it while a block that no chain has is lent, and once a part is back
abbrev pub ReadsWhileLent : Type 0
ReadsWhileLent =
    (g : Geometry) (v : Volume) (n : ℕ) (d e part : List Cell) → AreUnchained g v (n ∷ []) → GoesOut 512 n d e part
    → ((i : ℕ) → i / 512 ≡ n → is_lent (cell d i) ≡ false) → AllRead g v d → AllRead g v e

abbrev pub ReadsOnceBack : Type 0
ReadsOnceBack =
    (g : Geometry) (v : Volume) (size n : ℕ) (part d e : List Cell) → ComesBack size n part d e
    → ((i : ℕ) → i / size ≡ n → cell d i ≡ Lent)
    → AllRead g v d → AllRead g v e
