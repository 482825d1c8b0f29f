-- The damaged images, each with the rule that it breaks first and the place, as one statement. `Breaks bytes f n p`: of
-- an image of so many bytes with these words, rule n is the first that is broken, at place p.
use Rattle.std.specs.Prelude.{◌≡◌, ◌≢◌, ℕ, ◌+◌, ◌*◌, ◌/◌, ◌^◌, ◌<◌, ◌≤◌, ◌++◌, List, [], ◌∷◌, true, Some}
use Rattle.volume_laws.specs.pm_model.Words.{Words, with_line}
use Rattle.volume_laws.specs.layout_model.Fields.{zeros}
use Rattle.volume_laws.specs.layout_model.Places.{Geometry, IsGeometry, state_line, base_word, commit_word, inode_line, name_line}
use Rattle.volume_laws.specs.layout_model.declared.lines.Draft.{Draft}
use Rattle.volume_laws.specs.layout_model.declared.lines.Inode.{Inode}
use Rattle.volume_laws.specs.layout_model.declared.lines.Kind.TheVariants.{Directory, File, Staging}
use Rattle.volume_laws.specs.layout_model.Entries.{is_draft}
use Rattle.volume_laws.specs.layout_model.EntryLaws.{FitsDraft}
use Rattle.volume_laws.specs.layout_model.Fresh.{empty_inode, fresh}
use Rattle.volume_laws.specs.layout_model.Lines.{encode_inode, decode_inode}
use Rattle.volume_laws.specs.image_model.Broken.{HoldAll, Breaks, FailsFirst}
use Rattle.volume_laws.specs.image_model.Reading.{AreBytes}
use Rattle.volume_laws.specs.image_model.Rules.{IsKindAt}
use Rattle.image_laws.specs.KeptRules.{kept_rules}
use Rattle.image_laws.specs.Damage.{with_word, small, wide}
use Rattle.image_laws.specs.EntryRows.{an_entry, twice_one_order, without_its_block}
use Rattle.image_laws.specs.HeadDamage.{without_s, targets_line_5}
use Rattle.image_laws.specs.LogDamage.{with_entry}
use Rattle.image_laws.specs.MapDamage.{extent_of, once, rooted_image, sharing}
use Rattle.image_laws.specs.TreeImages.{tree_image, tree_volume}
use Rattle.image_laws.specs.TreeRows.{named, ladder, steps_down}

-- Lengths: one byte short of 256 blocks, and none.
abbrev pub IsOneByteShort : Type 0
IsOneByteShort = (f : Words) → Breaks 1048575 f 1 1048575

abbrev pub IsEmpty : Type 0
IsEmpty = (f : Words) → Breaks 0 f 1 0

-- A fresh image in which the first byte of the magic is 0; of version 9; a block longer than it says.
abbrev pub HasNoMagic : Type 0
HasNoMagic = (g : Geometry) → IsGeometry g → Breaks (4096 * g.blocks) (with_word 0 without_s (fresh g)) 2 0

abbrev pub IsOfVersion9 : Type 0
IsOfVersion9 = (g : Geometry) → IsGeometry g → Breaks (4096 * g.blocks) (with_word 1 (9 + 2 ^ 32 * g.blocks) (fresh g)) 3 0

abbrev pub IsOneBlockMore : Type 0
IsOneBlockMore = (g : Geometry) → IsGeometry g → g.blocks < 16384 → Breaks (4096 * (g.blocks + 1)) (fresh g) 4 0

-- A word of block 0 that is set but has no name; and the same of line 5 where a record would set it to zeros.
abbrev pub HasUnnamedWord : Type 0
HasUnnamedWord =
    (g : Geometry) (w x : ℕ) → IsGeometry g → 8 ≤ w → w < 512 → w ≢ commit_word → w / 8 ≢ state_line → 0 < x
    → Breaks (4096 * g.blocks) (with_word w x (fresh g)) 4 0

abbrev pub HasHiddenWord : Type 0
HasHiddenWord = (g : Geometry) (x : ℕ) → IsGeometry g → 0 < x → Breaks (4096 * g.blocks) (with_word 40 x (targets_line_5 0 (fresh g))) 4 0

-- A record of line 5; 129 records; the log base 0, and past 2^63.
abbrev pub HasRecordOfLine5 : Type 0
HasRecordOfLine5 = (g : Geometry) (x : ℕ) → IsGeometry g → Breaks (4096 * g.blocks) (targets_line_5 x (fresh g)) 11 0

abbrev pub Has129Records : Type 0
Has129Records = (g : Geometry) → IsGeometry g → Breaks (4096 * g.blocks) (with_word commit_word 129 (fresh g)) 11 128

abbrev pub HasBase0 : Type 0
HasBase0 = (g : Geometry) → IsGeometry g → Breaks (4096 * g.blocks) (with_word base_word 0 (fresh g)) 11 128

abbrev pub HasBasePast : Type 0
HasBasePast = (g : Geometry) → IsGeometry g → Breaks (4096 * g.blocks) (with_word base_word (2 ^ 63 + 1) (fresh g)) 11 128

-- An inode line that is none, or of a kind that may not stand there; as a file at 1, and a kind that is none.
abbrev pub HasWrongInode : Type 0
HasWrongInode =
    (g : Geometry) (i : ℕ) (bytes : List ℕ) → IsGeometry g → i < g.inodes → AreBytes bytes
    → ((x : Inode) → decode_inode bytes ≡ Some x → ¬ IsKindAt i x.kind) → Breaks (4096 * g.blocks) (with_line (inode_line i) bytes (fresh g)) 5 i

abbrev pub HasFileAt1 : Type 0
HasFileAt1 = (g : Geometry) → IsGeometry g → Breaks (4096 * g.blocks) (with_line (inode_line 1) (encode_inode (empty_inode File 0)) (fresh g)) 5 1

abbrev pub HasStagingAt5 : Type 0
HasStagingAt5 = (g : Geometry) → IsGeometry g → Breaks (4096 * g.blocks) (with_line (inode_line 5) (encode_inode (empty_inode Staging 0)) (fresh g)) 5 5

abbrev pub HasKind4 : Type 0
HasKind4 = (g : Geometry) → IsGeometry g → Breaks (4096 * g.blocks) (with_line (inode_line 7) (4 ∷ zeros 63) (fresh g)) 5 7

-- Names: one without a child; a parent past the last inode; a free child; a parent that is a file; one name twice;
-- directories in a ring; a directory without a name; two names of a directory, and of a file.
abbrev pub HasNoChild : Type 0
HasNoChild = (g : Geometry) → IsGeometry g → Breaks (4096 * g.blocks) (with_line (name_line g 3) (zeros 8 ++ (1 ∷ zeros 55)) (fresh g)) 6 3

abbrev pub HasParentPast : Type 0
HasParentPast = Breaks 262144 (tree_image small (File ∷ []) (named 0 5 98 ∷ named 16 5 97 ∷ [])) 6 1

abbrev pub HasFreeChild : Type 0
HasFreeChild = Breaks 262144 (tree_image small (File ∷ []) (named 0 5 97 ∷ named 0 6 98 ∷ [])) 6 1

abbrev pub HasFileAsParent : Type 0
HasFileAsParent = Breaks 262144 (tree_image small (File ∷ File ∷ []) (named 0 5 97 ∷ named 5 6 98 ∷ [])) 9 1

abbrev pub HasOneNameTwice : Type 0
HasOneNameTwice = Breaks 262144 (tree_image small (File ∷ File ∷ []) (named 0 5 97 ∷ named 0 6 97 ∷ [])) 9 0

abbrev pub HasRing : Type 0
HasRing = Breaks 262144 (tree_image small (Directory ∷ Directory ∷ []) (named 6 5 97 ∷ named 5 6 98 ∷ [])) 9 0

abbrev pub HasNamelessDirectory : Type 0
HasNamelessDirectory = Breaks 262144 (tree_image small (Directory ∷ []) []) 9 16

abbrev pub HasTwoNames : Type 0
HasTwoNames = Breaks 262144 (tree_image small (Directory ∷ []) (named 0 5 97 ∷ named 0 5 98 ∷ [])) 10 5

abbrev pub HasTwoNamesOfAFile : Type 0
HasTwoNamesOfAFile = Breaks 262144 (tree_image small (File ∷ File ∷ []) (named 0 6 97 ∷ named 0 5 98 ∷ named 0 6 99 ∷ [])) 10 6

-- A path of sixteen names may be, one of seventeen may not.
abbrev pub MayBeSixteenDeep : Type 0
MayBeSixteenDeep = HoldAll (kept_rules (tree_volume wide (steps_down 16) (ladder 16)))

abbrev pub IsSeventeenDeep : Type 0
IsSeventeenDeep = Breaks 262144 (tree_image wide (steps_down 17) (ladder 17)) 9 16

-- A root that leads to a block of zeros.
abbrev pub HasNoChain : Type 0
HasNoChain = (g : Geometry) → IsGeometry g → Breaks (4096 * g.blocks) (rooted_image g) 7 5

-- A block that is named twice: by two files, and by the chain and an extent of one. (Of volumes, not of images: rule 8 asks
-- nothing else.)
abbrev pub HasBlockOfTwoFiles : Type 0
HasBlockOfTwoFiles = FailsFirst (once (sharing ((8 ∷ []) ∷ (9 ∷ []) ∷ []) ((extent_of 10 3 ∷ []) ∷ (extent_of 12 2 ∷ []) ∷ []))) 12

abbrev pub HasChainAmongItsBlocks : Type 0
HasChainAmongItsBlocks = FailsFirst (once (sharing ((10 ∷ []) ∷ [] ∷ []) ((extent_of 10 1 ∷ []) ∷ [] ∷ []))) 10

-- Entries: two of one order; one without its staging block; one of a later lap, at any slot, as number 5 in slot 0 of
-- four.
abbrev pub HasOneOrderTwice : Type 0
HasOneOrderTwice = Breaks 262144 twice_one_order 12 0

abbrev pub HasNoStagingBlock : Type 0
HasNoStagingBlock = Breaks 262144 without_its_block 12 0

abbrev pub HasLaterLap : Type 0
HasLaterLap =
    (g : Geometry) (slot : ℕ) (d : Draft) (seq : ℕ) → IsGeometry g → slot < g.log → FitsDraft d → is_draft d ≡ true → seq < 2 ^ 64 → 1 + g.log ≤ seq
    → Breaks (4096 * g.blocks) (with_entry g slot d seq) 13 slot

abbrev pub HasNumber5 : Type 0
HasNumber5 = Breaks 262144 (with_entry small 0 an_entry 5) 13 0
