-- What the changes of maps make of a volume: the size of a file, its holes, a staging file, and blocks that move.
use Rattle.std.specs.Prelude.{◌≡◌, ◌≢◌, ◌⊎◌, ◌↔◌, ℕ, ◌+◌, ◌%◌, ◌^◌, ◌<◌, ◌≤◌, ◌==◌, nat_lt, Bool, true, false, if◌then◌else◌, List, [], ◌∷◌, ◌++◌, length, sum_by, filter, Option, Some, None, is_none, slice_index}
use Rattle.std.specs.List.{flat_map, list_any, range_with_len}
use Rattle.image_model.specs.block_counts.Counts.{blocks_for, chains_for}
use Rattle.image_model.specs.extent_model.declared.extent_words.Extent.{Extent}
use Rattle.image_model.specs.extent_model.Extents.{disk_at, IsCanonical}
use Rattle.image_model.specs.extent_model.Maps.{IsPart}
use Rattle.image_model.specs.extent_model.Moves.{Moves}
use Rattle.image_model.specs.layout_model.declared.lines.Inode.{Inode}
use Rattle.image_model.specs.Placed.{block_at}
use Rattle.image_model.specs.Volume.{Volume, chain, extents, inode}
use Rattle.k_split_model.specs.declared.map_changes.moves.Move.{Move}
use Rattle.k_split_model.specs.declared.map_changes.moves.MoveRun.{MoveRun}
use Rattle.k_split_model.specs.Taken.{AreLowest, switched}

-- ---- the size of a file

abbrev pub with_size : ℕ → Inode → Inode
with_size size x = record x { size = size }

-- The chain of a map that may have changed: where the map stays its chain does, else the chain has the lowest free blocks.
abbrev pub TakesChain : (ℕ → Bool) → List Extent → List Extent → List ℕ → List ℕ → Type 0
TakesChain free old new chain blocks =
    ((new ≡ old) × (blocks ≡ chain)) ⊎ ((new ≢ old) × AreLowest free (chains_for (length new)) blocks)

-- The file has the size and keeps of its map what lies before its end, also where the size stays. Where that is all of its
-- map, its line alone changes.
pub record IsSized (free : ℕ → Bool) (ino size : ℕ) (v w : Volume) : Type 0 where
  pub es : List Extent
  pub blocks : List ℕ
  pub cut : IsPart (λ b. nat_lt b (blocks_for size)) (extents v ino) es
  pub count : length blocks ≡ chains_for (length es)
  pub taken : TakesChain free (extents v ino) es (chain v ino) blocks
  pub is_sized : w ≡ switched ino (with_size size (inode v ino)) blocks es v

-- the blocks that are written: those of the chain where the map changes, else none
abbrev pub WritesChain : ℕ → Volume → Volume → List ℕ → Type 0
WritesChain ino v w blocks =
    ((extents w ino ≡ extents v ino) × (blocks ≡ [])) ⊎ ((extents w ino ≢ extents v ino) × (blocks ≡ chain w ino))

-- ---- the holes of a file

-- the blocks of `count` file blocks from `first` on that have no disk block, in rising order
abbrev pub holes : List Extent → ℕ → ℕ → List ℕ
holes es first count = filter (λ b. is_none (disk_at es b)) (range_with_len first count)

-- The holes have these disk blocks, the k-th hole the k-th of them; all other file blocks are as before.
pub record Fills (first count : ℕ) (fresh : List ℕ) (old new : List Extent) : Type 0 where
  pub canonical : IsCanonical new
  pub each : length fresh ≡ length (holes old first count)
  pub filled : (k : ℕ) → k < length fresh → disk_at new (slice_index (holes old first count) k) ≡ Some (block_at fresh k)
  pub others : (b : ℕ) → list_any (λ hole. hole == b) (holes old first count) ≡ false → disk_at new b ≡ disk_at old b

-- The range has a hole. Its holes have the lowest free blocks, in rising order, and the chain of the file the next ones. Line
-- and map are as before else.
pub record IsFilled (free : ℕ → Bool) (ino first count : ℕ) (v w : Volume) (fresh : List ℕ) : Type 0 where
  pub es : List Extent
  pub blocks : List ℕ
  pub some : 0 < length fresh
  pub fills : Fills first count fresh (extents v ino) es
  pub taken : AreLowest free (length fresh + chains_for (length es)) (fresh ++ blocks)
  pub is_filled : w ≡ switched ino (inode v ino) blocks es v

-- ---- a staging file

-- block k of the list at file block k, from 0 on
abbrev pub in_order : List ℕ → ℕ → Option ℕ
in_order fresh b = if nat_lt b (length fresh) then Some (block_at fresh b) else None

pub record HasInOrder (fresh : List ℕ) (es : List Extent) : Type 0 where
  pub canonical : IsCanonical es
  pub blocks : (b : ℕ) → disk_at es b ≡ in_order fresh b

-- a line that is taken once more
abbrev pub aged : Inode → Inode
aged x = record x { generation = (x.generation + 1) % 2 ^ 32 }

-- The staging file has the `count` lowest free blocks in rising order, and its chain the next ones. Its line is taken once
-- more.
pub record IsPreallocated (free : ℕ → Bool) (staging count : ℕ) (v w : Volume) : Type 0 where
  pub fresh : List ℕ
  pub es : List Extent
  pub blocks : List ℕ
  pub size : length fresh ≡ count
  pub map : HasInOrder fresh es
  pub taken : AreLowest free (count + chains_for (length es)) (fresh ++ blocks)
  pub is_preallocated : w ≡ switched staging (aged (inode v staging)) blocks es v

-- The staging file has no blocks; its generation stays.
abbrev pub given_up : ℕ → Volume → Volume
given_up staging v = switched staging (inode v staging) [] [] v

-- ---- blocks that move

abbrev pub with_length : ℕ → ℕ → Inode → Inode
with_length size applied x = record x { size = size; applied = applied }

-- Blocks go from the staging file to the file, which has the size then and this order of its last entry. The chain of the
-- file has the lowest free blocks, and that of the staging file the next ones. `displaced` is what the file had in the range.
pub record IsMoved (free : ℕ → Bool) (m : Move) (v w : Volume) (displaced : List Extent) : Type 0 where
  pub left : List Extent
  pub linked : List Extent
  pub blocks : List ℕ
  pub rest : List ℕ
  pub moves : Moves m.staging_block m.file_block m.count (extents v m.staging) (extents v m.ino) left linked displaced
  pub size : length blocks ≡ chains_for (length linked)
  pub taken : AreLowest free (chains_for (length linked) + chains_for (length left)) (blocks ++ rest)
  pub is_moved :
      w ≡ switched m.ino (with_length m.size m.applied (inode v m.ino)) blocks linked
      (switched m.staging (inode v m.staging) rest left v)

-- ---- several runs that move by one landing

-- what a landing of several runs is asked for: the runs, in their order, and the size and the order of its last entry that the file has then
pub record Landing : Type 0 where
  pub ino : ℕ
  pub runs : List MoveRun
  pub size : ℕ
  pub applied : ℕ

-- the maps by inode, with another one of inode i
abbrev pub with_other : ℕ → List Extent → (ℕ → List Extent) → ℕ → List Extent
with_other i es maps x = if x == i then es else maps x

-- The runs go one after the other, each from what the staging files have left to what the file has by then. `displaced` is what the
-- file lost on the way: a later run over the same file block displaces the block of an earlier one.
abbrev pub MovesAll : List MoveRun → (ℕ → List Extent) → List Extent → (ℕ → List Extent) → List Extent → List Extent → Type 0
MovesAll [] src dst left linked displaced = ((x : ℕ) → left x ≡ src x) × (linked ≡ dst) × (displaced ≡ [])
MovesAll (r ∷ rs) src dst left linked displaced =
    (one mid gone more : List Extent) × Moves r.staging_block r.file_block r.count (src r.staging) dst one mid gone
    × MovesAll rs (with_other r.staging one src) mid left linked more × (displaced ≡ gone ++ more)

-- the staging files that lose blocks, each once, by rising number
abbrev pub touched : List MoveRun → List ℕ
touched rs = filter (λ x. list_any (λ (r : MoveRun). r.staging == x) rs) (range_with_len 1 4)

-- the volume in which these staging files have what is left of their maps, one after the other, each in its chain
abbrev pub with_lefts : List ℕ → (ℕ → List ℕ) → (ℕ → List Extent) → Volume → Volume
with_lefts [] rests left v = v
with_lefts (x ∷ xs) rests left v = with_lefts xs rests left (switched x (inode v x) (rests x) (left x) v)

-- Runs go from staging files to a file, which has the size then and this order of its last entry. The chain of the file has the lowest
-- free blocks, and those of the staging files, by rising number, the next ones. `displaced` is what the file lost.
pub record AreAllMoved (free : ℕ → Bool) (m : Landing) (v w : Volume) (displaced : List Extent) : Type 0 where
  pub left : ℕ → List Extent
  pub linked : List Extent
  pub blocks : List ℕ
  pub rests : ℕ → List ℕ
  pub moves : MovesAll m.runs (extents v) (extents v m.ino) left linked displaced
  pub size : length blocks ≡ chains_for (length linked)
  pub sizes : (x : ℕ) → list_any (λ t. t == x) (touched m.runs) ≡ true → length (rests x) ≡ chains_for (length (left x))
  pub taken :
      AreLowest free (chains_for (length linked) + sum_by (λ x. chains_for (length (left x))) (touched m.runs))
      (blocks ++ flat_map rests (touched m.runs))
  pub is_moved :
      w ≡ switched m.ino (with_length m.size m.applied (inode v m.ino)) blocks linked (with_lefts (touched m.runs) rests left v)

-- the one run of a move, and a landing of it alone
abbrev pub run_of_move : Move → MoveRun
run_of_move m = record { staging = m.staging; staging_block = m.staging_block; file_block = m.file_block; count = m.count }

abbrev pub landing_of_move : Move → Landing
landing_of_move m = record { ino = m.ino; runs = run_of_move m ∷ []; size = m.size; applied = m.applied }

-- A landing of one run from one of the four staging files is the move of its blocks.
abbrev pub OneRunIsMoved : Type 0
OneRunIsMoved =
    (free : ℕ → Bool) (m : Move) (v w : Volume) (displaced : List Extent) → 1 ≤ m.staging → m.staging ≤ 4
    → AreAllMoved free (landing_of_move m) v w displaced ↔ IsMoved free m v w displaced
