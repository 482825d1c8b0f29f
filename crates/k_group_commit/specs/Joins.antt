-- What is left where room is made for a change, and where it joined.
use Rattle.std.specs.Prelude.{◌≡◌, ◌⊎◌, ◌≤◌, ◌+◌, ◌/◌, ℕ, ◌||◌, false, List, [], length}
use Rattle.pm_lines.specs.pm_model.declared.Cell.{Cell}
use Rattle.pm_lines.specs.pm_model.Cells.{cell, Settles}
use Rattle.pm_lines.specs.pm_model.Frames.{KeepsSingle, SameLent}
use Rattle.pm_lines.specs.pm_model.Images.{Follows, IsImage}
use Rattle.pm_lines.specs.pm_model.Words.{Words}
use Rattle.k_plans.specs.block_pool.FreeSets.{is_among}
use Rattle.k_plans.specs.image_model.Placed.{IsOutside}
use Rattle.k_plans.specs.image_model.Volume.{Volume}
use Rattle.k_plans.specs.image_model.Reading.{Reads}
use Rattle.k_plans.specs.layout_model.Journal.{is_journal_word, journaled}
use Rattle.k_plans.specs.layout_model.Places.{is_journaled_line}
use Rattle.k_plans.specs.k_journal.Batch.{AreLaid, new_lines}
use Rattle.k_plans.specs.k_journal.declared.batches.Record.{Record}
use Rattle.k_plans.specs.k_journal.declared.outcomes.Commit.{Commit}
use Rattle.k_plans.specs.Free.{is_freed}
use Rattle.k_plans.specs.LandingsPlans.{blocks_of, NewChain}
use Rattle.k_plans.specs.Switching.{with_waiting}
use Rattle.k_plans.specs.View.{TablesView}
use Rattle.k_plans.specs.k_split_model.Stands.{IsOldOrNew}
use Rattle.k_group_commit.specs.Gathered.{IsJoining, IsOpen}

-- the lines of both fit into one batch, of 128 lines at most
abbrev pub Fits : List Record → List Record → Type 0
Fits a b = length a + length (new_lines a b) ≤ 128

-- Blocks were written, and lines too if the device went from u to v: the same words are lent; each image reads as u or as v and else is
-- an image before, but for words of the blocks; and words outside the journal, the journaled lines and the blocks settle.
pub record Goes (blocks : List ℕ) (u v : Volume) (d m : List Cell) : Type 0 where
  pub size : length m ≡ length d
  pub lent : SameLent d m
  pub each_image : Follows (IsOldOrNew u.geometry blocks u v) d m
  pub others : (i : ℕ) → is_journal_word i ≡ false → is_journaled_line u.geometry (i / 8) ≡ false → IsOutside blocks i
      → Settles (cell d i) (cell m i)

-- a change was planned that is to join: on tables that are ahead of the device
pub record IsToJoin (u : Volume) (t p : TablesView) (maps : List NewChain) (a b : List Record) (d : List Cell) : Type 0 where
  pub opened : IsOpen u t a d
  pub joining : IsJoining t p maps b

-- the tables p are planned on the tables t, which are ahead of the device
pub record IsAhead (u : Volume) (t p : TablesView) (group : List Record) (d : List Cell) : Type 0 where
  pub opened : IsOpen u t group d
  pub geometry : p.volume.geometry ≡ t.volume.geometry

-- ---- room is made

-- there was room: nothing is done
pub record WasRoom (p q : TablesView) (a c : List Record) (d m : List Cell) : Type 0 where
  pub tables : q ≡ p
  pub group : c ≡ a
  pub cells : m ≡ d

-- The group was committed: the device stands at the volume of the tables t, nothing gathered, and what waited is free.
pub record WasCommitted (u : Volume) (t p q : TablesView) (c : List Record) (d m : List Cell) : Type 0 where
  pub tables : q ≡ with_waiting [] p
  pub group : c ≡ []
  pub opened : IsOpen t.volume (with_waiting [] t) [] m
  pub goes : Goes [] u t.volume d m
  pub singles : KeepsSingle d m

abbrev pub IsRoomMade : Volume → TablesView → TablesView → TablesView → List Record → List Record → List Record → List Cell → List Cell → Commit → Type 0
IsRoomMade u t p q a b c d m Commit.Done = (Fits a b × WasRoom p q a c d m) ⊎ ((Fits a b → ⊥) × WasCommitted u t p q c d m)
IsRoomMade u t p q a b c d m Commit.PowerLost = (Fits a b → ⊥) × Goes [] u t.volume d m

-- ---- a change joined

-- It joined the group a of a device at the volume v, where the blocks of the list waited.
pub record HasJoined (u v : Volume) (waiting : List ℕ) (t p h : TablesView) (maps : List NewChain) (a b c : List Record) (d m : List Cell) : Type 0 where
  pub opened : IsOpen v h c m
  pub volume : h.volume ≡ p.volume
  pub waits : (x : ℕ) → is_among h.waiting x ≡ (is_among waiting x || is_freed t.volume p.volume x)
  pub laid : AreLaid a b c
  pub goes : Goes (blocks_of maps) u v d m
  pub singles : KeepsSingle d m

-- The power went while blocks were written of a device at v, which it was before or went over to from u: each image reads as v.
pub record IsWriteCut (blocks : List ℕ) (u v : Volume) (d m : List Cell) : Type 0 where
  pub goes : Goes blocks u v d m
  pub reads : (image : Words) → IsImage m image → Reads v.geometry (journaled image) v

-- so it was where the lines fit, or once the group was committed
abbrev pub IsBlocksCut : List ℕ → Volume → TablesView → List Record → List Record → List Cell → List Cell → Type 0
IsBlocksCut blocks u t a b d m =
    (Fits a b × IsWriteCut blocks u u d m) ⊎ ((Fits a b → ⊥) × IsWriteCut blocks u t.volume d m)

-- Either its lines fit beside those of the group, and it joined these; or they do not, and the group was committed before.
-- Or the power went in that commit, or while blocks were written.
abbrev pub IsJoined : Volume → TablesView → TablesView → TablesView → List NewChain → List Record → List Record → List Record → List Cell → List Cell
    → Commit → Type 0
IsJoined u t p h maps a b c d m Commit.Done =
    (Fits a b × HasJoined u u t.waiting t p h maps a b c d m) ⊎ ((Fits a b → ⊥) × HasJoined u t.volume [] t p h maps [] b c d m)
IsJoined u t p h maps a b c d m Commit.PowerLost =
    ((Fits a b → ⊥) × Goes [] u t.volume d m) ⊎ IsBlocksCut (blocks_of maps) u t a b d m
