-- Lines that gathered, and the new maps that they need.
use Rattle.std.specs.Prelude.{All, ◌≡◌, ◌≢◌, ◌⊎◌, ◌<◌, ◌≤◌, ℕ, true, false, List, [], length}
use Rattle.pm_lines.specs.pm_model.declared.Cell.{Cell}
use Rattle.k_plans.specs.block_pool.FreeSets.{is_among}
use Rattle.k_plans.specs.extent_model.Extents.{covers}
use Rattle.k_plans.specs.image_model.Placed.{block_at}
use Rattle.k_plans.specs.image_model.Volume.{chain, extents, Volume}
use Rattle.k_plans.specs.layout_model.Places.{Geometry, is_data_block}
use Rattle.k_plans.specs.k_journal.declared.batches.Record.{Record}
use Rattle.k_plans.specs.Free.{is_free_block, SetsFreedAside}
use Rattle.k_plans.specs.LandingLaws.{AreNewSingle, EachImageHas}
use Rattle.k_plans.specs.LandingsPlans.{NewChain, Turns, blocks_of}
use Rattle.k_plans.specs.View.{TablesView}
use Rattle.k_plans.specs.Whole.{IsWhole}
use Rattle.k_plans.specs.k_split_model.Stands.{Stands}
use Rattle.k_plans.specs.volume_laws.Uses.{is_unused}

-- The device stands at the volume u. The lines that gathered turn it into v, given new maps, which stand in their blocks in each
-- image: so a commit of these lines is all that is left. Each word of the blocks has one candidate.
pub record AreGathered (g : Geometry) (news : List NewChain) (u v : Volume) (group : List Record) (d : List Cell) : Type 0 where
  pub stands : Stands g u d
  pub turns : Turns g news u v group
  pub stand : EachImageHas g news d
  pub in_data : All (λ b. is_data_block g b ≡ true) (blocks_of news)
  pub single : AreNewSingle news d

-- some new maps are such
pub record HaveGathered (g : Geometry) (u v : Volume) (group : List Record) (d : List Cell) : Type 0 where
  pub news : List NewChain
  pub are : AreGathered g news u v group d

-- ---- tables beside the volume of the device

-- no chain of the volume has the block
abbrev pub IsUnchained : Volume → ℕ → Type 0
IsUnchained u b = (ino k : ℕ) → ino < length u.inodes → k < length (chain u ino) → block_at (chain u ino) k ≢ b

-- a map of the volume has the block
abbrev pub IsCovered : Volume → ℕ → Type 0
IsCovered v b = (ino : ℕ) × (ino < length v.inodes) × (covers (extents v ino) b ≡ true)

-- The tables are ahead of the volume u of the device. Free blocks are unused in it too, so that a block that came free since is used
-- by nothing; a block that a map has is in none of its chains; and the blocks of new maps that gathered are used, or wait, and no
-- map has one.
pub record AreAhead (u : Volume) (t : TablesView) (news : List NewChain) : Type 0 where
  pub unused : (b : ℕ) → is_free_block t b ≡ true → is_unused u b ≡ true
  pub unchained : (b : ℕ) → IsCovered t.volume b → IsUnchained u b
  pub held : (k : ℕ) → k < length (blocks_of news)
      → (is_unused t.volume (block_at (blocks_of news) k) ≡ false) ⊎ (is_among t.waiting (block_at (blocks_of news) k) ≡ true)
  pub bare : (k : ℕ) → k < length (blocks_of news) → IsCovered t.volume (block_at (blocks_of news) k) → ⊥

-- Changes gathered: the device stands at u, the tables have the present volume, and the lines of the group turn the one into the
-- other. Nothing is set aside.
pub record IsOpen (u : Volume) (t : TablesView) (group : List Record) (d : List Cell) : Type 0 where
  pub news : List NewChain
  pub are : AreGathered t.volume.geometry news u t.volume group d
  pub committed : IsWhole u
  pub whole : IsWhole t.volume
  pub idle : t.aside ≡ []
  pub waits : (b : ℕ) → is_among t.waiting b ≡ true → is_unused t.volume b ≡ true
  pub ahead : AreAhead u t news

-- ---- a change that is to join

-- A plan from the tables t to the tables p: its lines, one to five, given new maps in free blocks, turn the one volume into the other. The blocks
-- that come free in it are set aside. Each block that it writes is in a chain then; each that a map has then a map had before, or it
-- was free.
pub record IsJoining (t p : TablesView) (maps : List NewChain) (b : List Record) : Type 0 where
  pub turns : Turns t.volume.geometry maps t.volume p.volume b
  pub some : 0 < length b
  pub most : length b ≤ 5
  pub geometry : p.volume.geometry ≡ t.volume.geometry
  pub whole : IsWhole p.volume
  pub waiting : p.waiting ≡ t.waiting
  pub aside : SetsFreedAside t p
  pub free : All (λ k. is_free_block t k ≡ true) (blocks_of maps)
  pub placed : (k : ℕ) → k < length (blocks_of maps)
      → (ino j : ℕ) × (ino < length p.volume.inodes) × (j < length (chain p.volume ino)) × (block_at (chain p.volume ino) j ≡ block_at (blocks_of maps) k)
  pub mapped : (k : ℕ) → IsCovered p.volume k → IsCovered t.volume k ⊎ (is_free_block t k ≡ true)
