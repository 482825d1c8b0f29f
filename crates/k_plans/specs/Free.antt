-- Which blocks are free to take, and what tables keep of them.
use Rattle.std.specs.Prelude.{◌≡◌, ◌≤◌, ℕ, Bool, true, false, not, ◌&&◌, ◌||◌, length, count_by}
use Rattle.std.specs.List.{range_with_len}
use Rattle.k_reading.specs.block_pool.FreeSets.{FreeSet, SameBlocks, is_among, is_free_at}
use Rattle.k_tables.specs.image_model.Volume.{Volume}
use Rattle.layout_model.specs.Places.{data_blocks, first_data}
use Rattle.map_chain.specs.volume_laws.Uses.{in_chain, is_unused}
use Rattle.k_plans.specs.View.{TablesView}
use Rattle.k_plans.specs.Whole.{IsWhole}

-- a data block that nothing in the volume names, that is not set aside, and that does not wait
abbrev pub is_free_block : TablesView → ℕ → Bool
is_free_block t b = is_unused t.volume b && not (is_among t.aside b || is_among t.waiting b)

-- a block that a change frees: it was used, and nothing names it any longer
abbrev pub is_freed : Volume → Volume → ℕ → Bool
is_freed v w b = not (is_unused v b) && is_unused w b

-- after a plan just the blocks that came free in it are set aside
abbrev pub SetsFreedAside : TablesView → TablesView → Type 0
SetsFreedAside old new = (b : ℕ) → is_among new.aside b ≡ is_freed old.volume new.volume b

-- each block that is set aside is so once
abbrev pub AreAsideOnce : TablesView → Type 0
AreAsideOnce t = (b : ℕ) → in_chain t.aside b ≤ 1

-- Blocks that are set aside, each once, and those that wait are unused, and none is both.
pub record AreKeptBack (t : TablesView) : Type 0 where
  pub aside : (b : ℕ) → is_among t.aside b ≡ true → is_unused t.volume b ≡ true
  pub waiting : (b : ℕ) → is_among t.waiting b ≡ true → is_unused t.volume b ≡ true
  pub apart : (b : ℕ) → is_among t.aside b ≡ true → is_among t.waiting b ≡ false
  pub once : AreAsideOnce t

-- The pool has the data blocks, and just these of them are free.
pub record IsPoolOf (t : TablesView) (pool : FreeSet) : Type 0 where
  pub first : pool.first ≡ first_data t.volume.geometry
  pub count : length pool.marks ≡ data_blocks t.volume.geometry
  pub free : (b : ℕ) → is_free_at pool b ≡ is_free_block t b

-- What tables keep: the pool, and one of the same blocks in which those are marked that wait.
pub record AreTables (t : TablesView) (pool held : FreeSet) : Type 0 where
  pub whole : IsWhole t.volume
  pub pool_is : IsPoolOf t pool
  pub back : AreKeptBack t
  pub held_is : SameBlocks pool held

-- how many blocks are free
abbrev pub free_blocks : TablesView → ℕ
free_blocks t = count_by (is_free_block t) (range_with_len (first_data t.volume.geometry) (data_blocks t.volume.geometry))
