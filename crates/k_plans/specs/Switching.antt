-- An inode of the tables that goes over to another map: blocks that are set aside for it, and what is planned.
use Rattle.std.specs.Prelude.{◌≡◌, ◌<◌, ◌≤◌, ℕ, All, true, List, [], ◌++◌, ◌||◌, length}
use Rattle.layout_model.specs.block_counts.Counts.{chains_for}
use Rattle.k_tables.specs.image_model.Placed.{AreDistinct}
use Rattle.k_tables.specs.image_model.Volume.{Volume}
use Rattle.k_tables.specs.extent_model.declared.extent_words.Extent.{Extent}
use Rattle.layout_model.specs.declared.lines.Inode.{Inode}
use Rattle.k_journal.specs.declared.batches.Record.{Record}
use Rattle.k_plans.specs.Maps.{AreApart, write_steps}
use Rattle.k_plans.specs.LandingsPlans.{NewChain, Turns, blocks_of, new_at}
use Rattle.volume_change_laws.specs.k_split_model.Taken.{AreLowest, switched}
use Rattle.k_reading.specs.block_pool.FreeSets.{is_among}
use Rattle.map_chain.specs.volume_laws.Uses.{is_unused}
use Rattle.k_plans.specs.Free.{is_free_block}
use Rattle.k_plans.specs.View.{TablesView}
use Rattle.k_plans.specs.Whole.{IsWhole}

-- the tables with other blocks set aside, or with other ones that wait
abbrev pub with_aside : List ℕ → TablesView → TablesView
with_aside aside t = record t { aside = aside }

abbrev pub with_waiting : List ℕ → TablesView → TablesView
with_waiting waiting t = record t { waiting = waiting }

-- The blocks are the n lowest free ones; they are set aside now, with those that were.
pub record IsSetAside (n : ℕ) (taken : List ℕ) (old new : TablesView) : Type 0 where
  pub lowest : AreLowest (is_free_block old) n taken
  pub after : new ≡ with_aside (old.aside ++ taken) old

-- What was set aside waits now, with the blocks that did.
pub record IsHeld (old new : TablesView) : Type 0 where
  pub volume : new.volume ≡ old.volume
  pub aside : new.aside ≡ []
  pub waiting : (b : ℕ) → is_among new.waiting b ≡ (is_among old.waiting b || is_among old.aside b)

-- the tables with an inode that went over to a map, and other blocks set aside
abbrev pub switched_tables : ℕ → Inode → List ℕ → List Extent → List ℕ → TablesView → TablesView
switched_tables ino x blocks es aside t = record t { volume = switched ino x blocks es t.volume; aside = aside }

-- The batch is a plan for a change of maps from v to w: with the new maps in free blocks its lines, one to five, turn v into
-- w, which is whole again. The new maps may be written one after the other, within the steps of a change.
pub record IsMapPlan (news : List NewChain) (v w : Volume) (b : List Record) : Type 0 where
  pub turns : Turns v.geometry news v w b
  pub geometry : w.geometry ≡ v.geometry
  pub some : 0 < length b
  pub most : length b ≤ 5
  pub unused : All (λ t. is_unused v t ≡ true) (blocks_of news)
  pub distinct : (k : ℕ) → k < length news → AreDistinct (new_at news k).blocks
  pub apart : (j k : ℕ) → j < k → k < length news → AreApart (new_at news j).blocks (new_at news k).blocks
  pub counts : (k : ℕ) → k < length news → length (new_at news k).blocks ≡ chains_for (length (new_at news k).extents)
  pub steps : write_steps news ≤ 32000
  pub whole : IsWhole w
