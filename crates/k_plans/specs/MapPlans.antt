-- What a change of maps asks for, and what is planned then.
use Rattle.std.specs.Prelude.{◌≡◌, ◌≤◌, ◌<◌, ◌+◌, ◌^◌, ℕ, List, [], ◌∷◌, length, Option, None, Some}
use Rattle.layout_model.specs.declared.lines.Inode.{Inode}
use Rattle.layout_model.specs.declared.lines.Kind.TheVariants.{File, Staging}
use Rattle.layout_model.specs.block_counts.declared.TheConstants.{LONGEST_FILE}
use Rattle.k_tables.specs.image_model.Reading.{node_set}
use Rattle.k_tables.specs.image_model.Volume.{Volume, chain, extents, inode}
use Rattle.k_tables.specs.extent_model.Moves.{IsMapped}
use Rattle.k_tables.specs.k_split_model.MapChangesChanges.{WritesChain}
use Rattle.k_tables.specs.k_split_model.declared.map_changes.moves.Move.{Move}
use Rattle.k_journal.specs.declared.batches.Record.{Record}
use Rattle.k_plans.specs.LandingsPlans.{NewChain, blocks_of}
use Rattle.k_plans.specs.Free.{SetsFreedAside}
use Rattle.k_plans.specs.Switching.{IsMapPlan}
use Rattle.k_plans.specs.View.{TablesView}

-- a file in use
pub record IsLiveFile (ino : ℕ) (v : Volume) : Type 0 where
  pub below : ino < length v.inodes
  pub file : (inode v ino).kind ≡ File

-- a staging file, inode 1 to 4
pub record IsStagingFile (staging : ℕ) (v : Volume) : Type 0 where
  pub below : staging < length v.inodes
  pub kind : (inode v staging).kind ≡ Staging

-- a line of which no entry is applied
abbrev pub unapplied : Inode → Inode
unapplied x = record x { applied = 0 }

-- The file has applied no entry; all else is as before.
abbrev pub reset : ℕ → Volume → Volume
reset ino v = node_set ino (unapplied (inode v ino)) v

-- What a move asks for: a staging file that has its blocks, and a live file with place for them.
pub record MayMove (m : Move) (v : Volume) : Type 0 where
  pub staging : IsStagingFile m.staging v
  pub file : IsLiveFile m.ino v
  pub some : 1 ≤ m.count
  pub there : IsMapped (extents v m.staging) m.staging_block m.count
  pub place : m.file_block + m.count ≤ 4096
  pub size : m.size ≤ LONGEST_FILE
  pub applied : m.applied ≤ 2 ^ 63

-- a change is planned, with one new map, that of the inode
pub record IsPlannedOne (ino : ℕ) (old new : TablesView) (b : List Record) (c : NewChain) : Type 0 where
  pub plan : IsMapPlan (c ∷ []) old.volume new.volume b
  pub chain_is : c.blocks ≡ chain new.volume ino
  pub aside : SetsFreedAside old new
  pub waiting : new.waiting ≡ old.waiting

-- the new maps of a plan that may need none
abbrev pub listed : Option NewChain → List NewChain
listed None = []
listed (Some c) = c ∷ []

-- a change is planned, with a new map of the inode where its map changes, and else with none
pub record IsPlannedChange (ino : ℕ) (old new : TablesView) (b : List Record) (o : Option NewChain) : Type 0 where
  pub plan : IsMapPlan (listed o) old.volume new.volume b
  pub written : WritesChain ino old.volume new.volume (blocks_of (listed o))
  pub aside : SetsFreedAside old new
  pub waiting : new.waiting ≡ old.waiting

-- a move is planned, with the new maps of the file and of the staging file
pub record IsPlannedMove (m : Move) (old new : TablesView) (b : List Record) (file staging : NewChain) : Type 0 where
  pub plan : IsMapPlan (file ∷ staging ∷ []) old.volume new.volume b
  pub file_chain : file.blocks ≡ chain new.volume m.ino
  pub staging_chain : staging.blocks ≡ chain new.volume m.staging
  pub aside : SetsFreedAside old new
  pub waiting : new.waiting ≡ old.waiting
