-- One inode of the tables goes over to another map, or keeps its own with another line.
use Rattle.std.specs.Prelude.{◌≡◌, ◌⊎◌, ◌<◌, ◌≤◌, ℕ, ◌+◌, ◌&&◌, not, All, true, List, [], ◌∷◌, length}
use Rattle.block_counts.specs.Counts.{chains_for}
use Rattle.k_relink.specs.extent_model.declared.extent_words.Extent.{Extent}
use Rattle.layout_model.specs.declared.lines.Inode.{Inode}
use Rattle.layout_model.specs.declared.lines.Kind.TheVariants.{File, Staging}
use Rattle.layout_model.specs.Lines.{is_inode}
use Rattle.k_plans.specs.image_model.Rules.{file_blocks_of}
use Rattle.k_plans.specs.image_model.Chains.{first_or_zero}
use Rattle.k_plans.specs.image_model.Volume.{Volume, chain, extents, inode}
use Rattle.k_plans.specs.k_journal.declared.batches.Record.{Record}
use Rattle.k_plans.specs.LandingsPlans.{NewChain}
use Rattle.k_plans.specs.block_pool.FreeSets.{is_among}
use Rattle.k_plans.specs.Free.{AreAsideOnce, AreKeptBack, is_free_block}
use Rattle.k_plans.specs.Switching.{IsMapPlan}
use Rattle.k_plans.specs.View.{TablesView}
use Rattle.k_plans.specs.Whole.{IsWhole}
use Rattle.k_plans.specs.k_split_model.Taken.{AreLowest, switched, with_map}
use Rattle.k_plans.specs.volume_laws.Uses.{in_chain, in_map}

-- The inode keeps its kind, a file's or a staging file's, and may have this line with any map. What it has then and what is
-- freed of its map is what it had, with the blocks that are set aside.
pub record MayGoOver (t : TablesView) (ino : ℕ) (x : Inode) (es freed : List Extent) : Type 0 where
  pub below : ino < length t.volume.inodes
  pub kind : x.kind ≡ (inode t.volume ino).kind
  pub holder : (x.kind ≡ File) ⊎ (x.kind ≡ Staging)
  pub fields : is_inode (with_map [] [] x) ≡ true
  pub short : All (λ (e : Extent). e.file + e.count ≤ file_blocks_of x.kind) es
  pub once : AreAsideOnce t
  pub same : (b : ℕ) → in_map freed b + in_map es b ≡ in_chain t.aside b + in_map (extents t.volume ino) b

-- It has the map, in a chain of the lowest free blocks, and is planned. Just the blocks of the chain are no longer free, and no
-- other ones wait.
pub record HasGoneOver (ino : ℕ) (x : Inode) (es : List Extent) (old new : TablesView) (b : List Record) (c : NewChain) : Type 0 where
  pub extents_are : c.extents ≡ es
  pub lowest : AreLowest (is_free_block old) (chains_for (length es)) c.blocks
  pub after : new.volume ≡ switched ino x c.blocks es old.volume
  pub chain_is : c.blocks ≡ chain new.volume ino
  pub plan : IsMapPlan (c ∷ []) old.volume new.volume b
  pub free : (b : ℕ) → is_free_block new b ≡ (is_free_block old b && not (is_among c.blocks b))
  pub back : AreKeptBack new
  pub waiting : new.waiting ≡ old.waiting

-- A plan that is given up may have set blocks aside; the volume is as before, and no other blocks wait.
pub record HasSetAside (old new : TablesView) : Type 0 where
  pub volume : new.volume ≡ old.volume
  pub waiting : new.waiting ≡ old.waiting

-- ---- its map stays

-- The line has the first block of the inode's chain, 0 for none, and the number of its map's extents; and the chain has as many
-- blocks as they take.
pub record HasOwnMap (v : Volume) (ino : ℕ) : Type 0 where
  pub root : first_or_zero (chain v ino) ≡ (inode v ino).root
  pub count : length (extents v ino) ≡ (inode v ino).extents
  pub blocks : length (chain v ino) ≡ chains_for (length (extents v ino))

-- the volume with another line of the inode, which has the chain and the map that it had
abbrev pub kept_map : ℕ → Inode → Volume → Volume
kept_map ino x v = switched ino x (chain v ino) (extents v ino) v

-- The inode keeps its kind, and may have this line with the map that it has, as it has its own in a volume that is whole.
-- Nothing is set aside.
pub record MayKeep (t : TablesView) (ino : ℕ) (x : Inode) : Type 0 where
  pub below : ino < length t.volume.inodes
  pub kind : x.kind ≡ (inode t.volume ino).kind
  pub own : HasOwnMap t.volume ino
  pub fields : IsWhole t.volume → is_inode (with_map (chain t.volume ino) (extents t.volume ino) x) ≡ true
  pub idle : t.aside ≡ []
