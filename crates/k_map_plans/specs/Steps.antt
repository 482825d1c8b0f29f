-- Inodes that go over to new maps, one after the other.
use Rattle.std.specs.Prelude.{◌≡◌, ℕ, ◌+◌, ◌≤◌, ◌<◌, All, true, List, [], ◌∷◌, length}
use Rattle.k_relink.specs.extent_model.declared.extent_words.Extent.{Extent}
use Rattle.layout_model.specs.declared.lines.Inode.{Inode}
use Rattle.layout_model.specs.Lines.{is_inode}
use Rattle.k_plans.specs.image_model.Rules.{file_blocks_of}
use Rattle.k_plans.specs.image_model.Volume.{Volume, inode}
use Rattle.k_plans.specs.LandingsPlans.{NewChain, new_at}
use Rattle.k_plans.specs.k_split_model.Taken.{switched, with_map}
use Rattle.k_plans.specs.volume_change_laws.Switches.{KeepsBlocks}

-- What the tables take for an inode that goes over: its line, its map, the blocks of its chain, and what is set aside behind it.
pub record Step : Type 0 where
  pub ino : ℕ
  pub line : Inode
  pub map : List Extent
  pub chain : List ℕ
  pub aside : List ℕ

-- what a step makes of a volume, and what several do
abbrev pub after_step : Step → Volume → Volume
after_step s v = switched s.ino s.line s.chain s.map v

abbrev pub after_steps : List Step → Volume → Volume
after_steps [] v = v
after_steps (s ∷ ss) v = after_steps ss (after_step s v)

-- The inode may go over, where each block that is set aside before it is so once.
pub record MayStep (v : Volume) (waits : List ℕ) (s : Step) : Type 0 where
  pub below : s.ino < length v.inodes
  pub kind : s.line.kind ≡ (inode v s.ino).kind
  pub fields : is_inode (with_map s.chain s.map s.line) ≡ true
  pub short : All (λ (e : Extent). e.file + e.count ≤ file_blocks_of s.line.kind) s.map
  pub same : KeepsBlocks v s.ino waits s.chain s.map s.aside

abbrev pub MayStepAll : Volume → List ℕ → List Step → Type 0
MayStepAll v waits [] = Unit {0}
MayStepAll v waits (s ∷ ss) = MayStep v waits s × MayStepAll (after_step s v) s.aside ss

-- the chain and the map of a step are those of a new map
pub record ComesFrom (news : List NewChain) (s : Step) : Type 0 where
  pub place : ℕ
  pub below : place < length news
  pub chain : s.chain ≡ (new_at news place).blocks
  pub map : s.map ≡ (new_at news place).extents

abbrev pub ComeFrom : List NewChain → List Step → Type 0
ComeFrom news [] = Unit {0}
ComeFrom news (s ∷ ss) = ComesFrom news s × ComeFrom news ss
