-- The steps of a landing: the staging files that its runs touch go over to what is left of their maps, and then the file to its own.
use Rattle.std.specs.Prelude.{◌≡◌, ℕ, ◌+◌, List, [], ◌∷◌, ◌++◌, length, take, drop}
use Rattle.std.specs.List.{flat_map}
use Rattle.block_counts.specs.Counts.{chains_for}
use Rattle.k_relink.specs.extent_model.declared.extent_words.Extent.{Extent}
use Rattle.k_plans.specs.image_model.Volume.{Volume, chain as chain_of, inode}
use Rattle.k_plans.specs.LandingsPlans.{NewChain, blocks_of}
use Rattle.k_plans.specs.k_split_model.MapChangesChanges.{Landing, with_length}
use Rattle.k_plans.specs.volume_laws.Uses.{in_chain, in_map}
use Rattle.k_map_plans.specs.Linking.{Left, left_at}
use Rattle.k_map_plans.specs.Steps.{Step}

-- how many blocks the chain of a map takes
abbrev pub chain_size : List Extent → ℕ
chain_size es = chains_for (length es)

-- the maps in chains that have these blocks, one after the other
abbrev pub cut_up : List (List Extent) → List ℕ → List NewChain
cut_up [] blocks = []
cut_up (es ∷ ess) blocks = record { blocks = take (chain_size es) blocks; extents = es } ∷ cut_up ess (drop (chain_size es) blocks)

-- what is free with what comes free once a staging file went over: its chain, and the blocks that went
abbrev pub freed_with : Volume → Left → ℕ → List ℕ → List ℕ
freed_with v left x freed = (freed ++ chain_of v x) ++ left.went

-- A staging file that goes over to a new map. Behind it what is not yet taken is set aside, that of the file's chain and of the new
-- maps behind; and what came free.
abbrev pub staging_step : Volume → ℕ → NewChain → List ℕ → Step
staging_step v x c aside = record { ino = x; line = inode v x; map = c.extents; chain = c.blocks; aside = aside }

-- the steps of staging files, with other ones behind
abbrev pub steps_of : Volume → List Left → List ℕ → List ℕ → List NewChain → List ℕ → List Step → List Step
steps_of v lefts own [] cs freed end = end
steps_of v lefts own (x ∷ xs) [] freed end = end
steps_of v lefts own (x ∷ xs) (c ∷ cs) freed end =
    staging_step v x c (own ++ (blocks_of cs ++ freed_with v (left_at lefts x) x freed))
    ∷ steps_of v lefts own xs cs (freed_with v (left_at lefts x) x freed) end

-- The step of the file. Behind it the old chains are set aside, and what the file lost.
pub record IsFileStep (v : Volume) (m : Landing) (ts : List ℕ) (c : NewChain) (displaced : List Extent) (s : Step) : Type 0 where
  pub ino : s.ino ≡ m.ino
  pub line : s.line ≡ with_length m.size m.applied (inode v m.ino)
  pub map : s.map ≡ c.extents
  pub chain : s.chain ≡ c.blocks
  pub aside : (b : ℕ) → in_chain s.aside b ≡ in_chain (flat_map (chain_of v) ts) b + (in_chain (chain_of v m.ino) b + in_map displaced b)

-- all steps of a landing, whose new maps are `own`, that of the file, and `rests`
pub record AreLandingSteps (v : Volume) (m : Landing) (ts : List ℕ) (lefts : List Left) (displaced : List Extent) (own : NewChain)
    (rests : List NewChain) (steps : List Step) : Type 0 where
  pub last : Step
  pub file : IsFileStep v m ts own displaced last
  pub all : steps ≡ steps_of v lefts own.blocks ts rests [] (last ∷ [])
