-- Laws of plans that the layer above begins and ends with.
use Rattle.std.specs.Prelude.{◌≡◌, ◌<◌, ℕ, List, [], ◌∷◌, length, All, true}
use Rattle.k_inodes.specs.pm_model.declared.Cell.{Cell}
use Rattle.k_inodes.specs.layout_model.Places.{Geometry}
use Rattle.volume_change_laws.specs.k_split_model.image_model.Volume.{Volume}
use Rattle.map_chain.specs.volume_laws.Uses.{is_unused}
use Rattle.k_journal.specs.Commits.{MayCommit}
use Rattle.k_journal.specs.declared.batches.Record.{Record}
use Rattle.volume_change_laws.specs.k_split_model.Stands.{Stands}
use Rattle.k_plans.specs.LandingsPlans.{NewChain, new_at, blocks_of, Turns}

-- an empty batch turns nothing
abbrev pub TurnsNothing : Type 0
TurnsNothing = (g : Geometry) (news : List NewChain) (v : Volume) → Turns g news v v []

-- a plan for the volume that the device stands at can be committed
abbrev pub CanCommit : Type 0
CanCommit =
    (g : Geometry) (news : List NewChain) (v w : Volume) (b : List Record) (d : List Cell) → Stands g v d → Turns g news v w b → MayCommit g b d

-- where no inode has a block of one of the maps, none has one of all
abbrev pub AreAllUnused : Type 0
AreAllUnused =
    (v : Volume) (news : List NewChain) → ((k : ℕ) → k < length news → All (λ b. is_unused v b ≡ true) (new_at news k).blocks)
    → All (λ b. is_unused v b ≡ true) (blocks_of news)

-- the blocks of one map are its own
abbrev pub HasOwnBlocks : Type 0
HasOwnBlocks = (c : NewChain) → blocks_of (c ∷ []) ≡ c.blocks
