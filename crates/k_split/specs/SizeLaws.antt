-- The blocks that are written where a file gets a size were free.
use Rattle.std.specs.Prelude.{◌≡◌, ◌<◌, ℕ, true, List, length, All}
use Rattle.std.proofs.Common.{◌∙◌, ap, arith, inl, inr, subst, sym}
use Rattle.std.proofs.lemmas.List.Elements.{All-nil}
use Rattle.block_io.specs.image_model.Volume.{Volume, chain, extents, inode}
use Rattle.block_io.specs.k_split_model.MapChangesChanges.{TakesChain, with_size, WritesChain}
use Rattle.block_io.specs.k_split_model.Taken.{with_map}
use Rattle.k_map_plans.specs.volume_laws.Changes.{chain-set_same, extents-set_same}
use Rattle.k_map_plans.specs.volume_laws.Uses.{HasAllMaps}
use Rattle.k_tables.specs.k_split_model.View.{View}
use Rattle.k_split.specs.MapChanges.{is_free_in, IsSizedWith}

pub sized-free : (ino size : ℕ) (old : View) (w : Volume) (blocks : List ℕ) → ino < length old.volume.inodes → HasAllMaps old.volume
    → IsSizedWith ino size old w blocks → All (λ b. is_free_in old b ≡ true) blocks
sized-free ino size old w blocks below maps is = by is.written is.sized.taken where
  own_map : extents w ino ≡ is.sized.es
  own_map =
      ap (λ v. extents v ino) is.sized.is_sized
      ∙ extents-set_same ino (with_map is.sized.blocks is.sized.es (with_size size (inode old.volume ino))) is.sized.blocks is.sized.es old.volume
      (omega (arith, below, maps.map_count))

  own_chain : chain w ino ≡ is.sized.blocks
  own_chain =
      ap (λ v. chain v ino) is.sized.is_sized
      ∙ chain-set_same ino (with_map is.sized.blocks is.sized.es (with_size size (inode old.volume ino))) is.sized.blocks is.sized.es old.volume
      (omega (arith, below, maps.chain_count))

  by : WritesChain ino old.volume w blocks → TakesChain (is_free_in old) (extents old.volume ino) is.sized.es (chain old.volume ino) is.sized.blocks
      → All (λ b. is_free_in old b ≡ true) blocks
  by (inl kept) taken = subst (All (λ b. is_free_in old b ≡ true)) (sym kept.1) (All-nil (λ b. is_free_in old b ≡ true))
  by (inr changed) (inl kept) = absurd (changed.0 (own_map ∙ kept.0))
  by (inr changed) (inr fresh) = subst (All (λ b. is_free_in old b ≡ true)) (sym (changed.1 ∙ own_chain)) fresh.1.were_free
