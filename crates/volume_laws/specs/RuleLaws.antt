-- A chain that stands in an image, beside the rule of a checked image on the map of an inode.
use Rattle.std.specs.Prelude.{◌≡◌, ℕ, ◌*◌, ◌^◌, ◌<◌, All, true, List, []}
use Rattle.std.specs.List.{flat_map}
use Rattle.std.proofs.Common.{sym, ◌∙◌, ap, arith}
use Rattle.std.proofs.lemmas.Bool.Decides.{nat_tests}
use Rattle.std.proofs.lemmas.List.FromFn.{get_or-map-range_with_len}
use Rattle.image_model.specs.pm_model.Words.{Words}
use Rattle.image_model.specs.layout_model.Places.{Geometry, is_data_block}
use Rattle.image_model.specs.extent_model.declared.extent_words.Extent.{Extent}
use Rattle.image_model.specs.Chains.{extents_in, chain_of, map_of}
use Rattle.image_model.specs.Rules.{file_blocks_of, IsInData, HasChain}
use Rattle.image_model.specs.Volume.{Volume, volume, inode_or_free, free_inode, inode, chain, extents}
use Rattle.volume_laws.specs.ChainLaws.{chain-map}
use Rattle.image_model.specs.Standing.{IsChain}

-- The volume has for the inode what the words have.
pub record IsOfWords (v : Volume) (f : Words) (ino : ℕ) : Type 0 where
  pub chain_is : chain v ino ≡ chain_of f (inode v ino)
  pub map_is : extents v ino ≡ map_of f (inode v ino)

-- the volume of words has for each of its inodes what they have
pub volume-of_words : (g : Geometry) (f : Words) (ino : ℕ) → ino < g.inodes → IsOfWords (volume g f) f ino
unfolding volume
volume-of_words g f ino within =
    let line : inode (volume g f) ino ≡ inode_or_free f ino = get_or-map-range_with_len (inode_or_free f) 0 g.inodes ino ino free_inode within (omega arith) in
    record {
      chain_is = get_or-map-range_with_len (λ i. chain_of f (inode_or_free f i)) 0 g.inodes ino ino [] within (omega arith) ∙ ap (chain_of f) (sym line);
      map_is = get_or-map-range_with_len (λ i. map_of f (inode_or_free f i)) 0 g.inodes ino ino [] within (omega arith) ∙ ap (map_of f) (sym line);
    }

-- where the rule holds, the inode's chain and map stand in the words
pub chain-of_rule : (v : Volume) (f : Words) (ino : ℕ) → IsOfWords v f ino → HasChain v f ino
    → IsChain f (512 * v.geometry.blocks) (inode v ino).root (inode v ino).extents (chain v ino) (extents v ino)
chain-of_rule v f ino of rule = record {
  linked = of.chain_is;
  in_device = λ k below. let within = rule.blocks k 0 below in grind (arith, nat_tests);
  map = record { spelled = rule.spelled; counted = rule.count; canonical = rule.canonical };
}

-- a chain that stands in data blocks, with its extents there, keeps the rule, and is that of the volume
pub rule-of_chain : (v : Volume) (f : Words) (ino size : ℕ) (blocks : List ℕ) (es : List Extent) → IsOfWords v f ino → (inode v ino).root < 2 ^ 32
    → IsChain f size (inode v ino).root (inode v ino).extents blocks es
    → All (λ b. is_data_block v.geometry b ≡ true) blocks → All (IsInData v.geometry (file_blocks_of (inode v ino).kind)) es
    → (chain v ino ≡ blocks) × (extents v ino ≡ es) × HasChain v f ino
rule-of_chain v f ino size blocks es of small stands in_region in_data =
    let same_blocks : chain v ino ≡ blocks = of.chain_is ∙ sym stands.linked in
    let same_extents : extents v ino ≡ es =
    of.map_is ∙ ap (flat_map (extents_in f)) (sym stands.linked) ∙ chain-map f size (inode v ino).root (inode v ino).extents blocks es small stands in (
      same_blocks,
      same_extents,
      record {
        spelled = rw (same_blocks, same_extents) stands.map.spelled;
        count = rw same_extents stands.map.counted;
        blocks = rw same_blocks in_region;
        canonical = rw same_extents stands.map.canonical;
        in_data = rw same_extents in_data;
      },
    )
