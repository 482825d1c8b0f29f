-- Chains and maps that are read one inode after the other.
use Rattle.std.proofs.Common.{◌≡◌, ℕ, ◌+◌, ◌*◌, ◌<◌, ◌≤◌, List, [], ◌∷◌, ◌++◌, length, get_or, refl, sym, ◌∙◌, ap, arith, inl, inr, subst, length-append}
use Rattle.std.proofs.lemmas.Bool.{cases_eq}
use Rattle.std.proofs.lemmas.List.{ext_get_or, get_or_at, get_or_append_left}
use Rattle.k_inodes.specs.image_layout.pm_model.Words.{Words}
use Rattle.k_inodes.specs.image_layout.layout_model.Places.{Geometry}
use Rattle.block_pool.specs.extent_model.declared.extent_words.Extent.{Extent}
use Rattle.k_inodes.specs.layout_model.declared.lines.Inode.{Inode}
use Rattle.map_chain.specs.image_model.Reading.{Reads}
use Rattle.map_chain.specs.image_model.Standing.{IsChain}
use Rattle.map_chain.specs.image_model.Volume.{Volume, free_inode, inode, chain, extents}
use Rattle.k_reading.specs.Tables.{IsFound, AreFound}

pub found-none : (f : Words) (size : ℕ) (inodes : List Inode) (chains : List (List ℕ)) (maps : List (List Extent))
    → chains ≡ [] → maps ≡ [] → AreFound f size inodes 0 chains maps
found-none f size inodes chains maps no_chain no_map = record {
  chain_count = ap (λ (l : List (List ℕ)). length l) no_chain;
  map_count = ap (λ (l : List (List Extent)). length l) no_map;
  each = λ ino below. absurd (omega arith);
}

moved : (f : Words) (size : ℕ) (x y : Inode) (bs cs : List ℕ) (es fs : List Extent) → x ≡ y → bs ≡ cs → es ≡ fs
    → IsFound f size x bs es → IsFound f size y cs fs
moved f size x y bs cs es fs same_inode same_blocks same_map found =
    subst (λ z. IsFound f size z cs fs) same_inode
    (subst (λ b. IsFound f size x b fs) same_blocks (subst (λ e. IsFound f size x bs e) same_map found))

-- one inode more
pub found-more : (f : Words) (size : ℕ) (inodes : List Inode) (n : ℕ) (chains : List (List ℕ)) (maps : List (List Extent))
    (x : Inode) (blocks : List ℕ) (es : List Extent) (more_chains : List (List ℕ)) (more_maps : List (List Extent))
    → AreFound f size inodes n chains maps → get_or inodes n free_inode ≡ x → IsFound f size x blocks es
    → more_chains ≡ chains ++ blocks ∷ [] → more_maps ≡ maps ++ es ∷ []
    → AreFound f size inodes (n + 1) more_chains more_maps
found-more f size inodes n chains maps x blocks es more_chains more_maps are is one is_chains is_maps = record {
  chain_count =
      ap (λ (l : List (List ℕ)). length l) is_chains ∙ length-append chains (blocks ∷ []) ∙ ap (λ m. m + 1) are.chain_count;
  map_count =
      ap (λ (l : List (List Extent)). length l) is_maps ∙ length-append maps (es ∷ []) ∙ ap (λ m. m + 1) are.map_count;
  each = λ ino below. elim (cases_eq ino n) [
    | inl last ↦
        moved f size x (get_or inodes ino free_inode) blocks (get_or more_chains ino []) es (get_or more_maps ino [])
        (sym (ap (λ k. get_or inodes k free_inode) last ∙ is))
        (sym (ap (λ (l : List (List ℕ)). get_or l ino []) is_chains ∙ get_or_at chains blocks [] [] ino (are.chain_count ∙ sym last)))
        (sym (ap (λ (l : List (List Extent)). get_or l ino []) is_maps ∙ get_or_at maps es [] [] ino (are.map_count ∙ sym last)))
        one
    | inr other ↦
        moved f size (get_or inodes ino free_inode) (get_or inodes ino free_inode) (get_or chains ino []) (get_or more_chains ino [])
        (get_or maps ino []) (get_or more_maps ino []) refl
        (sym (ap (λ (l : List (List ℕ)). get_or l ino []) is_chains ∙ get_or_append_left chains (blocks ∷ []) [] ino (omega (arith, are.chain_count))))
        (sym (ap (λ (l : List (List Extent)). get_or l ino []) is_maps ∙ get_or_append_left maps (es ∷ []) [] ino (omega (arith, are.map_count))))
        (are.each ino (omega arith))
  ];
}

-- where the words read as a volume with these inodes, its chains and maps are found
pub found-reads : (f : Words) (size : ℕ) (inodes : List Inode) (n : ℕ) (chains : List (List ℕ)) (maps : List (List Extent))
    (g : Geometry) (v : Volume) → AreFound f size inodes n chains maps → length inodes ≤ n → n ≤ length inodes
    → size ≡ 512 * g.blocks → Reads g f v → v.inodes ≡ inodes → (chains ≡ v.chains) × (maps ≡ v.maps)
found-reads f size inodes n chains maps g v are all within sized reads same =
    let count : n ≡ g.inodes = omega (arith, ap (λ (l : List Inode). length l) same, reads.inode_count) in
    let is : (ino : ℕ) → ino < n → (get_or chains ino [] ≡ chain v ino) × (get_or maps ino [] ≡ extents v ino) =
    λ ino below. (are.each ino below).found (chain v ino) (extents v ino)
    (stands ino (sized) (ap (λ (l : List Inode). get_or l ino free_inode) same) (reads.chains ino (omega arith)))
    in (
      ext_get_or [] chains v.chains (are.chain_count ∙ count ∙ sym reads.chain_count) (λ ino below. (is ino (omega (arith, are.chain_count))).0),
      ext_get_or [] maps v.maps (are.map_count ∙ count ∙ sym reads.map_count) (λ ino below. (is ino (omega (arith, are.map_count))).1),
    )
  where
    stands : (ino : ℕ) → size ≡ 512 * g.blocks → inode v ino ≡ get_or inodes ino free_inode
        → IsChain f (512 * g.blocks) (inode v ino).root (inode v ino).extents (chain v ino) (extents v ino)
        → IsChain f size (get_or inodes ino free_inode).root (get_or inodes ino free_inode).extents (chain v ino) (extents v ino)
    stands ino sized is_inode chained =
        subst (λ (x : Inode). IsChain f size x.root x.extents (chain v ino) (extents v ino)) is_inode
        (subst (λ s. IsChain f s (inode v ino).root (inode v ino).extents (chain v ino) (extents v ino)) (sym sized) chained)
