-- The changes of nodes and maps keep the rules, each under what it asks for.
use Rattle.std.specs.Prelude.{◌≡◌, ℕ, ◌+◌, ◌<◌, ◌≤◌, List, [], length, All, true, false, slice_set, slice_index_or, refl}
use Rattle.std.proofs.Common.{arith, ap, sym, ◌∙◌, subst, inl, inr}
use Rattle.std.proofs.lemmas.Bool.{cases_eq, both_ways, eq-eqb}
use Rattle.std.proofs.lemmas.List.Elements.{All-nil}
use Rattle.name_laws.specs.volume_laws.layout_model.Places.{is_data_block}
use Rattle.name_laws.specs.volume_laws.extent_model.declared.extent_words.Extent.{Extent}
use Rattle.name_laws.specs.volume_laws.layout_model.declared.lines.Inode.{Inode}
use Rattle.name_laws.specs.volume_laws.layout_model.Names.{row, is_child}
use Rattle.name_laws.specs.volume_laws.image_model.Kept.{AreKept}
use Rattle.name_laws.specs.volume_laws.image_model.Live.{is_directory}
use Rattle.name_laws.specs.volume_laws.image_model.Reading.{inode_set, node_set, base_set}
use Rattle.name_laws.specs.volume_laws.image_model.Rules.{IsKindAt, IsInData, file_blocks_of}
use Rattle.name_laws.specs.volume_laws.image_model.Uses.{owners, uses_by}
use Rattle.name_laws.specs.volume_laws.image_model.Volume.{Volume, inode, extents, free_inode}
use Rattle.name_laws.specs.k_split_model.ChangesChanges.{gone_node, dropped}
use Rattle.name_laws.specs.KeptLaws.{HasAllLines}
use Rattle.name_laws.specs.RowLaws.{names_of-zero}
use Rattle.volume_change_laws.specs.Changes.{MayDrop}
use Rattle.volume_change_laws.specs.NodeLaws.{file-number, set-kinds, set-data, set-other, set-same, set-kind}
use Rattle.volume_change_laws.specs.Sane.{AreSane, HasData, HasBlocksOnce, sane-kept, kept-sane}
use Rattle.volume_change_laws.specs.SaneLaws.{sane-nodes}
use Rattle.name_laws.specs.volume_laws.Changes.{inode-set_same, inode-set_other, extents-set_same, extents-set_other}
use Rattle.name_laws.specs.volume_laws.OwnerLaws.{owners-base, owners-node, once-set}
use Rattle.name_laws.specs.volume_laws.Uses.{HasAllMaps, uses_of}

-- ---- a node goes, with its map

pub dropped-keeps : (ino : ℕ) (v : Volume) → AreKept v → HasAllLines v → HasAllMaps v → MayDrop ino v
    → AreKept (dropped ino v)
dropped-keeps ino v kept all maps may =
    let sane = sane-kept v kept all in
    let x = gone_node (inode v ino) in
    let plain : is_directory (inode v ino).kind ≡ false = ap is_directory may.file in
    kept-sane (dropped ino v)
    (sane-nodes v (slice_set v.inodes ino x) (slice_set v.chains ino []) (slice_set v.maps ino []) sane
    (λ k t is. set-other v ino x t.child (λ e. both_ways (is_child ino (row v.names k)) (names_of-zero v.names ino may.unnamed k) (ap (is_child ino) is ∙ eq-eqb t.child ino e)))
    (λ k t is. set-other v ino x t.parent (λ e. both_ways (is_directory (inode v ino).kind) plain (ap (λ i. is_directory (inode v i).kind) (sym e) ∙ sane.forest.parents k t is))))
    (λ i own directory. elim (cases_eq i ino) [
      | inl here ↦
          let gone : is_directory (slice_index_or (slice_set v.inodes ino x) i free_inode).kind ≡ false =
          ap (λ n. is_directory (slice_index_or (slice_set v.inodes ino x) n free_inode).kind) here
          ∙ ap is_directory (set-same v ino x may.below)
          in
          absurd (both_ways (is_directory (slice_index_or (slice_set v.inodes ino x) i free_inode).kind) gone directory)
      | inr apart ↦ kept.directories.each i own (sym (ap is_directory (set-other v ino x i apart)) ∙ directory)
    ])
    (set-kinds v ino x may.below (file-number (inode v ino).kind ino may.file (kept.kinds ino (omega (arith, may.below, all.inode_count)))) kept.kinds)
    (λ i within. elim (cases_eq i ino) [
      | inl here ↦
          let none : extents (dropped ino v) i ≡ [] =
          ap (extents (dropped ino v)) here ∙ extents-set_same ino x [] [] v (omega (arith, may.below, maps.map_count))
          in
          subst (All (IsInData v.geometry (file_blocks_of (inode (dropped ino v) i).kind))) (sym none)
          (All-nil (IsInData v.geometry (file_blocks_of (inode (dropped ino v) i).kind)))
      | inr apart ↦
          subst (λ es. All (IsInData v.geometry (file_blocks_of (inode (dropped ino v) i).kind)) es)
          (sym (extents-set_other ino x [] [] v i apart))
          (subst (λ (y : Inode). All (IsInData v.geometry (file_blocks_of y.kind)) (extents v i)) (sym (inode-set_other ino x [] [] v i apart)) (kept.in_data i within))
    ])
    (once-set v ino x [] [] may.below maps (λ b is. omega (arith, kept.once b is)))

-- ---- maps and sizes change, and names and kinds do not

pub tree-keeps : (v : Volume) (base : ℕ) (inodes : List Inode) (chains : List (List ℕ)) (maps : List (List Extent))
    → AreKept v → HasAllLines v
    → ((ino : ℕ) → (slice_index_or inodes ino free_inode).kind ≡ (inode v ino).kind)
    → HasData (record v { base = base; inodes = inodes; chains = chains; maps = maps })
    → HasBlocksOnce (record v { base = base; inodes = inodes; chains = chains; maps = maps })
    → AreKept (record v { base = base; inodes = inodes; chains = chains; maps = maps })
tree-keeps v base inodes chains maps kept all same in_data once =
    kept-sane (record v { base = base; inodes = inodes; chains = chains; maps = maps })
    (sane-nodes (record v { base = base }) inodes chains maps (sane-base v base (sane-kept v kept all)) (λ k r is. same r.child) (λ k r is. same r.parent))
    (λ ino own directory. kept.directories.each ino own (sym (ap is_directory (same ino)) ∙ directory))
    (λ ino below. subst (IsKindAt ino) (sym (same ino)) (kept.kinds ino below)) in_data once
  where
    sane-base : (u : Volume) (b : ℕ) → AreSane u → AreSane (record u { base = b })
    sane-base u b sane =
        record { named = sane.named; ways = sane.ways; forest = sane.forest; one_name = sane.one_name; root = sane.root }

-- an inode with another size or another count of what is applied
pub node-keeps : (ino : ℕ) (x : Inode) (v : Volume) → AreKept v → HasAllLines v → ino < length v.inodes
    → x.kind ≡ (inode v ino).kind
    → AreKept (node_set ino x v)
node-keeps ino x v kept all below same =
    tree-keeps v v.base (slice_set v.inodes ino x) v.chains v.maps kept all (set-kind v ino x below same)
    (set-data v ino x below (ap file_blocks_of same) kept.in_data)
    (λ b is. omega (arith, kept.once b is, ap length (owners-node v ino x b)))

-- another log base
pub base-keeps : (base : ℕ) (v : Volume) → AreKept v → HasAllLines v → AreKept (base_set base v)
base-keeps base v kept all =
    tree-keeps v base v.inodes v.chains v.maps kept all (λ ino. refl) kept.in_data
    (λ b is. omega (arith, kept.once b is, ap length (owners-base v base b)))

-- An inode goes over to another map, in data blocks, whose blocks were its own or nobody's.
pub switch-keeps : (ino : ℕ) (x : Inode) (blocks : List ℕ) (es : List Extent) (v : Volume) → AreKept v → HasAllLines v
    → HasAllMaps v
    → ino < length v.inodes → x.kind ≡ (inode v ino).kind
    → All (IsInData v.geometry (file_blocks_of x.kind)) es
    → ((b : ℕ) → is_data_block v.geometry b ≡ true → length (uses_by ino blocks es b) + length (owners v b) ≤ 1 + uses_of v b ino)
    → AreKept (inode_set ino x blocks es v)
switch-keeps ino x blocks es v kept all maps below same in_data once =
    tree-keeps v v.base (slice_set v.inodes ino x) (slice_set v.chains ino blocks) (slice_set v.maps ino es) kept all
    (set-kind v ino x below same)
    (λ i within. elim (cases_eq i ino) [
      | inl here ↦
          let its : extents (inode_set ino x blocks es v) i ≡ es =
          ap (extents (inode_set ino x blocks es v)) here
          ∙ extents-set_same ino x blocks es v (omega (arith, below, maps.map_count))
          in
          let kind : inode (inode_set ino x blocks es v) i ≡ x =
          ap (inode (inode_set ino x blocks es v)) here ∙ inode-set_same ino x blocks es v below
          in
          subst (λ fs. All (IsInData v.geometry (file_blocks_of (inode (inode_set ino x blocks es v) i).kind)) fs)
          (sym its)
          (subst (λ (y : Inode). All (IsInData v.geometry (file_blocks_of y.kind)) es) (sym kind) in_data)
      | inr apart ↦
          subst (λ fs. All (IsInData v.geometry (file_blocks_of (inode (inode_set ino x blocks es v) i).kind)) fs)
          (sym (extents-set_other ino x blocks es v i apart))
          (subst (λ (y : Inode). All (IsInData v.geometry (file_blocks_of y.kind)) (extents v i)) (sym (inode-set_other ino x blocks es v i apart)) (kept.in_data i within))
    ])
    (once-set v ino x blocks es below maps once)
