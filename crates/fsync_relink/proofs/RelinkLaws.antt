-- One relink of K-Split: the lines, the maps and the chains of the volume then.
use Rattle.std.proofs.Common.{◌≡◌, ◌≢◌, ◌≤◌, ◌<◌, ◌+◌, ◌-◌, not, ℕ, Bool, false, List, length, Option, Some, None, refl, sym, ◌∙◌, ap, subst, inl, inr, arith, get_or, length-append}
use Rattle.std.specs.Prelude.{IsSome}
use Rattle.std.proofs.lemmas.Bool.{cases_eq}
use Rattle.std.proofs.lemmas.List.{length-set}
use Rattle.log_laws.specs.pm_model.ImageLaws.{IsImage-words_of}
use Rattle.log_laws.specs.pm_model.Images.{words_of}
use Rattle.log_laws.specs.block_counts.Counts.{chains_for}
use Rattle.log_laws.specs.volume_laws.ChainLaws.{length-blocks_from}
use Rattle.log_laws.specs.layout_model.Journal.{journaled}
use Rattle.log_laws.specs.layout_model.declared.lines.Inode.{Inode}
use Rattle.log_laws.specs.layout_model.declared.lines.Kind.TheVariants.{File, Staging}
use Rattle.log_laws.specs.image_model.Reading.{inode_set, Reads}
use Rattle.log_laws.specs.image_model.Rules.{file_blocks_of}
use Rattle.log_laws.specs.image_model.Volume.{chain, extents, inode, Volume}
use Rattle.log_laws.specs.extent_model.declared.extent_words.Extent.{Extent}
use Rattle.log_laws.specs.extent_model.Extents.{disk_at, IsCanonical, is_within}
use Rattle.k_split.specs.k_map_plans.Plans.{MayMove}
use Rattle.k_split.specs.k_plans.Whole.{IsWhole}
use Rattle.log_laws.specs.k_split_model.View.{View}
use Rattle.k_split.specs.Order.{IsInOrder}
use Rattle.k_split.specs.k_split_model.MapChangesChanges.{IsMoved, with_length}
use Rattle.k_split.specs.k_split_model.Taken.{switched, with_map}
use Rattle.k_split.specs.k_split_model.declared.map_changes.moves.Move.{Move}
use Rattle.log_laws.specs.volume_laws.Changes.{chain-set_other, chain-set_same, extents-set_other, extents-set_same, inode-set_other, inode-set_same}
use Rattle.k_split.specs.volume_change_laws.Shorts.{AreBelow, mapped-below}
use Rattle.k_split.specs.volume_change_laws.Lengths.{chain-left as chain-shrinks, chain-linked as chain-grows}

-- ---- helpers

no_some : let none : Option ℕ = None in IsSome none → ⊥
no_some some = cc

IsSome-value : (o : Option ℕ) → IsSome o → (n : ℕ) × (o ≡ Some n)
IsSome-value None some = absurd (no_some some)
IsSome-value (Some n) some = (n, refl)

-- ---- what K-Split's inodes have

-- the chain of an inode is as long as its map wants, and the map has its one spelling
pub record HasChain (v : Volume) (ino : ℕ) : Type 0 where
  pub counted : length (chain v ino) ≡ chains_for (length (extents v ino))
  pub canonical : IsCanonical (extents v ino)

pub has-chain : (k : View) (ino : ℕ) → IsInOrder k → k.batched ≡ false → ino < length k.volume.inodes → HasChain k.volume ino
has-chain k ino order unbatched below =
    subst (λ v. HasChain v ino) (order.settled unbatched)
    (let reads : Reads k.committed.geometry (journaled (words_of k.cells)) k.committed = order.stands.reads (words_of k.cells) (IsImage-words_of k.cells) in
    let is = reads.chains ino (subst (λ n. ino < n) (ap (λ (v : Volume). length v.inodes) (sym (order.settled unbatched)) ∙ reads.inode_count) below) in
    record {
      counted =
          ap length is.linked
          ∙ (length-blocks_from (journaled (words_of k.cells)) (inode k.committed ino).root (chains_for (inode k.committed ino).extents) ∙ ap chains_for (sym is.map.counted));
      canonical = is.map.canonical;
    })

module _ (free : ℕ → Bool) (m : Move) (v w : Volume) (displaced : List Extent) (whole : IsWhole v) (may : MayMove m v) (moved : IsMoved free m v w displaced) where
  pub apart : m.staging ≢ m.ino
  apart same =
      let one : (inode v m.ino).kind ≡ File = may.file.file in
      let two : (inode v m.ino).kind ≡ Staging = ap (λ i. (inode v i).kind) (sym same) ∙ may.staging.kind in
      let never : File ≡ Staging = sym one ∙ two in
      absurd (cc)

  -- the volume between the two switches
  abbrev between : Volume
  between = switched m.staging (inode v m.staging) moved.rest moved.left v

  abbrev line : Inode
  line = with_map moved.blocks moved.linked (with_length m.size m.applied (inode v m.ino))

  is : w ≡ inode_set m.ino line moved.blocks moved.linked between
  is = moved.is_moved

  counts : (length between.inodes ≡ length v.inodes) × (length between.maps ≡ length v.maps) × (length between.chains ≡ length v.chains)
  counts = (length-set v.inodes m.staging (with_map moved.rest moved.left (inode v m.staging)), length-set v.maps m.staging moved.left, length-set v.chains m.staging moved.rest)

  -- ---- maps

  pub map-file : extents w m.ino ≡ moved.linked
  map-file =
      ap (λ v. extents v m.ino) is
      ∙ extents-set_same m.ino line moved.blocks moved.linked between (omega (arith, counts.1, whole.maps.map_count, may.file.below))

  pub map-left : extents w m.staging ≡ moved.left
  map-left =
      ap (λ v. extents v m.staging) is
      ∙ extents-set_other m.ino line moved.blocks moved.linked between m.staging apart
      ∙ extents-set_same m.staging (with_map moved.rest moved.left (inode v m.staging)) moved.rest moved.left v
      (omega (arith, whole.maps.map_count, may.staging.below))

  pub map-other : (i : ℕ) → i ≢ m.ino → i ≢ m.staging → extents w i ≡ extents v i
  map-other i other beside =
      ap (λ v. extents v i) is
      ∙ extents-set_other m.ino line moved.blocks moved.linked between i other
      ∙ extents-set_other m.staging (with_map moved.rest moved.left (inode v m.staging)) moved.rest moved.left v i beside

  -- ---- chains

  pub chain-file : chain w m.ino ≡ moved.blocks
  chain-file =
      ap (λ y. chain y m.ino) is
      ∙ chain-set_same m.ino line moved.blocks moved.linked between (omega (arith, counts.2, whole.maps.chain_count, may.file.below))

  pub chain-left : chain w m.staging ≡ moved.rest
  chain-left =
      ap (λ y. chain y m.staging) is
      ∙ chain-set_other m.ino line moved.blocks moved.linked between m.staging apart
      ∙ chain-set_same m.staging (with_map moved.rest moved.left (inode v m.staging)) moved.rest moved.left v
      (omega (arith, whole.maps.chain_count, may.staging.below))

  pub chain-other : (i : ℕ) → i ≢ m.ino → i ≢ m.staging → chain w i ≡ chain v i
  chain-other i other beside =
      ap (λ y. chain y i) is
      ∙ chain-set_other m.ino line moved.blocks moved.linked between i other
      ∙ chain-set_other m.staging (with_map moved.rest moved.left (inode v m.staging)) moved.rest moved.left v i beside

  -- ---- lines

  pub line-file : inode w m.ino ≡ with_map moved.blocks moved.linked (with_length m.size m.applied (inode v m.ino))
  line-file =
      ap (λ v. inode v m.ino) is
      ∙ inode-set_same m.ino line moved.blocks moved.linked between (omega (arith, counts.0, may.file.below))

  pub line-left : inode w m.staging ≡ with_map moved.rest moved.left (inode v m.staging)
  line-left =
      ap (λ v. inode v m.staging) is
      ∙ inode-set_other m.ino line moved.blocks moved.linked between m.staging apart
      ∙ inode-set_same m.staging (with_map moved.rest moved.left (inode v m.staging)) moved.rest moved.left v
      may.staging.below

  pub line-other : (i : ℕ) → i ≢ m.ino → i ≢ m.staging → inode w i ≡ inode v i
  line-other i other beside =
      ap (λ v. inode v i) is
      ∙ inode-set_other m.ino line moved.blocks moved.linked between i other
      ∙ inode-set_other m.staging (with_map moved.rest moved.left (inode v m.staging)) moved.rest moved.left v i beside

  -- what each keeps
  pub kind-same : (i : ℕ) → (inode w i).kind ≡ (inode v i).kind
  kind-same i = elim (cases_eq i m.ino) [
    | inl own ↦ ap (λ j. (inode w j).kind) own ∙ (ap (λ (x : Inode). x.kind) line-file ∙ ap (λ j. (inode v j).kind) (sym own))
    | inr other ↦ elim (cases_eq i m.staging) [
      | inl staging ↦ ap (λ j. (inode w j).kind) staging ∙ (ap (λ (x : Inode). x.kind) line-left ∙ ap (λ j. (inode v j).kind) (sym staging))
      | inr beside ↦ ap (λ (x : Inode). x.kind) (line-other i other beside)
    ]
  ]

  pub generation-same : (i : ℕ) → (inode w i).generation ≡ (inode v i).generation
  generation-same i = elim (cases_eq i m.ino) [
    | inl own ↦ ap (λ j. (inode w j).generation) own ∙ (ap (λ (x : Inode). x.generation) line-file ∙ ap (λ j. (inode v j).generation) (sym own))
    | inr other ↦ elim (cases_eq i m.staging) [
      | inl staging ↦ ap (λ j. (inode w j).generation) staging ∙ (ap (λ (x : Inode). x.generation) line-left ∙ ap (λ j. (inode v j).generation) (sym staging))
      | inr beside ↦ ap (λ (x : Inode). x.generation) (line-other i other beside)
    ]
  ]

  pub applied-other : (i : ℕ) → i ≢ m.ino → (inode w i).applied ≡ (inode v i).applied
  applied-other i other = elim (cases_eq i m.staging) [
    | inl staging ↦ ap (λ j. (inode w j).applied) staging ∙ (ap (λ (x : Inode). x.applied) line-left ∙ ap (λ j. (inode v j).applied) (sym staging))
    | inr beside ↦ ap (λ (x : Inode). x.applied) (line-other i other beside)
  ]

  pub size-other : (i : ℕ) → i ≢ m.ino → (inode w i).size ≡ (inode v i).size
  size-other i other = elim (cases_eq i m.staging) [
    | inl staging ↦ ap (λ j. (inode w j).size) staging ∙ (ap (λ (x : Inode). x.size) line-left ∙ ap (λ j. (inode v j).size) (sym staging))
    | inr beside ↦ ap (λ (x : Inode). x.size) (line-other i other beside)
  ]

  pub geometry-same : w.geometry ≡ v.geometry
  geometry-same = ap (λ v. v.geometry) is

  pub base-same : w.base ≡ v.base
  base-same = ap (λ v. v.base) is

  pub names-same : w.names ≡ v.names
  names-same = ap (λ v. v.names) is

  pub count-same : length w.inodes ≡ length v.inodes
  count-same = ap (λ v. length v.inodes) is ∙ (length-set between.inodes m.ino line ∙ counts.0)

  -- ---- how many blocks it takes

  source-below : AreBelow 64 (extents v m.staging)
  source-below i d within =
      let in_data = whole.kept.kept.in_data m.staging (omega (arith, may.staging.below, whole.kept.all.inode_count)) i d within in
      subst (λ kind. (get_or (extents v m.staging) i d).file + (get_or (extents v m.staging) i d).count ≤ file_blocks_of kind) may.staging.kind in_data.0

  -- a move is of 64 blocks at most
  few : m.count ≤ 64
  few =
      let some = may.some in
      let last = IsSome-value (disk_at (extents v m.staging) (m.staging_block + (m.count - 1))) (may.there (m.staging_block + (m.count - 1)) (omega arith) (omega (arith, some))) in
      omega (arith, some, mapped-below (extents v m.staging) 64 (m.staging_block + (m.count - 1)) last.0 source-below last.1)

  module _ (own : HasChain v m.ino) (source : HasChain v m.staging) where
    -- the chain of the file grows by one block at most
    pub file-grows : length moved.blocks ≤ length (chain v m.ino) + 1
    file-grows =
        omega (
          arith,
          moved.size,
          own.counted,
          chain-grows m.staging_block m.file_block m.count (extents v m.staging) (extents v m.ino) moved.left moved.linked displaced own.canonical moved.moves may.place few,
        )

    -- that of the staging file does not grow
    pub left-grows : length moved.rest ≤ length (chain v m.staging)
    left-grows =
        let both : length moved.blocks + length moved.rest ≡ chains_for (length moved.linked) + chains_for (length moved.left) = sym (length-append moved.blocks moved.rest) ∙ moved.taken.count in
        omega (
          arith,
          both,
          moved.size,
          source.counted,
          chain-shrinks (λ b. not (is_within m.staging_block m.count b)) (extents v m.staging) moved.left source.canonical source-below moved.moves.source,
        )
