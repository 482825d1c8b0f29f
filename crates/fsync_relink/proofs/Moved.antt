-- The lines, the maps and the chains of a volume after a move.
use Rattle.std.proofs.Common.{◌≡◌, ◌≢◌, ◌<◌, ◌≤◌, ◌+◌, ℕ, Bool, true, List, length, refl, sym, ◌∙◌, ap, subst, arith, inl, inr, get_or}
use Rattle.std.specs.Prelude.{All}
use Rattle.std.proofs.lemmas.Bool.{cases_eq}
use Rattle.std.proofs.lemmas.List.{length-set}
use Rattle.k_split.specs.block_io.pm_model.Words.{Words}
use Rattle.k_split.specs.block_io.block_counts.Counts.{chains_for}
use Rattle.k_split.specs.block_io.layout_model.Places.{Geometry, is_data_block}
use Rattle.k_split.specs.block_io.extent_model.declared.extent_words.Extent.{Extent}
use Rattle.k_split.specs.block_io.extent_model.Moves.{Moves}
use Rattle.k_split.specs.block_io.layout_model.declared.lines.Draft.{Draft}
use Rattle.k_split.specs.block_io.layout_model.declared.lines.Inode.{Inode}
use Rattle.k_split.specs.block_io.layout_model.declared.lines.Kind.{Kind}
use Rattle.k_split.specs.block_io.layout_model.declared.lines.Kind.TheVariants.{Staging}
use Rattle.k_split.specs.block_io.image_model.Reading.{Reads}
use Rattle.k_split.specs.block_io.image_model.Rules.{file_blocks_of, IsInData}
use Rattle.k_split.specs.block_io.image_model.Volume.{chain, extents, inode, Volume}
use Rattle.k_split.specs.block_io.k_split_model.MapChangesChanges.{IsMoved, with_length}
use Rattle.k_split.specs.block_io.k_split_model.Taken.{switched, with_map}
use Rattle.k_split.specs.volume_change_laws.volume_laws.ChainLaws.{length-blocks_from}
use Rattle.k_split.specs.volume_change_laws.volume_laws.Changes.{chain-set_other, extents-set_other, extents-set_same, inode-set_other, inode-set_same}
use Rattle.k_split.specs.volume_change_laws.Lengths.{chain-left, chain-linked}
use Rattle.k_split.specs.volume_change_laws.Shorts.{AreBelow}
use Rattle.log_laws.specs.world_write_laws.world_model.Stands.{IsSane}
use Rattle.log_laws.specs.world_write_laws.Relinks.{Relinks, SameLine}
use Rattle.log_laws.specs.world_write_laws.RoomLaws.{GrowsLittle}
use Rattle.fsync_relink.specs.Moves.{HasChains, move_for, NamesTwo}

module _ (free : ℕ → Bool) (d : Draft) (size : ℕ) (v w : Volume) (displaced : List Extent) (two : NamesTwo v d)
    (moved : IsMoved free (move_for d size) v w displaced) where
  -- the volume without the blocks that leave the staging file
  between : Volume
  between = switched d.staging (inode v d.staging) moved.rest moved.left v

  staging_apart : d.staging ≢ d.ino
  staging_apart same = two.apart (sym same)

  file-line : inode w d.ino ≡ with_map moved.blocks moved.linked (with_length size d.order (inode v d.ino))
  file-line =
      ap (λ y. inode y d.ino) moved.is_moved
      ∙ inode-set_same d.ino (with_map moved.blocks moved.linked (with_length size d.order (inode v d.ino))) moved.blocks moved.linked
      (switched d.staging (inode v d.staging) moved.rest moved.left v)
      (omega (arith, two.file, length-set v.inodes d.staging (with_map moved.rest moved.left (inode v d.staging))))

  staging-line : inode w d.staging ≡ with_map moved.rest moved.left (inode v d.staging)
  staging-line =
      ap (λ y. inode y d.staging) moved.is_moved
      ∙ inode-set_other d.ino (with_map moved.blocks moved.linked (with_length size d.order (inode v d.ino))) moved.blocks moved.linked
      (switched d.staging (inode v d.staging) moved.rest moved.left v) d.staging staging_apart
      ∙ inode-set_same d.staging (with_map moved.rest moved.left (inode v d.staging)) moved.rest moved.left v two.staging

  other-line : (i : ℕ) → i ≢ d.ino → i ≢ d.staging → inode w i ≡ inode v i
  other-line i no_file no_staging =
      ap (λ y. inode y i) moved.is_moved
      ∙ inode-set_other d.ino (with_map moved.blocks moved.linked (with_length size d.order (inode v d.ino))) moved.blocks moved.linked
      (switched d.staging (inode v d.staging) moved.rest moved.left v) i no_file
      ∙ inode-set_other d.staging (with_map moved.rest moved.left (inode v d.staging)) moved.rest moved.left v i no_staging

  other-map : (i : ℕ) → i ≢ d.ino → i ≢ d.staging → extents w i ≡ extents v i
  other-map i no_file no_staging =
      ap (λ y. extents y i) moved.is_moved
      ∙ extents-set_other d.ino (with_map moved.blocks moved.linked (with_length size d.order (inode v d.ino))) moved.blocks moved.linked
      (switched d.staging (inode v d.staging) moved.rest moved.left v) i no_file
      ∙ extents-set_other d.staging (with_map moved.rest moved.left (inode v d.staging)) moved.rest moved.left v i no_staging

  other-chain : (i : ℕ) → i ≢ d.ino → i ≢ d.staging → chain w i ≡ chain v i
  other-chain i no_file no_staging =
      ap (λ y. chain y i) moved.is_moved
      ∙ chain-set_other d.ino (with_map moved.blocks moved.linked (with_length size d.order (inode v d.ino))) moved.blocks moved.linked
      (switched d.staging (inode v d.staging) moved.rest moved.left v) i no_file
      ∙ chain-set_other d.staging (with_map moved.rest moved.left (inode v d.staging)) moved.rest moved.left v i no_staging

  pub sets-size : (inode w d.ino).size ≡ size
  sets-size = ap (λ (x : Inode). x.size) file-line

  module _ (sane : IsSane v) where
    file-map : extents w d.ino ≡ moved.linked
    file-map =
        ap (λ y. extents y d.ino) moved.is_moved
        ∙ extents-set_same d.ino (with_map moved.blocks moved.linked (with_length size d.order (inode v d.ino))) moved.blocks moved.linked
        (switched d.staging (inode v d.staging) moved.rest moved.left v)
        (omega (arith, two.file, sane.inode_count, sane.map_count, length-set v.maps d.staging moved.left))

    staging-map : extents w d.staging ≡ moved.left
    staging-map =
        ap (λ y. extents y d.staging) moved.is_moved
        ∙ extents-set_other d.ino (with_map moved.blocks moved.linked (with_length size d.order (inode v d.ino))) moved.blocks moved.linked
        (switched d.staging (inode v d.staging) moved.rest moved.left v) d.staging staging_apart
        ∙ extents-set_same d.staging (with_map moved.rest moved.left (inode v d.staging)) moved.rest moved.left v
        (omega (arith, two.staging, sane.inode_count, sane.map_count))

    same-line : (i : ℕ) → SameLine (inode v i) (inode w i)
    same-line i = elim (cases_eq i d.ino) [
      | inl is_file ↦ subst (λ n. SameLine (inode v n) (inode w n)) (sym is_file)
          (record { kind = ap (λ (x : Inode). x.kind) file-line; generation = ap (λ (x : Inode). x.generation) file-line })
      | inr no_file ↦ elim (cases_eq i d.staging) [
        | inl is_staging ↦ subst (λ n. SameLine (inode v n) (inode w n)) (sym is_staging)
            (record { kind = ap (λ (x : Inode). x.kind) staging-line; generation = ap (λ (x : Inode). x.generation) staging-line })
        | inr no_staging ↦
            record { kind = ap (λ (x : Inode). x.kind) (other-line i no_file no_staging); generation = ap (λ (x : Inode). x.generation) (other-line i no_file no_staging) }
      ]
    ]

    -- a number of a line that a map does not change
    same-number : (number : Inode → ℕ) → number (with_map moved.rest moved.left (inode v d.staging)) ≡ number (inode v d.staging)
        → (i : ℕ) → i ≢ d.ino → number (inode w i) ≡ number (inode v i)
    same-number number stays i no_file = elim (cases_eq i d.staging) [
      | inl is_staging ↦ ap (λ n. number (inode w n)) is_staging ∙ ap number staging-line ∙ stays ∙ sym (ap (λ n. number (inode v n)) is_staging)
      | inr no_staging ↦ ap number (other-line i no_file no_staging)
    ]

    pub moves-relink : IsSane w → Relinks v w d displaced
    moves-relink after = record {
      sane = after;
      names = ap (λ (y : Volume). y.names) moved.is_moved;
      geometry = ap (λ (y : Volume). y.geometry) moved.is_moved;
      same = same-line;
      applied = ap (λ (x : Inode). x.applied) file-line;
      applied_others = same-number (λ (x : Inode). x.applied) refl;
      size_others = same-number (λ (x : Inode). x.size) refl;
      moves = subst (λ es. Moves d.staging_block d.file_block d.count (extents v d.staging) (extents v d.ino) es (extents w d.ino) displaced) (sym staging-map)
          (subst (λ es. Moves d.staging_block d.file_block d.count (extents v d.staging) (extents v d.ino) moved.left es displaced) (sym file-map) moved.moves);
      maps = other-map;
    }

    -- a staging file has at most 64 blocks
    short : (inode v d.staging).kind ≡ Staging → AreBelow 64 (extents v d.staging)
    short staging k e below =
        let all : All (IsInData v.geometry (file_blocks_of Staging)) (extents v d.staging) =
        subst (λ (kind : Kind). All (IsInData v.geometry (file_blocks_of kind)) (extents v d.staging)) staging
        (sane.kept.in_data d.staging (omega (arith, two.staging, sane.inode_count)))
        in
        (all k e below).0

    counts : length w.inodes ≡ length v.inodes
    counts =
        ap (λ (y : Volume). length y.inodes) moved.is_moved
        ∙ length-set (switched d.staging (inode v d.staging) moved.rest moved.left v).inodes d.ino
        (with_map moved.blocks moved.linked (with_length size d.order (inode v d.ino)))
        ∙ length-set v.inodes d.staging (with_map moved.rest moved.left (inode v d.staging))

    pub grows-little : HasChains v → HasChains w → (inode v d.staging).kind ≡ Staging → d.count ≤ 64 → d.file_block + d.count ≤ 4096
        → GrowsLittle v w d
    grows-little old new staging few fits = record {
      file = omega (
        arith,
        old.full d.ino two.file,
        new.full d.ino (omega (arith, two.file, counts)),
        ap (λ (es : List Extent). chains_for (length es)) file-map,
        chain-linked d.staging_block d.file_block d.count (extents v d.staging) (extents v d.ino) moved.left moved.linked displaced
            (old.canonical d.ino two.file) moved.moves fits few,
      );
      staging = omega (
        arith,
        old.full d.staging two.staging,
        new.full d.staging (omega (arith, two.staging, counts)),
        ap (λ (es : List Extent). chains_for (length es)) staging-map,
        chain-left _ (extents v d.staging) moved.left (old.canonical d.staging two.staging) (short staging) moved.moves.source,
      );
      others = other-chain;
      before = old.in_data;
      after = new.in_data;
    }

pub reads-chains : (g : Geometry) (f : Words) (v : Volume) → Reads g f v → HasChains v
reads-chains g f v r = record {
  full = λ ino below.
      let is = r.chains ino (omega (arith, below, r.inode_count)) in
      ap length is.linked ∙ length-blocks_from f (inode v ino).root (chains_for (inode v ino).extents) ∙ ap chains_for (sym is.map.counted);
  canonical = λ ino below. (r.chains ino (omega (arith, below, r.inode_count))).map.canonical;
  in_data = λ ino below.
      subst (λ h. All (λ b. is_data_block h b ≡ true) (chain v ino)) (sym r.geometry) (r.blocks ino (omega (arith, below, r.inode_count)));
}
