-- What an image shows once the end of a file is cleaned, or a part of it.
use Rattle.std.specs.Prelude.{◌≡◌, ◌≤◌, ◌<◌, ℕ, zero, suc, ◌+◌, ◌*◌, ◌-◌, ◌/◌, ◌%◌, ◌^◌, true, List, [], ◌∷◌, length, replicate, Option, Some, None, refl}
use Rattle.std.proofs.Common.{arith, ap, ◌∙◌, sym, inl, inr}
use Rattle.std.proofs.lemmas.Bool.{cases_eq}
use Rattle.std.proofs.lemmas.List.{length-replicate}
use Rattle.std.proofs.lemmas.Option.{same_Some}
use Rattle.live_step_laws.specs.pm_model.Words.{byte_of, Words}
use Rattle.live_step_laws.specs.extent_model.Extents.{disk_at}
use Rattle.live_step_laws.specs.layout_model.Journal.{IsSound, journaled}
use Rattle.live_step_laws.specs.layout_model.PlaceLaws.{behind_log-words}
use Rattle.live_step_laws.specs.layout_model.Places.{Geometry, is_data_block}
use Rattle.live_step_laws.specs.image_model.Placed.{block_at, IsOutside}
use Rattle.live_step_laws.specs.image_model.Volume.{extents, Volume}
use Rattle.write_plan.specs.live_model.block_io.Overwrites.{IsBeside, IsBesideBlocks}
use Rattle.live_step_laws.specs.k_split_model.Stands.{IsOldOrNew}
use Rattle.write_plan.specs.live_model.k_split.Bytes.{IsWrittenOver, tail_zeros, zeros_behind}
use Rattle.live_step_laws.specs.volume_laws.ImageLaws.{journaled-other}
use Rattle.live_step_laws.specs.volume_laws.LineWords.{data_word, data_word-not_journaled}
use Rattle.live_step_laws.specs.volume_laws.OwnerLaws.{IsOnePlace, one_owner}
use Rattle.live_step_laws.specs.world_model.Lent.{in_data, once_named}
use Rattle.live_step_laws.specs.world_model.Stands.{IsSane}
use Rattle.live_step_laws.proofs.Words.{same_block}
use Rattle.in_place.proofs.CleansReading.{SameBefore}

-- the block that is written
abbrev pub tail_blocks : Option ℕ → List ℕ
tail_blocks None = []
tail_blocks (Some b) = b ∷ []

-- a byte of a data block is seen as it is
seen_byte : (g : Geometry) (h : Words) (b i : ℕ) → IsSound g h → is_data_block g b ≡ true → i < 4096 → byte_of (journaled h) (4096 * b + i) ≡ byte_of h (4096 * b + i)
seen_byte g h b i sound there below =
    let word : (4096 * b + i) / 8 ≡ 512 * b + i / 8 = omega arith in
    let low : i / 8 < 512 = omega (arith, below) in
    let behind = data_word g b (i / 8) there low in
    ap (λ (n : ℕ). n / 256 ^ ((4096 * b + i) % 8) % 256)
    (ap (journaled h) word ∙ journaled-other g h (512 * b + i / 8) sound (behind_log-words g (512 * b + i / 8) behind) (data_word-not_journaled g b (i / 8) there low) ∙ ap h (sym word))

-- of the range
tail_count : (o : Option ℕ) (from p : ℕ) → from ≤ p → p < from + length (zeros_behind o from) → (c : ℕ) × (o ≡ Some c) × (p / 4096 ≡ from / 4096)
tail_count None from p least most = absurd (omega (arith, least, most))
tail_count (Some c) from p least most = (c, refl, (let count : length (replicate (4096 - from % 4096) 0) ≡ 4096 - from % 4096 = length-replicate {A = ℕ} (4096 - from % 4096) 0 in omega (arith, least, most, count)))

module _ (v : Volume) (sane : IsSane v) (ino from : ℕ) (ino_below : ino < length v.inodes) where
  abbrev tail : Option ℕ
  tail = disk_at (extents v ino) (from / 4096)

  data_tail : (o : Option ℕ) → tail ≡ o → (k : ℕ) → k < length (tail_blocks o) → is_data_block v.geometry (block_at (tail_blocks o) k) ≡ true
  data_tail None is k below = absurd (omega (arith, below))
  data_tail (Some b) is zero below = in_data v sane ino (from / 4096) b ino_below is
  data_tail (Some b) is (suc k) below = absurd (omega (arith, below))

  pub in_data_tail : (k : ℕ) → k < length (tail_blocks tail) → is_data_block v.geometry (block_at (tail_blocks tail) k) ≡ true
  in_data_tail = data_tail tail refl

  outside_tail : (o : Option ℕ) → tail ≡ o → (i : ℕ) → IsOutside (tail_blocks o) i → IsBesideBlocks (extents v ino) from (length (zeros_behind o from)) i
  outside_tail None is i outside p b stands same = absurd (omega (arith, stands.from, stands.below))
  outside_tail (Some c) is i outside p b stands same =
      let range = tail_count (Some c) from p stands.from stands.below in
      let at : Some b ≡ Some c = sym stands.at ∙ (ap (disk_at (extents v ino)) range.2 ∙ is) in
      outside 0 (omega arith) (sym (same_Some b c at) ∙ sym same)

  pub old_or_new : (before image : Words) → IsWrittenOver v v ino from (tail_zeros v ino from) before image → IsOldOrNew v.geometry (tail_blocks tail) v v before image
  old_or_new before image over = record {
    reads = inl over.reads;
    others = λ i journal line outside. over.bytes_are.words i (outside_tail tail refl i outside);
    sound = over.sound;
  }

  -- each byte that the World reads is as it was
  pub same_before : (before image : Words) → IsSound v.geometry before → IsWrittenOver v v ino from (tail_zeros v ino from) before image → SameBefore v ino from (journaled before) (journaled image)
  same_before before image sound over = record {
    each = λ x block b i below at within early. by tail refl x block b i below at within early;
  } where
    by : (o : Option ℕ) → tail ≡ o → (x block b i : ℕ) → x < length v.inodes → disk_at (extents v x) block ≡ Some b → i < 4096 → (x ≡ ino → 4096 * block + i < from)
        → byte_of (journaled image) (4096 * b + i) ≡ byte_of (journaled before) (4096 * b + i)
    by None is x block b i below at within early =
        same_block v.geometry (tail_blocks tail) v v before image in_data_tail (old_or_new before image over) b i sound (in_data v sane x block b below at)
        (λ k k_below same. (let none : length (tail_blocks tail) ≡ 0 = ap (λ o. length (tail_blocks o)) is in absurd (omega (arith, k_below, none)))) within
    by (Some c) is x block b i below at within early = elim (cases_eq b c) [
      | inr other ↦
          same_block v.geometry (tail_blocks tail) v v before image in_data_tail (old_or_new before image over) b i sound (in_data v sane x block b below at)
          (λ k k_below same. other (sym same ∙ only k k_below)) within
      | inl own ↦ own_block own
    ] where
      only : (k : ℕ) → k < length (tail_blocks tail) → block_at (tail_blocks tail) k ≡ c
      only k k_below =
          let one : length (tail_blocks tail) ≡ 1 = ap (λ o. length (tail_blocks o)) is in
          let zeroth : k ≡ 0 = omega (arith, k_below, one) in
          ap (block_at (tail_blocks tail)) zeroth ∙ ap (λ o. block_at (tail_blocks o) 0) is

      beside : b ≡ c → i < from % 4096 → IsBeside (extents v ino) from (length (tail_zeros v ino from)) (4096 * b + i)
      beside own low p d stands same =
          let range = tail_count tail from p stands.from stands.below in
          let at_d : Some d ≡ Some c = sym stands.at ∙ (ap (disk_at (extents v ino)) range.2 ∙ is) in
          let disk : d ≡ c = same_Some d c at_d in
          omega (arith, same, disk, own, low, stands.from, range.2, within)

      own_block : b ≡ c → byte_of (journaled image) (4096 * b + i) ≡ byte_of (journaled before) (4096 * b + i)
      own_block own =
          let place : IsOnePlace x ino block (from / 4096) = one_owner v b x ino block (from / 4096) (once_named v sane x block b below at) below ino_below at (is ∙ ap Some (sym own)) in
          let first = early place.inode in
          let there = in_data v sane x block b below at in
          let low : i < from % 4096 = omega (arith, first, place.place, within) in
          seen_byte v.geometry image b i over.sound there within
          ∙ over.bytes_are.others (4096 * b + i) (beside own low)
          ∙ sym (seen_byte v.geometry before b i sound there within)
