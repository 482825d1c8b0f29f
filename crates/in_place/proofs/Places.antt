-- What an image shows once a block is zeroed from a place on, or a part of it.
use Rattle.std.specs.Prelude.{◌≡◌, ◌⊎◌, ◌≤◌, ◌<◌, ℕ, zero, suc, ◌+◌, ◌*◌, ◌-◌, ◌/◌, ◌%◌, ◌^◌, true, List, [], ◌∷◌, length, replicate, slice_index, Option, Some, None, refl}
use Rattle.std.proofs.Common.{arith, ap, ◌∙◌, sym, inl, inr}
use Rattle.std.proofs.lemmas.Bool.{cases_eq, cases_lt}
use Rattle.std.proofs.lemmas.List.{get_or-replicate, length-replicate}
use Rattle.std.proofs.lemmas.Option.{same_Some}
use Rattle.live_step_laws.specs.fsync_relink.pm_model.Words.{byte_of, Words}
use Rattle.live_step_laws.specs.fsync_relink.extent_model.Extents.{disk_at}
use Rattle.live_step_laws.specs.fsync_relink.layout_model.Journal.{IsSound, journaled}
use Rattle.live_step_laws.specs.fsync_relink.layout_model.PlaceLaws.{behind_log-words}
use Rattle.live_step_laws.specs.fsync_relink.layout_model.Places.{Geometry, is_data_block}
use Rattle.live_step_laws.specs.image_model.Placed.{block_at, IsOutside}
use Rattle.live_step_laws.specs.image_model.Volume.{extents, Volume}
use Rattle.live_step_laws.specs.fsync_relink.block_io.Overwrites.{IsBeside, IsBesideBlocks, IsOverwrittenWhole, StandsIn}
use Rattle.live_step_laws.specs.k_split_model.Stands.{IsOldOrNew}
use Rattle.live_step_laws.specs.fsync_relink.k_split.Bytes.{IsWrittenOver, tail_zeros, zeros_behind}
use Rattle.live_step_laws.specs.volume_laws.ImageLaws.{journaled-other}
use Rattle.live_step_laws.specs.volume_laws.LineWords.{data_word, data_word-not_journaled}
use Rattle.live_step_laws.specs.volume_laws.OwnerLaws.{IsOnePlace, one_owner}
use Rattle.live_step_laws.specs.world_model.Lent.{in_data, once_named}
use Rattle.live_step_laws.specs.world_model.Stands.{IsSane}
use Rattle.live_step_laws.proofs.Words.{same_block}
use Rattle.in_place.proofs.ZerosReading.{SameBut}

-- the block that is written
abbrev pub tail_blocks : Option ℕ → List ℕ
tail_blocks None = []
tail_blocks (Some b) = b ∷ []

-- a byte of a data block is seen as it is
pub seen_byte : (g : Geometry) (h : Words) (b i : ℕ) → IsSound g h → is_data_block g b ≡ true → i < 4096 → byte_of (journaled h) (4096 * b + i) ≡ byte_of h (4096 * b + i)
seen_byte g h b i sound there below =
    let word : (4096 * b + i) / 8 ≡ 512 * b + i / 8 = omega arith in
    let low : i / 8 < 512 = omega (arith, below) in
    let behind = data_word g b (i / 8) there low in
    ap (λ (n : ℕ). n / 256 ^ ((4096 * b + i) % 8) % 256)
    (ap (journaled h) word ∙ journaled-other g h (512 * b + i / 8) sound (behind_log-words g (512 * b + i / 8) behind) (data_word-not_journaled g b (i / 8) there low) ∙ ap h (sym word))

-- of the range
tail_count : (o : Option ℕ) (from p : ℕ) → from ≤ p → p < from + length (zeros_behind o from) → (c : ℕ) × (o ≡ Some c) × (p / 4096 ≡ from / 4096)
tail_count None from p least most = absurd (omega (arith, least, most))
tail_count (Some c) from p least most = (c, refl, (let count : length (replicate (4096 - from % 4096) 0) ≡ 4096 - from % 4096 = length-replicate {A = ℕ} (4096 - from % 4096) 0 in omega (arith, least, most, count)))

module _ (v : Volume) (sane : IsSane v) (x p : ℕ) (x_below : x < length v.inodes) where
  abbrev tail : Option ℕ
  tail = disk_at (extents v x) (p / 4096)

  data_tail : (o : Option ℕ) → tail ≡ o → (k : ℕ) → k < length (tail_blocks o) → is_data_block v.geometry (block_at (tail_blocks o) k) ≡ true
  data_tail None is k below = absurd (omega (arith, below))
  data_tail (Some b) is zero below = in_data v sane x (p / 4096) b x_below is
  data_tail (Some b) is (suc k) below = absurd (omega (arith, below))

  pub in_data_tail : (k : ℕ) → k < length (tail_blocks tail) → is_data_block v.geometry (block_at (tail_blocks tail) k) ≡ true
  in_data_tail = data_tail tail refl

  outside_tail : (o : Option ℕ) → tail ≡ o → (i : ℕ) → IsOutside (tail_blocks o) i → IsBesideBlocks (extents v x) p (length (zeros_behind o p)) i
  outside_tail None is i outside q b stands same = absurd (omega (arith, stands.from, stands.below))
  outside_tail (Some c) is i outside q b stands same =
      let range = tail_count (Some c) p q stands.from stands.below in
      let at : Some b ≡ Some c = sym stands.at ∙ (ap (disk_at (extents v x)) range.2 ∙ is) in
      outside 0 (omega arith) (sym (same_Some b c at) ∙ sym same)

  pub old_or_new : (before image : Words) → IsWrittenOver v v x p (tail_zeros v x p) before image → IsOldOrNew v.geometry (tail_blocks tail) v v before image
  old_or_new before image over = record {
    reads = inl over.reads;
    others = λ i journal line outside. over.bytes_are.words i (outside_tail tail refl i outside);
    sound = over.sound;
  }

  -- each byte that a map has is as it was, but those of the range
  pub same_but : (before image : Words) → IsSound v.geometry before → IsWrittenOver v v x p (tail_zeros v x p) before image → SameBut v x (p / 4096) (p % 4096) (journaled before) (journaled image)
  same_but before image sound over = record {
    each = λ n m b i below at within early. by tail refl n m b i below at within early;
  } where
    by : (o : Option ℕ) → tail ≡ o → (n m b i : ℕ) → n < length v.inodes → disk_at (extents v n) m ≡ Some b → i < 4096 → (n ≡ x → m ≡ p / 4096 → i < p % 4096)
        → byte_of (journaled image) (4096 * b + i) ≡ byte_of (journaled before) (4096 * b + i)
    by None is n m b i below at within early =
        same_block v.geometry (tail_blocks tail) v v before image in_data_tail (old_or_new before image over) b i sound (in_data v sane n m b below at)
        (λ k k_below same. (let none : length (tail_blocks tail) ≡ 0 = ap (λ o. length (tail_blocks o)) is in absurd (omega (arith, k_below, none)))) within
    by (Some c) is n m b i below at within early = elim (cases_eq b c) [
      | inr other ↦
          same_block v.geometry (tail_blocks tail) v v before image in_data_tail (old_or_new before image over) b i sound (in_data v sane n m b below at)
          (λ k k_below same. other (sym same ∙ only k k_below)) within
      | inl own ↦ own_block own
    ] where
      only : (k : ℕ) → k < length (tail_blocks tail) → block_at (tail_blocks tail) k ≡ c
      only k k_below =
          let one : length (tail_blocks tail) ≡ 1 = ap (λ o. length (tail_blocks o)) is in
          let zeroth : k ≡ 0 = omega (arith, k_below, one) in
          ap (block_at (tail_blocks tail)) zeroth ∙ ap (λ o. block_at (tail_blocks o) 0) is

      beside : b ≡ c → i < p % 4096 → IsBeside (extents v x) p (length (tail_zeros v x p)) (4096 * b + i)
      beside own low q d stands same =
          let range = tail_count tail p q stands.from stands.below in
          let at_d : Some d ≡ Some c = sym stands.at ∙ (ap (disk_at (extents v x)) range.2 ∙ is) in
          let disk : d ≡ c = same_Some d c at_d in
          omega (arith, same, disk, own, low, stands.from, range.2, within)

      own_block : b ≡ c → byte_of (journaled image) (4096 * b + i) ≡ byte_of (journaled before) (4096 * b + i)
      own_block own =
          let place : IsOnePlace n x m (p / 4096) = one_owner v b n x m (p / 4096) (once_named v sane n m b below at) below x_below at (is ∙ ap Some (sym own)) in
          let low = early place.inode place.place in
          let there = in_data v sane n m b below at in
          seen_byte v.geometry image b i over.sound there within
          ∙ over.bytes_are.others (4096 * b + i) (beside own low)
          ∙ sym (seen_byte v.geometry before b i sound there within)

  -- ---- after the whole of it

  -- each byte of the range is zero,
  pub zero_at : (before image : Words) (b i : ℕ) → IsSound v.geometry image → is_data_block v.geometry b ≡ true → i < 4096
      → IsOverwrittenWhole (extents v x) p (tail_zeros v x p) before image → tail ≡ Some b → p % 4096 ≤ i → byte_of (journaled image) (4096 * b + i) ≡ 0
  zero_at before image b i sound there within whole at high =
      let place : (4096 * (p / 4096) + i) / 4096 ≡ p / 4096 = omega (arith, within) in
      let low : (4096 * (p / 4096) + i) % 4096 ≡ i = omega (arith, within) in
      let count : length (tail_zeros v x p) ≡ 4096 - p % 4096 = ap (λ o. length (zeros_behind o p)) at ∙ length-replicate {A = ℕ} (4096 - p % 4096) 0 in
      let stands : StandsIn (extents v x) p (length (tail_zeros v x p)) (4096 * (p / 4096) + i) b =
      record { from = omega (arith, high); below = omega (arith, count, within, high); at = ap (disk_at (extents v x)) place ∙ at } in
      let zeros : slice_index (tail_zeros v x p) (4096 * (p / 4096) + i - p) ≡ 0 = ap (λ o. slice_index (zeros_behind o p) (4096 * (p / 4096) + i - p)) at ∙ get_or-replicate (4096 - p % 4096) (4096 * (p / 4096) + i - p) 0 0 (omega (arith, within, high)) in
      seen_byte v.geometry image b i sound there within ∙ ap (λ n. byte_of image (4096 * b + n)) (sym low) ∙ whole.each (4096 * (p / 4096) + i) b stands ∙ zeros

  -- and each byte of a disk block is as it was, or zero.
  pub same_or_zero : (before image : Words) (b i : ℕ) → IsSound v.geometry before → IsSound v.geometry image → is_data_block v.geometry b ≡ true → i < 4096
      → IsOverwrittenWhole (extents v x) p (tail_zeros v x p) before image
      → (byte_of (journaled image) (4096 * b + i) ≡ byte_of (journaled before) (4096 * b + i)) ⊎ (byte_of (journaled image) (4096 * b + i) ≡ 0)
  same_or_zero before image b i sound sound_then there within whole = by tail refl where
    same : IsBeside (extents v x) p (length (tail_zeros v x p)) (4096 * b + i) → byte_of (journaled image) (4096 * b + i) ≡ byte_of (journaled before) (4096 * b + i)
    same beside =
        seen_byte v.geometry image b i sound_then there within ∙ whole.others (4096 * b + i) beside ∙ sym (seen_byte v.geometry before b i sound there within)

    by : (o : Option ℕ) → tail ≡ o → (byte_of (journaled image) (4096 * b + i) ≡ byte_of (journaled before) (4096 * b + i)) ⊎ (byte_of (journaled image) (4096 * b + i) ≡ 0)
    by None is = inl (same (λ q d stands e. (
        let range = tail_count tail p q stands.from stands.below in
        let never : None ≡ Some range.0 = sym is ∙ range.1 in
        cc)))
    by (Some c) is = elim (cases_eq b c) [
      | inr other ↦ inl (same (λ q d stands e. (
          let range = tail_count tail p q stands.from stands.below in
          let at_d : Some d ≡ Some c = sym stands.at ∙ (ap (disk_at (extents v x)) range.2 ∙ is) in
          let disk : d ≡ c = same_Some d c at_d in
          other (omega (arith, e, disk, within)))))
      | inl own ↦ elim (cases_lt i (p % 4096)) [
        | inl low ↦ inl (same (λ q d stands e. (
            let range = tail_count tail p q stands.from stands.below in
            let at_d : Some d ≡ Some c = sym stands.at ∙ (ap (disk_at (extents v x)) range.2 ∙ is) in
            let disk : d ≡ c = same_Some d c at_d in
            omega (arith, e, disk, own, low, stands.from, range.2, within))))
        | inr high ↦ inr (zero_at before image b i sound_then there within whole (is ∙ ap Some (sym own)) high)
      ]
    ]
