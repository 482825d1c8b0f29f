-- Behind the clean end of a file each image has zeros.
use Rattle.std.specs.Prelude.{◌≡◌, ◌⊎◌, ◌≤◌, ◌<◌, ◌+◌, ◌-◌, ◌*◌, ◌/◌, ◌%◌, ◌^◌, ℕ, true, List, length, replicate, Option, Some, None, slice_index, refl}
use Rattle.std.proofs.Common.{arith, ap, ◌∙◌, sym, subst, inl, inr}
use Rattle.std.proofs.lemmas.Bool.{cases_eq}
use Rattle.std.proofs.lemmas.List.{get_or-replicate, length-replicate}
use Rattle.file_calls.specs.live_step_laws.block_counts.Counts.{blocks_for}
use Rattle.file_calls.specs.live_step_laws.block_io.Overwrites.{IsOverwrittenWhole}
use Rattle.file_calls.specs.live_step_laws.pm_model.ImageLaws.{IsImage-words_of}
use Rattle.file_calls.specs.live_step_laws.pm_model.Images.{words_of}
use Rattle.file_calls.specs.live_step_laws.pm_model.Words.{byte_of, Words}
use Rattle.file_calls.specs.live_step_laws.layout_model.Journal.{IsSound, journaled}
use Rattle.file_calls.specs.live_step_laws.layout_model.PlaceLaws.{behind_log-words}
use Rattle.file_calls.specs.live_step_laws.layout_model.Places.{Geometry, is_data_block}
use Rattle.file_calls.specs.eof_laws.image_model.Content.{byte_in}
use Rattle.file_calls.specs.eof_laws.image_model.Volume.{extents, Volume}
use Rattle.file_calls.specs.live_step_laws.extent_model.Extents.{disk_at}
use Rattle.file_calls.specs.eof_laws.file_table.Files.{size_in}
use Rattle.file_calls.specs.eof_laws.volume_laws.ImageLaws.{journaled-other}
use Rattle.file_calls.specs.eof_laws.volume_laws.LineWords.{data_word, data_word-not_journaled}
use Rattle.file_calls.specs.live_step_laws.live_model.k_split.Bytes.{tail_zeros, zeros_behind}
use Rattle.file_calls.specs.live_step_laws.live_model.world_model.Lent.{in_data}
use Rattle.file_calls.specs.live_step_laws.live_model.world_model.TreeRules.{used_below}
use Rattle.file_calls.specs.live_step_laws.live_model.world_model.Stands.{is_used, IsSane}
use Rattle.file_truncate.specs.Sizes.{AreZeros, CleansBehind}

-- a byte of a data block is seen as it is
seen_byte : (g : Geometry) (f : Words) (b i : ℕ) → IsSound g f → is_data_block g b ≡ true → i < 4096 → byte_of (journaled f) (4096 * b + i) ≡ byte_of f (4096 * b + i)
seen_byte g f b i sound there below =
    let word : (4096 * b + i) / 8 ≡ 512 * b + i / 8 = omega arith in
    let low : i / 8 < 512 = omega (arith, below) in
    let behind = data_word g b (i / 8) there low in
    ap (λ (n : ℕ). n / 256 ^ ((4096 * b + i) % 8) % 256)
    (ap (journaled f) word ∙ journaled-other g f (512 * b + i / 8) sound (behind_log-words g (512 * b + i / 8) behind) (data_word-not_journaled g b (i / 8) there low) ∙ ap f (sym word))

-- a later block than that of a place is one of those behind it
later_block : (from i : ℕ) → from ≤ i → (i / 4096 ≡ from / 4096) ⊎ (blocks_for from ≤ i / 4096)
later_block from i least = elim (cases_eq (i / 4096) (from / 4096)) [
  | inl own ↦ inl own
  | inr other ↦ inr (omega (arith, least, other))
]

module _ (v : Volume) (sane : IsSane v) (ino from : ℕ) (below : ino < length v.inodes) (ends : (block : ℕ) → blocks_for from ≤ block → disk_at (extents v ino) block ≡ None) (before image : Words) (sound : IsSound v.geometry image)
    (clean : IsOverwrittenWhole (extents v ino) from (tail_zeros v ino from) before image) where
  abbrev tail : Option ℕ
  tail = disk_at (extents v ino) (from / 4096)

  zero_at : (b i : ℕ) → disk_at (extents v ino) (from / 4096) ≡ Some b → from ≤ i → i / 4096 ≡ from / 4096 → byte_of (journaled image) (4096 * b + i % 4096) ≡ 0
  zero_at b i at least own =
      let zeros : tail_zeros v ino from ≡ replicate (4096 - from % 4096) 0 = ap (λ o. zeros_behind o from) at in
      let count : length (tail_zeros v ino from) ≡ 4096 - from % 4096 = ap (λ (xs : List ℕ). length xs) zeros ∙ length-replicate {A = ℕ} (4096 - from % 4096) 0 in
      let short : i < from + length (tail_zeros v ino from) = omega (arith, count, own, least) in
      seen_byte v.geometry image b (i % 4096) sound (in_data v sane ino (from / 4096) b below at) (omega arith)
      ∙ (clean.each i b (record { from = least; below = short; at = ap (disk_at (extents v ino)) own ∙ at })
      ∙ (ap (λ (xs : List ℕ). slice_index xs (i - from)) zeros ∙ get_or-replicate (4096 - from % 4096) (i - from) 0 0 (omega (arith, short, count, least))))

  pub zeros_there : (to : ℕ) → AreZeros v ino from to (journaled image)
  zeros_there to i least most = by (later_block from i least) where
    in_tail : (o : Option ℕ) → disk_at (extents v ino) (from / 4096) ≡ o → i / 4096 ≡ from / 4096 → byte_in (journaled image) o i ≡ 0
    in_tail None at own = refl
    in_tail (Some b) at own = zero_at b i at least own

    by : (i / 4096 ≡ from / 4096) ⊎ (blocks_for from ≤ i / 4096) → byte_in (journaled image) (disk_at (extents v ino) (i / 4096)) i ≡ 0
    by (inl own) = ap (λ b. byte_in (journaled image) (disk_at (extents v ino) b) i) own ∙ in_tail (disk_at (extents v ino) (from / 4096)) refl own
    by (inr later) = ap (λ o. byte_in (journaled image) o i) (ends (i / 4096) later)

pub cleans_behind : CleansBehind
cleans_behind g k l t kept lines n s ino to stands file ends done image is =
    let from_one = done.whole image is in
    let world = stands.flying.device.world (words_of k.cells) (IsImage-words_of k.cells) in
    let sound : IsSound k.volume.geometry image = subst (λ u. IsSound u.geometry image) (stands.order.settled stands.unbatched) (done.over.each_image image is).2.sound in
    subst (λ (u : Volume). AreZeros u ino (size_in kept.files ino) to (journaled image)) (sym (ap (λ y. y.volume) done.same))
    (zeros_there k.volume world.valid.stands.sane ino (size_in kept.files ino) (used_below k.volume ino (ap is_used file)) (λ block behind. ends.maps ino block file behind) from_one.0 image sound from_one.2 to)
