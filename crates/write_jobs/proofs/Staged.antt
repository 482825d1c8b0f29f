-- What the blocks of a write are to hold.
use Rattle.std.specs.Prelude.{◌≡◌, ◌<◌, ◌+◌, ◌-◌, ◌*◌, ◌/◌, ◌%◌, ◌^◌, ℕ, true, cond, nat_lt, List, length, drop, slice_index}
use Rattle.std.proofs.Common.{arith, ap, ◌∙◌, sym}
use Rattle.std.proofs.lemmas.Bool.Decides.{nat_tests}
use Rattle.std.proofs.lemmas.List.{get_or-drop, get_or-take}
use Rattle.world_image_laws.specs.posix_tables.Bytes.{bytes_from, overwritten}
use Rattle.write_jobs.specs.Contents.{staged_bytes}
use Rattle.write_jobs.specs.Laws.{SpellsWhole, StagesWhole}
use Rattle.write_jobs.proofs.Bytes.{index-overwritten, index-resized, length-resized}

below : (i n : ℕ) → i < n → nat_lt i n ≡ true
below i n is = grind (arith, nat_tests)

same_test : (i n at start : ℕ) → (i < at → n < start) → (n < start → i < at) → nat_lt i at ≡ nat_lt n start
same_test i n at start on back = grind (arith, nat_tests, on, back)

pub stages_whole : StagesWhole
stages_whole file new start first count i before behind within =
    index-resized (overwritten old at new) (4096 * count) i
    ∙ ap (λ c. cond c (slice_index (overwritten old at new) i) 0) (below i (4096 * count) within)
    ∙ index-overwritten old at new i
    ∙ (λ k. cond (front k) (read k) (cond (middle k) (slice_index new (place k)) (read k)))
    ∙ sym (index-overwritten file start new (4096 * first + i)) where
      old : List ℕ
      old = bytes_from file (4096 * first) (4096 * count)

      at : ℕ
      at = start - 4096 * first

      read : slice_index old i ≡ slice_index file (4096 * first + i)
      read = get_or-take (4096 * count) (drop (4096 * first) file) i 0 within ∙ get_or-drop (4096 * first) file i 0

      front : nat_lt i at ≡ nat_lt (4096 * first + i) start
      front = same_test i (4096 * first + i) at start (λ is. omega (arith, is, before)) (λ is. omega (arith, is, before))

      middle : nat_lt i (at + length new) ≡ nat_lt (4096 * first + i) (start + length new)
      middle = same_test i (4096 * first + i) (at + length new) (start + length new) (λ is. omega (arith, is, before)) (λ is. omega (arith, is, before))

      place : i - at ≡ 4096 * first + i - start
      place = omega (arith, before)

pub spells_whole : SpellsWhole
spells_whole draft words file new start before behind spell k i below_k within =
    let whole = staged_bytes (bytes_from file (4096 * draft.file_block) (4096 * draft.count)) (start - 4096 * draft.file_block) new draft.count in
    let at : ℕ = 4096 * k + i in
    let size : length whole ≡ 4096 * draft.count = length-resized (overwritten (bytes_from file (4096 * draft.file_block) (4096 * draft.count)) (start - 4096 * draft.file_block) new) (4096 * draft.count) in
    let inside : at < 4096 * draft.count = omega (arith, below_k, within) in
    let word : at / 8 ≡ 512 * k + i / 8 = omega arith in
    let byte : at % 8 ≡ i % 8 = omega arith in
    let place : 4096 * draft.file_block + at ≡ 4096 * (draft.file_block + k) + i = omega arith in
    sym (λ n. slice_index words (word n) / 256 ^ (byte n) % 256) ∙ spell.each at (omega (arith, inside, size))
    ∙ stages_whole file new start draft.file_block draft.count at before behind inside
    ∙ ap (slice_index (overwritten file start new)) place
