-- The bytes of a file beside those of a write, in the blocks of the write.
use Rattle.std.specs.Prelude.{◌≡◌, ◌⊎◌, ◌≤◌, ◌<◌, ◌+◌, ◌-◌, ◌*◌, ◌/◌, ◌%◌, ℕ, List, drop, length, slice_index, refl}
use Rattle.std.proofs.Common.{arith, ap, ◌∙◌, sym, inl, inr}
use Rattle.std.proofs.lemmas.Bool.{cases_lt}
use Rattle.std.proofs.lemmas.Grind.{same_number_lists}
use Rattle.std.proofs.lemmas.List.{get_or-drop, get_or_past, length-drop}
use Rattle.std.proofs.lemmas.List.FromFn.{get_or-map-range_with_len, length-map-range_with_len}
use Rattle.layout_model.specs.pm_model.Images.{words_of}
use Rattle.layout_model.specs.pm_model.Words.{Words}
use Rattle.live_model.specs.data_route.Reads.{read_len}
use Rattle.live_model.specs.image_model.Content.{byte_in}
use Rattle.live_model.specs.image_model.Volume.{Volume}
use Rattle.file_overlay.specs.declared.runs.Run.{Run}
use Rattle.live_model.specs.file_reads.Reads.{block_in, bytes_in}
use Rattle.file_table.specs.Files.{Files, runs_in, size_in}
use Rattle.live_model.specs.k_split_model.View.{View}
use Rattle.live_model.specs.write_jobs.Contents.{framed_bytes, staged_bytes}
use Rattle.live_model.proofs.write_jobs_proofs.Framed.{framed_old}
use Rattle.write_plan.specs.Words.{old_in, staged_in}

module _ (v : Volume) (w : Words) (runs : List Run) (ino size : ℕ) where
  abbrev byte : ℕ → ℕ
  byte i = byte_in w (block_in v runs ino (i / 4096)) i

  abbrev read : ℕ → ℕ → List ℕ
  read first count = bytes_in v w runs ino first (read_len size first count)

  read_length : (first n : ℕ) → length (read first n) ≡ read_len size first n
  read_length first n = length-map-range_with_len byte first (read_len size first n)

  read_at : (first n i : ℕ) → i < read_len size first n → slice_index (read first n) i ≡ byte (first + i)
  read_at first n i below = get_or-map-range_with_len byte first (read_len size first n) i (first + i) 0 below refl

  -- what is read up to a place is the same, however far the rest goes
  pub read_front : (first m n i : ℕ) → m ≤ n → i < m → slice_index (read first m) i ≡ slice_index (read first n) i
  read_front first m n i few low = by (cases_lt i (size - first)) where
    by : (i < size - first) ⊎ (size - first ≤ i) → slice_index (read first m) i ≡ slice_index (read first n) i
    by (inl there) = read_at first m i (omega (arith, low, there)) ∙ sym (read_at first n i (omega (arith, few, low, there)))
    by (inr past) =
        get_or_past (read first m) i 0 (let size_is = read_length first m in omega (arith, size_is, past))
        ∙ sym (get_or_past (read first n) i 0 (let size_is = read_length first n in omega (arith, size_is, past)))

  -- and what is read from a place on is the rest
  pub read_back : (first p n : ℕ) → p ≤ n → read (first + p) (n - p) ≡ drop p (read first n)
  read_back first p n few =
      same_number_lists (read (first + p) (n - p)) (drop p (read first n)) same_length (λ i within.
      let low : i < read_len size (first + p) (n - p) = (let size_is = read_length (first + p) (n - p) in omega (arith, size_is, within)) in
      let place : first + p + i ≡ first + (p + i) = omega arith in
      read_at (first + p) (n - p) i low
      ∙ ap byte place
      ∙ sym (read_at first n (p + i) (omega (arith, low, few)))
      ∙ sym (get_or-drop p (read first n) i 0))
    where
      same_length : length (read (first + p) (n - p)) ≡ length (drop p (read first n))
      same_length = omega (arith, read_length (first + p) (n - p), read_length first n, length-drop p (read first n), few)

-- New bytes between these are what the blocks are to hold.
pub framed_in : (k : View) (files : Files) (ino start count : ℕ) (new front back : List ℕ) → start + length new ≤ 4096 * (start / 4096 + count)
    → front ≡ bytes_in k.volume (words_of k.cells) (runs_in files ino) ino (start - start % 4096) (read_len (size_in files ino) (start - start % 4096) (start % 4096))
    → back ≡ bytes_in k.volume (words_of k.cells) (runs_in files ino) ino (start + length new) (read_len (size_in files ino) (start + length new) (4096 * count - start % 4096 - length new))
    → framed_bytes front (start % 4096) new back count ≡ staged_in k files ino start count new
framed_in k files ino start count new front back fits front_is back_is =
    framed_old (old_in k files ino start count) front new back (start % 4096) count before behind
    ∙ ap (λ n. staged_bytes (old_in k files ino start count) n new count) place
  where
    low : start - start % 4096 ≡ 4096 * (start / 4096)
    low = omega arith

    place : start % 4096 ≡ start - 4096 * (start / 4096)
    place = omega arith

    over : start + length new ≡ 4096 * (start / 4096) + (start % 4096 + length new)
    over = omega arith

    rest : 4096 * count - start % 4096 - length new ≡ 4096 * count - (start % 4096 + length new)
    rest = omega arith

    few : start % 4096 + length new ≤ 4096 * count
    few = omega (arith, fits)

    before : (i : ℕ) → i < start % 4096 → slice_index front i ≡ slice_index (old_in k files ino start count) i
    before i is =
        ap (λ (xs : List ℕ). slice_index xs i) (front_is ∙ ap (λ a. read k.volume (words_of k.cells) (runs_in files ino) ino (size_in files ino) a (start % 4096)) low)
        ∙ read_front k.volume (words_of k.cells) (runs_in files ino) ino (size_in files ino) (4096 * (start / 4096)) (start % 4096) (4096 * count) i (omega (arith, few)) is

    behind : back ≡ drop (start % 4096 + length new) (old_in k files ino start count)
    behind =
        back_is
        ∙ (λ i. read k.volume (words_of k.cells) (runs_in files ino) ino (size_in files ino) (over i) (rest i))
        ∙ read_back k.volume (words_of k.cells) (runs_in files ino) ino (size_in files ino) (4096 * (start / 4096)) (start % 4096 + length new) (4096 * count) few
