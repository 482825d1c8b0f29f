-- What a change that writes spare blocks leaves of what an image shows: the head, the log, and the bytes of the blocks that maps have.
use Rattle.live_model.specs.image_model.Placed.{block_at}
use Rattle.live_model.specs.image_model.Reading.{Reads}
use Rattle.live_model.specs.image_model.Volume.{Volume}
use Rattle.live_model.specs.k_split_model.Stands.{IsOldOrNew}
use Rattle.live_model.specs.layout_model.Journal.{IsSound, journaled}
use Rattle.live_model.specs.layout_model.Places.{Geometry, first_data, is_data_block, log_line}
use Rattle.live_model.specs.pm_model.Words.{Words, line_bytes}
use Rattle.live_model.specs.world_image_laws.Images.{IsHeaded}
use Rattle.live_model.specs.world_image_laws.image_laws.ViewLaws.{head_word, sound-targets}
use Rattle.live_model.specs.world_image_laws.pm_model.Words.{byte_of}
use Rattle.std.proofs.Common.{ap, arith, inl, inr, subst, sym, ◌∙◌}
use Rattle.std.proofs.lemmas.Bool.Decides.{nat_tests}
use Rattle.std.specs.Prelude.{List, false, length, true, ℕ, ◌%◌, ◌*◌, ◌+◌, ◌/◌, ◌<◌, ◌^◌, ◌≡◌, ◌≢◌, ◌≤◌, ◌⊎◌}
use Rattle.world_write_laws.specs.image_model.Placed.{IsOutside}
use Rattle.world_write_laws.specs.image_model.Rules.{HasTarget, geometry_of}
use Rattle.world_write_laws.specs.layout_model.Journal.{is_journal_word}
use Rattle.world_write_laws.specs.layout_model.PlaceLaws.{behind_log-not_journaled}
use Rattle.world_write_laws.specs.layout_model.Places.{base_word, commit_word, log_block, state_line}
use Rattle.world_write_laws.specs.layout_model.Superblock.{geometry_at, has_magic, has_numbers, has_version}
use Rattle.world_write_laws.specs.pm_model.Bytes.{line_bytes-same}
use Rattle.world_write_laws.specs.volume_laws.Footprint.{SameLog}
use Rattle.world_write_laws.specs.volume_laws.ImageLaws.{journaled-other}
use Rattle.world_write_laws.specs.volume_laws.LineWords.{data_word}

-- ---- places

pub behind_journal : (g : Geometry) (i : ℕ) → 512 * log_block g ≤ i → is_journal_word i ≡ false
behind_journal g i behind = grind (arith, nat_tests, behind)

data_least : (g : Geometry) (b : ℕ) → is_data_block g b ≡ true → first_data g ≤ b
data_least g b is = grind (arith, nat_tests)

-- words before the data blocks are in none of them
low_outside : (g : Geometry) (blocks : List ℕ) (i : ℕ) → ((k : ℕ) → k < length blocks → is_data_block g (block_at blocks k) ≡ true) → i / 512 < first_data g → IsOutside blocks i
low_outside g blocks i in_data low k below same = let least = data_least g (block_at blocks k) (in_data k below) in absurd (omega (arith, least, low, same))

head_low : (g : Geometry) (i : ℕ) → i < 512 → i / 512 < first_data g
head_low g i below = grind arith

log_low : (g : Geometry) (slot i : ℕ) → slot < g.log → i / 8 ≡ log_line g slot → i / 512 < first_data g
log_low g slot i below at = grind arith

module _ (g : Geometry) (blocks : List ℕ) (v w : Volume) (before image : Words) (in_data : (k : ℕ) → k < length blocks → is_data_block g (block_at blocks k) ≡ true) (is : IsOldOrNew g blocks v w before image) where
  -- A word outside the journal, the journaled lines and the blocks is the same, and is seen the same.
  same_seen : (i : ℕ) → IsSound g before → 512 * log_block g ≤ i → IsOutside blocks i → journaled image i ≡ journaled before i
  same_seen i sound behind outside =
      let journal = behind_journal g i behind in
      let line = behind_log-not_journaled g (i / 8) (omega (arith, behind)) in
      journaled-other g image i is.sound journal line ∙ (is.others i journal line outside ∙ sym (journaled-other g before i sound journal line))

  -- the log is the same
  pub same_log : IsSound g before → SameLog g (journaled before) (journaled image)
  same_log sound = record { words = λ slot i below at. same_seen i sound (omega (arith, at)) (low_outside g blocks i in_data (log_low g slot i below at)) }

  -- a data block that is none of these is the same
  pub same_block : (b i : ℕ) → IsSound g before → is_data_block g b ≡ true → ((k : ℕ) → k < length blocks → block_at blocks k ≢ b) → i < 4096 → byte_of (journaled image) (4096 * b + i) ≡ byte_of (journaled before) (4096 * b + i)
  same_block b i sound data_is apart below =
      let word : (4096 * b + i) / 8 ≡ 512 * b + i / 8 = omega arith in
      let block : (4096 * b + i) / 8 / 512 ≡ b = omega (arith, word, below) in
      ap (λ (n : ℕ). n / 256 ^ ((4096 * b + i) % 8) % 256)
      (same_seen ((4096 * b + i) / 8) sound (omega (arith, word, data_word g b (i / 8) data_is (omega (arith, below)))) (λ k k_below same. apart k k_below (same ∙ block)))

  -- ---- the head

  zeros_read : Reads g (journaled image) v ⊎ Reads g (journaled image) w → (i : ℕ) → base_word < i → i < base_word + 8 → journaled image i ≡ 0
  zeros_read (inl old) i from below = old.state i from below
  zeros_read (inr new) i from below = new.state i from below

  -- whatever the log base is then, in its range
  pub headed_based : IsHeaded g before → 1 ≤ journaled image base_word → journaled image base_word ≤ 2 ^ 63 → IsHeaded g image
  headed_based headed least most = record {
    head = record {
      whole_blocks = headed.head.whole_blocks;
      magic = ap has_magic line ∙ headed.head.magic;
      version = ap has_version line ∙ headed.head.version;
      numbers = record {
        numbers = ap has_numbers line ∙ headed.head.numbers.numbers;
        whole = headed.head.numbers.whole ∙ ap (λ (k : Geometry). 4096 * k.blocks) (sym same);
        state = zeros_read is.reads;
        others = λ i from below commit state. first_word i below commit state ∙ headed.head.numbers.others i from below commit state;
      };
      records = λ r below. subst (λ k. HasTarget k image r) (sym (same ∙ headed.geometry)) (sound-targets g image r is.sound);
      state = record { count = is.sound.count; least_base = least; most_base = most };
    };
    geometry = same ∙ headed.geometry;
  } where
    first_word : (i : ℕ) → i < 512 → i ≢ commit_word → i / 8 ≢ state_line → image i ≡ before i
    first_word i below commit state = let at = head_word g i below commit state in is.others i at.0 at.1 (low_outside g blocks i in_data (head_low g i below))

    line : line_bytes image 0 ≡ line_bytes before 0
    line = line_bytes-same image before 0 (λ i at. first_word i (omega (arith, at)) (λ e. omega (arith, at, e)) (λ e. omega (arith, at, e)))

    same : geometry_of image ≡ geometry_of before
    same = ap geometry_at line

  base_read : Reads g (journaled image) v ⊎ Reads g (journaled image) w → w.base ≡ v.base → journaled image base_word ≡ v.base
  base_read (inl old) same = sym old.base
  base_read (inr new) same = sym new.base ∙ same

  pub headed_written : IsHeaded g before → w.base ≡ v.base → v.base ≡ journaled before base_word → IsHeaded g image
  headed_written headed same_base base_is =
      let base = base_read is.reads same_base ∙ base_is in
      headed_based headed (subst (λ n. 1 ≤ n) (sym base) headed.head.state.least_base) (subst (λ n. n ≤ 2 ^ 63) (sym base) headed.head.state.most_base)
