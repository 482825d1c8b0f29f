-- What a change of the volume leaves of what an image shows: the words of log lines and of data blocks are those of the image
-- before, and the head stays right.
use Rattle.std.specs.Prelude.{◌≡◌, ◌≢◌, ◌⊎◌, ◌≤◌, ◌<◌, ℕ, ◌+◌, ◌*◌, ◌/◌, ◌%◌, ◌^◌, true, false, List, [], Some}
use Rattle.std.proofs.Common.{arith, ap, ◌∙◌, sym, subst, inl, inr}
use Rattle.std.proofs.lemmas.Bool.Decides.{nat_tests}
use Rattle.image_laws.specs.pm_model.Bytes.{line_bytes-same}
use Rattle.image_laws.specs.pm_model.Words.{byte_of, line_bytes, Words}
use Rattle.image_laws.specs.layout_model.Journal.{is_journal_word, IsSound, journaled}
use Rattle.image_laws.specs.layout_model.PlaceLaws.{behind_log-not_journaled}
use Rattle.image_laws.specs.layout_model.Places.{base_word, commit_word, Geometry, is_data_block, is_journaled_line, log_block, log_line, state_line}
use Rattle.image_laws.specs.layout_model.Superblock.{geometry_at, has_magic, has_numbers, has_version}
use Rattle.image_laws.specs.layout_model.declared.lines.Draft.{Draft}
use Rattle.image_laws.specs.layout_model.Entries.{held_seq, is_self_valid}
use Rattle.image_laws.specs.image_model.Live.{entry_in}
use Rattle.image_laws.specs.image_model.Placed.{IsOutside}
use Rattle.image_laws.specs.image_model.Reading.{Reads}
use Rattle.image_laws.specs.image_model.Rules.{geometry_of, HasTarget}
use Rattle.image_laws.specs.image_model.Volume.{Volume}
use Rattle.image_laws.specs.volume_laws.Footprint.{SameLog}
use Rattle.image_laws.specs.volume_laws.FootprintLaws.{entry_in-same}
use Rattle.image_laws.specs.volume_laws.ImageLaws.{journaled-other}
use Rattle.image_laws.specs.volume_laws.LineWords.{data_word}
use Rattle.image_laws.specs.ViewLaws.{head_word, sound-head, sound-targets}
use Rattle.world_step_laws.specs.k_split_model.Stands.{IsOldOrNew}
use Rattle.world_step_laws.specs.world_model.posix_spec.State.{State}
use Rattle.world_step_laws.specs.world_model.Jobs.{Job}
use Rattle.world_step_laws.specs.world_model.Shown.{SameButLent}
use Rattle.world_step_laws.specs.world_model.Lent.{Valid-words}
use Rattle.world_step_laws.specs.Worlds.{IsWorld}
use Rattle.world_image_laws.specs.Images.{IsHeaded, ShowsLog}

-- ---- words

-- no block is written beside the journal
none_written : (i : ℕ) → IsOutside [] i
none_written i k below same = absurd (omega (arith, below))

behind_journal : (g : Geometry) (i : ℕ) → 512 * log_block g ≤ i → is_journal_word i ≡ false
behind_journal g i behind = grind (arith, nat_tests, behind)

-- A word outside the journal and the journaled lines is the same, and is seen the same.
pub same_word : (g : Geometry) (v w : Volume) (before image : Words) (i : ℕ) → IsOldOrNew g [] v w before image → is_journal_word i ≡ false → is_journaled_line g (i / 8) ≡ false → image i ≡ before i
same_word g v w before image i is journal line = is.others i journal line (none_written i)

pub same_seen : (g : Geometry) (v w : Volume) (before image : Words) (i : ℕ) → IsSound g before → IsOldOrNew g [] v w before image → 512 * log_block g ≤ i → journaled image i ≡ journaled before i
same_seen g v w before image i sound is behind =
    let journal = behind_journal g i behind in
    let line = behind_log-not_journaled g (i / 8) (omega (arith, behind)) in
    journaled-other g image i is.sound journal line ∙ (same_word g v w before image i is journal line ∙ sym (journaled-other g before i sound journal line))

-- the log is the same
pub SameLog-changed : (g : Geometry) (v w : Volume) (before image : Words) → IsSound g before → IsOldOrNew g [] v w before image → SameLog g (journaled before) (journaled image)
SameLog-changed g v w before image sound is =
    record { words = λ slot i below at. same_seen g v w before image i sound is (omega (arith, at)) }

-- data are the same, also where they are lent
pub same_data : (g : Geometry) (v w : Volume) (before image : Words) → IsSound g before → IsOldOrNew g [] v w before image
    → (b i : ℕ) → is_data_block g b ≡ true → i < 4096 → byte_of (journaled image) (4096 * b + i) ≡ byte_of (journaled before) (4096 * b + i)
same_data g v w before image sound is b i in_data below =
    ap (λ (n : ℕ). n / 256 ^ ((4096 * b + i) % 8) % 256) (same_seen g v w before image ((4096 * b + i) / 8) sound is (behind b i (data_word g b (i / 8) in_data (omega (arith, below))))) where
      behind : (n k : ℕ) → 512 * log_block g ≤ 512 * n + k / 8 → 512 * log_block g ≤ (4096 * n + k) / 8
      behind n k le = omega (arith, le)

-- ---- the head

pub sound_headed : (g : Geometry) (image : Words) → IsHeaded g image → IsSound g image
sound_headed g image is = subst (λ k. IsSound k image) is.geometry (sound-head (4096 * g.blocks) image is.head)

-- what stands in the line of the log base
base_read : (g : Geometry) (v w : Volume) (j : Words) → Reads g j v ⊎ Reads g j w → w.base ≡ v.base → j base_word ≡ v.base
base_read g v w j (inl old) same = sym old.base
base_read g v w j (inr new) same = sym new.base ∙ same

zeros_read : (g : Geometry) (v w : Volume) (j : Words) → Reads g j v ⊎ Reads g j w → (i : ℕ) → base_word < i → i < base_word + 8 → j i ≡ 0
zeros_read g v w j (inl old) i from below = old.state i from below
zeros_read g v w j (inr new) i from below = new.state i from below

pub headed_changed : (g : Geometry) (v w : Volume) (before image : Words) → IsHeaded g before → IsOldOrNew g [] v w before image → w.base ≡ v.base → v.base ≡ journaled before base_word → IsHeaded g image
headed_changed g v w before image headed is same_base base_is = record {
  head = record {
    whole_blocks = headed.head.whole_blocks;
    magic = ap has_magic line ∙ headed.head.magic;
    version = ap has_version line ∙ headed.head.version;
    numbers = record {
      numbers = ap has_numbers line ∙ headed.head.numbers.numbers;
      whole = headed.head.numbers.whole ∙ ap (λ (k : Geometry). 4096 * k.blocks) (sym same);
      state = zeros_read g v w (journaled image) is.reads;
      others = λ i from below commit state. first_word i below commit state ∙ headed.head.numbers.others i from below commit state;
    };
    records = λ r below. subst (λ k. HasTarget k image r) (sym (same ∙ headed.geometry)) (sound-targets g image r is.sound);
    state = record {
      count = is.sound.count;
      least_base = subst (λ n. 1 ≤ n) (sym base) headed.head.state.least_base;
      most_base = subst (λ n. n ≤ 2 ^ 63) (sym base) headed.head.state.most_base;
    };
  };
  geometry = same ∙ headed.geometry;
} where
  first_word : (i : ℕ) → i < 512 → i ≢ commit_word → i / 8 ≢ state_line → image i ≡ before i
  first_word i below commit state = let at = head_word g i below commit state in same_word g v w before image i is at.0 at.1

  line : line_bytes image 0 ≡ line_bytes before 0
  line = line_bytes-same image before 0 (λ i at. first_word i (omega (arith, at)) (λ e. omega (arith, at, e)) (λ e. omega (arith, at, e)))

  same : geometry_of image ≡ geometry_of before
  same = ap geometry_at line

  base : journaled image base_word ≡ journaled before base_word
  base = base_read g v w (journaled image) is.reads same_base ∙ base_is

-- ---- the log

-- the same log shows the same claims, of another volume of this geometry and lap too
pub ShowsLog-same : (v w : Volume) (claims : List (ℕ × Draft)) (f h : Words) → w.geometry ≡ v.geometry → w.base ≡ v.base → SameLog v.geometry f h → ShowsLog v claims f → ShowsLog w claims h
ShowsLog-same v w claims f h geometry base same log = record {
  shows = λ slot d. (λ is. on slot d ((log.shows slot d).0 is), λ there. (log.shows slot d).1 (back slot d there.0 there.1));
  no_later = λ slot below valid.
      let was : slot < v.geometry.log = within slot below in
      let line = line_same slot was in
      omega (arith, log.no_later slot was (ap is_self_valid (sym line) ∙ valid), ap held_seq line, base, ap (λ (g : Geometry). g.log) geometry);
} where
  within : (slot : ℕ) → slot < w.geometry.log → slot < v.geometry.log
  within slot below = subst (λ (g : Geometry). slot < g.log) geometry below

  line_same : (slot : ℕ) → slot < v.geometry.log → line_bytes h (log_line w.geometry slot) ≡ line_bytes f (log_line v.geometry slot)
  line_same slot below =
      ap (λ (g : Geometry). line_bytes h (log_line g slot)) geometry ∙ line_bytes-same h f (log_line v.geometry slot) (λ i at. same.words slot i below at)

  entry_same : (slot : ℕ) → slot < v.geometry.log → entry_in w h slot ≡ entry_in v f slot
  entry_same slot below = (λ i. entry_in (record w { geometry = geometry i; base = base i }) h slot) ∙ entry_in-same v f h same slot below

  on : (slot : ℕ) (d : Draft) → (slot < v.geometry.log) × (entry_in v f slot ≡ Some d) → (slot < w.geometry.log) × (entry_in w h slot ≡ Some d)
  on slot d there = (subst (λ (g : Geometry). slot < g.log) (sym geometry) there.0, entry_same slot there.0 ∙ there.1)

  back : (slot : ℕ) (d : Draft) → slot < w.geometry.log → entry_in w h slot ≡ Some d → (slot < v.geometry.log) × (entry_in v f slot ≡ Some d)
  back slot d below is = (within slot below, sym (entry_same slot (within slot below)) ∙ is)

-- ---- the World

-- The World rests on the words of the blocks that its files and claims have.
pub IsWorld-words : (v : Volume) (claims : List (ℕ × Draft)) (jobs : List Job) (f h : Words) (numbers : List ℕ) (s : State) (count : ℕ) → SameButLent v jobs f h → IsWorld v claims jobs f numbers s count
    → IsWorld v claims jobs h numbers s count
IsWorld-words v claims jobs f h numbers s count same world = record {
  valid = Valid-words v claims jobs f h numbers s same world.valid;
  claims_stand = world.claims_stand;
  aged = world.aged;
  shape = world.shape;
  geometry = world.geometry;
}
