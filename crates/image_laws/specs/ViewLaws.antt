-- What a checked image rests on: an image with the same journaled view and a sound journal is checked as the other is,
-- and the head and the reading of an image do not rest on its log lines.
use Rattle.std.specs.Prelude.{◌≡◌, ◌≢◌, ℕ, zero, suc, ◌+◌, ◌*◌, ◌/◌, ◌%◌, ◌^◌, ◌<◌, ◌≤◌, ◌==◌, nat_le, true, false, cond}
use Rattle.std.proofs.Common.{arith, ap, sym, ◌∙◌, subst}
use Rattle.std.proofs.Math.Path.{fun_ext}
use Rattle.std.proofs.lemmas.Bool.{cond-true, le-leb}
use Rattle.std.proofs.lemmas.Bool.Decides.{nat_tests}
use Rattle.volume_laws.specs.pm_model.Bytes.{line_bytes-same}
use Rattle.volume_laws.specs.pm_model.Words.{Words, line_bytes}
use Rattle.volume_laws.specs.layout_model.Journal.{is_journal_word, record_target, record_word, committed, patched, journaled, IsSound}
use Rattle.volume_laws.specs.layout_model.Places.{Geometry, state_line, base_word, commit_word, record_line, log_block, log_line, is_data_block, is_journaled_line}
use Rattle.volume_laws.specs.layout_model.PlaceLaws.{journaled-below_log}
use Rattle.volume_laws.specs.layout_model.Superblock.{has_magic, has_version, has_numbers, geometry_at}
use Rattle.volume_laws.specs.image_model.Checked.{HasHead, IsLogKept, IsCheckedAs}
use Rattle.volume_laws.specs.image_model.Content.{content_of, content}
use Rattle.volume_laws.specs.image_model.Placed.{block_at}
use Rattle.volume_laws.specs.image_model.Reading.{Reads}
use Rattle.volume_laws.specs.image_model.Rules.{geometry_of, HasTarget, IsChecked}
use Rattle.volume_laws.specs.image_model.Volume.{Volume, volume, chain}
use Rattle.volume_laws.specs.ImageLaws.{journaled-other}
use Rattle.volume_laws.specs.ReadingLaws.{reads-same}
use Rattle.image_laws.specs.CheckedLaws.{parts-checked, checked-parts}

-- a commit word of at most 128 is the number of records
pub committed-all : (image : Words) → image commit_word ≤ 128 → committed image ≡ image commit_word
committed-all image few = cond-true (nat_le (image commit_word) 128) (image commit_word) 0 (le-leb (image commit_word) 128 few)

-- the journal of an image with a right head can be recovered
pub sound-head : (bytes : ℕ) (f : Words) → HasHead bytes f → IsSound (geometry_of f) f
sound-head bytes f head =
    record {
      count = head.state.count;
      targets = λ r below. head.records r (omega (arith, head.state.count)) (omega (arith, committed-all f head.state.count));
    }

-- what soundness says of the records
pub sound-targets : (g : Geometry) (image : Words) (r : ℕ) → IsSound g image → HasTarget g image r
sound-targets g image r sound below = sound.targets r (omega (arith, committed-all image sound.count))

-- the words of block 0 that the journal never changes
pub head_word : (g : Geometry) (w : ℕ) → w < 512 → w ≢ commit_word → w / 8 ≢ state_line → (is_journal_word w ≡ false) × (is_journaled_line g (w / 8) ≡ false)
head_word g w below commit state = (grind (arith, nat_tests), grind (arith, nat_tests))

-- Two images read through their journals alike.
abbrev pub HaveSameView : Words → Words → Type 0
HaveSameView f h = (w : ℕ) → journaled h w ≡ journaled f w

-- so their words in block 0, but the commit word and the log base's line, are the same
pub head_word-same : (g : Geometry) (f h : Words) (w : ℕ) → IsSound g f → IsSound g h → HaveSameView f h → w < 512 → w ≢ commit_word → w / 8 ≢ state_line → h w ≡ f w
head_word-same g f h w f_sound h_sound same below commit state =
    let at = head_word g w below commit state in
    sym (journaled-other g h w h_sound at.0 at.1) ∙ same w ∙ journaled-other g f w f_sound at.0 at.1

pub superblock-same : (g : Geometry) (f h : Words) → IsSound g f → IsSound g h → HaveSameView f h → line_bytes h 0 ≡ line_bytes f 0
superblock-same g f h f_sound h_sound same =
    line_bytes-same h f 0 (λ i at. head_word-same g f h i f_sound h_sound same (omega arith) (λ e. omega arith) (λ e. omega arith))

pub head-same_view : (bytes : ℕ) (f h : Words) → HasHead bytes f → IsSound (geometry_of f) h → HaveSameView f h → HasHead bytes h
head-same_view bytes f h head h_sound same =
    let g = geometry_of f in
    let f_sound = sound-head bytes f head in
    let line = superblock-same g f h f_sound h_sound same in
    let geometry : geometry_of h ≡ g = ap geometry_at line in
    record {
      whole_blocks = head.whole_blocks;
      magic = ap has_magic line ∙ head.magic;
      version = ap has_version line ∙ head.version;
      numbers = record {
        numbers = ap has_numbers line ∙ head.numbers.numbers;
        whole = head.numbers.whole ∙ ap (λ (k : Geometry). 4096 * k.blocks) (sym geometry);
        state = λ w from below. same w ∙ head.numbers.state w from below;
        others = λ w from below commit state.
            head_word-same g f h w f_sound h_sound same below commit state ∙ head.numbers.others w from below commit state;
      };
      records = λ r below. subst (λ k. HasTarget k h r) (sym geometry) (sound-targets g h r h_sound);
      state = record {
        count = h_sound.count;
        least_base = omega (arith, same base_word, head.state.least_base);
        most_base = subst (λ n. n ≤ 2 ^ 63) (sym (same base_word)) head.state.most_base;
      };
    }

-- An image with the same view and a sound journal is checked, as the same volume, and has the same content. So is what
-- recovery makes of an image, and what a commit has written of its records.
pub checked_as-same_view : (bytes : ℕ) (f h : Words) (v : Volume) → IsCheckedAs bytes f v → IsSound (geometry_of f) h → HaveSameView f h → IsCheckedAs bytes h v
checked_as-same_view bytes f h v parts h_sound same =
    let g = geometry_of f in
    let view : journaled h ≡ journaled f = fun_ext same in
    let geometry : geometry_of h ≡ g = ap geometry_at (superblock-same g f h (sound-head bytes f parts.head) h_sound same) in
    record {
      head = head-same_view bytes f h parts.head h_sound same;
      reads = subst (λ k. Reads k (journaled h) v) (sym geometry) (subst (λ j. Reads g j v) (sym view) parts.reads);
      kept = parts.kept;
      log = subst (IsLogKept v) (sym view) parts.log;
    }

pub checked-same_view : (bytes : ℕ) (f h : Words) → IsChecked bytes f → IsSound (geometry_of f) h → HaveSameView f h → IsChecked bytes h
checked-same_view bytes f h checked h_sound same =
    let v = volume (geometry_of f) (journaled f) in
    checked-parts bytes h v (checked_as-same_view bytes f h v (parts-checked bytes f checked) h_sound same)

pub content-same_view : (g : Geometry) (f h : Words) → HaveSameView f h → content g h ≡ content g f
content-same_view g f h same = ap (content_of g) (fun_ext same)

-- The images agree but in the log lines.
pub record AgreeButLog (g : Geometry) (f h : Words) : Type 0 where
  pub words : (w : ℕ) → ((slot : ℕ) → slot < g.log → w / 8 ≢ log_line g slot) → h w ≡ f w

before_log : (g : Geometry) (f h : Words) (w : ℕ) → AgreeButLog g f h → w < 512 * log_block g → h w ≡ f w
before_log g f h w agree below = agree.words w (λ slot within e. omega arith)

patched-same : (n : ℕ) (s t : ℕ → ℕ) (c d : ℕ → ℕ → ℕ) (f h : Words) (w : ℕ) → ((r : ℕ) → r < n → t r ≡ s r) → ((r : ℕ) → r < n → d r (w % 8) ≡ c r (w % 8)) → h w ≡ f w
    → patched n t d h w ≡ patched n s c f w
unfolding patched
patched-same zero s t c d f h w targets contents base = base
patched-same (suc n) s t c d f h w targets contents base =
    let target = targets n (omega arith) in
    let content = contents n (omega arith) in
    let rest = patched-same n s t c d f h w (λ r below. targets r (omega arith)) (λ r below. contents r (omega arith)) base in
    λ i. cond (target i == w / 8) (content i) (rest i)

record_words : (g : Geometry) (r j : ℕ) → r < 128 → j < 8 → (8 * record_line r < 512 * log_block g) × (8 * (record_line r + 1) + j < 512 * log_block g)
record_words g r j below within = (omega arith, omega arith)

-- so do their views
pub view-but_log : (g : Geometry) (f h : Words) → AgreeButLog g f h → AgreeButLog g (journaled f) (journaled h)
view-but_log g f h agree =
    record {
      words = λ w apart.
          let count : committed h ≡ committed f = ap (λ n. cond (nat_le n 128) n 0) (before_log g f h commit_word agree (omega arith)) in
          let few : committed f ≤ 128 = grind (arith, nat_tests) in
          let patch = patched-same (committed f) (record_target f) (record_target h) (record_word f) (record_word h) f h w
          (λ r below. before_log g f h (8 * record_line r) agree (record_words g r 0 (omega arith) (omega arith)).0)
          (λ r below. before_log g f h (8 * (record_line r + 1) + w % 8) agree (record_words g r (w % 8) (omega arith) (omega arith)).1)
          (agree.words w apart)
          in
          λ i. cond (is_journal_word w) 0 ((ap (λ n. patched n (record_target h) (record_word h) h w) count ∙ patch) i);
    }

-- Whatever stands in the log lines, the head is right and the words read as the volume.
pub head-but_log : (bytes : ℕ) (f h : Words) → HasHead bytes f → AgreeButLog (geometry_of f) f h → HasHead bytes h
head-but_log bytes f h head agree =
    let g = geometry_of f in
    let view = view-but_log g f h agree in
    let line : line_bytes h 0 ≡ line_bytes f 0 = line_bytes-same h f 0 (λ i at. before_log g f h i agree (omega arith)) in
    let geometry : geometry_of h ≡ g = ap geometry_at line in
    let commit : h commit_word ≡ f commit_word = before_log g f h commit_word agree (omega arith) in
    let base : journaled h base_word ≡ journaled f base_word = before_log g (journaled f) (journaled h) base_word view (omega arith) in
    let target : (r : ℕ) → r < 128 → record_target h r ≡ record_target f r = λ r below. before_log g f h (8 * record_line r) agree (record_words g r 0 below (omega arith)).0 in
    let count : committed h ≡ committed f = ap (λ n. cond (nat_le n 128) n 0) commit in
    record {
      whole_blocks = head.whole_blocks;
      magic = ap has_magic line ∙ head.magic;
      version = ap has_version line ∙ head.version;
      numbers = record {
        numbers = ap has_numbers line ∙ head.numbers.numbers;
        whole = head.numbers.whole ∙ ap (λ (k : Geometry). 4096 * k.blocks) (sym geometry);
        state = λ w from below. before_log g (journaled f) (journaled h) w view (omega arith) ∙ head.numbers.state w from below;
        others = λ w from below apart state. before_log g f h w agree (omega arith) ∙ head.numbers.others w from below apart state;
      };
      records = λ r below counted.
          ap (λ k. is_journaled_line k (record_target h r)) geometry ∙ ap (is_journaled_line g) (target r below)
          ∙ head.records r below (omega (arith, count));
      state = record {
        count = omega (arith, commit, head.state.count);
        least_base = omega (arith, base, head.state.least_base);
        most_base = subst (λ n. n ≤ 2 ^ 63) (sym base) head.state.most_base;
      };
    }

data-behind_log : (g : Geometry) (b j slot : ℕ) → is_data_block g b ≡ true → j < 512 → slot < g.log → (512 * b + j) / 8 ≢ log_line g slot
data-behind_log g b j slot in_data word below e = grind (arith, nat_tests)

pub reads-but_log : (g : Geometry) (f h : Words) (v : Volume) → AgreeButLog g f h → Reads g (journaled f) v → Reads g (journaled h) v
reads-but_log g f h v agree r =
    let view = view-but_log g f h agree in
    reads-same g (journaled f) (journaled h) v
    (record {
      lines = λ w journaled_line. view.words w (λ slot below e. let low = journaled-below_log g (w / 8) journaled_line in omega arith);
      chains = λ ino k j below within word. view.words (512 * block_at (chain v ino) k + j) (λ slot slot_below e.
          data-behind_log g (block_at (chain v ino) k) j slot (r.blocks ino below k 0 within) word slot_below e);
    })
    r

-- both
pub stands-but_log : (bytes : ℕ) (f h : Words) (v : Volume) → HasHead bytes f → Reads (geometry_of f) (journaled f) v → AgreeButLog (geometry_of f) f h
    → HasHead bytes h × Reads (geometry_of f) (journaled h) v
stands-but_log bytes f h v head reads agree = (head-but_log bytes f h head agree, reads-but_log (geometry_of f) f h v agree reads)
