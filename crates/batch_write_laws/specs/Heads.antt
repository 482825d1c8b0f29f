-- The head of an image whose words before the log are the same.
use Rattle.std.specs.Prelude.{◌≡◌, ◌≤◌, ◌<◌, ◌*◌, ◌/◌, ◌^◌, ◌&&◌, nat_le, nat_lt, ℕ, Bool, true, false, cond}
use Rattle.std.proofs.Common.{arith, ap, ◌∙◌, sym, subst}
use Rattle.std.proofs.lemmas.Bool.Decides.{nat_tests}
use Rattle.live_model.specs.pm_model.Bytes.{line_bytes-same}
use Rattle.live_model.specs.pm_model.Words.{Words}
use Rattle.live_model.specs.layout_model.Journal.{committed, is_journal_word, journaled, record_target}
use Rattle.live_model.specs.layout_model.Places.{base_word, commit_word, first_data, Geometry, is_data_block, is_journaled_line, log_block, record_line}
use Rattle.live_model.specs.layout_model.Superblock.{geometry_at, has_magic, has_numbers, has_version}
use Rattle.live_model.specs.image_model.Checked.{HasHead}
use Rattle.live_model.specs.image_model.Rules.{geometry_of}
use Rattle.live_model.specs.volume_laws.ImageLaws.{journaled-same}
use Rattle.live_model.specs.world_image_laws.Images.{IsHeaded}

-- ---- the head rests on the words before the log

abbrev pub AgreeLow : Geometry → Words → Words → Type 0
AgreeLow g f h = (w : ℕ) → w < 512 * log_block g → h w ≡ f w

journal_low : (g : Geometry) (w : ℕ) → is_journal_word w ≡ true → w < 512 * log_block g
journal_low g w is = let low : w < 2560 = grind (arith, nat_tests, is) in omega (arith, low)

record_words : (g : Geometry) (r : ℕ) → r < 128 → 8 * record_line r < 512 * log_block g
record_words g r below = omega (arith, below)

pub low_view : (g : Geometry) (f h : Words) → AgreeLow g f h → AgreeLow g (journaled f) (journaled h)
low_view g f h agree w below = journaled-same f h w (λ x journal. agree x (journal_low g x journal)) (agree w below)

head_low : (bytes : ℕ) (f h : Words) → HasHead bytes f → AgreeLow (geometry_of f) f h → HasHead bytes h × (geometry_of h ≡ geometry_of f)
head_low bytes f h head agree =
    let g = geometry_of f in
    let view = low_view g f h agree in
    let line = line_bytes-same h f 0 (λ i at. agree i (omega (arith, at))) in
    let geometry : geometry_of h ≡ g = ap geometry_at line in
    let commit : h commit_word ≡ f commit_word = agree commit_word (omega arith) in
    let base : journaled h base_word ≡ journaled f base_word = view base_word (omega arith) in
    let target : (r : ℕ) → r < 128 → record_target h r ≡ record_target f r = λ r below. agree (8 * record_line r) (record_words g r below) in
    let count : committed h ≡ committed f = ap (λ n. cond (nat_le n 128) n 0) commit in (
      record {
        whole_blocks = head.whole_blocks;
        magic = ap has_magic line ∙ head.magic;
        version = ap has_version line ∙ head.version;
        numbers = record {
          numbers = ap has_numbers line ∙ head.numbers.numbers;
          whole = head.numbers.whole ∙ ap (λ (k : Geometry). 4096 * k.blocks) (sym geometry);
          state = λ w from below. view w (omega (arith, below)) ∙ head.numbers.state w from below;
          others = λ w from below apart state. agree w (omega (arith, below)) ∙ head.numbers.others w from below apart state;
        };
        records = λ r below counted.
            ap (λ k. is_journaled_line k (record_target h r)) geometry ∙ ap (is_journaled_line g) (target r below)
            ∙ head.records r below (omega (arith, count, counted));
        state = record {
          count = omega (arith, commit, head.state.count);
          least_base = omega (arith, base, head.state.least_base);
          most_base = subst (λ n. n ≤ 2 ^ 63) (sym base) head.state.most_base;
        };
      },
      geometry,
    )

pub headed_low : (g : Geometry) (f h : Words) → IsHeaded g f → AgreeLow g f h → IsHeaded g h
headed_low g f h headed agree =
    let is = head_low (4096 * g.blocks) f h headed.head (subst (λ k. AgreeLow k f h) (sym headed.geometry) agree) in
    record { head = is.0; geometry = is.1 ∙ headed.geometry }

-- words before the log are in no data block
pub low_beside : (g : Geometry) (w : ℕ) → w < 512 * log_block g → is_data_block g (w / 512) ≡ false
low_beside g w low =
    let short : w / 512 < first_data g = omega (arith, low) in
    let before : nat_le (first_data g) (w / 512) ≡ false = grind (arith, nat_tests, short) in
    ap (λ (b : Bool). b && nat_lt (w / 512) g.blocks) before
