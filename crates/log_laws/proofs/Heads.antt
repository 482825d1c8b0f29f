-- The head of an image of a change that wrote data blocks.
use Rattle.std.proofs.Common.{◌≡◌, ◌≢◌, ◌≤◌, ◌<◌, ◌+◌, ◌*◌, ◌/◌, ◌^◌, ◌⊎◌, ℕ, true, List, sym, ◌∙◌, ap, subst, arith, inl, inr}
use Rattle.std.specs.Prelude.{All}
use Rattle.std.proofs.lemmas.Bool.Decides.{nat_tests}
use Rattle.world_write_laws.specs.pm_model.Bytes.{line_bytes-same}
use Rattle.world_write_laws.specs.pm_model.Words.{line_bytes, Words}
use Rattle.world_write_laws.specs.layout_model.Journal.{journaled}
use Rattle.world_write_laws.specs.layout_model.Places.{base_word, commit_word, first_data, Geometry, is_data_block, state_line}
use Rattle.world_write_laws.specs.layout_model.Superblock.{geometry_at, has_magic, has_numbers, has_version}
use Rattle.world_write_laws.specs.image_model.Placed.{block_at, IsOutside}
use Rattle.world_write_laws.specs.image_model.Reading.{Reads}
use Rattle.world_write_laws.specs.image_model.Rules.{geometry_of, HasTarget}
use Rattle.world_write_laws.specs.image_model.Volume.{Volume}
use Rattle.world_image_laws.specs.image_laws.ViewLaws.{head_word, sound-targets}
use Rattle.world_write_laws.specs.k_split_model.Stands.{IsOldOrNew}
use Rattle.world_image_laws.specs.Images.{IsHeaded}

base_read : (g : Geometry) (v w : Volume) (j : Words) → Reads g j v ⊎ Reads g j w → w.base ≡ v.base → j base_word ≡ v.base
base_read g v w j (inl old) same = sym old.base
base_read g v w j (inr new) same = sym new.base ∙ same

zeros_read : (g : Geometry) (v w : Volume) (j : Words) → Reads g j v ⊎ Reads g j w → (i : ℕ) → base_word < i → i < base_word + 8 → j i ≡ 0
zeros_read g v w j (inl old) i from below = old.state i from below
zeros_read g v w j (inr new) i from below = new.state i from below

pub headed-next : (g : Geometry) (blocks : List ℕ) (v w : Volume) (before image : Words) → All (λ b. is_data_block g b ≡ true) blocks → IsHeaded g before
    → IsOldOrNew g blocks v w before image → w.base ≡ v.base → v.base ≡ journaled before base_word → IsHeaded g image
headed-next g blocks v w before image in_data headed is same_base base_is = record {
  head = record {
    whole_blocks = headed.head.whole_blocks;
    magic = ap has_magic line ∙ headed.head.magic;
    version = ap has_version line ∙ headed.head.version;
    numbers = record {
      numbers = ap has_numbers line ∙ headed.head.numbers.numbers;
      whole = headed.head.numbers.whole ∙ ap (λ (k : Geometry). 4096 * k.blocks) (sym same);
      state = zeros_read g v w (journaled image) is.reads;
      others = λ i from below commit state. first_word i below commit state ∙ headed.head.numbers.others i from below commit state;
    };
    records = λ r below. subst (λ k. HasTarget k image r) (sym (same ∙ headed.geometry)) (sound-targets g image r is.sound);
    state = record {
      count = is.sound.count;
      least_base = subst (λ n. 1 ≤ n) (sym base) headed.head.state.least_base;
      most_base = subst (λ n. n ≤ 2 ^ 63) (sym base) headed.head.state.most_base;
    };
  };
  geometry = same ∙ headed.geometry;
} where
  outside : (i : ℕ) → i < 512 → IsOutside blocks i
  outside i below k within at =
      let in_range : first_data g ≤ block_at blocks k = let of_data = in_data k 0 within in grind (arith, nat_tests) in
      omega arith

  first_word : (i : ℕ) → i < 512 → i ≢ commit_word → i / 8 ≢ state_line → image i ≡ before i
  first_word i below commit state = let at = head_word g i below commit state in is.others i at.0 at.1 (outside i below)

  line : line_bytes image 0 ≡ line_bytes before 0
  line = line_bytes-same image before 0 (λ i at. first_word i (omega (arith, at)) (λ e. omega (arith, at, e)) (λ e. omega (arith, at, e)))

  same : geometry_of image ≡ geometry_of before
  same = ap geometry_at line

  base : journaled image base_word ≡ journaled before base_word
  base = base_read g v w (journaled image) is.reads same_base ∙ base_is
