-- The line of the log base: its first word is the base, all others are zero.
use Rattle.std.specs.Prelude.{◌≡◌, ◌+◌, ◌-◌, ◌*◌, ◌^◌, ◌<◌, ℕ, [], refl}
use Rattle.std.specs.Int.{to_le_bytes, w64}
use Rattle.std.proofs.Common.{arith, sym, ◌∙◌}
use Rattle.std.proofs.lemmas.List.{get_or-append_right, get_or-replicate}
use Rattle.image_model.specs.pm_model.Bytes.{word_at-same, word_at-append_left, word_at-append_word}
use Rattle.image_model.specs.pm_model.Words.{Words, word_at, with_line}
use Rattle.image_model.specs.layout_model.Fields.{zeros}
use Rattle.image_model.specs.layout_model.Places.{Geometry, state_line}
use Rattle.image_model.specs.layout_model.Fresh.{state_bytes}
use Rattle.image_model.specs.Reading.{Reads, base_set}
use Rattle.image_model.specs.Volume.{Volume}
use Rattle.volume_laws.specs.SetLaws.{reads-base}

pub state_bytes-first : (base : ℕ) → base < 2 ^ 64 → word_at (state_bytes base) 0 ≡ base
state_bytes-first base small =
    word_at-append_left (to_le_bytes w64 base) (zeros 56) 0 (omega arith) ∙ word_at-append_word [] 0 base refl small

zero_word : word_at (zeros 56) 0 ≡ 0
unfolding word_at
zero_word = refl

pub state_bytes-later : (base k : ℕ) → 0 < k → k < 8 → word_at (state_bytes base) k ≡ 0
state_bytes-later base k later below =
    word_at-same (state_bytes base) (zeros 56) k 0 (λ j word.
    get_or-append_right (to_le_bytes w64 base) (zeros 56) 8 (8 * k + j) 0 refl (omega arith)
    ∙ get_or-replicate 56 (8 * k + j - 8) 0 0 (omega arith) ∙ sym (get_or-replicate 56 (8 * 0 + j) 0 0 (omega arith)))
    ∙ zero_word

-- words in which the line of the log base was set to a base
pub reads-state : (g : Geometry) (f : Words) (v : Volume) (base : ℕ) → base < 2 ^ 64 → Reads g f v
    → Reads g (with_line state_line (state_bytes base) f) (base_set base v)
reads-state g f v base small r =
    reads-base g f v base (state_bytes base) (state_bytes-first base small) (state_bytes-later base) r
