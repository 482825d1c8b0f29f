-- Each device is that of an image: of the bytes of its words.
use Rattle.std.proofs.Common.{◌≡◌, ◌*◌, ◌^◌, ◌<◌, ◌≤◌, ℕ, suc, zero, List, [], ◌++◌, length, refl, sym, ◌∙◌, ap, arith, ⊎_elim}
use Rattle.std.specs.Int.{to_le_bytes, w64}
use Rattle.std.proofs.Math.Path.{fun_ext}
use Rattle.std.proofs.lemmas.Bool.{cases_eq, cases_lt}
use Rattle.std.proofs.lemmas.List.{get_or_past, length-append}
use Rattle.command_line.specs.pm_model.declared.Cell.{Cell}
use Rattle.command_line.specs.pm_model.declared.Cell.TheVariants.{Single}
use Rattle.command_line.specs.pm_model.Bytes.{word_at-past, word_at-append_left, word_at-append_word}
use Rattle.command_line.specs.pm_model.Cells.{AllSingle, cell, newest}
use Rattle.command_line.specs.pm_model.Images.{words_of}
use Rattle.command_line.specs.pm_model.Words.{Words, word_at}
use Rattle.split_top.specs.Devices.{IsDeviceOf}

-- the bytes of the first n words
bytes_of : Words → ℕ → List ℕ
bytes_of f zero = []
bytes_of f (suc n) = bytes_of f n ++ to_le_bytes w64 (f n)

bytes_of-length : (f : Words) (n : ℕ) → length (bytes_of f n) ≡ 8 * n
unfolding bytes_of
bytes_of-length f zero = refl
bytes_of-length f (suc n) =
    let eight : length (to_le_bytes w64 (f n)) ≡ 8 = refl in
    omega (arith, length-append (bytes_of f n) (to_le_bytes w64 (f n)), bytes_of-length f n, eight)

bytes_of-word : (f : Words) (n i : ℕ) → ((j : ℕ) → j < n → f j < 2 ^ 64) → i < n → word_at (bytes_of f n) i ≡ f i
unfolding bytes_of
bytes_of-word f zero i fit below = absurd (omega arith)
bytes_of-word f (suc n) i fit below = ⊎_elim
    (λ (last : i ≡ n).
    ap (word_at (bytes_of f n ++ to_le_bytes w64 (f n))) last
    ∙ word_at-append_word (bytes_of f n) n (f n) (bytes_of-length f n) (fit n (omega arith))
    ∙ ap f (sym last))
    (λ (other : i ≡ n → ⊥).
    word_at-append_left (bytes_of f n) (to_le_bytes w64 (f n)) i (omega (arith, bytes_of-length f n))
    ∙ bytes_of-word f n i (λ j h. fit j (omega arith)) (omega arith))
    (cases_eq i n)

pub has_image : (d : List Cell) → AllSingle d → ((i : ℕ) → i < length d → newest (cell d i) < 2 ^ 64) → (bytes : List ℕ) × IsDeviceOf bytes d
has_image d single fit = (
  bytes_of (words_of d) (length d),
  record {
    size = sym (bytes_of-length (words_of d) (length d));
    single = single;
    words = fun_ext word;
  },
)
  where
    word : (i : ℕ) → words_of d i ≡ word_at (bytes_of (words_of d) (length d)) i
    word i = ⊎_elim
        (λ (h : i < length d). sym (bytes_of-word (words_of d) (length d) i fit h))
        (λ (h : length d ≤ i).
        ap newest (get_or_past d i (Single 0) h)
        ∙ sym (word_at-past (bytes_of (words_of d) (length d)) i (omega (arith, bytes_of-length (words_of d) (length d)))))
        (cases_lt i (length d))
