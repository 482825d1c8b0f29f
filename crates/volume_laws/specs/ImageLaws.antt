-- Laws of images and their journals: which words of an image are as they stand, whatever is committed.
use Rattle.std.specs.Prelude.{◌≡◌, ◌≢◌, ℕ, zero, suc, ◌+◌, ◌*◌, ◌/◌, ◌%◌, ◌<◌, ◌≤◌, ◌==◌, true, false, if◌then◌else◌, List, All, refl}
use Rattle.std.proofs.Common.{arith, ap, ◌∙◌, subst}
use Rattle.std.proofs.lemmas.Bool.{both_ways, cond-false, ne_eqb}
use Rattle.std.proofs.lemmas.Bool.Decides.{nat_tests}
use Rattle.image_model.specs.pm_model.Words.{Words}
use Rattle.image_model.specs.layout_model.Journal.{is_journal_word, record_target, record_word, committed, patched, journaled, IsSound}
use Rattle.image_model.specs.layout_model.Places.{Geometry, commit_word, record_line, is_data_block, is_journaled_line}
use Rattle.image_model.specs.Placed.{block_at, IsOutside}
use Rattle.volume_laws.specs.LineWords.{data_word}

-- a word of a line that no record targets
untargeted : (n : ℕ) (t : ℕ → ℕ) (c : ℕ → ℕ → ℕ) (f : Words) (w : ℕ) → ((r : ℕ) → r < n → t r ≢ w / 8)
    → patched n t c f w ≡ f w
unfolding patched
untargeted zero t c f w none = refl
untargeted (suc n) t c f w none =
    cond-false (t n == w / 8) (c n (w % 8)) (patched n t c f w) (ne_eqb (t n) (w / 8) (none n (omega arith)))
    ∙ untargeted n t c f w (λ r below. none r (omega arith))

-- no more records count than the commit word says
committed-le : (image : Words) → committed image ≤ image commit_word
committed-le image = grind (arith, nat_tests)

outside_journal : (image : Words) (w : ℕ) → is_journal_word w ≡ false
    → journaled image w ≡ patched (committed image) (record_target image) (record_word image) image w
outside_journal image w outside =
    cond-false (is_journal_word w) 0 (patched (committed image) (record_target image) (record_word image) image w) outside

-- where nothing is committed, words outside the journal are as they stand
pub journaled-idle : (image : Words) (w : ℕ) → image commit_word ≡ 0 → is_journal_word w ≡ false
    → journaled image w ≡ image w
journaled-idle image w idle outside =
    outside_journal image w outside
    ∙ untargeted (committed image) (record_target image) (record_word image) image w
    (λ r below. absurd (omega (arith, committed-le image)))

-- words that no recovery sets are as they stand
pub journaled-other : (g : Geometry) (image : Words) (w : ℕ) → IsSound g image → is_journal_word w ≡ false
    → is_journaled_line g (w / 8) ≡ false → journaled image w ≡ image w
journaled-other g image w sound outside other =
    outside_journal image w outside
    ∙ untargeted (committed image) (record_target image) (record_word image) image w
    (λ r below same. both_ways (is_journaled_line g (w / 8)) other
    (subst (λ n. is_journaled_line g n ≡ true) same (sound.targets r (omega (arith, committed-le image)))))

-- ---- images with the same journal

patched-same : (n : ℕ) (t s : ℕ → ℕ) (c e : ℕ → ℕ → ℕ) (f h : Words) (w : ℕ) → ((r : ℕ) → r < n → t r ≡ s r)
    → ((r : ℕ) → r < n → c r (w % 8) ≡ e r (w % 8)) → f w ≡ h w → patched n t c f w ≡ patched n s e h w
unfolding patched
patched-same zero t s c e f h w targets contents own = own
patched-same (suc n) t s c e f h w targets contents own =
    let rest = patched-same n t s c e f h w (λ r below. targets r (omega arith)) (λ r below. contents r (omega arith)) own in
    let target = targets n (omega arith) in
    let content = contents n (omega arith) in
    λ i. if target i == w / 8 then content i else rest i

-- images with the same words in the journal are the same through it where they are the same
pub journaled-same : (f h : Words) (i : ℕ) → ((w : ℕ) → is_journal_word w ≡ true → h w ≡ f w) → h i ≡ f i
    → journaled h i ≡ journaled f i
journaled-same f h i same own =
    let commit : h commit_word ≡ f commit_word = same commit_word refl in
    let count : committed h ≡ committed f = rw commit refl in
    let few : committed h ≤ 128 = grind (arith, nat_tests) in
    let in_journal : (w : ℕ) → 512 ≤ w → w < 2560 → is_journal_word w ≡ true = λ w low high. grind (arith, nat_tests) in
    let words : patched (committed h) (record_target h) (record_word h) h i ≡ patched (committed h) (record_target f) (record_word f) f i =
    patched-same (committed h) (record_target h) (record_target f) (record_word h) (record_word f) h f i
    (λ r below. same (8 * record_line r) (in_journal (8 * record_line r) (omega arith) (omega arith)))
    (λ r below. same (8 * (record_line r + 1) + i % 8) (in_journal (8 * (record_line r + 1) + i % 8) (omega arith) (omega arith)))
    own
    in
    ap (λ x. if is_journal_word i then 0 else x) (words ∙ ap (λ n. patched n (record_target f) (record_word f) f i) count)

-- no word of the journal is in a data block
pub journal-outside : (g : Geometry) (blocks : List ℕ) (w : ℕ) → All (λ b. is_data_block g b ≡ true) blocks
    → is_journal_word w ≡ true → IsOutside blocks w
journal-outside g blocks w in_data journal k within at =
    let behind = data_word g (block_at blocks k) 0 (in_data k 0 within) (omega arith) in
    let low : w < 2560 = grind (arith, nat_tests) in
    omega arith
