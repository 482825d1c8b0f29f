-- The first broken rule of images whose length, whose block 0 or whose journal is damaged.
use Rattle.std.specs.Prelude.{◌≡◌, ◌≢◌, ◌⊎◌, ℕ, ◌+◌, ◌*◌, ◌/◌, ◌%◌, ◌^◌, ◌<◌, ◌≤◌, ◌==◌, nat_le, true, false, [], ◌∷◌, cond, refl}
use Rattle.std.specs.Int.{from_le_bytes, w64}
use Rattle.std.proofs.Common.{arith, inl, inr, ap, sym, ◌∙◌, subst}
use Rattle.std.proofs.lemmas.Bool.{both_ways, cond-true, cond-false, ne_eqb, eq-eqb}
use Rattle.std.proofs.lemmas.Bool.Decides.{nat_tests}
use Rattle.volume_laws.specs.pm_model.Bytes.{line_bytes-same}
use Rattle.volume_laws.specs.pm_model.Words.{Words, line_bytes}
use Rattle.volume_laws.specs.layout_model.Fields.{u32_at}
use Rattle.volume_laws.specs.layout_model.Journal.{is_journal_word, record_target, record_word, committed, patched, journaled}
use Rattle.volume_laws.specs.layout_model.Places.{Geometry, IsGeometry, state_line, base_word, commit_word, is_journaled_line}
use Rattle.volume_laws.specs.layout_model.SuperLaws.{IsSuperblockOf, superblock-read}
use Rattle.volume_laws.specs.layout_model.Superblock.{superblock, has_magic, has_version, has_numbers, geometry_at}
use Rattle.volume_laws.specs.layout_model.Fresh.{fresh}
use Rattle.volume_laws.specs.image_model.Broken.{at_one, below, FailsFirst, HoldAll, Breaks}
use Rattle.volume_laws.specs.image_model.Rules.{geometry_of, IsWholeBlocks, HasMagic, HasVersion, HasNumbers, HasTarget, HasState}
use Rattle.image_laws.specs.Damage.{with_word}
use Rattle.image_laws.specs.FreshLines.{fresh-superblock, geometry_of-fresh, fresh-zero, fresh-state, fresh-commit}

-- a rule with one place fails there
one_place : (number place : ℕ) (Holding : Type 0) → ¬ Holding → FailsFirst (at_one number place Holding) place
one_place number place Holding fails =
    record { from = omega arith; within = omega arith; before = λ p from lower. absurd (omega arith); fails = fails }

-- Rule 1: the length, which is the place.
pub length-breaks : (bytes : ℕ) (f : Words) → ¬ IsWholeBlocks bytes → Breaks bytes f 1 bytes
length-breaks bytes f fails = inl (refl, one_place 1 bytes (IsWholeBlocks bytes) fails)

pub one_byte_short : (f : Words) → Breaks 1048575 f 1 1048575
one_byte_short f = length-breaks 1048575 f (λ whole. omega (arith, whole.whole))

pub empty_image : (f : Words) → Breaks 0 f 1 0
empty_image f = length-breaks 0 f (λ whole. omega (arith, whole.whole, whole.least))

-- Rule 2: the magic bytes.
pub magic-breaks : (bytes : ℕ) (f : Words) → IsWholeBlocks bytes → ¬ HasMagic f → Breaks bytes f 2 0
magic-breaks bytes f whole fails = inr (λ p from within. whole, inl (refl, one_place 2 0 (HasMagic f) fails))

whole_blocks : (g : Geometry) → IsGeometry g → IsWholeBlocks (4096 * g.blocks)
whole_blocks g ok = record { blocks = g.blocks; whole = refl; least = ok.least_blocks; most = ok.most_blocks }

-- byte 0 of the magic set to 0
unfoldable pub without_s : ℕ
without_s = from_le_bytes w64 (0 ∷ 80 ∷ 76 ∷ 73 ∷ 84 ∷ 70 ∷ 83 ∷ 49 ∷ [])

no_magic : (f : Words) → has_magic (line_bytes (with_word 0 without_s f) 0) ≡ false
unfolding without_s line_bytes
no_magic f = refl

pub first_magic_byte : (g : Geometry) → IsGeometry g → Breaks (4096 * g.blocks) (with_word 0 without_s (fresh g)) 2 0
first_magic_byte g ok =
    magic-breaks (4096 * g.blocks) (with_word 0 without_s (fresh g)) (whole_blocks g ok)
    (λ h. both_ways (has_magic (line_bytes (with_word 0 without_s (fresh g)) 0)) (no_magic (fresh g)) h)

-- Rule 3: the version, beside the blocks in word 1.
pub version-breaks : (bytes : ℕ) (f : Words) → IsWholeBlocks bytes → HasMagic f → ¬ HasVersion f → Breaks bytes f 3 0
version-breaks bytes f whole magic fails =
    inr (λ p from within. whole, inr (λ p from within. magic, inl (refl, one_place 3 0 (HasVersion f) fails)))

version_number : (f : Words) (version blocks : ℕ) → version < 2 ^ 32 → u32_at (line_bytes (with_word 1 (version + 2 ^ 32 * blocks) f) 0) 8 ≡ version
unfolding line_bytes
version_number f version blocks small = omega arith

magic_word : (f h : Words) → h 0 ≡ f 0 → has_magic (line_bytes h 0) ≡ has_magic (line_bytes f 0)
unfolding line_bytes
magic_word f h same = rw same refl

pub version_9 : (g : Geometry) → IsGeometry g → Breaks (4096 * g.blocks) (with_word 1 (9 + 2 ^ 32 * g.blocks) (fresh g)) 3 0
version_9 g ok =
    let h = with_word 1 (9 + 2 ^ 32 * g.blocks) (fresh g) in
    let number : u32_at (line_bytes h 0) 8 ≡ 9 = version_number (fresh g) 9 g.blocks (omega arith) in
    version-breaks (4096 * g.blocks) h (whole_blocks g ok)
    (magic_word (fresh g) h refl ∙ ap has_magic (fresh-superblock g) ∙ (superblock-read g ok).magic)
    (λ known. both_ways (has_version (line_bytes h 0)) (ap (λ n. n == 1) number) known)

-- Rules 4 and 11, of words whose superblock is right.
pub record HasFreshHead (g : Geometry) (h : Words) : Type 0 where
  pub superblock : line_bytes h 0 ≡ superblock g
  pub others : (w : ℕ) → 8 ≤ w → w < 512 → w ≢ commit_word → w / 8 ≢ state_line → h w ≡ 0

pub fresh_others : (g : Geometry) (w : ℕ) → 8 ≤ w → w < 512 → w ≢ commit_word → w / 8 ≢ state_line → fresh g w ≡ 0
fresh_others g w from below commit apart =
    fresh-zero g w (record { superblock = λ e. omega arith; state = apart; inodes = λ ino small e. omega arith })

-- the rules 1, 2 and 3 hold
first_three : (g : Geometry) (h : Words) → IsGeometry g → line_bytes h 0 ≡ superblock g → HoldAll (at_one 1 (4096 * g.blocks) (IsWholeBlocks (4096 * g.blocks)) ∷ at_one 2 0 (HasMagic h) ∷ at_one 3 0 (HasVersion h) ∷ [])
first_three g h ok line =
    let read : IsSuperblockOf g (superblock g) = superblock-read g ok in (
      λ p from within. whole_blocks g ok,
      (λ p from within. ap has_magic line ∙ read.magic, (λ p from within. ap has_version line ∙ read.version, tt)),
    )

pub geometry-right : (g : Geometry) (h : Words) → IsGeometry g → line_bytes h 0 ≡ superblock g → geometry_of h ≡ g
geometry-right g h ok line = ap geometry_at line ∙ (superblock-read g ok).geometry

-- rule 4 fails at 0
pub numbers-breaks : (g : Geometry) (h : Words) → IsGeometry g → line_bytes h 0 ≡ superblock g → ¬ HasNumbers (4096 * g.blocks) h → Breaks (4096 * g.blocks) h 4 0
numbers-breaks g h ok line fails =
    let three = first_three g h ok line in
    inr (three.0, inr (three.1.0, inr (three.1.1.0, inl (refl, one_place 4 0 (HasNumbers (4096 * g.blocks) h) fails))))

-- an image that is a block longer than its superblock says
pub one_block_more : (g : Geometry) → IsGeometry g → g.blocks < 16384 → Breaks (4096 * (g.blocks + 1)) (fresh g) 4 0
one_block_more g ok room =
    let line = fresh-superblock g in
    let read : IsSuperblockOf g (superblock g) = superblock-read g ok in
    let bytes = 4096 * (g.blocks + 1) in
    inr (
      λ p from within. record { blocks = g.blocks + 1; whole = refl; least = omega (arith, ok.least_blocks); most = omega arith },
      inr (
        λ p from within. ap has_magic line ∙ read.magic,
        inr (
          λ p from within. ap has_version line ∙ read.version,
          inl (
            refl,
            one_place 4 0 (HasNumbers bytes (fresh g))
                (λ numbers. let blocks = ap (λ (k : Geometry). 4096 * k.blocks) (geometry_of-fresh g ok) in omega (arith, numbers.whole, blocks)),
          ),
        ),
      ),
    )

-- rule 4 where the state line is as recovery makes it
right_numbers : (g : Geometry) (h : Words) → IsGeometry g → HasFreshHead g h → ((w : ℕ) → base_word < w → w < base_word + 8 → journaled h w ≡ 0) → HasNumbers (4096 * g.blocks) h
right_numbers g h ok head state =
    record {
      numbers = ap has_numbers head.superblock ∙ (superblock-read g ok).numbers;
      whole = ap (λ (k : Geometry). 4096 * k.blocks) (sym (geometry-right g h ok head.superblock));
      state = state;
      others = head.others;
    }

-- rule 11 fails at a record
pub record-breaks : (g : Geometry) (h : Words) (r : ℕ) → IsGeometry g → HasFreshHead g h → ((w : ℕ) → base_word < w → w < base_word + 8 → journaled h w ≡ 0)
    → r < 128 → ((p : ℕ) → p < r → HasTarget g h p) → ¬ HasTarget g h r → Breaks (4096 * g.blocks) h 11 r
record-breaks g h r ok head state within before fails =
    let three = first_three g h ok head.superblock in
    let same : geometry_of h ≡ g = geometry-right g h ok head.superblock in
    inr (
      three.0,
      inr (
        three.1.0,
        inr (
          three.1.1.0,
          inr (
            λ p from lower. right_numbers g h ok head state,
            inl (
              refl,
              record {
                from = omega arith;
                within = omega arith;
                before = λ p from lower. subst (λ k. HasTarget k h p) (sym same) (before p lower);
                fails = λ target. fails (subst (λ k. HasTarget k h r) same target);
              },
            ),
          ),
        ),
      ),
    )

-- rule 11 fails at 128
pub state-breaks : (g : Geometry) (h : Words) → IsGeometry g → HasFreshHead g h → ((w : ℕ) → base_word < w → w < base_word + 8 → journaled h w ≡ 0)
    → ((r : ℕ) → r < 128 → HasTarget g h r) → ¬ HasState h → Breaks (4096 * g.blocks) h 11 128
state-breaks g h ok head state records fails =
    let three = first_three g h ok head.superblock in
    let same : geometry_of h ≡ g = geometry-right g h ok head.superblock in
    inr (
      three.0,
      inr (
        three.1.0,
        inr (
          three.1.1.0,
          inr (
            λ p from lower. right_numbers g h ok head state,
            inr (
              λ p from lower. subst (λ k. HasTarget k h p) (sym same) (records p (omega arith)),
              inl (refl, one_place 11 128 (HasState h) fails),
            ),
          ),
        ),
      ),
    )

-- a word of the image that is not that which was set
pub with_word-other : (w x : ℕ) (f : Words) (i : ℕ) → i ≢ w → with_word w x f i ≡ f i
with_word-other w x f i apart = cond-false (i == w) x (f i) (ne_eqb i w apart)

fresh_head_but : (g : Geometry) (w x : ℕ) → 8 ≤ w → (w ≡ commit_word) ⊎ ((w / 8 ≡ state_line) ⊎ (512 ≤ w)) → HasFreshHead g (with_word w x (fresh g))
fresh_head_but g w x from place =
    record {
      superblock = line_bytes-same (with_word w x (fresh g)) (fresh g) 0 (λ i at. with_word-other w x (fresh g) i (λ e. omega arith)) ∙ fresh-superblock g;
      others = λ i low high commit state.
          with_word-other w x (fresh g) i (λ e. elim place [ inl a ↦ commit (e ∙ a) | inr b ↦ elim b [ inl c ↦ state (ap (λ n. n / 8) e ∙ c) | inr d ↦ omega arith ] ])
          ∙ fresh_others g i low high commit state;
    }

-- where no record counts, the words are as they stand
pub journaled-none : (h : Words) (w : ℕ) → committed h ≡ 0 → is_journal_word w ≡ false → journaled h w ≡ h w
unfolding patched
journaled-none h w none outside =
    cond-false (is_journal_word w) 0 (patched (committed h) (record_target h) (record_word h) h w) outside
    ∙ ap (λ n. patched n (record_target h) (record_word h) h w) none

state_word : (w : ℕ) → base_word ≤ w → w < base_word + 8 → is_journal_word w ≡ false
state_word w from below = grind (arith, nat_tests)

-- 129 records
pub commit_word_129 : (g : Geometry) → IsGeometry g → Breaks (4096 * g.blocks) (with_word commit_word 129 (fresh g)) 11 128
commit_word_129 g ok =
    let h = with_word commit_word 129 (fresh g) in
    state-breaks g h ok (fresh_head_but g commit_word 129 (omega arith) (inl refl))
    (λ w from below. journaled-none h w refl (state_word w (omega arith) below) ∙ with_word-other commit_word 129 (fresh g) w (λ e. omega arith) ∙ fresh-state g w from below)
    (λ r below counted. absurd (omega arith))
    (λ state. let count : 129 ≤ 128 = state.count in omega arith)

-- a log base of 0, and one past 2^63
base-breaks : (g : Geometry) (x : ℕ) → IsGeometry g → ((1 ≤ x) → (x ≤ 2 ^ 63) → ⊥) → Breaks (4096 * g.blocks) (with_word base_word x (fresh g)) 11 128
base-breaks g x ok out =
    let h = with_word base_word x (fresh g) in
    let none : committed h ≡ 0 = ap (λ n. cond (nat_le n 128) n 0) (fresh-commit g) in
    let base : journaled h base_word ≡ x = journaled-none h base_word none refl in
    state-breaks g h ok (fresh_head_but g base_word x (omega arith) (inr (inl refl)))
    (λ w from below. journaled-none h w none (state_word w (omega arith) below) ∙ with_word-other base_word x (fresh g) w (λ e. omega arith) ∙ fresh-state g w from below)
    (λ r below counted. absurd (omega (arith, none)))
    (λ state. out (subst (λ n. 1 ≤ n) base state.least_base) (subst (λ n. n ≤ 2 ^ 63) base state.most_base))

pub log_base_0 : (g : Geometry) → IsGeometry g → Breaks (4096 * g.blocks) (with_word base_word 0 (fresh g)) 11 128
log_base_0 g ok = base-breaks g 0 ok (λ least most. omega arith)

pub log_base_past : (g : Geometry) → IsGeometry g → Breaks (4096 * g.blocks) (with_word base_word (2 ^ 63 + 1) (fresh g)) 11 128
log_base_past g ok = base-breaks g (2 ^ 63 + 1) ok (λ least most. omega arith)

-- One record that targets line 5 of block 0 and has the word x for it.
abbrev pub targets_line_5 : ℕ → Words → Words
targets_line_5 x f = with_word commit_word 1 (with_word 512 5 (with_word 520 x f))

-- The fresh image with it: the line of the record is no journaled one, and block 0 is read as it stands.
targets_word : (x : ℕ) (f : Words) (i : ℕ) → i ≢ commit_word → i ≢ 512 → i ≢ 520 → targets_line_5 x f i ≡ f i
targets_word x f i a b c =
    with_word-other commit_word 1 (with_word 512 5 (with_word 520 x f)) i a ∙ with_word-other 512 5 (with_word 520 x f) i b
    ∙ with_word-other 520 x f i c

targets_head : (g : Geometry) (x : ℕ) → HasFreshHead g (targets_line_5 x (fresh g))
targets_head g x =
    record {
      superblock = line_bytes-same (targets_line_5 x (fresh g)) (fresh g) 0 (λ i at. targets_word x (fresh g) i (λ e. omega arith) (λ e. omega arith) (λ e. omega arith)) ∙ fresh-superblock g;
      others = λ i low high commit state. targets_word x (fresh g) i commit (λ e. omega arith) (λ e. omega arith) ∙ fresh_others g i low high commit state;
    }

targets_state : (g : Geometry) (x w : ℕ) → base_word < w → w < base_word + 8 → journaled (targets_line_5 x (fresh g)) w ≡ 0
unfolding patched
targets_state g x w from below =
    let apart : (5 == w / 8) ≡ false = ne_eqb 5 (w / 8) (λ e. omega arith) in
    let h = targets_line_5 x (fresh g) in
    cond-false (is_journal_word w) 0 (patched (committed h) (record_target h) (record_word h) h w) (state_word w (omega arith) below)
    ∙ cond-false (5 == w / 8) (record_word h 0 (w % 8)) (h w) apart
    ∙ targets_word x (fresh g) w (λ e. omega arith) (λ e. omega arith) (λ e. omega arith) ∙ fresh-state g w from below

pub record_of_line_5 : (g : Geometry) (x : ℕ) → IsGeometry g → Breaks (4096 * g.blocks) (targets_line_5 x (fresh g)) 11 0
record_of_line_5 g x ok =
    record-breaks g (targets_line_5 x (fresh g)) 0 ok (targets_head g x) (targets_state g x) (omega arith)
    (λ p lower. absurd (omega arith))
    (λ target. let journaled_line : is_journaled_line g 5 ≡ true = target (omega arith) in both_ways (is_journaled_line g 5) (line_5 g) journaled_line)
  where
    line_5 : (g : Geometry) → is_journaled_line g 5 ≡ false
    line_5 g = grind (arith, nat_tests)

-- A nonzero line 5 that a record would set to zeros: the line is read as it stands.
pub line_5_set : (g : Geometry) (x : ℕ) → IsGeometry g → 0 < x → Breaks (4096 * g.blocks) (with_word 40 x (targets_line_5 0 (fresh g))) 4 0
line_5_set g x ok above =
    let f = targets_line_5 0 (fresh g) in
    let h = with_word 40 x f in
    numbers-breaks g h ok
    (line_bytes-same h f 0 (λ i at. with_word-other 40 x f i (λ e. omega arith)) ∙ (targets_head g 0).superblock)
    (λ numbers. let zero : x ≡ 0 = numbers.others 40 (omega arith) (omega arith) (λ e. omega arith) (λ e. omega arith) in omega arith)

-- any other word of block 0 that is set, and the rest of the line of the log base
pub word_of_block_0 : (g : Geometry) (w x : ℕ) → IsGeometry g → 8 ≤ w → w < 512 → w ≢ commit_word → w / 8 ≢ state_line → 0 < x → Breaks (4096 * g.blocks) (with_word w x (fresh g)) 4 0
word_of_block_0 g w x ok from below commit state above =
    let h = with_word w x (fresh g) in
    numbers-breaks g h ok
    (line_bytes-same h (fresh g) 0 (λ i at. with_word-other w x (fresh g) i (λ e. omega arith)) ∙ fresh-superblock g)
    (λ numbers. let own : h w ≡ x = cond-true (w == w) x (fresh g w) (eq-eqb w w refl) in omega (arith, own, numbers.others w from below commit state))
