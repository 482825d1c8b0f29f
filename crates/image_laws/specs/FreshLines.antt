-- The fresh image line by line: the superblock, the log base, five inode lines, and zeros.
use Rattle.std.specs.Prelude.{◌≡◌, ◌≢◌, ℕ, zero, suc, ◌+◌, ◌-◌, ◌/◌, ◌%◌, ◌<◌, ◌≤◌, List, ◌++◌, length, Bool, true, false, refl}
use Rattle.std.specs.Int.{to_le_bytes, w32}
use Rattle.std.proofs.Common.{arith, get_or, inl, inr, ap, sym, ◌∙◌, subst}
use Rattle.std.proofs.Math.Path.{fun_ext}
use Rattle.std.proofs.lemmas.Bool.{cases_lt, cond-true}
use Rattle.std.proofs.lemmas.Bool.Decides.{nat_tests}
use Rattle.std.proofs.lemmas.List.{get_or_past, get_or-replicate, length-replicate, get_or_append_left, get_or-append_right}
use Rattle.volume_laws.specs.pm_model.Bytes.{line_bytes-same}
use Rattle.volume_laws.specs.pm_model.Words.{word_at, line_bytes, with_line}
use Rattle.volume_laws.specs.layout_model.Fields.{zeros}
use Rattle.volume_laws.specs.layout_model.Journal.{is_journal_word, journaled}
use Rattle.volume_laws.specs.layout_model.Places.{Geometry, IsGeometry, state_line, base_word, commit_word, inode_line}
use Rattle.volume_laws.specs.layout_model.SuperLaws.{geometry_at-superblock}
use Rattle.volume_laws.specs.layout_model.Superblock.{superblock, magic, geometry_at}
use Rattle.volume_laws.specs.layout_model.declared.lines.Kind.TheVariants.{Directory, Staging}
use Rattle.volume_laws.specs.layout_model.Fresh.{empty_inode, with_inode, state_bytes, blank, staging_files, first_inodes, fresh}
use Rattle.volume_laws.specs.layout_model.Lines.{encode_inode}
use Rattle.volume_laws.specs.image_model.Reading.{AreBytes}
use Rattle.volume_laws.specs.image_model.Rules.{geometry_of}
use Rattle.volume_laws.specs.ImageLaws.{journaled-idle}
use Rattle.volume_laws.specs.LineWords.{with_line-in, with_line-out, line_bytes-set, line_bytes-other}
use Rattle.volume_laws.specs.StateLaws.{state_bytes-first, state_bytes-later}

-- Numbers that are bytes.
unfoldable pub AreSmall : List ℕ → Type 0
AreSmall xs = (k : ℕ) → get_or xs k 0 < 256

pub small-append : (xs ys : List ℕ) → AreSmall xs → AreSmall ys → AreSmall (xs ++ ys)
unfolding AreSmall
small-append xs ys h g k =
    elim (cases_lt k (length xs)) [
      | inl lt ↦ subst (λ b. b < 256) (sym (get_or_append_left xs ys 0 k lt)) (h k)
      | inr ge ↦ subst (λ b. b < 256) (sym (get_or-append_right xs ys (length xs) k 0 refl ge)) (g (k - length xs))
    ]

pub small-zeros : (n : ℕ) → AreSmall (zeros n)
unfolding AreSmall
small-zeros n k =
    elim (cases_lt k n) [
      | inl lt ↦ let e : get_or (zeros n) k 0 ≡ 0 = get_or-replicate n k 0 0 lt in omega arith
      | inr ge ↦ let e : get_or (zeros n) k 0 ≡ 0 = get_or_past (zeros n) k 0 (rw length-replicate ge) in omega arith
    ]

pub small-u32 : (n : ℕ) → AreSmall (to_le_bytes w32 n)
unfolding AreSmall
small-u32 n zero = omega arith
small-u32 n (suc zero) = omega arith
small-u32 n (suc (suc zero)) = omega arith
small-u32 n (suc (suc (suc zero))) = omega arith
small-u32 n (suc (suc (suc (suc k)))) = omega arith

small-magic : AreSmall magic
unfolding AreSmall
small-magic zero = omega arith
small-magic (suc zero) = omega arith
small-magic (suc (suc zero)) = omega arith
small-magic (suc (suc (suc zero))) = omega arith
small-magic (suc (suc (suc (suc zero)))) = omega arith
small-magic (suc (suc (suc (suc (suc zero))))) = omega arith
small-magic (suc (suc (suc (suc (suc (suc zero)))))) = omega arith
small-magic (suc (suc (suc (suc (suc (suc (suc zero))))))) = omega arith
small-magic (suc (suc (suc (suc (suc (suc (suc (suc k)))))))) = omega arith

pub superblock-bytes : (g : Geometry) → AreBytes (superblock g)
unfolding AreSmall
superblock-bytes g =
    let a = to_le_bytes w32 g.version in
    let b = to_le_bytes w32 g.blocks in
    let c = to_le_bytes w32 g.log in
    let d = to_le_bytes w32 g.inodes in
    let e = to_le_bytes w32 g.names in
    record {
      size = refl;
      small = small-append (magic ++ a ++ b ++ c ++ d ++ e) (zeros 36)
          (small-append (magic ++ a ++ b ++ c ++ d) e
          (small-append (magic ++ a ++ b ++ c) d
          (small-append (magic ++ a ++ b) c
          (small-append (magic ++ a) b (small-append magic a small-magic (small-u32 g.version)) (small-u32 g.blocks)) (small-u32 g.log)) (small-u32 g.inodes))
          (small-u32 g.names))
          (small-zeros 36);
    }

-- the superblock
pub fresh-superblock : (g : Geometry) → line_bytes (fresh g) 0 ≡ superblock g
unfolding fresh
fresh-superblock g = line_bytes-set 0 (superblock g) (with_line state_line (state_bytes 1) first_inodes) (superblock-bytes g)

pub geometry_of-fresh : (g : Geometry) → IsGeometry g → geometry_of (fresh g) ≡ g
geometry_of-fresh g ok =
    ap geometry_at (fresh-superblock g) ∙ geometry_at-superblock g ok

-- the inode lines that are set
fresh-inode_line : (g : Geometry) (line : ℕ) → line ≢ 0 → line ≢ state_line → line_bytes (fresh g) line ≡ line_bytes first_inodes line
unfolding fresh
fresh-inode_line g line first second =
    line_bytes-other 0 line (superblock g) (with_line state_line (state_bytes 1) first_inodes) first
    ∙ line_bytes-other state_line line (state_bytes 1) first_inodes second

pub fresh-root : (g : Geometry) → line_bytes (fresh g) (inode_line 0) ≡ encode_inode (empty_inode Directory 0)
unfolding line_bytes word_at
fresh-root g = fresh-inode_line g (inode_line 0) (λ e. omega arith) (λ e. omega arith) ∙ refl

line_1 : line_bytes first_inodes (inode_line 1) ≡ encode_inode (empty_inode Staging 0)
unfolding line_bytes word_at
line_1 = refl

line_2 : line_bytes first_inodes (inode_line 2) ≡ encode_inode (empty_inode Staging 0)
unfolding line_bytes word_at
line_2 = refl

line_3 : line_bytes first_inodes (inode_line 3) ≡ encode_inode (empty_inode Staging 0)
unfolding line_bytes word_at
line_3 = refl

line_4 : line_bytes first_inodes (inode_line 4) ≡ encode_inode (empty_inode Staging 0)
unfolding line_bytes word_at
line_4 = refl

pub fresh-staging : (g : Geometry) (ino : ℕ) → 1 ≤ ino → ino ≤ 4 → line_bytes (fresh g) (inode_line ino) ≡ encode_inode (empty_inode Staging 0)
fresh-staging g ino from to = fresh-inode_line g (inode_line ino) (λ e. omega arith) (λ e. omega arith) ∙ each ino from to
  where
    each : (ino : ℕ) → 1 ≤ ino → ino ≤ 4 → line_bytes first_inodes (inode_line ino) ≡ encode_inode (empty_inode Staging 0)
    each zero from to = absurd (omega arith)
    each (suc zero) from to = line_1
    each (suc (suc zero)) from to = line_2
    each (suc (suc (suc zero))) from to = line_3
    each (suc (suc (suc (suc zero)))) from to = line_4
    each (suc (suc (suc (suc (suc ino))))) from to = absurd (omega arith)

-- a word of no line that is set is zero
pub record IsUnset (line : ℕ) : Type 0 where
  pub superblock : line ≢ 0
  pub state : line ≢ state_line
  pub inodes : (ino : ℕ) → ino ≤ 4 → line ≢ inode_line ino

pub fresh-zero : (g : Geometry) (w : ℕ) → IsUnset (w / 8) → fresh g w ≡ 0
unfolding fresh
fresh-zero g w unset =
    let s = empty_inode Staging 0 in
    with_line-out 0 (superblock g) (with_line state_line (state_bytes 1) first_inodes) w unset.superblock
    ∙ with_line-out state_line (state_bytes 1) first_inodes w unset.state
    ∙ with_line-out (inode_line 0) (encode_inode (empty_inode Directory 0)) staging_files w (unset.inodes 0 (omega arith))
    ∙ with_line-out (inode_line 1) (encode_inode s) (with_inode 2 s (with_inode 3 s (with_inode 4 s blank))) w (unset.inodes 1 (omega arith))
    ∙ with_line-out (inode_line 2) (encode_inode s) (with_inode 3 s (with_inode 4 s blank)) w (unset.inodes 2 (omega arith))
    ∙ with_line-out (inode_line 3) (encode_inode s) (with_inode 4 s blank) w (unset.inodes 3 (omega arith))
    ∙ with_line-out (inode_line 4) (encode_inode s) blank w (unset.inodes 4 (omega arith))

pub fresh-zeros : (g : Geometry) (line : ℕ) → IsUnset line → line_bytes (fresh g) line ≡ zeros 64
unfolding line_bytes
fresh-zeros g line unset =
    line_bytes-same (fresh g) blank line (λ i at. fresh-zero g i (subst IsUnset (sym at) unset)) ∙ refl

-- the line of the log base
pub fresh-base : (g : Geometry) → fresh g base_word ≡ 1
unfolding fresh
fresh-base g =
    with_line-out 0 (superblock g) (with_line state_line (state_bytes 1) first_inodes) base_word (λ e. omega arith)
    ∙ with_line-in state_line (state_bytes 1) first_inodes base_word refl ∙ state_bytes-first 1 (omega arith)

pub fresh-state : (g : Geometry) (w : ℕ) → base_word < w → w < base_word + 8 → fresh g w ≡ 0
unfolding fresh
fresh-state g w from below =
    with_line-out 0 (superblock g) (with_line state_line (state_bytes 1) first_inodes) w (λ e. omega arith)
    ∙ with_line-in state_line (state_bytes 1) first_inodes w (omega arith) ∙ state_bytes-later 1 (w % 8) (omega arith) (omega arith)

-- nothing is pending, so that the words are those that recovery leaves
journal-unset : (w : ℕ) → is_journal_word w ≡ true → IsUnset (w / 8)
journal-unset w h =
    record {
      superblock = λ e. grind (arith, nat_tests);
      state = λ e. grind (arith, nat_tests);
      inodes = λ ino below e. grind (arith, nat_tests);
    }

pub fresh-commit : (g : Geometry) → fresh g commit_word ≡ 0
fresh-commit g = fresh-zero g commit_word (journal-unset commit_word refl)

pub journaled-fresh : (g : Geometry) → journaled (fresh g) ≡ fresh g
journaled-fresh g = fun_ext (λ w. by w (is_journal_word w) refl)
  where
    by : (w : ℕ) (b : Bool) → is_journal_word w ≡ b → journaled (fresh g) w ≡ fresh g w
    by w false e = journaled-idle (fresh g) w (fresh-commit g) e
    by w true e = cond-true (is_journal_word w) 0 _ e ∙ sym (fresh-zero g w (journal-unset w e))
