-- The first broken rule of fresh images in which inode lines or name lines were set.
use Rattle.std.specs.Prelude.{◌≡◌, ◌≢◌, ℕ, zero, suc, ◌*◌, ◌/◌, ◌<◌, ◌≤◌, ◌++◌, nat_lt, true, false, Bool, List, [], ◌∷◌, length, Some, refl}
use Rattle.std.specs.List.{list_all}
use Rattle.std.proofs.Common.{arith, get_or, inl, inr, ap, sym, ◌∙◌, subst}
use Rattle.std.proofs.Math.Path.{fun_ext}
use Rattle.std.proofs.lemmas.Bool.{cond-true, and_parts, ltb-true}
use Rattle.std.proofs.lemmas.Bool.Decides.{nat_tests}
use Rattle.volume_laws.specs.pm_model.Bytes.{line_bytes-same}
use Rattle.volume_laws.specs.pm_model.Words.{Words, line_bytes, with_line}
use Rattle.volume_laws.specs.layout_model.Journal.{is_journal_word, committed, journaled}
use Rattle.volume_laws.specs.layout_model.Places.{Geometry, IsGeometry, base_word, commit_word, inode_line, name_line}
use Rattle.volume_laws.specs.layout_model.PlaceLaws.{inode_line-name_line}
use Rattle.volume_laws.specs.layout_model.Superblock.{superblock, has_magic, has_version, has_numbers, geometry_at}
use Rattle.volume_laws.specs.layout_model.declared.lines.Inode.{Inode}
use Rattle.volume_laws.specs.layout_model.Fresh.{fresh}
use Rattle.volume_laws.specs.layout_model.Lines.{FreeName, decode_inode, decode_name}
use Rattle.volume_laws.specs.layout_model.NameLaws.{decode_name-zeros}
use Rattle.volume_laws.specs.image_model.Broken.{BreaksFirst, head_rules, line_rules, volume_rules, log_rules, rules_of, Breaks}
use Rattle.volume_laws.specs.image_model.Checked.{HasHead}
use Rattle.volume_laws.specs.image_model.FreshVolume.{fresh_inode}
use Rattle.volume_laws.specs.image_model.Reading.{Reads, AreBytes}
use Rattle.volume_laws.specs.image_model.Rules.{geometry_of, IsKindAt, HasInode, IsNameSlot}
use Rattle.volume_laws.specs.image_model.Volume.{Volume, volume, name_at}
use Rattle.volume_laws.specs.ImageLaws.{journaled-idle}
use Rattle.volume_laws.specs.LineWords.{with_line-out, line_bytes-set, line_bytes-other}
use Rattle.image_laws.specs.BrokenLaws.{BreaksFirst-behind}
use Rattle.image_laws.specs.CheckedLaws.{HoldAll-head}
use Rattle.image_laws.specs.KeptRules.{kept_rules, reads-break}
use Rattle.image_laws.specs.FreshLaws.{kind-fresh, line-fresh, unset-name, fresh-head}
use Rattle.image_laws.specs.FreshLines.{fresh-superblock, geometry_of-fresh, fresh-zeros, fresh-base, fresh-state, journaled-fresh}
use Rattle.image_laws.specs.HeadDamage.{fresh_others}

-- 64 numbers below 256, by a test
pub AreBytes-test : (bytes : List ℕ) → length bytes ≡ 64 → list_all (λ b. nat_lt b 256) bytes ≡ true → AreBytes bytes
AreBytes-test bytes size small = record { size = size; small = each bytes small }
  where
    each : (xs : List ℕ) → list_all (λ b. nat_lt b 256) xs ≡ true → (k : ℕ) → get_or xs k 0 < 256
    each [] h k = omega arith
    each (x ∷ xs) h zero = ltb-true x 256 (and_parts (nat_lt x 256) (list_all (λ b. nat_lt b 256) xs) h).0
    each (x ∷ xs) h (suc k) = each xs (and_parts (nat_lt x 256) (list_all (λ b. nat_lt b 256) xs) h).1 k

-- The words are those of the fresh image in block 0, and nothing is in the journal.
pub record IsLaidOn (g : Geometry) (h : Words) : Type 0 where
  pub head : (w : ℕ) → w < 512 → h w ≡ fresh g w
  pub journal : (w : ℕ) → is_journal_word w ≡ true → h w ≡ 0

pub laid-fresh : (g : Geometry) → IsLaidOn g (fresh g)
laid-fresh g =
    record {
      head = λ w below. refl;
      journal = λ w h. ap (λ (f : Words). f w) (sym (journaled-fresh g)) ∙ cond-true (is_journal_word w) 0 _ h;
    }

-- a line behind the journal is set
pub laid-line : (g : Geometry) (f : Words) (line : ℕ) (bytes : List ℕ) → IsLaidOn g f → inode_line 0 ≤ line → IsLaidOn g (with_line line bytes f)
laid-line g f line bytes laid behind =
    record {
      head = λ w below. with_line-out line bytes f w (λ e. omega arith) ∙ laid.head w below;
      journal = λ w h. with_line-out line bytes f w (λ e. in_journal w line h behind e) ∙ laid.journal w h;
    }
  where
    in_journal : (w line : ℕ) → is_journal_word w ≡ true → inode_line 0 ≤ line → w / 8 ≢ line
    in_journal w line h behind e = grind (arith, nat_tests)

-- so nothing is pending, and the head is right
laid-commit : (g : Geometry) (h : Words) → IsLaidOn g h → h commit_word ≡ 0
laid-commit g h laid = laid.journal commit_word refl

pub laid-view : (g : Geometry) (h : Words) → IsLaidOn g h → journaled h ≡ h
laid-view g h laid = fun_ext (λ w. by w (is_journal_word w) refl)
  where
    by : (w : ℕ) (b : Bool) → is_journal_word w ≡ b → journaled h w ≡ h w
    by w false e = journaled-idle h w (laid-commit g h laid) e
    by w true e = cond-true (is_journal_word w) 0 _ e ∙ sym (laid.journal w e)

laid-superblock : (g : Geometry) (h : Words) → IsLaidOn g h → line_bytes h 0 ≡ superblock g
laid-superblock g h laid = line_bytes-same h (fresh g) 0 (λ i at. laid.head i (omega arith)) ∙ fresh-superblock g

pub laid-geometry : (g : Geometry) (h : Words) → IsGeometry g → IsLaidOn g h → geometry_of h ≡ g
laid-geometry g h ok laid =
    ap (λ bytes. geometry_at bytes) (line_bytes-same h (fresh g) 0 (λ i at. laid.head i (omega arith))) ∙ geometry_of-fresh g ok

pub laid-head : (g : Geometry) (h : Words) → IsGeometry g → IsLaidOn g h → HasHead (4096 * g.blocks) h
laid-head g h ok laid =
    let head = fresh-head g ok in
    let line = line_bytes-same h (fresh g) 0 (λ i at. laid.head i (omega arith)) in
    let view = laid-view g h laid in
    let none : committed h ≤ 0 = let zero = laid-commit g h laid in grind (arith, nat_tests) in
    let base : journaled h base_word ≡ 1 = ap (λ (f : Words). f base_word) view ∙ laid.head base_word (omega arith) ∙ fresh-base g in
    record {
      whole_blocks = head.whole_blocks;
      magic = ap has_magic line ∙ head.magic;
      version = ap has_version line ∙ head.version;
      numbers = record {
        numbers = ap has_numbers line ∙ head.numbers.numbers;
        whole = ap (λ (k : Geometry). 4096 * k.blocks) (sym (laid-geometry g h ok laid));
        state = λ w from below. ap (λ (f : Words). f w) view ∙ laid.head w (omega arith) ∙ fresh-state g w from below;
        others = λ w from below commit state. laid.head w below ∙ fresh_others g w from below commit state;
      };
      records = λ r below counted. absurd (omega arith);
      state = record {
        count = omega (arith, laid-commit g h laid);
        least_base = omega (arith, base);
        most_base = omega (arith, base);
      };
    }

-- The rules behind the head.
pub breaks-behind_head : (g : Geometry) (h : Words) (number place : ℕ) → IsGeometry g → IsLaidOn g h
    → BreaksFirst (line_rules (volume g h) h ++ volume_rules (volume g h) ++ log_rules (volume g h) h) number place → Breaks (4096 * g.blocks) h number place
breaks-behind_head g h number place ok laid breaks =
    let bytes = 4096 * g.blocks in
    let here : BreaksFirst (rules_of bytes h (volume g h) h) number place =
    BreaksFirst-behind (head_rules bytes h) (line_rules (volume g h) h ++ volume_rules (volume g h) ++ log_rules (volume g h) h) number place
    (HoldAll-head bytes h (laid-head g h ok laid)) breaks
    in
    subst (λ k. BreaksFirst (rules_of bytes h (volume k (journaled h)) (journaled h)) number place) (sym (laid-geometry g h ok laid))
    (subst (λ j. BreaksFirst (rules_of bytes h (volume g j) j) number place) (sym (laid-view g h laid)) here)

-- words laid on a fresh image that read as a volume break first what the volume does
pub laid-break : (g : Geometry) (h : Words) (v : Volume) (n place : ℕ) → IsGeometry g → IsLaidOn g h → Reads g h v → BreaksFirst (kept_rules v ++ log_rules v h) n place
    → Breaks (4096 * g.blocks) h n place
laid-break g h v n place ok laid r breaks =
    let view = laid-view g h laid in
    reads-break (4096 * g.blocks) h v n place (laid-head g h ok laid)
    (subst (λ k. Reads k (journaled h) v) (sym (laid-geometry g h ok laid)) (subst (λ j. Reads g j v) (sym view) r))
    (subst (λ j. BreaksFirst (kept_rules v ++ log_rules v j) n place) (sym view) breaks)

-- Rule 5: an inode line that is none, or of a kind that may not stand there.
fresh-has_inode : (g : Geometry) (h : Words) (ino : ℕ) → line_bytes h (inode_line ino) ≡ line_bytes (fresh g) (inode_line ino) → HasInode h ino
fresh-has_inode g h ino same = record { line = fresh_inode ino; is = ap decode_inode same ∙ line-fresh g ino; kind = kind-fresh ino }

pub inode_line-breaks : (g : Geometry) (i : ℕ) (bytes : List ℕ) → IsGeometry g → i < g.inodes → AreBytes bytes
    → ((x : Inode) → decode_inode bytes ≡ Some x → ¬ IsKindAt i x.kind) → Breaks (4096 * g.blocks) (with_line (inode_line i) bytes (fresh g)) 5 i
unfolding volume
inode_line-breaks g i bytes ok within are wrong =
    let h = with_line (inode_line i) bytes (fresh g) in
    breaks-behind_head g h 5 i ok (laid-line g (fresh g) (inode_line i) bytes (laid-fresh g) (omega arith))
    (inl (
      refl,
      record {
        from = omega arith;
        within = omega arith;
        before = λ p from lower. fresh-has_inode g h p (line_bytes-other (inode_line i) (inode_line p) bytes (fresh g) (λ e. omega arith));
        fails = λ has. wrong has.line (ap decode_inode (sym (line_bytes-set (inode_line i) bytes (fresh g) are)) ∙ has.is) has.kind;
      },
    ))

-- Rule 6: a name line that is none, or of a child or a parent that may not stand there.
fresh-slot : (g : Geometry) (h : Words) (k : ℕ) → IsGeometry g → line_bytes h (name_line g k) ≡ line_bytes (fresh g) (name_line g k) → name_at g h k ≡ FreeName
fresh-slot g h k ok same = ap decode_name (same ∙ fresh-zeros g (name_line g k) (unset-name g k ok)) ∙ decode_name-zeros

pub name_line-breaks : (g : Geometry) (k : ℕ) (bytes : List ℕ) → IsGeometry g → k < g.names → AreBytes bytes
    → ¬ IsNameSlot (volume g (with_line (name_line g k) bytes (fresh g))) (decode_name bytes) → Breaks (4096 * g.blocks) (with_line (name_line g k) bytes (fresh g)) 6 k
unfolding volume
name_line-breaks g k bytes ok within are wrong =
    let h = with_line (name_line g k) bytes (fresh g) in
    let v = volume g h in
    breaks-behind_head g h 6 k ok (laid-line g (fresh g) (name_line g k) bytes (laid-fresh g) (omega arith))
    (inr (
      λ p from below. fresh-has_inode g h p (line_bytes-other (name_line g k) (inode_line p) bytes (fresh g) (inode_line-name_line g p k (omega arith))),
      inl (
        refl,
        record {
          from = omega arith;
          within = omega arith;
          before = λ p from lower.
              subst (IsNameSlot v) (sym (fresh-slot g h p ok (line_bytes-other (name_line g k) (name_line g p) bytes (fresh g) (λ e. omega arith)))) tt;
          fails = λ named. wrong (subst (IsNameSlot v) (ap decode_name (line_bytes-set (name_line g k) bytes (fresh g) are)) named);
        },
      ),
    ))
