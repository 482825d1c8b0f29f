-- Laws of checked images: the rules by their parts and back, and as a list.
use Rattle.std.specs.Prelude.{◌≡◌, ◌↔◌, ℕ, ◌+◌, ◌<◌, ◌≤◌, true, Option, Some, None, unwrap_or, slice_index_or, refl}
use Rattle.std.proofs.Common.{arith, ap, sym, ◌∙◌, subst}
use Rattle.std.proofs.lemmas.Bool.Decides.{nat_tests}
use Rattle.std.proofs.lemmas.List.FromFn.{length-map-range_with_len, get_or-map-range_with_len}
use Rattle.volume_laws.specs.pm_model.Words.{Words}
use Rattle.volume_laws.specs.layout_model.Journal.{journaled}
use Rattle.volume_laws.specs.layout_model.Places.{Geometry, base_word, first_data, data_blocks, is_data_block}
use Rattle.volume_laws.specs.layout_model.declared.lines.Inode.{Inode}
use Rattle.volume_laws.specs.layout_model.Lines.{NameRow, NameSlot, FreeName, Named, BadName}
use Rattle.volume_laws.specs.layout_model.Names.{row}
use Rattle.volume_laws.specs.RuleLaws.{volume-of_words, chain-of_rule}
use Rattle.volume_laws.specs.image_model.Broken.{HoldAll, Breaks, head_rules, line_rules, rules_of}
use Rattle.volume_laws.specs.image_model.Checked.{HasHead, AreLinesKept, IsLogKept, IsCheckedAs}
use Rattle.volume_laws.specs.image_model.Chains.{chain_of, map_of}
use Rattle.volume_laws.specs.image_model.Kept.{IsNamedRow, AreKept}
use Rattle.volume_laws.specs.image_model.Reading.{slot_for, Reads}
use Rattle.volume_laws.specs.image_model.Rules.{geometry_of, IsKindAt, IsNameSlot, HasInode, AreRulesKept, IsChecked}
use Rattle.volume_laws.specs.image_model.Volume.{Volume, volume, inode_at, name_at, inode_or_free, free_inode, row_of, inode, chain}
use Rattle.volume_laws.specs.ReadingLaws.{reads-volume}
use Rattle.image_laws.specs.BrokenLaws.{HoldAll-unbroken, BreaksFirst-one}

-- What stands in the lines of a volume that is read from words.
pub volume-inode : (g : Geometry) (j : Words) (ino : ℕ) → ino < g.inodes → inode (volume g j) ino ≡ inode_or_free j ino
unfolding volume
volume-inode g j ino below = get_or-map-range_with_len (inode_or_free j) 0 g.inodes ino ino free_inode below (omega arith)

pub volume-row : (g : Geometry) (j : Words) (k : ℕ) → k < g.names → row (volume g j).names k ≡ row_of (name_at g j k)
unfolding volume
volume-row g j k below = get_or-map-range_with_len (λ i. row_of (name_at g j i)) 0 g.names k k None below (omega arith)

line-is : (o : Option Inode) (x : Inode) → o ≡ Some x → o ≡ Some (unwrap_or o free_inode)
line-is o x e = e ∙ ap (λ (p : Option Inode). Some (unwrap_or p free_inode)) (sym e)

slot-is : (v : Volume) (s : NameSlot) → IsNameSlot v s → s ≡ slot_for (row_of s)
slot-is v FreeName named = refl
slot-is v (Named r) named = refl
slot-is v BadName named = absurd named

-- where each line is one, the words read as their volume
pub reads-lines : (g : Geometry) (j : Words) → ((w : ℕ) → base_word < w → w < base_word + 8 → j w ≡ 0) → AreLinesKept (volume g j) j → Reads g j (volume g j)
unfolding volume
reads-lines g j zeros lines =
    record {
      geometry = refl;
      base = refl;
      state = zeros;
      inode_count = length-map-range_with_len (inode_or_free j) 0 g.inodes;
      name_count = length-map-range_with_len (λ k. row_of (name_at g j k)) 0 g.names;
      chain_count = length-map-range_with_len (λ ino. chain_of j (inode_or_free j ino)) 0 g.inodes;
      map_count = length-map-range_with_len (λ ino. map_of j (inode_or_free j ino)) 0 g.inodes;
      inodes = λ ino below.
          line-is (inode_at j ino) (lines.inodes ino below).line (lines.inodes ino below).is
          ∙ ap (λ (x : Inode). Some x) (sym (volume-inode g j ino below));
      names = λ k below. slot-is (volume g j) (name_at g j k) (lines.names k below) ∙ ap slot_for (sym (volume-row g j k below));
      chains = λ ino below. chain-of_rule (volume g j) j ino (volume-of_words g j ino below) (lines.chains ino below);
      blocks = λ ino below. (lines.chains ino below).blocks;
    }

-- Rules 5, 6 and 7 of words that read as a volume which keeps the rules.
slot-named : (v : Volume) (o : Option NameRow) → IsNamedRow v o → IsNameSlot v (slot_for o)
slot-named v None named = tt
slot-named v (Some r) named = named

pub lines-read : (g : Geometry) (j : Words) (v : Volume) → Reads g j v → AreKept v → AreLinesKept v j
lines-read g j v r kept =
    let within = λ (ino : ℕ) (below : ino < v.geometry.inodes). subst (λ (h : Geometry). ino < h.inodes) r.geometry below in
    let within_names = λ (k : ℕ) (below : k < v.geometry.names). subst (λ (h : Geometry). k < h.names) r.geometry below in
    record {
      inodes = λ ino below. record { line = inode v ino; is = r.inodes ino (within ino below); kind = kept.kinds ino below };
      names = λ k below.
          subst (IsNameSlot v) (sym (r.names k (within_names k below)) ∙ ap (λ h. name_at h j k) (sym r.geometry))
          (slot-named v (row v.names k) (kept.named k below));
      chains = λ ino below.
          record {
            spelled = (r.chains ino (within ino below)).map.spelled;
            count = (r.chains ino (within ino below)).map.counted;
            blocks = λ k d lt. subst (λ (h : Geometry). is_data_block h (slice_index_or (chain v ino) k d) ≡ true) (sym r.geometry) (r.blocks ino (within ino below) k d lt);
            canonical = (r.chains ino (within ino below)).map.canonical;
            in_data = kept.in_data ino below;
          };
    }

-- What a checked image gives.

named-row : (v : Volume) (s : NameSlot) → IsNameSlot v s → IsNamedRow v (row_of s)
named-row v FreeName named = tt
named-row v (Named r) named = named
named-row v BadName named = absurd named

pub head-checked : (bytes : ℕ) (f : Words) → IsChecked bytes f → HasHead bytes f
head-checked bytes f c =
    record {
      whole_blocks = c.rule_1;
      magic = c.rule_2;
      version = c.rule_3;
      numbers = c.rule_4;
      records = c.rule_11_records;
      state = c.rule_11_state;
    }

pub reads-checked : (bytes : ℕ) (f : Words) → IsChecked bytes f → Reads (geometry_of f) (journaled f) (volume (geometry_of f) (journaled f))
unfolding volume
reads-checked bytes f c =
    reads-lines (geometry_of f) (journaled f) c.rule_4.state (record { inodes = c.rule_5; names = c.rule_6; chains = c.rule_7 })

kept-lines : (g : Geometry) (j : Words) (ino : ℕ) → ino < g.inodes → (h : HasInode j ino) → (inode (volume g j) ino).kind ≡ h.line.kind
kept-lines g j ino below h =
    ap (λ (x : Inode). x.kind) (volume-inode g j ino below) ∙ ap (λ (o : Option Inode). (unwrap_or o free_inode).kind) h.is

pub kept-checked : (bytes : ℕ) (f : Words) → IsChecked bytes f → AreKept (volume (geometry_of f) (journaled f))
unfolding volume
kept-checked bytes f c =
    let g = geometry_of f in
    let j = journaled f in
    record {
      kinds = λ ino below. subst (IsKindAt ino) (sym (kept-lines g j ino below (c.rule_5 ino below))) (c.rule_5 ino below).kind;
      named = λ k below. subst (IsNamedRow (volume g j)) (sym (volume-row g j k below)) (named-row (volume g j) (name_at g j k) (c.rule_6 k below));
      in_data = λ ino below. (c.rule_7 ino below).in_data;
      once = c.rule_8;
      placed = c.rule_9_lines;
      directories = c.rule_9_directories;
      one_name = c.rule_10;
    }

pub log-checked : (bytes : ℕ) (f : Words) → IsChecked bytes f → IsLogKept (volume (geometry_of f) (journaled f)) (journaled f)
log-checked bytes f c = record { recovers = c.rule_12; no_later = c.rule_13 }

-- A checked image is the conjunction of its four parts: from the rules to the parts, and back, whatever volume it
-- reads as.
pub parts-checked : (bytes : ℕ) (f : Words) → IsChecked bytes f → IsCheckedAs bytes f (volume (geometry_of f) (journaled f))
parts-checked bytes f c =
    record { head = head-checked bytes f c; reads = reads-checked bytes f c; kept = kept-checked bytes f c; log = log-checked bytes f c }

pub rules-parts : (bytes : ℕ) (f : Words) (v : Volume) → IsCheckedAs bytes f v → AreRulesKept bytes f v (journaled f)
rules-parts bytes f v parts =
    let lines = lines-read (geometry_of f) (journaled f) v parts.reads parts.kept in
    record {
      rule_1 = parts.head.whole_blocks;
      rule_2 = parts.head.magic;
      rule_3 = parts.head.version;
      rule_4 = parts.head.numbers;
      rule_11_records = parts.head.records;
      rule_11_state = parts.head.state;
      rule_5 = lines.inodes;
      rule_6 = lines.names;
      rule_7 = lines.chains;
      rule_8 = parts.kept.once;
      rule_9_lines = parts.kept.placed;
      rule_9_directories = parts.kept.directories;
      rule_10 = parts.kept.one_name;
      rule_12 = parts.log.recovers;
      rule_13 = parts.log.no_later;
    }

pub checked-parts : (bytes : ℕ) (f : Words) (v : Volume) → IsCheckedAs bytes f v → IsChecked bytes f
checked-parts bytes f v parts =
    subst (λ w. AreRulesKept bytes f w (journaled f)) (sym (reads-volume (geometry_of f) (journaled f) v parts.reads)) (rules-parts bytes f v parts)

-- The rules as a list.

pub data-within : (g : Geometry) (b : ℕ) → first_data g ≤ b → b < first_data g + data_blocks g → is_data_block g b ≡ true
data-within g b from below = grind (arith, nat_tests)

within-data : (g : Geometry) (b : ℕ) → is_data_block g b ≡ true → (first_data g ≤ b) × (b < first_data g + data_blocks g)
within-data g b h = grind (arith, nat_tests)

pub HoldAll-kept : (bytes : ℕ) (f : Words) (v : Volume) (j : Words) → AreRulesKept bytes f v j → HoldAll (rules_of bytes f v j)
HoldAll-kept bytes f v j c = (
  λ p from below. c.rule_1,
  (
    λ p from below. c.rule_2,
    (
      λ p from below. c.rule_3,
      (
        λ p from below. c.rule_4,
        (
          λ p from below. c.rule_11_records p (omega arith),
          (
            λ p from below. c.rule_11_state,
            (
              λ p from below. c.rule_5 p (omega arith),
              (
                λ p from below. c.rule_6 p (omega arith),
                (
                  λ p from below. c.rule_7 p (omega arith),
                  (
                    λ p from below. c.rule_8 p (data-within v.geometry p from below),
                    (
                      λ p from below. c.rule_9_lines p (omega arith),
                      (
                        λ p from below. c.rule_9_directories,
                        (
                          λ p from below. c.rule_10 p (omega arith),
                          (λ p from below. c.rule_12, (λ p from below. c.rule_13 p (omega arith), tt)),
                        ),
                      ),
                    ),
                  ),
                ),
              ),
            ),
          ),
        ),
      ),
    ),
  ),
)

pub kept-HoldAll : (bytes : ℕ) (f : Words) (v : Volume) (j : Words) → HoldAll (rules_of bytes f v j) → AreRulesKept bytes f v j
kept-HoldAll bytes f v j (r1, (r2, (r3, (r4, (records, (state, (r5, (r6, (r7, (r8, (lines, (directories, (r10, (r12, (r13, end))))))))))))))) =
    record {
      rule_1 = r1 bytes (omega arith) (omega arith);
      rule_2 = r2 0 (omega arith) (omega arith);
      rule_3 = r3 0 (omega arith) (omega arith);
      rule_4 = r4 0 (omega arith) (omega arith);
      rule_11_records = λ r below. records r (omega arith) (omega arith);
      rule_11_state = state 128 (omega arith) (omega arith);
      rule_5 = λ ino below. r5 ino (omega arith) (omega arith);
      rule_6 = λ k below. r6 k (omega arith) (omega arith);
      rule_7 = λ ino below. r7 ino (omega arith) (omega arith);
      rule_8 = λ b h. let in_data = within-data v.geometry b h in r8 b in_data.0 in_data.1;
      rule_9_lines = λ k below. lines k (omega arith) (omega arith);
      rule_9_directories = directories v.geometry.names (omega arith) (omega arith);
      rule_10 = λ ino below. r10 ino (omega arith) (omega arith);
      rule_12 = r12 0 (omega arith) (omega arith);
      rule_13 = λ slot below. r13 slot (omega arith) (omega arith);
    }

-- The rules of the head, and of the lines.
pub HoldAll-head : (bytes : ℕ) (f : Words) → HasHead bytes f → HoldAll (head_rules bytes f)
HoldAll-head bytes f head = (
  λ p from below. head.whole_blocks,
  (
    λ p from below. head.magic,
    (
      λ p from below. head.version,
      (λ p from below. head.numbers, (λ p from below. head.records p (omega arith), (λ p from below. head.state, tt))),
    ),
  ),
)

pub HoldAll-lines : (v : Volume) (j : Words) → AreLinesKept v j → HoldAll (line_rules v j)
HoldAll-lines v j lines = (
  λ p from below. lines.inodes p (omega arith),
  (λ p from below. lines.names p (omega arith), (λ p from below. lines.chains p (omega arith), tt)),
)

-- a checked image breaks no rule
pub checked-unbroken : (bytes : ℕ) (f : Words) (number place : ℕ) → IsChecked bytes f → Breaks bytes f number place → ⊥
checked-unbroken bytes f number place c =
    let v = volume (geometry_of f) (journaled f) in
    HoldAll-unbroken (rules_of bytes f v (journaled f)) number place (HoldAll-kept bytes f v (journaled f) c)

-- two first broken rules of an image are one rule, at one place
pub Breaks-one : (bytes : ℕ) (f : Words) (m p n q : ℕ) → Breaks bytes f m p → Breaks bytes f n q → (m ≡ n) × (p ≡ q)
Breaks-one bytes f = BreaksFirst-one (rules_of bytes f (volume (geometry_of f) (journaled f)) (journaled f))

-- and its rules are those of the list
pub checked-HoldAll : (bytes : ℕ) (f : Words) → IsChecked bytes f ↔ HoldAll (rules_of bytes f (volume (geometry_of f) (journaled f)) (journaled f))
checked-HoldAll bytes f =
    let v = volume (geometry_of f) (journaled f) in
    (HoldAll-kept bytes f v (journaled f), kept-HoldAll bytes f v (journaled f))
