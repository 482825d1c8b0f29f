-- The rules of the lines and of the volume, in their order, and what they give for tables.
use Rattle.std.proofs.Common.{◌≡◌, ℕ, ◌<◌, ◌⊎◌, List, [], ◌∷◌, ◌++◌, length, All, true, None, refl, sym, ◌∙◌, ap, subst, arith, inl, inr}
use Rattle.std.specs.Prelude.{slice_index_or, Result, Ok, Err, IfOk, IfErr, OnOk}
use Rattle.std.proofs.lemmas.Bool.{cases_lt, both_ways}
use Rattle.std.proofs.lemmas.List.{get_or_default, get_or_past}
use Rattle.k_journal.specs.pm_model.Words.{Words}
use Rattle.k_journal.specs.layout_model.Journal.{journaled}
use Rattle.k_journal.specs.layout_model.Places.{Geometry, IsGeometry, base_word, first_data, data_blocks, is_data_block}
use Rattle.k_reading.specs.block_pool.FreeSets.{LiesWithin}
use Rattle.k_reading.specs.extent_model.declared.extent_words.Extent.{Extent}
use Rattle.k_reading.specs.layout_model.declared.lines.Inode.{Inode}
use Rattle.k_reading.specs.layout_model.Lines.{NameSlot, FreeName, Named, BadName}
use Rattle.k_reading.specs.layout_model.Names.{Rows, row}
use Rattle.k_reading.specs.image_model.Broken.{Rule, Holds, HoldAll, FailsFirst, BreaksFirst, line_rules, volume_rules, head_rules}
use Rattle.k_reading.specs.image_model.Checked.{HasHead}
use Rattle.k_reading.specs.image_model.Live.{is_file, is_directory}
use Rattle.k_reading.specs.image_model.Rules.{geometry_of, file_blocks_of, IsInData, IsNameSlot}
use Rattle.k_reading.specs.image_model.Volume.{Volume, volume, name_at, row_of, inode, chain, extents, free_inode}
use Rattle.k_reading.specs.image_laws.BrokenLaws.{HoldAll-append, BreaksFirst-behind, BreaksFirst-before}
use Rattle.k_reading.specs.image_laws.CheckedLaws.{volume-row, HoldAll-head}
use Rattle.k_reading.specs.Pools.{IsOfTables}
use Rattle.k_reading.specs.volume_laws.ReadingLaws.{volume-geometry}
use Rattle.check_image.specs.Above.{HasChildBelow}
use Rattle.check_image.specs.LineRules.{inodes_rule, names_rule, chains_rule}
use Rattle.check_image.specs.Readings.{AreOf, AreGood, blocks_rule, tree_rules, body_rules, front_rules}
use Rattle.check_image.proofs.LineFacts.{count-inodes, count-names, count-chains, count-maps}

-- the rules of the lines of a volume that is read from words
abbrev rules_at : Geometry → Volume → Words → List Rule
rules_at g v j = inodes_rule g j ∷ names_rule g v j ∷ chains_rule g v j ∷ []

line-breaks : (g : Geometry) (j : Words) (number place : ℕ) → BreaksFirst (rules_at g (volume g j) j) number place → BreaksFirst (line_rules (volume g j) j) number place
line-breaks g j number place breaks = subst (λ h. BreaksFirst (rules_at h (volume g j) j) number place) (sym (volume-geometry g j)) breaks

pub breaks-inodes : (g : Geometry) (j : Words) (place : ℕ) → FailsFirst (inodes_rule g j) place → BreaksFirst (line_rules (volume g j) j) 5 place
breaks-inodes g j place fails = line-breaks g j 5 place (inl (refl, fails))

pub breaks-names : (g : Geometry) (j : Words) (place : ℕ) → Holds (inodes_rule g j) → FailsFirst (names_rule g (volume g j) j) place
    → BreaksFirst (line_rules (volume g j) j) 6 place
breaks-names g j place inodes fails = line-breaks g j 6 place (inr (inodes, inl (refl, fails)))

pub breaks-chains : (g : Geometry) (j : Words) (place : ℕ) → Holds (inodes_rule g j) → Holds (names_rule g (volume g j) j)
    → FailsFirst (chains_rule g (volume g j) j) place → BreaksFirst (line_rules (volume g j) j) 7 place
breaks-chains g j place inodes names fails = line-breaks g j 7 place (inr (inodes, inr (names, inl (refl, fails))))

pub lines-hold : (g : Geometry) (j : Words) → Holds (inodes_rule g j) → Holds (names_rule g (volume g j) j) → Holds (chains_rule g (volume g j) j)
    → HoldAll (line_rules (volume g j) j)
lines-hold g j inodes names chains =
    subst (λ h. HoldAll (rules_at h (volume g j) j)) (sym (volume-geometry g j)) (inodes, (names, (chains, tt)))

lines-held : (g : Geometry) (j : Words) → HoldAll (line_rules (volume g j) j) → HoldAll (rules_at g (volume g j) j)
lines-held g j hold = subst (λ h. HoldAll (rules_at h (volume g j) j)) (volume-geometry g j) hold

-- What they give for the tables.
node-below : (v : Volume) (ino : ℕ) → (is_directory (inode v ino).kind ≡ true) ⊎ (is_file (inode v ino).kind ≡ true) → ino < length v.inodes
node-below v ino node = elim (cases_lt ino (length v.inodes)) [
  | inl within ↦ within
  | inr past ↦ absurd (elim node [
    | inl directory ↦ both_ways (is_directory (inode v ino).kind) (ap (λ (x : Inode). is_directory x.kind) (get_or_past v.inodes ino free_inode past)) directory
    | inr file ↦ both_ways (is_file (inode v ino).kind) (ap (λ (x : Inode). is_file x.kind) (get_or_past v.inodes ino free_inode past)) file
  ])
]

child-of_slot : (v : Volume) (s : NameSlot) → IsNameSlot v s → HasChildBelow (length v.inodes) (row_of s)
child-of_slot v FreeName named = tt
child-of_slot v (Named r) named = node-below v r.child named.0
child-of_slot v BadName named = tt

child-of_row : (g : Geometry) (j : Words) → Holds (names_rule g (volume g j) j) → (k : ℕ) → HasChildBelow (length (volume g j).inodes) (row (volume g j).names k)
child-of_row g j names k = elim (cases_lt k g.names) [
  | inl within ↦
      subst (HasChildBelow (length (volume g j).inodes)) (sym (volume-row g j k within))
      (child-of_slot (volume g j) (name_at g j k) (names k (omega arith) (omega arith)))
  | inr past ↦
      subst (HasChildBelow (length (volume g j).inodes)) (sym (get_or_past (volume g j).names k None (omega (arith, count-names g j)))) tt
]

lies-within : (g : Geometry) (limit : ℕ) (e : Extent) → IsGeometry g → IsInData g limit e → LiesWithin (first_data g) (data_blocks g) e
lies-within g limit e ok inside = record { low = inside.1; high = omega (arith, inside.2, ok.least_data) }

pub good-lines : (g : Geometry) (j : Words) (inodes : List Inode) (names : Rows) (chains : List (List ℕ)) (maps : List (List Extent)) → IsGeometry g
    → AreOf (volume g j) inodes names chains maps → HoldAll (line_rules (volume g j) j) → AreGood g inodes names chains maps
good-lines g j inodes names chains maps ok of hold =
    let v = volume g j in
    let held = lines-held g j hold in
    let in_region = λ (ino : ℕ) (below : ino < g.inodes). held.1.1.0 ino (omega arith) (omega arith) in
    record {
      inode_count = ap (λ (l : List Inode). length l) (sym of.same_inodes) ∙ count-inodes g j;
      name_count = ap (λ (l : Rows). length l) (sym of.same_names) ∙ count-names g j;
      chain_count = ap (λ (l : List (List ℕ)). length l) (sym of.same_chains) ∙ count-chains g j;
      map_count = ap (λ (l : List (List Extent)). length l) (sym of.same_maps) ∙ count-maps g j;
      in_data = record {
        blocks = subst (λ (l : List (List ℕ)). All (λ blocks. All (λ b. is_data_block g b ≡ true) blocks) l) of.same_chains
            (λ k d below. subst (λ (blocks : List ℕ). All (λ b. is_data_block g b ≡ true) blocks) (get_or_default v.chains k [] d below)
            (subst (λ (h : Geometry). All (λ b. is_data_block h b ≡ true) (chain v k)) (volume-geometry g j) (in_region k (omega (arith, below, count-chains g j))).blocks));
        extents = subst (λ (l : List (List Extent)). All (λ es. All (LiesWithin (first_data g) (data_blocks g)) es) l) of.same_maps
            (λ k d below. subst (λ (es : List Extent). All (LiesWithin (first_data g) (data_blocks g)) es) (get_or_default v.maps k [] d below)
            (λ i e inside. lies-within g (file_blocks_of (inode v k).kind) (slice_index_or (extents v k) i e) ok
            (subst (λ (h : Geometry). All (IsInData h (file_blocks_of (inode v k).kind)) (extents v k)) (volume-geometry g j)
            (in_region k (omega (arith, below, count-maps g j))).in_data i e inside)));
      };
      children = λ k. subst (λ (l : Rows). HasChildBelow (length inodes) (row l k)) of.same_names
          (subst (λ (l : List Inode). HasChildBelow (length l) (row v.names k)) of.same_inodes (child-of_row g j held.1.0 k));
    }

-- The rules of the volume behind those of the lines, and both behind those of the head.
pub breaks-lines : (g : Geometry) (j : Words) (number place : ℕ) → BreaksFirst (line_rules (volume g j) j) number place → BreaksFirst (body_rules g j) number place
breaks-lines g j = BreaksFirst-before (line_rules (volume g j) j) (volume_rules (volume g j))

pub breaks-blocks : (g : Geometry) (j : Words) (place : ℕ) → HoldAll (line_rules (volume g j) j) → FailsFirst (blocks_rule (volume g j)) place
    → BreaksFirst (body_rules g j) 8 place
breaks-blocks g j place lines fails = BreaksFirst-behind (line_rules (volume g j) j) (volume_rules (volume g j)) 8 place lines (inl (refl, fails))

pub breaks-tree : (g : Geometry) (j : Words) (number place : ℕ) → HoldAll (line_rules (volume g j) j) → Holds (blocks_rule (volume g j))
    → BreaksFirst (tree_rules (volume g j)) number place → BreaksFirst (body_rules g j) number place
breaks-tree g j number place lines blocks breaks =
    BreaksFirst-behind (line_rules (volume g j) j) (volume_rules (volume g j)) number place lines (inr (blocks, breaks))

pub body-holds : (g : Geometry) (j : Words) → HoldAll (line_rules (volume g j) j) → Holds (blocks_rule (volume g j)) → HoldAll (tree_rules (volume g j))
    → HoldAll (body_rules g j)
body-holds g j lines blocks tree = HoldAll-append (line_rules (volume g j) j) (volume_rules (volume g j)) lines (blocks, tree)

-- the three parts in the order in which they are tried
append-three : (a b c : List Rule) (number place : ℕ) → BreaksFirst (a ++ (b ++ c)) number place → BreaksFirst ((a ++ b) ++ c) number place
append-three [] b c number place breaks = breaks
append-three (r ∷ a) b c number place (inl here) = inl here
append-three (r ∷ a) b c number place (inr later) = inr (later.0, append-three a b c number place later.1)

pub breaks-head : (bytes : ℕ) (f : Words) (number place : ℕ) → BreaksFirst (head_rules bytes f) number place → BreaksFirst (front_rules bytes f) number place
breaks-head bytes f number place breaks =
    let v = volume (geometry_of f) (journaled f) in
    append-three (head_rules bytes f) (line_rules v (journaled f)) (volume_rules v) number place
    (BreaksFirst-before (head_rules bytes f) (body_rules (geometry_of f) (journaled f)) number place breaks)

pub breaks-body : (bytes : ℕ) (f : Words) (number place : ℕ) → HasHead bytes f → BreaksFirst (body_rules (geometry_of f) (journaled f)) number place
    → BreaksFirst (front_rules bytes f) number place
breaks-body bytes f number place head breaks =
    let v = volume (geometry_of f) (journaled f) in
    append-three (head_rules bytes f) (line_rules v (journaled f)) (volume_rules v) number place
    (BreaksFirst-behind (head_rules bytes f) (body_rules (geometry_of f) (journaled f)) number place (HoldAll-head bytes f head) breaks)

hold-three : (a b c : List Rule) → HoldAll a → HoldAll (b ++ c) → HoldAll ((a ++ b) ++ c)
hold-three [] b c first rest = rest
hold-three (r ∷ a) b c first rest = (first.0, hold-three a b c first.1 rest)

pub front-holds : (bytes : ℕ) (f : Words) → HasHead bytes f → HoldAll (body_rules (geometry_of f) (journaled f)) → HoldAll (front_rules bytes f)
front-holds bytes f head body =
    let v = volume (geometry_of f) (journaled f) in
    hold-three (head_rules bytes f) (line_rules v (journaled f)) (volume_rules v) (HoldAll-head bytes f head) body

-- What a volume that is read has beside its tables.
pub of-tables : (g : Geometry) (j : Words) (inodes : List Inode) (names : Rows) (chains : List (List ℕ)) (maps : List (List Extent))
    → AreOf (volume g j) inodes names chains maps → IsOfTables g chains maps (volume g j)
of-tables g j inodes names chains maps of = record {
  geometry = volume-geometry g j;
  same_chains = of.same_chains;
  same_maps = of.same_maps;
  all = record { chain_count = count-chains g j ∙ sym (count-inodes g j); map_count = count-maps g j ∙ sym (count-inodes g j) };
}

pub volume-base : (g : Geometry) (j : Words) → (volume g j).base ≡ j base_word
unfolding volume
volume-base g j = refl

-- what holds of a value, for what follows from it
pub if_ok : {A E : Type 0} (r : Result A E) (P Q : A → Type 0) → ((x : A) → P x → Q x) → IfOk r P → IfOk r Q
if_ok (Ok x) P Q f held = f x held
if_ok (Err e) P Q f held = tt

pub if_err : {A E : Type 0} (r : Result A E) (P Q : E → Type 0) → ((e : E) → P e → Q e) → IfErr r P → IfErr r Q
if_err (Ok x) P Q f held = tt
if_err (Err e) P Q f held = f e held

pub on_ok : {A E : Type 0} (r : Result A E) (P Q : Type 0) → (P → Q) → OnOk r P → OnOk r Q
on_ok (Ok x) P Q f held = f held
on_ok (Err e) P Q f held = tt
