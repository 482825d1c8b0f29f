-- Worked rows: the first broken rule of small images with wrong names, and how deep a tree may be.
use Rattle.std.specs.Prelude.{◌≡◌, ℕ, ◌+◌, ◌*◌, ◌<◌, ◌≤◌, ◌++◌, ◌==◌, nat_le, List, [], ◌∷◌, length, map, replicate, All, true, false, Some, if◌then◌else◌, refl}
use Rattle.std.specs.List.{list_all, range_with_len}
use Rattle.std.proofs.Common.{arith, inl, inr, ap, sym, ◌∙◌, subst}
use Rattle.std.proofs.lemmas.Bool.{leb-true}
use Rattle.std.proofs.lemmas.Option.{same_Some}
use Rattle.volume_laws.specs.layout_model.Fields.{zeros}
use Rattle.volume_laws.specs.layout_model.Places.{Geometry, IsGeometry, inode_line, name_line, first_data, data_blocks}
use Rattle.volume_laws.specs.layout_model.declared.lines.Inode.{Inode}
use Rattle.volume_laws.specs.layout_model.declared.lines.Kind.{Kind}
use Rattle.volume_laws.specs.layout_model.declared.lines.Kind.TheVariants.{Free, Directory, File, Staging}
use Rattle.volume_laws.specs.layout_model.Fresh.{empty_inode, fresh}
use Rattle.volume_laws.specs.layout_model.Lines.{NameRow, encode_inode, decode_inode, decode_name}
use Rattle.volume_laws.specs.layout_model.Names.{row, names_of, ends_at_root}
use Rattle.volume_laws.specs.image_model.Broken.{below, Holds, HoldAll, BreaksFirst, log_rules, Breaks}
use Rattle.volume_laws.specs.image_model.Kept.{IsNamedRow}
use Rattle.volume_laws.specs.image_model.Reading.{AreBytes}
use Rattle.volume_laws.specs.image_model.Rules.{IsKindAt, IsRowPlaced, AreDirectoriesNamed, HasOneName, IsNamedOnce, IsInData, file_blocks_of}
use Rattle.volume_laws.specs.image_model.Volume.{Volume, inode, chain, extents}
use Rattle.volume_laws.specs.pm_model.Words.{with_line}
use Rattle.image_laws.specs.BrokenLaws.{BreaksFirst-before}
use Rattle.image_laws.specs.ClimbLaws.{reaches-ends}
use Rattle.image_laws.specs.FreshLaws.{same-at, owners-none}
use Rattle.image_laws.specs.KeptRules.{kept_rules}
use Rattle.image_laws.specs.Damage.{small, small-in_range, wide, wide-in_range}
use Rattle.image_laws.specs.LineDamage.{laid-break, AreBytes-test, inode_line-breaks, name_line-breaks}
use Rattle.image_laws.specs.TreeImages.{nodes_set, names_set, tree_image, tree_volume, line_fits, AreLines-test, tree-reads, tree-laid}
use Rattle.image_laws.specs.VolumeTests.{passes_below, passes-at, kind_fits, IsKindAt-test, is_named, IsNamedRow-test, is_placed, IsRowPlaced-test, has_name, AreDirectoriesNamed-test}

-- Inode lines that may not stand where they stand.

-- an inode line that is read, of a kind that does not fit
kind-breaks : (g : Geometry) (i : ℕ) (kind : Kind) → IsGeometry g → i < 16 → AreBytes (encode_inode (empty_inode kind 0)) → decode_inode (encode_inode (empty_inode kind 0)) ≡ Some (empty_inode kind 0)
    → ¬ IsKindAt i kind → Breaks (4096 * g.blocks) (with_line (inode_line i) (encode_inode (empty_inode kind 0)) (fresh g)) 5 i
kind-breaks g i kind ok within are read wrong =
    inode_line-breaks g i (encode_inode (empty_inode kind 0)) ok (omega (arith, ok.least_inodes)) are
    (λ x is fits. wrong (subst (λ (y : Inode). IsKindAt i y.kind) (sym (same_Some (empty_inode kind 0) x (sym read ∙ is))) fits))

-- inode line 1 of kind 2, a file
pub kind_2_at_1 : (g : Geometry) → IsGeometry g → Breaks (4096 * g.blocks) (with_line (inode_line 1) (encode_inode (empty_inode File 0)) (fresh g)) 5 1
unfolding decode_inode
kind_2_at_1 g ok = kind-breaks g 1 File ok (omega arith) (AreBytes-test (encode_inode (empty_inode File 0)) refl refl) refl (λ low. omega arith)

-- no root directory, and a fifth staging file
pub free_root : (g : Geometry) → IsGeometry g → Breaks (4096 * g.blocks) (with_line (inode_line 0) (encode_inode (empty_inode Free 0)) (fresh g)) 5 0
unfolding decode_inode
free_root g ok = kind-breaks g 0 Free ok (omega arith) (AreBytes-test (encode_inode (empty_inode Free 0)) refl refl) refl (λ low. omega arith)

pub staging_at_5 : (g : Geometry) → IsGeometry g → Breaks (4096 * g.blocks) (with_line (inode_line 5) (encode_inode (empty_inode Staging 0)) (fresh g)) 5 5
unfolding decode_inode
staging_at_5 g ok = kind-breaks g 5 Staging ok (omega arith) (AreBytes-test (encode_inode (empty_inode Staging 0)) refl refl) refl (λ at. omega (arith, at.1))

-- a kind that is none
pub kind_4 : (g : Geometry) → IsGeometry g → Breaks (4096 * g.blocks) (with_line (inode_line 7) (4 ∷ zeros 63) (fresh g)) 5 7
unfolding decode_inode
kind_4 g ok = inode_line-breaks g 7 (4 ∷ zeros 63) ok (omega (arith, ok.least_inodes)) (AreBytes-test (4 ∷ zeros 63) refl refl) (λ x is fits. cc)

-- a name line that is none: a length and no child
pub name_without_child : (g : Geometry) → IsGeometry g → Breaks (4096 * g.blocks) (with_line (name_line g 3) (zeros 8 ++ (1 ∷ zeros 55)) (fresh g)) 6 3
unfolding decode_name
name_without_child g ok = name_line-breaks g 3 (zeros 8 ++ (1 ∷ zeros 55)) ok (omega (arith, ok.least_names)) (AreBytes-test (zeros 8 ++ (1 ∷ zeros 55)) refl refl) (λ named. named)

-- Trees.

-- the parts of a volume that is kept, by tests
hold_5 : (v : Volume) → passes_below (λ ino. kind_fits ino (inode v ino).kind) v.geometry.inodes ≡ true → Holds (below 5 v.geometry.inodes (λ ino. IsKindAt ino (inode v ino).kind))
hold_5 v h p from within = IsKindAt-test p (inode v p).kind (passes-at (λ ino. kind_fits ino (inode v ino).kind) v.geometry.inodes p h (omega arith))

hold_6 : (v : Volume) → passes_below (λ k. is_named v (row v.names k)) v.geometry.names ≡ true → Holds (below 6 v.geometry.names (λ k. IsNamedRow v (row v.names k)))
hold_6 v h p from within = IsNamedRow-test v (row v.names p) (passes-at (λ k. is_named v (row v.names k)) v.geometry.names p h (omega arith))

hold_7 : (v : Volume) → ((ino : ℕ) → extents v ino ≡ []) → Holds (below 7 v.geometry.inodes (λ ino. All (IsInData v.geometry (file_blocks_of (inode v ino).kind)) (extents v ino)))
hold_7 v none p from within k d lt = absurd (let e = ap length (none p) in omega arith)

hold_8 : (v : Volume) → ((ino : ℕ) → chain v ino ≡ []) → ((ino : ℕ) → extents v ino ≡ []) → (b : ℕ) → first_data v.geometry ≤ b → b < first_data v.geometry + data_blocks v.geometry → IsNamedOnce v b
hold_8 v chains maps b from within = omega (arith, ap length (owners-none v b chains maps))

hold_9 : (v : Volume) → passes_below (λ k. is_placed v k (row v.names k)) v.geometry.names ≡ true → Holds (below 9 v.geometry.names (λ k. IsRowPlaced v k (row v.names k)))
hold_9 v h p from within = IsRowPlaced-test v p (row v.names p) (passes-at (λ k. is_placed v k (row v.names k)) v.geometry.names p h (omega arith))

-- a volume without maps whose tests pass up to rule 8
pub record IsBare (v : Volume) : Type 0 where
  pub kinds : passes_below (λ ino. kind_fits ino (inode v ino).kind) v.geometry.inodes ≡ true
  pub named : passes_below (λ k. is_named v (row v.names k)) v.geometry.names ≡ true
  pub chains : (ino : ℕ) → chain v ino ≡ []
  pub maps : (ino : ℕ) → extents v ino ≡ []

-- where all tests pass it is kept
pub tree_kept : (v : Volume) → IsBare v → passes_below (λ i. is_placed v i (row v.names i)) v.geometry.names ≡ true → passes_below (has_name v) (length v.inodes) ≡ true
    → names_of v.names 0 ≡ 0 → passes_below (λ i. nat_le (names_of v.names i) 1) v.geometry.inodes ≡ true → HoldAll (kept_rules v)
tree_kept v bare placed each root names = (
  hold_5 v bare.kinds,
  (
    hold_6 v bare.named,
    (
      hold_7 v bare.maps,
      (
        hold_8 v bare.chains bare.maps,
        (
          hold_9 v placed,
          (
            λ p from within. AreDirectoriesNamed-test v each root,
            (λ p from within. leb-true (names_of v.names p) 1 (passes-at (λ i. nat_le (names_of v.names i) 1) v.geometry.inodes p names (omega arith)), tt),
          ),
        ),
      ),
    ),
  ),
)

-- it breaks rule 9 at a line, or at the number of lines, or rule 10
break_9 : (v : Volume) (k : ℕ) → IsBare v → k < v.geometry.names → passes_below (λ i. is_placed v i (row v.names i)) k ≡ true → ¬ IsRowPlaced v k (row v.names k) → BreaksFirst (kept_rules v) 9 k
break_9 v k bare within before fails =
    inr (
      hold_5 v bare.kinds,
      inr (
        hold_6 v bare.named,
        inr (
          hold_7 v bare.maps,
          inr (
            hold_8 v bare.chains bare.maps,
            inl (
              refl,
              record {
                from = omega arith;
                within = omega arith;
                before = λ p from lower. IsRowPlaced-test v p (row v.names p) (passes-at (λ i. is_placed v i (row v.names i)) k p before lower);
                fails = fails;
              },
            ),
          ),
        ),
      ),
    )

break_9-end : (v : Volume) → IsBare v → passes_below (λ i. is_placed v i (row v.names i)) v.geometry.names ≡ true → ¬ AreDirectoriesNamed v → BreaksFirst (kept_rules v) 9 v.geometry.names
break_9-end v bare placed fails =
    inr (
      hold_5 v bare.kinds,
      inr (
        hold_6 v bare.named,
        inr (
          hold_7 v bare.maps,
          inr (
            hold_8 v bare.chains bare.maps,
            inr (
              hold_9 v placed,
              inl (refl, record { from = omega arith; within = omega arith; before = λ p from lower. absurd (omega arith); fails = fails }),
            ),
          ),
        ),
      ),
    )

break_10 : (v : Volume) (ino : ℕ) → IsBare v → passes_below (λ i. is_placed v i (row v.names i)) v.geometry.names ≡ true → AreDirectoriesNamed v
    → ino < v.geometry.inodes → passes_below (λ i. nat_le (names_of v.names i) 1) ino ≡ true → ¬ HasOneName v ino → BreaksFirst (kept_rules v) 10 ino
break_10 v ino bare placed directories within before fails =
    inr (
      hold_5 v bare.kinds,
      inr (
        hold_6 v bare.named,
        inr (
          hold_7 v bare.maps,
          inr (
            hold_8 v bare.chains bare.maps,
            inr (
              hold_9 v placed,
              inr (
                λ p from lower. directories,
                inl (
                  refl,
                  record {
                    from = omega arith;
                    within = omega arith;
                    before = λ p from lower. leb-true (names_of v.names p) 1 (passes-at (λ i. nat_le (names_of v.names i) 1) ino p before lower);
                    fails = fails;
                  },
                ),
              ),
            ),
          ),
        ),
      ),
    )

-- it breaks rule 6
break_6 : (v : Volume) (k : ℕ) → passes_below (λ ino. kind_fits ino (inode v ino).kind) v.geometry.inodes ≡ true → k < v.geometry.names → passes_below (λ i. is_named v (row v.names i)) k ≡ true
    → ¬ IsNamedRow v (row v.names k) → BreaksFirst (kept_rules v) 6 k
break_6 v k kinds within before fails =
    inr (
      hold_5 v kinds,
      inl (
        refl,
        record {
          from = omega arith;
          within = omega arith;
          before = λ p from lower. IsNamedRow-test v (row v.names p) (passes-at (λ i. is_named v (row v.names i)) k p before lower);
          fails = fails;
        },
      ),
    )

-- what breaks in the volume of a tree breaks in its image
tree-breaks : (g : Geometry) (kinds : List Kind) (rows : List NameRow) (n place : ℕ) → IsGeometry g → 5 + length kinds ≤ g.inodes → length rows ≤ g.names → list_all line_fits rows ≡ true
    → BreaksFirst (kept_rules (tree_volume g kinds rows)) n place → Breaks (4096 * g.blocks) (tree_image g kinds rows) n place
tree-breaks g kinds rows n place ok few few_names lines breaks =
    let v = tree_volume g kinds rows in
    let h = tree_image g kinds rows in
    laid-break g h v n place ok (tree-laid g kinds rows) (tree-reads g kinds rows ok few few_names (AreLines-test rows lines))
    (BreaksFirst-before (kept_rules v) (log_rules v h) n place breaks)

-- names of one byte
abbrev pub named : ℕ → ℕ → ℕ → NameRow
named parent child byte = record { parent = parent; child = child; name = byte ∷ [] }

-- two names, `a` and `b`, of one directory
pub two_names_of_a_directory : Breaks 262144 (tree_image small (Directory ∷ []) (named 0 5 97 ∷ named 0 5 98 ∷ [])) 10 5
unfolding names_set nodes_set ends_at_root
two_names_of_a_directory =
    let kinds : List Kind = Directory ∷ [] in
    let rows : List NameRow = named 0 5 97 ∷ named 0 5 98 ∷ [] in
    let v = tree_volume small kinds rows in
    tree-breaks small kinds rows 10 5 small-in_range (omega arith) (omega arith) refl
    (break_10 v 5 (record { kinds = refl; named = refl; chains = λ ino. same-at [] 16 ino; maps = λ ino. same-at [] 16 ino }) refl
    (AreDirectoriesNamed-test v refl refl) (omega arith) refl (λ one. omega arith))

-- two names of the second file
pub two_names_of_a_file : Breaks 262144 (tree_image small (File ∷ File ∷ []) (named 0 6 97 ∷ named 0 5 98 ∷ named 0 6 99 ∷ [])) 10 6
unfolding names_set nodes_set ends_at_root
two_names_of_a_file =
    let kinds : List Kind = File ∷ File ∷ [] in
    let rows : List NameRow = named 0 6 97 ∷ named 0 5 98 ∷ named 0 6 99 ∷ [] in
    let v = tree_volume small kinds rows in
    tree-breaks small kinds rows 10 6 small-in_range (omega arith) (omega arith) refl
    (break_10 v 6 (record { kinds = refl; named = refl; chains = λ ino. same-at [] 16 ino; maps = λ ino. same-at [] 16 ino }) refl
    (AreDirectoriesNamed-test v refl refl) (omega arith) refl (λ one. omega arith))

-- a parent past the last inode; a child that is free
pub parent_past : Breaks 262144 (tree_image small (File ∷ []) (named 0 5 98 ∷ named 16 5 97 ∷ [])) 6 1
unfolding names_set nodes_set
parent_past =
    let kinds : List Kind = File ∷ [] in
    let rows : List NameRow = named 0 5 98 ∷ named 16 5 97 ∷ [] in
    tree-breaks small kinds rows 6 1 small-in_range (omega arith) (omega arith) refl
    (break_6 (tree_volume small kinds rows) 1 refl (omega arith) refl (λ both. let below : 16 < 16 = both.1 in omega arith))

pub child_free : Breaks 262144 (tree_image small (File ∷ []) (named 0 5 97 ∷ named 0 6 98 ∷ [])) 6 1
unfolding names_set nodes_set
child_free =
    let kinds : List Kind = File ∷ [] in
    let rows : List NameRow = named 0 5 97 ∷ named 0 6 98 ∷ [] in
    tree-breaks small kinds rows 6 1 small-in_range (omega arith) (omega arith) refl
    (break_6 (tree_volume small kinds rows) 1 refl (omega arith) refl (λ both. elim both.0 [ inl directory ↦ cc (directory) | inr file ↦ cc (file) ]))

-- a parent that is a file
pub parent_is_a_file : Breaks 262144 (tree_image small (File ∷ File ∷ []) (named 0 5 97 ∷ named 5 6 98 ∷ [])) 9 1
unfolding names_set nodes_set ends_at_root
parent_is_a_file =
    let kinds : List Kind = File ∷ File ∷ [] in
    let rows : List NameRow = named 0 5 97 ∷ named 5 6 98 ∷ [] in
    let v = tree_volume small kinds rows in
    tree-breaks small kinds rows 9 1 small-in_range (omega arith) (omega arith) refl
    (break_9 v 1 (record { kinds = refl; named = refl; chains = λ ino. same-at [] 16 ino; maps = λ ino. same-at [] 16 ino }) (omega arith) refl
    (λ placed. let directory : false ≡ true = placed.parent in cc (directory)))

-- one name twice, of which the lower line is the place
pub one_name_twice : Breaks 262144 (tree_image small (File ∷ File ∷ []) (named 0 5 97 ∷ named 0 6 97 ∷ [])) 9 0
unfolding names_set nodes_set ends_at_root
one_name_twice =
    let kinds : List Kind = File ∷ File ∷ [] in
    let rows : List NameRow = named 0 5 97 ∷ named 0 6 97 ∷ [] in
    let v = tree_volume small kinds rows in
    tree-breaks small kinds rows 9 0 small-in_range (omega arith) (omega arith) refl
    (break_9 v 0 (record { kinds = refl; named = refl; chains = λ ino. same-at [] 16 ino; maps = λ ino. same-at [] 16 ino }) (omega arith) refl
    (λ placed. placed.only 1 (named 0 6 97) (omega arith) refl refl refl))

-- two directories, each in the other
pub directories_in_a_ring : Breaks 262144 (tree_image small (Directory ∷ Directory ∷ []) (named 6 5 97 ∷ named 5 6 98 ∷ [])) 9 0
unfolding names_set nodes_set ends_at_root
directories_in_a_ring =
    let kinds : List Kind = Directory ∷ Directory ∷ [] in
    let rows : List NameRow = named 6 5 97 ∷ named 5 6 98 ∷ [] in
    let v = tree_volume small kinds rows in
    tree-breaks small kinds rows 9 0 small-in_range (omega arith) (omega arith) refl
    (break_9 v 0 (record { kinds = refl; named = refl; chains = λ ino. same-at [] 16 ino; maps = λ ino. same-at [] 16 ino }) (omega arith) refl
    (λ placed. cc (sym (reaches-ends v.names 15 6 (record { steps = placed.steps.0; within = omega (arith, placed.steps.1); root = placed.steps.2 })))))

-- a directory without a name
pub directory_without_a_name : Breaks 262144 (tree_image small (Directory ∷ []) []) 9 16
unfolding names_set nodes_set
directory_without_a_name =
    let kinds : List Kind = Directory ∷ [] in
    let v = tree_volume small kinds [] in
    tree-breaks small kinds [] 9 16 small-in_range (omega arith) (omega arith) refl
    (break_9-end v (record { kinds = refl; named = refl; chains = λ ino. same-at [] 16 ino; maps = λ ino. same-at [] 16 ino }) refl
    (λ directories. let one : 1 ≤ 0 = directories.each 5 (omega arith) refl in omega arith))

-- Directories one in the other, from the root down: line k has the name of inode 5 + k.
abbrev pub ladder : ℕ → List NameRow
ladder n = map (λ k. named (if k == 0 then 0 else 4 + k) (5 + k) 97) (range_with_len 0 n)

abbrev pub steps_down : ℕ → List Kind
steps_down n = replicate n Directory

-- a path of sixteen names may be, one of seventeen may not, at the line of its last name
pub sixteen_steps : HoldAll (kept_rules (tree_volume wide (steps_down 16) (ladder 16)))
unfolding names_set nodes_set ends_at_root
sixteen_steps =
    tree_kept (tree_volume wide (steps_down 16) (ladder 16)) (record { kinds = refl; named = refl; chains = λ ino. same-at [] 32 ino; maps = λ ino. same-at [] 32 ino })
    refl refl refl refl

pub seventeen_steps : Breaks 262144 (tree_image wide (steps_down 17) (ladder 17)) 9 16
unfolding names_set nodes_set ends_at_root
seventeen_steps =
    let v = tree_volume wide (steps_down 17) (ladder 17) in
    tree-breaks wide (steps_down 17) (ladder 17) 9 16 wide-in_range (omega arith) (omega arith) refl
    (break_9 v 16 (record { kinds = refl; named = refl; chains = λ ino. same-at [] 32 ino; maps = λ ino. same-at [] 32 ino }) (omega arith) refl
    (λ placed. cc (sym (reaches-ends v.names 15 20 (record { steps = placed.steps.0; within = omega (arith, placed.steps.1); root = placed.steps.2 })))))
