-- Tests of what a volume has to keep, by which worked rows are computed: where a test passes at each place below a
-- count, the rule holds there.
use Rattle.std.specs.Prelude.{◌≡◌, ℕ, zero, suc, ◌+◌, ◌-◌, ◌<◌, ◌≤◌, ◌==◌, ◌&&◌, ◌||◌, not, nat_le, nat_lt, [], ◌∷◌, length, drop, Bool, true, false, Option, Some, None, count_by, cond, refl}
use Rattle.std.specs.List.{list_all, range_with_len}
use Rattle.std.proofs.Common.{arith, inl, inr, ap, sym, ◌∙◌, subst}
use Rattle.std.proofs.lemmas.Bool.{and_parts, or_cases, leb-true, ltb-true, eqb-true, both_ways, cases_eq, cases_lt}
use Rattle.std.proofs.lemmas.List.{get_or_past, get_or-drop}
use Rattle.std.proofs.lemmas.List.Sums.{sum_by-cons}
use Rattle.volume_laws.specs.layout_model.declared.lines.Kind.{Kind}
use Rattle.volume_laws.specs.layout_model.declared.lines.Kind.TheVariants.{Free, Directory, File, Staging}
use Rattle.volume_laws.specs.layout_model.Lines.{NameRow}
use Rattle.volume_laws.specs.layout_model.Names.{Rows, row, is_entry, names_of, ends_at_root}
use Rattle.volume_laws.specs.layout_model.TableLaws.{is_entry-own}
use Rattle.volume_laws.specs.image_model.Kept.{IsNamedRow}
use Rattle.volume_laws.specs.image_model.Live.{is_file, is_directory}
use Rattle.volume_laws.specs.image_model.Rules.{IsKindAt, IsRowPlaced, AreDirectoriesNamed}
use Rattle.volume_laws.specs.image_model.Volume.{Volume, inode, free_inode}
use Rattle.image_laws.specs.ClimbLaws.{ends-reaches}

-- a test at each number below a count
abbrev pub passes_below : (ℕ → Bool) → ℕ → Bool
passes_below test n = list_all test (range_with_len 0 n)

pub passes-from : (test : ℕ → Bool) (a n k : ℕ) → list_all test (range_with_len a n) ≡ true → a ≤ k → k < a + n → test k ≡ true
passes-from test a zero k h from below = absurd (omega arith)
passes-from test a (suc n) k h from below =
    let parts = and_parts (test a) (list_all test (range_with_len (a + 1) n)) h in
    elim (cases_eq a k) [
      | inl here ↦ subst (λ i. test i ≡ true) here parts.0
      | inr apart ↦ passes-from test (a + 1) n k parts.1 (omega arith) (omega arith)
    ]

pub passes-at : (test : ℕ → Bool) (n k : ℕ) → passes_below test n ≡ true → k < n → test k ≡ true
passes-at test n k h below = passes-from test 0 n k h (omega arith) (omega arith)

-- a kind at an inode
abbrev pub kind_fits : ℕ → Kind → Bool
kind_fits ino Free = nat_le 5 ino
kind_fits ino Directory = (ino == 0) || nat_le 5 ino
kind_fits ino File = nat_le 5 ino
kind_fits ino Staging = nat_le 1 ino && nat_le ino 4

pub IsKindAt-test : (ino : ℕ) (kind : Kind) → kind_fits ino kind ≡ true → IsKindAt ino kind
IsKindAt-test ino Free h = leb-true 5 ino h
IsKindAt-test ino Directory h =
    elim (or_cases (ino == 0) (nat_le 5 ino) h) [ inl e ↦ inl (eqb-true ino 0 e) | inr le ↦ inr (leb-true 5 ino le) ]
IsKindAt-test ino File h = leb-true 5 ino h
IsKindAt-test ino Staging h =
    let parts = and_parts (nat_le 1 ino) (nat_le ino 4) h in
    (leb-true 1 ino parts.0, leb-true ino 4 parts.1)

-- a row's child and its parent
abbrev pub is_named : Volume → Option NameRow → Bool
is_named v None = true
is_named v (Some r) = (is_directory (inode v r.child).kind || is_file (inode v r.child).kind) && nat_lt r.parent v.geometry.inodes

pub IsNamedRow-test : (v : Volume) (o : Option NameRow) → is_named v o ≡ true → IsNamedRow v o
IsNamedRow-test v None h = tt
IsNamedRow-test v (Some r) h =
    let kind = is_directory (inode v r.child).kind || is_file (inode v r.child).kind in
    let parts = and_parts kind (nat_lt r.parent v.geometry.inodes) h in
    (or_cases (is_directory (inode v r.child).kind) (is_file (inode v r.child).kind) parts.0, ltb-true r.parent v.geometry.inodes parts.1)

-- no later row has the same parent and name
abbrev pub is_last : Rows → ℕ → NameRow → Bool
is_last rows k r = count_by (is_entry r.parent r.name) (drop (k + 1) rows) == 0

none-passes : (test : Option NameRow → Bool) (rows : Rows) (k : ℕ) → test None ≡ false → count_by test rows ≡ 0 → test (row rows k) ≡ false
none-passes test [] k fails none = fails
none-passes test (o ∷ rows) zero fails none = by (test o) refl
  where
    by : (b : Bool) → test o ≡ b → b ≡ false
    by false e = refl
    by true e = absurd (omega (arith, none, sum_by-cons (λ x. cond (test x) 1 0) o rows, ap {B = ℕ} (λ (c : Bool). cond c 1 0) e))
none-passes test (o ∷ rows) (suc k) fails none =
    none-passes test rows k fails (omega (arith, none, sum_by-cons (λ x. cond (test x) 1 0) o rows))

-- a row's place in the tree
abbrev pub is_placed : Volume → ℕ → Option NameRow → Bool
is_placed v k None = true
is_placed v k (Some r) = is_directory (inode v r.parent).kind && is_last v.names k r && ends_at_root v.names 15 r.parent

pub IsRowPlaced-test : (v : Volume) (k : ℕ) (o : Option NameRow) → is_placed v k o ≡ true → IsRowPlaced v k o
IsRowPlaced-test v k None h = tt
IsRowPlaced-test v k (Some r) h =
    let outer = and_parts (is_directory (inode v r.parent).kind && is_last v.names k r) (ends_at_root v.names 15 r.parent) h in
    let inner = and_parts (is_directory (inode v r.parent).kind) (is_last v.names k r) outer.0 in
    let none = eqb-true (count_by (is_entry r.parent r.name) (drop (k + 1) v.names)) 0 inner.1 in
    let reaches = ends-reaches v.names 15 r.parent outer.1 in
    record {
      parent = inner.0;
      only = λ later s above is same_parent same_name.
          let place : k + 1 + (later - (k + 1)) ≡ later = omega arith in
          let there : row (drop (k + 1) v.names) (later - (k + 1)) ≡ Some s =
          get_or-drop (k + 1) v.names (later - (k + 1)) None ∙ ap (row v.names) place ∙ is
          in
          let entry : is_entry r.parent r.name (Some s) ≡ true =
          subst (λ n. is_entry n r.name (Some s) ≡ true) same_parent (subst (λ n. is_entry s.parent n (Some s) ≡ true) same_name (is_entry-own (Some s) s refl))
          in
          both_ways (is_entry r.parent r.name (Some s))
          (ap (is_entry r.parent r.name) (sym there) ∙ none-passes (is_entry r.parent r.name) (drop (k + 1) v.names) (later - (k + 1)) refl none)
          entry;
      steps = (reaches.steps, omega (arith, reaches.within), reaches.root);
    }

-- each directory but the root has a name
abbrev pub has_name : Volume → ℕ → Bool
has_name v ino = (ino == 0) || not (is_directory (inode v ino).kind) || nat_le 1 (names_of v.names ino)

pub AreDirectoriesNamed-test : (v : Volume) → passes_below (has_name v) (length v.inodes) ≡ true → names_of v.names 0 ≡ 0 → AreDirectoriesNamed v
AreDirectoriesNamed-test v each root =
    record {
      each = λ ino above directory. elim (cases_lt ino (length v.inodes)) [
        | inl below ↦ let h = passes-at (has_name v) (length v.inodes) ino each below in named ino above directory h
        | inr past ↦ cc (sym directory ∙ ap (λ x. is_directory x.kind) (get_or_past v.inodes ino free_inode past))
      ];
      root = root;
    }
  where
    named : (ino : ℕ) → 0 < ino → is_directory (inode v ino).kind ≡ true → has_name v ino ≡ true → 1 ≤ names_of v.names ino
    named ino above directory h =
        elim (or_cases ((ino == 0) || not (is_directory (inode v ino).kind)) (nat_le 1 (names_of v.names ino)) h) [
          | inr le ↦ leb-true 1 (names_of v.names ino) le
          | inl other ↦ elim (or_cases (ino == 0) (not (is_directory (inode v ino).kind)) other) [
            | inl zero_is ↦ absurd (let e = eqb-true ino 0 zero_is in omega arith)
            | inr none ↦ cc (ap not directory, none)
          ]
        ]
