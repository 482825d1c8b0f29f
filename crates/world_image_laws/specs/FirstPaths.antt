-- The first path of an inode: of the paths that its name lines give it the one that is printed first. Today no inode has two
-- names, and its first path is its path; of a file that has several it is the one under which it is listed.
use Rattle.std.specs.Prelude.{◌≡◌, ◌≢◌, ◌⊎◌, ◌+◌, ◌≤◌, ◌==◌, ℕ, zero, suc, Bool, true, false, cond, List, [], ◌∷◌, ◌++◌, length, Option, Some, None, refl}
use Rattle.std.specs.Option.{option_map_or}
use Rattle.std.proofs.Common.{arith, ap, ◌∙◌, length-append, sym, inl, inr}
use Rattle.std.proofs.lemmas.Bool.{both_ways, eq-eqb, false_from_ne_true}
use Rattle.std.proofs.lemmas.Bool.Decides.{Decides-eqb}
use Rattle.std.proofs.lemmas.Option.{same_Some}
use Rattle.world_step_laws.specs.layout_model.Lines.{NameRow}
use Rattle.world_step_laws.specs.layout_model.Names.{first_row_from, is_child, names_of, parent_of_row, row, Rows, walk}
use Rattle.world_step_laws.specs.layout_model.TableLaws.{child_named-at, NamingLine-child_named, walk-up}
use Rattle.world_step_laws.specs.layout_model.Tables.{IsFirstRow}
use Rattle.world_step_laws.specs.image_model.Volume.{Volume}
use Rattle.world_step_laws.specs.name_laws.k_split_model.Spaces.{is_directory_in}
use Rattle.world_step_laws.specs.name_laws.Forests.{IsForest}
use Rattle.world_step_laws.specs.name_laws.KeptLaws.{kept-forest, kept-keyed, kept-placed}
use Rattle.world_step_laws.specs.name_laws.RowLaws.{first_row-first, first_row-nothing, names_of-one_line, names_of-zero, row-below, row-within}
use Rattle.world_step_laws.specs.name_laws.TreeLaws.{one-path}
use Rattle.world_step_laws.specs.posix_tables.Names.{bytes_before, longest_path}
use Rattle.world_step_laws.specs.posix_tables.Places.{printed}
use Rattle.world_step_laws.specs.posix_laws.Order.{before_or_after, before_trans, not_before_itself}
use Rattle.world_step_laws.specs.posix_laws.Paths.{by_last}
use Rattle.world_step_laws.specs.world_model.Stands.{IsUsed}
use Rattle.world_step_laws.specs.world_model.TreeRules.{all_lines}
use Rattle.world_image_laws.specs.Mounted.{IsMounted, last_step, one_path, path_of_used, walk_more}

-- the name in a row
abbrev pub name_of_row : Option NameRow → List ℕ
name_of_row None = []
name_of_row (Some r) = r.name

-- the path of a directory, going up at most so many names by its lowest line
unfoldable pub path_up : Rows → ℕ → ℕ → List (List ℕ)
path_up rows zero ino = []
path_up rows (suc n) ino =
    option_map_or (λ found. path_up rows n (parent_of_row found.1) ++ name_of_row found.1 ∷ []) (first_row_from (is_child ino) 0 rows) []

-- the path of a row
abbrev pub path_of_row : Rows → NameRow → List (List ℕ)
path_of_row rows r = path_up rows longest_path r.parent ++ r.name ∷ []

-- a path, or another one that is printed before it
abbrev pub earlier : List (List ℕ) → Option (List (List ℕ)) → List (List ℕ)
earlier p None = p
earlier p (Some q) = cond (bytes_before (printed q) (printed p)) q p

-- the first of the paths of these rows that have the child
abbrev pub first_among : Rows → ℕ → Rows → Option (List (List ℕ))
first_among all ino [] = None
first_among all ino (None ∷ rows) = first_among all ino rows
first_among all ino (Some r ∷ rows) =
    cond (r.child == ino) (Some (earlier (path_of_row all r) (first_among all ino rows))) (first_among all ino rows)

-- THE FIRST PATH of an inode
abbrev pub first_path : Rows → ℕ → Option (List (List ℕ))
first_path rows ino = first_among rows ino rows

-- it leads to the inode, and no path that does is printed before it
pub record IsFirstPath (rows : Rows) (ino : ℕ) (p : List (List ℕ)) : Type 0 where
  pub leads : walk rows 0 p ≡ Some ino
  pub first : (q : List (List ℕ)) → walk rows 0 q ≡ Some ino → bytes_before (printed q) (printed p) ≡ false

-- ---- byte order

not_own : (a : List ℕ) → bytes_before a a ≡ false
not_own a = false_from_ne_true (bytes_before a a) (not_before_itself a)

not_back : (a b : List ℕ) → bytes_before a b ≡ true → bytes_before b a ≡ false
not_back a b is = false_from_ne_true (bytes_before b a) (λ back. not_before_itself a (before_trans a b a is back))

stays_behind : (x q p : List ℕ) → bytes_before x q ≡ false → bytes_before q p ≡ false → bytes_before x p ≡ false
stays_behind x q p first second = false_from_ne_true (bytes_before x p) (λ is.
    let other : p ≢ q = λ same. both_ways (bytes_before x q) first (ap (bytes_before x) (sym same) ∙ is) in
    both_ways (bytes_before x q) first (before_trans x p q is (before_or_after q p other second)))

-- ---- the fold

record From (all : Rows) (ino : ℕ) (rows : Rows) (p : List (List ℕ)) : Type 0 where
  line : ℕ
  at : NameRow
  is : row rows line ≡ Some at
  child_is : at.child ≡ ino
  path_is : path_of_row all at ≡ p

record Among (all : Rows) (ino : ℕ) (rows : Rows) (p : List (List ℕ)) : Type 0 where
  is : first_among all ino rows ≡ Some p
  from : From all ino rows p
  first : (k : ℕ) (r : NameRow) → row rows k ≡ Some r → r.child ≡ ino → bytes_before (printed (path_of_row all r)) (printed p) ≡ false

record NoneAmong (all : Rows) (ino : ℕ) (rows : Rows) : Type 0 where
  none : first_among all ino rows ≡ None
  never : (k : ℕ) (r : NameRow) → row rows k ≡ Some r → r.child ≢ ino

behind_from : (all : Rows) (ino : ℕ) (o : Option NameRow) (rows : Rows) (p : List (List ℕ)) → From all ino rows p → From all ino (o ∷ rows) p
behind_from all ino o rows p f = record { line = suc f.line; at = f.at; is = f.is; child_is = f.child_is; path_is = f.path_is }

-- a row that has the child, before others of which none has it
alone : (all : Rows) (ino : ℕ) (s : NameRow) (rows : Rows) → s.child ≡ ino → (s.child == ino) ≡ true → NoneAmong all ino rows → Among all ino (Some s ∷ rows) (path_of_row all s)
alone all ino s rows own test lack = record {
  is = ap (λ b. cond b (Some (earlier (path_of_row all s) (first_among all ino rows))) (first_among all ino rows)) test ∙ ap (λ o. Some (earlier (path_of_row all s) o)) lack.none;
  from = record { line = zero; at = s; is = refl; child_is = own; path_is = refl };
  first = first;
} where
  first : (k : ℕ) (r : NameRow) → row (Some s ∷ rows) k ≡ Some r → r.child ≡ ino → bytes_before (printed (path_of_row all r)) (printed (path_of_row all s)) ≡ false
  first zero r is child = ap (λ (x : NameRow). bytes_before (printed (path_of_row all x)) (printed (path_of_row all s))) (sym (same_Some s r is)) ∙ not_own (printed (path_of_row all s))
  first (suc k) r is child = absurd (lack.never k r is child)

-- and before others whose first path is q
besides : (all : Rows) (ino : ℕ) (s : NameRow) (rows : Rows) (q : List (List ℕ)) → s.child ≡ ino → (s.child == ino) ≡ true → Among all ino rows q → (p : List (List ℕ)) × Among all ino (Some s ∷ rows) p
besides all ino s rows q own test among = by (bytes_before (printed q) (printed mine)) refl where
  mine : List (List ℕ)
  mine = path_of_row all s

  is_by : (b : Bool) → bytes_before (printed q) (printed mine) ≡ b → first_among all ino (Some s ∷ rows) ≡ Some (cond b q mine)
  is_by b is =
      ap (λ x. cond x (Some (earlier mine (first_among all ino rows))) (first_among all ino rows)) test
      ∙ (ap (λ o. Some (earlier mine o)) among.is ∙ ap (λ x. Some (cond x q mine)) is)

  by : (b : Bool) → bytes_before (printed q) (printed mine) ≡ b → (p : List (List ℕ)) × Among all ino (Some s ∷ rows) p
  by true is = (q, record { is = is_by true is; from = behind_from all ino (Some s) rows q among.from; first = first }) where
    first : (k : ℕ) (r : NameRow) → row (Some s ∷ rows) k ≡ Some r → r.child ≡ ino → bytes_before (printed (path_of_row all r)) (printed q) ≡ false
    first zero r at child = ap (λ (x : NameRow). bytes_before (printed (path_of_row all x)) (printed q)) (sym (same_Some s r at)) ∙ not_back (printed q) (printed mine) is
    first (suc k) r at child = among.first k r at child
  by false is = (mine, record { is = is_by false is; from = record { line = zero; at = s; is = refl; child_is = own; path_is = refl }; first = first }) where
    first : (k : ℕ) (r : NameRow) → row (Some s ∷ rows) k ≡ Some r → r.child ≡ ino → bytes_before (printed (path_of_row all r)) (printed mine) ≡ false
    first zero r at child = ap (λ (x : NameRow). bytes_before (printed (path_of_row all x)) (printed mine)) (sym (same_Some s r at)) ∙ not_own (printed mine)
    first (suc k) r at child = stays_behind (printed (path_of_row all r)) (printed q) (printed mine) (among.first k r at child) is

look : (all : Rows) (ino : ℕ) (rows : Rows) → NoneAmong all ino rows ⊎ ((p : List (List ℕ)) × Among all ino rows p)
look all ino [] = inl (record { none = refl; never = never }) where
  never : (k : ℕ) (r : NameRow) → row [] k ≡ Some r → r.child ≢ ino
  never k r is child = cc
look all ino (None ∷ rows) = elim (look all ino rows) [
  | inl lack ↦ inl (record { none = lack.none; never = never lack })
  | inr some ↦ inr (some.0, record { is = some.1.is; from = behind_from all ino None rows some.0 some.1.from; first = first some.0 some.1 })
] where
  never : NoneAmong all ino rows → (k : ℕ) (r : NameRow) → row (None ∷ rows) k ≡ Some r → r.child ≢ ino
  never lack zero r is child = cc
  never lack (suc k) r is child = lack.never k r is child

  first : (p : List (List ℕ)) → Among all ino rows p → (k : ℕ) (r : NameRow) → row (None ∷ rows) k ≡ Some r → r.child ≡ ino → bytes_before (printed (path_of_row all r)) (printed p) ≡ false
  first p among zero r is child = cc
  first p among (suc k) r is child = among.first k r is child
look all ino (Some s ∷ rows) = by (s.child == ino) refl (look all ino rows) where
  by : (b : Bool) → (s.child == ino) ≡ b → NoneAmong all ino rows ⊎ ((p : List (List ℕ)) × Among all ino rows p) → NoneAmong all ino (Some s ∷ rows) ⊎ ((p : List (List ℕ)) × Among all ino (Some s ∷ rows) p)
  by true test (inl lack) = inr (path_of_row all s, alone all ino s rows ((Decides-eqb s.child ino).0 test) test lack)
  by true test (inr some) = inr (besides all ino s rows some.0 ((Decides-eqb s.child ino).0 test) test some.1)
  by false test (inl lack) =
      inl (record { none = ap (λ b. cond b (Some (earlier (path_of_row all s) (first_among all ino rows))) (first_among all ino rows)) test ∙ lack.none; never = never }) where
        never : (k : ℕ) (r : NameRow) → row (Some s ∷ rows) k ≡ Some r → r.child ≢ ino
        never zero r is child = both_ways (s.child == ino) test (eq-eqb s.child ino (ap (λ (x : NameRow). x.child) (same_Some s r is) ∙ child))
        never (suc k) r is child = lack.never k r is child
  by false test (inr some) =
      inr (
        some.0,
        record {
          is = ap (λ b. cond b (Some (earlier (path_of_row all s) (first_among all ino rows))) (first_among all ino rows)) test ∙ some.1.is;
          from = behind_from all ino (Some s) rows some.0 some.1.from;
          first = first;
        },
      ) where
        first : (k : ℕ) (r : NameRow) → row (Some s ∷ rows) k ≡ Some r → r.child ≡ ino → bytes_before (printed (path_of_row all r)) (printed some.0) ≡ false
        first zero r is child = absurd (both_ways (s.child == ino) test (eq-eqb s.child ino (ap (λ (x : NameRow). x.child) (same_Some s r is) ∙ child)))
        first (suc k) r is child = some.1.first k r is child

-- ---- the path of a directory

path_up-top : (rows : Rows) (n ino : ℕ) → first_row_from (is_child ino) 0 rows ≡ None → path_up rows (suc n) ino ≡ []
unfolding path_up
path_up-top rows n ino none = ap (λ o. option_map_or (λ found. path_up rows n (parent_of_row found.1) ++ name_of_row found.1 ∷ []) o []) none

path_up-below : (rows : Rows) (n ino k : ℕ) (r : NameRow) → first_row_from (is_child ino) 0 rows ≡ Some (k, Some r) → path_up rows (suc n) ino ≡ path_up rows n r.parent ++ r.name ∷ []
unfolding path_up
path_up-below rows n ino k r is = ap (λ o. option_map_or (λ found. path_up rows n (parent_of_row found.1) ++ name_of_row found.1 ∷ []) o []) is

-- the line of an inode that has one name
own_line : (rows : Rows) (line : ℕ) (r : NameRow) → names_of rows r.child ≤ 1 → row rows line ≡ Some r → first_row_from (is_child r.child) 0 rows ≡ Some (line, Some r)
own_line rows line r few is =
    let pass : is_child r.child (row rows line) ≡ true = ap (is_child r.child) is ∙ eq-eqb r.child r.child refl in
    let first : IsFirstRow (is_child r.child) rows line (Some r) = record {
      within = row-within rows line (is_child r.child) refl pass;
      is = is;
      passes = eq-eqb r.child r.child refl;
      before = λ j below. false_from_ne_true (is_child r.child (row rows j)) (λ also. omega (arith, below, names_of-one_line rows r.child j line few also pass));
    } in
    first_row-first (is_child r.child) rows line (Some r) first

no_more : (q : List (List ℕ)) (x : List ℕ) (path : List (List ℕ)) → path ≡ q ++ x ∷ [] → length path ≡ length q + 1
no_more q x path is = omega (arith, ap length is, length-append q (x ∷ []))

-- It is the path that leads to the directory.
pub path_up-leads : (directory : ℕ → Bool) (rows : Rows) (n ino : ℕ) (path : List (List ℕ)) → IsForest directory rows → names_of rows 0 ≡ 0 → directory ino ≡ true → walk rows 0 path ≡ Some ino → length path ≤ n → path_up rows n ino ≡ path
unfolding path_up walk
path_up-leads directory rows zero ino path forest root its leads short = elim (by_last path) [
  | inl none ↦ sym none
  | inr more ↦ absurd (omega (arith, short, no_more more.0 more.1 path more.2))
]
path_up-leads directory rows (suc n) ino path forest root its leads short = elim (by_last path) [
  | inl none ↦ path_up-top rows n ino (ap (λ i. first_row_from (is_child i) 0 rows) (sym (at_root none)) ∙ first_row-nothing (is_child 0) 0 rows (names_of-zero rows 0 root)) ∙ sym none
  | inr more ↦
      let last = last_step rows more.0 more.1 ino (ap (walk rows 0) (sym more.2) ∙ leads) in
      let line = NamingLine-child_named rows last.above more.1 ino last.named in
      let few : names_of rows line.at.child ≤ 1 = forest.one_name line.at.child (ap directory line.child_is ∙ its) in
      let found : first_row_from (is_child ino) 0 rows ≡ Some (line.line, Some line.at) =
      ap (λ i. first_row_from (is_child i) 0 rows) (sym line.child_is) ∙ own_line rows line.line line.at few line.is in
      let up : path_up rows n line.at.parent ≡ more.0 =
      path_up-leads directory rows n line.at.parent more.0 forest root (forest.parents line.line line.at line.is) (last.led ∙ ap (λ (i : ℕ). Some i) (sym line.parent_is))
      (omega (arith, short, no_more more.0 more.1 path more.2)) in
      path_up-below rows n ino line.line line.at found ∙ ((λ i. up i ++ line.name_is i ∷ []) ∙ sym more.2)
]
  where
    at_root : path ≡ [] → 0 ≡ ino
    at_root none = let both : Some 0 ≡ Some ino = ap (walk rows 0) (sym none) ∙ leads in same_Some 0 ino both

-- ---- the rows of a mounted volume

forest_of : (v : Volume) → IsMounted v → IsForest (is_directory_in v.inodes) v.names
forest_of v m = kept-forest v m.sane.kept (all_lines v m.sane)

-- the path of a row's directory
above_row : (v : Volume) → IsMounted v → (line : ℕ) (r : NameRow) → row v.names line ≡ Some r → (names : List (List ℕ)) × (length names ≤ longest_path) × (walk v.names 0 names ≡ Some r.parent)
above_row v m line r is =
    let steps = (kept-placed v line r m.sane.kept (all_lines v m.sane) is).steps in
    let down = walk-up v.names steps.0 r.parent 0 (kept-keyed v m.sane.kept (all_lines v m.sane)) steps.2 in
    (down.0, omega (arith, down.1, steps.1), down.2)

directory_path_is : (v : Volume) (m : IsMounted v) (line : ℕ) (r : NameRow) → row v.names line ≡ Some r → (q : List (List ℕ)) → walk v.names 0 q ≡ Some r.parent → path_up v.names longest_path r.parent ≡ q
directory_path_is v m line r is q led =
    let forest = forest_of v m in
    let above = above_row v m line r is in
    let directory = forest.parents line r is in
    let same : q ≡ above.0 = one_path v m q above.0 r.parent directory led above.2 in
    path_up-leads (is_directory_in v.inodes) v.names longest_path r.parent q forest m.sane.kept.directories.root directory led (omega (arith, above.1, ap length same))

-- the path of a row leads to its child,
row_leads : (v : Volume) → IsMounted v → (line : ℕ) (r : NameRow) → row v.names line ≡ Some r → walk v.names 0 (path_of_row v.names r) ≡ Some r.child
row_leads v m line r is =
    let above = above_row v m line r is in
    let up = directory_path_is v m line r is above.0 above.2 in
    walk_more v.names (path_up v.names longest_path r.parent) r.name r.parent r.child (ap (walk v.names 0) up ∙ above.2)
    (child_named-at v.names line r (kept-keyed v m.sane.kept (all_lines v m.sane)) (row-below v.names line r is) is)

-- and each path that leads to an inode but the root is that of a row
led_by_row : (v : Volume) → IsMounted v → (q : List (List ℕ)) (ino : ℕ) → ino ≢ 0 → walk v.names 0 q ≡ Some ino → From v.names ino v.names q
unfolding walk
led_by_row v m q ino other led = elim (by_last q) [
  | inl none ↦ let both : Some 0 ≡ Some ino = ap (walk v.names 0) (sym none) ∙ led in absurd (other (sym (same_Some 0 ino both)))
  | inr more ↦
      let last = last_step v.names more.0 more.1 ino (ap (walk v.names 0) (sym more.2) ∙ led) in
      let line = NamingLine-child_named v.names last.above more.1 ino last.named in
      let up = directory_path_is v m line.line line.at line.is more.0 (last.led ∙ ap (λ (i : ℕ). Some i) (sym line.parent_is)) in
      record { line = line.line; at = line.at; is = line.is; child_is = line.child_is; path_is = (λ i. up i ++ line.name_is i ∷ []) ∙ sym more.2 }
]

-- EACH INODE IN USE but the root has a first path.
pub first_path-is : (v : Volume) → IsMounted v → (ino : ℕ) → IsUsed v ino → ino ≢ 0 → (p : List (List ℕ)) × (first_path v.names ino ≡ Some p) × IsFirstPath v.names ino p
first_path-is v m ino used other = elim (look v.names ino v.names) [
  | inl lack ↦
      let path = path_of_used v m ino used in
      let at = led_by_row v m path.0 ino other path.1 in
      absurd (lack.never at.line at.at at.is at.child_is)
  | inr some ↦
      let from = some.1.from in (
        some.0,
        some.1.is,
        record {
          leads = ap (walk v.names 0) (sym from.path_is) ∙ (row_leads v m from.line from.at from.is ∙ ap (λ (i : ℕ). Some i) from.child_is);
          first = λ q led. (let at = led_by_row v m q ino other led in
              ap (λ x. bytes_before (printed x) (printed some.0)) (sym at.path_is) ∙ some.1.first at.line at.at at.is at.child_is);
        },
      )
]

-- Of an inode that has one name, as each has today, it is the path that leads there.
pub first_path-own : (v : Volume) (m : IsMounted v) (ino : ℕ) → IsUsed v ino → ino ≢ 0 → names_of v.names ino ≤ 1 → (q : List (List ℕ)) → walk v.names 0 q ≡ Some ino → first_path v.names ino ≡ Some q
first_path-own v m ino used other few q led =
    let first = first_path-is v m ino used other in
    first.1 ∙ ap (λ (p : List (List ℕ)). Some p) (one-path (is_directory_in v.inodes) v.names 0 first.0 q ino (forest_of v m) few first.2.leads led)
