-- Paths in names that are trees: going up is going back along them, each directory has one path, and what a path begins
-- with lies above its end.
use Rattle.std.specs.Prelude.{◌≡◌, ℕ, ◌+◌, ◌-◌, ◌<◌, ◌≤◌, Bool, List, [], ◌∷◌, ◌++◌, length, take, true, false, nat_lt, Some, option_and_then, refl}
use Rattle.std.specs.List.{list_any}
use Rattle.std.proofs.Common.{arith, ap, sym, ◌∙◌, subst, append_assoc, inl, inr}
use Rattle.std.proofs.lemmas.Bool.{cases_order, eq-eqb, or_parts}
use Rattle.std.proofs.lemmas.Bool.Decides.{nat_tests}
use Rattle.std.proofs.lemmas.List.{length-take, take_all, take_more}
use Rattle.std.proofs.lemmas.Option.{same_Some}
use Rattle.std.proofs.lemmas.Slice.Eq.{bytes_eq-Decides, starts_is}
use Rattle.k_split_model.specs.layout_model.Lines.{NameRow}
use Rattle.k_split_model.specs.layout_model.Names.{Rows, row, is_child, names_of, parent_of, up, walk}
use Rattle.k_split_model.specs.layout_model.TableLaws.{up-more, walk-append, walk-step, walk-up}
use Rattle.k_split_model.specs.layout_model.UpLaws.{up-add}
use Rattle.name_laws.specs.Forests.{IsForest}
use Rattle.name_laws.specs.ForestLaws.{forest-acyclic}
use Rattle.name_laws.specs.RowLaws.{names_of-one_line}
use Rattle.name_laws.specs.SetLaws.{parent_of-one_name}
use Rattle.k_split_model.specs.posix_tables.Names.{directory_path, is_below, is_root, last_name, longest_path, too_long}

-- ---- a path and its last name

last_split : (p : List (List ℕ)) → 0 < length p → directory_path p ++ (last_name p ∷ []) ≡ p
last_split p some =
    let count : length p ≡ length p - 1 + 1 = omega (arith, some) in
    sym (take_more p (length p - 1) [] (omega (arith, some))) ∙ ap (λ n. take n p) (sym count)
    ∙ take_all (length p) p (omega arith)

-- a path that is not that of the root has a name
pub some-names : (p : List (List ℕ)) → is_root p ≡ false → 0 < length p
some-names p below = grind (arith, nat_tests)

pub split-last : (p : List (List ℕ)) → is_root p ≡ false → directory_path p ++ (last_name p ∷ []) ≡ p
split-last p below = last_split p (some-names p below)

-- and its directory has one name less
pub length-directory : (p : List (List ℕ)) → is_root p ≡ false → length (directory_path p) + 1 ≡ length p
length-directory p below = omega (arith, length-take (length p - 1) p, some-names p below)

-- a path that is not too long has 16 names at most
pub few-names : (longest : ℕ) (p : List (List ℕ)) → too_long longest p ≡ false → length p ≤ 16
few-names longest p short =
    let parts = or_parts (list_any (λ name. nat_lt longest (length name)) p) (nat_lt longest_path (length p)) short in
    few (length p) parts.1
  where
    few : (n : ℕ) → nat_lt 16 n ≡ false → n ≤ 16
    few n h = grind (arith, nat_tests)

-- ---- trees

-- a path whose end has at most one name begins at an inode that has at most one: at its end, or at a directory
few-on_path : (directory : ℕ → Bool) (rows : Rows) (ino : ℕ) (names : List (List ℕ)) (end : ℕ) → IsForest directory rows
    → names_of rows end ≤ 1 → walk rows ino names ≡ Some end → names_of rows ino ≤ 1
unfolding walk
few-on_path directory rows ino [] end forest few leads =
    subst (λ i. names_of rows i ≤ 1) (sym (same_Some ino end leads)) few
few-on_path directory rows ino (name ∷ names) end forest few leads =
    let line = (walk-step rows ino name names end leads).first in
    forest.one_name ino (ap directory (sym line.parent_is) ∙ forest.parents line.line line.at line.is)

-- going up from the end of a path as many steps as it has names one comes to its beginning
pub up-of_walk : (directory : ℕ → Bool) (rows : Rows) (ino : ℕ) (names : List (List ℕ)) (end : ℕ) → IsForest directory rows
    → names_of rows end ≤ 1 → walk rows ino names ≡ Some end
    → up rows (length names) end ≡ Some ino
unfolding up walk
up-of_walk directory rows ino [] end forest few leads = sym leads
up-of_walk directory rows ino (name ∷ names) end forest few leads =
    let step = walk-step rows ino name names end leads in
    let line = step.first in
    let its : names_of rows line.at.child ≤ 1 =
    subst (λ i. names_of rows i ≤ 1) (sym line.child_is) (few-on_path directory rows step.child names end forest few step.rest)
    in
    let above : parent_of rows step.child ≡ Some ino =
    ap (parent_of rows) (sym line.child_is) ∙ parent_of-one_name rows line.line line.at its line.is ∙ ap (λ (i : ℕ). Some i) line.parent_is
    in
    up-more rows (length names) end
    ∙ ap (option_and_then (parent_of rows)) (up-of_walk directory rows step.child names end forest few step.rest) ∙ above

-- an inode is met once on the way up
met-once : (directory : ℕ → Bool) (rows : Rows) (m n ino above : ℕ) → IsForest directory rows → up rows m ino ≡ Some above → up rows n ino ≡ Some above
    → m < n → ⊥
met-once directory rows m n ino above forest first second before =
    let split : m + (n - m) ≡ n = omega (arith, before) in
    let round : up rows (n - m) above ≡ Some above =
    sym (ap (option_and_then (up rows (n - m))) first) ∙ sym (up-add rows m (n - m) ino) ∙ ap (λ k. up rows k ino) split
    ∙ second
    in
    let path : (names : List (List ℕ)) × (length names ≡ n - m) × (walk rows above names ≡ Some above) =
    walk-up rows (n - m) above above forest.keyed round
    in
    let none : path.0 ≡ [] = (forest-acyclic directory rows forest).no_return above path.0 path.2 in
    absurd (omega (arith, ap length none, path.1, before))

pub one-depth : (directory : ℕ → Bool) (rows : Rows) (m n ino above : ℕ) → IsForest directory rows → up rows m ino ≡ Some above
    → up rows n ino ≡ Some above → m ≡ n
one-depth directory rows m n ino above forest first second = elim (cases_order m n) [
  | inl same ↦ same
  | inr order ↦ elim order [
    | inl before ↦ absurd (met-once directory rows m n ino above forest first second before)
    | inr behind ↦ absurd (met-once directory rows n m ino above forest second first behind)
  ]
]

-- From one inode to another that has at most one name, as each directory has, there is one path.
pub one-path : (directory : ℕ → Bool) (rows : Rows) (ino : ℕ) (xs ys : List (List ℕ)) (end : ℕ) → IsForest directory rows
    → names_of rows end ≤ 1 → walk rows ino xs ≡ Some end → walk rows ino ys ≡ Some end
    → xs ≡ ys
unfolding walk
one-path directory rows ino [] ys end forest few first second =
    let same : ino ≡ end = same_Some ino end first in
    sym ((forest-acyclic directory rows forest).no_return ino ys (second ∙ ap (λ (i : ℕ). Some i) (sym same)))
one-path directory rows ino (x ∷ xs) [] end forest few first second =
    let same : ino ≡ end = same_Some ino end second in
    (forest-acyclic directory rows forest).no_return ino (x ∷ xs) (first ∙ ap (λ (i : ℕ). Some i) (sym same))
one-path directory rows ino (x ∷ xs) (y ∷ ys) end forest few first second =
    let s = walk-step rows ino x xs end first in
    let t = walk-step rows ino y ys end second in
    let depth =
    one-depth directory rows (length (x ∷ xs)) (length (y ∷ ys)) end ino forest
    (up-of_walk directory rows ino (x ∷ xs) end forest few first) (up-of_walk directory rows ino (y ∷ ys) end forest few second)
    in
    let lengths : length xs ≡ length ys = omega (arith, depth) in
    let child : s.child ≡ t.child =
    same_Some s.child t.child
    (sym (up-of_walk directory rows s.child xs end forest few s.rest) ∙ ap (λ n. up rows n end) lengths
    ∙ up-of_walk directory rows t.child ys end forest few t.rest)
    in
    let one : s.first.line ≡ t.first.line =
    names_of-one_line rows s.child s.first.line t.first.line (few-on_path directory rows s.child xs end forest few s.rest)
    (ap (is_child s.child) s.first.is ∙ eq-eqb s.first.at.child s.child s.first.child_is)
    (ap (is_child s.child) t.first.is ∙ eq-eqb t.first.at.child s.child (t.first.child_is ∙ sym child))
    in
    let both : Some s.first.at ≡ Some t.first.at = sym s.first.is ∙ ap (row rows) one ∙ t.first.is in
    let at : s.first.at ≡ t.first.at = same_Some s.first.at t.first.at both in
    let name : x ≡ y = sym s.first.name_is ∙ ap (λ (r : NameRow). r.name) at ∙ t.first.name_is in
    let rest : xs ≡ ys = one-path directory rows s.child xs ys end forest few s.rest (ap (λ c. walk rows c ys) child ∙ t.rest) in
    λ i. name i ∷ rest i

-- a path that begins with the names of another one is below it
pub is_below-append : (p rest : List (List ℕ)) → is_below (p ++ rest) p ≡ true
is_below-append p rest = (starts_is bytes_eq-Decides (p ++ rest) p (is_below (p ++ rest) p) refl).1 rest refl

-- So a path whose end, with at most one name, lies below an inode begins with the path of that inode.
pub below-path : (directory : ℕ → Bool) (rows : Rows) (p q : List (List ℕ)) (name : List ℕ) (child end m : ℕ)
    → IsForest directory rows → names_of rows end ≤ 1 → walk rows 0 p ≡ Some child
    → walk rows 0 q ≡ Some end → up rows m end ≡ Some child → is_below (q ++ (name ∷ [])) p ≡ true
below-path directory rows p q name child end m forest few to_child to_end meets =
    let down : (names : List (List ℕ)) × (length names ≡ m) × (walk rows child names ≡ Some end) =
    walk-up rows m end child forest.keyed meets
    in
    let through : walk rows 0 (p ++ down.0) ≡ Some end =
    walk-append rows 0 p down.0 ∙ ap (option_and_then (λ c. walk rows c down.0)) to_child ∙ down.2
    in
    let same : q ≡ p ++ down.0 = one-path directory rows 0 q (p ++ down.0) end forest few to_end through in
    let all : q ++ (name ∷ []) ≡ p ++ (down.0 ++ (name ∷ [])) =
    ap (λ l. l ++ (name ∷ [])) same ∙ append_assoc p down.0 (name ∷ [])
    in
    ap (λ l. is_below l p) all ∙ is_below-append p (down.0 ++ (name ∷ []))
