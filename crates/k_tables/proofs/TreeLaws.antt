-- Places of a tree, level by level.
use Rattle.std.proofs.Common.{◌≡◌, ℕ, zero, suc, ◌+◌, ◌<◌, ◌≤◌, Bool, true, false, cond, not, ◌&&◌, List, [], ◌∷◌, ◌++◌, length, get_or, take, drop, map, All, append_assoc, Option, Some, None, refl, sym, ◌∙◌, ap, subst, arith, inl, inr}
use Rattle.std.specs.Prelude.{◌==◌, nat_lt, nat_le, count_by, sum_by, is_some, unwrap_or, IsPermutation, option_and_then}
use Rattle.std.proofs.Math.Path.{fun_ext}
use Rattle.std.proofs.lemmas.Bool.{both_ways, cases_lt}
use Rattle.std.proofs.lemmas.Bool.Decides.{nat_tests}
use Rattle.std.proofs.Math.Seq.{drop-cons}
use Rattle.std.proofs.lemmas.List.{append-nil, drop_all, take_all}
use Rattle.std.proofs.lemmas.List.Elements.{All-append, All-map}
use Rattle.std.proofs.lemmas.List.Sorted.{All-permutation, sum_by-IsPermutation}
use Rattle.std.proofs.lemmas.List.Sums.{sum_by-append, sum_by-cons, sum_by_more}
use Rattle.k_names.specs.layout_model.Fields.{is_same}
use Rattle.layout_model.specs.Names.{Rows, child_named, walk}
use Rattle.layout_model.specs.TableLaws.{walk-append}
use Rattle.layout_model.specs.Tables.{IsKeyed, names_below}
use Rattle.posix_tables.specs.Names.{directory_path, is_root, last_name, longest_path, same_name}
use Rattle.k_tables.specs.declared.tables.trees.TreePlace.{TreePlace}
use Rattle.k_tables.specs.TablesTrees.{child_place, children_at, has_path, is_at, same_path, tree_place, AddsChildren, AreShort, IsLevel, IsStanding}
use Rattle.k_tables.proofs.ChildNames.{below-lead, count-child}
use Rattle.k_tables.proofs.PathLists.{and_false, more-below, more-root, path-count, path-split, same_path-eq}

-- ---- lists

-- the image of one element more
pub pushed-one : {X Y : Type 0} (f : X → Y) (xs : List X) (i : ℕ) (x : X) (y : Y) (found new whole : List Y) → i < length xs
    → x ≡ get_or xs i x → new ≡ found ++ y ∷ [] → y ≡ f x → found ++ map f (drop i xs) ≡ whole
    → new ++ map f (drop (i + 1) xs) ≡ whole
pushed-one f xs i x y found new whole within is pushed same all =
    let one : suc i ≡ i + 1 = omega arith in
    let rest : drop i xs ≡ x ∷ drop (i + 1) xs = drop-cons xs i x within ∙ (λ j. sym is j ∷ drop (one j) xs) in
    ap (λ l. l ++ map f (drop (i + 1) xs)) (pushed ∙ ap (λ z. found ++ z ∷ []) same)
    ∙ append_assoc found (f x ∷ []) (map f (drop (i + 1) xs)) ∙ ap (λ l. found ++ map f l) (sym rest) ∙ all

pub pushed-all : {X Y : Type 0} (f : X → Y) (xs : List X) (i : ℕ) (found whole : List Y) → length xs ≤ i
    → found ++ map f (drop i xs) ≡ whole → found ≡ whole
pushed-all f xs i found whole every all = sym (append-nil found) ∙ ap (λ l. found ++ map f l) (sym (drop_all i xs every)) ∙ all

-- ---- sums

count-map : {X Y : Type 0} (p : Y → Bool) (f : X → Y) (xs : List X) → count_by p (map f xs) ≡ count_by (λ x. p (f x)) xs
count-map p f [] = refl
count-map p f (x ∷ xs) =
    sum_by-cons (λ y. cond (p y) 1 0) (f x) (map f xs)
    ∙ ap (λ n. cond (p (f x)) 1 0 + n) (count-map p f xs) ∙ sym (sum_by-cons (λ y. cond (p (f y)) 1 0) x xs)

sum-none : {X : Type 0} (xs : List X) → sum_by (λ (x : X). 0) xs ≡ 0
sum-none [] = refl
sum-none (x ∷ xs) = omega (arith, sum_by-cons (λ y. 0) x xs, sum-none xs)

sum-same : {X : Type 0} (f g : X → ℕ) (xs : List X) → ((x : X) → f x ≡ g x) → sum_by f xs ≡ sum_by g xs
sum-same f g xs same = ap (λ h. sum_by h xs) (fun_ext same)

-- ---- walks

lead_one : (rows : Rows) (ino : ℕ) (name : List ℕ) → walk rows ino (name ∷ []) ≡ child_named rows ino name
unfolding walk
lead_one rows ino name = by (child_named rows ino name)
  where
    by : (o : Option ℕ) → option_and_then (λ child. Some child) o ≡ o
    by None = refl
    by (Some child) = refl

lead_more : (rows : Rows) (p : TreePlace) (name : List ℕ) → IsStanding rows p → walk rows 0 (p.path ++ name ∷ []) ≡ child_named rows p.ino name
lead_more rows p name standing =
    walk-append rows 0 p.path (name ∷ []) ∙ ap (option_and_then (λ c. walk rows c (name ∷ []))) standing.leads ∙ lead_one rows p.ino name

-- where a path leads somewhere, its directory does
lead_less : (rows : Rows) (path : List (List ℕ)) → is_root path ≡ false → has_path rows path ≡ true → has_path rows (directory_path path) ≡ true
lead_less rows path below has = by (walk rows 0 (directory_path path)) refl
  where
    on : walk rows 0 path ≡ option_and_then (λ c. walk rows c (last_name path ∷ [])) (walk rows 0 (directory_path path))
    on = ap (walk rows 0) (sym (path-split path below)) ∙ walk-append rows 0 (directory_path path) (last_name path ∷ [])

    by : (o : Option ℕ) → walk rows 0 (directory_path path) ≡ o → has_path rows (directory_path path) ≡ true
    by None none =
        let never : has_path rows path ≡ false = ap (λ (o : Option ℕ). is_some o) (on ∙ ap (option_and_then (λ c. walk rows c (last_name path ∷ []))) none) in
        absurd (both_ways (has_path rows path) never has)
    by (Some end) is = ap (λ (o : Option ℕ). is_some o) is

-- ---- the children of a place

child-standing : (rows : Rows) (p : TreePlace) (name : List ℕ) → IsStanding rows p → is_some (child_named rows p.ino name) ≡ true
    → IsStanding rows (child_place rows p name)
child-standing rows p name standing some = record { text = refl; leads = lead_more rows p name standing ∙ known (child_named rows p.ino name) some }
  where
    known : (o : Option ℕ) → is_some o ≡ true → o ≡ Some (unwrap_or o 0)
    known None some = cc
    known (Some child) some = refl

pub children-standing : (rows : Rows) (p : TreePlace) (old new : List TreePlace) → IsStanding rows p → AddsChildren rows p old new
    → All (IsStanding rows) old → All (IsStanding rows) new
children-standing rows p old new standing adds all =
    subst (λ l. All (IsStanding rows) l) (sym adds.is)
    (All-append (IsStanding rows) old (map (child_place rows p) adds.names) all
    (All-map (IsStanding rows) (child_place rows p) adds.names (λ k d below.
    child-standing rows p (get_or adds.names k d) standing
    (All-permutation (λ name. is_some (child_named rows p.ino name) ≡ true) (names_below rows p.ino) adds.names adds.are (below-lead rows p.ino) k d below))))

-- how many names lead to the path
named : (rows : Rows) (p : TreePlace) (names path : List (List ℕ)) → IsKeyed rows → IsStanding rows p
    → IsPermutation (names_below rows p.ino) names
    → count_by (λ k. same_path (p.path ++ k ∷ []) path) names ≡ children_at rows path p
named rows p names path keyed standing are = by_root (is_root path) refl
  where
    ones : (f g : List ℕ → Bool) → ((k : List ℕ) → f k ≡ g k) → count_by f names ≡ count_by g names
    ones f g same = sum-same (λ k. cond (f k) 1 0) (λ k. cond (g k) 1 0) names (λ k. ap (λ b. cond b 1 0) (same k))

    by_same : (b : Bool) → same_path p.path (directory_path path) ≡ b → is_root path ≡ false
        → count_by (λ k. b && same_name k (last_name path)) names ≡ cond (b && has_path rows path) 1 0
    by_same true same below =
        let at : p.path ≡ directory_path path = same_path-eq p.path (directory_path path) same in
        let leads : has_path rows path ≡ is_some (child_named rows p.ino (last_name path)) =
        ap (has_path rows) (sym (path-split path below)) ∙ ap (λ q. has_path rows (q ++ last_name path ∷ [])) (sym at)
        ∙ ap (λ (o : Option ℕ). is_some o) (lead_more rows p (last_name path) standing)
        in
        sum_by-IsPermutation (λ k. cond (is_same k (last_name path)) 1 0) (names_below rows p.ino) names are
        ∙ count-child rows p.ino (last_name path) keyed ∙ ap (λ b. cond b 1 0) (sym leads)
    by_same false same below = sum-none names

    by_root : (b : Bool) → is_root path ≡ b → count_by (λ k. same_path (p.path ++ k ∷ []) path) names ≡ children_at rows path p
    by_root true root =
        ones (λ k. same_path (p.path ++ k ∷ []) path) (λ k. false) (λ k. more-root p.path k path root) ∙ sum-none names
        ∙ sym (ap (λ b. cond ((not b && same_path p.path (directory_path path)) && has_path rows path) 1 0) root)
    by_root false below =
        ones (λ k. same_path (p.path ++ k ∷ []) path) (λ k. same_path p.path (directory_path path) && same_name k (last_name path)) (λ k. more-below p.path k path below)
        ∙ by_same (same_path p.path (directory_path path)) refl below
        ∙ sym (ap (λ b. cond ((not b && same_path p.path (directory_path path)) && has_path rows path) 1 0) below)

pub children-count : (rows : Rows) (p : TreePlace) (old new : List TreePlace) (path : List (List ℕ)) → IsKeyed rows → IsStanding rows p
    → AddsChildren rows p old new → count_by (is_at path) new ≡ count_by (is_at path) old + children_at rows path p
children-count rows p old new path keyed standing adds =
    ap (count_by (is_at path)) adds.is ∙ sum_by-append (λ q. cond (is_at path q) 1 0) old (map (child_place rows p) adds.names)
    ∙ ap (λ n. count_by (is_at path) old + n)
    (count-map (is_at path) (child_place rows p) adds.names ∙ named rows p adds.names path keyed standing adds.are)

-- ---- levels

-- the places below so many of a level
pub record ArePart (rows : Rows) (level : List TreePlace) (i : ℕ) (next : List TreePlace) : Type 0 where
  pub each : All (IsStanding rows) next
  pub count : (path : List (List ℕ)) → count_by (is_at path) next ≡ sum_by (children_at rows path) (take i level)

pub part-none : (rows : Rows) (level next : List TreePlace) → next ≡ [] → ArePart rows level 0 next
part-none rows level next none = record {
  each = subst (λ l. All (IsStanding rows) l) (sym none) (λ k d below. absurd (omega arith));
  count = λ path. ap (count_by (is_at path)) none;
}

pub part-more : (rows : Rows) (level : List TreePlace) (i : ℕ) (next new : List TreePlace) (p : TreePlace) → IsKeyed rows
    → All (IsStanding rows) level → i < length level → p ≡ get_or level i p → ArePart rows level i next
    → AddsChildren rows p next new → ArePart rows level (i + 1) new
part-more rows level i next new p keyed all within is part adds =
    let standing : IsStanding rows p = subst (IsStanding rows) (sym is) (all i p within) in
    record {
      each = children-standing rows p next new standing adds part.each;
      count = λ path.
          children-count rows p next new path keyed standing adds
          ∙ (λ j. part.count path j + children_at rows path (is j))
          ∙ sym (sum_by_more (children_at rows path) level i p within);
    }

pub part-all : (rows : Rows) (level : List TreePlace) (i : ℕ) (next : List TreePlace) → ArePart rows level i next → length level ≤ i
    → (path : List (List ℕ)) → count_by (is_at path) next ≡ sum_by (children_at rows path) level
part-all rows level i next part every path = part.count path ∙ ap (sum_by (children_at rows path)) (take_all i level every)

pub level-root : (rows : Rows) (level : List TreePlace) → level ≡ tree_place [] 0 ∷ [] → IsLevel rows 0 level
unfolding walk
level-root rows level is = record {
  each = subst (λ l. All (IsStanding rows) l) (sym is) (λ k d below. at k d below);
  once = λ path. ap (count_by (is_at path)) is ∙ one path;
}
  where
    at : (k : ℕ) (d : TreePlace) → k < length (tree_place [] 0 ∷ []) → IsStanding rows (get_or (tree_place [] 0 ∷ []) k d)
    at zero d below = record { text = refl; leads = refl }
    at (suc k) d below = absurd (omega arith)

    one : (path : List (List ℕ)) → count_by (is_at path) (tree_place [] 0 ∷ []) ≡ cond ((length path == 0) && has_path rows path) 1 0
    one [] = refl
    one (name ∷ path) =
        let never : (length (name ∷ path) == 0) ≡ false = grind (arith, nat_tests) in
        sym (ap (λ b. cond (b && has_path rows (name ∷ path)) 1 0) never)

pub level-next : (rows : Rows) (n : ℕ) (level next : List TreePlace) → IsLevel rows n level → All (IsStanding rows) next
    → ((path : List (List ℕ)) → count_by (is_at path) next ≡ sum_by (children_at rows path) level) → IsLevel rows (n + 1) next
level-next rows n level next is all count = record { each = all; once = λ path. count path ∙ by_root path (is_root path) refl }
  where
    with_true : (b : Bool) → ◌≡◌ {A = ℕ} (cond (b && true) 1 0) (cond b 1 0)
    with_true true = refl
    with_true false = refl

    by_path : (path : List (List ℕ)) (b : Bool) → has_path rows path ≡ b → is_root path ≡ false
        → sum_by (λ p. cond (same_path p.path (directory_path path) && b) 1 0) level ≡ cond ((length path == (n + 1)) && b) 1 0
    by_path path true has below =
        let shorter = path-count path below in
        let same : (length (directory_path path) == n) ≡ (length path == (n + 1)) = grind (arith, nat_tests) in
        let there : ◌≡◌ {A = ℕ} (cond ((length (directory_path path) == n) && has_path rows (directory_path path)) 1 0) (cond ((length path == (n + 1)) && true) 1 0) =
        (λ i. cond (same i && lead_less rows path below has i) 1 0)
        in
        sum-same (λ p. cond (same_path p.path (directory_path path) && true) 1 0) (λ p. cond (is_at (directory_path path) p) 1 0) level
        (λ p. with_true (same_path p.path (directory_path path)))
        ∙ is.once (directory_path path)
        ∙ there
    by_path path false has below =
        sum-same (λ (p : TreePlace). cond (same_path p.path (directory_path path) && false) 1 0) (λ p. 0) level
        (λ p. ap (λ b. cond b 1 0) (and_false (same_path p.path (directory_path path))))
        ∙ sum-none level ∙ sym (ap (λ b. cond b 1 0) (and_false (length path == (n + 1))))

    by_root : (path : List (List ℕ)) (b : Bool) → is_root path ≡ b
        → sum_by (children_at rows path) level ≡ cond ((length path == (n + 1)) && has_path rows path) 1 0
    by_root path true root =
        let longer : (length path == (n + 1)) ≡ false = grind (arith, nat_tests) in
        sum-same (children_at rows path) (λ p. 0) level
        (λ p. ap (λ b. cond ((not b && same_path p.path (directory_path path)) && has_path rows path) 1 0) root)
        ∙ sum-none level ∙ sym (ap (λ b. cond (b && has_path rows path) 1 0) longer)
    by_root path false below =
        sum-same (children_at rows path) (λ p. cond (same_path p.path (directory_path path) && has_path rows path) 1 0) level
        (λ p. ap (λ b. cond ((not b && same_path p.path (directory_path path)) && has_path rows path) 1 0) below)
        ∙ by_path path (has_path rows path) refl below

pub short-none : (rows : Rows) (places : List TreePlace) → places ≡ [] → AreShort rows 0 places
short-none rows places none = record {
  each = subst (λ l. All (IsStanding rows) l) (sym none) (λ k d below. absurd (omega arith));
  once = λ path. ap (count_by (is_at path)) none ∙ sym (ap (λ b. cond (b && has_path rows path) 1 0) (never (length path)));
}
  where
    never : (n : ℕ) → nat_lt n 0 ≡ false
    never n = grind (arith, nat_tests)

pub short-more : (rows : Rows) (n : ℕ) (places level new : List TreePlace) → AreShort rows n places → IsLevel rows n level
    → new ≡ places ++ level → AreShort rows (n + 1) new
short-more rows n places level new short is more = record {
  each = subst (λ l. All (IsStanding rows) l) (sym more) (All-append (IsStanding rows) places level short.each is.each);
  once = λ path.
      ap (count_by (is_at path)) more ∙ sum_by-append (λ p. cond (is_at path p) 1 0) places level
      ∙ (λ i. short.once path i + is.once path i) ∙ one (length path) (has_path rows path);
}
  where
    one : (l : ℕ) (b : Bool) → cond (nat_lt l n && b) 1 0 + cond ((l == n) && b) 1 0 ≡ cond (nat_lt l (n + 1) && b) 1 0
    one l true = elim (cases_lt l n) [ inl below ↦ grind (arith, nat_tests) | inr behind ↦ grind (arith, nat_tests) ]
    one l false = (λ i. cond (and_false (nat_lt l n) i) 1 0 + cond (and_false (l == n) i) 1 0) ∙ sym (ap (λ b. cond b 1 0) (and_false (nat_lt l (n + 1))))

-- the tree of all short places, in any order
pub short-count : (rows : Rows) (places sorted : List TreePlace) (path : List (List ℕ)) → AreShort rows 17 places → IsPermutation places sorted
    → count_by (is_at path) sorted ≡ cond (nat_le (length path) longest_path && has_path rows path) 1 0
short-count rows places sorted path short moved =
    let most : nat_lt (length path) 17 ≡ nat_le (length path) longest_path = grind (arith, nat_tests) in
    sum_by-IsPermutation (λ p. cond (is_at path p) 1 0) places sorted moved
    ∙ short.once path ∙ ap (λ b. cond (b && has_path rows path) 1 0) most
