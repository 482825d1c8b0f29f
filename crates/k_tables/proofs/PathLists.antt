-- Paths that are compared name by name.
use Rattle.std.proofs.Common.{◌≡◌, ℕ, ◌+◌, ◌-◌, ◌≤◌, Bool, true, false, ◌&&◌, List, [], ◌∷◌, ◌++◌, length, take, refl, sym, ◌∙◌, ap, arith}
use Rattle.std.specs.Prelude.{◌==◌}
use Rattle.std.specs.Cmp.Lexicographic.{bytes_decides}
use Rattle.std.proofs.lemmas.Bool.{and_parts, and_from, both_ways}
use Rattle.std.proofs.lemmas.Bool.Decides.{nat_tests}
use Rattle.std.proofs.lemmas.List.{length-take-le, take_more, take_all}
use Rattle.posix_tables.specs.Names.{directory_path, is_root, last_name, same_name}
use Rattle.k_tables.specs.TablesTrees.{same_path}

pub same_path-eq : (p q : List (List ℕ)) → same_path p q ≡ true → p ≡ q
same_path-eq [] [] same = refl
same_path-eq [] (y ∷ q) same = cc
same_path-eq (x ∷ p) [] same = cc
same_path-eq (x ∷ p) (y ∷ q) same =
    let parts = and_parts (same_name x y) (same_path p q) same in
    (λ i. (bytes_decides x y).0 parts.0 i ∷ same_path-eq p q parts.1 i)

pub same_path-self : (p : List (List ℕ)) → same_path p p ≡ true
same_path-self [] = refl
same_path-self (x ∷ p) = and_from (same_name x x) (same_path p p) ((bytes_decides x x).1 refl) (same_path-self p)

and_true : (a : Bool) → (a && true) ≡ a
and_true true = refl
and_true false = refl

pub and_false : (a : Bool) → (a && false) ≡ false
and_false true = refl
and_false false = refl

and_and : (a b c : Bool) → (a && (b && c)) ≡ ((a && b) && c)
and_and true b c = refl
and_and false b c = refl

none_more : (q : List (List ℕ)) (l : List ℕ) → same_path [] (q ++ l ∷ []) ≡ false
none_more [] l = refl
none_more (y ∷ q) l = refl

more_none : (p : List (List ℕ)) (k : List ℕ) → same_path (p ++ k ∷ []) [] ≡ false
more_none [] k = refl
more_none (x ∷ p) k = refl

-- paths with a name more are the same where they were, and the names are
same_path-more : (p q : List (List ℕ)) (k l : List ℕ) → same_path (p ++ k ∷ []) (q ++ l ∷ []) ≡ (same_path p q && same_name k l)
same_path-more [] [] k l = and_true (same_name k l)
same_path-more [] (y ∷ q) k l = ap (λ b. same_name k y && b) (none_more q l) ∙ and_false (same_name k y)
same_path-more (x ∷ p) [] k l = ap (λ b. same_name x l && b) (more_none p k) ∙ and_false (same_name x l)
same_path-more (x ∷ p) (y ∷ q) k l =
    ap (λ b. same_name x y && b) (same_path-more p q k l) ∙ and_and (same_name x y) (same_path p q) (same_name k l)

some_names : (path : List (List ℕ)) → is_root path ≡ false → 1 ≤ length path
some_names path below = grind (arith, nat_tests)

pub path-count : (path : List (List ℕ)) → is_root path ≡ false → length (directory_path path) + 1 ≡ length path
path-count path below =
    let some = some_names path below in
    omega (arith, length-take-le (length path - 1) path (omega arith))

-- a path that is not the root's is that of its directory and its last name
pub path-split : (path : List (List ℕ)) → is_root path ≡ false → directory_path path ++ last_name path ∷ [] ≡ path
path-split path below =
    let some = some_names path below in
    let whole : length path - 1 + 1 ≡ length path = omega arith in
    sym (take_more path (length path - 1) [] (omega arith)) ∙ ap (λ n. take n path) whole ∙ take_all (length path) path (omega arith)

-- no path with a name more is the root's, and it is this one where its directory is, and the name
pub more-root : (p : List (List ℕ)) (k : List ℕ) (path : List (List ℕ)) → is_root path ≡ true → same_path (p ++ k ∷ []) path ≡ false
more-root p k [] root = more_none p k
more-root p k (y ∷ path) root = let never : (length (y ∷ path) == 0) ≡ false = grind (arith, nat_tests) in absurd (both_ways (length (y ∷ path) == 0) never root)

pub more-below : (p : List (List ℕ)) (k : List ℕ) (path : List (List ℕ)) → is_root path ≡ false
    → same_path (p ++ k ∷ []) path ≡ (same_path p (directory_path path) && same_name k (last_name path))
more-below p k path below =
    ap (same_path (p ++ k ∷ [])) (sym (path-split path below)) ∙ same_path-more p (directory_path path) k (last_name path)
