-- Laws of look-ups: what a name leads to after an entry was put in or taken out.
use Rattle.std.specs.Prelude.{◌≡◌, ℕ, zero, suc, ◌+◌, Bool, true, false, cond, not, ◌&&◌, ◌==◌, nat_lt, List, [], ◌∷◌, length, find, position, insert, remove, Option, Some, None, unwrap_or, option_map, refl}
use Rattle.std.specs.List.{prefix_len}
use Rattle.std.specs.Cmp.Lexicographic.{bytes_decides}
use Rattle.std.proofs.Common.{arith, ap, ◌∙◌}
use Rattle.std.proofs.lemmas.Bool.Decides.{nat_tests, Decides-eqb}
use Rattle.posix_tables.specs.declared.nodes.DirEntry.{DirEntry}
use Rattle.posix_tables.specs.Names.{child_of, is_entry, same_name, with_entry, without_entry, without_place, comes_before}

-- the same of the first element alone
found_after : {X : Type 0} (b c : Bool) (y x : X) (o r : Option X) → (c ≡ true → cond b (Some y) o ≡ None) → ((c ≡ true → o ≡ None) → r ≡ cond c (Some x) o) → cond b (Some y) r ≡ cond c (Some x) (cond b (Some y) o)
found_after true true y x o r alone onward = let never : Some y ≡ None = alone refl in cc
found_after true false y x o r alone onward = refl
found_after false c y x o r alone onward = onward alone

-- a search in a list with one more element, which passes only where no other did
pub find-insert : {X : Type 0} (p : X → Bool) (xs : List X) (i : ℕ) (x : X) → (p x ≡ true → find p xs ≡ None) → find p (insert xs i x) ≡ cond (p x) (Some x) (find p xs)
find-insert p xs zero x alone = refl
find-insert p [] (suc i) x alone = refl
find-insert p (y ∷ ys) (suc i) x alone = found_after (p y) (p x) y x (find p ys) (find p (insert ys i x)) alone (find-insert p ys i x)

-- a list without the first element that passes
abbrev pub without_first : {X : Type 0} → (X → Bool) → List X → List X
without_first p [] = []
without_first p (x ∷ xs) = cond (p x) xs (x ∷ without_first p xs)

one_more : (n m : ℕ) → nat_lt (1 + n) (suc m) ≡ nat_lt n m
one_more n m = grind (arith, nat_tests)

zero_below : (m : ℕ) → nat_lt 0 (suc m) ≡ true
zero_below m = grind (arith, nat_tests)

one_plus : (n : ℕ) → 1 + n ≡ suc n
one_plus n = omega arith

next_place : {X : Type 0} (x : X) (xs : List X) (n : ℕ) → remove (x ∷ xs) (1 + n) ≡ x ∷ remove xs n
next_place x xs n = rw one_plus refl

-- the same of one element more, where the first that passes among the others has place n
removed_after : {X : Type 0} (inside : Bool) (x : X) (xs rest : List X) (n : ℕ) → without_place xs (cond inside (Some n) None) ≡ rest → without_place (x ∷ xs) (cond inside (Some (1 + n)) None) ≡ x ∷ rest
removed_after true x xs rest n same = next_place x xs n ∙ ap (λ l. x ∷ l) same
removed_after false x xs rest n same = ap (λ l. x ∷ l) same

removed : {X : Type 0} (b : Bool) (x : X) (xs rest : List X) (n : ℕ) → without_place xs (cond (nat_lt n (length xs)) (Some n) None) ≡ rest
    → without_place (x ∷ xs) (cond (nat_lt (cond (not b) (1 + n) 0) (suc (length xs))) (Some (cond (not b) (1 + n) 0)) None) ≡ cond b xs (x ∷ rest)
removed true x xs rest n same = rw zero_below refl
removed false x xs rest n same = rw one_more (removed_after (nat_lt n (length xs)) x xs rest n same)

-- a list without the element at the place of the first that passes
pub without_place-position : {X : Type 0} (p : X → Bool) (xs : List X) → without_place xs (position p xs) ≡ without_first p xs
without_place-position p [] = refl
without_place-position p (x ∷ xs) = removed (p x) x xs (without_first p xs) (prefix_len (λ y. not (p y)) xs) (without_place-position p xs)

-- where the first that passes p does not pass q, a search for q finds the same without it
find_past_first : {X : Type 0} (p q : X → Bool) → ((x : X) → p x ≡ true → q x ≡ false) → (xs : List X) → find q (without_first p xs) ≡ find q xs
find_past_first p q apart [] = refl
find_past_first p q apart (x ∷ xs) = past (p x) (apart x) (find_past_first p q apart xs) where
  past : (b : Bool) → (b ≡ true → q x ≡ false) → find q (without_first p xs) ≡ find q xs → find q (cond b xs (x ∷ without_first p xs)) ≡ find q (x ∷ xs)
  past true other same = rw (other refl) refl
  past false other same = ap (λ o. cond (q x) (Some x) o) same

child_mapped : (b : Bool) (entry : DirEntry) (o : Option DirEntry) → option_map (λ e. e.child) (cond b (Some entry) o) ≡ cond b (Some entry.child) (option_map (λ e. e.child) o)
child_mapped true entry o = refl
child_mapped false entry o = refl

-- a look-up that finds no entry
pub none_mapped : (o : Option DirEntry) → option_map (λ e. e.child) o ≡ None → o ≡ None
none_mapped None none = refl
none_mapped (Some entry) none = cc

both_true : (a b : Bool) → (a && b) ≡ true → (a ≡ true) × (b ≡ true)
both_true true b both = (refl, both)
both_true false b both = cc

-- an entry is that of its directory and its name alone
pub entry_of : (parent : ℕ) (name : List ℕ) (entry : DirEntry) → is_entry parent name entry ≡ true → (entry.parent ≡ parent) × (entry.name ≡ name)
entry_of parent name entry is =
    let both = both_true (entry.parent == parent) (same_name entry.name name) is in
    ((Decides-eqb entry.parent parent).0 both.0, (bytes_decides entry.name name).0 both.1)

nowhere_else : (entries : List DirEntry) (entry : DirEntry) (parent : ℕ) (name : List ℕ) → child_of entries entry.parent entry.name ≡ None → is_entry parent name entry ≡ true → find (is_entry parent name) entries ≡ None
nowhere_else entries entry parent name new is =
    let here = entry_of parent name entry is in
    none_mapped _ (rw (here.0, here.1) at new)

-- Where no entry has the name of a new one, that name leads to the new child afterwards, and each other name where it led.
pub child_of-with_entry : (entries : List DirEntry) (entry : DirEntry) (parent : ℕ) (name : List ℕ) → child_of entries entry.parent entry.name ≡ None
    → child_of (with_entry entries entry) parent name ≡ cond (is_entry parent name entry) (Some entry.child) (child_of entries parent name)
unfolding with_entry
child_of-with_entry entries entry parent name new =
    ap (λ o. option_map (λ (e : DirEntry). e.child) o) (find-insert (is_entry parent name) entries (unwrap_or (position (comes_before entry) entries) (length entries)) entry (nowhere_else entries entry parent name new))
    ∙ child_mapped (is_entry parent name entry) entry (find (is_entry parent name) entries)

-- an entry of one name and an entry of another
other_entry : (parent other_parent : ℕ) (name other_name : List ℕ) → ((parent == other_parent) && same_name name other_name) ≡ false → (entry : DirEntry) → is_entry parent name entry ≡ true → is_entry other_parent other_name entry ≡ false
other_entry parent other_parent name other_name other entry is =
    let here = entry_of parent name entry is in
    rw (here.0, here.1) other

-- Where an entry was taken out, each other name leads where it led.
pub child_of-without_entry : (entries : List DirEntry) (parent other_parent : ℕ) (name other_name : List ℕ) → ((parent == other_parent) && same_name name other_name) ≡ false
    → child_of (without_entry entries parent name) other_parent other_name ≡ child_of entries other_parent other_name
unfolding without_entry
child_of-without_entry entries parent other_parent name other_name other =
    ap (λ o. option_map (λ (e : DirEntry). e.child) o)
    (ap (find (is_entry other_parent other_name)) (without_place-position (is_entry parent name) entries)
    ∙ find_past_first (is_entry parent name) (is_entry other_parent other_name) (other_entry parent other_parent name other_name other) entries)

-- no two entries have one directory and one name
abbrev pub AreDistinct : List DirEntry → Type 0
AreDistinct [] = Unit {0}
AreDistinct (entry ∷ entries) = (child_of entries entry.parent entry.name ≡ None) × AreDistinct entries

gone_from : (entries : List DirEntry) (parent : ℕ) (name : List ℕ) → AreDistinct entries → find (is_entry parent name) (without_first (is_entry parent name) entries) ≡ None
gone_from [] parent name distinct = refl
gone_from (entry ∷ entries) parent name distinct = gone (is_entry parent name entry) refl (gone_from entries parent name distinct.1) where
  gone : (b : Bool) → is_entry parent name entry ≡ b → find (is_entry parent name) (without_first (is_entry parent name) entries) ≡ None
      → find (is_entry parent name) (cond b entries (entry ∷ without_first (is_entry parent name) entries)) ≡ None
  gone true is rest = nowhere_else entries entry parent name distinct.0 is
  gone false is rest = rw is rest

-- Where an entry was taken out of distinct ones, its name leads nowhere.
pub child_of-without_entry-itself : (entries : List DirEntry) (parent : ℕ) (name : List ℕ) → AreDistinct entries → child_of (without_entry entries parent name) parent name ≡ None
unfolding without_entry
child_of-without_entry-itself entries parent name distinct =
    ap (λ o. option_map (λ (e : DirEntry). e.child) o)
    (ap (find (is_entry parent name)) (without_place-position (is_entry parent name) entries) ∙ gone_from entries parent name distinct)
