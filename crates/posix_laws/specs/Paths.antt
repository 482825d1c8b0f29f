-- Paths: the node that names lead to, what stands at a path, and that a printed path tells its names.
use Rattle.std.specs.Prelude.{◌≡◌, ◌≢◌, ◌⊎◌, ℕ, suc, ◌==◌, Bool, false, cond, List, [], ◌∷◌, ◌++◌, length, flat_map, Option, Some, None, option_and_then, option_map, refl}
use Rattle.std.proofs.Common.{arith, ap, ◌∙◌, sym, inl, inr}
use Rattle.std.proofs.lemmas.Bool.Decides.{nat_tests}
use Rattle.posix_spec.specs.posix_types.declared.tree.TreeNode.{TreeNode}
use Rattle.posix_spec.specs.posix_tables.declared.nodes.DirEntry.{DirEntry}
use Rattle.posix_spec.specs.posix_tables.Names.{child_of}
use Rattle.posix_spec.specs.posix_tables.Nodes.{node_at}
use Rattle.posix_spec.specs.posix_tables.Places.{printed, tree_node}
use Rattle.posix_spec.specs.State.{State}

-- the node that names lead to, from a node down
unfoldable pub walk_down : List DirEntry → ℕ → List (List ℕ) → Option ℕ
walk_down entries at [] = Some at
walk_down entries at (name ∷ names) = option_and_then (λ child. walk_down entries child names) (child_of entries at name)

-- what stands at a path, from the root, node 0
abbrev pub stands_at : State → List (List ℕ) → Option TreeNode
stands_at s path = option_map (λ n. tree_node (node_at s.nodes n)) (walk_down s.entries 0 path)

-- a walk with one more name at its end
pub walk_down-append : (entries : List DirEntry) (at : ℕ) (p : List (List ℕ)) (x : List ℕ) → walk_down entries at (p ++ x ∷ []) ≡ option_and_then (λ d. child_of entries d x) (walk_down entries at p)
unfolding walk_down
walk_down-append entries at [] x = by (child_of entries at x) where
  by : (o : Option ℕ) → option_and_then (λ child. Some child) o ≡ o
  by None = refl
  by (Some n) = refl
walk_down-append entries at (name ∷ names) x = by (child_of entries at name) (λ child. walk_down-append entries child names x) where
  by : (o : Option ℕ) → ((child : ℕ) → walk_down entries child (names ++ x ∷ []) ≡ option_and_then (λ d. child_of entries d x) (walk_down entries child names))
      → option_and_then (λ child. walk_down entries child (names ++ x ∷ [])) o ≡ option_and_then (λ d. child_of entries d x) (option_and_then (λ child. walk_down entries child names) o)
  by None rest = refl
  by (Some child) rest = rest child

pub walk_down-nil : (entries : List DirEntry) (at : ℕ) → walk_down entries at [] ≡ Some at
unfolding walk_down
walk_down-nil entries at = refl

-- so it leads to a directory first, and by the last name from there
pub record EndsBy (entries : List DirEntry) (at : ℕ) (p : List (List ℕ)) (x : List ℕ) (end : ℕ) : Type 0 where
  pub directory : ℕ
  pub led : walk_down entries at p ≡ Some directory
  pub last : child_of entries directory x ≡ Some end

pub walk_down-last : (entries : List DirEntry) (at : ℕ) (p : List (List ℕ)) (x : List ℕ) (end : ℕ) → walk_down entries at (p ++ x ∷ []) ≡ Some end → EndsBy entries at p x end
walk_down-last entries at p x end leads = by (walk_down entries at p) refl (sym (walk_down-append entries at p x) ∙ leads) where
  by : (o : Option ℕ) → walk_down entries at p ≡ o → option_and_then (λ d. child_of entries d x) o ≡ Some end → EndsBy entries at p x end
  by None led last = cc
  by (Some d) led last = record { directory = d; led = led; last = last }

-- a list is empty, or has a last element
pub by_last : {X : Type 0} (p : List X) → (p ≡ []) ⊎ ((q : List X) × (x : X) × (p ≡ q ++ x ∷ []))
by_last [] = inl refl
by_last (y ∷ ys) = elim (by_last ys) [
  | inl none ↦ inr ([], y, ap (λ l. y ∷ l) none)
  | inr more ↦ inr (y ∷ more.0, more.1, ap (λ l. y ∷ l) more.2)
]

-- Printed paths.

abbrev pub HasNoSlash : List ℕ → Type 0
HasNoSlash [] = Unit {0}
HasNoSlash (b ∷ bs) = (b ≢ 47) × HasNoSlash bs

abbrev pub IsFilled : List ℕ → Type 0
IsFilled [] = ⊥
IsFilled (b ∷ bs) = Unit {0}

-- a name that may stand in a path: not empty, and without a slash
pub record IsPlainName (name : List ℕ) : Type 0 where
  pub filled : IsFilled name
  pub no_slash : HasNoSlash name

abbrev pub ArePlainNames : List (List ℕ) → Type 0
ArePlainNames [] = Unit {0}
ArePlainNames (n ∷ ns) = IsPlainName n × ArePlainNames ns

pub ArePlainNames-push : (p : List (List ℕ)) (x : List ℕ) → ArePlainNames p → IsPlainName x → ArePlainNames (p ++ x ∷ [])
ArePlainNames-push [] x plain last = (last, tt)
ArePlainNames-push (n ∷ ns) x plain last = (plain.0, ArePlainNames-push ns x plain.1 last)

-- names behind slashes
abbrev slashed : List (List ℕ) → List ℕ
slashed names = flat_map (λ (name : List ℕ). 47 ∷ name) names

record AreSame (n m : List ℕ) (ns ms : List (List ℕ)) : Type 0 where
  first : n ≡ m
  rest : slashed ns ≡ slashed ms

next_byte : (a b : ℕ) (xs ys : List ℕ) → a ∷ xs ≡ b ∷ ys → (a ≡ b) × (xs ≡ ys)
next_byte a b xs ys same = (cc, cc)

-- up to the next slash the names are the same
names_same : (n m : List ℕ) (ns ms : List (List ℕ)) → HasNoSlash n → HasNoSlash m → n ++ slashed ns ≡ m ++ slashed ms → AreSame n m ns ms
names_same [] [] ns ms left right same = record { first = refl; rest = same }
names_same [] (b ∷ bs) [] ms left right same = cc
names_same [] (b ∷ bs) (x ∷ ns) ms left right same = absurd (right.0 (sym (next_byte 47 b _ _ same).0))
names_same (a ∷ xs) [] ns [] left right same = cc
names_same (a ∷ xs) [] ns (x ∷ ms) left right same = absurd (left.0 (next_byte a 47 _ _ same).0)
names_same (a ∷ xs) (b ∷ ys) ns ms left right same =
    let parts = next_byte a b (xs ++ slashed ns) (ys ++ slashed ms) same in
    let behind = names_same xs ys ns ms left.1 right.1 parts.1 in
    record { first = λ i. parts.0 i ∷ behind.first i; rest = behind.rest }

slashed_same : (p q : List (List ℕ)) → ArePlainNames p → ArePlainNames q → slashed p ≡ slashed q → p ≡ q
slashed_same [] [] left right same = refl
slashed_same [] (m ∷ ms) left right same = cc
slashed_same (n ∷ ns) [] left right same = cc
slashed_same (n ∷ ns) (m ∷ ms) left right same =
    let both = names_same n m ns ms left.0.no_slash right.0.no_slash (next_byte 47 47 (n ++ slashed ns) (m ++ slashed ms) same).1 in
    let behind = slashed_same ns ms left.1 right.1 both.rest in
    λ i. both.first i ∷ behind i

-- the root alone is printed as a slash
alone : (n : List ℕ) (ns : List (List ℕ)) → IsPlainName n → 47 ∷ [] ≡ slashed (n ∷ ns) → ⊥
alone [] ns plain same = plain.filled
alone (b ∷ bs) ns plain same = let never : [] ≡ b ∷ (bs ++ slashed ns) = (next_byte 47 47 [] (b ∷ (bs ++ slashed ns)) same).1 in cc

later : (n : ℕ) → (suc n == 0) ≡ false
later n = grind (arith, nat_tests)

printed_more : (n : List ℕ) (ns : List (List ℕ)) → printed (n ∷ ns) ≡ slashed (n ∷ ns)
printed_more n ns = ap (λ (b : Bool). cond b (47 ∷ []) (slashed (n ∷ ns))) (later (length ns))

-- A printed path tells its names.
pub printed_same : (p q : List (List ℕ)) → ArePlainNames p → ArePlainNames q → printed p ≡ printed q → p ≡ q
printed_same [] [] left right same = refl
printed_same [] (m ∷ ms) left right same = absurd (alone m ms right.0 (same ∙ printed_more m ms))
printed_same (n ∷ ns) [] left right same = absurd (alone n ns left.0 (sym same ∙ printed_more n ns))
printed_same (n ∷ ns) (m ∷ ms) left right same = slashed_same (n ∷ ns) (m ∷ ms) left right (sym (printed_more n ns) ∙ (same ∙ printed_more m ms))
