-- Two lists of entries that match by the numbers of their nodes: each node has as many entries, and is as high.
use Rattle.std.specs.Prelude.{◌≡◌, ◌≤◌, ℕ, zero, suc, ◌+◌, max, fold, Bool, true, false, ◌==◌, ◌||◌, List, [], ◌∷◌, refl}
use Rattle.std.proofs.Common.{arith, ap, ◌∙◌, sym, subst, inl, inr}
use Rattle.std.proofs.lemmas.Bool.{eq-eqb}
use Rattle.std.proofs.lemmas.Bool.Decides.{Decides-eqb}
use Rattle.world_model.specs.name_laws.posix_tables.declared.nodes.DirEntry.{DirEntry}
use Rattle.world_model.specs.name_laws.posix_tables.Names.{entries_in, has_entries, height}
use Rattle.world_model.specs.list_laws.Filters.{filter-In, In-filter}
use Rattle.world_model.specs.list_laws.Members.{In}
use Rattle.world_model.specs.Stands.{number}

-- an entry of a node in the one list has one in the other
pub record IsMatched (used : ℕ → Type 0) (numbers : List ℕ) (ys : List DirEntry) (p c : ℕ) : Type 0 where
  pub entry : DirEntry
  pub is : In entry ys
  pub parent_is : entry.parent ≡ number numbers p
  pub child_is : entry.child ≡ number numbers c
  pub child_used : used c

pub record IsMatchedBack (used : ℕ → Type 0) (numbers : List ℕ) (xs : List DirEntry) (p m : ℕ) : Type 0 where
  pub entry : DirEntry
  pub is : In entry xs
  pub parent_is : entry.parent ≡ p
  pub child_is : number numbers entry.child ≡ m
  pub child_used : used entry.child

pub record Match (used : ℕ → Type 0) (numbers : List ℕ) (xs ys : List DirEntry) : Type 0 where
  pub on : (e : DirEntry) → In e xs → used e.parent → IsMatched used numbers ys e.parent e.child
  pub back : (p : ℕ) (e : DirEntry) → used p → In e ys → e.parent ≡ number numbers p → IsMatchedBack used numbers xs p e.child

-- the greatest of what a function gives the children of some entries
abbrev greatest : (ℕ → ℕ) → ℕ → List DirEntry → ℕ
greatest f so_far es = fold (λ so_far entry. max so_far (f entry.child + 1)) so_far es

greatest_least : (f : ℕ → ℕ) (a : ℕ) (es : List DirEntry) → a ≤ greatest f a es
greatest_least f a [] = omega arith
greatest_least f a (e ∷ es) = omega (arith, greatest_least f (max a (f e.child + 1)) es)

greatest_In : (f : ℕ → ℕ) (a : ℕ) (es : List DirEntry) (e : DirEntry) → In e es → f e.child + 1 ≤ greatest f a es
greatest_In f a [] e is = absurd is
greatest_In f a (x ∷ es) e (inl same) =
    let child : f x.child ≡ f e.child = ap (λ (d : DirEntry). f d.child) same in
    omega (arith, greatest_least f (max a (f x.child + 1)) es, child)
greatest_In f a (x ∷ es) e (inr behind) = greatest_In f (max a (f x.child + 1)) es e behind

greatest_bound : (f : ℕ → ℕ) (a k : ℕ) (es : List DirEntry) → a ≤ k → ((e : DirEntry) → In e es → f e.child + 1 ≤ k) → greatest f a es ≤ k
greatest_bound f a k [] least each = least
greatest_bound f a k (x ∷ es) least each = greatest_bound f (max a (f x.child + 1)) k es (omega (arith, each x (inl refl), least)) (λ e is. each e (inr is))

-- AS HIGH, looking down as many steps.
pub height-Match : (used : ℕ → Type 0) (numbers : List ℕ) (xs ys : List DirEntry) → Match used numbers xs ys → (most p : ℕ) → used p → height xs most p ≡ height ys most (number numbers p)
unfolding height
height-Match used numbers xs ys match zero p is = refl
height-Match used numbers xs ys match (suc most) p is = both (height-Match used numbers xs ys match most) where
  low : ((c : ℕ) → used c → height xs most c ≡ height ys most (number numbers c)) → greatest (height xs most) 0 (entries_in xs p) ≤ greatest (height ys most) 0 (entries_in ys (number numbers p))
  low below = greatest_bound (height xs most) 0 (greatest (height ys most) 0 (entries_in ys (number numbers p))) (entries_in xs p) (omega arith) (λ e there.
      let its = filter-In (λ (x : DirEntry). x.parent == p) xs e there in
      let parent = (Decides-eqb e.parent p).0 its.1 in
      let to = match.on e its.0 (subst used (sym parent) is) in
      let passes = eq-eqb to.entry.parent (number numbers p) (to.parent_is ∙ ap (number numbers) parent) in
      let most_of = greatest_In (height ys most) 0 (entries_in ys (number numbers p)) to.entry (In-filter (λ (x : DirEntry). x.parent == number numbers p) ys to.entry to.is passes) in
      omega (arith, most_of, below e.child to.child_used, ap (height ys most) to.child_is))

  high : ((c : ℕ) → used c → height xs most c ≡ height ys most (number numbers c)) → greatest (height ys most) 0 (entries_in ys (number numbers p)) ≤ greatest (height xs most) 0 (entries_in xs p)
  high below = greatest_bound (height ys most) 0 (greatest (height xs most) 0 (entries_in xs p)) (entries_in ys (number numbers p)) (omega arith) (λ e there.
      let its = filter-In (λ (x : DirEntry). x.parent == number numbers p) ys e there in
      let parent = (Decides-eqb e.parent (number numbers p)).0 its.1 in
      let from = match.back p e is its.0 parent in
      let passes = eq-eqb from.entry.parent p from.parent_is in
      let most_of = greatest_In (height xs most) 0 (entries_in xs p) from.entry (In-filter (λ (x : DirEntry). x.parent == p) xs from.entry from.is passes) in
      omega (arith, most_of, below from.entry.child from.child_used, ap (height ys most) from.child_is))

  both : ((c : ℕ) → used c → height xs most c ≡ height ys most (number numbers c)) → greatest (height xs most) 0 (entries_in xs p) ≡ greatest (height ys most) 0 (entries_in ys (number numbers p))
  both below = omega (arith, low below, high below)

-- AS FULL.
any_In : (xs : List DirEntry) (p : ℕ) (e : DirEntry) → In e xs → e.parent ≡ p → has_entries xs p ≡ true
any_In [] p e is same = absurd is
any_In (x ∷ xs) p e (inl one) same = rw (eq-eqb x.parent p (ap (λ (d : DirEntry). d.parent) one ∙ same)) refl
any_In (x ∷ xs) p e (inr behind) same = by (x.parent == p) (any_In xs p e behind same) where
  by : (b : Bool) → has_entries xs p ≡ true → (b || has_entries xs p) ≡ true
  by true rest = refl
  by false rest = rest

In_any : (xs : List DirEntry) (p : ℕ) → has_entries xs p ≡ true → (e : DirEntry) × In e xs × (e.parent ≡ p)
In_any [] p is = cc
In_any (x ∷ xs) p is = by (x.parent == p) refl is (In_any xs p) where
  by : (b : Bool) → (x.parent == p) ≡ b → (b || has_entries xs p) ≡ true → (has_entries xs p ≡ true → (e : DirEntry) × In e xs × (e.parent ≡ p)) → (e : DirEntry) × In e (x ∷ xs) × (e.parent ≡ p)
  by true first all rest = (x, inl refl, (Decides-eqb x.parent p).0 first)
  by false first all rest = let e = rest all in (e.0, inr e.1, e.2)

pub has_entries-Match : (used : ℕ → Type 0) (numbers : List ℕ) (xs ys : List DirEntry) → Match used numbers xs ys → (p : ℕ) → used p → has_entries xs p ≡ has_entries ys (number numbers p)
has_entries-Match used numbers xs ys match p is = by (has_entries xs p) (has_entries ys (number numbers p)) refl refl where
  by : (b c : Bool) → has_entries xs p ≡ b → has_entries ys (number numbers p) ≡ c → has_entries xs p ≡ has_entries ys (number numbers p)
  by true true one two = one ∙ sym two
  by false false one two = one ∙ sym two
  by true false one two =
      let e = In_any xs p one in
      let to = match.on e.0 e.1 (subst used (sym e.2) is) in
      let never : true ≡ false = sym (any_In ys (number numbers p) to.entry to.is (to.parent_is ∙ ap (number numbers) e.2)) ∙ two in
      cc
  by false true one two =
      let e = In_any ys (number numbers p) two in
      let from = match.back p e.0 is e.1 e.2 in
      let never : true ≡ false = sym (any_In xs p from.entry from.is from.parent_is) ∙ one in
      cc
