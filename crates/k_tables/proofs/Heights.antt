-- The height of a node in the entries of a table, and the longest path below it.
use Rattle.std.proofs.Common.{◌≡◌, ℕ, zero, suc, ◌+◌, ◌≤◌, max, Bool, true, false, cond, List, [], ◌∷◌, length, fold, Option, Some, None, refl, sym, ◌∙◌, ap, subst, arith, inl, inr, ◌⊎◌}
use Rattle.std.specs.Prelude.{nat_lt, ◌==◌, IsSome}
use Rattle.std.proofs.lemmas.Bool.{cases_lt, eqb-true}
use Rattle.std.proofs.lemmas.Bool.Decides.{nat_tests}
use Rattle.layout_model.specs.Lines.{NameRow}
use Rattle.layout_model.specs.Names.{Rows, row, walk, HasHeight}
use Rattle.layout_model.specs.TableLaws.{child_named-at, walk-cons}
use Rattle.layout_model.specs.Tables.{IsKeyed}
use Rattle.name_laws.specs.RowLaws.{row-below}
use Rattle.name_laws.specs.k_split_model.Spaces.{entries_of}
use Rattle.posix_tables.specs.declared.nodes.DirEntry.{DirEntry}
use Rattle.posix_tables.specs.Names.{entries_in, height, longest_path}
use Rattle.name_laws.specs.HeightLaws.{height-walk}

abbrev greatest : (ℕ → ℕ) → ℕ → List DirEntry → ℕ
greatest f so_far entries = fold (λ so_far entry. max so_far (f entry.child + 1)) so_far entries

-- a row below the parent whose child reaches the number
pub record Reaches (f : ℕ → ℕ) (rows : Rows) (parent n : ℕ) : Type 0 where
  pub line : ℕ
  pub at : NameRow
  pub is : row rows line ≡ Some at
  pub below : at.parent ≡ parent
  pub reached : n ≡ f at.child + 1

later : (f : ℕ → ℕ) (o : Option NameRow) (rows : Rows) (parent n : ℕ) → Reaches f rows parent n → Reaches f (o ∷ rows) parent n
later f o rows parent n r = record { line = suc r.line; at = r.at; is = r.is; below = r.below; reached = r.reached }

-- the entries below the parent, with one more where it is one of them
abbrev with_first : Bool → NameRow → Rows → ℕ → List DirEntry
with_first b s rows parent = cond b (record { parent = s.parent; name = s.name; child = s.child } ∷ entries_in (entries_of rows) parent) (entries_in (entries_of rows) parent)

-- the greater of two numbers is one of them
first-of : (f : ℕ → ℕ) (so_far parent m : ℕ) (s : NameRow) (rows : Rows) → (s.parent == parent) ≡ true
    → m ≡ max so_far (f s.child + 1) → (m ≡ so_far) ⊎ Reaches f (Some s ∷ rows) parent m
first-of f so_far parent m s rows own is = elim (cases_lt so_far (f s.child + 1)) [
  | inl high ↦ inr (record { line = 0; at = s; is = refl; below = eqb-true s.parent parent own; reached = omega (arith, is, high) })
  | inr low ↦ inl (omega (arith, is, low))
]

-- the same of a table with one row more
reached-first : (f : ℕ → ℕ) (so_far parent : ℕ) (s : NameRow) (rows : Rows) (b : Bool) → (s.parent == parent) ≡ b
    → (greatest f so_far (entries_in (entries_of rows) parent) ≡ so_far) ⊎ Reaches f rows parent (greatest f so_far (entries_in (entries_of rows) parent))
    → (greatest f (max so_far (f s.child + 1)) (entries_in (entries_of rows) parent) ≡ max so_far (f s.child + 1))
    ⊎ Reaches f rows parent (greatest f (max so_far (f s.child + 1)) (entries_in (entries_of rows) parent))
    → (greatest f so_far (with_first b s rows parent) ≡ so_far) ⊎ Reaches f (Some s ∷ rows) parent (greatest f so_far (with_first b s rows parent))
reached-first f so_far parent s rows true own past taken = elim taken [
  | inl start ↦ first-of f so_far parent (greatest f (max so_far (f s.child + 1)) (entries_in (entries_of rows) parent)) s rows own start
  | inr reached ↦ inr (later f (Some s) rows parent (greatest f (max so_far (f s.child + 1)) (entries_in (entries_of rows) parent)) reached)
]
reached-first f so_far parent s rows false other past taken = elim past [
  | inl start ↦ inl start
  | inr reached ↦ inr (later f (Some s) rows parent (greatest f so_far (entries_in (entries_of rows) parent)) reached)
]

-- the greatest is the number at the start, or is reached
greatest-reached : (f : ℕ → ℕ) (so_far parent : ℕ) (rows : Rows)
    → (greatest f so_far (entries_in (entries_of rows) parent) ≡ so_far)
    ⊎ Reaches f rows parent (greatest f so_far (entries_in (entries_of rows) parent))
greatest-reached f so_far parent [] = inl refl
greatest-reached f so_far parent (None ∷ rows) = elim (greatest-reached f so_far parent rows) [
  | inl start ↦ inl start
  | inr reached ↦ inr (later f None rows parent (greatest f so_far (entries_in (entries_of rows) parent)) reached)
]
greatest-reached f so_far parent (Some s ∷ rows) =
    reached-first f so_far parent s rows (s.parent == parent) refl (greatest-reached f so_far parent rows)
    (greatest-reached f (max so_far (f s.child + 1)) parent rows)

-- there is a path of as many names as the height
pub height-reached : (rows : Rows) (most ino : ℕ) → IsKeyed rows
    → (names : List (List ℕ)) × (length names ≡ height (entries_of rows) most ino) × IsSome (walk rows ino names)
unfolding height walk
height-reached rows zero ino keyed = ([], refl, refl)
height-reached rows (suc most) ino keyed = elim (greatest-reached (height (entries_of rows) most) 0 ino rows) [
  | inl none ↦ ([], sym none, refl)
  | inr r ↦
      let rest = height-reached rows most r.at.child keyed in
      let step = walk-cons rows r.at.parent r.at.name rest.0 r.at.child (child_named-at rows r.line r.at keyed (row-below rows r.line r.at r.is) r.is) in
      let leads : IsSome (walk rows r.at.parent (r.at.name ∷ rest.0)) = subst (λ (o : Option ℕ). IsSome o) (sym step) rest.2 in (
        r.at.name ∷ rest.0,
        (let count : suc (length rest.0) ≡ height (entries_of rows) most r.at.child + 1 = omega (arith, rest.1) in count) ∙ sym r.reached,
        subst (λ p. IsSome (walk rows p (r.at.name ∷ rest.0))) r.below leads,
      )
]

ends : (rows : Rows) (ino n : ℕ) (names : List (List ℕ)) (o : Option ℕ) → walk rows ino names ≡ o → IsSome o
    → n ≤ length names → n ≤ longest_path → n ≤ height (entries_of rows) longest_path ino
ends rows ino n names None is leads short within = cc
ends rows ino n names (Some end) is leads short within = height-walk rows n longest_path ino names end is short within

least : (rows : Rows) (ino h n : ℕ) → HasHeight rows ino h → n ≤ h → n ≤ longest_path → n ≤ height (entries_of rows) longest_path ino
least rows ino h n has short within =
    let path = has.some in
    ends rows ino n path.0 (walk rows ino path.0) refl path.2 (omega (arith, path.1)) within

most : (rows : Rows) (ino h : ℕ) → IsKeyed rows → HasHeight rows ino h → height (entries_of rows) longest_path ino ≤ h
most rows ino h keyed has =
    let path = height-reached rows longest_path ino keyed in
    omega (arith, path.1, has.none_longer path.0 path.2)

-- the height of a table decides whether a path gets too long
pub deep-height : (rows : Rows) (ino h count : ℕ) → IsKeyed rows → HasHeight rows ino h → 1 ≤ count
    → nat_lt longest_path (count + h) ≡ nat_lt longest_path (count + height (entries_of rows) longest_path ino)
deep-height rows ino h count keyed has some =
    let high : height (entries_of rows) longest_path ino ≤ h = most rows ino h keyed has in
    elim (cases_lt longest_path h) [
      | inl above ↦
          let full : 16 ≤ height (entries_of rows) longest_path ino = least rows ino h 16 has (omega arith) (omega arith) in
          let first : nat_lt longest_path (count + h) ≡ true = grind (arith, nat_tests) in
          let second : nat_lt longest_path (count + height (entries_of rows) longest_path ino) ≡ true = grind (arith, nat_tests) in
          first ∙ sym second
      | inr within ↦
          let same : h ≡ height (entries_of rows) longest_path ino = omega (arith, high, least rows ino h h has (omega arith) (omega arith)) in
          ap (λ n. nat_lt longest_path (count + n)) same
    ]
