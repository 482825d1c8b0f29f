-- No path down from a node is longer than its height, up to the number of steps that the height looks down.
use Rattle.std.specs.Prelude.{◌≡◌, ℕ, zero, suc, ◌+◌, ◌<◌, ◌≤◌, max, fold, List, [], ◌∷◌, length, Bool, true, false, cond, ◌==◌, Some, None, refl}
use Rattle.std.proofs.Common.{arith, ap, ◌∙◌, subst, inl, inr}
use Rattle.std.proofs.lemmas.Bool.{cases_lt, eq-eqb}
use Rattle.k_split_model.specs.layout_model.Lines.{NameRow}
use Rattle.k_split_model.specs.layout_model.Names.{Rows, row, walk}
use Rattle.k_split_model.specs.layout_model.TableLaws.{walk-step}
use Rattle.k_split_model.specs.Spaces.{entries_of}
use Rattle.k_split_model.specs.posix_tables.declared.nodes.DirEntry.{DirEntry}
use Rattle.k_split_model.specs.posix_tables.Names.{entries_in, height}

-- the greatest of a number and of what f gives the children of some entries
abbrev greatest : (ℕ → ℕ) → ℕ → List DirEntry → ℕ
greatest f so_far entries = fold (λ so_far entry. max so_far (f entry.child + 1)) so_far entries

greatest-least : (f : ℕ → ℕ) (so_far : ℕ) (entries : List DirEntry) → so_far ≤ greatest f so_far entries
greatest-least f so_far [] = omega arith
greatest-least f so_far (e ∷ entries) = omega (arith, greatest-least f (max so_far (f e.child + 1)) entries)

-- it is at least what it gives the child of each row of a parent
greatest-row : (f : ℕ → ℕ) (so_far parent : ℕ) (rows : Rows) (k : ℕ) (r : NameRow) → row rows k ≡ Some r
    → r.parent ≡ parent
    → f r.child + 1 ≤ greatest f so_far (entries_in (entries_of rows) parent)
greatest-row f so_far parent [] k r is below = cc
greatest-row f so_far parent (None ∷ rows) zero r is below = cc
greatest-row f so_far parent (None ∷ rows) (suc k) r is below = greatest-row f so_far parent rows k r is below
greatest-row f so_far parent (Some s ∷ rows) zero r is below =
    let same : s ≡ r = cc in
    let own : (s.parent == parent) ≡ true = eq-eqb s.parent parent (ap (λ (x : NameRow). x.parent) same ∙ below) in
    let first = greatest-least f (max so_far (f s.child + 1)) (entries_in (entries_of rows) parent) in
    let child : s.child ≡ r.child = ap (λ (x : NameRow). x.child) same in
    let least : f s.child + 1 ≤ greatest f (max so_far (f s.child + 1)) (entries_in (entries_of rows) parent) =
    omega (arith, first)
    in
    let here : f s.child + 1 ≤ greatest f so_far (entries_in (entries_of (Some s ∷ rows)) parent) = rw own least in
    subst (λ c. f c + 1 ≤ greatest f so_far (entries_in (entries_of (Some s ∷ rows)) parent)) child here
greatest-row f so_far parent (Some s ∷ rows) (suc k) r is below =
    by (s.parent == parent) (greatest-row f so_far parent rows k r is below)
    (greatest-row f (max so_far (f s.child + 1)) parent rows k r is below)
  where
    by : (b : Bool) → f r.child + 1 ≤ greatest f so_far (entries_in (entries_of rows) parent)
        → f r.child + 1 ≤ greatest f (max so_far (f s.child + 1)) (entries_in (entries_of rows) parent)
        → f r.child + 1 ≤ greatest f so_far (cond b (record { parent = s.parent; name = s.name; child = s.child } ∷ entries_in (entries_of rows) parent) (entries_in (entries_of rows) parent))
    by true past taken = taken
    by false past taken = past

-- A child is less high than its directory.
pub height-row : (rows : Rows) (most k : ℕ) (r : NameRow) → row rows k ≡ Some r
    → height (entries_of rows) most r.child + 1 ≤ height (entries_of rows) (suc most) r.parent
unfolding height
height-row rows most k r is = greatest-row (height (entries_of rows) most) 0 r.parent rows k r is refl

-- A path of so many names shows that the height is as great.
pub height-walk : (rows : Rows) (n most ino : ℕ) (names : List (List ℕ)) (end : ℕ) → walk rows ino names ≡ Some end
    → n ≤ length names → n ≤ most → n ≤ height (entries_of rows) most ino
height-walk rows zero most ino names end leads short within = omega arith
height-walk rows (suc n) zero ino names end leads short within = absurd (omega arith)
height-walk rows (suc n) (suc most) ino [] end leads short within = absurd (omega (arith, short))
height-walk rows (suc n) (suc most) ino (name ∷ names) end leads short within =
    let step = walk-step rows ino name names end leads in
    let rest = height-walk rows n most step.child names end step.rest (omega (arith, short)) (omega arith) in
    let down = height-row rows most step.first.line step.first.at step.first.is in
    let more : height (entries_of rows) most step.child + 1 ≤ height (entries_of rows) (suc most) ino =
    subst (λ p. height (entries_of rows) most step.child + 1 ≤ height (entries_of rows) (suc most) p) step.first.parent_is
    (subst (λ c. height (entries_of rows) most c + 1 ≤ height (entries_of rows) (suc most) step.first.at.parent) step.first.child_is down)
    in
    omega (arith, rest, more)

-- So no path is longer than a height that is below the number of steps.
pub height-bound : (rows : Rows) (most ino : ℕ) (names : List (List ℕ)) (end : ℕ) → walk rows ino names ≡ Some end
    → height (entries_of rows) most ino < most → length names ≤ height (entries_of rows) most ino
height-bound rows most ino names end leads low = elim (cases_lt (height (entries_of rows) most ino) (length names)) [
  | inl longer ↦
      absurd (omega (arith, low, height-walk rows (height (entries_of rows) most ino + 1) most ino names end leads (omega (arith, longer)) (omega (arith, low))))
  | inr short ↦ short
]
