-- The steps of the search for the longest path.
use Rattle.std.proofs.Common.{◌≡◌, ◌⊎◌, ℕ, ◌+◌, ◌==◌, subst, ◌<◌, ◌≤◌, List, [], ◌∷◌, length, Some, None, Option, arith, ap, sym, ◌∙◌, refl, inl, inr, max, below_more}
use Rattle.std.proofs.lemmas.Bool.{cond-true, eqb-true, eq-eqb, cases_lt}
use Rattle.std.proofs.lemmas.Option.{cond_some}
use Rattle.std.specs.Prelude.{is_some, IsSome}
use Rattle.layout_model.specs.Lines.{NameRow}
use Rattle.layout_model.specs.Names.{Rows, row, child_of_row, child_named, walk, HasHeight}
use Rattle.layout_model.specs.TableLaws.{walk-step, walk-cons, walk-bound, child_named-at}
use Rattle.layout_model.specs.Tables.{IsKeyed, IsAcyclic}
use Rattle.k_names.specs.Heights.{child_below, LeadsAtMost, HasHeightWithin, HasHeightBefore}

-- what an option that is there holds
some_end : (o : Option ℕ) → IsSome o → (x : ℕ) × (o ≡ Some x)
some_end None h = cc
some_end (Some x) h = (x, refl)

-- the path of no names
pub no_names : (rows : Rows) (ino : ℕ) → (names : List (List ℕ)) × (length names ≡ 0) × IsSome (walk rows ino names)
unfolding walk
no_names rows ino = ([], refl, refl)

-- where there is no room for a name
pub height_of_none : (rows : Rows) (most ino : ℕ) → most ≡ 0 → HasHeightWithin rows most ino 0
height_of_none rows most ino none = record { some = no_names rows ino; none_longer = λ names is short. omega (arith, short, none) }

-- before the first line
pub height_start : (rows : Rows) (most ino : ℕ) → HasHeightBefore rows most ino 0 0
height_start rows most ino = record { some = no_names rows ino; none_longer = λ k below. absurd (omega arith) }

-- what the test of a line says
below_some : (parent child : ℕ) (o : Option NameRow) → child_below parent o ≡ Some child → (r : NameRow) × (o ≡ Some r) × (r.parent ≡ parent) × (r.child ≡ child)
below_some parent child None h = cc
below_some parent child (Some r) h =
    let chosen = cond_some (r.parent == parent) r.child child h in
    (r, refl, eqb-true r.parent parent chosen.0, chosen.1)

below_none : (parent : ℕ) (o : Option NameRow) (r : NameRow) → child_below parent o ≡ None → o ≡ Some r → r.parent ≡ parent → ⊥
below_none parent o r h is same =
    let found : child_below parent o ≡ Some r.child =
    ap (child_below parent) is ∙ cond-true (r.parent == parent) (Some r.child) None (eq-eqb r.parent parent same)
    in
    let clash : None ≡ Some r.child = sym h ∙ found in
    cc

-- a line that is not below the inode adds nothing
pub height_skip : (rows : Rows) (most ino n h : ℕ) (o : Option NameRow) → row rows n ≡ o → child_below ino o ≡ None → HasHeightBefore rows most ino n h → HasHeightBefore rows most ino (n + 1) h
height_skip rows most ino n h o is other before =
    record {
      some = before.some;
      none_longer = below_more (LeadsAtMost rows most ino h) n before.none_longer
          (λ r here parent. absurd (below_none ino o r other (sym is ∙ here) parent));
    }

-- a path behind a line, with the line's name
longer_path : (rows : Rows) (ino n below : ℕ) (r : NameRow) → IsKeyed rows → n < length rows → row rows n ≡ Some r → r.parent ≡ ino → ((names : List (List ℕ)) × (length names ≡ below) × IsSome (walk rows r.child names)) → (names : List (List ℕ)) × (length names ≡ below + 1) × IsSome (walk rows ino names)
longer_path rows ino n below r keyed within is parent (names, count, leads) =
    let named : child_named rows ino r.name ≡ Some r.child = ap (λ p. child_named rows p r.name) (sym parent) ∙ child_named-at rows n r keyed within is in
    (r.name ∷ names, omega (arith, count), ap is_some (walk-cons rows ino r.name names r.child named) ∙ leads)

-- a line below it may lead to a longer path
take_row : (rows : Rows) (most ino n h below new : ℕ) (r : NameRow) → IsKeyed rows → n < length rows → row rows n ≡ Some r → r.parent ≡ ino → HasHeightWithin rows most r.child below → HasHeightBefore rows most ino n h → new ≡ max h (below + 1) → HasHeightBefore rows most ino (n + 1) new
take_row rows most ino n h below new r keyed within is parent deep before e =
    record {
      some = longest (cases_lt h (below + 1));
      none_longer = below_more (LeadsAtMost rows most ino new) n
          (λ k first s at under names leads short. omega (arith, before.none_longer k first s at under names leads short))
          (λ s at under names leads short.
          let child : r.child ≡ s.child = ap child_of_row (sym is ∙ at) in
          omega (arith, deep.none_longer names (ap (λ c. is_some (walk rows c names)) child ∙ leads) short));
    }
  where
    longest : (h < below + 1) ⊎ (below + 1 ≤ h) → (names : List (List ℕ)) × (length names ≡ new) × IsSome (walk rows ino names)
    longest (inl above) =
        let path = longer_path rows ino n below r keyed within is parent deep.some in
        (path.0, omega (arith, path.1), path.2)
    longest (inr same) = (before.some.0, omega (arith, before.some.1), before.some.2)

pub height_take : (rows : Rows) (most ino n h child below new : ℕ) (o : Option NameRow) → IsKeyed rows → n < length rows → row rows n ≡ o → child_below ino o ≡ Some child → HasHeightWithin rows most child below → HasHeightBefore rows most ino n h → new ≡ max h (below + 1) → HasHeightBefore rows most ino (n + 1) new
height_take rows most ino n h child below new o keyed within is under deep before e =
    let parts = below_some ino child o under in
    let r : NameRow = parts.0 in
    take_row rows most ino n h below new r keyed within (is ∙ parts.1) parts.2 (subst (λ c. HasHeightWithin rows most c below) (sym parts.3) deep) before e

-- behind the last line
pub height_end : (rows : Rows) (most more ino n h : ℕ) → length rows ≤ n → more ≡ most + 1 → HasHeightBefore rows most ino n h → HasHeightWithin rows more ino h
height_end rows most more ino n h all next before = record { some = before.some; none_longer = bound }
  where
    bound : (names : List (List ℕ)) → IsSome (walk rows ino names) → length names ≤ more → length names ≤ h
    bound [] leads short = omega arith
    bound (name ∷ names) leads short =
        let end = some_end (walk rows ino (name ∷ names)) leads in
        let s = walk-step rows ino name names end.0 end.1 in
        let rest : IsSome (walk rows s.first.at.child names) = ap (λ c. is_some (walk rows c names)) s.first.child_is ∙ ap is_some s.rest in
        omega (arith, before.none_longer s.first.line (omega (arith, s.first.within, all)) s.first.at s.first.is s.first.parent_is names rest (omega arith))

-- no path is longer than the table
pub height_from_within : (rows : Rows) (most ino h : ℕ) → IsKeyed rows → IsAcyclic rows → length rows ≤ most → HasHeightWithin rows most ino h → HasHeight rows ino h
height_from_within rows most ino h keyed acyclic room within =
    record {
      some = within.some;
      none_longer = λ names leads.
          let end = some_end (walk rows ino names) leads in
          within.none_longer names leads (omega (arith, walk-bound rows ino names end.0 keyed acyclic end.1, room));
    }
