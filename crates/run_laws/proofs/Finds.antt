-- Lists by places: what is found at a place, what is left without it, and what two maps make of two lists.
use Rattle.std.specs.Prelude.{◌≡◌, ◌≢◌, ℕ, zero, suc, Bool, true, false, cond, List, [], ◌∷◌, length, map, filter, find, Some, None, slice_get, refl}
use Rattle.std.specs.List.{remove}
use Rattle.std.proofs.Common.{arith, ap, ◌∙◌}
use Rattle.std.proofs.lemmas.Option.{same_Some}

module _ {X : Type 0} (p : X → Bool) where
  -- where one alone passes, it is found
  pub find_at : (xs : List X) (i : ℕ) (x : X) → slice_get xs i ≡ Some x → p x ≡ true → ((j : ℕ) (y : X) → slice_get xs j ≡ Some y → p y ≡ true → j ≡ i) → find p xs ≡ Some x
  find_at [] i x at passes alone = cc
  find_at (z ∷ zs) zero x at passes alone = ap (λ (b : Bool). cond b (Some z) (find p zs)) (ap p (same_Some z x at) ∙ passes) ∙ at
  find_at (z ∷ zs) (suc i) x at passes alone = by (p z) refl (find_at zs i x at passes (λ j y at_y pass_y. (let one : suc j ≡ suc i = alone (suc j) y at_y pass_y in omega (arith, one)))) where
    by : (b : Bool) → p z ≡ b → find p zs ≡ Some x → cond b (Some z) (find p zs) ≡ Some x
    by true pass_z rest = (let one : 0 ≡ suc i = alone 0 z refl pass_z in absurd (omega (arith, one)))
    by false fail_z rest = rest

  -- and where none does, none is
  pub find_none : (xs : List X) → ((j : ℕ) (y : X) → slice_get xs j ≡ Some y → p y ≡ false) → find p xs ≡ None
  find_none [] none = refl
  find_none (z ∷ zs) none = ap (λ (b : Bool). cond b (Some z) (find p zs)) (none 0 z refl) ∙ find_none zs (λ j y at. none (suc j) y at)

  -- all pass
  pub filter_all : (xs : List X) → ((j : ℕ) (y : X) → slice_get xs j ≡ Some y → p y ≡ true) → filter p xs ≡ xs
  filter_all [] all = refl
  filter_all (z ∷ zs) all = ap (λ (b : Bool). cond b (z ∷ filter p zs) (filter p zs)) (all 0 z refl) ∙ ap (λ (ys : List X). z ∷ ys) (filter_all zs (λ j y at. all (suc j) y at))

  -- all but the one at a place
  pub filter_taken : (xs : List X) (i : ℕ) (x : X) → slice_get xs i ≡ Some x → p x ≡ false → ((j : ℕ) (y : X) → j ≢ i → slice_get xs j ≡ Some y → p y ≡ true) → filter p xs ≡ remove xs i
  filter_taken [] i x at fails others = cc
  filter_taken (z ∷ zs) zero x at fails others =
      ap (λ (b : Bool). cond b (z ∷ filter p zs) (filter p zs)) (ap p (same_Some z x at) ∙ fails) ∙ filter_all zs (λ j y at_y. others (suc j) y (λ one. omega (arith, one)) at_y)
  filter_taken (z ∷ zs) (suc i) x at fails others =
      ap (λ (b : Bool). cond b (z ∷ filter p zs) (filter p zs)) (others 0 z (λ one. omega (arith, one)) refl)
      ∙ ap (λ (ys : List X). z ∷ ys) (filter_taken zs i x at fails (λ j y other at_y. others (suc j) y (λ one. other (omega (arith, one))) at_y))

-- two maps that agree place by place
pub maps_same : {X Y Z : Type 0} (f : X → Z) (g : Y → Z) (xs : List X) (ys : List Y) → length xs ≡ length ys → ((i : ℕ) (x : X) (y : Y) → slice_get xs i ≡ Some x → slice_get ys i ≡ Some y → f x ≡ g y) → map f xs ≡ map g ys
maps_same f g [] [] count same = refl
maps_same f g [] (y ∷ ys) count same = absurd (omega (arith, count))
maps_same f g (x ∷ xs) [] count same = absurd (omega (arith, count))
maps_same f g (x ∷ xs) (y ∷ ys) count same =
    let first = same 0 x y refl refl in
    let rest = maps_same f g xs ys (omega (arith, count)) (λ i a b at_a at_b. same (suc i) a b at_a at_b) in
    λ i. first i ∷ rest i

-- the places of a map
pub map_there : {X Y : Type 0} (f : X → Y) (xs : List X) (i : ℕ) (x : X) → slice_get xs i ≡ Some x → slice_get (map f xs) i ≡ Some (f x)
map_there f [] i x at = cc
map_there {X} f (z ∷ zs) zero x at = ap (λ (y : X). Some (f y)) (same_Some z x at)
map_there f (z ∷ zs) (suc i) x at = map_there f zs i x at

pub map_count : {X Y : Type 0} (f : X → Y) (xs : List X) → length (map f xs) ≡ length xs
map_count f [] = refl
map_count f (x ∷ xs) = omega (arith, map_count f xs)
