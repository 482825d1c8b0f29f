-- A seat with one claim more is at rest again.
use Rattle.std.proofs.Common.{◌≡◌, ℕ, ◌+◌, ◌<◌, ◌≤◌, List, [], ◌∷◌, ◌++◌, length, map, get_or, sym, refl, ap, ◌∙◌, subst, ⊎_elim, arith, length-append}
use Rattle.std.specs.Prelude.{All, Contains, Option}
use Rattle.std.specs.List.Sorted.{IsStrictlyIncreasing}
use Rattle.std.proofs.lemmas.Bool.{cases_lt}
use Rattle.std.proofs.lemmas.List.{get_or_append_left, map-append}
use Rattle.std.proofs.lemmas.List.Elements.{All-map, Contains-get_or, Contains-push_cases}
use Rattle.atomic_table.specs.Table.{Me}
use Rattle.layout_model.specs.declared.lines.Draft.{Draft}
use Rattle.oplog_tail.specs.declared.views.Claim.{Claim}
use Rattle.oplog_entry.specs.declared.claims.Full.{Full}
use Rattle.oplog_tail.specs.declared.views.Knows.{Knows}
use Rattle.oplog_entry.specs.declared.claims.Mark.{Mark}
use Rattle.oplog_tail.specs.declared.views.Slot.{Slot}
use Rattle.oplog_tail.specs.Seats.{AreClaims, IsResting}
use Rattle.oplog_tail.specs.Steps.{TakesLine}
use Rattle.oplog_tail.specs.Views.{claim, settled}

-- a number above all others comes behind them
rising_push : (xs : List ℕ) (n : ℕ) → IsStrictlyIncreasing xs → All (λ x. x < n) xs → IsStrictlyIncreasing (xs ++ n ∷ [])
rising_push xs n rising above k within = ⊎_elim
    (λ (inside : k + 1 < length xs).
    subst (λ (a : ℕ). a < get_or (xs ++ n ∷ []) (k + 1) 0) (sym (get_or_append_left xs (n ∷ []) 0 k (omega (arith, inside))))
    (subst (λ (b : ℕ). get_or xs k 0 < b) (sym (get_or_append_left xs (n ∷ []) 0 (k + 1) inside)) (rising k inside)))
    (λ (last : length xs ≤ k + 1).
    let at : k + 1 ≡ length xs = omega (arith, last, within, length-append xs (n ∷ [])) in
    let new : get_or (xs ++ n ∷ []) (k + 1) 0 ≡ n = ap (λ (j : ℕ). get_or (xs ++ n ∷ []) j 0) at ∙ get_or-append_right-first xs n in
    subst (λ (a : ℕ). a < get_or (xs ++ n ∷ []) (k + 1) 0) (sym (get_or_append_left xs (n ∷ []) 0 k (omega (arith, at))))
    (subst (λ (b : ℕ). get_or xs k 0 < b) (sym new) (above k 0 (omega (arith, at)))))
    (cases_lt (k + 1) (length xs)) where
      get_or-append_right-first : (ys : List ℕ) (m : ℕ) → get_or (ys ++ m ∷ []) (length ys) 0 ≡ m
      get_or-append_right-first [] m = refl
      get_or-append_right-first (y ∷ ys) m = get_or-append_right-first ys m

-- the claims of a seat with one more
claims_push : (capacity : ℕ) (claims : List Claim) (n : ℕ) (d : Draft) (mark : Mark) → AreClaims capacity claims → n < capacity → ((c : Claim) → Contains claims c → c.number < n) → AreClaims capacity (claims ++ claim n d mark ∷ [])
claims_push capacity claims n d mark are within above = record {
  rising = subst IsStrictlyIncreasing (sym (map-append (λ (c : Claim). c.number) claims (claim n d mark ∷ [])))
      (rising_push (map (λ (c : Claim). c.number) claims) n are.rising (All-map (λ (x : ℕ). x < n) (λ (c : Claim). c.number) claims (λ k c below. above (get_or claims k c) (Contains-get_or claims k c below))));
  below = λ c has. ⊎_elim (λ (old : Contains claims c). are.below c old) (λ (new : claim n d mark ≡ c). subst (λ (x : Claim). x.number < capacity) new within) (Contains-push_cases claims (claim n d mark) c has);
}

-- AT REST: the seat has claimed a number below the capacity, and put its line back
pub rests_with : (capacity : ℕ) (me mid new : Me Slot Knows) (pairs : List (ℕ × Draft)) (room : ℕ) (full : Option Full) (n : ℕ) (d : Draft) (mark : Mark)
    → IsResting capacity me pairs room full → n < capacity → TakesLine me n mid → new ≡ (settled mid.0 n d mark, []) → IsResting capacity new (pairs ++ (n, d) ∷ []) room full
rests_with capacity me mid new pairs room full n d mark rests within takes settles =
    let new_is : new ≡ (settled me.0 n d mark, []) = settles ∙ ap (λ (m : Me Slot Knows). (settled m.0 n d mark, [])) takes.seat in
    subst (λ (m : Me Slot Knows). IsResting capacity m (pairs ++ (n, d) ∷ []) room full) (sym new_is) (record {
      home = refl;
      idle = refl;
      alone = rests.alone;
      claims = claims_push capacity me.0.claims n d mark rests.claims within takes.above;
      at_hand = ap (λ (ps : List (ℕ × Draft)). ps ++ (n, d) ∷ []) rests.at_hand ∙ sym (map-append (λ (c : Claim). (c.number, c.entry)) me.0.claims (claim n d mark ∷ []));
      found = rests.found;
      roomy = rests.roomy;
    })
