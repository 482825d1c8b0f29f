-- Room for one more, and answers by tests.
use Rattle.std.specs.Prelude.{◌≡◌, ℕ, ◌<◌, ◌-◌, ◌^◌, ◌&&◌, Bool, true, false, not, Result, Ok, Err, IsOk, refl}
use Rattle.std.specs.Result.{is_err}
use Rattle.std.proofs.Common.{ap, ◌∙◌, sym}
use Rattle.std.proofs.lemmas.Bool.Decides.{Decides-ltb}
use Rattle.open_files.specs.State.{room_for_one}

both_true : (a b : Bool) → (a && b) ≡ true → (a ≡ true) × (b ≡ true)
both_true true b both = (refl, both)
both_true false b both = cc

and_true : (a b : Bool) → a ≡ true → b ≡ true → (a && b) ≡ true
and_true a b p q = ap (λ c. c && b) p ∙ q

pub room-parts : (descriptions room bindings capacity ever : ℕ) → room_for_one descriptions room bindings capacity ever ≡ true
    → (descriptions < room) × (bindings < capacity) × (ever < 2 ^ 64 - 1)
unfolding room_for_one
room-parts descriptions room bindings capacity ever is =
    let one = both_true _ _ is in
    let two = both_true _ _ one.1 in
    ((Decides-ltb descriptions room).0 one.0, (Decides-ltb bindings capacity).0 two.0, (Decides-ltb ever (2 ^ 64 - 1)).0 two.1)

pub parts-room : (descriptions room bindings capacity ever : ℕ) → descriptions < room → bindings < capacity → ever < 2 ^ 64 - 1
    → room_for_one descriptions room bindings capacity ever ≡ true
unfolding room_for_one
parts-room descriptions room bindings capacity ever a b c =
    and_true _ _ ((Decides-ltb descriptions room).1 a) (and_true _ _ ((Decides-ltb bindings capacity).1 b) ((Decides-ltb ever (2 ^ 64 - 1)).1 c))

pub not_true : (b : Bool) → (b ≡ true → ⊥) → b ≡ false
not_true true never = absurd (never refl)
not_true false never = refl

pub ok_not_err : {T E : Type 0} (r : Result T E) → IsOk r → is_err r ≡ true → ⊥
ok_not_err (Ok x) ok err = cc
ok_not_err (Err e) ok err = cc

pub turned : (b r : Bool) → b ≡ not r → r ≡ not b
turned b true is = ap not (sym is)
turned b false is = ap not (sym is)
