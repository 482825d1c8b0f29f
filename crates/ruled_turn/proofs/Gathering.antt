-- A seat that takes over one pass after another; and passes that are dealt from a seat one after another.
use Rattle.std.proofs.Common.{◌≡◌, ℕ, zero, suc, ◌<◌, List, [], ◌∷◌, ◌++◌, All, length, map, take, drop, sym, refl, ap, ◌∙◌, subst, arith, append-nil, append_assoc, length-append}
use Rattle.std.specs.Prelude.{Contains, Option, Some, None}
use Rattle.std.specs.List.{flat_map}
use Rattle.std.proofs.lemmas.List.Elements.{Contains-append_left, Contains-append_right}
use Rattle.atomic_table.specs.Seated.{TableId}
use Rattle.atomic_table.specs.Table.{Me}
use Rattle.ruled_turn.specs.declared.views.Standing.{Standing}
use Rattle.ruled_turn.specs.Passes.{IsPass, PassView}
use Rattle.ruled_turn.specs.Standings.{joined, outside}

module _ {T V : Type 0} where
  -- what all passes carry
  abbrev pub carried_by : List (PassView T V) → List (ℕ × V)
  carried_by passes = flat_map (λ p. p.carried) passes

  -- The seat carries what the last passes carry, and the others are left.
  pub record IsWhole (table : TableId) (all left : List (PassView T V)) (id : TableId) (me : Me (Option T) (Standing T V)) : Type 0 where
    pub done : List (PassView T V)
    pub split : all ≡ left ++ done
    pub at_table : id ≡ table
    pub home : me.1 ≡ []
    pub idle : me.0.inside ≡ None
    pub carried : me.0.carried ≡ carried_by done
    pub count : length me.0.carried ≡ length done
    pub others : All (λ p. p.turn ≡ table) left
    pub others_idle : All (λ p. p.inside ≡ None) left

  -- what is known of the seat of a pass
  pub record IsSeat (table : TableId) (p : PassView T V) (id : TableId) (me : Me (Option T) (Standing T V)) : Type 0 where
    pub at_table : id ≡ table
    pub home : me.1 ≡ []
    pub idle : me.0.inside ≡ None
    pub carried : me.0.carried ≡ p.carried
    pub one : length me.0.carried ≡ 1

  pub whole_one : (table : TableId) (all left : List (PassView T V)) (p : PassView T V) (id : TableId) (me : Me (Option T) (Standing T V)) → all ≡ left ++ p ∷ [] → All (λ q. q.turn ≡ table) left → All (λ q. q.inside ≡ None) left
      → IsSeat table p id me → IsWhole table all left id me
  whole_one table all left p id me split others idle seat = record {
    done = p ∷ [];
    split = split;
    at_table = seat.at_table;
    home = seat.home;
    idle = seat.idle;
    carried = seat.carried ∙ sym (append-nil p.carried);
    count = seat.one;
    others = others;
    others_idle = idle;
  }

  pub whole_more : (table : TableId) (all left rest : List (PassView T V)) (p : PassView T V) (id new_id other_id : TableId) (me new other : Me (Option T) (Standing T V)) → left ≡ rest ++ p ∷ []
      → All (λ q. q.turn ≡ table) rest → All (λ q. q.inside ≡ None) rest → IsWhole table all left id me → IsSeat table p other_id other → new_id ≡ id → new ≡ (joined me.0 other.0, me.1) → IsWhole table all rest new_id new
  whole_more table all left rest p id new_id other_id me new other split others others_idle whole seat same is =
      subst (λ (m : Me (Option T) (Standing T V)). IsWhole table all rest new_id m) (sym is) (record {
        done = p ∷ whole.done;
        split = whole.split ∙ (ap (λ (l : List (PassView T V)). l ++ whole.done) split ∙ append_assoc rest (p ∷ []) whole.done);
        at_table = same ∙ whole.at_table;
        home = whole.home;
        idle = whole.idle;
        carried = (λ i. seat.carried i ++ whole.carried i);
        count = omega (arith, length-append other.0.carried me.0.carried, seat.one, whole.count);
        others = others;
        others_idle = others_idle;
      })

  -- what one of the passes carries
  pub carried_of_pass : (passes : List (PassView T V)) (p : PassView T V) (c : ℕ × V) → Contains passes p → p.carried ≡ c ∷ [] → Contains (carried_by passes) c
  carried_of_pass [] p c has is = let below = has.1 in absurd (omega arith)
  carried_of_pass (q ∷ passes) p c (zero, below, same) is =
      Contains-append_left q.carried (carried_by passes) c (subst (λ (l : List (ℕ × V)). Contains l c) (sym (ap (λ (r : PassView T V). r.carried) same ∙ is)) (0, omega arith, refl))
  carried_of_pass (q ∷ passes) p c (suc k, below, same) is =
      Contains-append_right q.carried (carried_by passes) c (carried_of_pass passes p c (k, omega (arith, below), same) is)

-- One element of a list, with those before it and those behind it.
module _ {A B : Type 0} (f : A → B) where
  pub record IsNext (l : List A) (n : ℕ) : Type 0 where
    pub value : A
    pub first : take 1 (drop n l) ≡ value ∷ []
    pub before : map f (take (suc n) l) ≡ map f (take n l) ++ f value ∷ []
    pub behind : drop 1 (drop n l) ≡ drop (suc n) l

  pub is_next : (l : List A) (n : ℕ) → n < length l → IsNext l n
  is_next [] n below = absurd (omega arith)
  is_next (a ∷ l) zero below = record { value = a; first = refl; before = refl; behind = refl }
  is_next (a ∷ l) (suc n) below =
      let its = is_next l n (omega (arith, below)) in
      record { value = its.value; first = its.first; before = ap (λ (m : List B). f a ∷ m) its.before; behind = its.behind }

  pub record IsLast (l : List A) (n : ℕ) : Type 0 where
    pub value : A
    pub alone : drop n l ≡ value ∷ []
    pub all : map f l ≡ map f (take n l) ++ f value ∷ []

  pub is_last : (l : List A) (n : ℕ) → length l ≡ suc n → IsLast l n
  is_last [] n count = absurd (omega arith)
  is_last (a ∷ []) zero count = record { value = a; alone = refl; all = refl }
  is_last (a ∷ b ∷ l) zero count = absurd (omega arith)
  is_last (a ∷ l) (suc n) count =
      let its = is_last l n (omega (arith, count)) in
      record { value = its.value; alone = its.alone; all = ap (λ (m : List B). f a ∷ m) its.all }

module _ {T V : Type 0} where
  -- a seat that carries one pass, outside
  pub pass_at : (me : Me (Option T) (Standing T V)) (c : ℕ × V) → me ≡ (outside (c ∷ []), []) → IsPass me
  pass_at me c is = subst IsPass (sym is) (record { number = c.0; view = c.1; one = refl; out = refl })

-- the value that a seat took is the one that it has out
pub same_value : {T : Type 0} (x y : T) (l m : List (ℕ × Option T)) → ◌≡◌ {A = List (ℕ × Option T)} ((0, Some x) ∷ l) ((0, Some y) ∷ m) → x ≡ y
same_value {T} x y l m same =
    let both : ◌≡◌ {A = ℕ × Option T} (0, Some x) (0, Some y) = cc in
    let values : Some x ≡ Some y = ap (λ (c : ℕ × Option T). c.1) both in
    cc
