-- Laws of unfinished calls: none is, one more began, and one of them returned.
use Rattle.std.specs.Prelude.{◌≡◌, ◌⊎◌, ◌<◌, ℕ, zero, suc, false, cond, ◌==◌, List, [], ◌∷◌, ◌++◌, length, remove, Some, All, AllPairs, slice_get, slice_index_or, refl}
use Rattle.std.proofs.Common.{◌∙◌, ap, subst, arith, inl, inr}
use Rattle.std.proofs.lemmas.Bool.Decides.{nat_tests}
use Rattle.std.proofs.lemmas.Option.{slice_get_within}
use Rattle.std.proofs.lemmas.List.{append-nil}
use Rattle.std.proofs.lemmas.List.Elements.{All-append, All-cons, All-nil, filter-append}
use Rattle.std.proofs.lemmas.List.Quantifiers.{all_pairs_push, all_pairs_remove}
use Rattle.posix_spec.specs.posix_types.declared.call.Call.{Call}
use Rattle.posix_spec.specs.posix_types.declared.call.Who.{Who}
use Rattle.posix_spec.specs.posix_types.declared.item.Item.{Item}
use Rattle.posix_spec.specs.posix_types.Scripts.{Scripts}
use Rattle.posix_spec.specs.posix_tables.Open.{same_who}
use Rattle.posix_spec.specs.Run.{Unfinished, begun}
use Rattle.posix_spec.specs.Scripted.{IsNext, IsSetUp, items_of, next_call, script_of}
use Rattle.posix_spec.specs.Unfinished.{AreUnfinished, HaveTwoCallers, IsNextCall}

-- none is unfinished
pub AreUnfinished-none : (scripts : Scripts) (history : List Item) → AreUnfinished scripts history []
AreUnfinished-none scripts history = record {
  next = All-nil (IsNextCall scripts history);
  one_each = λ i j d below within. absurd (omega (arith, within));
}

-- one more began: the next call of a caller that has none
pub AreUnfinished-begun : (scripts : Scripts) (history : List Item) (unfinished : List Unfinished) (c : Unfinished) → AreUnfinished scripts history unfinished → IsNextCall scripts history c
    → All (λ other. HaveTwoCallers other c) unfinished → AreUnfinished scripts history (unfinished ++ c ∷ [])
AreUnfinished-begun scripts history unfinished c are next idle = record {
  next = All-append (IsNextCall scripts history) unfinished (c ∷ []) are.next (All-cons (IsNextCall scripts history) c [] next (All-nil (IsNextCall scripts history)));
  one_each = all_pairs_push HaveTwoCallers unfinished c are.one_each idle;
}

-- the next call of a caller, with its reply, is the next item of the history
pub IsNext-item : (scripts : Scripts) (history : List Item) (item : Item) → IsNextCall scripts history (begun item) → item.index ≡ length (items_of history item.who) → IsNext scripts history item
IsNext-item scripts history item next index = record { call = next.call; index = index; set_up = next.set_up }

-- An item of one caller is no item of another.
items_of-other : (history : List Item) (item : Item) (who : Who) → same_who item.who who ≡ false → items_of (history ++ item ∷ []) who ≡ items_of history who
items_of-other history item who other =
    filter-append (λ i. same_who i.who who) history (item ∷ [])
    ∙ ap (λ b. items_of history who ++ cond b (item ∷ []) []) other
    ∙ append-nil (items_of history who)

set_up_other : (scripts : Scripts) (history : List Item) (item : Item) (who : Who) → same_who item.who Who.Setup ≡ false → IsSetUp scripts history who → IsSetUp scripts (history ++ item ∷ []) who
set_up_other scripts history item Who.Setup other set_up = tt
set_up_other scripts history item (Who.Thread n) other set_up = ap length (items_of-other history item Who.Setup other) ∙ set_up

-- no call of the set-up is next once it is done
no_set_up : (scripts : Scripts) (history : List Item) (call : Call) → next_call scripts history Who.Setup ≡ Some call → length (items_of history Who.Setup) ≡ length scripts.setup → ⊥
no_set_up scripts history call next done = omega (arith, slice_get_within scripts.setup (length (items_of history Who.Setup)) call next, done)

-- the next call of one caller is so still, when one of another has returned
next_other : (scripts : Scripts) (history : List Item) (item : Item) (who : Who) (call : Call) → IsNextCall scripts history (begun item) → IsNextCall scripts history (who, call)
    → same_who item.who who ≡ false → IsNextCall scripts (history ++ item ∷ []) (who, call)
next_other scripts history item Who.Setup call returned next other = record {
  call = ap (λ xs. slice_get (script_of scripts Who.Setup) (length xs)) (items_of-other history item Who.Setup other) ∙ next.call;
  set_up = tt;
}
next_other scripts history item (Who.Thread n) call returned next other = record {
  call = ap (λ xs. slice_get (script_of scripts (Who.Thread n)) (length xs)) (items_of-other history item (Who.Thread n) other) ∙ next.call;
  set_up = set_up_other scripts history item (Who.Thread n) (no_setup item.who refl) next.set_up;
} where
  no_setup : (w : Who) → item.who ≡ w → same_who item.who Who.Setup ≡ false
  no_setup (Who.Thread m) is = rw is refl
  no_setup Who.Setup is = absurd (no_set_up scripts history item.call (subst (λ w. next_call scripts history w ≡ Some item.call) is returned.call) next.set_up)

two_callers : (a b : Who) → (same_who a b ≡ false) ⊎ (same_who b a ≡ false) → same_who a b ≡ false
two_callers Who.Setup Who.Setup either = elim either [ inl e ↦ e | inr e ↦ e ]
two_callers Who.Setup (Who.Thread n) either = refl
two_callers (Who.Thread m) Who.Setup either = refl
two_callers (Who.Thread m) (Who.Thread n) either = elim either [ inl e ↦ e | inr e ↦ other_number m n e ] where
  other_number : (i j : ℕ) → (j == i) ≡ false → (i == j) ≡ false
  other_number i j is = grind (arith, nat_tests)

-- What holds of each element of a list that stands apart from one of them, holds of all but that one.
all_but : {X : Type 0} (P Q : X → Type 0) (R : X → X → Type 0) (x : X) → ((y : X) → P y → R x y ⊎ R y x → Q y)
    → (xs : List X) (n : ℕ) → n < length xs → slice_index_or xs n x ≡ x → All P xs → AllPairs R xs → All Q (remove xs n)
all_but P Q R x each [] n within is all pairs = absurd (omega (arith, within))
all_but {X} P Q R x each (y ∷ ys) zero within is all pairs = λ k d below.
    let apart : R y (slice_index_or ys k d) = pairs 0 (suc k) d (omega arith) (omega (arith, below)) in
    let Apart : X → Type 0 = λ z. R z (slice_index_or ys k d) in
    each (slice_index_or ys k d) (all (suc k) d (omega (arith, below))) (inl (subst Apart is apart))
all_but {X} P Q R x each (y ∷ ys) (suc n) within is all pairs =
    let apart : R y (slice_index_or ys n x) = pairs 0 (suc n) x (omega arith) (omega (arith, within)) in
    let Apart : X → Type 0 = λ z. R y z in
    All-cons Q y (remove ys n) (each y (all 0 x (omega arith)) (inr (subst Apart is apart)))
    (all_but P Q R x each ys n (omega (arith, within)) is (λ k d below. all (suc k) d (omega (arith, below)))
    (λ i j d before below. pairs (suc i) (suc j) d (omega (arith, before)) (omega (arith, below))))

-- One of them returned: the others are still the unfinished calls, of the history with its item.
pub AreUnfinished-finished : (scripts : Scripts) (history : List Item) (unfinished : List Unfinished) (n : ℕ) (item : Item) → n < length unfinished
    → slice_index_or unfinished n (begun item) ≡ begun item → AreUnfinished scripts history unfinished → AreUnfinished scripts (history ++ item ∷ []) (remove unfinished n)
AreUnfinished-finished scripts history unfinished n item within is are =
    let own : IsNextCall scripts history (begun item) = subst (IsNextCall scripts history) is (are.next n (begun item) within) in
    record {
      next = all_but (IsNextCall scripts history) (IsNextCall scripts (history ++ item ∷ [])) HaveTwoCallers (begun item)
          (λ c next apart. next_other scripts history item c.0 c.1 own next (two_callers item.who c.0 apart)) unfinished n within is are.next are.one_each;
      one_each = all_pairs_remove HaveTwoCallers unfinished n within are.one_each;
    }
