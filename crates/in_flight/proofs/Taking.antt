-- The job of a caller is taken out.
use Rattle.std.specs.Prelude.{◌≡◌, ◌≢◌, ◌<◌, ◌==◌, ◌&&◌, not, ℕ, zero, suc, Bool, true, false, cond, List, [], ◌∷◌, length, Some, slice_get, slice_index_or, AllPairs, refl}
use Rattle.std.specs.List.{remove}
use Rattle.std.proofs.Common.{arith, ap, ◌∙◌, sym, subst, inl, inr}
use Rattle.std.proofs.lemmas.Bool.Decides.{Decides-eqb}
use Rattle.std.proofs.lemmas.Option.{same_Some}
use Rattle.open_files.specs.list_laws.Members.{In, In-slice_get}
use Rattle.posix_types.specs.declared.call.Who.{Who}
use Rattle.open_files.specs.posix_tables.Open.{same_who}
use Rattle.open_files.specs.commute_laws.Handles.{same_who-is}
use Rattle.in_flight.proofs.CountsCounts.{pairs}
use Rattle.in_flight.proofs.CountsJobs.{same_who-refl}
use Rattle.live_model.specs.Standing.{AreOfTwoThreads, JobOut}
use Rattle.live_model.specs.Jobs.{without}

pub other_who : (a b : Who) → a ≢ b → same_who a b ≡ false
other_who a b apart = by (same_who a b) refl where
  by : (c : Bool) → same_who a b ≡ c → c ≡ false
  by false is = refl
  by true is = absurd (apart (same_who-is a b is))

-- where none is the caller's, all are left
pub all_left : (who : Who) (pending : List JobOut) → ((p : JobOut) → In p pending → p.who ≢ who) → without who pending ≡ pending
all_left who [] none = refl
all_left who (p ∷ pending) none =
    ap (λ b. cond (not b) (p ∷ without who pending) (without who pending)) (other_who p.who who (none p (inl refl)))
    ∙ ap (λ ps. p ∷ ps) (all_left who pending (λ q is. none q (inr is)))

-- else all but the one
pub one_taken : (who : Who) (pending : List JobOut) (i : ℕ) (p : JobOut) → AllPairs AreOfTwoThreads pending → slice_get pending i ≡ Some p → p.who ≡ who → remove pending i ≡ without who pending
one_taken who [] i p two at own = cc
one_taken who (x ∷ pending) zero p two at own =
    sym (all_left who pending (λ q is same. (
    let apart : same_who x.who q.who ≡ false = (pairs AreOfTwoThreads x pending two q is).other in
    let one : x.who ≡ q.who = here ∙ sym same in
    let never : true ≡ false = sym (same_who-refl q.who) ∙ (ap (λ w. same_who w q.who) (sym one) ∙ apart) in
    absurd (no never))))
    ∙ sym (ap (λ b. cond (not b) (x ∷ without who pending) (without who pending)) (ap (λ w. same_who w who) here ∙ same_who-refl who)) where
      here : x.who ≡ who
      here = ap (λ (y : JobOut). y.who) (same_Some x p at) ∙ own

      no : true ≡ false → ⊥
      no never = let P : Bool → Type 0 = λ b. cond b (Unit {0}) ⊥ in subst P never tt
one_taken who (x ∷ pending) (suc i) p two at own =
    ap (λ ps. x ∷ ps) (one_taken who pending i p (λ m n d before below. two (suc m) (suc n) d (omega (arith, before)) (omega (arith, below))) at own)
    ∙ sym (ap (λ b. cond (not b) (x ∷ without who pending) (without who pending)) (ap (same_who x.who) (sym own) ∙ (pairs AreOfTwoThreads x pending two p (In-slice_get pending i p at)).other))

-- ---- looking

pub at_index : (xs : List JobOut) (i : ℕ) (p d : JobOut) → slice_get xs i ≡ Some p → slice_index_or xs i d ≡ p
at_index [] i p d at = cc
at_index (x ∷ xs) zero p d at = same_Some x p at
at_index (x ∷ xs) (suc i) p d at = at_index xs i p d at

pub there : (xs : List JobOut) (i : ℕ) (d : JobOut) → i < length xs → In (slice_index_or xs i d) xs
there [] i d below = absurd (omega (arith, below))
there (x ∷ xs) zero d below = inl refl
there (x ∷ xs) (suc i) d below = inr (there xs i d (omega (arith, below)))

pub held : (p : JobOut) (ino : ℕ) (who : Who) → (not (same_who p.who who) && (p.draft.ino == ino)) ≡ true → (p.draft.ino ≡ ino) × (p.who ≢ who)
held p ino who is = by (same_who p.who who) (p.draft.ino == ino) refl refl is where
  by : (a b : Bool) → same_who p.who who ≡ a → (p.draft.ino == ino) ≡ b → (not a && b) ≡ true → (p.draft.ino ≡ ino) × (p.who ≢ who)
  by false true one two is = ((Decides-eqb p.draft.ino ino).0 two, λ same. (let P : Bool → Type 0 = λ b. cond b (Unit {0}) ⊥ in subst P (sym (same_who-refl who) ∙ (ap (λ w. same_who w who) (sym same) ∙ one)) tt))
  by true b one two is = cc
  by false false one two is = cc

pub not_held : (p : JobOut) (ino : ℕ) (who : Who) → (not (same_who p.who who) && (p.draft.ino == ino)) ≡ false → p.draft.ino ≡ ino → p.who ≡ who
not_held p ino who is file = by (same_who p.who who) refl (ap (λ b. not (same_who p.who who) && b) (sym ((Decides-eqb p.draft.ino ino).1 file)) ∙ is) where
  by : (a : Bool) → same_who p.who who ≡ a → (not a && true) ≡ false → p.who ≡ who
  by true one is = same_who-is p.who who one
  by false one is = cc
