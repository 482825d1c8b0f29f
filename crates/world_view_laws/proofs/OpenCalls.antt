-- The calls that have begun and not returned: at most one for each caller, the next of its script.
use Rattle.std.specs.Prelude.{◌≡◌, ◌≢◌, ◌++◌, suc, Bool, true, false, cond, not, List, [], ◌∷◌, map, Some, All, AllPairs, refl}
use Rattle.std.proofs.Common.{arith, ap, ◌∙◌, sym, subst, inl, inr}
use Rattle.std.proofs.lemmas.List.{append-nil, map-append}
use Rattle.std.proofs.lemmas.List.Elements.{All-cons, All-nil}
use Rattle.std.proofs.lemmas.List.Kept.{AllPairs-cons}
use Rattle.file_calls.specs.eof_laws.list_laws.Members.{In}
use Rattle.file_calls.specs.eof_laws.posix_types.declared.call.Who.{Who}
use Rattle.file_calls.specs.eof_laws.posix_types.declared.item.Item.{Item}
use Rattle.in_flight.specs.posix_types.Scripts.{Scripts}
use Rattle.file_calls.specs.eof_laws.posix_tables.Open.{same_who}
use Rattle.in_flight.specs.posix_laws.UnfinishedLaws.{AreUnfinished-begun}
use Rattle.in_flight.specs.posix_spec.Run.{Unfinished}
use Rattle.in_flight.specs.posix_spec.Scripted.{next_call}
use Rattle.in_flight.specs.posix_spec.Unfinished.{AreUnfinished, HaveTwoCallers, IsNextCall}
use Rattle.in_flight.specs.Histories.{next_stays, set_up_stays}
use Rattle.in_flight.specs.live_model.Jobs.{without}
use Rattle.in_flight.specs.live_model.Standing.{JobOut}
use Rattle.write_end.specs.Ends.{begun_by}
use Rattle.in_flight.proofs.CountsCounts.{pairs}
use Rattle.in_flight.proofs.Taking.{other_who}

-- ---- by members

in_all : {X : Type 0} (P : X → Type 0) (xs : List X) (x : X) → All P xs → In x xs → P x
in_all P [] x all at = absurd at
in_all P (y ∷ xs) x all (inl same) = subst P same (all 0 y (omega arith))
in_all P (y ∷ xs) x all (inr rest) = in_all P xs x (λ k e below. all (suc k) e (omega (arith, below))) rest

all_in : {X : Type 0} (P : X → Type 0) (xs : List X) → ((x : X) → In x xs → P x) → All P xs
all_in P [] each = All-nil P
all_in P (x ∷ xs) each = All-cons P x xs (each x (inl refl)) (all_in P xs (λ y at. each y (inr at)))

-- a call of a job is among them, and each of the jobs' calls is of a job
call_there : (pending : List JobOut) (calls : List Unfinished) (p : JobOut) → In p pending → In (begun_by p) (map begun_by pending ++ calls)
call_there [] calls p at = absurd at
call_there (q ∷ pending) calls p (inl same) = inl (ap begun_by same)
call_there (q ∷ pending) calls p (inr rest) = inr (call_there pending calls p rest)

job_of_call : (pending : List JobOut) (c : Unfinished) → In c (map begun_by pending) → (p : JobOut) × In p pending × (begun_by p ≡ c)
job_of_call [] c at = absurd at
job_of_call (q ∷ pending) c (inl same) = (q, inl refl, same)
job_of_call (q ∷ pending) c (inr rest) = let its = job_of_call pending c rest in (its.0, inr its.1, its.2)

-- where no other call is there, these are those of the jobs
alone : (xs calls : List Unfinished) → calls ≡ [] → xs ++ calls ≡ xs
alone xs calls none = ap (λ (cs : List Unfinished). xs ++ cs) none ∙ append-nil xs

-- no job of this caller is there, so no call of it
no_call : (who : Who) (pending : List JobOut) (calls : List Unfinished) → calls ≡ [] → ((p : JobOut) → In p pending → p.who ≢ who) → (c : Unfinished) → In c (map begun_by pending ++ calls)
    → same_who who c.0 ≡ false
no_call who pending calls none apart c at =
    let its = job_of_call pending c (subst (λ (cs : List Unfinished). In c cs) (alone (map begun_by pending) calls none) at) in
    other_who who c.0 (λ same. apart its.0 its.1 (ap (λ (d : Unfinished). d.0) its.2 ∙ sym same))

module _ (scripts : Scripts) (history : List Item) where
  -- A JOB IS OF THE NEXT CALL of its caller, which may begin.
  pub next_of_job : (pending : List JobOut) (calls : List Unfinished) → AreUnfinished scripts history (map begun_by pending ++ calls) → (p : JobOut) → In p pending → IsNextCall scripts history (begun_by p)
  next_of_job pending calls are p at =
      in_all (IsNextCall scripts history) (map begun_by pending ++ calls) (begun_by p) are.next (call_there pending calls p at)

  open_rest : (c : Unfinished) (cs : List Unfinished) → AreUnfinished scripts history (c ∷ cs) → AreUnfinished scripts history cs
  open_rest c cs are = record {
    next = λ k d below. are.next (suc k) d (omega (arith, below));
    one_each = λ m n d before below. are.one_each (suc m) (suc n) d (omega (arith, before)) (omega (arith, below));
  }

  open_more : (c : Unfinished) (cs : List Unfinished) → IsNextCall scripts history c → ((d : Unfinished) → In d cs → HaveTwoCallers c d) → AreUnfinished scripts history cs → AreUnfinished scripts history (c ∷ cs)
  open_more c cs next apart are = record {
    next = All-cons (IsNextCall scripts history) c cs next are.next;
    one_each = AllPairs-cons HaveTwoCallers c cs (all_in (HaveTwoCallers c) cs apart) are.one_each;
  }

  -- the calls of all jobs but those of a caller are among those of all
  was_there : (who : Who) (pending : List JobOut) (calls : List Unfinished) (c : Unfinished) → In c (map begun_by (without who pending) ++ calls) → In c (map begun_by pending ++ calls)
  was_there who [] calls c at = at
  was_there who (q ∷ pending) calls c at = by (same_who q.who who) at (was_there who pending calls c) where
    by : (b : Bool) → In c (map begun_by (cond (not b) (q ∷ without who pending) (without who pending)) ++ calls) → (In c (map begun_by (without who pending) ++ calls) → In c (map begun_by pending ++ calls))
        → In c (map begun_by (q ∷ pending) ++ calls)
    by true is rest = inr (rest is)
    by false (inl same) rest = inl same
    by false (inr is) rest = inr (rest is)

  -- ONE JOB LESS
  pub open_without : (who : Who) (pending : List JobOut) (calls : List Unfinished) → AreUnfinished scripts history (map begun_by pending ++ calls) → AreUnfinished scripts history (map begun_by (without who pending) ++ calls)
  open_without who [] calls are = are
  open_without who (p ∷ pending) calls are = by (same_who p.who who) (open_without who pending calls (open_rest (begun_by p) (map begun_by pending ++ calls) are)) where
    by : (b : Bool) → AreUnfinished scripts history (map begun_by (without who pending) ++ calls) → AreUnfinished scripts history (map begun_by (cond (not b) (p ∷ without who pending) (without who pending)) ++ calls)
    by true rest = rest
    by false rest =
        open_more (begun_by p) (map begun_by (without who pending) ++ calls) (are.next 0 (begun_by p) (omega arith))
        (λ d at. pairs HaveTwoCallers (begun_by p) (map begun_by pending ++ calls) are.one_each d (was_there who pending calls d at)) rest

  -- ONE CALL MORE, of a caller that has no job
  pub open_called : (pending : List JobOut) (calls : List Unfinished) (c : Unfinished) → calls ≡ [] → IsNextCall scripts history c → ((p : JobOut) → In p pending → p.who ≢ c.0)
      → AreUnfinished scripts history (map begun_by pending ++ calls) → AreUnfinished scripts history (map begun_by pending ++ c ∷ [])
  open_called pending calls c none next apart are =
      AreUnfinished-begun scripts history (map begun_by pending) c (subst (λ (cs : List Unfinished). AreUnfinished scripts history cs) (alone (map begun_by pending) calls none) are) next
      (all_in (λ (d : Unfinished). HaveTwoCallers d c) (map begun_by pending) (λ d at. (
      let its = job_of_call pending d at in
      other_who d.0 c.0 (λ same. apart its.0 its.1 (ap (λ (e : Unfinished). e.0) its.2 ∙ same)))))

  -- ONE JOB MORE, of such a caller
  pub open_began : (pending : List JobOut) (calls : List Unfinished) (p : JobOut) → calls ≡ [] → IsNextCall scripts history (begun_by p) → ((q : JobOut) → In q pending → q.who ≢ p.who)
      → AreUnfinished scripts history (map begun_by pending ++ calls) → AreUnfinished scripts history (map begun_by (pending ++ p ∷ []) ++ calls)
  open_began pending calls p none next apart are =
      subst (λ (cs : List Unfinished). AreUnfinished scripts history cs)
      (sym (alone (map begun_by (pending ++ p ∷ [])) calls none ∙ map-append begun_by pending (p ∷ [])))
      (open_called pending calls (begun_by p) none next apart are)

  -- A CALL RETURNED, of such a caller.
  pub open_returned : (pending : List JobOut) (calls : List Unfinished) (item : Item) → calls ≡ [] → next_call scripts history item.who ≡ Some item.call → ((p : JobOut) → In p pending → p.who ≢ item.who)
      → AreUnfinished scripts history (map begun_by pending ++ calls) → AreUnfinished scripts (history ++ item ∷ []) (map begun_by pending ++ calls)
  open_returned pending calls item none next apart are = record {
    next = all_in (IsNextCall scripts (history ++ item ∷ [])) (map begun_by pending ++ calls) (λ c at. (
        let was = in_all (IsNextCall scripts history) (map begun_by pending ++ calls) c are.next at in
        record {
          call = next_stays scripts history item c.0 (no_call item.who pending calls none apart c at) ∙ was.call;
          set_up = set_up_stays scripts history item c.0 next was.set_up;
        }));
    one_each = are.one_each;
  }
