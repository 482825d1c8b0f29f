-- A history has no more calls than its scripts.
use Rattle.std.specs.Prelude.{◌≡◌, ◌≢◌, ◌⊎◌, ◌≤◌, ◌<◌, ◌+◌, ◌-◌, ◌==◌, ℕ, zero, suc, Bool, true, false, cond, nat_le, List, [], ◌∷◌, ◌++◌, length, count_by, sum_by, slice_get, slice_index_or, None, refl}
use Rattle.std.proofs.Common.{arith, ap, ◌∙◌, sym, subst, append_assoc, length-append, inl, inr}
use Rattle.std.proofs.lemmas.Bool.{cases_lt, eq-eqb}
use Rattle.std.proofs.lemmas.Bool.Decides.{eqb_tells, leb_tells}
use Rattle.std.proofs.lemmas.List.{append-nil}
use Rattle.std.proofs.lemmas.List.Elements.{filter-append}
use Rattle.std.proofs.lemmas.List.Sums.{length-filter, sum_by-cons}
use Rattle.std.proofs.lemmas.Option.{slice_get_within}
use Rattle.posix_types.specs.declared.call.Call.{Call}
use Rattle.posix_types.specs.declared.call.Who.{Who}
use Rattle.posix_types.specs.declared.item.Item.{Item}
use Rattle.posix_types.specs.Scripts.{Scripts}
use Rattle.live_model.specs.commute_laws.posix_tables.Open.{same_who}
use Rattle.live_model.specs.commute_laws.Handles.{same_who-is}
use Rattle.live_model.specs.commute_laws.posix_spec.Scripted.{call_count, items_of, next_call, script_of, Scripted, ScriptedAfter}

-- ---- each caller

counted : List Item → Who → ℕ
counted items who = length (items_of items who)

counted_more : (past : List Item) (item : Item) (who : Who) → counted (past ++ item ∷ []) who ≡ counted past who + cond (same_who item.who who) 1 0
unfolding counted
counted_more past item who =
    ap length (filter-append (λ (i : Item). same_who i.who who) past (item ∷ [])) ∙ length-append (items_of past who) (items_of (item ∷ []) who) ∙ ap (λ n. counted past who + n) (one (same_who item.who who)) where
      one : (b : Bool) → length (cond b (item ∷ []) []) ≡ cond b 1 0
      one true = refl
      one false = refl

-- one item more
pub items_more : (past : List Item) (item : Item) (who : Who) → length (items_of (past ++ item ∷ []) who) ≡ length (items_of past who) + cond (same_who item.who who) 1 0
unfolding counted
items_more past item who = counted_more past item who

pub made_within : (scripts : Scripts) (past items : List Item) (who : Who) → length (items_of past who) ≤ length (script_of scripts who) → ScriptedAfter scripts past items → length (items_of (past ++ items) who) ≤ length (script_of scripts who)
unfolding counted
made_within scripts past [] who small after = subst (λ xs. counted xs who ≤ length (script_of scripts who)) (sym (append-nil past)) small
made_within scripts past (item ∷ items) who small after =
    subst (λ xs. counted xs who ≤ length (script_of scripts who)) (append_assoc past (item ∷ []) items) (made_within scripts (past ++ item ∷ []) items who now after.1) where
      by : (b : Bool) → same_who item.who who ≡ b → counted past who + cond b 1 0 ≤ length (script_of scripts who)
      by true same =
          let own : item.who ≡ who = same_who-is item.who who same in
          let below : counted past who < length (script_of scripts who) =
          subst (λ w. counted past w < length (script_of scripts w)) own (slice_get_within (script_of scripts item.who) (length (items_of past item.who)) item.call after.0.call)
          in
          omega (arith, below)
      by false other = omega (arith, small)

      now : counted (past ++ item ∷ []) who ≤ length (script_of scripts who)
      now = subst (λ n. n ≤ length (script_of scripts who)) (sym (counted_more past item who)) (by (same_who item.who who) refl)

-- ---- all threads from one on

abbrev above : ℕ → Who → Bool
above low Who.Setup = false
above low (Who.Thread n) = nat_le low n

one_more : (low n : ℕ) → cond (nat_le low n) 1 0 ≡ cond (n == low) 1 0 + cond (nat_le (low + 1) n) 1 0
one_more low n = by (leb_tells low n) (eqb_tells n low) (leb_tells (low + 1) n) where
  by : ((nat_le low n ≡ true) × (low ≤ n)) ⊎ ((nat_le low n ≡ false) × (n < low)) → (((n == low) ≡ true) × (n ≡ low)) ⊎ (((n == low) ≡ false) × (n ≢ low))
      → ((nat_le (low + 1) n ≡ true) × (low + 1 ≤ n)) ⊎ ((nat_le (low + 1) n ≡ false) × (n < low + 1)) → cond (nat_le low n) 1 0 ≡ cond (n == low) 1 0 + cond (nat_le (low + 1) n) 1 0
  by (inl a) (inl e) (inl b) = absurd (omega (arith, e.1, b.1))
  by (inl a) (inl e) (inr b) = rw (a.0, e.0, b.0) refl
  by (inl a) (inr e) (inl b) = rw (a.0, e.0, b.0) refl
  by (inl a) (inr e) (inr b) = absurd (omega (arith, a.1, e.1, b.1))
  by (inr a) (inl e) c = absurd (omega (arith, a.1, e.1))
  by (inr a) (inr e) (inl b) = absurd (omega (arith, a.1, b.1))
  by (inr a) (inr e) (inr b) = rw (a.0, e.0, b.0) refl

one_step : (low : ℕ) (who : Who) → cond (above low who) 1 0 ≡ cond (same_who who (Who.Thread low)) 1 0 + cond (above (low + 1) who) 1 0
one_step low Who.Setup = refl
one_step low (Who.Thread n) = one_more low n

each_one : (who : Who) → 1 ≡ cond (same_who who Who.Setup) 1 0 + cond (above 0 who) 1 0
each_one Who.Setup = refl
each_one (Who.Thread n) = by (leb_tells 0 n) where
  by : ((nat_le 0 n ≡ true) × (0 ≤ n)) ⊎ ((nat_le 0 n ≡ false) × (n < 0)) → 1 ≡ cond false 1 0 + cond (nat_le 0 n) 1 0
  by (inl a) = rw a.0 refl
  by (inr a) = absurd (omega (arith, a.1))

own : Who → List Item → ℕ
own who items = count_by (λ (i : Item). same_who i.who who) items

others : ℕ → List Item → ℕ
others low items = count_by (λ (i : Item). above low i.who) items

split : (low : ℕ) (items : List Item) → others low items ≡ own (Who.Thread low) items + others (low + 1) items
unfolding own others
split low [] = refl
split low (item ∷ items) =
    omega (
      arith,
      sum_by-cons (λ (i : Item). cond (above low i.who) 1 0) item items,
      sum_by-cons (λ (i : Item). cond (same_who i.who (Who.Thread low)) 1 0) item items,
      sum_by-cons (λ (i : Item). cond (above (low + 1) i.who) 1 0) item items,
      one_step low item.who,
      split low items,
    )

all_of : (items : List Item) → length items ≡ own Who.Setup items + others 0 items
unfolding own others
all_of [] = refl
all_of (item ∷ items) =
    omega
    (arith, sum_by-cons (λ (i : Item). cond (same_who i.who Who.Setup) 1 0) item items, sum_by-cons (λ (i : Item). cond (above 0 i.who) 1 0) item items, each_one item.who, all_of items)

none_above : (low : ℕ) (items : List Item) → ((n : ℕ) → own (Who.Thread (low + n)) items ≤ 0) → others low items ≤ 0
unfolding own others
none_above low [] none = omega arith
none_above low (item ∷ items) none =
    omega (arith, sum_by-cons (λ (i : Item). cond (above low i.who) 1 0) item items, here item.who refl, none_above low items (λ n. omega (arith, none n, sum_by-cons (λ (i : Item). cond (same_who i.who (Who.Thread (low + n))) 1 0) item items))) where
      by_test : {m : ℕ} → ((nat_le low m ≡ true) × (low ≤ m)) ⊎ ((nat_le low m ≡ false) × (m < low)) → m < low → cond (nat_le low m) 1 0 ≤ 0
      by_test (inl a) below = absurd (omega (arith, a.1, below))
      by_test (inr a) below = rw a.0 (omega arith)

      here : (who : Who) → item.who ≡ who → cond (above low who) 1 0 ≤ 0
      here Who.Setup is = omega arith
      here (Who.Thread m) is = elim (cases_lt m low) [
        | inl below ↦ by_test (leb_tells low m) below
        | inr at ↦
            let first : cond (same_who (Who.Thread m) (Who.Thread (low + (m - low)))) 1 0 ≡ 1 = ap {B = ℕ} (λ b. cond b 1 0) (eq-eqb m (low + (m - low)) (omega (arith, at))) in
            absurd (omega (arith, none (m - low), sum_by-cons (λ (i : Item). cond (same_who i.who (Who.Thread (low + (m - low)))) 1 0) item items, ap {B = ℕ} (λ w. cond (same_who w (Who.Thread (low + (m - low)))) 1 0) is, first))
      ]

threads_within : (threads : List (List Call)) (low : ℕ) (items : List Item) → ((n : ℕ) → own (Who.Thread (low + n)) items ≤ length (slice_index_or threads n [])) → others low items ≤ sum_by (λ (calls : List Call). length calls) threads
threads_within [] low items each = none_above low items each
threads_within (calls ∷ threads) low items each =
    let first : own (Who.Thread low) items ≤ length calls = subst (λ k. own (Who.Thread k) items ≤ length calls) (omega arith) (each 0) in
    let rest : others (low + 1) items ≤ sum_by (λ (cs : List Call). length cs) threads =
    threads_within threads (low + 1) items (λ n. subst (λ k. own (Who.Thread k) items ≤ length (slice_index_or threads n [])) (omega arith) (each (suc n)))
    in
    omega (arith, split low items, first, rest, sum_by-cons (λ (cs : List Call). length cs) calls threads)

-- A HISTORY THAT FOLLOWS ITS SCRIPTS has at most their calls.
pub history_within : (scripts : Scripts) (history : List Item) → Scripted scripts history → length history ≤ call_count scripts
unfolding own
history_within scripts history scripted =
    omega (arith, all_of history, setup, threads_within scripts.threads 0 history each) where
      within : (who : Who) → own who history ≤ length (script_of scripts who)
      within who = subst (λ n. n ≤ length (script_of scripts who)) (length-filter (λ (i : Item). same_who i.who who) history) (made_within scripts [] history who (omega arith) scripted)

      setup : own Who.Setup history ≤ length scripts.setup
      setup = within Who.Setup

      each : (n : ℕ) → own (Who.Thread (0 + n)) history ≤ length (slice_index_or scripts.threads n [])
      each n = subst (λ k. own (Who.Thread k) history ≤ length (slice_index_or scripts.threads n [])) (omega arith) (within (Who.Thread n))

-- ---- all of them

all_past : {X : Type 0} (xs : List X) (n : ℕ) → slice_get xs n ≡ None → length xs ≤ n
all_past [] n none = omega arith
all_past (x ∷ xs) zero none = cc
all_past (x ∷ xs) (suc n) none = omega (arith, all_past xs n none)

threads_all : (threads : List (List Call)) (low : ℕ) (items : List Item) → ((n : ℕ) → length (slice_index_or threads n []) ≤ own (Who.Thread (low + n)) items) → sum_by (λ (calls : List Call). length calls) threads ≤ others low items
unfolding own others
threads_all [] low items each = omega arith
threads_all (calls ∷ threads) low items each =
    let first : length calls ≤ own (Who.Thread low) items = subst (λ k. length calls ≤ own (Who.Thread k) items) (omega arith) (each 0) in
    let rest : sum_by (λ (cs : List Call). length cs) threads ≤ others (low + 1) items =
    threads_all threads (low + 1) items (λ n. subst (λ k. length (slice_index_or threads n []) ≤ own (Who.Thread k) items) (omega arith) (each (suc n)))
    in
    omega (arith, split low items, first, rest, sum_by-cons (λ (cs : List Call). length cs) calls threads)

-- WHERE NO CALLER HAS A NEXT CALL, the history has all calls.
pub history_complete : (scripts : Scripts) (history : List Item) → ((who : Who) → next_call scripts history who ≡ None) → call_count scripts ≤ length history
unfolding own
history_complete scripts history none =
    omega (arith, all_of history, made Who.Setup, threads_all scripts.threads 0 history each) where
      made : (who : Who) → length (script_of scripts who) ≤ own who history
      made who = subst (λ n. length (script_of scripts who) ≤ n) (length-filter (λ (i : Item). same_who i.who who) history) (all_past (script_of scripts who) (length (items_of history who)) (none who))

      each : (n : ℕ) → length (slice_index_or scripts.threads n []) ≤ own (Who.Thread (0 + n)) history
      each n = subst (λ k. length (slice_index_or scripts.threads n []) ≤ own (Who.Thread k) history) (omega arith) (made (Who.Thread n))
