-- The place of the job of a caller.
use Rattle.std.specs.Prelude.{◌≡◌, ◌≢◌, ◌⊎◌, ◌<◌, ◌+◌, ℕ, true, false, List, length, Some, slice_get}
use Rattle.std.proofs.Common.{arith, ap, ◌∙◌, sym, inl, inr}
use Rattle.std.proofs.lemmas.Bool.{cases_eq}
use Rattle.std.proofs.lemmas.Option.{same_Some, slice_get_within}
use Rattle.posix_types.specs.declared.call.Who.{Who}
use Rattle.run_laws.specs.posix_tables.Open.{same_who}
use Rattle.run_laws.specs.in_flight.commute_laws.Handles.{same_who-is}
use Rattle.run_laws.proofs.Longer.{same_caller}
use Rattle.run_laws.specs.declared.held.Held.{Held}

-- none of the jobs before a place is this caller's
abbrev pub NoneBefore : List Held → Who → ℕ → Type 0
NoneBefore jobs who n = (i : ℕ) (h : Held) → i < n → slice_get jobs i ≡ Some h → h.who ≢ who

pub none_first : (jobs : List Held) (who : Who) → NoneBefore jobs who 0
none_first jobs who i h below at = absurd (omega (arith, below))

pub none_more : (jobs : List Held) (who : Who) (n : ℕ) (x : Held) → NoneBefore jobs who n → slice_get jobs n ≡ Some x → same_who x.who who ≡ false → NoneBefore jobs who (n + 1)
none_more jobs who n x none at_x other i h below at = by (cases_eq i n) where
  by : (i ≡ n) ⊎ (i ≢ n) → h.who ≢ who
  by (inl same) own =
      let one : x ≡ h = same_Some x h (sym at_x ∙ (ap (slice_get jobs) (sym same) ∙ at)) in
      let yes : same_who x.who who ≡ true = ap (λ (y : Who). same_who y who) (ap (λ (y : Held). y.who) one ∙ own) ∙ same_caller who in
      let never : true ≡ false = sym yes ∙ other in
      cc
  by (inr before) own = none i h (omega (arith, below, before)) at own

pub none_there : (jobs : List Held) (who : Who) (n : ℕ) → length jobs ≡ n → NoneBefore jobs who n → (i : ℕ) (h : Held) → slice_get jobs i ≡ Some h → h.who ≢ who
none_there jobs who n count none i h at = none i h (omega (arith, count, slice_get_within jobs i h at)) at

-- the one that is found
pub found_there : (jobs : List Held) (who : Who) (n : ℕ) (x : Held) → slice_get jobs n ≡ Some x → same_who x.who who ≡ true → (h : Held) × (slice_get jobs n ≡ Some h) × (h.who ≡ who)
found_there jobs who n x at same = (x, at, same_who-is x.who who same)
