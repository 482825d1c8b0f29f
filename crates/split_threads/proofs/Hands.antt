-- The first views of the workers, and their passes, by number.
use Rattle.std.specs.Prelude.{◌≡◌, ◌<◌, ◌-◌, ◌==◌, ℕ, if◌then◌else◌, true, false, length, map, slice_get, Some}
use Rattle.std.specs.List.{enumerate_from, range_with_len}
use Rattle.std.proofs.Common.{arith, ap, ◌∙◌, sym, inl, inr}
use Rattle.std.proofs.lemmas.Bool.Decides.{nat_tests}
use Rattle.std.proofs.lemmas.List.{length-map}
use Rattle.std.proofs.lemmas.List.FromFn.{length-range_with_len}
use Rattle.atomic_table.specs.Seated.{TableId}
use Rattle.ruled_turn.specs.Passes.{outside_pass, passes_with, PassView}
use Rattle.thread_laws.specs.world_view_laws.pm_model.Powers.{Supply}
use Rattle.thread_laws.specs.world_view_laws.list_laws.Members.{slice_get-push}
use Rattle.thread_laws.specs.world_view_laws.posix_types.declared.call.Who.{Who}
use Rattle.thread_laws.specs.world_view_laws.Views.{WorldView}
use Rattle.thread_laws.specs.Hands.{callers_for, first_hands, HandView, newcomer}
use Rattle.thread_laws.specs.Places.{mapped_at, ranged_at}
use Rattle.split_threads.specs.Backs.{caller_at}
use Rattle.split_threads.specs.declared.turns.Held.{Held}
use Rattle.split_threads.proofs.Places.{enumerated_at}

-- the caller of a number, if that is the last, and if it is not
pub caller_last : (n number : ℕ) → number ≡ n - 1 → caller_at n number ≡ Who.Setup
caller_last n number is = let test : (number == n - 1) ≡ true = grind (arith, nat_tests, is) in ap (λ b. if b then Who.Setup else Who.Thread number) test

pub caller_thread : (n number : ℕ) → number < n - 1 → caller_at n number ≡ Who.Thread number
caller_thread n number below = let test : (number == n - 1) ≡ false = grind (arith, nat_tests, below) in ap (λ b. if b then Who.Setup else Who.Thread number) test

-- THE CALLER at a number
pub caller_is : (n number : ℕ) (who : Who) → slice_get (callers_for n) number ≡ Some who → who ≡ caller_at n number
caller_is n number who at =
    let threads = map (λ (k : ℕ). Who.Thread k) (range_with_len 0 (n - 1)) in
    let count : length threads ≡ n - 1 = length-map (range_with_len 0 (n - 1)) (λ (k : ℕ). Who.Thread k) ∙ length-range_with_len 0 (n - 1) in
    elim (slice_get-push threads Who.Setup number who at) [
      | inl there ↦ (
          let k = mapped_at (λ (k : ℕ). Who.Thread k) (range_with_len 0 (n - 1)) number who there in
          let is = ranged_at 0 (n - 1) number k.0 k.1 in
          let same : k.0 ≡ number = omega (arith, is.0) in
          sym k.2 ∙ (ap (λ (m : ℕ). Who.Thread m) same ∙ sym (caller_thread n number is.1))
          )
      | inr (last, is) ↦ sym is ∙ sym (caller_last n number (last ∙ count))
    ]

-- THE FIRST VIEW of that number
pub hand_is : (w : WorldView) (power : Supply) (n number : ℕ) (v : HandView) → slice_get (first_hands w power n) number ≡ Some v → v ≡ newcomer w power (caller_at n number)
hand_is w power n number v at =
    let who = mapped_at (newcomer w power) (callers_for n) number v at in
    sym who.2 ∙ ap (newcomer w power) (caller_is n number who.0 who.1)

-- AND ITS PASS
pub pass_is : (turn : TableId) (w : WorldView) (power : Supply) (n number : ℕ) (pass : PassView Held HandView)
    → slice_get (passes_with turn (first_hands w power n)) number ≡ Some pass → pass ≡ outside_pass turn number (newcomer w power (caller_at n number))
pass_is turn w power n number pass at =
    let f : ℕ × HandView → PassView Held HandView = λ c. outside_pass turn c.0 c.1 in
    let c = mapped_at f (enumerate_from 0 (first_hands w power n)) number pass at in
    let is = enumerated_at 0 (first_hands w power n) number c.0 c.1 in
    let hand = hand_is w power n number c.0.1 is.1 in
    let same : c.0.0 ≡ number = omega (arith, is.0) in
    sym c.2 ∙ (ap (λ (m : ℕ). outside_pass turn m c.0.1) same ∙ ap (λ (v : HandView). outside_pass turn number v) hand)
