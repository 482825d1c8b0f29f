-- At most nine calls are out, one of each caller.
use Rattle.std.specs.Prelude.{◌≡◌, ◌⊎◌, ◌≤◌, ◌<◌, ◌+◌, ℕ, AllPairs, List, [], ◌∷◌, ◌++◌, length, Some, slice_get, refl}
use Rattle.std.specs.List.{remove}
use Rattle.std.proofs.lemmas.Option.{slice_get_within}
use Rattle.std.proofs.Common.{arith, sym, subst, inl, inr, length-append}
use Rattle.world_view_laws.specs.in_flight.Histories.{are_threads, is_counted}
use Rattle.world_view_laws.specs.in_flight.Counters.{IsCounted}
use Rattle.world_view_laws.specs.list_laws.Members.{In}
use Rattle.world_view_laws.specs.live_model.Standing.{AreOfTwoThreads, JobOut}
use Rattle.world_view_laws.specs.live_model.Jobs.{without}
use Rattle.world_view_laws.specs.posix_types.declared.call.Call.{Call}
use Rattle.world_view_laws.specs.posix_types.declared.call.Who.{Who}
use Rattle.world_view_laws.specs.posix_spec.Scripted.{IsSetUp}
use Rattle.world_view_laws.proofs.in_flight_proofs.CountsCounts.{few_jobs}
use Rattle.world_view_laws.proofs.in_flight_proofs.Taking.{one_taken, other_who}
use Rattle.world_view_laws.specs.Views.{HasNone, next_of, WorldView}
use Rattle.run_laws.specs.Between.{AreNextCalls, HaveOwnCallers}
use Rattle.run_laws.proofs.Places.{at_In, In_at, pairs_at, push_cases}

-- the job of a call that is to come
abbrev pub job_to_come : Who → Call → JobOut
job_to_come who call = record {
  who = who;
  call = call;
  draft = record { count = 0; order = 0; ino = 0; generation = 0; file_block = 0; staging = 0; staging_block = 0; staging_generation = 0; size = 0 };
  blocks = [];
}

module _ (w : WorldView) (next : AreNextCalls w) (callers : HaveOwnCallers w.pending) where
  -- two jobs at two places are of two threads
  two_jobs : (i j : ℕ) (p q : JobOut) → i < j → slice_get w.pending i ≡ Some p → slice_get w.pending j ≡ Some q → AreOfTwoThreads p q
  two_jobs i j p q before at_p at_q =
      let first = next p (In_at w.pending i p at_p) in
      let second = next q (In_at w.pending j q at_q) in
      are_threads w.scripts w.history q.who p.who q.call p.call (other_who p.who q.who (λ same. (let one : i ≡ j = callers i j p q at_p at_q same in omega (arith, one, before)))) second.0 second.1 first.0 first.1

  pub two_threads : AllPairs AreOfTwoThreads w.pending
  two_threads = pairs_at AreOfTwoThreads w.pending two_jobs

  -- the job of a caller is taken out at its place
  pub without_place : (i : ℕ) (p : JobOut) → slice_get w.pending i ≡ Some p → without p.who w.pending ≡ remove w.pending i
  without_place i p at = sym (one_taken p.who w.pending i p two_threads at refl)

  module _ (threads : length w.scripts.threads ≤ 8) where
    counted : (p : JobOut) → In p w.pending → IsCounted p.who
    counted p there = is_counted w.scripts w.history p.who p.call threads (next p there).0

    pub few_out : length w.pending ≤ 9
    few_out = few_jobs w.pending two_threads counted

    -- and one more, where a caller with none has a next call
    module _ (who : Who) (call : Call) (none : HasNone w who) (is_next : next_of w who ≡ Some call) (up : IsSetUp w.scripts w.history who) where
      abbrev more : List JobOut
      more = w.pending ++ job_to_come who call ∷ []

      two_more : (i j : ℕ) (p q : JobOut) → i < j → slice_get more i ≡ Some p → slice_get more j ≡ Some q → AreOfTwoThreads p q
      two_more i j p q before at_p at_q = by (push_cases w.pending i (job_to_come who call) p at_p) (push_cases w.pending j (job_to_come who call) q at_q) where
        with_last : (x : JobOut) → In x w.pending → AreOfTwoThreads x (job_to_come who call)
        with_last x there =
            let first = next x there in
            are_threads w.scripts w.history who x.who call x.call (other_who x.who who (none x there)) is_next up first.0 first.1

        by : (slice_get w.pending i ≡ Some p) ⊎ ((i ≡ length w.pending) × (job_to_come who call ≡ p)) → (slice_get w.pending j ≡ Some q) ⊎ ((j ≡ length w.pending) × (job_to_come who call ≡ q)) → AreOfTwoThreads p q
        by (inl one) (inl two) = two_jobs i j p q before one two
        by (inl one) (inr two) = subst (λ (x : JobOut). AreOfTwoThreads p x) two.1 (with_last p (In_at w.pending i p one))
        by (inr one) (inl two) = absurd (omega (arith, one.0, slice_get_within w.pending j q two, before))
        by (inr one) (inr two) = absurd (omega (arith, one.0, two.0, before))

      counted_more : (p : JobOut) → In p more → IsCounted p.who
      counted_more p there =
          let place = at_In more p there in
          elim (push_cases w.pending place.0 (job_to_come who call) p place.1) [
            | inl was ↦ counted p (In_at w.pending place.0 p was)
            | inr last ↦ subst (λ (x : JobOut). IsCounted x.who) last.1 (is_counted w.scripts w.history who call threads is_next)
          ]

      pub few_with : length w.pending + 1 ≤ 9
      few_with = omega (arith, few_jobs more (pairs_at AreOfTwoThreads more two_more) counted_more, length-append w.pending (job_to_come who call ∷ []))
