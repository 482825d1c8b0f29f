-- A job that is out, as a write in flight beside the others.
use Rattle.std.proofs.Common.{◌≡◌, ◌≢◌, ◌⊎◌, ◌<◌, ◌/◌, ◌++◌, ◌∷◌, [], ℕ, suc, Bool, true, false, cond, List, length, Option, Some, None, IsSome, refl, arith, ap, ◌∙◌, sym, subst, inl, inr}
use Rattle.std.specs.Prelude.{AllPairs, find, reverse, slice_index_or}
use Rattle.std.specs.Option.{option_map, option_or}
use Rattle.std.proofs.lemmas.List.{reverse-append}
use Rattle.std.proofs.lemmas.List.Folds.{find-append}
use Rattle.in_place.specs.write_plan.pm_model.ImageLaws.{IsImage-words_of}
use Rattle.in_place.specs.write_plan.pm_model.Images.{words_of}
use Rattle.in_place.specs.write_plan.pm_model.Words.{Words}
use Rattle.layout_model.specs.declared.lines.Draft.{Draft}
use Rattle.layout_model.specs.declared.lines.Kind.TheVariants.{File}
use Rattle.in_place.specs.write_plan.extent_model.Extents.{disk_at}
use Rattle.in_place.specs.live_model.write_jobs.world_image_laws.image_model.Content.{disk_of}
use Rattle.in_place.specs.live_model.write_jobs.world_image_laws.image_model.Volume.{extents, inode, Volume}
use Rattle.file_overlay.specs.declared.runs.Run.{Run}
use Rattle.in_place.specs.write_plan.file_overlay.Runs.{has_block, place_in, staged_at}
use Rattle.in_place.specs.write_plan.file_table.Files.{Files, runs_in}
use Rattle.in_place.specs.live_model.write_jobs.world_image_laws.k_split_model.View.{View}
use Rattle.in_place.specs.write_plan.list_laws.Members.{In}
use Rattle.posix_types.specs.declared.call.Who.{Who}
use Rattle.in_place.specs.write_plan.commute_laws.Frames.{AreThreads}
use Rattle.in_place.specs.write_plan.commute_laws.Flights.{InFlight}
use Rattle.in_place.specs.write_plan.commute_laws.Handles.{same_who-sym}
use Rattle.in_place.specs.write_plan.commute_laws.Needs.{AreAfforded-finished, AreInFlight, AreTwo, IsApart}
use Rattle.in_place.specs.write_plan.commute_laws.Orders.{AreTwoEach}
use Rattle.in_place.specs.write_plan.posix_laws.Views.{AreAfforded}
use Rattle.in_place.specs.write_plan.posix_spec.Run.{after_call}
use Rattle.in_place.specs.write_plan.posix_spec.State.{State}
use Rattle.in_place.specs.live_model.write_jobs.world_model.crash_spec.Sync.{with_bytes}
use Rattle.in_place.specs.live_model.write_jobs.world_write_laws.JobSteps.{Valid-front}
use Rattle.in_place.specs.live_model.write_jobs.world_image_laws.world_model.Beside.{with_bytes-whole}
use Rattle.in_place.specs.live_model.write_jobs.world_image_laws.world_model.JobLaws.{live_file, live_used}
use Rattle.in_place.specs.live_model.write_jobs.world_image_laws.world_model.Jobs.{ApartFrom, IsInFront, Job, JobsStand, JobStands, live_claims, unfinished_call, Valid}
use Rattle.in_place.specs.live_model.write_jobs.world_image_laws.world_model.Promised.{AreWhole}
use Rattle.in_place.specs.live_model.write_jobs.world_image_laws.world_model.Stands.{number, Stands}
use Rattle.in_place.specs.live_model.write_jobs.world_image_laws.world_step_laws.Parts.{FliesWith}
use Rattle.in_place.specs.live_model.write_jobs.world_image_laws.world_step_laws.Steps.{AreInFlight-jobs, begun-flights, flight_of, flights_of}
use Rattle.in_place.specs.live_model.write_jobs.world_image_laws.world_step_laws.Worlds.{IsWorld}
use Rattle.in_place.specs.write_plan.data_route.Reads.{source_by}
use Rattle.in_place.specs.write_plan.file_reads.Reads.{block_of}
use Rattle.in_place.specs.live_model.Overlays.{run_of}
use Rattle.in_place.specs.live_model.Standing.{AreJobsOf, AreOfTwoThreads, JobOut}
use Rattle.in_place.proofs.live_model_proofs.OverlaysOverlays.{overlay_is_log}
use Rattle.in_place.specs.live_model.write_jobs.Jobs.{FilledView}
use Rattle.in_place.specs.Holes.{IsPresent}
use Rattle.write_end.specs.Ends.{HasJob}
use Rattle.write_end.proofs.Ending.{claims, numbers, v, words}
use Rattle.write_end.proofs.EndsPending.{apart_of}

-- ---- of two threads and two files each

turned : (who who2 : Who) → AreThreads who who2 → AreThreads who2 who
turned who who2 two = record {
  other = same_who-sym who who2 ∙ two.other;
  thread = same_who-sym who Who.Setup ∙ two.own;
  own = same_who-sym Who.Setup who2 ∙ two.thread;
}

module _ (v : Volume) (live : List Draft) (f : Words) (numbers : List ℕ) (s : State) (stands : Stands v live f numbers s) where
  nodes_apart : (i j : Job) → JobStands v live f numbers s i → JobStands v live f numbers s j → i.draft.ino ≢ j.draft.ino → number numbers i.draft.ino ≢ number numbers j.draft.ino
  nodes_apart i j one two files same = files (stands.names.one i.draft.ino j.draft.ino (live_used v i.draft one.alive) (live_used v j.draft two.alive) same)

  apart : (p : JobOut) (i : Job) (pending : List JobOut) (jobs : List Job) → i.who ≡ p.who → AreJobsOf pending jobs
      → ((m : ℕ) (d : JobOut) → m < length pending → AreOfTwoThreads p (slice_index_or pending m d))
      → JobStands v live f numbers s i → ApartFrom i jobs → JobsStand v live f numbers s jobs → IsApart (flight_of numbers i) (flights_of numbers jobs)
  apart p i [] [] who are each one away out = tt
  apart p i [] (j ∷ jobs) who are each one away out = absurd are
  apart p i (q ∷ pending) [] who are each one away out = absurd are
  apart p i (q ∷ pending) (j ∷ jobs) who are each one away out = (
    record {
      threads = subst (λ w. AreThreads w i.who) (sym are.0) (subst (AreThreads q.who) (sym who) (each 0 q (omega arith)));
      files = nodes_apart i j one out.0 away.0.files;
    },
    apart p i pending jobs who are.3 (λ m d below. each (suc m) d (omega (arith, below))) one away.1 out.2,
  )

  pub two_each : (pending : List JobOut) (jobs : List Job) → AreJobsOf pending jobs → AllPairs AreOfTwoThreads pending → JobsStand v live f numbers s jobs → AreTwoEach (flights_of numbers jobs)
  two_each [] [] are callers out = tt
  two_each [] (j ∷ jobs) are callers out = absurd are
  two_each (p ∷ pending) [] are callers out = absurd are
  two_each (p ∷ pending) (j ∷ jobs) are callers out = (
    apart p j pending jobs are.0 are.3 (λ m d below. callers 0 (suc m) d (omega arith) (omega (arith, below))) out.0 out.1 out.2,
    two_each pending jobs are.3 (λ a b d lt below. callers (suc a) (suc b) d (omega (arith, lt)) (omega (arith, below))) out.2,
  )

-- any of them may stand first
module _ (numbers : List ℕ) (j : Job) where
  parted : (i : Job) (a b : List Job) → IsApart (flight_of numbers i) (flights_of numbers (a ++ j ∷ b)) → AreTwo (flight_of numbers i) (flight_of numbers j) × IsApart (flight_of numbers i) (flights_of numbers (a ++ b))
  parted i [] b away = away
  parted i (x ∷ a) b away = let rest = parted i a b away.1 in (rest.0, (away.0, rest.1))

  pub two_front : (a b : List Job) → AreTwoEach (flights_of numbers (a ++ j ∷ b)) → AreTwoEach (flight_of numbers j ∷ flights_of numbers (a ++ b))
  two_front [] b two = two
  two_front (i ∷ a) b two =
      let rest = two_front a b two.1 in
      let away = parted i a b two.0 in
      let first : AreTwo (flight_of numbers j) (flight_of numbers i) =
      record { threads = turned j.who i.who away.0.threads; files = λ same. away.0.files (sym same) }
      in
      ((first, rest.0), (away.1, rest.1))

flight_in : (s : State) (ns : List ℕ) (jobs : List Job) (x : Job) → AreInFlight s (flights_of ns jobs) → In x jobs → InFlight s (unfinished_call x) (number ns x.draft.ino) x.whole
flight_in s ns [] x flying is = absurd is
flight_in s ns (y ∷ jobs) x flying (inl same) = subst (λ (z : Job). InFlight s (unfinished_call z) (number ns z.draft.ino) z.whole) same flying.0
flight_in s ns (y ∷ jobs) x flying (inr rest) = flight_in s ns jobs x flying.1 rest

pub whole_own : (a : List Job) (j : Job) (b : List Job) → AreWhole (a ++ j ∷ b) → j.found ≡ j.whole
whole_own [] j b whole = whole.0
whole_own (x ∷ a) j b whole = whole_own a j b whole.1

-- ---- blocks that a file has

found_there : (v : Volume) (o : Option (ℕ × ℕ)) (m : Option ℕ) → IsSome (block_of v (source_by o m)) → IsSome m ⊎ IsSome o
found_there v (Some place) m is = inr refl
found_there v None (Some b) is = inl refl
found_there v None None is = cc

still_staged : (runs : List Run) (r : Run) (block : ℕ) → IsSome (staged_at runs block) → IsSome (staged_at (runs ++ r ∷ []) block)
still_staged runs r block is =
    subst (λ (o : Option Run). IsSome (option_map (place_in block) o)) (sym (ap (find (has_block block)) (reverse-append runs (r ∷ [])) ∙ find-append (has_block block) (r ∷ []) (reverse runs)))
    (by (has_block block r) (find (has_block block) (reverse runs)) is) where
      by : (b : Bool) (o : Option Run) → IsSome (option_map (place_in block) o) → IsSome (option_map (place_in block) (option_or (cond b (Some r) None) o))
      by true o is = refl
      by false o is = is

-- ---- the job

module _ (k : View) (job : FilledView) (has : HasJob k job) (a : List Job) (j : Job) (b : List Job) (jobs_are : has.stands.jobs ≡ a ++ j ∷ b) where
  pub world : IsWorld (v k job has) (claims k job has) (a ++ j ∷ b) (words k job has) (numbers k job has) has.s has.stands.count
  world =
      subst (λ (jobs : List Job). IsWorld (v k job has) (claims k job has) jobs (words k job has) (numbers k job has) has.s has.stands.count) jobs_are
      (has.stands.flying.device.world (words_of k.cells) (IsImage-words_of k.cells))

  pub valid_front : Valid (v k job has) (claims k job has) (j ∷ (a ++ b)) (words k job has) (numbers k job has) has.s
  valid_front = Valid-front (v k job has) (claims k job has) a j b (words k job has) (numbers k job has) has.s world.valid

  pub stood_out : JobStands (v k job has) (live_claims (v k job has) (claims k job has)) (words k job has) (numbers k job has) has.s j
  stood_out = valid_front.out.0

  pub file_is : (inode (v k job has) j.draft.ino).kind ≡ File
  file_is = live_file (v k job has) j.draft stood_out.alive

  -- no other job is of its file
  pub of_others : (x : Job) → In x (a ++ b) → x.draft.ino ≢ j.draft.ino
  of_others x is same = (apart_of j (a ++ b) x valid_front.out.1 is).files (sym same)

  -- IT IS A WRITE IN FLIGHT beside the others.
  pub flies : FliesWith has.s (flight_of (numbers k job has) j) (numbers k job has) (a ++ b)
  flies = record {
    flying = AreInFlight-jobs (v k job has) (live_claims (v k job has) (claims k job has)) (words k job has) (numbers k job has) has.s (j ∷ (a ++ b)) valid_front.stands valid_front.out;
    two = two_front (numbers k job has) j a b
        (two_each (v k job has) (live_claims (v k job has) (claims k job has)) (words k job has) (numbers k job has) has.s valid_front.stands has.kept.pending (a ++ j ∷ b)
        (subst (AreJobsOf has.kept.pending) jobs_are has.stands.jobs_are) has.stands.callers world.valid.out);
    fits = subst (AreAfforded has.s) (sym (begun-flights (numbers k job has) (j ∷ (a ++ b)))) valid_front.room;
    held = valid_front.fits;
  }

  -- the others are in flight after it as before
  pub others_fly : (x : Job) → In x (a ++ b) → InFlight (after_call has.s (unfinished_call j)) (unfinished_call x) (number (numbers k job has) x.draft.ino) x.whole
  others_fly x is =
      flight_in (after_call has.s (unfinished_call j)) (numbers k job has) (a ++ b) x
      (AreAfforded-finished has.s [] (flight_of (numbers k job has) j) (flights_of (numbers k job has) (a ++ b)) flies.flying flies.two.0 flies.fits).0 is

  -- with its whole bytes the state is that after its call
  pub acted_whole : with_bytes (after_call has.s (unfinished_call j)) (number (numbers k job has) j.draft.ino) j.whole ≡ after_call has.s (unfinished_call j)
  acted_whole =
      with_bytes-whole has.s (unfinished_call j) (number (numbers k job has) j.draft.ino) j.whole stood_out.puts
      (valid_front.stands.names.within j.draft.ino (live_used (v k job has) j.draft stood_out.alive))

  -- each byte that is still to be written in place has a block, also once the run of its entry is laid
  pub present_on : (new : Files) (d : Draft) → runs_in new j.draft.ino ≡ runs_in has.kept.files j.draft.ino ++ run_of d ∷ [] → (i : ℕ) → IsInFront j i → IsPresent (v k job has) new j.draft.ino (i / 4096)
  present_on new d laid i front =
      elim (found_there (v k job has) (staged_at (runs_in has.kept.files j.draft.ino) (i / 4096)) (disk_at (extents (v k job has) j.draft.ino) (i / 4096)) (subst IsSome (sym read) (stood_out.placed i front))) [
        | inl mapped ↦ inl mapped
        | inr staged ↦ inr (subst (λ (runs : List Run). IsSome (staged_at runs (i / 4096))) (sym laid) (still_staged (runs_in has.kept.files j.draft.ino) (run_of d) (i / 4096) staged))
      ] where
        read : block_of (v k job has) (source_by (staged_at (runs_in has.kept.files j.draft.ino) (i / 4096)) (disk_at (extents (v k job has) j.draft.ino) (i / 4096))) ≡ disk_of (v k job has) (live_claims (v k job has) (claims k job has)) j.draft.ino (i / 4096)
        read = overlay_is_log (v k job has) (live_claims (v k job has) (claims k job has)) j.draft.ino _ (runs_in has.kept.files j.draft.ino) (i / 4096) valid_front.stands.log (has.stands.flying.overlays j.draft.ino file_is)
