-- Writes in flight go on where a handle of another caller and another file is closed.
use Rattle.std.specs.Prelude.{◌≡◌, ◌≤◌, ◌+◌, ℕ, List, [], ◌∷◌, map, Some, sum_by, refl}
use Rattle.std.proofs.Common.{arith, ◌∙◌, sym, subst}
use Rattle.std.proofs.lemmas.List.Sums.{sum_by-cons}
use Rattle.eof_laws.specs.pm_model.Words.{Words}
use Rattle.layout_model.specs.declared.lines.Draft.{Draft}
use Rattle.eof_laws.specs.image_model.Volume.{Volume}
use Rattle.posix_types.specs.declared.call.Call.{Call}
use Rattle.posix_types.specs.declared.call.Who.{Who}
use Rattle.posix_types.specs.declared.handle.Handle.{Handle}
use Rattle.open_files.specs.posix_tables.declared.open.Description.{Description}
use Rattle.open_files.specs.posix_tables.Open.{closed, opened}
use Rattle.open_files.specs.posix_spec.Run.{Unfinished}
use Rattle.open_files.specs.posix_spec.State.{room, State}
use Rattle.open_files.specs.posix_laws.ViewLaws.{need_of-kept, PutsWhole-kept}
use Rattle.open_files.specs.posix_laws.Views.{AreAfforded, KeepsView, need_of}
use Rattle.open_files.specs.commute_laws.Flights.{InFlight, KeepsView-seen}
use Rattle.open_files.specs.commute_laws.Frames.{KeepsSeen, other_file}
use Rattle.open_files.specs.commute_laws.Handles.{Opens-closed}
use Rattle.open_files.specs.commute_laws.Needs.{AreInFlight, LetsBe}
use Rattle.open_files.specs.crash_spec.Busy.{waits_for}
use Rattle.live_step_laws.specs.world_model.Jobs.{unfinished_call, Job, JobsStand, live_claims, Valid}
use Rattle.live_step_laws.specs.world_model.Stands.{number, Stands}
use Rattle.live_step_laws.specs.world_step_laws.Steps.{flight_of, flights_of, GoOn, HaveSameFiles, InFlight-job, LetsJobsBe}

module _ (s : State) (who : Who) (h : Handle) (d : Description) (known : opened s.tables who h ≡ Some d) where
  -- the state with the handle closed
  abbrev shut : State
  shut = record s { tables = closed s.tables who h }

  -- what a write in flight sees stays
  seen : (numbers : List ℕ) (j : Job) → LetsBe s (who, Call.Close h) (flight_of numbers j) → KeepsSeen s shut j.who (number numbers j.draft.ino)
  unfolding waits_for
  seen numbers j lets =
      let other = other_file s who h (number numbers j.draft.ino) d lets.aside known in
      record { handles = λ h2 key e o same. Opens-closed s.tables j.who who h2 h key e d lets.threads.other lets.threads.thread lets.threads.own known (λ one. other (sym same ∙ one)) o; file = refl; mode = refl }

  view : (numbers : List ℕ) (j : Job) → LetsBe s (who, Call.Close h) (flight_of numbers j) → InFlight s (unfinished_call j) (number numbers j.draft.ino) j.whole → KeepsView s shut j.who j.call
  view numbers j lets flight = KeepsView-seen s shut j.who j.call (number numbers j.draft.ino) j.whole flight.puts (seen numbers j lets)

  parts : (j : Job) (jobs : List Job) → AreAfforded s (map unfinished_call (j ∷ jobs)) → (need_of s j.who j.call ≤ room s) × AreAfforded s (map unfinished_call jobs)
  parts j jobs fits =
      let sum = sum_by-cons (λ (c : Unfinished). need_of s c.0 c.1) (unfinished_call j) (map unfinished_call jobs) in
      (omega (arith, sum, fits), omega (arith, sum, fits))

  module _ (v : Volume) (live : List Draft) (f : Words) (numbers : List ℕ) (stands : Stands v live f numbers s) where
    flying : (jobs : List Job) → JobsStand v live f numbers s jobs → LetsJobsBe s (who, Call.Close h) numbers jobs → AreAfforded s (map unfinished_call jobs) → AreInFlight shut (flights_of numbers jobs)
    flying [] out lets fits = tt
    flying (j ∷ jobs) out lets fits =
        let flight = InFlight-job v live f numbers s j stands out.0 in
        let needs_fit = parts j jobs fits in (
          record { puts = PutsWhole-kept s shut j.who j.call (number numbers j.draft.ino) j.whole flight.puts (view numbers j lets.0 flight) needs_fit.0; file = flight.file; is = flight.is },
          flying jobs out.2 lets.1 needs_fit.1,
        )

    same_needs : (jobs : List Job) → JobsStand v live f numbers s jobs → LetsJobsBe s (who, Call.Close h) numbers jobs
        → sum_by (λ (c : Unfinished). need_of shut c.0 c.1) (map unfinished_call jobs) ≡ sum_by (λ (c : Unfinished). need_of s c.0 c.1) (map unfinished_call jobs)
    same_needs [] out lets = refl
    same_needs (j ∷ jobs) out lets =
        let one = need_of-kept s shut j.who j.call (view numbers j lets.0 (InFlight-job v live f numbers s j stands out.0)) in
        let rest = same_needs jobs out.2 lets.1 in
        sum_by-cons (λ (c : Unfinished). need_of shut c.0 c.1) (unfinished_call j) (map unfinished_call jobs)
        ∙ ((λ i. one i + rest i) ∙ sym (sum_by-cons (λ (c : Unfinished). need_of s c.0 c.1) (unfinished_call j) (map unfinished_call jobs)))

  files : (numbers : List ℕ) (jobs : List Job) → HaveSameFiles s shut numbers jobs
  files numbers [] = tt
  files numbers (j ∷ jobs) = (refl, files numbers jobs)

  pub GoOn-shut : (v : Volume) (claims : List (ℕ × Draft)) (jobs : List Job) (f : Words) (numbers : List ℕ) → Valid v claims jobs f numbers s → LetsJobsBe s (who, Call.Close h) numbers jobs
      → GoOn s (record s { tables = closed s.tables who h }) numbers jobs
  GoOn-shut v claims jobs f numbers valid lets = record {
    flying_on = flying v (live_claims v claims) f numbers valid.stands jobs valid.out lets valid.room;
    files = files numbers jobs;
    fits = valid.fits;
    room = subst (λ n. n ≤ room s) (sym (same_needs v (live_claims v claims) f numbers valid.stands jobs valid.out lets)) valid.room;
  }
