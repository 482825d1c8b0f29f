-- The power goes in a call of a World that stood together, or is found off.
use Rattle.std.proofs.Common.{◌≡◌, ◌≢◌, ◌∷◌, [], ℕ, true, List, None, refl, ◌∙◌, sym, subst, inl, inr}
use Rattle.std.specs.Prelude.{map}
use Rattle.in_place.specs.live_model.write_jobs.world_image_laws.Settings.{setting_run}
use Rattle.oplog_entry.specs.pm_model.ImageLaws.{IsImage-words_of}
use Rattle.oplog_entry.specs.pm_model.Images.{words_of}
use Rattle.oplog_entry.specs.pm_model.Words.{Words}
use Rattle.oplog_entry.specs.layout_model.Journal.{IsSound, journaled}
use Rattle.oplog_entry.specs.layout_model.Places.{Geometry}
use Rattle.oplog_entry.specs.layout_model.declared.lines.Draft.{Draft}
use Rattle.in_place.specs.k_split_laws.list_laws.Members.{In}
use Rattle.in_place.proofs.k_split_laws_proofs.Cuts.{left_same}
use Rattle.in_place.specs.k_split_laws.Left.{IsLeftOf}
use Rattle.in_place.specs.k_split_laws.posix_types.declared.call.Mode.{Mode}
use Rattle.in_place.specs.k_split_laws.k_split_model.View.{View}
use Rattle.in_place.specs.k_split_laws.posix_types.declared.item.Item.{Item}
use Rattle.in_place.specs.k_split_laws.posix_tables.Open.{Tables}
use Rattle.in_place.specs.k_split_laws.posix_spec.Run.{run}
use Rattle.in_place.specs.k_split_laws.posix_spec.State.{State}
use Rattle.in_place.specs.live_model.write_jobs.world_image_laws.Changed.{sound_headed}
use Rattle.in_place.specs.live_model.write_jobs.world_image_laws.Back.{IsKeptBack}
use Rattle.in_place.specs.live_model.write_jobs.world_image_laws.InLog.{kept_back_more}
use Rattle.in_place.specs.live_model.write_jobs.world_image_laws.Flights.{promise_in_flight}
use Rattle.in_place.specs.write_plan.eof_laws.log_checkpoint.world_model.Jobs.{unfinished_call, Job, JobStands, live_claims}
use Rattle.in_place.specs.write_plan.eof_laws.log_checkpoint.world_model.Stands.{number}
use Rattle.in_place.specs.live_model.Standing.{AreJobsOf, Kept, JobOut, StandsAt}
use Rattle.write_end.specs.Ends.{begun_by}
use Rattle.write_end.proofs.LosingPending.{stands_of}
use Rattle.write_end.specs.LosingLaws.{IsFoundAtCall, IsFoundLost, IsLostAlike, LosesCall}
use Rattle.write_end.specs.Lost.{IsLostWith}

pub loses_call : LosesCall
loses_call g k t kept n start history last e mode stands spelled left keeps = record {
  jobless = λ posix. absurd (mode posix);
  jobs = stands.jobs;
  jobs_are = stands.jobs_are;
  whole = λ strict. stands.flying.whole ((setting_run start history).mode ∙ strict);
  callers = stands.callers;
  blocks = stands.blocks;
  puts = λ j is. (number stands.numbers j.draft.ino, (stood j is).puts);
  done = kept.claims;
  slot_of = λ ino. None;
  done_in = λ slot d is. is;
  slots_in = λ j slot is none. cc;
  each_claim = λ slot d is. inl is;
  spelled = spelled;
  words = journaled (words_of k.cells);
  numbers = stands.numbers;
  s = run start history;
  count = stands.count;
  world = stands.flying.device.world (words_of k.cells) (IsImage-words_of k.cells);
  lines = record { lent = λ slot j below j_below. left.lent _ ∙ stands.lines.lent slot j below j_below; old = stands.lines.old };
  sound = λ image is. subst (λ (x : Geometry). IsSound x image) (sym stands.geometry) (left.sound image is);
  each_job = λ j is. inr (λ m b i below at word. left.lent i ∙ stands.flying.out j is m b i below at word);
  home = λ i lent. stands.flying.home i (sym (left.lent i) ∙ lent);
  promise = λ back slots image put hold. keeps mode back slots image put;
} where
  stood : (j : Job) → In j stands.jobs → JobStands k.volume (live_claims k.volume kept.claims) (journaled (words_of k.cells)) stands.numbers (run start history) j
  stood j is =
      stands_of k.volume (live_claims k.volume kept.claims) (journaled (words_of k.cells)) stands.numbers (run start history) stands.jobs j
      (stands.flying.device.world (words_of k.cells) (IsImage-words_of k.cells)).valid.out is

pub calls_are : (pending : List JobOut) (jobs : List Job) → AreJobsOf pending jobs → map unfinished_call jobs ≡ map begun_by pending
calls_are [] [] are = refl
calls_are [] (j ∷ jobs) are = absurd are
calls_are (p ∷ pending) [] are = absurd are
calls_are (p ∷ pending) (j ∷ jobs) are = λ i. (are.0 i, are.1 i) ∷ calls_are pending jobs are.3 i

module _ (g : Geometry) (k : View) (t : Tables) (kept : Kept) (n : ℕ) (start : State) (history : List Item) (mode : start.mode ≢ Mode.Posix) (stands : StandsAt g k t kept true n (run start history)) where
  still_left : IsLeftOf g k.cells k.cells
  still_left =
      subst (λ (x : Geometry). IsLeftOf x k.cells k.cells) stands.geometry
      (left_same k.volume.geometry k.cells (λ image is. sound_headed k.volume.geometry image (stands.flying.device.headed image is)))

  still_kept : IsKeptBack k.volume k.cells kept.first kept.claims stands.jobs start history []
  still_kept =
      promise_in_flight k.volume k.cells kept.claims stands.jobs stands.numbers start history stands.count kept.first mode (λ strict. stands.flying.whole ((setting_run start history).mode ∙ strict)) stands.flying.device

pub found_lost : IsFoundLost
found_lost g k t kept n start history mode stands spelled =
    loses_call g k t kept n start history [] k.cells mode stands spelled (still_left g k t kept n start history mode stands) (λ same. still_kept g k t kept n start history mode stands)

pub found_at_call : IsFoundAtCall
found_at_call g k t kept n start history c mode stands spelled =
    loses_call g k t kept n start history (c ∷ []) k.cells mode stands spelled (still_left g k t kept n start history mode stands)
    (λ same.
    kept_back_more k.volume k.cells kept.first kept.claims stands.jobs start history c mode (still_kept g k t kept n start history mode stands))

pub lost_alike : IsLostAlike
lost_alike v d kept then start history last pending claims first lost =
    subst (λ (xs : Words). IsLostWith v d (record then { first = xs }) start history last) (sym first)
    (subst (λ (xs : List (ℕ × Draft)). IsLostWith v d (record then { first = kept.first; claims = xs }) start history last) (sym claims)
    (subst (λ (xs : List JobOut). IsLostWith v d (record then { first = kept.first; claims = kept.claims; pending = xs }) start history last) (sym pending) (record {
      jobless = lost.jobless;
      jobs = lost.jobs;
      jobs_are = lost.jobs_are;
      whole = lost.whole;
      callers = lost.callers;
      blocks = lost.blocks;
      puts = lost.puts;
      done = lost.done;
      slot_of = lost.slot_of;
      done_in = lost.done_in;
      slots_in = lost.slots_in;
      each_claim = lost.each_claim;
      spelled = lost.spelled;
      words = lost.words;
      numbers = lost.numbers;
      s = lost.s;
      count = lost.count;
      world = lost.world;
      lines = lost.lines;
      sound = lost.sound;
      each_job = lost.each_job;
      home = lost.home;
      promise = lost.promise;
    })))
