-- A write that has landed, and its front.
use Rattle.std.proofs.Common.{◌≡◌, ◌⊎◌, ◌≤◌, ◌<◌, ◌+◌, ◌-◌, ◌/◌, ℕ, true, false, cond, List, length, Some, arith, ap, ◌∙◌, sym, subst, inl, inr}
use Rattle.std.specs.Prelude.{max, nat_lt, slice_index}
use Rattle.std.proofs.lemmas.Bool.{cases_lt}
use Rattle.std.proofs.lemmas.Bool.Decides.{nat_tests}
use Rattle.std.proofs.lemmas.Grind.{same_number_lists}
use Rattle.std.proofs.lemmas.List.{get_or-take, length-take}
use Rattle.layout_model.specs.declared.lines.Draft.{Draft}
use Rattle.layout_model.specs.Entries.{is_draft}
use Rattle.layout_model.specs.block_counts.declared.TheConstants.{LONGEST_FILE, LONGEST_WRITE}
use Rattle.in_place.specs.live_model.write_jobs.world_image_laws.image_model.Volume.{inode}
use Rattle.in_place.specs.write_plan.file_table.Files.{Files}
use Rattle.in_place.specs.live_model.write_jobs.world_image_laws.k_split_model.View.{View}
use Rattle.in_place.specs.k_split_laws.k_journal.declared.outcomes.Commit.{Commit}
use Rattle.in_place.specs.write_plan.list_laws.Members.{In}
use Rattle.posix_types.specs.declared.call.Call.{Call}
use Rattle.posix_types.specs.declared.call.Mode.{Mode}
use Rattle.posix_types.specs.declared.call.Who.{Who}
use Rattle.posix_types.specs.declared.handle.Handle.{Handle}
use Rattle.in_place.specs.write_plan.posix_tables.Bytes.{overwritten}
use Rattle.in_place.specs.write_plan.posix_tables.Nodes.{bytes_of, node_at}
use Rattle.in_place.specs.write_plan.posix_tables.Open.{Tables}
use Rattle.in_place.specs.write_plan.posix_laws.FitsLaws.{length-overwritten}
use Rattle.in_place.specs.write_plan.posix_laws.Puts.{put_bytes, PutsWhole}
use Rattle.in_place.specs.write_plan.posix_laws.RowLaws.{put_at-Some}
use Rattle.in_place.specs.write_plan.posix_spec.FileRows.{write_start}
use Rattle.in_place.specs.write_plan.posix_spec.Put.{Put, put_at, put_by}
use Rattle.in_place.specs.write_plan.posix_spec.Run.{after_call}
use Rattle.in_place.specs.write_plan.posix_spec.State.{State}
use Rattle.in_place.specs.live_model.write_jobs.world_model.crash_spec.Sync.{with_bytes}
use Rattle.in_place.specs.live_model.write_jobs.world_image_laws.world_model.JobLaws.{acted}
use Rattle.in_place.specs.live_model.write_jobs.world_image_laws.world_model.Jobs.{front_from, IsInFront, Job, JobStands, live_claims, put_bytes_of, unfinished_call}
use Rattle.in_place.specs.live_model.write_jobs.world_image_laws.world_model.Stands.{number}
use Rattle.in_place.specs.live_model.write_jobs.world_image_laws.world_step_laws.Parts.{FliesWith, part_of}
use Rattle.in_place.specs.live_model.write_jobs.world_image_laws.world_step_laws.Steps.{flight_of}
use Rattle.in_place.specs.live_model.Standing.{StandsAt}
use Rattle.in_place.specs.live_model.write_jobs.Jobs.{FilledView}
use Rattle.in_place.specs.Holes.{IsPresent}
use Rattle.in_place.specs.Placing.{CanPlace, PlacesOn, Placing}
use Rattle.write_end.specs.Ends.{call_out, finished, HasJob, LeavesFinished}
use Rattle.write_end.specs.Landing.{front_bytes, front_end, front_start, FrontFinishes, HasFront, HasLanded, IsFrontAnswer, LandedIsFinished, LandedMayPlace}
use Rattle.write_end.proofs.Asked.{ranges}
use Rattle.write_end.proofs.Ending.{claims, numbers, v, words}
use Rattle.write_end.proofs.Fliers.{acted_whole, file_is, flies, of_others, stood_out}
use Rattle.posix_laws.proofs.ByteLaws.{index-overwritten}

-- ---- what a write puts

-- it is no longer than a write may be, and its file no shorter than it
record IsShort (bytes whole : List ℕ) : Type 0 where
  short : length bytes ≤ LONGEST_WRITE
  within : length bytes ≤ length whole

short_put : (s : State) (who : Who) (h : Handle) (start : ℕ) (x whole : List ℕ) (put : Put) → put_at s who h start x ≡ Some put → put_bytes s put ≡ whole → IsShort x whole
short_put s who h start x whole put is whole_is =
    let says = put_at-Some s who h start x put is in
    let bytes : length put.bytes ≡ length x = ap (λ (p : Put). length p.bytes) (sym says.1) in
    let long : length whole ≡ max (length (bytes_of (node_at s.nodes put.node))) (put.place + length put.bytes) =
    ap length (sym whole_is) ∙ length-overwritten (bytes_of (node_at s.nodes put.node)) put.place put.bytes
    in
    record { short = says.0.short; within = omega (arith, bytes, long) }

puts_short : (s : State) (who : Who) (call : Call) (node : ℕ) (whole : List ℕ) → PutsWhole s who call node whole → IsShort (put_bytes_of call) whole
unfolding put_by
puts_short s who (Call.Write h x) node whole puts = short_put s who h (write_start s who h) x whole puts.put puts.is puts.whole_is
puts_short s who (Call.Pwrite h place x) node whole puts = short_put s who h place x whole puts.put puts.is puts.whole_is
puts_short s who call node whole puts = let never = puts.is in cc

-- ---- the front of a write

-- it lies below the end of the file, within what the call puts
pub record IsFront (d : Draft) (call : Call) : Type 0 where
  pub below : front_start d call + length (front_bytes d call) ≤ d.size
  pub fits : front_start d call + length (front_bytes d call) ≤ LONGEST_FILE
  pub short : length (front_bytes d call) ≤ length (put_bytes_of call)
  pub most : length (front_bytes d call) ≤ front_end d - front_start d call

front_is : (d : Draft) (call : Call) → is_draft d ≡ true → length (put_bytes_of call) ≤ d.size → IsFront d call
front_is d call fields within =
    let fits = ranges d fields in
    let size = fits.size in
    let many = length-take (front_end d - front_start d call) (put_bytes_of call) in
    record { below = omega (arith, within, many); fits = omega (arith, within, many, size); short = omega (arith, many); most = omega (arith, many) }

-- ---- once it landed

module _ (k l : View) (job : FilledView) (has : HasJob k job) (slot : ℕ) (u : Tables) (files : Files) (landed : HasLanded k job has slot l u files) where
  abbrev j : Job
  j = landed.j

  abbrev node : ℕ
  node = number has.stands.numbers j.draft.ino

  pub stood : JobStands (v k job has) (live_claims (v k job has) (claims k job has)) (words k job has) (numbers k job has) has.s j
  stood = stood_out k job has landed.a j landed.b landed.jobs_are

  begun_is : unfinished_call j ≡ call_out k job has
  begun_is = λ i. (landed.who i, landed.call i)

  -- in the state after its call they stand together, where the file has the whole bytes
  in_state : (m : View) (x : State) → x ≡ after_call has.s (unfinished_call j)
      → ((now : StandsAt has.g m u (finished has.kept slot has.p files) true (has.n + 1) x) × (now.numbers ≡ has.stands.numbers))
      → (now : StandsAt has.g m u (finished has.kept slot has.p files) true (has.n + 1) (after_call has.s (call_out k job has))) × (now.numbers ≡ has.stands.numbers)
  in_state m x is stands =
      subst (λ (y : State). (now : StandsAt has.g m u (finished has.kept slot has.p files) true (has.n + 1) y) × (now.numbers ≡ has.stands.numbers)) (is ∙ ap (after_call has.s) begun_is) stands

  whole_is : (bytes : List ℕ) → bytes ≡ j.whole → with_bytes (after_call has.s (unfinished_call j)) node bytes ≡ after_call has.s (unfinished_call j)
  whole_is bytes same = ap (with_bytes (after_call has.s (unfinished_call j)) node) same ∙ acted_whole k job has landed.a j landed.b landed.jobs_are

  finished_so : has.s.mode ≡ Mode.Strict → LeavesFinished k job has slot l u files
  finished_so strict =
      let now = in_state l (acted has.stands.numbers has.s j) (whole_is j.found (landed.whole strict)) (landed.stands, landed.numbers) in
      record { stands = now.0; numbers = now.1; words = landed.words }

  short : IsShort (put_bytes_of j.call) j.whole
  short = puts_short has.s j.who j.call node j.whole stood.puts

  size_is : j.draft.size ≡ length j.whole
  size_is = stood.size ∙ stood.part.size

  abbrev at : ℕ
  at = front_start j.draft j.call

  abbrev bytes : List ℕ
  bytes = front_bytes j.draft j.call

  -- the front as the entry and the call have it
  pub front : IsFront j.draft j.call
  front = front_is j.draft j.call stood.draft (let within = short.within in omega (arith, within, size_is))

  from_is : front_from j ≡ front_start j.draft j.call
  from_is = ap (λ n. n - length (put_bytes_of j.call)) (sym size_is)

  in_front : (i : ℕ) → i < length (front_bytes j.draft j.call) → IsInFront j (front_start j.draft j.call + i)
  in_front i below = let most = front.most in (omega (arith, from_is), omega (arith, most, below))

  pub puts_there : (i : ℕ) → i < length (front_bytes j.draft j.call) → slice_index j.whole (front_start j.draft j.call + i) ≡ slice_index (front_bytes j.draft j.call) i
  puts_there i below =
      let most = front.most in
      let at : front_start j.draft j.call + i - front_from j ≡ i = omega (arith, from_is) in
      landed.parts.front (front_start j.draft j.call + i) (in_front i below)
      ∙ ap (slice_index (put_bytes_of j.call)) at
      ∙ sym (get_or-take (front_end j.draft - front_start j.draft j.call) (put_bytes_of j.call) i 0 (omega (arith, most, below)))

  present_there : (i : ℕ) → front_start j.draft j.call ≤ i → i < front_start j.draft j.call + length (front_bytes j.draft j.call) → IsPresent l.volume files j.draft.ino (i / 4096)
  present_there i from below = let most = front.most in landed.present i (omega (arith, from, from_is), omega (arith, from, most, below))

  abbrev pub placing : has.s.mode ≡ Mode.Sync → Placing l u files j.draft.ino j.found
  placing sync = record {
    g = has.g;
    kept = finished has.kept slot has.p files;
    n = has.n + 1;
    s = has.s;
    sync = sync;
    f = flight_of has.stands.numbers j;
    stands = landed.stands;
    file = ap (λ (w : View). (inode w.volume j.draft.ino).kind) landed.same ∙ file_is k job has landed.a j landed.b landed.jobs_are;
    node = ap (λ ns. number ns j.draft.ino) (sym landed.numbers);
    others = λ x is. of_others k job has landed.a j landed.b landed.jobs_are x (subst (In x) landed.rest is);
    flies = subst (λ ns. FliesWith has.s (flight_of has.stands.numbers j) ns landed.stands.jobs) (sym landed.numbers)
        (subst (FliesWith has.s (flight_of has.stands.numbers j) has.stands.numbers) (sym landed.rest) (flies k job has landed.a j landed.b landed.jobs_are));
    part = stood.part;
  }

  pub inside : front_start j.draft j.call + length (front_bytes j.draft j.call) ≤ length j.found
  inside = let below = front.below in omega (arith, below, stood.size)

  may_place : has.s.mode ≡ Mode.Sync → CanPlace l files j.draft.ino (front_start j.draft j.call) (front_bytes j.draft j.call)
  may_place sync = record {
    t = u;
    now = j.found;
    placing = placing sync;
    short = (let one = short.short in let two = front.short in omega (arith, one, two));
    fits = front.fits;
    within = inside;
    puts = puts_there;
    present = present_there;
  }

  -- ---- with the front written

  -- the bytes of it laid over what was found are the whole
  filled : HasFront j.draft j.call → overwritten j.found (front_start j.draft j.call) (front_bytes j.draft j.call) ≡ j.whole
  filled has_front = same_number_lists (overwritten j.found at bytes) j.whole (long ∙ stood.part.size) each where
    long : length (overwritten j.found at bytes) ≡ length j.found
    long = let size = length-overwritten j.found at bytes in omega (arith, size, inside)

    below_is : (i n : ℕ) → i < n → nat_lt i n ≡ true
    below_is i n low = grind (arith, nat_tests, low)

    not_below : (i n : ℕ) → n ≤ i → nat_lt i n ≡ false
    not_below i n high = grind (arith, nat_tests, high)

    -- outside the front it was found already
    beside : (i : ℕ) → i < length j.whole → (i < at) ⊎ (at + length bytes ≤ i) → slice_index j.found i ≡ slice_index j.whole i
    beside i below out = landed.parts.rest i (λ there.
        let many = length-take (front_end j.draft - at) (put_bytes_of j.call) in
        let least = short.within in
        elim out [ inl low ↦ omega (arith, low, there.0, from_is) | inr past ↦ omega (arith, past, there.1, many, below, size_is, least) ])

    each : (i : ℕ) → i < length (overwritten j.found at bytes) → slice_index (overwritten j.found at bytes) i ≡ slice_index j.whole i
    each i below = elim (cases_lt i at) [
      | inl low ↦
          index-overwritten j.found at bytes i
          ∙ (λ k. cond (below_is i at low k) (slice_index j.found i) (cond (nat_lt i (at + length bytes)) (slice_index bytes (i - at)) (slice_index j.found i)))
          ∙ beside i (omega (arith, below, long, stood.part.size)) (inl low)
      | inr from ↦ elim (cases_lt i (at + length bytes)) [
        | inl within ↦
            let place : at + (i - at) ≡ i = omega (arith, from) in
            index-overwritten j.found at bytes i
            ∙ (λ k. cond (not_below i at from k) (slice_index j.found i) (cond (below_is i (at + length bytes) within k) (slice_index bytes (i - at)) (slice_index j.found i)))
            ∙ sym (puts_there (i - at) (omega (arith, from, within)))
            ∙ ap (slice_index j.whole) place
        | inr past ↦
            index-overwritten j.found at bytes i
            ∙ (λ k. cond (not_below i at from k) (slice_index j.found i) (cond (not_below i (at + length bytes) past k) (slice_index bytes (i - at)) (slice_index j.found i)))
            ∙ beside i (omega (arith, below, long, stood.part.size)) (inr past)
      ]
    ]

  -- with no front the whole was found
  found_whole : (HasFront j.draft j.call → ⊥) → j.found ≡ j.whole
  found_whole none = same_number_lists j.found j.whole stood.part.size (λ i below. landed.parts.rest i (λ there. none (let from = there.0 in let to = there.1 in omega (arith, from, to, from_is))))

  fronts_finish : (m : View) → has.s.mode ≡ Mode.Sync → IsFrontAnswer l m files j.draft j.call Commit.Done
      → (now : StandsAt has.g m u (finished has.kept slot has.p files) true (has.n + 1) (after_call has.s (call_out k job has))) × (now.numbers ≡ has.stands.numbers)
  fronts_finish m sync done = elim (cases_lt (front_start j.draft j.call) (front_end j.draft)) [
    | inl front_there ↦
        let on : PlacesOn l u files j.draft.ino j.found (placing sync) m (overwritten j.found (front_start j.draft j.call) (front_bytes j.draft j.call)) =
        (done.0 front_there).goes_on u j.found (placing sync) inside puts_there
        in
        in_state m (part_of has.s (flight_of has.stands.numbers j) (overwritten j.found (front_start j.draft j.call) (front_bytes j.draft j.call)))
        (whole_is (overwritten j.found (front_start j.draft j.call) (front_bytes j.draft j.call)) (filled front_there)) (on.stands, on.numbers_are ∙ landed.numbers)
    | inr none ↦
        let no_front : HasFront j.draft j.call → ⊥ = λ is. omega (arith, is, none) in
        subst (λ (w : View). (now : StandsAt has.g w u (finished has.kept slot has.p files) true (has.n + 1) (after_call has.s (call_out k job has))) × (now.numbers ≡ has.stands.numbers)) (sym (done.1 no_front))
        (in_state l (acted has.stands.numbers has.s j) (whole_is j.found (found_whole no_front)) (landed.stands, landed.numbers))
  ]

pub landed_is_finished : LandedIsFinished
landed_is_finished k l job has slot u files strict landed = finished_so k l job has slot u files landed strict

pub landed_may_place : LandedMayPlace
landed_may_place k l job has slot u files sync landed =
    subst (λ (c : Call). CanPlace l files has.p.draft.ino (front_start has.p.draft c) (front_bytes has.p.draft c)) landed.call
    (subst (λ (d : Draft). CanPlace l files d.ino (front_start d landed.j.call) (front_bytes d landed.j.call)) landed.draft (may_place k l job has slot u files landed sync))

pub front_finishes : FrontFinishes
front_finishes k m l job has slot u files sync landed done =
    fronts_finish k m job has slot u files landed l sync
    (subst (λ (d : Draft). IsFrontAnswer m l files d landed.j.call Commit.Done) (sym landed.draft)
    (subst (λ (c : Call). IsFrontAnswer m l files has.p.draft c Commit.Done) (sym landed.call) done))
