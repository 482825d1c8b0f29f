-- The job stands, and the World stands together with it.
use Rattle.std.specs.Prelude.{◌≡◌, ◌⊎◌, ◌≤◌, ◌<◌, ◌+◌, ◌-◌, ◌*◌, ◌/◌, ℕ, true, false, Contains, List, [], ◌∷◌, drop, length, max, Option, Some, IsSome, slice_index, refl}
use Rattle.std.proofs.Common.{arith, ap, ◌∙◌, sym, subst, inl, inr}
use Rattle.std.proofs.Math.ListN.{get_or-map}
use Rattle.std.proofs.lemmas.Bool.{cases_lt}
use Rattle.std.proofs.lemmas.Bool.Decides.{nat_tests}
use Rattle.std.proofs.lemmas.List.{get_or_past, length-drop, length-map}
use Rattle.std.proofs.lemmas.Option.{same_Some}
use Rattle.posix_types.specs.declared.call.Call.{Call}
use Rattle.posix_types.specs.declared.call.Mode.{Mode}
use Rattle.write_jobs.specs.pm_model.ImageLaws.{IsImage-words_of}
use Rattle.write_jobs.specs.pm_model.Images.{IsImage, words_of}
use Rattle.write_jobs.specs.pm_model.Parts.{Part}
use Rattle.write_jobs.specs.pm_model.Words.{Words}
use Rattle.write_plan.specs.crash_spec.Sync.{IsPartOf}
use Rattle.write_jobs.specs.layout_model.Journal.{journaled}
use Rattle.write_jobs.specs.layout_model.declared.lines.Draft.{Draft}
use Rattle.write_jobs.specs.layout_model.Entries.{is_draft}
use Rattle.write_jobs.specs.layout_model.EntryLaws.{FitsDraft}
use Rattle.write_jobs.specs.image_model.Content.{byte_in, disk_of}
use Rattle.write_jobs.specs.image_model.Rules.{AreApart, HasStagingBlocks}
use Rattle.write_jobs.specs.image_model.Volume.{extents, inode, Volume}
use Rattle.write_jobs.specs.extent_model.Extents.{disk_at, is_within}
use Rattle.live_step_laws.specs.file_reads.Reads.{block_in}
use Rattle.live_step_laws.specs.file_table.Files.{Files, runs_in, size_in}
use Rattle.live_step_laws.specs.BeginsLaws.{MayBegin, StandsBegun, with_job}
use Rattle.write_jobs.specs.Blocks.{SpellWhole}
use Rattle.write_jobs.specs.k_split_model.View.{View}
use Rattle.write_jobs.specs.k_split.Order.{IsInOrder}
use Rattle.write_plan.specs.list_laws.Members.{In}
use Rattle.live_step_laws.proofs.live_model_proofs.OverlaysOverlays.{overlay_is_log}
use Rattle.posix_types.specs.declared.call.Who.{Who}
use Rattle.posix_tables.specs.Bytes.{overwritten}
use Rattle.posix_tables.specs.Nodes.{bytes_of, node_at}
use Rattle.posix_laws.specs.FitsLaws.{length-overwritten}
use Rattle.posix_laws.specs.Puts.{PutsWhole}
use Rattle.posix_laws.specs.RowLaws.{put_at-Some}
use Rattle.posix_laws.specs.posix_spec.FileRows.{write_start}
use Rattle.posix_laws.specs.posix_spec.Put.{Put, put_by}
use Rattle.posix_laws.specs.posix_spec.State.{State}
use Rattle.live_step_laws.specs.staging_files.declared.runs.StageRun.{StageRun}
use Rattle.write_jobs.specs.world_model.Jobs.{AreApartJobs, front_from, IsInFront, Job, JobsStand, JobStands, put_bytes_of, Valid}
use Rattle.write_jobs.specs.world_model.Stands.{FileStands, is_used, number}
use Rattle.live_step_laws.specs.live_model.Standing.{AreJobsOf, HasItsBlocks, JobOut, reserved_run, StandsAt}
use Rattle.live_step_laws.specs.live_model.Jobs.{SpellCall}
use Rattle.write_jobs.specs.Loans.{AreLentBy, AreLoansOf}
use Rattle.write_plan.specs.declared.asks.asking.Target.{Target}
use Rattle.write_plan.specs.Drafts.{DraftsAreNext, IsNextEntry}
use Rattle.write_plan.specs.eof_laws.block_io.Overwrites.{blocks_reached}
use Rattle.write_plan.proofs.Numbers.{file_node}
use Rattle.write_jobs.specs.Contents.{SpellBytes}
use Rattle.write_jobs.specs.Jobs.{blocks_of}
use Rattle.write_plan.specs.Words.{staged_in, StagesTheFile}
use Rattle.write_begin.specs.Stages.{IsStaged, pending_of, Ready, with_parts}
use Rattle.write_begin.proofs.Making.{count_is, draft, few, kept_is, live, next, staging_file}
use Rattle.write_begin.proofs.Numbers.{apart_runs, before_write, beside_write, part_beside, part_length, same_beside, written_there}
use Rattle.in_place.proofs.Present.{present_is_found}

some_blocks : (d : Draft) → is_draft d ≡ true → 1 ≤ d.count
some_blocks d is = grind (arith, nat_tests)

below_from : (first count b : ℕ) → is_within first count b ≡ true → (first ≤ b) × (b < first + count)
below_from first count b is = (grind (arith, nat_tests, is), grind (arith, nat_tests, is))

within_from : (first count i : ℕ) → i < count → is_within first count (first + i) ≡ true
within_from first count i below = grind (arith, nat_tests)

-- what is kept of a job that is out
pending_of_job : (pending : List JobOut) (jobs : List Job) → AreJobsOf pending jobs → (i : Job) → In i jobs → (p : JobOut) × In p pending × (i.draft ≡ p.draft)
pending_of_job [] [] are i is = absurd is
pending_of_job [] (j ∷ jobs) are i is = absurd are
pending_of_job (p ∷ pending) [] are i is = absurd is
pending_of_job (p ∷ pending) (j ∷ jobs) are i (inl same) = (p, inl refl, sym (ap (λ (y : Job). y.draft) same) ∙ are.2)
pending_of_job (p ∷ pending) (j ∷ jobs) are i (inr behind) = let rest = pending_of_job pending jobs are.3 i behind in (rest.0, inr rest.1, rest.2)

job_stands : (v : Volume) (live : List Draft) (f : Words) (numbers : List ℕ) (s : State) (jobs : List Job) (j : Job) → JobsStand v live f numbers s jobs → In j jobs → JobStands v live f numbers s j
job_stands v es f numbers s [] j out is = absurd is
job_stands v es f numbers s (i ∷ jobs) j out (inl same) = subst (JobStands v es f numbers s) same out.0
job_stands v es f numbers s (i ∷ jobs) j out (inr behind) = job_stands v es f numbers s jobs j out.2 behind

-- the bytes of a call are those that it puts
put_bytes : (s : State) (who : Who) (call : Call) (put : Put) → put_by s who call ≡ Some put → put_bytes_of call ≡ put.bytes
unfolding put_by
put_bytes s who (Call.Write h x) put is = ap (λ (q : Put). q.bytes) (put_at-Some s who h (write_start s who h) x put is).1
put_bytes s who (Call.Pwrite h start x) put is = ap (λ (q : Put). q.bytes) (put_at-Some s who h start x put is).1
put_bytes s who call put is = let never = is in cc

module _ (k : View) (files : Files) (who : Who) (target : Target) (x : List ℕ) (run : StageRun) (ready : Ready k files who target x run) where
  abbrev d : Draft
  d = draft k files who target x run ready

  abbrev alive : List Draft
  alive = live k files who target x run ready

  abbrev node : ℕ
  node = number ready.stands.numbers target.ino

  abbrev old : List ℕ
  old = bytes_of (node_at ready.s.nodes node)

  -- where the write begins of which it is a part, and its bytes
  abbrev place : ℕ
  place = ready.puts.put.place

  abbrev bytes : List ℕ
  bytes = ready.puts.put.bytes

  -- the whole bytes, and what is found of them: those of the part
  abbrev whole : List ℕ
  whole = overwritten old place bytes

  abbrev found : List ℕ
  found = overwritten old target.start x

  abbrev job : Job
  job = record { who = who; call = ready.call; draft = d; whole = whole; found = found }

  valid_at : (image : Words) → IsImage k.cells image → Valid k.volume ready.kept.claims ready.stands.jobs (journaled image) ready.stands.numbers ready.s
  valid_at image is = (ready.stands.flying.device.world image is).valid

  file_at : (image : Words) → IsImage k.cells image → FileStands k.volume alive (journaled image) target.ino old
  file_at image is =
      file_node k.volume alive (journaled image) target.ino (inode k.volume target.ino).kind (node_at ready.s.nodes node) ready.file ((valid_at image is).stands.nodes.each target.ino (ap is_used ready.file))

  size_old : length old ≡ target.size
  size_old =
      let of_file = (file_at (words_of k.cells) (IsImage-words_of k.cells)).size in
      let of_table = ready.stands.sizes.files target.ino ready.file in
      let same = ready.size_is in
      omega (arith, of_file, of_table, same)

  size_found : d.size ≡ length found
  size_found = ap (λ n. max n (target.start + length x)) (sym size_old) ∙ sym (length-overwritten old target.start x)

  -- the part begins within the write,
  begins_within : target.start ≤ place + length bytes
  begins_within =
      let some = ready.has_run.some in
      let long = ap length ready.puts.bytes in
      let after = ready.puts.place in
      omega (arith, some, long, after, length-drop (target.start - place) bytes)

  same_bytes : found ≡ overwritten old target.start (drop (target.start - place) bytes)
  same_bytes = ap (overwritten old target.start) ready.puts.bytes

  -- what is found has the length of the whole, and is as the whole but in front of the part
  same_length : length found ≡ length whole
  same_length = ap length same_bytes ∙ part_length old bytes place target.start ready.puts.place begins_within

  beside_front : (i : ℕ) → (i < place) ⊎ (target.start ≤ i) → slice_index found i ≡ slice_index whole i
  beside_front i is = ap (λ (xs : List ℕ). slice_index xs i) same_bytes ∙ part_beside old bytes place target.start ready.puts.place begins_within i is

  -- ---- in front of the part

  bytes_are : put_bytes_of ready.call ≡ bytes
  bytes_are = put_bytes ready.s who ready.call ready.puts.put ready.puts.is

  long_whole : length whole ≡ max (length old) (place + length bytes)
  long_whole = length-overwritten old place bytes

  front_is : (i : ℕ) → IsInFront job i → (place ≤ i) × (i < target.start)
  front_is i front =
      let long = long_whole in
      let many = ap length bytes_are in
      let low = front.0 in
      let high = front.1 in
      (omega (arith, long, many, low), omega (arith, high))

  -- some bytes are, so the file ends within the write
  front_begins : place < target.start → front_from job ≡ place
  front_begins some =
      let long = long_whole in
      let many = ap length bytes_are in
      let ends = (ready.puts.front some).2 in
      omega (arith, long, many, size_old, ends)

  in_front : (i : ℕ) → place ≤ i → i < target.start → IsInFront job i
  in_front i high low =
      let some : place < target.start = omega (arith, high, low) in
      let begins = front_begins some in
      let whole_blocks = (ready.puts.front some).1 in
      (omega (arith, begins, high), omega (arith, low, whole_blocks))

  front_below : (i : ℕ) → place ≤ i → i < target.start → i < length old
  front_below i high low =
      let below = (ready.puts.front (omega (arith, high, low))).0 in
      omega (arith, below, low, size_old)

  -- a byte that is not in front lies before the write, or from the part on
  not_in_front : (i : ℕ) → ¬ IsInFront job i → (i < place) ⊎ (target.start ≤ i)
  not_in_front i out = elim (cases_lt i place) [
    | inl before ↦ inl before
    | inr high ↦ elim (cases_lt i target.start) [ inl low ↦ absurd (out (in_front i high low)) | inr past ↦ inr past ]
  ]

  -- and so does each byte of its blocks
  from_block : (i : ℕ) → target.start / 4096 ≤ i / 4096 → (i < place) ⊎ (target.start ≤ i)
  from_block i from = elim (cases_lt i place) [
    | inl before ↦ inl before
    | inr high ↦ elim (cases_lt i target.start) [
      | inl low ↦ (let whole_blocks = (ready.puts.front (omega (arith, high, low))).1 in absurd (omega (arith, low, from, whole_blocks)))
      | inr past ↦ inr past
    ]
  ]

  front_bytes : (i : ℕ) → IsInFront job i → slice_index whole i ≡ slice_index (put_bytes_of ready.call) (i - front_from job)
  front_bytes i front =
      let side = front_is i front in
      let begins = front_begins (omega (arith, side.0, side.1)) in
      written_there old bytes place i side.0 (omega (arith, side.1, begins_within))
      ∙ (ap (λ n. slice_index bytes (i - n)) (sym begins) ∙ ap (λ (xs : List ℕ). slice_index xs (i - front_from job)) (sym bytes_are))

  block_by_log : (image : Words) → IsImage k.cells image → (block : ℕ) → block_in k.volume (runs_in files target.ino) target.ino block ≡ disk_of k.volume alive target.ino block
  block_by_log image is block =
      overlay_is_log k.volume alive target.ino (size_in files target.ino) (runs_in files target.ino) block (valid_at image is).stands.log (ready.stands.flying.overlays target.ino ready.file)

  -- Outside its blocks the file has already what it has afterwards.
  rest : (image : Words) → IsImage k.cells image → (i : ℕ) → i < length found → is_within d.file_block d.count (i / 4096) ≡ false → byte_in (journaled image) (disk_of k.volume alive target.ino (i / 4096)) i ≡ slice_index found i
  rest image is i low outside = elim (cases_lt i (length old)) [
    | inl there ↦ (file_at image is).each i there ∙ sym (same_beside old x target.start i beside)
    | inr past ↦ (
        let early = before_write target.start (length x) i ready.has_run.some out (first past) in
        sym (ap (λ o. byte_in (journaled image) o i) (block_by_log image is (i / 4096)))
        ∙ (ready.zero image is i (omega (arith, past, size_old)) early ∙ sym (same_beside old x target.start i beside ∙ get_or_past old i 0 past)))
  ] where
    out : is_within (target.start / 4096) (blocks_reached target.start (length x)) (i / 4096) ≡ false
    out = subst (λ n. is_within (target.start / 4096) n (i / 4096) ≡ false) (count_is k files who target x run ready) outside

    beside : (i < target.start) ⊎ (target.start + length x ≤ i)
    beside = beside_write target.start (length x) i ready.has_run.some out

    first : length old ≤ i → i < target.start
    first past = elim beside [
      | inl early ↦ early
      | inr late ↦ absurd (let size = length-overwritten old target.start x in omega (arith, size, low, past, late))
    ]

  -- each byte in front has a block
  front_placed : (i : ℕ) → IsInFront job i → IsSome (disk_of k.volume alive target.ino (i / 4096))
  front_placed i front =
      let side = front_is i front in
      (present_is_found ready.g k ready.t (with_parts ready.kept ready.staging files) true ready.n ready.s target.ino (i / 4096) ready.stands ready.file).0 (ready.present i side.0 side.1)

  -- what is found is a part of the whole,
  is_part : IsPartOf old whole found
  is_part = record { size = same_length; each = each } where
    each : (i : ℕ) → i < length found → (slice_index found i ≡ slice_index whole i) ⊎ ((i < length old) × (slice_index found i ≡ slice_index old i))
    each i below = elim (cases_lt i target.start) [
      | inr past ↦ inl (beside_front i (inr past))
      | inl low ↦ elim (cases_lt i place) [
        | inl before ↦ inl (beside_front i (inl before))
        | inr high ↦ inr (front_below i high low, same_beside old x target.start i (inl low))
      ]
    ]

  -- and in strict mode the whole
  strict_whole : ready.s.mode ≡ Mode.Strict → found ≡ whole
  strict_whole strict =
      let same = ready.puts.strict strict in
      (λ i. overwritten old (sym same i) ((ready.puts.bytes ∙ ap (λ n. drop n bytes) {x = target.start - place} {y = 0} (omega (arith, same))) i))

  puts : PutsWhole ready.s who ready.call node whole
  puts = record {
    put = ready.puts.put;
    is = ready.puts.is;
    node_is = ready.puts.node_is;
    whole_is = ap (λ n. overwritten (bytes_of (node_at ready.s.nodes n)) place bytes) ready.puts.node_is;
  }

  apart_of : (e : Draft) → 1 ≤ e.count → Contains ready.old (reserved_run e) → AreApart e d
  apart_of e some out same = apart_runs (reserved_run e) run (ready.apart (reserved_run e) out) some (few k files who target x run ready).0 same

  staged : HasStagingBlocks k.volume d
  staged n below =
      let home = ready.there (run.block + n) (within_from run.block run.count n below) in
      has_some home.disk (disk_at (extents k.volume run.staging) (run.block + n)) home.at
    where
      has_some : (b : ℕ) (o : Option ℕ) → o ≡ Some b → IsSome o
      has_some b o is = subst IsSome (sym is) refl

  module _ (next_is : IsNextEntry k.volume ready.kept.claims d) (fields : FitsDraft d) where
    stands_at : (image : Words) → IsImage k.cells image → JobStands k.volume alive (journaled image) ready.stands.numbers ready.s job
    stands_at image is = record {
      draft = next_is.fields;
      fields = fields;
      alive = next_is.alive;
      order = next_is.order;
      size = size_found;
      rest = rest image is;
      within = λ i inside. beside_front i (from_block i (below_from d.file_block d.count (i / 4096) inside).0);
      parts = record {
        front = front_bytes;
        within_file = λ i front. (let side = front_is i front in let long = length-overwritten old target.start x in omega (arith, side.1, long));
        rest = λ i out. beside_front i (not_in_front i out);
      };
      placed = front_placed;
      staging = (staging_file k files who target x run ready).kind;
      staged = staged;
      apart = λ e there. apart_of e (some_blocks e (ready.stands.drafts e there).fields) (ready.claims_out e there);
      puts = puts;
      part = is_part;
    }

    apart_jobs : (i : Job) → In i ready.stands.jobs → AreApartJobs i job
    apart_jobs i is =
        let p = pending_of_job ready.kept.pending ready.stands.jobs ready.stands.jobs_are i is in
        let stood = job_stands k.volume alive (journaled (words_of k.cells)) ready.stands.numbers ready.s ready.stands.jobs i (valid_at (words_of k.cells) (IsImage-words_of k.cells)).out is in
        record {
          files = ready.others i is;
          staging = apart_of i.draft (some_blocks i.draft stood.draft) (subst (λ (e : Draft). Contains ready.old (reserved_run e)) (sym p.2) (ready.jobs_out p.0 p.1));
        }

    module _ (loans : List Part) (blocks : List ℕ) (blocks_are : blocks ≡ blocks_of loans) (are : AreLoansOf k.volume d k.cells run.count loans) where
      abbrev p : JobOut
      p = pending_of k files who ready.call target (length x) run blocks

      has_blocks : HasItsBlocks k.volume p
      has_blocks = record {
        count = ap length blocks_are ∙ length_of loans ∙ are.count_is;
        each = λ n below.
            are.places n below
            ∙ ap Some (sym (ap (λ bs. slice_index bs n) blocks_are ∙ get_or-map (λ (loan : Part). loan.place) loans n (record { place = 0; cells = [] })));
      } where
        length_of : (xs : List Part) → length (blocks_of xs) ≡ length xs
        length_of xs = length-map xs (λ (loan : Part). loan.place)

      pub may_begin : MayBegin k (kept_is k files who target x run ready) ready.stands.jobs ready.stands.numbers ready.s p job
      may_begin = record {
        who_is = refl;
        call_is = refl;
        draft_is = refl;
        stands = stands_at;
        apart = apart_jobs;
        whole = strict_whole;
        fits = ready.fits;
        caller = ready.callers;
        blocks = has_blocks;
        out = ready.has_run.out;
        owed = ready.owed;
        free = ready.free;
        spare = ready.spare;
      }

  -- words that spell what is found in the blocks spell the whole there
  spell_whole : (words : List ℕ) → SpellWhole d words found → SpellWhole d words whole
  spell_whole words spell n i few within = spell n i few within ∙ beside_front (4096 * (d.file_block + n) + i) (from_block (4096 * (d.file_block + n) + i) (omega (arith, within)))

  -- its words are those of the call
  pub spells : StagesTheFile → (words blocks : List ℕ) → SpellBytes words (staged_in k files target.ino target.start run.count x) → SpellCall ready.s (pending_of k files who ready.call target (length x) run blocks) words
  spells law words blocks spell other other_whole puts_it =
      let same : puts_it.put ≡ ready.puts.put = same_Some puts_it.put ready.puts.put (sym puts_it.is ∙ ready.puts.is) in
      subst (SpellWhole d words) (sym (ap (λ n. overwritten (bytes_of (node_at ready.s.nodes n)) place bytes) ready.puts.node_is) ∙ (sym (ap (λ (q : Put). overwritten (bytes_of (node_at ready.s.nodes q.node)) q.place q.bytes) same) ∙ puts_it.whole_is))
      (spell_whole words (law ready.g k ready.t (kept_is k files who target x run ready) true ready.n ready.s target.ino target.start x words d ready.stands ready.file refl (few k files who target x run ready).2 spell))

-- THE JOB IS OUT
pub is_staged : DraftsAreNext → StagesTheFile → StandsBegun → (k l : View) (files : Files) (who : Who) (target : Target) (x : List ℕ) (run : StageRun) (words blocks : List ℕ) (loans : List Part)
    → (ready : Ready k files who target x run) → FitsDraft (draft k files who target x run ready) → blocks ≡ blocks_of loans → AreLentBy k.volume (draft k files who target x run ready) k.cells l.cells loans → l ≡ record k { cells = l.cells } → IsInOrder l
    → SpellBytes words (staged_in k files target.ino target.start run.count x) → IsStaged k l files who target x run words blocks ready
is_staged next_law words_law begun k l files who target x run words blocks loans ready fields blocks_are lent same order spell =
    let p : JobOut = pending_of k files who ready.call target (length x) run blocks in
    record {
      stands = subst (λ y. StandsAt ready.g y ready.t (with_job (kept_is k files who target x run ready) p) true ready.n ready.s) (sym same)
          (begun ready.g k l.cells ready.t (kept_is k files who target x run ready) ready.n ready.s p (job k files who target x run ready) ready.stands
          (may_begin k files who target x run ready (next k files who target x run ready next_law) fields loans blocks blocks_are lent.loans_are) lent.out (subst IsInOrder same order)).0;
      spells = spells k files who target x run ready words_law words blocks spell;
    }
