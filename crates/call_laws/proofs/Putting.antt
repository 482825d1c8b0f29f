-- A write of a World begins.
use Rattle.std.specs.Prelude.{◌≡◌, ◌≢◌, ◌⊎◌, ◌≤◌, ◌<◌, ◌+◌, ◌-◌, ◌++◌, ℕ, true, false, List, [], ◌∷◌, length, map, Option, Some, None, sum_by, refl}
use Rattle.std.specs.List.{range_with_len}
use Rattle.std.proofs.Common.{arith, ap, ◌∙◌, sym, subst, inl, inr}
use Rattle.std.proofs.Math.Path.{fun_ext}
use Rattle.std.proofs.lemmas.List.{length-append}
use Rattle.write_begin.specs.pm_model.Powers.{is_on, Supply}
use Rattle.write_begin.specs.image_model.Volume.{Volume}
use Rattle.write_begin.specs.file_table.Files.{Files}
use Rattle.write_begin.specs.k_split_model.View.{View}
use Rattle.write_begin.specs.list_laws.Members.{In, pushed-In}
use Rattle.write_begin.specs.posix_types.declared.call.Mode.{Mode}
use Rattle.write_begin.specs.posix_types.declared.call.Who.{Who}
use Rattle.write_begin.specs.posix_types.declared.handle.Handle.{Handle}
use Rattle.write_begin.specs.posix_types.declared.item.Outcome.{Outcome}
use Rattle.write_begin.specs.posix_types.declared.call.Call.{Call}
use Rattle.write_begin.specs.posix_types.declared.reply.Reply.{Reply}
use Rattle.write_begin.specs.posix_tables.declared.open.Description.{Description}
use Rattle.write_begin.specs.posix_tables.Open.{opened, Tables}
use Rattle.write_begin.specs.posix_tables.Outcomes.{answer, first}
use Rattle.write_begin.specs.posix_laws.Views.{need_of}
use Rattle.write_begin.specs.posix_spec.FileRows.{file_number, write_rows}
use Rattle.write_begin.specs.posix_spec.Put.{put_by}
use Rattle.write_begin.specs.posix_spec.Run.{after_call}
use Rattle.write_begin.specs.posix_spec.State.{room}
use Rattle.write_begin.specs.posix_spec.Step.{step, Stepped}
use Rattle.write_begin.specs.posix_spec.Tree.{tree}
use Rattle.world_view_laws.specs.eof_laws.k_journal.Commits.{TakesAStep}
use Rattle.write_begin.specs.crash_spec.Busy.{is_logged}
use Rattle.world_view_laws.proofs.in_flight_proofs.CountsCounts.{few_jobs}
use Rattle.world_view_laws.specs.in_flight.Counters.{IsCounted}
use Rattle.world_view_laws.specs.in_flight.Histories.{is_counted, item_with}
use Rattle.world_view_laws.specs.in_flight.staging_files.Keeps.{Staged}
use Rattle.world_view_laws.specs.in_flight.staging_files.Reserves.{IsLacking}
use Rattle.world_view_laws.specs.in_flight.world_model.Stands.{number}
use Rattle.world_view_laws.specs.in_flight.live_model.Standing.{JobOut, reserved_run, StandsAt}
use Rattle.world_view_laws.specs.in_flight.live_model.world_model.JobLaws.{needs}
use Rattle.write_begin.specs.write_jobs.Jobs.{JobView}
use Rattle.world_view_laws.proofs.Beginning.{began, lets, lost_call, others_began, others_lost, others_returned, returned}
use Rattle.world_view_laws.proofs.OpenCalls.{next_of_job}
use Rattle.world_view_laws.proofs.Ending.{no_both}
use Rattle.world_view_laws.proofs.Handing.{in_front}
use Rattle.world_view_laws.proofs.Losing.{lost_view}
use Rattle.world_view_laws.specs.declared.views.over.Over.{Over}
use Rattle.world_view_laws.proofs.write_end_proofs.Homes.{has_blocks_out}
use Rattle.world_view_laws.proofs.Holes.{no_holes, unput_holes, unput_in_place}
use Rattle.world_view_laws.specs.Begins.{BeginsJob, EndsRound, HasFilled, IsOfPlan, item_of, LacksBeside, LacksHoles, LacksSpace, LacksStaging, LosesCall, OthersStay, Returns, with_disk}
use Rattle.world_view_laws.specs.Holes.{file_of}
use Rattle.world_view_laws.specs.eof_laws.Ends.{FilesEnd}
use Rattle.write_begin.specs.write_plan.Plans.{placed_at, staged_run}
use Rattle.write_begin.specs.write_plan.Asks.{CanMoveBy, moved_by}
use Rattle.write_begin.specs.write_plan.Numbers.{OpenHaveLines}
use Rattle.world_view_laws.specs.Views.{Disk, disk_of, IsGoing, IsWorldOver, kept_of, state_of, WorldView}
use Rattle.write_begin.proofs.Begun.{need_fits}
use Rattle.write_begin.specs.Begins as writing
use Rattle.write_begin.specs.Begins.{BeginsWrite, FillsFor, Found, IsAnsweredBy, LosesWrite, WritesNow}
use Rattle.write_begin.specs.Goes.{filled_by, KeepsMaps}
use Rattle.write_begin.specs.Needs.{JobsNeed, need_by}
use Rattle.write_begin.specs.write_plan.AsksLaws.{call_of, start_of}
use Rattle.write_begin.specs.posix_laws.RowLaws.{Accepts-from_rows}
use Rattle.call_laws.proofs.Filling.{filled_below, filled_geometry, kept_below, lacks_above, lacks_below, open_of, own_below, own_file}
use Rattle.call_laws.proofs.Rows.{beside_back, is_its_need, its_need, lacks_in, lacks_staging, needs_logged, no_publish, refused_step, refused_unlogged, refused_unput, staged_logged}
use Rattle.call_laws.proofs.Jobs.{drafts_differ, needs_are, stands_later}
use Rattle.call_laws.specs.Calls.{AtCall}
use Rattle.call_laws.proofs.Running.{of_open_file}
use Rattle.call_laws.proofs.Staying.{ends_round, few_made, going_now, late_run, mode_now, round_over, stands_now}

-- what is shown of what is kept of the files is the same
files_same : {v u : Volume} {own : Option ℕ} (l : View) (t : Tables) (staged : Staged) (files laid : Files) → KeepsMaps v u files laid own → disk_of l t staged laid ≡ disk_of l t staged files
files_same l t staged files laid keeps = λ i. record (disk_of l t staged files) { overlays = map (fun_ext keeps.runs i) (range_with_len 0 (length (keeps.sizes i))); sizes = keeps.sizes i }

module _ (k : View) (t : Tables) (staging : Staged) (files : Files) (w : WorldView) (who : Who) (h : Handle) (at : Option ℕ) (x : List ℕ) (one : AtCall k t staging files w who (call_of h at x)) where
  abbrev call : Call
  call = call_of h at x

  abbrev at_call : StandsAt w.geometry k t (kept_of w staging files) true (length w.history) (state_of w)
  at_call = stands_now k t staging files w who call one

  going : IsGoing k t staging files w
  going = going_now k t staging files w who call one

  not_posix : (state_of w).mode ≢ Mode.Posix
  not_posix = mode_now k t staging files w who call one

  -- what is so over the device as it is, is so in the World
  here : (P : WorldView → Type 0) → P (with_disk w (disk_of k t staging files)) → P w
  here P is = subst (λ (d : Disk). P (with_disk w d)) (sym one.world.disk_is) is

  module _ (mode : Mode) (mode_is : (state_of w).mode ≡ mode) (law : JobsNeed) (lines : OpenHaveLines) (taken : ℕ) (taken_is : taken ≡ sum_by (λ (p : JobOut). need_by (state_of w).mode t files p.who p.call) w.pending) where
    -- THE WRITE IS FOUND AS IT ASKS.
    abbrev pub found_at : Found mode k t staging files who call taken
    found_at = record {
      g = w.geometry;
      kept = kept_of w staging files;
      n = length w.history;
      few = few_made k t staging files w who call one;
      s = state_of w;
      stands = at_call;
      mode_is = mode_is;
      beside = lets k t staging files w one.world one.begins.awake one.out who call one.begins.next one.up one.none one.begins.idle;
      taken_is = taken_is ∙ law w.geometry k t (kept_of w staging files) true (length w.history) (state_of w) at_call;
    }

    -- ---- it returned

    abbrev pub returned_view : WorldView
    returned_view = record w { history = w.history ++ item_of w who call ∷ []; acts = w.acts + 1; disk = disk_of k t staging files }

    module _ (outcome : Outcome) (answer : IsAnsweredBy mode who h at x k t staging files taken outcome) where
      same_step : (let same : Stepped = record { state = state_of w; outcome = outcome } in step (state_of w) who call ≡ same)
      same_step = refused_step (state_of w) who h at x outcome (answer found_at)

      -- with the item that `add` gives
      pub item_is : item_of w who call ≡ item_with w.history who call outcome
      item_is = ap (λ (y : Stepped). item_with w.history who call y.outcome) same_step

      same_state : state_of w ≡ after_call (state_of w) (who, call)
      same_state = sym (ap (λ (y : Stepped). y.state) same_step)

      later : StandsAt w.geometry k t (kept_of w staging files) true (length w.history + 1) (after_call (state_of w) (who, call))
      later = subst (StandsAt w.geometry k t (kept_of w staging files) true (length w.history + 1)) same_state (stands_later w.geometry k t (kept_of w staging files) true (length w.history) (state_of w) at_call)

      pub answered : IsWorldOver k t staging files returned_view
      answered = returned k t staging files w one.world one.begins.awake one.out who call one.begins.next one.up one.none one.begins.idle k t files refl going.ends later

      unlogged : is_logged (state_of w) (who, call) ≡ false
      unlogged = refused_unlogged (state_of w) who h at x outcome (answer found_at)

      pub answers : (before after : Supply) → is_on after ≡ true → Returns who w returned_view before after
      answers before after on = record {
        call = call;
        begins = one.begins;
        unlogged = unlogged;
        new_is = refl;
        enough = λ need left lacks. no_both (is_logged (state_of w) (who, call)) (its_need w who h at x need lacks.need_is).0 unlogged _;
        holes = no_holes w who call (unput_holes w who call (refused_unput (state_of w) who h at x outcome (answer found_at)));
        published = no_publish who h at x w returned_view;
        of_file = of_open_file k t staging files w who call one call;
        staging = λ mode. sym (ap (λ (d : Disk). d.staging) one.world.disk_is);
        in_place = λ mode. unput_in_place w who call (disk_of k t staging files) (refused_unput (state_of w) who h at x outcome (answer found_at));
        stay = others_returned k t staging files w one.world one.begins.awake one.out who call one.begins.next one.up one.none one.begins.idle k t files refl going.ends later;
        on = on;
        spent = λ mode. inl (ap tree (sym same_state));
      }

    -- ---- what it lacks

    -- the calls of the jobs that are out leave what these jobs leave
    left_is : room (state_of w) - needs (state_of w) at_call.jobs ≡ room (state_of w) - sum_by (λ (p : JobOut). need_of (state_of w) p.who p.call) w.pending
    left_is = ap (λ n. room (state_of w) - n) (needs_are (state_of w) w.pending at_call.jobs at_call.jobs_are)

    beside_in : (needed left : ℕ) → LacksBeside w who call needed left → writing.LacksBeside (state_of w) who call at_call.jobs needed left
    beside_in needed left is = record { need_is = (its_need w who h at x needed is.need_is).1; left_is = is.left_is ∙ sym left_is; lacks = is.lacks }

    beside_over : (d : Disk) (needed left : ℕ) → LacksBeside (with_disk w d) who call needed left → writing.LacksBeside (state_of w) who call at_call.jobs needed left
    beside_over d needed left is = beside_in needed left (beside_back w d who call needed left is)

    -- where no row refuses it
    module _ (none : first (write_rows (state_of w) who h (start_of (state_of w) who h at) x) ≡ None) where
      beside_as : (needed left : ℕ) → writing.LacksBeside (state_of w) who call at_call.jobs needed left → LacksBeside w who call needed left
      beside_as needed left is = (
          let fits = need_fits (state_of w) who h at x (Accepts-from_rows (state_of w) who h (start_of (state_of w) who h at) x none) in
          let needed_is = is.need_is in
          let less = is.lacks in
          record {
            need_is = is_its_need w who h at x needed (needs_logged (state_of w) who h at x not_posix none (omega (arith, needed_is, less))) is.need_is;
            left_is = is.left_is ∙ left_is;
            fits = omega (arith, fits, needed_is);
            lacks = is.lacks;
          })

      file : (d : Description) × (opened t who h ≡ Some d)
      file = open_of (state_of w) (number at_call.numbers) t who h at_call.tables (Accepts-from_rows (state_of w) who h (start_of (state_of w) who h at) x none).may_write

      own : (d : Disk) → d.tables ≡ t → file_of (with_disk w d) who call ≡ Some (file_number t who h)
      own = own_file w who h at x t file.0 file.1

      low : file_number t who h < length files.sizes
      low = own_below t who h file.0 (length files.sizes) file.1 (lines w.geometry k t (kept_of w staging files) true (length w.history) (state_of w) at_call who h file.0 file.1)

      -- too few blocks are free for its holes, below the World and in it
      holes_in : (needed left : ℕ) → LacksHoles w who call needed left → writing.LacksHoles (state_of w) who call at_call.jobs k k staging files (file_number t who h) needed left
      holes_in needed left lacks = record {
        beside = λ n m is. lacks.beside n m (beside_as n m is);
        free = lacks_below w one.world.mode who call t (file_number t who h) own staging files low k at_call.geometry needed left
            (subst (λ (d : Disk). LacksHoles (with_disk w d) who call needed left) one.world.disk_is lacks);
      }

      holes_as : (l : View) (needed left : ℕ) → writing.LacksHoles (state_of w) who call at_call.jobs k l staging files (file_number t who h) needed left → LacksHoles w who call needed left × (l ≡ k)
      holes_as l needed left lacks =
          let both = lacks_above w one.world.mode who call t (file_number t who h) own staging files low k at_call.geometry needed left l lacks.free
          (λ n m is. lacks.beside n m (beside_over (disk_of k t staging files) n m is)) in
          (here (λ (v : WorldView). LacksHoles v who call needed left) both.0, both.1)

      -- its holes are filled
      filled_now : (l : View) → FillsFor k l staging files (file_number t who h) (placed_at (state_of w) (put_by (state_of w) who call)) → HasFilled w who call (disk_of l t staging files)
      filled_now l fills = here (λ (v : WorldView). HasFilled v who call (disk_of l t staging files)) (filled_below w one.world.mode who call t (file_number t who h) own staging files low k l fills)

      -- and the staging has no run, or the World lacks none
      run_in : (l : View) (run : ℕ × ℕ) → staged_run (state_of w) (put_by (state_of w) who call) ≡ Some run → l.volume.geometry ≡ w.geometry → (needed left : ℕ)
          → LacksStaging (with_disk w (disk_of l t staging files)) who call needed left → IsLacking run.1 staging l needed left
      run_in l run run_is geometry needed left lacks = lacks_in (with_disk w (disk_of l t staging files)) who h at x l t staging files run run_is refl geometry needed left lacks

      run_as : (l : View) (run : ℕ × ℕ) → staged_run (state_of w) (put_by (state_of w) who call) ≡ Some run → l.volume.geometry ≡ w.geometry → (needed left : ℕ)
          → writing.LacksStaging (state_of w) who call at_call.jobs run.1 staging l needed left → LacksStaging (with_disk w (disk_of l t staging files)) who call needed left
      run_as l run run_is geometry needed left lacks =
          lacks_staging (with_disk w (disk_of l t staging files)) who h at x l t staging files run run_is refl geometry needed left (λ n m is. lacks.beside n m (beside_over (disk_of l t staging files) n m is)) lacks.lacks

    module _ (l : View) (staged : Staged) (laid : Files) (keeps : KeepsMaps k.volume l.volume files laid (filled_by mode t who h)) where
      ends_now : FilesEnd l.volume laid
      ends_now = keeps.ends going.ends

      -- ---- it became a job

      module _ (job : JobView) (blocks : List ℕ) (begun : BeginsWrite mode who h at x k l t staging staged files laid taken job blocks) where
        abbrev pub pending_of : JobOut
        pending_of = record { who = who; call = call; draft = job.draft; blocks = blocks }

        abbrev pub job_view : WorldView
        job_view = record w { pending = w.pending ++ pending_of ∷ []; acts = w.acts + 1; disk = disk_of l t staged laid }

        counted_who : (q : JobOut) → In q (w.pending ++ pending_of ∷ []) → IsCounted q.who
        counted_who q there = elim (pushed-In w.pending pending_of q there) [
          | inl old ↦ is_counted w.scripts w.history q.who q.call one.world.threads (next_of_job w.scripts w.history w.pending w.unfinished one.world.open_calls q old).call
          | inr last ↦ subst (λ (y : JobOut). IsCounted y.who) last (is_counted w.scripts w.history who call one.world.threads one.begins.next)
        ]

        few : length (w.pending ++ pending_of ∷ []) ≤ 9
        few = few_jobs (w.pending ++ pending_of ∷ []) (begun.stands found_at).callers counted_who

        one_more : length staged.out ≡ length staging.out + 1
        one_more = ap length begun.out ∙ length-append staging.out (reserved_run job.draft ∷ [])

        pub job_begun : IsWorldOver l t staged laid job_view
        job_begun =
            began k t staging files w one.world one.begins.awake one.out who call one.begins.next one.up one.none one.begins.going pending_of refl refl l staged laid keeps.base ends_now begun.ends
            one_more few (begun.stands found_at)

        last_there : (qs : List JobOut) → In pending_of (qs ++ pending_of ∷ [])
        last_there [] = inl refl
        last_there (q ∷ qs) = inr (last_there qs)

        none_fits : first (write_rows (state_of w) who h (start_of (state_of w) who h at) x) ≡ None
        none_fits = begun.accepted found_at

        geometry_then : begun.middle.volume.geometry ≡ w.geometry
        geometry_then = filled_geometry k begun.middle staging files (file_number t who h) (placed_at (state_of w) (put_by (state_of w) who call)) (begun.filled found_at) ∙ at_call.geometry

        pub begins_job : (after : Supply) → is_on after ≡ true → BeginsJob who w job_view after job
        begins_job after on = record {
          call = call;
          begins = one.begins;
          logged = staged_logged (state_of w) who h at x (job.draft.file_block, job.draft.count) not_posix none_fits (begun.plan found_at);
          enough = λ need left lacks. begun.enough found_at need left (beside_in need left lacks);
          holes = λ need left lacks. begun.holes found_at need left (holes_in none_fits need left lacks);
          middle = disk_of begun.middle t staging files;
          filled = filled_now none_fits begun.middle (begun.filled found_at);
          below = kept_below begun.middle l t staging staged files laid begun.below;
          run = λ need left lacks.
              begun.run found_at (job.draft.file_block, job.draft.count) need left (begun.plan found_at)
              (run_in none_fits begun.middle (job.draft.file_block, job.draft.count) (begun.plan found_at) geometry_then need left lacks);
          pending = pending_of;
          who_is = refl;
          call_is = refl;
          apart = λ q there.
              drafts_differ w.geometry l t (kept_of job_view staged laid) true (length w.history) (state_of w) (begun.stands found_at) pending_of q (last_there w.pending)
              (in_front w.pending (pending_of ∷ []) q there) (one.none q there);
          tables = sym (ap (λ (d : Disk). d.tables) one.world.disk_is);
          new_is = refl;
          plan = subst (λ (o : Option (ℕ × ℕ)). IsOfPlan o job.draft) (sym (begun.plan found_at)) (refl, refl);
          run_is = begun.out ∙ ap (λ (d : Disk). d.staging.out ++ reserved_run job.draft ∷ []) (sym one.world.disk_is);
          out = record {
            there = last_there w.pending;
            who = begun.job_who;
            draft = refl;
            blocks = begun.blocks_are;
            words = begun.words found_at;
            lent = has_blocks_out w.geometry l t (kept_of job_view staged laid) (length w.history) (state_of w) pending_of (begun.stands found_at) (last_there w.pending);
          };
          fresh = begun.fresh;
          stay =
              others_began k t staging files w one.world one.begins.awake one.out who call one.begins.next one.up one.none one.begins.going pending_of refl refl l staged laid keeps.base ends_now begun.ends
              one_more few (begun.stands found_at);
          on = on;
        }

      -- ---- it was written in place

      module _ (writes : WritesNow mode who h at x k l t staging staged files laid taken) where
        abbrev pub moved : Tables
        moved = moved_by t laid who call

        abbrev pub written_view : Staged → WorldView
        written_view s = record w { history = w.history ++ item_of w who call ∷ []; acts = w.acts + 1; disk = disk_of l moved s laid }

        none_row : first (write_rows (state_of w) who h (start_of (state_of w) who h at) x) ≡ None
        none_row = writes.accepted found_at

        stands_then : StandsAt w.geometry l moved (kept_of w staging laid) true (length w.history + 1) (after_call (state_of w) (who, call))
        stands_then = subst (λ (s : Staged). StandsAt w.geometry l moved (kept_of w s laid) true (length w.history + 1) (after_call (state_of w) (who, call))) writes.staging (writes.stands found_at)

        pub may_move : CanMoveBy t laid who call
        may_move = writes.may found_at

        pub item_written : item_of w who call ≡ item_with w.history who call (answer (Reply.Count (length x)))
        item_written = ap (item_with w.history who call) (writes.outcome found_at)

        pub written : IsWorldOver l moved staged laid (written_view staged)
        written = subst (λ (s : Staged). IsWorldOver l moved s laid (written_view s)) (sym writes.staging)
            (returned k t staging files w one.world one.begins.awake one.out who call one.begins.next one.up one.none one.begins.idle l moved laid keeps.base ends_now stands_then)

        -- cells alone are others, and the offset of its handle
        lies : disk_of l moved staged laid ≡ record (disk_of writes.middle t staging files) { cells = l.cells; tables = moved }
        lies =
            (λ i. disk_of (writes.in_place i) moved (writes.staging i) (writes.same i))

        -- IT RETURNED.
        pub writes_now : (before after : Supply) → is_on after ≡ true → TakesAStep before after → Returns who w (written_view staged) before after
        writes_now before after on took = record {
          call = call;
          begins = one.begins;
          unlogged = writes.unlogged found_at;
          new_is = refl;
          enough = λ need left lacks. writes.enough found_at need left (beside_in need left lacks);
          holes = λ need left lacks. writes.holes found_at need left (holes_in none_row need left lacks);
          published = no_publish who h at x w (written_view staged);
          of_file = of_open_file k t staging files w who call one call;
          staging = λ mode. writes.staging ∙ sym (ap (λ (d : Disk). d.staging) one.world.disk_is);
          in_place = λ mode range placed. record {
            middle = disk_of writes.middle t staging files;
            filled = filled_now none_row writes.middle (writes.filled found_at);
            cells = lies;
          };
          stay = subst (λ (s : Staged). OthersStay w (written_view s) who) (sym writes.staging)
              (others_returned k t staging files w one.world one.begins.awake one.out who call one.begins.next one.up one.none one.begins.idle l moved laid keeps.base ends_now stands_then);
          on = on;
          spent = λ mode. inr took;
        }

      -- ---- the round is over

      module _ (needed left : ℕ) (over : writing.EndsRound mode who h at x k l t staging staged files laid taken needed left) where
        late : (w.pending ≢ []) ⊎ (w.settled < length w.history)
        late = late_run k t staging files w who call one over.late

        none_over : first (write_rows (state_of w) who h (start_of (state_of w) who h at) x) ≡ None
        none_over = over.accepted found_at

        same_disk : disk_of l t staged laid ≡ disk_of l t staging files
        same_disk = files_same l t staged files laid keeps ∙ ap (λ (s : Staged). disk_of l t s files) over.same

        -- where K-Split is as it was
        as_before : l ≡ k → disk_of l t staged laid ≡ w.disk
        as_before same = same_disk ∙ (ap (λ (y : View). disk_of y t staging files) same ∙ sym one.world.disk_is)

        abbrev Causes : Type 0
        Causes = (writing.LacksBeside (state_of w) who call at_call.jobs needed left × (l ≡ k))
            ⊎ (writing.LacksHoles (state_of w) who call at_call.jobs k l staging files (file_number t who h) needed left
            ⊎ writing.LacksRunOf (state_of w) who call at_call.jobs k l staging files (file_number t who h) needed left)

        cause_of : Causes → LacksSpace w (disk_of l t staged laid) who call needed left
        cause_of (inl beside) = inl (beside_as none_over needed left beside.0)
        cause_of (inr (inl lacks)) = inr (inl (holes_as none_over l needed left lacks).0)
        cause_of (inr (inr run)) =
            let geometry : l.volume.geometry ≡ w.geometry = filled_geometry k l staging files (file_number t who h) (placed_at (state_of w) (put_by (state_of w) who call)) run.holes ∙ at_call.geometry in
            inr (inr (record {
              whole = λ n m lacks. run.whole n m (holes_in none_over n m lacks);
              holes = subst (HasFilled w who call) (sym same_disk) (filled_now none_over l run.holes);
              staging = subst (λ (d : Disk). LacksStaging (with_disk w d) who call needed left) (sym same_disk) (run_as none_over l run.run run.run_is geometry needed left run.lacks);
            }))

        nothing_of : Causes → LacksBeside w who call needed left ⊎ LacksHoles w who call needed left → disk_of l t staged laid ≡ w.disk
        nothing_of (inl beside) refused = as_before beside.1
        nothing_of (inr (inl lacks)) refused = as_before (holes_as none_over l needed left lacks).1
        nothing_of (inr (inr run)) (inl beside) = absurd (run.lacks.beside needed left (beside_in needed left beside))
        nothing_of (inr (inr run)) (inr holes) = absurd (run.whole needed left (holes_in none_over needed left holes))

        pub write_over : IsWorldOver l t staged laid (record w { over = Some (Over.Space needed left); acts = w.acts + 1; disk = disk_of l t staged laid })
        write_over = round_over k t staging files w who call one l staged laid over.stays.runs keeps.base ends_now (over.stays.stands found_at) needed left late

        pub write_ends_round : (after : Supply) → is_on after ≡ true → EndsRound who w (record w { over = Some (Over.Space needed left); acts = w.acts + 1; disk = disk_of l t staged laid }) after needed left
        write_ends_round =
            ends_round k t staging files w who call one l staged laid over.stays.runs keeps.base ends_now (over.stays.stands found_at) needed left late (cause_of (over.cause found_at)) (nothing_of (over.cause found_at))

    -- ---- it lost its power

    module _ (l : View) (staged : Staged) (laid : Files) (loses : LosesWrite mode who call k l t staging files taken) where
      abbrev pub off_view : WorldView
      off_view = lost_view w ((who, call) ∷ []) (w.acts + 1) (disk_of l t staged laid)

      pub power_lost : IsWorldOver l t staged laid off_view
      power_lost =
          lost_call k t staging files w one.world one.begins.awake one.out who call one.begins.next one.up one.none l t staged laid (loses.left found_at)
          (loses.kept found_at w.start w.history refl)

      pub loses_call : (after : Supply) → is_on after ≡ false → LosesCall who w off_view after
      loses_call after off = record {
        call = call;
        next = one.begins.next;
        awake = one.begins.awake;
        new_is = refl;
        stay =
            others_lost k t staging files w one.world one.begins.awake one.out who call one.begins.next one.up one.none l t staged laid (loses.left found_at)
            (loses.kept found_at w.start w.history refl);
        off = off;
      }
