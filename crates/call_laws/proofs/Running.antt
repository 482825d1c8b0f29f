-- A call that is not logged runs to its end.
use Rattle.std.specs.Prelude.{◌≡◌, ◌⊎◌, ◌<◌, ◌+◌, ◌^◌, ◌++◌, ℕ, true, false, [], ◌∷◌, length, Option, Some, None, is_none, is_some, option_map, refl}
use Rattle.std.specs.Option.{option_map_or}
use Rattle.std.proofs.Common.{arith, ap, ◌∙◌, sym, subst}
use Rattle.world_view_laws.specs.eof_laws.pm_model.Powers.{is_on, Supply}
use Rattle.world_view_laws.specs.eof_laws.file_table.Files.{Files}
use Rattle.world_view_laws.specs.file_calls.Built.{IsBuilt, NamesAreSpelled}
use Rattle.world_view_laws.specs.file_calls.Answers.{Answers, IsSpent, LeavesDevice, Loses}
use Rattle.world_view_laws.specs.file_calls.Runs.{RunsInSome}
use Rattle.world_view_laws.specs.eof_laws.k_journal.Commits.{TakesAStep}
use Rattle.world_view_laws.specs.eof_laws.k_split_model.View.{View}
use Rattle.world_view_laws.specs.eof_laws.posix_types.declared.call.Call.{Call}
use Rattle.world_view_laws.specs.eof_laws.posix_types.declared.call.Who.{Who}
use Rattle.world_view_laws.specs.eof_laws.posix_types.declared.handle.Handle.{Handle}
use Rattle.world_view_laws.specs.eof_laws.posix_types.declared.item.Outcome.{Outcome}
use Rattle.world_view_laws.specs.eof_laws.posix_types.declared.reply.Errno.{Errno}
use Rattle.world_view_laws.specs.eof_laws.posix_types.declared.reply.Reply.{Reply}
use Rattle.world_view_laws.specs.eof_laws.posix_tables.declared.open.Description.{Description}
use Rattle.world_view_laws.specs.eof_laws.posix_tables.Open.{opened, Tables}
use Rattle.world_view_laws.specs.eof_laws.posix_tables.Outcomes.{first, row}
use Rattle.world_view_laws.specs.eof_laws.posix_spec.Put.{Put, put_by}
use Rattle.world_view_laws.specs.eof_laws.posix_spec.Run.{after_call}
use Rattle.world_view_laws.specs.eof_laws.posix_spec.Scripted.{items_of}
use Rattle.world_view_laws.specs.eof_laws.posix_spec.State.{State}
use Rattle.world_view_laws.specs.eof_laws.posix_spec.Step.{fsync_done, step, stepped}
use Rattle.world_view_laws.specs.eof_laws.posix_spec.Tree.{tree}
use Rattle.world_view_laws.specs.eof_laws.crash_spec.Busy.{is_logged, is_logged_put}
use Rattle.world_view_laws.specs.in_flight.Histories.{item_with}
use Rattle.world_view_laws.specs.in_flight.staging_files.Keeps.{Staged}
use Rattle.world_view_laws.specs.in_flight.world_model.Stands.{number}
use Rattle.world_view_laws.specs.in_flight.live_model.open_files.Numbered.{described_as}
use Rattle.world_view_laws.specs.in_flight.live_model.Losses.{KeepsWhenLost}
use Rattle.world_view_laws.specs.in_flight.live_model.Standing.{StandsAt}
use Rattle.world_view_laws.specs.in_flight.world_step_laws.Steps.{LetsJobsBe}
use Rattle.world_view_laws.proofs.Beginning.{lets, lost_call, others_lost, others_returned, returned}
use Rattle.world_view_laws.proofs.Ending.{no_both}
use Rattle.world_view_laws.proofs.Losing.{lost_view}
use Rattle.world_view_laws.proofs.open_files_proofs.Lookups.{same_opened}
use Rattle.world_view_laws.proofs.Holes.{no_holes, unput_holes, unput_in_place}
use Rattle.world_view_laws.specs.Begins.{IsNeed, IsOfOpenFile, item_of, LacksBeside, LosesCall, Publishes, Returns}
use Rattle.world_view_laws.specs.eof_laws.Ends.{FilesEnd}
use Rattle.world_view_laws.specs.k_split_laws.Left.{IsLeftOf}
use Rattle.world_view_laws.specs.Views.{Disk, disk_of, IsWorldOver, kept_of, state_of, WorldView}
use Rattle.call_laws.specs.Calls.{AtCall}
use Rattle.call_laws.proofs.Staying.{few_calls, stands_now}

-- ---- calls that put nothing, which are not logged

unlogged_by : (s : State) (who : Who) (call : Call) → put_by s who call ≡ None → is_logged s (who, call) ≡ false
unlogged_by s who call none = ap (λ (m : Option Put). option_map_or (is_logged_put s.mode s) m false) none

pub built_unput : (s : State) (who : Who) (call : Call) → IsBuilt call → put_by s who call ≡ None
unfolding put_by
built_unput s who (Call.Mkdir p) built = refl
built_unput s who (Call.Rmdir p) built = refl
built_unput s who (Call.Unlink p) built = refl
built_unput s who (Call.Rename p q) built = refl
built_unput s who (Call.Open h p f) built = refl
built_unput s who (Call.Close h) built = refl
built_unput s who (Call.Dup h to) built = refl
built_unput s who (Call.Read h n) built = refl
built_unput s who (Call.Pread h o n) built = refl
built_unput s who (Call.Write h x) built = absurd built
built_unput s who (Call.Pwrite h o x) built = absurd built
built_unput s who (Call.Seek h w by) built = refl
built_unput s who (Call.Truncate h n) built = absurd built
built_unput s who (Call.Fsync h) built = refl
built_unput s who (Call.Stat p) built = refl
built_unput s who (Call.List p) built = refl

built_unlogged : (s : State) (who : Who) (call : Call) → IsBuilt call → is_logged s (who, call) ≡ false
built_unlogged s who call built = unlogged_by s who call (built_unput s who call built)

-- so they need no room beside the jobs that are out
logged_need : (w : WorldView) (who : Who) (call : Call) (need : ℕ) → IsBuilt call → IsNeed w who call need → is_logged (state_of w) (who, call) ≡ true
logged_need w who (Call.Truncate h size) need built is = absurd built
logged_need w who call need built is = is.0

pub built_beside : (w : WorldView) (who : Who) (call : Call) → IsBuilt call → (need left : ℕ) → ¬ LacksBeside w who call need left
built_beside w who call built need left lacks = no_both (is_logged (state_of w) (who, call)) (logged_need w who call need built lacks.need_is) (built_unlogged (state_of w) who call built) _

-- ---- an `fsync` that answers ok

-- a handle that stands for nothing is refused
unknown_synced : (s : State) (who : Who) (h : Handle) → opened s.tables who h ≡ None → (step s who (Call.Fsync h)).outcome.reply ≡ Reply.Ok → ⊥
unknown_synced s who h none ok =
    let refused = ap (λ (o : Option Description). (stepped s (first (row (is_none o) Errno.EBADF ∷ [])) (fsync_done s who h)).outcome.reply) none in
    let never : Reply.Error Errno.EBADF ≡ Reply.Ok = sym refused ∙ ok in
    cc

module _ (k : View) (t : Tables) (staging : Staged) (files : Files) (w : WorldView) (who : Who) (call : Call) (one : AtCall k t staging files w who call) where
  abbrev now : StandsAt w.geometry k t (kept_of w staging files) true (length w.history) (state_of w)
  now = stands_now k t staging files w who call one

  -- WHAT A CALL ASKS
  pub runs_in_some : RunsInSome k t files
  runs_in_some = record { geometry_is = w.geometry; kept = kept_of w staging files; made = length w.history; state = state_of w; runs = now }

  pub is_spelled : NamesAreSpelled call
  is_spelled = one.world.spelled who (length (items_of w.history who)) call one.begins.next

  pub lets_now : LetsJobsBe (state_of w) (who, call) now.numbers now.jobs
  lets_now = lets k t staging files w one.world one.begins.awake one.out who call one.begins.next one.up one.none one.begins.idle

  pub few_next : length w.history + 1 < 2 ^ 31
  few_next = (let calls = few_calls k t staging files w who call one in omega (arith, calls))

  -- A HANDLE THAT AN `fsync` ANSWERS OK stands for an open file.
  synced : (h : Handle) (o : Option Description) → opened t who h ≡ o → (step (state_of w) who (Call.Fsync h)).outcome.reply ≡ Reply.Ok → is_some o ≡ true
  synced h (Some d) is ok = refl
  synced h None is ok =
      let there = ap (λ (u : Tables). opened u who h) now.tables ∙ same_opened (number now.numbers) t who h in
      absurd (unknown_synced (state_of w) who h (there ∙ ap (option_map (described_as (number now.numbers))) is) ok)

  pub of_open_file : (c : Call) → IsOfOpenFile who c w
  of_open_file (Call.Fsync h) = λ ok. subst (λ (d : Disk). is_some (opened d.tables who h) ≡ true) (sym one.world.disk_is) (synced h (opened t who h) refl ok)
  of_open_file other = tt

  -- ---- it returned

  module _ (l : View) (u : Tables) (laid : Files) (base : l.volume.base ≡ k.volume.base) (ends : FilesEnd l.volume laid) (stands : StandsAt w.geometry l u (kept_of w staging laid) true (length w.history + 1) (after_call (state_of w) (who, call))) where
    abbrev pub return_view : WorldView
    return_view = record w { history = w.history ++ item_of w who call ∷ []; acts = w.acts + 1; disk = disk_of l u staging laid }

    pub ran : IsWorldOver l u staging laid return_view
    ran = returned k t staging files w one.world one.begins.awake one.out who call one.begins.next one.up one.none one.begins.idle l u laid base ends stands

    pub returns : (before after : Supply) → put_by (state_of w) who call ≡ None → ((need left : ℕ) → ¬ LacksBeside w who call need left) → Publishes who call w return_view → is_on after ≡ true
        → (tree (after_call (state_of w) (who, call)) ≡ tree (state_of w)) ⊎ TakesAStep before after → Returns who w return_view before after
    returns before after unput enough published on spent = record {
      call = call;
      begins = one.begins;
      unlogged = unlogged_by (state_of w) who call unput;
      new_is = refl;
      enough = enough;
      holes = no_holes w who call (unput_holes w who call unput);
      published = published;
      of_file = of_open_file call;
      staging = λ mode. sym (ap (λ (d : Disk). d.staging) one.world.disk_is);
      in_place = λ mode. unput_in_place w who call return_view.disk unput;
      stay = others_returned k t staging files w one.world one.begins.awake one.out who call one.begins.next one.up one.none one.begins.idle l u laid base ends stands;
      on = on;
      spent = λ mode. spent;
    }

  -- with this outcome
  pub item_with_outcome : (outcome : Outcome) → (step (state_of w) who call).outcome ≡ outcome → item_of w who call ≡ item_with w.history who call outcome
  item_with_outcome outcome is = ap (item_with w.history who call) is

  -- as `run_call` answers it
  pub stands_by : (l : View) (u : Tables) (laid : Files) (outcome : Outcome) → Answers who call k t files l u laid outcome
      → StandsAt w.geometry l u (kept_of w staging laid) true (length w.history + 1) (after_call (state_of w) (who, call)) × ((step (state_of w) who call).outcome ≡ outcome)
  stands_by l u laid outcome answers = answers w.geometry (kept_of w staging files) (length w.history) (state_of w) few_next now lets_now

  pub spent_by : (before after : Supply) → IsSpent who call k t files before after → (tree (after_call (state_of w) (who, call)) ≡ tree (state_of w)) ⊎ TakesAStep before after
  spent_by before after spent = spent w.geometry (kept_of w staging files) (length w.history) (state_of w) now

  -- ---- it lost its power

  module _ (l : View) (u : Tables) (laid : Files) (loses : Loses who call k t files l) (leaves : LeavesDevice who call k t files l) where
    left : IsLeftOf w.geometry k.cells l.cells
    left = leaves w.geometry (kept_of w staging files) (length w.history) (state_of w) few_next now lets_now

    promise : KeepsWhenLost k.volume l.cells (kept_of w staging files) now.jobs w.start w.history ((who, call) ∷ [])
    promise = loses w.geometry (kept_of w staging files) (length w.history) w.start w.history few_next now lets_now

    abbrev pub off_view : WorldView
    off_view = lost_view w ((who, call) ∷ []) (w.acts + 1) (disk_of l u staging laid)

    pub call_lost : IsWorldOver l u staging laid off_view
    call_lost = lost_call k t staging files w one.world one.begins.awake one.out who call one.begins.next one.up one.none l u staging laid left promise

    pub call_loses : (after : Supply) → is_on after ≡ false → LosesCall who w off_view after
    call_loses after off = record {
      call = call;
      next = one.begins.next;
      awake = one.begins.awake;
      new_is = refl;
      stay = others_lost k t staging files w one.world one.begins.awake one.out who call one.begins.next one.up one.none l u staging laid left promise;
      off = off;
    }
