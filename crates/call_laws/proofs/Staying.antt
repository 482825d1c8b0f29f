-- A World at its next call, and how it stays where the call is not begun.
use Rattle.std.specs.Prelude.{◌≡◌, ◌≢◌, ◌⊎◌, ◌≤◌, ◌<◌, ◌+◌, ◌^◌, ℕ, true, List, [], ◌∷◌, length, Option, Some, None, sum_by, refl}
use Rattle.std.proofs.Common.{arith, ap, ◌∙◌, sym, subst, inl, inr}
use Rattle.std.proofs.lemmas.Bool.{cases_lt}
use Rattle.world_view_laws.specs.eof_laws.pm_model.Powers.{is_on, Supply}
use Rattle.world_view_laws.specs.eof_laws.file_table.Files.{Files}
use Rattle.world_view_laws.specs.eof_laws.k_split_model.View.{View}
use Rattle.world_view_laws.specs.eof_laws.posix_types.declared.call.Call.{Call}
use Rattle.world_view_laws.specs.eof_laws.posix_types.declared.call.Mode.{Mode}
use Rattle.world_view_laws.specs.eof_laws.posix_types.declared.call.Who.{Who}
use Rattle.world_view_laws.specs.eof_laws.posix_tables.Open.{Tables}
use Rattle.world_view_laws.specs.eof_laws.posix_laws.Views.{need_of}
use Rattle.world_view_laws.specs.eof_laws.posix_spec.State.{State}
use Rattle.world_view_laws.specs.in_flight.Counts.{history_within}
use Rattle.world_view_laws.specs.in_flight.staging_files.GivesUp.{nothing_staged}
use Rattle.world_view_laws.specs.in_flight.staging_files.Keeps.{Staged}
use Rattle.world_view_laws.specs.in_flight.world_image_laws.Settings.{setting_run}
use Rattle.world_view_laws.specs.in_flight.live_model.Standing.{JobOut, StandsAt}
use Rattle.world_view_laws.proofs.Beginning.{standing}
use Rattle.world_view_laws.proofs.Ending.{no_both}
use Rattle.world_view_laws.specs.declared.views.over.Over.{Over}
use Rattle.world_view_laws.proofs.write_end_proofs.Homes.{has_blocks_out}
use Rattle.world_view_laws.specs.Begins.{EndsRound, LacksBeside, LacksHoles, LacksSpace, OthersStay}
use Rattle.world_view_laws.specs.eof_laws.Ends.{FilesEnd}
use Rattle.world_view_laws.specs.Views.{disk_of, IsGoing, IsWorldOver, kept_of, state_of, WorldView}
use Rattle.call_laws.specs.Calls.{AtCall}

no_items : {X : Type 0} → (xs : List X) → length xs ≡ 0 → xs ≡ []
no_items [] is = refl
no_items (x ∷ xs) is = absurd (omega (arith, is))

-- no job, no needs
no_needs : (s : State) (pending : List JobOut) → pending ≡ [] → sum_by (λ (p : JobOut). need_of s p.who p.call) pending ≡ 0
no_needs s [] none = refl
no_needs s (p ∷ pending) none = cc

module _ (k : View) (t : Tables) (staging : Staged) (files : Files) (w : WorldView) (who : Who) (call : Call) (one : AtCall k t staging files w who call) where
  abbrev pub stands_now : StandsAt w.geometry k t (kept_of w staging files) true (length w.history) (state_of w)
  stands_now = standing k t staging files w one.world one.begins.awake one.out who call one.begins.next one.up one.none

  pub going_now : IsGoing k t staging files w
  going_now = one.world.going one.begins.awake

  pub mode_now : (state_of w).mode ≢ Mode.Posix
  mode_now posix = one.world.mode (sym (setting_run w.start w.history).mode ∙ posix)

  pub few_calls : length w.history ≤ 4096
  few_calls =
      let within = history_within w.scripts w.history one.world.scripted in
      let few = one.world.few in
      omega (arith, within, few)

  pub few_made : length w.history < 2 ^ 62
  few_made = (let few = few_calls in omega (arith, few))

  -- THEY STAND TOGETHER STILL, in the same state, over another K-Split.
  module _ (l : View) (staged : Staged) (laid : Files) (runs : length staged.out ≡ length staging.out) (base : l.volume.base ≡ k.volume.base) (ends : FilesEnd l.volume laid)
      (stands : StandsAt w.geometry l t (kept_of w staged laid) true (length w.history) (state_of w)) where
    going_still : (over : Option Over) (acts : ℕ) → (over ≡ None → staged.out ≡ [] → staged ≡ nothing_staged) → IsGoing l t staged laid (record w { over = over; acts = acts; disk = disk_of l t staged laid })
    going_still over acts bare = record {
      stands = λ mode. subst (λ b. StandsAt w.geometry l t (kept_of w staged laid) b (length w.history) (state_of w)) (sym one.out) stands;
      gathers = λ posix. absurd (one.world.mode posix);
      waits = λ posix. absurd (one.world.mode posix);
      counted = λ mode. runs ∙ going_now.counted mode;
      runs = λ settled. runs ∙ going_now.runs settled;
      bare = bare;
      none_unfinished = going_now.none_unfinished;
      none_home = going_now.none_home;
      base = going_now.base ∙ sym base;
      spelled = going_now.spelled;
      ends = ends;
      drafts_end = going_now.drafts_end;
      log_home = λ home. no_both w.lines_out one.out home _;
    }

    -- the jobs of others stay out
    pub others_still : (over : Option Over) (acts : ℕ) → OthersStay w (record w { over = over; acts = acts; disk = disk_of l t staged laid }) who
    others_still over acts = (
      λ q other apart is. record { there = is.there; who = is.who; draft = is.draft; blocks = is.blocks; words = is.words; lent = has_blocks_out w.geometry l t (kept_of w staged laid) (length w.history) (state_of w) q stands is.there },
      λ q other apart is. record { there = is.there; who = is.who; draft = is.draft; blocks = is.blocks; words = is.words; lent = has_blocks_out w.geometry l t (kept_of w staged laid) (length w.history) (state_of w) q stands is.there },
    )

    abbrev pub same_view : WorldView
    same_view = record w { disk = disk_of l t staged laid }

    -- The World stands as before,
    pub unchanged : staged ≡ staging → IsWorldOver l t staged laid same_view
    unchanged same = record {
      mode = one.world.mode;
      few = one.world.few;
      threads = one.world.threads;
      spelled = one.world.spelled;
      legal = one.world.legal;
      scripted = one.world.scripted;
      open_calls = one.world.open_calls;
      counted = record {
        settled = one.world.counted.settled;
        fresh = one.world.counted.fresh;
        out = one.world.counted.out;
        claimed = one.world.counted.claimed;
        late = one.world.counted.late;
        acts = one.world.counted.acts;
        acts_on = one.world.counted.acts_on;
        acts_going = one.world.counted.acts_going;
        low = one.world.counted.low;
      };
      disk_is = refl;
      going = λ still. going_still w.over w.acts (λ goes none. same ∙ going_now.bare goes (ap (λ (s : Staged). s.out) (sym same) ∙ none));
      gone = λ off. no_both w.lost off one.begins.awake _;
    }

    -- at the same call;
    pub still_at : staged ≡ staging → AtCall l t staged laid same_view who call
    still_at same = record {
      world = unchanged same;
      out = one.out;
      begins = record { next = one.begins.next; going = one.begins.going; awake = one.begins.awake; idle = one.begins.idle };
      up = one.up;
      none = one.none;
    }

    -- THE ROUND IS OVER for want of space.
    module _ (needed left : ℕ) (late : (w.pending ≢ []) ⊎ (w.settled < length w.history)) where
      abbrev pub over_view : WorldView
      over_view = record w { over = Some (Over.Space needed left); acts = w.acts + 1; disk = disk_of l t staged laid }

      late_world : (w.pending ≢ []) ⊎ (w.settled < length w.history) → (w.pending ≢ []) ⊎ (1 ≤ w.given_up) ⊎ (w.settled < length w.history)
      late_world (inl job) = inl job
      late_world (inr returned) = inr (inr returned)

      pub round_over : IsWorldOver l t staged laid over_view
      round_over = record {
        mode = one.world.mode;
        few = one.world.few;
        threads = one.world.threads;
        spelled = one.world.spelled;
        legal = one.world.legal;
        scripted = one.world.scripted;
        open_calls = one.world.open_calls;
        counted = record {
          settled = one.world.counted.settled;
          fresh = λ never. one.world.counted.fresh one.begins.going;
          out = one.world.counted.out;
          claimed = one.world.counted.claimed;
          late = λ some. late_world late;
          acts = (let few = one.world.counted.acts_going one.begins.awake one.begins.going in omega (arith, few));
          acts_on = λ on. (let few = one.world.counted.acts_going one.begins.awake one.begins.going in omega (arith, few));
          acts_going = λ on none. (let never : Some (Over.Space needed left) ≡ None = none in cc);
          low = one.world.counted.low;
        };
        disk_is = refl;
        going = λ on. going_still (Some (Over.Space needed left)) (w.acts + 1) (λ goes none. (let never : Some (Over.Space needed left) ≡ None = goes in cc));
        gone = λ off. no_both w.lost off one.begins.awake _;
      }

      pub ends_round : LacksSpace w (disk_of l t staged laid) who call needed left → (LacksBeside w who call needed left ⊎ LacksHoles w who call needed left → disk_of l t staged laid ≡ w.disk)
          → (after : Supply) → is_on after ≡ true → EndsRound who w over_view after needed left
      ends_round cause nothing after on = record {
        call = call;
        begins = one.begins;
        cause = cause;
        late = late;
        new_is = refl;
        nothing = nothing;
        stay = others_still (Some (Over.Space needed left)) (w.acts + 1);
        on = on;
      }

  -- THE JOBS THAT ARE OUT LEAVE IT TOO LITTLE: the round is over, and nothing else changed.
  module _ (needed left : ℕ) (lacks : LacksBeside w who call needed left) where
    some_job : w.pending ≢ []
    some_job none =
        let less = lacks.lacks in
        let rest = lacks.left_is in
        let fits = lacks.fits in
        let zero = no_needs (state_of w) w.pending none in
        omega (arith, less, rest, fits, zero)

    pub lacks_over : IsWorldOver k t staging files (record w { over = Some (Over.Space needed left); acts = w.acts + 1; disk = disk_of k t staging files })
    lacks_over = round_over k staging files refl refl going_now.ends stands_now needed left (inl some_job)

    pub lacks_ends : (after : Supply) → is_on after ≡ true → EndsRound who w (record w { over = Some (Over.Space needed left); acts = w.acts + 1; disk = disk_of k t staging files }) after needed left
    lacks_ends = ends_round k staging files refl refl going_now.ends stands_now needed left (inl some_job) (inl lacks) (λ refused. sym one.world.disk_is)

  -- where no run is out nothing is staged
  pub bare_at_rest : staging.out ≡ [] → staging ≡ nothing_staged
  bare_at_rest none = going_now.bare one.begins.going none

  -- a run is out only beside a job or behind a call that returned
  pub late_run : staging.out ≢ [] → (w.pending ≢ []) ⊎ (w.settled < length w.history)
  late_run some = elim (cases_lt w.settled (length w.history)) [
    | inl below ↦ inr below
    | inr past ↦
        let settled : w.settled ≡ length w.history = omega (arith, past, one.world.counted.settled) in
        inl (λ none. some (no_items staging.out (going_now.runs settled ∙ ap (λ (ps : List JobOut). length ps) none)))
  ]
