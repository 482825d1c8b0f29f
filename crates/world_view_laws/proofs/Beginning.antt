-- A call of a World begins.
use Rattle.std.specs.Prelude.{◌≡◌, ◌≤◌, ◌+◌, ◌++◌, ℕ, true, false, List, [], ◌∷◌, length, Some, None, refl}
use Rattle.std.proofs.Common.{arith, ap, ◌∙◌, sym, subst, inl, inr, length-append}
use Rattle.file_calls.specs.batch_laws.Together.{PosixStandsAt}
use Rattle.file_calls.specs.eof_laws.Ends.{DraftEnds, FilesEnd}
use Rattle.in_flight.specs.file_table.Files.{Files}
use Rattle.in_flight.specs.k_split_model.View.{View}
use Rattle.file_calls.specs.eof_laws.list_laws.Members.{In, pushed-In}
use Rattle.file_calls.specs.k_split_laws.Left.{IsLeftOf}
use Rattle.file_calls.specs.eof_laws.posix_types.declared.call.Call.{Call}
use Rattle.file_calls.specs.eof_laws.posix_types.declared.call.Mode.{Mode}
use Rattle.file_calls.specs.eof_laws.posix_types.declared.call.Who.{Who}
use Rattle.file_calls.specs.eof_laws.posix_tables.Open.{Tables}
use Rattle.in_flight.specs.posix_spec.Run.{after_call}
use Rattle.in_flight.specs.posix_spec.Scripted.{IsSetUp}
use Rattle.in_flight.specs.posix_spec.State.{State}
use Rattle.in_flight.specs.posix_spec.Step.{step}
use Rattle.in_flight.specs.posix_spec.Unfinished.{IsNextCall}
use Rattle.in_flight.specs.commute_laws.Frames.{AreThreads}
use Rattle.in_flight.specs.crash_spec.Busy.{is_busy}
use Rattle.in_flight.specs.Histories.{are_threads, Grows, grows}
use Rattle.in_flight.specs.staging_files.GivesUp.{nothing_staged}
use Rattle.in_flight.specs.staging_files.Keeps.{Staged}
use Rattle.in_flight.specs.live_model.Losses.{KeepsWhenLost}
use Rattle.in_flight.specs.live_model.Standing.{JobOut, StandsAt}
use Rattle.in_flight.specs.live_model.Jobs.{SpellCall}
use Rattle.in_flight.specs.world_image_laws.Back.{IsKeptBack}
use Rattle.in_flight.specs.world_step_laws.Steps.{LetsJobsBe}
use Rattle.write_end.specs.Blocks.{AreBlocksOut}
use Rattle.write_end.specs.Ends.{begun_by}
use Rattle.write_end.specs.Lost.{IsLostWith}
use Rattle.write_end.proofs.Going.{loses_call, lost_alike}
use Rattle.write_end.proofs.Homes.{has_blocks_out, leaves_blocks}
use Rattle.in_flight.proofs.CountsJobs.{lets_be, words_stay}
use Rattle.in_flight.proofs.Taking.{other_who}
use Rattle.world_view_laws.proofs.Ending.{no_both}
use Rattle.world_view_laws.proofs.Losing.{lost_view, size_now, world_lost}
use Rattle.world_view_laws.proofs.Modes.{geometry_now}
use Rattle.world_view_laws.proofs.PosixLosing.{posix_lost}
use Rattle.world_view_laws.proofs.OpenCalls.{next_of_job, open_began, open_called, open_returned}
use Rattle.world_view_laws.specs.Begins.{item_of, OthersStay}
use Rattle.world_view_laws.specs.Views.{Disk, disk_of, files_out, first_by, HasNone, IsGoing, IsLost, IsLostOut, IsWorldOver, kept_of, next_of, state_of, WorldView}

module _ (k : View) (t : Tables) (staging : Staged) (files : Files) (w : WorldView) (world : IsWorldOver k t staging files w) (on : w.lost ≡ false) (out : w.lines_out ≡ true)
    (who : Who) (call : Call) (next : next_of w who ≡ Some call) (up : IsSetUp w.scripts w.history who) (none : HasNone w who) where
  going : IsGoing k t staging files w
  going = world.going on

  pub standing : StandsAt w.geometry k t (kept_of w staging files) true (length w.history) (state_of w)
  standing = subst (λ b. StandsAt w.geometry k t (kept_of w staging files) b (length w.history) (state_of w)) out (going.stands world.mode)

  next_out : (p : JobOut) → In p w.pending → IsNextCall w.scripts w.history (begun_by p)
  next_out p at = next_of_job w.scripts w.history w.pending w.unfinished world.open_calls p at

  own_next : IsNextCall w.scripts w.history (who, call)
  own_next = record { call = next; set_up = up }

  threads : (p : JobOut) → In p w.pending → AreThreads p.who who
  threads p at =
      are_threads w.scripts w.history p.who who p.call call (other_who who p.who (λ same. none p at (sym same))) (next_out p at).call (next_out p at).set_up next up

  -- A CALL THAT NO JOB KEEPS WAITING LETS ALL JOBS BE.
  pub lets : is_busy (state_of w) (files_out w) (who, call) ≡ false → LetsJobsBe (state_of w) (who, call) standing.numbers standing.jobs
  lets idle = lets_be w.geometry k t (kept_of w staging files) _ (length w.history) (state_of w) standing (who, call) idle threads

  -- ---- it returned

  abbrev pub return_view : View → Tables → Files → WorldView
  return_view l u laid = record w { history = w.history ++ item_of w who call ∷ []; acts = w.acts + 1; disk = disk_of l u staging laid }

  grown : Grows w.start w.scripts w.history (w.history ++ item_of w who call ∷ []) who call
  grown = grows w.start w.scripts w.history (w.history ++ item_of w who call ∷ []) who call (step (state_of w) who call).outcome world.legal world.scripted next up refl refl

  -- THE CALL RETURNED, where the World goes on behind it.
  module _ (l : View) (u : Tables) (staged : Staged) (laid : Files) where
    abbrev pub returned_view : WorldView
    returned_view = record w { history = w.history ++ item_of w who call ∷ []; acts = w.acts + 1; disk = disk_of l u staged laid }

    returned_as : IsGoing l u staged laid returned_view → IsWorldOver l u staged laid returned_view
    returned_as goes_on = record {
      mode = world.mode;
      few = world.few;
      threads = world.threads;
      spelled = world.spelled;
      legal = grown.legal;
      scripted = grown.scripted;
      open_calls = open_returned w.scripts w.history w.pending w.unfinished (item_of w who call) going.none_unfinished next none world.open_calls;
      counted = record {
        settled = omega (arith, world.counted.settled, grown.longer);
        fresh = world.counted.fresh;
        out = world.counted.out;
        claimed = λ still some. omega (arith, world.counted.settled, grown.longer);
        late = λ over. inr (inr (omega (arith, world.counted.settled, grown.longer)));
        acts = omega (arith, world.counted.acts, world.counted.settled, grown.longer);
        acts_on = λ still. omega (arith, world.counted.acts_on on, world.counted.settled, grown.longer);
        acts_going = λ still going_on. omega (arith, world.counted.acts_going on going_on, world.counted.settled, grown.longer);
        low = world.counted.low;
      };
      disk_is = refl;
      going = λ still. goes_on;
      gone = λ off. no_both w.lost off on _;
    }

    -- In POSIX mode, by what gathers then; the call may have staged runs.
    module _ (posix : w.start.mode ≡ Mode.Posix) (base : l.volume.base ≡ k.volume.base) (bare : w.over ≡ None → staged.out ≡ [] → staged ≡ nothing_staged)
        (gathers : PosixStandsAt w.geometry l u (kept_of w staged laid) true (length w.history + 1) w.start (w.history ++ item_of w who call ∷ [])) where
      posix_going : IsGoing l u staged laid returned_view
      posix_going = record {
        stands = λ other. absurd (other posix);
        gathers = λ same.
            subst (λ b. PosixStandsAt w.geometry l u (kept_of w staged laid) b (length (w.history ++ item_of w who call ∷ [])) w.start (w.history ++ item_of w who call ∷ [])) (sym out)
            (subst (λ n. PosixStandsAt w.geometry l u (kept_of w staged laid) true n w.start (w.history ++ item_of w who call ∷ [])) (sym grown.longer) gathers);
        waits = λ same settled. absurd (omega (arith, settled, world.counted.settled, grown.longer));
        counted = λ other. absurd (other posix);
        runs = λ settled. absurd (omega (arith, settled, world.counted.settled, grown.longer));
        bare = bare;
        none_unfinished = going.none_unfinished;
        none_home = going.none_home;
        base = going.base ∙ sym base;
        spelled = going.spelled;
        ends = gathers.ends;
        drafts_end = going.drafts_end;
        log_home = λ home. no_both w.lines_out out home _;
      }

      pub posix_returned : IsWorldOver l u staged laid returned_view
      posix_returned = returned_as posix_going

      -- no job is out
      pub others_posix : OthersStay w returned_view who
      others_posix = (λ q other apart is. absurd (subst (In q) (going.gathers posix).none_out is.there), λ q other apart is. absurd (subst (In q) (going.gathers posix).none_out is.there))

  -- in strict and in sync mode
  module _ (idle : is_busy (state_of w) (files_out w) (who, call) ≡ false) (l : View) (u : Tables) (laid : Files) (base : l.volume.base ≡ k.volume.base) (ends : FilesEnd l.volume laid)
      (stands : StandsAt w.geometry l u (kept_of w staging laid) true (length w.history + 1) (after_call (state_of w) (who, call))) where
    going2 : IsGoing l u staging laid (return_view l u laid)
    going2 = record {
      stands = λ mode.
          subst (λ b. StandsAt w.geometry l u (kept_of (return_view l u laid) staging laid) b (length (w.history ++ item_of w who call ∷ [])) (state_of (return_view l u laid))) (sym out)
          (subst (StandsAt w.geometry l u (kept_of (return_view l u laid) staging laid) true (length (w.history ++ item_of w who call ∷ []))) (sym grown.run_is)
          (subst (λ n. StandsAt w.geometry l u (kept_of (return_view l u laid) staging laid) true n (after_call (state_of w) (who, call))) (sym grown.longer) stands));
      gathers = λ posix. absurd (world.mode posix);
      waits = λ posix. absurd (world.mode posix);
      counted = going.counted;
      runs = λ settled. absurd (omega (arith, settled, world.counted.settled, grown.longer));
      bare = going.bare;
      none_unfinished = going.none_unfinished;
      none_home = going.none_home;
      base = going.base ∙ sym base;
      spelled = going.spelled;
      ends = ends;
      drafts_end = going.drafts_end;
      log_home = λ home. no_both w.lines_out out home _;
    }

    -- THE CALL RETURNED.
    pub returned : IsWorldOver l u staging laid (return_view l u laid)
    returned = returned_as l u staging laid going2

    words2 : (q : JobOut) (words : List ℕ) → In q w.pending → SpellCall (state_of w) q words → SpellCall (state_of (return_view l u laid)) q words
    words2 q words at spells =
        subst (λ (s : State). SpellCall s q words) (sym grown.run_is)
        (words_stay w.geometry k t (kept_of w staging files) _ (length w.history) (state_of w) standing (who, call) (lets idle) w.geometry l u (kept_of w staging laid) _ _ stands refl q words at spells)

    -- the jobs of others stay out
    pub others_returned : OthersStay w (return_view l u laid) who
    others_returned = (
      λ q other apart is. record { there = is.there; who = is.who; draft = is.draft; blocks = is.blocks; words = words2 q other.words is.there is.words; lent = has_blocks_out w.geometry l u (kept_of w staging laid) _ _ q stands is.there },
      λ q other apart is. record { there = is.there; who = is.who; draft = is.draft; blocks = is.blocks; words = words2 q other.words is.there is.words; lent = has_blocks_out w.geometry l u (kept_of w staging laid) _ _ q stands is.there },
    )

  -- ---- it became a job

  abbrev pub job_view : View → Staged → Files → JobOut → WorldView
  job_view l staged laid p = record w { pending = w.pending ++ p ∷ []; acts = w.acts + 1; disk = disk_of l t staged laid }

  module _ (going_on : w.over ≡ None) (p : JobOut) (who_is : p.who ≡ who) (call_is : p.call ≡ call) (l : View) (staged : Staged) (laid : Files) (base : l.volume.base ≡ k.volume.base) (ends : FilesEnd l.volume laid) (own_ends : DraftEnds p.draft)
      (runs : length staged.out ≡ length staging.out + 1) (few : length (w.pending ++ p ∷ []) ≤ 9)
      (stands : StandsAt w.geometry l t (record (kept_of w staged laid) { pending = w.pending ++ p ∷ [] }) true (length w.history) (state_of w)) where
    going3 : IsGoing l t staged laid (job_view l staged laid p)
    going3 = record {
      stands = λ mode. subst (λ b. StandsAt w.geometry l t (kept_of (job_view l staged laid p) staged laid) b (length w.history) (state_of w)) (sym out) stands;
      gathers = λ posix. absurd (world.mode posix);
      waits = λ posix. absurd (world.mode posix);
      counted = λ mode. (let was = going.counted mode in omega (arith, runs, was, length-append w.pending (p ∷ [])));
      runs = λ settled. (let was = going.runs settled in omega (arith, runs, was, length-append w.pending (p ∷ [])));
      bare = λ goes none. absurd (let zero = ap length none in omega (arith, runs, zero));
      none_unfinished = going.none_unfinished;
      none_home = going.none_home;
      base = going.base ∙ sym base;
      spelled = going.spelled;
      ends = ends;
      drafts_end = λ q at. elim (pushed-In w.pending p q at) [
        | inl old ↦ going.drafts_end q old
        | inr one ↦ subst (λ (x : JobOut). DraftEnds x.draft) one own_ends
      ];
      log_home = λ home. no_both w.lines_out out home _;
    }

    job_next : IsNextCall w.scripts w.history (begun_by p)
    job_next = record {
      call = ap (next_of w) who_is ∙ (next ∙ ap (λ c. Some c) (sym call_is));
      set_up = subst (IsSetUp w.scripts w.history) (sym who_is) up;
    }

    longer : length (w.pending ++ p ∷ []) ≡ length w.pending + 1
    longer = length-append w.pending (p ∷ [])

    no_given : w.given_up ≡ 0
    no_given = world.counted.fresh going_on

    -- IT BECAME A JOB.
    pub began : IsWorldOver l t staged laid (job_view l staged laid p)
    began = record {
      mode = world.mode;
      few = world.few;
      threads = world.threads;
      spelled = world.spelled;
      legal = world.legal;
      scripted = world.scripted;
      open_calls = open_began w.scripts w.history w.pending w.unfinished p going.none_unfinished job_next (λ q at same. none q at (same ∙ who_is)) world.open_calls;
      counted = record {
        settled = world.counted.settled;
        fresh = world.counted.fresh;
        out = omega (arith, few, no_given);
        claimed = world.counted.claimed;
        late = λ over. absurd (over going_on);
        acts = omega (arith, world.counted.acts, longer);
        acts_on = λ still. omega (arith, world.counted.acts_on on, longer);
        acts_going = λ still never. omega (arith, world.counted.acts_going on going_on, longer);
        low = world.counted.low;
      };
      disk_is = refl;
      going = λ still. going3;
      gone = λ off. no_both w.lost off on _;
    }

    there : (q : JobOut) → In q w.pending → In q (w.pending ++ p ∷ [])
    there q at = front w.pending at where
      front : (xs : List JobOut) → In q xs → In q (xs ++ p ∷ [])
      front [] is = absurd is
      front (x ∷ xs) (inl same) = inl same
      front (x ∷ xs) (inr rest) = inr (front xs rest)

    pub others_began : OthersStay w (job_view l staged laid p) who
    others_began = (
      λ q other apart is. record { there = there q is.there; who = is.who; draft = is.draft; blocks = is.blocks; words = is.words; lent = has_blocks_out w.geometry l t (kept_of (job_view l staged laid p) staged laid) _ _ q stands (there q is.there) },
      λ q other apart is. record { there = there q is.there; who = is.who; draft = is.draft; blocks = is.blocks; words = is.words; lent = has_blocks_out w.geometry l t (kept_of (job_view l staged laid p) staged laid) _ _ q stands (there q is.there) },
    )

  -- ---- it lost its power

  module _ (l : View) (u : Tables) (staged : Staged) (laid : Files) (left : IsLeftOf w.geometry k.cells l.cells) where
    -- what is lost, and the promise then
    abbrev IsLostCall : Type 0
    IsLostCall = IsLostWith k.volume l.cells (kept_of w staging files) w.start w.history ((who, call) ∷ [])

    lost_out : IsLostCall → IsLostOut staged laid (lost_view w ((who, call) ∷ []) (w.acts + 1) (disk_of l u staged laid))
    lost_out lost = record {
      volume = k.volume;
      geometry = geometry_now k t staging files w going;
      base = sym going.base;
      none_home = going.none_home;
      size = left.size ∙ size_now k t staging files w world on;
      at = lost_alike k.volume l.cells (kept_of w staging files) (kept_of w staged laid) w.start w.history ((who, call) ∷ []) refl refl refl lost;
    }

    lost_as : IsLostCall → IsWorldOver l u staged laid (lost_view w ((who, call) ∷ []) (w.acts + 1) (disk_of l u staged laid))
    lost_as lost =
        world_lost k l t u staging staged files laid w ((who, call) ∷ []) (w.acts + 1) world (omega (arith, world.counted.acts_on on))
        (open_called w.scripts w.history w.pending w.unfinished (who, call) going.none_unfinished own_next none world.open_calls)
        (subst (IsLost staged laid (lost_view w ((who, call) ∷ []) (w.acts + 1) (disk_of l u staged laid))) (sym out) (lost_out lost))

    still_out : (q : JobOut) → AreBlocksOut q.blocks w.disk.cells → AreBlocksOut q.blocks l.cells
    still_out q was = (leaves_blocks w.geometry k.cells l.cells q.blocks left).0 (subst (AreBlocksOut q.blocks) (ap (λ (d : Disk). d.cells) world.disk_is) was)

    -- the jobs of others stay out
    pub others_left : OthersStay w (lost_view w ((who, call) ∷ []) (w.acts + 1) (disk_of l u staged laid)) who
    others_left = (
      λ q other apart is. record { there = is.there; who = is.who; draft = is.draft; blocks = is.blocks; words = is.words; lent = still_out q is.lent },
      λ q other apart is. record { there = is.there; who = is.who; draft = is.draft; blocks = is.blocks; words = is.words; lent = still_out q is.lent },
    )

    -- IT LOST ITS POWER in POSIX mode.
    pub posix_lost_call : w.start.mode ≡ Mode.Posix → IsKeptBack k.volume l.cells (first_by w.geometry w.first) [] [] w.start w.history ((who, call) ∷ [])
        → IsWorldOver l u staged laid (lost_view w ((who, call) ∷ []) (w.acts + 1) (disk_of l u staged laid))
    posix_lost_call posix promise =
        lost_as (posix_lost w.geometry k t (kept_of w staging files) (length w.history) w.start w.history ((who, call) ∷ []) l.cells
        (subst (λ b. PosixStandsAt w.geometry k t (kept_of w staging files) b (length w.history) w.start w.history) out (going.gathers posix)) left promise)

  module _ (l : View) (u : Tables) (staged : Staged) (laid : Files) (left : IsLeftOf w.geometry k.cells l.cells)
      (promise : KeepsWhenLost k.volume l.cells (kept_of w staging files) standing.jobs w.start w.history ((who, call) ∷ [])) where
    -- IT LOST ITS POWER in strict or in sync mode.
    pub lost_call : IsWorldOver l u staged laid (lost_view w ((who, call) ∷ []) (w.acts + 1) (disk_of l u staged laid))
    lost_call =
        lost_as l u staged laid left
        (loses_call w.geometry k t (kept_of w staging files) (length w.history) w.start w.history ((who, call) ∷ []) l.cells world.mode standing going.spelled left promise)

    pub others_lost : OthersStay w (lost_view w ((who, call) ∷ []) (w.acts + 1) (disk_of l u staged laid)) who
    others_lost = others_left l u staged laid left
