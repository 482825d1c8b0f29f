-- What the beginning of a write answers, by what it asked for and how it went on.
use Rattle.std.specs.Prelude.{◌≡◌, ◌≢◌, ◌≤◌, ◌<◌, ◌+◌, ◌-◌, nat_lt, ℕ, true, false, List, [], ◌∷◌, length, Option, None, Some, refl, Result, Ok, Err}
use Rattle.std.specs.declared.alloc.AllocError.{AllocError}
use Rattle.std.specs.Option.{option_map_or}
use Rattle.std.proofs.Common.{arith, ap, ◌∙◌, sym, subst, inl, inr}
use Rattle.std.proofs.lemmas.Bool.Decides.{nat_tests}
use Rattle.std.proofs.lemmas.Option.{same_Some}
use Rattle.data_route.specs.declared.writes.WritePlan.{WritePlan}
use Rattle.data_route.specs.Writes.{plan_of}
use Rattle.posix_types.specs.declared.call.Call.{Call}
use Rattle.posix_types.specs.declared.call.Mode.{Mode}
use Rattle.posix_types.specs.declared.call.Who.{Who}
use Rattle.posix_types.specs.declared.handle.Handle.{Handle}
use Rattle.posix_types.specs.declared.item.Outcome.{Outcome}
use Rattle.posix_tables.specs.declared.open.Description.{Description}
use Rattle.posix_tables.specs.Nodes.{bytes_of, node_at}
use Rattle.posix_tables.specs.Open.{is_open, Tables}
use Rattle.write_plan.specs.pm_model.Powers.{is_on, Supply}
use Rattle.write_plan.specs.layout_model.Places.{data_blocks}
use Rattle.write_plan.specs.crash_spec.Busy.{is_logged_put}
use Rattle.write_plan.specs.file_table.Files.{Files}
use Rattle.write_plan.specs.k_split_model.View.{View}
use Rattle.write_plan.specs.posix_laws.Puts.{put_bytes}
use Rattle.write_plan.specs.posix_laws.RowLaws.{Accepts, Accepts-from_rows}
use Rattle.write_plan.specs.posix_laws.Views.{need_of}
use Rattle.write_plan.specs.posix_spec.FileRows.{file_number}
use Rattle.write_plan.specs.posix_spec.Put.{Put, put_by}
use Rattle.write_plan.specs.posix_spec.State.{room, State}
use Rattle.live_step_laws.specs.commute_laws.Counted.{outcome-put}
use Rattle.live_step_laws.specs.live_model.Losses.{KeepsWhenLost}
use Rattle.live_step_laws.specs.live_model.Standing.{StandsAt}
use Rattle.live_step_laws.specs.staging_files.Keeps.{Staged}
use Rattle.live_step_laws.specs.staging_files.Reserves.{IsLacking}
use Rattle.live_step_laws.specs.world_model.JobLaws.{needs}
use Rattle.live_step_laws.specs.world_model.Jobs.{Job}
use Rattle.live_step_laws.specs.world_model.Stands.{is_used, number}
use Rattle.live_step_laws.specs.world_model.TreeRules.{used_below}
use Rattle.write_plan.specs.declared.asks.asking.Target.{Target}
use Rattle.write_plan.specs.Asks.{CanMoveBy, IsTarget, need_in, room_in, row_in}
use Rattle.write_plan.specs.AsksLaws.{call_of, NeedsAsCall, RowsAsCall, start_of, StartsAsCall}
use Rattle.write_plan.specs.Numbers.{RoomIsKept, StandsAsKept}
use Rattle.write_plan.specs.Plans.{placed_at, plan_at, size_at, staged_run}
use Rattle.write_plan.proofs.Calls.{may_move}
use Rattle.write_begin.specs.declared.begins.beginning.WriteBegun.{WriteBegun}
use Rattle.write_begin.specs.Begins.{EndsRound, FillsFor, Found, IsAccepted, IsAnsweredBy, IsBegun, IsPaid, LacksBeside, LacksFor, LacksHoles}
use Rattle.write_begin.specs.Goes.{Goes, GoesWhole, IsGone, KeepsMaps}
use Rattle.write_begin.specs.Rooms.{FillsPart, IsTargetGone, StopsAtHoles}
use Rattle.write_begin.specs.Stages.{with_parts}
use Rattle.write_begin.proofs.BeginsAsked.{goes_of, need_is, of_state, puts_of, room_is, row_is, start_same}
use Rattle.write_begin.proofs.Fronts.{filled_on, has_runs, kept_before, lacks_same, left_before}
use Rattle.write_begin.proofs.PartPlans.{all_placed, IsAllPlaced}
use Rattle.write_begin.proofs.Placing.{size_old}
use Rattle.write_begin.proofs.Steps.{goes_then}

-- a write that no row refuses needs no more than there is room for
pub need_fits : (s : State) (who : Who) (h : Handle) (at : Option ℕ) (x : List ℕ) → Accepts s who h (start_of s who h at) x → need_of s who (call_of h at x) ≤ room s
need_fits s who h None x accepts = accepts.room
need_fits s who h (Some place) x accepts = accepts.room

-- no job is out, where no run is
no_jobs : (s : State) (jobs : List Job) → length jobs ≤ 0 → needs s jobs ≡ 0
no_jobs s [] few = refl
no_jobs s (j ∷ jobs) few = absurd (omega (arith, few))

not_less : (a b : ℕ) → b ≤ a → nat_lt a b ≡ false
not_less a b le = grind (arith, nat_tests, le)

-- the file of a target is that of the handle
pub own_is : (t : Tables) (files : Files) (who : Who) (h : Handle) (at : Option ℕ) (len : ℕ) (target : Target) → IsTarget t files who h at len target → target.ino ≡ file_number t who h
own_is t files who h at len target is = is.ino_is ∙ sym (ap (λ (o : Option Description). option_map_or (λ (d : Description). d.node) o 0) is.known)

module _ (kept_law : StandsAsKept) (room_law : RoomIsKept) (rows : RowsAsCall) (starts : StartsAsCall) (needs_law : NeedsAsCall) (mode : Mode) (k : View) (t : Tables) (old : Staged) (files : Files) (who : Who) (h : Handle) (at : Option ℕ) (x : List ℕ)
    (taken : ℕ) where
  abbrev ino : ℕ
  ino = file_number t who h

  abbrev call : Call
  call = call_of h at x

  pub answered_by : (outcome : Outcome) → row_in mode t files who h at (length x) (data_blocks k.volume.geometry) ≡ Some outcome → IsAnsweredBy mode who h at x k t old files taken outcome
  answered_by outcome is found = row_is kept_law room_law mode k t old files who h at x taken found rows ∙ is

  pub accepted_by : row_in mode t files who h at (length x) (data_blocks k.volume.geometry) ≡ None → IsAccepted mode who h at x k t old files taken
  accepted_by is found = row_is kept_law room_law mode k t old files who h at x taken found rows ∙ is

  module _ (none : row_in mode t files who h at (length x) (data_blocks k.volume.geometry) ≡ None) where
    same_need : (found : Found mode k t old files who call taken) → need_of found.s who call ≡ need_in mode t files who h at (length x)
    same_need found = need_is kept_law room_law mode k t old files who h at x taken found starts needs_law (accepted_by none found)

    -- the jobs that are out leave too little
    pub ends_beside : (need left : ℕ) → Found mode k t old files who call taken → need ≡ need_in mode t files who h at (length x) → left ≡ room_in (data_blocks k.volume.geometry) files - taken → left < need
        → EndsRound mode who h at x k k t old old files files taken need left
    ends_beside need left one need_is_it left_is lacks = record {
      accepted = accepted_by none;
      cause = λ found. inl (
        record {
          need_is = need_is_it ∙ sym (same_need found);
          left_is = (let room_same = room_is kept_law room_law mode k t old files who h at x taken found in let taken_is = found.taken_is in omega (arith, left_is, room_same, taken_is));
          lacks = lacks;
        },
        refl,
      );
      late = λ empty. (
          let owed = one.stands.owed in
          let out = ap length empty in
          let jobs = no_jobs one.s one.stands.jobs (omega (arith, owed, out)) in
          let fits = need_fits one.s who h at x (Accepts-from_rows one.s who h (start_of one.s who h at) x (accepted_by none one)) in
          let same = same_need one in
          let room_same = room_is kept_law room_law mode k t old files who h at x taken one in
          let taken_is = one.taken_is in
          omega (arith, jobs, fits, same, room_same, taken_is, need_is_it, left_is, lacks));
      same = refl;
      stays = record { runs = refl; stands = λ found. found.stands };
    }

    -- it went to its target
    module _ (target : Target) (is_target : IsTarget t files who h at (length x) target) (fits : need_in mode t files who h at (length x) ≤ room_in (data_blocks k.volume.geometry) files - taken) where
      abbrev pub goes_on : Found mode k t old files who call taken → Goes mode k old files who target x
      goes_on found = goes_of kept_law room_law mode k t old files who h at x taken found starts needs_law (accepted_by none found) target is_target fits

      pub start_there : (found : Found mode k t old files who call taken) → start_of found.s who h at ≡ target.start
      start_there found = start_same kept_law room_law mode k t old files who h at x taken found starts needs_law (accepted_by none found) target is_target

      -- and puts all its bytes from there on
      abbrev pub goes_whole : Found mode k t old files who call taken → GoesWhole mode k old files who target x
      goes_whole found = (goes_on found, start_there found)

      abbrev plan : WritePlan
      plan = plan_of mode target.size target.start (length x)

      ino_is : target.ino ≡ ino
      ino_is = own_is t files who h at (length x) target is_target

      -- the plan is that of the state
      abbrev put : (found : Found mode k t old files who call taken) → Put
      put found = record { node = file_number found.s.tables who h; place = start_of found.s who h at; bytes = x }

      puts_it : (found : Found mode k t old files who call taken) → put_by found.s who call ≡ Some (put found)
      puts_it found = puts_of found.s who h at x (accepted_by none found)

      size_there : (found : Found mode k t old files who call taken) → size_at found.s (put found) ≡ target.size
      size_there found =
          ap (λ n. length (bytes_of (node_at found.s.nodes n))) (goes_on found).puts.node_is ∙ (size_old mode k old files who target x (goes_on found) ∙ sym is_target.size_is)

      plan_there : (found : Found mode k t old files who call taken) → plan_at found.s (put found) ≡ plan
      plan_there found = λ i. plan_of (found.mode_is i) (size_there found i) (start_there found i) (length x)

      placed_there : (found : Found mode k t old files who call taken) → placed_at found.s (put_by found.s who call) ≡ plan.in_place
      placed_there found = ap (placed_at found.s) (puts_it found) ∙ ap (λ (p : WritePlan). p.in_place) (plan_there found)

      staged_there : (found : Found mode k t old files who call taken) → staged_run found.s (put_by found.s who call) ≡ plan.staged
      staged_there found = ap (staged_run found.s) (puts_it found) ∙ ap (λ (p : WritePlan). p.staged) (plan_there found)

      -- ---- its holes

      fills_there : (m : View) (found : Found mode k t old files who call taken) → FillsFor k m old files target.ino plan.in_place → FillsFor k m old files ino (placed_at found.s (put_by found.s who call))
      fills_there m found fills = subst (FillsFor k m old files ino) (sym (placed_there found)) (subst (λ n. FillsFor k m old files n plan.in_place) ino_is fills)

      lacks_there : (m : View) (found : Found mode k t old files who call taken) (need left : ℕ) → LacksFor k m old files target.ino plan.in_place need left
          → LacksFor k m old files ino (placed_at found.s (put_by found.s who call)) need left
      lacks_there m found need left lacks =
          subst (λ o. LacksFor k m old files ino o need left) (sym (placed_there found)) (subst (λ n. LacksFor k m old files n plan.in_place need left) ino_is lacks)

      lacks_here : (m : View) (found : Found mode k t old files who call taken) (need left : ℕ) → LacksFor k m old files ino (placed_at found.s (put_by found.s who call)) need left
          → LacksFor k m old files target.ino plan.in_place need left
      lacks_here m found need left lacks =
          subst (λ n. LacksFor k m old files n plan.in_place need left) (sym ino_is) (subst (λ o. LacksFor k m old files ino o need left) (placed_there found) lacks)

      -- the jobs that are out leave what it needs
      leave_enough : (found : Found mode k t old files who call taken) (need left : ℕ) → ¬ LacksBeside found.s who call found.stands.jobs need left
      leave_enough found need left lacks =
          let same = same_need found in
          let room_same = room_is kept_law room_law mode k t old files who h at x taken found in
          let taken_is = found.taken_is in
          let needed = lacks.need_is in
          let rest = lacks.left_is in
          let less = lacks.lacks in
          omega (arith, fits, same, room_same, taken_is, needed, rest, less)

      -- ---- it stopped at them

      stops_at : (l : View) (new : Staged) (then : Files) (result : Result WriteBegun AllocError) → StopsAtHoles k l old new files then target.ino plan.in_place result → IsBegun mode who h at x taken k l t old new files then result
      stops_at l new then (Ok (WriteBegun.Answered outcome)) is = absurd is
      stops_at l new then (Ok (WriteBegun.Job job blocks)) is = absurd is
      stops_at l new then (Ok WriteBegun.Written) is = absurd is
      stops_at l new then (Ok (WriteBegun.RoundOver need left)) is = record {
        accepted = accepted_by none;
        cause = λ found. inr (inl (record { beside = leave_enough found; free = lacks_there l found need left is.0 }));
        late = is.1;
        same = is.2;
        stays = record {
          runs = ap (λ (s : Staged). length s.out) is.2;
          stands = λ found.
              subst (λ (y : View). StandsAt found.g y t (with_parts found.kept new then) true found.n found.s) (sym (lacks_same k l old files target.ino plan.in_place need left is.0))
              (subst (λ (s : Staged). StandsAt found.g k t (with_parts found.kept s then) true found.n found.s) (sym is.2)
              (subst (λ (f : Files). StandsAt found.g k t (with_parts found.kept old f) true found.n found.s) (sym is.3) found.stands));
        };
      }
      stops_at l new then (Ok WriteBegun.PowerLost) is = record {
        left = λ found. is.left (has_runs mode k old files who target x (goes_on found));
        kept = λ found start history. is.kept (has_runs mode k old files who target x (goes_on found)) start history (who, call);
      }
      stops_at l new then (Err e) is = record {
        runs = ap (λ (s : Staged). length s.out) is.1;
        stands = λ found.
            subst (λ (s : Staged). StandsAt found.g l t (with_parts found.kept s then) true found.n found.s) (sym is.1)
            (subst (λ (f : Files). StandsAt found.g l t (with_parts found.kept old f) true found.n found.s) (sym is.2) (part_stands plan.in_place is.0 found));
      } where
        part_stands : (placed : Option (ℕ × ℕ)) → FillsPart k l old files target.ino placed → (found : Found mode k t old files who call taken) → StandsAt found.g l t (with_parts found.kept old files) true found.n found.s
        part_stands None fills found = absurd fills
        part_stands (Some range) fills found = (fills.stays (has_runs mode k old files who target x (goes_on found))).now

      -- ---- they are filled

      module _ (m : View) (filled : FillsFor k m old files target.ino plan.in_place) (room : (need left : ℕ) → ¬ LacksFor k k old files target.ino plan.in_place need left) where
        abbrev goes_filled : Found mode k t old files who call taken → Goes mode m old files who target x
        goes_filled found = goes_then mode k m old old files files who target x (goes_on found) (filled_on mode k m old files who target x plan.in_place filled (goes_on found))

        no_holes : (found : Found mode k t old files who call taken) (need left : ℕ) → ¬ LacksHoles found.s who call found.stands.jobs k k old files ino need left
        no_holes found need left lacks = room need left (lacks_here k found need left lacks.free)

        same_run : (found : Found mode k t old files who call taken) (r run : ℕ × ℕ) → staged_run found.s (put_by found.s who call) ≡ Some r → plan.staged ≡ Some run → r ≡ run
        same_run found r run one two = same_Some r run (sym one ∙ (staged_there found ∙ two))

        goes_from : (not_posix : mode ≢ Mode.Posix) → (l : View) (new : Staged) (then : Files) (power : Supply) → (is_on power ≡ true → KeepsMaps m.volume l.volume files then None) → (result : Result WriteBegun AllocError) → IsPaid power result
            → IsGone mode m l old new files then who target x plan.staged result → IsBegun mode who h at x taken k l t old new files then result
        goes_from not_posix l new then power below (Ok (WriteBegun.Answered outcome)) on is = absurd is
        goes_from not_posix l new then power below (Ok (WriteBegun.Job job blocks)) on is = record {
          accepted = accepted_by none;
          enough = leave_enough;
          holes = no_holes;
          middle = m;
          filled = λ found. fills_there m found filled;
          below = below on;
          run = λ found r need left run_is lacks.
              is.found need left (subst (λ (q : ℕ × ℕ). IsLacking q.1 old m need left) (same_run found r (job.draft.file_block, job.draft.count) run_is is.plan) lacks);
          job_who = is.job_who;
          blocks_are = is.blocks_are;
          fresh = is.fresh;
          ends = is.ends;
          plan = λ found. staged_there found ∙ is.plan;
          out = is.out;
          words = λ found. is.words (goes_filled found);
          stands = λ found. is.stands (goes_filled found);
        }
        goes_from not_posix l new then power below (Ok WriteBegun.Written) on is = record {
          accepted = accepted_by none;
          enough = leave_enough;
          unlogged = λ found. ap (λ (o : Option Put). option_map_or (is_logged_put found.s.mode found.s) o false) (puts_it found) ∙ unlogged found;
          holes = no_holes;
          middle = m;
          filled = λ found. fills_there m found filled;
          in_place = is.in_place;
          staging = is.same;
          same = is.kept;
          may = λ found.
              subst (λ (f : Files). CanMoveBy t f who call) (sym is.kept)
              (may_move found.s (number found.stands.numbers) t files who call (put found) (of_state kept_law room_law mode k t old files who h at x taken found) (lines_there found) (puts_it found));
          stands = λ found. is.stands (goes_filled found, start_there found);
          outcome = λ found. outcome-put found.s who call (file_number found.s.tables who h) (put_bytes found.s (put found)) (record { put = put found; is = puts_it found; node_is = refl; whole_is = refl });
        } where
          all : IsAllPlaced mode target.size target.start (length x)
          all = all_placed mode target.size target.start (length x) not_posix is_target.some is.none

          sync_unlogged : (s : State) (p : Put) → size_at s p ≡ target.size → p.place ≡ target.start → length p.bytes ≡ length x → is_logged_put Mode.Sync s p ≡ false
          sync_unlogged s p size_is place_is long = (λ i. nat_lt (size_is i) (place_is i + long i)) ∙ not_less target.size (target.start + length x) all.below

          unlogged : (found : Found mode k t old files who call taken) → is_logged_put found.s.mode found.s (put found) ≡ false
          unlogged found = ap (λ (y : Mode). is_logged_put y found.s (put found)) (found.mode_is ∙ all.sync) ∙ sync_unlogged found.s (put found) (size_there found) (start_there found) refl

          lines_there : (found : Found mode k t old files who call taken) (i : ℕ) → is_open t i ≡ true → i < length files.sizes
          lines_there found i is_it =
              let below = used_below k.volume i (ap is_used (found.stands.open_are_files i is_it)) in
              let count = found.stands.sizes.count in
              omega (arith, below, count)
        goes_from not_posix l new then power below (Ok (WriteBegun.RoundOver need left)) on is = record {
          accepted = accepted_by none;
          cause = λ found. inr (inr (record {
            whole = no_holes found;
            holes = subst (λ (y : View). FillsFor k y old files ino (placed_at found.s (put_by found.s who call))) (sym is.nothing) (fills_there m found filled);
            run = is.needed;
            run_is = staged_there found ∙ is.run_is;
            lacks = record { beside = leave_enough found; lacks = subst (λ (y : View). IsLacking is.needed.1 old y need left) (sym is.nothing) is.lacks };
          }));
          late = is.late;
          same = is.same;
          stays = record { runs = is.stays.runs; stands = λ found. is.stays.stands (goes_filled found) };
        }
        goes_from not_posix l new then power below (Ok WriteBegun.PowerLost) on is = record {
          left = λ found. left_before mode k m old files who target x plan.in_place filled (goes_on found) l (is.left (goes_filled found));
          kept = λ found start history same.
              kept_before mode k m old files who target x plan.in_place filled (goes_on found) l start history (who, call)
              (subst (λ (js : List Job). KeepsWhenLost m.volume l.cells found.kept js start history ((who, call) ∷ [])) (filled_on mode k m old files who target x plan.in_place filled (goes_on found)).jobs_are
              (is.kept (goes_filled found) start history same));
        }
        goes_from not_posix l new then power below (Err e) on is = record { runs = is.runs; stands = λ found. is.stands (goes_filled found) }

      -- ALL OF IT
      pub begun_by : (not_posix : mode ≢ Mode.Posix) → (l : View) (new : Staged) (then : Files) (power : Supply) (result : Result WriteBegun AllocError) → IsPaid power result
          → IsTargetGone mode k l old new files then who target x plan power result → IsBegun mode who h at x taken k l t old new files then result
      begun_by not_posix l new then power result paid (inl stops) = stops_at l new then result stops
      begun_by not_posix l new then power result paid (inr on) = goes_from on.middle on.filled on.enough not_posix l new then power on.below result paid on.gone
