-- A call begins: it returns, becomes a job, ends the round for want of space, or loses its power.
use Rattle.std.specs.Prelude.{◌≡◌, ◌≢◌, ◌<◌, ◌≤◌, ◌+◌, ◌*◌, ◌-◌, ℕ, Bool, true, false, List, [], ◌∷◌, ◌++◌, length, map, Option, Some, None, IsSome, nat_lt, if◌then◌else◌, refl}
use Rattle.std.proofs.Common.{arith, ap, ◌∙◌, sym, subst, inl, inr, length-append}
use Rattle.std.proofs.lemmas.List.{append-nil}
use Rattle.round_log.specs.pm_model.Powers.{is_on, Steps, Supply}
use Rattle.round_log.specs.Rounds.{RoundView}
use Rattle.world_view_laws.specs.crash_spec.Busy.{is_logged}
use Rattle.world_view_laws.specs.crash_spec.ScheduleLaws.{may_write}
use Rattle.world_view_laws.specs.in_flight.Costs.{most_of, most_of_call}
use Rattle.world_view_laws.specs.in_flight.Counts.{history_within}
use Rattle.world_view_laws.specs.list_laws.Members.{In}
use Rattle.world_view_laws.specs.live_model.Standing.{JobOut}
use Rattle.world_view_laws.specs.posix_types.declared.call.Call.{Call}
use Rattle.world_view_laws.specs.posix_types.declared.call.Who.{Who}
use Rattle.world_view_laws.specs.posix_types.declared.item.Item.{Item}
use Rattle.world_view_laws.specs.posix_spec.Afforded.{moves_data}
use Rattle.world_view_laws.specs.posix_spec.Put.{Put, put_by}
use Rattle.world_view_laws.specs.posix_spec.Run.{Unfinished}
use Rattle.world_view_laws.specs.posix_spec.Scripted.{IsSetUp, Scripted, Scripted-append}
use Rattle.world_view_laws.specs.write_end.Ends.{begun_by}
use Rattle.world_view_laws.specs.write_jobs.Jobs.{JobView}
use Rattle.world_view_laws.specs.declared.views.over.Over.{Over}
use Rattle.world_view_laws.specs.Begins.{BeginsJob, EndsRound, IsJobOut, IsNeed, IsStagingNeed, item_of, LacksSpace, LosesCall, OthersStay, Returns, with_disk}
use Rattle.world_view_laws.proofs.Holes.{holes_move}
use Rattle.world_view_laws.specs.write_plan.Plans.{staged_run}
use Rattle.world_view_laws.specs.Views.{calls_out, Disk, next_of, state_of, WorldView}
use Rattle.run_laws.proofs.Logs.{SameLap}
use Rattle.run_laws.proofs.Longer.{logged_moves, put_moves, tree_later, tree_more}
use Rattle.run_laws.specs.declared.held.Held.{Held}
use Rattle.run_laws.specs.declared.held.Work.{Work}
use Rattle.run_laws.specs.Between.{Between, ends_by, events_in, GoesOn, idle_by, left_to_do, LosesPower}
use Rattle.run_laws.specs.EventsLaws.{BeginLoses, CallReturns, CanBegin, held, JobBegins, RoundEnds, with_job}
use Rattle.run_laws.specs.Held.{HasLog, OutView}
use Rattle.run_laws.specs.EventsPaid.{early_in, HaveActed, IsPaid, moves_now, steps_early, steps_in}
use Rattle.run_laws.proofs.Crashes.{AreOut, have_acted, held_out, IsLogLeftOf, log_left, may_crash}
use Rattle.run_laws.proofs.Few.{few_with}
use Rattle.run_laws.proofs.Lines.{log_later, log_pushed}
use Rattle.run_laws.proofs.Moves.{call_moves, logged_writes, not_both, quiet_before, quiet_next}
use Rattle.run_laws.proofs.Pays.{IsPaidAny, no_steps, pays, pays_acted, quiet_call, small}
use Rattle.run_laws.proofs.Places.{sum_pushed}
use Rattle.run_laws.proofs.Stays.{callers_pushed, each_pushed, drafts_pushed, held_pushed, held_stays, next_later, open_calls, open_with}

-- ---- the log, whichever it is

pub has_later : (w v : WorldView) (o : Option RoundView) (jobs : List Held) → SameLap w v → v.claims ≡ w.claims → HasLog w o jobs → HasLog v o jobs
has_later w v None jobs same claims has = (same.lines_out ∙ has.0, claims ∙ has.1, has.2)
has_later w v (Some log) jobs same claims has = log_later w v log jobs same claims has

pub left_of : (w : WorldView) (o : Option RoundView) (jobs : List Held) → HasLog w o jobs → IsLogLeftOf w o jobs
left_of w None jobs has = has.0
left_of w (Some log) jobs has = log_left w log jobs has

-- what ends a round at most
pub few_ends : (c : Bool) (o : Option Over) → (if c then ends_by o else 0) ≤ 65
few_ends true None = omega arith
few_ends true (Some over) = omega arith
few_ends false o = omega arith

pub few_idle : (o : Option Over) (n : ℕ) → idle_by o n ≤ 63
few_idle None n = omega arith
few_idle (Some over) n = omega arith

pub one_longer : (history : List Item) (item : Item) → length (history ++ item ∷ []) ≡ length history + 1
one_longer history item = length-append history (item ∷ [])

pub some_over : (o : Option Over) → o ≡ None → (o ≢ None → ⊥)
some_over o is not = not is

-- ---- a caller with no job begins

module _ (who : Who) (w : WorldView) (out : OutView) (can : CanBegin who w out) where
  abbrev b : Between w out
  b = can.between

  -- ---- it returns

  module _ (new : WorldView) (before after : Supply) (steps : Steps (most_of w.start.mode (next_of w who)) before after) (is : Returns who w new before after) where
    abbrev item : Item
    item = item_of w who is.call

    abbrev v : WorldView
    v = record w { history = w.history ++ item ∷ []; acts = w.acts + 1; disk = new.disk }

    took : Steps (most_of_call w.start.mode is.call) before after
    took = subst (λ (o : Option Call). Steps (most_of w.start.mode o) before after) is.begins.next steps

    count : length (w.history ++ item ∷ []) ≡ length w.history + 1
    count = one_longer w.history item

    scripted : Scripted w.scripts (w.history ++ item ∷ [])
    scripted = Scripted-append w.scripts w.history item b.scripted (record { call = is.begins.next; index = refl; set_up = can.set_up })

    stay : OthersStay w v who
    stay = subst (λ (x : WorldView). OthersStay w x who) is.new_is is.stay

    returned_between : Between v out
    returned_between = record {
      usable = b.usable;
      awake = b.awake;
      none_unfinished = b.none_unfinished;
      held = held_stays w v who out.jobs refl stay can.none b.held;
      log = has_later w v out.log out.jobs (record { geometry = refl; base = refl; first = refl; lines_out = refl }) refl b.log;
      next = λ p there. next_later w.scripts w.history item p is.begins.next (can.none p there) (b.next p there);
      writes = b.writes;
      callers = b.callers;
      drafts = b.drafts;
      scripted = scripted;
      threads = b.threads;
      lines = b.lines;
      few = b.few;
      settled = omega (arith, count, b.settled);
      claimed = λ some. omega (arith, count, b.settled);
      given_up = b.given_up;
      late = λ over. absurd (over is.begins.going);
      moves = λ over. absurd (over is.begins.going);
      waits = λ over. absurd (over is.begins.going);
    }

    returned_less : left_to_do v out < left_to_do w out
    returned_less = omega (arith, count, history_within w.scripts (w.history ++ item ∷ []) scripted, few_ends (nat_lt w.settled (length (w.history ++ item ∷ []))) w.over)

    quiet_call_now : moves_now v ≡ false → moves_data is.call ≡ false
    quiet_call_now quiet = quiet_next w.scripts w.history who is.call is.begins.next (quiet_before w.scripts w.history item is.begins.next quiet)

    returned_paid : (first : Supply) → IsPaid first before w out.jobs → IsPaid first after v out.jobs
    returned_paid first was = record {
      any = both.any;
      ahead = both.ahead;
      quiet = λ calm quiet. (
          let none = quiet_before w.scripts w.history item is.begins.next quiet in
          let small_steps : Steps 512 before after = subst (λ (n : ℕ). Steps n before after) (quiet_call w.start.mode is.call calm (quiet_call_now quiet)) took in
          let before_it = was.quiet calm none in
          subst (λ (n : ℕ). Steps (512 * n) first after) (sym count)
          (record { given = small_steps.given ∙ before_it.given; on_before = λ on. before_it.on_before (small_steps.on_before on); later = omega (arith, before_it.later, small_steps.later); bound = omega (arith, before_it.bound, small_steps.bound) }));
      tree = λ given some. tree_more first before after w v item (steps_early out.jobs) given (most_of_call w.start.mode is.call) refl refl took (was.tree given some) (was.any.given ∙ some) is.on is.spent;
    } where
      both : IsPaidAny first after v out.jobs
      both = pays first before after w v out.jobs out.jobs (most_of w.start.mode (next_of w who)) was steps (omega (arith, small w.start.mode (next_of w who)))

    returned : GoesOn w out v out before after
    returned = record { later = record { geometry = refl; start = refl; scripts = refl }; between = returned_between; less = returned_less; on = is.on; paid = returned_paid }

    pub returned_now : GoesOn w out new out before after
    returned_now = subst (λ (x : WorldView). GoesOn w out x out before after) (sym is.new_is) returned

  -- ---- a job is out

  module _ (new : WorldView) (before after : Supply) (job : JobView) (steps : Steps (most_of w.start.mode (next_of w who)) before after) (is : BeginsJob who w new after job) where
    abbrev p : JobOut
    p = is.pending

    abbrev h : Held
    h = held who (Work.Began job)

    abbrev u : WorldView
    u = record w { pending = w.pending ++ p ∷ []; acts = w.acts + 1; disk = new.disk }

    abbrev left : OutView
    left = with_job out h

    out_u : IsJobOut u p job
    out_u = subst (λ (x : WorldView). IsJobOut x p job) is.new_is is.out

    stay_u : OthersStay w u who
    stay_u = subst (λ (x : WorldView). OthersStay w x who) is.new_is is.stay

    logged : is_logged (state_of w) (who, is.call) ≡ true
    logged = is.logged

    p_next : next_of w p.who ≡ Some p.call
    p_next = ap (next_of w) is.who_is ∙ (is.begins.next ∙ ap (λ (c : Call). Some c) (sym is.call_is))

    p_writes : may_write p.call ≡ true
    p_writes = ap may_write is.call_is ∙ logged_writes (state_of w) who is.call logged

    none_p : (q : JobOut) → In q w.pending → q.who ≢ p.who
    none_p q there same = can.none q there (same ∙ is.who_is)

    moves_w : moves_now w ≡ true
    moves_w = call_moves w.scripts w.history who is.call is.begins.next (logged_moves (state_of w) who is.call logged)

    has_pushed : (o : Option RoundView) → IsSome o → HasLog w o out.jobs → HasLog u o (out.jobs ++ h ∷ [])
    has_pushed None some has = cc
    has_pushed (Some log) some has = log_later w u log (out.jobs ++ h ∷ []) (record { geometry = refl; base = refl; first = refl; lines_out = refl }) refl (log_pushed w log out.jobs has h refl)

    begun_between : Between u left
    begun_between = record {
      usable = b.usable;
      awake = b.awake;
      none_unfinished = b.none_unfinished;
      held = held_pushed w u who out.jobs p h refl stay_u can.none (sym is.who_is) (out_u, is.fresh) b.held;
      log = has_pushed out.log can.log b.log;
      next = each_pushed w.pending p (λ (q : JobOut). (next_of w q.who ≡ Some q.call) × IsSetUp w.scripts w.history q.who) b.next (p_next, subst (IsSetUp w.scripts w.history) (sym is.who_is) can.set_up);
      writes = each_pushed w.pending p (λ (q : JobOut). may_write q.call ≡ true) b.writes p_writes;
      callers = callers_pushed w.pending p b.callers none_p;
      drafts = drafts_pushed w.pending p b.drafts is.apart;
      scripted = b.scripted;
      threads = b.threads;
      lines = b.lines;
      few = b.few;
      settled = b.settled;
      claimed = b.claimed;
      given_up = b.given_up;
      late = λ over. absurd (over is.begins.going);
      moves = λ over. absurd (over is.begins.going);
      waits = λ over. absurd (over is.begins.going);
    }

    few_more : length out.jobs + 1 ≤ 9
    few_more = omega (arith, few_with w b.next b.callers b.threads who is.call can.none is.begins.next can.set_up, b.held.count)

    begun_less : left_to_do u left < left_to_do w out
    begun_less =
        let events = sum_pushed (λ (x : Held). events_in x.work) out.jobs h in
        let one = length-append out.jobs (h ∷ []) in
        let idle : idle_by w.over (length (out.jobs ++ h ∷ [])) ≡ 7 * (9 - length (out.jobs ++ h ∷ [])) = ap (λ (o : Option Over). idle_by o (length (out.jobs ++ h ∷ []))) is.begins.going in
        let was : idle_by w.over (length out.jobs) ≡ 7 * (9 - length out.jobs) = ap (λ (o : Option Over). idle_by o (length out.jobs)) is.begins.going in
        omega (arith, events, one, idle, was, few_more)

    begun_paid : (first : Supply) → IsPaid first before w out.jobs → IsPaid first after u left.jobs
    begun_paid first was = record {
      any = both.any;
      ahead = both.ahead;
      quiet = λ calm quiet. (let never : true ≡ false = sym moves_w ∙ quiet in cc);
      tree = λ given some. (let sum = sum_pushed (λ (x : Held). early_in x.work) out.jobs h in tree_later first before after w u (steps_early out.jobs) (steps_early left.jobs) given (most_of w.start.mode (next_of w who)) refl refl (omega (arith, sum)) steps (was.tree given some));
    } where
      both : IsPaidAny first after u left.jobs
      both = pays first before after w u out.jobs left.jobs (most_of w.start.mode (next_of w who)) was steps (omega (arith, small w.start.mode (next_of w who), sum_pushed (λ (x : Held). steps_in x.work) out.jobs h))

    begun : GoesOn w out u left before after
    begun = record { later = record { geometry = refl; start = refl; scripts = refl }; between = begun_between; less = begun_less; on = is.on; paid = begun_paid }

    pub begun_now : GoesOn w out new left before after
    begun_now = subst (λ (x : WorldView). GoesOn w out x left before after) (sym is.new_is) begun

  -- ---- the round ends

  need_moves : (call : Call) (need : ℕ) → IsNeed w who call need → moves_data call ≡ true
  need_moves (Call.Truncate h size) need is = refl
  need_moves call need is = logged_moves (state_of w) who call is.0

  staging_moves : (v : WorldView) (call : Call) (need : ℕ) (o : Option Put) → put_by (state_of w) who call ≡ o → IsStagingNeed v (staged_run (state_of w) o) need → moves_data call ≡ true
  staging_moves v call need None at is = absurd is
  staging_moves v call need (Some put) at is = put_moves (state_of w) who call put at

  pub lacks_moves : (filled : Disk) (call : Call) (need room : ℕ) → LacksSpace w filled who call need room → moves_data call ≡ true
  lacks_moves filled call need room (inl beside) = need_moves call need beside.need_is
  lacks_moves filled call need room (inr (inl holes)) = holes_move w who call holes.some
  lacks_moves filled call need room (inr (inr run)) = staging_moves (with_disk w filled) call need (put_by (state_of w) who call) refl run.staging.need_is

  module _ (new : WorldView) (before after : Supply) (need room : ℕ) (steps : Steps (most_of w.start.mode (next_of w who)) before after) (is : EndsRound who w new after need room) where
    abbrev z : WorldView
    z = record w { over = Some (Over.Space need room); acts = w.acts + 1; disk = new.disk }

    moves_z : moves_now w ≡ true
    moves_z = call_moves w.scripts w.history who is.call is.begins.next (lacks_moves new.disk is.call need room is.cause)

    ended_between : Between z out
    ended_between = record {
      usable = b.usable;
      awake = b.awake;
      none_unfinished = b.none_unfinished;
      held = held_stays w z who out.jobs refl (subst (λ (x : WorldView). OthersStay w x who) is.new_is is.stay) can.none b.held;
      log = has_later w z out.log out.jobs (record { geometry = refl; base = refl; first = refl; lines_out = refl }) refl b.log;
      next = b.next;
      writes = b.writes;
      callers = b.callers;
      drafts = b.drafts;
      scripted = b.scripted;
      threads = b.threads;
      lines = b.lines;
      few = b.few;
      settled = b.settled;
      claimed = b.claimed;
      given_up = b.given_up;
      late = λ over. elim is.late [ inl some ↦ inl some | inr late ↦ inr (inr late) ];
      moves = λ over. moves_z;
      waits = λ over. record { who = who; call = is.call; none = can.none; next = is.begins.next; set_up = can.set_up };
    }

    few_more-2 : length out.jobs + 1 ≤ 9
    few_more-2 = omega (arith, few_with w b.next b.callers b.threads who is.call can.none is.begins.next can.set_up, b.held.count)

    ended_less : left_to_do z out < left_to_do w out
    ended_less =
        let was : idle_by w.over (length out.jobs) ≡ 7 * (9 - length out.jobs) = ap (λ (o : Option Over). idle_by o (length out.jobs)) is.begins.going in
        omega (arith, was, few_more-2, fewer (nat_lt w.settled (length w.history)) w.over is.begins.going)
      where
        fewer : (c : Bool) (o : Option Over) → o ≡ None → (if c then 64 else 0) ≤ (if c then ends_by o else 0)
        fewer true None going = omega arith
        fewer true (Some over) going = omega arith
        fewer false o going = omega arith

    ended_paid : (first : Supply) → IsPaid first before w out.jobs → IsPaid first after z out.jobs
    ended_paid first was = record {
      any = both.any;
      ahead = both.ahead;
      quiet = λ calm quiet. (let never : true ≡ false = sym moves_z ∙ quiet in cc);
      tree = λ given some. tree_later first before after w z (steps_early out.jobs) (steps_early out.jobs) given (most_of w.start.mode (next_of w who)) refl refl (omega arith) steps (was.tree given some);
    } where
      both : IsPaidAny first after z out.jobs
      both = pays first before after w z out.jobs out.jobs (most_of w.start.mode (next_of w who)) was steps (omega (arith, small w.start.mode (next_of w who)))

    ended : GoesOn w out z out before after
    ended = record { later = record { geometry = refl; start = refl; scripts = refl }; between = ended_between; less = ended_less; on = is.on; paid = ended_paid }

    pub ended_now : GoesOn w out new out before after
    ended_now = subst (λ (x : WorldView). GoesOn w out x out before after) (sym is.new_is) ended

  -- ---- the power goes

  module _ (new : WorldView) (before after : Supply) (steps : Steps (most_of w.start.mode (next_of w who)) before after) where
    jobs_alone : calls_out w ≡ map begun_by w.pending
    jobs_alone = ap (λ (cs : List Unfinished). map begun_by w.pending ++ cs) b.none_unfinished ∙ append-nil (map begun_by w.pending)

    -- in the call
    module _ (is : LosesCall who w new after) where
      abbrev y : WorldView
      y = record w { unfinished = (who, is.call) ∷ []; acts = w.acts + 1; disk = new.disk; lost = true }

      took-2 : Steps (most_of_call w.start.mode is.call) before after
      took-2 = subst (λ (o : Option Call). Steps (most_of w.start.mode o) before after) is.next steps

      stay_y : OthersStay w y who
      stay_y = subst (λ (x : WorldView). OthersStay w x who) is.new_is is.stay

      out_y : AreOut y [] out.jobs
      out_y = held_out y out.jobs (held_stays w y who out.jobs refl stay_y can.none b.held)

      left_y : IsLogLeftOf y out.log out.jobs
      left_y = left_of y out.log out.jobs (has_later w y out.log out.jobs (record { geometry = refl; base = refl; first = refl; lines_out = refl }) refl b.log)

      -- this call too
      acted_y : HaveActed y out (steps_early out.jobs + 1)
      acted_y = have_acted y [] out.jobs b.callers (steps_early out.jobs + 1) (omega arith) out.log out_y b.drafts left_y

      lost : LosesPower (Some who) w out y out before after
      lost = record {
        later = record { geometry = refl; start = refl; scripts = refl };
        history = refl;
        calls = inr (is.call, is.next, ap (λ (cs : List Unfinished). cs ++ (who, is.call) ∷ []) (sym jobs_alone));
        can = record {
          usable = b.usable;
          crash = may_crash y [] out.log out.jobs out_y b.callers b.drafts left_y;
          open_calls = open_with y (who, is.call) refl b.next b.callers can.none (record { call = is.next; set_up = can.set_up });
        };
        off = is.off;
        paid = λ first was. (
            let both = pays first before after w y out.jobs out.jobs (most_of w.start.mode (next_of w who)) was steps (omega (arith, small w.start.mode (next_of w who))) in
            record {
              any = both.any;
              quiet = λ calm quiet. (
                  let small_steps : Steps 512 before after = subst (λ (n : ℕ). Steps n before after) (quiet_call w.start.mode is.call calm (quiet_next w.scripts w.history who is.call is.next quiet)) took-2 in
                  let before_it = was.quiet calm quiet in
                  record { given = small_steps.given ∙ before_it.given; on_before = λ on. before_it.on_before (small_steps.on_before on); later = omega (arith, before_it.later, small_steps.later); bound = omega (arith, before_it.bound, small_steps.bound) });
              tree = λ given some. tree_later first before after w y (steps_early out.jobs) 0 given (most_of w.start.mode (next_of w who)) refl refl (omega arith) steps (was.tree given some);
            });
        acted = λ first given on some was. pays_acted first before after w y out (steps_early out.jobs) (steps_early out.jobs + 1) given (most_of w.start.mode (next_of w who)) refl refl (was.any.given ∙ some) on is.off (omega arith) steps acted_y (was.tree given some);
      }

      pub lost_now : LosesPower (Some who) w out new out before after
      lost_now = subst (λ (x : WorldView). LosesPower (Some who) w out x out before after) (sym is.new_is) lost

    -- before the end of the script was seen
    module _ (same : new ≡ record w { acts = w.acts + 1; lost = true }) (spared : after ≡ before) (off : is_on after ≡ false) where
      abbrev x-2 : WorldView
      x-2 = record w { acts = w.acts + 1; lost = true }

      stay-2 : OthersStay w x-2 who
      stay-2 = (
        λ p job other was. record { there = was.there; who = was.who; draft = was.draft; blocks = was.blocks; words = was.words; lent = was.lent },
        λ p job other was. record { there = was.there; who = was.who; draft = was.draft; blocks = was.blocks; words = was.words; lent = was.lent },
      )

      lost-2 : LosesPower (Some who) w out x-2 out before after
      lost-2 = record {
        later = record { geometry = refl; start = refl; scripts = refl };
        history = refl;
        calls = inl refl;
        can = record {
          usable = b.usable;
          crash = may_crash x-2 [] out.log out.jobs (held_out x-2 out.jobs (held_stays w x-2 who out.jobs refl stay-2 can.none b.held)) b.callers b.drafts
              (left_of x-2 out.log out.jobs (has_later w x-2 out.log out.jobs (record { geometry = refl; base = refl; first = refl; lines_out = refl }) refl b.log));
          open_calls = open_calls x-2 b.none_unfinished b.next b.callers;
        };
        off = off;
        paid = λ first was. (
            let none : Steps 0 before after = subst (λ (p : Supply). Steps 0 before p) (sym spared) (no_steps before) in
            let both = pays first before after w x-2 out.jobs out.jobs 0 was none (omega arith) in
            record {
              any = both.any;
              quiet = λ calm quiet. (
                  let before_it = was.quiet calm quiet in
                  record { given = none.given ∙ before_it.given; on_before = λ on. before_it.on_before (none.on_before on); later = omega (arith, before_it.later, none.later); bound = omega (arith, before_it.bound, none.bound) });
              tree = λ given some. tree_later first before after w x-2 (steps_early out.jobs) 0 given 0 refl refl (omega arith) none (was.tree given some);
            });
        acted = λ first given on some was. absurd (not_both (is_on after) (ap is_on spared ∙ on) off);
      }

      pub ended_lost : LosesPower (Some who) w out new out before after
      ended_lost = subst (λ (x : WorldView). LosesPower (Some who) w out x out before after) (sym same) lost-2

pub call_returns : CallReturns
call_returns who w new out before after can steps is = returned_now who w out can new before after steps is

pub job_begins : JobBegins
job_begins who w new out before after job can steps is = begun_now who w out can new before after job steps is

pub round_ends : RoundEnds
round_ends who w new out before after need left can steps is = ended_now who w out can new before after need left steps is

pub begin_loses : BeginLoses
begin_loses who w new out before after can steps (inl was) = absurd (not_both w.lost was.0 can.between.awake)
begin_loses who w new out before after can steps (inr (inl is)) = lost_now who w out can new before after steps is.0
begin_loses who w new out before after can steps (inr (inr is)) = ended_lost who w out can new before after steps is.2 is.3 is.4
