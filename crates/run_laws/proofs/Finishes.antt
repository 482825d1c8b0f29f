-- A job finishes, or is given up.
use Rattle.std.specs.Prelude.{◌≡◌, ◌<◌, ◌≤◌, ◌+◌, ◌^◌, ℕ, Bool, true, false, List, [], ◌∷◌, ◌++◌, length, Option, Some, None, Err, slice_get, nat_lt, if◌then◌else◌, refl}
use Rattle.std.specs.List.{remove}
use Rattle.std.proofs.Common.{arith, ap, ◌∙◌, sym, subst, inl, inr}
use Rattle.std.proofs.lemmas.Option.{slice_get_within}
use Rattle.round_log.specs.layout_model.declared.lines.Draft.{Draft}
use Rattle.round_log.specs.image_model.LogRule.{HoldsEntry}
use Rattle.round_log.specs.oplog_entry.declared.claims.Full.{Full}
use Rattle.round_log.specs.oplog_entry.LogLines.{line_at}
use Rattle.round_log.specs.pm_model.Powers.{is_on, Steps, Supply}
use Rattle.round_log.specs.Rounds.{IsClaimed, RoundView}
use Rattle.world_view_laws.specs.in_flight.Counts.{history_within}
use Rattle.world_view_laws.specs.live_model.Standing.{JobOut}
use Rattle.world_view_laws.specs.posix_types.declared.item.Item.{Item}
use Rattle.world_view_laws.specs.posix_types.declared.call.Who.{Who}
use Rattle.world_view_laws.specs.in_flight.Histories.{next_stays, set_up_stays}
use Rattle.world_view_laws.specs.posix_tables.Open.{same_who}
use Rattle.world_view_laws.specs.posix_spec.Run.{Unfinished}
use Rattle.world_view_laws.specs.posix_spec.Scripted.{Scripted, Scripted-append}
use Rattle.world_view_laws.specs.write_jobs.Jobs.{FilledView}
use Rattle.world_view_laws.specs.declared.views.over.Over.{Over}
use Rattle.world_view_laws.specs.Begins.{IsFilledOut, item_of, OthersStay}
use Rattle.world_view_laws.specs.Jobs.{Finishes, GivesUp, LosesFinish, over_by}
use Rattle.world_view_laws.specs.Views.{next_of, WorldView}
use Rattle.world_view_laws.proofs.in_flight_proofs.Taking.{other_who}
use Rattle.run_laws.proofs.Logs.{SameLap}
use Rattle.run_laws.proofs.Longer.{tree_later, tree_paid}
use Rattle.run_laws.specs.declared.held.Held.{Held}
use Rattle.run_laws.specs.declared.held.Work.{Work}
use Rattle.run_laws.specs.Between.{Between, ends_by, events_in, GoesOn, left_to_do, LosesPower}
use Rattle.run_laws.specs.EventsLaws.{FilledIsHere, FinishLoses, held, IsHere, JobFinishes, JobGivenUp, PersistedIsHere, IsHeldAt, with_log, without_job}
use Rattle.run_laws.specs.Held.{HasLog, IsLogOf, OutView}
use Rattle.run_laws.specs.EventsPaid.{early_in, HaveActed, IsPaid, moves_now, steps_early, steps_in}
use Rattle.run_laws.proofs.Begins.{few_ends, few_idle, left_of, one_longer}
use Rattle.run_laws.proofs.Crashes.{AreOut, have_acted, IsLogLeftOf, may_crash}
use Rattle.run_laws.proofs.Few.{without_place}
use Rattle.run_laws.proofs.Lines.{log_finished, log_later, log_without, slot_below}
use Rattle.run_laws.proofs.Moves.{moves_more}
use Rattle.run_laws.proofs.Pays.{IsPaidAny, no_steps, pays, pays_acted}
use Rattle.run_laws.proofs.Places.{In_at, sum_taken}
use Rattle.run_laws.proofs.Slots.{slot_there}
use Rattle.run_laws.proofs.Stays.{callers_taken, drafts_taken, held_taken, In_taken, next_later, open_calls, out_taken}
use Rattle.run_laws.proofs.Works.{IsAtPlace, its_line, its_place, job_moves, log_there}

-- ---- a filled job is here

module _ (w : WorldView) (out : OutView) (b : Between w out) (log : RoundView) (is : out.log ≡ Some log) where
  log_now : IsLogOf w log out.jobs
  log_now = subst (λ (o : Option RoundView). HasLog w o out.jobs) is b.log

  pub is_here : (p : JobOut) (filled : FilledView) → IsFilledOut w p filled → IsHere w log filled
  is_here p filled out_p = record { of_world = (p, out_p); lines_out = log_now.fresh.are.out; usable = b.usable; size = log_now.holds.count ∙ log_now.fresh.are.count }

pub filled_is_here : FilledIsHere
filled_is_here who w out i log filled b at is = (let place = its_place w out b i (held who (Work.Filled filled)) at in is_here w out b log is place.job filled place.is)

pub persisted_is_here : PersistedIsHere
persisted_is_here who w out i slot log filled b at is =
    let h : Held = held who (Work.Persisted filled slot) in
    let place = its_place w out b i h at in
    let here = is_here w out b log is place.job filled place.is in
    (here, omega (arith, slot_below w log out.jobs (log_there w out b i h at log is) slot (slot_there out.jobs i slot h at refl), here.size))

-- ---- it finishes

-- with a job out the log is there
some_log : (w : WorldView) (o : Option RoundView) (jobs : List Held) (i : ℕ) (h : Held) → slice_get jobs i ≡ Some h → HasLog w o jobs → (log : RoundView) × (o ≡ Some log)
some_log w None jobs i h at has = (let never : None ≡ Some h = sym (ap (λ (xs : List Held). slice_get xs i) has.2) ∙ at in cc)
some_log w (Some log) jobs i h at has = (log, refl)

module _ (who : Who) (w new : WorldView) (out : OutView) (i slot : ℕ) (before after : Supply) (filled : FilledView) (b : Between w out) (at : IsHeldAt out i who (Work.Persisted filled slot)) where
  abbrev h : Held
  h = held who (Work.Persisted filled slot)

  abbrev place : IsAtPlace w out b i h at
  place = its_place w out b i h at

  abbrev p : JobOut
  p = place.job

  below : i < length w.pending
  below = slice_get_within w.pending i p place.at_place

  own : next_of w p.who ≡ Some p.call
  own = (b.next p (In_at w.pending i p place.at_place)).0

  the_log : (log : RoundView) × (out.log ≡ Some log)
  the_log = some_log w out.log out.jobs i h at b.log

  log_w : IsLogOf w the_log.0 out.jobs
  log_w = log_there w out b i h at the_log.0 the_log.1

  entry : HoldsEntry (line_at the_log.0.lines slot).cells p.draft (the_log.0.base + slot)
  entry = subst (λ (d : Draft). HoldsEntry (line_at the_log.0.lines slot).cells d (the_log.0.base + slot)) place.is.draft (its_line w out b i h at the_log.0 the_log.1 slot refl)

  -- with its claim the log is that of the jobs that are left
  has_left : (v : WorldView) → SameLap w v → v.claims ≡ w.claims ++ (slot, p.draft) ∷ [] → HasLog v out.log (remove out.jobs i)
  has_left v lap claims = subst (λ (o : Option RoundView). HasLog v o (remove out.jobs i)) (sym the_log.1) (log_finished w the_log.0 out.jobs log_w i h at v slot p.draft lap claims refl entry)

  module _ (steps : Steps (2 ^ 26) before after) (ends : Finishes slot p w new after) where
    abbrev item : Item
    item = item_of w p.who p.call

    abbrev left : List Held
    left = remove out.jobs i

    abbrev z : WorldView
    z = record w { history = w.history ++ item ∷ []; claims = w.claims ++ (slot, p.draft) ∷ []; pending = remove w.pending i; acts = w.acts + 1; disk = new.disk }

    new_is : new ≡ z
    new_is =
        ends.new_is ∙ λ k. record w {
          history = w.history ++ item ∷ [];
          claims = w.claims ++ (slot, p.draft) ∷ [];
          pending = without_place w b.next b.callers i p place.at_place k;
          acts = w.acts + 1;
          disk = new.disk;
        }

    stay : OthersStay w z p.who
    stay = subst (λ (x : WorldView). OthersStay w x p.who) new_is ends.stay

    scripted : Scripted w.scripts (w.history ++ item ∷ [])
    scripted = Scripted-append w.scripts w.history item b.scripted (record { call = own; index = refl; set_up = (b.next p (In_at w.pending i p place.at_place)).1 })

    count : length (w.history ++ item ∷ []) ≡ length w.history + 1
    count = one_longer w.history item

    later_moves : moves_now w ≡ true → moves_now z ≡ true
    later_moves moves = moves_more w.scripts w.history item own moves

    finished_between : Between z (without_job out i)
    finished_between = record {
      usable = b.usable;
      awake = b.awake;
      none_unfinished = b.none_unfinished;
      held = held_taken w z out.jobs i p place.at_place refl stay b.callers b.held;
      log = has_left z (record { geometry = refl; base = refl; first = refl; lines_out = refl }) refl;
      next = λ q there. (let was = In_taken w.pending i p q place.at_place b.callers there in next_later w.scripts w.history item q own was.1 (b.next q was.0));
      writes = λ q there. b.writes q (In_taken w.pending i p q place.at_place b.callers there).0;
      callers = callers_taken w.pending i below b.callers;
      drafts = drafts_taken w.pending i below b.drafts;
      scripted = scripted;
      threads = b.threads;
      lines = b.lines;
      few = b.few;
      settled = omega (arith, count, b.settled);
      claimed = λ some. omega (arith, count, b.settled);
      given_up = b.given_up;
      late = λ over. inr (inr (omega (arith, count, b.settled)));
      moves = λ over. later_moves (b.moves over);
      waits = λ over. (
          let x = b.waits over in
          let other : same_who p.who x.who ≡ false = other_who p.who x.who (λ same. x.none p (In_at w.pending i p place.at_place) same) in
          record {
            who = x.who;
            call = x.call;
            none = λ q there. x.none q (In_taken w.pending i p q place.at_place b.callers there).0;
            next = next_stays w.scripts w.history item x.who other ∙ x.next;
            set_up = set_up_stays w.scripts w.history item x.who own x.set_up;
          });
    }

    finished_less : left_to_do z (without_job out i) < left_to_do w out
    finished_less =
        let events = sum_taken (λ (x : Held). events_in x.work) out.jobs i h at in
        omega (
          arith,
          count,
          events,
          history_within w.scripts (w.history ++ item ∷ []) scripted,
          few_ends (nat_lt w.settled (length (w.history ++ item ∷ []))) w.over,
          few_idle w.over (length left),
        )

    finished_paid : (first : Supply) → IsPaid first before w out.jobs → IsPaid first after z left
    finished_paid first was = record {
      any = both.any;
      ahead = both.ahead;
      quiet = λ calm quiet. (let never : true ≡ false = sym (later_moves (job_moves w out b i h at)) ∙ quiet in cc);
      tree = λ given some. tree_paid first before after w z item (steps_early out.jobs) given (2 ^ 26) refl refl steps (was.tree given some) (steps_early left) (sym (sum_taken (λ (x : Held). early_in x.work) out.jobs i h at));
    } where
      both : IsPaidAny first after z left
      both = pays first before after w z out.jobs left (2 ^ 26) was steps (omega (arith, sum_taken (λ (x : Held). steps_in x.work) out.jobs i h at))

    finished : GoesOn w out z (without_job out i) before after
    finished = record { later = record { geometry = refl; start = refl; scripts = refl }; between = finished_between; less = finished_less; on = ends.on; paid = finished_paid }

    pub finished_now : GoesOn w out new (without_job out i) before after
    finished_now = subst (λ (x : WorldView). GoesOn w out x (without_job out i) before after) (sym new_is) finished

  -- ---- or the power goes

  module _ (steps : Steps (2 ^ 26) before after) (ends : LosesFinish slot p w new after) where
    abbrev u : WorldView
    u = record w { claims = w.claims ++ (slot, p.draft) ∷ []; acts = new.acts; disk = new.disk; lost = true }

    abbrev others : List Held
    others = remove out.jobs i

    stay-u : OthersStay w u p.who
    stay-u = subst (λ (x : WorldView). OthersStay w x p.who) ends.new_is ends.stay

    acts_are : new.acts ≡ w.acts + 1
    acts_are = ends.first_one b.awake

    off-u : is_on after ≡ false
    off-u = elim ends.off [
      | inl gone ↦ (let never : true ≡ false = sym gone ∙ b.awake in cc)
      | inr off ↦ off
    ]

    out-u : AreOut u (p.who ∷ []) others
    out-u = out_taken w u out.jobs i p place.at_place refl stay-u b.callers ends.back b.held

    left-u : IsLogLeftOf u out.log others
    left-u = left_of u out.log others (has_left u (record { geometry = refl; base = refl; first = refl; lines_out = refl }) refl)

    -- its own call among them
    acted-u : HaveActed u (without_job out i) (steps_early out.jobs)
    acted-u =
        have_acted u (p.who ∷ []) others b.callers (steps_early out.jobs)
        (omega (arith, ap (λ (cs : List Unfinished). length cs) b.none_unfinished, sum_taken (λ (x : Held). early_in x.work) out.jobs i h at)) out.log out-u b.drafts left-u

    lost : LosesPower None w out u (without_job out i) before after
    lost = record {
      later = record { geometry = refl; start = refl; scripts = refl };
      history = refl;
      calls = refl;
      can = record {
        usable = b.usable;
        crash = may_crash u (p.who ∷ []) out.log others out-u b.callers b.drafts left-u;
        open_calls = open_calls u b.none_unfinished b.next b.callers;
      };
      off = off-u;
      paid = λ first was. (
          let both = pays first before after w u out.jobs others (2 ^ 26) was steps (omega (arith, acts_are, sum_taken (λ (x : Held). steps_in x.work) out.jobs i h at)) in
          record {
            any = both.any;
            quiet = λ calm quiet. (let never : true ≡ false = sym (job_moves w out b i h at) ∙ quiet in cc);
            tree = λ given some. tree_later first before after w u (steps_early out.jobs) 0 given (2 ^ 26) refl refl (omega arith) steps (was.tree given some);
          });
      acted = λ first given on some was. pays_acted first before after w u (without_job out i) (steps_early out.jobs) (steps_early out.jobs) given (2 ^ 26) refl refl (was.any.given ∙ some) on off-u (omega arith) steps acted-u (was.tree given some);
    }

    pub lost_now : LosesPower None w out new (without_job out i) before after
    lost_now = subst (λ (x : WorldView). LosesPower None w out x (without_job out i) before after) (sym ends.new_is) lost

pub job_finishes : JobFinishes
job_finishes who w new out i slot before after filled b at steps ends =
    let h : Held = held who (Work.Persisted filled slot) in
    let place = its_place w out b i h at in
    finished_now who w new out i slot before after filled b at steps (ends place.job place.is)

pub finish_loses : FinishLoses
finish_loses who w new out i slot before after filled b at steps ends =
    let h : Held = held who (Work.Persisted filled slot) in
    let place = its_place w out b i h at in
    lost_now who w new out i slot before after filled b at steps (ends place.job place.is)

-- ---- it is given up

module _ (who : Who) (w new : WorldView) (out : OutView) (i : ℕ) (log : RoundView) (power : Supply) (filled : FilledView) (full : Full) (b : Between w out) (at : IsHeldAt out i who (Work.Filled filled)) (is : out.log ≡ Some log)
    (on : is_on power ≡ true) (claims : IsClaimed log log (Err full)) where
  abbrev h-2 : Held
  h-2 = held who (Work.Filled filled)

  abbrev place-2 : IsAtPlace w out b i h-2 at
  place-2 = its_place w out b i h-2 at

  abbrev q : JobOut
  q = place-2.job

  module _ (ends : GivesUp full q w new) where
    abbrev left-2 : OutView
    left-2 = without_job (with_log out log) i

    abbrev y : WorldView
    y = record w { pending = remove w.pending i; over = Some (over_by w.over full); given_up = w.given_up + 1; disk = new.disk }

    below-2 : i < length w.pending
    below-2 = slice_get_within w.pending i q place-2.at_place

    new_is-2 : new ≡ y
    new_is-2 =
        ends.new_is ∙ λ k. record w { pending = without_place w b.next b.callers i q place-2.at_place k; over = Some (over_by w.over full); given_up = w.given_up + 1; disk = new.disk }

    stay-2 : OthersStay w y q.who
    stay-2 = subst (λ (x : WorldView). OthersStay w x q.who) new_is-2 ends.stay

    given_between : Between y left-2
    given_between = record {
      usable = b.usable;
      awake = b.awake;
      none_unfinished = b.none_unfinished;
      held = held_taken w y out.jobs i q place-2.at_place refl stay-2 b.callers b.held;
      log = log_later w y log (remove out.jobs i) (record { geometry = refl; base = refl; first = refl; lines_out = refl }) refl (log_without w log out.jobs (log_there w out b i h-2 at log is) i h-2 at refl);
      next = λ p there. b.next p (In_taken w.pending i q p place-2.at_place b.callers there).0;
      writes = λ p there. b.writes p (In_taken w.pending i q p place-2.at_place b.callers there).0;
      callers = callers_taken w.pending i below-2 b.callers;
      drafts = drafts_taken w.pending i below-2 b.drafts;
      scripted = b.scripted;
      threads = b.threads;
      lines = b.lines;
      few = b.few;
      settled = b.settled;
      claimed = b.claimed;
      given_up = λ given. claims.2;
      late = λ over. inr (inl (λ none. omega (arith, none)));
      moves = λ over. job_moves w out b i h-2 at;
      waits = λ over. record {
        who = q.who;
        call = q.call;
        none = λ x there. (In_taken w.pending i q x place-2.at_place b.callers there).1;
        next = (b.next q (In_at w.pending i q place-2.at_place)).0;
        set_up = (b.next q (In_at w.pending i q place-2.at_place)).1;
      };
    }

    given_less : left_to_do y left-2 < left_to_do w out
    given_less =
        let events = sum_taken (λ (x : Held). events_in x.work) out.jobs i h-2 at in
        omega (arith, events, fewer (nat_lt w.settled (length w.history)) w.over)
      where
        fewer : (c : Bool) (o : Option Over) → (if c then 64 else 0) ≤ (if c then ends_by o else 0)
        fewer true None = omega arith
        fewer true (Some over) = omega arith
        fewer false o = omega arith

    given_paid : (first : Supply) → IsPaid first power w out.jobs → IsPaid first power y left-2.jobs
    given_paid first was = record {
      any = both.any;
      ahead = both.ahead;
      quiet = was.quiet;
      tree = λ given some. (let sum = sum_taken (λ (x : Held). early_in x.work) out.jobs i h-2 at in tree_later first power power w y (steps_early out.jobs) (steps_early left-2.jobs) given 0 refl refl (omega (arith, sum)) (no_steps power) (was.tree given some));
    } where
      both : IsPaidAny first power y left-2.jobs
      both = pays first power power w y out.jobs left-2.jobs 0 was (no_steps power) (omega (arith, sum_taken (λ (x : Held). steps_in x.work) out.jobs i h-2 at))

    given : GoesOn w out y left-2 power power
    given = record { later = record { geometry = refl; start = refl; scripts = refl }; between = given_between; less = given_less; on = on; paid = given_paid }

    pub given_now : GoesOn w out new left-2 power power
    given_now = subst (λ (x : WorldView). GoesOn w out x left-2 power power) (sym new_is-2) given

pub job_given_up : JobGivenUp
job_given_up who w new out i log same power filled full b at is on claims ends =
    let h : Held = held who (Work.Filled filled) in
    let place = its_place w out b i h at in
    subst (λ (x : RoundView). GoesOn w out new (without_job (with_log out x) i) power power) (sym claims.3)
    (given_now who w new out i log power filled full b at is on (claims.0, claims.1, claims.2, refl) (ends place.job place.is))
