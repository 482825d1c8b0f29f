-- From one moment to the next, once the World was told that the power went.
use Rattle.std.specs.Prelude.{◌≡◌, ◌≢◌, ◌⊎◌, ◌≤◌, ◌<◌, ◌+◌, ◌++◌, ◌∷◌, ℕ, zero, suc, Bool, true, false, List, [], length, map, Option, Some, None, Result, Ok, Err, IfOk, IsSome, slice_get, refl}
use Rattle.std.specs.List.{remove}
use Rattle.std.proofs.Common.{arith, ap, ◌∙◌, sym, subst, inl, inr}
use Rattle.std.proofs.lemmas.Bool.{cases_eq}
use Rattle.std.proofs.lemmas.Option.{same_Some, slice_get_within}
use Rattle.split_machine.specs.run_laws.layout_model.declared.lines.Draft.{Draft}
use Rattle.split_machine.specs.run_laws.image_model.LogRule.{HoldsEntry}
use Rattle.split_machine.specs.run_laws.oplog_entry.declared.claims.Full.{Full}
use Rattle.split_machine.specs.run_laws.oplog_entry.LogLines.{line_at}
use Rattle.split_machine.specs.run_laws.pm_model.Powers.{Supply}
use Rattle.split_machine.specs.run_laws.list_laws.Filters.{In-map}
use Rattle.split_machine.specs.run_laws.list_laws.Members.{In}
use Rattle.split_machine.specs.run_laws.live_model.Standing.{JobOut}
use Rattle.split_machine.specs.run_laws.round_log.Rounds.{IsClaimed, RoundView}
use Rattle.split_machine.specs.run_laws.write_end.Blocks.{AreBlocksHome}
use Rattle.split_machine.specs.run_laws.write_jobs.Jobs.{FilledView, JobView}
use Rattle.split_machine.specs.run_laws.world_view_laws.Begins.{IsFilledOut, IsJobOut, OthersStay}
use Rattle.split_machine.specs.run_laws.world_view_laws.Jobs.{GivesUp, HomesStay, IsOfWorld, LosesFinish, over_by}
use Rattle.split_machine.specs.run_laws.world_view_laws.Losses.{MayCrash}
use Rattle.split_machine.specs.run_laws.world_view_laws.Views.{WorldView}
use Rattle.posix_types.specs.declared.call.Who.{Who}
use Rattle.split_machine.specs.run_laws.declared.held.Held.{Held}
use Rattle.split_machine.specs.run_laws.declared.held.Work.{Work}
use Rattle.split_machine.specs.run_laws.Between.{Between, CanCrash}
use Rattle.split_machine.specs.run_laws.EventsLaws.{held, IsHeldAt, with_log, without_job}
use Rattle.split_machine.specs.run_laws.Held.{filled_of, HasLog, IsLogOf, IsWorkOut, jobs_of, lines_in, OutView}
use Rattle.split_machine.proofs.run_laws_proofs.Crashes.{AreOut, log_left, may_crash, work_out}
use Rattle.split_machine.proofs.run_laws_proofs.Few.{without_place}
use Rattle.split_machine.proofs.run_laws_proofs.Lines.{log_finished, log_later, log_without, slot_below}
use Rattle.split_machine.proofs.run_laws_proofs.Places.{at_In, In_at, place_there, skip, skip_apart, skip_back, skip_one, taken_at}
use Rattle.split_machine.proofs.run_laws_proofs.Slots.{slot_there}
use Rattle.split_machine.proofs.run_laws_proofs.Stays.{callers_taken, drafts_taken, In_taken, open_calls, work_stays}
use Rattle.split_machine.proofs.run_laws_proofs.Checks.{crashes_between}
use Rattle.split_machine.specs.Events.{IsUnderWay}
use Rattle.split_machine.proofs.Begins.{none_some}
use Rattle.schedule_tests.specs.Losses.{AreStillHeld, GivesWork, IsAfterLoss, IsAtMoment, LosesWork, MayFinish, MayGiveUp}

-- ---- the power goes

abbrev pub gone : WorldView → WorldView
gone w = record w { lost = true }

job_gone : (w : WorldView) (p : JobOut) (job : JobView) → IsJobOut w p job → IsJobOut (gone w) p job
job_gone w p job is = record { there = is.there; who = is.who; draft = is.draft; blocks = is.blocks; words = is.words; lent = is.lent }

filled_gone : (w : WorldView) (p : JobOut) (job : FilledView) → IsFilledOut w p job → IsFilledOut (gone w) p job
filled_gone w p job is = record { there = is.there; who = is.who; draft = is.draft; blocks = is.blocks; words = is.words; lent = is.lent }

work_gone : (w : WorldView) (p : JobOut) (work : Work) → IsWorkOut w p work → IsWorkOut (gone w) p work
work_gone w p (Work.Began job) is = (job_gone w p job is.0, is.1)
work_gone w p (Work.Filled job) is = filled_gone w p job is
work_gone w p (Work.Claimed job slot) is = filled_gone w p job is
work_gone w p (Work.Stored job slot) is = filled_gone w p job is
work_gone w p (Work.Persisted job slot) is = filled_gone w p job is

the_log : (o : Option RoundView) → IsSome o → (log : RoundView) × (o ≡ Some log)
the_log None some = absurd (none_some RoundView some)
the_log (Some log) some = (log, refl)

module _ (w : WorldView) (out : OutView) (b : Between w out) (some : IsSome out.log) where
  abbrev log_out : RoundView
  log_out = (the_log out.log some).0

  log_out_is : out.log ≡ Some log_out
  log_out_is = (the_log out.log some).1

  -- ALL IS HELD.
  pub loses : IsAfterLoss (gone w) out
  loses = record {
    usable = b.usable;
    lost = refl;
    none_unfinished = b.none_unfinished;
    log = log_out;
    log_is = log_out_is;
    log_of = log_later w (gone w) log_out out.jobs (record { geometry = refl; base = refl; first = refl; lines_out = refl }) refl (subst (λ (o : Option RoundView). HasLog w o out.jobs) log_out_is b.log);
    jobs = record {
      place = λ i. i;
      apart = λ i j same. same;
      each = λ i h at. (
          let p = place_there w.pending i (omega (arith, slice_get_within out.jobs i h at, b.held.count)) in
          let both = b.held.each i p.0 h p.1 at in
          (p.0, p.1, both.0, work_gone w p.0 h.work both.1));
      all = λ p there. (
          let i = at_In w.pending p there in
          let h = place_there out.jobs i.0 (omega (arith, slice_get_within w.pending i.0 p i.1, b.held.count)) in
          inr (h.0, In_at out.jobs i.0 h.0 h.1, work_gone w p h.0.work (b.held.each i.0 p h.0 i.1 h.1).1));
    };
    next = b.next;
    callers = b.callers;
    drafts = b.drafts;
  }

-- ---- a crash may come

-- the callers of the jobs of the World
abbrev callers_in : WorldView → List Who
callers_in w = map (λ (p : JobOut). p.who) w.pending

are_out : (w : WorldView) (jobs : List Held) → AreStillHeld w jobs → AreOut w (callers_in w) jobs
are_out w jobs is = record {
  place = is.place;
  apart = is.apart;
  each = λ i h at. (let one = is.each i h at in (one.0, one.1, one.2, work_out w one.0 h.work one.3));
  all = λ p there. elim (is.all p there) [ inl home ↦ inl (In-map (λ (q : JobOut). q.who) w.pending p there, home) | inr one ↦ inr (one.0, one.1, work_out w p one.0.work one.2) ];
}

pub can_crash : (w : WorldView) (out : OutView) → IsAfterLoss w out → CanCrash w out
can_crash w out a = record {
  usable = a.usable;
  crash = subst (λ (o : Option RoundView). MayCrash w (lines_in o) (jobs_of out.jobs) (filled_of out.jobs)) (sym a.log_is)
      (may_crash w (callers_in w) (Some a.log) out.jobs (are_out w out.jobs a.jobs) a.callers a.drafts (log_left w a.log out.jobs a.log_of));
  open_calls = open_calls w a.none_unfinished a.next a.callers;
}

-- ---- a place behind one that is taken out

abbrev back : ℕ → ℕ → ℕ
back zero zero = zero
back zero (suc n) = n
back (suc k) zero = zero
back (suc k) (suc n) = suc (back k n)

back_skips : (k n : ℕ) → n ≢ k → skip k (back k n) ≡ n
back_skips zero zero other = absurd (other refl)
back_skips zero (suc n) other = refl
back_skips (suc k) zero other = refl
back_skips (suc k) (suc n) other = ap (λ m. suc m) (back_skips k n (λ same. other (ap (λ m. suc m) same)))

back_one : (k m n : ℕ) → m ≢ k → n ≢ k → back k m ≡ back k n → m ≡ n
back_one k m n one two same = sym (back_skips k m one) ∙ (ap (skip k) same ∙ back_skips k n two)

-- ---- a job is out no more

whose : (w : WorldView) (p q : JobOut) (work : Work) → IsWorkOut w p work → IsWorkOut w q work → p.who ≡ q.who
whose w p q (Work.Began job) one two = sym one.0.who ∙ two.0.who
whose w p q (Work.Filled job) one two = sym one.who ∙ two.who
whose w p q (Work.Claimed job slot) one two = sym one.who ∙ two.who
whose w p q (Work.Stored job slot) one two = sym one.who ∙ two.who
whose w p q (Work.Persisted job slot) one two = sym one.who ∙ two.who

module _ (w : WorldView) (out : OutView) (a : IsAfterLoss w out) (i : ℕ) (h : Held) (at : slice_get out.jobs i ≡ Some h) where
  pub record IsThere : Type 0 where
    pub job : JobOut
    pub at_place : slice_get w.pending (a.jobs.place i) ≡ Some job
    pub who : h.who ≡ job.who
    pub is : IsWorkOut w job h.work

  pub there : IsThere
  there =
      let one = a.jobs.each i h at in
      record { job = one.0; at_place = one.1; who = one.2; is = one.3 }

  below : i < length out.jobs
  below = slice_get_within out.jobs i h at

  module _ (p : JobOut) (at_p : slice_get w.pending (a.jobs.place i) ≡ Some p) (is : IsWorkOut w p h.work) (new : WorldView) (stay : OthersStay w new p.who) (homes : HomesStay p w new) where
    -- those that are held still
    record IsOther (j : ℕ) (k : Held) : Type 0 where
      job : JobOut
      at_place : slice_get w.pending (a.jobs.place (skip i j)) ≡ Some job
      who : k.who ≡ job.who
      works : IsWorkOut new job k.work
      other : a.jobs.place (skip i j) ≢ a.jobs.place i

    other_out : (j : ℕ) (k : Held) → slice_get (remove out.jobs i) j ≡ Some k → IsOther j k
    other_out j k at_k =
        let one = a.jobs.each (skip i j) k (sym (taken_at out.jobs i j below) ∙ at_k) in
        let other : a.jobs.place (skip i j) ≢ a.jobs.place i = λ same. skip_apart i j (a.jobs.apart (skip i j) i same) in
        record {
          job = one.0;
          at_place = one.1;
          who = one.2;
          works = work_stays w new p.who one.0 k.work stay (λ same. other (a.callers (a.jobs.place (skip i j)) (a.jobs.place i) one.0 p one.1 at_p same)) one.3;
          other = other;
        }

    still : (q : JobOut) → In q w.pending → q.who ≢ p.who → AreBlocksHome q.blocks new.disk.cells ⊎ ((k : Held) × In k (remove out.jobs i) × IsWorkOut new q k.work)
    still q in_q other = elim (a.jobs.all q in_q) [
      | inl home ↦ inl (homes q in_q other home)
      | inr one ↦
          let place = at_In out.jobs one.0 one.1 in
          let apart : place.0 ≢ i = λ same. (
          let own : one.0 ≡ h = same_Some one.0 h (sym place.1 ∙ (ap (slice_get out.jobs) same ∙ at)) in
          other (whose w q p h.work (subst (λ (x : Held). IsWorkOut w q x.work) own one.2) is)) in
          let j = skip_back i place.0 apart in
          inr (one.0, In_at (remove out.jobs i) j.0 one.0 (taken_at out.jobs i j.0 below ∙ (ap (slice_get out.jobs) j.1 ∙ place.1)), work_stays w new p.who q one.0.work stay other one.2)
    ]

    -- its blocks are at home, and it stays among the jobs of the World
    pub held_without : new.pending ≡ w.pending → AreBlocksHome p.blocks new.disk.cells → AreStillHeld new (remove out.jobs i)
    held_without same home = record {
      place = λ j. a.jobs.place (skip i j);
      apart = λ j k one. skip_one i j k (a.jobs.apart (skip i j) (skip i k) one);
      each = λ j k at_k. (
          let o = other_out j k at_k in
          (o.job, ap (λ (ps : List JobOut). slice_get ps (a.jobs.place (skip i j))) same ∙ o.at_place, o.who, o.works));
      all = λ q in_q. (
          let was : In q w.pending = subst (In q) same in_q in
          let place = at_In w.pending q was in
          elim (cases_eq place.0 (a.jobs.place i)) [
            | inl here ↦ inl (subst (λ (x : JobOut). AreBlocksHome x.blocks new.disk.cells) (same_Some p q (sym at_p ∙ (ap (slice_get w.pending) (sym here) ∙ place.1))) home)
            | inr other ↦ still q was (λ who. other (a.callers place.0 (a.jobs.place i) q p place.1 at_p who))
          ]);
    }

    -- or it is none of them any more
    pub taken_without : new.pending ≡ remove w.pending (a.jobs.place i) → AreStillHeld new (remove out.jobs i)
    taken_without same = record {
      place = λ j. back (a.jobs.place i) (a.jobs.place (skip i j));
      apart = λ j k one. skip_one i j k (a.jobs.apart (skip i j) (skip i k) (back_one (a.jobs.place i) (a.jobs.place (skip i j)) (a.jobs.place (skip i k)) (not_here j) (not_here k) one));
      each = λ j k at_k. (
          let o = other_out j k at_k in
          let n = a.jobs.place (skip i j) in
          let at_new : slice_get new.pending (back (a.jobs.place i) n) ≡ Some o.job =
          ap (λ (ps : List JobOut). slice_get ps (back (a.jobs.place i) n)) same
          ∙ (taken_at w.pending (a.jobs.place i) (back (a.jobs.place i) n) (slice_get_within w.pending (a.jobs.place i) p at_p)
          ∙ (ap (slice_get w.pending) (back_skips (a.jobs.place i) n o.other) ∙ o.at_place)) in
          (o.job, at_new, o.who, o.works));
      all = λ q in_q. (
          let was = In_taken w.pending (a.jobs.place i) p q at_p a.callers (subst (In q) same in_q) in
          still q was.0 was.1);
    } where
      not_here : (j : ℕ) → a.jobs.place (skip i j) ≢ a.jobs.place i
      not_here j one = skip_apart i j (a.jobs.apart (skip i j) i one)

-- ---- it finishes

module _ (w : WorldView) (out : OutView) (a : IsAfterLoss w out) (i slot : ℕ) (who : Who) (filled : FilledView) (at : IsHeldAt out i who (Work.Persisted filled slot)) where
  abbrev h : Held
  h = held who (Work.Persisted filled slot)

  abbrev place : IsThere w out a i h at
  place = there w out a i h at

  abbrev p : JobOut
  p = place.job

  pub finish_of_world : IsOfWorld w filled
  finish_of_world = (p, place.is)

  pub finish_slot : slot < w.geometry.log
  finish_slot = omega (arith, slot_below w a.log out.jobs a.log_of slot (slot_there out.jobs i slot h at refl), a.log_of.holds.count, a.log_of.fresh.are.count)

  entry : HoldsEntry (line_at a.log.lines slot).cells p.draft (a.log.base + slot)
  entry = subst (λ (d : Draft). HoldsEntry (line_at a.log.lines slot).cells d (a.log.base + slot)) place.is.draft (a.log_of.lines h (In_at out.jobs i h at))

  module _ (new : WorldView) (after : Supply) (ends : LosesFinish slot p w new after) where
    abbrev u : WorldView
    u = record w { claims = w.claims ++ (slot, p.draft) ∷ []; acts = new.acts; disk = new.disk; lost = true }

    finished_u : IsAfterLoss u (without_job out i)
    finished_u = record {
      usable = a.usable;
      lost = refl;
      none_unfinished = a.none_unfinished;
      log = a.log;
      log_is = a.log_is;
      log_of = log_finished w a.log out.jobs a.log_of i h at u slot p.draft (record { geometry = refl; base = refl; first = refl; lines_out = refl }) refl refl entry;
      jobs = held_without w out a i h at p place.at_place place.is u (subst (λ (x : WorldView). OthersStay w x p.who) ends.new_is ends.stay) (subst (HomesStay p w) ends.new_is ends.homes) refl ends.back;
      next = a.next;
      callers = a.callers;
      drafts = a.drafts;
    }

    pub finished : IsAfterLoss new (without_job out i)
    finished = subst (λ (x : WorldView). IsAfterLoss x (without_job out i)) (sym ends.new_is) finished_u

-- ---- it is given up

module _ (w : WorldView) (out : OutView) (a : IsAfterLoss w out) (i : ℕ) (who : Who) (filled : FilledView) (at : IsHeldAt out i who (Work.Filled filled)) where
  abbrev h-2 : Held
  h-2 = held who (Work.Filled filled)

  abbrev place-2 : IsThere w out a i h-2 at
  place-2 = there w out a i h-2 at

  abbrev q : JobOut
  q = place-2.job

  pub given_of_world : IsOfWorld w filled
  given_of_world = (q, place-2.is)

  module _ (new : WorldView) (full : Full) (ends : GivesUp full q w new) where
    abbrev y : WorldView
    y = record w { pending = remove w.pending (a.jobs.place i); over = Some (over_by w.over full); given_up = w.given_up + 1; disk = new.disk }

    new_is : new ≡ y
    new_is =
        ends.new_is ∙ λ k. record w { pending = without_place w a.next a.callers (a.jobs.place i) q place-2.at_place k; over = Some (over_by w.over full); given_up = w.given_up + 1; disk = new.disk }

    below-2 : a.jobs.place i < length w.pending
    below-2 = slice_get_within w.pending (a.jobs.place i) q place-2.at_place

    given_y : IsAfterLoss y (without_job out i)
    given_y = record {
      usable = a.usable;
      lost = a.lost;
      none_unfinished = a.none_unfinished;
      log = a.log;
      log_is = a.log_is;
      log_of = log_later w y a.log (remove out.jobs i) (record { geometry = refl; base = refl; first = refl; lines_out = refl }) refl (log_without w a.log out.jobs a.log_of i h-2 at refl);
      jobs = taken_without w out a i h-2 at q place-2.at_place place-2.is y (subst (λ (x : WorldView). OthersStay w x q.who) new_is ends.stay) (subst (HomesStay q w) new_is ends.homes) refl;
      next = λ p in_p. a.next p (In_taken w.pending (a.jobs.place i) q p place-2.at_place a.callers in_p).0;
      callers = callers_taken w.pending (a.jobs.place i) below-2 a.callers;
      drafts = drafts_taken w.pending (a.jobs.place i) below-2 a.drafts;
    }

    pub given : IsAfterLoss new (without_job out i)
    given = subst (λ (x : WorldView). IsAfterLoss x (without_job out i)) (sym new_is) given_y

-- the log is the one that is out
pub capacity_is : (w : WorldView) (out : OutView) (a : IsAfterLoss w out) (log : RoundView) → out.log ≡ Some log → length log.lines ≡ w.geometry.log
capacity_is w out a log is =
    let same : a.log ≡ log = same_Some a.log log (sym a.log_is ∙ is) in
    subst (λ (x : RoundView). length x.lines ≡ w.geometry.log) same (a.log_of.holds.count ∙ a.log_of.fresh.are.count)

-- ---- while the power is on, or once it went

pub lost_is_after : (w new : WorldView) (out : OutView) → Between w out → IsSome out.log → new ≡ gone w → IsAfterLoss new out
lost_is_after w new out b some same = subst (λ (x : WorldView). IsAfterLoss x out) (sym same) (loses w out b some)

pub moment_off : (w : WorldView) (out : OutView) (power : Supply) → IsAfterLoss w out → IsAtMoment w out power
moment_off w out power a = record {
  on = λ awake. (let never : true ≡ false = sym a.lost ∙ awake in cc);
  off = λ lost. a;
}

pub moment_on : (w : WorldView) (out : OutView) (power : Supply) → IsUnderWay w out power → IsAtMoment w out power
moment_on w out power u = record {
  on = λ awake. u;
  off = λ lost. (let never : true ≡ false = sym lost ∙ u.between.awake in cc);
}

pub moment_can_crash : (w : WorldView) (out : OutView) (power : Supply) → IsAtMoment w out power → CanCrash w out
moment_can_crash w out power m = by w.lost refl where
  by : (b : Bool) → w.lost ≡ b → CanCrash w out
  by true is = can_crash w out (m.off is)
  by false is = crashes_between w out (m.on is).between

-- ---- what an answer says

pub ok_map : (A E P Q : Type 0) (r : Result A E) → (P → Q) → IfOk r (λ x. P) → IfOk r (λ x. Q)
ok_map A E P Q (Ok x) f is = f is
ok_map A E P Q (Err e) f is = tt

-- ---- whichever job it is

module _ (w : WorldView) (out : OutView) (a : IsAfterLoss w out) (i : ℕ) (who : Who) where
  pub may_finish : (work : Work) → IsHeldAt out i who work → MayFinish w work
  may_finish (Work.Persisted job slot) at = (a.usable, a.log_of.fresh.are.out, finish_of_world w out a i slot who job at, finish_slot w out a i slot who job at)
  may_finish (Work.Began job) at = tt
  may_finish (Work.Filled job) at = tt
  may_finish (Work.Claimed job slot) at = tt
  may_finish (Work.Stored job slot) at = tt

  pub may_give_up : (work : Work) → IsHeldAt out i who work → (log : RoundView) → out.log ≡ Some log → MayGiveUp w log work
  may_give_up (Work.Filled job) at log is = record {
    of_world = given_of_world w out a i who job at;
    lines_out = a.log_of.fresh.are.out;
    usable = a.usable;
    size = capacity_is w out a log is;
  }
  may_give_up (Work.Began job) at log is = tt
  may_give_up (Work.Claimed job slot) at log is = tt
  may_give_up (Work.Stored job slot) at log is = tt
  may_give_up (Work.Persisted job slot) at log is = tt

  module _ (new : WorldView) (jobs : List Held) (same : jobs ≡ remove out.jobs i) where
    pub finish_after : (work : Work) → IsHeldAt out i who work → (after : Supply) → LosesWork w new after work → IsAfterLoss new (record { log = out.log; jobs = jobs })
    finish_after (Work.Persisted job slot) at after ends =
        let place = there w out a i (held who (Work.Persisted job slot)) at in
        subst (λ (xs : List Held). IsAfterLoss new (record { log = out.log; jobs = xs })) (sym same) (finished w out a i slot who job at new after (ends place.job place.is))
    finish_after (Work.Began job) at after ends = absurd ends
    finish_after (Work.Filled job) at after ends = absurd ends
    finish_after (Work.Claimed job slot) at after ends = absurd ends
    finish_after (Work.Stored job slot) at after ends = absurd ends

    pub give_after : (work : Work) → IsHeldAt out i who work → (log then : RoundView) → out.log ≡ Some log → GivesWork w new log then work → IsAfterLoss new (record { log = Some then; jobs = jobs })
    give_after (Work.Filled job) at log then log_is ends =
        let place = there w out a i (held who (Work.Filled job)) at in
        let still : out.log ≡ Some then = log_is ∙ ap (λ (x : RoundView). Some x) (sym ends.1.3) in
        subst (λ (o : Option RoundView). IsAfterLoss new (record { log = o; jobs = jobs })) still
        (subst (λ (xs : List Held). IsAfterLoss new (record { log = out.log; jobs = xs })) (sym same) (given w out a i who job at new ends.0 (ends.2 place.job place.is)))
    give_after (Work.Began job) at log then log_is ends = absurd ends
    give_after (Work.Claimed job slot) at log then log_is ends = absurd ends
    give_after (Work.Stored job slot) at log then log_is ends = absurd ends
    give_after (Work.Persisted job slot) at log then log_is ends = absurd ends
