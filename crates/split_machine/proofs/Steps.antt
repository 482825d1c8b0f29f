-- A step of a run: whatever the event was, the course goes on.
use Rattle.std.specs.Prelude.{◌≡◌, ◌⊎◌, ◌<◌, ◌+◌, ◌^◌, ℕ, true, false, List, length, filter, Option, Some, None, IfOk, Ok, Err, Result, refl}
use Rattle.std.specs.List.{range_with_len}
use Rattle.std.proofs.Common.{arith, ap, ◌∙◌, sym, subst, inl, inr}
use Rattle.posix_types.specs.declared.call.Who.{Who}
use Rattle.run_laws.specs.crash_spec.Orders as meaning
use Rattle.run_laws.specs.crash_spec.Machine.{Event, Setting}
use Rattle.run_laws.specs.crash_spec.Orders.{Order, Picks}
use Rattle.run_laws.specs.crash_spec.Schedules.{caller_of, can_run, Course, runnable}
use Rattle.schedule.specs.declared.picks.Picker.{Picker}
use Rattle.schedule.specs.Picking.{IsSoFar, PicksNext}
use Rattle.run_laws.specs.pm_model.Powers.{Steps, Supply}
use Rattle.run_laws.specs.file_calls.declared.names.outcomes.NoMemory.{NoMemory}
use Rattle.run_laws.specs.posix_spec.Scripted.{call_count, IsSetUp}
use Rattle.run_laws.specs.round_log.Rounds.{RoundView}
use Rattle.run_laws.specs.world_view_laws.Rounds.{IsNextRound, LosesRound}
use Rattle.run_laws.specs.world_view_laws.Views.{calls_out, WorldView}
use Rattle.run_laws.specs.Between.{Between, GoesOn, LosesPower}
use Rattle.run_laws.specs.EventsLaws.{CanCheck}
use Rattle.run_laws.specs.Held.{nothing_out, OutView}
use Rattle.run_laws.proofs.Checks.{check_loses, round_checked}
use Rattle.run_laws.specs.Course.{ComesBy, FindsOver, IsCourse, IsEventOf, Leads, setting_of}
use Rattle.run_laws.specs.Course as courses
use Rattle.run_laws.specs.CourseLaws.{GoesBeside}
use Rattle.run_laws.specs.Runs.{AreLeft, IsToRun}
use Rattle.run_laws.proofs.Some.{not_ended}
use Rattle.run_laws.proofs.Rounds.{calls_are_out, checks_beside, idle_can_run, job_can_run, others_cannot}
use Rattle.split_machine.specs.declared.outstanding.Acted.{Acted}
use Rattle.split_machine.specs.Events.{AreOutBeside, AreRunnable, EndsBeside, IsActed, IsBegunRound, IsOnCourse, IsOpen, IsSetUpStep, IsStepped, LosesStep, Tells}

-- ---- the course goes on by one event, or by the end of a round

module _ (first : WorldView) (order : Order) (events : ℕ) (old : WorldView) (out : OutView) (picker : Picker) (on : IsOnCourse first order events old out picker) (new : WorldView) (left : OutView) where
  abbrev g : Setting
  g = setting_of first

  abbrev c : Course
  c = on.course

  by_event : (then : Picker) (next : Course) (e : Event) → IsEventOf e old new → ComesBy g order c e next (caller_of e) → Between new left → IsCourse g new left next.machine → IsSoFar then order next.picker
      → IsOnCourse first order (events + 1) new left then
  by_event then next e of_world comes between beside far = record { course = next; leads = courses.Acts events old new out left c next e on.leads of_world comes between beside; beside = beside; so_far = far }

  by_space : (then : Picker) (next : Course) (who : Who) → EndsBeside who old out new left → FindsOver g order c who next → Between new left → IsCourse g new left next.machine → IsSoFar then order next.picker
      → IsOnCourse first order (events + 0) new left then
  by_space then next who ends finds between beside far = record {
    course = next;
    leads = subst (λ (n : ℕ). Leads order first n new left next) (none_more events)
        (subst (λ (o : OutView). Leads order first events new o next) (sym ends.same)
        (courses.EndsForSpace events old new out c next who ends.after ends.need ends.room on.leads ends.ends finds (subst (Between new) ends.same between)
        (subst (λ (o : OutView). IsCourse g new o next.machine) ends.same beside)));
    beside = beside;
    so_far = far;
  }
    where
      none_more : (n : ℕ) → n ≡ n + 0
      none_more n = omega arith

  -- whose event it is
  comes_by : (e : Event) (o : Option Who) → caller_of e ≡ o → (next : Course) → ComesBy g order c e next o → ComesBy g order c e next (caller_of e)
  comes_by e o is next = subst (ComesBy g order c e next) (sym is)

  -- an event of the set-up
  pub set_up_event : Between new left → GoesBeside (Some Who.Setup) g c.machine old new left → IsOnCourse first order (events + 1) new left picker
  set_up_event between goes =
      let next : Course = record c { machine = goes.next } in
      by_event picker next goes.event goes.of_world (comes_by goes.event (Some Who.Setup) goes.caller next (goes.goes, refl)) between goes.course on.so_far

  pub set_up_space : Between new left → EndsBeside Who.Setup old out new left → IsOnCourse first order (events + 0) new left picker
  set_up_space between ends =
      let lacks = ends.beside g c.machine on.beside in
      by_space picker (record c { machine = lacks.0 }) Who.Setup ends (lacks.1, refl) between lacks.2 on.so_far

  -- a Checkpoint
  pub check_event : Between new left → GoesBeside None g c.machine old new left → length old.history < call_count old.scripts → IsOnCourse first order (events + 1) new left picker
  check_event between goes calls =
      let next : Course = record c { machine = goes.next } in
      by_event picker next goes.event goes.of_world (comes_by goes.event None goes.caller next (goes.goes, not_ended g c.machine old out on.beside calls, refl)) between goes.course on.so_far

  -- ---- a thread is picked

  module _ (b : Between old out) (up : IsSetUp old.scripts old.history (Who.Thread 0)) (numbers : List ℕ) (are : AreRunnable old numbers) (then : Picker) (n : ℕ) (picks : PicksNext numbers picker then n) where
    tells : Tells old (λ i. can_run g c.machine (Who.Thread i))
    tells i true (inl has) = subst (λ (x : Who). can_run g c.machine x ≡ true) has.2 (job_can_run g c.machine old out has.0 b on.beside has.1)
    tells i true (inr may) = idle_can_run g c.machine old out (Who.Thread i) b on.beside may.0 up may.1 may.2
    tells i false kept = others_cannot g c.machine old out (Who.Thread i) b on.beside kept.0 kept.1

    numbers_are : numbers ≡ runnable g c.machine
    numbers_are = are.all (λ i. can_run g c.machine (Who.Thread i)) tells
        ∙ ap (λ (s : Setting). filter (λ (i : ℕ). can_run g c.machine (Who.Thread i)) (range_with_len 0 (length s.scripts.threads))) (sym on.beside.setting)

    -- by the order
    far : (next : meaning.Picker) × Picks (runnable g c.machine) c.picker order n next × IsSoFar then order next
    far = let one = picks order c.picker on.so_far in (one.0, subst (λ (xs : List ℕ). Picks xs c.picker order n one.0) numbers_are one.1, one.2)

    pub thread_event : Between new left → GoesBeside (Some (Who.Thread n)) g c.machine old new left → IsOnCourse first order (events + 1) new left then
    thread_event between goes =
        let next : Course = record { machine = goes.next; picker = far.0 } in
        by_event then next goes.event goes.of_world (comes_by goes.event (Some (Who.Thread n)) goes.caller next (goes.goes, far.1)) between goes.course far.2

    pub thread_space : Between new left → EndsBeside (Who.Thread n) old out new left → IsOnCourse first order (events + 0) new left then
    thread_space between ends =
        let lacks = ends.beside g c.machine on.beside in
        by_space then (record { machine = lacks.0; picker = far.0 }) (Who.Thread n) ends (lacks.1, far.1) between lacks.2 far.2

    pub thread_turn : IsToRun g order c (Who.Thread n)
    thread_turn = (far.0, far.1)

-- ---- whatever a caller's event was

module _ (old new : WorldView) (out left : OutView) (before after : Supply) where
  -- the calls that are out where the power went, by whose event it was
  left_by : (g : Setting) (order : Order) (c : Course) (who : Who) → IsToRun g order c who → AreOutBeside g c.machine (Some who) (calls_out new) → AreLeft g order c (calls_out new)
  left_by g order c who turn (inl same) = inl same
  left_by g order c who turn (inr one) = inr (record { who = who; call = one.call; begins = one.begins; turn = turn; behind = one.behind })

  pub set_up_acted : (acted : Acted) → IsActed Who.Setup old out new left before after acted → IsSetUpStep old out new left before after acted
  set_up_acted Acted.Event is picker = (is.0, λ first order events on. set_up_event first order events old out picker on new left is.0.between (is.1 (setting_of first) on.course.machine on.beside))
  set_up_acted Acted.RoundOver is picker = (is.0, λ first order events on. set_up_space first order events old out picker on new left is.0.between is.1)
  set_up_acted Acted.PowerLost is picker = record {
    begins = is.begins;
    loses = is.loses;
    leaves = λ first order events on. left_by (setting_of first) order on.course Who.Setup tt (is.beside (setting_of first) on.course.machine on.beside);
  }

  pub set_up_acted_ok : (r : Result Acted NoMemory) → IfOk r (IsActed Who.Setup old out new left before after) → IfOk r (IsSetUpStep old out new left before after)
  set_up_acted_ok (Ok acted) is = set_up_acted acted is
  set_up_acted_ok (Err e) is = tt

  pub thread_acted : (b : Between old out) (up : IsSetUp old.scripts old.history (Who.Thread 0)) (numbers : List ℕ) → AreRunnable old numbers → (picker then : Picker) (n : ℕ) → PicksNext numbers picker then n
      → (acted : Acted) → IsActed (Who.Thread n) old out new left before after acted → IsStepped old out picker new left then before after (Some acted)
  thread_acted b up numbers are picker then n picks Acted.Event is =
      (is.0, λ first order events on. thread_event first order events old out picker on new left b up numbers are then n picks is.0.between (is.1 (setting_of first) on.course.machine on.beside))
  thread_acted b up numbers are picker then n picks Acted.RoundOver is =
      (is.0, λ first order events on. thread_space first order events old out picker on new left b up numbers are then n picks is.0.between is.1)
  thread_acted b up numbers are picker then n picks Acted.PowerLost is = record {
    begins = is.begins;
    loses = is.loses;
    leaves = λ first order events on. left_by (setting_of first) order on.course (Who.Thread n) (thread_turn first order events old out picker on new left b up numbers are then n picks)
        (is.beside (setting_of first) on.course.machine on.beside);
  }

  -- a Checkpoint
  module _ (log : RoundView) (can : CanCheck old out log) (calls : length old.history < call_count old.scripts) (steps : Steps (2 ^ 26) before after) (nothing : left ≡ nothing_out) where
    pub checked : IsNextRound old new after → IsSetUpStep old out new left before after Acted.Event
    checked is picker = subst (λ (o : OutView). IsStepped old out picker new o picker before after (Some Acted.Event)) (sym nothing) (
      goes,
      λ first order events on. check_event first order events old out picker on new nothing_out goes.between (checks_beside old new out log after can is (setting_of first) on.course.machine on.beside) calls,
    ) where
      goes : GoesOn old out new nothing_out before after
      goes = round_checked old new out log before after can steps is

    pub check_lost : LosesRound old new after → IsSetUpStep old out new left before after Acted.PowerLost
    check_lost is picker = subst (λ (o : OutView). LosesStep old out picker new o before after) (sym nothing) (record {
      begins = None;
      loses = loses;
      leaves = λ first order events on. inl (loses.calls ∙ calls_are_out (setting_of first) on.course.machine old out can.between on.beside);
    }) where
      loses : LosesPower None old out new nothing_out before after
      loses = check_loses old new out log before after can steps is

-- ---- the lines go out

module _ (old new : WorldView) (out left : OutView) (opens : IsOpen old out new left) where
  pub opened_course : (first : WorldView) (order : Order) (events : ℕ) (picker : Picker) → IsOnCourse first order events old out picker → IsOnCourse first order events new left picker
  opened_course first order events picker on = by opens.1 where
    by : ((new ≡ old) × (left ≡ out)) ⊎ IsBegunRound old out new left → IsOnCourse first order events new left picker
    by (inl same) = subst (λ (o : OutView). IsOnCourse first order events new o picker) (sym same.1) (subst (λ (v : WorldView). IsOnCourse first order events v out picker) (sym same.0) on)
    by (inr begun) = record {
      course = on.course;
      leads = subst (λ (o : OutView). Leads order first events new o on.course) (sym begun.left_is) (courses.Opens events old new out on.course begun.lines begun.base on.leads begun.none begun.begun);
      beside = begun.beside (setting_of first) on.course.machine on.beside;
      so_far = on.so_far;
    }
