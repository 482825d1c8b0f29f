-- The machine over events beside the World where a job goes, a round ends or begins; and how it came here.
use Rattle.std.specs.Prelude.{◌≡◌, ◌≢◌, ◌<◌, ◌≤◌, ◌+◌, ◌&&◌, ◌||◌, not, ℕ, Bool, true, false, List, [], ◌∷◌, ◌++◌, length, map, filter, Option, Some, None, Err, is_some, slice_get, refl}
use Rattle.std.specs.List.{remove}
use Rattle.std.specs.Option.{option_map_or}
use Rattle.std.proofs.Common.{arith, ap, ◌∙◌, sym, subst, inl, inr}
use Rattle.std.proofs.lemmas.Bool.{cases_lt}
use Rattle.std.proofs.lemmas.List.{append-nil}
use Rattle.std.proofs.lemmas.Option.{same_Some, slice_get_within}
use Rattle.round_log.specs.oplog_entry.declared.claims.Full.{Full}
use Rattle.round_log.specs.pm_model.Powers.{Supply}
use Rattle.round_log.specs.Rounds.{IsClaimed, RoundView}
use Rattle.world_view_laws.specs.crash_spec.Busy.{is_busy, is_logged, is_logged_put}
use Rattle.world_view_laws.specs.crash_spec.Machine as machine
use Rattle.world_view_laws.specs.crash_spec.Machine.{is_idle, is_of, item_for, job_of, may_begin, MayLackSpace, unfinished_call}
use Rattle.world_view_laws.specs.crash_spec.Schedules.{Advances, caller_of, Checks, Course, Further, LacksSpaceInTurn, Reaches, Runs, SetUp, SetUpLacksSpace, Starts}
use Rattle.world_view_laws.specs.crash_spec.Orders.{Order, Picker}
use Rattle.world_view_laws.specs.list_laws.Members.{In}
use Rattle.world_view_laws.specs.live_model.Standing.{JobOut}
use Rattle.world_view_laws.specs.live_model.Jobs.{without}
use Rattle.world_view_laws.specs.posix_laws.FitsLaws.{held_by-le}
use Rattle.world_view_laws.specs.posix_types.declared.call.Call.{Call}
use Rattle.world_view_laws.specs.posix_types.declared.call.Who.{Who}
use Rattle.world_view_laws.specs.posix_types.declared.item.Item.{Item}
use Rattle.world_view_laws.specs.posix_tables.Room.{growth}
use Rattle.world_view_laws.specs.posix_spec.FileRows.{content}
use Rattle.world_view_laws.specs.posix_spec.Put.{Put, put_by}
use Rattle.world_view_laws.specs.posix_spec.Run.{Unfinished}
use Rattle.world_view_laws.specs.posix_spec.Scripted.{Scripted}
use Rattle.world_view_laws.specs.posix_spec.State.{State}
use Rattle.run_laws.specs.Changes.{ChangesTreeAtMost}
use Rattle.world_view_laws.specs.write_end.Ends.{begun_by}
use Rattle.world_view_laws.specs.write_jobs.Jobs.{FilledView}
use Rattle.world_view_laws.specs.Begins.{IsFilledOut, IsNeed, IsStagingNeed, item_of, LacksSpace, with_disk}
use Rattle.world_view_laws.specs.Holes.{file_of, holes_at}
use Rattle.world_view_laws.specs.write_plan.Plans.{placed_at, staged_run}
use Rattle.world_view_laws.specs.Jobs.{Finishes, GivesUp, over_by}
use Rattle.world_view_laws.specs.declared.views.over.Over.{Over}
use Rattle.world_view_laws.specs.Views.{Disk, state_of, WorldView}
use Rattle.run_laws.specs.declared.held.Held.{Held}
use Rattle.run_laws.specs.declared.held.Work.{Work}
use Rattle.run_laws.specs.Between.{Between}
use Rattle.run_laws.specs.Course.{Acts, claims_in, ComesBy, EndsForSpace, FindsOver, HaveOwnFiles, IsCourse, IsJobBeside, Opens, setting_of, Starts as StartsHere}
use Rattle.run_laws.specs.CourseLaws.{AreScheduled, CallsAreOut, ChecksBeside, FindsFullBeside, FinishesBeside, GoesBeside, IdleBegins, IdleCanRun, IsKeptFrom, IsNobodys, JobCanRun, LacksSpaceBeside, LeadsReaches, LosesBeside, OpensBeside, OthersCannot, RunStarts}
use Rattle.run_laws.specs.EventsLaws.{held, opened_log, IsHeldAt, with_log, without_job}
use Rattle.run_laws.specs.Held.{HasLog, IsLogOf, nothing_out, OutView}
use Rattle.run_laws.proofs.Beside.{IsBesideHere, its_job, its_stage}
use Rattle.run_laws.proofs.Checks.{none_pending}
use Rattle.run_laws.proofs.Machines.{begins_now, beside_at, item_is, job_there, may_now, next_is, node_then, none_there, outs_are, state_is, without_there}
use Rattle.run_laws.proofs.Few.{without_place}
use Rattle.run_laws.proofs.Finds.{maps_same}
use Rattle.run_laws.proofs.Places.{In_at, place_there, skip, skip_apart, skip_one, taken_at, taken_count, at_In}

-- ---- a job goes

module _ (w : WorldView) (out : OutView) (b : Between w out) (i : ℕ) (who : Who) (work : Work) (at : slice_get out.jobs i ≡ Some (held who work)) (g : machine.Setting) (m : machine.Machine) (course : IsCourse g w out m) where
  abbrev its : IsBesideHere w out i who work m
  its = its_job w out b i who work at g m course

  below : i < length w.pending
  below = slice_get_within w.pending i its.pending its.at_pending

  below_m : i < length m.jobs
  below_m = slice_get_within m.jobs i its.job its.at_job

  below_out : i < length out.jobs
  below_out = slice_get_within out.jobs i (held who work) at

  -- what is left of the machine's jobs
  pub left_is : filter (λ (x : machine.Job). not (is_of who x)) m.jobs ≡ remove m.jobs i
  left_is = subst (λ (x : Who). filter (λ (y : machine.Job). not (is_of x y)) m.jobs ≡ remove m.jobs i) its.who_is (without_there g w out m course b.held.count b i its.job its.at_job)

  -- and the World's
  pub pending_left : without its.pending.who w.pending ≡ remove w.pending i
  pending_left = without_place w b.next b.callers i its.pending its.at_pending

  pub count_left : length (remove m.jobs i) ≡ length (remove w.pending i)
  count_left = omega (arith, taken_count w.pending i below, taken_count m.jobs i below_m, course.count)

  pub held_left : length (remove out.jobs i) ≡ length (remove w.pending i)
  held_left = omega (arith, taken_count w.pending i below, taken_count out.jobs i below_out, course.held)

  pub files_left : HaveOwnFiles (remove m.jobs i)
  files_left j k x y at_x at_y same = skip_one i j k (course.files (skip i j) (skip i k) x y (sym (taken_at m.jobs i j below_m) ∙ at_x) (sym (taken_at m.jobs i k below_m) ∙ at_y) same)

  -- those that are left stood behind the skip
  pub jobs_left : (P : JobOut → Held → machine.Job → Type 0) → ((j : ℕ) (p : JobOut) (k : Held) (x : machine.Job) → j ≢ i → slice_get w.pending j ≡ Some p → slice_get out.jobs j ≡ Some k → slice_get m.jobs j ≡ Some x → P p k x)
      → (j : ℕ) (p : JobOut) (k : Held) (x : machine.Job) → slice_get (remove w.pending i) j ≡ Some p → slice_get (remove out.jobs i) j ≡ Some k → slice_get (remove m.jobs i) j ≡ Some x → P p k x
  jobs_left P each j p k x at_p at_k at_x =
      each (skip i j) p k x (skip_apart i j) (sym (taken_at w.pending i j below) ∙ at_p) (sym (taken_at out.jobs i j below_out) ∙ at_k) (sym (taken_at m.jobs i j below_m) ∙ at_x)

-- ---- it is given up

module _ (who : Who) (w new : WorldView) (out : OutView) (i : ℕ) (log : RoundView) (filled : FilledView) (full : Full) (b : Between w out) (at : IsHeldAt out i who (Work.Filled filled)) (is : out.log ≡ Some log) (claims : IsClaimed log log (Err full))
    (ends : (p : JobOut) → IsFilledOut w p filled → GivesUp full p w new) (g : machine.Setting) (m : machine.Machine) (course : IsCourse g w out m) where
  abbrev one : IsBesideHere w out i who (Work.Filled filled) m
  one = its_job w out b i who (Work.Filled filled) at g m course

  gives : GivesUp full one.pending w new
  gives = ends one.pending (b.held.each i one.pending (held who (Work.Filled filled)) one.at_pending at).1

  abbrev y : WorldView
  y = record w { pending = remove w.pending i; over = Some (over_by w.over full); given_up = w.given_up + 1; disk = new.disk }

  new_is : new ≡ y
  new_is =
      gives.new_is ∙ λ k. record w { pending = pending_left w out b i who (Work.Filled filled) at g m course k; over = Some (over_by w.over full); given_up = w.given_up + 1; disk = new.disk }

  -- a call had begun
  had_begun : m.begun ≡ true
  had_begun = course.begun (inl (λ none. (let never : None ≡ Some one.pending = sym (ap (λ (ps : List JobOut). slice_get ps i) none) ∙ one.at_pending in cc)))

  abbrev next : machine.Machine
  next = record (machine.without_job m who) { over = true }

  full_course : IsCourse g y (without_job (with_log out log) i) (record m { jobs = remove m.jobs i; over = true })
  full_course = record {
    setting = course.setting;
    history = course.history;
    count = count_left w out b i who (Work.Filled filled) at g m course;
    held = held_left w out b i who (Work.Filled filled) at g m course;
    jobs = jobs_left w out b i who (Work.Filled filled) at g m course (λ (p : JobOut) (k : Held) (x : machine.Job). IsJobBeside y p k x) (λ j p k x other at_p at_k at_x. (
        let was = course.jobs j p k x at_p at_k at_x in
        record { who = was.who; call = was.call; node = was.node; stage = was.stage }));
    files = files_left w out b i who (Work.Filled filled) at g m course;
    claims = course.claims ∙ ap claims_in is;
    over = refl;
    begun = λ either. had_begun;
  }

  pub full_now : GoesBeside (Some who) g m w new (without_job (with_log out log) i)
  full_now = record {
    event = machine.Claim who;
    next = next;
    caller = refl;
    goes = machine.FindsFull who one.job (its_stage w out b i who (Work.Filled filled) at g m course) enough;
    of_world = inr (one.pending, full, sym one.own, gives);
    course = subst (λ (x : WorldView). IsCourse g x (without_job (with_log out log) i) next) (sym new_is)
        (subst (λ (js : List machine.Job). IsCourse g y (without_job (with_log out log) i) (record m { jobs = js; over = true })) (sym (left_is w out b i who (Work.Filled filled) at g m course)) full_course);
  } where
    has : IsLogOf w log out.jobs
    has = subst (λ (o : Option RoundView). HasLog w o out.jobs) is b.log

    enough : g.lines ≤ m.claims
    enough =
        let claims_are : m.claims ≡ log.tail = course.claims ∙ ap claims_in is in
        let lines_are : g.lines ≡ length log.lines = ap (λ (x : machine.Setting). x.lines) course.setting ∙ sym (has.holds.count ∙ has.fresh.are.count) in
        omega (arith, claims_are, lines_are, claims.2)

pub finds_full_beside : FindsFullBeside
finds_full_beside who w new out i log same filled full b at is claims ends g m course =
    subst (λ (x : RoundView). GoesBeside (Some who) g m w new (without_job (with_log out x) i)) (sym claims.3)
    (full_now who w new out i log filled full b at is (claims.0, claims.1, claims.2, refl) ends g m course)

-- ---- it finishes

module _ (who : Who) (w new : WorldView) (out : OutView) (i slot : ℕ) (power : Supply) (filled : FilledView) (b : Between w out) (at : IsHeldAt out i who (Work.Persisted filled slot))
    (ends : (p : JobOut) → IsFilledOut w p filled → Finishes slot p w new power) (g : machine.Setting) (m : machine.Machine) (course : IsCourse g w out m) where
  abbrev work : Work
  work = Work.Persisted filled slot

  abbrev its-2 : IsBesideHere w out i who work m
  its-2 = its_job w out b i who work at g m course

  abbrev q : JobOut
  q = its-2.pending

  finish : Finishes slot q w new power
  finish = ends q (b.held.each i q (held who work) its-2.at_pending at).1

  abbrev item : Item
  item = item_of w q.who q.call

  abbrev z : WorldView
  z = record w { history = w.history ++ item ∷ []; claims = w.claims ++ (slot, q.draft) ∷ []; pending = remove w.pending i; acts = w.acts + 1; disk = new.disk }

  new_is-2 : new ≡ z
  new_is-2 =
      finish.new_is ∙ λ k. record w {
        history = w.history ++ item ∷ [];
        claims = w.claims ++ (slot, q.draft) ∷ [];
        pending = pending_left w out b i who work at g m course k;
        acts = w.acts + 1;
        disk = new.disk;
      }

  item_same : item_for g m who its-2.job.call ≡ item
  item_same = item_is g w out m course who its-2.job.call ∙ (λ k. item_of w (its-2.own k) (its-2.beside.call k))

  finish_course : IsCourse g z (without_job out i) (record m { history = m.history ++ item_for g m who its-2.job.call ∷ []; jobs = remove m.jobs i; begun = true })
  finish_course = record {
    setting = course.setting;
    history = λ k. course.history k ++ item_same k ∷ [];
    count = count_left w out b i who work at g m course;
    held = held_left w out b i who work at g m course;
    jobs = jobs_left w out b i who work at g m course (λ (p : JobOut) (k : Held) (x : machine.Job). IsJobBeside z p k x) (λ j p k x other at_p at_k at_x. (
        let was = course.jobs j p k x at_p at_k at_x in
        record {
          who = was.who;
          call = was.call;
          node = node_then g w out m course b.held.count b i q its-2.at_pending its-2.job its-2.at_job j p x other at_p at_x was.node;
          stage = was.stage;
        }));
    files = files_left w out b i who work at g m course;
    claims = course.claims;
    over = course.over;
    begun = λ either. refl;
  }

  abbrev next-2 : machine.Machine
  next-2 = machine.returned g (machine.without_job m who) who its-2.job.call

  pub finish_now : GoesBeside (Some who) g m w new (without_job out i)
  finish_now = record {
    event = machine.Finish who;
    next = next-2;
    caller = refl;
    goes = machine.Finishes who its-2.job (its_stage w out b i who work at g m course);
    of_world = (slot, q, power, sym its-2.own, finish);
    course = subst (λ (x : WorldView). IsCourse g x (without_job out i) next-2) (sym new_is-2)
        (subst (λ (js : List machine.Job). IsCourse g z (without_job out i) (record m { history = m.history ++ item_for g m who its-2.job.call ∷ []; jobs = js; begun = true })) (sym (left_is w out b i who work at g m course)) finish_course);
  }

pub finishes_beside : FinishesBeside
finishes_beside who w new out i slot power filled b at ends g m course = finish_now who w new out i slot power filled b at ends g m course

-- ---- a Checkpoint

over_true : (o : Option Over) → o ≢ None → is_some o ≡ true
over_true None over = absurd (over refl)
over_true (Some x) over = refl

none_jobs : (xs : List machine.Job) → length xs ≡ 0 → xs ≡ []
none_jobs [] is = refl
none_jobs (x ∷ xs) is = absurd (omega (arith, is))

pub checks_beside : ChecksBeside
checks_beside w new out log after can is g m course = record {
  event = machine.Checkpoint;
  next = record m { claims = 0; over = false; begun = false };
  caller = refl;
  goes = machine.Checks (course.over ∙ over_true w.over can.over) (none_jobs m.jobs (omega (arith, course.count, ap (λ (ps : List JobOut). length ps) none)));
  of_world = (after, is);
  course = subst (λ (x : WorldView). IsCourse g x nothing_out (record m { claims = 0; over = false; begun = false })) (sym is.new_is) (record {
    setting = course.setting;
    history = course.history;
    count = course.count;
    held = ap (λ (ps : List JobOut). length ps) (sym none);
    jobs = λ i p h job at_p at_h at_job. (let never : None ≡ Some h = at_h in cc);
    files = course.files;
    claims = refl;
    over = refl;
    begun = λ either. absurd (elim either [
      | inl some ↦ some none
      | inr late ↦ omega (arith, late)
    ]);
  });
} where
  none : w.pending ≡ []
  none = none_pending w out.jobs can.between.held can.none_out

-- ---- the round ends for want of space

module _ (who : Who) (w : WorldView) where
  not_none : (o : Option Put) → (o ≡ None → ⊥) → is_some o ≡ true
  not_none None never = absurd (never refl)
  not_none (Some put) never = refl

  logged_puts : (call : Call) → is_logged (state_of w) (who, call) ≡ true → is_some (put_by (state_of w) who call) ≡ true
  logged_puts call is = not_none (put_by (state_of w) who call) (λ none. (
      let never : false ≡ true = sym (ap (λ (o : Option Put). option_map_or (is_logged_put (state_of w).mode (state_of w)) o false) none) ∙ is in
      absurd (no never)))
    where
      no : false ≡ true → ⊥
      no never = cc

  -- a lengthening needs something
  grows : (old size need : ℕ) → need ≡ growth old size → 0 < need → old < size
  grows old size need same some = elim (cases_lt old size) [
    | inl below ↦ below
    | inr past ↦ absurd (omega (arith, same, some, held_by-le size old past))
  ]

  beside_kind : (call : Call) (need left : ℕ) → IsNeed w who call need → left < need → MayLackSpace (state_of w) who call
  beside_kind (Call.Truncate h size) need left is lacks = inr (is.0, grows (length (content (state_of w) who h)) size need is.1 (omega (arith, lacks)))
  beside_kind call need left is lacks = inl (logged_puts call is.0)

  staging_kind : (v : WorldView) (call : Call) (need : ℕ) (o : Option Put) → put_by (state_of w) who call ≡ o → IsStagingNeed v (staged_run (state_of w) o) need → is_some (put_by (state_of w) who call) ≡ true
  staging_kind v call need None at is = absurd is
  staging_kind v call need (Some put) at is = ap is_some at

  holes_kind : (call : Call) (ino : Option ℕ) (o : Option Put) → put_by (state_of w) who call ≡ o → 1 ≤ holes_at w ino (placed_at (state_of w) o) → is_some (put_by (state_of w) who call) ≡ true
  holes_kind call ino (Some put) at some = ap is_some at
  holes_kind call (Some ino) None at some = absurd (omega (arith, some))
  holes_kind call None None at some = absurd (omega (arith, some))

  pub space_kind : (filled : Disk) (call : Call) (need left : ℕ) → LacksSpace w filled who call need left → MayLackSpace (state_of w) who call
  space_kind filled call need left (inl beside) = beside_kind call need left beside.need_is beside.lacks
  space_kind filled call need left (inr (inl holes)) = inl (holes_kind call (file_of w who call) (put_by (state_of w) who call) refl holes.some)
  space_kind filled call need left (inr (inr run)) = inl (staging_kind (with_disk w filled) call need (put_by (state_of w) who call) refl run.staging.need_is)

pub lacks_space_beside : LacksSpaceBeside
lacks_space_beside who w new out after need left g m can is course = (
  record m { over = true },
  record {
    call = is.call;
    may = begins_now g w out m course can.between.held.count can.between who is.call can.none can.set_up is.begins;
    kind = subst (λ (s : State). MayLackSpace s who is.call) (sym (state_is g w out m course)) (space_kind who w new.disk is.call need left is.cause);
    begun = course.begun is.late;
    next_is = refl;
  },
  subst (λ (x : WorldView). IsCourse g x out (record m { over = true })) (sym is.new_is) (record {
    setting = course.setting;
    history = course.history;
    count = course.count;
    held = course.held;
    jobs = λ i p h job at_p at_h at_job. (
        let was = course.jobs i p h job at_p at_h at_job in
        record { who = was.who; call = was.call; node = was.node; stage = was.stage });
    files = course.files;
    claims = course.claims;
    over = refl;
    begun = course.begun;
  }),
)

-- ---- a round begins, and the run

pub opens_beside : OpensBeside
opens_beside g m old new out lines base turn none course = subst (λ (x : WorldView). IsCourse g x (with_log out (opened_log lines base)) m) (sym turn) (record {
  setting = course.setting;
  history = course.history;
  count = course.count;
  held = course.held;
  jobs = λ i p h job at_p at_h at_job. (
      let was = course.jobs i p h job at_p at_h at_job in
      record { who = was.who; call = was.call; node = was.node; stage = was.stage });
  files = course.files;
  claims = course.claims ∙ ap claims_in none;
  over = course.over;
  begun = course.begun;
})

pub run_starts : RunStarts
run_starts w first = record {
  between = record {
    usable = first.usable;
    awake = first.on;
    none_unfinished = first.unfinished;
    held = record { count = ap (λ (ps : List JobOut). length ps) (sym first.pending); each = λ i p h at_p at_h. (let never : None ≡ Some h = at_h in cc) };
    log = (first.lines_out, first.claims, refl);
    next = λ p there. absurd (nobody p there);
    writes = λ p there. absurd (nobody p there);
    callers = λ i j p q at_p at_q same. absurd (nobody p (In_at w.pending i p at_p));
    drafts = λ i j p q at_p at_q same. absurd (nobody p (In_at w.pending i p at_p));
    scripted = subst (Scripted w.scripts) (sym first.history) tt;
    threads = first.threads;
    lines = first.lines;
    few = first.few;
    settled = omega (arith, first.settled);
    claimed = λ some. absurd (some first.claims);
    given_up = λ given. absurd (given first.given_up);
    late = λ over. absurd (over first.over);
    moves = λ over. absurd (over first.over);
    waits = λ over. absurd (over first.over);
  };
  course = record {
    setting = refl;
    history = sym first.history;
    count = ap (λ (ps : List JobOut). length ps) (sym first.pending);
    held = ap (λ (ps : List JobOut). length ps) (sym first.pending);
    jobs = λ i p h job at_p at_h at_job. (let never : None ≡ Some h = at_h in cc);
    files = λ i j a c at_a at_c same. (let never : None ≡ Some a = at_a in cc);
    claims = refl;
    over = sym (ap is_some first.over);
    begun = λ either. absurd (elim either [
      | inl some ↦ some first.pending
      | inr late ↦ omega (arith, late, first.settled, ap (λ (h : List Item). length h) first.history)
    ]);
  };
  paid = λ now. record {
    any = record { given = refl; on_before = λ on. on; later = omega arith; bound = omega arith };
    ahead = omega arith;
    quiet = λ calm quiet. record { given = refl; on_before = λ on. on; later = omega arith; bound = omega arith };
    tree = λ given some. record { changed = 0; fewer = omega arith; most = omega arith; each = λ mode. subst (λ (h : List Item). ChangesTreeAtMost w.start h 0) (sym first.history) tt };
  };
} where
  nobody : (p : JobOut) → In p w.pending → ⊥
  nobody p there = subst (In p) first.pending there

-- ---- who can run

or_right : (a c : Bool) → c ≡ true → (a || c) ≡ true
or_right true c is = refl
or_right false c is = is

or_left : (a c : Bool) → a ≡ true → (a || c) ≡ true
or_left true c is = refl
or_left false c is = cc

or_false : (a c : Bool) → a ≡ false → c ≡ false → (a || c) ≡ false
or_false true c one two = cc
or_false false c one two = two

and_false : (a c : Bool) → c ≡ false → (a && c) ≡ false
and_false true c is = is
and_false false c is = refl

and_false_left : (a c : Bool) → a ≡ false → (a && c) ≡ false
and_false_left true c is = cc
and_false_left false c is = refl

pub job_can_run : JobCanRun
job_can_run g m w out p b course there =
    let place = at_In w.pending p there in
    let job = place_there m.jobs place.0 (omega (arith, slice_get_within w.pending place.0 p place.1, course.count)) in
    let one = beside_at g w out m course b.held.count place.0 job.0 job.1 in
    let same : one.pending ≡ p = same_Some one.pending p (sym one.at_pending ∙ place.1) in
    let caller : job.0.who ≡ p.who = one.beside.who ∙ ap (λ (x : JobOut). x.who) same in
    or_left (is_some (job_of m p.who)) (may_begin g m p.who)
    (ap is_some (subst (λ (x : Who). job_of m x ≡ Some job.0) caller (job_there g w out m course b.held.count b place.0 job.0 job.1)))

pub idle_can_run : IdleCanRun
idle_can_run g m w out who b course none up going may =
    or_right (is_some (job_of m who)) (may_begin g m who) (may_now g w out m course b.held.count b who may.call none up may.next going may.idle)

pub idle_begins : IdleBegins
idle_begins g m w out who b course none up going may = record {
  may = may_now g w out m course b.held.count b who may.call none up may.next going may.idle;
  next = next_is g w out m course who ∙ may.next;
}

not_some : (o : Option Over) → o ≢ None → not (is_some o) ≡ false
not_some None over = absurd (over refl)
not_some (Some x) over = refl

cannot : (g : machine.Setting) (m : machine.Machine) (w : WorldView) (out : OutView) (who : Who) → Between w out → IsCourse g w out m → IsKeptFrom w who → may_begin g m who ≡ false
unfolding may_begin is_busy
cannot g m w out who b course (inl none) = and_false _ _ (ap (λ (o : Option Call). option_map_or (is_idle g m who) o false) (next_is g w out m course who ∙ none))
cannot g m w out who b course (inr (inl over)) = and_false_left _ _ (and_false _ _ (ap not course.over ∙ not_some w.over over))
cannot g m w out who b course (inr (inr (ino, holder, waits))) =
    and_false _ _ (ap (λ (o : Option Call). option_map_or (is_idle g m who) o false) (next_is g w out m course who ∙ waits.next) ∙ ap not ((λ i. is_busy (state_is g w out m course i) (outs_are g w out m course b.held.count i) (who, waits.call)) ∙ waits.kept.busy))

pub others_cannot : OthersCannot
others_cannot g m w out who b course none kept =
    or_false (is_some (job_of m who)) (may_begin g m who) (ap is_some (none_there g w out m course b.held.count b who none)) (cannot g m w out who b course kept)

-- ---- how the machine came here

pub is_nobodys : IsNobodys
is_nobodys (machine.Begin who) is = (let never : Some who ≡ None = is in cc)
is_nobodys (machine.Fill who) is = (let never : Some who ≡ None = is in cc)
is_nobodys (machine.Claim who) is = (let never : Some who ≡ None = is in cc)
is_nobodys (machine.Store who) is = (let never : Some who ≡ None = is in cc)
is_nobodys (machine.Persist who) is = (let never : Some who ≡ None = is in cc)
is_nobodys (machine.Finish who) is = (let never : Some who ≡ None = is in cc)
is_nobodys machine.Checkpoint is = refl

module _ (g : machine.Setting) (order : Order) (c next : Course) where
  -- with the picker as before
  same_picker : (n : ℕ) → next.picker ≡ c.picker → Advances g order c n (record c { machine = next.machine }) → Advances g order c n next
  same_picker n same = subst (λ (p : Picker). Advances g order c n (record { machine = next.machine; picker = p })) (sym same)

  -- what comes in the order is an advance
  comes : (e : machine.Event) (o : Option Who) → caller_of e ≡ o → ComesBy g order c e next o → Advances g order c 1 next
  comes e (Some Who.Setup) is by = same_picker 1 by.1 (SetUp e next.machine is by.0)
  comes e (Some (Who.Thread n)) is by = Runs n e next.machine next.picker by.1 is by.0
  comes e None is by = same_picker 1 by.2 (Checks next.machine by.1 (subst (λ (x : machine.Event). machine.Goes g c.machine x next.machine) (is_nobodys e is) by.0))

  finds : (who : Who) → FindsOver g order c who next → Advances g order c 0 next
  finds Who.Setup by = same_picker 0 by.1 (SetUpLacksSpace next.machine by.0)
  finds (Who.Thread n) by = LacksSpaceInTurn n next.machine next.picker by.1 by.0

pub leads_reaches : LeadsReaches
leads_reaches order first w events out c StartsHere = Starts
leads_reaches order first w events out c (Opens before v new was d lines base leads none begun) = leads_reaches order first v before was d leads
leads_reaches order first w events out c (Acts before v new was left d next e leads event by between course) =
    Further before 1 d next (leads_reaches order first v before was d leads) (comes (setting_of first) order d next e (caller_of e) refl by)
leads_reaches order first w events out c (EndsForSpace before v new was d next who after need room leads ends by between course) =
    subst (λ (n : ℕ). Reaches (setting_of first) order n next) (none_more before) (Further before 0 d next (leads_reaches order first v before was d leads) (finds (setting_of first) order d next who by))
  where
    none_more : (n : ℕ) → n + 0 ≡ n
    none_more n = omega arith

pub are_scheduled : AreScheduled
are_scheduled w order events history calls is = record {
  course = is.course;
  reached = leads_reaches order w is.last events is.out is.course is.leads;
  history_is = is.history_is;
  unfinished_is = is.calls_are;
}

pub calls_are_out : CallsAreOut
calls_are_out g m w out b course =
    ap (λ (cs : List Unfinished). map begun_by w.pending ++ cs) b.none_unfinished ∙ (append-nil (map begun_by w.pending)
    ∙ sym (maps_same unfinished_call begun_by m.jobs w.pending course.count (λ i job p at_job at_p. (
    let one = beside_at g w out m course b.held.count i job at_job in
    let same : one.pending ≡ p = same_Some one.pending p (sym one.at_pending ∙ at_p) in
    λ k. (let c : Unfinished = ((one.beside.who ∙ ap (λ (x : JobOut). x.who) same) k, (one.beside.call ∙ ap (λ (x : JobOut). x.call) same) k) in c)))))

-- ---- the power goes as a call begins

pub loses_beside : LosesBeside
loses_beside g m w new out who can course going may (inl same) = inl (same ∙ calls_are_out g m w out can.between course)
loses_beside g m w new out who can course going may (inr one) = inr (record {
  call = one.0;
  begins = subst (machine.Begins g m who) (same_Some may.call one.0 (sym may.next ∙ one.1)) (idle_begins g m w out who can.between course can.none can.set_up going may);
  behind = one.2 ∙ ap (λ (cs : List Unfinished). cs ++ (who, one.0) ∷ []) (calls_are_out g m w out can.between course);
})
