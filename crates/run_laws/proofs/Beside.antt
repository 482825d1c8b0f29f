-- The machine over events goes on beside the World.
use Rattle.std.specs.Prelude.{◌≡◌, ◌≢◌, ◌⊎◌, ◌<◌, ◌+◌, ℕ, Bool, true, false, [], ◌∷◌, ◌++◌, length, Option, Some, None, slice_get, slice_set, if◌then◌else◌, refl}
use Rattle.std.proofs.Common.{arith, ap, ◌∙◌, sym, subst, inl, inr, length-append}
use Rattle.std.proofs.lemmas.Option.{same_Some, slice_get_within}
use Rattle.world_view_laws.proofs.in_flight_proofs.Taking.{other_who}
use Rattle.round_log.specs.pm_model.Powers.{Supply}
use Rattle.round_log.specs.Rounds.{RoundView}
use Rattle.std.specs.Option.{option_map_or}
use Rattle.world_view_laws.specs.crash_spec.Busy.{is_logged, is_logged_put, waits_for}
use Rattle.world_view_laws.specs.in_flight.commute_laws.Flights.{waits_for-put}
use Rattle.world_view_laws.specs.posix_laws.Puts.{put_bytes}
use Rattle.world_view_laws.specs.posix_spec.Put.{Put, put_by}
use Rattle.world_view_laws.specs.posix_spec.State.{State}
use Rattle.world_view_laws.specs.crash_spec.Machine as machine
use Rattle.world_view_laws.specs.crash_spec.Machine.{is_of, job_of, moved_on}
use Rattle.world_view_laws.specs.live_model.Standing.{JobOut}
use Rattle.world_view_laws.specs.posix_types.declared.call.Call.{Call}
use Rattle.world_view_laws.specs.posix_types.declared.call.Who.{Who}
use Rattle.world_view_laws.specs.posix_tables.Open.{same_who}
use Rattle.world_view_laws.specs.write_jobs.Jobs.{JobView}
use Rattle.world_view_laws.specs.Begins.{BeginsJob, Returns}
use Rattle.world_view_laws.specs.Views.{state_of, WorldView}
use Rattle.run_laws.proofs.Longer.{same_caller}
use Rattle.run_laws.specs.declared.held.Held.{Held}
use Rattle.run_laws.specs.declared.held.Work.{Work}
use Rattle.run_laws.specs.Between.{Between}
use Rattle.run_laws.specs.Course.{claims_in, IsCourse, IsJobBeside, stage_in}
use Rattle.run_laws.specs.CourseLaws.{ClaimsBeside, FillsBeside, GoesBeside, LogsBeside, PersistsBeside, ReturnsBeside, StoresBeside}
use Rattle.run_laws.specs.EventsLaws.{CanBegin, held, with_job}
use Rattle.run_laws.specs.Held.{HasLog, IsLogOf, OutView}
use Rattle.run_laws.proofs.Machines.{alone_at, begins_now, beside_at, item_is, job_there, node_after, state_is}
use Rattle.run_laws.proofs.Finds.{map_count}
use Rattle.run_laws.proofs.Places.{In_at, map_at, place_there, push_cases, set_cases, set_count}

-- the job of the machine beside one at a place
pub record IsBesideHere (w : WorldView) (out : OutView) (i : ℕ) (who : Who) (work : Work) (m : machine.Machine) : Type 0 where
  pub job : machine.Job
  pub at_job : slice_get m.jobs i ≡ Some job
  pub pending : JobOut
  pub at_pending : slice_get w.pending i ≡ Some pending
  pub own : who ≡ pending.who
  pub who_is : job.who ≡ who
  pub beside : IsJobBeside w pending (held who work) job

-- ---- a call returns

module _ (who : Who) (w new : WorldView) (out : OutView) (before after : Supply) (can : CanBegin who w out) (is : Returns who w new before after) (g : machine.Setting) (m : machine.Machine) (course : IsCourse g w out m) where
  abbrev b : Between w out
  b = can.between

  then_course : IsCourse g new out (machine.returned g m who is.call)
  then_course = subst (λ (x : WorldView). IsCourse g x out (machine.returned g m who is.call)) (sym is.new_is) (record {
    setting = course.setting;
    history = λ i. course.history i ++ item_is g w out m course who is.call i ∷ [];
    count = course.count;
    held = course.held;
    jobs = λ i p h job at_p at_h at_job. (
        let was = course.jobs i p h job at_p at_h at_job in
        record {
          who = was.who;
          call = was.call;
          node = node_after g w out m course b.held.count b who is.call can.none can.set_up is.begins.next is.begins.idle p job.node (In_at w.pending i p at_p) was.node;
          stage = was.stage;
        });
    files = course.files;
    claims = course.claims;
    over = course.over;
    begun = λ either. refl;
  })

  pub returns_now : GoesBeside (Some who) g m w new out
  returns_now = record {
    event = machine.Begin who;
    next = machine.returned g m who is.call;
    caller = refl;
    goes = machine.Returns who is.call (begins_now g w out m course b.held.count b who is.call can.none can.set_up is.begins) ((λ i. is_logged (state_is g w out m course i) (who, is.call)) ∙ is.unlogged);
    of_world = (before, after, inl is);
    course = then_course;
  }

pub returns_beside : ReturnsBeside
returns_beside who w new out before after can is g m course = returns_now who w new out before after can is g m course

-- ---- it is logged

-- a logged call is of a file
logged_node : (s : State) (who : Who) (call : Call) → is_logged s (who, call) ≡ true → (node : ℕ) × (waits_for s (who, call) ≡ Some node)
logged_node s who call is = by (put_by s who call) refl where
  by : (o : Option Put) → put_by s who call ≡ o → (node : ℕ) × (waits_for s (who, call) ≡ Some node)
  by None none = (let never : false ≡ true = sym (ap (λ (o : Option Put). option_map_or (is_logged_put s.mode s) o false) none) ∙ is in cc)
  by (Some put) some = (put.node, waits_for-put s who call put.node (put_bytes s put) (record { put = put; is = some; node_is = refl; whole_is = refl }))

module _ (who : Who) (w new : WorldView) (out : OutView) (after : Supply) (job : JobView) (can : CanBegin who w out) (is : BeginsJob who w new after job) (g : machine.Setting) (m : machine.Machine) (course : IsCourse g w out m) where
  abbrev c : Between w out
  c = can.between

  abbrev p : JobOut
  p = is.pending

  abbrev h : Held
  h = held who (Work.Began job)

  node : (n : ℕ) × (waits_for (state_of w) (who, is.call) ≡ Some n)
  node = logged_node (state_of w) who is.call is.logged

  abbrev began : machine.Job
  began = record { who = who; call = is.call; node = node.0; stage = machine.Began }

  -- no other job is of its file
  other_node : (i : ℕ) (x : machine.Job) → slice_get m.jobs i ≡ Some x → x.node ≢ node.0
  other_node i x at same =
      let one = beside_at g w out m course c.held.count i x at in
      alone_at g w out m course c.held.count c who is.call can.none can.set_up is.begins.next is.begins.idle one.pending (In_at w.pending i one.pending one.at_pending) x.node one.beside.node (node.1 ∙ ap (λ (n : ℕ). Some n) (sym same))

  abbrev u : WorldView
  u = record w { pending = w.pending ++ p ∷ []; acts = w.acts + 1; disk = new.disk }

  logged_course : IsCourse g u (with_job out h) (machine.with_job m began)
  logged_course = record {
    setting = course.setting;
    history = course.history;
    count = omega (arith, course.count, length-append m.jobs (began ∷ []), length-append w.pending (p ∷ []));
    held = omega (arith, course.held, length-append out.jobs (h ∷ []), length-append w.pending (p ∷ []));
    jobs = λ i q k x at_q at_k at_x. by i q k x (push_cases w.pending i p q at_q) (push_cases out.jobs i h k at_k) (push_cases m.jobs i began x at_x);
    files = λ i j x y at_x at_y same. apart i j x y same (push_cases m.jobs i began x at_x) (push_cases m.jobs j began y at_y);
    claims = course.claims;
    over = course.over;
    begun = λ either. refl;
  } where
    by : (i : ℕ) (q : JobOut) (k : Held) (x : machine.Job) → (slice_get w.pending i ≡ Some q) ⊎ ((i ≡ length w.pending) × (p ≡ q)) → (slice_get out.jobs i ≡ Some k) ⊎ ((i ≡ length out.jobs) × (h ≡ k))
        → (slice_get m.jobs i ≡ Some x) ⊎ ((i ≡ length m.jobs) × (began ≡ x)) → IsJobBeside u q k x
    by i q k x (inl one) (inl two) (inl three) =
        let was = course.jobs i q k x one two three in
        record { who = was.who; call = was.call; node = was.node; stage = was.stage }
    by i q k x (inr one) (inr two) (inr three) =
        subst (λ (y : machine.Job). IsJobBeside u q k y) three.1 (subst (λ (y : Held). IsJobBeside u q y began) two.1 (subst (λ (y : JobOut). IsJobBeside u y h began) one.1 (record {
          who = sym is.who_is;
          call = sym is.call_is;
          node = (λ i. waits_for (state_of w) (is.who_is i, is.call_is i)) ∙ node.1;
          stage = refl;
        })))
    by i q k x (inl one) (inr two) three = absurd (omega (arith, slice_get_within w.pending i q one, two.0, c.held.count))
    by i q k x (inr one) (inl two) three = absurd (omega (arith, slice_get_within out.jobs i k two, one.0, c.held.count))
    by i q k x (inl one) (inl two) (inr three) = absurd (omega (arith, slice_get_within w.pending i q one, three.0, course.count))
    by i q k x (inr one) (inr two) (inl three) = absurd (omega (arith, slice_get_within m.jobs i x three, one.0, course.count))

    apart : (i j : ℕ) (x y : machine.Job) → x.node ≡ y.node → (slice_get m.jobs i ≡ Some x) ⊎ ((i ≡ length m.jobs) × (began ≡ x)) → (slice_get m.jobs j ≡ Some y) ⊎ ((j ≡ length m.jobs) × (began ≡ y)) → i ≡ j
    apart i j x y same (inl one) (inl two) = course.files i j x y one two same
    apart i j x y same (inl one) (inr two) = absurd (other_node i x one (same ∙ ap (λ (z : machine.Job). z.node) (sym two.1)))
    apart i j x y same (inr one) (inl two) = absurd (other_node j y two (sym same ∙ ap (λ (z : machine.Job). z.node) (sym one.1)))
    apart i j x y same (inr one) (inr two) = one.0 ∙ sym two.0

  pub logs_now : GoesBeside (Some who) g m w new (with_job out h)
  logs_now = record {
    event = machine.Begin who;
    next = machine.with_job m began;
    caller = refl;
    goes = machine.Logs who is.call node.0 (begins_now g w out m course c.held.count c who is.call can.none can.set_up is.begins)
        ((λ i. is_logged (state_is g w out m course i) (who, is.call)) ∙ is.logged) ((λ i. waits_for (state_is g w out m course i) (who, is.call)) ∙ node.1);
    of_world = (after, after, inr (job, is));
    course = subst (λ (x : WorldView). IsCourse g x (with_job out h) (machine.with_job m began)) (sym is.new_is) logged_course;
  }

pub logs_beside : LogsBeside
logs_beside who w new out after job can is g m course = logs_now who w new out after job can is g m course

-- ---- a job came further

moved_true : (who : Who) (stage : machine.Stage) (job : machine.Job) → is_of who job ≡ true → moved_on who stage job ≡ record job { stage = stage }
moved_true who stage job is = ap (λ (b : Bool). if b then record job { stage = stage } else job) is

moved_false : (who : Who) (stage : machine.Stage) (job : machine.Job) → is_of who job ≡ false → moved_on who stage job ≡ job
moved_false who stage job is = ap (λ (b : Bool). if b then record job { stage = stage } else job) is

moved_node : (who : Who) (stage : machine.Stage) (job : machine.Job) → (moved_on who stage job).node ≡ job.node
moved_node who stage job = by (is_of who job) where
  by : (b : Bool) → (if b then record job { stage = stage } else job).node ≡ job.node
  by true = refl
  by false = refl

module _ (w : WorldView) (out : OutView) (b : Between w out) (i : ℕ) (who : Who) (work : Work) (at : slice_get out.jobs i ≡ Some (held who work)) (g : machine.Setting) (m : machine.Machine) (course : IsCourse g w out m) where
  abbrev old : Held
  old = held who work

  -- its job of the machine
  pub its_job : IsBesideHere w out i who work m
  its_job =
      let below : i < length m.jobs = omega (arith, slice_get_within out.jobs i old at, b.held.count, course.count) in
      let job = place_there m.jobs i below in
      let one = beside_at g w out m course b.held.count i job.0 job.1 in
      let both = b.held.each i one.pending old one.at_pending at in
      let same : one.work ≡ old = same_Some one.work old (sym one.at_work ∙ at) in
      record {
        job = job.0;
        at_job = job.1;
        pending = one.pending;
        at_pending = one.at_pending;
        own = both.0;
        who_is = one.beside.who ∙ sym both.0;
        beside = subst (λ (k : Held). IsJobBeside w one.pending k job.0) same one.beside;
      }

  pub its_stage : machine.IsAt m who (stage_in work) its_job.job
  its_stage = record {
    is = subst (λ (x : Who). job_of m x ≡ Some its_job.job) its_job.who_is (job_there g w out m course b.held.count b i its_job.job its_job.at_job);
    stage_is = its_job.beside.stage;
  }

  pub staged : (further : Work) (log : Option RoundView) (claims : ℕ) → claims ≡ claims_in log
      → IsCourse g w (record { log = log; jobs = slice_set out.jobs i (held who further) }) (record (machine.with_stage m who (stage_in further)) { claims = claims })
  staged further log claims claims_are = record {
    setting = course.setting;
    history = course.history;
    count = map_count (moved_on who (stage_in further)) m.jobs ∙ course.count;
    held = set_count out.jobs i (held who further) ∙ course.held;
    jobs = λ j p k x at_p at_k at_x. (
        let from = map_at (moved_on who (stage_in further)) m.jobs j x at_x in
        by j p k x from.0 at_p from.1 from.2 (set_cases out.jobs i j (held who further) k (slice_get_within out.jobs i old at) at_k));
    files = λ j k x y at_x at_y same. (
        let one = map_at (moved_on who (stage_in further)) m.jobs j x at_x in
        let two = map_at (moved_on who (stage_in further)) m.jobs k y at_y in
        course.files j k one.0 two.0 one.1 two.1
        (sym (moved_node who (stage_in further) one.0) ∙ (ap (λ (z : machine.Job). z.node) one.2 ∙ (same ∙ (ap (λ (z : machine.Job). z.node) (sym two.2) ∙ moved_node who (stage_in further) two.0)))));
    claims = claims_are;
    over = course.over;
    begun = course.begun;
  } where
    by : (j : ℕ) (p : JobOut) (k : Held) (x was : machine.Job) → slice_get w.pending j ≡ Some p → slice_get m.jobs j ≡ Some was → moved_on who (stage_in further) was ≡ x
        → ((j ≡ i) × (held who further ≡ k)) ⊎ ((j ≢ i) × (slice_get out.jobs j ≡ Some k)) → IsJobBeside w p k x
    by j p k x was at_p at_was moved (inl one) =
        let here : slice_get m.jobs i ≡ Some was = ap (slice_get m.jobs) (sym one.0) ∙ at_was in
        let there : slice_get w.pending i ≡ Some p = ap (slice_get w.pending) (sym one.0) ∙ at_p in
        let beside = course.jobs i p old was there at here in
        let its : was ≡ its_job.job = same_Some was its_job.job (sym here ∙ its_job.at_job) in
        let caller : was.who ≡ who = ap (λ (z : machine.Job). z.who) its ∙ its_job.who_is in
        let of_it : is_of who was ≡ true = ap (λ (z : Who). same_who z who) caller ∙ same_caller who in
        subst (λ (z : machine.Job). IsJobBeside w p k z) (sym (moved_true who (stage_in further) was of_it) ∙ moved)
        (subst (λ (z : Held). IsJobBeside w p z (record was { stage = stage_in further })) one.1 (record { who = beside.who; call = beside.call; node = beside.node; stage = refl }))
    by j p k x was at_p at_was moved (inr two) =
        let beside = course.jobs j p k was at_p two.1 at_was in
        let own = (b.held.each j p k at_p two.1).0 in
        let other : was.who ≢ who =
        λ same. two.0 (b.callers j i p its_job.pending at_p its_job.at_pending (sym beside.who ∙ (same ∙ its_job.own)))
        in
        subst (λ (z : machine.Job). IsJobBeside w p k z) (sym (moved_false who (stage_in further) was (other_who was.who who other)) ∙ moved) beside

pub fills_beside : FillsBeside
fills_beside who w out i job filled b at g m course = record {
  event = machine.Fill who;
  next = machine.with_stage m who machine.Filled;
  caller = refl;
  goes = machine.Fills who (its_job w out b i who (Work.Began job) at g m course).job (its_stage w out b i who (Work.Began job) at g m course);
  of_world = refl;
  course = staged w out b i who (Work.Began job) at g m course (Work.Filled filled) out.log m.claims course.claims;
}

-- the claims of a log that is out
claims_now : (g : machine.Setting) (w : WorldView) (out : OutView) (m : machine.Machine) (log : RoundView) → IsCourse g w out m → out.log ≡ Some log → m.claims ≡ log.tail
claims_now g w out m log course is = course.claims ∙ ap claims_in is

lines_now : (g : machine.Setting) (w : WorldView) (out : OutView) (m : machine.Machine) (log : RoundView) → Between w out → IsCourse g w out m → out.log ≡ Some log → g.lines ≡ length log.lines
lines_now g w out m log b course is =
    let has : IsLogOf w log out.jobs = subst (λ (o : Option RoundView). HasLog w o out.jobs) is b.log in
    ap (λ (x : machine.Setting). x.lines) course.setting ∙ sym (has.holds.count ∙ has.fresh.are.count)

pub claims_beside : ClaimsBeside
claims_beside who w out i slot log new filled b at is claims g m course = record {
  event = machine.Claim who;
  next = record (machine.with_stage m who machine.Claimed) { claims = m.claims + 1 };
  caller = refl;
  goes = machine.Claims who (its_job w out b i who (Work.Filled filled) at g m course).job (its_stage w out b i who (Work.Filled filled) at g m course)
      (omega (arith, claims_now g w out m log course is, lines_now g w out m log b course is, claims.0, claims.1));
  of_world = inl refl;
  course = staged w out b i who (Work.Filled filled) at g m course (Work.Claimed filled slot) (Some new) (m.claims + 1)
      (ap (λ (n : ℕ). n + 1) (claims_now g w out m log course is) ∙ sym (ap (λ (x : RoundView). x.tail) claims.2));
}

pub stores_beside : StoresBeside
stores_beside who w out i slot log new filled b at is tail g m course = record {
  event = machine.Store who;
  next = machine.with_stage m who machine.Stored;
  caller = refl;
  goes = machine.Stores who (its_job w out b i who (Work.Claimed filled slot) at g m course).job (its_stage w out b i who (Work.Claimed filled slot) at g m course);
  of_world = refl;
  course = staged w out b i who (Work.Claimed filled slot) at g m course (Work.Stored filled slot) (Some new) m.claims (claims_now g w out m log course is ∙ sym tail);
}

pub persists_beside : PersistsBeside
persists_beside who w out i slot log new filled b at is tail g m course = record {
  event = machine.Persist who;
  next = machine.with_stage m who machine.Persisted;
  caller = refl;
  goes = machine.Persists who (its_job w out b i who (Work.Stored filled slot) at g m course).job (its_stage w out b i who (Work.Stored filled slot) at g m course);
  of_world = refl;
  course = staged w out b i who (Work.Stored filled slot) at g m course (Work.Persisted filled slot) (Some new) m.claims (claims_now g w out m log course is ∙ sym tail);
}
