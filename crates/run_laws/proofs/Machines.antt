-- The machine over events beside a World: who has a job in it, who may begin, and what stays while a caller acts.
use Rattle.std.specs.Prelude.{◌≡◌, ◌≢◌, ◌<◌, ◌&&◌, ◌==◌, not, ℕ, Bool, true, false, List, [], ◌∷◌, ◌++◌, length, filter, Option, Some, None, is_none, is_some, slice_get, unwrap_or, refl}
use Rattle.std.specs.List.{remove}
use Rattle.std.specs.Option.{option_map_or}
use Rattle.std.proofs.Common.{arith, ap, ◌∙◌, sym, subst}
use Rattle.std.proofs.lemmas.Bool.{eq-eqb}
use Rattle.std.proofs.lemmas.Option.{same_Some, slice_get_within}
use Rattle.world_view_laws.proofs.in_flight_proofs.Taking.{other_who}
use Rattle.world_view_laws.specs.crash_spec.Busy.{is_busy, Out, waits_for}
use Rattle.world_view_laws.specs.crash_spec.Machine as machine
use Rattle.world_view_laws.specs.crash_spec.Machine.{is_idle, is_of, is_set_up, item_for, job_of, may_begin, next_of as next_in, outs, state_of as state_in}
use Rattle.world_view_laws.specs.in_flight.Busy.{file_out}
use Rattle.world_view_laws.specs.in_flight.Histories.{are_threads}
use Rattle.world_view_laws.specs.in_flight.commute_laws.Frames.{AreThreads, LeavesAlone, LeavesAlone-idle}
use Rattle.world_view_laws.specs.in_flight.commute_laws.Handles.{same_who-is}
use Rattle.world_view_laws.specs.list_laws.Filters.{In-map}
use Rattle.world_view_laws.specs.list_laws.Members.{In}
use Rattle.world_view_laws.specs.live_model.Standing.{JobOut}
use Rattle.world_view_laws.specs.posix_types.declared.call.Call.{Call}
use Rattle.world_view_laws.specs.posix_types.declared.call.Who.{Who}
use Rattle.world_view_laws.specs.posix_types.declared.item.Item.{Item}
use Rattle.world_view_laws.specs.posix_spec.Run.{run, run-append}
use Rattle.world_view_laws.specs.posix_spec.Scripted.{IsSetUp, items_of, next_call}
use Rattle.world_view_laws.specs.posix_spec.State.{State}
use Rattle.world_view_laws.specs.posix_spec.Step.{step}
use Rattle.world_view_laws.specs.Begins.{Begins, item_of}
use Rattle.world_view_laws.specs.Views.{files_out, HasNone, next_of, state_of, WorldView}
use Rattle.run_laws.proofs.Longer.{same_caller}
use Rattle.run_laws.specs.declared.held.Held.{Held}
use Rattle.run_laws.specs.Between.{Between}
use Rattle.run_laws.specs.Course.{IsCourse, IsJobBeside}
use Rattle.run_laws.specs.Held.{OutView}
use Rattle.run_laws.proofs.Finds.{filter_taken, find_at, find_none, maps_same}
use Rattle.run_laws.proofs.Nodes.{node_stays}
use Rattle.run_laws.proofs.Places.{In_at, place_there}

pub and_true : (a c : Bool) → a ≡ true → c ≡ true → (a && c) ≡ true
and_true true c one two = two
and_true false c one two = cc

module _ (g : machine.Setting) (w : WorldView) (out : OutView) (m : machine.Machine) (is : IsCourse g w out m) where
  -- ---- the state, and next calls

  pub state_is : state_in g m ≡ state_of w
  state_is = λ i. run (is.setting i).start (is.history i)

  pub next_is : (who : Who) → next_in g m who ≡ next_of w who
  next_is who = λ i. next_call (is.setting i).scripts (is.history i) who

  -- the item is the same
  item_in : State → List Item → Who → Call → Item
  item_in start history who call =
      let outcome = (step (run start history) who call).outcome in
      record { who = who; index = length (items_of history who); call = call; reply = outcome.reply; room = outcome.room }

  pub item_is : (who : Who) (call : Call) → item_for g m who call ≡ item_of w who call
  unfolding item_in
  item_is who call = λ i. item_in (is.setting i).start (is.history i) who call

  pub set_up_is : (who : Who) → IsSetUp w.scripts w.history who → is_set_up g m who ≡ true
  set_up_is Who.Setup done = refl
  set_up_is (Who.Thread n) done = (λ i. length (items_of (is.history i) Who.Setup) == length (is.setting i).scripts.setup) ∙ eq-eqb (length (items_of w.history Who.Setup)) (length w.scripts.setup) done

  -- ---- jobs, place by place

  module _ (held : length out.jobs ≡ length w.pending) where
    pub record IsBesideAt (i : ℕ) (job : machine.Job) : Type 0 where
      pub pending : JobOut
      pub work : Held
      pub at_pending : slice_get w.pending i ≡ Some pending
      pub at_work : slice_get out.jobs i ≡ Some work
      pub beside : IsJobBeside w pending work job

    pub beside_at : (i : ℕ) (job : machine.Job) → slice_get m.jobs i ≡ Some job → IsBesideAt i job
    beside_at i job at =
        let below : i < length w.pending = omega (arith, slice_get_within m.jobs i job at, is.count) in
        let p = place_there w.pending i below in
        let h = place_there out.jobs i (omega (arith, below, held)) in
        record { pending = p.0; work = h.0; at_pending = p.1; at_work = h.1; beside = is.jobs i p.0 h.0 job p.1 h.1 at }

    -- the files that keep calls waiting are the same
    pub outs_are : outs m ≡ files_out w
    outs_are = maps_same (λ (job : machine.Job). (let o : Out = (job.who, job.node) in o)) (file_out (state_of w)) m.jobs w.pending is.count (λ i job p at_job at_p. (
        let h = place_there out.jobs i (omega (arith, slice_get_within w.pending i p at_p, held)) in
        let one = is.jobs i p h.0 job at_p h.1 at_job in
        λ k. (let o : Out = (one.who k, sym (ap (λ (x : Option ℕ). unwrap_or x 0) one.node) k) in o)))

    -- ---- whose job it is

    module _ (b : Between w out) where
      own_job : (i j : ℕ) (x y : machine.Job) → slice_get m.jobs i ≡ Some x → slice_get m.jobs j ≡ Some y → x.who ≡ y.who → i ≡ j
      own_job i j x y at_x at_y same =
          let one = beside_at i x at_x in
          let two = beside_at j y at_y in
          b.callers i j one.pending two.pending one.at_pending two.at_pending (sym one.beside.who ∙ (same ∙ two.beside.who))

      -- the job of a caller stands at its place
      pub job_there : (i : ℕ) (job : machine.Job) → slice_get m.jobs i ≡ Some job → job_of m job.who ≡ Some job
      job_there i job at = find_at (is_of job.who) m.jobs i job at (same_caller job.who) (λ j y at_y passes. own_job j i y job at_y at (same_who-is y.who job.who passes))

      -- a caller without one has none
      pub none_there : (who : Who) → HasNone w who → job_of m who ≡ None
      none_there who none = find_none (is_of who) m.jobs (λ j y at_y. (
          let one = beside_at j y at_y in
          other_who y.who who (λ same. none one.pending (In_at w.pending j one.pending one.at_pending) (sym one.beside.who ∙ same))))

      -- without its job all others are left
      pub without_there : (i : ℕ) (job : machine.Job) → slice_get m.jobs i ≡ Some job → filter (λ (x : machine.Job). not (is_of job.who x)) m.jobs ≡ remove m.jobs i
      without_there i job at = filter_taken (λ (x : machine.Job). not (is_of job.who x)) m.jobs i job at (ap not (same_caller job.who)) (λ j y other at_y. ap not (other_who y.who job.who (λ same. other (own_job j i y job at_y at same))))

      -- ---- a caller that may begin

      pub going_now : w.over ≡ None → not m.over ≡ true
      going_now going = ap not (is.over ∙ ap is_some going)

      pub idle_now : (who : Who) (call : Call) → is_busy (state_of w) (files_out w) (who, call) ≡ false → is_idle g m who call ≡ true
      idle_now who call idle = ap not ((λ i. is_busy (state_is i) (outs_are i) (who, call)) ∙ idle)

      pub may_now : (who : Who) (call : Call) → HasNone w who → IsSetUp w.scripts w.history who → next_of w who ≡ Some call → w.over ≡ None → is_busy (state_of w) (files_out w) (who, call) ≡ false → may_begin g m who ≡ true
      unfolding may_begin
      may_now who call none up next going idle =
          and_true _ _ (and_true _ _ (and_true _ _ (ap is_none (none_there who none)) (set_up_is who up)) (going_now going))
          (ap (λ (o : Option Call). option_map_or (is_idle g m who) o false) (next_is who ∙ next) ∙ idle_now who call idle)

      pub begins_now : (who : Who) (call : Call) → HasNone w who → IsSetUp w.scripts w.history who → Begins w who call → machine.Begins g m who call
      begins_now who call none up begins = record { may = may_now who call none up begins.next begins.going begins.idle; next = next_is who ∙ begins.next }

      -- ---- the node of a job stays

      -- while a caller without a job acts, which no job keeps waiting
      module _ (who : Who) (call : Call) (none : HasNone w who) (up : IsSetUp w.scripts w.history who) (next : next_of w who ≡ Some call) (idle : is_busy (state_of w) (files_out w) (who, call) ≡ false) where
        pub alone_at : (p : JobOut) → In p w.pending → (node : ℕ) → waits_for (state_of w) (p.who, p.call) ≡ Some node → LeavesAlone (state_of w) (who, call) node
        alone_at p there node waits =
            LeavesAlone-idle (state_of w) (files_out w) (who, call) p.who node idle
            (subst (λ (o : Out). In o (files_out w)) (λ i. (p.who, ap (λ (x : Option ℕ). unwrap_or x 0) waits i)) (In-map (file_out (state_of w)) w.pending p there))
            (other_who p.who who (none p there))

        threads_at : (p : JobOut) → In p w.pending → AreThreads p.who who
        threads_at p there =
            let own = b.next p there in
            are_threads w.scripts w.history p.who who p.call call (other_who who p.who (λ same. none p there (sym same))) own.0 own.1 next up

        pub node_after : (p : JobOut) (node : ℕ) → In p w.pending → waits_for (state_of w) (p.who, p.call) ≡ Some node → waits_for (run w.start (w.history ++ item_of w who call ∷ [])) (p.who, p.call) ≡ Some node
        node_after p node there waits =
            subst (λ (s : State). waits_for s (p.who, p.call) ≡ Some node) (sym (run-append w.start w.history (item_of w who call)))
            (node_stays (state_of w) p.who who p.call call node (b.writes p there) (threads_at p there) (alone_at p there node waits) waits)

      -- while a job of another finishes, which is of another file
      module _ (i : ℕ) (q : JobOut) (at_q : slice_get w.pending i ≡ Some q) (file : machine.Job) (at_file : slice_get m.jobs i ≡ Some file) where
        its_node : waits_for (state_of w) (q.who, q.call) ≡ Some file.node
        its_node =
            let one = beside_at i file at_file in
            subst (λ (x : JobOut). waits_for (state_of w) (x.who, x.call) ≡ Some file.node) (same_Some one.pending q (sym one.at_pending ∙ at_q)) one.beside.node

        pub node_then : (j : ℕ) (p : JobOut) (job : machine.Job) → j ≢ i → slice_get w.pending j ≡ Some p → slice_get m.jobs j ≡ Some job → waits_for (state_of w) (p.who, p.call) ≡ Some job.node
            → waits_for (run w.start (w.history ++ item_of w q.who q.call ∷ [])) (p.who, p.call) ≡ Some job.node
        node_then j p job other at_p at_job waits =
            subst (λ (s : State). waits_for s (p.who, p.call) ≡ Some job.node) (sym (run-append w.start w.history (item_of w q.who q.call)))
            (node_stays (state_of w) p.who q.who p.call q.call job.node (b.writes p (In_at w.pending j p at_p)) threads aside waits)
          where
            apart : p.who ≢ q.who
            apart same = other (b.callers j i p q at_p at_q same)

            threads : AreThreads p.who q.who
            threads =
                let first = b.next p (In_at w.pending j p at_p) in
                let second = b.next q (In_at w.pending i q at_q) in
                are_threads w.scripts w.history p.who q.who p.call q.call (other_who q.who p.who (λ same. apart (sym same))) first.0 first.1 second.0 second.1

            aside : LeavesAlone (state_of w) (q.who, q.call) job.node
            aside same = other (is.files j i job file at_job at_file (same_Some job.node file.node (sym same ∙ its_node)))
