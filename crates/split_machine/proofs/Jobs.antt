-- The events of a job lead on.
use Rattle.std.specs.Prelude.{◌≡◌, ◌<◌, ℕ, Bool, true, false, List, length, Option, Some, None, slice_get, refl}
use Rattle.std.specs.List.{remove}
use Rattle.std.proofs.Common.{arith, ap, ◌∙◌, sym, subst, inl}
use Rattle.std.proofs.lemmas.Option.{same_Some, slice_get_within}
use Rattle.posix_types.specs.declared.call.Who.{Who}
use Rattle.run_laws.specs.pm_model.Powers.{is_on, Steps, Supply}
use Rattle.run_laws.specs.round_log.Rounds.{RoundView}
use Rattle.run_laws.specs.write_jobs.Jobs.{FilledView}
use Rattle.run_laws.specs.world_view_laws.Views.{WorldView}
use Rattle.run_laws.specs.declared.held.Held.{Held}
use Rattle.run_laws.specs.declared.held.Work.{Work}
use Rattle.run_laws.specs.Between.{Between, GoesOn, LosesPower}
use Rattle.run_laws.specs.EventsLaws.{held, IsHeldAt, StoresEntry, with_log, with_work, without_job}
use Rattle.run_laws.specs.Held.{OutView}
use Rattle.run_laws.proofs.Finishes.{filled_is_here, finish_loses, job_finishes, job_given_up, persisted_is_here}
use Rattle.run_laws.proofs.Longer.{Steps-more}
use Rattle.run_laws.proofs.Pays.{no_steps}
use Rattle.run_laws.proofs.Places.{place_there, put_back}
use Rattle.run_laws.proofs.Works.{claimed_is_free, entry_persisted, entry_stored, fill_loses, job_claims, job_fills, persist_loses, store_loses, stored_is_there}
use Rattle.run_laws.specs.CourseLaws.{LeadsOn}
use Rattle.run_laws.proofs.Beside.{claims_beside, fills_beside, persists_beside, stores_beside}
use Rattle.run_laws.proofs.Rounds.{calls_are_out, finds_full_beside, finishes_beside}
use Rattle.split_machine.specs.declared.outstanding.Acted.{Acted}
use Rattle.split_machine.specs.Events.{acted_by, HasJobAt, IsActed, LosesEvent, with_back}
use Rattle.split_machine.specs.Works as works
use Rattle.split_machine.specs.Works.{IsReadyFor, IsWorked}

-- where the power was spared
pub spared_steps : (n : ℕ) (before after : Supply) → after ≡ before → Steps n before after
spared_steps n before after same = subst (Steps n before) (sym same) (Steps-more 0 n before before (omega arith) (no_steps before))

module _ (who : Who) (w : WorldView) (out : OutView) (i : ℕ) (log : RoundView) (b : Between w out) (log_is : out.log ≡ Some log) (before : Supply) (on : is_on before ≡ true) where
  -- ---- it may go

  pub ready : (work : Work) → IsHeldAt out i who work → IsReadyFor w log before work
  ready (Work.Began job) at =
      let below : i < length w.pending = omega (arith, slice_get_within out.jobs i (held who (Work.Began job)) at, b.held.count) in
      let p = place_there w.pending i below in
      (b.held.each i p.0 (held who (Work.Began job)) p.1 at).1.1
  ready (Work.Filled job) at = filled_is_here who w out i log job b at log_is
  ready (Work.Claimed job slot) at = claimed_is_free who w out i slot log job b at log_is
  ready (Work.Stored job slot) at = stored_is_there who w out i slot log job b at log_is
  ready (Work.Persisted job slot) at =
      persisted_is_here who w out i slot log job b at log_is

  -- ---- and goes

  -- what is out then
  abbrev then_out : RoundView → Option Work → OutView
  then_out left result = record { log = Some left; jobs = with_back (remove out.jobs i) i who result }

  module _ (below : i < length out.jobs) where
    -- with its work further
    set_is : (left : RoundView) (work : Work) → with_work (with_log out left) i (held who work) ≡ then_out left (Some work)
    set_is left work = λ k. record { log = Some left; jobs = sym (put_back out.jobs i (held who work) below) k }

    kept_is : (left : RoundView) (work : Work) → left ≡ log → with_work out i (held who work) ≡ then_out left (Some work)
    kept_is left work same = λ k. record { log = (log_is ∙ ap (λ (x : RoundView). Some x) (sym same)) k; jobs = sym (put_back out.jobs i (held who work) below) k }

    gone_is : (left : RoundView) → left ≡ log → without_job out i ≡ then_out left None
    gone_is left same = λ k. record { log = (log_is ∙ ap (λ (x : RoundView). Some x) (sym same)) k; jobs = remove out.jobs i }

    -- a moment that is reached so
    went : (new : WorldView) (left : RoundView) (result : Option Work) (after : Supply) (o : OutView) → o ≡ then_out left result → GoesOn w out new o before after → LeadsOn (Some who) w out new o → IsActed who w out new (then_out left result) before after Acted.Event
    went new left result after o same goes leads = (subst (λ (x : OutView). GoesOn w out new x before after) same goes, subst (λ (x : OutView). LeadsOn (Some who) w out new x) same leads, refl)

    -- or the power went, as no call began
    lost_there : (new : WorldView) (o : OutView) (after : Supply) → LosesPower None w out new o before after → LosesEvent (Some who) w out new o before after
    lost_there new o after loses = record { begins = None; loses = loses; beside = λ g m course. inl (loses.calls ∙ calls_are_out g m w out b course) }

    stores : (new : WorldView) (left : RoundView) (after : Supply) (job : FilledView) (slot : ℕ) (lasted : Bool) → new ≡ w → StoresEntry log left slot job.draft before after → lasted ≡ is_on after → IsHeldAt out i who (Work.Claimed job slot)
        → IsActed who w out new (then_out left (Some (Work.Stored job slot))) before after (acted_by lasted)
    stores new left after job slot true same stored lasted at =
        subst (λ (v : WorldView). IsActed who w out v (then_out left (Some (Work.Stored job slot))) before after Acted.Event) (sym same)
        (went w left (Some (Work.Stored job slot)) after (with_work (with_log out left) i (held who (Work.Stored job slot))) (set_is left (Work.Stored job slot))
        (entry_stored who w out i slot log left before after job b at log_is stored (sym lasted))
        (stores_beside who w out i slot log left job b at log_is stored.line.tail))
    stores new left after job slot false same stored lasted at =
        subst (λ (v : WorldView). IsActed who w out v (then_out left (Some (Work.Stored job slot))) before after Acted.PowerLost) (sym same)
        (lost_there w (then_out left (Some (Work.Stored job slot))) after
        (subst (λ (x : OutView). LosesPower None w out w x before after) (set_is left (Work.Stored job slot)) (store_loses who w out i slot log left before after job b at log_is stored (sym lasted))))

    -- WHATEVER THE EVENT WAS, it leads on, or the power went.
    pub worked : (new : WorldView) (left : RoundView) (after : Supply) (work : Work) (result : Option Work) (lasted : Bool) → IsHeldAt out i who work → IsWorked w new log left before after work result lasted
        → IsActed who w out new (then_out left result) before after (acted_by lasted)
    worked new left after work result lasted at (works.Fills job filled same stays steps is) =
        subst (λ (v : WorldView). IsActed who w out v (then_out left (Some (Work.Filled filled))) before after Acted.Event) (sym same)
        (went w left (Some (Work.Filled filled)) after (with_work out i (held who (Work.Filled filled))) (kept_is left (Work.Filled filled) stays)
        (job_fills who w out i before after job filled b at steps is)
        (fills_beside who w out i job filled b at))
    worked new left after work result lasted at (works.FillLoses job cut same stays steps is) =
        subst (λ (v : WorldView). IsActed who w out v (then_out left (Some (Work.Began cut))) before after Acted.PowerLost) (sym same)
        (lost_there w (then_out left (Some (Work.Began cut))) after
        (subst (λ (x : OutView). LosesPower None w out w x before after) (kept_is left (Work.Began cut) stays) (fill_loses who w out i before after job cut b at steps is)))
    worked new left after work result lasted at (works.Claims job slot same spared claims) =
        subst (λ (p : Supply). IsActed who w out new (then_out left (Some (Work.Claimed job slot))) before p Acted.Event) (sym spared)
        (subst (λ (v : WorldView). IsActed who w out v (then_out left (Some (Work.Claimed job slot))) before before Acted.Event) (sym same)
        (went w left (Some (Work.Claimed job slot)) before (with_work (with_log out left) i (held who (Work.Claimed job slot))) (set_is left (Work.Claimed job slot))
        (job_claims who w out i slot log left before job b at log_is on claims)
        (claims_beside who w out i slot log left job b at log_is claims)))
    worked new left after work result lasted at (works.GivesUpFull job full spared claims gives) =
        subst (λ (p : Supply). IsActed who w out new (then_out left None) before p Acted.Event) (sym spared)
        (went new left None before (without_job (with_log out left) i) refl
        (job_given_up who w new out i log left before job full b at log_is on claims gives)
        (finds_full_beside who w new out i log left job full b at log_is claims gives))
    worked new left after work result lasted at (works.Stores job slot is_on_then same stored is) = stores new left after job slot is_on_then same stored is at
    worked new left after work result lasted at (works.Persists job slot same is on_then) =
        subst (λ (v : WorldView). IsActed who w out v (then_out left (Some (Work.Persisted job slot))) before after Acted.Event) (sym same)
        (went w left (Some (Work.Persisted job slot)) after (with_work (with_log out left) i (held who (Work.Persisted job slot))) (set_is left (Work.Persisted job slot))
        (entry_persisted who w out i slot log left before after job b at log_is is on_then)
        (persists_beside who w out i slot log left job b at log_is is.line.tail))
    worked new left after work result lasted at (works.PersistLoses job slot same is off) =
        subst (λ (v : WorldView). IsActed who w out v (then_out left (Some (Work.Stored job slot))) before after Acted.PowerLost) (sym same)
        (lost_there w (then_out left (Some (Work.Stored job slot))) after
        (subst (λ (x : OutView). LosesPower None w out w x before after) (set_is left (Work.Stored job slot)) (persist_loses who w out i slot log left before after job b at log_is is off)))
    worked new left after work result lasted at (works.FinishesCall job slot stays steps finishes) =
        went new left None after (without_job out i) (gone_is left stays)
        (job_finishes who w new out i slot before after job b at steps finishes)
        (finishes_beside who w new out i slot after job b at finishes)
    worked new left after work result lasted at (works.FinishLoses job slot stays steps loses) =
        lost_there new (then_out left None) after
        (subst (λ (x : OutView). LosesPower None w out new x before after) (gone_is left stays) (finish_loses who w new out i slot before after job b at steps loses))

-- THE EVENT OF A JOB, as its calls say: what is out then has its work back at its place.
pub job_acted : (w new : WorldView) (out : OutView) (i : ℕ) (log left : RoundView) (before after : Supply) → HasJobAt w out i before → out.log ≡ Some log
    → (x h : Held) → slice_get out.jobs i ≡ Some x → slice_get out.jobs i ≡ Some h → (result : Option Work) (lasted : Bool) → IsWorked w new log left before after x.work result lasted
    → (jobs : List Held) → jobs ≡ with_back (remove out.jobs i) i x.who result → (acted : Acted) → acted ≡ acted_by lasted
    → IsActed h.who w out new (record { log = Some left; jobs = jobs }) before after acted
job_acted w new out i log left before after has log_is x h at_x at_h result lasted is jobs jobs_are acted acted_is =
    subst (λ (y : Held). IsActed y.who w out new (record { log = Some left; jobs = jobs }) before after acted) (same_Some x h (sym at_x ∙ at_h))
    (subst (IsActed x.who w out new (record { log = Some left; jobs = jobs }) before after) (sym acted_is)
    (subst (λ (xs : List Held). IsActed x.who w out new (record { log = Some left; jobs = xs }) before after (acted_by lasted)) (sym jobs_are)
    (worked x.who w out i log has.between log_is before has.on has.within new left after x.work result lasted at_x is)))
