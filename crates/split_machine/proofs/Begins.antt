-- A caller's next event leads on.
use Rattle.std.specs.Prelude.{◌≡◌, ◌≢◌, ◌<◌, ℕ, true, false, List, [], ◌∷◌, length, Option, Some, None, IsSome, slice_get, refl}
use Rattle.std.proofs.Common.{arith, ap, ◌∙◌, sym, inl, inr}
use Rattle.std.proofs.lemmas.Option.{same_Some, slice_get_within}
use Rattle.posix_types.specs.declared.call.Call.{Call}
use Rattle.posix_types.specs.declared.call.Who.{Who}
use Rattle.run_laws.specs.in_flight.Costs.{most_of}
use Rattle.run_laws.specs.crash_spec.Busy.{is_busy}
use Rattle.run_laws.specs.pm_model.Powers.{Steps, Supply}
use Rattle.run_laws.specs.posix_spec.Scripted.{IsSetUp}
use Rattle.run_laws.specs.write_jobs.Jobs.{JobView}
use Rattle.run_laws.specs.world_view_laws.declared.views.over.Over.{Over}
use Rattle.run_laws.specs.world_view_laws.Begins.{BeginsJob, IsPowerLost, IsRoundOver, Returns, Waits}
use Rattle.run_laws.specs.world_view_laws.Views.{files_out, HasNone, next_of, state_of, WorldView}
use Rattle.run_laws.specs.declared.held.Held.{Held}
use Rattle.run_laws.specs.declared.held.Work.{Work}
use Rattle.run_laws.specs.EventsLaws.{held, with_job}
use Rattle.run_laws.specs.Between.{Between}
use Rattle.run_laws.specs.Held.{HasLog, OutView}
use Rattle.run_laws.specs.round_log.Rounds.{RoundView}
use Rattle.run_laws.proofs.Begins.{begin_loses, call_returns, job_begins, round_ends}
use Rattle.run_laws.proofs.Places.{at_In, place_there}
use Rattle.run_laws.proofs.Beside.{logs_beside, returns_beside}
use Rattle.run_laws.proofs.Rounds.{lacks_space_beside, loses_beside}
use Rattle.split_machine.specs.declared.outstanding.Acted.{Acted}
use Rattle.split_machine.specs.Events.{HasJobAt, IsAble, IsActed, IsToBegin, IsUnderWay}

-- ---- how a call began

module _ (who : Who) (w new : WorldView) (out : OutView) (before after : Supply) (to : IsToBegin who w out) where
  module _ (steps : Steps (most_of w.start.mode (next_of w who)) before after) where
    pub acted_return : Returns who w new before after → IsActed who w out new out before after Acted.Event
    acted_return is = (call_returns who w new out before after to.can steps is, returns_beside who w new out before after to.can is, to.can.log)

    pub acted_job : (job : JobView) → BeginsJob who w new after job → IsActed who w out new (with_job out (held who (Work.Began job))) before after Acted.Event
    acted_job job is = (job_begins who w new out before after job to.can steps is, logs_beside who w new out after job to.can is, to.can.log)

    pub acted_over : (over : Over) → IsRoundOver who w new before after over → IsActed who w out new out before after Acted.RoundOver
    acted_over (Over.Lap full) is = absurd (going_on (Over.Lap full) is.0)
      where
        going_on : (o : Over) → w.over ≡ Some o → ⊥
        going_on o some = (let never : None ≡ Some o = sym to.going ∙ some in cc)
    acted_over (Over.Space need room) (inl is) = absurd (going_on-2 (Over.Space need room) is.0)
      where
        going_on-2 : (o : Over) → w.over ≡ Some o → ⊥
        going_on-2 o some = (let never : None ≡ Some o = sym to.going ∙ some in cc)
    acted_over (Over.Space need room) (inr is) = (
      round_ends who w new out before after need room to.can steps is,
      record { same = refl; after = after; need = need; room = room; ends = is; beside = λ g m course. lacks_space_beside who w new out after need room g m to.can is course },
      to.can.log,
    )

    pub acted_lost : IsPowerLost who w new before after → IsActed who w out new out before after Acted.PowerLost
    acted_lost is =
        let loses = begin_loses who w new out before after to.can steps is in
        record { begins = Some who; loses = loses; beside = λ g m course. loses_beside g m w new out who to.can course to.going to.may loses.calls }

  -- no job keeps it waiting, and it has a call left
  pub never_waits : (ino : ℕ) (holder : Who) → Waits who w new before after ino holder → ⊥
  never_waits ino holder is =
      let same : is.call ≡ to.may.call = same_Some is.call to.may.call (sym is.next ∙ to.may.next) in
      let never : true ≡ false = sym is.kept.busy ∙ (ap (λ (c : Call). is_busy (state_of w) (files_out w) (who, c)) same ∙ to.may.idle) in
      cc

  pub never_ends : next_of w who ≡ None → ⊥
  never_ends none = (let never : None ≡ Some to.may.call = sym none ∙ to.may.next in cc)

-- ---- who has a job

module _ (who : Who) (w : WorldView) (out : OutView) (power : Supply) (under : IsUnderWay w out power) where
  some_out : (jobs : List Held) (i : ℕ) → i < length jobs → jobs ≢ []
  some_out [] i below none = omega (arith, below)
  some_out (h ∷ jobs) i below none = cc

  pub job_at : (place : ℕ) (h : Held) → slice_get out.jobs place ≡ Some h → HasJobAt w out place power
  job_at place h at =
      let below = slice_get_within out.jobs place h at in
      record { between = under.between; log = under.log; within = below; on = under.on (some_out out.jobs place below) }

  module _ (none : (i : ℕ) (h : Held) → slice_get out.jobs i ≡ Some h → h.who ≢ who) where
    pub has_none : HasNone w who
    has_none p there same =
        let place = at_In w.pending p there in
        let h = place_there out.jobs place.0 (omega (arith, slice_get_within w.pending place.0 p place.1, under.between.held.count)) in
        none place.0 h.0 h.1 ((under.between.held.each place.0 p h.0 place.1 h.1).0 ∙ same)

    pub to_begin : IsSetUp w.scripts w.history who → IsAble w who → IsToBegin who w out
    to_begin up (inl has) = absurd (has_none has.0 has.1 has.2)
    to_begin up (inr may) = record { can = record { between = under.between; log = under.log; none = has_none; set_up = up }; going = may.1; may = may.2 }

-- ---- the lines are out

-- none is not some
pub none_some : (A : Type 0) → IsSome {T = A} None → ⊥
none_some A some = (let never : false ≡ true = some in cc)

lines_by : (w : WorldView) (o : Option RoundView) (jobs : List Held) → HasLog w o jobs → IsSome o → w.lines_out ≡ true
lines_by w None jobs has some = absurd (none_some RoundView some)
lines_by w (Some log) jobs has some = has.fresh.are.out

pub lines_out : (w : WorldView) (out : OutView) → Between w out → IsSome out.log → w.lines_out ≡ true
lines_out w out b some = lines_by w out.log out.jobs b.log some
