-- What the next event of a caller makes of the machine, as it is computed, and that this is what an event does.
use Rattle.std.specs.Prelude.{◌≡◌, ℕ, ◌+◌, ◌<◌, ◌≤◌, Bool, true, false, cond, not, nat_lt, List, [], find, Option, Some, None, is_none, option_map, option_and_then, refl}
use Rattle.std.proofs.Common.{arith, ap, ◌∙◌, subst}
use Rattle.std.proofs.lemmas.Bool.Decides.{nat_tests}
use Rattle.posix_laws.specs.posix_types.declared.call.Call.{Call}
use Rattle.posix_laws.specs.posix_types.declared.call.Who.{Who}
use Rattle.posix_laws.specs.posix_spec.Unfinished.{IsNextCall}
use Rattle.crash_spec.specs.Busy.{is_logged, waits_for}
use Rattle.crash_spec.specs.Machine.{Began, Begin, Begins, Checks, Claim, Claimed, Claims, Event, Fill, Filled, Fills, FindsFull, Finish, Finishes, Goes, is_of, IsAt, Job, job_of, Logs, Machine, may_begin, next_of, Persist, Persisted, Persists, returned, Returns, Setting, Stage, state_of, Store, Stored, Stores, with_job, with_stage, without_job}
use Rattle.crash_spec.proofs.MachineLaws.{IsSound, job_next, MayBegin-Begins, next_holds}
use Rattle.crash_spec.specs.Schedules.{caller_of}

-- ---- what is computed

-- a job goes on
abbrev pub went_on : Setting → Machine → Who → Job → Stage → Machine
went_on g m who job Began = with_stage m who Filled
went_on g m who job Filled =
    cond (nat_lt m.claims g.lines) (record (with_stage m who Claimed) { claims = m.claims + 1 }) (record (without_job m who) { over = true })
went_on g m who job Claimed = with_stage m who Stored
went_on g m who job Stored = with_stage m who Persisted
went_on g m who job Persisted = returned g (without_job m who) who job.call

-- a call that may begin returns or becomes a job
abbrev pub began : Setting → Machine → Who → Call → Option Machine
began g m who call =
    cond (is_logged (state_of g m) (who, call))
    (option_map (λ node. with_job m (record { who = who; call = call; node = node; stage = Began })) (waits_for (state_of g m) (who, call)))
    (Some (returned g m who call))

abbrev pub goes_by : Setting → Machine → Who → Option Job → Option Machine
goes_by g m who None = cond (may_begin g m who) (option_and_then (began g m who) (next_of g m who)) None
goes_by g m who (Some job) = Some (went_on g m who job job.stage)

-- the machine after the next event of a caller, if it has one
abbrev pub after : Setting → Machine → Who → Option Machine
after g m who = goes_by g m who (job_of m who)

-- ---- each event does this

none_there : {X : Type 0} (o : Option X) → is_none o ≡ true → o ≡ None
none_there None is = refl
none_there (Some x) is = cc

less : (a b : ℕ) → a < b → nat_lt a b ≡ true
less a b is = grind (arith, nat_tests)

not_less : (a b : ℕ) → b ≤ a → nat_lt a b ≡ false
not_less a b is = grind (arith, nat_tests)

-- what is so of an event's caller
abbrev Does : Setting → Machine → Machine → Option Who → Type 0
Does g m next None = Unit {0}
Does g m next (Some who) = after g m who ≡ Some next

begin_is : (g : Setting) (m : Machine) (who : Who) (call : Call) → Begins g m who call → after g m who ≡ began g m who call
begin_is g m who call begins =
    ap (goes_by g m who) (none_there (job_of m who) (MayBegin-Begins g m who call begins).no_job)
    ∙ ap (λ b. cond b (option_and_then (began g m who) (next_of g m who)) None) begins.may
    ∙ ap (λ o. option_and_then (began g m who) o) begins.next

job_is : (g : Setting) (m : Machine) (who : Who) (stage : Stage) (job : Job) → IsAt m who stage job → after g m who ≡ Some (went_on g m who job stage)
job_is g m who stage job at = ap (goes_by g m who) at.is ∙ ap (λ s. Some (went_on g m who job s)) at.stage_is

does : (g : Setting) (m next : Machine) (e : Event) → Goes g m e next → Does g m next (caller_of e)
does g m next e (Returns who call begins plain) =
    begin_is g m who call begins
    ∙ ap (λ b. cond b (option_map (λ node. with_job m (record { who = who; call = call; node = node; stage = Began })) (waits_for (state_of g m) (who, call))) (Some (returned g m who call))) plain
does g m next e (Logs who call node begins logged waits) =
    begin_is g m who call begins
    ∙ ap (λ b. cond b (option_map (λ node. with_job m (record { who = who; call = call; node = node; stage = Began })) (waits_for (state_of g m) (who, call))) (Some (returned g m who call))) logged
    ∙ ap (λ o. option_map (λ node. with_job m (record { who = who; call = call; node = node; stage = Began })) o) waits
does g m next e (Fills who job at) = job_is g m who Began job at
does g m next e (Claims who job at free) =
    job_is g m who Filled job at
    ∙ ap (λ b. Some (cond b (record (with_stage m who Claimed) { claims = m.claims + 1 }) (record (without_job m who) { over = true }))) (less _ _ free)
does g m next e (FindsFull who job at full) =
    job_is g m who Filled job at
    ∙ ap (λ b. Some (cond b (record (with_stage m who Claimed) { claims = m.claims + 1 }) (record (without_job m who) { over = true }))) (not_less _ _ full)
does g m next e (Stores who job at) = job_is g m who Claimed job at
does g m next e (Persists who job at) = job_is g m who Stored job at
does g m next e (Finishes who job at) = job_is g m who Persisted job at
does g m next e (Checks over none) = tt

-- an event of a caller makes of the machine what is computed
pub after-Goes : (g : Setting) (m next : Machine) (e : Event) (who : Who) → Goes g m e next → caller_of e ≡ Some who → after g m who ≡ Some next
after-Goes g m next e who goes own = subst (Does g m next) own (does g m next e goes)

-- ---- and what is computed, some event does

pub record IsNext (g : Setting) (m : Machine) (who : Who) (next : Machine) : Type 0 where
  pub event : Event
  pub own : caller_of event ≡ Some who
  pub goes : Goes g m event next

same_next : (g : Setting) (m : Machine) (who : Who) (a b : Machine) → a ≡ b → IsNext g m who a → IsNext g m who b
same_next g m who a b same is = subst (IsNext g m who) same is

job_goes : (g : Setting) (m : Machine) (who : Who) (job : Job) → job_of m who ≡ Some job → IsNext g m who (went_on g m who job job.stage)
job_goes g m who job is = by job.stage refl where
  claim : (b : Bool) → nat_lt m.claims g.lines ≡ b → job.stage ≡ Filled
      → IsNext g m who (cond b (record (with_stage m who Claimed) { claims = m.claims + 1 }) (record (without_job m who) { over = true }))
  claim true free at = record { event = Claim who; own = refl; goes = Claims who job (record { is = is; stage_is = at }) (grind (arith, nat_tests, free)) }
  claim false full at = record { event = Claim who; own = refl; goes = FindsFull who job (record { is = is; stage_is = at }) (grind (arith, nat_tests, full)) }

  by : (stage : Stage) → job.stage ≡ stage → IsNext g m who (went_on g m who job stage)
  by Began at = record { event = Fill who; own = refl; goes = Fills who job (record { is = is; stage_is = at }) }
  by Filled at = claim (nat_lt m.claims g.lines) refl at
  by Claimed at = record { event = Store who; own = refl; goes = Stores who job (record { is = is; stage_is = at }) }
  by Stored at = record { event = Persist who; own = refl; goes = Persists who job (record { is = is; stage_is = at }) }
  by Persisted at = record { event = Finish who; own = refl; goes = Finishes who job (record { is = is; stage_is = at }) }

-- a call begins
begin_goes : (g : Setting) (m next : Machine) (who : Who) (call : Call) → Begins g m who call → began g m who call ≡ Some next → IsNext g m who next
begin_goes g m next who call begins is = by (is_logged (state_of g m) (who, call)) refl is where
  logged : (o : Option ℕ) → is_logged (state_of g m) (who, call) ≡ true → waits_for (state_of g m) (who, call) ≡ o
      → option_map (λ node. with_job m (record { who = who; call = call; node = node; stage = Began })) o ≡ Some next → IsNext g m who next
  logged None so waits it = cc
  logged (Some node) so waits it =
      let job : Job = record { who = who; call = call; node = node; stage = Began } in
      same_next g m who (with_job m job) next (cc) (record { event = Begin who; own = refl; goes = Logs who call node begins so waits })

  by : (b : Bool) → is_logged (state_of g m) (who, call) ≡ b
      → cond b (option_map (λ node. with_job m (record { who = who; call = call; node = node; stage = Began })) (waits_for (state_of g m) (who, call))) (Some (returned g m who call)) ≡ Some next
      → IsNext g m who next
  by true so it = logged (waits_for (state_of g m) (who, call)) so refl it
  by false so it = same_next g m who (returned g m who call) next (cc) (record { event = Begin who; own = refl; goes = Returns who call begins so })

call_goes : (g : Setting) (m next : Machine) (who : Who) (b : Bool) (o : Option Call) → may_begin g m who ≡ b → next_of g m who ≡ o
    → cond b (option_and_then (began g m who) o) None ≡ Some next → IsNext g m who next
call_goes g m next who false o may call it = cc
call_goes g m next who true None may call it = cc
call_goes g m next who true (Some c) may call it = begin_goes g m next who c (record { may = may; next = call }) it

pub Goes-after : (g : Setting) (m next : Machine) (who : Who) → after g m who ≡ Some next → IsNext g m who next
Goes-after g m next who is = by (job_of m who) refl is where
  by : (o : Option Job) → job_of m who ≡ o → goes_by g m who o ≡ Some next → IsNext g m who next
  by None none it = call_goes g m next who (may_begin g m who) (next_of g m who) refl refl it
  by (Some job) some it = same_next g m who (went_on g m who job job.stage) next (cc) (job_goes g m who job some)

-- ---- whose turn it is

-- the caller of an event has a next call
abbrev HasNext : Setting → Machine → Option Who → Type 0
HasNext g m None = Unit {0}
HasNext g m (Some who) = (call : Call) × IsNextCall g.scripts m.history (who, call)

has_next : (g : Setting) (m next : Machine) (e : Event) → IsSound g m → Goes g m e next → HasNext g m (caller_of e)
has_next g m next e sound (Returns who call begins plain) = (call, next_holds g m who call begins)
has_next g m next e sound (Logs who call node begins logged waits) = (call, next_holds g m who call begins)
has_next g m next e sound (Fills who job at) = (job.call, job_next g m who job sound at.is)
has_next g m next e sound (Claims who job at free) = (job.call, job_next g m who job sound at.is)
has_next g m next e sound (FindsFull who job at full) = (job.call, job_next g m who job sound at.is)
has_next g m next e sound (Stores who job at) = (job.call, job_next g m who job sound at.is)
has_next g m next e sound (Persists who job at) = (job.call, job_next g m who job sound at.is)
has_next g m next e sound (Finishes who job at) = (job.call, job_next g m who job sound at.is)
has_next g m next e sound (Checks over none) = tt

pub next-Goes : (g : Setting) (m next : Machine) (e : Event) (who : Who) → IsSound g m → Goes g m e next → caller_of e ≡ Some who
    → (call : Call) × IsNextCall g.scripts m.history (who, call)
next-Goes g m next e who sound goes own = subst (HasNext g m) own (has_next g m next e sound goes)

-- where the round is over and nobody has a job, no caller has an event
abbrev Rests : Option Who → Type 0
Rests None = Unit {0}
Rests (Some who) = ⊥

never_both : (b : Bool) → b ≡ true → not b ≡ true → ⊥
never_both true is isnt = cc
never_both false is isnt = cc

no_job : (m : Machine) (who : Who) (stage : Stage) (job : Job) → m.jobs ≡ [] → IsAt m who stage job → ⊥
no_job m who stage job none at = let never : None ≡ Some job = subst (λ (jobs : List Job). find (is_of who) jobs ≡ Some job) none at.is in cc

rests : (g : Setting) (m next : Machine) (e : Event) → m.over ≡ true → m.jobs ≡ [] → Goes g m e next → Rests (caller_of e)
rests g m next e over none (Returns who call begins plain) = never_both m.over over (MayBegin-Begins g m who call begins).round
rests g m next e over none (Logs who call node begins logged waits) = never_both m.over over (MayBegin-Begins g m who call begins).round
rests g m next e over none (Fills who job at) = no_job m who _ job none at
rests g m next e over none (Claims who job at free) = no_job m who _ job none at
rests g m next e over none (FindsFull who job at full) = no_job m who _ job none at
rests g m next e over none (Stores who job at) = no_job m who _ job none at
rests g m next e over none (Persists who job at) = no_job m who _ job none at
rests g m next e over none (Finishes who job at) = no_job m who _ job none at
rests g m next e over none (Checks over' none') = tt

pub rests-Goes : (g : Setting) (m next : Machine) (e : Event) (who : Who) → m.over ≡ true → m.jobs ≡ [] → Goes g m e next → caller_of e ≡ Some who → ⊥
rests-Goes g m next e who over none goes own = subst Rests own (rests g m next e over none goes)
