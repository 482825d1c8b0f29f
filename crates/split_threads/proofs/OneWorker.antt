-- A worker fills and appends its job, and goes on by what each call answers.
use Rattle.std.specs.Prelude.{◌≡◌, ◌≢◌, ◌<◌, ◌≤◌, ◌+◌, ◌*◌, ◌^◌, ℕ, Bool, true, false, [], length, Some, None, refl}
use Rattle.std.proofs.Common.{arith, ap, ◌∙◌, sym, subst, append-nil}
use Rattle.oplog_tail.specs.Answers.{Answers}
use Rattle.oplog_tail.specs.Logs.{capacity, LogView}
use Rattle.oplog_tail.specs.Seats.{SeatView}
use Rattle.oplog_tail.specs.declared.appends.Appended.{Appended}
use Rattle.oplog_tail.specs.declared.appends.Receipt.{Receipt}
use Rattle.oplog_tail.specs.oplog_entry.declared.claims.Full.{Full}
use Rattle.ruled_turn.specs.Passes.{outside_pass, PassView, TurnView}
use Rattle.thread_laws.specs.world_view_laws.pm_model.Powers.{is_on, Steps, Supply}
use Rattle.thread_laws.specs.world_view_laws.posix_types.declared.call.Who.{Who}
use Rattle.thread_laws.specs.world_view_laws.write_jobs.Jobs.{FilledView, IsCutOff, IsFilled, JobView}
use Rattle.thread_laws.specs.world_view_laws.Views.{WorldView}
use Rattle.thread_laws.specs.Hands.{HandView, Lap}
use Rattle.thread_laws.specs.MovesLaws.{CutKeepsJob, FilledKeepsJob}
use Rattle.thread_laws.specs.States.{IsIdle}
use Rattle.thread_laws.specs.Works.{HasDropped, HasEnded, HasLooked, HasTold, HasWorked, IsLater}
use Rattle.thread_laws.specs.WorksLaws.{ComesByJob, ComesByLook, ComesFirst, EndsByFinish, EndsByFull, EndsByLook, EndsUnappended, EndsUnfilled, OwnIsBounded}
use Rattle.thread_laws.specs.declared.works.Next.{Next}
use Rattle.thread_laws.specs.declared.works.Worked.{Worked}
use Rattle.split_threads.specs.Workers.{HasBegunSoFar, HasComeSoFar, HasEndedWith, HasFilledSoFar, IsOpenedWith, IsWorker, MayWork}
use Rattle.split_threads.specs.declared.turns.Held.{Held}
use Rattle.split_threads.specs.declared.working.Own.{Own}

-- what a loss that was told leaves of a view
pub told_later : (v u : HandView) (there : Bool) → HasTold v u there → IsLater v u
told_later v u true (lost, set_up, is) = record {
  who = ap (λ (x : HandView). x.who) is;
  lap = ap (λ (x : HandView). x.lap) is;
  given = ap (λ (x : HandView). x.given) is;
  mine = ([], ap (λ (x : HandView). x.mine) is ∙ sym (append-nil v.mine));
  done = ([], ap (λ (x : HandView). x.done) is ∙ sym (append-nil v.done));
  full = λ f. ap (λ (x : HandView). x.full) is ∙ f;
}
told_later v u false is = record {
  who = ap (λ (x : HandView). x.who) is;
  lap = ap (λ (x : HandView). x.lap) is;
  given = ap (λ (x : HandView). x.given) is;
  mine = ([], ap (λ (x : HandView). x.mine) is ∙ sym (append-nil v.mine));
  done = ([], ap (λ (x : HandView). x.done) is ∙ sym (append-nil v.done));
  full = λ f. ap (λ (x : HandView). x.full) is ∙ f;
}

-- the steps of two parts
pub steps_then : (m n : ℕ) (a b c : Supply) → Steps m a b → Steps n b c → Steps (m + n) a c
steps_then m n a b c one two = record {
  given = two.given ∙ one.given;
  on_before = λ on. one.on_before (two.on_before on);
  later = omega (arith, one.later, two.later);
  bound = omega (arith, one.bound, two.bound);
}

pub fewer_steps : (m n : ℕ) (a b : Supply) → m ≤ n → Steps m a b → Steps n a b
fewer_steps m n a b fewer steps = record { given = steps.given; on_before = steps.on_before; later = steps.later; bound = omega (arith, fewer, steps.bound) }

-- a worker with a job has a World in which that began
pub begun_some : (v : HandView) (then : WorldView) → v.begun ≡ Some then → v.begun ≢ None
begun_some v then is none = let never : Some then ≡ None = sym is ∙ none in cc

module _ (turn : TurnView) (log : LogView) (i : ℕ) where
  -- a worker with a later view, in a later state
  pub worker_later : (own : Own) (v u : HandView) (pass : PassView Held HandView) (seat : SeatView) (power : Supply) → IsWorker turn log own i v → IsLater v u
      → pass ≡ outside_pass turn.id i u → seat.log ≡ own.seat.log → IsWorker turn log (record { who = own.who; pass = pass; seat = seat; power = power }) i u
  worker_later own v u pass seat power is later pass_is seat_is = record {
    pass = pass_is;
    who = later.who ∙ is.who;
    seat = seat_is ∙ is.seat;
    lap = subst (λ (l : Lap). IsOpenedWith log l) (sym later.lap) is.lap;
  }

  pub slot_within : (own : Own) (v : HandView) (slot : ℕ) → IsWorker turn log own i v → slot < capacity log → slot < v.lap.geometry.log
  slot_within own v slot is below = omega (arith, is.lap.count, below)

  -- ---- the append

  module _ (first : HandView) (seat : SeatView) (own : Own) (job : FilledView) (far : HasFilledSoFar turn log first seat i own job) (then : SeatView) (after : Supply)
      (steps : Steps 10 own.power after) (log_is : then.log ≡ own.seat.log) where
    abbrev v : HandView
    v = far.view

    -- its own power is off: so the loss may be told
    pub append_bounded : OwnIsBounded → is_on after ≡ false → (n : ℕ) × (v.given ≡ Some n) × (n ≤ 2 ^ 16 * (length v.mine + 1))
    append_bounded law off =
        law first v seat own.seat far.before after (577 * 33 + 10) far.come (omega arith) (steps_then (577 * 33) 10 far.before own.power after far.filled steps) off

    pub append_returned : ComesByJob → (receipt : Receipt) (pass : PassView Held HandView) → Answers (capacity log) job.draft own.seat own.power then after (Appended.Done receipt)
        → (u : HandView) × (pass ≡ outside_pass turn.id i u) × HasEnded v u receipt.slot job.draft true
        → HasComeSoFar turn log first seat i (record { who = own.who; pass = pass; seat = then; power = after })
    append_returned law receipt pass answers (u, is, ended) = record {
      view = u;
      worker = worker_later own v u pass then after far.worker ended.later is log_is;
      come = law first v u seat own.seat then far.before own.power after job.draft (capacity log) receipt far.come far.filled answers steps ended;
      idle = (ended.on refl).2;
    }

    pub append_finished : EndsByFinish → (receipt : Receipt) (pass : PassView Held HandView) → Answers (capacity log) job.draft own.seat own.power then after (Appended.Done receipt)
        → (u : HandView) × (pass ≡ outside_pass turn.id i u) × HasEnded v u receipt.slot job.draft false
        → HasEndedWith turn log first seat i (record { who = own.who; pass = pass; seat = then; power = after }) Worked.Ended
    append_finished law receipt pass answers (u, is, ended) = record {
      view = u;
      worker = worker_later own v u pass then after far.worker ended.later is log_is;
      did = law first v u seat own.seat then far.before own.power after (capacity log) job.draft receipt far.come far.filled answers steps ended;
    }

    pub append_full : EndsByFull → (full : Full) (pass : PassView Held HandView) → Answers (capacity log) job.draft own.seat own.power then after (Appended.Full full)
        → (u : HandView) × (pass ≡ outside_pass turn.id i u) × HasDropped v u
        → HasEndedWith turn log first seat i (record { who = own.who; pass = pass; seat = then; power = after }) Worked.Ended
    append_full law full pass answers (u, is, dropped) = record {
      view = u;
      worker = worker_later own v u pass then after far.worker dropped.later is log_is;
      did = law first v u seat own.seat then far.before own.power after (capacity log) job.draft full far.come far.filled answers dropped;
    }

    pub append_lost : EndsUnappended → (there : Bool) (pass : PassView Held HandView) → Answers (capacity log) job.draft own.seat own.power then after Appended.PowerLost
        → (u : HandView) × (pass ≡ outside_pass turn.id i u) × HasTold v u there → (worked : Worked) → (there ≡ true → worked ≡ Worked.Filled job) → (there ≡ false → worked ≡ Worked.Ended)
        → HasEndedWith turn log first seat i (record { who = own.who; pass = pass; seat = then; power = after }) worked
    append_lost law true pass answers (u, is, told) worked when_there when_gone = record {
      view = u;
      worker = worker_later own v u pass then after far.worker (told_later v u true told) is log_is;
      did = subst (λ (x : Worked). HasWorked first u seat then after x) (sym (when_there refl))
          ((law first v u seat own.seat then far.before own.power after (capacity log) job far.come far.filled answers steps far.has).0 told);
    }
    append_lost law false pass answers (u, is, told) worked when_there when_gone = record {
      view = u;
      worker = worker_later own v u pass then after far.worker (told_later v u false told) is log_is;
      did = subst (λ (x : Worked). HasWorked first u seat then after x) (sym (when_gone refl))
          ((law first v u seat own.seat then far.before own.power after (capacity log) job far.come far.filled answers steps far.has).1 told);
    }

  -- ---- the filling

  module _ (first : HandView) (seat : SeatView) (own : Own) (job : JobView) (far : HasBegunSoFar turn log first seat i own job) (after : Supply) (count : ℕ) (few : count ≤ 33)
      (steps : Steps (577 * count) own.power after) where
    abbrev w : HandView
    w = far.view

    all_steps : Steps (577 * 33) own.power after
    all_steps = fewer_steps (577 * count) (577 * 33) own.power after (omega (arith, few)) steps

    pub fill_bounded : OwnIsBounded → is_on after ≡ false → (n : ℕ) × (w.given ≡ Some n) × (n ≤ 2 ^ 16 * (length w.mine + 1))
    fill_bounded law off = law first w seat own.seat own.power after (577 * 33) far.come (omega arith) all_steps off

    pub fill_lost : EndsUnfilled → CutKeepsJob → (cut : JobView) (there : Bool) (pass : PassView Held HandView) → IsCutOff job after cut
        → (u : HandView) × (pass ≡ outside_pass turn.id i u) × HasTold w u there → (worked : Worked) → (there ≡ true → worked ≡ Worked.Job cut) → (there ≡ false → worked ≡ Worked.Ended)
        → HasEndedWith turn log first seat i (record { who = own.who; pass = pass; seat = own.seat; power = after }) worked
    fill_lost law keeps cut true pass off (u, is, told) worked when_there when_gone = record {
      view = u;
      worker = worker_later own w u pass own.seat after far.worker (told_later w u true told) is refl;
      did = subst (λ (x : Worked). HasWorked first u seat own.seat after x) (sym (when_there refl))
          ((law first w u seat own.seat own.power after cut far.come all_steps off.off (keeps w job cut after far.has off)).0 told);
    }
    fill_lost law keeps cut false pass off (u, is, told) worked when_there when_gone = record {
      view = u;
      worker = worker_later own w u pass own.seat after far.worker (told_later w u false told) is refl;
      did = subst (λ (x : Worked). HasWorked first u seat own.seat after x) (sym (when_gone refl))
          ((law first w u seat own.seat own.power after cut far.come all_steps off.off (keeps w job cut after far.has off)).1 told);
    }

    pub fill_ready : FilledKeepsJob → (filled : FilledView) → IsFilled job after filled
        → HasFilledSoFar turn log first seat i (record { who = own.who; pass = own.pass; seat = own.seat; power = after }) filled
    fill_ready keeps filled is = record {
      view = w;
      before = own.power;
      worker = worker_later own w w own.pass own.seat after far.worker same far.worker.pass refl;
      come = far.come;
      filled = all_steps;
      has = keeps w job filled after far.has is;
    } where
      same : IsLater w w
      same = record { who = refl; lap = refl; given = refl; mine = ([], sym (append-nil w.mine)); done = ([], sym (append-nil w.done)); full = λ f. f }

  -- ---- from look to look

  pub come_first : ComesFirst → (v : HandView) (own : Own) → IsWorker turn log own i v → MayWork own v → HasComeSoFar turn log v own.seat i own
  come_first law v own is may = record {
    view = v;
    worker = is;
    come = law v own.seat own.power may.written may.power;
    idle = subst (λ (x : Who). IsIdle x v) (sym may.idle.who_is) may.idle;
  }

  module _ (first : HandView) (seat : SeatView) (own : Own) (far : HasComeSoFar turn log first seat i own) (pass : PassView Held HandView) (next : Next)
      (looked : (u : HandView) × (pass ≡ outside_pass turn.id i u) × HasLooked far.view u next) where
    abbrev now : Own
    now = record { who = own.who; pass = pass; seat = own.seat; power = own.power }

    worker_now : IsWorker turn log now i looked.0
    worker_now = worker_later own far.view looked.0 pass own.seat own.power far.worker looked.2.later looked.1 refl

    pub look_on : ComesByLook → (next ≡ Next.On) → HasComeSoFar turn log first seat i now
    look_on law on = record {
      view = looked.0;
      worker = worker_now;
      come = law first far.view looked.0 seat own.seat own.power next far.come looked.2;
      idle = (subst (λ (n : Next). HasLooked far.view looked.0 n) on looked.2).next_is;
    }

    pub look_waits : ComesByLook → (next ≡ Next.Wait) → HasComeSoFar turn log first seat i now
    look_waits law waits = record {
      view = looked.0;
      worker = worker_now;
      come = law first far.view looked.0 seat own.seat own.power next far.come looked.2;
      idle = (subst (λ (n : Next). HasLooked far.view looked.0 n) waits looked.2).next_is;
    }

    pub look_begins : ComesByLook → (job : JobView) → next ≡ Next.Job job → HasBegunSoFar turn log first seat i now job × (job.lost ≡ false)
    look_begins law job begins = (
      record {
        view = looked.0;
        worker = worker_now;
        come = law first far.view looked.0 seat own.seat own.power next far.come looked.2;
        has = (subst (λ (n : Next). HasLooked far.view looked.0 n) begins looked.2).next_is.0;
      },
      (subst (λ (n : Next). HasLooked far.view looked.0 n) begins looked.2).next_is.1,
    )

    pub look_over : EndsByLook → next ≡ Next.Over → HasEndedWith turn log first seat i now Worked.Ended
    look_over law over = record {
      view = looked.0;
      worker = worker_now;
      did = law first far.view looked.0 seat own.seat own.power far.come (subst (λ (n : Next). HasLooked far.view looked.0 n) over looked.2);
    }

  -- its caller is that of its view
  pub own_looks : (first : HandView) (seat : SeatView) (own : Own) (far : HasComeSoFar turn log first seat i own) → IsIdle own.who far.view
  own_looks first seat own far = subst (λ (x : Who). IsIdle x far.view) far.worker.who far.idle
