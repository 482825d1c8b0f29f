-- A run as a whole: what the machine says of it, and what was found on the device.
use Rattle.std.proofs.Common.{◌≡◌, ◌≢◌, ◌⊎◌, ◌≤◌, ℕ, false, List, [], refl, sym, ◌∙◌, ap, subst, arith, inl, inr, Option, Some, None}
use Rattle.std.specs.Prelude.{nat_lt, IsSome}
use Rattle.std.proofs.lemmas.Bool.{true≢false, ltb-false}
use Rattle.command_line.specs.pm_model.declared.Cell.{Cell}
use Rattle.command_line.specs.pm_model.Powers.{is_left, is_on, Supply}
use Rattle.split_machine.specs.crash_spec.Permitted.{Permitted, StronglyPermitted}
use Rattle.split_machine.specs.crash_spec.StrongLaws.{Permitted-Strongly}
use Rattle.split_machine.specs.crash_spec.RelationLaws.{Strict-idle, Sync-idle}
use Rattle.command_line.specs.layout_model.Places.{Geometry}
use Rattle.posix_types.specs.declared.call.Mode.{Mode}
use Rattle.posix_types.specs.declared.item.Item.{Item}
use Rattle.posix_types.specs.declared.tree.TreeEntry.{TreeEntry}
use Rattle.posix_types.specs.Scripts.{Scripts}
use Rattle.command_line.specs.posix_spec.Afforded.{Afforded}
use Rattle.command_line.specs.Command.{Options}
use Rattle.command_line.specs.posix_spec.Run.{IsLegal, run, Unfinished}
use Rattle.command_line.specs.posix_spec.Scripted.{IsComplete, Scripted}
use Rattle.command_line.specs.posix_spec.State.{State}
use Rattle.command_line.specs.posix_spec.Tree.{tree}
use Rattle.command_line.specs.posix_spec.Unfinished.{AreUnfinished}
use Rattle.split_machine.specs.run_laws.Changes.{ChangesTreeAtMost}
use Rattle.split_machine.specs.run_laws.Course.{setting_of}
use Rattle.split_machine.specs.run_laws.CourseLaws.{LeadsReaches}
use Rattle.split_machine.specs.run_laws.Runs as machine
use Rattle.split_machine.specs.crash_spec.Schedules.{Reaches, Scheduled}
use Rattle.split_machine.specs.world_view_laws.Views.{WorldView}
use Rattle.split_machine.specs.world_image_laws.Starts.{has_setting}
use Rattle.split_machine.specs.Runs.{IsRunEnded}
use Rattle.split_machine.specs.crash_spec.Orders.{Order}
use Rattle.split_threads.specs.world_parts.declared.outcomes.Ended.{Ended}
use Rattle.split_top.specs.Found.{IsEndedAs, IsLeftAs, IsReadBack}
use Rattle.split_top.specs.Runs.{AreWithin, beginning, HasBegun, IsCut, IsRun, IsScheduled, IsStopped, IsWhole, KeepsStop, setting, Task}
use Rattle.split_top.specs.Worlds.{IsWorldOn}
use Rattle.split_top.proofs.Left.{left_as, left_with}

-- a power that went had no more steps than were taken
spent : (n : ℕ) (before after : Supply) → before ≡ record { given = Some n; taken = 0 } → after.given ≡ before.given → is_on after ≡ false → n ≤ after.taken
spent n before after start same off =
    let given : after.given ≡ Some n = same ∙ ap (λ p. p.given) start in
    let left : nat_lt after.taken n ≡ false = ap (λ g. is_left g after.taken) (sym given) ∙ off in
    ltb-false after.taken n left

-- fewer steps are afforded too
fewer : (m n : ℕ) (history : List Item) (scripts : Scripts) (mode : Mode) → m ≤ n → Afforded n history scripts mode → Afforded m history scripts mode
fewer m n history scripts mode least is = record { by_any = omega (arith, least, is.by_any); by_names = λ quiet. omega (arith, least, is.by_names quiet) }

never_off : (before after : Supply) → before ≡ record { given = None; taken = 0 } → after.given ≡ before.given → is_on after ≡ false → ⊥
never_off before after start same off =
    let given : after.given ≡ None = same ∙ ap (λ p. p.given) start in
    true≢false (ap (λ g. is_left g after.taken) (sym given) ∙ off)

-- fewer events than a cut are not more
within_cut : (events : ℕ) (cut : Option ℕ) → machine.IsBelow events cut → AreWithin events cut
within_cut events None below = tt
within_cut events (Some most) below = omega (arith, below)

just_cut : (events : ℕ) (cut : Option ℕ) → cut ≡ Some events → AreWithin events cut
just_cut events cut is = subst (λ (c : Option ℕ). AreWithin events c) (sym is) (omega arith)

-- a power that went was for a number of steps
has_stop : (stop : Option ℕ) (before after : Supply) → before ≡ record { given = stop; taken = 0 } → after.given ≡ before.given → is_on after ≡ false → IsSome stop
has_stop None before after start same off = absurd (never_off before after start same off)
has_stop (Some steps) before after start same off = refl

-- Outside POSIX mode a run with nothing unfinished leaves just the tree of its history.
pub one_tree : (mode : Mode) → mode ≢ Mode.Posix → (s : State) (history : List Item) (shown : List TreeEntry) → Permitted mode s history [] shown → shown ≡ tree (run s history)
one_tree Mode.Strict other s history shown permitted = Strict-idle s history shown permitted
one_tree Mode.Sync other s history shown permitted = Sync-idle s history shown permitted
one_tree Mode.Posix other s history shown permitted = absurd (other refl)

module _ (g : Geometry) (task : Task) (options : Options) (w : WorldView) (before after : Supply) (pm : List Cell) (history : List Item) (unfinished : List Unfinished) (left : List TreeEntry) (on : IsWorldOn g task w) (power : before ≡ record { given = options.stop; taken = 0 }) (all : LeadsReaches) (ran : machine.IsRan w before after pm history unfinished)
    (permits : (calls : List Unfinished) → IsLeftAs g pm w.start history calls → StronglyPermitted w.start.mode w.start history calls left) where
  legal : IsLegal (beginning task) history
  legal = subst (λ s. IsLegal s history) on.start ran.legal

  scripted : Scripted task.scripts history
  scripted = subst (λ s. Scripted s history) on.scripts_are ran.scripted

  open_calls : AreUnfinished task.scripts history unfinished
  open_calls = subst (λ s. AreUnfinished s history unfinished) on.scripts_are ran.open_calls

  -- the state that it begins in has the mode of the task
  same_mode : (beginning task).mode ≡ task.mode
  same_mode = (has_setting task.image task.shape task.mode).1

  -- the tree is permitted with calls for which the promise is kept, by the stronger rule for bytes too
  strongly_with : (calls : List Unfinished) → IsLeftAs g pm w.start history calls → StronglyPermitted task.mode (beginning task) history calls left
  strongly_with calls is =
      subst (λ (m : Mode). StronglyPermitted m (beginning task) history calls left) same_mode
      (subst (λ (s : State). StronglyPermitted s.mode s history calls left) on.start (permits calls is))

  permitted_with : (calls : List Unfinished) → IsLeftAs g pm w.start history calls → Permitted task.mode (beginning task) history calls left
  permitted_with calls is = Permitted-Strongly task.mode (beginning task) history calls left (strongly_with calls is)

  strongly : StronglyPermitted task.mode (beginning task) history unfinished left
  strongly = strongly_with unfinished (left_as g task w before after pm history unfinished on ran)

  permitted : Permitted task.mode (beginning task) history unfinished left
  permitted = Permitted-Strongly task.mode (beginning task) history unfinished left strongly

  kept : task.mode ≢ Mode.Posix → (steps : ℕ) → options.stop ≡ Some steps → KeepsStop task history unfinished left steps
  kept other steps some =
      let is = ran.kept (λ posix. other (sym same_mode ∙ (sym (ap (λ (s : State). s.mode) on.start) ∙ posix))) steps (ap (λ (p : Supply). p.given) power ∙ some) in
      record {
        acted = is.acted;
        some = is.some;
        permitted = permitted_with is.acted (left_with g task w before after pm history unfinished is.acted on ran is.promise);
        changed = is.changed;
        each = subst (λ s. ChangesTreeAtMost s history is.changed) on.start is.each;
        most = is.most;
      }

  afforded : Afforded after.taken history task.scripts task.mode
  afforded =
      subst (λ (m : Mode). Afforded after.taken history task.scripts m) (ap (λ (s : State). s.mode) on.start ∙ same_mode)
      (subst (λ (s : Scripts). Afforded after.taken history s w.start.mode) on.scripts_are (ran.afforded after.taken (omega (arith, ap (λ (p : Supply). p.taken) power))))

  -- ---- its events
  same_setting : setting_of w ≡ setting task
  same_setting = λ i. record { start = on.start i; scripts = on.scripts_are i; lines = (ap (λ (h : Geometry). h.log) on.geometry ∙ sym on.lines) i }

  abbrev scheduled : (events : ℕ) (calls : List Unfinished) → machine.IsScheduled w options.order events history calls → Scheduled (setting task) options.order events history calls
  scheduled events calls is = record {
    course = is.course;
    reached = subst (λ s. Reaches s options.order events is.course) same_setting (all options.order w is.last events is.out is.course is.leads);
    history_is = is.history_is;
    unfinished_is = is.calls_are;
  }

  -- the calls that are out, or one more that began
  left_so : (off : machine.IsPowerOff w options.order options.cut after history unfinished) → (unfinished ≡ off.calls) ⊎ HasBegun task options off.scheduled.course unfinished
  left_so off = elim off.left [
    | inl same ↦ inl (same ∙ sym off.scheduled.calls_are)
    | inr begun ↦ inr (record {
      stops = has_stop options.stop before after power ran.given off.off;
      begun = subst (λ s. machine.IsBegun s options.order off.scheduled.course unfinished) same_setting begun;
    })
  ]

  ended_so : (course : IsScheduled task options history unfinished) → IsWhole task history unfinished left ⊎ (IsStopped task options history ⊎ IsCut options course.events course.calls unfinished) → IsRun task options history unfinished left
  ended_so course ended = record { legal = legal; scripted = scripted; open_calls = open_calls; permitted = permitted; strongly = λ posix. subst (λ (m : Mode). StronglyPermitted m (beginning task) history unfinished left) posix strongly; course = course; ended = ended; kept = kept }

  -- all calls returned
  pub ran_whole : IsComplete w.scripts history → unfinished ≡ [] → (events : ℕ) → machine.IsBelow events options.cut → machine.IsScheduled w options.order events history [] → IsRun task options history unfinished left
  ran_whole complete none events below is =
      ended_so (record { events = events; calls = []; scheduled = scheduled events [] is; within = within_cut events options.cut below; are_left = inl none }) (inl (record {
        complete = subst (λ s. IsComplete s history) on.scripts_are complete;
        none_left = none;
        tree = one_tree task.mode on.mode (beginning task) history left (subst (λ (calls : List Unfinished). Permitted task.mode (beginning task) history calls left) none permitted);
      }))

  -- the power went
  stopped : is_on after ≡ false → IsStopped task options history
  stopped off = by options.stop refl where
    by : (stop : Option ℕ) → options.stop ≡ stop → IsStopped task options history
    by None always = absurd (never_off before after (power ∙ ap (λ given. record { given = given; taken = 0 }) always) ran.given off)
    by (Some steps) some = record {
      steps = steps;
      given = some;
      afforded = fewer steps after.taken history task.scripts task.mode (spent steps before after (power ∙ ap (λ given. record { given = given; taken = 0 }) some) ran.given off) afforded;
    }

  ran_off : machine.IsPowerOff w options.order options.cut after history unfinished → IsRun task options history unfinished left
  ran_off off =
      ended_so (record { events = off.events; calls = off.calls; scheduled = scheduled off.events off.calls off.scheduled; within = within_cut off.events options.cut off.below; are_left = left_so off })
      (inr (inl (stopped off.off)))

  -- it was cut
  ran_cut : machine.IsCut w options.order options.cut history unfinished → IsRun task options history unfinished left
  ran_cut cut =
      ended_so (record { events = cut.events; calls = unfinished; scheduled = scheduled cut.events unfinished cut.scheduled; within = just_cut cut.events options.cut cut.cut_is; are_left = inl refl })
      (inr (inr (record { cut_is = cut.cut_is; none_began = refl })))

  pub ran_lost : machine.IsPowerOff w options.order options.cut after history unfinished ⊎ machine.IsCut w options.order options.cut history unfinished → IsRun task options history unfinished left
  ran_lost (inl off) = ran_off off
  ran_lost (inr cut) = ran_cut cut

-- ---- however it ended

-- what it leaves of the device
pub ended_left : (g : Geometry) (task : Task) (w : WorldView) (order : Order) (cut : Option ℕ) (before after : Supply) (ended : Ended) → IsWorldOn g task w
    → IsRunEnded w order cut before after ended → IsEndedAs g w.start ended
ended_left g task w order cut before after (Ended.Whole pm history) on is = left_as g task w before after pm history.items [] on is.ran
ended_left g task w order cut before after (Ended.Lost crashed) on is = left_as g task w before after crashed.pm crashed.history.items crashed.unfinished.items on is.ran

-- AND A RUN IT IS
pub ran_ended : (g : Geometry) (task : Task) (options : Options) (w : WorldView) (before after : Supply) (ended : Ended) (history : List Item) (unfinished : List Unfinished) (left : List TreeEntry)
    → IsWorldOn g task w → before ≡ record { given = options.stop; taken = 0 } → LeadsReaches → IsRunEnded w options.order options.cut before after ended
    → IsReadBack g ended history unfinished left → IsRun task options history unfinished left
ran_ended g task options w before after (Ended.Whole pm told) history unfinished left on power all is back =
    let permits = λ (calls : List Unfinished) (found : IsLeftAs g pm w.start told.items calls).
    subst (λ (h : List Item). StronglyPermitted w.start.mode w.start h calls left) back.calls.0 (back.permitted w.start calls found) in
    subst (λ (h : List Item). IsRun task options h unfinished left) (sym back.calls.0)
    (subst (λ (calls : List Unfinished). IsRun task options told.items calls left) (sym back.calls.1)
    (ran_whole g task options w before after pm told.items [] left on power all is.ran permits is.complete refl is.events is.below is.scheduled))
ran_ended g task options w before after (Ended.Lost crashed) history unfinished left on power all is back =
    let permits = λ (calls : List Unfinished) (found : IsLeftAs g crashed.pm w.start crashed.history.items calls).
    subst (λ (h : List Item). StronglyPermitted w.start.mode w.start h calls left) back.calls.0 (back.permitted w.start calls found) in
    subst (λ (h : List Item). IsRun task options h unfinished left) (sym back.calls.0)
    (subst (λ (calls : List Unfinished). IsRun task options crashed.history.items calls left) (sym back.calls.1)
    (ran_lost g task options w before after crashed.pm crashed.history.items crashed.unfinished.items left on power all is.ran permits is.lost))
