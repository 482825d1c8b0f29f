-- From one moment of a run to the next, and how it ends.
use Rattle.std.specs.Prelude.{◌≡◌, ◌≢◌, ◌⊎◌, ◌≤◌, ◌+◌, ◌*◌, ◌^◌, ℕ, zero, suc, Bool, true, false, cond, filter, List, [], ◌∷◌, ◌++◌, length, map, Option, Some, None, IfOk, IsSome, Ok, Err, Result, refl}
use Rattle.std.proofs.Common.{arith, ap, ◌∙◌, sym, subst, inl, inr}
use Rattle.std.proofs.lemmas.Option.{same_Some}
use Rattle.posix_types.specs.declared.call.Mode.{Mode}
use Rattle.posix_types.specs.declared.item.Item.{Item}
use Rattle.posix_types.specs.Scripts.{Scripts}
use Rattle.posix_types.specs.declared.call.Who.{Who}
use Rattle.run_laws.specs.crash_spec.Orders.{none_picked, Order}
use Rattle.schedule.specs.declared.picks.Picker.{Picker}
use Rattle.schedule.specs.Picking.{IsSoFar}
use Rattle.run_laws.specs.file_calls.declared.names.outcomes.NoMemory.{NoMemory}
use Rattle.run_laws.specs.pm_model.declared.Cell.{Cell}
use Rattle.run_laws.specs.pm_model.Parts.{Part}
use Rattle.run_laws.specs.pm_model.Powers.{is_on, Steps, Supply}
use Rattle.run_laws.specs.posix_laws.UnfinishedLaws.{AreUnfinished-none}
use Rattle.run_laws.specs.posix_spec.Afforded.{Afforded}
use Rattle.run_laws.specs.posix_spec.Run.{Unfinished, IsLegal}
use Rattle.run_laws.specs.posix_spec.Scripted.{IsComplete, Scripted}
use Rattle.run_laws.specs.posix_spec.State.{State}
use Rattle.run_laws.specs.posix_spec.Unfinished.{AreUnfinished}
use Rattle.run_laws.specs.image_layout.declared.layout.geometry.Geometry.{Geometry}
use Rattle.run_laws.specs.world_image_laws.Promised.{KeepsPromise}
use Rattle.run_laws.specs.live_model.Standing.{JobOut}
use Rattle.run_laws.specs.write_end.Ends.{begun_by}
use Rattle.run_laws.specs.round_log.Rounds.{RoundView}
use Rattle.run_laws.specs.write_jobs.Jobs.{FilledView, JobView}
use Rattle.run_laws.specs.world_view_laws.Losses.{calls_acted, KeepsActed, MayCrash}
use Rattle.run_laws.specs.world_view_laws.Rounds.{IsLeft, MayUnmount}
use Rattle.run_laws.specs.world_view_laws.Views.{calls_out, WorldView}
use Rattle.run_laws.specs.Acted.{AreSomeOf}
use Rattle.run_laws.specs.Changes.{ChangesTreeAtMost}
use Rattle.run_laws.proofs.Acted.{all_of}
use Rattle.split_world.specs.world_parts.Answers.{IsEnded}
use Rattle.split_world.specs.world_parts.declared.outcomes.Ended.{Ended}
use Rattle.run_laws.specs.declared.held.Held.{Held}
use Rattle.run_laws.specs.Between.{Between, CanCrash, GoesOn, IsLater, left_to_do, LosesPower}
use Rattle.run_laws.specs.Held.{filled_of, jobs_of, lines_in, nothing_out, OutView}
use Rattle.run_laws.specs.EventsPaid.{IsPaid, IsPaidOff}
use Rattle.run_laws.proofs.Checks.{acted_between, affords_lost, affords_whole, crashes_between, may_end, none_held, none_pending, paid_is_paid_off}
use Rattle.run_laws.specs.Course.{at_start, setting_of}
use Rattle.run_laws.specs.Course as courses
use Rattle.run_laws.specs.Runs.{AreLeft, IsBelow, IsFirst, IsRan, IsScheduled, KeepsStop}
use Rattle.run_laws.proofs.Rounds.{calls_are_out, run_starts}
use Rattle.split_machine.specs.declared.runs.End.{End}
use Rattle.split_machine.proofs.Begins.{none_some}
use Rattle.split_machine.specs.Events.{IsBegunRound, IsOnCourse, IsOpen}
use Rattle.split_machine.specs.Runs.{CanEnd, HasCome, IsAtEnd, IsCrashed, IsEndedBy, IsOneLess, IsReached, IsRunEnded, IsUntil, PaysForAll}

-- ---- from moment to moment

later_then : (first old new : WorldView) → IsLater first old → IsLater old new → IsLater first new
later_then first old new one two = record { geometry = two.geometry ∙ one.geometry; start = two.start ∙ one.start; scripts = two.scripts ∙ one.scripts }

module _ (first old new : WorldView) (out left : OutView) (start before : Supply) (was : IsReached first old out start before) where
  -- the lines go out
  pub opened_reached : IsOpen old out new left → IsReached first new left start before
  opened_reached opens = by opens.1 where
    by : ((new ≡ old) × (left ≡ out)) ⊎ IsBegunRound old out new left → IsReached first new left start before
    by (inl same) = subst (λ (o : OutView). IsReached first new o start before) (sym same.1) (subst (λ (v : WorldView). IsReached first v out start before) (sym same.0) was)
    by (inr begun) = record {
      later = later_then first old new was.later (record { geometry = ap (λ (v : WorldView). v.geometry) begun.opened.turn; start = ap (λ (v : WorldView). v.start) begun.opened.turn; scripts = ap (λ (v : WorldView). v.scripts) begun.opened.turn });
      between = begun.opened.between;
      on = λ some. was.on (λ none. some (begun.opened.jobs ∙ none));
      paid = begun.opened.paid start before was.paid;
    }

  -- an event
  pub goes_reached : (after : Supply) → GoesOn old out new left before after → IsReached first new left start after
  goes_reached after goes = record { later = later_then first old new was.later goes.later; between = goes.between; on = λ some. goes.on; paid = goes.paid start was.paid }

  -- the power goes
  pub lost_at_end : (after : Supply) (begins : Option Who) → is_on before ≡ true → LosesPower begins old out new left before after → IsAtEnd first new left start after End.PowerLost
  lost_at_end after begins on loses = (later_then first old new was.later loses.later, loses.can, loses.off, loses.paid start was.paid, λ given some. loses.acted start given on some was.paid)

-- as much is left to do as before the lines went out
pub opened_left : (old new : WorldView) (out left : OutView) → IsOpen old out new left → left_to_do new left ≡ left_to_do old out
opened_left old new out left opens = by opens.1 where
  by : ((new ≡ old) × (left ≡ out)) ⊎ IsBegunRound old out new left → left_to_do new left ≡ left_to_do old out
  by (inl same) = λ k. left_to_do (same.0 k) (same.1 k)
  by (inr begun) = begun.opened.same

-- or it was off before an event
pub off_at_end : (first w : WorldView) (out : OutView) (start now : Supply) → IsReached first w out start now → is_on now ≡ false → IsAtEnd first w out start now End.PowerLost
off_at_end first w out start now was off = (was.later, crashes_between w out was.between, off, paid_is_paid_off w out start now was.paid, λ given some. acted_between w out start now given was.between some was.paid)

-- ---- the cut

-- with a number left there is one more event before the cut
pub until_less : (cut left less : Option ℕ) (events : ℕ) → IsUntil cut left events → IsOneLess left less → IsUntil cut less (events + 1)
until_less None None None events until is = tt
until_less None None (Some n) events until is = (let never : Some n ≡ None = is in cc)
until_less None (Some k) less events until is = absurd until
until_less (Some c) None less events until is = absurd until
until_less (Some c) (Some k) None events until is = (let never : None ≡ Some is.0 = is.1 in cc)
until_less (Some c) (Some k) (Some m) events until is = by_number (same_Some m is.0 is.1) where
  by_number : m ≡ is.0 → c ≡ events + 1 + m
  by_number same = omega (arith, until, is.2, same)

pub until_same : (cut left : Option ℕ) (events : ℕ) → IsUntil cut left events → IsUntil cut left (events + 0)
until_same cut left events until = subst (IsUntil cut left) (omega arith) until

-- at the beginning
pub until_first : (cut : Option ℕ) → IsUntil cut cut 0
until_first None = tt
until_first (Some c) = omega arith

-- and behind all of them
pub until_none : (cut : Option ℕ) (events : ℕ) → IsUntil cut (Some 0) events → cut ≡ Some events
until_none None events until = absurd until
until_none (Some c) events until = ap (λ (n : ℕ). Some n) (omega (arith, until))

pub until_some : (cut left : Option ℕ) (events : ℕ) → left ≢ Some 0 → IsUntil cut left events → IsBelow events cut
until_some None left events some until = tt
until_some (Some c) None events some until = absurd until
until_some (Some c) (Some zero) events some until = absurd (some refl)
until_some (Some c) (Some (suc k)) events some until = omega (arith, until)

-- ---- at the beginning

module _ (w : WorldView) (first : IsFirst w) (now : Supply) where
  pub reached_first : IsReached w w nothing_out now now
  reached_first = record { later = record { geometry = refl; start = refl; scripts = refl }; between = (run_starts w first).between; on = λ some. absurd (some refl); paid = (run_starts w first).paid now }

pub course_first : (w : WorldView) → IsFirst w → (order : Order) (picker : Picker) → IsSoFar picker order none_picked → IsOnCourse w order 0 w nothing_out picker
course_first w first order picker far = record { course = at_start; leads = courses.Starts; beside = (run_starts w first).course; so_far = far }

-- ---- the end

-- what the end asks for
pub can_end : (first w : WorldView) (out : OutView) (before now : Supply) (end : End) → IsAtEnd first w out before now end → CanEnd w out end
can_end first w out before now End.All at = (at.0.between.usable, by out.log refl at.1) where
  by : (o : Option RoundView) → out.log ≡ o → IsSome o → MayUnmount w (lines_in out.log)
  by None is some = absurd (none_some RoundView some)
  by (Some log) is some = subst (λ (x : Option RoundView). MayUnmount w (lines_in x)) (sym is) (may_end w out log at.0.between is at.2).1
can_end first w out before now End.Cut at = crashes_between w out at.between
can_end first w out before now End.PowerLost at = at.1

-- what a crash asks for, of the lists that it takes
pub crash_may : (w : WorldView) (out : OutView) (lines : List Part) (jobs : List JobView) (filled : List FilledView) → CanCrash w out → lines ≡ lines_in out.log → jobs ≡ jobs_of out.jobs → filled ≡ filled_of out.jobs
    → MayCrash w lines jobs filled
crash_may w out lines jobs filled can one two three =
    subst (λ (xs : List Part). MayCrash w xs jobs filled) (sym one)
    (subst (λ (xs : List JobView). MayCrash w (lines_in out.log) xs filled) (sym two) (subst (MayCrash w (lines_in out.log) (jobs_of out.jobs)) (sym three) can.crash))

-- and what it keeps of them
pub crash_acted : (w : WorldView) (out : OutView) (lines : List Part) (filled : List FilledView) (pm : List Cell) → lines ≡ lines_in out.log → filled ≡ filled_of out.jobs → KeepsActed w lines filled pm
    → KeepsActed w (lines_in out.log) (filled_of out.jobs) pm
crash_acted w out lines filled pm one two keeps = subst (λ (xs : List Part). KeepsActed w xs (filled_of out.jobs) pm) one (subst (λ (xs : List FilledView). KeepsActed w lines xs pm) two keeps)

pub usable_at : (first w : WorldView) (out : OutView) (before now : Supply) (end : End) → IsAtEnd first w out before now end → w.usable ≡ true
usable_at first w out before now End.All at = at.0.between.usable
usable_at first w out before now End.Cut at = at.between.usable
usable_at first w out before now End.PowerLost at = at.1.usable

-- what the World counted of its acts
abbrev pub AreFewActs : WorldView → Type 0
AreFewActs v = v.acts ≤ 16 * (length v.history + 2)

-- What a run took, as the last World says it.
record IsTaken (v : WorldView) (before after : Supply) : Type 0 where
  pub given : after.given ≡ before.given
  pub later : before.taken ≤ after.taken
  pub afforded : (steps : ℕ) → after.taken ≡ before.taken + steps → Afforded steps v.history v.scripts v.start.mode

-- A stop is kept, whatever was left.
abbrev AreKept : WorldView → Supply → List Cell → List Unfinished → Type 0
AreKept v before pm unfinished = v.start.mode ≢ Mode.Posix → (given : ℕ) → before.given ≡ Some given → KeepsStop v pm v.history unfinished given

-- where the power went, or it was cut
taken_off : (v : WorldView) (before after : Supply) → AreFewActs v → IsPaidOff before after v → IsTaken v before after
taken_off v before after few paid = record {
  given = paid.any.given;
  later = paid.any.later;
  afforded = λ steps at. affords_lost v before after steps paid few at;
}

-- the calls that a test tells are some of those that are out
some_acted : (acts : JobOut → Bool) (pending : List JobOut) (last : List Unfinished) → AreSomeOf (map begun_by (filter acts pending) ++ last) (map begun_by pending ++ last)
some_acted acts [] last = all_of last
some_acted acts (p ∷ pending) last = by (acts p) (some_acted acts pending last) where
  by : (b : Bool) → AreSomeOf (map begun_by (filter acts pending) ++ last) (map begun_by pending ++ last)
      → AreSomeOf (map begun_by (cond b (p ∷ filter acts pending) (filter acts pending)) ++ last) (begun_by p ∷ (map begun_by pending ++ last))
  by true rest = inr (map begun_by (filter acts pending) ++ last, refl, rest)
  by false rest = inl rest

-- those that acted took a step each
kept_off : (v : WorldView) (out : OutView) (before after : Supply) (pm : List Cell) → PaysForAll before after v out → KeepsActed v (lines_in out.log) (filled_of out.jobs) pm → AreKept v before pm (calls_out v)
kept_off v out before after pm paid keeps mode given some =
    let pays = paid given some in record {
      acted = calls_acted v pays.acted.acts;
      some = some_acted pays.acted.acts v.pending v.unfinished;
      promise = keeps pays.acted.acts pays.acted.tells;
      changed = pays.tree.changed;
      each = pays.tree.each mode;
      most = (let most = pays.tree.most in let few = pays.acted.few in omega (arith, most, few));
    }

-- none is out
kept_none : (v : WorldView) (before now : Supply) (jobs : List Held) (pm : List Cell) (unfinished : List Unfinished) → IsPaid before now v jobs → unfinished ≡ [] → KeepsPromise v.geometry pm v.start v.history unfinished
    → AreKept v before pm unfinished
kept_none v before now jobs pm unfinished paid none promise mode given some =
    let kept = paid.tree given some in record {
      acted = unfinished;
      some = all_of unfinished;
      promise = promise;
      changed = kept.changed;
      each = kept.each mode;
      most = (let most = kept.most in omega (arith, most, ap (λ (cs : List Unfinished). length cs) none));
    }

-- where an unmount came behind all calls
taken_whole : (v : WorldView) (out : OutView) (before now after : Supply) → AreFewActs v → IsPaid before now v out.jobs → IsComplete v.scripts v.history → Steps (2 ^ 26) now after → IsTaken v before after
taken_whole v out before now after few paid complete steps = record {
  given = steps.given ∙ paid.any.given;
  later = (let one = paid.any.later in let then = steps.later in omega (arith, one, then));
  afforded = λ n at. affords_whole v out before now after n paid complete few steps at;
}

-- WHAT IS SAID OF THE LAST WORLD IS SO OF THE FIRST.
ran : (w v : WorldView) (before after : Supply) → IsLater w v → (pm : List Cell) (history : List Item) (unfinished : List Unfinished) → IsLeft v pm history unfinished → IsTaken v before after → AreKept v before pm unfinished
    → AreUnfinished v.scripts v.history unfinished → IsRan w before after pm history unfinished
ran w v before after same pm history unfinished left taken kept open_calls = record {
  legal = subst (λ (s : State). IsLegal s history) same.start left.legal;
  scripted = subst (λ (s : Scripts). Scripted s history) same.scripts left.scripted;
  open_calls = subst (λ (s : Scripts). AreUnfinished s history unfinished) same.scripts (subst (λ (items : List Item). AreUnfinished v.scripts items unfinished) (sym left.history_is) open_calls);
  size = left.size ∙ ap (λ (g : Geometry). 512 * g.blocks) same.geometry;
  home = left.home;
  promise = subst (λ (g : Geometry). KeepsPromise g pm w.start history unfinished) same.geometry (subst (λ (s : State). KeepsPromise v.geometry pm s history unfinished) same.start left.promise);
  given = taken.given;
  later = taken.later;
  afforded = λ steps at. subst (λ (s : State). Afforded steps history w.scripts s.mode) same.start
      (subst (λ (s : Scripts). Afforded steps history s v.start.mode) same.scripts (subst (λ (items : List Item). Afforded steps items v.scripts v.start.mode) (sym left.history_is) (taken.afforded steps at)));
  kept = λ mode given some. subst (λ (items : List Item). KeepsStop w pm items unfinished given) (sym left.history_is) (kept_first given (kept (λ posix. mode (sym (ap (λ (s : State). s.mode) same.start) ∙ posix)) given some));
} where
  kept_first : (given : ℕ) → KeepsStop v pm v.history unfinished given → KeepsStop w pm v.history unfinished given
  kept_first given is = record {
    acted = is.acted;
    some = is.some;
    promise = subst (λ (g : Geometry). KeepsPromise g pm w.start v.history is.acted) same.geometry (subst (λ (s : State). KeepsPromise v.geometry pm s v.history is.acted) same.start is.promise);
    changed = is.changed;
    each = subst (λ (s : State). ChangesTreeAtMost s v.history is.changed) same.start is.each;
    most = is.most;
  }

-- SO MANY EVENTS ARE SCHEDULED, and leave the history and the calls that are out.
abbrev scheduled : (first : WorldView) (order : Order) (events : ℕ) (v : WorldView) (out : OutView) (picker : Picker) → Between v out → IsOnCourse first order events v out picker → (history : List Item) (calls : List Unfinished)
    → history ≡ v.history → calls ≡ calls_out v → IsScheduled first order events history calls
scheduled first order events v out picker b on history calls history_is calls_is = record {
  last = v;
  out = out;
  course = on.course;
  leads = on.leads;
  history_is = history_is ∙ sym on.beside.history;
  calls_are = calls_is ∙ calls_are_out (setting_of first) on.course.machine v out b on.beside;
}

-- no call is out where no job is
none_out : (v : WorldView) (out : OutView) → Between v out → out.jobs ≡ [] → calls_out v ≡ []
none_out v out b none = ap (λ (ps : List JobOut). map begun_by ps ++ v.unfinished) (none_pending v out.jobs b.held none) ∙ b.none_unfinished

module _ (first : WorldView) (order : Order) (cut : Option ℕ) (v : WorldView) (out : OutView) (before now after : Supply) (few : AreFewActs v) where
  -- all calls returned: an unmount came behind them
  ended_all : IsAtEnd first v out before now End.All → HasCome first order cut v out before now End.All → Steps (2 ^ 26) now after → (ended : Ended) → IsEnded v after (Ok ended) → IsRunEnded first order cut before after ended
  ended_all at come steps (Ended.Whole pm history) is = record {
    ran = ran first v before after at.0.later pm history.items [] is.2 taken (kept_none v before now out.jobs pm [] at.0.paid refl promise) (AreUnfinished-none v.scripts v.history);
    complete = subst (λ (s : Scripts). IsComplete s history.items) at.0.later.scripts (subst (IsComplete v.scripts) (sym is.2.history_is) at.2);
    on = is.1;
    events = come.events;
    below = come.below;
    scheduled = scheduled first order come.events v out come.picker at.0.between come.course history.items [] is.2.history_is is.2.unfinished_is;
  } where
    taken : IsTaken v before after
    taken = taken_whole v out before now after few at.0.paid at.2 steps

    promise : KeepsPromise v.geometry pm v.start v.history []
    promise = subst (λ (items : List Item). KeepsPromise v.geometry pm v.start items []) is.2.history_is is.2.promise
  ended_all at come steps (Ended.Lost crashed) is = record {
    ran = ran first v before after at.0.later crashed.pm crashed.history.items crashed.unfinished.items left taken-2 (kept_none v before now out.jobs crashed.pm crashed.unfinished.items at.0.paid none promise-2)
        (subst (AreUnfinished v.scripts v.history) (sym is.2) (crashes_between v out at.0.between).open_calls);
    lost = inl (record {
      off = elim is.0 [
        | inl lost ↦ (let never : true ≡ false = sym lost ∙ at.0.between.awake in cc)
        | inr off ↦ off
      ];
      events = come.events;
      below = come.below;
      calls = crashed.unfinished.items;
      scheduled = scheduled first order come.events v out come.picker at.0.between come.course crashed.history.items crashed.unfinished.items left.history_is is.2;
      left = inl (is.2 ∙ calls_are_out (setting_of first) come.course.course.machine v out at.0.between come.course.beside);
    });
  } where
    taken-2 : IsTaken v before after
    taken-2 = taken_whole v out before now after few at.0.paid at.2 steps

    left : IsLeft v crashed.pm crashed.history.items crashed.unfinished.items
    left = subst (IsLeft v crashed.pm crashed.history.items) (sym is.2) is.1

    none : crashed.unfinished.items ≡ []
    none = is.2 ∙ none_out v out at.0.between (none_held v out at.0.between at.2)

    promise-2 : KeepsPromise v.geometry crashed.pm v.start v.history crashed.unfinished.items
    promise-2 = subst (λ (items : List Item). KeepsPromise v.geometry crashed.pm v.start items crashed.unfinished.items) left.history_is left.promise

  -- it was cut
  ended_cut : IsAtEnd first v out before now End.Cut → HasCome first order cut v out before now End.Cut → (ended : Ended) → IsCrashed v out now after ended → IsRunEnded first order cut before after ended
  ended_cut at come (Ended.Whole pm history) is = absurd is
  ended_cut at come (Ended.Lost crashed) is = record {
    ran = ran first v before after at.later crashed.pm crashed.history.items crashed.unfinished.items is.0 (subst (IsTaken v before) (sym is.1) (taken_off v before now few (paid_is_paid_off v out before now at.paid)))
        (subst (AreKept v before crashed.pm) (sym is.0.unfinished_is) (kept_off v out before now crashed.pm (λ given some. acted_between v out before now given at.between some at.paid) is.2)) (subst (AreUnfinished v.scripts v.history) (sym is.0.unfinished_is) (crashes_between v out at.between).open_calls);
    lost = inr (record {
      events = come.events;
      cut_is = come.cut_is;
      scheduled = scheduled first order come.events v out come.picker at.between come.course crashed.history.items crashed.unfinished.items is.0.history_is is.0.unfinished_is;
    });
  }

  -- the power went
  ended_lost : IsAtEnd first v out before now End.PowerLost → HasCome first order cut v out before now End.PowerLost → (ended : Ended) → IsCrashed v out now after ended → IsRunEnded first order cut before after ended
  ended_lost at come (Ended.Whole pm history) is = absurd is
  ended_lost at come (Ended.Lost crashed) is = record {
    ran = ran first v before after at.0 crashed.pm crashed.history.items crashed.unfinished.items is.0 (subst (IsTaken v before) (sym is.1) (taken_off v before now few at.3))
        (subst (AreKept v before crashed.pm) (sym is.0.unfinished_is) (kept_off v out before now crashed.pm at.4 is.2)) (subst (AreUnfinished v.scripts v.history) (sym is.0.unfinished_is) at.1.open_calls);
    lost = inl (record {
      off = subst (λ (p : Supply). is_on p ≡ false) (sym is.1) at.2;
      events = come.events;
      below = come.below;
      calls = calls_out come.was;
      scheduled = scheduled first order come.events come.was come.out_was come.picker come.between come.course crashed.history.items (calls_out come.was) (is.0.history_is ∙ come.history) refl;
      left = subst (AreLeft (setting_of first) order come.course.course) (sym is.0.unfinished_is) come.left;
    });
  }

  -- HOW A RUN ENDS
  pub run_ended : (end : End) → IsAtEnd first v out before now end → HasCome first order cut v out before now end → (ended : Ended) → IsEndedBy v out now after end ended → IsRunEnded first order cut before after ended
  run_ended End.All at come ended is = ended_all at come is.0 ended is.1
  run_ended End.Cut at come ended is = ended_cut at come ended is
  run_ended End.PowerLost at come ended is = ended_lost at come ended is

  pub run_ended_ok : (end : End) → IsAtEnd first v out before now end → HasCome first order cut v out before now end → (e : Result Ended NoMemory) → IfOk e (IsEndedBy v out now after end) → IfOk e (IsRunEnded first order cut before after)
  run_ended_ok end at come (Ok ended) is = run_ended end at come ended is
  run_ended_ok end at come (Err e) is = tt
