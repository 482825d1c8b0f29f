-- Each answer of the World is a move that the turn allows its holder.
use Rattle.std.specs.Prelude.{◌≡◌, ◌≢◌, ◌⊎◌, ◌<◌, ◌≤◌, ◌+◌, ◌-◌, ◌*◌, ◌^◌, ◌||◌, ◌==◌, ℕ, zero, suc, Bool, true, false, cond, nat_lt, List, [], ◌∷◌, ◌++◌, drop, filter, is_none, length, map, Option, Some, None, Ok, refl, if◌then◌else◌}
use Rattle.std.proofs.Common.{arith, ap, ◌∙◌, sym, subst, inl, inr, append-nil, length-append}
use Rattle.std.proofs.lemmas.Bool.Decides.{Decides-eqb, nat_tests}
use Rattle.round_laws.specs.world_view_laws.pm_model.Powers.{is_on, Steps, Supply}
use Rattle.round_laws.specs.world_view_laws.oplog_entry.declared.claims.Full.{Full}
use Rattle.round_laws.specs.world_view_laws.oplog_entry.layout_model.declared.lines.Draft.{Draft}
use Rattle.round_laws.specs.world_view_laws.in_flight.Costs.{most_of, most_of_call}
use Rattle.round_laws.specs.world_view_laws.list_laws.Filters.{filter-more}
use Rattle.round_laws.specs.world_view_laws.list_laws.Members.{In}
use Rattle.round_laws.specs.world_view_laws.posix_types.declared.call.Call.{Call}
use Rattle.round_laws.specs.world_view_laws.posix_types.declared.call.Mode.{Mode}
use Rattle.round_laws.specs.world_view_laws.posix_types.declared.call.Who.{Who}
use Rattle.round_laws.specs.world_view_laws.posix_types.declared.item.Item.{Item}
use Rattle.round_laws.specs.world_view_laws.posix_tables.Open.{same_who}
use Rattle.round_laws.specs.world_view_laws.posix_spec.Afforded.{is_posix, moves_data}
use Rattle.round_laws.specs.world_view_laws.posix_spec.Scripted.{IsSetUp, items_of}
use Rattle.round_laws.specs.world_view_laws.live_model.Jobs.{SpellCall, without}
use Rattle.round_laws.specs.world_view_laws.live_model.Standing.{JobOut}
use Rattle.round_laws.specs.world_view_laws.write_jobs.Jobs.{FilledView, JobView}
use Rattle.round_laws.specs.world_view_laws.declared.views.over.Over.{Over}
use Rattle.round_laws.specs.world_view_laws.Acts.{AddsOne, IsAct, jobs_of, shows}
use Rattle.round_laws.specs.world_view_laws.Begins.{BeginsJob, EndsRound, IsFilledOut, IsJobOut, IsPowerLost, IsRoundOver, item_of, LosesCall, Returns}
use Rattle.round_laws.specs.world_view_laws.Jobs.{Finishes, GivesUp, LosesFinish, over_by}
use Rattle.round_laws.specs.world_view_laws.Views.{HasNone, next_of, state_of, WorldView}
use Rattle.round_laws.proofs.world_view_laws_proofs.Ending.{left_of}
use Rattle.world_parts.specs.declared.outcomes.Begun.{Begun}
use Rattle.world_parts.specs.declared.outcomes.Finished.{Finished}
use Rattle.world_parts.specs.Answers.{IsBegun, IsFinished}
use Rattle.round_laws.proofs.Acting.{finish_acts, give_up_acts, job_acts, lose_acts, lost_call_acts, lost_end_acts, lost_finish_acts, nothing_acts, returns_act, round_end_acts}
use Rattle.thread_laws.specs.declared.works.Next.{Next}
use Rattle.thread_laws.specs.Hands.{Gone, HandView, mine_of, Nothing, Sees, Shown}
use Rattle.thread_laws.specs.Holders.{claims_grow, first_listed, paid_stays}
use Rattle.thread_laws.specs.Jobs.{begun_claimed, begun_new, begun_none, begun_same, In_jobs, jobs_In, none_of, not_less, less_more, same_self, some_there}
use Rattle.thread_laws.specs.Moves.{begun_after, begun_of, first_draft, Knows, MayLeave, next-begun, next-done, next-full, next-given, next-lap, next-last, next-mine, next-out, next-who, next_hand}
use Rattle.thread_laws.specs.MovesLaws.{AreFewActs, BegunMayLeave, CutKeepsJob, FilledIsHere, FilledKeepsJob, FinishedMayLeave, FoundMayLeave, GivenUpMayLeave, GoneMayBeFound, IdleMayBegin, JobIsHere, LostMayLeave, next_by, returned_by}
use Rattle.thread_laws.specs.Places.{drop_front, drop_more, drop_whole}
use Rattle.thread_laws.specs.Stands.{IsBounded, IsInRound, IsJobOf, IsStillShown, IsViewOf, listed}
use Rattle.thread_laws.specs.States.{HasFilledJob, HasJob, HasStopped, IsIdle, IsShownLost, IsShownSetUp, StopsAll}
use Rattle.thread_laws.specs.Works.{HasDropped, HasEnded, HasLooked, HasTold, IsLater, IsNext}
use Rattle.thread_laws.proofs.Working.{all_taken}

-- ---- what the World is asked

-- where no entry is listed, none of its jobs is out
none_listed : (who : Who) (w : WorldView) → map (λ (p : JobOut). p.draft) (jobs_of who w.pending) ≡ [] → HasNone w who
none_listed who w are p there own = by (jobs_of who w.pending) (In_jobs who w.pending p there own) are where
  by : (ps : List JobOut) → In p ps → map (λ (q : JobOut). q.draft) ps ≡ [] → ⊥
  by [] member none = member
  by (q ∷ ps) member none = cc

-- a set-up that was shown is done
set_up_by : (w : WorldView) (u who : Who) (shown : Shown) → IsShownSetUp who shown → IsStillShown (shows w u) shown → IsSetUp w.scripts w.history who
set_up_by w u Who.Setup shown was still = tt
set_up_by w u (Who.Thread n) Nothing was still = absurd was
set_up_by w u (Who.Thread n) (Sees last) was still =
    (Decides-eqb (length (items_of w.history Who.Setup)) (length w.scripts.setup)).0 (still.set_up was)
set_up_by w u (Who.Thread n) Gone was still = absurd was

-- and is shown again
shown_by : (w : WorldView) (u who : Who) → IsSetUp w.scripts w.history who → IsShownSetUp who (Sees (shows w u))
shown_by w u Who.Setup done = tt
shown_by w u (Who.Thread n) done = (Decides-eqb (length (items_of w.history Who.Setup)) (length w.scripts.setup)).1 done

pub idle_may_begin : IdleMayBegin
idle_may_begin w power v who knows idle = (
  (λ p there own. none_listed v.who w (knows.view.out ∙ ap listed idle.none_out) p there (own ∙ sym idle.who_is)),
  set_up_by w v.who who v.last idle.set_up knows.view.shown,
)

-- the jobs that were out when it began are out
kept_job : (w : WorldView) (power : Supply) (v : HandView) (first : WorldView) → Knows w power v → v.begun ≡ Some first → IsJobOf w v.who (Some first)
kept_job w power v first knows is = subst (IsJobOf w v.who) is knows.view.job

pub job_is_here : JobIsHere
job_is_here w power v job knows has = (has.out, has.who, (kept_job w power v has.then knows has.begun).2.0 has.out job has.who has.is)

pub filled_is_here : FilledIsHere
filled_is_here w power v job knows has = (has.out, has.who, (kept_job w power v has.then knows has.begun).2.1 has.out job has.who has.is)

pub filled_keeps_job : FilledKeepsJob
filled_keeps_job v job filled power has fills = record {
  then = has.then;
  out = has.out;
  begun = has.begun;
  who = has.who;
  is = record {
    there = has.is.there;
    who = fills.same.who_is ∙ has.is.who;
    draft = fills.same.draft_is ∙ has.is.draft;
    blocks = fills.same.blocks_are ∙ has.is.blocks;
    words = subst (SpellCall (state_of has.then) has.out) (sym fills.same.words_are) has.is.words;
    lent = has.is.lent;
  };
  entry = has.entry ∙ ap Some (sym fills.same.draft_is);
  set_up = has.set_up;
}

pub cut_keeps_job : CutKeepsJob
cut_keeps_job v job cut power has is = record {
  then = has.then;
  out = has.out;
  begun = has.begun;
  who = has.who;
  is = record {
    there = has.is.there;
    who = is.same.who_is ∙ has.is.who;
    draft = is.same.draft_is ∙ has.is.draft;
    blocks = is.same.blocks_are ∙ has.is.blocks;
    words = subst (SpellCall (state_of has.then) has.out) (sym is.same.words_are) has.is.words;
    lent = has.is.lent;
  };
  entry = has.entry ∙ ap Some (sym is.same.draft_is);
  set_up = has.set_up;
}

-- ---- the bound of a loss

-- a power that lasts, or was lost before, keeps it
keeps_bound : (who : Who) (old new : WorldView) (before after : Supply) → IsAct who old new before after → new.lost ≡ old.lost → IsBounded old before → IsBounded new after
keeps_bound who old new before after act same bound lost =
    let was = bound (sym same ∙ lost) in
    (was.0, act.steps.given ∙ was.1, omega (arith, was.2, longer act.item)) where
      longer : AddsOne who old new → length old.history ≤ length new.history
      longer (inl is) = omega (arith, ap length is)
      longer (inr (call, next, more)) = omega (arith, ap length more, length-append old.history (item_of old who call ∷ []))

-- and one that is off has taken all its steps
loss_bound : (who : Who) (old new : WorldView) (before after : Supply) → IsAct who old new before after → IsInRound old before → AreFewActs new → is_on after ≡ false → IsBounded new after
loss_bound who old new before after act round few off lost =
    let all = all_taken after off in
    (all.0, all.1, omega (arith, all.2, few, paid_stays who old new before after act round))

-- ---- the items of its caller

by_history : (who : Who) (old new : WorldView) (items : List Item) → new.settled ≡ old.settled → new.history ≡ items → mine_of new who ≡ items_of (drop old.settled items) who
by_history who old new items settled is =
    ap (λ (n : ℕ). items_of (drop n new.history) who) settled ∙ ap (λ (xs : List Item). items_of (drop old.settled xs) who) is

none_returned : (v : HandView) (old new : WorldView) (before : Supply) → Knows old before v → new.settled ≡ old.settled → new.history ≡ old.history → mine_of new v.who ≡ v.mine ++ []
none_returned v old new before knows settled same = by_history v.who old new old.history settled same ∙ (knows.view.mine ∙ sym (append-nil v.mine))

own_returned : (v : HandView) (old new : WorldView) (before : Supply) → Knows old before v → new.settled ≡ old.settled → (item : Item) → item.who ≡ v.who
    → new.history ≡ old.history ++ item ∷ [] → mine_of new v.who ≡ v.mine ++ item ∷ []
own_returned v old new before knows settled item own more =
    by_history v.who old new (old.history ++ item ∷ []) settled more
    ∙ (ap (λ (items : List Item). items_of items v.who) (drop_more old.settled old.history item knows.world.settled)
    ∙ (filter-more (λ (i : Item). same_who i.who v.who) (drop old.settled old.history) item (ap (λ (w : Who). same_who w v.who) own ∙ same_self v.who)
    ∙ ap (λ xs. xs ++ item ∷ []) knows.view.mine))

-- ---- the view behind an act

module _ (v : HandView) (old new : WorldView) (before after : Supply) (knows : Knows old before v) (act : IsAct v.who old new before after) where
  abbrev next : HandView
  next = next_hand v old new

  mine_grows : (more : List Item) × (mine_of new v.who ≡ v.mine ++ more)
  mine_grows = elim act.item [
    | inl same ↦ ([], none_returned v old new before knows act.lap.settled same)
    | inr (call, is, more) ↦ (item_of old v.who call ∷ [], own_returned v old new before knows act.lap.settled (item_of old v.who call) refl more)
  ]

  act_later : IsLater v next
  act_later = record {
    who = next-who v old new;
    lap = next-lap v old new;
    given = next-given v old new;
    mine = (mine_grows.0, next-mine v old new ∙ mine_grows.1);
    done = (drop (length old.claims) new.claims, next-done v old new);
    full = λ full. next-full v old new ∙ ap (λ b. b || nat_lt old.given_up new.given_up) full;
  }

  same_done : new.claims ≡ old.claims → next.done ≡ v.done
  same_done same =
      next-done v old new ∙ (ap (λ xs. v.done ++ drop (length old.claims) xs) same ∙ (ap (λ xs. v.done ++ xs) (drop_whole old.claims) ∙ append-nil v.done))

  same_full : new.given_up ≡ old.given_up → next.full ≡ v.full
  same_full same = next-full v old new ∙ (ap (λ b. v.full || b) (ap (λ n. nat_lt old.given_up n) same ∙ not_less old.given_up) ∙ or_false v.full) where
    or_false : (b : Bool) → (b || false) ≡ b
    or_false true = refl
    or_false false = refl

  -- with no job of its own
  none_out : HasNone new v.who → next.out ≡ None
  none_out none = next-out v old new ∙ ap first_draft (none_of v.who new.pending none)

  none_begun : HasNone new v.who → next.begun ≡ None
  none_begun none =
      next-begun v old new
      ∙ begun_none (jobs_of v.who old.pending) (jobs_of v.who new.pending) (nat_lt (length old.claims) (length new.claims)) v.begun new (none_of v.who new.pending none)

  shown_done : IsSetUp old.scripts old.history v.who → IsShownSetUp v.who next.last
  shown_done done = subst (IsShownSetUp v.who) (sym (next-last v old new)) (shown_by new v.who v.who (act.set_up v.who done))

  is_idle : HasNone new v.who → IsSetUp old.scripts old.history v.who → IsIdle next.who next
  is_idle none done = record {
    who_is = refl;
    none_out = none_out none;
    none_begun = none_begun none;
    set_up = subst (λ (w : Who). IsShownSetUp w next.last) (sym (next-who v old new)) (shown_done done);
  }

  stops : HasStopped (Sees (shows new v.who)) → HasStopped next.last
  stops is = subst HasStopped (sym (next-last v old new)) is

-- ---- a World left as it was found

found_act : (v : HandView) (w : WorldView) (power : Supply) → Knows w power v → MayLeave v w w power power
found_act v w power knows = record { act = nothing_acts v.who w power; bound = knows.world.bound }

pub found_may_leave : FoundMayLeave
found_may_leave v w power knows out begun =
    let act = nothing_acts v.who w power in
    let none = none_listed v.who w (knows.view.out ∙ ap listed out) in
    (found_act v w power knows, act_later v w w power power knows act, none_out v w w power power knows act none, none_begun v w w power power knows act none, same_done v w w power power knows act refl, same_full v w w power power knows act refl)

found_looked : (v : HandView) (w : WorldView) (power : Supply) (on : Next) → Knows w power v → IsNext (next_hand v w w) on → HasLooked v (next_hand v w w) on
found_looked v w power on knows is =
    let act = nothing_acts v.who w power in
    record { later = act_later v w w power power knows act; done = same_done v w w power power knows act refl; full = same_full v w w power power knows act refl; next_is = is }

abbrev Looks : HandView → WorldView → WorldView → Supply → Supply → Next → Type 0
Looks v old new before after next = MayLeave v old new before after × HasLooked v (next_hand v old new) next

by_found : (v : HandView) (old new : WorldView) (before after : Supply) (next : Next) → new ≡ old → after ≡ before → Looks v old old before before next → Looks v old new before after next
by_found v old new before after next same spared is =
    subst (λ (p : Supply). Looks v old new before p next) (sym spared) (subst (λ (w : WorldView). Looks v old w before before next) (sym same) is)

-- it waits
waits_found : (v : HandView) (w : WorldView) (power : Supply) → Knows w power v → IsIdle v.who v → Looks v w w power power Next.Wait
waits_found v w power knows idle =
    let may = idle_may_begin w power v v.who knows idle in
    (found_act v w power knows, found_looked v w power Next.Wait knows (is_idle v w w power power knows (nothing_acts v.who w power) may.0 may.1))

-- it stops
stops_found : (v : HandView) (w : WorldView) (power : Supply) → Knows w power v → IsIdle v.who v → HasStopped (Sees (shows w v.who)) → Looks v w w power power Next.Over
stops_found v w power knows idle is =
    let act = nothing_acts v.who w power in
    let none = (idle_may_begin w power v v.who knows idle).0 in
    (found_act v w power knows, found_looked v w power Next.Over knows (none_begun v w w power power knows act none, none_out v w w power power knows act none, stops v w w power power knows act is))

-- ---- a call that began

small : (mode : Mode) (o : Option Call) → most_of mode o ≤ 2 ^ 26
small mode None = omega arith
small mode (Some call) = by (is_posix mode || moves_data call) where
  by : (b : Bool) → (if b then 2 ^ 26 else 512) ≤ 2 ^ 26
  by true = omega arith
  by false = omega arith

enough_steps : (mode : Mode) (o : Option Call) (before after : Supply) → Steps (most_of mode o) before after → Steps (2 ^ 26) before after
enough_steps mode o before after steps = record { given = steps.given; on_before = steps.on_before; later = steps.later; bound = omega (arith, steps.bound, small mode o) }

module _ (v : HandView) (old new : WorldView) (before after : Supply) (knows : Knows old before v) (idle : IsIdle v.who v) (steps : Steps (most_of old.start.mode (next_of old v.who)) before after)
    (few : AreFewActs new) where
  none : HasNone old v.who
  none = (idle_may_begin old before v v.who knows idle).0

  done : IsSetUp old.scripts old.history v.who
  done = (idle_may_begin old before v v.who knows idle).1

  whole : Steps (2 ^ 26) before after
  whole = enough_steps old.start.mode (next_of old v.who) before after steps

  same_none : new.pending ≡ old.pending → HasNone new v.who
  same_none same = subst (λ (ps : List JobOut). (p : JobOut) → In p ps → p.who ≢ v.who) (sym same) none

  -- nothing was claimed, and none given up
  looked : (on : Next) (act : IsAct v.who old new before after) → new.claims ≡ old.claims → new.given_up ≡ old.given_up → IsNext (next_hand v old new) on
      → HasLooked v (next_hand v old new) on
  looked on act claims given is = record {
    later = act_later v old new before after knows act;
    done = same_done v old new before after knows act claims;
    full = same_full v old new before after knows act given;
    next_is = is;
  }

  returned : Returns v.who old new before after → Looks v old new before after Next.On
  returned is =
      let act = returns_act v.who old new before after none whole is in (
        record { act = act; bound = keeps_bound v.who old new before after act (ap (λ (w : WorldView). w.lost) is.new_is) knows.world.bound },
        looked Next.On act (ap (λ (w : WorldView). w.claims) is.new_is) (ap (λ (w : WorldView). w.given_up) is.new_is)
            (is_idle v old new before after knows act (same_none (ap (λ (w : WorldView). w.pending) is.new_is)) done),
      )

  has_job : (job : JobView) (act : IsAct v.who old new before after) → BeginsJob v.who old new after job → HasJob (next_hand v old new) job
  has_job job act is =
      let one : jobs_of v.who new.pending ≡ is.pending ∷ [] =
      ap (λ (w : WorldView). jobs_of v.who w.pending) is.new_is
      ∙ (filter-more (λ (p : JobOut). same_who p.who v.who) old.pending is.pending (ap (λ (w : Who). same_who w v.who) is.who_is ∙ same_self v.who)
      ∙ ap (λ ps. ps ++ is.pending ∷ []) (none_of v.who old.pending none))
      in
      let some : jobs_of v.who new.pending ≢ [] = (λ e. (let never : is.pending ∷ [] ≡ [] = sym one ∙ e in cc)) in
      record {
        then = new;
        out = is.pending;
        begun = next-begun v old new
            ∙ begun_new (jobs_of v.who old.pending) (jobs_of v.who new.pending) (nat_lt (length old.claims) (length new.claims)) v.begun new (none_of v.who old.pending none) some;
        who = is.who_is ∙ sym (next-who v old new);
        is = is.out;
        entry = next-out v old new ∙ (ap first_draft one ∙ ap Some (sym is.out.draft));
        set_up = subst (λ (w : Who). IsShownSetUp w (next_hand v old new).last) (sym (next-who v old new)) (shown_done v old new before after knows act done);
      }

  began : (job : JobView) → BeginsJob v.who old new after job → Looks v old new before after (Next.Job job)
  began job is =
      let act = job_acts v.who old new before after job none whole is in (
        record { act = act; bound = keeps_bound v.who old new before after act (ap (λ (w : WorldView). w.lost) is.new_is) knows.world.bound },
        looked (Next.Job job) act (ap (λ (w : WorldView). w.claims) is.new_is) (ap (λ (w : WorldView). w.given_up) is.new_is) (has_job job act is, is.fresh),
      )

  -- it stops, and its caller has no job
  stopped : (act : IsAct v.who old new before after) → HasNone new v.who → HasStopped (Sees (shows new v.who)) → IsNext (next_hand v old new) Next.Over
  stopped act left is = (none_begun v old new before after knows act left, none_out v old new before after knows act left, stops v old new before after knows act is)

  round_ended : (need left : ℕ) → EndsRound v.who old new after need left → Looks v old new before after Next.Over
  round_ended need left is =
      let act = round_end_acts v.who old new before after need left none whole is in
      let over : new.over ≡ Some (Over.Space need left) = ap (λ (w : WorldView). w.over) is.new_is in (
        record { act = act; bound = keeps_bound v.who old new before after act (ap (λ (w : WorldView). w.lost) is.new_is) knows.world.bound },
        looked Next.Over act (ap (λ (w : WorldView). w.claims) is.new_is) (ap (λ (w : WorldView). w.given_up) is.new_is)
            (stopped act (same_none (ap (λ (w : WorldView). w.pending) is.new_is)) (inr (inl (λ e. (let never : Some (Over.Space need left) ≡ None = sym over ∙ e in cc))))),
      )

  was_over : (over : Over) → old.over ≡ Some over → new ≡ old → after ≡ before → Looks v old new before after Next.Over
  was_over over is same spared =
      by_found v old new before after Next.Over same spared (stops_found v old before knows idle (inr (inl (λ e. (let never : Some over ≡ None = sym is ∙ e in cc)))))

  round_over : (over : Over) → IsRoundOver v.who old new before after over → Looks v old new before after Next.Over
  round_over (Over.Lap full) is = was_over (Over.Lap full) is.0 is.3 is.4
  round_over (Over.Space need left) (inl is) = was_over (Over.Space need left) is.0 is.3 is.4
  round_over (Over.Space need left) (inr is) = round_ended need left is

  lost_call : LosesCall v.who old new after → Looks v old new before after Next.Over
  lost_call is =
      let act = lost_call_acts v.who old new before after none whole is in (
        record { act = act; bound = loss_bound v.who old new before after act knows.world few is.off },
        looked Next.Over act (ap (λ (w : WorldView). w.claims) is.new_is) (ap (λ (w : WorldView). w.given_up) is.new_is)
            (stopped act (same_none (ap (λ (w : WorldView). w.pending) is.new_is)) (inr (inr (ap (λ (w : WorldView). w.lost) is.new_is)))),
      )

  lost_end : new ≡ record old { acts = old.acts + 1; lost = true } → after ≡ before → is_on after ≡ false → Looks v old new before after Next.Over
  lost_end is spared off =
      let act : IsAct v.who old new before after = subst (IsAct v.who old new before) (sym spared) (lost_end_acts v.who old new before none is) in (
        record { act = act; bound = loss_bound v.who old new before after act knows.world few off },
        looked Next.Over act (ap (λ (w : WorldView). w.claims) is) (ap (λ (w : WorldView). w.given_up) is)
            (stopped act (same_none (ap (λ (w : WorldView). w.pending) is)) (inr (inr (ap (λ (w : WorldView). w.lost) is)))),
      )

  power_lost : IsPowerLost v.who old new before after → Looks v old new before after Next.Over
  power_lost (inl (lost, same, spared)) = by_found v old new before after Next.Over same spared (stops_found v old before knows idle (inr (inr lost)))
  power_lost (inr (inl (loses, may))) = lost_call loses
  power_lost (inr (inr (awake, end, is, spared, off))) = lost_end is spared off

  begun_moves : (begun : Begun) → IsBegun v.who old new before after (Ok begun) → Looks v old new before after (next_by begun)
  begun_moves Begun.Done is = returned is
  begun_moves (Begun.Job job) is = began job is
  begun_moves (Begun.Busy ino holder) is = by_found v old new before after Next.Wait is.same is.spared (waits_found v old before knows idle)
  begun_moves (Begun.RoundOver over) is = round_over over is
  begun_moves Begun.PowerLost is = power_lost is
  begun_moves Begun.ScriptEnd (awake, end, same, spared, on) =
      by_found v old new before after Next.Over same spared (stops_found v old before knows idle (inl (ap (λ (o : Option Call). is_none o) end)))

pub begun_may_leave : BegunMayLeave
begun_may_leave v old new before after begun knows idle steps few is = begun_moves v old new before after knows idle steps few begun is

-- ---- a job that was given back

-- of a job that is out, its caller has some
some_jobs : (who : Who) (w : WorldView) (p : JobOut) → In p w.pending → p.who ≡ who → jobs_of who w.pending ≢ []
some_jobs who w p there own = some_there (jobs_of who w.pending) p (In_jobs who w.pending p there own)

-- the claim of its job is what it gave to `finish`
one_done : (v : HandView) (old new : WorldView) (slot : ℕ) (d e : Draft) → new.claims ≡ old.claims ++ (slot, d) ∷ [] → e ≡ d → (next_hand v old new).done ≡ v.done ++ (slot, e) ∷ []
one_done v old new slot d e more same =
    next-done v old new
    ∙ (ap (λ xs. v.done ++ drop (length old.claims) xs) more ∙ (ap (λ xs. v.done ++ xs) (drop_front old.claims ((slot, d) ∷ [])) ∙ ap (λ (x : Draft). v.done ++ (slot, x) ∷ []) (sym same)))

module _ (v : HandView) (old new : WorldView) (before after : Supply) (job : FilledView) (slot : ℕ) (knows : Knows old before v) (has : HasFilledJob v job) where
  abbrev p : JobOut
  p = (filled_is_here old before v job knows has).0

  own : p.who ≡ v.who
  own = (filled_is_here old before v job knows has).1

  out : IsFilledOut old p job
  out = (filled_is_here old before v job knows has).2

  ready : IsSetUp old.scripts old.history v.who
  ready = set_up_by old v.who v.who v.last has.set_up knows.view.shown

  as_own : IsAct p.who old new before after → IsAct v.who old new before after
  as_own act = subst (λ (w : Who). IsAct w old new before after) own act

  -- it returned
  finished : Steps (2 ^ 26) before after → Finishes slot p old new after → MayLeave v old new before after × HasEnded v (next_hand v old new) slot job.draft true
  finished steps is =
      let act = as_own (finish_acts slot p job old new before after steps out is) in
      let gone : new.pending ≡ without p.who old.pending = ap (λ (w : WorldView). w.pending) is.new_is in
      let left : HasNone new v.who = (λ q at mine. (left_of p.who old.pending q (subst (In q) gone at)).1 (mine ∙ sym own)) in
      let mine = own_returned v old new before knows act.lap.settled (item_of old p.who p.call) own (ap (λ (w : WorldView). w.history) is.new_is) in (
        record { act = act; bound = keeps_bound v.who old new before after act (ap (λ (w : WorldView). w.lost) is.new_is) knows.world.bound },
        record {
          later = act_later v old new before after knows act;
          full = same_full v old new before after knows act (ap (λ (w : WorldView). w.given_up) is.new_is);
          on = λ on. (
            one_done v old new slot p.draft job.draft (ap (λ (w : WorldView). w.claims) is.new_is) out.draft,
            ap length (next-mine v old new ∙ mine) ∙ length-append v.mine (item_of old p.who p.call ∷ []),
            is_idle v old new before after knows act left ready,
          );
          off = λ off. (let never : true ≡ false = off in cc);
        },
      )

  -- its power went
  unfinished : Steps (2 ^ 26) before after → (old.lost ≡ true → after ≡ before) → AreFewActs new → LosesFinish slot p old new after
      → MayLeave v old new before after × HasEnded v (next_hand v old new) slot job.draft false
  unfinished steps spared few is =
      let act = as_own (lost_finish_acts slot p job old new before after steps spared out is) in
      let lost : new.lost ≡ true = ap (λ (w : WorldView). w.lost) is.new_is in
      let pending : new.pending ≡ old.pending = ap (λ (w : WorldView). w.pending) is.new_is in
      let claims : new.claims ≡ old.claims ++ (slot, p.draft) ∷ [] = ap (λ (w : WorldView). w.claims) is.new_is in
      let yes : nat_lt (length old.claims) (length new.claims) ≡ true =
      less_more (length old.claims) (length new.claims) (omega (arith, ap length claims, length-append old.claims ((slot, p.draft) ∷ [])))
      in (
        record {
          act = act;
          bound = elim is.off [
            | inl was ↦ keeps_bound v.who old new before after act (lost ∙ sym was) knows.world.bound
            | inr off ↦ loss_bound v.who old new before after act knows.world few off
          ];
        },
        record {
          later = act_later v old new before after knows act;
          full = same_full v old new before after knows act (ap (λ (w : WorldView). w.given_up) is.new_is);
          on = λ on. (let never : false ≡ true = on in cc);
          off = λ off. inr (
            one_done v old new slot p.draft job.draft claims out.draft,
            next-begun v old new
                ∙ (ap (λ (c : Bool). begun_after (jobs_of v.who old.pending) (jobs_of v.who new.pending) c v.begun new) yes
                ∙ begun_claimed (jobs_of v.who old.pending) (jobs_of v.who new.pending) v.begun new (some_jobs v.who old p out.there own)),
            next-out v old new
                ∙ (ap (λ ps. first_draft (jobs_of v.who ps)) pending ∙ (first_listed (jobs_of v.who old.pending) v.out knows.view.out ∙ has.entry)),
            subst IsShownLost (sym (next-last v old new)) lost,
          );
        },
      )

  finished_moves : (finished : Finished) → Steps (2 ^ 26) before after → (old.lost ≡ true → after ≡ before) → AreFewActs new → IsFinished job slot old new after finished
      → MayLeave v old new before after × HasEnded v (next_hand v old new) slot job.draft (returned_by finished)
  finished_moves Finished.Done steps spared few is = finished steps (is p out)
  finished_moves Finished.PowerLost steps spared few is = unfinished steps spared few (is p out)

pub finished_may_leave : FinishedMayLeave
finished_may_leave v old new before after job slot finished knows has steps spared few is =
    finished_moves v old new before after job slot knows has finished steps spared few is

-- ---- a job that was given up

pub given_up_may_leave : GivenUpMayLeave
given_up_may_leave v old new power job full knows has each =
    let here = filled_is_here old power v job knows has in
    let q : JobOut = here.0 in
    let is : GivesUp full q old new = each q here.2 in
    let act : IsAct v.who old new power power = subst (λ (w : Who). IsAct w old new power power) here.1 (give_up_acts full q job old new power here.2 is) in
    let gone : new.pending ≡ without q.who old.pending = ap (λ (w : WorldView). w.pending) is.new_is in
    let left : HasNone new v.who = (λ r at mine. (left_of q.who old.pending r (subst (In r) gone at)).1 (mine ∙ sym here.1)) in
    let over : new.over ≡ Some (over_by old.over full) = ap (λ (w : WorldView). w.over) is.new_is in
    let more : new.given_up ≡ old.given_up + 1 = ap (λ (w : WorldView). w.given_up) is.new_is in (
      record { act = act; bound = keeps_bound v.who old new power power act (ap (λ (w : WorldView). w.lost) is.new_is) knows.world.bound },
      record {
        later = act_later v old new power power knows act;
        done = same_done v old new power power knows act (ap (λ (w : WorldView). w.claims) is.new_is);
        stopped = stops v old new power power knows act (inr (inl (λ e. (let never : Some (over_by old.over full) ≡ None = sym over ∙ e in cc))));
        here = λ there. (
          none_begun v old new power power knows act left,
          none_out v old new power power knows act left,
          next-full v old new ∙ (ap (λ b. v.full || b) (less_more old.given_up new.given_up (omega (arith, more))) ∙ or_true v.full),
        );
      },
    ) where
      or_true : (b : Bool) → (b || true) ≡ true
      or_true true = refl
      or_true false = refl

-- ---- a loss that is told

-- no more items of its caller than of all
fewer : (who : Who) (items : List Item) → length (items_of items who) ≤ length items
fewer who [] = omega arith
fewer who (x ∷ items) = by (same_who x.who who) (fewer who items)
  where
    by : (b : Bool) → length (items_of items who) ≤ length items → length (cond b (x ∷ items_of items who) (items_of items who)) ≤ length (x ∷ items)
    by true less = omega (arith, less)
    by false less = omega (arith, less)

dropped : (n : ℕ) (items : List Item) → length (drop n items) ≤ length items
dropped zero items = omega arith
dropped (suc n) [] = omega arith
dropped (suc n) (x ∷ items) = omega (arith, dropped n items)

few_mine : (w : WorldView) (who : Who) → length (mine_of w who) ≤ length w.history
few_mine w who = omega (arith, fewer who (drop w.settled w.history), dropped w.settled w.history)

-- its job is in hand still
begun_stays : (v : HandView) (w : WorldView) (power : Supply) (o : Option WorldView) → v.begun ≡ o → o ≢ None → Knows w power v
    → begun_of v w (record w { lost = true }) ≡ v.begun
begun_stays v w power None is some knows = absurd (some refl)
begun_stays v w power (Some first) is some knows =
    let there = (kept_job w power v first knows is).1 in
    ap (λ (c : Bool). begun_after (jobs_of v.who w.pending) (jobs_of v.who w.pending) c v.begun (record w { lost = true })) (not_less (length w.claims))
    ∙ begun_same (jobs_of v.who w.pending) (jobs_of v.who w.pending) v.begun (record w { lost = true }) there there

told_is : (v : HandView) (w : WorldView) (power : Supply) → Knows w power v → v.begun ≢ None
    → next_hand v w (record w { lost = true }) ≡ record v { last = (next_hand v w (record w { lost = true })).last }
unfolding next_hand
told_is v w power knows some i = record v {
  mine = knows.view.mine i;
  out = first_listed (jobs_of v.who w.pending) v.out knows.view.out i;
  begun = begun_stays v w power v.begun refl some knows i;
  done = (ap (λ xs. v.done ++ xs) (drop_whole w.claims) ∙ append-nil v.done) i;
  full = (ap (λ b. v.full || b) (not_less w.given_up) ∙ or_false v.full) i;
  last = Sees (shows (record w { lost = true }) v.who);
} where
  or_false : (b : Bool) → (b || false) ≡ b
  or_false true = refl
  or_false false = refl

pub lost_may_leave : LostMayLeave
lost_may_leave v w power steps knows some given few =
    let act = lose_acts v.who w power in
    let new : WorldView = record w { lost = true } in (
      record { act = act; bound = λ lost. (steps, knows.view.given ∙ given, omega (arith, few, ap length knows.view.mine, few_mine w v.who)) },
      (
        subst IsShownLost (sym (next-last v w new)) refl,
        λ was. shown_done v w new power power knows act (set_up_by w v.who v.who v.last was knows.view.shown),
        told_is v w power knows some,
      ),
    )

-- ---- a World that is gone

pub gone_may_be_found : GoneMayBeFound
gone_may_be_found v slot d =
    let later : IsLater v (record v { last = Gone }) =
    record { who = refl; lap = refl; given = refl; mine = ([], sym (append-nil v.mine)); done = ([], sym (append-nil v.done)); full = λ f. f }
    in (
      λ begun out. record { later = later; done = refl; full = refl; next_is = (begun, out, tt) },
      record { later = later; full = refl; on = λ on. (let never : false ≡ true = on in cc); off = λ off. inl (refl, refl) },
      record { later = later; done = refl; stopped = tt; here = λ there. absurd (there refl) },
      refl,
    )
