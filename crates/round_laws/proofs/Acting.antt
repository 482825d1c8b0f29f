-- Each call of a World within a round is an act of its caller.
use Rattle.std.specs.Prelude.{◌≡◌, ◌≢◌, ◌+◌, ◌-◌, ◌*◌, ◌^◌, not, ℕ, Bool, true, false, cond, List, [], ◌∷◌, ◌++◌, length, Option, Some, None, refl}
use Rattle.std.proofs.Common.{arith, ap, ◌∙◌, sym, subst, inl, inr, length-append}
use Rattle.std.proofs.lemmas.Bool.{cases_Bool}
use Rattle.world_view_laws.specs.eof_laws.pm_model.Powers.{Steps, Supply}
use Rattle.world_view_laws.specs.eof_laws.list_laws.Filters.{filter-In, filter-more, filter-same, In-filter}
use Rattle.world_view_laws.specs.eof_laws.list_laws.Members.{In}
use Rattle.world_view_laws.specs.eof_laws.layout_model.declared.lines.Draft.{Draft}
use Rattle.world_view_laws.specs.eof_laws.posix_types.declared.call.Who.{Who}
use Rattle.world_view_laws.specs.in_flight.Histories.{set_up_stays}
use Rattle.world_view_laws.specs.live_model.Jobs.{without}
use Rattle.world_view_laws.specs.live_model.Standing.{JobOut}
use Rattle.world_view_laws.proofs.Ending.{left_of, no_both}
use Rattle.world_view_laws.proofs.in_flight_proofs.Taking.{other_who}
use Rattle.world_view_laws.proofs.in_flight_proofs.CountsJobs.{same_who-refl}
use Rattle.world_view_laws.specs.posix_tables.Open.{same_who}
use Rattle.world_view_laws.specs.write_end.Blocks.{AreBlocksHome}
use Rattle.world_view_laws.specs.declared.views.over.Over.{Over}
use Rattle.world_view_laws.specs.Acts.{HomesOf, IsAct, jobs_of, KeepsHomes, KeepsOwn, StaysOf}
use Rattle.world_view_laws.specs.Begins.{item_of, OthersStay}
use Rattle.world_view_laws.specs.Jobs.{over_by}
use Rattle.world_view_laws.specs.Views.{Disk, HasNone, WorldView}
use Rattle.round_laws.specs.ActsLaws.{FinishActs, GiveUpActs, JobActs, LoseActs, LostCallActs, LostEndActs, LostFinishActs, NothingActs, ReturnsActs, RoundEndActs}

-- ---- steps

none_taken : (n : ℕ) (power : Supply) → Steps n power power
none_taken n power = record { given = refl; on_before = λ on. on; later = omega arith; bound = omega arith }

one_act : (acts : ℕ) (before after : Supply) → Steps (2 ^ 26) before after → Steps (2 ^ 26 * (acts + 1 - acts)) before after
one_act acts before after steps = let one : 1 ≡ acts + 1 - acts = omega arith in subst (λ n. Steps (2 ^ 26 * n) before after) one steps

-- ---- what stays

-- a job of the caller is none of the others'
pushed_own : (who : Who) (pending : List JobOut) (p : JobOut) → p.who ≡ who → without who (pending ++ p ∷ []) ≡ without who pending
pushed_own who pending p own =
    filter-same (λ (q : JobOut). not (same_who q.who who)) pending p (ap (λ w. not (same_who w who)) own ∙ ap not (same_who-refl who))

-- those of the others, of these
without_twice : (who : Who) (pending : List JobOut) → without who (without who pending) ≡ without who pending
without_twice who [] = refl
without_twice who (x ∷ xs) = by (not (same_who x.who who)) refl (without_twice who xs) where
  by : (b : Bool) → not (same_who x.who who) ≡ b → without who (without who xs) ≡ without who xs
      → without who (cond b (x ∷ without who xs) (without who xs)) ≡ cond b (x ∷ without who xs) (without who xs)
  by true stays rest = ap (λ c. cond c (x ∷ without who (without who xs)) (without who (without who xs))) stays ∙ ap (λ ys. x ∷ ys) rest
  by false goes rest = rest

-- a caller that has no job, and begins one
jobs_none : (who : Who) (pending : List JobOut) → ((q : JobOut) → In q pending → q.who ≢ who) → jobs_of who pending ≡ []
jobs_none who [] none = refl
jobs_none who (q ∷ pending) none =
    ap (λ b. cond b (q ∷ jobs_of who pending) (jobs_of who pending)) (other_who q.who who (none q (inl refl))) ∙ jobs_none who pending (λ x at. none x (inr at))

jobs_last : (who : Who) (pending : List JobOut) (p : JobOut) → ((q : JobOut) → In q pending → q.who ≢ who) → p.who ≡ who → jobs_of who (pending ++ p ∷ []) ≡ p ∷ []
jobs_last who pending p none own =
    filter-more (λ (q : JobOut). same_who q.who who) pending p (ap (λ w. same_who w who) own ∙ same_who-refl who) ∙ ap (λ xs. xs ++ p ∷ []) (jobs_none who pending none)

-- blocks at home
same_homes : (who : Who) (old new : WorldView) → new.disk ≡ old.disk → KeepsHomes who old new
same_homes who old new same lost q at other home = subst (λ (d : Disk). AreBlocksHome q.blocks d.cells) (sym same) home

others_same : (who : Who) (w v : WorldView) → v.start ≡ w.start → v.history ≡ w.history → v.pending ≡ w.pending → v.disk ≡ w.disk → OthersStay w v who
others_same who w v start history pending disk =
    subst (λ (x : WorldView). OthersStay w x who) (λ i. record v { start = sym start i; history = sym history i; pending = sym pending i; disk = sym disk i }) (
      λ q job apart is. record { there = is.there; who = is.who; draft = is.draft; blocks = is.blocks; words = is.words; lent = is.lent },
      λ q job apart is. record { there = is.there; who = is.who; draft = is.draft; blocks = is.blocks; words = is.words; lent = is.lent },
    )

-- ---- the jobs of the caller itself

-- it had none
none_stays : (who : Who) (old new : WorldView) → HasNone old who → KeepsOwn who old new
none_stays who old new none claims same =
    ((λ q job own is. absurd (none q is.there own), λ q job own is. absurd (none q is.there own)), λ q there own home. absurd (none q there own))

-- it has none any more
gone_stays : (p : JobOut) (old new : WorldView) → In p old.pending → HasNone new p.who → KeepsOwn p.who old new
gone_stays p old new there none claims same =
    let own = In-filter (λ (q : JobOut). same_who q.who p.who) old.pending p there (same_who-refl p.who) in
    let kept : In p (jobs_of p.who new.pending) = subst (In p) (sym same) own in
    absurd (none p (filter-In (λ (q : JobOut). same_who q.who p.who) new.pending p kept).0 refl)

-- a list with one more is another
claimed_more : (claims : List (ℕ × Draft)) (pair : ℕ × Draft) → claims ≡ claims ++ pair ∷ [] → ⊥
claimed_more claims pair same = omega (arith, ap length same, length-append claims (pair ∷ []))

-- nothing that is asked of a job changed
own_same : (who : Who) (w v : WorldView) → v.start ≡ w.start → v.history ≡ w.history → v.pending ≡ w.pending → v.disk ≡ w.disk → KeepsOwn who w v
own_same who w v start history pending disk claims same =
    subst (λ (x : WorldView). StaysOf who w x × HomesOf who w x) (λ i. record v { start = sym start i; history = sym history i; pending = sym pending i; disk = sym disk i }) (
      (
        λ q job own is. record { there = is.there; who = is.who; draft = is.draft; blocks = is.blocks; words = is.words; lent = is.lent },
        λ q job own is. record { there = is.there; who = is.who; draft = is.draft; blocks = is.blocks; words = is.words; lent = is.lent },
      ),
      λ q there own home. home,
    )

pub by_view : (who : Who) (old v new : WorldView) (before after : Supply) → new ≡ v → IsAct who old v before after → IsAct who old new before after
by_view who old v new before after same act = subst (λ (w : WorldView). IsAct who old w before after) (sym same) act

-- ---- the answers of `begin`

pub returns_act : ReturnsActs
returns_act who old new before after none steps is =
    by_view who old _ new before after is.new_is (record {
      start = refl;
      scripts = refl;
      lap = record { geometry = refl; base = refl; first = refl; lines_out = refl; settled = refl };
      item = inr (is.call, is.begins.next, refl);
      pair = inl refl;
      jobs = refl;
      own = inl refl;
      own_stays = none_stays who old _ none;
      given_up = inl refl;
      still = λ lost. no_both old.lost lost is.begins.awake _;
      homes = λ lost. no_both old.lost lost is.begins.awake _;
      stay = subst (λ (w : WorldView). OthersStay old w who) is.new_is is.stay;
      set_up = λ other done. set_up_stays old.scripts old.history (item_of old who is.call) other is.begins.next done;
      over = λ over was. was;
      lost = λ was. was;
      usable = refl;
      acts = inr refl;
      steps = one_act old.acts before after steps;
    })

pub job_acts : JobActs
job_acts who old new before after job none steps is =
    by_view who old _ new before after is.new_is (record {
      start = refl;
      scripts = refl;
      lap = record { geometry = refl; base = refl; first = refl; lines_out = refl; settled = refl };
      item = inl refl;
      pair = inl refl;
      jobs = pushed_own who old.pending is.pending is.who_is;
      own = inr (inr (record { job = is.pending; none = none; one = jobs_last who old.pending is.pending none is.who_is; apart = is.apart }));
      own_stays = none_stays who old _ none;
      given_up = inl refl;
      still = λ lost. no_both old.lost lost is.begins.awake _;
      homes = λ lost. no_both old.lost lost is.begins.awake _;
      stay = subst (λ (w : WorldView). OthersStay old w who) is.new_is is.stay;
      set_up = λ other done. done;
      over = λ over was. was;
      lost = λ was. was;
      usable = refl;
      acts = inr refl;
      steps = one_act old.acts before after steps;
    })

pub round_end_acts : RoundEndActs
round_end_acts who old new before after need left none steps is =
    by_view who old _ new before after is.new_is (record {
      start = refl;
      scripts = refl;
      lap = record { geometry = refl; base = refl; first = refl; lines_out = refl; settled = refl };
      item = inl refl;
      pair = inl refl;
      jobs = refl;
      own = inl refl;
      own_stays = none_stays who old _ none;
      given_up = inl refl;
      still = λ lost. no_both old.lost lost is.begins.awake _;
      homes = λ lost. no_both old.lost lost is.begins.awake _;
      stay = subst (λ (w : WorldView). OthersStay old w who) is.new_is is.stay;
      set_up = λ other done. done;
      over = λ over was. (let never : None ≡ Some over = sym is.begins.going ∙ was in cc);
      lost = λ was. was;
      usable = refl;
      acts = inr refl;
      steps = one_act old.acts before after steps;
    })

pub lost_call_acts : LostCallActs
lost_call_acts who old new before after none steps is =
    by_view who old _ new before after is.new_is (record {
      start = refl;
      scripts = refl;
      lap = record { geometry = refl; base = refl; first = refl; lines_out = refl; settled = refl };
      item = inl refl;
      pair = inl refl;
      jobs = refl;
      own = inl refl;
      own_stays = none_stays who old _ none;
      given_up = inl refl;
      still = λ lost. no_both old.lost lost is.awake _;
      homes = λ lost. no_both old.lost lost is.awake _;
      stay = subst (λ (w : WorldView). OthersStay old w who) is.new_is is.stay;
      set_up = λ other done. done;
      over = λ over was. was;
      lost = λ was. refl;
      usable = refl;
      acts = inr refl;
      steps = one_act old.acts before after steps;
    })

pub lost_end_acts : LostEndActs
lost_end_acts who old new power none same =
    by_view who old _ new power power same (record {
      start = refl;
      scripts = refl;
      lap = record { geometry = refl; base = refl; first = refl; lines_out = refl; settled = refl };
      item = inl refl;
      pair = inl refl;
      jobs = refl;
      own = inl refl;
      own_stays = none_stays who old _ none;
      given_up = inl refl;
      still = λ lost. (refl, refl);
      homes = same_homes who old (record old { acts = old.acts + 1; lost = true }) refl;
      stay = others_same who old (record old { acts = old.acts + 1; lost = true }) refl refl refl refl;
      set_up = λ other done. done;
      over = λ over was. was;
      lost = λ was. refl;
      usable = refl;
      acts = inr refl;
      steps = none_taken _ power;
    })

pub nothing_acts : NothingActs
nothing_acts who w power = record {
  start = refl;
  scripts = refl;
  lap = record { geometry = refl; base = refl; first = refl; lines_out = refl; settled = refl };
  item = inl refl;
  pair = inl refl;
  jobs = refl;
  own = inl refl;
  own_stays = λ claims same. ((λ q job own is. is, λ q job own is. is), λ q there own home. home);
  given_up = inl refl;
  still = λ lost. (refl, refl);
  homes = same_homes who w w refl;
  stay = (λ q job apart is. is, λ q job apart is. is);
  set_up = λ other done. done;
  over = λ over was. was;
  lost = λ was. was;
  usable = refl;
  acts = inl refl;
  steps = none_taken _ power;
}

-- ---- the ends of a job

-- one act more is one
one_more : (n m : ℕ) → m ≡ n + 1 → 1 ≡ m - n
one_more n m is = omega (arith, is)

pub finish_acts : FinishActs
finish_acts slot p job old new before after steps out is =
    by_view p.who old _ new before after is.new_is (record {
      start = refl;
      scripts = refl;
      lap = record { geometry = refl; base = refl; first = refl; lines_out = refl; settled = refl };
      item = inr (p.call, is.next, refl);
      pair = inr (slot, p, out.there, refl, refl, inl (λ q at. (left_of p.who old.pending q at).1));
      jobs = without_twice p.who old.pending;
      own = inr (inl (λ q at. (left_of p.who old.pending q at).1));
      own_stays = gone_stays p old _ out.there (λ q at. (left_of p.who old.pending q at).1);
      given_up = inl refl;
      still = λ lost. no_both old.lost lost is.awake _;
      homes = λ lost. no_both old.lost lost is.awake _;
      stay = subst (λ (w : WorldView). OthersStay old w p.who) is.new_is is.stay;
      set_up = λ other done. set_up_stays old.scripts old.history (item_of old p.who p.call) other is.next done;
      over = λ over was. was;
      lost = λ was. was;
      usable = refl;
      acts = inr refl;
      steps = one_act old.acts before after steps;
    })

pub lost_finish_acts : LostFinishActs
lost_finish_acts slot p job old new before after steps spared out is =
    by_view p.who old _ new before after is.new_is (record {
      start = refl;
      scripts = refl;
      lap = record { geometry = refl; base = refl; first = refl; lines_out = refl; settled = refl };
      item = inl refl;
      pair = inr (slot, p, out.there, refl, refl, inr (refl, refl, is.back));
      jobs = refl;
      own = inl refl;
      own_stays = λ claims same. absurd (claimed_more old.claims (slot, p.draft) (sym claims));
      given_up = inl refl;
      still = λ lost. (refl, refl);
      homes = λ lost q at other home. subst (λ (w : WorldView). AreBlocksHome q.blocks w.disk.cells) is.new_is (is.homes q at other home);
      stay = subst (λ (w : WorldView). OthersStay old w p.who) is.new_is is.stay;
      set_up = λ other done. done;
      over = λ over was. was;
      lost = λ was. refl;
      usable = refl;
      acts = elim (cases_Bool old.lost) [ inl lost ↦ inl (is.later_one lost) | inr awake ↦ inr (is.first_one awake) ];
      steps = elim (cases_Bool old.lost) [
        | inl lost ↦ subst (Steps (2 ^ 26 * (new.acts - old.acts)) before) (sym (spared lost)) (none_taken _ before)
        | inr awake ↦ subst (λ n. Steps (2 ^ 26 * n) before after) (one_more old.acts new.acts (is.first_one awake)) steps
      ];
    })

pub give_up_acts : GiveUpActs
give_up_acts full p job old new power out is =
    by_view p.who old _ new power power is.new_is (record {
      start = refl;
      scripts = refl;
      lap = record { geometry = refl; base = refl; first = refl; lines_out = refl; settled = refl };
      item = inl refl;
      pair = inl refl;
      jobs = without_twice p.who old.pending;
      own = inr (inl (λ q at. (left_of p.who old.pending q at).1));
      own_stays = gone_stays p old _ out.there (λ q at. (left_of p.who old.pending q at).1);
      given_up = inr (refl, λ q at. (left_of p.who old.pending q at).1, λ none. (let never : Some (over_by old.over full) ≡ None = none in cc));
      still = λ lost. (refl, refl);
      homes = λ lost q at other home. subst (λ (w : WorldView). AreBlocksHome q.blocks w.disk.cells) is.new_is (is.homes q at other home);
      stay = subst (λ (w : WorldView). OthersStay old w p.who) is.new_is is.stay;
      set_up = λ other done. done;
      over = λ over was. ap (λ (o : Option Over). (let ended : Option Over = Some (over_by o full) in ended)) was;
      lost = λ was. was;
      usable = refl;
      acts = inl refl;
      steps = none_taken _ power;
    })

pub lose_acts : LoseActs
lose_acts who w power = record {
  start = refl;
  scripts = refl;
  lap = record { geometry = refl; base = refl; first = refl; lines_out = refl; settled = refl };
  item = inl refl;
  pair = inl refl;
  jobs = refl;
  own = inl refl;
  own_stays = own_same who w (record w { lost = true }) refl refl refl refl;
  given_up = inl refl;
  still = λ lost. (refl, refl);
  homes = same_homes who w (record w { lost = true }) refl;
  stay = others_same who w (record w { lost = true }) refl refl refl refl;
  set_up = λ other done. done;
  over = λ over was. was;
  lost = λ was. refl;
  usable = refl;
  acts = inl refl;
  steps = none_taken _ power;
}
