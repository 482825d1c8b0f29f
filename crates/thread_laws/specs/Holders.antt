-- The view of the holder, and those of the others, by an act.
use Rattle.std.specs.Prelude.{◌≡◌, ◌≢◌, ◌⊎◌, ◌≤◌, ◌+◌, ◌-◌, ◌*◌, ◌^◌, ◌==◌, not, ℕ, Bool, true, false, cond, nat_lt, List, [], ◌∷◌, ◌++◌, drop, filter, is_none, length, map, Option, Some, None, refl}
use Rattle.std.proofs.Common.{arith, ap, ◌∙◌, sym, subst, inl, inr, length-append}
use Rattle.std.proofs.lemmas.Bool.{cases_Bool}
use Rattle.std.proofs.lemmas.Bool.Decides.{Decides-eqb}
use Rattle.round_laws.specs.world_view_laws.pm_model.Powers.{Supply}
use Rattle.round_laws.specs.world_view_laws.oplog_entry.layout_model.declared.lines.Draft.{Draft}
use Rattle.round_laws.specs.world_view_laws.in_flight.Histories.{next_stays}
use Rattle.round_laws.specs.world_view_laws.list_laws.Filters.{filter-same}
use Rattle.round_laws.specs.world_view_laws.list_laws.Members.{In}
use Rattle.round_laws.specs.world_view_laws.posix_types.declared.call.Call.{Call}
use Rattle.round_laws.specs.world_view_laws.posix_types.declared.call.Who.{Who}
use Rattle.round_laws.specs.world_view_laws.posix_types.declared.item.Item.{Item}
use Rattle.round_laws.specs.world_view_laws.posix_types.Scripts.{Scripts}
use Rattle.round_laws.specs.world_view_laws.posix_tables.Open.{same_who}
use Rattle.round_laws.specs.world_view_laws.posix_spec.Scripted.{items_of, next_call}
use Rattle.round_laws.specs.world_view_laws.live_model.Standing.{JobOut}
use Rattle.round_laws.specs.world_view_laws.declared.views.over.Over.{Over}
use Rattle.round_laws.specs.world_view_laws.Acts.{AddsOne, ClaimsOne, IsAct, jobs_of, Last, shows}
use Rattle.round_laws.specs.world_view_laws.Begins.{item_of}
use Rattle.round_laws.specs.world_view_laws.Views.{next_of, WorldView}
use Rattle.thread_laws.specs.Hands.{Gone, HandView, lap_of, mine_of, Nothing, Sees, Shown}
use Rattle.thread_laws.specs.Jobs.{holder_job, none_of, other_job, same_is}
use Rattle.thread_laws.specs.Moves.{first_draft, MayLeave, next_hand}
use Rattle.thread_laws.specs.Places.{append-In, drop_front, drop_more, drop_whole, In-behind, In-front}
use Rattle.thread_laws.specs.Stands.{IsInRound, IsStillShown, IsViewOf, listed, StillStands}

-- ---- the World

grown : (who : Who) (old new : WorldView) → AddsOne who old new → length old.history ≤ length new.history
grown who old new (inl same) = omega (arith, ap length same)
grown who old new (inr (call, next, more)) = omega (arith, ap length more, length-append old.history (item_of old who call ∷ []))

-- its acts pay for its steps
pub paid_stays : (who : Who) (old new : WorldView) (before after : Supply) → IsAct who old new before after → IsInRound old before → after.taken ≤ 2 ^ 26 * new.acts
paid_stays who old new before after act is = elim act.acts [
  | inl same ↦ omega (arith, same, is.paid, act.steps.bound)
  | inr more ↦ omega (arith, more, is.paid, act.steps.bound)
]

pub round_stays : (v : HandView) (old new : WorldView) (before after : Supply) → IsInRound old before → MayLeave v old new before after → IsInRound new after
round_stays v old new before after is may = record {
  usable = may.act.usable ∙ is.usable;
  lines_out = may.act.lap.lines_out ∙ is.lines_out;
  settled = omega (arith, may.act.lap.settled, is.settled, grown v.who old new may.act.item);
  paid = paid_stays v.who old new before after may.act is;
  bound = may.bound;
}

lap_stays : (who : Who) (old new : WorldView) (before after : Supply) → IsAct who old new before after → lap_of new ≡ lap_of old
lap_stays who old new before after act i =
    record { geometry = act.lap.geometry i; start = act.start i; scripts = act.scripts i; base = act.lap.base i; first = act.lap.first i }

-- ---- claims

-- what is claimed more stands behind all that was
pub claims_grow : (who : Who) (old new : WorldView) → ClaimsOne who old new → new.claims ≡ old.claims ++ drop (length old.claims) new.claims
claims_grow who old new (inl same) = same ∙ (sym (nil_behind old.claims) ∙ ap (λ more. old.claims ++ more) (sym (drop_whole old.claims) ∙ ap (drop (length old.claims)) (sym same))) where
  nil_behind : (xs : List (ℕ × Draft)) → xs ++ [] ≡ xs
  nil_behind [] = refl
  nil_behind (x ∷ xs) = ap (λ ys. x ∷ ys) (nil_behind xs)
claims_grow who old new (inr (slot, p, there, own, more, ends)) =
    more ∙ ap (λ xs. old.claims ++ xs) (sym (drop_front old.claims ((slot, p.draft) ∷ [])) ∙ ap (drop (length old.claims)) (sym more))

pub claims_stay : (who : Who) (old new : WorldView) → ClaimsOne who old new → (pair : ℕ × Draft) → In pair old.claims → In pair new.claims
claims_stay who old new one pair there = subst (In pair) (sym (claims_grow who old new one)) (In-front old.claims (drop (length old.claims) new.claims) pair there)

-- ---- the entry of a job

-- of one job or none, its entry is that of the first
pub first_listed : (ps : List JobOut) (o : Option Draft) → map (λ (p : JobOut). p.draft) ps ≡ listed o → first_draft ps ≡ o
first_listed [] None are = refl
first_listed [] (Some d) are = (let never : [] ≡ d ∷ [] = are in cc)
first_listed (p ∷ ps) None are = (let never : p.draft ∷ map (λ (q : JobOut). q.draft) ps ≡ [] = are in cc)
first_listed (p ∷ ps) (Some d) are = (let same : p.draft ∷ map (λ (q : JobOut). q.draft) ps ≡ d ∷ [] = are in let it : p.draft ≡ d = cc in ap Some it)

-- an entry that is listed is that of a job
pub listed_job : (ps : List JobOut) (d : Draft) → map (λ (p : JobOut). p.draft) ps ≡ listed (Some d) → (p : JobOut) × In p ps × (p.draft ≡ d)
listed_job [] d are = (let never : [] ≡ d ∷ [] = are in cc)
listed_job (p ∷ ps) d are = (let same : p.draft ∷ map (λ (q : JobOut). q.draft) ps ≡ d ∷ [] = are in (p, inl refl, cc))

relisted : (ps : List JobOut) (o : Option Draft) → map (λ (p : JobOut). p.draft) ps ≡ listed o → map (λ (p : JobOut). p.draft) ps ≡ listed (first_draft ps)
relisted ps o are = are ∙ ap listed (sym (first_listed ps o are))

-- of the jobs of the holder behind an act
pub holder_listed : (who : Who) (old new : WorldView) (before after : Supply) (o : Option Draft) → IsAct who old new before after
    → map (λ (p : JobOut). p.draft) (jobs_of who old.pending) ≡ listed o
    → map (λ (p : JobOut). p.draft) (jobs_of who new.pending) ≡ listed (first_draft (jobs_of who new.pending))
holder_listed who old new before after o act are = elim act.own [
  | inl same ↦ relisted (jobs_of who new.pending) o (ap (λ (ps : List JobOut). map (λ (p : JobOut). p.draft) ps) same ∙ are)
  | inr (inl none) ↦ relisted (jobs_of who new.pending) None (ap (λ (ps : List JobOut). map (λ (p : JobOut). p.draft) ps) (none_of who new.pending none))
  | inr (inr one) ↦ relisted (jobs_of who new.pending) (Some one.job.draft) (ap (λ (ps : List JobOut). map (λ (p : JobOut). p.draft) ps) one.one)
]

-- ---- the holder

still_same : (now : Last) → StillStands now now
still_same now = record { ended = λ e. e; over = λ o. refl; lost = λ l. l; set_up = λ s. s }

pub view_of_holder : (v : HandView) (old new : WorldView) (before after : Supply) → IsViewOf old before v → MayLeave v old new before after
    → IsViewOf new after (next_hand v old new)
unfolding next_hand
view_of_holder v old new before after is may = record {
  lap = lap_stays v.who old new before after may.act ∙ is.lap;
  given = may.act.steps.given ∙ is.given;
  mine = refl;
  out = holder_listed v.who old new before after v.out may.act is.out;
  done = λ pair there. elim (append-In v.done (drop (length old.claims) new.claims) pair there) [
    | inl was ↦ claims_stay v.who old new may.act.pair pair (is.done pair was)
    | inr more ↦ subst (In pair) (sym (claims_grow v.who old new may.act.pair)) (In-behind old.claims (drop (length old.claims) new.claims) pair more)
  ];
  job = holder_job old new before after v.who v.out v.begun may.act is.out is.job;
  shown = still_same (shows new v.who);
}

-- ---- the others

-- an item of another is none of these
mine_beside : (w : WorldView) (item : Item) (who : Who) → w.settled ≤ length w.history → same_who item.who who ≡ false
    → items_of (drop w.settled (w.history ++ item ∷ [])) who ≡ items_of (drop w.settled w.history) who
mine_beside w item who within other =
    ap (λ (items : List Item). items_of items who) (drop_more w.settled w.history item within)
    ∙ filter-same (λ (i : Item). same_who i.who who) (drop w.settled w.history) item other

not_same : (a b : Who) → b ≢ a → same_who a b ≡ false
not_same a b apart = elim (cases_Bool (same_who a b)) [ inl is ↦ absurd (apart (sym (same_is a b is))) | inr is ↦ is ]

module _ (old new : WorldView) (before after : Supply) (who other : Who) (act : IsAct who old new before after) (apart : other ≢ who) where
  other_mine : old.settled ≤ length old.history → mine_of new other ≡ mine_of old other
  other_mine within = elim act.item [
    | inl same ↦ by same
    | inr (call, next, more) ↦ by more ∙ mine_beside old (item_of old who call) other within (not_same who other apart)
  ] where
    by : {items : List Item} → new.history ≡ items → mine_of new other ≡ items_of (drop old.settled items) other
    by {items} is = ap (λ (n : ℕ). items_of (drop n new.history) other) act.lap.settled ∙ ap (λ (xs : List Item). items_of (drop old.settled xs) other) is

  other_next : next_of new other ≡ next_of old other
  other_next = elim act.item [
    | inl same ↦ by same
    | inr (call, next, more) ↦ by more ∙ next_stays old.scripts old.history (item_of old who call) other (not_same who other apart)
  ] where
    by : {items : List Item} → new.history ≡ items → next_of new other ≡ next_call old.scripts items other
    by {items} is = ap (λ (s : Scripts). next_call s new.history other) act.scripts ∙ ap (λ (xs : List Item). next_call old.scripts xs other) is

  over_stays : (o : Option Over) → o ≢ None → old.over ≡ o → new.over ≡ o
  over_stays None some is = absurd (some refl)
  over_stays (Some over) some is = act.over over is

  set_up_done : (shows old other).set_up ≡ true → (shows new other).set_up ≡ true
  set_up_done done =
      (Decides-eqb (length (items_of new.history Who.Setup)) (length new.scripts.setup)).1
      (act.set_up (Who.Thread 0) ((Decides-eqb (length (items_of old.history Who.Setup)) (length old.scripts.setup)).0 done))

  still_stands : (was : Last) → StillStands (shows old other) was → StillStands (shows new other) was
  still_stands was is = record {
    ended = λ e. ap (λ (o : Option Call). is_none o) other_next ∙ is.ended e;
    over = λ some. over_stays was.over some (is.over some);
    lost = λ l. act.lost (is.lost l);
    set_up = λ s. set_up_done (is.set_up s);
  }

  shown_stays : (shown : Shown) → IsStillShown (shows old other) shown → IsStillShown (shows new other) shown
  shown_stays Nothing is = tt
  shown_stays (Sees was) is = still_stands was is
  shown_stays Gone is = absurd is

pub view_of_other : (v u : HandView) (old new : WorldView) (before after : Supply) → IsInRound old before → IsViewOf old before u → u.who ≢ v.who
    → MayLeave v old new before after → IsViewOf new after u
view_of_other v u old new before after round is apart may =
    let job = other_job old new before after v.who u.who u.begun may.act apart is.job in
    record {
      lap = lap_stays v.who old new before after may.act ∙ is.lap;
      given = may.act.steps.given ∙ is.given;
      mine = other_mine old new before after v.who u.who may.act apart round.settled ∙ is.mine;
      out = ap (λ (ps : List JobOut). map (λ (p : JobOut). p.draft) ps) job.0 ∙ is.out;
      done = λ pair there. claims_stay v.who old new may.act.pair pair (is.done pair there);
      job = job.1;
      shown = shown_stays old new before after v.who u.who may.act apart u.last is.shown;
    }
