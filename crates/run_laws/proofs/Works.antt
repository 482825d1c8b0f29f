-- A job is filled, claims a slot, and its entry is stored and persisted: the World stays.
use Rattle.std.specs.Prelude.{◌≡◌, ◌<◌, ◌≤◌, ◌+◌, ◌^◌, ℕ, Bool, true, false, List, [], length, Option, Some, None, Ok, slice_get, slice_set, sum_by, if◌then◌else◌, refl}
use Rattle.std.specs.List.{remove}
use Rattle.std.proofs.Common.{arith, ap, ◌∙◌, sym, subst, inl, inr}
use Rattle.std.proofs.lemmas.Option.{slice_get_within}
use Rattle.round_log.specs.image_model.LogRule.{HoldsEntry, IsAsAtFirst}
use Rattle.round_log.specs.oplog_entry.declared.claims.Mark.TheVariants.{Lost, Written}
use Rattle.round_log.specs.oplog_entry.EntryLines.{entry_words, Holds, IsSingle}
use Rattle.round_log.specs.oplog_entry.LogLines.{line_at}
use Rattle.round_log.specs.pm_model.declared.Cell.{Cell}
use Rattle.round_log.specs.pm_model.declared.Cell.TheVariants.{Single}
use Rattle.round_log.specs.pm_model.Cells.{cell, is_single}
use Rattle.round_log.specs.pm_model.Parts.{Part}
use Rattle.round_log.specs.pm_model.Powers.{is_on, Steps, Supply}
use Rattle.round_log.specs.Rounds.{ChangesLine, IsClaimed, RoundView}
use Rattle.round_log.specs.Stores.{HasStored}
use Rattle.world_view_laws.specs.live_model.Jobs.{SpellCall}
use Rattle.world_view_laws.specs.live_model.Standing.{JobOut}
use Rattle.world_view_laws.specs.posix_types.declared.call.Who.{Who}
use Rattle.world_view_laws.specs.posix_spec.Run.{Unfinished}
use Rattle.world_view_laws.specs.write_end.Lines.{IsJobLine}
use Rattle.world_view_laws.specs.write_jobs.Jobs.{FilledView, IsSameJob, JobView}
use Rattle.world_view_laws.specs.Begins.{IsFilledOut, IsJobOut}
use Rattle.world_view_laws.specs.Lines.{first_of}
use Rattle.world_view_laws.specs.Views.{state_of, WorldView}
use Rattle.run_laws.specs.declared.held.Held.{Held}
use Rattle.run_laws.specs.declared.held.Work.{Work}
use Rattle.run_laws.specs.Between.{Between, events_in, GoesOn, idle_by, left_to_do, LosesPower}
use Rattle.run_laws.specs.EventsLaws.{ClaimedIsFree, EntryPersisted, EntryStored, FillLoses, held, JobClaims, JobFills, PersistLoses, PersistsEntry, IsHeldAt, StoredIsThere, StoreLoses, StoresEntry, with_log, with_work}
use Rattle.run_laws.specs.Held.{HasLine, HasLog, IsFull, IsLogOf, IsWorkOut, OutView, slot_in}
use Rattle.run_laws.specs.EventsPaid.{early_in, HaveActed, moves_now, steps_ahead, steps_early, steps_in}
use Rattle.run_laws.proofs.Crashes.{AreOut, have_acted, held_out, IsLogLeft, IsLogLeftOf, IsOut, log_left, may_crash}
use Rattle.run_laws.proofs.Lines.{changed_holds, changed_round, fresh_line, IsLineLeft, log_changed, log_claimed, log_filled, lost_line, slot_below, stored_over}
use Rattle.run_laws.proofs.Moves.{call_moves, write_moves}
use Rattle.run_laws.proofs.Pays.{IsEarly, no_steps, pays_acted, pays_off, pays_on}
use Rattle.run_laws.proofs.Places.{at_In, In_at, place_there, set_cases, set_count, sum_set, sum_taken}
use Rattle.run_laws.proofs.Slots.{slot_there}
use Rattle.run_laws.proofs.Stays.{held_set, open_calls, out_set}

-- ---- a job at a place

module _ (w : WorldView) (out : OutView) (b : Between w out) (i : ℕ) (h : Held) (at : slice_get out.jobs i ≡ Some h) where
  -- it is one of the World
  pub record IsAtPlace : Type 0 where
    pub job : JobOut
    pub at_place : slice_get w.pending i ≡ Some job
    pub own : h.who ≡ job.who
    pub is : IsWorkOut w job h.work

  pub its_place : IsAtPlace
  its_place =
      let there = place_there w.pending i (omega (arith, slice_get_within out.jobs i h at, b.held.count)) in
      let both = b.held.each i there.0 h there.1 at in
      record { job = there.0; at_place = there.1; own = both.0; is = both.1 }

  -- so a call may move data
  pub job_moves : moves_now w ≡ true
  job_moves =
      let p = its_place.job in
      let there = In_at w.pending i p its_place.at_place in
      call_moves w.scripts w.history p.who p.call (b.next p there).0 (write_moves p.call (b.writes p there))

  -- with a job out the log is
  pub log_there : (log : RoundView) → out.log ≡ Some log → IsLogOf w log out.jobs
  log_there log is = subst (λ (o : Option RoundView). HasLog w o out.jobs) is b.log

  -- ---- it came further

  pub less_work : (left : OutView) (new : Held) → left.jobs ≡ slice_set out.jobs i new → events_in new.work < events_in h.work → left_to_do w left < left_to_do w out
  less_work left new jobs less =
      let events : sum_by (λ (x : Held). events_in x.work) left.jobs + events_in h.work ≡ sum_by (λ (x : Held). events_in x.work) out.jobs + events_in new.work =
      ap (λ (xs : List Held). sum_by (λ (x : Held). events_in x.work) xs + events_in h.work) jobs ∙ sum_set (λ (x : Held). events_in x.work) out.jobs i h new at
      in
      let idle : idle_by w.over (length left.jobs) ≡ idle_by w.over (length out.jobs) = ap (idle_by w.over) (ap (λ (xs : List Held). length xs) jobs ∙ set_count out.jobs i new) in
      omega (arith, events, idle, less)

  steps_less : (new : Held) (n : ℕ) → n + steps_in new.work ≤ steps_in h.work → n + steps_ahead (slice_set out.jobs i new) ≤ steps_ahead out.jobs
  steps_less new n enough = let sum = sum_set (λ (x : Held). steps_in x.work) out.jobs i h new at in omega (arith, sum, enough)

  early_less : (before after : Supply) (new : Held) → IsEarly before after (early_in h.work) (early_in new.work) → IsEarly before after (steps_early out.jobs) (steps_early (slice_set out.jobs i new))
  early_less before after new (inl fewer) = (let sum = sum_set (λ (x : Held). early_in x.work) out.jobs i h new at in inl (omega (arith, sum, fewer)))
  early_less before after new (inr (one, on, takes)) = (let sum = sum_set (λ (x : Held). early_in x.work) out.jobs i h new at in inr (omega (arith, sum, one), on, takes))

  -- a moment between two events again
  module _ (log : Option RoundView) (new : Held) where
    abbrev pub further : OutView
    further = record { log = log; jobs = slice_set out.jobs i new }

    pub goes_further : (before after : Supply) (n : ℕ) → new.who ≡ h.who → ((p : JobOut) → slice_get w.pending i ≡ Some p → IsWorkOut w p h.work → IsWorkOut w p new.work)
        → HasLog w log (slice_set out.jobs i new) → ((w.given_up ≡ 0 → ⊥) → IsFull log) → events_in new.work < events_in h.work → n + steps_in new.work ≤ steps_in h.work
        → IsEarly before after (early_in h.work) (early_in new.work) → Steps n before after → is_on after ≡ true → GoesOn w out w further before after
    goes_further before after n own still has full less enough early steps on = record {
      later = record { geometry = refl; start = refl; scripts = refl };
      between = record {
        usable = b.usable;
        awake = b.awake;
        none_unfinished = b.none_unfinished;
        held = held_set w out.jobs i h new at own still b.held;
        log = has;
        next = b.next;
        writes = b.writes;
        callers = b.callers;
        drafts = b.drafts;
        scripted = b.scripted;
        threads = b.threads;
        lines = b.lines;
        few = b.few;
        settled = b.settled;
        claimed = b.claimed;
        given_up = full;
        late = b.late;
        moves = b.moves;
        waits = b.waits;
      };
      less = less_work further new refl less;
      on = on;
      paid = λ first was. pays_on first before after w out.jobs (slice_set out.jobs i new) n job_moves steps (steps_less new n enough) (early_less before after new early) was;
    }

    -- or the power goes
    pub loses_there : (before after : Supply) (n : ℕ) → new.who ≡ h.who → ((p : JobOut) → IsOut w p h.work → IsOut w p new.work)
        → IsLogLeftOf w log (slice_set out.jobs i new) → n ≤ steps_in h.work → early_in new.work ≤ early_in h.work + 1 → Steps n before after → is_on after ≡ false → LosesPower None w out w further before after
    loses_there before after n own still left enough one steps off = record {
      later = record { geometry = refl; start = refl; scripts = refl };
      history = refl;
      calls = refl;
      can = record {
        usable = b.usable;
        crash = may_crash w [] log (slice_set out.jobs i new) out_now b.callers b.drafts left;
        open_calls = open_calls w b.none_unfinished b.next b.callers;
      };
      off = off;
      paid = λ first was. pays_off first before after w out.jobs n job_moves steps (omega (arith, enough, sum)) was;
      acted = λ first given on some was.
          pays_acted first before after w w further (steps_early out.jobs) (steps_early (slice_set out.jobs i new)) given n refl refl (was.any.given ∙ some) on off (omega (arith, early, one)) steps acted_now (was.tree given some);
    } where
      out_now : AreOut w [] (slice_set out.jobs i new)
      out_now = out_set w [] out.jobs i h new at own still (held_out w out.jobs b.held)

      acted_now : HaveActed w further (steps_early (slice_set out.jobs i new))
      acted_now = have_acted w [] (slice_set out.jobs i new) b.callers (steps_early (slice_set out.jobs i new)) (omega (arith, ap (λ (cs : List Unfinished). length cs) b.none_unfinished)) log out_now b.drafts left

      early : steps_early (slice_set out.jobs i new) + early_in h.work ≡ steps_early out.jobs + early_in new.work
      early = sum_set (λ (x : Held). early_in x.work) out.jobs i h new at

      sum : steps_ahead (remove out.jobs i) + steps_in h.work ≡ steps_ahead out.jobs
      sum = sum_taken (λ (x : Held). steps_in x.work) out.jobs i h at

-- ---- it is filled

-- it is the same job of the World
filled_same : (w : WorldView) (p : JobOut) (job : JobView) (filled : FilledView) → IsSameJob job filled.who filled.draft filled.loans filled.words → IsJobOut w p job → IsFilledOut w p filled
filled_same w p job filled same was = record {
  there = was.there;
  who = same.who_is ∙ was.who;
  draft = same.draft_is ∙ was.draft;
  blocks = same.blocks_are ∙ was.blocks;
  words = subst (SpellCall (state_of w) p) (sym same.words_are) was.words;
  lent = was.lent;
}

cut_same : (w : WorldView) (p : JobOut) (job cut : JobView) → IsSameJob job cut.who cut.draft cut.loans cut.words → IsJobOut w p job → IsJobOut w p cut
cut_same w p job cut same was = record {
  there = was.there;
  who = same.who_is ∙ was.who;
  draft = same.draft_is ∙ was.draft;
  blocks = same.blocks_are ∙ was.blocks;
  words = subst (SpellCall (state_of w) p) (sym same.words_are) was.words;
  lent = was.lent;
}

-- the log, whichever it is
has_filled : (w : WorldView) (o : Option RoundView) (jobs : List Held) (i : ℕ) (h new : Held) → slice_get jobs i ≡ Some h → slot_in h.work ≡ None → slot_in new.work ≡ None → HasLog w o jobs → HasLog w o (slice_set jobs i new)
has_filled w None jobs i h new at none still has = (let never : None ≡ Some h = sym (ap (λ (xs : List Held). slice_get xs i) has.2) ∙ at in cc)
has_filled w (Some log) jobs i h new at none still has = log_filled w log jobs has i h at new none still

pub job_fills : JobFills
job_fills who w out i before after job filled b at steps is =
    goes_further w out b i (held who (Work.Began job)) at out.log (held who (Work.Filled filled)) before after (2 ^ 15) refl (λ p at_p was. filled_same w p job filled is.same was.0)
    (has_filled w out.log out.jobs i (held who (Work.Began job)) (held who (Work.Filled filled)) at refl refl b.log) b.given_up (omega arith) (omega arith) (inl (omega arith)) steps is.on

left_of : (w : WorldView) (o : Option RoundView) (jobs : List Held) → HasLog w o jobs → IsLogLeftOf w o jobs
left_of w None jobs has = has.0
left_of w (Some log) jobs has = log_left w log jobs has

pub fill_loses : FillLoses
fill_loses who w out i before after job cut b at steps is =
    loses_there w out b i (held who (Work.Began job)) at out.log (held who (Work.Began cut)) before after (2 ^ 15) refl (λ p was. cut_same w p job cut is.same was)
    (left_of w out.log (slice_set out.jobs i (held who (Work.Began cut))) (has_filled w out.log out.jobs i (held who (Work.Began job)) (held who (Work.Began cut)) at refl refl b.log)) (omega arith) (omega arith) steps is.off

-- ---- it claims a slot

never_full : (log new : RoundView) (slot : ℕ) → IsClaimed log new (Ok slot) → log.tail ≡ length log.lines → ⊥
never_full log new slot claims full = omega (arith, claims.0, claims.1, full)

pub job_claims : JobClaims
job_claims who w out i slot log new power filled b at is on claims =
    goes_further w out b i (held who (Work.Filled filled)) at (Some new) (held who (Work.Claimed filled slot)) power power 0 refl (λ p at_p was. was)
    (log_claimed w log out.jobs (log_there w out b i (held who (Work.Filled filled)) at log is) i (held who (Work.Filled filled)) at new slot filled who refl claims)
    (λ given. absurd (never_full log new slot claims (subst (λ (o : Option RoundView). IsFull o) is (b.given_up given)))) (omega arith) (omega arith) (inl (omega arith)) (no_steps power) on

-- ---- its entry is stored

single_at : (c : Cell) (x : ℕ) → c ≡ Single x → is_single c ≡ true
single_at c x same = ap is_single same

module _ (w : WorldView) (out : OutView) (b : Between w out) (i : ℕ) (h : Held) (at : slice_get out.jobs i ≡ Some h) (log : RoundView) (is : out.log ≡ Some log) (slot : ℕ) (some : slot_in h.work ≡ Some slot) where
  abbrev pub here : IsLogOf w log out.jobs
  here = log_there w out b i h at log is

  pub slot_within : slot < length log.lines
  slot_within = slot_below w log out.jobs here slot (slot_there out.jobs i slot h at some)

  pub first_line : IsAsAtFirst (line_at here.start slot).cells (first_of w slot)
  first_line = fresh_line w log out.jobs here slot (slot_there out.jobs i slot h at some)

  pub its_line : HasLine here.start log h.work
  its_line = here.lines h (In_at out.jobs i h at)

  -- a line that changes leaves a full log full
  pub still_full : (changed : RoundView) → ChangesLine slot log changed → (w.given_up ≡ 0 → ⊥) → IsFull (Some changed)
  still_full changed line given = line.tail ∙ (subst (λ (o : Option RoundView). IsFull o) is (b.given_up given) ∙ sym line.count)

  -- what is left where the power went in the line
  pub log_lost : (changed : RoundView) (new : Held) → slot_in new.work ≡ Some slot → (line : ChangesLine slot log changed) → IsLineLeft w changed new.work → IsLogLeft w changed (slice_set out.jobs i new)
  log_lost changed new still line own = record {
    start = here.start;
    fresh = here.fresh;
    base = line.base ∙ here.base;
    round = changed_round w log out.jobs here i h at changed slot new some still line;
    holds = changed_holds w log out.jobs here i h at changed slot new some still line;
    lines = λ x there. (
        let place = at_In (slice_set out.jobs i new) x there in
        elim (set_cases out.jobs i place.0 new x (slice_get_within out.jobs i h at) place.1) [
          | inl one ↦ subst (λ (y : Held). IsLineLeft w changed y.work) one.1 own
          | inr two ↦ left_stays x.work (λ m is_m. line.others m (λ same. two.0 (here.apart place.0 i m x h two.1 at is_m (some ∙ ap (λ n. Some n) (sym same))))) ((log_left w log out.jobs here).lines x (In_at out.jobs place.0 x two.1))
        ]);
  } where
    left_stays : (work : Work) → ((m : ℕ) → slot_in work ≡ Some m → line_at changed.lines m ≡ line_at log.lines m) → IsLineLeft w log work → IsLineLeft w changed work
    left_stays (Work.Began job) same left = tt
    left_stays (Work.Filled job) same left = tt
    left_stays (Work.Claimed job m) same left = subst (λ (x : Part). IsAsAtFirst x.cells (first_of w m)) (sym (same m refl)) left
    left_stays (Work.Stored job m) same left = subst (λ (x : Part). IsJobLine x.cells (first_of w m) job.draft (w.base + m)) (sym (same m refl)) left
    left_stays (Work.Persisted job m) same left = subst (λ (x : Part). IsJobLine x.cells (first_of w m) job.draft (w.base + m)) (sym (same m refl)) left

pub claimed_is_free : ClaimedIsFree
claimed_is_free who w out i slot log filled b at is = (
  slot_within w out b i (held who (Work.Claimed filled slot)) at log is slot refl,
  subst (λ (line : Part). IsSingle line.cells) (sym (its_line w out b i (held who (Work.Claimed filled slot)) at log is slot refl))
      (λ j below. single_at (cell (line_at start slot).cells j) (first_of w slot j) (first_line w out b i (held who (Work.Claimed filled slot)) at log is slot refl j below)),
) where
  start : List Part
  start = (here w out b i (held who (Work.Claimed filled slot)) at log is slot refl).start

-- what was stored stands behind the first words
module _ (who : Who) (w : WorldView) (out : OutView) (i slot : ℕ) (log new : RoundView) (before after : Supply) (filled : FilledView) (b : Between w out) (at : IsHeldAt out i who (Work.Claimed filled slot)) (is : out.log ≡ Some log)
    (stores : StoresEntry log new slot filled.draft before after) where
  abbrev at_claim : Held
  at_claim = held who (Work.Claimed filled slot)

  abbrev log_now : IsLogOf w log out.jobs
  log_now = here w out b i at_claim at log is slot refl

  has_stored : HasStored (line_at log_now.start slot).cells (entry_words filled.draft (log.base + slot)) (is_on after) (line_at new.lines slot).cells
  has_stored = subst (λ (line : Part). HasStored line.cells (entry_words filled.draft (log.base + slot)) (is_on after) (line_at new.lines slot).cells) (its_line w out b i at_claim at log is slot refl) stores.has

  pub stored_on : is_on after ≡ true → GoesOn w out w (with_work (with_log out new) i (held who (Work.Stored filled slot))) before after
  stored_on on =
      goes_further w out b i at_claim at (Some new) (held who (Work.Stored filled slot)) before after 8 refl (λ p at_p was. was)
      (log_changed w log out.jobs log_now i at_claim at new slot (held who (Work.Stored filled slot)) refl refl stores.line
      (subst (λ (base : ℕ). HasStored (line_at log_now.start slot).cells (entry_words filled.draft (base + slot)) true (line_at new.lines slot).cells) (sym stores.line.base)
      (subst (λ (o : Bool). HasStored (line_at log_now.start slot).cells (entry_words filled.draft (log.base + slot)) o (line_at new.lines slot).cells) on has_stored)))
      (still_full w out b i at_claim at log is slot refl new stores.line) (omega arith) (omega arith) (inr (omega arith, on, stores.took on)) stores.steps on

  pub stored_off : is_on after ≡ false → LosesPower None w out w (with_work (with_log out new) i (held who (Work.Stored filled slot))) before after
  stored_off off =
      loses_there w out b i at_claim at (Some new) (held who (Work.Stored filled slot)) before after 8 refl (λ p was. was)
      (log_lost w out b i at_claim at log is slot refl new (held who (Work.Stored filled slot)) refl stores.line
      (inr (stored_over (first_of w slot) (line_at log_now.start slot).cells (first_line w out b i at_claim at log is slot refl) (entry_words filled.draft (w.base + slot)) (is_on after) (line_at new.lines slot).cells
      (subst (λ (base : ℕ). HasStored (line_at log_now.start slot).cells (entry_words filled.draft (base + slot)) (is_on after) (line_at new.lines slot).cells) log_now.base has_stored))))
      (omega arith) (omega arith) stores.steps off

pub entry_stored : EntryStored
entry_stored who w out i slot log new before after filled b at is stores on = stored_on who w out i slot log new before after filled b at is stores on

pub store_loses : StoreLoses
store_loses who w out i slot log new before after filled b at is stores off = stored_off who w out i slot log new before after filled b at is stores off

-- ---- and is durable

pub stored_is_there : StoredIsThere
stored_is_there who w out i slot log filled b at is = slot_within w out b i (held who (Work.Stored filled slot)) at log is slot refl

module _ (who : Who) (w : WorldView) (out : OutView) (i slot : ℕ) (log new : RoundView) (before after : Supply) (filled : FilledView) (b : Between w out) (at : IsHeldAt out i who (Work.Stored filled slot)) (is : out.log ≡ Some log)
    (persists : PersistsEntry log new slot before after) where
  abbrev at_store : Held
  at_store = held who (Work.Stored filled slot)

  abbrev log_then : IsLogOf w log out.jobs
  log_then = here w out b i at_store at log is slot refl

  first_single : IsSingle (line_at log_then.start slot).cells
  first_single j below = single_at (cell (line_at log_then.start slot).cells j) (first_of w slot j) (first_line w out b i at_store at log is slot refl j below)

  line_holds : Holds (if is_on after then Written else Lost) filled.draft (log.base + slot) (line_at log_then.start slot).cells (line_at new.lines slot).cells
  line_holds = persists.holds filled.draft (line_at log_then.start slot).cells true first_single (λ on. refl) (its_line w out b i at_store at log is slot refl)

  pub persisted_on : is_on after ≡ true → GoesOn w out w (with_work (with_log out new) i (held who (Work.Persisted filled slot))) before after
  persisted_on on =
      goes_further w out b i at_store at (Some new) (held who (Work.Persisted filled slot)) before after 2 refl (λ p at_p was. was)
      (log_changed w log out.jobs log_then i at_store at new slot (held who (Work.Persisted filled slot)) refl refl persists.line
      (subst (λ (base : ℕ). HoldsEntry (line_at new.lines slot).cells filled.draft (base + slot)) (sym persists.line.base)
      (subst (λ (o : Bool). Holds (if o then Written else Lost) filled.draft (log.base + slot) (line_at log_then.start slot).cells (line_at new.lines slot).cells) on line_holds)))
      (still_full w out b i at_store at log is slot refl new persists.line) (omega arith) (omega arith) (inl (omega arith)) persists.steps on

  pub persisted_off : is_on after ≡ false → LosesPower None w out w (with_work (with_log out new) i (held who (Work.Stored filled slot))) before after
  persisted_off off =
      loses_there w out b i at_store at (Some new) at_store before after 2 refl (λ p was. was)
      (log_lost w out b i at_store at log is slot refl new at_store refl persists.line
      (lost_line w slot filled.draft (log.base + slot) (line_at log_then.start slot).cells (line_at new.lines slot).cells (ap (λ (base : ℕ). base + slot) log_then.base) (first_line w out b i at_store at log is slot refl)
      (subst (λ (o : Bool). Holds (if o then Written else Lost) filled.draft (log.base + slot) (line_at log_then.start slot).cells (line_at new.lines slot).cells) off line_holds)))
      (omega arith) (omega arith) persists.steps off

pub entry_persisted : EntryPersisted
entry_persisted who w out i slot log new before after filled b at is persists on = persisted_on who w out i slot log new before after filled b at is persists on

pub persist_loses : PersistLoses
persist_loses who w out i slot log new before after filled b at is persists off = persisted_off who w out i slot log new before after filled b at is persists off
