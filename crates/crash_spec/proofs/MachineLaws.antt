-- What every schedule leaves: a history that is legal and follows the scripts, unfinished calls that are the next ones of
-- their callers, and no more claims than the log has lines.
use Rattle.std.specs.Prelude.{◌≡◌, ℕ, suc, ◌≤◌, Bool, true, false, cond, not, ◌&&◌, ◌==◌, List, [], ◌∷◌, ◌++◌, map, filter, find, Option, Some, is_none, All, AllPairs, refl}
use Rattle.std.specs.Option.{option_map_or}
use Rattle.std.proofs.Common.{arith, ap, sym, subst, inl, inr}
use Rattle.std.proofs.lemmas.Bool.Decides.{nat_tests}
use Rattle.std.proofs.lemmas.List.{map-append}
use Rattle.std.proofs.lemmas.List.Elements.{All-cons, All-filter, All-nil}
use Rattle.std.proofs.lemmas.List.Kept.{AllPairs-cons}
use Rattle.posix_laws.specs.list_laws.Members.{find-In, In}
use Rattle.posix_laws.specs.posix_types.declared.call.Call.{Call}
use Rattle.posix_laws.specs.posix_types.declared.call.Who.{Who}
use Rattle.posix_laws.specs.posix_types.declared.item.Item.{Item}
use Rattle.posix_laws.specs.posix_types.Scripts.{Scripts}
use Rattle.posix_laws.specs.posix_tables.Open.{same_who}
use Rattle.posix_laws.specs.posix_spec.Run.{Unfinished, begun, IsLegal, IsLegal-append}
use Rattle.posix_laws.specs.posix_spec.Scripted.{IsSetUp, Scripted, Scripted-append}
use Rattle.posix_laws.specs.posix_spec.Unfinished.{AreUnfinished, HaveTwoCallers, IsNextCall}
use Rattle.posix_laws.specs.UnfinishedLaws.{AreUnfinished-begun, AreUnfinished-finished, AreUnfinished-none, IsNext-item}
use Rattle.crash_spec.specs.Busy.{is_busy}
use Rattle.crash_spec.specs.Laws.{Follows}
use Rattle.crash_spec.specs.Machine.{at_rest, Began, Checkpoint, Begins, Claimed, Event, Filled, FindsFull, Fills, Finishes, Goes, is_idle, unfinished_call, is_of, is_set_up, item_for, Job, job_of, LacksSpace, Logs, Machine, may_begin, moved_on, outs, Persisted, Persists, Returns, returned, Setting, Stage, state_of, Stored, Stores, unfinished_of, with_job, with_stage, without_job, Checks, Claims}
use Rattle.crash_spec.specs.Orders.{Order}
use Rattle.crash_spec.specs.Schedules.{Advances, Course, Further, LacksSpaceInTurn, Reaches, Runs, Scheduled, SetUp, SetUpLacksSpace, Starts, Checks as ChecksInTurn}

-- ---- what holds at every moment

pub record IsSound (g : Setting) (m : Machine) : Type 0 where
  pub scripted : Scripted g.scripts m.history
  pub legal : IsLegal g.start m.history
  pub unfinished : AreUnfinished g.scripts m.history (unfinished_of m)
  pub claims : m.claims ≤ g.lines

-- ---- a call that may begin

both : (a b : Bool) → (a && b) ≡ true → (a ≡ true) × (b ≡ true)
both true b is = (refl, is)
both false b is = cc

pub record MayBegin (g : Setting) (m : Machine) (who : Who) (call : Call) : Type 0 where
  pub no_job : is_none (job_of m who) ≡ true
  pub set_up : is_set_up g m who ≡ true
  pub round : not m.over ≡ true
  pub idle : is_idle g m who call ≡ true

pub MayBegin-Begins : (g : Setting) (m : Machine) (who : Who) (call : Call) → Begins g m who call → MayBegin g m who call
unfolding may_begin
MayBegin-Begins g m who call begins =
    let last = both _ _ begins.may in
    let round = both _ _ last.0 in
    let first = both _ _ round.0 in
    record {
      no_job = first.0;
      set_up = first.1;
      round = round.1;
      idle = subst (λ (o : Option Call). option_map_or (is_idle g m who) o false ≡ true) begins.next last.1;
    }

not_true : (b : Bool) → not b ≡ true → b ≡ false
not_true true is = cc
not_true false is = refl

-- a call that waits for another's does not begin
pub Begins-idle : (g : Setting) (m : Machine) (who : Who) (call : Call) → Begins g m who call → is_busy (state_of g m) (outs m) (who, call) ≡ false
Begins-idle g m who call begins = not_true _ (MayBegin-Begins g m who call begins).idle

set_up_holds : (g : Setting) (m : Machine) (who : Who) → is_set_up g m who ≡ true → IsSetUp g.scripts m.history who
set_up_holds g m Who.Setup is = tt
set_up_holds g m (Who.Thread n) is = grind (arith, nat_tests)

pub next_holds : (g : Setting) (m : Machine) (who : Who) (call : Call) → Begins g m who call → IsNextCall g.scripts m.history (who, call)
next_holds g m who call begins = record { call = begins.next; set_up = set_up_holds g m who (MayBegin-Begins g m who call begins).set_up }

-- ---- callers

same_who-is : (a b : Who) → same_who a b ≡ true → a ≡ b
same_who-is Who.Setup Who.Setup is = refl
same_who-is Who.Setup (Who.Thread n) is = cc
same_who-is (Who.Thread m) Who.Setup is = cc
same_who-is (Who.Thread m) (Who.Thread n) is = ap Who.Thread (same m n is) where
  same : (i j : ℕ) → (i == j) ≡ true → i ≡ j
  same i j e = grind (arith, nat_tests)

apart_back : (a b : Who) → same_who a b ≡ false → same_who b a ≡ false
apart_back Who.Setup Who.Setup is = is
apart_back Who.Setup (Who.Thread n) is = refl
apart_back (Who.Thread m) Who.Setup is = refl
apart_back (Who.Thread m) (Who.Thread n) is = back m n is where
  back : (i j : ℕ) → (i == j) ≡ false → (j == i) ≡ false
  back i j e = grind (arith, nat_tests)

-- the call is not this caller's
abbrev pub IsApart : Who → Unfinished → Type 0
IsApart who c = same_who c.0 who ≡ false

-- a caller without a job has no unfinished call
no_call : (who : Who) (jobs : List Job) → is_none (find (is_of who) jobs) ≡ true → All (IsApart who) (map unfinished_call jobs)
no_call who [] none = All-nil (IsApart who)
no_call who (job ∷ jobs) none = by (is_of who job) refl none (no_call who jobs) where
  by : (b : Bool) → is_of who job ≡ b → is_none (cond b (Some job) (find (is_of who) jobs)) ≡ true
      → (is_none (find (is_of who) jobs) ≡ true → All (IsApart who) (map unfinished_call jobs)) → All (IsApart who) (map unfinished_call (job ∷ jobs))
  by true is none' rest = cc
  by false is none' rest = All-cons (IsApart who) (unfinished_call job) (map unfinished_call jobs) is (rest none')

-- ---- unfinished calls

-- without a caller's
abbrev pub other_calls : Who → List Unfinished → List Unfinished
other_calls who cs = filter (λ c. not (same_who c.0 who)) cs

calls_of_others : (who : Who) (jobs : List Job) → map unfinished_call (filter (λ job. not (is_of who job)) jobs) ≡ other_calls who (map unfinished_call jobs)
calls_of_others who [] = refl
calls_of_others who (job ∷ jobs) = by (not (is_of who job)) (calls_of_others who jobs) where
  by : (b : Bool) → map unfinished_call (filter (λ j. not (is_of who j)) jobs) ≡ other_calls who (map unfinished_call jobs)
      → map unfinished_call (cond b (job ∷ filter (λ j. not (is_of who j)) jobs) (filter (λ j. not (is_of who j)) jobs)) ≡ cond b (unfinished_call job ∷ other_calls who (map unfinished_call jobs)) (other_calls who (map unfinished_call jobs))
  by true rest = ap (λ cs. unfinished_call job ∷ cs) rest
  by false rest = rest

they_are_apart : (who : Who) (cs : List Unfinished) → All (IsApart who) (other_calls who cs)
they_are_apart who [] = All-nil (IsApart who)
they_are_apart who (c ∷ cs) = by (same_who c.0 who) refl (they_are_apart who cs) where
  by : (b : Bool) → same_who c.0 who ≡ b → All (IsApart who) (other_calls who cs) → All (IsApart who) (cond (not b) (c ∷ other_calls who cs) (other_calls who cs))
  by true is rest = rest
  by false is rest = All-cons (IsApart who) c (other_calls who cs) is rest

all_pairs_filter : (p : Unfinished → Bool) (R : Unfinished → Unfinished → Type 0) (cs : List Unfinished) → AllPairs R cs → AllPairs R (filter p cs)
all_pairs_filter p R [] all = all
all_pairs_filter p R (c ∷ cs) all = by (p c) (all_pairs_filter p R cs (λ i j d before below. all (suc i) (suc j) d (omega (arith, before)) (omega (arith, below)))) where
  first : All (R c) cs
  first k d below = all 0 (suc k) d (omega arith) (omega (arith, below))

  by : (b : Bool) → AllPairs R (filter p cs) → AllPairs R (cond b (c ∷ filter p cs) (filter p cs))
  by true rest = AllPairs-cons R c (filter p cs) (All-filter p (R c) cs first) rest
  by false rest = rest

all_in : (P : Unfinished → Type 0) (cs : List Unfinished) (c : Unfinished) → All P cs → In c cs → P c
all_in P [] c all is = absurd is
all_in P (d ∷ cs) c all (inl same) = subst P same (all 0 d (omega arith))
all_in P (d ∷ cs) c all (inr behind) = all_in P cs c (λ k e below. all (suc k) e (omega (arith, below))) behind

job_in : (jobs : List Job) (job : Job) → In job jobs → In (unfinished_call job) (map unfinished_call jobs)
job_in [] job is = is
job_in (j ∷ jobs) job (inl same) = inl (ap unfinished_call same)
job_in (j ∷ jobs) job (inr behind) = inr (job_in jobs job behind)

-- a call of another caller that has begun is the next one still, when one of this caller has returned
next_still : (scripts : Scripts) (h : List Item) (item : Item) (c : Unfinished) → IsNextCall scripts h (begun item) → IsNextCall scripts h c → IsApart item.who c → IsNextCall scripts (h ++ item ∷ []) c
next_still scripts h item c own next apart = after.next 0 c (omega arith)
  where
    none : (x : Unfinished) → AllPairs HaveTwoCallers (x ∷ [])
    none x i j d before below = absurd (omega (arith, before, below))

    two : AreUnfinished scripts h (begun item ∷ c ∷ [])
    two = record {
      next = All-cons (IsNextCall scripts h) (begun item) (c ∷ []) own (All-cons (IsNextCall scripts h) c [] next (All-nil (IsNextCall scripts h)));
      one_each = AllPairs-cons HaveTwoCallers (begun item) (c ∷ []) (All-cons (HaveTwoCallers (begun item)) c [] (apart_back c.0 item.who apart) (All-nil (HaveTwoCallers (begun item)))) (none c);
    }

    after : AreUnfinished scripts (h ++ item ∷ []) (c ∷ [])
    after = AreUnfinished-finished scripts h (begun item ∷ c ∷ []) 0 item (omega arith) refl two

-- so, where a call returns, the calls of others are unfinished still
AreUnfinished-returned : (scripts : Scripts) (h : List Item) (item : Item) (cs : List Unfinished) → IsNextCall scripts h (begun item) → AreUnfinished scripts h cs → All (IsApart item.who) cs
    → AreUnfinished scripts (h ++ item ∷ []) cs
AreUnfinished-returned scripts h item cs own are apart = record {
  next = λ k d below. next_still scripts h item _ own (are.next k d below) (apart k d below);
  one_each = are.one_each;
}

AreUnfinished-others : (scripts : Scripts) (h : List Item) (who : Who) (cs : List Unfinished) → AreUnfinished scripts h cs → AreUnfinished scripts h (other_calls who cs)
AreUnfinished-others scripts h who cs are = record {
  next = All-filter (λ (c : Unfinished). not (same_who c.0 who)) (IsNextCall scripts h) cs are.next;
  one_each = all_pairs_filter (λ c. not (same_who c.0 who)) HaveTwoCallers cs are.one_each;
}

-- ---- one event

-- an item is added, and with it no call of its caller is unfinished
sound_returned : (g : Setting) (m : Machine) (who : Who) (call : Call) → IsSound g m → IsNextCall g.scripts m.history (who, call) → All (IsApart who) (unfinished_of m) → IsSound g (returned g m who call)
sound_returned g m who call sound next apart = record {
  scripted = Scripted-append g.scripts m.history (item_for g m who call) sound.scripted (IsNext-item g.scripts m.history (item_for g m who call) next refl);
  legal = IsLegal-append g.start m.history (item_for g m who call) sound.legal refl;
  unfinished = AreUnfinished-returned g.scripts m.history (item_for g m who call) (unfinished_of m) next sound.unfinished apart;
  claims = sound.claims;
}

sound_without : (g : Setting) (m : Machine) (who : Who) → IsSound g m → IsSound g (without_job m who)
sound_without g m who sound = record {
  scripted = sound.scripted;
  legal = sound.legal;
  unfinished = subst (AreUnfinished g.scripts m.history) (sym (calls_of_others who m.jobs)) (AreUnfinished-others g.scripts m.history who (unfinished_of m) sound.unfinished);
  claims = sound.claims;
}

same_calls : (who : Who) (stage : Stage) (jobs : List Job) → map unfinished_call (map (moved_on who stage) jobs) ≡ map unfinished_call jobs
same_calls who stage [] = refl
same_calls who stage (job ∷ jobs) = by (is_of who job) (same_calls who stage jobs) where
  by : (b : Bool) → map unfinished_call (map (moved_on who stage) jobs) ≡ map unfinished_call jobs
      → unfinished_call (cond b (record job { stage = stage }) job) ∷ map unfinished_call (map (moved_on who stage) jobs) ≡ unfinished_call job ∷ map unfinished_call jobs
  by true rest = ap (λ cs. unfinished_call job ∷ cs) rest
  by false rest = ap (λ cs. unfinished_call job ∷ cs) rest

sound_stage : (g : Setting) (m : Machine) (who : Who) (stage : Stage) → IsSound g m → IsSound g (with_stage m who stage)
sound_stage g m who stage sound = record {
  scripted = sound.scripted;
  legal = sound.legal;
  unfinished = subst (AreUnfinished g.scripts m.history) (sym (same_calls who stage m.jobs)) sound.unfinished;
  claims = sound.claims;
}

sound_logged : (g : Setting) (m : Machine) (job : Job) → IsSound g m → IsNextCall g.scripts m.history (unfinished_call job) → All (IsApart job.who) (unfinished_of m) → IsSound g (with_job m job)
sound_logged g m job sound next apart = record {
  scripted = sound.scripted;
  legal = sound.legal;
  unfinished = subst (AreUnfinished g.scripts m.history) (sym (map-append unfinished_call m.jobs (job ∷ [])))
      (AreUnfinished-begun g.scripts m.history (unfinished_of m) (unfinished_call job) sound.unfinished next apart);
  claims = sound.claims;
}

-- the job of a caller is its next call
pub job_next : (g : Setting) (m : Machine) (who : Who) (job : Job) → IsSound g m → job_of m who ≡ Some job → IsNextCall g.scripts m.history (who, job.call)
job_next g m who job sound is =
    let found = find-In (is_of who) m.jobs job is in
    let own : job.who ≡ who = same_who-is job.who who found.1 in
    subst (λ (w : Who). IsNextCall g.scripts m.history (w, job.call)) own
    (all_in (IsNextCall g.scripts m.history) (unfinished_of m) (unfinished_call job) sound.unfinished.next (job_in m.jobs job found.0))

no_call_left : (m : Machine) (who : Who) → All (IsApart who) (unfinished_of (without_job m who))
no_call_left m who = subst (All (IsApart who)) (sym (calls_of_others who m.jobs)) (they_are_apart who (unfinished_of m))

pub IsSound-Goes : (g : Setting) (m next : Machine) (e : Event) → IsSound g m → Goes g m e next → IsSound g next
IsSound-Goes g m next e sound (Returns who call begins plain) =
    sound_returned g m who call sound (next_holds g m who call begins) (no_call who m.jobs (MayBegin-Begins g m who call begins).no_job)
IsSound-Goes g m next e sound (Logs who call node begins logged waits) =
    sound_logged g m (record { who = who; call = call; node = node; stage = Began }) sound (next_holds g m who call begins) (no_call who m.jobs (MayBegin-Begins g m who call begins).no_job)
IsSound-Goes g m next e sound (Fills who job at) = sound_stage g m who Filled sound
IsSound-Goes g m next e sound (Claims who job at free) =
    let staged = sound_stage g m who Claimed sound in
    record { scripted = staged.scripted; legal = staged.legal; unfinished = staged.unfinished; claims = omega (arith, free) }
IsSound-Goes g m next e sound (FindsFull who job at full) =
    let rest = sound_without g m who sound in
    record { scripted = rest.scripted; legal = rest.legal; unfinished = rest.unfinished; claims = rest.claims }
IsSound-Goes g m next e sound (Stores who job at) = sound_stage g m who Stored sound
IsSound-Goes g m next e sound (Persists who job at) = sound_stage g m who Persisted sound
IsSound-Goes g m next e sound (Finishes who job at) = sound_returned g (without_job m who) who job.call (sound_without g m who sound) (job_next g m who job sound at.is) (no_call_left m who)
IsSound-Goes g m next e sound (Checks over none) =
    record { scripted = sound.scripted; legal = sound.legal; unfinished = sound.unfinished; claims = omega arith }

-- a round that is over for want of space changes nothing else
IsSound-LacksSpace : (g : Setting) (m next : Machine) (who : Who) → IsSound g m → LacksSpace g m who next → IsSound g next
IsSound-LacksSpace g m next who sound lacks =
    subst (IsSound g) (sym lacks.next_is) (record { scripted = sound.scripted; legal = sound.legal; unfinished = sound.unfinished; claims = sound.claims })

-- ---- all events

IsSound-start : (g : Setting) → IsSound g at_rest
IsSound-start g = record { scripted = tt; legal = tt; unfinished = AreUnfinished-none g.scripts []; claims = omega arith }

IsSound-Advances : (g : Setting) (order : Order) (c next : Course) (more : ℕ) → IsSound g c.machine → Advances g order c more next → IsSound g next.machine
IsSound-Advances g order c next more sound (SetUp e m own goes) = IsSound-Goes g c.machine m e sound goes
IsSound-Advances g order c next more sound (SetUpLacksSpace m lacks) = IsSound-LacksSpace g c.machine m Who.Setup sound lacks
IsSound-Advances g order c next more sound (Runs n e m picker picks own goes) = IsSound-Goes g c.machine m e sound goes
IsSound-Advances g order c next more sound (LacksSpaceInTurn n m picker picks lacks) = IsSound-LacksSpace g c.machine m (Who.Thread n) sound lacks
IsSound-Advances g order c next more sound (ChecksInTurn m left goes) = IsSound-Goes g c.machine m _ sound goes

pub IsSound-Reaches : (g : Setting) (order : Order) (events : ℕ) (c : Course) → Reaches g order events c → IsSound g c.machine
IsSound-Reaches g order events c Starts = IsSound-start g
IsSound-Reaches g order events c (Further before more d next reached advances) = IsSound-Advances g order d next more (IsSound-Reaches g order before d reached) advances

-- ---- what a schedule leaves

pub Follows-Scheduled : (g : Setting) (order : Order) (events : ℕ) (history : List Item) (unfinished : List Unfinished) → Scheduled g order events history unfinished → Follows g history unfinished
Follows-Scheduled g order events history unfinished is =
    let sound = IsSound-Reaches g order events is.course is.reached in
    subst (λ (h : List Item). Follows g h unfinished) (sym is.history_is)
    (subst (λ (cs : List Unfinished). Follows g is.course.machine.history cs) (sym is.unfinished_is)
    (record { scripted = sound.scripted; legal = sound.legal; open_calls = sound.unfinished }))

pub claims_fit : (g : Setting) (order : Order) (events : ℕ) (c : Course) → Reaches g order events c → c.machine.claims ≤ g.lines
claims_fit g order events c reached = (IsSound-Reaches g order events c reached).claims

-- a Checkpoint comes where the round is over and no call is out
pub Checkpoint-idle : (g : Setting) (m next : Machine) → Goes g m Checkpoint next → (m.over ≡ true) × (m.jobs ≡ [])
Checkpoint-idle g m next (Checks over none) = (over, none)
