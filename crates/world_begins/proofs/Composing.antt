-- What is staged of the file of a call is published, and then the call goes on: how it began, from before the publishing on.
use Rattle.std.specs.Prelude.{◌||◌, ◌≡◌, ◌≤◌, ◌+◌, ◌^◌, ℕ, Bool, true, false, if◌then◌else◌, List, Option, None, Some, IsSome, unwrap_or, Result, Ok, Err, refl}
use Rattle.std.proofs.Common.{arith, ap, ◌∙◌, sym, subst, inl, inr}
use Rattle.pm_lines.specs.pm_model.PowerLaws.{Steps-then}
use Rattle.pm_lines.specs.pm_model.Powers.{Steps, Supply}
use Rattle.world_parts.specs.k_journal.Commits.{TakesAStep}
use Rattle.world_parts.specs.list_laws.Members.{In}
use Rattle.posix_types.specs.declared.call.Call.{Call}
use Rattle.posix_types.specs.declared.call.Mode.{Mode}
use Rattle.posix_types.specs.declared.call.Who.{Who}
use Rattle.posix_types.specs.declared.handle.Handle.{Handle}
use Rattle.std.specs.Option.{option_map_or}
use Rattle.world_parts.specs.crash_spec.Busy.{is_logged, is_logged_put}
use Rattle.world_parts.specs.posix_tables.Open.{opened, Tables}
use Rattle.world_parts.specs.in_flight.Costs.{most_of_call}
use Rattle.world_parts.specs.posix_spec.Afforded.{is_posix, moves_data}
use Rattle.world_parts.specs.posix_spec.Put.{Put, put_by}
use Rattle.world_parts.specs.posix_spec.State.{State}
use Rattle.world_parts.proofs.world_view_laws_proofs.Holes.{no_holes, unput_holes, unput_in_place}
use Rattle.call_laws.specs.write_begin.write_plan.AsksLaws.{call_of}
use Rattle.world_parts.specs.world_view_laws.Begins.{Begins, IsNeed, IsOfOpenFile, LosesCall, OthersStay, Publishes, Returns, WantsMemory}
use Rattle.world_parts.specs.world_view_laws.file_calls.declared.names.outcomes.NoMemory.{NoMemory}
use Rattle.world_parts.specs.world_view_laws.Views.{Disk, state_of, WorldView}
use Rattle.world_parts.specs.declared.outcomes.Begun.{Begun}
use Rattle.world_parts.specs.Answers.{IsBegun}
use Rattle.world_begins.specs.Runs.{HasRoom, IsBegunNow, PutsNothing}
use Rattle.world_begins.specs.Turns.{publishes_by}

-- ---- a call that puts no bytes needs no room, but for a `truncate`

plain_unput : (s : State) (who : Who) (call : Call) → PutsNothing call → put_by s who call ≡ None
unfolding put_by
plain_unput s who (Call.Write h x) plain = absurd plain
plain_unput s who (Call.Pwrite h place x) plain = absurd plain
plain_unput s who call plain = refl

-- it is not logged
plain_unlogged : (s : State) (who : Who) (call : Call) → PutsNothing call → is_logged s (who, call) ≡ false
plain_unlogged s who call plain = ap (λ (m : Option Put). option_map_or (is_logged_put s.mode s) m false) (plain_unput s who call plain)

-- and only what is logged needs room
logged_need : (w : WorldView) (who : Who) (call : Call) (need : ℕ) → ((h : Handle) (size : ℕ) → call ≡ Call.Truncate h size → ⊥) → IsNeed w who call need → is_logged (state_of w) (who, call) ≡ true
logged_need w who (Call.Truncate h size) need other is = absurd (other h size refl)
logged_need w who call need other is = is.0

pub needs_none : (w : WorldView) (who : Who) (call : Call) → PutsNothing call → ((h : Handle) (size : ℕ) → call ≡ Call.Truncate h size → ⊥) → HasRoom w who call
needs_none w who call plain other need left lacks =
    let never : false ≡ true = sym (plain_unlogged (state_of w) who call plain) ∙ logged_need w who call need other lacks.need_is in
    cc

-- ---- over another device

-- an `fsync` of an open file, with the same tables
of_file_from : (w : WorldView) (d : Disk) (who : Who) (call : Call) → d.tables ≡ w.disk.tables → IsOfOpenFile who call (record w { disk = d }) → IsOfOpenFile who call w
of_file_from w d who (Call.Fsync h) tables is = λ ok. subst (λ (t : Tables). IsSome (opened t who h)) tables (is ok)
of_file_from w d who call tables is = tt

-- an `fsync` that published its file, with the same tables and claims before it
published_from : (w v new : WorldView) (who : Who) (call : Call) → v.disk.tables ≡ w.disk.tables → v.claims ≡ w.claims → Publishes who call v new → Publishes who call w new
published_from w v new who (Call.Fsync h) tables claims is = λ file slot d known at.
    is file slot d (ap (λ (t : Tables). opened t who h) tables ∙ known) (subst (In (slot, d)) (sym claims) at)
published_from w v new who call tables claims is = tt

pub published_again : (w v : WorldView) (who : Who) (call : Call) → v.disk.tables ≡ w.disk.tables → v.claims ≡ w.claims → Publishes who call w v → Publishes who call v v
published_again w v who (Call.Fsync h) tables claims is = λ file slot d known at.
    is file slot d (ap (λ (t : Tables). opened t who h) (sym tables) ∙ known) (subst (In (slot, d)) claims at)
published_again w v who call tables claims is = tt

-- the room of a call, with the same history and jobs
need_on : (w : WorldView) (d e : Disk) (who : Who) (call : Call) (need : ℕ) → IsNeed (record w { disk = d }) who call need → IsNeed (record w { disk = e }) who call need
need_on w d e who (Call.Truncate h size) need is = is
need_on w d e who call need is = is

room_on : (w : WorldView) (d e : Disk) (who : Who) (call : Call) → HasRoom (record w { disk = d }) who call → HasRoom (record w { disk = e }) who call
room_on w d e who call room need left lacks = room need left (record { need_is = need_on w e d who call need lacks.need_is; left_is = lacks.left_is; fits = lacks.fits; lacks = lacks.lacks })

pub room_then : (w v : WorldView) (who : Who) (call : Call) → v ≡ record w { disk = v.disk } → HasRoom w who call → HasRoom v who call
room_then w v who call same room = subst (λ (x : WorldView). HasRoom x who call) (sym same) (room_on w w.disk v.disk who call room)

-- ---- how it began

module _ (w : WorldView) (d : Disk) (who : Who) (call : Call) (begins : Begins w who call) (plain : PutsNothing call) (tables : d.tables ≡ w.disk.tables) (staging : d.staging ≡ w.disk.staging) where
  abbrev pub middle : WorldView
  middle = record w { disk = d }

  begins_back : (c : Call) → Begins middle who c → Begins w who c
  begins_back c begins = record { next = begins.next; going = begins.going; awake = begins.awake; idle = begins.idle }

  -- it is this one
  same_call : (c : Call) → Begins middle who c → c ≡ call
  same_call c its = ap (λ (o : Option Call). unwrap_or o c) (sym its.next ∙ begins.next)

  puts_none : (c : Call) → Begins middle who c → put_by (state_of w) who c ≡ None
  puts_none c its = plain_unput (state_of w) who c (subst PutsNothing (sym (same_call c its)) plain)

  module _ (new : WorldView) (stay : OthersStay w middle who) where
    stay_back : OthersStay middle new who → OthersStay w new who
    stay_back rest = (λ q job apart is. rest.0 q job apart (stay.0 q job apart is), λ q job apart is. rest.1 q job apart (stay.1 q job apart is))

    returns_back : (first before after : Supply) → (TakesAStep before after → TakesAStep first after) → Returns who middle new before after → Returns who w new first after
    returns_back first before after steps is = record {
      call = is.call;
      begins = begins_back is.call is.begins;
      unlogged = is.unlogged;
      new_is = is.new_is;
      enough = room_on w d w.disk who is.call is.enough;
      holes = no_holes w who is.call (unput_holes w who is.call (puts_none is.call is.begins));
      published = published_from w middle new who is.call tables refl is.published;
      of_file = of_file_from w d who is.call tables is.of_file;
      staging = λ mode. is.staging mode ∙ staging;
      in_place = λ mode. unput_in_place w who is.call new.disk (puts_none is.call is.begins);
      stay = stay_back is.stay;
      on = is.on;
      spent = λ mode. elim (is.spent mode) [ inl same ↦ inl same | inr step ↦ inr (steps step) ];
    }

    loses_back : (after : Supply) → LosesCall who middle new after → LosesCall who w new after
    loses_back after is = record { call = is.call; next = is.next; awake = is.awake; new_is = is.new_is; stay = stay_back is.stay; off = is.off }

    wants_back : (after : Supply) → WantsMemory middle new after → WantsMemory w new after
    wants_back after is = record { awake = is.awake; on = is.on; new_is = is.new_is }

    -- HOW IT BEGAN, from before the publishing on
    begun_back : (first before after : Supply) → (TakesAStep before after → TakesAStep first after) → (r : Result Begun NoMemory) → IsBegunNow who middle new before after r → IsBegun who w new first after r
    begun_back first before after steps (Ok Begun.Done) is = returns_back first before after steps is
    begun_back first before after steps (Ok (Begun.Job job)) is = absurd is
    begun_back first before after steps (Ok (Begun.Busy ino holder)) is = absurd is
    begun_back first before after steps (Ok (Begun.RoundOver over)) is = absurd is
    begun_back first before after steps (Ok Begun.PowerLost) is = inr (inl (loses_back after is, inr (call, begins)))
    begun_back first before after steps (Ok Begun.ScriptEnd) is = absurd is
    begun_back first before after steps (Err e) is = inl (wants_back after is)

-- so it is at any view that differs in what stands below alone
pub begun_first : (w v new : WorldView) (who : Who) (call : Call) → PutsNothing call → Begins w who call → v ≡ record w { disk = v.disk } → v.disk.tables ≡ w.disk.tables → v.disk.staging ≡ w.disk.staging → OthersStay w v who
    → (first before after : Supply) → (TakesAStep before after → TakesAStep first after) → (r : Result Begun NoMemory) → IsBegunNow who v new before after r → IsBegun who w new first after r
begun_first w v new who call plain begins same tables staging stay first before after steps r is =
    begun_back w v.disk who call begins plain tables staging new (subst (λ (x : WorldView). OthersStay w x who) same stay) first before after steps r (subst (λ (x : WorldView). IsBegunNow who x new before after r) same is)

-- ---- a World to be dropped, and steps

-- a World that is only to be dropped is not usable
pub dropped : (old new : WorldView) (after : Supply) → WantsMemory old new after → new.usable ≡ true → (X : Type 0) → X
dropped old new after wants usable X = (let never : true ≡ false = sym usable ∙ ap (λ (w : WorldView). w.usable) wants.new_is in cc)

-- a step behind some steps
pub later_step : (n : ℕ) (first before after : Supply) → Steps n first before → TakesAStep before after → TakesAStep first after
later_step n first before after steps step given is = (let later = step given (steps.given ∙ is) in omega (arith, later, steps.later))

-- ---- the steps of both

-- a call that publishes first moves data
publishing_moves : (call : Call) → publishes_by call ≡ true → moves_data call ≡ true
publishing_moves (Call.Fsync h) is = refl
publishing_moves (Call.Truncate h size) is = refl
publishing_moves (Call.Open h path flags) is = is
publishing_moves call is = (let never : false ≡ true = is in cc)

both_fit : (p m : Bool) → (p ≡ true → m ≡ true) → (if p then 2 ^ 25 + 2 ^ 15 else 0) + (if m then 2 ^ 16 else 512) ≤ (if m then 2 ^ 26 else 512)
both_fit true true moves = omega arith
both_fit false true moves = omega arith
both_fit false false moves = omega arith
both_fit true false moves = (let never : false ≡ true = moves refl in cc)

-- in POSIX mode as many as for a call that moves data
by_mode : (posix m : Bool) → (if m then 2 ^ 26 else 512) ≤ (if posix || m then 2 ^ 26 else 512)
by_mode true true = omega arith
by_mode true false = omega arith
by_mode false m = omega arith

fits : (mode : Mode) (call : Call) → (if publishes_by call then 2 ^ 25 + 2 ^ 15 else 0) + (if moves_data call then 2 ^ 16 else 512) ≤ most_of_call mode call
fits mode call =
    let one = both_fit (publishes_by call) (moves_data call) (publishing_moves call) in
    let most = by_mode (is_posix mode) (moves_data call) in
    omega (arith, one, most)

pub both_steps : (mode : Mode) (call same : Call) (first before after : Supply) → same ≡ call → Steps (if publishes_by call then 2 ^ 25 + 2 ^ 15 else 0) first before
    → Steps (if moves_data same then 2 ^ 16 else 512) before after → Steps (most_of_call mode call) first after
both_steps mode call same first before after is published ran =
    let next : Steps (if moves_data call then 2 ^ 16 else 512) before after = subst (λ (c : Call). Steps (if moves_data c then 2 ^ 16 else 512) before after) is ran in
    let both = Steps-then (if publishes_by call then 2 ^ 25 + 2 ^ 15 else 0) (if moves_data call then 2 ^ 16 else 512) first before after published next in
    let most = fits mode call in
    record { given = both.given; on_before = both.on_before; later = both.later; bound = omega (arith, both.bound, most) }

pub first_steps : (mode : Mode) (call : Call) (first after : Supply) → Steps (if publishes_by call then 2 ^ 25 + 2 ^ 15 else 0) first after → Steps (most_of_call mode call) first after
first_steps mode call first after published =
    let most = fits mode call in
    record { given = published.given; on_before = published.on_before; later = published.later; bound = omega (arith, published.bound, most) }

-- ---- the steps of a write

put_moves : (h : Handle) (at : Option ℕ) (x : List ℕ) → moves_data (call_of h at x) ≡ true
put_moves h None x = refl
put_moves h (Some place) x = refl

pub put_steps : (mode : Mode) (h : Handle) (at : Option ℕ) (x : List ℕ) (call : Call) (before after : Supply) → call ≡ call_of h at x → Steps (2 ^ 21) before after → Steps (most_of_call mode call) before after
put_steps mode h at x call before after is steps =
    let moves : moves_data call ≡ true = ap moves_data is ∙ put_moves h at x in
    let most : (if moves_data call then 2 ^ 26 else 512) ≡ 2 ^ 26 = ap (λ (b : Bool). if b then 2 ^ 26 else 512) moves in
    let least = by_mode (is_posix mode) (moves_data call) in
    record { given = steps.given; on_before = steps.on_before; later = steps.later; bound = omega (arith, steps.bound, most, least) }
