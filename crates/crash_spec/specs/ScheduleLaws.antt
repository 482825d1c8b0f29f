-- The laws that leave a schedule no choice but one: where a Begin finds the round over for want of space.
use Rattle.std.specs.Prelude.{◌≡◌, ℕ, ◌+◌, ◌-◌, ◌≤◌, Bool, true, false, List, All}
use Rattle.posix_laws.specs.posix_types.declared.call.Call.{Call}
use Rattle.posix_laws.specs.posix_types.declared.call.Who.{Who}
use Rattle.posix_laws.specs.posix_types.declared.item.Item.{Item}
use Rattle.posix_laws.specs.posix_spec.Run.{Unfinished}
use Rattle.posix_laws.specs.posix_spec.Scripted.{script_of}
use Rattle.crash_spec.specs.Machine.{Setting, unfinished_of}
use Rattle.crash_spec.specs.Orders.{Order}
use Rattle.crash_spec.specs.Schedules.{Advances, Course, Further, Reaches, Scheduled, Starts}

-- one event leads on to one course
abbrev pub OneEventFollows : Type 0
OneEventFollows =
    (g : Setting) (order : Order) (events : ℕ) (c d e : Course) → Reaches g order events c → Advances g order c 1 d → Advances g order c 1 e → d ≡ e

-- no Begin on the way found the round over for want of space: each step is an event
abbrev pub NeverLacksSpace : (g : Setting) (order : Order) (events : ℕ) (c : Course) → Reaches g order events c → Type 0
NeverLacksSpace g order events c Starts = Unit {0}
NeverLacksSpace g order events c (Further before more d next reached advances) = (more ≡ 1) × NeverLacksSpace g order before d reached

-- how many did
abbrev pub wants : (g : Setting) (order : Order) (events : ℕ) (c : Course) → Reaches g order events c → ℕ
wants g order events c Starts = 0
wants g order events c (Further before more d next reached advances) = wants g order before d reached + (1 - more)

-- they are no more than the events: one comes only where a call has begun since the start or the last Checkpoint
abbrev pub WantsAreFew : Type 0
WantsAreFew = (g : Setting) (order : Order) (events : ℕ) (c : Course) (reached : Reaches g order events c) → wants g order events c reached ≤ events

-- without want of space, as many events lead to one course
abbrev pub OneCourse : Type 0
OneCourse =
    (g : Setting) (order : Order) (events : ℕ) (c d : Course) (one : Reaches g order events c) (other : Reaches g order events d)
    → NeverLacksSpace g order events c one → NeverLacksSpace g order events d other → c ≡ d

-- the calls that may want space
abbrev pub may_write : Call → Bool
may_write (Call.Write h x) = true
may_write (Call.Pwrite h o x) = true
may_write (Call.Truncate h n) = true
may_write call = false

abbrev pub NobodyWrites : Setting → Type 0
NobodyWrites g = (who : Who) → All (λ call. may_write call ≡ false) (script_of g.scripts who)

-- where no script has such a call, as many events lead to one course
abbrev pub NoChoiceWithoutWrites : Type 0
NoChoiceWithoutWrites =
    (g : Setting) (order : Order) (events : ℕ) (c d : Course) → NobodyWrites g → Reaches g order events c → Reaches g order events d → c ≡ d

-- So many events leave this and nothing else, but for what comes of wants of space.
pub record IsTheSchedule (g : Setting) (order : Order) (events : ℕ) (history : List Item) (unfinished : List Unfinished) : Type 0 where
  pub is_scheduled : Scheduled g order events history unfinished
  pub no_other : (c : Course) (reached : Reaches g order events c) → NeverLacksSpace g order events c reached → (c.machine.history ≡ history) × (unfinished_of c.machine ≡ unfinished)

-- So many events leave this and nothing else.
pub record IsTheOnlySchedule (g : Setting) (order : Order) (events : ℕ) (history : List Item) (unfinished : List Unfinished) : Type 0 where
  pub is_scheduled : Scheduled g order events history unfinished
  pub no_other : (other : List Item) (calls : List Unfinished) → Scheduled g order events other calls → (other ≡ history) × (calls ≡ unfinished)
