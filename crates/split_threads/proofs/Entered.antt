-- What a worker does inside the turn: what it finds, what it may leave, and its view behind it.
use Rattle.std.specs.Prelude.{◌≡◌, ◌<◌, ℕ, true, false, [], ◌∷◌, Some, None, Ok, refl}
use Rattle.std.proofs.Common.{ap, ◌∙◌, sym, subst, inl, inr}
use Rattle.atomic_table.specs.Seated.{TableId}
use Rattle.ruled_turn.specs.Passes.{entered, inside_pass, outside_pass, PassView}
use Rattle.thread_laws.specs.world_view_laws.in_flight.Costs.{most_of}
use Rattle.thread_laws.specs.world_view_laws.pm_model.Powers.{Steps, Supply}
use Rattle.thread_laws.specs.world_view_laws.oplog_entry.layout_model.declared.lines.Draft.{Draft}
use Rattle.thread_laws.specs.world_view_laws.declared.views.over.Over.{Over}
use Rattle.thread_laws.specs.declared.works.Next.{Next}
use Rattle.thread_laws.specs.world_view_laws.posix_types.declared.call.Who.{Who}
use Rattle.thread_laws.specs.world_view_laws.write_jobs.Jobs.{FilledView}
use Rattle.thread_laws.specs.world_view_laws.Jobs.{IsOfWorld}
use Rattle.thread_laws.specs.world_view_laws.Views.{next_of, WorldView}
use Rattle.split_world.specs.world_parts.Answers.{IsBegun, IsFinished}
use Rattle.split_world.specs.world_parts.declared.outcomes.Begun.{Begun}
use Rattle.split_world.specs.world_parts.declared.outcomes.Finished.{Finished}
use Rattle.thread_laws.specs.Hands.{HandView, Lap}
use Rattle.thread_laws.specs.Moves.{Knows, MayLeave, next_hand}
use Rattle.thread_laws.specs.MovesLaws.{AreFewActs, BegunMayLeave, FilledIsHere, GoneMayBeFound, next_by}
use Rattle.thread_laws.specs.States.{HasFilledJob, IsIdle, IsShownSetUp}
use Rattle.thread_laws.specs.Works.{HasDropped, HasEnded, HasLooked, HasTold}
use Rattle.split_threads.specs.Rules.{gone_hand, KnowsHeld, May, next_view}
use Rattle.split_threads.specs.declared.turns.Held.{Held}

-- ---- passes

pub inside_is : (turn : TableId) (i : ℕ) (v : HandView) (x : Held) (p q : PassView Held HandView) → p ≡ outside_pass turn i v → q ≡ entered p x → q ≡ inside_pass turn i v x
inside_is turn i v x p q outside is = is ∙ ap (λ (r : PassView Held HandView). entered r x) outside

-- WHAT `leave` ASKS FOR
pub may_be_left : (turn : TableId) (i : ℕ) (v : HandView) (x y : Held) (q : PassView Held HandView) → q ≡ inside_pass turn i v x → May v x y
    → (j : ℕ) × (u : HandView) × (z : Held) × (q.carried ≡ (j, u) ∷ []) × (q.inside ≡ Some z) × May u z y
may_be_left turn i v x y q inside may = (i, v, x, ap (λ (r : PassView Held HandView). r.carried) inside, ap (λ (r : PassView Held HandView). r.inside) inside, may)

-- and what it leaves
abbrev pub Leaves : PassView Held HandView → PassView Held HandView → Held → Type 0
Leaves q r y = (i : ℕ) (v : HandView) (x : Held) → q.carried ≡ (i, v) ∷ [] → q.inside ≡ Some x → r ≡ outside_pass q.turn i (next_view v x y)

pub left_is : (turn : TableId) (i : ℕ) (v : HandView) (x y : Held) (q r : PassView Held HandView) → q ≡ inside_pass turn i v x → Leaves q r y → r ≡ outside_pass turn i (next_view v x y)
left_is turn i v x y q r inside leaves =
    leaves i v x (ap (λ (p : PassView Held HandView). p.carried) inside) (ap (λ (p : PassView Held HandView). p.inside) inside)
    ∙ ap (λ (p : PassView Held HandView). outside_pass p.turn i (next_view v x y)) inside

-- ---- the World is gone

pub may_be_gone : (v : HandView) (x : Held) → May v x Held.Gone
may_be_gone v (Held.Here w power) = tt
may_be_gone v Held.Gone = refl

gone_next : (v : HandView) (x : Held) → next_view v x Held.Gone ≡ gone_hand v
gone_next v (Held.Here w power) = refl
gone_next v Held.Gone = refl

-- the view is that of who found it gone, or left it so
pub left_gone : (turn : TableId) (i : ℕ) (v : HandView) (x : Held) (q r : PassView Held HandView) → q ≡ inside_pass turn i v x → Leaves q r Held.Gone → r ≡ outside_pass turn i (gone_hand v)
left_gone turn i v x q r inside leaves = left_is turn i v x Held.Gone q r inside leaves ∙ ap (λ (u : HandView). outside_pass turn i u) (gone_next v x)

-- ---- it is there

pub knows_here : (x : Held) (w : WorldView) (power : Supply) (v : HandView) → x ≡ Held.Here w power → KnowsHeld x v → Knows w power v
knows_here x w power v is knows = subst (λ (y : Held). KnowsHeld y v) is knows

-- what it may leave, and the view then
pub may_here : (v : HandView) (x : Held) (w new : WorldView) (before after : Supply) → x ≡ Held.Here w before → MayLeave v w new before after → May v x (Held.Here new after)
may_here v x w new before after is may = subst (λ (y : Held). May v y (Held.Here new after)) (sym is) may

pub left_here : (turn : TableId) (i : ℕ) (v : HandView) (x : Held) (w new : WorldView) (before after : Supply) (q r : PassView Held HandView) → x ≡ Held.Here w before → q ≡ inside_pass turn i v x
    → Leaves q r (Held.Here new after) → r ≡ outside_pass turn i (next_hand v w new)
left_here turn i v x w new before after q r is inside leaves =
    left_is turn i v x (Held.Here new after) q r inside leaves ∙ ap (λ (y : Held). outside_pass turn i (next_view v y (Held.Here new after))) is

-- ---- a call begins

-- its caller is the view's
own_idle : (who : Who) (v : HandView) → IsIdle who v → IsIdle v.who v
own_idle who v idle = record {
  who_is = refl;
  none_out = idle.none_out;
  none_begun = idle.none_begun;
  set_up = subst (λ (x : Who). IsShownSetUp x v.last) (sym idle.who_is) idle.set_up;
}

pub begun_left : BegunMayLeave → (v : HandView) (who : Who) (w new : WorldView) (before after : Supply) (begun : Begun) → Knows w before v → IsIdle who v
    → Steps (most_of w.start.mode (next_of w who)) before after → AreFewActs new → IsBegun who w new before after (Ok begun)
    → MayLeave v w new before after × HasLooked v (next_hand v w new) (next_by begun)
begun_left law v who w new before after begun knows idle steps few is =
    law v w new before after begun knows (own_idle who v idle) (subst (λ (x : Who). Steps (most_of w.start.mode (next_of w x)) before after) (sym idle.who_is) steps) few
    (subst (λ (x : Who). IsBegun x w new before after (Ok begun)) (sym idle.who_is) is)

-- ---- a job ends

pub slot_here : (w : WorldView) (power : Supply) (v : HandView) (slot : ℕ) → Knows w power v → slot < v.lap.geometry.log → slot < w.geometry.log
slot_here w power v slot knows below = subst (λ (l : Lap). slot < l.geometry.log) (sym knows.view.lap) below

pub capacity_here : (w : WorldView) (power : Supply) (v : HandView) (capacity : ℕ) → Knows w power v → capacity ≡ v.lap.geometry.log → capacity ≡ w.geometry.log
capacity_here w power v capacity knows is = is ∙ sym (ap (λ (l : Lap). l.geometry.log) knows.view.lap)

pub of_world : FilledIsHere → (w : WorldView) (power : Supply) (v : HandView) (job : FilledView) → Knows w power v → HasFilledJob v job → IsOfWorld w job
of_world law w power v job knows has = let p = law w power v job knows has in (p.0, p.2)

-- ---- a World that goes on goes on

usable_is : (old new : WorldView) → new.usable ≡ old.usable → old.usable ≡ true → new.usable ≡ true
usable_is old new same usable = same ∙ usable

pub usable_begun : (who : Who) (old new : WorldView) (before after : Supply) (begun : Begun) → IsBegun who old new before after (Ok begun) → old.usable ≡ true → new.usable ≡ true
usable_begun who old new before after Begun.Done is usable = ap (λ (w : WorldView). w.usable) is.new_is ∙ usable
usable_begun who old new before after (Begun.Job job) is usable = ap (λ (w : WorldView). w.usable) is.new_is ∙ usable
usable_begun who old new before after (Begun.Busy ino holder) is usable = ap (λ (w : WorldView). w.usable) is.same ∙ usable
usable_begun who old new before after (Begun.RoundOver (Over.Lap full)) is usable = ap (λ (w : WorldView). w.usable) is.3 ∙ usable
usable_begun who old new before after (Begun.RoundOver (Over.Space need left)) (inl is) usable = ap (λ (w : WorldView). w.usable) is.3 ∙ usable
usable_begun who old new before after (Begun.RoundOver (Over.Space need left)) (inr is) usable = ap (λ (w : WorldView). w.usable) is.new_is ∙ usable
usable_begun who old new before after Begun.PowerLost (inl is) usable = ap (λ (w : WorldView). w.usable) is.1 ∙ usable
usable_begun who old new before after Begun.PowerLost (inr (inl is)) usable = ap (λ (w : WorldView). w.usable) is.0.new_is ∙ usable
usable_begun who old new before after Begun.PowerLost (inr (inr is)) usable = ap (λ (w : WorldView). w.usable) is.2 ∙ usable
usable_begun who old new before after Begun.ScriptEnd is usable = ap (λ (w : WorldView). w.usable) is.2 ∙ usable

pub usable_finished : (job : FilledView) (slot : ℕ) (old new : WorldView) (power : Supply) (finished : Finished) → IsFinished job slot old new power finished → IsOfWorld old job → old.usable ≡ true
    → new.usable ≡ true
usable_finished job slot old new power Finished.Done is of usable = ap (λ (w : WorldView). w.usable) (is of.0 of.1).new_is ∙ usable
usable_finished job slot old new power Finished.PowerLost is of usable = ap (λ (w : WorldView). w.usable) (is of.0 of.1).new_is ∙ usable

-- ---- whatever who finds the World gone came for

-- no entry of a job
no_draft : Draft
no_draft = record { count = 0; order = 0; ino = 0; generation = 0; file_block = 0; staging = 0; staging_block = 0; staging_generation = 0; size = 0 }

pub gone_looks : GoneMayBeFound → (v : HandView) → v.begun ≡ None → v.out ≡ None → HasLooked v (gone_hand v) Next.Over
gone_looks law v none_begun none_out = (law v 0 no_draft).0 none_begun none_out

pub gone_ends : GoneMayBeFound → (v : HandView) (slot : ℕ) (d : Draft) → HasEnded v (gone_hand v) slot d false
gone_ends law v slot d = (law v slot d).1

pub gone_drops : GoneMayBeFound → (v : HandView) → HasDropped v (gone_hand v)
gone_drops law v = (law v 0 no_draft).2

pub gone_tells : GoneMayBeFound → (v : HandView) → HasTold v (gone_hand v) false
gone_tells law v = (law v 0 no_draft).3

-- ---- what each call comes to, from the pass before it was entered to the pass behind it

module _ (turn : TableId) (i : ℕ) (v : HandView) (p q : PassView Held HandView) (outside : p ≡ outside_pass turn i v) where
  -- the view that it enters with
  pub carried_is : p.carried ≡ (i, v) ∷ []
  carried_is = ap (λ (r : PassView Held HandView). r.carried) outside

  -- it found the World gone, or left it so
  pub gone_may : (x : Held) → q ≡ entered p x → (j : ℕ) × (u : HandView) × (z : Held) × (q.carried ≡ (j, u) ∷ []) × (q.inside ≡ Some z) × May u z Held.Gone
  gone_may x is = may_be_left turn i v x Held.Gone q (inside_is turn i v x p q outside is) (may_be_gone v x)

  pub gone_left : (x : Held) (r : PassView Held HandView) → q ≡ entered p x → Leaves q r Held.Gone → r ≡ outside_pass turn i (gone_hand v)
  gone_left x r is leaves = left_gone turn i v x q r (inside_is turn i v x p q outside is) leaves

  -- it found it there
  module _ (w : WorldView) (before : Supply) (is : q ≡ entered p (Held.Here w before)) (knows : Knows w before v) where
    abbrev inside : q ≡ inside_pass turn i v (Held.Here w before)
    inside = inside_is turn i v (Held.Here w before) p q outside is

    pub here_may : (new : WorldView) (after : Supply) → MayLeave v w new before after
        → (j : ℕ) × (u : HandView) × (z : Held) × (q.carried ≡ (j, u) ∷ []) × (q.inside ≡ Some z) × May u z (Held.Here new after)
    here_may new after may = may_be_left turn i v (Held.Here w before) (Held.Here new after) q inside may

    pub here_left : (new : WorldView) (after : Supply) (r : PassView Held HandView) → Leaves q r (Held.Here new after) → r ≡ outside_pass turn i (next_hand v w new)
    here_left new after r leaves = left_is turn i v (Held.Here w before) (Held.Here new after) q r inside leaves
