-- The rule of the turn over a World that may be gone: while it is there the rule is that of `thread_laws`; once it is gone it stays so.
use Rattle.std.specs.Prelude.{◌≡◌, ℕ, List, [], length, slice_get, slice_set, Some}
use Rattle.thread_laws.specs.Hands.{first_hands, Gone, HandView}
use Rattle.thread_laws.specs.Kept.{keeps_hands, sized_hands, starts_hands, tells_hands}
use Rattle.thread_laws.specs.Moves.{Knows, MayLeave, MayOpen, next_hand}
use Rattle.thread_laws.specs.Stands.{Stands}
use Rattle.split_threads.specs.declared.turns.Held.{Held}

-- A turn is opened over a World at the beginning of a round.
abbrev pub Opens : Held → ℕ → Type 0
Opens (Held.Here w power) n = MayOpen w power n
Opens Held.Gone n = ⊥

-- its workers know nothing yet
abbrev pub firsts : Held → ℕ → List HandView
firsts (Held.Here w power) n = first_hands w power n
firsts Held.Gone n = []

-- While nobody has it, World and views stand together.
abbrev pub Holds : Held → List HandView → Type 0
Holds (Held.Here w power) views = Stands w power views
Holds Held.Gone views = Unit {0}

-- A HOLDER MAY LEAVE what one call of its caller leaves, or nothing, where memory ran out; where it found nothing, nothing else may follow.
abbrev pub May : HandView → Held → Held → Type 0
May v (Held.Here w before) (Held.Here new after) = MayLeave v w new before after
May v (Held.Here w before) Held.Gone = Unit {0}
May v Held.Gone new = new ≡ Held.Gone

-- the view of who found the World gone, or left it so
abbrev pub gone_hand : HandView → HandView
gone_hand v = record v { last = Gone }

-- its view afterwards
abbrev pub next_view : HandView → Held → Held → HandView
next_view v (Held.Here w before) (Held.Here new after) = next_hand v w new
next_view v (Held.Here w before) Held.Gone = gone_hand v
next_view v Held.Gone new = gone_hand v

-- what who enters learns
abbrev pub KnowsHeld : Held → HandView → Type 0
KnowsHeld (Held.Here w power) v = Knows w power v
KnowsHeld Held.Gone v = Unit {0}

-- ---- the laws of the rule

pub sized_held : (x : Held) (n : ℕ) → Opens x n → length (firsts x n) ≡ n
sized_held (Held.Here w power) n opens = sized_hands w power n opens
sized_held Held.Gone n opens = absurd opens

pub starts_held : (x : Held) (n : ℕ) → Opens x n → Holds x (firsts x n)
starts_held (Held.Here w power) n opens = starts_hands w power n opens
starts_held Held.Gone n opens = absurd opens

pub keeps_held : (x y : Held) (views : List HandView) (i : ℕ) (v : HandView) → Holds x views → slice_get views i ≡ Some v → May v x y → Holds y (slice_set views i (next_view v x y))
keeps_held (Held.Here w before) (Held.Here new after) views i v holds at may = keeps_hands w new before after views i v holds at may
keeps_held (Held.Here w before) Held.Gone views i v holds at may = tt
keeps_held Held.Gone (Held.Here new after) views i v holds at may = cc
keeps_held Held.Gone Held.Gone views i v holds at may = tt

pub tells_held : (x : Held) (views : List HandView) (i : ℕ) (v : HandView) → Holds x views → slice_get views i ≡ Some v → KnowsHeld x v
tells_held (Held.Here w power) views i v holds at = tells_hands w power views i v holds at
tells_held Held.Gone views i v holds at = tt
