-- How a turn is opened over a World, what its holder may do, and what it knows afterwards.
use Rattle.std.specs.Prelude.{◌≡◌, ◌≤◌, ◌*◌, ◌^◌, ◌||◌, ℕ, Bool, true, false, nat_lt, List, [], ◌∷◌, ◌++◌, drop, length, Option, Some, None, refl}
use Rattle.round_laws.specs.world_view_laws.pm_model.Powers.{Supply}
use Rattle.round_laws.specs.world_view_laws.oplog_entry.layout_model.declared.lines.Draft.{Draft}
use Rattle.round_laws.specs.world_view_laws.live_model.Standing.{JobOut}
use Rattle.round_laws.specs.world_view_laws.Acts.{IsAct, jobs_of, shows}
use Rattle.round_laws.specs.world_view_laws.Views.{WorldView}
use Rattle.thread_laws.specs.Hands.{HandView, mine_of, Sees}
use Rattle.thread_laws.specs.Stands.{IsBounded, IsInRound, IsViewOf}

-- A TURN MAY BE OPENED over a World at the beginning of a round: its lines are out, nothing returned in it, nothing is claimed or out.
pub record MayOpen (w : WorldView) (power : Supply) (n : ℕ) : Type 0 where
  pub some : 1 ≤ n
  pub usable : w.usable ≡ true
  pub lines_out : w.lines_out ≡ true
  pub going : w.over ≡ None
  pub none_returned : w.settled ≡ length w.history
  pub none_claimed : w.claims ≡ []
  pub none_out : w.pending ≡ []
  pub none_given_up : w.given_up ≡ 0
  pub paid : power.taken ≤ 2 ^ 26 * w.acts
  pub bound : IsBounded w power

-- WHAT THE HOLDER MAY DO: one call of its caller, or none; and where that finds the power gone, with the bound of a loss.
pub record MayLeave (v : HandView) (old new : WorldView) (before after : Supply) : Type 0 where
  pub act : IsAct v.who old new before after
  pub bound : IsBounded new after

-- the entry of the first of these jobs
abbrev pub first_draft : List JobOut → Option Draft
first_draft [] = None
first_draft (p ∷ pending) = Some p.draft

-- The World as it was when its job began: this one, where one appeared; none where it is gone, or claimed.
abbrev pub begun_after : List JobOut → List JobOut → Bool → Option WorldView → WorldView → Option WorldView
begun_after before [] claimed begun new = None
begun_after [] (p ∷ after) claimed begun new = Some new
begun_after (q ∷ before) (p ∷ after) true begun new = None
begun_after (q ∷ before) (p ∷ after) false begun new = begun

abbrev pub begun_of : HandView → WorldView → WorldView → Option WorldView
begun_of v old new =
    begun_after (jobs_of v.who old.pending) (jobs_of v.who new.pending) (nat_lt (length old.claims) (length new.claims)) v.begun new

-- ITS VIEW AFTERWARDS, by what it found and what it leaves.
unfoldable pub next_hand : HandView → WorldView → WorldView → HandView
next_hand v old new = record v {
  mine = mine_of new v.who;
  out = first_draft (jobs_of v.who new.pending);
  begun = begun_of v old new;
  done = v.done ++ drop (length old.claims) new.claims;
  full = v.full || nat_lt old.given_up new.given_up;
  last = Sees (shows new v.who);
}

-- ---- the face of the view afterwards

pub next-who : (v : HandView) (old new : WorldView) → (next_hand v old new).who ≡ v.who
unfolding next_hand
next-who v old new = refl

pub next-lap : (v : HandView) (old new : WorldView) → (next_hand v old new).lap ≡ v.lap
unfolding next_hand
next-lap v old new = refl

pub next-given : (v : HandView) (old new : WorldView) → (next_hand v old new).given ≡ v.given
unfolding next_hand
next-given v old new = refl

pub next-mine : (v : HandView) (old new : WorldView) → (next_hand v old new).mine ≡ mine_of new v.who
unfolding next_hand
next-mine v old new = refl

pub next-out : (v : HandView) (old new : WorldView) → (next_hand v old new).out ≡ first_draft (jobs_of v.who new.pending)
unfolding next_hand
next-out v old new = refl

pub next-begun : (v : HandView) (old new : WorldView) → (next_hand v old new).begun ≡ begun_of v old new
unfolding next_hand
next-begun v old new = refl

pub next-done : (v : HandView) (old new : WorldView) → (next_hand v old new).done ≡ v.done ++ drop (length old.claims) new.claims
unfolding next_hand
next-done v old new = refl

pub next-full : (v : HandView) (old new : WorldView) → (next_hand v old new).full ≡ (v.full || nat_lt old.given_up new.given_up)
unfolding next_hand
next-full v old new = refl

pub next-last : (v : HandView) (old new : WorldView) → (next_hand v old new).last ≡ Sees (shows new v.who)
unfolding next_hand
next-last v old new = refl

-- what it learns by entering
pub record Knows (w : WorldView) (power : Supply) (v : HandView) : Type 0 where
  pub world : IsInRound w power
  pub view : IsViewOf w power v
