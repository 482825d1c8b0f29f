-- What a worker knows of the World while it does not have it: its view.
use Rattle.std.specs.Prelude.{◌≡◌, ◌-◌, ℕ, Bool, true, false, List, [], ◌∷◌, ◌++◌, drop, map, Option, Some, None}
use Rattle.std.specs.List.{range_with_len}
use Rattle.round_laws.specs.world_view_laws.pm_model.Powers.{Supply}
use Rattle.round_laws.specs.world_view_laws.oplog_entry.layout_model.declared.lines.Draft.{Draft}
use Rattle.round_laws.specs.world_view_laws.oplog_entry.layout_model.Places.{Geometry}
use Rattle.round_laws.specs.world_view_laws.posix_types.declared.call.Who.{Who}
use Rattle.round_laws.specs.world_view_laws.posix_types.declared.item.Item.{Item}
use Rattle.round_laws.specs.world_view_laws.posix_types.Scripts.{Scripts}
use Rattle.round_laws.specs.world_view_laws.posix_spec.Scripted.{items_of}
use Rattle.round_laws.specs.world_view_laws.posix_spec.State.{State}
use Rattle.round_laws.specs.world_view_laws.Acts.{Last}
use Rattle.round_laws.specs.world_view_laws.Views.{WorldView}

-- THE LAP: what stays of a World in its round. The numbers of the volume, the state at the start and the scripts; the log's base, and the words
-- of its lines, as the round's log is opened with them.
pub record Lap : Type 0 where
  pub geometry : Geometry
  pub start : State
  pub scripts : Scripts
  pub base : ℕ
  pub first : List ℕ

abbrev pub lap_of : WorldView → Lap
lap_of w = record { geometry = w.geometry; start = w.start; scripts = w.scripts; base = w.base; first = w.first }

-- what a worker was shown last: nothing yet; what a World showed it; or that the World is gone
pub data Shown : Type 0 where
  Nothing : Shown
  Sees : Last → Shown
  Gone : Shown

-- THE VIEW OF A WORKER: its caller; the lap; the number of steps that the World's power was made with, or none; the items of its caller that
-- returned in this round; the entry of its job, if it has one, and the World as it was when that began; the pairs of slot and entry that it gave
-- to `finish` in this round; whether a job of its own was given up in it; and what it was shown last.
pub record HandView : Type 0 where
  pub who : Who
  pub lap : Lap
  pub given : Option ℕ
  pub mine : List Item
  pub out : Option Draft
  pub begun : Option WorldView
  pub done : List (ℕ × Draft)
  pub full : Bool
  pub last : Shown

-- the items of a caller that returned in this round
abbrev pub mine_of : WorldView → Who → List Item
mine_of w who = items_of (drop w.settled w.history) who

-- ---- at the opening

-- the callers of so many workers: threads from 0 on, and the set-up last
abbrev pub callers_for : ℕ → List Who
callers_for n = map (λ (k : ℕ). Who.Thread k) (range_with_len 0 (n - 1)) ++ Who.Setup ∷ []

abbrev pub newcomer : WorldView → Supply → Who → HandView
newcomer w power who = record {
  who = who;
  lap = lap_of w;
  given = power.given;
  mine = [];
  out = None;
  begun = None;
  done = [];
  full = false;
  last = Nothing;
}

abbrev pub first_hands : WorldView → Supply → ℕ → List HandView
first_hands w power n = map (newcomer w power) (callers_for n)
