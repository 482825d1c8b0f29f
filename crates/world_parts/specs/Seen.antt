-- The view of a World by its parts, and what it keeps.
use Rattle.std.specs.Prelude.{◌≡◌, ◌≤◌, ◌+◌, ◌*◌, ℕ, true, false, List, [], ◌∷◌, length, count_by, Option, Some, None, slice_index, vec_len}
use Rattle.std.specs.Vec.{vec_capacity}
use Rattle.world_view_laws.specs.pm_model.declared.Cell.{Cell}
use Rattle.world_view_laws.specs.pm_model.Cells.{cell, is_lent}
use Rattle.world_view_laws.specs.posix_spec.Run.{Unfinished}
use Rattle.world_view_laws.specs.posix_spec.Tree.{start}
use Rattle.world_view_laws.specs.in_flight.Counters.{AreCounts}
use Rattle.world_view_laws.specs.in_flight.live_model.Standing.{JobOut}
use Rattle.world_view_laws.specs.Views.{disk_of, IsWorldOver, WorldView}
use Rattle.world_parts.specs.declared.outcomes.Unfinished.{Unfinished as LostCall}
use Rattle.world_parts.specs.declared.parts.Parts.{Parts}

abbrev pub unfinished_of : Option LostCall → List Unfinished
unfinished_of None = []
unfinished_of (Some u) = (u.who, u.call) ∷ []

abbrev pub seen : Parts → WorldView
seen p = record {
  geometry = p.geometry;
  base = p.base;
  start = start p.tree p.shape p.mode;
  scripts = p.scripts;
  history = p.history.items;
  settled = p.settled;
  claims = p.claims.items;
  pending = p.pending.items;
  unfinished = unfinished_of p.unfinished;
  over = p.over;
  given_up = p.given_up;
  acts = p.acts;
  disk = disk_of p.k p.tables.tables p.staging p.files;
  lines_out = p.lines_out;
  home = p.home.items;
  first = p.first.items;
  lost = p.lost;
  usable = p.usable;
}

-- how many of these jobs have their blocks out: the first word of the first block is lent
abbrev pub blocks_out : List Cell → List JobOut → ℕ
blocks_out cells pending = count_by (λ (p : JobOut). is_lent (cell cells (512 * slice_index p.blocks 0))) pending

-- THERE IS ROOM for what the ends of jobs add: an item and a claim for each job while the power is on, a claim for each whose blocks
-- are out once it went; and for the calls of the jobs and
-- one more, none of which stands there yet.
pub record HasRoom (p : Parts) : Type 0 where
  pub items : p.lost ≡ false → vec_len p.history + length p.pending.items ≤ vec_capacity p.history
  pub claims_on : p.lost ≡ false → vec_len p.claims + length p.pending.items ≤ vec_capacity p.claims
  pub claims_off : p.lost ≡ true → p.lines_out ≡ true → vec_len p.claims + blocks_out p.k.cells p.pending.items ≤ vec_capacity p.claims
  pub empty : p.spare.items ≡ []
  pub calls : length p.pending.items + 1 ≤ vec_capacity p.spare

-- WHAT A WORLD KEEPS, while it goes on.
pub record IsKept (p : Parts) : Type 0 where
  pub world : IsWorldOver p.k p.tables.tables p.staging p.files (seen p)
  pub counts : AreCounts p.counters.setup p.counters.threads p.history.items
  pub room : HasRoom p

-- there is room for one job more
pub record HasRoomForOne (p : Parts) : Type 0 where
  pub items : vec_len p.history + (length p.pending.items + 1) ≤ vec_capacity p.history
  pub claims : vec_len p.claims + (length p.pending.items + 1) ≤ vec_capacity p.claims
  pub jobs : vec_len p.pending + 1 ≤ vec_capacity p.pending
  pub calls : length p.pending.items + 2 ≤ vec_capacity p.spare
