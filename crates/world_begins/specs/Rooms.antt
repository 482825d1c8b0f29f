-- Room that is made in the lists of a World.
use Rattle.std.specs.Prelude.{◌≡◌, ◌≤◌, ◌+◌, ℕ, length, vec_capacity, vec_len}
use Rattle.std.proofs.Common.{Global, Vec}
use Rattle.layout_model.specs.declared.lines.Draft.{Draft}
use Rattle.posix_types.specs.declared.call.Call.{Call}
use Rattle.posix_types.specs.declared.call.Who.{Who}
use Rattle.posix_types.specs.declared.item.Item.{Item}
use Rattle.world_parts.specs.in_flight.live_model.Standing.{JobOut}

-- the elements stay, and the capacity is no less
pub record KeepsItems {X : Type 0} (old new : Vec X Global) : Type 0 where
  pub items : new.items ≡ old.items
  pub len : vec_len new ≡ vec_len old
  pub capacity : vec_capacity old ≤ vec_capacity new

-- there is room for one job more beside these
pub record HasRoomInAll (history : Vec Item Global) (claims : Vec (ℕ × Draft) Global) (pending : Vec JobOut Global) (spare : Vec (Who × Call) Global) : Type 0 where
  pub items : vec_len history + (length pending.items + 1) ≤ vec_capacity history
  pub entries : vec_len claims + (length pending.items + 1) ≤ vec_capacity claims
  pub jobs : vec_len pending + 1 ≤ vec_capacity pending
  pub calls : vec_len spare + (length pending.items + 2) ≤ vec_capacity spare
