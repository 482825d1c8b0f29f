-- An item more in the parts of a World.
use Rattle.std.specs.Prelude.{◌≡◌, ◌<◌, ◌+◌, ◌^◌, ◌++◌, false, [], ◌∷◌, vec_len}
use Rattle.std.specs.Vec.{vec_capacity}
use Rattle.posix_types.specs.declared.call.Call.{Call}
use Rattle.posix_types.specs.declared.call.Who.{Who}
use Rattle.posix_types.specs.declared.item.Outcome.{Outcome}
use Rattle.world_view_laws.specs.posix_tables.Open.{same_who}
use Rattle.world_view_laws.specs.in_flight.Counters.{count_for, IsCounted}
use Rattle.world_parts.specs.declared.parts.Parts.{Parts}

-- an item may be added
pub record MayAdd (p : Parts) (who : Who) : Type 0 where
  pub caller : IsCounted who
  pub few : count_for p.counters.setup p.counters.threads who + 1 < 2 ^ 32
  pub room : vec_len p.history < vec_capacity p.history
  pub one_act : p.acts + 1 < 2 ^ 64

-- THE ITEM of the next call of a caller IS ADDED, with this outcome, and one call more is counted.
pub record IsAdded (who : Who) (call : Call) (outcome : Outcome) (old new : Parts) : Type 0 where
  pub rest : new ≡ record old { history = new.history; counters = new.counters; acts = old.acts + 1 }
  pub items : new.history.items
      ≡ old.history.items
      ++ record { who = who; index = count_for old.counters.setup old.counters.threads who; call = call; reply = outcome.reply; room = outcome.room } ∷ []
  pub len : vec_len new.history ≡ vec_len old.history + 1
  pub capacity : vec_capacity new.history ≡ vec_capacity old.history
  pub own : count_for new.counters.setup new.counters.threads who ≡ count_for old.counters.setup old.counters.threads who + 1
  pub others : (other : Who) → same_who who other ≡ false
      → count_for new.counters.setup new.counters.threads other ≡ count_for old.counters.setup old.counters.threads other
