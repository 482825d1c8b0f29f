-- An item is added to the parts of a World.
use Rattle.std.specs.Prelude.{◌≡◌, ◌≤◌, ◌<◌, ◌+◌, ◌^◌, ◌++◌, ℕ, false, List, [], ◌∷◌, length, Some, vec_len, refl}
use Rattle.std.specs.Vec.{vec_capacity}
use Rattle.std.proofs.Common.{arith, ap, ◌∙◌, sym, subst}
use Rattle.posix_types.specs.declared.call.Call.{Call}
use Rattle.posix_types.specs.declared.call.Who.{Who}
use Rattle.posix_types.specs.declared.item.Item.{Item}
use Rattle.posix_types.specs.declared.item.Outcome.{Outcome}
use Rattle.world_view_laws.specs.in_flight.Counters.{AreCounts, count_for, IsCounted}
use Rattle.world_view_laws.specs.in_flight.Counts.{history_within}
use Rattle.world_view_laws.specs.in_flight.Histories.{counts_more, is_counted, item_with, made_within_all}
use Rattle.world_view_laws.proofs.Ending.{no_both}
use Rattle.world_view_laws.specs.Views.{IsWorldOver, next_of, WorldView}
use Rattle.world_parts.specs.declared.parts.Parts.{Parts}
use Rattle.world_parts.specs.Seen.{IsKept, seen}
use Rattle.world_parts.specs.Adds.{IsAdded}

-- there is room for the item, and then for the ends of all jobs
pub record HasRoomForItem (p : Parts) : Type 0 where
  pub on : p.lost ≡ false
  pub items : vec_len p.history + (length p.pending.items + 1) ≤ vec_capacity p.history
  pub claims : vec_len p.claims + length p.pending.items ≤ vec_capacity p.claims
  pub empty : p.spare.items ≡ []
  pub calls : length p.pending.items + 1 ≤ vec_capacity p.spare

-- the view once the item is added
abbrev pub added_view : Parts → Who → Call → Outcome → WorldView
added_view p who call o = record (seen p) { history = p.history.items ++ item_with p.history.items who call o ∷ []; acts = p.acts + 1 }

module _ (who : Who) (call : Call) (outcome : Outcome) (p r : Parts) (added : IsAdded who call outcome p r) (counts : AreCounts p.counters.setup p.counters.threads p.history.items) where
  pub items_are : r.history.items ≡ p.history.items ++ item_with p.history.items who call outcome ∷ []
  items_are =
      added.items ∙ ap (λ (n : ℕ). (let item : Item = record { who = who; index = n; call = call; reply = outcome.reply; room = outcome.room } in p.history.items ++ item ∷ [])) (counts who)

  abbrev rest : Parts
  rest = record p { history = r.history; counters = r.counters; acts = p.acts + 1 }

  same_view : seen rest ≡ added_view p who call outcome
  same_view = ap (λ (items : List Item). (let v : WorldView = record (seen p) { history = items; acts = p.acts + 1 } in v)) items_are

  -- IT IS SEEN
  pub added_seen : seen r ≡ added_view p who call outcome
  added_seen = ap seen added.rest ∙ same_view

  -- AND ALL IS KEPT
  pub added_kept : HasRoomForItem p → IsWorldOver p.k p.tables.tables p.staging p.files (added_view p who call outcome) → IsKept r
  added_kept room world = subst IsKept (sym added.rest) (record {
    world = subst (IsWorldOver p.k p.tables.tables p.staging p.files) (sym same_view) world;
    counts = counts_more p.counters.setup p.counters.threads r.counters.setup r.counters.threads p.history.items r.history.items (item_with p.history.items who call outcome) who items_are refl counts added.own added.others;
    room = record {
      items = λ on. omega (arith, room.items, added.len, added.capacity);
      claims_on = λ on. room.claims;
      claims_off = λ off. no_both p.lost off room.on _;
      empty = room.empty;
      calls = room.calls;
    };
  })

-- ---- how many acts there are

module _ (p : Parts) (kept : IsKept p) where
  pub few_history : length p.history.items ≤ 4096
  few_history =
      let within = history_within p.scripts p.history.items kept.world.scripted in
      let few = kept.world.few in
      omega (arith, within, few)

  pub few_acts : p.acts + 1 < 2 ^ 64
  few_acts =
      let acts = kept.world.counted.acts in
      let settled = kept.world.counted.settled in
      let out = kept.world.counted.out in
      omega (arith, acts, settled, out, few_history)

-- ---- when one may be

module _ (p : Parts) (kept : IsKept p) (who : Who) (call : Call) (next : next_of (seen p) who ≡ Some call) where
  pub counted_next : IsCounted who
  counted_next = is_counted p.scripts p.history.items who call kept.world.threads next

  pub few_next : count_for p.counters.setup p.counters.threads who + 1 < 2 ^ 32
  few_next = omega (arith, kept.counts who, made_within_all p.history.items who, few_history p kept)
