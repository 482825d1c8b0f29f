-- Room is made in the parts of a World, and a call begins there, or does not.
use Rattle.std.specs.Prelude.{◌≡◌, ◌<◌, ◌+◌, ◌^◌, ℕ, true, false, length, Some, None, refl}
use Rattle.std.proofs.Common.{arith, ap, ◌∙◌, sym, subst, Global, Vec}
use Rattle.pm_lines.specs.pm_model.Powers.{is_on, Supply}
use Rattle.layout_model.specs.declared.lines.Draft.{Draft}
use Rattle.world_parts.specs.crash_spec.Busy.{is_busy}
use Rattle.posix_types.specs.declared.call.Call.{Call}
use Rattle.posix_types.specs.declared.call.Who.{Who}
use Rattle.posix_types.specs.declared.item.Item.{Item}
use Rattle.world_parts.specs.posix_spec.Scripted.{IsSetUp}
use Rattle.world_parts.specs.in_flight.Counters.{AreCounts}
use Rattle.world_parts.specs.in_flight.live_model.Standing.{JobOut}
use Rattle.world_parts.proofs.world_view_laws_proofs.Ending.{no_both}
use Rattle.world_parts.proofs.world_view_laws_proofs.Losing.{call_off}
use Rattle.world_parts.proofs.world_view_laws_proofs.OpenCalls.{open_called}
use Rattle.world_parts.specs.world_view_laws.Begins.{Begins, LosesCall}
use Rattle.world_parts.specs.world_view_laws.Views.{files_out, HasNone, IsWorldOver, next_of, state_of, WorldView}
use Rattle.world_parts.specs.declared.parts.Parts.{Parts}
use Rattle.world_begins.specs.Rooms.{HasRoomInAll, KeepsItems}
use Rattle.world_parts.specs.Seen.{blocks_out, HasRoomForOne, IsKept, seen}
use Rattle.world_begins.specs.Turns.{IsTurn}
use Rattle.world_parts.proofs.Losing.{out_within}

-- ---- room is made

module _ (p : Parts) (kept : IsKept p) (history : Vec Item Global) (claims : Vec (ℕ × Draft) Global) (pending : Vec JobOut Global) (spare : Vec (Who × Call) Global)
    (items : KeepsItems p.history history) (entries : KeepsItems p.claims claims) (jobs : KeepsItems p.pending pending) (calls : KeepsItems p.spare spare) where
  abbrev pub roomy : Parts
  roomy = record p { history = history; claims = claims; pending = pending; spare = spare }

  pub roomy_seen : seen roomy ≡ seen p
  roomy_seen = λ i. record (seen p) { history = items.items i; claims = entries.items i; pending = jobs.items i }

  same_jobs : length pending.items ≡ length p.pending.items
  same_jobs = ap length jobs.items

  pub roomy_kept : IsKept roomy
  roomy_kept = record {
    world = subst (IsWorldOver p.k p.tables.tables p.staging p.files) (sym roomy_seen) kept.world;
    counts = subst (AreCounts p.counters.setup p.counters.threads) (sym items.items) kept.counts;
    room = record {
      items = λ on. omega (arith, kept.room.items on, items.len, items.capacity, same_jobs);
      claims_on = λ on. omega (arith, kept.room.claims_on on, entries.len, entries.capacity, same_jobs);
      claims_off = λ off out. omega (arith, kept.room.claims_off off out, entries.len, entries.capacity, ap (blocks_out p.k.cells) jobs.items);
      empty = calls.items ∙ kept.room.empty;
      calls = omega (arith, kept.room.calls, calls.capacity, same_jobs);
    };
  }

  pub roomy_room : HasRoomInAll history claims pending spare → HasRoomForOne roomy
  roomy_room room = record { items = room.items; claims = room.entries; jobs = room.jobs; calls = (let most = room.calls in omega (arith, most)) }

pub few_jobs : (p : Parts) → IsKept p → length p.pending.items + 2 < 2 ^ 32
few_jobs p kept = (let out = kept.world.counted.out in omega (arith, out))

-- ---- the call may begin

module _ (p r : Parts) (who : Who) (call : Call) (kept : IsKept r) (view : seen r ≡ seen p) (room : HasRoomForOne r) (usable : p.usable ≡ true) (out : p.lines_out ≡ true) (next : next_of (seen p) who ≡ Some call)
    (none : HasNone (seen p) who) (up : IsSetUp p.scripts p.history.items who) (going : p.over ≡ None) (awake : p.lost ≡ false) (idle : is_busy (state_of (seen p)) (files_out (seen p)) (who, call) ≡ false) where
  begins_now : Begins (seen p) who call
  begins_now = record { next = next; going = going; awake = awake; idle = idle }

  pub turn_now : IsTurn r who call
  turn_now = record {
    calls = record {
      world = kept.world;
      out = ap (λ (w : WorldView). w.lines_out) view ∙ out;
      begins = subst (λ (w : WorldView). Begins w who call) (sym view) begins_now;
      up = subst (λ (w : WorldView). IsSetUp w.scripts w.history who) (sym view) up;
      none = subst (λ (w : WorldView). HasNone w who) (sym view) none;
    };
    counts = kept.counts;
    empty = kept.room.empty;
    room = room;
    usable = ap (λ (w : WorldView). w.usable) view ∙ usable;
  }

-- ---- it loses its power before it does anything

module _ (p : Parts) (kept : IsKept p) (awake : p.lost ≡ false) (who : Who) (call : Call) where
  abbrev pub off_parts : Parts
  off_parts = record p { unfinished = Some (record { who = who; call = call }); acts = p.acts + 1; lost = true }

  pub off_kept : next_of (seen p) who ≡ Some call → HasNone (seen p) who → IsSetUp p.scripts p.history.items who → IsKept off_parts
  off_kept next none up = record {
    world = call_off p.k p.tables.tables p.staging p.files (seen p) kept.world awake (who, call)
        (open_called p.scripts p.history.items p.pending.items (seen p).unfinished (who, call) (kept.world.going awake).none_unfinished (record { call = next; set_up = up }) none kept.world.open_calls);
    counts = kept.counts;
    room = record {
      items = λ on. no_both true refl on _;
      claims_on = λ on. no_both true refl on _;
      claims_off = λ off out. omega (arith, kept.room.claims_on awake, out_within p kept awake);
      empty = kept.room.empty;
      calls = kept.room.calls;
    };
  }

  pub off_loses : (power : Supply) → next_of (seen p) who ≡ Some call → is_on power ≡ false → LosesCall who (seen p) (seen off_parts) power
  off_loses power next off = record {
    call = call;
    next = next;
    awake = awake;
    new_is = refl;
    stay = (
      λ q job apart is. record { there = is.there; who = is.who; draft = is.draft; blocks = is.blocks; words = is.words; lent = is.lent },
      λ q job apart is. record { there = is.there; who = is.who; draft = is.draft; blocks = is.blocks; words = is.words; lent = is.lent },
    );
    off = off;
  }
