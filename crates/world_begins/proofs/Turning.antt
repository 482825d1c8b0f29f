-- The parts of a World at the turn of a call, and behind it.
use Rattle.std.specs.Prelude.{◌≡◌, ◌≢◌, ◌≤◌, ◌<◌, ◌+◌, ◌^◌, ◌++◌, ℕ, true, false, List, [], ◌∷◌, length, Some, refl, slice_index, ◌*◌}
use Rattle.std.proofs.Common.{arith, ap, ◌∙◌, sym, subst, length-append}
use Rattle.posix_types.specs.declared.call.Call.{Call}
use Rattle.posix_types.specs.declared.call.Mode.{Mode}
use Rattle.posix_types.specs.declared.call.Who.{Who}
use Rattle.posix_types.specs.declared.item.Item.{Item}
use Rattle.posix_types.specs.declared.item.Outcome.{Outcome}
use Rattle.std.proofs.lemmas.List.Sums.{count_by-le-length}
use Rattle.world_parts.specs.pm_model.Cells.{cell, is_lent}
use Rattle.world_parts.specs.layout_model.Places.{data_blocks}
use Rattle.world_parts.specs.pm_model.ImageLaws.{IsImage-words_of}
use Rattle.world_parts.specs.pm_model.Images.{words_of}
use Rattle.world_parts.specs.posix_spec.State.{room}
use Rattle.world_parts.specs.world_view_laws.world_image_laws.Settings.{setting_run}
use Rattle.world_parts.specs.world_view_laws.world_image_laws.Starts.{has_setting}
use Rattle.call_laws.proofs.Staying.{stands_now}
use Rattle.world_parts.specs.in_flight.live_model.world_model.JobLaws.{needs}
use Rattle.call_laws.specs.write_begin.Needs.{JobsNeed}
use Rattle.call_laws.specs.write_begin.write_plan.Asks.{HaveLines, room_in}
use Rattle.call_laws.specs.write_begin.write_plan.Numbers.{OpenHaveLines, RoomIsKept}
use Rattle.world_parts.specs.in_flight.Histories.{item_with}
use Rattle.world_parts.specs.in_flight.live_model.Standing.{JobOut, StandsAt}
use Rattle.world_parts.proofs.world_view_laws_proofs.Ending.{no_both}
use Rattle.world_parts.specs.world_view_laws.declared.views.over.Over.{Over}
use Rattle.world_parts.specs.world_view_laws.Begins.{item_of}
use Rattle.world_parts.specs.world_view_laws.Views.{disk_of, IsWorldOver, kept_of, state_of, WorldView}
use Rattle.world_parts.specs.declared.parts.Parts.{Parts}
use Rattle.world_parts.specs.Adds.{IsAdded, MayAdd}
use Rattle.world_parts.specs.Seen.{blocks_out, HasRoom, IsKept, seen}
use Rattle.world_begins.specs.Turns.{IsTurn, needs_by}
use Rattle.world_parts.proofs.Adding.{added_kept, added_seen, counted_next, few_next, HasRoomForItem, few_acts}

module _ (p : Parts) (who : Who) (call : Call) (turn : IsTurn p who call) where
  awake : p.lost ≡ false
  awake = turn.calls.begins.awake

  room_now : HasRoom p
  room_now = record {
    items = λ on. (let room = turn.room.items in omega (arith, room));
    claims_on = λ on. (let room = turn.room.claims in omega (arith, room));
    claims_off = λ off. no_both p.lost off awake _;
    empty = turn.empty;
    calls = (let room = turn.room.calls in omega (arith, room));
  }

  -- ALL IS KEPT at the turn of a call.
  pub turn_kept : IsKept p
  turn_kept = record { world = turn.calls.world; counts = turn.counts; room = room_now }

  pub one_act : p.acts + 1 < 2 ^ 64
  one_act = few_acts p turn_kept

  abbrev now : StandsAt (seen p).geometry p.k p.tables.tables (kept_of (seen p) p.staging p.files) true (length (seen p).history) (state_of (seen p))
  now = stands_now p.k p.tables.tables p.staging p.files (seen p) who call turn.calls

  -- its mode is that of its state, strict or sync
  pub not_posix : p.mode ≢ Mode.Posix
  not_posix posix = turn.calls.world.mode ((has_setting p.tree p.shape p.mode).1 ∙ posix)

  pub mode_now : p.mode ≡ (state_of (seen p)).mode
  mode_now = sym (has_setting p.tree p.shape p.mode).1 ∙ sym (setting_run (seen p).start (seen p).history).mode

  -- the jobs that are out need what their calls do
  pub needs_are : JobsNeed → needs_by p.mode p.tables.tables p.files p.pending.items ≡ needs (state_of (seen p)) now.jobs
  needs_are law =
      ap (λ (mode : Mode). needs_by mode p.tables.tables p.files p.pending.items) mode_now
      ∙ law (seen p).geometry p.k p.tables.tables (kept_of (seen p) p.staging p.files) true (length (seen p).history) (state_of (seen p)) now

  -- these needs are few
  pub few_needs : JobsNeed → RoomIsKept → needs_by p.mode p.tables.tables p.files p.pending.items < 2 ^ 64
  few_needs law numbers =
      let all = needs_are law in
      let fits : needs (state_of (seen p)) now.jobs ≤ room (state_of (seen p)) = (now.flying.device.world (words_of p.k.cells) (IsImage-words_of p.k.cells)).valid.room in
      let kept : room (state_of (seen p)) ≡ room_in (data_blocks p.k.volume.geometry) p.files = numbers (seen p).geometry p.k p.tables.tables (kept_of (seen p) p.staging p.files) true (length (seen p).history) (state_of (seen p)) now in
      let most = now.order.whole.kept.geometry.most_blocks in
      omega (arith, all, fits, kept, most)

  pub lines_there : OpenHaveLines → HaveLines p.tables.tables p.files
  lines_there law = law (seen p).geometry p.k p.tables.tables (kept_of (seen p) p.staging p.files) true (length (seen p).history) (state_of (seen p)) now

  -- K-Split, the open files and what is kept of files may be others
  module _ (q : Parts) (same : q ≡ record p { k = q.k; tables = q.tables; staging = q.staging; files = q.files }) where
    abbrev pub moved : Parts
    moved = record p { k = q.k; tables = q.tables; staging = q.staging; files = q.files }

    abbrev pub moved_view : WorldView
    moved_view = record (seen p) { disk = disk_of q.k q.tables.tables q.staging q.files }

    -- an item may be added;
    pub may_add : MayAdd q who
    may_add = subst (λ (x : Parts). MayAdd x who) (sym same) (record {
      caller = counted_next p turn_kept who call turn.calls.begins.next;
      few = few_next p turn_kept who call turn.calls.begins.next;
      room = (let room = turn.room.items in omega (arith, room));
      one_act = one_act;
    })

    pub may_act : q.acts + 1 < 2 ^ 64
    may_act = subst (λ (x : Parts). x.acts + 1 < 2 ^ 64) (sym same) one_act

    -- ---- it returned

    abbrev pub return_view : WorldView
    return_view = record moved_view { history = p.history.items ++ item_of (seen p) who call ∷ []; acts = p.acts + 1 }

    module _ (r : Parts) (outcome : Outcome) (its_item : item_of (seen p) who call ≡ item_with p.history.items who call outcome) (added : IsAdded who call outcome q r) where
      on_moved : IsAdded who call outcome moved r
      on_moved = subst (λ (x : Parts). IsAdded who call outcome x r) same added

      room_for : HasRoomForItem moved
      room_for = record { on = awake; items = turn.room.items; claims = (let room = turn.room.claims in omega (arith, room)); empty = turn.empty; calls = (let room = turn.room.calls in omega (arith, room)) }

      pub returned_seen : seen r ≡ return_view
      returned_seen = added_seen who call outcome moved r on_moved turn.counts ∙ ap (λ (item : Item). (let v : WorldView = record moved_view { history = p.history.items ++ item ∷ []; acts = p.acts + 1 } in v)) (sym its_item)

      pub returned_kept : IsWorldOver q.k q.tables.tables q.staging q.files return_view → IsKept r
      returned_kept world =
          added_kept who call outcome moved r on_moved turn.counts room_for
          (subst (λ (item : Item). IsWorldOver q.k q.tables.tables q.staging q.files (record moved_view { history = p.history.items ++ item ∷ []; acts = p.acts + 1 })) its_item world)

    -- ---- it became a job

    module _ (r : Parts) (one : JobOut) (rest : r ≡ record moved { pending = r.pending; acts = p.acts + 1 }) (pushed : r.pending.items ≡ p.pending.items ++ one ∷ []) where
      abbrev pub job_view : WorldView
      job_view = record moved_view { pending = p.pending.items ++ one ∷ []; acts = p.acts + 1 }

      abbrev with_job : Parts
      with_job = record moved { pending = r.pending; acts = p.acts + 1 }

      with_view : seen with_job ≡ job_view
      with_view = ap (λ (jobs : List JobOut). (let v : WorldView = record moved_view { pending = jobs; acts = p.acts + 1 } in v)) pushed

      pub job_seen : seen r ≡ job_view
      job_seen = ap seen rest ∙ with_view

      longer : length r.pending.items ≡ length p.pending.items + 1
      longer = ap length pushed ∙ length-append p.pending.items (one ∷ [])

      pub job_kept : IsWorldOver q.k q.tables.tables q.staging q.files job_view → IsKept r
      job_kept world = subst IsKept (sym rest) (record {
        world = subst (IsWorldOver q.k q.tables.tables q.staging q.files) (sym with_view) world;
        counts = turn.counts;
        room = record {
          items = λ on. (let room = turn.room.items in omega (arith, room, longer));
          claims_on = λ on. (let room = turn.room.claims in omega (arith, room, longer));
          claims_off = λ off. no_both p.lost off awake _;
          empty = turn.empty;
          calls = (let room = turn.room.calls in omega (arith, room, longer));
        };
      })

    -- ---- the round is over

    module _ (r : Parts) (needed left : ℕ) (rest : r ≡ record q { over = Some (Over.Space needed left); acts = q.acts + 1 }) where
      abbrev pub over_view : WorldView
      over_view = record moved_view { over = Some (Over.Space needed left); acts = p.acts + 1 }

      abbrev with_over : Parts
      with_over = record moved { over = Some (Over.Space needed left); acts = p.acts + 1 }

      is_over : r ≡ with_over
      is_over = rest ∙ ap (λ (x : Parts). (let y : Parts = record x { over = Some (Over.Space needed left); acts = x.acts + 1 } in y)) same

      pub over_seen : seen r ≡ over_view
      over_seen = ap seen is_over

      pub over_kept : IsWorldOver q.k q.tables.tables q.staging q.files over_view → IsKept r
      over_kept world = subst IsKept (sym is_over) (record {
        world = world;
        counts = turn.counts;
        room = record { items = room_now.items; claims_on = room_now.claims_on; claims_off = λ off. no_both p.lost off awake _; empty = turn.empty; calls = room_now.calls };
      })

    -- ---- it lost its power

    module _ (r : Parts) (rest : r ≡ record q { unfinished = Some (record { who = who; call = call }); acts = q.acts + 1; lost = true }) where
      abbrev pub off_view : WorldView
      off_view = record moved_view { unfinished = (who, call) ∷ []; acts = p.acts + 1; lost = true }

      abbrev with_loss : Parts
      with_loss = record moved { unfinished = Some (record { who = who; call = call }); acts = p.acts + 1; lost = true }

      is_off : r ≡ with_loss
      is_off = rest ∙ ap (λ (x : Parts). (let y : Parts = record x { unfinished = Some (record { who = who; call = call }); acts = x.acts + 1; lost = true } in y)) same

      pub off_seen : seen r ≡ off_view
      off_seen = ap seen is_off

      few_out : blocks_out q.k.cells p.pending.items ≤ length p.pending.items
      few_out = count_by-le-length (λ (x : JobOut). is_lent (cell q.k.cells (512 * slice_index x.blocks 0))) p.pending.items

      pub off_kept : IsWorldOver q.k q.tables.tables q.staging q.files off_view → IsKept r
      off_kept world = subst IsKept (sym is_off) (record {
        world = world;
        counts = turn.counts;
        room = record {
          items = λ on. no_both true refl on _;
          claims_on = λ on. no_both true refl on _;
          claims_off = λ off out. (let room = turn.room.claims in let few = few_out in omega (arith, room, few));
          empty = turn.empty;
          calls = room_now.calls;
        };
      })
