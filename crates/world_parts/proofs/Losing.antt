-- The parts of a World lose their power.
use Rattle.std.specs.Prelude.{◌≡◌, ◌≤◌, ◌+◌, ◌*◌, ℕ, Bool, true, false, List, [], length, slice_index, refl}
use Rattle.std.proofs.Common.{arith, sym, subst, inl, inr}
use Rattle.std.proofs.lemmas.Bool.{cases_Bool}
use Rattle.std.proofs.lemmas.List.Sums.{count_by-le-length}
use Rattle.world_view_laws.specs.pm_model.Cells.{cell, is_lent}
use Rattle.world_view_laws.specs.posix_spec.Run.{Unfinished}
use Rattle.world_view_laws.specs.in_flight.live_model.Standing.{JobOut}
use Rattle.world_view_laws.proofs.Ending.{no_both}
use Rattle.world_view_laws.proofs.Losing.{lost_view, world_off, world_off_acted}
use Rattle.world_view_laws.specs.Views.{disk_of, IsGoing, IsWorldOver, WorldView}
use Rattle.world_parts.specs.declared.parts.Parts.{Parts}
use Rattle.world_parts.specs.Seen.{blocks_out, IsKept, seen}

module _ (p : Parts) (kept : IsKept p) (awake : p.lost ≡ false) where
  going : IsGoing p.k p.tables.tables p.staging p.files (seen p)
  going = kept.world.going awake

  pub out_within : blocks_out p.k.cells p.pending.items ≤ length p.pending.items
  out_within = count_by-le-length (λ (q : JobOut). is_lent (cell p.k.cells (512 * slice_index q.blocks 0))) p.pending.items

  lost_at : (acts : ℕ) → IsWorldOver p.k p.tables.tables p.staging p.files (lost_view (seen p) [] acts (disk_of p.k p.tables.tables p.staging p.files)) → IsKept (record p { acts = acts; lost = true })
  lost_at acts world = record {
    world = subst (λ (u : List Unfinished). (let v : WorldView = record (seen p) { unfinished = u; acts = acts; lost = true } in IsWorldOver p.k p.tables.tables p.staging p.files v)) (sym going.none_unfinished) world;
    counts = kept.counts;
    room = record {
      items = λ on. no_both true refl on _;
      claims_on = λ on. no_both true refl on _;
      claims_off = λ off out. omega (arith, kept.room.claims_on awake, out_within);
      empty = kept.room.empty;
      calls = kept.room.calls;
    };
  }

  pub lost_one : IsKept (record p { acts = p.acts + 1; lost = true })
  lost_one = lost_at (p.acts + 1) (world_off_acted p.k p.tables.tables p.staging p.files (seen p) kept.world awake)

  pub lost_none : IsKept (record p { lost = true })
  lost_none = lost_at p.acts (world_off p.k p.tables.tables p.staging p.files (seen p) kept.world awake)

pub lost_kept : (p : Parts) → IsKept p → IsKept (record p { lost = true })
lost_kept p kept = elim (cases_Bool p.lost) [
  | inl off ↦ subst (λ (b : Bool). IsKept (record p { lost = b })) off kept
  | inr on ↦ lost_none p kept on
]
