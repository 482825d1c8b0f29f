-- The power goes while a file gets another size: each image is kept.
use Rattle.std.specs.Prelude.{◌≤◌, ◌+◌, ℕ, cond, Bool, true, false, length, is_none, sum_by}
use Rattle.std.proofs.Common.{arith, ◌∙◌, sym, subst}
use Rattle.file_calls.specs.live_step_laws.world_image_laws.Settings.{setting_run}
use Rattle.file_calls.specs.eof_laws.file_table.Files.{size_in}
use Rattle.file_calls.specs.live_step_laws.posix_types.declared.call.Call.{Call}
use Rattle.file_calls.specs.live_step_laws.posix_types.declared.call.Who.{Who}
use Rattle.file_calls.specs.live_step_laws.posix_types.declared.handle.Handle.{Handle}
use Rattle.file_calls.specs.live_step_laws.posix_tables.Open.{opened}
use Rattle.file_calls.specs.live_step_laws.posix_tables.Room.{growth}
use Rattle.file_calls.specs.live_step_laws.commute_laws.Needs.{needs as needs_of}
use Rattle.file_calls.specs.live_step_laws.posix_laws.Views.{need_of}
use Rattle.file_calls.specs.live_step_laws.posix_spec.FileRows.{content}
use Rattle.file_calls.specs.live_step_laws.posix_spec.Run.{after_call, Unfinished, run}
use Rattle.file_calls.specs.live_step_laws.posix_spec.State.{room, State}
use Rattle.file_calls.specs.live_step_laws.commute_laws.Commutes.{takes}
use Rattle.file_calls.specs.live_step_laws.live_model.k_split.MapChanges.{ChangesMaps}
use Rattle.file_calls.specs.live_step_laws.live_model.world_step_laws.Steps.{begun-flights, flights_of}
use Rattle.file_calls.specs.live_step_laws.world_image_laws.Flights.{leads_after, leads_before}
use Rattle.file_calls.specs.live_step_laws.world_image_laws.LentLaws.{GoesBeside, LeadsTo}
use Rattle.file_calls.specs.live_step_laws.Changes.{IsChangeWith}
use Rattle.file_truncate.specs.Sizes.{KeepsSized}
use Rattle.file_truncate.proofs.Device.{kept_image}
use Rattle.file_truncate.proofs.Sizing as sizing

-- what is taken of the room, of a handle known or not
taken : (s : State) (who : Who) (h : Handle) (size left : ℕ) → growth (length (content s who h)) size + left ≤ room s → takes s (who, Call.Truncate h size) + left ≤ room s
taken s who h size left fits = by (is_none (opened s.tables who h)) where
  by : (b : Bool) → cond b 0 (growth (length (content s who h)) size) + left ≤ room s
  by true = omega (arith, fits)
  by false = fits

pub keeps_sized : KeepsSized
keeps_sized g k l t kept lines n start history who h size ino stands two may w blocks makes cut mode =
    kept_image blocks k.volume w k.cells l.cells kept.claims stands.jobs stands.numbers (run start history) (after_call (run start history) (who, Call.Truncate h size)) stands.count ino (size_in kept.files ino) size
    (sizing.below g k t kept lines n (run start history) stands who h size ino may w blocks makes cut.whole) stands.flying.device changed
    (sizing.spare g k t kept lines n (run start history) stands who h size ino may w blocks makes cut.whole) (sizing.room_on g k t kept lines n (run start history) stands who h size ino may w blocks makes cut.whole)
    (sizing.takes_zeros g k t kept lines n (run start history) stands who h size ino may w blocks makes cut.whole) may.zeros start history (who, Call.Truncate h size) mode (λ strict. stands.flying.whole ((setting_run start history).mode ∙ strict))
    (sizing.same_blocks g k t kept lines n (run start history) stands who h size ino may w blocks makes cut.whole) (leads_before start history (who, Call.Truncate h size) stands.jobs) leads kept.first
  where
    changed : IsChangeWith blocks k.volume w k.cells l.cells
    changed =
        let of_v : ChangesMaps blocks k.volume w k.cells l.cells = subst (λ u. ChangesMaps blocks u w k.cells l.cells) (stands.order.settled stands.unbatched) cut.changes in
        record {
          each_image = of_v.each_image;
          geometry = sizing.same_geometry g k t kept lines n (run start history) stands who h size ino may w blocks makes cut.whole;
          base = sizing.same_base g k t kept lines n (run start history) stands who h size ino may w blocks makes cut.whole;
        }

    beside : GoesBeside (run start history) (who, Call.Truncate h size) stands.numbers stands.jobs
    beside = record {
      two = two;
      lets = may.beside;
      fits = taken (run start history) who h size (needs_of (run start history) (flights_of stands.numbers stands.jobs))
          (subst (λ cs. growth (length (content (run start history) who h)) size + sum_by (λ (c : Unfinished). need_of (run start history) c.0 c.1) cs ≤ room (run start history)) (sym (begun-flights stands.numbers stands.jobs)) may.fits);
    }

    leads : LeadsTo start history (who, Call.Truncate h size) stands.jobs (after_call (run start history) (who, Call.Truncate h size))
    leads =
        leads_after k.volume kept.claims stands.jobs _ stands.numbers start history stands.count (who, Call.Truncate h size)
        (sizing.world g k t kept lines n (run start history) stands who h size ino may w blocks makes cut.whole) beside
