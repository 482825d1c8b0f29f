-- A World that goes on, in whatever mode.
use Rattle.std.specs.Prelude.{◌≡◌, ◌≢◌, ◌⊎◌, ◌*◌, Bool, true, false, [], length, refl}
use Rattle.std.proofs.Common.{ap, ◌∙◌, subst, inl, inr}
use Rattle.file_calls.specs.batch_laws.Together.{PosixStandsAt}
use Rattle.file_calls.specs.eof_laws.layout_model.Places.{Geometry}
use Rattle.file_calls.specs.eof_laws.list_laws.Members.{In}
use Rattle.file_calls.specs.eof_laws.posix_tables.Open.{Tables}
use Rattle.in_flight.specs.file_table.Files.{Files}
use Rattle.in_flight.specs.image_model.Volume.{Volume}
use Rattle.in_flight.specs.k_split.Order.{IsInOrder}
use Rattle.in_flight.specs.k_split_model.View.{View}
use Rattle.in_flight.specs.live_model.Standing.{AreLinesLent, IsQuietBeside, JobOut, StandsAt}
use Rattle.in_flight.specs.posix_types.declared.call.Mode.{Mode}
use Rattle.in_flight.specs.staging_files.Keeps.{Staged}
use Rattle.world_view_laws.proofs.PosixLosing.{posix_size}
use Rattle.world_view_laws.specs.Views.{first_by, IsGoing, kept_of, state_of, WorldView}

pub posix_or_not : (m : Mode) → (m ≡ Mode.Posix) ⊎ (m ≢ Mode.Posix)
posix_or_not Mode.Posix = inl refl
posix_or_not Mode.Strict = inr (λ is. cc)
posix_or_not Mode.Sync = inr (λ is. cc)

module _ (k : View) (t : Tables) (staging : Staged) (files : Files) (w : WorldView) (going : IsGoing k t staging files w) where
  -- what stands outside POSIX mode, and in it
  abbrev pub StandsNow : Bool → Type 0
  StandsNow lines_out = StandsAt w.geometry k t (kept_of w staging files) lines_out (length w.history) (state_of w)

  abbrev pub GathersNow : Bool → Type 0
  GathersNow lines_out = PosixStandsAt w.geometry k t (kept_of w staging files) lines_out (length w.history) w.start w.history

  -- IN WHATEVER MODE it holds, if it holds by what stands outside POSIX mode, and by what stands in it.
  pub in_each : (X : Type 0) (lines_out : Bool) → w.lines_out ≡ lines_out → (w.start.mode ≢ Mode.Posix → StandsNow lines_out → X) → (w.start.mode ≡ Mode.Posix → GathersNow lines_out → X) → X
  in_each X lines_out are strict posix = elim (posix_or_not w.start.mode) [
    | inl own ↦ posix own (subst GathersNow are (going.gathers own))
    | inr other ↦ strict other (subst StandsNow are (going.stands other))
  ]

  -- a job that is out is of no World in POSIX mode
  pub no_job : (p : JobOut) → In p w.pending → w.start.mode ≢ Mode.Posix
  no_job p at posix = subst (In p) (going.gathers posix).none_out at

  pub order_now : IsInOrder k
  order_now = in_each (IsInOrder k) w.lines_out refl (λ other stands. stands.order) (λ posix stands. stands.ready.going.order)

  pub geometry_now : k.volume.geometry ≡ w.geometry
  geometry_now = in_each (k.volume.geometry ≡ w.geometry) w.lines_out refl (λ other stands. stands.geometry) (λ posix stands. stands.ready.going.geometry)

  -- the device has the blocks of its geometry
  pub size_of_device : length k.cells ≡ 512 * w.geometry.blocks
  size_of_device = in_each (length k.cells ≡ 512 * w.geometry.blocks) w.lines_out refl (λ other stands. strict stands) (λ posix stands. posix_size w.geometry k t (kept_of w staging files) w.lines_out (length w.history) w.start w.history stands) where
    strict : StandsNow w.lines_out → length k.cells ≡ 512 * w.geometry.blocks
    strict stands =
        stands.order.stands.size ∙ ap (λ (v : Volume). 512 * v.geometry.blocks) (stands.order.settled stands.unbatched)
        ∙ ap (λ (g : Geometry). 512 * g.blocks) stands.geometry

  pub device_on : k.lost ≡ false
  device_on = in_each (k.lost ≡ false) w.lines_out refl (λ other stands. stands.on) (λ posix stands. stands.ready.going.on)

  pub quiet_beside : IsQuietBeside w.geometry k.cells
  quiet_beside = in_each (IsQuietBeside w.geometry k.cells) w.lines_out refl (λ other stands. stands.quiet) (λ posix stands. stands.ready.going.quiet)

  -- the log's lines are out,
  pub lines_lent : w.lines_out ≡ true → AreLinesLent k.volume k.cells (first_by w.geometry w.first)
  lines_lent out = in_each (AreLinesLent k.volume k.cells (first_by w.geometry w.first)) true out (λ other stands. stands.lines) (λ posix stands. stands.lines)

  -- or at home, and no job is out
  pub none_at_home : w.lines_out ≡ false → w.pending ≡ []
  none_at_home home = in_each (w.pending ≡ []) false home (λ other stands. stands.lines.0) (λ posix stands. stands.none_out)
