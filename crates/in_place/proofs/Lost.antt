-- The power goes while a block is zeroed, or before.
use Rattle.std.specs.Prelude.{◌≡◌, ◌≢◌, ◌⊎◌, ◌≤◌, ◌/◌, ℕ, Bool, List, [], ◌∷◌, Some}
use Rattle.std.proofs.Common.{sym, subst, inl, inr, ◌∙◌}
use Rattle.live_step_laws.specs.world_image_laws.Settings.{setting_run}
use Rattle.live_step_laws.specs.k_split_laws.layout_model.Journal.{IsSound}
use Rattle.live_step_laws.specs.k_split_laws.layout_model.Places.{Geometry}
use Rattle.write_plan.specs.file_overlay.Runs.{staged_at}
use Rattle.write_plan.specs.live_model.file_table.Files.{Files, runs_in, size_in}
use Rattle.in_place.specs.CleansLaws.{KeepsCleaned}
use Rattle.in_place.specs.ZerosLaws.{KeepsZeroed}
use Rattle.in_place.specs.Zeros.{staged_place}
use Rattle.live_step_laws.specs.k_split_laws.k_split_model.View.{View}
use Rattle.live_step_laws.specs.k_split_laws.k_split.Bytes.{IsOverwriteCut, tail_zeros}
use Rattle.live_step_laws.specs.k_split_laws.list_laws.Members.{In}
use Rattle.live_step_laws.specs.k_split_laws.Left.{IsLeftOf}
use Rattle.live_step_laws.proofs.k_split_laws_proofs.Cuts.{left_at, left_overwritten, left_same}
use Rattle.live_step_laws.specs.k_split_laws.posix_types.declared.item.Item.{Item}
use Rattle.live_step_laws.specs.k_split_laws.posix_tables.Open.{Tables}
use Rattle.live_step_laws.specs.k_split_laws.posix_spec.Run.{Unfinished, run}
use Rattle.live_step_laws.specs.k_split_laws.posix_spec.State.{State}
use Rattle.live_step_laws.specs.world_image_laws.Changed.{sound_headed}
use Rattle.live_step_laws.specs.world_image_laws.Back.{IsKeptBack}
use Rattle.live_step_laws.specs.world_image_laws.Flights.{promise_at_begin}
use Rattle.live_step_laws.specs.world_model.Jobs.{Job}
use Rattle.write_plan.specs.live_model.Losses.{KeepsWhenLost}
use Rattle.write_plan.specs.live_model.Standing.{Kept, StandsAt}
use Rattle.in_place.specs.Gaps.{LosesGap, with_files}

-- nothing was changed
pub kept_off : (g : Geometry) (k l : View) (t : Tables) (kept : Kept) (lines : Bool) (n : ℕ) (start : State) (history : List Item) (c : Unfinished)
    → (stands : StandsAt g k t kept lines n (run start history)) → l.cells ≡ k.cells → KeepsWhenLost k.volume l.cells kept stands.jobs start history (c ∷ [])
kept_off g k l t kept lines n start history c stands same mode =
    subst (λ d. IsKeptBack k.volume d kept.first kept.claims stands.jobs start history (c ∷ [])) (sym same)
    (promise_at_begin k.volume k.cells kept.claims stands.jobs stands.numbers start history stands.count kept.first c mode (λ strict. stands.flying.whole ((setting_run start history).mode ∙ strict)) stands.flying.device)

pub left_off : (g : Geometry) (k l : View) (t : Tables) (kept : Kept) (lines : Bool) (n : ℕ) (s : State) → StandsAt g k t kept lines n s → l.cells ≡ k.cells → IsLeftOf g k.cells l.cells
left_off g k l t kept lines n s stands same =
    subst (IsLeftOf g k.cells) (sym same)
    (left_same g k.cells (λ image is. subst (λ y. IsSound y image) stands.geometry (sound_headed k.volume.geometry image (stands.flying.device.headed image is))))

pub left_bytes : (g : Geometry) (k l : View) (t : Tables) (kept : Kept) (lines : Bool) (n : ℕ) (s : State) (x p : ℕ) (bytes : List ℕ) → StandsAt g k t kept lines n s → IsOverwriteCut x p bytes k l → IsLeftOf g k.cells l.cells
left_bytes g k l t kept lines n s x p bytes stands cut =
    subst (λ y. IsLeftOf y k.cells l.cells) stands.geometry (left_at k.volume k.committed k.cells l.cells (stands.order.settled stands.unbatched) (left_overwritten x p bytes k l cut))

module _ (k l : View) (files : Files) (ino from : ℕ) (behind : size_in files ino ≤ from) where
  -- nothing was changed
  pub loses_off : l.cells ≡ k.cells → LosesGap ino files k l
  loses_off same = record {
    left = λ has. left_off has.g k l has.t (with_files has.kept files) has.lines has.n has.s has.stands same;
    kept = λ has start history c is.
        subst (λ y. (stands : StandsAt has.g k has.t (with_files has.kept files) has.lines has.n y) → KeepsWhenLost k.volume l.cells has.kept stands.jobs start history (c ∷ [])) (sym is)
        (λ stands. kept_off has.g k l has.t (with_files has.kept files) has.lines has.n start history c stands same) has.stands;
  }

  -- a block of its map
  pub loses_mapped : KeepsCleaned → (l.cells ≡ k.cells) ⊎ IsOverwriteCut ino from (tail_zeros k.volume ino from) k l → LosesGap ino files k l
  loses_mapped keeps (inl same) = loses_off same
  loses_mapped keeps (inr cut) = record {
    left = λ has. left_bytes has.g k l has.t (with_files has.kept files) has.lines has.n has.s ino from (tail_zeros k.volume ino from) has.stands cut;
    kept = λ has start history c is.
        subst
        (λ y. (stands : StandsAt has.g k has.t (with_files has.kept files) has.lines has.n y) → ((j : Job) → In j stands.jobs → j.draft.ino ≢ ino)
        → KeepsWhenLost k.volume l.cells has.kept stands.jobs start history (c ∷ []))
        (sym is)
        (λ stands others. keeps has.g k l has.t (with_files has.kept files) has.lines has.n start history c ino from stands (record { file = has.file; behind = behind; others = others }) cut)
        has.stands has.others;
  }

  -- a staged block
  pub loses_staged : (staging block : ℕ) → KeepsZeroed → staged_at (runs_in files ino) (from / 4096) ≡ Some (staging, block)
      → (l.cells ≡ k.cells) ⊎ IsOverwriteCut staging (staged_place block from) (tail_zeros k.volume staging (staged_place block from)) k l → LosesGap ino files k l
  loses_staged staging block keeps at (inl same) = loses_off same
  loses_staged staging block keeps at (inr cut) = record {
    left = λ has. left_bytes has.g k l has.t (with_files has.kept files) has.lines has.n has.s staging (staged_place block from) (tail_zeros k.volume staging (staged_place block from)) has.stands cut;
    kept = λ has start history c is.
        subst
        (λ y. (stands : StandsAt has.g k has.t (with_files has.kept files) has.lines has.n y) → ((j : Job) → In j stands.jobs → j.draft.ino ≢ ino)
        → KeepsWhenLost k.volume l.cells has.kept stands.jobs start history (c ∷ []))
        (sym is)
        (λ stands others.
        keeps has.g k l has.t (with_files has.kept files) has.lines has.n start history c ino from staging block stands
        (record { file = has.file; behind = behind; others = others; at = at }) cut)
        has.stands has.others;
  }
