-- The power went while the first run of a file was relinked: each image is kept.
use Rattle.std.specs.Prelude.{◌≡◌, ℕ, Bool, false, List, [], ◌∷◌, refl}
use Rattle.std.proofs.Common.{◌∙◌, sym, subst}
use Rattle.live_step_laws.specs.world_image_laws.Settings.{setting_run}
use Rattle.live_step_laws.specs.layout_model.Places.{Geometry}
use Rattle.live_step_laws.specs.image_model.Volume.{Volume}
use Rattle.log_checkpoint.specs.file_overlay.declared.runs.Run.{Run}
use Rattle.live_step_laws.specs.live_model.file_table.Files.{runs_in, size_in}
use Rattle.log_checkpoint.specs.fsync_relink.Publishes.{MayPublish}
use Rattle.live_step_laws.specs.k_split_model.View.{View}
use Rattle.log_checkpoint.specs.fsync_relink.k_split.MapChanges.{ChangesMaps, IsMapCut, IsMovedWith}
use Rattle.live_step_laws.specs.posix_types.declared.item.Item.{Item}
use Rattle.live_step_laws.specs.posix_tables.Open.{Tables}
use Rattle.live_step_laws.specs.posix_spec.Run.{run}
use Rattle.live_step_laws.specs.posix_spec.State.{State}
use Rattle.live_step_laws.specs.world_image_laws.Promised.{IsKept}
use Rattle.live_step_laws.specs.world_model.Jobs.{Job}
use Rattle.live_step_laws.specs.world_step_laws.Steps.{AreBeside}
use Rattle.live_step_laws.specs.world_step_laws.Touched.{only}
use Rattle.live_step_laws.specs.live_model.Standing.{AreJobsOf, Kept, JobOut, StandsAt}
use Rattle.live_step_laws.specs.Changes.{IsChangeWith}
use Rattle.file_publish.specs.RelinksLaws.{first_move, KeepsRelinked, KeepsRelinkedHome}
use Rattle.file_publish.proofs.Cut.{kept-back, kept-home}
use Rattle.file_publish.proofs.Relinked as relinking

module _ (g : Geometry) (k l : View) (t : Tables) (kept : Kept) (lines : Bool) (n : ℕ) (start : State) (history : List Item) (stands : StandsAt g k t kept lines n (run start history)) (ino : ℕ) (r : Run) (rest : List Run)
    (runs_are : runs_in kept.files ino ≡ r ∷ rest) (may : MayPublish ino (size_in kept.files ino) (r ∷ rest) k) (beside : AreBeside (only ino) stands.jobs)
    (w : Volume) (blocks : List ℕ) (made : IsMovedWith (first_move kept k ino r rest) k w blocks) (cut : IsMapCut blocks w k l) where
  pub changed : IsChangeWith blocks k.volume w k.cells l.cells
  changed =
      let of_v : ChangesMaps blocks k.volume w k.cells l.cells = subst (λ u. ChangesMaps blocks u w k.cells l.cells) (stands.order.settled stands.unbatched) cut.changes in
      record {
        each_image = of_v.each_image;
        geometry = (relinking.change g k t kept lines n (run start history) stands ino r rest runs_are may beside w blocks made cut.whole).geometry;
        base = relinking.same-base g k t kept lines n (run start history) stands ino r rest runs_are may beside w blocks made cut.whole;
      }

pub keeps-relinked : KeepsRelinked
keeps-relinked g k l t kept lines n start history ino r rest stands runs_are may beside w blocks made cut mode =
    kept-back blocks k.volume w k.cells l.cells kept.claims stands.jobs stands.numbers (run start history) stands.count stands.flying.device
    (changed g k l t kept lines n start history stands ino r rest runs_are may beside w blocks made cut) (relinking.spare g k t kept lines n (run start history) stands ino r rest runs_are may beside w blocks made cut.whole)
    (relinking.room g k t kept lines n (run start history) stands ino r rest runs_are may beside w blocks made cut.whole) (relinking.takes g k t kept lines n (run start history) stands ino r rest runs_are may beside w blocks made cut.whole) start history mode refl (λ strict. stands.flying.whole ((setting_run start history).mode ∙ strict)) (relinking.job-block g k t kept lines n (run start history) stands ino r rest runs_are may beside w blocks made cut.whole) kept.first

-- with log lines at home no job is out
pub no-jobs : (pending : List JobOut) (jobs : List Job) → AreJobsOf pending jobs → pending ≡ [] → jobs ≡ []
no-jobs [] [] are none = refl
no-jobs [] (j ∷ jobs) are none = absurd are
no-jobs (p ∷ pending) jobs are none = absurd (let never : p ∷ pending ≡ [] = none in cc)

pub keeps-relinked-home : KeepsRelinkedHome
keeps-relinked-home g k l t kept n start history ino r rest mode stands runs_are may w blocks made cut image of_device honest =
    let none : stands.jobs ≡ [] = no-jobs kept.pending stands.jobs stands.jobs_are stands.lines.0 in
    let beside : AreBeside (only ino) stands.jobs = subst (AreBeside (only ino)) (sym none) tt in
    subst (λ x. IsKept x start history [] image) stands.geometry
    (kept-home blocks k.volume w k.cells l.cells kept.claims stands.jobs stands.numbers (run start history) stands.count stands.flying.device
    (changed g k l t kept false n start history stands ino r rest runs_are may beside w blocks made cut)
    (relinking.spare g k t kept false n (run start history) stands ino r rest runs_are may beside w blocks made cut.whole)
    (relinking.room g k t kept false n (run start history) stands ino r rest runs_are may beside w blocks made cut.whole)
    (relinking.takes g k t kept false n (run start history) stands ino r rest runs_are may beside w blocks made cut.whole)
    start history mode refl (λ strict. stands.flying.whole ((setting_run start history).mode ∙ strict))
    (relinking.job-block g k t kept false n (run start history) stands ino r rest runs_are may beside w blocks made cut.whole)
    stands.lines.1 image of_device)
