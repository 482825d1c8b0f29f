-- A file is published, or the power goes in it.
use Rattle.std.specs.Prelude.{◌≡◌, ◌+◌, ◌*◌, ℕ, List, [], length, Ok, refl}
use Rattle.std.proofs.Common.{sym, subst}
use Rattle.log_checkpoint.specs.file_overlay.declared.runs.Run.{Run}
use Rattle.live_step_laws.specs.live_model.file_table.Files.{ChangesFile, Files, runs_in, size_in}
use Rattle.log_checkpoint.specs.fsync_relink.Publishes.{IsCarriedOut, IsPublishDone, IsPublishStopped, MayPublish}
use Rattle.log_checkpoint.specs.fsync_relink.k_journal.declared.outcomes.Commit.{Commit}
use Rattle.live_step_laws.specs.k_split_model.View.{View}
use Rattle.log_checkpoint.specs.fsync_relink.k_split.declared.faults.KFault.{KFault}
use Rattle.live_step_laws.specs.pm_model.Powers.{Steps, Supply}
use Rattle.file_publish.specs.Answers.{IsFilePublished, with_files}
use Rattle.file_publish.specs.RelinksLaws.{KeepsPublished, StandsPublished}

module _ (ino size : ℕ) (runs : List Run) (f : Files) (k l : View) (runs_are : runs ≡ runs_in f ino) (size_is : size ≡ size_in f ino) where
  pub file-steps : (before after : Supply) → Steps (32768 * (length runs + 1)) before after → Steps (32768 * (length (runs_in f ino) + 1)) before after
  file-steps before after took = subst (λ (rs : List Run). Steps (32768 * (length rs + 1)) before after) runs_are took

  pub file-may : MayPublish ino (size_in f ino) (runs_in f ino) k → MayPublish ino size runs k
  file-may may = subst (λ m. MayPublish ino m runs k) (sym size_is) (subst (λ rs. MayPublish ino (size_in f ino) rs k) (sym runs_are) may)

  pub file-done : StandsPublished → MayPublish ino (size_in f ino) (runs_in f ino) k → (u : Files) → IsCarriedOut ino size runs k l (Ok Commit.Done) → ChangesFile ino [] size f u
      → IsFilePublished ino f k u l (Ok Commit.Done)
  file-done published may u carried cleared =
      let of_runs : IsPublishDone ino size (runs_in f ino) k l = subst (λ (rs : List Run). IsPublishDone ino size rs k l) runs_are carried in
      let done : IsPublishDone ino (size_in f ino) (runs_in f ino) k l = subst (λ m. IsPublishDone ino m (runs_in f ino) k l) size_is of_runs in
      let loses : ChangesFile ino [] (size_in f ino) f u = subst (λ m. ChangesFile ino [] m f u) size_is cleared in
      (done, loses, λ g t x lines n s stands beside. published g k l t (with_files x f) u lines n s ino stands may beside loses done)

  pub file-lost : KeepsPublished → MayPublish ino (size_in f ino) (runs_in f ino) k → IsCarriedOut ino size runs k l (Ok Commit.PowerLost) → IsFilePublished ino f k f l (Ok Commit.PowerLost)
  file-lost keeps may carried =
      let of_runs : IsPublishStopped KFault.PowerLost ino size (runs_in f ino) k l = subst (λ (rs : List Run). IsPublishStopped KFault.PowerLost ino size rs k l) runs_are carried in
      let stopped : IsPublishStopped KFault.PowerLost ino (size_in f ino) (runs_in f ino) k l = subst (λ m. IsPublishStopped KFault.PowerLost ino m (runs_in f ino) k l) size_is of_runs in
      (refl, stopped, λ g t x lines n start history stands beside. keeps g k l t (with_files x f) lines n start history ino stands may beside stopped)
