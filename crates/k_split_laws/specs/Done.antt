-- A step of K-Split that is done, one that is cut off, and a call after the power went.
use Rattle.std.specs.Prelude.{◌≡◌, ◌≢◌, ◌+◌, ℕ, false, List, [], ◌∷◌, Option}
use Rattle.std.proofs.Common.{ap, ◌∙◌, sym, subst}
use Rattle.world_write_laws.specs.world_step_laws.pm_model.declared.Cell.{Cell}
use Rattle.world_write_laws.specs.world_step_laws.pm_model.ImageLaws.{IsImage-words_of}
use Rattle.world_write_laws.specs.world_step_laws.pm_model.Images.{words_of}
use Rattle.world_write_laws.specs.world_step_laws.pm_model.Words.{Words}
use Rattle.world_write_laws.specs.world_step_laws.layout_model.declared.lines.Draft.{Draft}
use Rattle.world_write_laws.specs.world_step_laws.layout_model.declared.lines.Kind.TheVariants.{Staging}
use Rattle.world_write_laws.specs.world_step_laws.layout_model.Journal.{journaled}
use Rattle.world_write_laws.specs.world_step_laws.image_model.Volume.{extents, inode, Volume}
use Rattle.world_write_laws.specs.world_step_laws.extent_model.Extents.{disk_at}
use Rattle.world_write_laws.specs.world_step_laws.k_split_model.Stands.{Stands}
use Rattle.world_write_laws.specs.world_step_laws.k_split_model.View.{View}
use Rattle.k_split.specs.Answers.{Changes, IsOff}
use Rattle.world_write_laws.specs.world_step_laws.posix_types.declared.item.Item.{Item}
use Rattle.world_write_laws.specs.world_step_laws.posix_spec.Run.{Unfinished, run}
use Rattle.world_write_laws.specs.world_step_laws.posix_spec.State.{State}
use Rattle.world_write_laws.specs.world_step_laws.world_model.Jobs.{Job, JobsStand}
use Rattle.world_image_laws.specs.Images.{HasLogHome, IsChange, IsRunning, StandsFor}
use Rattle.world_image_laws.specs.Promised.{KeepsPromise}
use Rattle.world_image_laws.specs.Running.{changes_device, keeps_log_home, promise_now, promise_of_call}
use Rattle.world_image_laws.specs.Back.{IsKeptBack}
use Rattle.world_image_laws.specs.Flights.{promise_at_begin, promise_beside, promise_between}
use Rattle.world_image_laws.specs.LentLaws.{SameBlocks}
use Rattle.k_split_laws.specs.Going.{IsGoing}
use Rattle.k_split_laws.specs.Laws.{GoesOn, KeepsImageBetween, KeepsImageCut, KeepsImageOff, KeepsLog, KeepsPromiseCut, KeepsPromiseOff}

-- the change of the device
change_of : (v u w : Volume) (d e : List Cell) → u ≡ v → Changes u w d e → w.geometry ≡ v.geometry → w.base ≡ v.base → IsChange v w d e
change_of v u w d e same changes geometry base = let of_v : Changes v w d e = subst (λ x. Changes x w d e) same changes in record { each_image = of_v.each_image; geometry = geometry; base = base }

-- DONE: the World goes on,
pub goes_on : GoesOn
goes_on touched old new claims jobs numbers after s next count later going done step =
    let off : new.batched ≡ false = done.batched ∙ going.unbatched in
    let now : new.committed ≡ new.volume = done.order.settled off in
    record {
      order = done.order;
      unbatched = off;
      on = done.kept_on;
      device = changes_device old.volume new.volume old.cells new.cells claims jobs numbers after s next count later going.device
          (change_of old.volume old.committed new.volume old.cells new.cells (going.order.settled going.unbatched) done.changes step.geometry step.base)
          (subst (λ v. Stands v.geometry v new.cells) now done.order.stands) step.room step.takes;
    }

-- and log lines at home show the claims.
pub keeps_log : KeepsLog
keeps_log touched old new claims jobs numbers after s next count later going done step home =
    keeps_log_home old.volume new.volume old.cells new.cells claims going.device.headed
    (change_of old.volume old.committed new.volume old.cells new.cells (going.order.settled going.unbatched) done.changes step.geometry step.base) home

-- the World runs where its log lines are at home and no write is in flight
pub runs_home : (k : View) (claims : List (ℕ × Draft)) (numbers : List ℕ) (s : State) (count : ℕ) → IsGoing k claims [] numbers s count → HasLogHome k.volume k.cells claims → IsRunning k.volume k.cells claims numbers s count
runs_home k claims numbers s count going home = record { device = going.device; log = home }

-- CUT OFF: the device keeps the promise, with the call unfinished.
pub keeps_cut : KeepsPromiseCut
keeps_cut touched old new w claims numbers after s next count later start history c mode going home cut step before behind =
    promise_of_call old.volume w old.cells new.cells claims numbers after s next count later start history c mode (runs_home old claims numbers s count going home)
    (change_of old.volume old.committed w old.cells new.cells (going.order.settled going.unbatched) cut.changes step.geometry step.base) step.room step.takes before behind

-- OFF before it: so it does.
pub keeps_off : KeepsPromiseOff
keeps_off old new claims numbers start history unfinished count going home off =
    subst (λ d. KeepsPromise old.volume.geometry d start history unfinished) (sym (ap (λ (k : View). k.cells) off))
    (promise_now old.volume old.cells claims numbers start history unfinished count (runs_home old claims numbers (run start history) count going home))

-- ---- with writes in flight

-- staging files keep their maps, and so the jobs their blocks
pub same_blocks : (v w : Volume) (live : List Draft) (f : Words) (numbers : List ℕ) (s : State) (jobs : List Job) → ((ino : ℕ) → (inode v ino).kind ≡ Staging → extents w ino ≡ extents v ino) → JobsStand v live f numbers s jobs → SameBlocks v w jobs
same_blocks v w live f numbers s [] staging stand = tt
same_blocks v w live f numbers s (j ∷ jobs) staging stand = (
  λ k. ap (λ es. disk_at es (j.draft.staging_block + k)) (staging j.draft.staging stand.0.staging),
  same_blocks v w live f numbers s jobs staging stand.2,
)

pub keeps_image_cut : KeepsImageCut
keeps_image_cut touched old new w claims jobs numbers after s next count later start history c first mode found going cut step before behind =
    promise_beside old.volume w old.cells new.cells claims jobs numbers after s next start history count later first c mode found going.device before behind
    (change_of old.volume old.committed w old.cells new.cells (going.order.settled going.unbatched) cut.changes step.geometry step.base)
    (same_blocks old.volume w _ (journaled (words_of old.cells)) numbers s jobs step.staging (going.device.world (words_of old.cells) (IsImage-words_of old.cells)).valid.out)
    step.room step.takes

-- a device that the power left as it was keeps what it kept
kept_off : (old new : View) (first : Words) (claims : List (ℕ × Draft)) (jobs : List Job) (start : State) (history : List Item) (last : List Unfinished) → IsOff old new
    → IsKeptBack old.volume old.cells first claims jobs start history last → IsKeptBack old.volume new.cells first claims jobs start history last
kept_off old new first claims jobs start history last off kept = subst (λ d. IsKeptBack old.volume d first claims jobs start history last) (sym (ap (λ (k : View). k.cells) off)) kept

pub keeps_image_off : KeepsImageOff
keeps_image_off old new claims jobs numbers start history count c first mode found going off =
    kept_off old new first claims jobs start history (c ∷ []) off
    (promise_at_begin old.volume old.cells claims jobs numbers start history count first c mode found going.device)

pub keeps_image_between : KeepsImageBetween
keeps_image_between old new claims jobs numbers s start history count c first mode found going leads off =
    kept_off old new first claims jobs start history (c ∷ []) off
    (promise_between old.volume old.cells claims jobs numbers s start history count first c mode found going.device leads)
