-- Changes of K-Split, done or cut off, one after the other: the same words are lent.
use Rattle.std.proofs.Common.{◌≡◌, ◌∷◌, [], ℕ, zero, suc, false, List, length, refl, ap, ◌∙◌, sym, subst, inl, inr}
use Rattle.std.specs.Prelude.{Err, Ok}
use Rattle.oplog_entry.specs.pm_model.declared.Cell.{Cell}
use Rattle.oplog_entry.specs.pm_model.Images.{IsImage}
use Rattle.oplog_entry.specs.pm_model.Words.{Words}
use Rattle.oplog_entry.specs.layout_model.Journal.{IsSound}
use Rattle.oplog_entry.specs.layout_model.Places.{Geometry}
use Rattle.oplog_entry.specs.image_model.Volume.{inode, Volume}
use Rattle.in_place.specs.write_plan.eof_laws.log_checkpoint.file_overlay.declared.runs.Run.{Run}
use Rattle.in_place.specs.write_plan.eof_laws.log_checkpoint.file_table.Files.{Files, runs_in, size_in}
use Rattle.in_place.specs.write_plan.eof_laws.log_checkpoint.fsync_relink.Publishes.{AreRelinked, IsPublishStopped, IsRelinkedUpTo, move_of, size_before}
use Rattle.in_place.specs.k_split_laws.k_journal.declared.outcomes.Commit.{Commit}
use Rattle.in_place.specs.k_split_laws.k_split_model.View.{View}
use Rattle.in_place.specs.k_split_laws.k_split.Answers.{IsOff}
use Rattle.in_place.specs.k_split_laws.k_split.Laps.{IsBaseAnswer, next_base}
use Rattle.in_place.specs.k_split_laws.k_split.MapChanges.{IsGivenUpWith, IsMapAnswer, IsMovedWith, IsSizedWith}
use Rattle.in_place.specs.k_split_laws.k_split.Order.{IsInOrder}
use Rattle.in_place.specs.k_split_laws.k_split.declared.faults.KFault.{KFault}
use Rattle.in_place.specs.write_plan.eof_laws.log_checkpoint.Gathers.{AreDone, AreDoneUpTo, IsGatheredTo, IsLapAnswer, IsLineDone}
use Rattle.in_place.proofs.k_split_laws_proofs.Cuts.{left_map_cut, left_same, left_through}
use Rattle.in_place.specs.k_split_laws.Left.{IsLeftOf}
use Rattle.in_place.specs.write_plan.eof_laws.log_checkpoint.staging_files.GivesUp.{AreCutOff, AreGivenUp}
use Rattle.in_place.specs.write_plan.eof_laws.log_checkpoint.staging_files.Keeps.{Staged}
use Rattle.in_place.specs.live_model.write_jobs.world_image_laws.Changed.{sound_headed}
use Rattle.write_end.specs.Stops.{KeepsGatheredOut, KeepsOut, KeepsPublishedOut, LeavesStopped}
use Rattle.in_place.specs.k_split_laws.k_split_model.declared.map_changes.moves.Move.{Move}

-- ---- the same words

keeps_none : (k l : View) → l ≡ k → KeepsOut k.cells l.cells
keeps_none k l same = subst (λ (x : View). KeepsOut k.cells x.cells) (sym same) (record { size = refl; lent = λ i. refl })

keeps_off : (k l : View) → IsOff k l → KeepsOut k.cells l.cells
keeps_off k l off = subst (λ (x : View). KeepsOut k.cells x.cells) (sym off) (record { size = refl; lent = λ i. refl })

keeps_two : (d e f : List Cell) → KeepsOut d e → KeepsOut e f → KeepsOut d f
keeps_two d e f first second = record { size = second.size ∙ first.size; lent = λ i. second.lent i ∙ first.lent i }

keeps_done : (Makes : Volume → List ℕ → Type 0) (k l : View) → IsMapAnswer Makes k l (Ok tt) → KeepsOut k.cells l.cells
keeps_done Makes k l is = record { size = is.2.changes.size; lent = is.2.changes.lent }

keeps_cut : (Makes : Volume → List ℕ → Type 0) (k l : View) → IsMapAnswer Makes k l (Err KFault.PowerLost) → KeepsOut k.cells l.cells
keeps_cut Makes k l (inl off) = keeps_off k l off
keeps_cut Makes k l (inr cut) = record { size = cut.3.changes.size; lent = cut.3.changes.lent }

-- ---- one file

abbrev first_relink : ℕ → ℕ → Run → List Run → View → Volume → List ℕ → Type 0
first_relink ino size r runs k = IsMovedWith (move_of ino (size_before runs size (inode k.volume ino).size) r) k

keeps_relinked : (ino size : ℕ) (runs : List Run) (k l : View) → AreRelinked ino size runs k l → KeepsOut k.cells l.cells
keeps_relinked ino size [] k l same = keeps_none k l same
keeps_relinked ino size (r ∷ runs) k l is = keeps_two k.cells is.0.cells l.cells (keeps_done (first_relink ino size r runs k) k is.0 is.1) (keeps_relinked ino size runs is.0 l is.2)

keeps_relinked_to : (ino size : ℕ) (runs : List Run) (k l : View) → IsRelinkedUpTo KFault.PowerLost ino size runs k l → KeepsOut k.cells l.cells
keeps_relinked_to ino size [] k l is = absurd is
keeps_relinked_to ino size (r ∷ runs) k l (inl cut) = keeps_cut (first_relink ino size r runs k) k l cut
keeps_relinked_to ino size (r ∷ runs) k l (inr is) = keeps_two k.cells is.0.cells l.cells (keeps_done (first_relink ino size r runs k) k is.0 is.1) (keeps_relinked_to ino size runs is.0 l is.2)

pub keeps_published : KeepsPublishedOut
keeps_published k l ino size [] (inl none) = keeps_none k l none.1
keeps_published k l ino size [] (inr sized) = keeps_done (IsSizedWith ino size k) k l sized.1
keeps_published k l ino size (r ∷ runs) is = keeps_relinked ino size (r ∷ runs) k l is.1

keeps_stopped : (k l : View) (ino size : ℕ) (runs : List Run) → IsPublishStopped KFault.PowerLost ino size runs k l → KeepsOut k.cells l.cells
keeps_stopped k l ino size [] is = keeps_cut (IsSizedWith ino size k) k l is.1
keeps_stopped k l ino size (r ∷ runs) is = keeps_relinked_to ino size (r ∷ runs) k l is

-- ---- all files

keeps_line : (ino : ℕ) (t : Files) (k l : View) → IsLineDone ino t k l → KeepsOut k.cells l.cells
keeps_line ino t k l (inl file) = keeps_published k l ino (size_in t ino) (runs_in t ino) file.1
keeps_line ino t k l (inr none) = keeps_none k l none.1

keeps_lines : (n : ℕ) (t : Files) (k l : View) → AreDone n t k l → KeepsOut k.cells l.cells
keeps_lines zero t k l same = keeps_none k l same
keeps_lines (suc n) t k l is = keeps_two k.cells is.0.cells l.cells (keeps_lines n t k is.0 is.1) (keeps_line n t is.0 l is.2)

keeps_lines_to : (t : Files) (k l : View) → AreDoneUpTo KFault.PowerLost t k l → KeepsOut k.cells l.cells
keeps_lines_to t k l is = keeps_two k.cells is.middle.cells l.cells (keeps_lines is.done t k is.middle is.before) behind where
  behind : KeepsOut is.middle.cells l.cells
  behind = elim is.stopped [
    | inl off ↦ keeps_none is.middle l off.1
    | inr stopped ↦ keeps_stopped is.middle l is.done (size_in t is.done) (runs_in t is.done) stopped.1
  ]

-- ---- the next lap

keeps_given_up : (n : ℕ) (k l : View) → AreGivenUp n k l → KeepsOut k.cells l.cells
keeps_given_up zero k l same = keeps_none k l same
keeps_given_up (suc n) k l is = keeps_two k.cells is.0.cells l.cells (keeps_given_up n k is.0 is.1) (keeps_done (IsGivenUpWith (suc n) is.0) is.0 l is.2)

keeps_cut_off : (k l : View) → AreCutOff k l → KeepsOut k.cells l.cells
keeps_cut_off k l is = keeps_two k.cells is.middle.cells l.cells (keeps_given_up is.done k is.middle is.gave) (keeps_cut (IsGivenUpWith (suc is.done) is.middle) is.middle l is.cut)

keeps_base : (base : ℕ) (k l : View) (answer : Commit) → IsBaseAnswer base k l answer → KeepsOut k.cells l.cells
keeps_base base k l Commit.Done is = record { size = is.1.changes.size; lent = is.1.changes.lent }
keeps_base base k l Commit.PowerLost (inl off) = keeps_off k l off
keeps_base base k l Commit.PowerLost (inr cut) = record { size = cut.changes.size; lent = cut.changes.lent }

keeps_lap : (k l : View) (staging : Staged) (answer : Commit) → IsLapAnswer k staging l (Ok answer) → KeepsOut k.cells l.cells
keeps_lap k l staging Commit.Done is = keeps_two k.cells is.bare.cells l.cells (keeps_given_up 4 k is.bare is.given_up) (keeps_base (next_base k.volume) is.bare l Commit.Done is.lap)
keeps_lap k l staging Commit.PowerLost (inl cut) = keeps_cut_off k l cut
keeps_lap k l staging Commit.PowerLost (inr is) = keeps_two k.cells is.0.cells l.cells (keeps_given_up 4 k is.0 is.1) (keeps_base (next_base k.volume) is.0 l Commit.PowerLost is.2)

keeps_gathered_to : (k l : View) (files table : Files) (staging : Staged) (answer : Commit) → IsGatheredTo files k staging table l (Ok answer) → KeepsOut k.cells l.cells
keeps_gathered_to k l files table staging answer is = keeps_two k.cells is.0.cells l.cells (keeps_lines (length files.sizes) files k is.0 is.1.done) (keeps_lap is.0 l staging answer is.2)

pub keeps_gathered : KeepsGatheredOut
keeps_gathered k l files table staging Commit.Done is = keeps_gathered_to k l files table staging Commit.Done is
keeps_gathered k l files table staging Commit.PowerLost (inl part) = keeps_lines_to files k l part
keeps_gathered k l files table staging Commit.PowerLost (inr all) = keeps_gathered_to k l files table staging Commit.PowerLost all

-- ---- the journal of each image

-- K-Split goes on by these numbers, and the journal of each image of it is sound.
record IsSoundAt (g : Geometry) (k : View) : Type 0 where
  order : IsInOrder k
  unbatched : k.batched ≡ false
  geometry : k.volume.geometry ≡ g
  sound : (image : Words) → IsImage k.cells image → IsSound g image

module _ (g : Geometry) (k l : View) (at : IsSoundAt g k) where
  committed : k.committed.geometry ≡ g
  committed = ap (λ (v : Volume). v.geometry) (at.order.settled at.unbatched) ∙ at.geometry

  left_off : IsOff k l → IsLeftOf g k.cells l.cells
  left_off off = subst (λ (x : View). IsLeftOf g k.cells x.cells) (sym off) (left_same g k.cells at.sound)

  left_answer : (Makes : Volume → List ℕ → Type 0) → IsMapAnswer Makes k l (Err KFault.PowerLost) → IsLeftOf g k.cells l.cells
  left_answer Makes (inl off) = left_off off
  left_answer Makes (inr cut) = subst (λ (x : Geometry). IsLeftOf x k.cells l.cells) committed (left_map_cut cut.1 cut.0 k l cut.3)

-- behind a relink that is done
sound_behind : (g : Geometry) (k l : View) (m : Move) → IsSoundAt g k → IsMapAnswer (IsMovedWith m k) k l (Ok tt) → IsSoundAt g l
sound_behind g k l m at is = record {
  order = is.2.order;
  unbatched = is.2.batched ∙ at.unbatched;
  geometry = ap (λ (v : Volume). v.geometry) is.1.moved.is_moved ∙ at.geometry;
  sound = λ image image_is. subst (λ (x : Geometry). IsSound x image) (committed g k l at) (is.2.changes.each_image image image_is).2.sound;
}

left_relinked : (g : Geometry) (ino size : ℕ) (runs : List Run) (k l : View) → IsSoundAt g k → IsRelinkedUpTo KFault.PowerLost ino size runs k l → IsLeftOf g k.cells l.cells
left_relinked g ino size [] k l at is = absurd is
left_relinked g ino size (r ∷ runs) k l at (inl cut) = left_answer g k l at (first_relink ino size r runs k) cut
left_relinked g ino size (r ∷ runs) k l at (inr is) =
    let kept = keeps_done (first_relink ino size r runs k) k is.0 is.1 in
    left_through g k.cells is.0.cells l.cells kept.size kept.lent
    (left_relinked g ino size runs is.0 l (sound_behind g k is.0 (move_of ino (size_before runs size (inode k.volume ino).size) r) at is.1) is.2)

left_published : (g : Geometry) (ino size : ℕ) (runs : List Run) (k l : View) → IsSoundAt g k → IsPublishStopped KFault.PowerLost ino size runs k l → IsLeftOf g k.cells l.cells
left_published g ino size [] k l at is = left_answer g k l at (IsSizedWith ino size k) is.1
left_published g ino size (r ∷ runs) k l at is = left_relinked g ino size (r ∷ runs) k l at is

pub leaves_stopped : LeavesStopped
leaves_stopped g k l t kept lines n s ino size runs stands is =
    left_published g ino size runs k l
    (record {
      order = stands.order;
      unbatched = stands.unbatched;
      geometry = stands.geometry;
      sound = λ image at. subst (λ (x : Geometry). IsSound x image) stands.geometry (sound_headed k.volume.geometry image (stands.flying.device.headed image at));
    })
    is
