-- No word is lent after a publishing.
use Rattle.std.proofs.Common.{ℕ, List, [], ◌∷◌, Ok, Err, sym, subst, inl, inr}
use Rattle.k_map_tests.specs.pm_model.Cells.{AllHome}
use Rattle.k_map_tests.specs.image_model.Volume.{inode}
use Rattle.file_overlay.specs.declared.runs.Run.{Run}
use Rattle.file_overlay.specs.Runs.{Overlaid}
use Rattle.k_map_tests.specs.k_journal.declared.outcomes.Commit.{Commit}
use Rattle.k_map_tests.specs.k_split_model.View.{View}
use Rattle.k_map_tests.specs.k_split.declared.faults.KFault.{KFault}
use Rattle.k_map_tests.specs.k_split.MapChanges.{IsMovedWith, IsSizedWith}
use Rattle.k_map_tests.specs.Calls.{IsFresh}
use Rattle.k_map_tests.proofs.Lefts.{map-left}
use Rattle.fsync_relink.specs.Publishes.{AreRelinked, IsPublishAnswer, IsPublishDone, IsPublishStopped, IsRelinkedUpTo, move_of, size_before}

relinked-fresh : (ino size : ℕ) (runs : List Run) (k l : View) → AreRelinked ino size runs k l → IsFresh k → IsFresh l
relinked-fresh ino size [] k l same fresh = subst IsFresh (sym same) fresh
relinked-fresh ino size (run ∷ runs) k l each fresh =
    relinked-fresh ino size runs each.0 l each.2
    (map-left (λ w blocks. IsMovedWith (move_of ino (size_before runs size (inode k.volume ino).size) run) k w blocks) k each.0 (Ok tt) each.1 fresh)

relinked-home : (ino size : ℕ) (runs : List Run) (k l : View) → IsRelinkedUpTo KFault.PowerLost ino size runs k l → IsFresh k → AllHome l.cells
relinked-home ino size [] k l cut fresh = absurd cut
relinked-home ino size (run ∷ runs) k l (inl cut) fresh =
    map-left (λ w blocks. IsMovedWith (move_of ino (size_before runs size (inode k.volume ino).size) run) k w blocks) k l (Err KFault.PowerLost) cut fresh
relinked-home ino size (run ∷ runs) k l (inr each) fresh =
    relinked-home ino size runs each.0 l each.2
    (map-left (λ w blocks. IsMovedWith (move_of ino (size_before runs size (inode k.volume ino).size) run) k w blocks) k each.0 (Ok tt) each.1 fresh)

done-home : (ino size : ℕ) (runs : List Run) (k l : View) → IsPublishDone ino size runs k l → IsFresh k → AllHome l.cells
done-home ino size [] k l (inl same) fresh = subst (λ (v : View). AllHome v.cells) (sym same.1) fresh.home
done-home ino size [] k l (inr sized) fresh =
    let left : IsFresh l = map-left (λ w blocks. IsSizedWith ino size k w blocks) k l (Ok tt) sized.1 fresh in left.home
done-home ino size (run ∷ runs) k l done fresh =
    let left : IsFresh l = relinked-fresh ino size (run ∷ runs) k l done.1 fresh in left.home

stopped-home : (ino size : ℕ) (runs : List Run) (k l : View) → IsPublishStopped KFault.PowerLost ino size runs k l → IsFresh k
    → AllHome l.cells
stopped-home ino size [] k l sized fresh = map-left (λ w blocks. IsSizedWith ino size k w blocks) k l (Err KFault.PowerLost) sized.1 fresh
stopped-home ino size (run ∷ runs) k l stopped fresh = relinked-home ino size (run ∷ runs) k l stopped fresh

pub answer-home : (ino size : ℕ) (o p : Overlaid) (k l : View) (commit : Commit) → IsPublishAnswer ino size o k p l (Ok commit) → IsFresh k
    → AllHome l.cells
answer-home ino size o p k l Commit.Done is fresh = done-home ino size o.runs k l is.1 fresh
answer-home ino size o p k l Commit.PowerLost is fresh = elim is.1 as (λ _. AllHome l.cells) [
  | inl same ↦ subst (λ (v : View). AllHome v.cells) (sym same) fresh.home
  | inr stopped ↦ stopped-home ino size o.runs k l stopped fresh
]
