-- Runs are relinked one after the other, and what is left of them.
use Rattle.std.proofs.Common.{◌≡◌, ◌≤◌, ◌<◌, ◌+◌, ◌-◌, ◌*◌, ◌^◌, ℕ, false, List, [], ◌∷◌, length, take, drop, get_or, take_all, length-drop, None, Ok, Err, refl, sym, ◌∙◌, ap, subst, inl, inr, arith, add-one, drop-cons}
use Rattle.std.proofs.lemmas.List.{drop_all}
use Rattle.log_laws.specs.pm_model.PowerLaws.{Steps-none, Steps-then}
use Rattle.log_laws.specs.pm_model.Powers.{Steps, Supply}
use Rattle.log_laws.specs.image_model.Room.{unused_blocks}
use Rattle.log_laws.specs.image_model.Volume.{inode}
use Rattle.file_overlay.specs.declared.runs.Run.{Run}
use Rattle.k_split.specs.k_split_model.View.{View}
use Rattle.k_split.specs.Answers.{IsPaid}
use Rattle.log_laws.specs.layout_model.Places.{reserve}
use Rattle.k_split.specs.k_map_plans.Plans.{MayMove}
use Rattle.k_split.specs.MapChanges.{free_blocks_in, IsMovedSingle, IsRelinkAnswer, IsSizeAnswer}
use Rattle.k_split.specs.k_split_model.declared.map_changes.moves.Move.{Move}
use Rattle.k_split.specs.Order.{IsInOrder}
use Rattle.k_split.specs.declared.faults.KFault.{KFault}
use Rattle.k_split.proofs.k_plans_proofs.FreeCounts.{unwaiting-counted}
use Rattle.fsync_relink.specs.Publishes.{AreRelinked, IsPublishPaid, IsRelinkedEach, IsRelinkedUpTo, IsResizedOnce, MayPublish, move_of, size_before, stopped_by}
use Rattle.fsync_relink.proofs.NextLaws.{may-move, moved-single, next-may}

-- where changes do not gather the unused blocks are those that are free
pub all-unused : (k : View) → IsInOrder k → k.batched ≡ false → free_blocks_in k ≡ unused_blocks k.volume
all-unused k order unbatched = unwaiting-counted (record { volume = k.volume; aside = []; waiting = k.waiting }) refl (order.none_waits unbatched)

-- the first change that publishes finds the blocks that it asks for
pub publish-room : (ino size : ℕ) (runs : List Run) (k : View) → IsInOrder k → k.batched ≡ false → MayPublish ino size runs k
    → reserve k.volume.geometry ≤ unused_blocks k.volume + 3
publish-room ino size runs k order unbatched may = omega (arith, all-unused k order unbatched, may.room)

-- these runs are left, and K-Split stands at l, where they may be published
pub record IsOnTheWay (ino size : ℕ) (runs left : List Run) (k l : View) : Type 0 where
  pub may : MayPublish ino size left l
  pub on : l.lost ≡ false
  pub order : IsInOrder l
  pub unbatched : l.batched ≡ false
  pub done : (z : View) → AreRelinked ino size left l z → AreRelinked ino size runs k z
  pub stopped : (fault : KFault) (z : View) → IsRelinkedUpTo fault ino size left l z → IsRelinkedUpTo fault ino size runs k z

pub way-starts : (ino size : ℕ) (runs : List Run) (k : View) → MayPublish ino size runs k → k.lost ≡ false → IsInOrder k → k.batched ≡ false → IsOnTheWay ino size runs runs k k
way-starts ino size runs k may on order unbatched = record {
  may = may;
  on = on;
  order = order;
  unbatched = unbatched;
  done = λ z rest. rest;
  stopped = λ fault z rest. rest;
}

-- the first of them is relinked
pub way-goes_on : (ino size : ℕ) (runs : List Run) (run : Run) (left : List Run) (k l m : View) → IsOnTheWay ino size runs (run ∷ left) k l
    → IsRelinkAnswer (move_of ino (size_before left size (inode l.volume ino).size) run) l m (Ok tt) → IsOnTheWay ino size runs left k m
way-goes_on ino size runs run left k l m way gave = record {
  may = next-may ino size run left l m way.order way.unbatched way.may gave;
  on = gave.2.kept_on;
  order = gave.2.order;
  unbatched = gave.2.batched ∙ way.unbatched;
  done = λ z rest. way.done z (m, gave, rest);
  stopped = λ fault z rest. way.stopped fault z (inr (m, gave, rest));
}

-- K-Split did not relink it
pub way-stops : (ino size : ℕ) (runs : List Run) (run : Run) (left : List Run) (k l z : View) (f : KFault) → IsOnTheWay ino size runs (run ∷ left) k l
    → IsRelinkAnswer (move_of ino (size_before left size (inode l.volume ino).size) run) l z (Err f) → IsRelinkedEach ino size runs k z (stopped_by f)
way-stops ino size runs run left k l z (KFault.Refused errno) way answer = absurd answer
way-stops ino size runs run left k l z (KFault.Room room) way answer = absurd answer
way-stops ino size runs run left k l z KFault.PowerLost way answer = way.stopped KFault.PowerLost z (inl answer)
way-stops ino size runs run left k l z KFault.NoMemory way answer = way.stopped KFault.NoMemory z (inl answer)

pub way-stops-paid : (ino size : ℕ) (run : Run) (left : List Run) (l z : View) (p q : Supply) (f : KFault)
    → IsRelinkAnswer (move_of ino (size_before left size (inode l.volume ino).size) run) l z (Err f) → IsPaid {T = Unit {0}} None p q (Err f) → IsPublishPaid q (stopped_by f)
way-stops-paid ino size run left l z p q (KFault.Refused errno) answer paid = absurd answer
way-stops-paid ino size run left l z p q (KFault.Room room) answer paid = absurd answer
way-stops-paid ino size run left l z p q KFault.PowerLost answer paid = paid
way-stops-paid ino size run left l z p q KFault.NoMemory answer paid = paid.1

-- all are
pub way-ends : (ino size : ℕ) (runs : List Run) (k l : View) → IsOnTheWay ino size runs [] k l → AreRelinked ino size runs k l
way-ends ino size runs k l way = way.done l refl

-- ---- the length alone

pub resize-stops : (ino size : ℕ) (k l : View) (f : KFault) → ((inode k.volume ino).size ≡ size → ⊥) → IsSizeAnswer ino size k l (Err f) → IsResizedOnce ino size k l (stopped_by f)
resize-stops ino size k l (KFault.Refused errno) other answer = absurd answer
resize-stops ino size k l (KFault.Room room) other answer = absurd answer
resize-stops ino size k l KFault.PowerLost other answer = (other, answer)
resize-stops ino size k l KFault.NoMemory other answer = (other, answer)

pub resize-stops-paid : (ino size : ℕ) (k l : View) (p q : Supply) (f : KFault) → IsSizeAnswer ino size k l (Err f) → IsPaid {T = Unit {0}} None p q (Err f) → IsPublishPaid q (stopped_by f)
resize-stops-paid ino size k l p q (KFault.Refused errno) answer paid = absurd answer
resize-stops-paid ino size k l p q (KFault.Room room) answer paid = absurd answer
resize-stops-paid ino size k l p q KFault.PowerLost answer paid = paid
resize-stops-paid ino size k l p q KFault.NoMemory answer paid = paid.1

-- ---- a place in the runs

-- the runs from a place on begin with the one there
pub runs-from : (runs : List Run) (place : ℕ) (d : Run) → place < length runs → drop place runs ≡ get_or runs place d ∷ drop (place + 1) runs
runs-from runs place d below = rw (add-one, drop-cons runs place d)

pub way-at : (ino size : ℕ) (runs : List Run) (place : ℕ) (run d : Run) (k l : View) → place < length runs → run ≡ get_or runs place d
    → IsOnTheWay ino size runs (drop place runs) k l → IsOnTheWay ino size runs (run ∷ drop (place + 1) runs) k l
way-at ino size runs place run d k l below is way =
    subst (λ rs. IsOnTheWay ino size runs rs k l) (runs-from runs place d below ∙ ap (λ r. r ∷ drop (place + 1) runs) (sym is)) way

-- ---- steps

pub steps-within : (m n : ℕ) (p q : Supply) → m ≤ n → Steps m p q → Steps n p q
steps-within m n p q fewer steps = record { given = steps.given; on_before = steps.on_before; later = steps.later; bound = omega (arith, steps.bound, fewer) }

-- none are taken, and one relink more
pub steps-here : (n : ℕ) (p : Supply) → Steps n p p
steps-here n p = steps-within 0 n p p (omega arith) (Steps-none p)

pub steps-on : (place : ℕ) (a b c : Supply) → Steps (2 ^ 15 * place) a b → Steps (2 ^ 15) b c → Steps (2 ^ 15 * (place + 1)) a c
steps-on place a b c first second =
    steps-within (32768 * place + 32768) (32768 * (place + 1)) a c (omega arith) (Steps-then (32768 * place) 32768 a b c first second)

-- at the end all are
pub way-all : (ino size : ℕ) (runs : List Run) (place : ℕ) (k l : View) → length runs ≤ place → IsOnTheWay ino size runs (drop place runs) k l → AreRelinked ino size runs k l
way-all ino size runs place k l past way = way-ends ino size runs k l (subst (λ rs. IsOnTheWay ino size runs rs k l) (drop_all place runs past) way)

-- ---- one relink on the way

-- the runs behind a place, as a part of the slice
rest-of : (runs : List Run) (place : ℕ) → take (length runs - (place + 1)) (drop (place + 1) runs) ≡ drop (place + 1) runs
rest-of runs place = take_all (length runs - (place + 1)) (drop (place + 1) runs) (omega (arith, length-drop (place + 1) runs))

-- the move that is asked for is that of the run
pub move-is : (ino size then place : ℕ) (run : Run) (runs : List Run) (l : View) (m : Move)
    → then ≡ size_before (take (length runs - (place + 1)) (drop (place + 1) runs)) size (inode l.volume ino).size → m ≡ move_of ino then run
    → m ≡ move_of ino (size_before (drop (place + 1) runs) size (inode l.volume ino).size) run
move-is ino size then place run runs l m length_is is =
    is ∙ ap (λ n. move_of ino n run) (length_is ∙ ap (λ rs. size_before rs size (inode l.volume ino).size) (rest-of runs place))

pub way-may : (ino size : ℕ) (runs : List Run) (run : Run) (left : List Run) (k l : View) (m : Move) → IsOnTheWay ino size runs (run ∷ left) k l
    → m ≡ move_of ino (size_before left size (inode l.volume ino).size) run → MayMove m l.volume
way-may ino size runs run left k l m way is = subst (λ x. MayMove x l.volume) (sym is) (may-move ino size run left l way.order way.may)

pub way-home : (ino size : ℕ) (runs : List Run) (run : Run) (left : List Run) (k l : View) (m : Move) → IsOnTheWay ino size runs (run ∷ left) k l
    → m ≡ move_of ino (size_before left size (inode l.volume ino).size) run → IsMovedSingle m l.volume l.cells
way-home ino size runs run left k l m way is = subst (λ x. IsMovedSingle x l.volume l.cells) (sym is) (moved-single ino size run left l way.may)

pub way-room : (ino size : ℕ) (runs : List Run) (place : ℕ) (k l : View) → place < length runs → IsOnTheWay ino size runs (drop place runs) k l
    → reserve l.volume.geometry ≤ unused_blocks l.volume + 2
way-room ino size runs place k l below way = omega (arith, all-unused l way.order way.unbatched, way.may.room, length-drop place runs, below)
