-- What `reserve` answers, from what its two ways leave.
use Rattle.std.proofs.Common.{◌≡◌, ◌≤◌, ◌+◌, ℕ, false, None, Result, Ok, Err, refl, sym, ◌∙◌, ap, subst, inr, arith}
use Rattle.std.specs.Prelude.{IfOk}
use Rattle.k_split.specs.pm_model.Powers.{Steps, Supply}
use Rattle.k_split.specs.layout_model.Places.{reserve}
use Rattle.k_split.specs.k_split_model.View.{View}
use Rattle.k_split.specs.Answers.{IsPaid}
use Rattle.k_split.specs.MapChanges.{free_blocks_in, IsPreallocateAnswer}
use Rattle.k_split.specs.Order.{IsInOrder}
use Rattle.k_split.specs.declared.faults.KFault.{KFault}
use Rattle.staging_files.specs.declared.runs.StageFault.{StageFault}
use Rattle.staging_files.specs.declared.runs.StageRun.{StageRun}
use Rattle.staging_files.specs.Keeps.{Agrees, AreFreeSingle, IsRunSingle, IsStaged, IsThere, Staged}
use Rattle.staging_files.specs.Reserves.{AgreesAfter, fault_of, IsGiveAnswer, IsGiven, IsReserveAnswer, IsReservePaid, IsSecondWay, run_at, share, wanted, with_given, with_out}
use Rattle.staging_files.proofs.AgreeLaws.{agrees-given, run-single-given, single-given, there-given}
use Rattle.staging_files.proofs.RoomLaws.{share-fits, share-leaves}

-- ---- K-Split did not give the blocks

pub give-stopped : (x count n : ℕ) (s t : Staged) (k l : View) (f : KFault) → t ≡ s → IsPreallocateAnswer x n k l (Err f) → IsGiveAnswer x count n s k t l (Err (fault_of f))
give-stopped x count n s t k l (KFault.Refused errno) same answer = absurd answer
give-stopped x count n s t k l (KFault.Room room) same answer = absurd answer
give-stopped x count n s t k l KFault.PowerLost same answer = (same, answer)
give-stopped x count n s t k l KFault.NoMemory same answer = record { staging = same; volume = answer }

pub give-stopped-paid : (x n : ℕ) (k l : View) (p q : Supply) (f : KFault) → IsPreallocateAnswer x n k l (Err f) → IsPaid {T = Unit {0}} None p q (Err f) → IsReservePaid p q (Err (fault_of f))
give-stopped-paid x n k l p q (KFault.Refused errno) answer paid = absurd answer
give-stopped-paid x n k l p q (KFault.Room room) answer paid = absurd answer
give-stopped-paid x n k l p q KFault.PowerLost answer paid = paid
give-stopped-paid x n k l p q KFault.NoMemory answer paid = paid

-- ---- the second way

module _ (x count : ℕ) (s : Staged) (k l : View) (order : IsInOrder k) (keeps : IsStaged s) (agrees : Agrees s k) (some : 1 ≤ count) (few : count ≤ 33)
    (way : IsSecondWay s k count x) where
  fits : (count ≤ share s k count) × (share s k count ≤ 64) × (share s k count + reserve k.volume.geometry ≤ free_blocks_in k + 1)
  fits = share-fits s k count few way.room

  pub given-answer : (t : Staged) (r : Result StageRun StageFault) → IsGiveAnswer x count (share s k count) s k t l r → IsReserveAnswer count s k t l r
  given-answer t (Ok r) (gave, is, staged) =
      inr (subst (IsGiven count s t k l) (sym is) (record { way = way; given = gave; run_is = refl; staged = staged ∙ ap (λ y. with_out y (with_given x (share s k count) s)) is }))
  given-answer t (Err (StageFault.NoRoom needs has)) never = absurd never
  given-answer t (Err StageFault.PowerLost) (same, cut) = inr (record { staging = x; way = way; given = cut; same = same })
  given-answer t (Err StageFault.NoMemory) same = same

  pub given-agrees : (t : Staged) (r : Result StageRun StageFault) → IsGiveAnswer x count (share s k count) s k t l r → AgreesAfter t l r
  given-agrees t (Ok r) (gave, is, staged) =
      subst (λ y. Agrees y l) (sym staged) (agrees-given x (share s k count) k l order way.place.staging gave s r keeps (ap (λ (y : StageRun). y.staging) is) (omega (arith, some, fits.0)) agrees)
  given-agrees t (Err (StageFault.NoRoom needs has)) never = absurd never
  given-agrees t (Err StageFault.PowerLost) cut = tt
  given-agrees t (Err StageFault.NoMemory) same = tt

  pub given-there : (t : Staged) (r : Result StageRun StageFault) → IsGiveAnswer x count (share s k count) s k t l r → IfOk r (IsThere l)
  given-there t (Ok r) (gave, is, staged) =
      subst (IsThere l) (sym is) (there-given x (share s k count) k l order way.place.staging gave s (run_at l count x 0) keeps refl refl fits.0)
  given-there t (Err f) answer = tt

  pub given-leaves : (t : Staged) (r : Result StageRun StageFault) → IsGiveAnswer x count (share s k count) s k t l r
      → IfOk r (λ y. k.batched ≡ false → wanted s k ≤ free_blocks_in l)
  given-leaves t (Ok r) (gave, is, staged) = λ unbatched. share-leaves s k l count x order way.place.staging unbatched way.room gave
  given-leaves t (Err f) answer = tt

  pub given-single : (t : Staged) (r : Result StageRun StageFault) → IsGiveAnswer x count (share s k count) s k t l r
      → IfOk r (λ y. AreFreeSingle s k → IsRunSingle l y × AreFreeSingle t l)
  given-single t (Ok r) (gave, is, staged) = λ single. (
    subst (IsRunSingle l) (sym is) (run-single-given x (share s k count) k l order way.place.staging gave s (run_at l count x 0) keeps refl refl fits.0),
    subst (λ y. AreFreeSingle y l) (sym staged) (single-given x (share s k count) k l order way.place.staging gave s r keeps (ap (λ (y : StageRun). y.staging) is) single),
  )
  given-single t (Err f) answer = tt

-- ---- steps

pub no-steps : (n : ℕ) (p : Supply) → Steps n p p
no-steps n p = record { given = refl; on_before = λ on. on; later = omega arith; bound = omega arith }
