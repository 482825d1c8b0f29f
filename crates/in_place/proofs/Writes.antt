-- Zeros that are written over bytes.
use Rattle.std.specs.Prelude.{◌≡◌, ◌⊎◌, ◌-◌, ◌/◌, ◌%◌, ℕ, List, replicate, Some, Err}
use Rattle.std.proofs.Common.{arith, ap, ◌∙◌, sym, inl, inr}
use Rattle.live_step_laws.specs.k_split_laws.extent_model.Extents.{disk_at}
use Rattle.live_step_laws.specs.k_split_laws.image_model.Volume.{extents, Volume}
use Rattle.in_place.specs.Zeros.{staged_place}
use Rattle.live_step_laws.specs.k_split_laws.k_split_model.View.{View}
use Rattle.live_step_laws.specs.k_split_laws.k_split.Bytes.{IsOverwriteAnswer, IsOverwriteCut, tail_zeros, zeros_behind}
use Rattle.live_step_laws.specs.k_split_laws.k_split.declared.faults.KFault.{KFault}

-- where they are not written, the power went
pub lost_of : (x p : ℕ) (bytes : List ℕ) (k l : View) (fault : KFault) → IsOverwriteAnswer x p bytes k l (Err fault) → (l.cells ≡ k.cells) ⊎ IsOverwriteCut x p bytes k l
lost_of x p bytes k l (KFault.Refused errno) is = absurd is
lost_of x p bytes k l (KFault.Room room) is = absurd is
lost_of x p bytes k l KFault.NoMemory is = absurd is
lost_of x p bytes k l KFault.PowerLost (inl off) = inl (ap (λ (y : View). y.cells) off)
lost_of x p bytes k l KFault.PowerLost (inr cut) = inr cut

-- those of a staged block
pub staged_zeros : (v : Volume) (staging block from b : ℕ) → disk_at (extents v staging) block ≡ Some b → replicate (4096 - from % 4096) 0 ≡ tail_zeros v staging (staged_place block from)
staged_zeros v staging block from b at =
    let place : staged_place block from / 4096 ≡ block = omega arith in
    let low : staged_place block from % 4096 ≡ from % 4096 = omega arith in
    ap (λ n. replicate (4096 - n) 0) (sym low) ∙ ap (λ o. zeros_behind o (staged_place block from)) (sym (ap (disk_at (extents v staging)) place ∙ at))
