-- No run is reserved for a write: the power goes, or there is none.
use Rattle.std.specs.Prelude.{◌≡◌, ◌≢◌, ◌≤◌, ◌/◌, ◌∷◌, [], ℕ, true, List, length, refl, Result, Err}
use Rattle.std.proofs.Common.{ap, ◌∙◌, sym, subst, inl, inr}
use Rattle.posix_types.specs.declared.call.Mode.{Mode}
use Rattle.data_route.specs.Writes.{plan_of}
use Rattle.write_plan.specs.file_table.Files.{Files}
use Rattle.write_plan.specs.FirstWritesLaws.{FirstWriteFits}
use Rattle.live_step_laws.specs.ReservesLaws.{KeepsReserved}
use Rattle.write_plan.specs.k_split_model.View.{View}
use Rattle.in_place.specs.k_split_laws.Left.{IsLeftOf}
use Rattle.in_place.proofs.k_split_laws_proofs.Cuts.{left_at, left_map_cut}
use Rattle.posix_types.specs.declared.call.Who.{Who}
use Rattle.live_step_laws.specs.staging_files.declared.runs.StageFault.{StageFault}
use Rattle.live_step_laws.specs.staging_files.declared.runs.StageRun.{StageRun}
use Rattle.live_step_laws.specs.staging_files.GivesUp.{nothing_staged}
use Rattle.live_step_laws.specs.staging_files.Keeps.{Staged}
use Rattle.live_step_laws.specs.staging_files.Reserves.{AreSame, IsLacking, IsReserveAnswer}
use Rattle.live_step_laws.specs.live_model.Losses.{KeepsWhenLost}
use Rattle.live_step_laws.specs.live_model.Standing.{StandsAt}
use Rattle.write_plan.specs.declared.asks.asking.Target.{Target}
use Rattle.write_plan.specs.eof_laws.block_io.Overwrites.{blocks_reached}
use Rattle.in_place.proofs.Lost.{left_off}
use Rattle.write_begin.specs.Stages.{with_parts}
use Rattle.write_begin.specs.Goes.{Goes, GoesNoFurther, HasRoom, IsBareAtRest, LacksRun, LosesTarget, reached_run}

-- what the reserve answers where the power is off
abbrev pub IsLost : ℕ → Staged → View → Staged → View → Type 0
IsLost count s k t l = let r : Result StageRun StageFault = Err StageFault.PowerLost in IsReserveAnswer count s k t l r

pub loses_run : (mode : Mode) (k l : View) (old new : Staged) (files : Files) (who : Who) (target : Target) (x : List ℕ) (count : ℕ) → KeepsReserved → 1 ≤ count → count ≤ 33 → IsLost count old k new l → LosesTarget mode k l old files who target x
loses_run mode k l old new files who target x count law some few answer = record {
  left = λ goes. left goes answer;
  kept = λ goes start history same.
      subst
      (λ y. (stands : StandsAt goes.g k goes.t (with_parts goes.kept old files) true goes.n y) → KeepsWhenLost k.volume l.cells goes.kept stands.jobs start history ((who, goes.call) ∷ []))
      (sym same)
      (λ stands. law goes.g k l goes.t (with_parts goes.kept old files) new true goes.n start history (who, goes.call) count stands some few answer)
      goes.stands;
} where
  left : (goes : Goes mode k old files who target x) → IsLost count old k new l → IsLeftOf goes.g k.cells l.cells
  left goes (inl was) = left_off goes.g k l goes.t (with_parts goes.kept old files) true goes.n goes.s goes.stands (ap (λ (y : View). y.cells) was.volume)
  left goes (inr cut) = elim cut.given [
    | inl off ↦ left_off goes.g k l goes.t (with_parts goes.kept old files) true goes.n goes.s goes.stands (ap (λ (y : View). y.cells) off)
    | inr done ↦
        subst (λ y. IsLeftOf y k.cells l.cells) goes.stands.geometry (left_at k.volume k.committed k.cells l.cells (goes.stands.order.settled goes.stands.unbatched) (left_map_cut done.1 done.0 k l done.3))
  ]

-- nothing changed
pub goes_same : (mode : Mode) (k l : View) (old new : Staged) (files : Files) (who : Who) (target : Target) (x : List ℕ) → AreSame old new k l → GoesNoFurther mode k l old new files files who target x
goes_same mode k l old new files who target x same = record {
  runs = ap (λ (s : Staged). length s.out) same.staging;
  stands = λ goes.
      subst (λ y. StandsAt goes.g y goes.t (with_parts goes.kept new files) true goes.n goes.s) (sym same.volume)
      (subst (λ s. StandsAt goes.g k goes.t (with_parts goes.kept s files) true goes.n goes.s) (sym same.staging) goes.stands);
}

-- where nothing is staged, there is one
pub first_fits : (mode : Mode) (k : View) (staging : Staged) (files : Files) (who : Who) (target : Target) (x : List ℕ) (count need left : ℕ) → FirstWriteFits → Goes mode k staging files who target x → HasRoom mode k.volume files target (length x)
    → (plan_of mode target.size target.start (length x)).staged ≡ reached_run target (length x) → count ≡ blocks_reached target.start (length x) → staging ≡ nothing_staged → IsLacking count staging k need left → ⊥
first_fits mode k staging files who target x count need left law goes has plan count_is fresh lacks =
    law goes.g k goes.t (with_parts goes.kept staging files) true goes.n goes.s mode target.size target.start (length x) need left (target.start / 4096, blocks_reached target.start (length x)) goes.stands fresh has.ends has.room
    plan
    (subst (λ n. IsLacking n staging k need left) count_is lacks)

-- a staging of which a run is out
pub late_of : (old new : Staged) → new ≡ old → IsBareAtRest old → (new ≡ nothing_staged → ⊥) → old.out ≢ []
late_of old new same bare staged none = staged (same ∙ bare none)

pub lacks_run : (mode : Mode) (k l : View) (old new : Staged) (files : Files) (who : Who) (target : Target) (x : List ℕ) (count need left : ℕ) → count ≡ blocks_reached target.start (length x) → old.out ≢ []
    → IsLacking count old k need left → AreSame old new k l → LacksRun mode k l old new files files who target x (reached_run target (length x)) need left
lacks_run mode k l old new files who target x count need left count_is late lacks same = record {
  needed = (target.start / 4096, blocks_reached target.start (length x));
  run_is = refl;
  lacks = subst (λ n. IsLacking n old k need left) count_is lacks;
  late = late;
  same = same.staging;
  nothing = same.volume;
  stays = goes_same mode k l old new files who target x same;
}
