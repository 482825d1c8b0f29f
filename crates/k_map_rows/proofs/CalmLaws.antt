-- A staging stays calm.
use Rattle.std.proofs.Common.{Result, Ok, Err, List, ℕ, sym, ◌∙◌, ap, subst, inl, inr}
use Rattle.staging_files.specs.pm_model.Cells.{AllSingle}
use Rattle.std.specs.declared.alloc.AllocError.{AllocError}
use Rattle.staging_files.specs.k_journal.declared.outcomes.Commit.{Commit}
use Rattle.staging_files.specs.k_split_model.View.{View}
use Rattle.staging_files.specs.k_split.MapChanges.{IsMapDone}
use Rattle.staging_files.specs.declared.runs.StageFault.{StageFault}
use Rattle.staging_files.specs.declared.runs.StageRun.{StageRun}
use Rattle.staging_files.specs.GivesUp.{AgreesAfterAll, AreGivenUp, IsGiveUpAllAnswer}
use Rattle.staging_files.specs.Keeps.{Agrees, Staged}
use Rattle.staging_files.specs.Reserves.{AgreesAfter, IsReserveAnswer}
use Rattle.k_map_rows.specs.Calm.{IsCalm, IsCalmAfter, IsCalmDone}

calm-done : (blocks : List ℕ) (s t : Staged) (k l : View) → IsCalm s k → IsMapDone blocks k l → Agrees t l → IsCalm t l
calm-done blocks s t k l calm done agrees = record { on = done.kept_on; unbatched = done.batched ∙ calm.unbatched; agrees = agrees; single = λ i. done.singles i (calm.single i) }

pub calm-after : (count : ℕ) (s t : Staged) (k l : View) (r : Result StageRun StageFault) → IsCalm s k → IsReserveAnswer count s k t l r → AgreesAfter t l r
    → IsCalmAfter t l r
calm-after count s t k l (Ok run) calm (inl taken) agrees =
    record {
      on = ap (λ (v : View). v.lost) taken.same ∙ calm.on;
      unbatched = ap (λ (v : View). v.batched) taken.same ∙ calm.unbatched;
      agrees = agrees;
      single = subst (λ (v : View). AllSingle v.cells) (sym taken.same) calm.single;
    }
calm-after count s t k l (Ok run) calm (inr given) agrees = calm-done given.given.0 s t k l calm given.given.2 agrees
calm-after count s t k l (Err (StageFault.NoRoom needs has)) calm lacking agrees =
    record {
      on = ap (λ (v : View). v.lost) lacking.1.volume ∙ calm.on;
      unbatched = ap (λ (v : View). v.batched) lacking.1.volume ∙ calm.unbatched;
      agrees = agrees;
      single = subst (λ (v : View). AllSingle v.cells) (sym lacking.1.volume) calm.single;
    }
calm-after count s t k l (Err StageFault.PowerLost) calm answer agrees = tt
calm-after count s t k l (Err StageFault.NoMemory) calm answer agrees = tt

pub calm-given : (s t : Staged) (k l : View) → IsCalm s k → AreGivenUp 4 k l → Agrees t l → IsCalm t l
calm-given s t k l calm (m3, (m2, (m1, (m0, same, one), two), three), four) agrees = record {
  on = four.2.kept_on;
  unbatched = four.2.batched ∙ three.2.batched ∙ two.2.batched ∙ one.2.batched ∙ ap (λ (v : View). v.batched) same ∙ calm.unbatched;
  agrees = agrees;
  single = λ i. four.2.singles i (three.2.singles i (two.2.singles i (one.2.singles i (subst (λ (v : View). AllSingle v.cells) (sym same) calm.single i))));
}

pub calm-all : (s t : Staged) (k l : View) (r : Result Commit AllocError) → IsCalm s k → IsGiveUpAllAnswer s k t l r → AgreesAfterAll t l r → IsCalmDone t l r
calm-all s t k l (Ok Commit.Done) calm answer agrees = calm-given s t k l calm answer.2 agrees
calm-all s t k l (Ok Commit.PowerLost) calm answer agrees = tt
calm-all s t k l (Err e) calm answer agrees = tt
