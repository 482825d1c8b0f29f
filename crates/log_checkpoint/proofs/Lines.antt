-- Lines are done one after the other: what those behind find, and what is kept of the table.
use Rattle.std.proofs.Common.{◌≡◌, ◌≢◌, ◌≤◌, ◌<◌, ◌+◌, ◌*◌, ℕ, zero, suc, List, [], length, get_or, Result, Ok, Err, refl, sym, ◌∙◌, ap, subst, arith, add-one, inl, inr}
use Rattle.std.specs.Prelude.{if◌then◌else◌}
use Rattle.std.specs.declared.alloc.AllocError.{AllocError}
use Rattle.std.proofs.lemmas.Bool.{cases_eq}
use Rattle.std.proofs.lemmas.List.{set-get_or}
use Rattle.layout_model.specs.declared.lines.Kind.{Kind}
use Rattle.file_table.specs.layout_model.Places.{reserve}
use Rattle.staging_files.specs.image_model.Live.{is_file}
use Rattle.file_table.specs.file_overlay.declared.runs.Run.{Run}
use Rattle.file_table.specs.Files.{ChangesFile, Files, runs_in, size_in}
use Rattle.fsync_relink.proofs.OtherLaws.{keeps-same, keeps-then, leaves-others}
use Rattle.fsync_relink.proofs.WayLaws.{steps-within}
use Rattle.fsync_relink.specs.Others.{GoesOn, KeepsRest, LeavesRoom}
use Rattle.fsync_relink.specs.Publishes.{IsCarriedOut, IsPublishDone, MayPublish}
use Rattle.staging_files.specs.k_journal.declared.outcomes.Commit.{Commit}
use Rattle.staging_files.specs.k_map_plans.Plans.{IsLiveFile}
use Rattle.staging_files.specs.k_split_model.View.{View}
use Rattle.staging_files.specs.k_split.MapChanges.{free_blocks_in}
use Rattle.file_table.specs.pm_model.Powers.{Steps, Supply}
use Rattle.log_checkpoint.specs.Gathers.{AreCleared, AreDone, file_at, IsLineDone, IsPublishedLine, MayGather}
use Rattle.log_checkpoint.proofs.Sums.{runs_from, runs-step, runs-within}

-- ---- the answer of one line

-- by what was handed to `publish_runs`
module _ (ino size : ℕ) (runs : List Run) (t : Files) (k l : View) (file : IsLiveFile ino k.volume) (runs_are : runs ≡ runs_in t ino) (size_is : size ≡ size_in t ino) where
  of-table : (r : Result Commit AllocError) → IsCarriedOut ino size runs k l r → IsCarriedOut ino (size_in t ino) (runs_in t ino) k l r
  of-table r is = subst (λ n. IsCarriedOut ino n (runs_in t ino) k l r) size_is (subst (λ rs. IsCarriedOut ino size rs k l r) runs_are is)

  pub line-published : (u : Files) → IsCarriedOut ino size runs k l (Ok Commit.Done) → ChangesFile ino [] size t u → IsPublishedLine ino t k u l (Ok Commit.Done)
  line-published u is changes = inl (file, of-table (Ok Commit.Done) is, subst (λ n. ChangesFile ino [] n t u) size_is changes)

  pub line-lost : IsCarriedOut ino size runs k l (Ok Commit.PowerLost) → IsPublishedLine ino t k t l (Ok Commit.PowerLost)
  line-lost is = (refl, (file, of-table (Ok Commit.PowerLost) is))

  pub line-failed : (e : AllocError) → IsCarriedOut ino size runs k l (Err e) → IsPublishedLine ino t k t l (Err e)
  line-failed e is = (refl, (file, of-table (Err e) is))

  pub line-steps : (p q : Supply) → Steps (32768 * (length runs + 1)) p q → Steps (32768 * (length (runs_in t ino) + file_at k.volume ino)) p q
  line-steps p q steps =
      let one : file_at k.volume ino ≡ 1 = ap (λ (kind : Kind). if is_file kind then 1 else 0) file.file in
      steps-within (32768 * (length runs + 1)) (32768 * (length (runs_in t ino) + file_at k.volume ino)) p q (omega (arith, ap length runs_are, one)) steps

-- ---- K-Split

-- The lines below n are done, from k0 to k; those behind may be published as before.
pub record IsOnTheWay (t : Files) (k0 : View) (n : ℕ) (k : View) : Type 0 where
  pub done : AreDone n t k0 k
  pub rest : KeepsRest k0 k
  pub others : (ino : ℕ) → n ≤ ino → IsLiveFile ino k.volume → MayPublish ino (size_in t ino) (runs_in t ino) k
  pub room : runs_from n t + reserve k.volume.geometry ≤ free_blocks_in k + 3

pub way-begins : (t : Files) (k : View) → MayGather t k → GoesOn k → IsOnTheWay t k 0 k
way-begins t k may on = record {
  done = refl;
  rest = keeps-same k on;
  others = λ ino past file. may.each ino file;
  room = may.room;
}

module _ (t : Files) (k0 : View) (may : MayGather t k0) (n : ℕ) (below : n < length t.sizes) (k : View) (way : IsOnTheWay t k0 n k) where
  -- the file of the line is published
  published : (l : View) → IsLiveFile n k.volume → IsPublishDone n (size_in t n) (runs_in t n) k l → IsOnTheWay t k0 (suc n) l
  published l file done = record {
    done = (k, way.done, inl (file, done));
    rest = keeps-then k0 k l way.rest leaves.rest;
    others = λ ino past is.
        leaves.others ino (size_in t ino) (runs_in t ino) (λ same. omega (arith, past, same)) (may.apart n ino (λ same. omega (arith, past, same)))
        (way.others ino (omega (arith, past)) (record { below = omega (arith, is.below, leaves.rest.count); file = sym (leaves.rest.kinds ino) ∙ is.file }))
        (omega (arith, way.room, runs-step t n, runs-within t (n + 1) ino (omega (arith, past))));
    room = subst (λ m. runs_from m t + reserve l.volume.geometry ≤ free_blocks_in l + 3) (add-one n) (leaves.room (runs_from (n + 1) t) (omega (arith, way.room, runs-step t n)));
  } where
    leaves : LeavesRoom n (runs_in t n) k l
    leaves = leaves-others n (size_in t n) (runs_in t n) k l way.rest.goes_on (way.others n (omega arith) file) done

  -- the line has no file
  skipped : (¬ IsLiveFile n k.volume) → IsOnTheWay t k0 (suc n) k
  skipped absent = record {
    done = (k, way.done, inr (absent, refl));
    rest = way.rest;
    others = λ ino past is. way.others ino (omega (arith, past)) is;
    room = subst (λ m. runs_from m t + reserve k.volume.geometry ≤ free_blocks_in k + 3) (add-one n) (omega (arith, way.room, runs-step t n));
  }

  pub way-next : (l : View) → IsLineDone n t k l → IsOnTheWay t k0 (suc n) l
  way-next l (inl (file, done)) = published l file done
  way-next l (inr (absent, same)) = subst (IsOnTheWay t k0 (suc n)) (sym same) (skipped absent)

-- all that is done is on the way
pub way-of : (t : Files) (k0 : View) → MayGather t k0 → GoesOn k0 → (n : ℕ) → n ≤ length t.sizes → (k : View) → AreDone n t k0 k → IsOnTheWay t k0 n k
way-of t k0 may on zero few k same = subst (IsOnTheWay t k0 0) (sym same) (way-begins t k0 may on)
way-of t k0 may on (suc n) few k (middle, before, line) =
    way-next t k0 may n (omega (arith, few)) middle (way-of t k0 may on n (omega (arith, few)) middle before) k line

-- ---- the table

module _ (t0 : Files) (n : ℕ) (t : Files) (table : AreCleared n t0 t) where
  size-same : size_in t n ≡ size_in t0 n
  size-same = ap (λ (xs : List ℕ). get_or xs n 0) table.sizes

  runs-same : runs_in t n ≡ runs_in t0 n
  runs-same = table.others n (omega arith)

  -- what a line costs is as it was
  pub table-cost : (k0 k : View) → KeepsRest k0 k → length (runs_in t n) + file_at k.volume n ≤ length (runs_in t0 n) + file_at k0.volume n
  table-cost k0 k rest = omega (arith, ap length runs-same, files-same) where
    files-same : file_at k.volume n ≡ file_at k0.volume n
    files-same = ap (λ (kind : Kind). if is_file kind then 1 else 0) (rest.kinds n)

  pub table-done : (u : Files) (k l : View) → IsPublishedLine n t k u l (Ok Commit.Done) → IsLineDone n t0 k l
  table-done u k l (inl (file, done, changes)) = inl (
    file,
    subst (λ size. IsPublishDone n size (runs_in t0 n) k l) size-same (subst (λ runs. IsPublishDone n (size_in t n) runs k l) runs-same done),
  )
  table-done u k l (inr (absent, same, as_was)) = inr (absent, same)

  cleared-next : (u : Files) → runs_in u n ≡ [] → ((ino : ℕ) → ino ≢ n → runs_in u ino ≡ runs_in t ino) → (ino : ℕ) → ino < suc n → runs_in u ino ≡ []
  cleared-next u own others ino within = elim (cases_eq ino n) [
    | inl same ↦ ap (runs_in u) same ∙ own
    | inr other ↦ others ino other ∙ table.cleared ino (omega (arith, within, other))
  ]

  pub table-next : (k0 k l : View) (u : Files) → MayGather t0 k0 → KeepsRest k0 k → IsPublishedLine n t k u l (Ok Commit.Done) → AreCleared (suc n) t0 u
  table-next k0 k l u may rest (inl (file, done, changes)) = record {
    sizes = changes.sizes ∙ (set-get_or t.sizes n 0 ∙ table.sizes);
    cleared = cleared-next u changes.runs_are changes.others;
    others = λ ino past. changes.others ino (λ same. omega (arith, past, same)) ∙ table.others ino (omega (arith, past));
  }
  table-next k0 k l u may rest (inr (absent, same, as_was)) = subst (AreCleared (suc n) t0) (sym as_was) (record {
    sizes = table.sizes;
    cleared = cleared-next t (runs-same ∙ may.none n was-none) (λ ino other. refl);
    others = λ ino past. table.others ino (omega (arith, past));
  }) where
    was-none : ¬ IsLiveFile n k0.volume
    was-none is = absent (record { below = omega (arith, is.below, rest.count); file = rest.kinds n ∙ is.file })

-- ---- both

pub way-line : (t0 : Files) (k0 : View) (n : ℕ) (t : Files) (k : View) (u : Files) (l : View) → MayGather t0 k0 → n < length t0.sizes → IsOnTheWay t0 k0 n k
    → AreCleared n t0 t → IsPublishedLine n t k u l (Ok Commit.Done) → IsOnTheWay t0 k0 (n + 1) l × AreCleared (n + 1) t0 u
way-line t0 k0 n t k u l may below way table answer =
    subst (λ m. IsOnTheWay t0 k0 m l × AreCleared m t0 u) (sym (add-one n)) (
      way-next t0 k0 may n below k way l (table-done t0 n t table u k l answer),
      table-next t0 n t table k0 k l u may way.rest answer,
    )
