-- What is kept of a file that is dropped, or of which nothing is staged any more.
use Rattle.std.specs.Prelude.{◌≡◌, ◌≢◌, ◌≤◌, ◌<◌, ℕ, zero, suc, Bool, true, false, List, [], ◌∷◌, length, slice_index, slice_set, Some, if◌then◌else◌, refl}
use Rattle.std.proofs.Common.{arith, ap, ◌∙◌, sym, subst}
use Rattle.std.proofs.lemmas.List.{length-set}
use Rattle.k_split_laws.specs.image_model.Live.{is_file}
use Rattle.k_split_laws.specs.image_model.Volume.{inode, Volume}
use Rattle.live_model.specs.file_table.Files.{runs_in, size_in, spare_in}
use Rattle.live_step_laws.specs.StepsLaws.{LeavesCleared, size_now}

index_other : (xs : List ℕ) (i j x : ℕ) → j ≢ i → slice_index (slice_set xs i x) j ≡ slice_index xs j
index_other [] i j x other = refl
index_other (y ∷ ys) zero zero x other = absurd (other refl)
index_other (y ∷ ys) zero (suc j) x other = refl
index_other (y ∷ ys) (suc i) zero x other = refl
index_other (y ∷ ys) (suc i) (suc j) x other = index_other ys i j x (λ same. other (ap suc same))

index_own : (xs : List ℕ) (i x : ℕ) → i < length xs → slice_index (slice_set xs i x) i ≡ x
index_own [] i x below = absurd (omega (arith, below))
index_own (y ∷ ys) zero x below = refl
index_own (y ∷ ys) (suc i) x below = index_own ys i x (omega (arith, below))

size_zero : (w : Volume) (ino : ℕ) → (inode w ino).size ≡ 0 → size_now w ino ≡ 0
size_zero w ino empty = by (is_file (inode w ino).kind) where
  by : (b : Bool) → (if b then (inode w ino).size else 0) ≡ 0
  by true = empty
  by false = refl

pub left_cleared : LeavesCleared
left_cleared w ino old new changes spare below empty = record {
  count = ap length changes.sizes ∙ length-set old.sizes ino 0;
  runs = λ i out. changes.others i (λ same. out (ap Some (sym same)));
  sizes = λ i out. ap (λ xs. slice_index xs i) changes.sizes ∙ index_other old.sizes ino i 0 (λ same. out (ap Some (sym same)));
  spares = λ i out. changes.spares i (λ same. out (ap Some (sym same)));
  own_spare = λ i same. (let own : ino ≡ i = cc in subst (λ m. spare_in old m ≤ spare_in new m) own spare);
  own_runs = λ i same. (let own : ino ≡ i = cc in ap (runs_in new) (sym own) ∙ changes.runs_are);
  own_size = λ i same. (
      let own : ino ≡ i = cc in
      ap (size_in new) (sym own) ∙ (ap (λ xs. slice_index xs ino) changes.sizes ∙ index_own old.sizes ino 0 below ∙ sym (size_zero w ino empty)) ∙ ap (size_now w) own);
}
