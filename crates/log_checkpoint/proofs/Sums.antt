-- What the lines from one on have in all, and the steps that are left for them.
use Rattle.std.proofs.Common.{◌≡◌, ◌≤◌, ◌<◌, ◌+◌, ◌*◌, ℕ, zero, suc, true, List, [], ◌∷◌, length, get_or, drop, ◌∙◌, ap, arith, inl, inr}
use Rattle.std.specs.Prelude.{count_by, sum_by, cond}
use Rattle.std.proofs.lemmas.Bool.{cases_lt}
use Rattle.std.proofs.lemmas.List.{drop_all, drop_more, get_or_past}
use Rattle.std.proofs.lemmas.List.Sums.{sum_by-cons}
use Rattle.layout_model.specs.declared.lines.Inode.{Inode}
use Rattle.staging_files.specs.image_model.Live.{is_file}
use Rattle.staging_files.specs.image_model.Volume.{free_inode, Volume}
use Rattle.file_table.specs.file_overlay.Runs.{Overlaid}
use Rattle.file_table.specs.Files.{Files, nothing_laid, runs_in}
use Rattle.log_checkpoint.specs.Gathers.{file_at, file_count, total_runs}
use Rattle.file_table.specs.pm_model.Powers.{is_on, Steps, Supply}

-- the runs and the files of the lines from n on
abbrev pub runs_from : ℕ → Files → ℕ
runs_from n t = sum_by (λ (o : Overlaid). length o.runs) (drop n t.overlays)

abbrev pub files_from : ℕ → Volume → ℕ
files_from n v = count_by (λ (x : Inode). is_file x.kind) (drop n v.inodes)

sum-from : {X : Type 0} (f : X → ℕ) (xs : List X) (n : ℕ) (d : X) → n < length xs → sum_by f (drop n xs) ≡ f (get_or xs n d) + sum_by f (drop (n + 1) xs)
sum-from f xs n d below = ap (sum_by f) (drop_more xs n d below) ∙ sum_by-cons f (get_or xs n d) (drop (n + 1) xs)

-- an item behind is part of the sum
sum-within : {X : Type 0} (f : X → ℕ) (xs : List X) (n j : ℕ) (d : X) → f d ≡ 0 → n ≤ j → f (get_or xs j d) ≤ sum_by f (drop n xs)
sum-within f [] n j d none low = omega (arith, none)
sum-within f (x ∷ xs) zero zero d none low = omega (arith, sum_by-cons f x xs)
sum-within f (x ∷ xs) zero (suc j) d none low = omega (arith, sum_by-cons f x xs, sum-within f xs zero j d none (omega arith))
sum-within f (x ∷ xs) (suc n) zero d none low = absurd (omega (arith, low))
sum-within f (x ∷ xs) (suc n) (suc j) d none low = sum-within f xs n j d none (omega (arith, low))

-- ---- runs

pub runs-step : (t : Files) (n : ℕ) → runs_from n t ≡ length (runs_in t n) + runs_from (n + 1) t
runs-step t n = elim (cases_lt n (length t.overlays)) [
  | inl below ↦ sum-from (λ (o : Overlaid). length o.runs) t.overlays n nothing_laid below
  | inr past ↦ omega (
    arith,
    ap (sum_by (λ (o : Overlaid). length o.runs)) (drop_all n t.overlays past),
    ap (λ (o : Overlaid). length o.runs) (get_or_past t.overlays n nothing_laid past),
    ap (sum_by (λ (o : Overlaid). length o.runs)) (drop_all (n + 1) t.overlays (omega (arith, past))),
  )
]

pub runs-within : (t : Files) (n j : ℕ) → n ≤ j → length (runs_in t j) ≤ runs_from n t
runs-within t n j low = sum-within (λ (o : Overlaid). length o.runs) t.overlays n j nothing_laid (omega arith) low

pub files-step : (v : Volume) (n : ℕ) → n < length v.inodes → files_from n v ≡ file_at v n + files_from (n + 1) v
files-step v n below = sum-from (λ (x : Inode). cond (is_file x.kind) 1 0) v.inodes n free_inode below

-- ---- steps

-- so many were taken that those of the lines from n on are left
pub record LeavesSteps (n : ℕ) (t : Files) (v : Volume) (old new : Supply) : Type 0 where
  pub given : new.given ≡ old.given
  pub on_before : is_on new ≡ true → is_on old ≡ true
  pub later : old.taken ≤ new.taken
  pub bound : new.taken + 32768 * (runs_from n t + files_from n v) ≤ old.taken + 32768 * (total_runs t + file_count v)

pub steps-next : (n cost : ℕ) (t : Files) (v : Volume) (a b c : Supply) → n < length v.inodes → cost ≤ length (runs_in t n) + file_at v n
    → LeavesSteps n t v a b → Steps (32768 * cost) b c → LeavesSteps (n + 1) t v a c
steps-next n cost t v a b c in_volume few left more = record {
  given = more.given ∙ left.given;
  on_before = λ on. left.on_before (more.on_before on);
  later = omega (arith, left.later, more.later);
  bound = omega (arith, left.bound, more.bound, runs-step t n, files-step v n in_volume, few);
}

-- all of them at the most, also where the line is not done
pub steps-stop : (n cost : ℕ) (t : Files) (v : Volume) (a b c : Supply) → n < length v.inodes → cost ≤ length (runs_in t n) + file_at v n → LeavesSteps n t v a b
    → Steps (32768 * cost) b c → Steps (32768 * (total_runs t + file_count v)) a c
steps-stop n cost t v a b c in_volume few left more =
    let then = steps-next n cost t v a b c in_volume few left more in
    record { given = then.given; on_before = then.on_before; later = then.later; bound = omega (arith, then.bound) }
