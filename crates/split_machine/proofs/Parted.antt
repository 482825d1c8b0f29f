-- The jobs that are out, one after another, as those that are to be filled and the filled ones.
use Rattle.std.specs.Prelude.{◌≡◌, List, [], ◌∷◌, ◌++◌, Option, Some, None, refl}
use Rattle.std.specs.List.{cons_option, filter_map}
use Rattle.std.proofs.Common.{ap, ◌∙◌, sym}
use Rattle.run_laws.specs.write_jobs.Jobs.{FilledView, JobView}
use Rattle.run_laws.specs.declared.held.Held.{Held}
use Rattle.run_laws.specs.Held.{filled_in, filled_of, job_in, jobs_of}

-- with one more at the end
module _ {X Y : Type 0} (f : X → Option Y) where
  pushed : (xs : List X) (x : X) → filter_map f (xs ++ x ∷ []) ≡ filter_map f xs ++ cons_option (f x) []
  pushed [] x = refl
  pushed (y ∷ ys) x = by (f y) (pushed ys x) where
    by : (o : Option Y) → filter_map f (ys ++ x ∷ []) ≡ filter_map f ys ++ cons_option (f x) [] → cons_option o (filter_map f (ys ++ x ∷ [])) ≡ cons_option o (filter_map f ys) ++ cons_option (f x) []
    by None behind = behind
    by (Some z) behind = ap (λ (zs : List Y). z ∷ zs) behind

pub record AreParted (jobs : List Held) (began : List JobView) (filled : List FilledView) : Type 0 where
  pub began_are : began ≡ jobs_of jobs
  pub filled_are : filled ≡ filled_of jobs

pub none_parted : AreParted [] [] []
none_parted = record { began_are = refl; filled_are = refl }

pub one_parted : (jobs : List Held) (began began-2 : List JobView) (filled filled-2 : List FilledView) (h : Held) → AreParted jobs began filled
    → began-2 ≡ began ++ cons_option (job_in h.work) [] → filled-2 ≡ filled ++ cons_option (filled_in h.work) [] → AreParted (jobs ++ h ∷ []) began-2 filled-2
one_parted jobs began began-2 filled filled-2 h are one two = record {
  began_are = one ∙ (ap (λ xs. xs ++ cons_option (job_in h.work) []) are.began_are ∙ sym (pushed (λ (x : Held). job_in x.work) jobs h));
  filled_are = two ∙ (ap (λ xs. xs ++ cons_option (filled_in h.work) []) are.filled_are ∙ sym (pushed (λ (x : Held). filled_in x.work) jobs h));
}
