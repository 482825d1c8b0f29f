-- Tables of which the first lines are cleared, and another table that keeps the same.
use Rattle.std.specs.Prelude.{◌≡◌, ◌≢◌, ◌<◌, ◌≤◌, ℕ, zero, suc, false, List, [], ◌∷◌, length, slice_index_or, refl}
use Rattle.std.proofs.Common.{arith, ap, ◌∙◌, sym, subst, inl, inr, get_or}
use Rattle.std.proofs.lemmas.Bool.{cases_lt}
use Rattle.std.proofs.lemmas.List.{set-get_or}
use Rattle.live_step_laws.specs.layout_model.Places.{Geometry}
use Rattle.log_checkpoint.specs.file_overlay.Runs.{Overlaid}
use Rattle.log_checkpoint.specs.file_table.Files.{ChangesFile, Files, nothing_laid, runs_in, size_in, spare_in}
use Rattle.log_checkpoint.specs.k_split_model.View.{View}
use Rattle.live_step_laws.specs.list_laws.Members.{In}
use Rattle.log_checkpoint.specs.Gathers.{AreCleared}
use Rattle.live_step_laws.specs.posix_tables.Open.{Tables}
use Rattle.log_checkpoint.specs.posix_spec.State.{State}
use Rattle.live_step_laws.specs.world_model.Jobs.{Job}
use Rattle.live_step_laws.specs.live_model.Standing.{AreJobsOf, Kept, JobOut, StandsAt}
use Rattle.file_publish.specs.RelinksLaws.{StandsThen}

-- ---- the first lines are cleared

bared : Overlaid → Overlaid
bared o = record { runs = []; spare = o.spare }

clear-first : ℕ → List Overlaid → List Overlaid
clear-first zero os = os
clear-first (suc n) [] = []
clear-first (suc n) (o ∷ os) = bared o ∷ clear-first n os

pub cleared : ℕ → Files → Files
cleared n t = record { overlays = clear-first n t.overlays; sizes = t.sizes }

cleared-at : (n : ℕ) (os : List Overlaid) (i : ℕ) → i < n → (slice_index_or (clear-first n os) i nothing_laid).runs ≡ []
unfolding clear-first bared
cleared-at zero os i below = absurd (omega (arith, below))
cleared-at (suc n) [] i below = refl
cleared-at (suc n) (o ∷ os) zero below = refl
cleared-at (suc n) (o ∷ os) (suc i) below = cleared-at n os i (omega (arith, below))

left-at : (n : ℕ) (os : List Overlaid) (i : ℕ) → n ≤ i → slice_index_or (clear-first n os) i nothing_laid ≡ slice_index_or os i nothing_laid
unfolding clear-first
left-at zero os i from = refl
left-at (suc n) [] i from = refl
left-at (suc n) (o ∷ os) zero from = absurd (omega (arith, from))
left-at (suc n) (o ∷ os) (suc i) from = left-at n os i (omega (arith, from))

spare-at : (n : ℕ) (os : List Overlaid) (i : ℕ) → (slice_index_or (clear-first n os) i nothing_laid).spare ≡ (slice_index_or os i nothing_laid).spare
unfolding clear-first bared
spare-at zero os i = refl
spare-at (suc n) [] i = refl
spare-at (suc n) (o ∷ os) zero = refl
spare-at (suc n) (o ∷ os) (suc i) = spare-at n os i

pub cleared-runs : (n : ℕ) (t : Files) (i : ℕ) → i < n → runs_in (cleared n t) i ≡ []
unfolding cleared
cleared-runs n t i below = cleared-at n t.overlays i below

pub left-runs : (n : ℕ) (t : Files) (i : ℕ) → n ≤ i → runs_in (cleared n t) i ≡ runs_in t i
unfolding cleared
left-runs n t i from = ap (λ (o : Overlaid). o.runs) (left-at n t.overlays i from)

pub cleared-none : (t : Files) → cleared 0 t ≡ t
unfolding cleared clear-first
cleared-none t = refl

pub cleared-sizes : (n : ℕ) (t : Files) → (cleared n t).sizes ≡ t.sizes
unfolding cleared
cleared-sizes n t = refl

pub cleared-size : (n : ℕ) (t : Files) (i : ℕ) → size_in (cleared n t) i ≡ size_in t i
unfolding cleared
cleared-size n t i = refl

cleared-spare : (n : ℕ) (t : Files) (i : ℕ) → spare_in (cleared n t) i ≡ spare_in t i
unfolding cleared
cleared-spare n t i = spare-at n t.overlays i

-- one line more is cleared
pub clears-next : (n : ℕ) (t : Files) → ChangesFile n [] (size_in (cleared n t) n) (cleared n t) (cleared (suc n) t)
clears-next n t = record {
  sizes = cleared-sizes (suc n) t ∙ (sym (cleared-sizes n t) ∙ sym (set-get_or (cleared n t).sizes n 0));
  runs_are = cleared-runs (suc n) t n (omega arith);
  others = others;
  spares = λ i other. cleared-spare (suc n) t i ∙ sym (cleared-spare n t i);
} where
  others : (i : ℕ) → i ≢ n → runs_in (cleared (suc n) t) i ≡ runs_in (cleared n t) i
  others i other = elim (cases_lt i n) [
    | inl below ↦ cleared-runs (suc n) t i (omega (arith, below)) ∙ sym (cleared-runs n t i below)
    | inr from ↦ left-runs (suc n) t i (omega (arith, from, other)) ∙ sym (left-runs n t i from)
  ]

-- all are: it keeps what the table of a gathering keeps
pub all-cleared : (t u : Files) → AreCleared (length t.sizes) t u → (i : ℕ) → runs_in u i ≡ runs_in (cleared (length t.sizes) t) i
all-cleared t u is i = elim (cases_lt i (length t.sizes)) [
  | inl below ↦ is.cleared i below ∙ sym (cleared-runs (length t.sizes) t i below)
  | inr from ↦ is.others i from ∙ sym (left-runs (length t.sizes) t i from)
]

-- ---- a table that keeps the same, where no job is out

pub no-jobs : (pending : List JobOut) (jobs : List Job) → AreJobsOf pending jobs → pending ≡ [] → jobs ≡ []
no-jobs [] [] are none = refl
no-jobs [] (j ∷ jobs) are none = absurd are
no-jobs (p ∷ pending) jobs are none = absurd (let never : p ∷ pending ≡ [] = none in cc)

module _ (g : Geometry) (k : View) (t : Tables) (kept : Kept) (files : Files) (n : ℕ) (s : State) (stands : StandsAt g k t kept false n s) (sizes_same : files.sizes ≡ kept.files.sizes)
    (runs_same : (i : ℕ) → runs_in files i ≡ runs_in kept.files i) where
  size-same : (i : ℕ) → size_in files i ≡ size_in kept.files i
  size-same i = ap (λ (xs : List ℕ). get_or xs i 0) sizes_same

  pub stands-same : StandsThen g k k t kept (record kept { files = files }) false n s stands
  stands-same = record {
    now = record {
      count = stands.count;
      few = stands.few;
      numbers = stands.numbers;
      jobs = stands.jobs;
      jobs_are = stands.jobs_are;
      order = stands.order;
      unbatched = stands.unbatched;
      on = stands.on;
      geometry = stands.geometry;
      flying = record {
        device = stands.flying.device;
        whole = stands.flying.whole;
        out = stands.flying.out;
        home = stands.flying.home;
        overlays = λ i file.
            let was = stands.flying.overlays i file in
            record { runs_are = runs_same i ∙ was.runs_are; size_is = size-same i ∙ was.size_is };
      };
      lines = stands.lines;
      quiet = stands.quiet;
      blocks = stands.blocks;
      callers = stands.callers;
      spare = λ p is. absurd (subst (In p) stands.lines.0 is);
      tables = stands.tables;
      open_are_files = stands.open_are_files;
      ordered = stands.ordered;
      sizes = record {
        count = ap (λ (xs : List ℕ). length xs) sizes_same ∙ stands.sizes.count;
        files = λ i file. size-same i ∙ stands.sizes.files i file;
        others = λ i other. size-same i ∙ stands.sizes.others i other;
      };
      bare = λ i other. runs_same i ∙ stands.bare i other;
      staged = stands.staged;
      agrees = stands.agrees;
      free_single = stands.free_single;
      drafts = stands.drafts;
      low = stands.low;
      claims_out = stands.claims_out;
      jobs_out = stands.jobs_out;
      owed = stands.owed;
    };
    jobs_are = refl;
    numbers_are = refl;
  }
