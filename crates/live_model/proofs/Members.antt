-- Jobs of a list, and their blocks.
use Rattle.std.specs.Prelude.{◌≡◌, ◌⊎◌, ◌<◌, ◌+◌, ℕ, zero, suc, List, [], ◌∷◌, ◌++◌, length, Option, Some, None, refl}
use Rattle.std.proofs.Common.{arith, ap, ◌∙◌, sym, subst, inl, inr}
use Rattle.std.proofs.lemmas.Bool.{cases_eq, cases_lt}
use Rattle.std.proofs.lemmas.List.{get_or_past}
use Rattle.std.proofs.lemmas.Option.{same_Some}
use Rattle.write_jobs.specs.pm_model.Words.{Words}
use Rattle.write_jobs.specs.layout_model.declared.lines.Draft.{Draft}
use Rattle.write_jobs.specs.layout_model.declared.lines.Kind.TheVariants.{Staging}
use Rattle.write_jobs.specs.world_model.image_model.Rules.{AreApart}
use Rattle.write_jobs.specs.world_model.image_model.Volume.{free_inode, inode, Volume}
use Rattle.write_jobs.specs.list_laws.Members.{In}
use Rattle.write_jobs.specs.world_model.posix_spec.State.{State}
use Rattle.write_jobs.specs.volume_laws.OwnerLaws.{IsOnePlace, one_owner}
use Rattle.write_jobs.specs.world_model.Lent.{once_named}
use Rattle.write_jobs.specs.world_model.Jobs.{ApartFrom, AreApartJobs, IsStagedIn, Job, JobsStand, JobStands, staged_block}
use Rattle.write_jobs.specs.world_model.Promised.{AreWhole}
use Rattle.write_jobs.specs.world_model.Shown.{IsLent}
use Rattle.write_jobs.specs.world_model.Stands.{IsSane}

-- ---- members

-- one of the jobs, or one of the others
pub split : (a : List Job) (j : Job) (b : List Job) (x : Job) → In x (a ++ j ∷ b) → (j ≡ x) ⊎ In x (a ++ b)
split [] j b x is = is
split (y ∷ a) j b x (inl same) = inr (inl same)
split (y ∷ a) j b x (inr rest) = elim (split a j b x rest) [ inl own ↦ inl own | inr other ↦ inr (inr other) ]

pub among : (a : List Job) (j : Job) (b : List Job) (x : Job) → In x (a ++ b) → In x (a ++ j ∷ b)
among [] j b x is = inr is
among (y ∷ a) j b x (inl same) = inl same
among (y ∷ a) j b x (inr rest) = inr (among a j b x rest)

pub own : (a : List Job) (j : Job) (b : List Job) → In j (a ++ j ∷ b)
own [] j b = inl refl
own (y ∷ a) j b = inr (own a j b)

pub front : (jobs : List Job) (j x : Job) → In x jobs → In x (jobs ++ j ∷ [])
front (y ∷ jobs) j x (inl same) = inl same
front (y ∷ jobs) j x (inr rest) = inr (front jobs j x rest)
front [] j x is = absurd is

pub whole_others : (a : List Job) (j : Job) (b : List Job) → AreWhole (a ++ j ∷ b) → AreWhole (a ++ b)
whole_others [] j b whole = whole.1
whole_others (y ∷ a) j b whole = (whole.0, whole_others a j b whole.1)

pub whole_own : (a : List Job) (j : Job) (b : List Job) → AreWhole (a ++ j ∷ b) → j.found ≡ j.whole
whole_own [] j b whole = whole.0
whole_own (y ∷ a) j b whole = whole_own a j b whole.1

pub whole_pushed : (jobs : List Job) (j : Job) → AreWhole jobs → j.found ≡ j.whole → AreWhole (jobs ++ j ∷ [])
whole_pushed [] j whole last = (last, tt)
whole_pushed (y ∷ jobs) j whole last = (whole.0, whole_pushed jobs j whole.1 last)

pub job_stands : (v : Volume) (live : List Draft) (f : Words) (numbers : List ℕ) (s : State) (jobs : List Job) (x : Job) → JobsStand v live f numbers s jobs → In x jobs → JobStands v live f numbers s x
job_stands v live f numbers s (j ∷ jobs) x out (inl same) = subst (JobStands v live f numbers s) same out.0
job_stands v live f numbers s (j ∷ jobs) x out (inr rest) = job_stands v live f numbers s jobs x out.2 rest
job_stands v live f numbers s [] x out is = absurd is

pub job_apart : (i : Job) (jobs : List Job) (x : Job) → ApartFrom i jobs → In x jobs → AreApartJobs i x
job_apart i (j ∷ jobs) x apart (inl same) = subst (AreApartJobs i) same apart.0
job_apart i (j ∷ jobs) x apart (inr rest) = job_apart i jobs x apart.1 rest
job_apart i [] x apart is = absurd is

pub job_lent : (v : Volume) (jobs : List Job) (x : Job) (b : ℕ) → In x jobs → IsStagedIn v x.draft b → IsLent v jobs b
job_lent v (j ∷ jobs) x b (inl same) staged = inl (subst (λ (y : Job). IsStagedIn v y.draft b) (sym same) staged)
job_lent v (j ∷ jobs) x b (inr rest) staged = inr (job_lent v jobs x b rest staged)
job_lent v [] x b is staged = absurd is

-- ---- blocks

pub staging_below : (v : Volume) (x : ℕ) → (inode v x).kind ≡ Staging → x < length v.inodes
staging_below v x staging = elim (cases_lt x (length v.inodes)) [
  | inl below ↦ below
  | inr past ↦ let never : Staging ≡ free_inode.kind = sym staging ∙ ap (λ y. y.kind) (get_or_past v.inodes x free_inode past) in cc
]

-- entries that are apart have no block in common
pub no_common : (v : Volume) (d e : Draft) (b : ℕ) → IsSane v → (inode v d.staging).kind ≡ Staging → (inode v e.staging).kind ≡ Staging → AreApart d e → IsStagedIn v d b → IsStagedIn v e b → ⊥
no_common v d e b sane d_is e_is apart (k, k_below, k_at) (m, m_below, m_at) =
    let d_below = staging_below v d.staging d_is in
    let one : IsOnePlace d.staging e.staging (d.staging_block + k) (e.staging_block + m) =
    one_owner v b d.staging e.staging (d.staging_block + k) (e.staging_block + m) (once_named v sane d.staging (d.staging_block + k) b d_below k_at) d_below (staging_below v e.staging e_is) k_at m_at
    in
    elim (apart one.inode) [
      | inl before ↦ omega (arith, one.place, before, k_below, m_below)
      | inr behind ↦ omega (arith, one.place, behind, k_below, m_below)
    ]

-- the block is one of the first n of the entry, or none of them
pub find_block : (v : Volume) (d : Draft) (b n : ℕ) → ((k : ℕ) × (k < n) × (staged_block v d k ≡ Some b)) ⊎ ((k : ℕ) → k < n → staged_block v d k ≡ Some b → ⊥)
find_block v d b zero = inr (λ k below at. absurd (omega (arith, below)))
find_block v d b (suc n) = elim (find_block v d b n) [
  | inl found ↦ inl (found.0, omega (arith, found.1), found.2)
  | inr none ↦ by (staged_block v d n) refl none
] where
  by : (o : Option ℕ) → staged_block v d n ≡ o → ((k : ℕ) → k < n → staged_block v d k ≡ Some b → ⊥)
      → ((k : ℕ) × (k < suc n) × (staged_block v d k ≡ Some b)) ⊎ ((k : ℕ) → k < suc n → staged_block v d k ≡ Some b → ⊥)
  by None is none = inr (λ k below at. elim (cases_lt k n) [
    | inl earlier ↦ none k earlier at
    | inr last ↦
        let same : k ≡ n = omega (arith, below, last) in
        let never : None ≡ Some b = sym is ∙ ap (staged_block v d) (sym same) ∙ at in
        cc
  ])
  by (Some c) is none = elim (cases_eq c b) [
    | inl same ↦ inl (n, omega arith, is ∙ ap (λ x. Some x) same)
    | inr apart ↦ inr (λ k below at. elim (cases_lt k n) [
      | inl earlier ↦ none k earlier at
      | inr last ↦ let same : k ≡ n = omega (arith, below, last) in apart (same_Some c b (sym is ∙ ap (staged_block v d) (sym same) ∙ at))
    ])
  ]
