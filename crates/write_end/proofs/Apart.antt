-- The loans of jobs are apart.
use Rattle.std.proofs.Common.{◌≡◌, ◌⊎◌, ◌+◌, ◌∷◌, [], ℕ, List, length, Some, arith, ap, ◌∙◌, sym, subst, inl, inr}
use Rattle.oplog_entry.specs.pm_model.ImageLaws.{IsImage-words_of}
use Rattle.oplog_entry.specs.pm_model.Images.{words_of}
use Rattle.oplog_entry.specs.pm_model.Parts.{Part}
use Rattle.oplog_entry.specs.pm_model.Words.{Words}
use Rattle.in_place.specs.live_model.write_jobs.Loans.{AreApart}
use Rattle.oplog_entry.specs.layout_model.declared.lines.Draft.{Draft}
use Rattle.oplog_entry.specs.layout_model.declared.lines.Kind.TheVariants.{Staging}
use Rattle.oplog_entry.specs.layout_model.Journal.{journaled}
use Rattle.oplog_entry.specs.image_model.Volume.{inode, Volume}
use Rattle.in_place.specs.k_split_laws.list_laws.Members.{In}
use Rattle.in_place.specs.k_split_laws.posix_spec.State.{State}
use Rattle.in_place.specs.k_split_laws.volume_laws.OwnerLaws.{IsOnePlace, one_owner}
use Rattle.in_place.specs.write_plan.eof_laws.log_checkpoint.world_model.Lent.{once_named}
use Rattle.in_place.specs.write_plan.eof_laws.log_checkpoint.world_model.Jobs.{AreApartJobs, IsStagedIn, Job, JobsStand, JobStands, live_claims, staged_block}
use Rattle.in_place.specs.write_plan.eof_laws.log_checkpoint.world_model.Stands.{IsSane}
use Rattle.in_place.specs.live_model.Standing.{AreJobsOf, HasItsBlocks, JobOut}
use Rattle.in_place.specs.live_model.write_jobs.Jobs.{blocks_of, FilledView, loan_at}
use Rattle.write_end.specs.LosingLaws.{HasLoansApart, SharesNone, StandsApart}
use Rattle.write_end.proofs.Jobs.{none_common, staged_of}
use Rattle.write_end.proofs.LosingPending.{apart_of, IsJobOf, job_of, loans_of_entry, places_of_entry, staging_below, stands_of}

-- of two jobs one is apart from the other, or they are one
two_jobs : (v : Volume) (live : List Draft) (f : Words) (numbers : List ℕ) (s : State) (jobs : List Job) (i j : Job) → JobsStand v live f numbers s jobs → In i jobs → In j jobs → (i ≡ j) ⊎ (AreApartJobs i j ⊎ AreApartJobs j i)
two_jobs v live f numbers s [] i j out at_i at_j = absurd at_i
two_jobs v live f numbers s (x ∷ jobs) i j out (inl a) (inl b) = inl (sym a ∙ b)
two_jobs v live f numbers s (x ∷ jobs) i j out (inl a) (inr b) = inr (inl (subst (λ (y : Job). AreApartJobs y j) a (apart_of x jobs j out.1 b)))
two_jobs v live f numbers s (x ∷ jobs) i j out (inr a) (inl b) = inr (inr (subst (λ (y : Job). AreApartJobs y i) b (apart_of x jobs i out.1 a)))
two_jobs v live f numbers s (x ∷ jobs) i j out (inr a) (inr b) = two_jobs v live f numbers s jobs i j out.2 a b

-- no two places of an entry have one block
once : (v : Volume) (draft : Draft) (m n b : ℕ) → IsSane v → (inode v draft.staging).kind ≡ Staging → staged_block v draft m ≡ Some b → staged_block v draft n ≡ Some b → m ≡ n
once v draft m n b sane staging first second =
    let below = staging_below v draft.staging staging in
    let one : IsOnePlace draft.staging draft.staging (draft.staging_block + m) (draft.staging_block + n) =
    one_owner v b draft.staging draft.staging (draft.staging_block + m) (draft.staging_block + n) (once_named v sane draft.staging (draft.staging_block + m) b below first) below below first second
    in
    omega (arith, one.place)

module _ (v : Volume) (live : List Draft) (f : Words) (numbers : List ℕ) (s : State) (pending : List JobOut) (jobs : List Job) (are : AreJobsOf pending jobs) (blocks : (p : JobOut) → In p pending → HasItsBlocks v p) (sane : IsSane v)
    (out : JobsStand v live f numbers s jobs) where
  its_job : (p : JobOut) → In p pending → IsJobOf p jobs
  its_job p there = job_of pending jobs p are there

  stood : (p : JobOut) (there : In p pending) → JobStands v live f numbers s (its_job p there).job
  stood p there = stands_of v live f numbers s jobs (its_job p there).job out (its_job p there).there

  pub loans_apart : (p : JobOut) (loans : List Part) → In p pending → blocks_of loans ≡ p.blocks → AreApart loans
  loans_apart p loans there same m n first second equal =
      let its = its_job p there in
      let job : FilledView = record { who = p.who; draft = p.draft; loans = loans; words = [] } in
      let count : length loans ≡ its.job.draft.count = loans_of_entry v p its.job job (blocks p there) same its.draft in
      let at = places_of_entry v p its.job job (blocks p there) same its.draft in
      once v its.job.draft m n (loan_at loans m).place sane (stood p there).staging (at m (omega (arith, first, count))) (at n (omega (arith, second, count)) ∙ ap (λ b. Some b) (sym equal))

  pub none_shared : (p : JobOut) → In p pending → SharesNone pending p
  none_shared p there q b at other first second =
      let its_p = its_job p there in
      let its_q = its_job q at in
      let of_p : IsStagedIn v its_p.job.draft b = subst (λ (x : Draft). IsStagedIn v x b) (sym its_p.draft) (staged_of v p b (blocks p there) first) in
      let of_q : IsStagedIn v its_q.job.draft b = subst (λ (x : Draft). IsStagedIn v x b) (sym its_q.draft) (staged_of v q b (blocks q at) second) in
      elim (two_jobs v live f numbers s jobs its_p.job its_q.job out its_p.there its_q.there) [
        | inl one ↦ other (sym its_q.who ∙ ap (λ (y : Job). y.who) (sym one) ∙ its_p.who)
        | inr two ↦ elim two [
          | inl apart ↦ none_common v sane its_p.job.draft its_q.job.draft b of_p.0 of_q.0 (stood p there).staging (stood q at).staging apart.staging of_p.1 of_q.1 of_p.2 of_q.2
          | inr apart ↦ none_common v sane its_q.job.draft its_p.job.draft b of_q.0 of_p.0 (stood q at).staging (stood p there).staging apart.staging of_q.1 of_p.1 of_q.2 of_p.2
        ]
      ]

pub has_loans_apart : HasLoansApart
has_loans_apart v d kept start history last p loans lost there same =
    let sane = lost.world.valid.stands.sane in
    let out = lost.world.valid.out in (
      loans_apart v (live_claims v lost.done) lost.words lost.numbers lost.s kept.pending lost.jobs lost.jobs_are lost.blocks sane out p loans there same,
      none_shared v (live_claims v lost.done) lost.words lost.numbers lost.s kept.pending lost.jobs lost.jobs_are lost.blocks sane out p there,
    )

pub stands_apart : StandsApart
stands_apart g k t kept lines n s p loans stands there same =
    let world = stands.flying.device.world (words_of k.cells) (IsImage-words_of k.cells) in
    let f : Words = journaled (words_of k.cells) in (
      loans_apart k.volume (live_claims k.volume kept.claims) f stands.numbers s kept.pending stands.jobs stands.jobs_are stands.blocks world.valid.stands.sane world.valid.out p loans there same,
      none_shared k.volume (live_claims k.volume kept.claims) f stands.numbers s kept.pending stands.jobs stands.jobs_are stands.blocks world.valid.stands.sane world.valid.out p there,
    )
