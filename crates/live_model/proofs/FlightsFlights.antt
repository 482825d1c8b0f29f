-- Jobs come and go in flight.
use Rattle.std.specs.Prelude.{◌≡◌, ◌≢◌, ◌<◌, ◌+◌, ◌/◌, ◌%◌, ◌==◌, ℕ, Bool, true, false, List, [], ◌∷◌, ◌++◌, length, Some, refl, if◌then◌else◌}
use Rattle.std.proofs.Common.{arith, ap, ◌∙◌, sym, subst, inl, inr}
use Rattle.std.proofs.lemmas.Bool.{both_ways}
use Rattle.std.proofs.lemmas.Bool.Decides.{nat_tests}
use Rattle.write_jobs.specs.pm_model.declared.Cell.{Cell}
use Rattle.write_jobs.specs.pm_model.declared.Cell.TheVariants.{Lent, Marked, Single, Two}
use Rattle.write_jobs.specs.pm_model.Cells.{cell, is_lent, unmarked}
use Rattle.write_jobs.specs.pm_model.ImageLaws.{IsImage-words_of}
use Rattle.write_jobs.specs.pm_model.Images.{words_of}
use Rattle.write_jobs.specs.pm_model.Parts.{Part}
use Rattle.write_jobs.specs.layout_model.Journal.{journaled}
use Rattle.write_jobs.specs.layout_model.declared.lines.Draft.{Draft}
use Rattle.write_jobs.specs.layout_model.declared.lines.Kind.TheVariants.{File}
use Rattle.write_jobs.specs.world_model.image_model.Volume.{inode, Volume}
use Rattle.write_jobs.specs.list_laws.Members.{In, pushed-In}
use Rattle.write_jobs.specs.world_model.crash_spec.Sync.{with_bytes}
use Rattle.write_jobs.specs.world_model.posix_spec.Run.{after_call}
use Rattle.write_jobs.specs.world_model.posix_spec.State.{State, with_file}
use Rattle.write_jobs.specs.world_write_laws.JobSteps.{Valid-front}
use Rattle.write_jobs.specs.world_image_laws.Settings.{keeps_setting}
use Rattle.write_jobs.specs.world_model.JobLaws.{acted, live_claims-more}
use Rattle.write_jobs.specs.world_model.Latest.{AreBelow-Consecutive}
use Rattle.write_jobs.specs.world_model.Jobs.{IsStagedIn, Job, JobStands, live_claims, unfinished_call, Valid}
use Rattle.write_jobs.specs.world_model.Stands.{Consecutive, entries_of, number}
use Rattle.write_jobs.specs.Jobs.{loan_at}
use Rattle.write_jobs.specs.Blocks.{AreOut, ArePutBack, IsBeside}
use Rattle.write_jobs.proofs.Begins.{begins_job}
use Rattle.write_jobs.proofs.Ends.{finishes_job, gives_up_job, lands_job}
use Rattle.live_model.specs.Overlays.{IsOverlayOf, run_of}
use Rattle.live_model.proofs.OverlaysOverlays.{lays_beside, lays_entry}
use Rattle.live_model.specs.Flying.{AreOverlays, FileState, IsFlying, IsOut, with_entry}
use Rattle.live_model.specs.FlightsLaws.{FliesBegun, FliesFinished, FliesGivenUp, FliesLanded}
use Rattle.live_model.proofs.Members.{among, find_block, front, job_apart, job_stands, no_common, own, split, whole_others, whole_own, whole_pushed}

unmarked_home : (c : Cell) → is_lent (unmarked c) ≡ is_lent c
unmarked_home (Single a) = refl
unmarked_home (Two a b) = refl
unmarked_home (Marked a b) = refl
unmarked_home Lent = refl

-- ---- the blocks of a job come back

module _ (v : Volume) (d e : List Cell) (claims : List (ℕ × Draft)) (a : List Job) (j : Job) (b : List Job) (files : ℕ → FileState) (numbers : List ℕ) (s : State) (count : ℕ) (loans : List Part)
    (fly : IsFlying v d claims (a ++ j ∷ b) files numbers s count) (back : ArePutBack v j.draft loans d e) where
  valid : Valid v claims (j ∷ (a ++ b)) (journaled (words_of d)) numbers s
  valid = Valid-front v claims a j b (journaled (words_of d)) numbers s (fly.device.world (words_of d) (IsImage-words_of d)).valid

  pub stood : JobStands v (live_claims v claims) (journaled (words_of d)) numbers s j
  stood = valid.out.0

  -- those of the others stay out
  pub others_out : (x : Job) → In x (a ++ b) → AreOut v x.draft e
  others_out x is k block i below at inside =
      let beside : IsBeside v j.draft i =
      λ m c m_below m_at m_inside. no_common v j.draft x.draft block valid.stands.sane stood.staging (job_stands v (live_claims v claims) (journaled (words_of d)) numbers s (a ++ b) x valid.out.2 is).staging
      (job_apart j (a ++ b) x valid.out.1 is).staging (m, m_below, m_at ∙ ap (λ n. Some n) (sym m_inside ∙ inside)) (k, below, at)
      in
      ap is_lent (back.beside i beside) ∙ fly.out x (among a j b x is) k block i below at inside

  -- and nothing else is
  pub others_home : ((k n : ℕ) → k < j.draft.count → n < 512 → is_lent (cell (loan_at loans k).cells n) ≡ false) → (i : ℕ) → is_lent (cell e i) ≡ true → IsOut v (a ++ b) i
  others_home home i lent = by (is_lent (cell d i)) refl where
    by_out : IsOut v (a ++ j ∷ b) i → IsOut v (a ++ b) i
    by_out (inl line) = inl line
    by_out (inr (x, is, staged)) = elim (split a j b x is) [
      | inl same ↦
          let own_block = subst (λ (y : Job). IsStagedIn v y.draft (i / 512)) (sym same) staged in
          let k = own_block.0 in
          absurd
          (both_ways (is_lent (cell e i))
          (ap is_lent (back.words k (i / 512) i own_block.1 own_block.2 refl) ∙ unmarked_home (cell (loan_at loans k).cells (i % 512)) ∙ home k (i % 512) own_block.1 (omega arith)) lent)
      | inr other ↦ inr (x, other, staged)
    ]

    by : (c : Bool) → is_lent (cell d i) ≡ c → IsOut v (a ++ b) i
    by true was = by_out (fly.home i was)
    by false was =
        let beside : IsBeside v j.draft i = λ k c below at inside. both_ways (is_lent (cell d i)) was (fly.out j (own a j b) k c i below at inside) in
        absurd (both_ways (is_lent (cell e i)) (ap is_lent (back.beside i beside) ∙ was) lent)

-- ---- A JOB FINISHES

other_ino : (m n : ℕ) → (m == n) ≡ false → n ≢ m
other_ino m n apart same = let own_test : (m == n) ≡ true = grind (arith, nat_tests, same) in both_ways (m == n) apart own_test

same_ino : (m n : ℕ) → (m == n) ≡ true → m ≡ n
same_ino m n is = grind (arith, nat_tests, is)

-- what is kept of a file, with the run of an entry more
abbrev with_run : (ℕ → FileState) → Draft → ℕ → FileState
with_run files d n = record { runs = (files n).runs ++ run_of d ∷ []; size = d.size }

laid : (v : Volume) (live : List Draft) (d : Draft) (files : ℕ → FileState) → AreOverlays v live files → (inode v d.ino).applied + length (entries_of d.ino live) < d.order
    → ((ino : ℕ) → Consecutive (inode v ino).applied (entries_of ino live)) → ((ino : ℕ) → (inode v ino).kind ≡ File → IsOverlayOf v (live ++ d ∷ []) ino (with_entry files d ino).runs (with_entry files d ino).size)
laid v live d files overlays above log ino file = by (ino == d.ino) refl where
  by : (b : Bool) → (ino == d.ino) ≡ b → IsOverlayOf v (live ++ d ∷ []) ino (if b then with_run files d ino else files ino).runs (if b then with_run files d ino else files ino).size
  by true is =
      let same = same_ino ino d.ino is in
      subst (λ n. IsOverlayOf v (live ++ d ∷ []) n ((files n).runs ++ run_of d ∷ []) d.size) (sym same)
      (lays_entry v live d (files d.ino).runs (files d.ino).size (AreBelow-Consecutive (inode v d.ino).applied d.order (entries_of d.ino live) (log d.ino) above)
      (overlays d.ino (ap (λ n. (inode v n).kind) (sym same) ∙ file)))
  by false is = lays_beside v live d ino (files ino).runs (files ino).size (other_ino ino d.ino is) (overlays ino file)

pub flies_finished : FliesFinished
flies_finished v d e claims a j b files numbers s count slot loans words fly strict back size hold spell = record {
  device = finishes_job v d e claims a j b numbers s count slot loans words fly.device (fly.out j (own a j b)) back size hold spell (whole_own a j b (fly.whole strict));
  whole = λ again. whole_others a j b (fly.whole strict);
  out = others_out v d e claims a j b files numbers s count loans fly back;
  home = others_home v d e claims a j b files numbers s count loans fly back (λ k n below within. ap is_lent (hold k n (omega (arith, below, size)) within));
  overlays = λ ino file.
      let job = stood v d e claims a j b files numbers s count loans fly back in
      subst (λ live. IsOverlayOf v live ino (with_entry files j.draft ino).runs (with_entry files j.draft ino).size) (sym (live_claims-more v claims slot j.draft job.alive))
      (laid v (live_claims v claims) j.draft files fly.overlays (omega (arith, job.order))
      (Valid-front v claims a j b (journaled (words_of d)) numbers s (fly.device.world (words_of d) (IsImage-words_of d)).valid).stands.log.orders ino file);
}

same_mode : (x : State) (n : ℕ) (bytes : List ℕ) → (with_bytes x n bytes).mode ≡ x.mode
unfolding with_file
same_mode x n bytes = refl

pub flies_landed : FliesLanded
flies_landed v d e claims a j b files numbers s count slot loans words fly back size hold spell = record {
  device = lands_job v d e claims a j b numbers s count slot loans words fly.device (fly.out j (own a j b)) back size hold spell;
  whole = λ again. whole_others a j b (fly.whole (sym (same_mode (after_call s (unfinished_call j)) (number numbers j.draft.ino) j.found ∙ (keeps_setting s (unfinished_call j)).mode) ∙ again));
  out = others_out v d e claims a j b files numbers s count loans fly back;
  home = others_home v d e claims a j b files numbers s count loans fly back (λ k n below within. ap is_lent (hold k n (omega (arith, below, size)) within));
  overlays = λ ino file.
      let job = stood v d e claims a j b files numbers s count loans fly back in
      subst (λ live. IsOverlayOf v live ino (with_entry files j.draft ino).runs (with_entry files j.draft ino).size) (sym (live_claims-more v claims slot j.draft job.alive))
      (laid v (live_claims v claims) j.draft files fly.overlays (omega (arith, job.order))
      (Valid-front v claims a j b (journaled (words_of d)) numbers s (fly.device.world (words_of d) (IsImage-words_of d)).valid).stands.log.orders ino file);
}

pub flies_given_up : FliesGivenUp
flies_given_up v d e claims a j b files numbers s count loans fly back home = record {
  device = gives_up_job v d e claims a j b numbers s count loans fly.device (fly.out j (own a j b)) back;
  whole = λ strict. whole_others a j b (fly.whole strict);
  out = others_out v d e claims a j b files numbers s count loans fly back;
  home = others_home v d e claims a j b files numbers s count loans fly back (λ k n below within. home k n);
  overlays = fly.overlays;
}

-- ---- A JOB BEGINS

pub flies_begun : FliesBegun
flies_begun v d e claims jobs j files numbers s count fly stands apart fits free found goes now = record {
  device = begins_job v d e claims jobs j numbers s count fly.device stands apart fits free goes now;
  whole = λ strict. whole_pushed jobs j (fly.whole strict) (found strict);
  out = λ x is. elim (pushed-In jobs j x is) [ inl old ↦ still_out x old | inr same ↦ subst (λ (y : Job). AreOut v y.draft e) same goes.out ];
  home = λ i lent. by i lent (is_lent (cell d i)) refl;
  overlays = fly.overlays;
} where
  still_out : (x : Job) → In x jobs → AreOut v x.draft e
  still_out x is k block i below at inside =
      let was = fly.out x is k block i below at inside in
      ap is_lent (goes.beside i (λ m c m_below m_at m_inside. both_ways (is_lent (cell d i)) (goes.home m c i m_below m_at m_inside) was)) ∙ was

  last : (xs : List Job) → In j (xs ++ j ∷ [])
  last xs = own xs j []

  by : (i : ℕ) → is_lent (cell e i) ≡ true → (c : Bool) → is_lent (cell d i) ≡ c → IsOut v (jobs ++ j ∷ []) i
  by i lent true was = elim (fly.home i was) [ inl line ↦ inl line | inr job ↦ inr (job.0, front jobs j job.0 job.1, job.2) ]
  by i lent false was = elim (find_block v j.draft (i / 512) j.draft.count) [
    | inl found_at ↦ inr (j, last jobs, found_at)
    | inr none ↦
        let beside : IsBeside v j.draft i = λ k c below at inside. none k below (at ∙ ap (λ n. Some n) (sym inside)) in
        absurd (both_ways (is_lent (cell e i)) (ap is_lent (goes.beside i beside) ∙ was) lent)
  ]
