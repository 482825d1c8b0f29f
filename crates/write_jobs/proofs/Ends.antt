-- A job's blocks come back.
use Rattle.std.specs.Prelude.{◌≡◌, ◌+◌, ◌*◌, ◌/◌, ◌%◌, ◌^◌, ℕ, Bool, true, false, List, [], ◌∷◌, ◌++◌, length, slice_index, refl}
use Rattle.std.proofs.Common.{arith, ap, ◌∙◌, sym, subst}
use Rattle.std.proofs.lemmas.Bool.{both_ways}
use Rattle.pm_lines.specs.pm_model.declared.Cell.{Cell}
use Rattle.pm_lines.specs.pm_model.declared.Cell.TheVariants.{Single}
use Rattle.pm_lines.specs.pm_model.CellLaws.{single-home}
use Rattle.pm_lines.specs.pm_model.Cells.{cell, is_lent, is_single, IsCandidate, unmarked}
use Rattle.pm_lines.specs.pm_model.ImageLaws.{IsImage-words_of}
use Rattle.pm_lines.specs.pm_model.Images.{IsImage, words_of}
use Rattle.pm_lines.specs.pm_model.Parts.{Part}
use Rattle.pm_lines.specs.pm_model.Words.{Words}
use Rattle.layout_model.specs.Journal.{journaled}
use Rattle.layout_model.specs.PlaceLaws.{behind_log-words}
use Rattle.layout_model.specs.Places.{commit_word, Geometry}
use Rattle.layout_model.specs.declared.lines.Draft.{Draft}
use Rattle.world_write_laws.specs.image_model.Live.{is_live}
use Rattle.world_write_laws.specs.image_model.Volume.{Volume}
use Rattle.world_write_laws.specs.volume_laws.ImageLaws.{journaled-idle}
use Rattle.world_write_laws.specs.volume_laws.LineWords.{data_word}
use Rattle.world_write_laws.specs.k_split_model.Stands.{Stands}
use Rattle.world_write_laws.specs.posix_spec.Run.{after_call}
use Rattle.world_write_laws.specs.posix_spec.State.{State, with_file}
use Rattle.world_write_laws.specs.crash_spec.Sync.{with_bytes}
use Rattle.world_image_laws.specs.Images.{StandsFor}
use Rattle.world_image_laws.specs.Settings.{keeps_setting}
use Rattle.world_write_laws.specs.JobSteps.{finished, given_up, landed, Valid-front}
use Rattle.world_write_laws.specs.Free.{stays_free_finished, stays_free_given_up}
use Rattle.world_write_laws.specs.world_model.JobLaws.{acted, HoldsWhole-found}
use Rattle.world_write_laws.specs.world_model.Jobs.{unfinished_call, HoldsWhole, Job, JobStands, live_claims}
use Rattle.world_write_laws.specs.world_model.Stands.{number}
use Rattle.world_write_laws.specs.world_step_laws.Worlds.{IsWorld}
use Rattle.write_jobs.specs.Jobs.{HoldWords, loan_at}
use Rattle.write_jobs.specs.Blocks.{AreOut, ArePutBack, SpellWhole}
use Rattle.write_jobs.specs.Laws.{FinishesJob, GivesUpJob, LandsJob}
use Rattle.write_jobs.proofs.Blocks.{lent_any, staged_in_data}

module _ (v : Volume) (draft : Draft) (loans : List Part) (d e : List Cell) (out : AreOut v draft d) (back : ArePutBack v draft loans d e) where
  -- a word that is not lent stays
  stays : (i : ℕ) → is_lent (cell d i) ≡ false → cell e i ≡ cell d i
  stays i home = back.beside i (λ k b below at inside. both_ways (is_lent (cell d i)) home (out k b i below at inside))

  -- each image is one of the device before
  pub image_before : (image : Words) → IsImage e image → IsImage d image
  image_before image is i = by (is_lent (cell d i)) refl where
    by : (c : Bool) → is_lent (cell d i) ≡ c → IsCandidate (cell d i) (image i)
    by true lent = lent_any (cell d i) (image i) lent
    by false home = subst (λ c. IsCandidate c (image i)) (stays i home) (is i)

  single_stays : (i : ℕ) → is_single (cell d i) ≡ true → is_single (cell e i) ≡ true
  single_stays i single = ap is_single (stays i (single-home (cell d i) single)) ∙ single

  pub stands_before : (g : Geometry) → Stands g v d → Stands g v e
  stands_before g stands = record {
    size = back.size ∙ stands.size;
    idle = stays commit_word (ap is_lent stands.idle) ∙ stands.idle;
    single = λ i below. single_stays i (stands.single i below);
    chains = λ ino k i below at. single_stays i (stands.chains ino k i below at);
    reads = λ image is. stands.reads image (image_before image is);
  }

-- ---- what the blocks hold

single_word : (c : Cell) (w x : ℕ) → c ≡ Single w → IsCandidate (unmarked c) x → x ≡ w
single_word c w x is candidate = subst (λ y. IsCandidate (unmarked y) x) is candidate

same_shape : (x : State) (n : ℕ) (bytes : List ℕ) → (with_bytes x n bytes).shape ≡ x.shape
unfolding with_file
same_shape x n bytes = refl

module _ (v : Volume) (d e : List Cell) (claims : List (ℕ × Draft)) (a : List Job) (j : Job) (b : List Job) (numbers : List ℕ) (s : State) (count : ℕ) (loans : List Part)
    (device : StandsFor v d claims (a ++ j ∷ b) numbers s count) (out : AreOut v j.draft d) (back : ArePutBack v j.draft loans d e) where
  world : (image : Words) → IsImage e image → IsWorld v claims (a ++ j ∷ b) (journaled image) numbers s count
  world image is = device.world image (image_before v j.draft loans d e out back image is)

  stood : (image : Words) → IsImage e image → JobStands v (live_claims v claims) (journaled image) numbers s j
  stood image is = (Valid-front v claims a j b (journaled image) numbers s (world image is).valid).out.0

  holds : (words whole : List ℕ) → length loans ≡ j.draft.count → HoldWords loans words → SpellWhole j.draft words whole → (image : Words) → IsImage e image → HoldsWhole v (journaled image) j.draft whole
  holds words whole size hold spell image is k block i below at within =
      let sane = (world image is).valid.stands.sane in
      let in_data = staged_in_data v j.draft k block sane (stood image is).staging at in
      let w : ℕ = (4096 * block + i) / 8 in
      let word : w ≡ 512 * block + i / 8 = omega arith in
      let of_block : w / 512 ≡ block = omega (arith, word, within) in
      let in_block : w % 512 ≡ i / 8 = omega (arith, word, within) in
      let none : image commit_word ≡ 0 = subst (λ c. IsCandidate c (image commit_word)) (stands_before v j.draft loans d e out back v.geometry device.stands).idle (is commit_word) in
      let read : journaled image w ≡ image w =
      journaled-idle image w none (behind_log-words v.geometry w (omega (arith, word, data_word v.geometry block (i / 8) in_data (omega (arith, within)))))
      in
      let stored : image w ≡ slice_index words (512 * k + i / 8) =
      single_word (cell (loan_at loans k).cells (i / 8)) (slice_index words (512 * k + i / 8)) (image w) (hold k (i / 8) (omega (arith, below, size)) (omega (arith, within)))
      (subst (λ n. IsCandidate (unmarked (cell (loan_at loans k).cells n)) (image w)) in_block (subst (λ c. IsCandidate c (image w)) (back.words k block w below at of_block) (is w)))
      in
      let byte : (4096 * block + i) % 8 ≡ i % 8 = omega arith in
      ap (λ x. x / 256 ^ ((4096 * block + i) % 8) % 256) (read ∙ stored) ∙ ap (λ n. slice_index words (512 * k + i / 8) / 256 ^ n % 256) byte ∙ spell k i below within

  -- THE JOB FINISHES
  pub job_finishes : (slot : ℕ) (words : List ℕ) → length loans ≡ j.draft.count → HoldWords loans words → SpellWhole j.draft words j.whole → j.found ≡ j.whole
      → StandsFor v e (claims ++ (slot, j.draft) ∷ []) (a ++ b) numbers (after_call s (unfinished_call j)) count
  job_finishes slot words size hold spell whole = record {
    stands = stands_before v j.draft loans d e out back v.geometry device.stands;
    headed = λ image is. device.headed image (image_before v j.draft loans d e out back image is);
    world = λ image is.
        finished v claims a j b (journaled image) numbers s count slot (world image is)
        (subst (HoldsWhole v (journaled image) j.draft) (sym whole) (holds words j.whole size hold spell image is)) whole;
    room = record {
      free = stays_free_finished v claims a j b slot device.room.free alive;
      blocks = ap (λ x. x.data_blocks) (keeps_setting s (unfinished_call j)).shape ∙ device.room.blocks;
    };
  } where
    alive : is_live v j.draft ≡ true
    alive = (Valid-front v claims a j b (journaled (words_of d)) numbers s (device.world (words_of d) (IsImage-words_of d)).valid).out.0.alive

  -- IT LANDS
  pub job_lands : (slot : ℕ) (words : List ℕ) → length loans ≡ j.draft.count → HoldWords loans words → SpellWhole j.draft words j.whole
      → StandsFor v e (claims ++ (slot, j.draft) ∷ []) (a ++ b) numbers (acted numbers s j) count
  job_lands slot words size hold spell = record {
    stands = stands_before v j.draft loans d e out back v.geometry device.stands;
    headed = λ image is. device.headed image (image_before v j.draft loans d e out back image is);
    world = λ image is.
        landed v claims a j b (journaled image) numbers s count slot (world image is)
        (HoldsWhole-found v (live_claims v claims) (journaled image) (journaled image) numbers s j (stood image is) (holds words j.whole size hold spell image is));
    room = record {
      free = stays_free_finished v claims a j b slot device.room.free alive;
      blocks = ap (λ x. x.data_blocks) (same_shape (after_call s (unfinished_call j)) (number numbers j.draft.ino) j.found ∙ (keeps_setting s (unfinished_call j)).shape) ∙ device.room.blocks;
    };
  } where
    alive : is_live v j.draft ≡ true
    alive = (Valid-front v claims a j b (journaled (words_of d)) numbers s (device.world (words_of d) (IsImage-words_of d)).valid).out.0.alive

  -- IT IS GIVEN UP
  pub job_given_up : StandsFor v e claims (a ++ b) numbers s count
  job_given_up = record {
    stands = stands_before v j.draft loans d e out back v.geometry device.stands;
    headed = λ image is. device.headed image (image_before v j.draft loans d e out back image is);
    world = λ image is. given_up v claims a j b (journaled image) numbers s count (world image is);
    room = record { free = stays_free_given_up v claims a j b device.room.free; blocks = device.room.blocks };
  }

pub finishes_job : FinishesJob
finishes_job v d e claims a j b numbers s count slot loans words device out back size hold spell whole = job_finishes v d e claims a j b numbers s count loans device out back slot words size hold spell whole

pub lands_job : LandsJob
lands_job v d e claims a j b numbers s count slot loans words device out back size hold spell = job_lands v d e claims a j b numbers s count loans device out back slot words size hold spell

pub gives_up_job : GivesUpJob
gives_up_job v d e claims a j b numbers s count loans device out back = job_given_up v d e claims a j b numbers s count loans device out back
