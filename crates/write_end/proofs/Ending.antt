-- A job that ends: what is known of it, and of its loans.
use Rattle.std.proofs.Common.{◌≡◌, ◌<◌, ◌+◌, ◌/◌, ◌++◌, ◌∷◌, [], ℕ, zero, suc, true, List, length, Some, refl, arith, ap, ◌∙◌, sym, subst, inl, inr}
use Rattle.std.specs.Prelude.{slice_index}
use Rattle.std.proofs.lemmas.Bool.{cases_lt}
use Rattle.std.proofs.lemmas.List.{get_or_past, length-map}
use Rattle.std.proofs.lemmas.Option.{same_Some}
use Rattle.in_place.specs.write_plan.pm_model.declared.Cell.{Cell}
use Rattle.in_place.specs.write_plan.pm_model.Cells.{cell, is_lent}
use Rattle.in_place.specs.write_plan.pm_model.ImageLaws.{IsImage-words_of}
use Rattle.in_place.specs.write_plan.pm_model.Images.{words_of}
use Rattle.in_place.specs.write_plan.pm_model.Parts.{Part}
use Rattle.in_place.specs.write_plan.pm_model.Words.{Words}
use Rattle.in_place.specs.write_plan.layout_model.Journal.{journaled}
use Rattle.layout_model.specs.declared.lines.Draft.{Draft}
use Rattle.layout_model.specs.declared.lines.Kind.TheVariants.{File, Staging}
use Rattle.in_place.specs.live_model.write_jobs.world_image_laws.image_model.Volume.{free_inode, inode, Volume}
use Rattle.in_place.specs.live_model.write_jobs.world_image_laws.k_split_model.View.{View}
use Rattle.in_place.specs.write_plan.list_laws.Members.{In}
use Rattle.posix_types.specs.declared.call.Call.{Call}
use Rattle.posix_types.specs.declared.call.Who.{Who}
use Rattle.in_place.specs.write_plan.posix_laws.Puts.{PutsWhole}
use Rattle.in_place.specs.live_model.write_jobs.world_image_laws.volume_laws.OwnerLaws.{IsOnePlace, one_owner}
use Rattle.in_place.specs.live_model.write_jobs.world_write_laws.JobSteps.{Valid-front}
use Rattle.in_place.specs.live_model.write_jobs.world_image_laws.world_model.JobLaws.{live_file, live_used}
use Rattle.in_place.specs.live_model.write_jobs.world_image_laws.world_model.Lent.{once_named}
use Rattle.in_place.specs.live_model.write_jobs.world_image_laws.world_model.TreeRules.{used_below}
use Rattle.in_place.specs.live_model.write_jobs.world_image_laws.world_model.Jobs.{Job, JobStands, live_claims, staged_block, Valid}
use Rattle.in_place.specs.live_model.write_jobs.world_image_laws.world_model.Stands.{IsSane, number}
use Rattle.in_place.specs.live_model.write_jobs.world_image_laws.world_step_laws.Worlds.{IsWorld}
use Rattle.in_place.specs.live_model.write_jobs.Jobs.{blocks_of, FilledView, loan_at}
use Rattle.in_place.specs.live_model.write_jobs.Loans.{AreApart, ComeBack}
use Rattle.in_place.proofs.live_model_proofs.write_jobs_proofs.SettleLaws.{puts_back}
use Rattle.in_place.specs.live_model.Flying.{IsFlying}
use Rattle.in_place.specs.live_model.write_jobs.Blocks.{AreOut, ArePutBack, SpellWhole}
use Rattle.in_place.specs.live_model.Standing.{file_state, HasItsBlocks, JobOut}
use Rattle.write_end.specs.Ends.{HasJob}
use Rattle.write_end.proofs.EndsPending.{IsSplit, split_of}

-- ---- loans and blocks

place_of : (loans : List Part) (n : ℕ) → slice_index (blocks_of loans) n ≡ (loan_at loans n).place
place_of [] n = refl
place_of (x ∷ loans) zero = refl
place_of (x ∷ loans) (suc n) = place_of loans n

pub staging_below : (v : Volume) (x : ℕ) → (inode v x).kind ≡ Staging → x < length v.inodes
staging_below v x staging = elim (cases_lt x (length v.inodes)) [
  | inl below ↦ below
  | inr past ↦ let never : Staging ≡ free_inode.kind = sym staging ∙ ap (λ y. y.kind) (get_or_past v.inodes x free_inode past) in cc
]

module _ (v : Volume) (draft : Draft) (sane : IsSane v) (staging : (inode v draft.staging).kind ≡ Staging) where
  -- no two places of an entry have one block
  pub once : (m n b : ℕ) → staged_block v draft m ≡ Some b → staged_block v draft n ≡ Some b → m ≡ n
  once m n b first second =
      let below = staging_below v draft.staging staging in
      let one : IsOnePlace draft.staging draft.staging (draft.staging_block + m) (draft.staging_block + n) =
      one_owner v b draft.staging draft.staging (draft.staging_block + m) (draft.staging_block + n) (once_named v sane draft.staging (draft.staging_block + m) b below first) below below first second
      in
      omega (arith, one.place)

-- the loans of a job are of the blocks of its entry
module _ (v : Volume) (p : JobOut) (j : Job) (job : FilledView) (its : HasItsBlocks v p) (blocks : blocks_of job.loans ≡ p.blocks) (draft : j.draft ≡ p.draft) where
  pub loans_of_entry : length job.loans ≡ j.draft.count
  loans_of_entry = sym (length-map job.loans (λ (x : Part). x.place)) ∙ ap length blocks ∙ its.count ∙ ap (λ (d : Draft). d.count) (sym draft)

  pub places_of_entry : (n : ℕ) → n < j.draft.count → staged_block v j.draft n ≡ Some (loan_at job.loans n).place
  places_of_entry n within =
      ap (λ (d : Draft). staged_block v d n) draft
      ∙ its.each n (subst (λ (d : Draft). n < d.count) draft within)
      ∙ ap (λ b. Some b) (ap (λ xs. slice_index xs n) (sym blocks) ∙ place_of job.loans n)

-- ---- the job

module _ (k : View) (job : FilledView) (has : HasJob k job) where
  abbrev pub v : Volume
  v = k.volume

  abbrev pub claims : List (ℕ × Draft)
  claims = has.kept.claims

  abbrev pub numbers : List ℕ
  numbers = has.stands.numbers

  abbrev pub words : Words
  words = journaled (words_of k.cells)

  pub split : IsSplit has.kept.pending has.stands.jobs has.p
  split = split_of has.kept.pending has.stands.jobs has.p has.stands.jobs_are has.out.there has.stands.callers

  abbrev pub j : Job
  j = split.j

  abbrev pub others : List Job
  others = split.a ++ split.b

  pub flying : IsFlying v k.cells claims (split.a ++ j ∷ split.b) (file_state has.kept.files) numbers has.s has.stands.count
  flying = subst (λ (jobs : List Job). IsFlying v k.cells claims jobs (file_state has.kept.files) numbers has.s has.stands.count) split.jobs_are has.stands.flying

  pub world : IsWorld v claims (split.a ++ j ∷ split.b) words numbers has.s has.stands.count
  world = flying.device.world (words_of k.cells) (IsImage-words_of k.cells)

  pub valid : Valid v claims (j ∷ others) words numbers has.s
  valid = Valid-front v claims split.a j split.b words numbers has.s world.valid

  pub stood : JobStands v (live_claims v claims) words numbers has.s j
  stood = valid.out.0

  pub draft_is : j.draft ≡ job.draft
  draft_is = split.draft ∙ sym has.out.draft

  pub is_file : (inode v j.draft.ino).kind ≡ File
  is_file = live_file v j.draft stood.alive

  pub below : j.draft.ino < length v.inodes
  below = used_below v j.draft.ino (live_used v j.draft stood.alive)

  -- its blocks
  pub blocks_of_job : HasItsBlocks v has.p
  blocks_of_job = has.stands.blocks has.p has.out.there

  pub loans_count : length job.loans ≡ j.draft.count
  loans_count = loans_of_entry v has.p j job blocks_of_job has.out.blocks split.draft

  pub places : (n : ℕ) → n < j.draft.count → staged_block v j.draft n ≡ Some (loan_at job.loans n).place
  places = places_of_entry v has.p j job blocks_of_job has.out.blocks split.draft

  pub place_is : (n b : ℕ) → n < j.draft.count → staged_block v j.draft n ≡ Some b → b ≡ (loan_at job.loans n).place
  place_is n b within at = same_Some b (loan_at job.loans n).place (sym at ∙ places n within)

  pub out : AreOut v j.draft k.cells
  out = flying.out j (own split.a) where
    own : (a : List Job) → In j (a ++ j ∷ split.b)
    own [] = inl refl
    own (x ∷ a) = inr (own a)

  -- what settling asks for
  pub loans_out : (n i : ℕ) → n < length job.loans → i / 512 ≡ (loan_at job.loans n).place → is_lent (cell k.cells i) ≡ true
  loans_out n i within at = let short : n < j.draft.count = omega (arith, within, loans_count) in out n (loan_at job.loans n).place i short (places n short) at

  pub loans_apart : AreApart job.loans
  loans_apart m n first second same =
      once v j.draft valid.stands.sane stood.staging m n (loan_at job.loans n).place
      (places m (omega (arith, first, loans_count)) ∙ ap (λ b. Some b) same) (places n (omega (arith, second, loans_count)))

  pub put_back : (e : List Cell) → ComeBack job.loans k.cells e → ArePutBack v j.draft job.loans k.cells e
  put_back e back = puts_back v j.draft job.loans k.cells e loans_count places back

  -- its words are those of the file
  pub spelled : SpellWhole j.draft job.words j.whole
  spelled = subst (λ (d : Draft). SpellWhole d job.words j.whole) (sym split.draft)
      (has.out.words (number_of) j.whole (subst (λ (c : Call). PutsWhole has.s has.p.who c number_of j.whole) split.call (subst (λ (w : Who). PutsWhole has.s w j.call number_of j.whole) split.who stood.puts))) where
        number_of : ℕ
        number_of = number numbers j.draft.ino
