-- All that was out is handed in and put back: the device keeps the promise.
use Rattle.std.proofs.Common.{◌≡◌, ◌≢◌, ◌⊎◌, ◌<◌, ◌+◌, ◌++◌, ◌*◌, ◌-◌, ◌/◌, ◌%◌, ◌∷◌, [], ◌==◌, ℕ, zero, suc, Bool, true, false, cond, List, length, Option, Some, None, refl, arith, ap, ◌∙◌, sym, subst, inl, inr}
use Rattle.std.specs.Prelude.{filter, if◌then◌else◌, map, slice_index}
use Rattle.std.proofs.lemmas.Bool.{both_ways, cases_eq, cases_lt, eq-eqb, ne_eqb}
use Rattle.std.proofs.lemmas.Option.{same_Some}
use Rattle.oplog_entry.specs.pm_model.declared.Cell.{Cell}
use Rattle.oplog_entry.specs.pm_model.Cells.{AllHome, cell, is_lent, IsCandidate, unmarked}
use Rattle.oplog_entry.specs.pm_model.Images.{IsImage}
use Rattle.oplog_entry.specs.pm_model.Parts.{Part, put_back}
use Rattle.oplog_entry.specs.pm_model.Words.{Words}
use Rattle.oplog_entry.specs.layout_model.declared.lines.Draft.{Draft}
use Rattle.oplog_entry.specs.layout_model.Journal.{journaled}
use Rattle.oplog_entry.specs.layout_model.PlaceLaws.{behind_log-not_journaled, behind_log-words}
use Rattle.oplog_entry.specs.layout_model.Places.{Geometry, log_line}
use Rattle.oplog_entry.specs.image_model.Honest.{IsHonest}
use Rattle.oplog_entry.specs.image_model.Volume.{Volume}
use Rattle.in_place.proofs.k_split_laws_proofs.k_split_proofs.LogLaws.{data_beside}
use Rattle.in_place.specs.k_split_laws.k_split.Laps.{IsLogWord}
use Rattle.in_place.specs.k_split_laws.list_laws.Members.{In}
use Rattle.in_place.specs.k_split_laws.posix_spec.Run.{Unfinished, run}
use Rattle.in_place.specs.k_split_laws.posix_spec.State.{State}
use Rattle.in_place.specs.k_split_laws.posix_types.declared.item.Item.{Item}
use Rattle.in_place.specs.k_split_laws.volume_laws.ImageLaws.{journaled-other}
use Rattle.in_place.specs.k_split_laws.volume_laws.LineWords.{data_word}
use Rattle.in_place.specs.live_model.write_jobs.world_image_laws.Images.{StandsFor}
use Rattle.in_place.specs.live_model.write_jobs.world_image_laws.Promised.{IsKept, KeepsPromise}
use Rattle.in_place.specs.live_model.write_jobs.world_image_laws.Back.{calls_in_log, IsPutBack}
use Rattle.in_place.specs.live_model.write_jobs.world_image_laws.InLog.{kept_of_all}
use Rattle.in_place.specs.live_model.write_jobs.world_image_laws.Running.{promise_now}
use Rattle.in_place.specs.write_plan.eof_laws.log_checkpoint.world_model.Lines.{AreJobLines, AreLinesOut, IsJobLine, IsTaken}
use Rattle.in_place.specs.write_plan.eof_laws.log_checkpoint.world_model.JobLaws.{HoldsWhole-found}
use Rattle.in_place.specs.write_plan.eof_laws.log_checkpoint.world_model.Jobs.{HoldsWhole, IsStagedIn, Job, live_claims, staged_block}
use Rattle.in_place.specs.write_plan.eof_laws.log_checkpoint.world_model.Shown.{AreFilled}
use Rattle.in_place.specs.live_model.Standing.{AreJobsOf, IsSpellable, Kept, JobOut}
use Rattle.write_end.proofs.LosingPending.{IsJobOf, loans_of_entry, places_of_entry}
use Rattle.write_end.specs.Ends.{begun_by, IsOut}
use Rattle.in_place.specs.live_model.write_jobs.Jobs.{FilledView, loan_at}
use Rattle.write_end.specs.Blocks.{AreBlocksOut, ComeHome}
use Rattle.write_end.specs.CrashesLaws.{AreHandedIn, KeepsCrashed, KeepsHome, LinesAreHome, MissesNone}
use Rattle.write_end.specs.Lines.{AreCrashLines}
use Rattle.write_end.specs.Lost.{HoldLost, IsLostJob, IsLostWith}
use Rattle.write_end.proofs.Acted.{HoldsOfSlots, kept_of_acted}
use Rattle.write_end.proofs.Ended.{holds_spelled, single_word, spells_job}
use Rattle.write_end.proofs.Going.{calls_are}
use Rattle.write_end.proofs.Jobs.{block_of, in_data_block, its_job, lent_any, no_slot, pending_of, same_job, sane, stood}
use Rattle.write_end.proofs.LogLines.{claimed_line, first_line, job_line, stand_again, StandAgain}

-- ---- lists

-- the slot of the first pair of this file
slot_by : List (ℕ × Draft) → ℕ → Option ℕ
slot_by [] ino = None
slot_by (c ∷ taken) ino = if c.1.ino == ino then Some c.0 else slot_by taken ino

-- it is one of them
slot_by-In : (taken : List (ℕ × Draft)) (ino slot : ℕ) → slot_by taken ino ≡ Some slot → (d : Draft) × In (slot, d) taken × (d.ino ≡ ino)
unfolding slot_by
slot_by-In [] ino slot at = cc
slot_by-In (c ∷ taken) ino slot at = elim (cases_eq c.1.ino ino) [
  | inl same ↦
      let here : c.0 ≡ slot = same_Some c.0 slot (sym (ap (λ (b : Bool). if b then Some c.0 else slot_by taken ino) (eq-eqb c.1.ino ino same)) ∙ at) in
      (c.1, inl (λ i. (here i, c.1)), same)
  | inr other ↦
      let its = slot_by-In taken ino slot (sym (ap (λ (b : Bool). if b then Some c.0 else slot_by taken ino) (ne_eqb c.1.ino ino other)) ∙ at) in
      (its.0, inr its.1, its.2)
]

-- a file that has a pair has a slot
slot_by-some : (taken : List (ℕ × Draft)) (n : ℕ) (d : Draft) → In (n, d) taken → (slot : ℕ) × (slot_by taken d.ino ≡ Some slot)
unfolding slot_by
slot_by-some [] n d at = absurd at
slot_by-some (c ∷ taken) n d at = elim (cases_eq c.1.ino d.ino) [
  | inl same ↦ (c.0, ap (λ (b : Bool). if b then Some c.0 else slot_by taken d.ino) (eq-eqb c.1.ino d.ino same))
  | inr other ↦ elim at [
    | inl here ↦ absurd (other (ap (λ (y : ℕ × Draft). y.1.ino) here))
    | inr behind ↦
        let its = slot_by-some taken n d behind in
        (its.0, ap (λ (b : Bool). if b then Some c.0 else slot_by taken d.ino) (ne_eqb c.1.ino d.ino other) ∙ its.1)
  ]
]

-- the first of two
first_some : Option ℕ → Option ℕ → Option ℕ
first_some (Some a) b = Some a
first_some None b = b

-- a block is the place of a loan, or it is none
place_or_not : (loans : List Part) (b : ℕ) → ((loan : Part) × In loan loans × (loan.place ≡ b)) ⊎ ((loan : Part) → In loan loans → loan.place ≢ b)
place_or_not [] b = inr (λ loan at. absurd at)
place_or_not (x ∷ loans) b = elim (cases_eq x.place b) [
  | inl same ↦ inl (x, inl refl, same)
  | inr other ↦ elim (place_or_not loans b) [
    | inl its ↦ inl (its.0, inr its.1, its.2)
    | inr none ↦ inr (λ loan at. elim at [
      | inl here ↦ subst (λ (y : Part). y.place ≢ b) here other
      | inr behind ↦ none loan behind
    ])
  ]
]

loan_in : (loans : List Part) (n : ℕ) → n < length loans → In (loan_at loans n) loans
loan_in [] n below = absurd (omega (arith, below))
loan_in (x ∷ loans) zero below = inl refl
loan_in (x ∷ loans) (suc n) below = inr (loan_in loans n (omega (arith, below)))

word_again : (b w : ℕ) → w / 512 ≡ b → 512 * b + w % 512 ≡ w
word_again b w at = omega (arith, at)

-- a word is one of the log, or it is not
log_or_not : (v : Volume) (i : ℕ) → IsLogWord v i ⊎ (¬ IsLogWord v i)
log_or_not v i = elim (cases_lt (i / 8) (log_line v.geometry 0)) [
  | inl low ↦ inr (λ at. omega (arith, low, at.from))
  | inr from ↦
      elim (cases_lt (i / 8) (log_line v.geometry 0 + v.geometry.log)) [
        | inl below ↦ inl (record { from = from; below = below })
        | inr past ↦ inr (λ at. omega (arith, past, at.below))
      ]
]

-- where none is out there is no job
no_jobs : (pending : List JobOut) (jobs : List Job) → AreJobsOf pending jobs → pending ≡ [] → jobs ≡ []
no_jobs [] [] are none = refl
no_jobs [] (j ∷ jobs) are none = absurd are
no_jobs (p ∷ pending) jobs are none = cc

-- ---- the crash

module _ (v : Volume) (d middle e : List Cell) (kept : Kept) (start : State) (history : List Item) (last : List Unfinished) (loans : List Part) (filled : List FilledView) (taken : List (ℕ × Draft)) (lines : List Part)
    (lost : IsLostWith v d kept start history last) (handed : AreHandedIn d kept (run start history) loans filled) (crash : AreCrashLines v.geometry v.base kept.first kept.claims filled taken lines) (comes : ComeHome loans d middle)
    (lines_home : LinesAreHome v lines middle e) where
  -- ---- words

  -- a word that is none of the log stays as the lines come home
  behind_lines : (i : ℕ) → ¬ IsLogWord v i → cell e i ≡ cell middle i
  behind_lines i not = lines_home.back.others i (λ at. not (record { from = at.from; below = omega (arith, at.below, crash.are.count) }))

  -- a word that is not lent stays
  still : (i : ℕ) → is_lent (cell d i) ≡ false → cell e i ≡ cell d i
  still i home = behind_lines i not_log ∙ comes.beside i (λ loan at word. both_ways (is_lent (cell d i)) home (handed.lent loan i at (sym word))) where
    not_log : ¬ IsLogWord v i
    not_log at =
        let slot : ℕ = i / 8 - log_line v.geometry 0 in
        let place : 8 * log_line v.geometry slot + i % 8 ≡ i = omega (arith, at.from) in
        both_ways (is_lent (cell d i)) home (subst (λ (x : ℕ). is_lent (cell d x) ≡ true) place (lost.lines.lent slot (i % 8) (omega (arith, at.from, at.below)) (omega arith)))

  -- a word of a block that was lent is the loan's
  loan_home : (loan : Part) (i : ℕ) → In loan loans → i / 512 ≡ loan.place → is_lent (cell e i) ≡ false
  loan_home loan i at word = elim (log_or_not v i) [
    | inl log ↦ lines_home.home i log
    | inr not ↦ ap is_lent (behind_lines i not) ∙ comes.home loan i at word
  ]

  pub all_home : AllHome e
  all_home i = by (is_lent (cell d i)) refl where
    staged : (j : Job) → In j lost.jobs → IsStagedIn v j.draft (i / 512) → is_lent (cell d i) ≡ true → is_lent (cell e i) ≡ false
    staged j at is lent =
        let p = pending_of kept.pending lost.jobs j lost.jobs_are at in
        let block = block_of v p.0 (i / 512) (lost.blocks p.0 p.1) (subst (λ (x : Draft). IsStagedIn v x (i / 512)) p.2 is) in
        elim (handed.all p.0 p.1) [
          | inl home ↦ absurd (both_ways (is_lent (cell d i)) (home i block) lent)
          | inr out ↦ let its = out (i / 512) block in loan_home its.0 i its.1 (sym its.2)
        ]

    by : (c : Bool) → is_lent (cell d i) ≡ c → is_lent (cell e i) ≡ false
    by false home = ap is_lent (still i home) ∙ home
    by true lent = elim (lost.home i lent) [
      | inl log ↦ lines_home.home i (record { from = omega (arith, log.2); below = omega (arith, log.1, log.2) })
      | inr block ↦ staged block.0 block.1 block.2 lent
    ]

  -- ---- with each word that is lent taken from it

  is_back : put_back d (cell e) ≡ cell e
  is_back = λ step i. by i (is_lent (cell d i)) refl step where
    by : (i : ℕ) (c : Bool) → is_lent (cell d i) ≡ c → put_back d (cell e) i ≡ cell e i
    by i true lent = ap (λ b. cond b (cell e i) (cell d i)) lent
    by i false home = ap (λ b. cond b (cell e i) (cell d i)) home ∙ sym (still i home)

  -- an image of the device at the end is one of that before
  image_before : (image : Words) → IsImage e image → IsImage d image
  image_before image at i = by (is_lent (cell d i)) refl where
    by : (c : Bool) → is_lent (cell d i) ≡ c → IsCandidate (cell d i) (image i)
    by true lent = lent_any (cell d i) (image i) lent
    by false home = subst (λ c. IsCandidate c (image i)) (still i home) (at i)

  -- ---- which slot each job claimed

  slot_of : Job → Option ℕ
  slot_of j = first_some (lost.slot_of j.draft.ino) (slot_by taken j.draft.ino)

  -- the job is that of a filled one
  abbrev IsFilledJob : Job → Type 0
  IsFilledJob j = (job : FilledView) × In job filled × ((p : JobOut) × IsOut kept (run start history) p job × ((its : IsJobOf p lost.jobs) × (its.job ≡ j)))

  blocks_lent : (job : FilledView) (p : JobOut) → In job filled → IsOut kept (run start history) p job → AreBlocksOut p.blocks d
  blocks_lent job p at out i block = let its = of_block job.loans (i / 512) (subst (In (i / 512)) (sym out.blocks) block) in handed.lent its.0 i (handed.there job its.0 at its.1) its.2 where
    of_block : (xs : List Part) (b : ℕ) → In b (map (λ (loan : Part). loan.place) xs) → (loan : Part) × In loan xs × (loan.place ≡ b)
    of_block [] b is = absurd is
    of_block (x ∷ xs) b (inl same) = (x, inl refl, same)
    of_block (x ∷ xs) b (inr rest) = let its = of_block xs b rest in (its.0, inr its.1, its.2)

  -- whose entry a filled job claimed a slot with
  taken_job : (n : ℕ) (draft : Draft) → In (n, draft) taken → (j : Job) × In j lost.jobs × (j.draft ≡ draft) × IsFilledJob j
  taken_job n draft at =
      let of_it = crash.of_jobs n draft at in
      let world = handed.of_world of_it.0 of_it.1 in
      let its = its_job v d kept start history last lost world.0 world.1.there in
      (its.job, its.there, its.draft ∙ sym world.1.draft ∙ of_it.2, (of_it.0, of_it.1, (world.0, world.1, (its, refl))))

  -- it claimed none before
  none_before : (j : Job) → In j lost.jobs → IsFilledJob j → lost.slot_of j.draft.ino ≡ None
  none_before j at (job, there, (p, out, (its, same))) = no_slot v d kept start history last lost p j out.there at (ap (λ (y : Job). y.draft) (sym same) ∙ its.draft) (blocks_lent job p there out)

  -- a job that has a slot claimed it in a finish, or is filled
  abbrev Claims : Job → ℕ → Type 0
  Claims j slot = (lost.slot_of j.draft.ino ≡ Some slot) ⊎ (In (slot, j.draft) taken × IsFilledJob j)

  claims_of : (j : Job) (slot : ℕ) → In j lost.jobs → slot_of j ≡ Some slot → Claims j slot
  unfolding slot_of first_some
  claims_of j slot at is = by (lost.slot_of j.draft.ino) refl is where
    by : (o : Option ℕ) → lost.slot_of j.draft.ino ≡ o → first_some o (slot_by taken j.draft.ino) ≡ Some slot → Claims j slot
    by (Some n) had same = inl (had ∙ same)
    by None none same =
        let its = slot_by-In taken j.draft.ino slot same in
        let owner = taken_job slot its.0 its.1 in
        let one : owner.0 ≡ j = same_job v d kept start history last lost owner.0 j owner.1 at (ap (λ (y : Draft). y.ino) owner.2 ∙ its.2) in
        inr (subst (λ (y : Draft). In (slot, y) taken) (sym owner.2 ∙ ap (λ (y : Job). y.draft) one) its.1, subst IsFilledJob one owner.3)

  spelled_job : (j : Job) → In j lost.jobs → IsSpellable j.draft
  spelled_job j at = let is = stood v d kept start history last lost j at in record { fields = is.draft; fits = is.fields }

  -- ---- the lines

  again : StandAgain v lines (cell e)
  again = stand_again v lines middle e crash.are lines_home

  in_log : (n : ℕ) → n < length lines → n < v.geometry.log
  in_log n below = omega (arith, below, crash.are.count)

  own_line : (j : Job) (slot : ℕ) → In j lost.jobs → Claims j slot → IsJobLine v (cell e) kept.first slot j.draft
  own_line j slot at (inl had) =
      let held = crash.claimed slot j.draft (lost.slots_in j slot at had) in
      job_line v kept.first lines (cell e) again slot j.draft (in_log slot held.0) (spelled_job j at) (inl held.1)
  own_line j slot at (inr is) =
      let entry = crash.entries slot j.draft is.0 in
      job_line v kept.first lines (cell e) again slot j.draft (in_log slot entry.0) (spelled_job j at) entry.1

  job_lines : (jobs : List Job) → ((j : Job) → In j jobs → In j lost.jobs) → AreJobLines v (cell e) kept.first jobs (map slot_of jobs)
  job_lines [] there = tt
  job_lines (j ∷ jobs) there = by (slot_of j) refl (job_lines jobs (λ x is. there x (inr is))) where
    by : (o : Option ℕ) → slot_of j ≡ o → AreJobLines v (cell e) kept.first jobs (map slot_of jobs) → AreJobLines v (cell e) kept.first (j ∷ jobs) (o ∷ map slot_of jobs)
    by None at rest = rest
    by (Some slot) at rest = (own_line j slot (there j (inl refl)) (claims_of j slot (there j (inl refl)) at), rest)

  taken_slot : (jobs : List Job) (j : Job) (slot : ℕ) → In j jobs → slot_of j ≡ Some slot → IsTaken jobs (map slot_of jobs) slot
  taken_slot [] j slot is at = absurd is
  taken_slot (x ∷ jobs) j slot (inl same) at = by (slot_of x) refl where
    by : (o : Option ℕ) → slot_of x ≡ o → IsTaken (x ∷ jobs) (o ∷ map slot_of jobs) slot
    by None none = (let never : None ≡ Some slot = sym none ∙ ap slot_of same ∙ at in cc)
    by (Some n) had = inl (same_Some n slot (sym had ∙ ap slot_of same ∙ at))
  taken_slot (x ∷ jobs) j slot (inr rest) at = by (slot_of x) (taken_slot jobs j slot rest at) where
    by : (o : Option ℕ) → IsTaken jobs (map slot_of jobs) slot → IsTaken (x ∷ jobs) (o ∷ map slot_of jobs) slot
    by None is = is
    by (Some n) is = inr is

  first_slot : (j : Job) (slot : ℕ) → lost.slot_of j.draft.ino ≡ Some slot → slot_of j ≡ Some slot
  unfolding slot_of first_some
  first_slot j slot had = ap (λ o. first_some o (slot_by taken j.draft.ino)) had

  second_slot : (j : Job) (slot : ℕ) → lost.slot_of j.draft.ino ≡ None → slot_by taken j.draft.ino ≡ Some slot → slot_of j ≡ Some slot
  unfolding slot_of first_some
  second_slot j slot none had = ap (λ o. first_some o (slot_by taken j.draft.ino)) none ∙ had

  -- the slot of a filled job's pair is the job's
  pair_slot : (slot : ℕ) (draft : Draft) → In (slot, draft) taken → (j : Job) × In j lost.jobs × (slot_of j ≡ Some slot)
  pair_slot slot draft is =
      let owner = taken_job slot draft is in
      let some = slot_by-some taken slot draft is in
      let found = slot_by-In taken draft.ino some.0 some.1 in
      let other = taken_job some.0 found.0 found.1 in
      let one : other.0 ≡ owner.0 =
      same_job v d kept start history last lost other.0 owner.0 other.1 owner.1 (ap (λ (y : Draft). y.ino) other.2 ∙ found.2 ∙ sym (ap (λ (y : Draft). y.ino) owner.2))
      in
      let draft_is : found.0 ≡ draft = sym other.2 ∙ ap (λ (y : Job). y.draft) one ∙ owner.2 in
      let slot_is : some.0 ≡ slot = crash.one_each some.0 slot draft (subst (λ (y : Draft). In (some.0, y) taken) draft_is found.1) is in (
        owner.0,
        owner.1,
        second_slot owner.0 slot (none_before owner.0 owner.1 owner.3) (ap (slot_by taken) (ap (λ (y : Draft). y.ino) owner.2) ∙ some.1 ∙ ap (λ n. Some n) slot_is),
      )

  lines_out : AreLinesOut v (cell e) kept.first lost.done lost.jobs (map slot_of lost.jobs)
  lines_out = record {
    claimed = λ slot draft is.
        let held = crash.claimed slot draft (lost.done_in slot draft is) in
        claimed_line v kept.first lines (cell e) again slot draft (in_log slot held.0) (lost.spelled slot draft is) held.1;
    out = job_lines lost.jobs (λ j is. is);
    others = λ slot below free none.
        first_line v kept.first lines (cell e) again slot below (crash.others slot (omega (arith, below, crash.are.count))
        (λ draft is. elim (lost.each_claim slot draft is) [
          | inl done ↦ free draft done
          | inr (j, at, same, had) ↦ none (taken_slot lost.jobs j slot at (first_slot j slot (ap (λ (y : Draft). lost.slot_of y.ino) same ∙ had)))
        ])
        (λ draft is. let its = pair_slot slot draft is in none (taken_slot lost.jobs its.0 slot its.1 its.2)));
    old = lost.lines.old;
  }

  -- those whose finish lost the power have their slots, and their lines hold their entries
  hold_lost : (jobs : List Job) → ((j : Job) → In j jobs → In j lost.jobs) → HoldLost v (cell e) jobs (map slot_of jobs) lost.slot_of
  hold_lost [] there = tt
  hold_lost (j ∷ jobs) there = (
    λ slot had. (
      first_slot j slot had,
      let held = crash.claimed slot j.draft (lost.slots_in j slot (there j (inl refl)) had) in
          claimed_line v kept.first lines (cell e) again slot j.draft (in_log slot held.0) (spelled_job j (there j (inl refl))) held.1,
    ),
    hold_lost jobs (λ x is. there x (inr is)),
  )

  -- ---- the blocks of jobs that claimed a slot

  module _ (image : Words) (image_is : IsImage e image) where
    filled_holds : (j : Job) → In j lost.jobs → IsFilledJob j → HoldsWhole v (journaled image) j.draft j.found
    filled_holds j at (job, there, (p, out, (its, same))) =
        HoldsWhole-found v (live_claims v lost.done) lost.words (journaled image) lost.numbers lost.s j (stood v d kept start history last lost j at)
        (holds_spelled v image j.draft job.words j.whole has (spells_job (run start history) p j job kept out who call draft (lost.puts j at)))
      where
        draft : j.draft ≡ p.draft
        draft = ap (λ (y : Job). y.draft) (sym same) ∙ its.draft

        who : j.who ≡ p.who
        who = ap (λ (y : Job). y.who) (sym same) ∙ its.who

        call : j.call ≡ p.call
        call = ap (λ (y : Job). y.call) (sym same) ∙ its.call

        size : length job.loans ≡ j.draft.count
        size = loans_of_entry v p j job (lost.blocks p out.there) out.blocks draft

        has : (n b : ℕ) → n < j.draft.count → staged_block v j.draft n ≡ Some b → (w : ℕ) → w / 512 ≡ b → journaled image w ≡ slice_index job.words (512 * n + w % 512)
        has n b below is w word =
            let in_data = in_data_block v (sane v d kept start history last lost) j.draft n b (stood v d kept start history last lost j at).staging is in
            let behind = data_word v.geometry b (w % 512) in_data (omega arith) in
            let read : journaled image w ≡ image w =
            journaled-other v.geometry image w (lost.sound image (image_before image image_is)) (behind_log-words v.geometry w (omega (arith, word, behind))) (behind_log-not_journaled v.geometry (w / 8) (omega (arith, word, behind)))
            in
            let place : (loan_at job.loans n).place ≡ b = same_Some (loan_at job.loans n).place b (sym (places_of_entry v p j job (lost.blocks p out.there) out.blocks draft n below) ∙ is) in
            let within : n < length job.loans = omega (arith, below, size) in
            let not_log : ¬ IsLogWord v w = subst (λ (x : ℕ). ¬ IsLogWord v x) (word_again b w word) (data_beside v b (w % 512) in_data (omega arith)) in
            let put : cell e w ≡ unmarked (cell (loan_at job.loans n).cells (w % 512)) =
            behind_lines w not_log ∙ comes.words (loan_at job.loans n) w (handed.there job (loan_at job.loans n) there (loan_in job.loans n within)) (word ∙ sym place)
            in
            read
            ∙ single_word (cell (loan_at job.loans n).cells (w % 512)) (slice_index job.words (512 * n + w % 512)) (image w) (handed.holds job there n (w % 512) within (omega arith))
            (subst (λ c. IsCandidate c (image w)) put (image_is w))

    own_holds : (j : Job) (slot : ℕ) → In j lost.jobs → Claims j slot → HoldsWhole v (journaled image) j.draft j.found
    own_holds j slot at (inl had) = (subst (IsLostJob v d j) had (lost.each_job j at)).1 image (image_before image image_is)
    own_holds j slot at (inr is) = filled_holds j at is.1

    are_filled : (jobs : List Job) → ((j : Job) → In j jobs → In j lost.jobs) → AreFilled v (journaled image) jobs (map slot_of jobs)
    are_filled [] there = tt
    are_filled (j ∷ jobs) there = by (slot_of j) refl (are_filled jobs (λ x is. there x (inr is))) where
      by : (o : Option ℕ) → slot_of j ≡ o → AreFilled v (journaled image) jobs (map slot_of jobs) → AreFilled v (journaled image) (j ∷ jobs) (o ∷ map slot_of jobs)
      by None at rest = rest
      by (Some slot) at rest = (own_holds j slot (there j (inl refl)) (claims_of j slot (there j (inl refl)) at), rest)

    put_back_now : IsHonest v.geometry (cell e) image → IsPutBack v d (cell e) kept.first lost.done lost.jobs (map slot_of lost.jobs) image
    put_back_now honest = record {
      lines = subst (λ c. AreLinesOut v c kept.first lost.done lost.jobs (map slot_of lost.jobs)) (sym is_back) lines_out;
      image_is = subst (λ (c : ℕ → Cell). (i : ℕ) → IsCandidate (c i) (image i)) (sym is_back) image_is;
      honest = subst (λ c. IsHonest v.geometry c image) (sym is_back) honest;
      filled = are_filled lost.jobs (λ j is. is);
    }

    -- with the calls of the jobs that have a slot
    in_log_kept : IsHonest v.geometry (cell e) image → IsKept v.geometry start history (calls_in_log (map slot_of lost.jobs) lost.jobs ++ last) image
    in_log_kept honest =
        lost.promise (cell e) (map slot_of lost.jobs) image (put_back_now honest) (subst (λ c. HoldLost v c lost.jobs (map slot_of lost.jobs) lost.slot_of) (sym is_back) (hold_lost lost.jobs (λ j is. is)))

    pub keeps_image : IsHonest v.geometry (cell e) image → IsKept v.geometry start history (map begun_by kept.pending ++ last) image
    keeps_image honest =
        subst (λ (calls : List Unfinished). IsKept v.geometry start history (calls ++ last) image) (calls_are kept.pending lost.jobs lost.jobs_are)
        (kept_of_all v.geometry start history (map slot_of lost.jobs) lost.jobs last image (λ posix. no_jobs kept.pending lost.jobs lost.jobs_are (lost.jobless posix)) (in_log_kept honest))

    -- or with those of the jobs that a test tells, which misses none that may have acted
    module _ (acts : JobOut → Bool) (misses : MissesNone kept.pending d taken acts) where
      holds_of_slots : HoldsOfSlots acts slot_of kept.pending lost.jobs
      holds_of_slots p j slot at there same some = by (acts p) refl where
        fails : acts p ≡ false → lost.slot_of j.draft.ino ≡ Some slot → ⊥
        fails own had = (let none = no_slot v d kept start history last lost p j at there same (misses.lent p at own) in cc (none, had))

        by : (b : Bool) → acts p ≡ b → b ≡ true
        by true own = refl
        by false own = elim (claims_of j slot there some) [
          | inl had ↦ absurd (fails own had)
          | inr is ↦ absurd (misses.none p slot at own (subst (λ (x : Draft). In (slot, x) taken) same is.0))
        ]

      pub keeps_acted : IsHonest v.geometry (cell e) image → IsKept v.geometry start history (map begun_by (filter acts kept.pending) ++ last) image
      keeps_acted honest = kept_of_acted v.geometry start history acts slot_of kept.pending lost.jobs last image lost.jobless lost.jobs_are holds_of_slots (in_log_kept honest)

pub keeps_crashed : KeepsCrashed
keeps_crashed v d middle e kept start history last loans filled taken lines lost handed crash comes home = record {
  home = all_home v d middle e kept start history last loans filled taken lines lost handed crash comes home;
  promise = λ image is honest. keeps_image v d middle e kept start history last loans filled taken lines lost handed crash comes home image is honest;
  acted = λ acts misses image is honest. keeps_acted v d middle e kept start history last loans filled taken lines lost handed crash comes home image is acts misses honest;
}

-- ---- with the lines at home

pub keeps_home : KeepsHome
keeps_home g k t kept n start history unfinished stands =
    subst (λ (x : Geometry). KeepsPromise x k.cells start history unfinished) stands.geometry
    (promise_now k.volume k.cells kept.claims stands.numbers start history unfinished stands.count
    (record {
      device =
          subst (λ (jobs : List Job). StandsFor k.volume k.cells kept.claims jobs stands.numbers (run start history) stands.count) (no_jobs kept.pending stands.jobs stands.jobs_are stands.lines.0)
          stands.flying.device;
      log = stands.lines.1;
    }))
