-- A job ends after the power went: its blocks come home.
use Rattle.std.proofs.Common.{◌≡◌, ◌≢◌, ◌⊎◌, ◌<◌, ◌+◌, ◌*◌, ◌/◌, ◌%◌, ◌^◌, ◌++◌, ◌∷◌, [], ◌==◌, ℕ, Bool, true, false, cond, List, length, Option, Some, None, refl, arith, ap, ◌∙◌, sym, subst, inl, inr}
use Rattle.std.specs.Prelude.{if◌then◌else◌, not, slice_index}
use Rattle.std.proofs.lemmas.Bool.{both_ways, cases_eq, eq-eqb, ne_eqb}
use Rattle.std.proofs.lemmas.List.Kept.{AllPairs-filter}
use Rattle.std.proofs.lemmas.Option.{same_Some}
use Rattle.oplog_entry.specs.pm_model.declared.Cell.{Cell}
use Rattle.oplog_entry.specs.pm_model.declared.Cell.TheVariants.{Single}
use Rattle.oplog_entry.specs.pm_model.Cells.{cell, is_lent, IsCandidate, unmarked}
use Rattle.oplog_entry.specs.pm_model.Images.{IsImage}
use Rattle.oplog_entry.specs.pm_model.Parts.{put_back}
use Rattle.oplog_entry.specs.pm_model.Words.{Words}
use Rattle.in_place.proofs.live_model_proofs.write_jobs_proofs.SettleLaws.{puts_back}
use Rattle.oplog_entry.specs.layout_model.declared.lines.Draft.{Draft}
use Rattle.oplog_entry.specs.layout_model.Journal.{journaled}
use Rattle.oplog_entry.specs.layout_model.PlaceLaws.{behind_log-not_journaled, behind_log-words}
use Rattle.oplog_entry.specs.layout_model.Places.{log_line}
use Rattle.oplog_entry.specs.image_model.Honest.{IsHonest}
use Rattle.oplog_entry.specs.image_model.Volume.{Volume}
use Rattle.in_place.specs.live_model.Flying.{IsOut as IsOutWord}
use Rattle.in_place.specs.live_model.write_jobs.Blocks.{ArePutBack, SpellWhole}
use Rattle.in_place.specs.k_split_laws.list_laws.Members.{In, pushed-In}
use Rattle.in_place.specs.write_plan.eof_laws.log_checkpoint.posix_laws.Puts.{PutsWhole}
use Rattle.in_place.specs.k_split_laws.posix_spec.Run.{Unfinished, run}
use Rattle.in_place.specs.k_split_laws.posix_types.declared.call.Call.{Call}
use Rattle.in_place.specs.k_split_laws.posix_types.declared.call.Mode.{Mode}
use Rattle.in_place.specs.k_split_laws.posix_types.declared.call.Who.{Who}
use Rattle.in_place.specs.k_split_laws.posix_types.declared.item.Item.{Item}
use Rattle.in_place.specs.write_plan.posix_tables.Open.{same_who}
use Rattle.in_place.specs.k_split_laws.posix_spec.State.{State}
use Rattle.in_place.specs.k_split_laws.volume_laws.ImageLaws.{journaled-other}
use Rattle.in_place.specs.k_split_laws.volume_laws.LineWords.{data_word}
use Rattle.in_place.proofs.k_split_laws_proofs.k_split_proofs.LogLaws.{data_beside}
use Rattle.in_place.specs.k_split_laws.k_split.Laps.{IsLogWord}
use Rattle.in_place.specs.write_plan.eof_laws.log_checkpoint.world_write_laws.JobSteps.{Valid-front}
use Rattle.in_place.specs.write_plan.eof_laws.log_checkpoint.world_model.Lines.{AreLinesOut}
use Rattle.in_place.specs.write_plan.eof_laws.log_checkpoint.world_model.JobLaws.{HoldsWhole-found, Valid-dropped}
use Rattle.in_place.specs.write_plan.eof_laws.log_checkpoint.world_model.Jobs.{AreApartJobs, HoldsWhole, IsStagedIn, Job, JobStands, live_claims, staged_block, Valid}
use Rattle.in_place.specs.write_plan.eof_laws.log_checkpoint.world_model.Promised.{AreWhole}
use Rattle.in_place.specs.live_model.Standing.{AreLinesLent, AreOfTwoThreads, Kept, JobOut}
use Rattle.in_place.specs.write_plan.eof_laws.log_checkpoint.world_step_laws.Worlds.{IsWorld}
use Rattle.write_end.proofs.LosingPending.{IsSplit, apart_of, left_there, loans_of_entry, places_of_entry, split_in, split_of}
use Rattle.write_end.specs.Ends.{IsOut}
use Rattle.in_place.specs.live_model.write_jobs.Jobs.{FilledView, loan_at}
use Rattle.write_end.specs.Blocks.{AreBlocksHome, AreHome}
use Rattle.write_end.specs.LosingLaws.{claimed_by, ComesHome, ComesHomeAlone, FinishesLost, GivesUpLost, without_job}
use Rattle.write_end.specs.Lost.{HoldLost, IsKeptLost, IsLostJob, IsLostWith}
use Rattle.write_end.proofs.Dropped.{held_by_fewer, kept_without, left_in}
use Rattle.write_end.proofs.GivesUp.{whole_rest}
use Rattle.write_end.proofs.Jobs.{block_of, blocks_home, in_data_block, its_job, lent_any, no_slot, none_common, same_job, sane, staged_of, stood}

pub single_word : (c : Cell) (w x : ℕ) → c ≡ Single w → IsCandidate (unmarked c) x → x ≡ w
single_word c w x is candidate = subst (λ y. IsCandidate (unmarked y) x) is candidate

pub single_home : (c : Cell) (w : ℕ) → c ≡ Single w → is_lent (unmarked c) ≡ false
single_home c w is = ap (λ y. is_lent (unmarked y)) is

pub in_front : (xs : List (ℕ × Draft)) (y x : ℕ × Draft) → In x xs → In x (xs ++ y ∷ [])
in_front [] y x is = absurd is
in_front (z ∷ xs) y x (inl same) = inl same
in_front (z ∷ xs) y x (inr rest) = inr (in_front xs y x rest)

pub in_last : (xs : List (ℕ × Draft)) (y : ℕ × Draft) → In y (xs ++ y ∷ [])
in_last [] y = inl refl
in_last (z ∷ xs) y = inr (in_last xs y)

pub own_job : (a : List Job) (j : Job) (b : List Job) → In j (a ++ j ∷ b)
own_job [] j b = inl refl
own_job (x ∷ a) j b = inr (own_job a j b)

-- ---- words of a job in its blocks

-- The words that a job is to hold spell its whole bytes.
pub spells_job : (s : State) (p : JobOut) (j : Job) (job : FilledView) (kept : Kept) → IsOut kept s p job → j.who ≡ p.who → j.call ≡ p.call → j.draft ≡ p.draft → (node : ℕ) × PutsWhole s j.who j.call node j.whole → SpellWhole j.draft job.words j.whole
spells_job s p j job kept out who call draft puts =
    let of_p =
    subst (λ (c : Call). PutsWhole s p.who c puts.0 j.whole) call
    (subst (λ (w : Who). PutsWhole s w j.call puts.0 j.whole) who puts.1)
    in
    subst (λ (d : Draft). SpellWhole d job.words j.whole) (sym draft) (out.words puts.0 j.whole of_p)

-- Where an image has these words at the blocks of an entry, which are data blocks, the blocks hold the bytes that they spell.
pub holds_spelled : (v : Volume) (image : Words) (draft : Draft) (words whole : List ℕ) → ((n b : ℕ) → n < draft.count → staged_block v draft n ≡ Some b → (w : ℕ) → w / 512 ≡ b → journaled image w ≡ slice_index words (512 * n + w % 512))
    → SpellWhole draft words whole → HoldsWhole v (journaled image) draft whole
holds_spelled v image draft words whole has spelled n block i below at within =
    let w : ℕ = (4096 * block + i) / 8 in
    let of_block : w / 512 ≡ block = omega (arith, within) in
    let in_block : w % 512 ≡ i / 8 = omega (arith, within) in
    let byte : (4096 * block + i) % 8 ≡ i % 8 = omega arith in
    ap (λ x. x / 256 ^ ((4096 * block + i) % 8) % 256) (has n block below at w of_block ∙ ap (λ m. slice_index words (512 * n + m)) in_block)
    ∙ ap (λ m. slice_index words (512 * n + i / 8) / 256 ^ m % 256) byte ∙ spelled n i below within

-- ---- the job

module _ (v : Volume) (d e : List Cell) (kept : Kept) (start : State) (history : List Item) (last : List Unfinished) (p : JobOut) (job : FilledView) (lost : IsLostWith v d kept start history last)
    (is : ComesHome d e kept (run start history) p job) where
  split : IsSplit kept.pending lost.jobs p
  split = split_of kept.pending lost.jobs p lost.jobs_are is.out.there lost.callers

  abbrev j : Job
  j = split.j

  world : IsWorld v lost.done (split.a ++ j ∷ split.b) lost.words lost.numbers lost.s lost.count
  world = subst (λ (jobs : List Job). IsWorld v lost.done jobs lost.words lost.numbers lost.s lost.count) split.jobs_are lost.world

  valid : Valid v lost.done (j ∷ (split.a ++ split.b)) lost.words lost.numbers lost.s
  valid = Valid-front v lost.done split.a j split.b lost.words lost.numbers lost.s world.valid

  there : In j lost.jobs
  there = subst (In j) (sym split.jobs_are) (own_job split.a j split.b)

  abbrev stands_j : JobStands v (live_claims v lost.done) lost.words lost.numbers lost.s j
  stands_j = stood v d kept start history last lost j there

  size : length job.loans ≡ j.draft.count
  size = loans_of_entry v p j job (lost.blocks p is.out.there) is.out.blocks split.draft

  places : (n : ℕ) → n < j.draft.count → staged_block v j.draft n ≡ Some (loan_at job.loans n).place
  places = places_of_entry v p j job (lost.blocks p is.out.there) is.out.blocks split.draft

  -- its blocks are lent
  staged_lent : (i : ℕ) → IsStagedIn v j.draft (i / 512) → is_lent (cell d i) ≡ true
  staged_lent i staged = is.lent i (block_of v p (i / 512) (lost.blocks p is.out.there) (subst (λ (x : Draft). IsStagedIn v x (i / 512)) split.draft staged))

  no_slot_yet : lost.slot_of j.draft.ino ≡ None
  no_slot_yet = no_slot v d kept start history last lost p j is.out.there there split.draft is.lent

  back : ArePutBack v j.draft job.loans d e
  back = puts_back v j.draft job.loans d e size places is.back

  still : (i : ℕ) → is_lent (cell d i) ≡ false → cell e i ≡ cell d i
  still i home = is.back.beside i (λ n below at.
      let short : n < j.draft.count = omega (arith, below, size) in
      both_ways (is_lent (cell d i)) home (staged_lent i (n, short, places n short ∙ ap (λ b. Some b) (sym at))))

  -- an image of the device is one of that before
  image_before : (image : Words) → IsImage e image → IsImage d image
  image_before image at i = by (is_lent (cell d i)) refl where
    by : (c : Bool) → is_lent (cell d i) ≡ c → IsCandidate (cell d i) (image i)
    by true lent = lent_any (cell d i) (image i) lent
    by false home = subst (λ c. IsCandidate c (image i)) (still i home) (at i)

  own_home : AreHome v j.draft e
  own_home i staged =
      ap is_lent (back.words staged.0 (i / 512) i staged.1 staged.2 refl)
      ∙ single_home (cell (loan_at job.loans staged.0).cells (i % 512)) (slice_index job.words (512 * staged.0 + i % 512)) (is.holds staged.0 (i % 512) (omega (arith, staged.1, size)) (omega arith))

  each_job : (x : Job) → In x lost.jobs → (j ≡ x) ⊎ In x (split.a ++ split.b)
  each_job x at = split_in split.a j split.b x (subst (In x) split.jobs_are at)

  apart : (x : Job) → In x (split.a ++ split.b) → AreApartJobs j x
  apart x at = apart_of j (split.a ++ split.b) x valid.out.1 at

  -- the words of another job's blocks stay
  others_still : (x : Job) → In x lost.jobs → In x (split.a ++ split.b) → (i : ℕ) → IsStagedIn v x.draft (i / 512) → cell e i ≡ cell d i
  others_still x at other i staged =
      back.beside i (λ m c m_below m_at word.
      none_common v (sane v d kept start history last lost) j.draft x.draft c m staged.0 stands_j.staging (stood v d kept start history last lost x at).staging (apart x other).staging m_below staged.1 m_at (staged.2 ∙ ap (λ b. Some b) word))

  others_lost : (x : Job) → In x lost.jobs → In x (split.a ++ split.b) → (o : Option ℕ) → IsLostJob v d x o → IsLostJob v e x o
  others_lost x at other (Some slot) was = (
    λ i staged. ap is_lent (others_still x at other i staged) ∙ was.0 i staged,
    λ image image_is. was.1 image (image_before image image_is),
  )
  others_lost x at other None (inl home) = inl (λ i staged. ap is_lent (others_still x at other i staged) ∙ home i staged)
  others_lost x at other None (inr out) = inr (λ m b i below staged word.
      ap is_lent (others_still x at other i (m, below, staged ∙ ap (λ y. Some y) (sym word))) ∙ out m b i below staged word)

  -- a word of a log line stays lent
  line_word : (slot i : ℕ) → slot < v.geometry.log → i / 8 ≡ log_line v.geometry slot → IsLogWord v i
  line_word slot i below at = record { from = omega (arith, at); below = omega (arith, at, below) }

  lines_still : (i : ℕ) → IsLogWord v i → cell e i ≡ cell d i
  lines_still i log = is.back.beside i (λ n below at.
      let short : n < j.draft.count = omega (arith, below, size) in
      let in_data = in_data_block v (sane v d kept start history last lost) j.draft n (loan_at job.loans n).place stands_j.staging (places n short) in
      let block : ℕ = (loan_at job.loans n).place in
      let word : 512 * block + i % 512 ≡ i = omega (arith, at) in
      data_beside v block (i % 512) in_data (omega arith) (subst (IsLogWord v) (sym word) log))

  still_lent : AreLinesLent v e kept.first
  still_lent = record {
    lent = λ slot k below k_below.
        let i : ℕ = 8 * log_line v.geometry slot + k in
        ap is_lent (lines_still i (line_word slot i below (omega (arith, k_below)))) ∙ lost.lines.lent slot k below k_below;
    old = lost.lines.old;
  }

  home : (i : ℕ) → is_lent (cell e i) ≡ true → IsOutWord v lost.jobs i
  home i lent = by (is_lent (cell d i)) refl where
    by : (c : Bool) → is_lent (cell d i) ≡ c → IsOutWord v lost.jobs i
    by true was = lost.home i was
    by false was = absurd (both_ways (is_lent (cell e i)) (ap is_lent (still i was) ∙ was) lent)

  -- its blocks hold its bytes
  spelled : SpellWhole j.draft job.words j.whole
  spelled = spells_job (run start history) p j job kept is.out split.who split.call split.draft (lost.puts j there)

  held : (image : Words) → IsImage e image → HoldsWhole v (journaled image) j.draft j.found
  held image image_is = HoldsWhole-found v (live_claims v lost.done) lost.words (journaled image) lost.numbers lost.s j stands_j (holds_spelled v image j.draft job.words j.whole has spelled) where
    has : (n b : ℕ) → n < j.draft.count → staged_block v j.draft n ≡ Some b → (w : ℕ) → w / 512 ≡ b → journaled image w ≡ slice_index job.words (512 * n + w % 512)
    has n b below at w word =
        let in_data = in_data_block v (sane v d kept start history last lost) j.draft n b stands_j.staging at in
        let behind = data_word v.geometry b (w % 512) in_data (omega arith) in
        let read : journaled image w ≡ image w =
        journaled-other v.geometry image w (lost.sound image (image_before image image_is)) (behind_log-words v.geometry w (omega (arith, word, behind))) (behind_log-not_journaled v.geometry (w / 8) (omega (arith, word, behind)))
        in
        read
        ∙ single_word (cell (loan_at job.loans n).cells (w % 512)) (slice_index job.words (512 * n + w % 512)) (image w) (is.holds n (w % 512) (omega (arith, below, size)) (omega arith))
        (subst (λ c. IsCandidate c (image w)) (back.words n b w below at word) (image_is w))

  -- ---- the promise

  same_cells : (cells : ℕ → Cell) → put_back d (put_back e cells) ≡ put_back e cells
  same_cells cells = λ step i. by i (is_lent (cell d i)) refl step where
    by : (i : ℕ) (c : Bool) → is_lent (cell d i) ≡ c → put_back d (put_back e cells) i ≡ put_back e cells i
    by i true lent = ap (λ b. cond b (put_back e cells i) (cell d i)) lent
    by i false home_i =
        ap (λ b. cond b (put_back e cells i) (cell d i)) home_i
        ∙ (sym (still i home_i) ∙ sym (ap (λ b. cond b (cells i) (cell e i)) (ap is_lent (still i home_i) ∙ home_i)))

  promise : (slots_of : ℕ → Option ℕ) → ((ino slot : ℕ) → lost.slot_of ino ≡ Some slot → slots_of ino ≡ Some slot) → IsKeptLost v e kept.first lost.done lost.jobs slots_of start history last
  promise slots_of more cells slots image put hold = lost.promise (put_back e cells) slots image (record {
    lines = subst (λ c. AreLinesOut v c kept.first lost.done lost.jobs slots) (sym (same_cells cells)) put.lines;
    image_is = subst (λ (c : ℕ → Cell). (i : ℕ) → IsCandidate (c i) (image i)) (sym (same_cells cells)) put.image_is;
    honest = subst (λ c. IsHonest v.geometry c image) (sym (same_cells cells)) put.honest;
    filled = put.filled;
  }) (subst (λ c. HoldLost v c lost.jobs slots lost.slot_of) (sym (same_cells cells)) (held_by_fewer v (put_back e cells) lost.slot_of slots_of more lost.jobs slots hold))

  -- ---- its blocks, and those of others

  pub home_then : AreBlocksHome p.blocks e
  home_then = blocks_home v p j.draft e (lost.blocks p is.out.there) split.draft own_home

  pub others_words : (q : JobOut) (i : ℕ) → In q kept.pending → q.who ≢ p.who → In (i / 512) q.blocks → cell e i ≡ cell d i
  others_words q i at other block =
      let its = its_job v d kept start history last lost q at in
      let staged = subst (λ (x : Draft). IsStagedIn v x (i / 512)) (sym its.draft) (staged_of v q (i / 512) (lost.blocks q at) block) in
      elim (each_job its.job its.there) [
        | inl own ↦ absurd (other (sym its.who ∙ ap (λ (y : Job). y.who) (sym own) ∙ split.who))
        | inr behind ↦ others_still its.job its.there behind i staged
      ]

  -- ---- it is given up

  left_job : (x : Job) → In x (split.a ++ split.b) → In x lost.jobs
  left_job x at = subst (In x) (sym split.jobs_are) (left_in split.a j split.b x at)

  home_left : (i : ℕ) → is_lent (cell e i) ≡ true → IsOutWord v (split.a ++ split.b) i
  home_left i lent = elim (home i lent) [
    | inl line ↦ inl line
    | inr (x, at, staged) ↦ elim (each_job x at) [
      | inl own ↦ absurd (both_ways (is_lent (cell e i)) (own_home i (subst (λ (y : Job). IsStagedIn v y.draft (i / 512)) (sym own) staged)) lent)
      | inr other ↦ inr (x, other, staged)
    ]
  ]

  -- a claim that is not finished is of another job
  claim_left : (slot : ℕ) (draft : Draft) → (x : Job) × In x lost.jobs × (x.draft ≡ draft) × (lost.slot_of draft.ino ≡ Some slot) → (x : Job) × In x (split.a ++ split.b) × (x.draft ≡ draft) × (lost.slot_of draft.ino ≡ Some slot)
  claim_left slot draft (x, at, same, had) = elim (each_job x at) [
    | inl own ↦ (let never : None ≡ Some slot = sym no_slot_yet ∙ (ap (λ (y : Job). lost.slot_of y.draft.ino) own ∙ (ap (λ (y : Draft). lost.slot_of y.ino) same ∙ had)) in cc)
    | inr other ↦ (x, other, same, had)
  ]

  -- a job is out, so the mode is not POSIX mode
  job_out : start.mode ≡ Mode.Posix → ⊥
  job_out posix = subst (In p) (lost.jobless posix) is.out.there

  pub given_up : IsLostWith v e (without_job kept p) start history last
  given_up = record {
    jobless = λ posix. absurd (job_out posix);
    jobs = split.a ++ split.b;
    jobs_are = split.rest;
    whole = λ strict. whole_rest split.a j split.b (subst AreWhole split.jobs_are (lost.whole strict));
    callers = AllPairs-filter AreOfTwoThreads (λ (q : JobOut). not (same_who q.who p.who)) kept.pending lost.callers;
    blocks = λ q at. lost.blocks q (left_there p.who kept.pending q at);
    puts = λ x at. lost.puts x (left_job x at);
    done = lost.done;
    slot_of = lost.slot_of;
    done_in = lost.done_in;
    slots_in = λ x slot at had. lost.slots_in x slot (left_job x at) had;
    each_claim = λ slot draft at. elim (lost.each_claim slot draft at) [ inl done ↦ inl done | inr of_job ↦ inr (claim_left slot draft of_job) ];
    spelled = lost.spelled;
    words = lost.words;
    numbers = lost.numbers;
    s = lost.s;
    count = lost.count;
    world = record {
      valid = Valid-dropped v lost.done j (split.a ++ split.b) lost.words lost.numbers lost.s valid;
      claims_stand = lost.world.claims_stand;
      aged = lost.world.aged;
      shape = lost.world.shape;
      geometry = lost.world.geometry;
    };
    lines = still_lent;
    sound = λ image at. lost.sound image (image_before image at);
    each_job = λ x at. others_lost x (left_job x at) at (lost.slot_of x.draft.ino) (lost.each_job x (left_job x at));
    home = home_left;
    promise =
        kept_without v e kept.first lost.done split.a j split.b lost.slot_of start history last no_slot_yet
        (subst (λ jobs. IsKeptLost v e kept.first lost.done jobs lost.slot_of start history last) split.jobs_are (promise lost.slot_of (λ ino n had. had)));
  }

  -- ---- it finishes

  module _ (slot : ℕ) where
    abbrev claim : ℕ × Draft
    claim = (slot, p.draft)

    slots : ℕ → Option ℕ
    slots ino = if ino == j.draft.ino then Some slot else lost.slot_of ino

    own_slot : (ino : ℕ) → ino ≡ j.draft.ino → slots ino ≡ Some slot
    unfolding slots
    own_slot ino same = ap (λ (b : Bool). if b then Some slot else lost.slot_of ino) (eq-eqb ino j.draft.ino same)

    other_slot : (ino : ℕ) → ino ≢ j.draft.ino → slots ino ≡ lost.slot_of ino
    unfolding slots
    other_slot ino other = ap (λ (b : Bool). if b then Some slot else lost.slot_of ino) (ne_eqb ino j.draft.ino other)

    -- a file with a slot before is another one
    had_slot : (ino n : ℕ) → lost.slot_of ino ≡ Some n → ino ≢ j.draft.ino
    had_slot ino n had same = let never : None ≡ Some n = sym no_slot_yet ∙ ap lost.slot_of (sym same) ∙ had in cc

    slots_in : (x : Job) (n : ℕ) → In x lost.jobs → slots x.draft.ino ≡ Some n → In (n, x.draft) (kept.claims ++ claim ∷ [])
    slots_in x n at had = elim (cases_eq x.draft.ino j.draft.ino) [
      | inl same ↦
          let own : x ≡ j = same_job v d kept start history last lost x j at there same in
          let slot_is : slot ≡ n = same_Some slot n (sym (own_slot x.draft.ino same) ∙ had) in
          subst (λ (y : ℕ × Draft). In y (kept.claims ++ claim ∷ [])) (λ i. (slot_is i, (sym split.draft ∙ sym (ap (λ (y : Job). y.draft) own)) i)) (in_last kept.claims claim)
      | inr other ↦ in_front kept.claims claim (n, x.draft) (lost.slots_in x n at (sym (other_slot x.draft.ino other) ∙ had))
    ]

    each_claim : (n : ℕ) (draft : Draft) → In (n, draft) (kept.claims ++ claim ∷ []) → In (n, draft) lost.done ⊎ ((x : Job) × In x lost.jobs × (x.draft ≡ draft) × (slots draft.ino ≡ Some n))
    each_claim n draft at = elim (pushed-In kept.claims claim (n, draft) at) [
      | inl old ↦ elim (lost.each_claim n draft old) [
        | inl done ↦ inl done
        | inr job_is ↦ inr (job_is.0, job_is.1, job_is.2, other_slot draft.ino (had_slot draft.ino n job_is.3) ∙ job_is.3)
      ]
      | inr last ↦
          let same : p.draft ≡ draft = ap (λ (y : ℕ × Draft). y.1) last in
          let slot_is : slot ≡ n = ap (λ (y : ℕ × Draft). y.0) last in
          inr (j, there, split.draft ∙ same, own_slot draft.ino (ap (λ (y : Draft). y.ino) (sym (split.draft ∙ same))) ∙ ap (λ m. Some m) slot_is)
    ]

    pub finished : IsLostWith v e (claimed_by kept slot p) start history last
    finished = record {
      jobless = λ posix. absurd (job_out posix);
      jobs = lost.jobs;
      jobs_are = lost.jobs_are;
      whole = lost.whole;
      callers = lost.callers;
      blocks = lost.blocks;
      puts = lost.puts;
      done = lost.done;
      slot_of = slots;
      done_in = λ n draft at. in_front kept.claims claim (n, draft) (lost.done_in n draft at);
      slots_in = slots_in;
      each_claim = each_claim;
      spelled = lost.spelled;
      words = lost.words;
      numbers = lost.numbers;
      s = lost.s;
      count = lost.count;
      world = lost.world;
      lines = still_lent;
      sound = λ image at. lost.sound image (image_before image at);
      each_job = λ x at. elim (each_job x at) [
        | inl own ↦
            subst (IsLostJob v e x) (sym (own_slot x.draft.ino (ap (λ (y : Job). y.draft.ino) (sym own))))
            (subst (λ (y : Job). IsLostJob v e y (Some slot)) own (own_home, held))
        | inr other ↦
            subst (IsLostJob v e x) (sym (other_slot x.draft.ino (λ same. (apart x other).files (sym same))))
            (others_lost x at other (lost.slot_of x.draft.ino) (lost.each_job x at))
      ];
      home = home;
      promise = promise slots (λ ino n had. other_slot ino (had_slot ino n had) ∙ had);
    }

pub finishes_lost : FinishesLost
finishes_lost v d e kept start history last p job slot lost is = finished v d e kept start history last p job lost is slot

pub comes_home_alone : ComesHomeAlone
comes_home_alone v d e kept start history last p job lost is =
    (home_then v d e kept start history last p job lost is, others_words v d e kept start history last p job lost is)

pub gives_up_lost : GivesUpLost
gives_up_lost v d e kept start history last p job lost is = given_up v d e kept start history last p job lost is
