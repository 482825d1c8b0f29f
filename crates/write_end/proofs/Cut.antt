-- A landed write whose front the power cut off: its claim counts, and its call stays unfinished, at its place.
use Rattle.std.proofs.Common.{◌≡◌, ◌≢◌, ◌⊎◌, ◌<◌, ◌+◌, ◌/◌, ◌++◌, ◌∷◌, [], ◌==◌, ℕ, suc, Bool, true, false, List, length, Option, Some, None, refl, arith, ap, ◌∙◌, sym, subst, inl, inr}
use Rattle.std.specs.Prelude.{drop, if◌then◌else◌, slice_get, take}
use Rattle.std.proofs.lemmas.Bool.{cases_eq, eq-eqb, ne_eqb}
use Rattle.std.proofs.lemmas.Bool.Decides.{nat_tests}
use Rattle.std.proofs.lemmas.List.{append-nil}
use Rattle.oplog_entry.specs.pm_model.declared.Cell.{Cell}
use Rattle.oplog_entry.specs.pm_model.CellLaws.{single-home}
use Rattle.oplog_entry.specs.pm_model.Cells.{cell, is_lent}
use Rattle.oplog_entry.specs.pm_model.Images.{IsImage}
use Rattle.oplog_entry.specs.pm_model.Parts.{put_back}
use Rattle.oplog_entry.specs.pm_model.Words.{Words}
use Rattle.oplog_entry.specs.layout_model.declared.lines.Draft.{Draft}
use Rattle.oplog_entry.specs.layout_model.Journal.{IsSound, journaled}
use Rattle.oplog_entry.specs.layout_model.Places.{Geometry}
use Rattle.oplog_entry.specs.image_model.Content.{disk_of}
use Rattle.oplog_entry.specs.image_model.Volume.{Volume}
use Rattle.in_place.specs.write_plan.extent_model.Extents.{is_within}
use Rattle.in_place.specs.write_plan.file_table.Files.{Files}
use Rattle.in_place.specs.k_split_laws.k_split_model.View.{View}
use Rattle.in_place.specs.k_split_laws.list_laws.Members.{In, pushed-In}
use Rattle.in_place.specs.k_split_laws.posix_types.declared.call.Call.{Call}
use Rattle.in_place.specs.k_split_laws.posix_types.declared.call.Mode.{Mode}
use Rattle.in_place.specs.k_split_laws.posix_types.declared.item.Item.{Item}
use Rattle.in_place.specs.k_split_laws.posix_tables.Open.{Tables}
use Rattle.in_place.specs.k_split_laws.posix_spec.Run.{run}
use Rattle.in_place.specs.k_split_laws.posix_spec.State.{State}
use Rattle.in_place.specs.write_plan.eof_laws.log_checkpoint.posix_laws.Puts.{PutsWhole}
use Rattle.in_place.specs.live_model.write_jobs.world_image_laws.Amid.{among_own}
use Rattle.in_place.specs.live_model.write_jobs.world_image_laws.Back.{calls_among, calls_in_log, IsPutBack}
use Rattle.in_place.specs.live_model.write_jobs.world_image_laws.Promised.{IsKept}
use Rattle.in_place.specs.live_model.write_jobs.world_image_laws.Settings.{setting_run}
use Rattle.in_place.specs.live_model.write_jobs.world_image_laws.world_model.JobLaws.{live_claims-more, live_used}
use Rattle.in_place.specs.live_model.write_jobs.world_image_laws.world_model.Jobs.{HoldsWhole, IsStagedIn, Job, JobStands, live_claims, staged_block, unfinished_call}
use Rattle.in_place.specs.live_model.write_jobs.world_image_laws.world_model.Landed.{disk-beside}
use Rattle.in_place.specs.live_model.write_jobs.world_image_laws.world_model.Lent.{unused_staged}
use Rattle.in_place.specs.live_model.write_jobs.world_image_laws.world_model.Lines.{AreJobLines, IsClaimedLine, IsTaken}
use Rattle.in_place.specs.live_model.write_jobs.world_image_laws.world_model.Shown.{AreFilled}
use Rattle.in_place.specs.live_model.write_jobs.world_image_laws.world_model.Stands.{number}
use Rattle.in_place.specs.live_model.Flying.{IsOut as IsOutWord}
use Rattle.in_place.specs.live_model.Standing.{AreJobsOf, AreLinesLent}
use Rattle.in_place.specs.live_model.write_jobs.Jobs.{FilledView}
use Rattle.in_place.specs.k_split_laws.k_journal.declared.outcomes.Commit.{Commit}
use Rattle.in_place.specs.k_split_laws.Left.{IsLeftOf}
use Rattle.in_place.specs.Placing.{LosesPlacing, SameBeside}
use Rattle.write_end.specs.Blocks.{AreHome}
use Rattle.write_end.specs.Ends.{HasJob}
use Rattle.write_end.specs.Landing.{FinishesCut, front_bytes, front_start, HasFront, HasLanded, IsFrontAnswer}
use Rattle.write_end.specs.LosingLaws.{AreSpelled, claimed_by}
use Rattle.write_end.specs.Lost.{HoldLost, IsKeptLost, IsLostJob, IsLostWith}
use Rattle.write_end.proofs.Dropped.{left_in}
use Rattle.write_end.proofs.Ended.{in_front, in_last, own_job}
use Rattle.write_end.proofs.Ending.{claims, numbers, split, v, words}
use Rattle.write_end.proofs.Fliers.{valid_front, world}
use Rattle.write_end.proofs.Jobs.{in_data_block, one_job}
use Rattle.write_end.proofs.Landed.{front, inside, placing, puts_there}
use Rattle.write_end.proofs.EndsPending.{stands_of}
use Rattle.write_end.proofs.Settled.{own_single, split_in}

-- ---- the slots without that of the job behind these

abbrev without_own : List Job → List (Option ℕ) → List (Option ℕ)
without_own a slots = take (length a) slots ++ drop (suc (length a)) slots

-- the job has its slot, and its line holds its entry
has_slot : (v : Volume) (cells : ℕ → Cell) (slot_of : ℕ → Option ℕ) (slot : ℕ) (a : List Job) (j : Job) (b : List Job) (slots : List (Option ℕ)) → slot_of j.draft.ino ≡ Some slot → HoldLost v cells (a ++ j ∷ b) slots slot_of
    → (slice_get slots (length a) ≡ Some (Some slot)) × IsClaimedLine v cells slot j.draft
has_slot v cells slot_of slot [] j b [] own hold = absurd (never (sym hold.0 ∙ own)) where
  never : None ≡ Some slot → ⊥
  never is = cc
has_slot v cells slot_of slot [] j b (o ∷ slots) own hold = let its = hold.0 slot own in (ap (λ (x : Option ℕ). Some x) its.0, its.1)
has_slot v cells slot_of slot (x ∷ a) j b [] own hold = absurd (never (has_slot v cells slot_of slot a j b [] own hold.1).0) where
  never : slice_get [] (length a) ≡ Some (Some slot) → ⊥
  never is = cc
has_slot v cells slot_of slot (x ∷ a) j b (o ∷ slots) own hold = has_slot v cells slot_of slot a j b slots own hold.1

lines_less : (v : Volume) (cells : ℕ → Cell) (first : Words) (slot : ℕ) (a : List Job) (j : Job) (b : List Job) (slots : List (Option ℕ)) → slice_get slots (length a) ≡ Some (Some slot) → AreJobLines v cells first (a ++ j ∷ b) slots
    → AreJobLines v cells first (a ++ b) (without_own a slots)
lines_less v cells first slot a j b [] is are = cc
lines_less v cells first slot [] j b (None ∷ slots) is are = cc
lines_less v cells first slot [] j b (Some n ∷ slots) is are = are.1
lines_less v cells first slot (x ∷ a) j b (None ∷ slots) is are = lines_less v cells first slot a j b slots is are
lines_less v cells first slot (x ∷ a) j b (Some n ∷ slots) is are = (are.0, lines_less v cells first slot a j b slots is are.1)

filled_less : (v : Volume) (f : Words) (slot : ℕ) (a : List Job) (j : Job) (b : List Job) (slots : List (Option ℕ)) → slice_get slots (length a) ≡ Some (Some slot) → AreFilled v f (a ++ j ∷ b) slots → AreFilled v f (a ++ b) (without_own a slots)
filled_less v f slot a j b [] is are = cc
filled_less v f slot [] j b (None ∷ slots) is are = cc
filled_less v f slot [] j b (Some n ∷ slots) is are = are.1
filled_less v f slot (x ∷ a) j b (None ∷ slots) is are = filled_less v f slot a j b slots is are
filled_less v f slot (x ∷ a) j b (Some n ∷ slots) is are = (are.0, filled_less v f slot a j b slots is are.1)

-- a line that is taken is its own, or that of another
taken_less : (slot : ℕ) (a : List Job) (j : Job) (b : List Job) (slots : List (Option ℕ)) (n : ℕ) → slice_get slots (length a) ≡ Some (Some slot) → IsTaken (a ++ j ∷ b) slots n → (slot ≡ n) ⊎ IsTaken (a ++ b) (without_own a slots) n
taken_less slot a j b [] n is taken = cc
taken_less slot [] j b (None ∷ slots) n is taken = cc
taken_less slot [] j b (Some m ∷ slots) n is (inl same) = inl (let own : m ≡ slot = own_slot is in sym own ∙ same) where
  own_slot : Some (Some m) ≡ Some (Some slot) → m ≡ slot
  own_slot same_options = cc
taken_less slot [] j b (Some m ∷ slots) n is (inr rest) = inr rest
taken_less slot (x ∷ a) j b (None ∷ slots) n is taken = taken_less slot a j b slots n is taken
taken_less slot (x ∷ a) j b (Some m ∷ slots) n is (inl same) = inr (inl same)
taken_less slot (x ∷ a) j b (Some m ∷ slots) n is (inr rest) = elim (taken_less slot a j b slots n is rest) [ inl own ↦ inl own | inr other ↦ inr (inr other) ]

-- WHAT IS PUT BACK with the job out is put back with its entry claimed.
put_claimed : (v : Volume) (d : List Cell) (back : ℕ → Cell) (first : Words) (claims : List (ℕ × Draft)) (slot : ℕ) (a : List Job) (j : Job) (b : List Job) (slots : List (Option ℕ)) (image : Words)
    → slice_get slots (length a) ≡ Some (Some slot) → IsClaimedLine v (put_back d back) slot j.draft → IsPutBack v d back first claims (a ++ j ∷ b) slots image
    → IsPutBack v d back first (claims ++ (slot, j.draft) ∷ []) (a ++ b) (without_own a slots) image
put_claimed v d back first claims slot a j b slots image at line is = record {
  lines = record {
    claimed = λ n draft claim. elim (pushed-In claims (slot, j.draft) (n, draft) claim) [
      | inl old ↦ is.lines.claimed n draft old
      | inr own ↦ subst (λ (c : ℕ × Draft). IsClaimedLine v (put_back d back) c.0 c.1) own line
    ];
    out = lines_less v (put_back d back) first slot a j b slots at is.lines.out;
    others = λ n below free none.
        is.lines.others n below (λ draft claim. free draft (in_front claims (slot, j.draft) (n, draft) claim)) (λ taken. elim (taken_less slot a j b slots n at taken) [
          | inl same ↦ free j.draft (subst (λ m. In (m, j.draft) (claims ++ (slot, j.draft) ∷ [])) same (in_last claims (slot, j.draft)))
          | inr other ↦ none other
        ]);
    old = is.lines.old;
  };
  image_is = is.image_is;
  honest = is.honest;
  filled = filled_less v (journaled image) slot a j b slots at is.filled;
}

-- ---- the World

module _ (k m l : View) (job : FilledView) (has : HasJob k job) (slot : ℕ) (u : Tables) (files : Files) (start : State) (history : List Item) (sync : start.mode ≡ Mode.Sync) (state : has.s ≡ run start history) (same_mode : has.s.mode ≡ Mode.Sync)
    (spelled : AreSpelled has.kept.claims) (landed : HasLanded k job has slot m u files) (loses : LosesPlacing m l files landed.j.draft.ino (front_start landed.j.draft landed.j.call) (front_bytes landed.j.draft landed.j.call))
    (front_there : HasFront landed.j.draft landed.j.call) where
  abbrev a : List Job
  a = landed.a

  abbrev j : Job
  j = landed.j

  abbrev b : List Job
  b = landed.b

  abbrev jobs : List Job
  jobs = a ++ j ∷ b

  abbrev vol : Volume
  vol = k.volume

  abbrev cells : List Cell
  cells = l.cells

  abbrev claim : ℕ × Draft
  claim = (slot, has.p.draft)

  abbrev bytes : List ℕ
  bytes = front_bytes j.draft j.call

  abbrev at : ℕ
  at = front_start j.draft j.call

  -- the volume is the one before
  same_volume : m.volume ≡ vol
  same_volume = ap (λ (w : View). w.volume) landed.same

  left : IsLeftOf has.g m.cells cells
  left = loses.left u j.found (placing k m job has slot u files landed same_mode)

  there : In j jobs
  there = own_job a j b

  stood : (x : Job) → In x jobs → JobStands vol (live_claims vol (claims k job has)) (words k job has) (numbers k job has) has.s x
  stood x is = stands_of vol (live_claims vol (claims k job has)) (words k job has) (numbers k job has) has.s jobs x (world k job has a j b landed.jobs_are).valid.out is

  its_own : (x : Job) → In x jobs → x.draft.ino ≡ j.draft.ino → x ≡ j
  its_own x is same = one_job vol (live_claims vol (claims k job has)) (words k job has) (numbers k job has) has.s jobs x j (world k job has a j b landed.jobs_are).valid.out is there same

  -- ---- its slot

  slots_of : ℕ → Option ℕ
  slots_of ino = if ino == j.draft.ino then Some slot else None

  own_slot : (ino : ℕ) → ino ≡ j.draft.ino → slots_of ino ≡ Some slot
  unfolding slots_of
  own_slot ino same = ap (λ (c : Bool). if c then Some slot else None) (eq-eqb ino j.draft.ino same)

  other_slot : (ino : ℕ) → ino ≢ j.draft.ino → slots_of ino ≡ None
  unfolding slots_of
  other_slot ino other = ap (λ (c : Bool). if c then Some slot else None) (ne_eqb ino j.draft.ino other)

  slots_in : (x : Job) (n : ℕ) → In x jobs → slots_of x.draft.ino ≡ Some n → In (n, x.draft) (has.kept.claims ++ claim ∷ [])
  slots_in x n is had = elim (cases_eq x.draft.ino j.draft.ino) [
    | inl same ↦
        let own : x ≡ j = its_own x is same in
        let slot_is : Some slot ≡ Some n = sym (own_slot x.draft.ino same) ∙ had in
        let number_is : slot ≡ n = cc in
        subst (λ (c : ℕ × Draft). In c (has.kept.claims ++ claim ∷ [])) (λ i. (number_is i, (sym landed.draft ∙ sym (ap (λ (y : Job). y.draft) own)) i)) (in_last has.kept.claims claim)
    | inr other ↦ (let never : None ≡ Some n = sym (other_slot x.draft.ino other) ∙ had in cc)
  ]

  each_claim : (n : ℕ) (draft : Draft) → In (n, draft) (has.kept.claims ++ claim ∷ []) → In (n, draft) has.kept.claims ⊎ ((x : Job) × In x jobs × (x.draft ≡ draft) × (slots_of draft.ino ≡ Some n))
  each_claim n draft is = elim (pushed-In has.kept.claims claim (n, draft) is) [
    | inl old ↦ inl old
    | inr last ↦
        let same : j.draft ≡ draft = landed.draft ∙ ap (λ (c : ℕ × Draft). c.1) last in
        inr (j, there, same, own_slot draft.ino (ap (λ (d : Draft). d.ino) (sym same)) ∙ ap (λ (c : ℕ × Draft). Some c.0) last)
  ]

  -- ---- its blocks are at home, and hold what is found of it

  home_m : (i : ℕ) → IsStagedIn vol j.draft (i / 512) → is_lent (cell m.cells i) ≡ false
  home_m i staged =
      single-home (cell m.cells i)
      (own_single k job has m.cells landed.home.back landed.home.holds i
      (subst (λ (d : Draft). IsStagedIn vol d (i / 512)) (landed.draft ∙ sym (split k job has).draft) staged))

  own_home : AreHome vol j.draft cells
  own_home i staged = left.lent i ∙ home_m i staged

  live_is : live_claims vol (has.kept.claims ++ claim ∷ []) ≡ live_claims vol has.kept.claims ++ j.draft ∷ []
  live_is =
      ap (λ (d : Draft). live_claims vol (has.kept.claims ++ (slot, d) ∷ [])) (sym landed.draft)
      ∙ live_claims-more vol has.kept.claims slot j.draft (stood j there).alive

  -- a block of its entry is none of its front
  not_front : (n c i : ℕ) → n < j.draft.count → staged_block vol j.draft n ≡ Some c → i < length bytes → disk_of vol (live_claims vol (has.kept.claims ++ claim ∷ [])) j.draft.ino ((at + i) / 4096) ≢ Some c
  not_front n c i below is within found =
      let most = (front k m job has slot u files landed).most in
      let before : (at + i) / 4096 < j.draft.file_block = omega (arith, within, most) in
      let used = live_used vol j.draft (stood j there).alive in
      let valid = valid_front k job has a j b landed.jobs_are in
      unused_staged vol (live_claims vol has.kept.claims) j.draft valid.stands.sane valid.stands.log (stood j there).staging (stood j there).apart j.draft.ino ((at + i) / 4096) c used
      (sym (disk-beside vol (live_claims vol has.kept.claims) j.draft ((at + i) / 4096) (outside ((at + i) / 4096) before))
      ∙ (ap (λ live. disk_of vol live j.draft.ino ((at + i) / 4096)) (sym live_is) ∙ found))
      (n, below, is)
    where
      outside : (x : ℕ) → x < j.draft.file_block → is_within j.draft.file_block j.draft.count x ≡ false
      outside x low = grind (arith, nat_tests, low)

  held : (image : Words) → IsImage cells image → HoldsWhole vol (journaled image) j.draft j.found
  held image is n c i below block_is low =
      let from = loses.beside u j.found (placing k m job has slot u files landed same_mode) image is in
      let same : SameBeside vol (live_claims vol (has.kept.claims ++ claim ∷ [])) j.draft.ino at (length bytes) from.0 image =
      subst (λ (w : Volume). SameBeside w (live_claims w (has.kept.claims ++ claim ∷ [])) j.draft.ino at (length bytes) from.0 image) same_volume from.2
      in
      let in_data = in_data_block vol (valid_front k job has a j b landed.jobs_are).stands.sane j.draft n c (stood j there).staging block_is in
      same c i in_data low (λ x within. not_front n c x below block_is within) ∙ landed.held from.0 from.1.is_image n c i below block_is low

  -- ---- the others

  others_out : (x : Job) → In x (a ++ b) → (n c i : ℕ) → n < x.draft.count → staged_block vol x.draft n ≡ Some c → i / 512 ≡ c → is_lent (cell cells i) ≡ true
  others_out x is n c i below block_is word =
      left.lent i
      ∙ landed.stands.flying.out x (subst (In x) (sym landed.rest) is) n c i below (subst (λ (w : Volume). staged_block w x.draft n ≡ Some c) (sym same_volume) block_is) word

  each_job : (x : Job) → In x jobs → IsLostJob vol cells x (slots_of x.draft.ino)
  each_job x is = elim (split_in a j b x is) [
    | inl own ↦
        subst (IsLostJob vol cells x) (sym (own_slot x.draft.ino (ap (λ (y : Job). y.draft.ino) (sym own))))
        (subst (λ (y : Job). IsLostJob vol cells y (Some slot)) own (own_home, held))
    | inr other ↦ elim (cases_eq x.draft.ino j.draft.ino) [
      | inl same ↦
          subst (IsLostJob vol cells x) (sym (own_slot x.draft.ino same))
          (subst (λ (y : Job). IsLostJob vol cells y (Some slot)) (sym (its_own x is same)) (own_home, held))
      | inr apart ↦ subst (IsLostJob vol cells x) (sym (other_slot x.draft.ino apart)) (inr (others_out x other))
    ]
  ]

  home : (i : ℕ) → is_lent (cell cells i) ≡ true → IsOutWord vol jobs i
  home i lent = elim (subst (λ (w : Volume). IsOutWord w landed.stands.jobs i) same_volume (landed.stands.flying.home i (sym (left.lent i) ∙ lent))) [
    | inl line ↦ inl line
    | inr (x, is, staged) ↦ inr (x, left_in a j b x (subst (In x) landed.rest is), staged)
  ]

  lines : AreLinesLent vol cells has.kept.first
  lines =
      let before : AreLinesLent vol m.cells has.kept.first = subst (λ (w : Volume). AreLinesLent w m.cells has.kept.first) same_volume landed.stands.lines in
      record { lent = λ n i below i_below. left.lent _ ∙ before.lent n i below i_below; old = before.old }

  sound : (image : Words) → IsImage cells image → IsSound vol.geometry image
  sound image is = subst (λ (g : Geometry). IsSound g image) (sym has.stands.geometry) (left.sound image is)

  -- ---- the promise

  promise : IsKeptLost vol cells has.kept.first has.kept.claims jobs slots_of start history []
  promise back slots image put hold =
      let its = has_slot vol (put_back cells back) slots_of slot a j b slots (own_slot j.draft.ino refl) hold in
      let put_now : IsPutBack vol cells back has.kept.first (has.kept.claims ++ (slot, j.draft) ∷ []) (a ++ b) (without_own a slots) image =
      put_claimed vol cells back has.kept.first has.kept.claims slot a j b slots image its.0 its.1 put
      in
      let kept =
      loses.kept u j.found (placing k m job has slot u files landed same_mode) start history a b state landed.rest (inside k m job has slot u files landed) (puts_there k m job has slot u files landed) back (without_own a slots) image
      (subst (λ (w : Volume). IsPutBack w cells back has.kept.first (has.kept.claims ++ claim ∷ []) (a ++ b) (without_own a slots) image) (sym same_volume)
      (subst (λ (d : Draft). IsPutBack vol cells back has.kept.first (has.kept.claims ++ (slot, d) ∷ []) (a ++ b) (without_own a slots) image) landed.draft put_now))
      in
      subst (λ calls. IsKept vol.geometry start history calls image) (sym (among_own slots a j b slot its.0) ∙ sym (append-nil (calls_in_log slots jobs)))
      (subst (λ (w : Volume). IsKept w.geometry start history (calls_among (without_own a slots) a (unfinished_call j) b) image) same_volume kept)

  lost : IsLostWith vol cells (claimed_by has.kept slot has.p) start history []
  lost = record {
    jobless = λ posix. (let never : Mode.Sync ≡ Mode.Posix = sym sync ∙ posix in cc);
    jobs = jobs;
    jobs_are = subst (AreJobsOf has.kept.pending) landed.jobs_are has.stands.jobs_are;
    whole = λ strict. absurd (not_strict (sym sync ∙ strict));
    callers = has.stands.callers;
    blocks = has.stands.blocks;
    puts = λ x is. (number (numbers k job has) x.draft.ino, subst (λ (s : State). PutsWhole s x.who x.call (number (numbers k job has) x.draft.ino) x.whole) state (stood x is).puts);
    done = has.kept.claims;
    slot_of = slots_of;
    done_in = λ n draft is. in_front has.kept.claims claim (n, draft) is;
    slots_in = slots_in;
    each_claim = each_claim;
    spelled = spelled;
    words = words k job has;
    numbers = numbers k job has;
    s = has.s;
    count = has.stands.count;
    world = world k job has a j b landed.jobs_are;
    lines = lines;
    sound = sound;
    each_job = each_job;
    home = home;
    promise = promise;
  } where
    not_strict : Mode.Sync ≡ Mode.Strict → ⊥
    not_strict is = cc

pub finishes_cut : FinishesCut
finishes_cut k m l job has slot u files start history sync state spelled landed answer =
    let same_draft : HasFront landed.j.draft landed.j.call × LosesPlacing m l files landed.j.draft.ino (front_start landed.j.draft landed.j.call) (front_bytes landed.j.draft landed.j.call) =
    subst (λ (d : Draft). IsFrontAnswer m l files d landed.j.call Commit.PowerLost) (sym landed.draft)
    (subst (λ (c : Call). IsFrontAnswer m l files has.p.draft c Commit.PowerLost) (sym landed.call) answer)
    in
    lost k m l job has slot u files start history sync state (ap (λ (s : State). s.mode) state ∙ ((setting_run start history).mode ∙ sync)) spelled landed same_draft.1 same_draft.0
