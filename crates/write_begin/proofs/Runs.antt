-- A run is reserved for a write, and its job begins, or the run goes back.
use Rattle.std.specs.Prelude.{◌≡◌, ◌≢◌, ◌⊎◌, ◌≤◌, ◌+◌, ◌-◌, ◌/◌, ◌==◌, ℕ, true, false, Contains, List, [], ◌∷◌, ◌++◌, length, max, IsSome, Option, None, Some, remove, slice_get, refl, Result, Ok}
use Rattle.std.proofs.Common.{arith, ap, ◌∙◌, sym, subst, inl, inr, eq-eqb}
use Rattle.std.proofs.lemmas.Bool.{cases_eq}
use Rattle.std.proofs.lemmas.Bool.Decides.{nat_tests}
use Rattle.std.proofs.Math.Nat.{sub_self}
use Rattle.std.proofs.lemmas.List.{append-nil, length-append}
use Rattle.std.proofs.lemmas.Option.{get_or_from_slice_get, slice_get_within}
use Rattle.std.proofs.Math.Seq.{get_or-append_seam}
use Rattle.std.proofs.lemmas.List.Edits.{remove-append_right}
use Rattle.std.proofs.lemmas.List.Folds.{list_any_at}
use Rattle.block_counts.specs.Counts.{blocks_for}
use Rattle.write_plan.specs.layout_model.declared.lines.Draft.{Draft}
use Rattle.write_plan.specs.layout_model.declared.lines.Inode.{Inode}
use Rattle.write_plan.specs.layout_model.declared.lines.Kind.TheVariants.{File}
use Rattle.write_plan.specs.layout_model.block_counts.declared.TheConstants.{LONGEST_FILE}
use Rattle.write_plan.specs.pm_model.declared.Cell.{Cell}
use Rattle.write_plan.specs.pm_model.Cells.{cell, is_lent}
use Rattle.write_plan.specs.pm_model.Frames.{SameLent}
use Rattle.write_plan.specs.layout_model.Places.{reserve}
use Rattle.write_plan.specs.image_model.Room.{unused_blocks}
use Rattle.write_plan.specs.image_model.Volume.{extents, inode, Volume}
use Rattle.write_plan.specs.extent_model.Extents.{disk_at}
use Rattle.posix_types.specs.declared.item.Item.{Item}
use Rattle.live_step_laws.specs.world_image_laws.Back.{IsKeptBack}
use Rattle.write_plan.specs.file_table.Files.{Files, runs_in, spare_in}
use Rattle.write_plan.specs.file_overlay.Runs.{staged_at}
use Rattle.live_step_laws.specs.ReservesLaws.{StandsReserved, StandsWithRun}
use Rattle.live_step_laws.proofs.Restaged as restaging
use Rattle.live_step_laws.proofs.Backs.{kept_over}
use Rattle.in_place.specs.Gaps.{block_start, Clears, HasFile, LosesGap, Stays}
use Rattle.in_place.specs.Zeros.{ReadZero}
use Rattle.in_place.proofs.k_split_laws_proofs.Cuts.{left_through}
use Rattle.write_plan.specs.k_split_model.View.{View}
use Rattle.write_plan.specs.list_laws.Members.{In, slice_get-push}
use Rattle.posix_types.specs.declared.call.Mode.{Mode}
use Rattle.posix_types.specs.declared.call.Who.{Who}
use Rattle.write_plan.specs.posix_laws.Views.{need_of}
use Rattle.write_plan.specs.posix_spec.State.{room, State}
use Rattle.live_step_laws.specs.staging_files.declared.runs.StageFault.{StageFault}
use Rattle.live_step_laws.specs.staging_files.declared.runs.StageRun.{StageRun}
use Rattle.live_step_laws.specs.staging_files.GivesUp.{IsGivenBack}
use Rattle.live_step_laws.specs.staging_files.Keeps.{given_to, has_block, IsRunSingle, IsStaged, IsThere, Staged}
use Rattle.live_step_laws.specs.staging_files.Reserves.{has_empty, IsLacking, IsReserveAnswer, LacksFirstWay, LacksSecondWay, share}
use Rattle.live_step_laws.specs.world_model.JobLaws.{needs}
use Rattle.live_step_laws.specs.fsync_relink.world_write_laws.Restages.{Restages}
use Rattle.live_step_laws.specs.world_model.Jobs.{live_claims}
use Rattle.live_step_laws.specs.world_model.Stands.{number}
use Rattle.live_step_laws.specs.live_model.Standing.{Kept, reserved_run, StandsAt}
use Rattle.in_place.specs.Holes.{IsPresent}
use Rattle.write_plan.specs.declared.asks.asking.Target.{Target}
use Rattle.write_plan.specs.eof_laws.block_io.Overwrites.{blocks_reached}
use Rattle.live_step_laws.specs.live_model.Jobs.{SpellCall}
use Rattle.write_plan.specs.write_jobs.Jobs.{JobView}
use Rattle.write_begin.specs.Stages.{IsStaged as IsJobStaged, Ready, with_parts}
use Rattle.write_begin.specs.Goes.{BecomesJob, FitsTarget, Goes, GoesNoFurther, job_of, KeepsMaps, LosesTarget, reached_run, RunGivenBack, StagedAsJob}
use Rattle.write_begin.proofs.Maps.{ends_over, line_same, none_own, same_maps}
use Rattle.write_begin.proofs.Steps.{puts_at}

-- what the reserve answers with a run
abbrev pub IsRun : ℕ → Staged → View → Staged → View → StageRun → Type 0
IsRun count s k t l taken = let r : Result StageRun StageFault = Ok taken in IsReserveAnswer count s k t l r

-- What it says of the run, whichever way it went.
pub record RunIs (count : ℕ) (old new : Staged) (l : View) (taken : StageRun) : Type 0 where
  pub count_is : taken.count ≡ count
  pub generation : taken.generation ≡ (inode l.volume taken.staging).generation
  pub out_is : new.out ≡ old.out ++ taken ∷ []

pub run_is : (count : ℕ) (old new : Staged) (k l : View) (taken : StageRun) → IsRun count old k new l taken → RunIs count old new l taken
run_is count old new k l taken (inl was) = record {
  count_is = ap (λ (r : StageRun). r.count) was.run_is;
  generation = ap (λ (r : StageRun). r.generation) was.run_is;
  out_is = ap (λ (s : Staged). s.out) was.staged;
}
run_is count old new k l taken (inr given) = record {
  count_is = ap (λ (r : StageRun). r.count) given.run_is;
  generation = ap (λ (r : StageRun). r.generation) given.run_is;
  out_is = ap (λ (s : Staged). s.out) given.staged;
}

-- A staging that has one lacks none.
lacks_none : (count : ℕ) (old new : Staged) (k l : View) (taken : StageRun) → IsStaged old → IsRun count old k new l taken → (need left : ℕ) → ¬ IsLacking count old k need left
lacks_none count old new k l taken keeps (inl was) need left lacks = by lacks.no_first where
  by : LacksFirstWay old k count → ⊥
  by (inl few) = let room = was.way.room in omega (arith, few, room)
  by (inr none) = none taken.staging taken.block was.way.place.staging was.way.place.here
lacks_none count old new k l taken keeps (inr given) need left lacks = by lacks.no_second where
  by : LacksSecondWay old k count → ⊥
  by (inl few) = let room = given.way.room in omega (arith, few, room)
  by (inr none) =
      let place = given.way.place in
      let some : has_empty old ≡ true =
      list_any_at (λ n. n == 0) old.given (taken.staging - 1) 0 (omega (arith, keeps.files, place.staging.least, place.staging.most)) (eq-eqb (given_to old taken.staging) 0 place.empty)
      in
      let never : true ≡ false = sym some ∙ none in
      cc

pub last_in : (xs : List StageRun) (x : StageRun) → Contains (xs ++ x ∷ []) x
last_in xs x = (length xs, omega (arith, length-append xs (x ∷ [])), get_or-append_seam xs x [] x)

-- the blocks of a write end with it
ends_of : (start len size count : ℕ) → count ≡ blocks_reached start len → start / 4096 + count ≤ blocks_for (max size (start + len))
ends_of start len size count is = omega (arith, is)

pair_is : (a b c d : ℕ) → a ≡ c → b ≡ d → (let one : Option (ℕ × ℕ) = Some (a, b) in let other : Option (ℕ × ℕ) = Some (c, d) in one ≡ other)
pair_is a b c d first second = λ i. (let both : ℕ × ℕ = (first i, second i) in Some both)

-- a run has its first block
has_first : (r : StageRun) → 1 ≤ r.count → has_block r.staging r.block r ≡ true
has_first r some = grind (arith, nat_tests)

contains_at : (xs : List StageRun) (i : ℕ) (x : StageRun) → slice_get xs i ≡ Some x → Contains xs x
contains_at xs i x is = (i, slice_get_within xs i x is, get_or_from_slice_get xs i x x is)

remove_last : (xs : List StageRun) (x : StageRun) → remove (xs ++ x ∷ []) (length xs) ≡ xs
remove_last xs x = remove-append_right xs (x ∷ []) (length xs) (length xs) refl (omega arith) ∙ (ap (λ n. xs ++ remove (x ∷ []) n) (sub_self (length xs)) ∙ append-nil xs)

module _ (mode : Mode) (k l : View) (old new : Staged) (files : Files) (who : Who) (target : Target) (x : List ℕ) (count : ℕ) (taken : StageRun) (law : StandsReserved) (some : 1 ≤ count) (few : count ≤ 33) (answer : IsRun count old k new l taken) where
  abbrev pub kept_of : (goes : Goes mode k old files who target x) → Kept
  kept_of goes = with_parts goes.kept old files

  pub with_run : (goes : Goes mode k old files who target x) → StandsWithRun goes.g k l goes.t (kept_of goes) new true goes.n goes.s taken goes.stands
  with_run goes = law goes.g k l goes.t (kept_of goes) new true goes.n goes.s count taken goes.stands some few answer

  -- the same entries are live
  same_live : (goes : Goes mode k old files who target x) → live_claims l.volume goes.kept.claims ≡ live_claims k.volume goes.kept.claims
  same_live goes = by answer where
    by : IsRun count old k new l taken → live_claims l.volume goes.kept.claims ≡ live_claims k.volume goes.kept.claims
    by (inl was) = ap (λ (y : View). live_claims y.volume goes.kept.claims) was.same
    by (inr given) =
        restaging.same_live goes.g k goes.t (kept_of goes) true goes.n goes.s goes.stands taken.staging (share old k count) l.volume given.given.0 given.way.place.staging given.way.place.empty given.given.1 given.given.2.order.whole

  pub claims_out : (goes : Goes mode k old files who target x) → (d : Draft) → In d (live_claims l.volume goes.kept.claims) → Contains old.out (reserved_run d)
  claims_out goes d is = goes.stands.claims_out d (subst (In d) (same_live goes) is)

  -- the file of the write, with the run out
  abbrev pub has_file : (goes : Goes mode k old files who target x) → HasFile l files target.ino
  has_file goes = record {
    g = goes.g;
    t = goes.t;
    kept = with_parts goes.kept new files;
    lines = true;
    n = goes.n;
    s = goes.s;
    stands = (with_run goes).now;
    file = (with_run goes).now.open_are_files target.ino goes.opened;
    others = λ j is. goes.others j (subst (In j) (with_run goes).jobs_are is);
  }

  pub run_out : Contains new.out taken
  run_out = subst (λ xs. Contains xs taken) (sym (run_is count old new k l taken answer).out_is) (last_in old.out taken)

  -- no map of a file changes
  pub keeps_maps : (goes : Goes mode k old files who target x) → KeepsMaps k.volume l.volume files files None
  keeps_maps goes = by answer where
    by : IsRun count old k new l taken → KeepsMaps k.volume l.volume files files None
    by (inl was) = subst (λ (y : View). KeepsMaps k.volume y.volume files files None) (sym was.same) (same_maps k.volume files)
    by (inr given) = record {
      kinds = kinds;
      lines = λ ino file. line_same (inode k.volume ino) (inode l.volume ino) (restages.others ino (is_other ino file));
      maps = λ ino file not_own. maps ino file;
      ends = ends_over k.volume l.volume files kinds maps;
      runs = λ ino. refl;
      sizes = refl;
      base = restaging.same_base goes.g k goes.t (kept_of goes) true goes.n goes.s goes.stands taken.staging (share old k count) l.volume given.given.0 given.way.place.staging given.way.place.empty given.given.1 given.given.2.order.whole;
    } where
      restages : Restages k.volume l.volume taken.staging
      restages = restaging.restages goes.g k goes.t (kept_of goes) true goes.n goes.s goes.stands taken.staging (share old k count) l.volume given.given.0 given.way.place.staging given.way.place.empty given.given.1 given.given.2.order.whole

      is_other : (ino : ℕ) → (inode k.volume ino).kind ≡ File → ino ≢ taken.staging
      is_other ino file = restaging.file_other goes.g k goes.t (kept_of goes) true goes.n goes.s goes.stands taken.staging (share old k count) l.volume given.given.0 given.way.place.staging given.way.place.empty given.given.1 given.given.2.order.whole ino file

      kinds : (ino : ℕ) → (inode l.volume ino).kind ≡ (inode k.volume ino).kind
      kinds ino = elim (cases_eq ino taken.staging) [
        | inl own ↦ ap (λ (m : ℕ). (inode l.volume m).kind) own ∙ (restages.kind ∙ (sym restages.staging ∙ ap (λ (m : ℕ). (inode k.volume m).kind) (sym own)))
        | inr other ↦ ap (λ (y : Inode). y.kind) (restages.others ino other)
      ]

      maps : (ino : ℕ) → (inode k.volume ino).kind ≡ File → extents l.volume ino ≡ extents k.volume ino
      maps ino file = restages.maps ino (is_other ino file)

  -- ---- the bytes behind the end of the file are zeroed

  module _ (m : View) (clears : Clears target.ino files l m (block_start target.start)) where
    abbrev pub onward : (goes : Goes mode k old files who target x) → Stays l files target.ino (has_file goes) m
    onward goes = clears.stays (has_file goes)

    pub jobs_are : (goes : Goes mode k old files who target x) → (onward goes).now.jobs ≡ goes.stands.jobs
    jobs_are goes = (onward goes).jobs_are ∙ (with_run goes).jobs_are

    pub numbers_are : (goes : Goes mode k old files who target x) → (onward goes).now.numbers ≡ goes.stands.numbers
    numbers_are goes = (onward goes).numbers_are ∙ (with_run goes).numbers_are

    pub volume_is : m.volume ≡ l.volume
    volume_is = ap (λ (y : View). y.volume) clears.same

    pub claims_then : (goes : Goes mode k old files who target x) → (d : Draft) → In d (live_claims m.volume goes.kept.claims) → Contains old.out (reserved_run d)
    claims_then goes d is = claims_out goes d (subst (λ (v : Volume). In d (live_claims v goes.kept.claims)) volume_is is)

    pub there : (goes : Goes mode k old files who target x) → IsThere m taken
    there goes b is =
        let home = (with_run goes).there b is in
        record {
          disk = home.disk;
          at = ap (λ (v : Volume). disk_at (extents v taken.staging) b) volume_is ∙ home.at;
          home = λ i word. clears.lent i ∙ home.home i word;
        }

    pub single : (goes : Goes mode k old files who target x) → IsRunSingle m taken
    single goes b is disk i at word =
        clears.singles i ((with_run goes).single b is disk i (sym (ap (λ (v : Volume). disk_at (extents v taken.staging) b) volume_is) ∙ at) word)

    pub present_then : (goes : Goes mode k old files who target x) (block : ℕ) → IsPresent k.volume files target.ino block → IsPresent m.volume files target.ino block
    present_then goes block =
        subst (λ es. IsSome (disk_at es block) ⊎ IsSome (staged_at (runs_in files target.ino) block))
        (sym (ap (λ (v : Volume). extents v target.ino) volume_is ∙ (keeps_maps goes).maps target.ino (goes.stands.open_are_files target.ino goes.opened) (none_own target.ino)))

    pub owed_then : (goes : Goes mode k old files who target x) → length (live_claims m.volume goes.kept.claims) + length (onward goes).now.jobs + 1 ≤ length new.out
    owed_then goes =
        let owed = (with_run goes).owed in
        let jobs = ap length (jobs_are goes) in
        let live = ap (λ (v : Volume). length (live_claims v goes.kept.claims)) volume_is in
        omega (arith, owed, jobs, live)

    -- THE WRITE CAN BE STAGED
    abbrev pub ready_of : FitsTarget files target (length x) → target.size ≤ LONGEST_FILE → count ≡ blocks_reached target.start (length x) → 3 ≤ spare_in files target.ino
        → (goes : Goes mode k old files who target x) → Ready m files who target x taken
    ready_of fits small count_is spare goes = record {
      g = goes.g;
      t = goes.t;
      staging = new;
      kept = goes.kept;
      n = goes.n;
      few = goes.few;
      s = goes.s;
      call = goes.call;
      stands = (onward goes).now;
      file = (onward goes).now.open_are_files target.ino goes.opened;
      size_is = fits.size;
      puts = puts_at goes.s who goes.call (number goes.stands.numbers target.ino) (number (onward goes).now.numbers target.ino) target x (ap (λ (numbers : List ℕ). number numbers target.ino) (sym (numbers_are goes))) goes.puts;
      present = λ i high low. present_then goes (i / 4096) (goes.present i high low);
      fits = subst (λ js. needs goes.s js + need_of goes.s who goes.call ≤ room goes.s) (sym (jobs_are goes)) goes.fits;
      others = λ j is. goes.others j (subst (In j) (jobs_are goes) is);
      callers = goes.callers;
      spare = spare;
      zero = subst (λ n. ReadZero m files target.ino n (block_start target.start)) (sym fits.size) clears.zero;
      old = old.out;
      has_run = record {
        some = fits.some;
        most = fits.most;
        fits = fits.fits;
        size = small;
        out = run_out;
        count_is = (run_is count old new k l taken answer).count_is ∙ count_is;
        generation = (run_is count old new k l taken answer).generation ∙ sym (ap (λ (v : Volume). (inode v taken.staging).generation) volume_is);
      };
      claims_out = claims_then goes;
      jobs_out = goes.stands.jobs_out;
      apart = (with_run goes).apart;
      there = there goes;
      single = single goes;
      owed = owed_then goes;
      free = subst (λ (v : Volume). length new.out + reserve v.geometry ≤ unused_blocks v + 3) (sym volume_is) (with_run goes).free;
    }

    -- ---- it is a job

    pub becomes_job : (p : View) (last : Staged) (job : JobView) (blocks : List ℕ) → FitsTarget files target (length x) → target.size ≤ LONGEST_FILE → count ≡ blocks_reached target.start (length x)
        → 3 ≤ spare_in files target.ino → Goes mode k old files who target x → StagedAsJob m p new last files who target x taken job blocks
        → BecomesJob mode k p old last files files who target x (reached_run target (length x)) job blocks
    becomes_job p last job blocks fits small count_is spare goes_one staged = record {
      found = λ need left lacks.
          lacks_none count old new k l taken goes_one.stands.staged answer need left (subst (λ n. IsLacking n old k need left) (ap (λ (d : Draft). d.count) staged.job_is.draft ∙ (run_is count old new k l taken answer).count_is) lacks);
      job_who = staged.job_is.who_is;
      blocks_are = staged.job_is.blocks_are;
      fresh = staged.job_is.fresh;
      ends = subst (λ (d : Draft). d.file_block + d.count ≤ blocks_for d.size) (sym staged.job_is.draft) (ends_of target.start (length x) target.size taken.count ((run_is count old new k l taken answer).count_is ∙ count_is));
      plan = pair_is (target.start / 4096) (blocks_reached target.start (length x)) job.draft.file_block job.draft.count (sym (ap (λ (d : Draft). d.file_block) staged.job_is.draft))
          (sym (ap (λ (d : Draft). d.count) staged.job_is.draft ∙ ((run_is count old new k l taken answer).count_is ∙ count_is)));
      out =
          ap (λ (s : Staged). s.out) staged.same
          ∙ ((run_is count old new k l taken answer).out_is ∙ ap (λ (d : Draft). old.out ++ reserved_run d ∷ []) (sym staged.job_is.draft));
      words = λ goes.
          subst (λ (d : Draft). SpellCall goes.s (record { who = who; call = goes.call; draft = d; blocks = blocks }) job.words) (sym staged.job_is.draft) (is_out goes).spells;
      stands = λ goes.
          subst (λ s. StandsAt goes.g p goes.t (record (with_parts goes.kept s files) { pending = goes.kept.pending ++ job_of who goes.call job blocks ∷ [] }) true goes.n goes.s) (sym staged.same)
          (subst
          (λ (d : Draft). StandsAt goes.g p goes.t (record (with_parts goes.kept new files) { pending = goes.kept.pending ++ record { who = who; call = goes.call; draft = d; blocks = blocks } ∷ [] }) true goes.n goes.s)
          (sym staged.job_is.draft) (is_out goes).stands);
    } where
      is_out : (goes : Goes mode k old files who target x) → IsJobStaged m p files who target x taken job.words blocks (ready_of fits small count_is spare goes)
      is_out goes = staged.staged (ready_of fits small count_is spare goes)

    -- ---- it goes back

    module _ (goes_one : Goes mode k old files who target x) where
      own_block : has_block taken.staging taken.block taken ≡ true
      own_block = has_first taken (omega (arith, (run_is count old new k l taken answer).count_is, some))

      -- no run that was out before is the same
      not_before : (place : ℕ) → slice_get old.out place ≡ Some taken → ⊥
      not_before place is =
          let apart = (with_run goes_one).apart taken (contains_at old.out place taken is) in
          let never : true ≡ false = sym own_block ∙ apart taken.staging taken.block own_block in
          cc

      pub out_again : (last : Staged) → IsGivenBack taken new last → last.out ≡ old.out
      out_again last back = by (slice_get-push old.out taken back.place taken (subst (λ xs. slice_get xs back.place ≡ Some taken) (run_is count old new k l taken answer).out_is back.was)) where
        by : (slice_get old.out back.place ≡ Some taken) ⊎ ((back.place ≡ length old.out) × (taken ≡ taken)) → last.out ≡ old.out
        by (inl before) = absurd (not_before back.place before)
        by (inr here) =
            ap (λ (s : Staged). s.out) back.now
            ∙ ((λ i. remove ((run_is count old new k l taken answer).out_is i) (here.0 i)) ∙ remove_last old.out taken)

      -- the World stands together without it
      pub goes_back : (p : View) (last : Staged) → RunGivenBack m p new last taken → GoesNoFurther mode k p old last files files who target x
      goes_back p last back = record {
        runs = ap length (out_again last back.back);
        stands = λ goes. subst (λ y. StandsAt goes.g y goes.t (with_parts goes.kept last files) true goes.n goes.s) (sym back.same) (now goes);
      } where
        out_is : last.out ≡ old.out
        out_is = out_again last back.back

        now : (goes : Goes mode k old files who target x) → StandsAt goes.g m goes.t (with_parts goes.kept last files) true goes.n goes.s
        now goes =
            let was = (onward goes).now in
            record {
              count = was.count;
              few = was.few;
              numbers = was.numbers;
              jobs = was.jobs;
              jobs_are = was.jobs_are;
              order = was.order;
              unbatched = was.unbatched;
              on = was.on;
              geometry = was.geometry;
              flying = was.flying;
              lines = record { lent = was.lines.lent; old = was.lines.old };
              quiet = was.quiet;
              blocks = was.blocks;
              callers = was.callers;
              spare = was.spare;
              tables = was.tables;
              open_are_files = was.open_are_files;
              ordered = was.ordered;
              sizes = was.sizes;
              bare = was.bare;
              staged = back.keeps;
              agrees = back.agrees was.agrees (there goes);
              free_single = back.single was.free_single (single goes);
              drafts = was.drafts;
              low = was.low;
              claims_out = λ d is. subst (λ xs. Contains xs (reserved_run d)) (sym out_is) (claims_then goes d is);
              jobs_out = λ p is. subst (λ xs. Contains xs (reserved_run p.draft)) (sym out_is) (goes.stands.jobs_out p is);
              owed =
                  let owed = owed_then goes in
                  let more = ap length (run_is count old new k l taken answer).out_is ∙ length-append old.out (taken ∷ []) in
                  let fewer = ap length out_is in
                  omega (arith, owed, more, fewer);
            }

  -- ---- the power goes while they are zeroed

  size_then : length l.cells ≡ length k.cells
  size_then = by answer where
    by : IsRun count old k new l taken → length l.cells ≡ length k.cells
    by (inl was) = ap (λ (y : View). length y.cells) was.same
    by (inr given) = given.given.2.changes.size

  lent_then : SameLent k.cells l.cells
  lent_then = by answer where
    by : IsRun count old k new l taken → SameLent k.cells l.cells
    by (inl was) = λ i. ap (λ (y : View). is_lent (cell y.cells i)) was.same
    by (inr given) = given.given.2.changes.lent

  -- what is kept over the volume with the run is kept over the one before
  kept_before : (goes : Goes mode k old files who target x) (cells : List Cell) (start : State) (history : List Item)
      → IsKeptBack l.volume cells goes.kept.first goes.kept.claims goes.stands.jobs start history ((who, goes.call) ∷ [])
      → IsKeptBack k.volume cells goes.kept.first goes.kept.claims goes.stands.jobs start history ((who, goes.call) ∷ [])
  kept_before goes cells start history kept = by answer where
    by : IsRun count old k new l taken → IsKeptBack k.volume cells goes.kept.first goes.kept.claims goes.stands.jobs start history ((who, goes.call) ∷ [])
    by (inl was) = subst (λ (y : View). IsKeptBack y.volume cells goes.kept.first goes.kept.claims goes.stands.jobs start history ((who, goes.call) ∷ [])) was.same kept
    by (inr given) =
        kept_over k.volume l.volume cells goes.kept.first goes.kept.claims goes.stands.jobs start history ((who, goes.call) ∷ [])
        (restaging.restages goes.g k goes.t (kept_of goes) true goes.n goes.s goes.stands taken.staging (share old k count) l.volume given.given.0 given.way.place.staging given.way.place.empty given.given.1 given.given.2.order.whole).geometry
        (restaging.same_base goes.g k goes.t (kept_of goes) true goes.n goes.s goes.stands taken.staging (share old k count) l.volume given.given.0 given.way.place.staging given.way.place.empty given.given.1 given.given.2.order.whole)
        (restaging.same_blocks goes.g k goes.t (kept_of goes) true goes.n goes.s goes.stands taken.staging (share old k count) l.volume given.given.0 given.way.place.staging given.way.place.empty given.given.1 given.given.2.order.whole
        goes.stands.jobs
        (restaging.none_out goes.g k goes.t (kept_of goes) true goes.n goes.s goes.stands taken.staging (share old k count) l.volume given.given.0 given.way.place.staging given.way.place.empty given.given.1 given.given.2.order.whole))
        kept

  pub loses_gap : (m : View) → LosesGap target.ino files l m → LosesTarget mode k m old files who target x
  loses_gap m loses = record {
    left = λ goes. left_through goes.g k.cells l.cells m.cells size_then lent_then (loses.left (has_file goes));
    kept = λ goes start history same mode.
        kept_before goes m.cells start history
        (subst (λ js. IsKeptBack l.volume m.cells goes.kept.first goes.kept.claims js start history ((who, goes.call) ∷ [])) (with_run goes).jobs_are
        (loses.kept (has_file goes) start history (who, goes.call) same mode));
  }
