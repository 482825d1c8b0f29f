-- A job of a World ends while the power is on.
use Rattle.std.specs.Prelude.{◌≡◌, ◌≢◌, ◌<◌, ◌≤◌, ◌+◌, ◌++◌, not, ℕ, suc, Bool, true, false, cond, List, [], ◌∷◌, length, map, Option, Some, None, AllPairs, slice_index, refl}
use Rattle.std.proofs.Common.{arith, ap, ◌∙◌, sym, subst, inl, inr, length-append}
use Rattle.file_calls.specs.eof_laws.pm_model.Cells.{cell, is_lent}
use Rattle.file_calls.specs.eof_laws.pm_model.ImageLaws.{IsImage-words_of}
use Rattle.file_calls.specs.eof_laws.pm_model.Images.{words_of}
use Rattle.file_calls.specs.eof_laws.layout_model.declared.lines.Draft.{Draft}
use Rattle.in_flight.specs.image_model.Volume.{Volume}
use Rattle.file_calls.specs.eof_laws.Ends.{FilesEnd}
use Rattle.in_flight.specs.file_table.Files.{Files}
use Rattle.in_flight.specs.k_split_model.View.{View}
use Rattle.file_calls.specs.eof_laws.list_laws.Filters.{filter-In, In-filter}
use Rattle.file_calls.specs.eof_laws.list_laws.Members.{In, pushed-In}
use Rattle.file_calls.specs.eof_laws.posix_types.declared.call.Who.{Who}
use Rattle.file_calls.specs.eof_laws.posix_tables.Open.{same_who, Tables}
use Rattle.in_flight.specs.posix_spec.Run.{after_call}
use Rattle.in_flight.specs.posix_spec.State.{State}
use Rattle.in_flight.specs.posix_spec.Step.{step}
use Rattle.in_flight.specs.posix_spec.Unfinished.{AreUnfinished, IsNextCall}
use Rattle.in_flight.specs.Histories.{Grows, grows}
use Rattle.in_flight.specs.staging_files.Keeps.{Staged}
use Rattle.in_flight.specs.world_image_laws.Settings.{setting_run}
use Rattle.in_flight.specs.world_image_laws.world_model.JobLaws.{live_used}
use Rattle.in_flight.specs.world_image_laws.world_model.TreeRules.{used_below}
use Rattle.in_flight.specs.live_model.Standing.{AreOfTwoThreads, IsSpellable, JobOut, StandsAt}
use Rattle.in_flight.specs.live_model.Jobs.{SpellCall, without}
use Rattle.file_calls.specs.eof_laws.posix_types.declared.call.Mode.{Mode}
use Rattle.write_end.specs.Ends.{begun_by, CanFinish, CanGiveUp, HasJob, HasWrite, LeavesFinished, LeavesGivenUp}
use Rattle.write_end.specs.Landing.{front_end}
use Rattle.in_flight.specs.write_jobs.Jobs.{FilledView}
use Rattle.write_end.proofs.Homes.{has_blocks_out}
use Rattle.write_end.proofs.Jobs.{block_of, some_blocks}
use Rattle.write_end.proofs.LosingPending.{job_of, stands_of}
use Rattle.in_flight.proofs.CountsCounts.{pairs}
use Rattle.in_flight.proofs.CountsJobs.{same_who-refl, spellable}
use Rattle.in_flight.proofs.Taking.{all_left, other_who}
use Rattle.world_view_laws.proofs.Modes.{no_job}
use Rattle.world_view_laws.specs.declared.views.over.Over.{Over}
use Rattle.write_end.specs.oplog_entry.declared.claims.Full.{Full}
use Rattle.world_view_laws.specs.Begins.{IsFilledOut, item_of, OthersStay}
use Rattle.world_view_laws.specs.Jobs.{HomesStay, over_by}
use Rattle.world_view_laws.proofs.OpenCalls.{next_of_job, open_returned, open_without}
use Rattle.world_view_laws.specs.Views.{AreCounted, Disk, disk_of, IsGoing, IsWorldOver, kept_of, state_of, WorldView}

-- ---- the jobs that are left

pub no_both : (b : Bool) → b ≡ true → b ≡ false → (X : Type 0) → X
no_both b one two X = absurd (subst P (sym one ∙ two) tt) where
  P : Bool → Type 0
  P true = Unit {0}
  P false = ⊥

-- one less is left
pub without_one : (who : Who) (pending : List JobOut) (p : JobOut) → AllPairs AreOfTwoThreads pending → In p pending → p.who ≡ who → length (without who pending) + 1 ≡ length pending
without_one who [] p two at own = absurd at
without_one who (x ∷ pending) p two (inl same) own =
    let here : x.who ≡ who = ap (λ (y : JobOut). y.who) same ∙ own in
    let drop : length (cond (not (same_who x.who who)) (x ∷ without who pending) (without who pending)) ≡ length (without who pending) = ap (λ b. length (cond (not b) (x ∷ without who pending) (without who pending))) (ap (λ v. same_who v who) here ∙ same_who-refl who) in
    let rest : length (without who pending) ≡ length pending =
    ap length (all_left who pending (λ q is equal. no_both (same_who x.who q.who) (ap (λ v. same_who v q.who) (here ∙ sym equal) ∙ same_who-refl q.who) (pairs AreOfTwoThreads x pending two q is).other ⊥))
    in
    omega (arith, drop, rest)
without_one who (x ∷ pending) p two (inr at) own =
    let keep : length (cond (not (same_who x.who who)) (x ∷ without who pending) (without who pending)) ≡ length (x ∷ without who pending) =
    ap (λ b. length (cond (not b) (x ∷ without who pending) (without who pending))) (ap (same_who x.who) (sym own) ∙ (pairs AreOfTwoThreads x pending two p at).other)
    in
    let rest = without_one who pending p (λ m n d before below. two (suc m) (suc n) d (omega (arith, before)) (omega (arith, below))) at own in
    omega (arith, keep, rest)

left_test : (who : Who) (q : JobOut) → not (same_who q.who who) ≡ true → q.who ≢ who
left_test who q is same = no_both (not (same_who q.who who)) is (ap not (ap (λ v. same_who v who) same ∙ same_who-refl who)) ⊥

pub left_of : (who : Who) (pending : List JobOut) (q : JobOut) → In q (without who pending) → In q pending × (q.who ≢ who)
left_of who pending q at = let is = filter-In (λ (p : JobOut). not (same_who p.who who)) pending q at in (is.0, left_test who q is.1)

pub stays_in : (who : Who) (pending : List JobOut) (q : JobOut) → In q pending → q.who ≢ who → In q (without who pending)
stays_in who pending q at other = In-filter (λ (p : JobOut). not (same_who p.who who)) pending q at (ap not (other_who q.who who other))

-- ---- the World of a job that is out

module _ (k : View) (t : Tables) (staging : Staged) (files : Files) (w : WorldView) (world : IsWorldOver k t staging files w) (on : w.lost ≡ false) (out : w.lines_out ≡ true)
    (p : JobOut) (job : FilledView) (is_out : IsFilledOut w p job) where
  going : IsGoing k t staging files w
  going = world.going on

  -- a job is out, so the mode is not POSIX mode
  pub other : w.start.mode ≢ Mode.Posix
  other = no_job k t staging files w going p is_out.there

  pub standing : StandsAt w.geometry k t (kept_of w staging files) true (length w.history) (state_of w)
  standing = subst (λ b. StandsAt w.geometry k t (kept_of w staging files) b (length w.history) (state_of w)) out (going.stands other)

  -- what an end of the job asks for
  abbrev pub has : HasJob k job
  has = record {
    g = w.geometry;
    t = t;
    kept = kept_of w staging files;
    n = length w.history;
    s = state_of w;
    p = p;
    stands = standing;
    out = record { there = is_out.there; who = is_out.who; draft = is_out.draft; blocks = is_out.blocks; words = is_out.words };
  }

  pub mode_is : has.s.mode ≡ w.start.mode
  mode_is = (setting_run w.start w.history).mode

  pub has_write : HasWrite k job t files p.call has
  has_write = record { tables = refl; files_are = refl; call_is = refl; mode = λ posix. other (sym mode_is ∙ posix) }

  pub can_finish : CanFinish k job t files p.call
  can_finish = (has, has_write)

  pub can_give_up : CanGiveUp k job staging
  can_give_up = (has, refl)

  -- its file has a size, and its blocks begin within it
  pub has_size : p.draft.ino < length files.sizes
  has_size =
      let its = job_of w.pending standing.jobs p standing.jobs_are is_out.there in
      let world_on = standing.flying.device.world (words_of k.cells) (IsImage-words_of k.cells) in
      let stood = stands_of k.volume _ _ _ (state_of w) standing.jobs its.job world_on.valid.out its.there in
      let low = used_below k.volume its.job.draft.ino (live_used k.volume its.job.draft stood.alive) in
      omega (arith, low, standing.sizes.count, ap (λ (d : Draft). d.ino) its.draft)

  some_block : 0 < p.draft.count
  some_block =
      let its = job_of w.pending standing.jobs p standing.jobs_are is_out.there in
      let world_on = standing.flying.device.world (words_of k.cells) (IsImage-words_of k.cells) in
      let stood = stands_of k.volume _ _ _ (state_of w) standing.jobs its.job world_on.valid.out its.there in
      subst (λ (d : Draft). 0 < d.count) its.draft (some_blocks its.job.draft stood.draft)

  pub begins_within : front_end p.draft ≤ p.draft.size
  begins_within = omega (arith, going.drafts_end p is_out.there, some_block)

  -- its first block is one of its blocks
  pub first_block : In (slice_index p.blocks 0) p.blocks
  first_block =
      let blocks = standing.blocks p is_out.there in
      block_of k.volume p (slice_index p.blocks 0) blocks (0, some_block, blocks.each 0 some_block)

  -- the blocks of all jobs are out, and so no block of another job was at home
  pub homes_on : (new : WorldView) → HomesStay p w new
  homes_on new q there apart home i block =
      let lent = has_blocks_out w.geometry k t (kept_of w staging files) (length w.history) (state_of w) q standing there i block in
      no_both (is_lent (cell k.cells i)) lent (ap (λ (d : Disk). is_lent (cell d.cells i)) (sym world.disk_is) ∙ home i block) _

  callers : AllPairs AreOfTwoThreads w.pending
  callers = standing.callers

  one_less : length (without p.who w.pending) + 1 ≡ length w.pending
  one_less = without_one p.who w.pending p callers is_out.there refl

  -- ---- it finishes

  abbrev pub finish_view : ℕ → View → Tables → Files → WorldView
  finish_view slot l u laid = record w {
    history = w.history ++ item_of w p.who p.call ∷ [];
    claims = w.claims ++ (slot, p.draft) ∷ [];
    pending = without p.who w.pending;
    acts = w.acts + 1;
    disk = disk_of l u staging laid;
  }

  own_next : IsNextCall w.scripts w.history (begun_by p)
  own_next = next_of_job w.scripts w.history w.pending w.unfinished world.open_calls p is_out.there

  grown : Grows w.start w.scripts w.history (w.history ++ item_of w p.who p.call ∷ []) p.who p.call
  grown = grows w.start w.scripts w.history (w.history ++ item_of w p.who p.call ∷ []) p.who p.call (step (state_of w) p.who p.call).outcome world.legal world.scripted own_next.call own_next.set_up refl refl

  module _ (slot : ℕ) (l : View) (u : Tables) (laid : Files) (same : l ≡ record k { cells = l.cells }) (leaves : LeavesFinished k job has slot l u laid) (ends : FilesEnd l.volume laid) where
    stands2 : StandsAt w.geometry l u (kept_of (finish_view slot l u laid) staging laid) true (length (w.history ++ item_of w p.who p.call ∷ [])) (state_of (finish_view slot l u laid))
    stands2 =
        subst (StandsAt w.geometry l u (kept_of (finish_view slot l u laid) staging laid) true (length (w.history ++ item_of w p.who p.call ∷ []))) (sym grown.run_is)
        (subst (λ n. StandsAt w.geometry l u (kept_of (finish_view slot l u laid) staging laid) true n (after_call (state_of w) (p.who, p.call))) (sym grown.longer) leaves.stands)

    open2 : AreUnfinished w.scripts (w.history ++ item_of w p.who p.call ∷ []) (map begun_by (without p.who w.pending) ++ w.unfinished)
    open2 =
        open_returned w.scripts w.history (without p.who w.pending) w.unfinished (item_of w p.who p.call) going.none_unfinished own_next.call (λ q at. (left_of p.who w.pending q at).1)
        (open_without w.scripts w.history p.who w.pending w.unfinished world.open_calls)

    spelled2 : (s : ℕ) (d : Draft) → In (s, d) (w.claims ++ (slot, p.draft) ∷ []) → IsSpellable d
    spelled2 s d at = elim (pushed-In w.claims (slot, p.draft) (s, d) at) [
      | inl old ↦ going.spelled s d old
      | inr one ↦ subst IsSpellable (ap (λ (c : ℕ × Draft). c.1) one) (spellable w.geometry k t (kept_of w staging files) _ (length w.history) (state_of w) standing p is_out.there)
    ]

    going2 : IsGoing l u staging laid (finish_view slot l u laid)
    going2 = record {
      stands = λ mode. subst (λ b. StandsAt w.geometry l u (kept_of (finish_view slot l u laid) staging laid) b (length (w.history ++ item_of w p.who p.call ∷ [])) (state_of (finish_view slot l u laid))) (sym out) stands2;
      gathers = λ posix. absurd (other posix);
      waits = λ posix. absurd (other posix);
      counted = λ mode. (let was = going.counted mode in omega (arith, was, one_less, length-append w.claims ((slot, p.draft) ∷ [])));
      runs = λ settled. absurd (omega (arith, settled, world.counted.settled, grown.longer));
      bare = going.bare;
      none_unfinished = going.none_unfinished;
      none_home = going.none_home;
      base = going.base ∙ sym (ap (λ (x : View). x.volume.base) same);
      spelled = spelled2;
      ends = ends;
      drafts_end = λ q at. going.drafts_end q (left_of p.who w.pending q at).0;
      log_home = λ home. no_both w.lines_out out home _;
    }

    counted2 : AreCounted (finish_view slot l u laid)
    counted2 = record {
      settled = omega (arith, world.counted.settled, grown.longer);
      fresh = world.counted.fresh;
      out = omega (arith, world.counted.out, one_less);
      claimed = λ still some. omega (arith, world.counted.settled, grown.longer);
      late = λ over. inr (inr (omega (arith, world.counted.settled, grown.longer)));
      acts = omega (arith, world.counted.acts, world.counted.settled, grown.longer, one_less);
      acts_on = λ still. omega (arith, world.counted.acts_on on, world.counted.settled, grown.longer, one_less);
      acts_going = λ still none. omega (arith, world.counted.acts_going on none, world.counted.settled, grown.longer, one_less);
      low = world.counted.low;
    }

    -- A JOB FINISHED.
    pub finished_on : IsWorldOver l u staging laid (finish_view slot l u laid)
    finished_on = record {
      mode = world.mode;
      few = world.few;
      threads = world.threads;
      spelled = world.spelled;
      legal = grown.legal;
      scripted = grown.scripted;
      open_calls = open2;
      counted = counted2;
      disk_is = refl;
      going = λ still. going2;
      gone = λ off. no_both w.lost off on _;
    }

    words2 : (q : JobOut) (words : List ℕ) → In q (without p.who w.pending) → SpellCall (state_of w) q words → SpellCall (state_of (finish_view slot l u laid)) q words
    words2 q words at spells = subst (λ (s : State). SpellCall s q words) (sym grown.run_is) (leaves.words q words at spells)

    -- the jobs of others stay out
    pub others_on : OthersStay w (finish_view slot l u laid) p.who
    others_on = (
      λ q other apart is. (
          let at = stays_in p.who w.pending q is.there apart in
          record { there = at; who = is.who; draft = is.draft; blocks = is.blocks; words = words2 q other.words at is.words; lent = has_blocks_out w.geometry l u (kept_of (finish_view slot l u laid) staging laid) _ _ q stands2 at }),
      λ q other apart is. (
          let at = stays_in p.who w.pending q is.there apart in
          record { there = at; who = is.who; draft = is.draft; blocks = is.blocks; words = words2 q other.words at is.words; lent = has_blocks_out w.geometry l u (kept_of (finish_view slot l u laid) staging laid) _ _ q stands2 at }),
    )

  -- ---- it is given up

  abbrev pub give_view : Full → View → Staged → WorldView
  give_view full l given = record w { pending = without p.who w.pending; over = Some (over_by w.over full); given_up = w.given_up + 1; disk = disk_of l t given files }

  module _ (full : Full) (l : View) (given : Staged) (same : l ≡ record k { cells = l.cells }) (runs : length given.out + 1 ≡ length staging.out) (leaves : LeavesGivenUp k job has l given) where
    going3 : IsGoing l t given files (give_view full l given)
    going3 = record {
      stands = λ mode. subst (λ b. StandsAt w.geometry l t (kept_of (give_view full l given) given files) b (length w.history) (state_of w)) (sym out) leaves.stands;
      gathers = λ posix. absurd (other posix);
      waits = λ posix. absurd (other posix);
      counted = λ mode. (let was = going.counted mode in omega (arith, was, one_less, runs));
      runs = λ settled. (let was = going.runs settled in omega (arith, was, one_less, runs));
      bare = λ goes none. absurd (let never : Some (over_by w.over full) ≡ None = goes in cc);
      none_unfinished = going.none_unfinished;
      none_home = going.none_home;
      base = going.base ∙ sym (ap (λ (x : View). x.volume.base) same);
      spelled = going.spelled;
      ends = subst (λ (v : Volume). FilesEnd v files) (sym (ap (λ (x : View). x.volume) same)) going.ends;
      drafts_end = λ q at. going.drafts_end q (left_of p.who w.pending q at).0;
      log_home = λ home. no_both w.lines_out out home _;
    }

    counted3 : AreCounted (give_view full l given)
    counted3 = record {
      settled = world.counted.settled;
      fresh = λ none. absurd (no_over none);
      out = omega (arith, world.counted.out, one_less);
      claimed = world.counted.claimed;
      late = λ over. inr (inl (omega arith));
      acts = omega (arith, world.counted.acts, one_less);
      acts_on = λ still. omega (arith, world.counted.acts_on on, one_less);
      acts_going = λ still none. absurd (no_over none);
      low = world.counted.low;
    } where
      no_over : Some (over_by w.over full) ≡ None → ⊥
      no_over none = no_both true refl (ap is_over none) ⊥ where
        is_over : Option Over → Bool
        is_over None = false
        is_over (Some o) = true

    -- A JOB WAS GIVEN UP.
    pub given_on : IsWorldOver l t given files (give_view full l given)
    given_on = record {
      mode = world.mode;
      few = world.few;
      threads = world.threads;
      spelled = world.spelled;
      legal = world.legal;
      scripted = world.scripted;
      open_calls = open_without w.scripts w.history p.who w.pending w.unfinished world.open_calls;
      counted = counted3;
      disk_is = refl;
      going = λ still. going3;
      gone = λ off. no_both w.lost off on _;
    }

    pub others_given_on : OthersStay w (give_view full l given) p.who
    others_given_on = (
      λ q other apart is. (
          let at = stays_in p.who w.pending q is.there apart in
          record { there = at; who = is.who; draft = is.draft; blocks = is.blocks; words = is.words; lent = has_blocks_out w.geometry l t (kept_of (give_view full l given) given files) _ _ q leaves.stands at }),
      λ q other apart is. (
          let at = stays_in p.who w.pending q is.there apart in
          record { there = at; who = is.who; draft = is.draft; blocks = is.blocks; words = is.words; lent = has_blocks_out w.geometry l t (kept_of (give_view full l given) given files) _ _ q leaves.stands at }),
    )
