-- The power of a World goes.
use Rattle.std.specs.Prelude.{◌≡◌, ◌≢◌, ◌≤◌, ◌+◌, ◌*◌, ◌/◌, ◌++◌, ℕ, Bool, true, false, List, [], ◌∷◌, length, map, Some, None, refl}
use Rattle.std.proofs.Common.{arith, ap, ◌∙◌, sym, subst, inl, inr}
use Rattle.std.proofs.Math.Path.{fun_ext}
use Rattle.file_calls.specs.batch_laws.Together.{PosixStandsAt}
use Rattle.file_calls.specs.eof_laws.pm_model.declared.Cell.{Cell}
use Rattle.file_calls.specs.eof_laws.pm_model.Cells.{cell, is_lent, IsCandidate}
use Rattle.file_calls.specs.eof_laws.pm_model.Words.{Words}
use Rattle.file_calls.specs.eof_laws.layout_model.Places.{log_line}
use Rattle.in_flight.specs.image_model.Honest.{IsHonest}
use Rattle.in_flight.specs.file_table.Files.{Files}
use Rattle.in_flight.specs.k_split_model.View.{View}
use Rattle.in_flight.specs.block_io.Lines.{LinesComeBack}
use Rattle.file_calls.specs.eof_laws.list_laws.Members.{In}
use Rattle.file_calls.specs.eof_laws.posix_tables.Open.{Tables}
use Rattle.in_flight.specs.posix_spec.Run.{Unfinished}
use Rattle.in_flight.specs.posix_spec.Unfinished.{AreUnfinished}
use Rattle.in_flight.specs.staging_files.Keeps.{Staged}
use Rattle.in_flight.specs.world_image_laws.Promised.{IsKept, KeepsPromise}
use Rattle.in_flight.specs.live_model.Jobs.{without}
use Rattle.in_flight.specs.live_model.Standing.{JobOut}
use Rattle.write_end.specs.oplog_entry.declared.claims.Full.{Full}
use Rattle.write_end.specs.Ends.{begun_by}
use Rattle.in_flight.specs.write_jobs.Jobs.{FilledView, HoldWords}
use Rattle.write_end.specs.write_jobs.Loans.{ComeBack}
use Rattle.write_end.specs.Blocks.{AreBlocksHome, AreBlocksOut}
use Rattle.write_end.specs.LosingLaws.{ComesHome}
use Rattle.write_end.specs.Lost.{IsLostWith}
use Rattle.world_view_laws.proofs.Ending.{stays_in, without_one}
use Rattle.world_view_laws.proofs.Modes.{geometry_now, in_each, none_at_home, size_of_device}
use Rattle.world_view_laws.proofs.PosixLosing.{posix_found_lost, posix_keeps_home}
use Rattle.world_view_laws.proofs.OpenCalls.{open_without}
use Rattle.write_end.proofs.Crashed.{keeps_home}
use Rattle.write_end.proofs.Ended.{comes_home_alone, finishes_lost, gives_up_lost}
use Rattle.write_end.proofs.Going.{found_at_call, found_lost}
use Rattle.world_view_laws.specs.Laws.{BothAreHome}
use Rattle.world_view_laws.specs.Begins.{IsFilledOut, OthersStay}
use Rattle.world_view_laws.specs.Jobs.{over_by}
use Rattle.world_view_laws.specs.Views.{AreCounted, Disk, disk_of, IsGoing, IsLost, IsLostHome, IsLostOut, IsWorldOver, kept_of, most_acts, state_of, WorldView}

-- ---- what a loss makes of the view

-- the World once it lost its power, with these calls unfinished beside the jobs
abbrev pub lost_view : WorldView → List Unfinished → ℕ → Disk → WorldView
lost_view w unfinished acts disk = record w { unfinished = unfinished; acts = acts; disk = disk; lost = true }

never : true ≡ false → (X : Type 0) → X
never is X = let P : Bool → Type 0 = pick in absurd (subst P is tt) where
  pick : Bool → Type 0
  pick true = Unit {0}
  pick false = ⊥

counted_lost : (w : WorldView) (unfinished : List Unfinished) (acts : ℕ) (disk : Disk) → AreCounted w → acts ≤ most_acts w + 2 → AreCounted (lost_view w unfinished acts disk)
counted_lost w unfinished acts disk counted few = record {
  settled = counted.settled;
  fresh = counted.fresh;
  out = counted.out;
  claimed = λ on. never on _;
  late = counted.late;
  acts = few;
  acts_on = λ on. never on _;
  acts_going = λ on. never on _;
  low = counted.low;
}

pub world_lost : (k l : View) (t u : Tables) (staging staged : Staged) (files filed : Files) (w : WorldView) (unfinished : List Unfinished) (acts : ℕ) → IsWorldOver k t staging files w → acts ≤ most_acts w + 2
    → AreUnfinished w.scripts w.history (map begun_by w.pending ++ unfinished)
    → IsLost staged filed (lost_view w unfinished acts (disk_of l u staged filed)) w.lines_out → IsWorldOver l u staged filed (lost_view w unfinished acts (disk_of l u staged filed))
world_lost k l t u staging staged files filed w unfinished acts world few opens lost = record {
  mode = world.mode;
  few = world.few;
  threads = world.threads;
  spelled = world.spelled;
  legal = world.legal;
  scripted = world.scripted;
  open_calls = opens;
  counted = counted_lost w unfinished acts (disk_of l u staged filed) world.counted few;
  disk_is = refl;
  going = λ on. never on _;
  gone = λ off. lost;
}

-- ---- found off

module _ (k : View) (t : Tables) (staging : Staged) (files : Files) (w : WorldView) (world : IsWorldOver k t staging files w) (on : w.lost ≡ false) where
  going : IsGoing k t staging files w
  going = world.going on

  pub size_now : length k.cells ≡ 512 * w.geometry.blocks
  size_now = size_of_device k t staging files w going

  -- with the log's lines out, and no call beside the jobs, or one
  off_out : (unfinished : List Unfinished) (acts : ℕ) → IsLostWith k.volume k.cells (kept_of w staging files) w.start w.history unfinished → IsLostOut staging files (lost_view w unfinished acts (disk_of k t staging files))
  off_out unfinished acts lost = record {
    volume = k.volume;
    geometry = geometry_now k t staging files w going;
    base = sym going.base;
    none_home = going.none_home;
    size = size_now;
    at = lost;
  }

  -- in POSIX mode, whatever is unfinished
  posix_off : (unfinished : List Unfinished) → PosixStandsAt w.geometry k t (kept_of w staging files) true (length w.history) w.start w.history → IsLostWith k.volume k.cells (kept_of w staging files) w.start w.history unfinished
  posix_off unfinished stands = posix_found_lost w.geometry k t (kept_of w staging files) (length w.history) w.start w.history unfinished stands

  none_found : w.lines_out ≡ true → IsLostWith k.volume k.cells (kept_of w staging files) w.start w.history []
  none_found out =
      in_each k t staging files w going (IsLostWith k.volume k.cells (kept_of w staging files) w.start w.history []) true out
      (λ other stands. found_lost w.geometry k t (kept_of w staging files) (length w.history) w.start w.history other stands going.spelled) (λ posix stands. posix_off [] stands)

  -- or at a call
  call_found : (c : Unfinished) → w.lines_out ≡ true → IsLostWith k.volume k.cells (kept_of w staging files) w.start w.history (c ∷ [])
  call_found c out =
      in_each k t staging files w going (IsLostWith k.volume k.cells (kept_of w staging files) w.start w.history (c ∷ [])) true out
      (λ other stands. found_at_call w.geometry k t (kept_of w staging files) (length w.history) w.start w.history c other stands going.spelled) (λ posix stands. posix_off (c ∷ []) stands)

  pub off_none : (acts : ℕ) → w.lines_out ≡ true → IsLostOut staging files (lost_view w [] acts (disk_of k t staging files))
  off_none acts out = off_out [] acts (none_found out)

  pub off_call : (acts : ℕ) (c : Unfinished) → w.lines_out ≡ true → IsLostOut staging files (lost_view w (c ∷ []) acts (disk_of k t staging files))
  off_call acts c out = off_out (c ∷ []) acts (call_found c out)

  -- with them at home
  empty : length w.home ≡ 0
  empty = ap length going.none_home

  same_cells : (e : List Cell) → LinesComeBack (log_line w.geometry 0) w.home k.cells e → cell k.cells ≡ cell e
  same_cells e comes = fun_ext (λ i. sym (comes.others i (λ within. omega (arith, within, empty))))

  -- then the promise is kept
  promise_home : (unfinished : List Unfinished) → w.lines_out ≡ false → KeepsPromise w.geometry k.cells w.start w.history unfinished
  promise_home unfinished home =
      in_each k t staging files w going (KeepsPromise w.geometry k.cells w.start w.history unfinished) false home
      (λ other stands. keeps_home w.geometry k t (kept_of w staging files) (length w.history) w.start w.history unfinished stands)
      (λ posix stands. posix_keeps_home w.geometry k t (kept_of w staging files) (length w.history) w.start w.history unfinished stands)

  pub off_home : (unfinished : List Unfinished) (acts : ℕ) → w.lines_out ≡ false → IsLostHome (lost_view w unfinished acts (disk_of k t staging files))
  off_home unfinished acts home = record {
    none = none_at_home k t staging files w going home;
    size = size_now;
    few = omega (arith, empty);
    places = λ n below. absurd (omega (arith, below, empty));
    out = λ i within. absurd (omega (arith, within, empty));
    keeps = λ e comes. (
      λ i. ap (λ (f : ℕ → Cell). is_lent (f i)) (sym (same_cells e comes.back)) ∙ (going.log_home home).home i,
      subst (λ (f : ℕ → Cell). (image : Words) → ((i : ℕ) → IsCandidate (f i) (image i)) → IsHonest w.geometry f image → IsKept w.geometry w.start w.history (map begun_by w.pending ++ unfinished) image) (same_cells e comes.back)
          (promise_home (map begun_by w.pending ++ unfinished) home),
    );
  }

  few_acts : w.acts ≤ most_acts w + 2
  few_acts = world.counted.acts

  off_by : (acts : ℕ) (lines : Bool) → w.lines_out ≡ lines → IsLost staging files (lost_view w [] acts (disk_of k t staging files)) lines
  off_by acts true out = off_none acts out
  off_by acts false home = off_home [] acts home

  off_at : (acts : ℕ) → acts ≤ most_acts w + 2 → IsWorldOver k t staging files (lost_view w [] acts (disk_of k t staging files))
  off_at acts few =
      world_lost k k t t staging staging files files w [] acts world few
      (subst (λ (cs : List Unfinished). AreUnfinished w.scripts w.history (map begun_by w.pending ++ cs)) going.none_unfinished world.open_calls) (off_by acts w.lines_out refl)

  -- THE POWER IS FOUND OFF, or lost elsewhere,
  pub world_off : IsWorldOver k t staging files (lost_view w [] w.acts (disk_of k t staging files))
  world_off = off_at w.acts few_acts

  -- or it is found off where a job ends: that is one act.
  pub world_off_acted : IsWorldOver k t staging files (lost_view w [] (w.acts + 1) (disk_of k t staging files))
  world_off_acted = off_at (w.acts + 1) (omega (arith, world.counted.acts_on on))

  call_by : (c : Unfinished) (lines : Bool) → w.lines_out ≡ lines → IsLost staging files (lost_view w (c ∷ []) (w.acts + 1) (disk_of k t staging files)) lines
  call_by c true out = off_call (w.acts + 1) c out
  call_by c false home = off_home (c ∷ []) (w.acts + 1) home

  -- or it is, where a call begins.
  pub call_off : (c : Unfinished) → AreUnfinished w.scripts w.history (map begun_by w.pending ++ c ∷ []) → IsWorldOver k t staging files (lost_view w (c ∷ []) (w.acts + 1) (disk_of k t staging files))
  call_off c opens = world_lost k k t t staging staging files files w (c ∷ []) (w.acts + 1) world (omega (arith, world.counted.acts_on on)) opens (call_by c w.lines_out refl)

-- ---- jobs end after it

module _ (k l : View) (t : Tables) (staging : Staged) (files : Files) (w : WorldView) (world : IsWorldOver k t staging files w) (off : w.lost ≡ true) (out : w.lines_out ≡ true)
    (p : JobOut) (job : FilledView) (is_out : IsFilledOut w p job) (holds : HoldWords job.loans job.words) (back : ComeBack job.loans w.disk.cells l.cells) where
  gone : IsLostOut staging files w
  gone = subst (IsLost staging files w) out (world.gone off)

  comes : ComesHome w.disk.cells l.cells (kept_of w staging files) (state_of w) p job
  comes = record {
    out = record { there = is_out.there; who = is_out.who; draft = is_out.draft; blocks = is_out.blocks; words = is_out.words };
    lent = is_out.lent;
    holds = holds;
    back = back;
  }

  alone : AreBlocksHome p.blocks l.cells × ((q : JobOut) (i : ℕ) → In q w.pending → q.who ≢ p.who → In (i / 512) q.blocks → cell l.cells i ≡ cell w.disk.cells i)
  alone = comes_home_alone gone.volume w.disk.cells l.cells (kept_of w staging files) w.start w.history w.unfinished p job gone.at comes

  -- the blocks of the job are at home
  pub blocks_home : AreBlocksHome p.blocks l.cells
  blocks_home = alone.0

  pub blocks_stay : (q : JobOut) → In q w.pending → q.who ≢ p.who → AreBlocksOut q.blocks w.disk.cells → AreBlocksOut q.blocks l.cells
  blocks_stay q there other was i block = ap is_lent (alone.1 q i there other block) ∙ was i block

  -- those of others that are at home stay there
  pub homes_stay : (q : JobOut) → In q w.pending → q.who ≢ p.who → AreBlocksHome q.blocks w.disk.cells → AreBlocksHome q.blocks l.cells
  homes_stay q there other home i block = ap is_lent (alone.1 q i there other block) ∙ home i block

  -- what the World is once the job finished, after these acts
  abbrev pub finished_view : ℕ → ℕ → WorldView
  finished_view slot acts = record w { claims = w.claims ++ (slot, p.draft) ∷ []; acts = acts; disk = disk_of l t staging files; lost = true }

  finished_out : (slot acts : ℕ) → IsLostOut staging files (finished_view slot acts)
  finished_out slot acts = record {
    volume = gone.volume;
    geometry = gone.geometry;
    base = gone.base;
    none_home = gone.none_home;
    size = back.size ∙ gone.size;
    at = finishes_lost gone.volume w.disk.cells l.cells (kept_of w staging files) w.start w.history w.unfinished p job slot gone.at comes;
  }

  counted_finished : (slot acts : ℕ) → acts ≤ most_acts w + 2 → AreCounted (finished_view slot acts)
  counted_finished slot acts few = record {
    settled = world.counted.settled;
    fresh = world.counted.fresh;
    out = world.counted.out;
    claimed = λ on. never on _;
    late = world.counted.late;
    acts = few;
    acts_on = λ on. never on _;
    acts_going = λ on. never on _;
    low = world.counted.low;
  }

  -- A JOB FINISHED AFTER THE LOSS.
  pub finished_lost : (slot acts : ℕ) → acts ≤ most_acts w + 2 → IsWorldOver l t staging files (finished_view slot acts)
  finished_lost slot acts few = record {
    mode = world.mode;
    few = world.few;
    threads = world.threads;
    spelled = world.spelled;
    legal = world.legal;
    scripted = world.scripted;
    open_calls = world.open_calls;
    counted = counted_finished slot acts few;
    disk_is = refl;
    going = λ on. never on _;
    gone = λ lost. subst (IsLost staging files (finished_view slot acts)) (sym out) (finished_out slot acts);
  }

  -- the jobs of others stay out
  pub others_finished : (slot acts : ℕ) → OthersStay w (finished_view slot acts) p.who
  others_finished slot acts = (
    λ q other apart is. record { there = is.there; who = is.who; draft = is.draft; blocks = is.blocks; words = is.words; lent = blocks_stay q is.there apart is.lent },
    λ q other apart is. record { there = is.there; who = is.who; draft = is.draft; blocks = is.blocks; words = is.words; lent = blocks_stay q is.there apart is.lent },
  )

  -- what it is once the job was given up
  abbrev pub given_view : Full → WorldView
  given_view full = record w { pending = without p.who w.pending; over = Some (over_by w.over full); given_up = w.given_up + 1; disk = disk_of l t staging files }

  pub one_less : length (without p.who w.pending) + 1 ≡ length w.pending
  one_less = without_one p.who w.pending p gone.at.callers is_out.there refl

  module _ (full : Full) where
    given_out : IsLostOut staging files (given_view full)
    given_out = record {
      volume = gone.volume;
      geometry = gone.geometry;
      base = gone.base;
      none_home = gone.none_home;
      size = back.size ∙ gone.size;
      at = gives_up_lost gone.volume w.disk.cells l.cells (kept_of w staging files) w.start w.history w.unfinished p job gone.at comes;
    }

    counted_given : AreCounted (given_view full)
    counted_given = record {
      settled = world.counted.settled;
      fresh = λ none. absurd (let no_cause : Some (over_by w.over full) ≡ None = none in cc);
      out = omega (arith, world.counted.out, one_less);
      claimed = λ on. never (sym off ∙ on) _;
      late = λ over. inr (inl (omega arith));
      acts = omega (arith, world.counted.acts, one_less);
      acts_on = λ on. never (sym off ∙ on) _;
      acts_going = λ on. never (sym off ∙ on) _;
      low = world.counted.low;
    }

    -- OR IT WAS GIVEN UP.
    pub given_lost : IsWorldOver l t staging files (given_view full)
    given_lost = record {
      mode = world.mode;
      few = world.few;
      threads = world.threads;
      spelled = world.spelled;
      legal = world.legal;
      scripted = world.scripted;
      open_calls = open_without w.scripts w.history p.who w.pending w.unfinished world.open_calls;
      counted = counted_given;
      disk_is = refl;
      going = λ on. never (sym off ∙ on) _;
      gone = λ lost. subst (IsLost staging files (given_view full)) (sym out) given_out;
    }

    pub others_given : OthersStay w (given_view full) p.who
    others_given = (
      λ q other apart is. record { there = stays_in p.who w.pending q is.there apart; who = is.who; draft = is.draft; blocks = is.blocks; words = is.words; lent = blocks_stay q is.there apart is.lent },
      λ q other apart is. record { there = stays_in p.who w.pending q is.there apart; who = is.who; draft = is.draft; blocks = is.blocks; words = is.words; lent = blocks_stay q is.there apart is.lent },
    )

-- ---- two jobs end, one behind the other

pub both_are_home : BothAreHome
both_are_home slot next p q old middle new power later apart at first second =
    (second.homes p (subst (In p) (sym (ap (λ (w : WorldView). w.pending) first.new_is)) at) apart first.back, second.back)
