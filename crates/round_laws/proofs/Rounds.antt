-- A checkpoint: the World goes on with the next round, or is lost.
use Rattle.std.specs.Prelude.{◌≡◌, ◌≢◌, ◌≤◌, ◌<◌, ◌+◌, ◌-◌, ◌*◌, ◌/◌, ◌%◌, ◌++◌, ℕ, Bool, true, false, List, [], length, map, Option, Some, None, IsSome, Ok, refl}
use Rattle.std.proofs.Common.{arith, ap, ◌∙◌, sym, subst, inl, inr}
use Rattle.std.proofs.Math.Nat.{mul-le-mul_left}
use Rattle.std.proofs.Math.Path.{fun_ext}
use Rattle.world_view_laws.specs.eof_laws.pm_model.declared.Cell.{Cell}
use Rattle.world_view_laws.specs.eof_laws.pm_model.Cells.{AllHome, cell, is_lent, IsCandidate}
use Rattle.world_view_laws.specs.eof_laws.pm_model.ImageLaws.{IsImage-words_of}
use Rattle.world_view_laws.specs.eof_laws.pm_model.Images.{words_of}
use Rattle.world_view_laws.specs.eof_laws.pm_model.Parts.{Part}
use Rattle.world_view_laws.specs.eof_laws.pm_model.Words.{Words}
use Rattle.world_view_laws.specs.eof_laws.block_io.Overwrites.{IsInLines}
use Rattle.world_view_laws.specs.write_end.CrashesLaws.{KeepsCrashed, LinesHoldOut}
use Rattle.world_view_laws.specs.eof_laws.layout_model.Places.{Geometry, log_line}
use Rattle.world_view_laws.specs.eof_laws.image_model.Honest.{IsHonest}
use Rattle.world_view_laws.specs.eof_laws.image_model.Volume.{Volume}
use Rattle.world_view_laws.specs.eof_laws.file_table.Files.{Files}
use Rattle.world_view_laws.specs.file_publish.GathersLaws.{HasGathered, KeepsGathered, StandsGathered}
use Rattle.world_view_laws.specs.file_publish.staging_files.GivesUp.{nothing_staged}
use Rattle.world_view_laws.specs.file_publish.staging_files.Keeps.{Staged}
use Rattle.world_view_laws.specs.world_image_laws.Promised.{IsKept, KeepsPromise}
use Rattle.world_view_laws.specs.file_publish.live_model.Standing.{JobOut, StandsAt}
use Rattle.world_view_laws.specs.file_publish.RoundLinesLaws.{StandsHome}
use Rattle.world_view_laws.specs.eof_laws.k_journal.declared.outcomes.Commit.{Commit}
use Rattle.world_view_laws.specs.eof_laws.k_split_model.View.{View}
use Rattle.world_view_laws.specs.eof_laws.block_io.Lines.{LinesComeBack}
use Rattle.world_view_laws.specs.eof_laws.list_laws.Members.{In}
use Rattle.world_view_laws.specs.write_end.Blocks.{ComeHome}
use Rattle.world_view_laws.specs.write_end.Lines.{AreCrashLines}
use Rattle.world_view_laws.specs.write_end.Stops.{KeepsGatheredOut, KeepsOut}
use Rattle.world_view_laws.specs.eof_laws.MapsLaws.{EndGathered}
use Rattle.world_view_laws.specs.eof_laws.posix_spec.Run.{Unfinished}
use Rattle.world_view_laws.specs.eof_laws.posix_tables.Open.{Tables}
use Rattle.world_view_laws.specs.declared.views.over.Over.{Over}
use Rattle.world_view_laws.specs.eof_laws.Ends.{FilesEnd}
use Rattle.world_view_laws.specs.Lines.{HoldTheClaims}
use Rattle.world_view_laws.specs.write_end.Ends.{begun_by}
use Rattle.world_view_laws.specs.Rounds.{MayCheckpoint}
use Rattle.world_view_laws.specs.Views.{AreCounted, calls_out, ComesHomeTo, Disk, disk_of, first_by, IsGoing, IsLost, IsLostHome, IsLostOut, IsWorldOver, kept_of, most_acts, state_of, WorldView}
use Rattle.world_view_laws.specs.file_publish.log_checkpoint.Gathers.{IsGatherAnswer}
use Rattle.round_laws.proofs.EndsLines.{all_home, at_home, lines_hold, same_volume}
use Rattle.round_laws.proofs.Ready.{few_nodes, next_lap, small_enough}
use Rattle.round_laws.specs.EndsLaws.{AppliesClaims, GoesIntoNextRound, IsEnding, LosesRoundBefore, LosesRoundInside, lost_round, next_view}

never : true ≡ false → (X : Type 0) → X
never is X = absurd (subst P is tt) where
  P : Bool → Type 0
  P true = Unit {0}
  P false = ⊥

no_both : (b : Bool) → b ≡ true → b ≡ false → (X : Type 0) → X
no_both b one two X = never (sym one ∙ two) X

-- ---- all is gathered

module _ (turning : StandsHome) (holding : LinesHoldOut) (gathered : StandsGathered) (keeps : KeepsGatheredOut) (k l m : View) (t : Tables) (staging then : Staged) (files table : Files) (w : WorldView) (lines : List Part)
    (ending : IsEnding k l t staging files w lines) (done : IsGatherAnswer files l then table m (Ok Commit.Done)) where
  stands : StandsAt w.geometry l t (kept_of w staging files) false (length w.history) (state_of w)
  stands = at_home turning holding k l t staging files w lines ending ending.world.mode

  going : IsGoing k t staging files w
  going = ending.world.going ending.awake

  behind : HasGathered w.geometry l m t (kept_of w staging files) table (length w.history) (state_of w) stands
  behind =
      gathered w.geometry l m t (kept_of w staging files) then table (length w.history) (state_of w) stands (few_nodes turning holding k l t staging files w lines ending) (small_enough turning holding k l t staging files w lines ending)
      (next_lap turning holding k l t staging files w lines ending) done

  pub nothing : then ≡ nothing_staged
  nothing = done.2.staging

  -- K-SPLIT STANDS behind it.
  pub stands_behind : StandsAt w.geometry m t (record { staging = nothing_staged; files = table; claims = []; pending = []; first = first_by w.geometry w.first }) false (length w.history) (state_of w)
  stands_behind = behind.now

  -- nothing is lent
  pub home_behind : AllHome m.cells
  home_behind i = (keeps l m files table then Commit.Done done).lent i ∙ all_home turning holding k l t staging files w lines ending i

  pub size_behind : length m.cells ≡ 512 * w.geometry.blocks
  size_behind =
      stands_behind.order.stands.size
      ∙ ap (λ (v : Volume). 512 * v.geometry.blocks) (stands_behind.order.settled stands_behind.unbatched)
      ∙ ap (λ (g : Geometry). 512 * g.blocks) stands_behind.geometry

  same_log : l.volume.geometry.log ≡ w.geometry.log
  same_log = ap (λ (g : Geometry). g.log) stands.geometry

  -- the base rose
  base_rose : w.base + w.geometry.log ≡ m.volume.base
  base_rose =
      let was : l.volume.base ≡ w.base = ap (λ (v : Volume). v.base) (same_volume turning holding k l t staging files w lines ending) ∙ sym going.base in
      let rose : m.volume.base ≡ done.0.volume.base + done.0.volume.geometry.log = ap (λ (v : Volume). v.base) done.2.lap.0 in
      let kept : done.0.volume.base ≡ l.volume.base = done.1.rest.base in
      let log : done.0.volume.geometry.log ≡ l.volume.geometry.log = ap (λ (g : Geometry). g.log) done.1.rest.numbers in
      omega (arith, was, rose, kept, log, same_log)

  next_going : EndGathered → IsGoing m t then table (next_view w (disk_of m t then table))
  next_going ends = record {
    stands = λ mode. subst (λ (ps : List JobOut). StandsAt w.geometry m t (record { staging = then; files = table; claims = []; pending = ps; first = first_by w.geometry w.first }) false (length w.history) (state_of w)) (sym ending.none_out)
        (subst (λ (x : Staged). StandsAt w.geometry m t (record { staging = x; files = table; claims = []; pending = []; first = first_by w.geometry w.first }) false (length w.history) (state_of w)) (sym nothing) stands_behind);
    gathers = λ posix. absurd (ending.world.mode posix);
    waits = λ posix. absurd (ending.world.mode posix);
    counted = λ mode. (let none : length then.out ≡ 0 = ap (λ (x : Staged). length x.out) nothing in omega (arith, none, ap (λ (ps : List JobOut). length ps) ending.none_out));
    runs = λ settled. (let none : length then.out ≡ 0 = ap (λ (x : Staged). length x.out) nothing in omega (arith, none, ap (λ (ps : List JobOut). length ps) ending.none_out));
    bare = λ goes none. nothing;
    none_unfinished = going.none_unfinished;
    none_home = going.none_home;
    base = base_rose;
    spelled = λ slot d at. absurd at;
    ends = ends l m then files table done (subst (λ (v : Volume). FilesEnd v files) (sym (same_volume turning holding k l t staging files w lines ending)) going.ends);
    drafts_end = λ p at. absurd (subst (In p) ending.none_out at);
    log_home = λ home. record { home = home_behind; none = refl; old = behind.old (words_of m.cells) (IsImage-words_of m.cells) };
  }

  -- ---- how far it came

  -- a call returned in the round
  grew : MayCheckpoint w lines → w.settled < length w.history
  grew may = elim (ending.world.counted.late (over_some w.over may.over)) [
    | inl some ↦ absurd (some ending.none_out)
    | inr (inl given) ↦ ending.world.counted.claimed ending.awake (may.some (λ none. omega (arith, given, none)))
    | inr (inr grown) ↦ grown
  ] where
    over_some : (o : Option Over) → IsSome o → o ≢ None
    over_some None is none = never (sym is) ⊥
    over_some (Some over) is none = cc

  next_counted : MayCheckpoint w lines → AreCounted (next_view w (disk_of m t then table))
  next_counted may =
      let none : length w.pending ≡ 0 = ap (λ (ps : List JobOut). length ps) ending.none_out in
      let more : w.settled + 2 ≤ length w.history + 1 = omega (arith, grew may) in
      let laps : w.geometry.log * (w.settled + 2) ≤ w.geometry.log * (length w.history + 1) = mul-le-mul_left w.geometry.log more in
      record {
        settled = omega arith;
        fresh = λ over. refl;
        out = omega (arith, none);
        claimed = λ on some. absurd (some refl);
        late = λ over. absurd (over refl);
        acts = omega (arith, none, grew may, ending.world.counted.acts_on ending.awake, ending.world.counted.out);
        acts_on = λ on. omega (arith, none, grew may, ending.world.counted.acts_on ending.awake, ending.world.counted.out);
        acts_going = λ on over. omega (arith, none, grew may, ending.world.counted.acts_on ending.awake, ending.world.counted.out);
        low = omega (arith, laps, ending.world.counted.low);
      }

  -- THE NEXT ROUND MAY BEGIN.
  pub next_round : EndGathered → MayCheckpoint w lines → IsWorldOver m t then table (next_view w (disk_of m t then table))
  next_round ends may = record {
    mode = ending.world.mode;
    few = ending.world.few;
    threads = ending.world.threads;
    spelled = ending.world.spelled;
    legal = ending.world.legal;
    scripted = ending.world.scripted;
    open_calls = ending.world.open_calls;
    counted = next_counted may;
    disk_is = refl;
    going = λ still. next_going ends;
    gone = λ off. no_both w.lost off ending.awake _;
  }

pub goes_into_next_round : StandsHome → LinesHoldOut → StandsGathered → KeepsGatheredOut → EndGathered → GoesIntoNextRound
goes_into_next_round turning holding gathered keeps ends k l m t staging then files table w lines ending may done = next_round turning holding gathered keeps k l m t staging then files table w lines ending done ends may

-- each claim of the lap is applied by its file
pub applies_claims : StandsHome → LinesHoldOut → StandsGathered → KeepsGatheredOut → AppliesClaims
applies_claims turning holding gathered keeps k l m t staging then files table w lines ending done = (behind turning holding gathered keeps k l m t staging then files table w lines ending done).applied

-- ---- the power went

counted_lost : (w : WorldView) (acts : ℕ) (disk : Disk) (home : List Part) → AreCounted w → acts ≤ most_acts w + 2 → AreCounted (lost_round w acts disk home)
counted_lost w acts disk home counted few = record {
  settled = counted.settled;
  fresh = counted.fresh;
  out = counted.out;
  claimed = λ on. never on _;
  late = counted.late;
  acts = few;
  acts_on = λ on. never on _;
  acts_going = λ on. never on _;
  low = counted.low;
}

world_lost : (k m : View) (t : Tables) (staging then : Staged) (files table : Files) (w : WorldView) (acts : ℕ) (home : List Part) → IsWorldOver k t staging files w → acts ≤ most_acts w + 2
    → IsLostHome (lost_round w acts (disk_of m t then table) home) → IsWorldOver m t then table (lost_round w acts (disk_of m t then table) home)
world_lost k m t staging then files table w acts home world few lost = record {
  mode = world.mode;
  few = world.few;
  threads = world.threads;
  spelled = world.spelled;
  legal = world.legal;
  scripted = world.scripted;
  open_calls = world.open_calls;
  counted = counted_lost w acts (disk_of m t then table) home world.counted few;
  disk_is = refl;
  going = λ on. never on _;
  gone = λ off. lost;
}

-- in the checkpoint
module _ (turning : StandsHome) (holding : LinesHoldOut) (cutting : KeepsGathered) (keeps : KeepsGatheredOut) (k l m : View) (t : Tables) (staging then : Staged) (files table : Files) (w : WorldView) (lines : List Part)
    (ending : IsEnding k l t staging files w lines) (cut : IsGatherAnswer files l then table m (Ok Commit.PowerLost)) where
  before : StandsAt w.geometry l t (kept_of w staging files) false (length w.history) (state_of w)
  before = at_home turning holding k l t staging files w lines ending ending.world.mode

  out : KeepsOut l.cells m.cells
  out = keeps l m files table then Commit.PowerLost cut

  pub home_cut : AllHome m.cells
  home_cut i = out.lent i ∙ all_home turning holding k l t staging files w lines ending i

  pub size_cut : length m.cells ≡ 512 * w.geometry.blocks
  size_cut =
      out.size
      ∙ before.order.stands.size
      ∙ ap (λ (v : Volume). 512 * v.geometry.blocks) (before.order.settled before.unbatched)
      ∙ ap (λ (g : Geometry). 512 * g.blocks) before.geometry

  none_begun : calls_out w ≡ []
  none_begun = (λ i. map begun_by (ending.none_out i) ++ (ending.world.going ending.awake).none_unfinished i)

  -- THE DEVICE KEEPS THE PROMISE.
  pub promise_cut : KeepsPromise w.geometry m.cells w.start w.history (calls_out w)
  promise_cut =
      subst (λ (calls : List Unfinished). KeepsPromise w.geometry m.cells w.start w.history calls) (sym none_begun)
      (cutting w.geometry l m t (kept_of w staging files) then table (length w.history) w.start w.history ending.world.mode before (few_nodes turning holding k l t staging files w lines ending)
      (small_enough turning holding k l t staging files w lines ending) (next_lap turning holding k l t staging files w lines ending) cut)

  empty : length w.home ≡ 0
  empty = ap (λ (ps : List Part). length ps) (ending.world.going ending.awake).none_home

  same_cells : (e : List Cell) → LinesComeBack (log_line w.geometry 0) w.home m.cells e → cell m.cells ≡ cell e
  same_cells e comes = fun_ext (λ i. sym (comes.others i (λ within. omega (arith, within.from, within.below, empty))))

  lost_inside : (acts : ℕ) → IsLostHome (lost_round w acts (disk_of m t then table) w.home)
  lost_inside acts = record {
    none = ending.none_out;
    size = size_cut;
    few = omega (arith, empty);
    places = λ n below. absurd (omega (arith, below, empty));
    out = λ i within. absurd (omega (arith, within.from, within.below, empty));
    keeps = λ e comes. (
      λ i. ap (λ (f : ℕ → Cell). is_lent (f i)) (sym (same_cells e comes.back)) ∙ home_cut i,
      subst (λ (f : ℕ → Cell). (image : Words) → ((i : ℕ) → IsCandidate (f i) (image i)) → IsHonest w.geometry f image → IsKept w.geometry w.start w.history (calls_out w) image) (same_cells e comes.back) promise_cut,
    );
  }

  -- THE POWER WENT in it.
  pub round_lost : IsWorldOver m t then table (lost_round w (w.acts + 1) (disk_of m t then table) w.home)
  round_lost = world_lost k m t staging then files table w (w.acts + 1) w.home ending.world (omega (arith, ending.world.counted.acts_on ending.awake)) (lost_inside (w.acts + 1))

pub loses_round_inside : StandsHome → LinesHoldOut → KeepsGathered → KeepsGatheredOut → LosesRoundInside
loses_round_inside turning holding cutting keeps k l m t staging then files table w lines ending cut = round_lost turning holding cutting keeps k l m t staging then files table w lines ending cut

-- before it: the lines are those that a crash puts back, with no job out
module _ (crashed : KeepsCrashed) (k : View) (t : Tables) (staging : Staged) (files : Files) (w : WorldView) (lines : List Part) (world : IsWorldOver k t staging files w) (off : w.lost ≡ true)
    (none_out : w.pending ≡ []) (holds : HoldTheClaims w lines) where
  gone : IsLostOut staging files w
  gone = subst (IsLost staging files w) holds.are.out (world.gone off)

  crash_lines : AreCrashLines gone.volume.geometry gone.volume.base (first_by w.geometry w.first) w.claims [] [] lines
  crash_lines = lines_hold gone.volume w lines gone.geometry gone.base holds

  lent : (i : ℕ) → IsInLines (log_line w.geometry 0) (length lines) i → is_lent (cell w.disk.cells i) ≡ true
  lent i at =
      let place : 8 * log_line w.geometry (i / 8 - log_line w.geometry 0) + i % 8 ≡ i = omega (arith, at.from) in
      let below : i / 8 - log_line w.geometry 0 < w.geometry.log = omega (arith, at.from, at.below, holds.are.count) in
      let was = subst (λ (g : Geometry). (slot j : ℕ) → slot < g.log → j < 8 → is_lent (cell w.disk.cells (8 * log_line g slot + j)) ≡ true) gone.geometry gone.at.lines.lent in
      subst (λ m. is_lent (cell w.disk.cells m) ≡ true) place (was (i / 8 - log_line w.geometry 0) (i % 8) below (omega arith))

  nothing_home : ComeHome [] w.disk.cells w.disk.cells
  nothing_home = record { size = refl; words = λ loan i at. absurd at; home = λ loan i at. absurd at; beside = λ i apart. refl }

  kept_home : (e : List Cell) → ComesHomeTo (lost_round w w.acts w.disk lines) e → AllHome e × KeepsPromise w.geometry e w.start w.history (calls_out w)
  kept_home e comes =
      subst (λ (g : Geometry). AllHome e × KeepsPromise g e w.start w.history (calls_out w)) gone.geometry
      (let is =
      crashed gone.volume w.disk.cells w.disk.cells e (kept_of w staging files) w.start w.history w.unfinished [] [] [] lines gone.at
      (record {
        all = λ p at. absurd (subst (In p) none_out at);
        lent = λ loan i at. absurd at;
        of_world = λ job at. absurd at;
        holds = λ job at. absurd at;
        there = λ job loan at. absurd at;
      })
      crash_lines nothing_home
      (record {
        back = subst (λ (g : Geometry). LinesComeBack (log_line g 0) lines w.disk.cells e) (sym gone.geometry) comes.back;
        home = λ i at. comes.home i (record {
          from = subst (λ (g : Geometry). log_line g 0 ≤ i / 8) gone.geometry at.from;
          below = subst (λ n. i / 8 < log_line w.geometry 0 + n) (sym holds.are.count) (subst (λ (g : Geometry). i / 8 < log_line g 0 + g.log) gone.geometry at.below);
        });
      })
      in (is.home, is.promise))

  lost_before : IsLostHome (lost_round w w.acts w.disk lines)
  lost_before = record {
    none = none_out;
    size = gone.size;
    few = omega (arith, holds.are.count);
    places = holds.are.places;
    out = lent;
    keeps = kept_home;
  }

  -- THE POWER HAD GONE.
  pub round_lost_before : IsWorldOver k t staging files (lost_round w w.acts (disk_of k t staging files) lines)
  round_lost_before = world_lost k k t staging staging files files w w.acts lines world world.counted.acts (subst (λ (d : Disk). IsLostHome (lost_round w w.acts d lines)) world.disk_is lost_before)

pub loses_round_before : KeepsCrashed → LosesRoundBefore
loses_round_before crashed k t staging files w lines world off none_out holds = round_lost_before crashed k t staging files w lines world off none_out holds
