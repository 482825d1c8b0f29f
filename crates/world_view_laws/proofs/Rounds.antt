-- A round of the World begins.
use Rattle.std.specs.Prelude.{◌≡◌, ◌≢◌, ◌≤◌, ◌<◌, ◌+◌, ◌*◌, ◌^◌, ℕ, true, false, List, length, refl}
use Rattle.std.proofs.Common.{arith, ap, ◌∙◌, sym, subst}
use Rattle.file_calls.specs.batch_laws.Together.{PosixStandsAt}
use Rattle.file_calls.specs.eof_laws.pm_model.declared.Cell.{Cell}
use Rattle.file_calls.specs.eof_laws.pm_model.declared.Cell.TheVariants.{Lent, Marked, Single, Two}
use Rattle.file_calls.specs.eof_laws.pm_model.Cells.{cell, is_single, newest}
use Rattle.file_calls.specs.eof_laws.pm_model.Images.{words_of}
use Rattle.file_calls.specs.eof_laws.pm_model.Parts.{Part}
use Rattle.file_calls.specs.eof_laws.pm_model.Words.{Words}
use Rattle.file_calls.specs.eof_laws.layout_model.Places.{Geometry, log_line}
use Rattle.in_flight.specs.image_model.Volume.{Volume}
use Rattle.file_calls.specs.eof_laws.Ends.{FilesEnd}
use Rattle.in_flight.specs.file_table.Files.{Files}
use Rattle.file_publish.specs.RoundLinesLaws.{StandsOut, with_cells}
use Rattle.in_flight.specs.k_split_model.View.{View}
use Rattle.in_flight.specs.k_split.Laps.{HasSingleLog, IsLogWord}
use Rattle.in_flight.specs.k_split.LogLines.{AreLogLines}
use Rattle.in_flight.specs.k_split.Order.{IsInOrder}
use Rattle.in_flight.specs.block_io.Lines.{AreFrom, line_at, LinesGoOut}
use Rattle.file_calls.specs.eof_laws.posix_tables.Open.{Tables}
use Rattle.in_flight.specs.staging_files.Keeps.{Staged}
use Rattle.in_flight.specs.live_model.Standing.{StandsAt}
use Rattle.in_flight.specs.posix_types.declared.call.Mode.{Mode}
use Rattle.world_view_laws.proofs.Ending.{no_both}
use Rattle.world_view_laws.proofs.Modes.{geometry_now}
use Rattle.world_view_laws.proofs.PosixLines.{posix_lines_out}
use Rattle.world_view_laws.specs.Rounds.{IsRoundBegun}
use Rattle.world_view_laws.specs.Views.{Disk, disk_of, first_by, IsGoing, IsWorldOver, kept_of, state_of, WorldView}

single_of : (c : Cell) (x : Cell) → c ≡ x → is_single x ≡ true → c ≡ Single (newest x)
single_of c (Single n) same single = same
single_of c (Two a b) same single = cc
single_of c (Marked a b) same single = cc
single_of c Lent same single = cc

-- THE LOG'S LINES GO OUT, of which these words are kept.
abbrev pub begun_view : WorldView → View → Tables → Staged → Files → List ℕ → WorldView
begun_view w l t staging files first = record w { disk = disk_of l t staging files; lines_out = true; first = first }

module _ (law : StandsOut) (k l : View) (t : Tables) (staging : Staged) (files : Files) (w : WorldView) (world : IsWorldOver k t staging files w) (on : w.lost ≡ false) (home : w.lines_out ≡ false)
    (lines : List Part) (first : List ℕ) (same : l ≡ record k { cells = l.cells }) (order : IsInOrder l) (single : HasSingleLog k) (are : AreLogLines k.volume lines)
    (goes : LinesGoOut (log_line k.volume.geometry 0) k.cells l.cells lines) (words : (i : ℕ) → IsLogWord k.volume i → first_by w.geometry first i ≡ words_of k.cells i) where
  going : IsGoing k t staging files w
  going = world.going on

  abbrev now_first : Words
  now_first = first_by w.geometry first

  turned : w.start.mode ≢ Mode.Posix → StandsAt w.geometry (with_cells k l.cells) t (kept_of (begun_view w l t staging files first) staging files) true (length w.history) (state_of w)
  turned mode =
      (law w.geometry k t (kept_of w staging files) (length w.history) (state_of w) l.cells lines now_first words
      (subst (λ b. StandsAt w.geometry k t (kept_of w staging files) b (length w.history) (state_of w)) home (going.stands mode)) (going.log_home home).old (subst IsInOrder same order) are goes).now

  gathers_turned : w.start.mode ≡ Mode.Posix → PosixStandsAt w.geometry (with_cells k l.cells) t (kept_of (begun_view w l t staging files first) staging files) true (length w.history) w.start w.history
  gathers_turned posix =
      posix_lines_out w.geometry k t (kept_of w staging files) (length w.history) w.start w.history l.cells lines now_first words
      (subst (λ b. PosixStandsAt w.geometry k t (kept_of w staging files) b (length w.history) w.start w.history) home (going.gathers posix)) (going.log_home home).old (subst IsInOrder same order) are goes

  going_on : IsGoing l t staging files (begun_view w l t staging files first)
  going_on = record {
    stands = λ mode. subst (λ (x : View). StandsAt w.geometry x t (kept_of (begun_view w l t staging files first) staging files) true (length w.history) (state_of w)) (sym same) (turned mode);
    gathers = λ posix. subst (λ (x : View). PosixStandsAt w.geometry x t (kept_of (begun_view w l t staging files first) staging files) true (length w.history) w.start w.history) (sym same) (gathers_turned posix);
    waits = λ posix settled. ap (λ (x : View). x.waiting) same ∙ going.waits posix settled;
    counted = going.counted;
    runs = going.runs;
    bare = going.bare;
    none_unfinished = going.none_unfinished;
    none_home = going.none_home;
    base = going.base ∙ sym (ap (λ (x : View). x.volume.base) same);
    spelled = going.spelled;
    ends = subst (λ (v : Volume). FilesEnd v files) (sym (ap (λ (x : View). x.volume) same)) going.ends;
    drafts_end = going.drafts_end;
    log_home = λ still. no_both true refl still _;
  }

  -- A ROUND BEGINS.
  pub begun_on : IsWorldOver l t staging files (begun_view w l t staging files first)
  begun_on = record {
    mode = world.mode;
    few = world.few;
    threads = world.threads;
    spelled = world.spelled;
    legal = world.legal;
    scripted = world.scripted;
    open_calls = world.open_calls;
    counted = record {
      settled = world.counted.settled;
      fresh = world.counted.fresh;
      out = world.counted.out;
      claimed = world.counted.claimed;
      late = world.counted.late;
      acts = world.counted.acts;
      acts_on = world.counted.acts_on;
      acts_going = world.counted.acts_going;
      low = world.counted.low;
    };
    disk_is = refl;
    going = λ still. going_on;
    gone = λ off. no_both w.lost off on _;
  }

  same_places : k.volume.geometry ≡ w.geometry
  same_places = geometry_now k t staging files w going

  word_at_first : (n j : ℕ) → n < length lines → j < 8 → cell (line_at lines n).cells j ≡ Single (first_by w.geometry first (8 * (log_line w.geometry 0 + n) + j))
  word_at_first n j below word =
      let i : ℕ = 8 * (log_line k.volume.geometry 0 + n) + j in
      let at : IsLogWord k.volume i = record { from = omega (arith, word); below = omega (arith, word, below, are.count) } in
      single_of (cell (line_at lines n).cells j) (cell k.cells i) (goes.words n j below word) (single i at)
      ∙ ap (λ x. Single x) (sym (words i at) ∙ ap (λ (g : Geometry). first_by w.geometry first (8 * (log_line g 0 + n) + j)) same_places)

  -- WHAT IT ANSWERS
  pub round_begun : (base : ℕ) → base ≡ w.base → base ≤ 2 ^ 63 → w.geometry.log ≤ 4096 → IsRoundBegun w (begun_view w l t staging files first) lines base
  round_begun base is most few = record {
    new_is = refl;
    out = subst (λ (g : Geometry). LinesGoOut (log_line g 0) w.disk.cells l.cells lines) same_places
        (subst (λ (cs : List Cell). LinesGoOut (log_line k.volume.geometry 0) cs l.cells lines) (sym (ap (λ (d : Disk). d.cells) world.disk_is)) goes);
    cells_alone = ap (λ (x : View). disk_of x t staging files) same ∙ ap (λ (d : Disk). record d { cells = l.cells }) (sym world.disk_is);
    lines_are = record {
      are = record {
        out = refl;
        count = are.count ∙ ap (λ (g : Geometry). g.log) same_places;
        places = subst (λ (g : Geometry). AreFrom (log_line g 0) lines) same_places are.places;
      };
      words = λ n below j word. word_at_first n j below word ∙ ap (λ i. Single (first_by w.geometry first i)) (line_place n j);
    };
    few = omega (arith, are.count, ap (λ (g : Geometry). g.log) same_places, few);
    base_is = is;
    most = most;
  } where
    line_place : (n j : ℕ) → 8 * (log_line w.geometry 0 + n) + j ≡ 8 * log_line w.geometry n + j
    line_place n j = omega arith
