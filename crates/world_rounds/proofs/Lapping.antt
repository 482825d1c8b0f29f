-- The log's lines go out, and their words are kept.
use Rattle.std.specs.Prelude.{◌≡◌, ◌≤◌, ◌<◌, ◌+◌, ◌-◌, ◌*◌, ◌/◌, ◌%◌, ◌&&◌, ℕ, true, false, List, length, slice_index, nat_le, nat_lt, if◌then◌else◌, refl}
use Rattle.std.proofs.Common.{arith, ap, ◌∙◌, sym, subst}
use Rattle.std.proofs.lemmas.Bool.Decides.{nat_tests}
use Rattle.world_parts.specs.pm_model.Cells.{cell, newest}
use Rattle.world_parts.specs.pm_model.Images.{words_of}
use Rattle.world_parts.specs.pm_model.Parts.{Part}
use Rattle.world_parts.specs.layout_model.Places.{Geometry, log_line}
use Rattle.round_laws.specs.file_publish.RoundLinesLaws.{StandsOut}
use Rattle.world_parts.specs.k_split_model.View.{View}
use Rattle.world_parts.specs.block_io.Lines.{line_at, LinesGoOut}
use Rattle.round_laws.specs.EndsLaws.{MayBegin, MayTakeLog}
use Rattle.world_parts.specs.in_flight.k_split.Laps.{IsLogWord}
use Rattle.world_parts.specs.in_flight.k_split.LogLines.{AreLogLines}
use Rattle.world_parts.specs.in_flight.k_split.Order.{IsInOrder}
use Rattle.world_parts.proofs.world_view_laws_proofs.Ending.{no_both}
use Rattle.world_parts.proofs.world_view_laws_proofs.Modes.{geometry_now}
use Rattle.world_parts.proofs.world_view_laws_proofs.Rounds.{begun_on, begun_view, round_begun}
use Rattle.world_parts.specs.world_view_laws.Rounds.{IsRoundBegun}
use Rattle.world_parts.specs.world_view_laws.Views.{first_by, IsWorldOver, WorldView}
use Rattle.world_parts.specs.declared.parts.Parts.{Parts}
use Rattle.world_parts.specs.Seen.{IsKept, seen}

-- the kept words are those of the device
module _ (k l : View) (lines : List Part) (are : AreLogLines k.volume lines) (goes : LinesGoOut (log_line k.volume.geometry 0) k.cells l.cells lines) (words : List ℕ) (count : length words ≡ 8 * length lines)
    (each : (i : ℕ) → i < 8 * length lines → slice_index words i ≡ newest (cell (line_at lines (i / 8)).cells (i % 8))) where
  own_words : (i : ℕ) → IsLogWord k.volume i → first_by k.volume.geometry words i ≡ words_of k.cells i
  own_words i at =
      let m : ℕ = i - 8 * log_line k.volume.geometry 0 in
      let from : 8 * log_line k.volume.geometry 0 ≤ i = omega (arith, at.from) in
      let below : i < 8 * log_line k.volume.geometry 0 + length words = omega (arith, at.below, count, are.count) in
      let inside : i - 8 * log_line k.volume.geometry 0 < 8 * length lines = omega (arith, from, below, count) in
      let test : (nat_le (8 * log_line k.volume.geometry 0) i && nat_lt i (8 * log_line k.volume.geometry 0 + length words)) ≡ true = both from below in
      let place : 8 * (log_line k.volume.geometry 0 + (i - 8 * log_line k.volume.geometry 0) / 8) + (i - 8 * log_line k.volume.geometry 0) % 8 ≡ i = omega (arith, from) in
      ap (λ b. if b then slice_index words (i - 8 * log_line k.volume.geometry 0) else 0) test
      ∙ each (i - 8 * log_line k.volume.geometry 0) inside
      ∙ ap newest (goes.words ((i - 8 * log_line k.volume.geometry 0) / 8) ((i - 8 * log_line k.volume.geometry 0) % 8) (omega (arith, inside)) (omega arith))
      ∙ ap (λ n. newest (cell k.cells n)) place
    where
      both : 8 * log_line k.volume.geometry 0 ≤ i → i < 8 * log_line k.volume.geometry 0 + length words → (nat_le (8 * log_line k.volume.geometry 0) i && nat_lt i (8 * log_line k.volume.geometry 0 + length words)) ≡ true
      both low high = grind (arith, nat_tests)

  pub kept_words : (g : Geometry) → k.volume.geometry ≡ g → (i : ℕ) → IsLogWord k.volume i → first_by g words i ≡ words_of k.cells i
  kept_words g same i at = subst (λ (h : Geometry). first_by h words i ≡ words_of k.cells i) same (own_words i at)

-- A ROUND BEGAN
module _ (law : StandsOut) (may : MayBegin) (p q : Parts) (l : View) (lines : List Part) (ws : List ℕ) (kept : IsKept p) (home : p.lines_out ≡ false) (on : p.lost ≡ false) (same : l ≡ record p.k { cells = l.cells }) (orders : l.lost ≡ false → IsInOrder l)
    (are : AreLogLines p.k.volume lines) (goes : LinesGoOut (log_line p.k.volume.geometry 0) p.k.cells l.cells lines) (count : length ws ≡ 8 * length lines)
    (each : (i : ℕ) → i < 8 * length lines → slice_index ws i ≡ newest (cell (line_at lines (i / 8)).cells (i % 8))) (first : q.first.items ≡ ws) (is : q ≡ record p { k = l; first = q.first; lines_out = true }) where
  taken : MayTakeLog p.k (seen p)
  taken = may p.k p.tables.tables p.staging p.files (seen p) kept.world on home

  order : IsInOrder l
  order = orders (ap (λ (x : View). x.lost) same ∙ taken.on)

  words : (i : ℕ) → IsLogWord p.k.volume i → first_by p.geometry ws i ≡ words_of p.k.cells i
  words = kept_words p.k l lines are goes ws count each p.geometry (geometry_now p.k p.tables.tables p.staging p.files (seen p) (kept.world.going on))

  abbrev rest : Parts
  rest = record p { k = l; first = q.first; lines_out = true }

  rest_seen : begun_view (seen p) l p.tables.tables p.staging p.files ws ≡ seen rest
  rest_seen = ap (λ (xs : List ℕ). begun_view (seen p) l p.tables.tables p.staging p.files xs) (sym first)

  rest_kept : IsKept rest
  rest_kept = record {
    world = subst (λ (w : WorldView). IsWorldOver l p.tables.tables p.staging p.files w) rest_seen
        (begun_on law p.k l p.tables.tables p.staging p.files (seen p) kept.world on home lines ws same order taken.single are goes words);
    counts = kept.counts;
    room = record {
      items = kept.room.items;
      claims_on = kept.room.claims_on;
      claims_off = λ off out. no_both p.lost off on _;
      empty = kept.room.empty;
      calls = kept.room.calls;
    };
  }

  pub begun_kept : IsKept q
  begun_kept = subst IsKept (sym is) rest_kept

  pub begun_round : IsRoundBegun (seen p) (seen q) lines q.base
  begun_round =
      subst (λ (x : Parts). IsRoundBegun (seen p) (seen x) lines x.base) (sym is)
      (subst (λ (w : WorldView). IsRoundBegun (seen p) w lines p.base) rest_seen
      (round_begun law p.k l p.tables.tables p.staging p.files (seen p) kept.world on home lines ws same order taken.single are goes words p.base refl taken.low taken.few))
