-- The log lines go out.
use Rattle.std.specs.Prelude.{◌≡◌, ◌<◌, ◌+◌, ◌-◌, ◌*◌, ◌/◌, ℕ, Bool, true, false, List, [], ◌∷◌, length, refl, if◌then◌else◌}
use Rattle.std.proofs.Common.{arith, ap, ◌∙◌, sym, subst, inl, inr}
use Rattle.std.proofs.lemmas.Bool.{both_ways}
use Rattle.live_step_laws.specs.pm_model.declared.Cell.{Cell}
use Rattle.live_step_laws.specs.pm_model.Bytes.{line_bytes-same}
use Rattle.live_step_laws.specs.pm_model.CellLaws.{newest-candidate}
use Rattle.live_step_laws.specs.pm_model.Cells.{cell, is_lent, is_single, IsCandidate, newest}
use Rattle.live_step_laws.specs.pm_model.Images.{IsImage, words_of}
use Rattle.live_step_laws.specs.pm_model.Parts.{Part}
use Rattle.live_step_laws.specs.pm_model.Words.{line_bytes, Words}
use Rattle.live_step_laws.specs.layout_model.Entries.{held_seq, is_self_valid}
use Rattle.live_step_laws.specs.layout_model.Places.{Geometry, log_line}
use Rattle.live_step_laws.specs.image_model.Volume.{Volume}
use Rattle.live_step_laws.specs.live_model.Flying.{IsOut}
use Rattle.live_step_laws.specs.k_split_model.Stands.{Stands}
use Rattle.live_step_laws.specs.k_split_model.View.{View}
use Rattle.log_checkpoint.proofs.k_split_proofs.LoanLaws.{is_lent-Lent}
use Rattle.log_checkpoint.specs.k_split.Laps.{IsLogWord}
use Rattle.log_checkpoint.specs.k_split.LogLines.{AreLogLines}
use Rattle.log_checkpoint.specs.k_split.Order.{IsInOrder}
use Rattle.log_checkpoint.specs.block_io.Lines.{LinesGoOut}
use Rattle.live_step_laws.specs.list_laws.Members.{In}
use Rattle.live_step_laws.specs.posix_tables.Open.{Tables}
use Rattle.live_step_laws.specs.posix_spec.State.{State}
use Rattle.live_step_laws.specs.world_image_laws.Images.{HasOldLines, StandsFor}
use Rattle.live_step_laws.specs.world_model.Jobs.{Job}
use Rattle.live_step_laws.specs.live_model.Standing.{AreJobsOf, AreLinesLent, IsQuietBeside, Kept, JobOut, StandsAt}
use Rattle.file_publish.specs.RoundLinesLaws.{HasTurned, StandsOut, with_cells, with_first}
use Rattle.file_publish.proofs.Beside.{agrees-beside, ComesBeside, log-or-not, SameBeside, single-beside, stands-beside}

pub no-jobs : (pending : List JobOut) (jobs : List Job) → AreJobsOf pending jobs → pending ≡ [] → jobs ≡ []
no-jobs [] [] are none = refl
no-jobs [] (j ∷ jobs) are none = absurd are
no-jobs (p ∷ pending) jobs are none = absurd (let never : p ∷ pending ≡ [] = none in cc)

-- ---- the device without them

module _ (v : Volume) (d e : List Cell) (lines : List Part) (count : length lines ≡ v.geometry.log) (out : LinesGoOut (log_line v.geometry 0) d e lines) where
  pub same-out : (i : ℕ) → ¬ IsLogWord v i → cell e i ≡ cell d i
  same-out i beside = out.others i (λ at. beside (record { from = at.from; below = omega (arith, at.below, count) }))

  pub lent-out : (i : ℕ) → IsLogWord v i → is_lent (cell e i) ≡ true
  lent-out i at = ap is_lent (out.out i (record { from = at.from; below = omega (arith, at.below, count) }))

  -- an image with the lines, as they were last
  abbrev back-of : Words → Words
  back-of image i = if is_lent (cell d i) then image i else (if is_lent (cell e i) then newest (cell d i) else image i)

  pub comes-out : ComesBeside v d e
  comes-out image is = (back-of image, candidate, λ i beside. sym (beside-log i beside)) where
    unlogged : (i : ℕ) → is_lent (cell e i) ≡ false → ¬ IsLogWord v i
    unlogged i home at = both_ways (is_lent (cell e i)) home (lent-out i at)

    beside-log : (i : ℕ) → ¬ IsLogWord v i → back-of image i ≡ image i
    beside-log i beside = by (is_lent (cell d i)) (is_lent (cell e i)) refl (ap is_lent (same-out i beside)) where
      by : (a b : Bool) → is_lent (cell d i) ≡ a → b ≡ is_lent (cell d i) → (if a then image i else (if b then newest (cell d i) else image i)) ≡ image i
      by true b here same = refl
      by false b here same = rw (same ∙ here) refl

    candidate : IsImage d (back-of image)
    candidate i = by (is_lent (cell d i)) (is_lent (cell e i)) refl refl where
      by : (a b : Bool) → is_lent (cell d i) ≡ a → is_lent (cell e i) ≡ b → IsCandidate (cell d i) (if a then image i else (if b then newest (cell d i) else image i))
      by true b lent there = subst (λ c. IsCandidate c (image i)) (sym (is_lent-Lent (cell d i) lent)) tt
      by false true home there = newest-candidate (cell d i)
      by false false home there = subst (λ c. IsCandidate c (image i)) (same-out i (unlogged i there)) (is i)

  -- a word that is not lent is none of the log
  beside-out : (i : ℕ) → is_lent (cell e i) ≡ false → ¬ IsLogWord v i
  beside-out i home at = both_ways (is_lent (cell e i)) home (lent-out i at)

  -- nothing but log lines went out
  pub home-out : (jobs : List Job) → ((i : ℕ) → is_lent (cell d i) ≡ true → IsOut v jobs i) → (i : ℕ) → is_lent (cell e i) ≡ true → IsOut v jobs i
  home-out jobs home i out_now = elim (log-or-not v i) [
    | inl at ↦ inl (i / 8 - log_line v.geometry 0, omega (arith, at.from, at.below), omega (arith, at.from))
    | inr not ↦ home i (sym (ap is_lent (same-out i not)) ∙ out_now)
  ]

  pub quiet-out : (g : Geometry) → IsQuietBeside g d → IsQuietBeside g e
  quiet-out g quiet i journal line home_now =
      let apart = beside-out i home_now in
      ap is_single (same-out i apart) ∙ quiet i journal line (sym (ap is_lent (same-out i apart)) ∙ home_now)

  -- by the words that are kept of them
  module _ (first : Words) (words : (i : ℕ) → IsLogWord v i → first i ≡ words_of d i) (old : HasOldLines v (words_of d)) where
    line-same : (slot : ℕ) → slot < v.geometry.log → line_bytes first (log_line v.geometry slot) ≡ line_bytes (words_of d) (log_line v.geometry slot)
    line-same slot below = line_bytes-same first (words_of d) (log_line v.geometry slot) (λ i at. words i (record { from = omega (arith, at); below = omega (arith, at, below) }))

    pub lines-lent : AreLinesLent v e first
    lines-lent = record {
      lent = λ slot j below word. lent-out (8 * log_line v.geometry slot + j) (record { from = omega (arith, word); below = omega (arith, word, below) });
      old = λ slot below valid.
          let was = old slot below (ap is_self_valid (sym (line-same slot below)) ∙ valid) in
          omega (arith, was, ap held_seq (line-same slot below));
    }

module _ (g : Geometry) (k : View) (t : Tables) (kept : Kept) (n : ℕ) (s : State) (e : List Cell) (lines : List Part) (first : Words) (words : (i : ℕ) → IsLogWord k.volume i → first i ≡ words_of k.cells i)
    (stands : StandsAt g k t kept false n s) (old : HasOldLines k.volume (words_of k.cells))
    (order : IsInOrder (with_cells k e)) (are : AreLogLines k.volume lines) (out : LinesGoOut (log_line k.volume.geometry 0) k.cells e lines) where
  same : SameBeside k.volume k.cells e
  same = same-out k.volume k.cells e lines are.count out

  none-out : stands.jobs ≡ []
  none-out = no-jobs kept.pending stands.jobs stands.jobs_are stands.lines.0

  device : StandsFor k.volume e kept.claims stands.jobs stands.numbers s stands.count
  device =
      stands-beside k.volume k.cells e kept.claims stands.jobs stands.numbers s stands.count stands.flying.device (subst (λ u. Stands u.geometry u e) (order.settled stands.unbatched) order.stands)
      (comes-out k.volume k.cells e lines are.count out)

  pub has-gone-out : HasTurned g k t kept (with_first kept first) false true n s e stands
  has-gone-out = record {
    now = record {
      count = stands.count;
      few = stands.few;
      numbers = stands.numbers;
      jobs = stands.jobs;
      jobs_are = stands.jobs_are;
      order = order;
      unbatched = stands.unbatched;
      on = stands.on;
      geometry = stands.geometry;
      flying = record {
        device = device;
        whole = stands.flying.whole;
        out = λ j is. absurd (subst (In j) none-out is);
        home = home-out k.volume k.cells e lines are.count out stands.jobs stands.flying.home;
        overlays = stands.flying.overlays;
      };
      lines = lines-lent k.volume k.cells e lines are.count out first words old;
      quiet = quiet-out k.volume k.cells e lines are.count out g stands.quiet;
      blocks = stands.blocks;
      callers = stands.callers;
      spare = stands.spare;
      tables = stands.tables;
      open_are_files = stands.open_are_files;
      ordered = stands.ordered;
      sizes = stands.sizes;
      bare = stands.bare;
      staged = stands.staged;
      agrees = agrees-beside k e kept.staging stands.order.whole same stands.agrees;
      free_single = single-beside k e kept.staging stands.order.whole same stands.free_single;
      drafts = stands.drafts;
      low = stands.low;
      claims_out = stands.claims_out;
      jobs_out = stands.jobs_out;
      owed = stands.owed;
    };
    jobs_are = refl;
    numbers_are = refl;
  }

pub stands-out : StandsOut
stands-out g k t kept n s e lines first words stands old order are out = has-gone-out g k t kept n s e lines first words stands old order are out
