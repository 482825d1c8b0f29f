-- The log's lines go out and come back: K-Split stays ready.
use Rattle.std.proofs.Common.{◌≡◌, ℕ, ◌<◌, Bool, true, false, List, length, refl, sym, ◌∙◌, ap, subst}
use Rattle.std.proofs.lemmas.Bool.{both_ways}
use Rattle.block_io.specs.pm_model.declared.Cell.{Cell}
use Rattle.block_io.specs.pm_model.Cells.{cell, is_lent, is_single}
use Rattle.block_io.specs.pm_model.Parts.{Part}
use Rattle.block_io.specs.layout_model.Places.{commit_word, log_line}
use Rattle.block_io.specs.image_model.Volume.{Volume}
use Rattle.block_io.specs.Overwrites.{IsInLines}
use Rattle.block_io.specs.Lines.{LinesComeBack, LinesGoOut}
use Rattle.k_group_commit.specs.BesideLaws.{ChangesOthers}
use Rattle.k_map_plans.specs.k_journal.declared.batches.Record.{Record}
use Rattle.k_map_plans.specs.k_plans.View.{TablesView}
use Rattle.k_split.specs.Laps.{IsLogWord}
use Rattle.k_split.specs.Order.{IsReady, view_of}
use Rattle.k_split.proofs.Beside.{ready-others, view-ready}
use Rattle.k_split.proofs.LoanLaws.{Comes, comes-in, comes-out}
use Rattle.k_split.proofs.LogLaws.{data_apart, journal_beside, rests-log}

-- all words but those of the log are as they were
abbrev pub SameBesideLog : Volume → List Cell → List Cell → Type 0
SameBesideLog v d e = (i : ℕ) → ¬ IsLogWord v i → cell e i ≡ cell d i

-- each image comes from one before, but for words of the log
abbrev pub ComesBesideLog : Volume → List Cell → List Cell → Type 0
ComesBesideLog v d e = Comes (λ i. ¬ IsLogWord v i) d e

-- K-Split stays ready where words of the log alone change, and each image comes from one before.
module _ (t : TablesView) (group b : List Record) (d e : List Cell) (batched : Bool) (ready : IsReady t group b d batched) (size : length e ≡ length d)
    (same : SameBesideLog t.volume d e) (comes : ComesBesideLog t.volume d e) where
  changes : ChangesOthers (λ i. ¬ IsLogWord t.volume i) d e
  changes = record {
    size = size;
    idle = λ is. same commit_word (journal_beside t.volume commit_word refl) ∙ is;
    singles = λ i stays single. ap is_single (same i stays) ∙ single;
    comes = comes;
  }

  pub ready_beside : IsReady t group b e batched
  ready_beside =
      ready-others t group b d e batched ready (λ i. ¬ IsLogWord t.volume i) (rests-log t group b d batched ready) changes
      (λ i in_data free. ap is_single (same i (data_apart t.volume i in_data)) ∙ ready.unstaged i in_data free)

  pub view_beside : (lost now : Bool) → view_of t group e batched now ≡ record (view_of t group d batched lost) { cells = e; lost = now }
  view_beside lost now = view-ready t group b d e batched lost now ready (λ i. ¬ IsLogWord t.volume i) (rests-log t group b d batched ready) changes

module _ (v : Volume) (d e : List Cell) (lines : List Part) (count : length lines ≡ v.geometry.log) where
  pub of_log : (i : ℕ) → IsInLines (log_line v.geometry 0) (length lines) i → IsLogWord v i
  of_log i is = subst (λ n. IsInLines (log_line v.geometry 0) n i) count is

  in_log : (i : ℕ) → IsLogWord v i → IsInLines (log_line v.geometry 0) (length lines) i
  in_log i is = subst (λ n. IsInLines (log_line v.geometry 0) n i) (sym count) is

  -- ---- the lines go out

  pub same_out : LinesGoOut (log_line v.geometry 0) d e lines → SameBesideLog v d e
  same_out out i beside = out.others i (λ is. beside (of_log i is))

  pub comes_out : LinesGoOut (log_line v.geometry 0) d e lines → ComesBesideLog v d e
  comes_out out =
      comes-out (λ i. ¬ IsLogWord v i) d e (same_out out)
      (λ i home. same_out out i (λ at. both_ways (is_lent (cell e i)) home (ap is_lent (out.out i (in_log i at)))))

  -- ---- and come back

  pub same_back : LinesComeBack (log_line v.geometry 0) lines d e → SameBesideLog v d e
  same_back back i beside = back.others i (λ is. beside (of_log i is))

  -- what was not out is as it was
  pub home_back : LinesComeBack (log_line v.geometry 0) lines d e → ((i : ℕ) → IsLogWord v i → is_lent (cell d i) ≡ true)
      → (i : ℕ) → is_lent (cell d i) ≡ false → cell e i ≡ cell d i
  home_back back out i home = same_back back i (λ at. both_ways (is_lent (cell d i)) home (out i at))

  pub comes_back : LinesComeBack (log_line v.geometry 0) lines d e → ((i : ℕ) → IsLogWord v i → is_lent (cell d i) ≡ true) → ComesBesideLog v d e
  comes_back back out = comes-in (λ i. ¬ IsLogWord v i) d e (same_back back) (home_back back out)
