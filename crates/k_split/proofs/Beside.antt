-- Words change on which nothing rests that gathered: K-Split stays ready, and its view is the same but for the cells.
use Rattle.std.proofs.Common.{◌≡◌, ℕ, Bool, true, false, List, refl, sym, ◌∙◌, subst, inl, inr}
use Rattle.std.specs.Prelude.{if◌then◌else◌}
use Rattle.std.proofs.lemmas.Bool.{cases_Bool}
use Rattle.block_io.specs.pm_model.declared.Cell.{Cell}
use Rattle.block_io.specs.pm_model.ImageLaws.{IsImage-words_of}
use Rattle.block_io.specs.pm_model.Images.{words_of}
use Rattle.block_io.specs.image_model.Reading.{Reads}
use Rattle.block_io.specs.layout_model.Journal.{journaled}
use Rattle.k_group_commit.specs.BesideLaws.{ChangesOthers, open-others, RestsOn}
use Rattle.k_map_plans.specs.k_journal.Batch.{lines_of}
use Rattle.k_map_plans.specs.k_journal.declared.batches.Record.{Record}
use Rattle.k_map_plans.specs.k_plans.View.{TablesView}
use Rattle.k_tables.specs.volume_laws.ReadingLaws.{reads-volume}
use Rattle.k_split.specs.Order.{IsReady, IsUnstagedSingle, standing, view_of}
use Rattle.k_split.proofs.Ready.{committed-is}

module _ (t : TablesView) (group b : List Record) (d e : List Cell) (batched : Bool) (ready : IsReady t group b d batched) where
  -- K-Split stays ready.
  pub ready-others : (Stays : ℕ → Type 0) → RestsOn t.volume.geometry ready.committed ready.opened.news Stays → ChangesOthers Stays d e
      → IsUnstagedSingle t.volume e → IsReady t group b e batched
  ready-others Stays rests others unstaged = record {
    committed = ready.committed;
    opened = open-others ready.committed t group d ready.opened Stays e rests others;
    unstaged = unstaged;
    few = ready.few;
    empty = ready.empty;
    unbatched = ready.unbatched;
    no_lines = ready.no_lines;
  }

  -- at the same volume
  pub others-committed : (Stays : ℕ → Type 0) (rests : RestsOn t.volume.geometry ready.committed ready.opened.news Stays) (others : ChangesOthers Stays d e)
      (unstaged : IsUnstagedSingle t.volume e) → (ready-others Stays rests others unstaged).committed ≡ ready.committed
  unfolding ready-others
  others-committed Stays rests others unstaged = refl

  -- where the words read as the volume of the device, it is this one
  committed-now : Reads t.volume.geometry (journaled (words_of e)) ready.committed
      → (if batched then standing t.volume.geometry e else t.volume) ≡ ready.committed
  committed-now reads = elim (cases_Bool batched) [
    | inl on ↦
        subst (λ x. (if x then standing t.volume.geometry e else t.volume) ≡ ready.committed) (sym on)
        (reads-volume t.volume.geometry (journaled (words_of e)) ready.committed reads)
    | inr off ↦
        subst (λ x. (if x then standing t.volume.geometry e else t.volume) ≡ ready.committed) (sym off) (sym (ready.empty (ready.unbatched off)).0)
  ]

  committed-stays : Reads t.volume.geometry (journaled (words_of e)) ready.committed
      → (if batched then standing t.volume.geometry e else t.volume) ≡ (if batched then standing t.volume.geometry d else t.volume)
  committed-stays reads = committed-now reads ∙ sym (committed-is t group b d batched ready)

  pub view-reads : (lost now : Bool) → Reads t.volume.geometry (journaled (words_of e)) ready.committed
      → view_of t group e batched now ≡ record (view_of t group d batched lost) { cells = e; lost = now }
  view-reads lost now reads i = record {
    volume = t.volume;
    committed = committed-stays reads i;
    waiting = t.waiting;
    lines = lines_of group;
    cells = e;
    batched = batched;
    lost = now;
  }

-- so it is where K-Split stays ready at this volume
pub view-ready : (t : TablesView) (group b : List Record) (d e : List Cell) (batched lost now : Bool) (ready : IsReady t group b d batched)
    (Stays : ℕ → Type 0) → RestsOn t.volume.geometry ready.committed ready.opened.news Stays → ChangesOthers Stays d e
    → view_of t group e batched now ≡ record (view_of t group d batched lost) { cells = e; lost = now }
view-ready t group b d e batched lost now ready Stays rests others =
    view-reads t group b d e batched ready lost now
    ((open-others ready.committed t group d ready.opened Stays e rests others).are.stands.reads (words_of e) (IsImage-words_of e))
