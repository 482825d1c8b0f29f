-- A commit of the open batch.
use Rattle.std.proofs.Common.{◌≡◌, ◌≤◌, ℕ, Bool, true, false, List, [], length, refl, sym, ◌∙◌, ap, subst, arith, inl, inr}
use Rattle.std.specs.Prelude.{◌+◌, ◌*◌, if◌then◌else◌}
use Rattle.std.proofs.lemmas.List.{length-map}
use Rattle.block_io.specs.pm_model.declared.Cell.{Cell}
use Rattle.block_io.specs.pm_model.ImageLaws.{IsImage-words_of}
use Rattle.block_io.specs.pm_model.Images.{words_of}
use Rattle.block_io.specs.pm_model.Powers.{Steps, Supply}
use Rattle.block_io.specs.layout_model.Journal.{journaled}
use Rattle.k_tables.specs.volume_laws.ReadingLaws.{reads-volume}
use Rattle.k_group_commit.specs.Joins.{Goes, IsAhead, WasCommitted}
use Rattle.k_map_plans.specs.k_journal.Batch.{lines_of}
use Rattle.k_map_plans.specs.k_journal.declared.batches.Record.{Record}
use Rattle.k_map_plans.specs.k_journal.declared.outcomes.Commit.{Commit}
use Rattle.k_map_plans.specs.k_plans.Switching.{with_waiting}
use Rattle.k_map_plans.specs.k_plans.View.{TablesView}
use Rattle.k_tables.specs.k_split_model.View.{once_committed, View}
use Rattle.k_split.specs.Answers.{Changes, IsCommitAnswer, IsCut}
use Rattle.k_split.specs.Gathers.{IsCommitOutcome}
use Rattle.k_split.specs.Order.{IsReady, standing, view_of}
use Rattle.k_split.proofs.Joined.{names-changed}
use Rattle.k_split.proofs.Ready.{committed-is, in-order}

module _ (t : TablesView) (group b : List Record) (d : List Cell) (batched lost : Bool) (ready : IsReady t group b d batched) where
  -- the tables are ahead by the lines of the group
  pub ahead : IsAhead ready.committed t t group d
  ahead = record { opened = ready.opened; geometry = refl }

  module _ (q : TablesView) (c : List Record) (e : List Cell) (was : WasCommitted ready.committed t t q c d e) where
    -- K-Split is ready, and nothing has gathered
    pub ready-committed : IsReady q c b e batched
    ready-committed =
        subst (λ (x : TablesView). IsReady x c b e batched) (sym was.tables)
        (subst (λ (a : List Record). IsReady (with_waiting [] t) a b e batched) (sym was.group) (record {
          committed = t.volume;
          opened = was.opened;
          unstaged = λ i in_data free. was.singles i (ready.unstaged i in_data free);
          few = omega arith;
          empty = λ none. (refl, refl);
          unbatched = λ off. refl;
          no_lines = ready.no_lines;
        }))

    same-here : (x : Bool) → (if x then standing t.volume.geometry e else t.volume) ≡ t.volume
    same-here true = reads-volume t.volume.geometry (journaled (words_of e)) t.volume (was.opened.are.stands.reads (words_of e) (IsImage-words_of e))
    same-here false = refl

    committed-now : (if batched then standing q.volume.geometry e else q.volume) ≡ t.volume
    committed-now = ap (λ (x : TablesView). if batched then standing x.volume.geometry e else x.volume) was.tables ∙ same-here batched

    pub view-committed : view_of q c e batched lost ≡ record (once_committed (view_of t group d batched lost)) { cells = e }
    view-committed i = record {
      volume = (was.tables i).volume;
      committed = committed-now i;
      waiting = (was.tables i).waiting;
      lines = lines_of (was.group i);
      cells = e;
      batched = batched;
      lost = lost;
    }

    pub committed-changes : Changes (view_of t group d batched lost).committed t.volume d e
    committed-changes =
        names-changed ready.committed t.volume (view_of t group d batched lost).committed d e (committed-is t group b d batched ready) was.goes

    pub outcome-done : (k : View) → view_of t group d batched lost ≡ k → IsCommitOutcome k (view_of q c e batched lost) Commit.Done
    outcome-done k same = subst (λ x. IsCommitOutcome x (view_of q c e batched lost) Commit.Done) same (record {
      same = view-committed;
      order = in-order q c b e batched ready-committed lost;
      changes = committed-changes;
      singles = was.singles;
    })

    pub answer-done : (k : View) → lost ≡ false → view_of t group d batched lost ≡ k → IsCommitAnswer k (view_of q c e batched lost) Commit.Done
    answer-done k is same = subst (λ x. IsCommitAnswer x (view_of q c e batched lost) Commit.Done) same (
      ap (λ (x : TablesView). x.volume) was.tables,
      record {
        kept_on = is;
        batched = refl;
        order = in-order q c b e batched ready-committed lost;
        changes = subst (λ v. Changes (view_of t group d batched lost).committed v d e) (sym (ap (λ (x : TablesView). x.volume) was.tables)) committed-changes;
        singles = was.singles;
      },
    )

  pub cut-view : (e : List Cell) (c : List Record) → Goes [] ready.committed t.volume d e
      → IsCut t.volume (view_of t group d batched lost) (view_of t c e batched true)
  cut-view e c goes = record {
    lost = refl;
    batched = refl;
    whole = ready.opened.whole;
    changes = names-changed ready.committed t.volume (view_of t group d batched lost).committed d e (committed-is t group b d batched ready) goes;
  }

  pub answer-lost : (k : View) (e : List Cell) (c : List Record) → view_of t group d batched lost ≡ k → Goes [] ready.committed t.volume d e
      → IsCommitAnswer k (view_of t c e batched true) Commit.PowerLost
  answer-lost k e c same goes = subst (λ x. IsCommitAnswer x (view_of t c e batched true) Commit.PowerLost) same (inr (cut-view e c goes))

  pub outcome-lost : (k : View) (e : List Cell) (c : List Record) → view_of t group d batched lost ≡ k → Goes [] ready.committed t.volume d e
      → IsCommitOutcome k (view_of t c e batched true) Commit.PowerLost
  outcome-lost k e c same goes = subst (λ x. IsCommitOutcome x (view_of t c e batched true) Commit.PowerLost) same (inr (cut-view e c goes))

  pub few-lines : (x y : Supply) → Steps (32 * length group + 16) x y → Steps (32 * length (lines_of group) + 16) x y
  few-lines x y steps = subst (λ n. Steps (32 * n + 16) x y) (sym (length-map group (λ (e : Record). e.line))) steps
