-- What the words of the device read as rests on none that is lent.
use Rattle.std.proofs.Common.{◌≡◌, ◌<◌, ◌≤◌, ◌+◌, ◌*◌, ◌/◌, ℕ, Bool, true, false, List, [], length, Result, Ok, Err, refl, sym, ◌∙◌, ap, subst, arith, inl, inr}
use Rattle.std.proofs.lemmas.Bool.{cases_Bool}
use Rattle.block_io.specs.pm_model.declared.Cell.{Cell}
use Rattle.block_io.specs.pm_model.CellLaws.{single-home}
use Rattle.block_io.specs.pm_model.Cells.{cell, is_lent, newest}
use Rattle.block_io.specs.pm_model.Frames.{SameLent}
use Rattle.block_io.specs.pm_model.ImageLaws.{IsImage-words_of}
use Rattle.block_io.specs.pm_model.Images.{Follows, words_of}
use Rattle.block_io.specs.image_model.Placed.{block_at}
use Rattle.block_io.specs.image_model.Reading.{base_set, Reads}
use Rattle.block_io.specs.image_model.Volume.{chain, extents, Volume}
use Rattle.block_io.specs.extent_model.Extents.{covers}
use Rattle.block_io.specs.layout_model.Journal.{journaled}
use Rattle.block_io.specs.layout_model.Places.{Geometry, is_data_block, log_block}
use Rattle.k_group_commit.specs.BesideLaws.{journal-low, line-low}
use Rattle.k_group_commit.specs.Joins.{Goes, IsJoined}
use Rattle.k_group_commit.specs.OpenLaws.{covered-unchained}
use Rattle.k_map_plans.specs.k_journal.Batch.{lines_of}
use Rattle.k_map_plans.specs.k_journal.declared.batches.Record.{Record}
use Rattle.k_map_plans.specs.k_journal.declared.outcomes.Commit.{Commit}
use Rattle.k_map_plans.specs.k_plans.LandingsPlans.{blocks_of, NewChain}
use Rattle.k_map_plans.specs.k_plans.View.{TablesView}
use Rattle.k_tables.specs.volume_laws.ImageLaws.{journaled-same}
use Rattle.k_tables.specs.volume_laws.ReadingLaws.{reads-same, reads-volume}
use Rattle.k_tables.specs.k_split_model.Stands.{IsOldOrNew, Stands}
use Rattle.k_split.specs.Order.{IsReady, IsSteady, IsUnstaged, view_of}
use Rattle.k_split.proofs.Ready.{device-same}

-- The words read as a volume of which no word of the metadata and of the chains is lent.
pub steady-home : (g : Geometry) (u : Volume) (d : List Cell) → Reads g (journaled (words_of d)) u
    → ((i : ℕ) → i < 512 * log_block g → is_lent (cell d i) ≡ false)
    → ((ino k i : ℕ) → ino < g.inodes → k < length (chain u ino) → i / 512 ≡ block_at (chain u ino) k → is_lent (cell d i) ≡ false) → IsSteady g d
steady-home g u d reads low chains = record {
  stays = λ e same.
      let at : (i : ℕ) → is_lent (cell d i) ≡ false → words_of e i ≡ words_of d i = λ i home. ap newest (same i home) in
      let seen : (i : ℕ) → is_lent (cell d i) ≡ false → journaled (words_of e) i ≡ journaled (words_of d) i =
      λ i home. journaled-same (words_of d) (words_of e) i (λ w journal. at w (low w (journal-low g w journal))) (at i home)
      in
      let now : Reads g (journaled (words_of e)) u =
      reads-same g (journaled (words_of d)) (journaled (words_of e)) u
      (record {
        lines = λ w line. seen w (low w (line-low g w line));
        chains = λ ino k j short within word.
            seen (512 * block_at (chain u ino) k + j) (chains ino k (512 * block_at (chain u ino) k + j) short within (omega (arith, word)));
      })
      reads
      in
      reads-volume g (journaled (words_of e)) u now ∙ sym (reads-volume g (journaled (words_of d)) u reads);
}

-- so it is where a device stands
pub steady-stands : (g : Geometry) (u : Volume) (d : List Cell) → Stands g u d → IsSteady g d
steady-stands g u d stands =
    steady-home g u d (stands.reads (words_of d) (IsImage-words_of d)) (λ i low. single-home (cell d i) (stands.single i low))
    (λ ino k i short within at. single-home (cell d i) (stands.chains ino k i within at))

-- and still, once words that were lent come back
pub steady-back : (g : Geometry) (d e : List Cell) → IsSteady g d → ((i : ℕ) → is_lent (cell d i) ≡ false → cell e i ≡ cell d i) → IsSteady g e
steady-back g d e steady same = record {
  stays = λ f more.
      steady.stays f (λ i home. more i (ap is_lent (same i home) ∙ home) ∙ same i home) ∙ sym (steady.stays e same);
}

module _ (t : TablesView) (group b : List Record) (d : List Cell) (batched : Bool) (ready : IsReady t group b d batched) where
  pub steady-ready : IsSteady t.volume.geometry d
  steady-ready = steady-stands t.volume.geometry ready.committed d ready.opened.are.stands

  unstaged-chain : (ino k : ℕ) → ino < length t.volume.inodes → k < length (chain t.volume ino) → IsUnstaged t.volume (block_at (chain t.volume ino) k)
  unstaged-chain ino k below within staging least most = elim (cases_Bool (covers (extents t.volume staging) (block_at (chain t.volume ino) k))) [
    | inr none ↦ none
    | inl has ↦
        let low : staging < length t.volume.inodes = omega (arith, most, ready.opened.whole.kept.geometry.least_inodes, ready.opened.whole.kept.all.inode_count) in
        absurd (covered-unchained t.volume (block_at (chain t.volume ino) k) ready.opened.whole (staging, low, has) ino k below within refl)
  ]

  -- the words of a chain of either volume are at home
  module _ (e : List Cell) (lent : SameLent d e) where
    low-home : (i : ℕ) → i < 512 * log_block t.volume.geometry → is_lent (cell e i) ≡ false
    low-home i low = lent i ∙ single-home (cell d i) (ready.opened.are.stands.single i low)

    old-home : (ino k i : ℕ) → ino < t.volume.geometry.inodes → k < length (chain ready.committed ino) → i / 512 ≡ block_at (chain ready.committed ino) k
        → is_lent (cell e i) ≡ false
    old-home ino k i short within at = lent i ∙ single-home (cell d i) (ready.opened.are.stands.chains ino k i within at)

    new-home : (ino k i : ℕ) → ino < t.volume.geometry.inodes → k < length (chain t.volume ino) → i / 512 ≡ block_at (chain t.volume ino) k
        → is_lent (cell e i) ≡ false
    new-home ino k i short within at =
        let below : ino < length t.volume.inodes = omega (arith, short, ready.opened.whole.kept.all.inode_count) in
        lent i
        ∙ single-home (cell d i)
        (ready.unstaged i (subst (λ n. is_data_block t.volume.geometry n ≡ true) (sym at) (ready.opened.whole.chains ino k 0 within))
        (subst (IsUnstaged t.volume) (sym at) (unstaged-chain ino k below within)))

    -- the words read as the volume of the device, or as the present one
    pub steady-reads : Reads t.volume.geometry (journaled (words_of e)) ready.committed → IsSteady t.volume.geometry e
    steady-reads reads = steady-home t.volume.geometry ready.committed e reads low-home old-home

    steady-now : Reads t.volume.geometry (journaled (words_of e)) t.volume → IsSteady t.volume.geometry e
    steady-now reads = steady-home t.volume.geometry t.volume e reads low-home new-home

  -- wherever the power goes in a commit, and while blocks are written
  pub steady-goes : (blocks : List ℕ) (e : List Cell) → Goes blocks ready.committed t.volume d e → IsSteady t.volume.geometry e
  steady-goes blocks e goes =
      let from = goes.each_image (words_of e) (IsImage-words_of e) in
      elim from.2.reads [
        | inl old ↦ steady-reads e goes.lent (subst (λ g. Reads g (journaled (words_of e)) ready.committed) (device-same t group b d batched ready) old)
        | inr new ↦ steady-now e goes.lent (subst (λ g. Reads g (journaled (words_of e)) t.volume) (device-same t group b d batched ready) new)
      ]

  pub steady-stays : (blocks : List ℕ) (e : List Cell) → Goes blocks ready.committed ready.committed d e → IsSteady t.volume.geometry e
  steady-stays blocks e goes =
      let from = goes.each_image (words_of e) (IsImage-words_of e) in
      let now : Reads ready.committed.geometry (journaled (words_of e)) ready.committed = elim from.2.reads [ inl old ↦ old | inr old ↦ old ] in
      steady-reads e goes.lent (subst (λ g. Reads g (journaled (words_of e)) ready.committed) (device-same t group b d batched ready) now)

  -- the log base is set, or the power went
  pub steady-based : (base : ℕ) (e : List Cell) → SameLent d e → Follows (IsOldOrNew t.volume.geometry [] t.volume (base_set base t.volume)) d e
      → IsSteady t.volume.geometry e
  steady-based base e lent each =
      let from = each (words_of e) (IsImage-words_of e) in
      elim from.2.reads [
        | inl old ↦ steady-now e lent old
        | inr new ↦ steady-home t.volume.geometry (base_set base t.volume) e new (low-home e lent) (new-home e lent)
      ]

  -- a change that joined, or was cut off
  pub steady-joined : (p h : TablesView) (maps : List NewChain) (a c : List Record) (e : List Cell) (r : Commit) → h.volume ≡ p.volume
      → p.volume.geometry ≡ t.volume.geometry → IsJoined ready.committed t p h maps group a c d e r → IsSteady h.volume.geometry e
  steady-joined p h maps a c e Commit.Done volume same joined = elim joined [
    | inl room ↦ steady-stands h.volume.geometry ready.committed e room.1.opened.are.stands
    | inr was ↦ steady-stands h.volume.geometry t.volume e was.1.opened.are.stands
  ]
  steady-joined p h maps a c e Commit.PowerLost volume same joined =
      let here : t.volume.geometry ≡ h.volume.geometry = sym (ap (λ (v : Volume). v.geometry) volume ∙ same) in
      subst (λ g. IsSteady g e) here (elim joined [
        | inl was ↦ steady-goes [] e was.1
        | inr cut ↦ elim cut [
          | inl room ↦ steady-stays (blocks_of maps) e room.1.goes
          | inr was ↦ steady-goes (blocks_of maps) e was.1.goes
        ]
      ])

-- What contracts see is the same but for the cells, where words come back that were lent.
pub view-back : (t : TablesView) (group : List Record) (d e : List Cell) (batched lost : Bool) → (batched ≡ true → IsSteady t.volume.geometry d)
    → ((i : ℕ) → is_lent (cell d i) ≡ false → cell e i ≡ cell d i)
    → view_of t group e batched lost ≡ record (view_of t group d batched lost) { cells = e }
view-back t group d e true lost steady same i = record {
  volume = t.volume;
  committed = (steady refl).stays e same i;
  waiting = t.waiting;
  lines = lines_of group;
  cells = e;
  batched = true;
  lost = lost;
}
view-back t group d e false lost steady same i = record {
  volume = t.volume;
  committed = t.volume;
  waiting = t.waiting;
  lines = lines_of group;
  cells = e;
  batched = false;
  lost = lost;
}
