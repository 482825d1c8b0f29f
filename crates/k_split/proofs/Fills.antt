-- Holes of a file that are filled: the plan, and what is answered.
use Rattle.std.proofs.Common.{◌≡◌, ℕ, ◌+◌, ◌<◌, Bool, true, false, List, [], ◌∷◌, ◌++◌, length, get_or, Option, None, Result, Ok, Err, refl, sym, ◌∙◌, ap, subst, arith, inl, inr, length-append, length-set}
use Rattle.std.specs.Prelude.{All, OnErr, OnOk, slice_index}
use Rattle.std.proofs.lemmas.List.{get_or_append_left, get_or-append-add}
use Rattle.block_io.specs.pm_model.declared.Cell.{Cell}
use Rattle.block_io.specs.pm_model.Images.{IsImage}
use Rattle.block_io.specs.pm_model.Powers.{Supply}
use Rattle.block_io.specs.pm_model.Words.{Words}
use Rattle.block_io.specs.extent_model.Covers.{covers-disk_at}
use Rattle.block_io.specs.extent_model.Extents.{covers}
use Rattle.block_io.specs.image_model.Placed.{AreDistinct, block_at}
use Rattle.block_io.specs.image_model.Volume.{chain, extents, inode, Volume}
use Rattle.k_tables.specs.volume_laws.Changes.{chain-set_same, extents-set_same}
use Rattle.block_io.specs.k_split_model.Taken.{AreLowest, with_map}
use Rattle.block_io.specs.k_split_model.MapChangesChanges.{holes, IsFilled}
use Rattle.block_io.specs.k_split_model.Zeros.{AreZeros, ReadZeros}
use Rattle.k_group_commit.specs.Gathered.{IsCovered}
use Rattle.k_group_commit.specs.MapJoins.{filled-joins}
use Rattle.k_group_commit.specs.OpenLaws.{unused-bare}
use Rattle.k_map_plans.specs.k_journal.Batch.{lines_of}
use Rattle.k_map_plans.specs.k_journal.declared.batches.Record.{Record}
use Rattle.k_map_plans.specs.k_plans.Maps.{AreApart}
use Rattle.k_map_plans.specs.k_plans.LandingsPlans.{NewChain, blocks_of}
use Rattle.k_map_plans.specs.k_plans.WrittenLaws.{blocks_of-one}
use Rattle.k_map_plans.specs.Plans.{IsLiveFile, IsPlannedOne}
use Rattle.k_map_plans.specs.k_plans.Free.{is_free_block}
use Rattle.k_map_plans.specs.k_plans.View.{TablesView}
use Rattle.k_tables.specs.k_split_model.View.{View}
use Rattle.posix_types.specs.declared.item.Outcome.{Outcome}
use Rattle.k_split.specs.declared.faults.KFault.{KFault}
use Rattle.k_split.specs.Answers.{IsPaid}
use Rattle.k_split.specs.Filling.{fill_row, IsFillAnswer, IsFilledInBatch, IsFilledWith, IsFillJoin, IsFillLanded, IsFillPlanOn, IsZeroedCut}
use Rattle.k_split.specs.Gathers.{AreSet, FillsInBatch, IsGatherAnswer, IsGatherFill, IsZeroCut}
use Rattle.k_split.specs.MapChanges.{is_free_in, IsMapAnswer}
use Rattle.k_split.specs.Order.{IsReady, view_of}
use Rattle.k_split.proofs.ChangeLaws.{ready-none, unstaged-kept}
use Rattle.k_split.proofs.MapAnswers.{file-staged, map-paid}
use Rattle.k_split.proofs.MapJoined.{answer-maps, done-with, plan-set, written-with}
use Rattle.k_split.proofs.Joined.{both-count, maps-changed, on-committed}
use Rattle.k_split.proofs.Released.{none_there}

-- ---- two lists of the lowest free blocks, one after the other

module _ (t : TablesView) (n : ℕ) (fresh blocks : List ℕ) (lowest : AreLowest (is_free_block t) n (fresh ++ blocks)) where
  fresh-at : (k d : ℕ) → k < length fresh → get_or (fresh ++ blocks) k d ≡ get_or fresh k d
  fresh-at k d below = get_or_append_left fresh blocks d k below

  all-free : All (λ k. is_free_block t k ≡ true) fresh
  all-free k d below =
      subst (λ x. is_free_block t x ≡ true) (fresh-at k d below) (lowest.were_free k d (omega (arith, length-append fresh blocks)))

  all-distinct : AreDistinct fresh
  all-distinct j k before below same =
      omega (
        arith,
        lowest.rising j k 0 before (omega (arith, length-append fresh blocks)),
        fresh-at j 0 (omega arith),
        fresh-at k 0 below,
        same,
      )

  all-apart : AreApart fresh blocks
  all-apart j k below within same =
      omega (
        arith,
        lowest.rising j (length fresh + k) 0 (omega arith) (omega (arith, length-append fresh blocks)),
        fresh-at j 0 below,
        get_or-append-add fresh blocks k 0,
        same,
      )

-- ---- the plan

module _ (t p : TablesView) (d : List Cell) (batched : Bool) (group c b : List Record) (map : NewChain) (fresh : List ℕ) (ino from count : ℕ)
    (ready : IsReady t group c d batched) (file : IsLiveFile ino t.volume)
    (filled : IsFilled (is_free_block t) ino from count t.volume p.volume fresh) (one : IsPlannedOne ino t p b map) where
  -- the file has the blocks then
  chain-is : map.blocks ≡ filled.blocks
  chain-is =
      one.chain_is ∙ ap (λ y. chain y ino) filled.is_filled
      ∙ chain-set_same ino (with_map filled.blocks filled.es (inode t.volume ino)) filled.blocks filled.es t.volume
      (omega (arith, file.below, ready.opened.whole.maps.chain_count))

  map-is : extents p.volume ino ≡ filled.es
  map-is =
      ap (λ y. extents y ino) filled.is_filled
      ∙ extents-set_same ino (with_map filled.blocks filled.es (inode t.volume ino)) filled.blocks filled.es t.volume
      (omega (arith, file.below, ready.opened.whole.maps.map_count))

  now-below : ino < length p.volume.inodes
  now-below =
      omega (
        arith,
        file.below,
        ap (λ (y : Volume). length y.inodes) filled.is_filled,
        length-set t.volume.inodes ino (with_map filled.blocks filled.es (inode t.volume ino)),
      )

  has-first : IsCovered p.volume (block_at fresh 0)
  has-first = (
    ino,
    now-below,
    ap (λ es. covers es (block_at fresh 0)) map-is
        ∙ covers-disk_at filled.es (slice_index (holes (extents t.volume ino) from count) 0) (block_at fresh 0) (filled.fills.filled 0 filled.some),
  )

  pub fill-on : IsFillPlanOn fresh t p (map ∷ []) group b d batched
  fill-on = record {
    planned = record {
      ready = ready-none t group c d batched ready;
      plan = one.plan;
      joining = filled-joins t p ino b ready.opened.whole file.below from count fresh map filled one;
      keeps = λ e singles. unstaged-kept t.volume p.volume d e one.plan.geometry
          (file-staged t.volume p.volume ino (inode t.volume ino) filled.blocks filled.es ready.opened.whole file filled.is_filled)
          singles ready.unstaged;
    };
    free = all-free t _ fresh filled.blocks filled.taken;
    distinct = all-distinct t _ fresh filled.blocks filled.taken;
    apart = subst (AreApart fresh) (sym (blocks_of-one map ∙ chain-is)) (all-apart t _ fresh filled.blocks filled.taken);
    taken = λ x unused same. unused-bare x (block_at fresh 0) (unused 0 filled.some) (subst (λ v. IsCovered v (block_at fresh 0)) same has-first);
  }

  -- ---- what is left

  module _ (lost : Bool) (is : lost ≡ false) (k : View) (same : view_of t group d batched lost ≡ k) (row : fill_row ino from count k ≡ None) (h : TablesView)
      (g : List Record) (e : List Cell) (now : Bool) (volume : h.volume ≡ p.volume) where
    with-zeros : ReadZeros t.volume.geometry p.volume fresh e
        → IsFilledWith ino from count (view_of t group d batched lost) e p.volume (fresh ++ blocks_of (map ∷ []))
    with-zeros zeros = record {
      fresh = fresh;
      filled = subst (λ (x : TablesView). IsFilled (is_free_block x) ino from count t.volume p.volume fresh) (none_there t ready.opened.idle) filled;
      written = ap (λ bs. fresh ++ bs) (blocks_of-one map ∙ one.chain_is);
      zeros = zeros;
    }

    with-row : (r : Result (Unit {0}) KFault) → IsMapAnswer (λ w blocks. IsFilledWith ino from count k e w blocks) k (view_of h g e batched now) r
        → IsFillAnswer ino from count k (view_of h g e batched now) r
    with-row (Ok done) answer = inr (row, answer)
    with-row (Err KFault.PowerLost) (inl off) = inl off
    with-row (Err KFault.PowerLost) (inr cut) = inr (row, cut)
    with-row (Err (KFault.Refused errno)) answer = absurd answer
    with-row (Err (KFault.Room room)) answer = absurd answer
    with-row (Err KFault.NoMemory) answer = (row, answer)

    pub fill-answer : (x y : Supply) (r : Result (Unit {0}) KFault) → batched ≡ false → OnOk r (now ≡ lost) → OnErr r (now ≡ true)
        → OnOk r (IsReady h g [] e batched) → IsFillLanded fresh (map ∷ []) t.volume p.volume d e x y r
        → IsFillAnswer ino from count k (view_of h g e batched now) r
    fill-answer x y r off stays goes after landed =
        with-row r
        (answer-maps t p (map ∷ []) group b d batched lost is fill-on.planned off h g e now volume (fresh ++ blocks_of (map ∷ []))
        (λ z w blocks. IsFilledWith ino from count z e w blocks) k x y r same stays goes after (with-zeros landed.zeros) landed.landed)

    set-lines : AreSet t.volume (lines_of b)
    set-lines = plan-set t p (map ∷ []) group b d batched fill-on.planned

    in-batch : ((image : Words) → IsImage e image → AreZeros fresh image)
        → IsFilledInBatch ino from count (view_of t group d batched lost) e p.volume (fresh ++ blocks_of (map ∷ []))
    in-batch zeros = record {
      fresh = fresh;
      filled = subst (λ (x : TablesView). IsFilled (is_free_block x) ino from count t.volume p.volume fresh) (none_there t ready.opened.idle) filled;
      written = ap (λ bs. fresh ++ bs) (blocks_of-one map ∙ one.chain_is);
      zeros = zeros;
    }

    were-free : All (λ x. is_free_in (view_of t group d batched lost) x ≡ true) fresh
    were-free =
        subst (λ (x : TablesView). All (λ n. is_free_block x n ≡ true) fresh) (none_there t ready.opened.idle) fill-on.free

    at-device : batched ≡ true → (view_of t group d batched lost).committed ≡ fill-on.planned.ready.committed
    at-device on = on-committed t group d batched lost fill-on.planned.ready.committed on fill-on.planned.ready.opened

    zero-cut : batched ≡ true → now ≡ true → IsZeroedCut fresh fill-on.planned.ready.committed t group b d e
        → IsZeroCut (FillsInBatch ino from count e) (view_of t group d batched lost) (view_of h g e batched now)
    zero-cut on goes (inl stays) = record {
      lost = goes;
      batched = refl;
      blocks = fresh;
      free = were-free;
      at = (view_of t group d batched lost).committed;
      commits = inl refl;
      changes = maps-changed fresh fill-on.planned.ready.committed fill-on.planned.ready.committed (view_of t group d batched lost).committed
          (view_of t group d batched lost).committed d e (at-device on) (at-device on) stays;
    }
    zero-cut on goes (inr was) = record {
      lost = goes;
      batched = refl;
      blocks = fresh;
      free = were-free;
      at = t.volume;
      commits = inr (inl (lines_of b, set-lines, λ fits. was.0 (omega (arith, fits, both-count group b))), refl);
      changes = maps-changed fresh fill-on.planned.ready.committed t.volume (view_of t group d batched lost).committed t.volume d e (at-device on) refl was.1;
    }

    pub fill-gathers : (y : Supply) (r : Result (Unit {0}) KFault) → batched ≡ true → OnOk r (now ≡ lost) → OnErr r (now ≡ true)
        → OnOk r (IsReady h g [] e batched) → IsFillJoin fresh (map ∷ []) fill-on.planned.ready.committed t p h group b g d e y r
        → IsGatherFill ino from count k (view_of h g e batched now) r
    fill-gathers y (Ok done) on stays goes after joined =
        inr (subst (λ o. IsGatherAnswer o (FillsInBatch ino from count e) k (view_of h g e batched now) (Ok done)) (sym row)
        (subst (λ z. IsGatherAnswer None (FillsInBatch ino from count e) z (view_of h g e batched now) (Ok done)) same
        (done-with t p (fresh ++ blocks_of (map ∷ [])) group b d batched lost is fill-on.planned.ready set-lines on h g e now volume done
        (FillsInBatch ino from count e) stays after (in-batch joined.1) joined.0)))
    fill-gathers y (Err KFault.PowerLost) on stays goes after joined = elim joined.0 [
      | inl zeroed ↦
          inr (row, subst (λ z. IsZeroCut (FillsInBatch ino from count e) z (view_of h g e batched now)) same (zero-cut on goes zeroed))
      | inr cut ↦
          inl (subst (λ o. IsGatherAnswer o (FillsInBatch ino from count e) k (view_of h g e batched now) (Err KFault.PowerLost)) (sym row)
          (subst (λ z. IsGatherAnswer None (FillsInBatch ino from count e) z (view_of h g e batched now) (Err KFault.PowerLost)) same
          (written-with t p (fresh ++ blocks_of (map ∷ [])) group b d batched lost is fill-on.planned.ready set-lines on h g e now volume (let done : Unit {0} = tt in done)
          (FillsInBatch ino from count e) goes (in-batch cut.1) cut.0)))
    ]
    fill-gathers y (Err (KFault.Refused errno)) on stays goes after joined = absurd joined
    fill-gathers y (Err (KFault.Room room)) on stays goes after joined = absurd joined
    fill-gathers y (Err KFault.NoMemory) on stays goes after joined = absurd joined

pub fill-paid : (fresh : List ℕ) (map : NewChain) (v w : Volume) (d e : List Cell) (p q : Supply) (r : Result (Unit {0}) KFault) (row : Option Outcome)
    → row ≡ None → IsFillLanded fresh (map ∷ []) v w d e p q r → IsPaid row p q r
fill-paid fresh map v w d e p q r row none landed =
    subst (λ o. IsPaid o p q r) (sym none) (map-paid (fresh ++ blocks_of (map ∷ [])) v w d e p q r landed.landed)
