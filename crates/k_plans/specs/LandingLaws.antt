-- Laws of landing: what a commit of a plan asks for, and what it makes of the images of a device that stands at a
-- volume.
use Rattle.std.specs.Prelude.{◌≡◌, ℕ, ◌*◌, ◌/◌, ◌<◌, List, [], length, false}
use Rattle.std.proofs.Common.{arith, sym, subst, inl, inr, ⊎_elim}
use Rattle.std.proofs.lemmas.Bool.{both_ways}
use Rattle.k_inodes.specs.pm_model.declared.Cell.{Cell}
use Rattle.k_inodes.specs.pm_model.declared.Cell.TheVariants.{Single}
use Rattle.k_inodes.specs.pm_model.Cells.{cell, IsCandidate}
use Rattle.k_inodes.specs.pm_model.Frames.{KeepsSingle}
use Rattle.k_inodes.specs.pm_model.Images.{IsImage, ComesFrom, Follows}
use Rattle.k_inodes.specs.pm_model.Words.{Words}
use Rattle.k_inodes.specs.layout_model.Journal.{journaled, IsSound}
use Rattle.k_inodes.specs.layout_model.PlaceLaws.{journaled-below_log}
use Rattle.k_inodes.specs.layout_model.Places.{Geometry, commit_word, is_journaled_line}
use Rattle.volume_change_laws.specs.k_split_model.image_model.Placed.{AreSingle}
use Rattle.volume_change_laws.specs.k_split_model.image_model.Reading.{Reads}
use Rattle.volume_change_laws.specs.k_split_model.image_model.Volume.{Volume, chain}
use Rattle.k_journal.specs.Batch.{target, with_batch, AllLines, IsNew}
use Rattle.k_journal.specs.Commits.{MayCommit, IsBeforeOrAfter, IsAfter}
use Rattle.k_journal.specs.declared.batches.Record.{Record}
use Rattle.volume_change_laws.specs.k_split_model.Stands.{Stands, IsOldOrNew}
use Rattle.k_plans.specs.LandingsPlans.{NewChain, new_at, HasAllNew, IsChainFrom, Turns}
use Rattle.k_plans.specs.LandingsPlans.IsChainFrom.{NoBlocks, OldBlocks, NewBlocks}

-- the new maps stand in each image
abbrev pub EachImageHas : Geometry → List NewChain → List Cell → Type 0
EachImageHas g news d = (image : Words) → IsImage d image → HasAllNew g news (journaled image)

-- each word of the new blocks has one candidate
abbrev pub AreNewSingle : List NewChain → List Cell → Type 0
AreNewSingle news d = (k : ℕ) → k < length news → AreSingle (new_at news k).blocks d

-- what a commit of the plan asks for
pub may-commit : (g : Geometry) (news : List NewChain) (v w : Volume) (b : List Record) (d : List Cell)
    → Stands g v d → Turns g news v w b → MayCommit g b d
may-commit g news v w b d stands turns = record {
  blocks = stands.size;
  lines = turns.lines;
  idle = stands.idle;
  journal = λ i below. stands.single i (omega arith);
  targets = λ k below i at. stands.single i (omega (arith, journaled-below_log g (target b k) (turns.lines k below)));
}

-- an image of a device whose journal is empty
pub idle-image : (d : List Cell) (image : Words) → cell d commit_word ≡ Single 0 → IsImage d image → image commit_word ≡ 0
idle-image d image idle is = subst (λ c. IsCandidate c (image commit_word)) idle (is commit_word)

pub idle-sound : (g : Geometry) (image : Words) → image commit_word ≡ 0 → IsSound g image
idle-sound g image idle = record { count = omega (arith, idle); targets = λ r below. absurd (omega (arith, idle)) }

-- a word of no journaled line is in no line of the plan
pub lines-new : (g : Geometry) (b : List Record) (line : ℕ) → AllLines (is_journaled_line g) b → is_journaled_line g line ≡ false
    → IsNew b line
lines-new g b line lines other k below at =
    both_ways (is_journaled_line g (target b k)) (subst (λ n. is_journaled_line g n ≡ false) (sym at) other) (lines k below)

-- Whatever a commit of the plan leaves, each image reads as the old volume or as the new one.
pub each_image-committed : (g : Geometry) (news : List NewChain) (v w : Volume) (b : List Record) (d e : List Cell)
    → Stands g v d → EachImageHas g news d → Turns g news v w b → Follows (IsBeforeOrAfter g b) d e
    → Follows (IsOldOrNew g [] v w) d e
each_image-committed g news v w b d e stands has turns follows image is =
    let from : (before : Words) × ComesFrom d image before × IsBeforeOrAfter g b before image = follows image is in
    let old : Reads g (journaled from.0) v = stands.reads from.0 from.1.is_image in
    let new : Reads g (with_batch b (journaled from.0)) w = turns.reads (journaled from.0) (has from.0 from.1.is_image) old in (
      from.0,
      from.1,
      record {
        reads = ⊎_elim
            (λ (same : journaled image ≡ journaled from.0). inl (subst (λ f. Reads g f v) (sym same) old))
            (λ (same : journaled image ≡ with_batch b (journaled from.0)). inr (subst (λ f. Reads g f w) (sym same) new))
            from.2.view;
        others = λ i outside other free. from.2.others i outside (lines-new g b (i / 8) turns.lines other);
        sound = from.2.sound (idle-sound g from.0 (idle-image d from.0 stands.idle from.1.is_image));
      },
    )

-- the blocks of an old chain, or of a new one, have one candidate a word
single-from : (news : List NewChain) (v : Volume) (blocks : List ℕ) (d : List Cell) → ((ino : ℕ) → AreSingle (chain v ino) d)
    → AreNewSingle news d → IsChainFrom news v blocks → AreSingle blocks d
single-from news v blocks d old new (NoBlocks none) = subst (λ bs. AreSingle bs d) (sym none) (λ k i below at. absurd (omega arith))
single-from news v blocks d old new (OldBlocks ino same) = subst (λ bs. AreSingle bs d) (sym same) (old ino)
single-from news v blocks d old new (NewBlocks k below same) = subst (λ bs. AreSingle bs d) (sym same) (new k below)

-- After a whole commit of the plan the device stands at the new volume.
pub stands-committed : (g : Geometry) (news : List NewChain) (v w : Volume) (b : List Record) (d e : List Cell)
    → Stands g v d → EachImageHas g news d → AreNewSingle news d → Turns g news v w b
    → length e ≡ length d → cell e commit_word ≡ Single 0 → KeepsSingle d e → Follows (IsAfter g b) d e → Stands g w e
stands-committed g news v w b d e stands has single turns size idle keeps follows = record {
  size = subst (λ n. n ≡ 512 * g.blocks) (sym size) stands.size;
  idle = idle;
  single = λ i below. keeps i (stands.single i below);
  chains = λ ino k i below at. keeps i (single-from news v (chain w ino) d stands.chains single (turns.chains ino) k i below at);
  reads = λ image is.
      let from : (before : Words) × ComesFrom d image before × IsAfter g b before image = follows image is in
      subst (λ f. Reads g f w) (sym from.2.view)
      (turns.reads (journaled from.0) (has from.0 from.1.is_image) (stands.reads from.0 from.1.is_image));
}

-- a plan without new maps
pub has-none : (g : Geometry) (d : List Cell) → EachImageHas g [] d
has-none g d image is k below = absurd (omega arith)

pub single-none : (d : List Cell) → AreNewSingle [] d
single-none d k below = absurd (omega arith)
