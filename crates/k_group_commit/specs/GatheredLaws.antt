-- Laws of lines that gather: one plan after another is one plan, and new maps stay where other blocks are written.
use Rattle.std.specs.Prelude.{All, ◌≡◌, ℕ, ◌+◌, ◌-◌, ◌*◌, ◌<◌, List, [], ◌++◌, length, true, false, refl}
use Rattle.std.proofs.Common.{arith, ap, sym, ◌∙◌, subst, inl, inr}
use Rattle.std.proofs.lemmas.Bool.{both_ways, cases_lt}
use Rattle.std.proofs.lemmas.Grind.{flat_map-append}
use Rattle.std.proofs.lemmas.List.{get_or_append_left, get_or-append_right, length-append}
use Rattle.std.proofs.lemmas.List.Elements.{All-append}
use Rattle.pm_lines.specs.pm_model.declared.Cell.{Cell}
use Rattle.pm_lines.specs.pm_model.Cells.{cell, Settles}
use Rattle.pm_lines.specs.pm_model.Frames.{KeepsSingle}
use Rattle.pm_lines.specs.pm_model.Images.{ComesFrom, Follows, Follows-weaken}
use Rattle.pm_lines.specs.pm_model.Powers.{is_on, Supply}
use Rattle.pm_lines.specs.pm_model.Words.{Words}
use Rattle.k_plans.specs.image_model.Chains.{first_or_zero}
use Rattle.k_plans.specs.image_model.Placed.{AreSingle, block_at, IsOutside}
use Rattle.k_plans.specs.image_model.Reading.{Reads}
use Rattle.k_plans.specs.image_model.Volume.{Volume, chain}
use Rattle.k_plans.specs.layout_model.Journal.{journaled}
use Rattle.k_plans.specs.layout_model.PlaceLaws.{behind_log-words}
use Rattle.k_plans.specs.layout_model.Places.{commit_word, Geometry, is_data_block, is_journaled_line}
use Rattle.k_plans.specs.volume_laws.ChainLaws.{IsChain-same}
use Rattle.k_plans.specs.volume_laws.ImageLaws.{journaled-idle}
use Rattle.k_plans.specs.volume_laws.LineWords.{data_word, data_word-not_journaled}
use Rattle.k_plans.specs.volume_laws.Reading.{AreUnchained}
use Rattle.k_plans.specs.volume_laws.Uses.{is_unused}
use Rattle.k_plans.specs.k_journal.Batch.{AllLines, AreLaid, content, target, with_batch}
use Rattle.k_plans.specs.k_journal.Patches.{patched-miss}
use Rattle.k_plans.specs.k_journal.declared.batches.Record.{Record}
use Rattle.map_chain.specs.Writes.{SameOutside}
use Rattle.k_plans.specs.LandingLaws.{has-none, idle-image, single-none}
use Rattle.k_plans.specs.LandingsPlans.{blocks_of, HasAllNew, HasNew, IsChainFrom, NewChain, new_at, no_new, Turns}
use Rattle.k_plans.specs.LandingsPlans.IsChainFrom.{NewBlocks, NoBlocks, OldBlocks}
use Rattle.k_plans.specs.Maps.{AreApart, MayWriteAll, SameOutsideFirst, WritesFirst}
use Rattle.k_plans.specs.PlanLaws.{turns-none}
use Rattle.k_plans.specs.WrittenLaws.{block-among, has-all, outside-each, stands-written, unused-apart}
use Rattle.k_plans.specs.k_split_model.Stands.{Stands}
use Rattle.k_group_commit.specs.Gathered.{AreGathered}

-- ---- one list of new maps behind another

pub new_at-left : (news more : List NewChain) (k : ℕ) → k < length news → new_at (news ++ more) k ≡ new_at news k
new_at-left news more k below = get_or_append_left news more no_new k below

pub new_at-right : (news more : List NewChain) (k : ℕ) → new_at (news ++ more) (length news + k) ≡ new_at more k
new_at-right news more k =
    get_or-append_right news more (length news) (length news + k) no_new refl (omega arith) ∙ ap (new_at more) (omega arith)

-- what holds of each of both holds of each of all
pub each-new : (P : NewChain → Type 0) (news more : List NewChain) → ((k : ℕ) → k < length news → P (new_at news k))
    → ((k : ℕ) → k < length more → P (new_at more k)) → (k : ℕ) → k < length (news ++ more) → P (new_at (news ++ more) k)
each-new P news more first then k below = elim (cases_lt k (length news)) [
  | inl early ↦ subst P (sym (new_at-left news more k early)) (first k early)
  | inr late ↦
      subst P (sym (ap (new_at (news ++ more)) (omega (arith, late)) ∙ new_at-right news more (k - length news)))
      (then (k - length news) (omega (arith, length-append news more)))
]

pub has-left : (g : Geometry) (news more : List NewChain) (f : Words) → HasAllNew g (news ++ more) f → HasAllNew g news f
has-left g news more f has k below =
    subst (HasNew g f) (new_at-left news more k below) (has k (omega (arith, below, length-append news more)))

pub has-right : (g : Geometry) (news more : List NewChain) (f : Words) → HasAllNew g (news ++ more) f → HasAllNew g more f
has-right g news more f has k below =
    subst (HasNew g f) (new_at-right news more k) (has (length news + k) (omega (arith, below, length-append news more)))

-- where the blocks of a chain come from, through the volume between
from-left : (news more : List NewChain) (u : Volume) (blocks : List ℕ) → IsChainFrom news u blocks → IsChainFrom (news ++ more) u blocks
from-left news more u blocks (NoBlocks none) = NoBlocks none
from-left news more u blocks (OldBlocks i same) = OldBlocks i same
from-left news more u blocks (NewBlocks k below same) =
    NewBlocks k (omega (arith, below, length-append news more)) (same ∙ ap (λ (c : NewChain). c.blocks) (sym (new_at-left news more k below)))

from-both : (news more : List NewChain) (u v : Volume) (blocks : List ℕ) → ((i : ℕ) → IsChainFrom news u (chain v i)) → IsChainFrom more v blocks
    → IsChainFrom (news ++ more) u blocks
from-both news more u v blocks own (NoBlocks none) = NoBlocks none
from-both news more u v blocks own (OldBlocks i same) = subst (IsChainFrom (news ++ more) u) (sym same) (from-left news more u (chain v i) (own i))
from-both news more u v blocks own (NewBlocks k below same) =
    NewBlocks (length news + k) (omega (arith, below, length-append news more))
    (same ∙ ap (λ (c : NewChain). c.blocks) (sym (new_at-right news more k)))

-- ---- one plan after another

-- a new map still stands once lines are set, which are none of its blocks'
with-lines : (g : Geometry) (b : List Record) (f : Words) (c : NewChain) → AllLines (is_journaled_line g) b → HasNew g f c → HasNew g (with_batch b f) c
with-lines g b f c lines has = record {
  is_chain = IsChain-same f (with_batch b f) (512 * g.blocks) (first_or_zero c.blocks) (length c.extents) c.blocks c.extents
      (λ k j within word. patched-miss (length b) (target b) (content b) f (512 * block_at c.blocks k + j) (λ n below at.
      both_ways (is_journaled_line g (target b n))
      (subst (λ line. is_journaled_line g line ≡ false) (sym at) (data_word-not_journaled g (block_at c.blocks k) j (has.in_data k 0 within) word))
      (lines n below)))
      has.is_chain;
  in_data = has.in_data;
}

-- Lines that turn u into v, and then lines that turn v into w, laid over them, turn u into w.
pub turns-laid : (g : Geometry) (news more : List NewChain) (u v w : Volume) (a b c : List Record) → Turns g news u v a → Turns g more v w b
    → AreLaid a b c → Turns g (news ++ more) u w c
turns-laid g news more u v w a b c first then laid = record {
  lines = laid.tests (is_journaled_line g) first.lines then.lines;
  reads = λ f has r.
      let between : Reads g (with_batch a f) v = first.reads f (has-left g news more f has) r in
      let still : HasAllNew g more (with_batch a f) = λ k below. with-lines g a f (new_at more k) first.lines (has-right g news more f has k below) in
      let words : with_batch c f ≡ with_batch b (with_batch a f) = λ i w. laid.meaning f w i in
      subst (λ h. Reads g h w) (sym words) (then.reads (with_batch a f) still between);
  chains = λ ino. from-both news more u v (chain w ino) first.chains (then.chains ino);
}

-- where nothing has gathered
pub none-gathered : (g : Geometry) (v : Volume) (d : List Cell) → Stands g v d → AreGathered g [] v v [] d
none-gathered g v d stands = record {
  stands = stands;
  turns = turns-none g [] v;
  stand = has-none g d;
  in_data = λ k b below. absurd (omega arith);
  single = single-none d;
}

-- ---- other blocks are written

-- a new map still stands where words of other blocks are written
still-new : (g : Geometry) (c : NewChain) (blocks : List ℕ) (before image : Words) → before commit_word ≡ 0 → image commit_word ≡ 0
    → SameOutside blocks before image → AreApart c.blocks blocks → HasNew g (journaled before) c → HasNew g (journaled image) c
still-new g c blocks before image idle after same apart has = record {
  is_chain = IsChain-same (journaled before) (journaled image) (512 * g.blocks) (first_or_zero c.blocks) (length c.extents) c.blocks c.extents
      (λ k j within word.
      let plain = behind_log-words g (512 * block_at c.blocks k + j) (data_word g (block_at c.blocks k) j (has.in_data k 0 within) word) in
      journaled-idle image (512 * block_at c.blocks k + j) after plain
      ∙ same (512 * block_at c.blocks k + j) (λ m below at. apart k m within below (omega arith))
      ∙ sym (journaled-idle before (512 * block_at c.blocks k + j) idle plain))
      has.is_chain;
  in_data = has.in_data;
}

pub apart-each : (news : List NewChain) (blocks : List ℕ) (k : ℕ) → k < length news → AreApart (blocks_of news) blocks
    → AreApart (new_at news k).blocks blocks
apart-each news blocks k below apart j m within inside same =
    let among = block-among news k j below within in
    apart among.place m among.within inside (among.is ∙ same)

-- Blocks were written that no inode of the volume of the device has, and in which no new map stands: what has gathered is as it
-- was.
pub gathered-beside : (g : Geometry) (news : List NewChain) (u v : Volume) (group : List Record) (blocks : List ℕ) (d m : List Cell)
    → AreGathered g news u v group d → AreUnchained g u blocks → AreApart (blocks_of news) blocks → length m ≡ length d
    → ((i : ℕ) → IsOutside blocks i → Settles (cell d i) (cell m i)) → KeepsSingle d m → Follows (SameOutside blocks) d m
    → AreGathered g news u v group m
gathered-beside g news u v group blocks d m are free apart size others keeps follows = record {
  stands = after;
  turns = are.turns;
  stand = λ image is k below.
      let from : (before : Words) × ComesFrom d image before × SameOutside blocks before image = follows image is in
      still-new g (new_at news k) blocks from.0 image (idle-image d from.0 are.stands.idle from.1.is_image) (idle-image m image after.idle is) from.2
      (apart-each news blocks k below apart) (are.stand from.0 from.1.is_image k below);
  in_data = are.in_data;
  single = λ k below j i within at. keeps i (are.single k below j i within at);
}
  where
    after : Stands g u m
    after = stands-written g u blocks d m are.stands free size others keeps follows

-- the writes of new maps change no word of other blocks
pub same-outside : (news : List NewChain) (d m : List Cell) (p q : Supply) → WritesFirst news (length news) d m p q
    → Follows (SameOutside (blocks_of news)) d m
same-outside news d m p q first =
    Follows-weaken (SameOutsideFirst news (length news)) (SameOutside (blocks_of news)) d m
    (λ a c same i out. same i (outside-each news i out)) first.each_image

-- ---- a change joins

-- Its new maps were written, into blocks that no inode of the volume of the device has and in which no map stands that gathered; and
-- its lines are laid over those that gathered.
pub gathered-joined : (g : Geometry) (news more : List NewChain) (u v w : Volume) (a b c : List Record) (d m : List Cell) (p q : Supply)
    → AreGathered g news u v a d → All (λ k. is_unused u k ≡ true) (blocks_of more) → AreApart (blocks_of news) (blocks_of more)
    → Turns g more v w b → AreLaid a b c → MayWriteAll more d → WritesFirst more (length more) d m p q → is_on q ≡ true
    → AreGathered g (news ++ more) u w c m
gathered-joined g news more u v w a b c d m p q are unused apart turns laid may first on = record {
  stands = before.stands;
  turns = turns-laid g news more u v w a b c before.turns turns laid;
  stand = λ image is. each-new (HasNew g (journaled image)) news more (before.stand image is) (has-all g more u d m p q are.stands free first on image is);
  in_data = subst (All (λ k. is_data_block g k ≡ true)) (sym (flat_map-append (λ (x : NewChain). x.blocks) news more))
      (All-append (λ k. is_data_block g k ≡ true) (blocks_of news) (blocks_of more) are.in_data free.in_data);
  single = each-new (λ x. AreSingle x.blocks m) news more before.single (λ k below j i within at.
      first.keeps on i ((may.each k below).single j i within at));
}
  where
    free : AreUnchained g u (blocks_of more)
    free = unused-apart g u d (blocks_of more) are.stands unused

    before : AreGathered g news u v a m
    before =
        gathered-beside g news u v a (blocks_of more) d m are free apart first.size (λ i out. first.others i (outside-each more i out)) (first.keeps on)
        (same-outside more d m p q first)
