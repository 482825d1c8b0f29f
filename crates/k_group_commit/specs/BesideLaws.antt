-- Words change on which nothing rests that gathered: the device stands where it stood.
use Rattle.std.specs.Prelude.{All, ◌≡◌, ◌⊎◌, ◌<◌, ◌+◌, ◌*◌, ◌/◌, ℕ, Bool, true, false, List, [], length}
use Rattle.std.proofs.Common.{arith, ap, sym, ◌∙◌, subst, inl, inr}
use Rattle.std.proofs.lemmas.Bool.{both_ways, cases_lt}
use Rattle.std.proofs.lemmas.List.{get_or_past}
use Rattle.pm_lines.specs.pm_model.declared.Cell.{Cell}
use Rattle.pm_lines.specs.pm_model.declared.Cell.TheVariants.{Single}
use Rattle.pm_lines.specs.pm_model.Cells.{cell, is_single}
use Rattle.pm_lines.specs.pm_model.ImageLaws.{IsImage-words_of}
use Rattle.pm_lines.specs.pm_model.Images.{IsImage, words_of}
use Rattle.pm_lines.specs.pm_model.Words.{Words}
use Rattle.k_plans.specs.block_pool.FreeSets.{is_among}
use Rattle.k_plans.specs.image_model.Chains.{first_or_zero}
use Rattle.k_plans.specs.image_model.Placed.{block_at, IsOutside}
use Rattle.k_plans.specs.image_model.Reading.{Reads}
use Rattle.k_plans.specs.image_model.Rules.{file_blocks_of}
use Rattle.k_plans.specs.image_model.Volume.{chain, extents, inode, Volume}
use Rattle.k_plans.specs.layout_model.Journal.{is_journal_word, journaled}
use Rattle.k_plans.specs.layout_model.PlaceLaws.{behind_log-not_journaled, behind_log-words}
use Rattle.k_plans.specs.layout_model.Places.{commit_word, Geometry, is_data_block, is_journaled_line, log_block}
use Rattle.k_plans.specs.k_journal.declared.batches.Record.{Record}
use Rattle.k_plans.specs.Free.{is_free_block}
use Rattle.k_plans.specs.LandingsPlans.{blocks_of, HasNew, NewChain, new_at}
use Rattle.k_plans.specs.View.{TablesView}
use Rattle.k_plans.specs.Whole.{IsWhole}
use Rattle.k_plans.specs.WrittenLaws.{block-among, in_data-each}
use Rattle.k_plans.specs.k_split_model.Stands.{Stands}
use Rattle.k_plans.specs.volume_change_laws.Switches.{unused-data}
use Rattle.k_plans.specs.volume_laws.ChainLaws.{IsChain-same}
use Rattle.k_plans.specs.volume_laws.ImageLaws.{journaled-same}
use Rattle.k_plans.specs.volume_laws.LineWords.{data_word}
use Rattle.k_plans.specs.volume_laws.PoolLaws.{covered-in_data}
use Rattle.k_plans.specs.volume_laws.ReadingLaws.{reads-same}
use Rattle.k_plans.specs.volume_laws.Uses.{is_unused}
use Rattle.k_group_commit.specs.Gathered.{AreGathered, IsCovered, IsOpen}
use Rattle.k_group_commit.specs.OpenLaws.{free-unused, free-unwaiting, unused-unchained_one}

-- Of the words that stay are those on which what gathered rests: the words of the metadata, of the chains of the volume of the device,
-- and of the blocks in which new maps stand.
pub record RestsOn (g : Geometry) (u : Volume) (news : List NewChain) (Stays : ℕ → Type 0) : Type 0 where
  pub low : (i : ℕ) → i < 512 * log_block g → Stays i
  pub chains : (ino k i : ℕ) → ino < length u.inodes → k < length (chain u ino) → i / 512 ≡ block_at (chain u ino) k → Stays i
  pub new_maps : (k j i : ℕ) → k < length news → j < length (new_at news k).blocks → i / 512 ≡ block_at (new_at news k).blocks j → Stays i

-- Each image comes from one before that has the same words that stay; those of one candidate have one still.
pub record ChangesOthers (Stays : ℕ → Type 0) (d m : List Cell) : Type 0 where
  pub size : length m ≡ length d
  pub idle : cell d commit_word ≡ Single 0 → cell m commit_word ≡ Single 0
  pub singles : (i : ℕ) → Stays i → is_single (cell d i) ≡ true → is_single (cell m i) ≡ true
  pub comes : (image : Words) → IsImage m image → (before : Words) × IsImage d before × ((i : ℕ) → Stays i → image i ≡ before i)

-- words of the journal, and those of journaled lines, are words of the metadata
pub journal-low : (g : Geometry) (w : ℕ) → is_journal_word w ≡ true → w < 512 * log_block g
journal-low g w journal = elim (cases_lt w (512 * log_block g)) [
  | inl low ↦ low
  | inr past ↦ absurd (both_ways (is_journal_word w) (behind_log-words g w past) journal)
]

pub line-low : (g : Geometry) (w : ℕ) → is_journaled_line g (w / 8) ≡ true → w < 512 * log_block g
line-low g w line = elim (cases_lt w (512 * log_block g)) [
  | inl low ↦ low
  | inr past ↦ absurd (both_ways (is_journaled_line g (w / 8)) (behind_log-not_journaled g (w / 8) (omega (arith, past))) line)
]

-- an inode with a chain is one of the volume's
chained-below : (u : Volume) (ino k : ℕ) → IsWhole u → k < length (chain u ino) → ino < length u.inodes
chained-below u ino k whole within = elim (cases_lt ino (length u.inodes)) [
  | inl below ↦ below
  | inr past ↦ absurd (omega (arith, within, ap length (get_or_past u.chains ino [] (omega (arith, past, whole.maps.chain_count)))))
]

module _ (g : Geometry) (u : Volume) (news : List NewChain) (Stays : ℕ → Type 0) (rests : RestsOn g u news Stays) where
  seen : (before image : Words) → ((i : ℕ) → Stays i → image i ≡ before i) → (i : ℕ) → Stays i → journaled image i ≡ journaled before i
  seen before image same i stays =
      journaled-same before image i (λ w journal. same w (rests.low w (journal-low g w journal))) (same i stays)

  -- an image that is the same at the words that stay reads as the volume of the device
  pub reads-others : (d : List Cell) → Stands g u d → (before image : Words) → IsImage d before → ((i : ℕ) → Stays i → image i ≡ before i)
      → Reads g (journaled image) u
  reads-others d stands before image from same =
      let read = stands.reads before from in
      reads-same g (journaled before) (journaled image) u
      (record {
        lines = λ w line. seen before image same w (rests.low w (line-low g w line));
        chains = λ ino k j short within word.
            seen before image same (512 * block_at (chain u ino) k + j)
            (rests.chains ino k (512 * block_at (chain u ino) k + j) (omega (arith, short, read.inode_count)) within (omega (arith, word)));
      })
      read

module _ (g : Geometry) (u : Volume) (news : List NewChain) (Stays : ℕ → Type 0) (d m : List Cell) (rests : RestsOn g u news Stays)
    (others : ChangesOthers Stays d m) where
  pub stands-others : IsWhole u → Stands g u d → Stands g u m
  stands-others whole stands = record {
    size = others.size ∙ stands.size;
    idle = others.idle stands.idle;
    single = λ i low. others.singles i (rests.low i low) (stands.single i low);
    chains = λ ino k i within at.
        others.singles i (rests.chains ino k i (chained-below u ino k whole within) within at) (stands.chains ino k i within at);
    reads = λ image is. let from = others.comes image is in reads-others g u news Stays rests d stands from.0 image from.1 from.2;
  }

  still : (before image : Words) (c : NewChain) → ((i : ℕ) → Stays i → image i ≡ before i)
      → ((j i : ℕ) → j < length c.blocks → i / 512 ≡ block_at c.blocks j → Stays i) → HasNew g (journaled before) c → HasNew g (journaled image) c
  still before image c same stays has = record {
    is_chain = IsChain-same (journaled before) (journaled image) (512 * g.blocks) (first_or_zero c.blocks) (length c.extents) c.blocks c.extents
        (λ k j within word.
        seen g u news Stays rests before image same (512 * block_at c.blocks k + j) (stays k (512 * block_at c.blocks k + j) within (omega (arith, word))))
        has.is_chain;
    in_data = has.in_data;
  }

  pub gathered-others : (v : Volume) (group : List Record) → IsWhole u → AreGathered g news u v group d → AreGathered g news u v group m
  gathered-others v group whole are = record {
    stands = stands-others whole are.stands;
    turns = are.turns;
    stand = λ image is k below.
        let from = others.comes image is in
        still from.0 image (new_at news k) from.2 (λ j i within at. rests.new_maps k j i below within at) (are.stand from.0 from.1 k below);
    in_data = are.in_data;
    single = λ k below j i within at. others.singles i (rests.new_maps k j i below within at) (are.single k below j i within at);
  }

module _ (u : Volume) (t : TablesView) (a : List Record) (d : List Cell) (opened : IsOpen u t a d) (Stays : ℕ → Type 0) where
  -- What gathered is as it was.
  pub open-others : (m : List Cell) → RestsOn t.volume.geometry u opened.news Stays → ChangesOthers Stays d m → IsOpen u t a m
  open-others m rests others = record {
    news = opened.news;
    are = gathered-others t.volume.geometry u opened.news Stays d m rests others t.volume a opened.committed opened.are;
    committed = opened.committed;
    whole = opened.whole;
    idle = opened.idle;
    waits = opened.waits;
    ahead = opened.ahead;
  }

  -- a block that a map has is behind the metadata
  covered-high : (i : ℕ) → IsCovered t.volume (i / 512) → i < 512 * log_block t.volume.geometry → ⊥
  covered-high i has below =
      let in_data = covered-in_data t.volume.geometry (file_blocks_of (inode t.volume has.0).kind) (extents t.volume has.0) (i / 512)
      (opened.whole.kept.kept.in_data has.0 (omega (arith, has.1, opened.whole.kept.all.inode_count))) has.2
      in
      let behind = data_word t.volume.geometry (i / 512) 0 in_data (omega arith) in
      omega (arith, behind, below)

  -- It rests on no block that a map of the present volume has.
  pub rests-uncovered : ((i : ℕ) → (IsCovered t.volume (i / 512) → ⊥) → Stays i) → RestsOn t.volume.geometry u opened.news Stays
  rests-uncovered stays = record {
    low = λ i below. stays i (λ has. covered-high i has below);
    chains = λ ino k i below within at. stays i (λ has. opened.ahead.unchained (i / 512) has ino k below within (sym at));
    new_maps = λ k j i below within at.
        stays i (λ has.
        let among = block-among opened.news k j below within in
        opened.ahead.bare among.place among.within (subst (IsCovered t.volume) (at ∙ sym among.is) has));
  }

  -- nor on words between the metadata and the data blocks
  pub rests-data : ((i : ℕ) → i < 512 * log_block t.volume.geometry → Stays i) → ((i : ℕ) → is_data_block t.volume.geometry (i / 512) ≡ true → Stays i)
      → RestsOn t.volume.geometry u opened.news Stays
  rests-data low data_words = record {
    low = low;
    chains = λ ino k i below within at.
        let read = opened.are.stands.reads (words_of d) (IsImage-words_of d) in
        data_words i
        (subst (λ b. is_data_block t.volume.geometry b ≡ true) (sym at) (read.blocks ino (omega (arith, below, read.inode_count)) k 0 within));
    new_maps = λ k j i below within at.
        data_words i
        (subst (λ b. is_data_block t.volume.geometry b ≡ true) (sym at)
        (in_data-each t.volume.geometry opened.news k below opened.are.in_data j 0 within));
  }

  -- nor on a word of more than one candidate
  pub rests-single : ((i : ℕ) → is_single (cell d i) ≡ true → Stays i) → RestsOn t.volume.geometry u opened.news Stays
  rests-single stays = record {
    low = λ i below. stays i (opened.are.stands.single i below);
    chains = λ ino k i below within at. stays i (opened.are.stands.chains ino k i within at);
    new_maps = λ k j i below within at. stays i (opened.are.single k below j i within at);
  }

-- nor on a free block
pub rests-free : (u : Volume) (t : TablesView) (a : List Record) (d : List Cell) (opened : IsOpen u t a d) (fresh : List ℕ)
    → All (λ b. is_free_block t b ≡ true) fresh → RestsOn t.volume.geometry u opened.news (IsOutside fresh)
rests-free u t a d opened fresh free = record {
  low = λ i low k within at.
      let in_data = unused-data t.volume (block_at fresh k) (free-unused t (block_at fresh k) (free k 0 within)) in
      let behind = data_word t.volume.geometry (block_at fresh k) 0 in_data (omega arith) in
      omega (arith, behind, low, at);
  chains = λ ino k i below within at n inside is.
      unused-unchained_one u (block_at fresh n) opened.committed (opened.ahead.unused (block_at fresh n) (free n 0 inside)) ino k below within (sym at ∙ sym is);
  new_maps = λ k j i below within at n inside is.
      let among = block-among opened.news k j below within in
      let same : block_at (blocks_of opened.news) among.place ≡ block_at fresh n = among.is ∙ sym at ∙ sym is in
      elim (opened.ahead.held among.place among.within) [
        | inl used ↦
            both_ways (is_unused t.volume (block_at fresh n)) (ap (is_unused t.volume) (sym same) ∙ used) (free-unused t (block_at fresh n) (free n 0 inside))
        | inr waits ↦
            both_ways (is_among t.waiting (block_at fresh n)) (free-unwaiting t (block_at fresh n) (free n 0 inside))
            (ap (is_among t.waiting) (sym same) ∙ waits)
      ];
}
