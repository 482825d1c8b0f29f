-- Laws of new maps that are written beside what stands: the device still stands at its volume, the maps stand in each
-- image, and a commit then lands the plan.
use Rattle.std.specs.Prelude.{◌≡◌, ◌≢◌, ℕ, zero, suc, ◌+◌, ◌-◌, ◌*◌, ◌/◌, ◌<◌, List, [], ◌∷◌, length, All, take, true, false, refl}
use Rattle.std.proofs.Common.{arith, ap, sym, ◌∙◌, subst, inl, inr, ⊎_elim}
use Rattle.std.proofs.lemmas.Bool.{cases_Bool, cases_eq, cases_lt}
use Rattle.std.proofs.lemmas.List.{append-nil, get_or_append_left, get_or-append_right, get_or_default, length-append}
use Rattle.std.proofs.lemmas.List.Sums.{sum_by_more}
use Rattle.k_inodes.specs.pm_model.declared.Cell.{Cell}
use Rattle.k_inodes.specs.pm_model.declared.Cell.TheVariants.{Single, Two, Marked, Lent}
use Rattle.k_inodes.specs.pm_model.CellLaws.{settled-single}
use Rattle.k_inodes.specs.pm_model.Cells.{cell, is_single, newest, fenced, Settles}
use Rattle.k_inodes.specs.pm_model.Frames.{KeepsSingle}
use Rattle.k_inodes.specs.pm_model.ImageLaws.{Follows-then, IsImage-words_of}
use Rattle.k_inodes.specs.pm_model.Images.{ComesFrom, Follows, Follows-same, Follows-weaken, Then, words_of}
use Rattle.k_inodes.specs.pm_model.PowerLaws.{Steps-none, Steps-then}
use Rattle.k_inodes.specs.pm_model.Powers.{Supply, Steps, is_on}
use Rattle.k_inodes.specs.pm_model.Words.{Words}
use Rattle.k_inodes.specs.layout_model.Journal.{is_journal_word, journaled}
use Rattle.k_inodes.specs.layout_model.PlaceLaws.{behind_log-words}
use Rattle.k_inodes.specs.layout_model.Places.{Geometry, commit_word, is_data_block}
use Rattle.volume_change_laws.specs.k_split_model.image_model.Chains.{first_or_zero}
use Rattle.volume_change_laws.specs.k_split_model.image_model.Placed.{block_at, IsOutside}
use Rattle.volume_change_laws.specs.k_split_model.image_model.Reading.{Reads}
use Rattle.volume_change_laws.specs.k_split_model.image_model.Volume.{Volume}
use Rattle.map_chain.specs.volume_laws.ChainLaws.{IsChain-same}
use Rattle.map_chain.specs.volume_laws.ImageLaws.{journaled-idle, journaled-same, journal-outside}
use Rattle.map_chain.specs.volume_laws.LineWords.{data_word}
use Rattle.map_chain.specs.volume_laws.Reading.{AreUnchained}
use Rattle.map_chain.specs.volume_laws.SetLaws.{reads-written}
use Rattle.map_chain.specs.volume_laws.PoolLaws.{unused-unchained}
use Rattle.map_chain.specs.volume_laws.Uses.{is_unused}
use Rattle.k_journal.specs.Batch.{IsNew}
use Rattle.k_journal.specs.Commits.{MayCommit, IsBeforeOrAfter, IsAfter, TakesAStep}
use Rattle.k_journal.specs.declared.batches.Record.{Record}
use Rattle.volume_change_laws.specs.k_split_model.Stands.{Stands, IsOldOrNew}
use Rattle.map_chain.specs.Writes.{SameOutside, IsWritten}
use Rattle.k_plans.specs.LandingLaws.{EachImageHas, idle-image, idle-sound, each_image-committed, stands-committed}
use Rattle.k_plans.specs.Landings.{IsElsewhere, SameElsewhere}
use Rattle.k_plans.specs.Maps.{MayWriteAll, write_steps, StandsAt, Writes, IsOutsideFirst, SameOutsideFirst, WritesFirst}
use Rattle.k_plans.specs.LandingsPlans.{NewChain, no_new, new_at, blocks_of, HasNew, Turns}

-- ---- cells

fenced-fenced : (c : Cell) → fenced (fenced c) ≡ fenced c
fenced-fenced (Single a) = refl
fenced-fenced (Two a b) = refl
fenced-fenced (Marked a b) = refl
fenced-fenced Lent = refl

-- a word that settles twice settles
pub settles-then : (a b c : Cell) → Settles a b → Settles b c → Settles a c
settles-then a b c first second = ⊎_elim
    (λ (same : b ≡ a). subst (λ x. Settles x c) same second)
    (λ (fence : b ≡ fenced a). ⊎_elim
    (λ (same : c ≡ b). inr (same ∙ fence))
    (λ (again : c ≡ fenced b). inr (again ∙ ap fenced fence ∙ fenced-fenced a))
    second)
    first

-- ---- the blocks of all maps

-- a block of a map is one of all
pub record IsAmong (blocks : List ℕ) (b : ℕ) : Type 0 where
  pub place : ℕ
  pub within : place < length blocks
  pub is : block_at blocks place ≡ b

pub block-among : (news : List NewChain) (k j : ℕ) → k < length news → j < length (new_at news k).blocks
    → IsAmong (blocks_of news) (block_at (new_at news k).blocks j)
block-among [] k j below within = absurd (omega arith)
block-among (c ∷ news) zero j below within = record {
  place = j;
  within = omega (arith, length-append c.blocks (blocks_of news));
  is = get_or_append_left c.blocks (blocks_of news) 0 j within;
}
block-among (c ∷ news) (suc k) j below within =
    let rest = block-among news k j (omega arith) within in
    record {
      place = length c.blocks + rest.place;
      within = omega (arith, length-append c.blocks (blocks_of news), rest.within);
      is = get_or-append_right c.blocks (blocks_of news) (length c.blocks) (length c.blocks + rest.place) 0 refl (omega arith)
          ∙ ap (block_at (blocks_of news)) (omega arith) ∙ rest.is;
    }

pub outside-each : (news : List NewChain) (i : ℕ) → IsOutside (blocks_of news) i → IsOutsideFirst news (length news) i
outside-each news i outside k below j within at =
    let among = block-among news k j below within in
    outside among.place among.within (among.is ∙ at)

pub in_data-each : (g : Geometry) (news : List NewChain) (k : ℕ) → k < length news → All (λ b. is_data_block g b ≡ true) (blocks_of news)
    → All (λ b. is_data_block g b ≡ true) (new_at news k).blocks
in_data-each g news k below in_data j d within =
    let among = block-among news k j below within in
    subst (λ b. is_data_block g b ≡ true) (among.is ∙ get_or_default (new_at news k).blocks j 0 d within) (in_data among.place 0 among.within)

-- one map has no other blocks than its own
pub blocks_of-one : (c : NewChain) → blocks_of (c ∷ []) ≡ c.blocks
blocks_of-one c = append-nil c.blocks

-- a fact of each block of each map is one of each of all
each-block : (P : ℕ → Type 0) (news : List NewChain)
    → ((k j : ℕ) → k < length news → j < length (new_at news k).blocks → P (block_at (new_at news k).blocks j))
    → (i : ℕ) → i < length (blocks_of news) → P (block_at (blocks_of news) i)
each-block P [] each i below = absurd (omega arith)
each-block P (c ∷ news) each i below = elim (cases_lt i (length c.blocks)) [
  | inl own ↦ subst P (sym (get_or_append_left c.blocks (blocks_of news) 0 i own)) (each 0 i (omega arith) own)
  | inr later ↦
      subst P (sym (get_or-append_right c.blocks (blocks_of news) (length c.blocks) i 0 refl later))
      (each-block P news (λ k j within inside. each (suc k) j (omega arith) inside) (i - length c.blocks)
      (omega (arith, length-append c.blocks (blocks_of news))))
]

-- where no inode has a block of one of the maps, none has one of all
pub unused-all : (v : Volume) (news : List NewChain)
    → ((k : ℕ) → k < length news → All (λ b. is_unused v b ≡ true) (new_at news k).blocks)
    → All (λ b. is_unused v b ≡ true) (blocks_of news)
unused-all v news each i d below =
    subst (λ b. is_unused v b ≡ true) (get_or_default (blocks_of news) i 0 d below)
    (each-block (λ b. is_unused v b ≡ true) news (λ k j within inside. each k within j 0 inside) i below)

-- blocks that no inode has are in no chain
pub unused-apart : (g : Geometry) (v : Volume) (d : List Cell) (blocks : List ℕ) → Stands g v d
    → All (λ b. is_unused v b ≡ true) blocks → AreUnchained g v blocks
unused-apart g v d blocks stands unused =
    let r : Reads g (journaled (words_of d)) v = stands.reads (words_of d) (IsImage-words_of d) in
    subst (λ h. AreUnchained h v blocks) r.geometry
    (unused-unchained v blocks (r.inode_count ∙ sym (ap (λ (h : Geometry). h.inodes) r.geometry)) unused)

-- ---- the maps are written one after the other

pub writes-none : (news : List NewChain) (d : List Cell) (p : Supply) → WritesFirst news 0 d d p p
writes-none news d p = record {
  size = refl;
  lent = λ i. refl;
  steps = Steps-none p;
  off = λ off. (refl, refl);
  each_image = Follows-same (SameOutsideFirst news 0) d (λ f i out. refl);
  others = λ i out. inl refl;
  stand = λ on image is k below. absurd (omega arith);
  keeps = λ on i single. single;
}

outside-rest : (news : List NewChain) (n i : ℕ) → IsOutsideFirst news (n + 1) i → IsOutsideFirst news n i
outside-rest news n i out k below = out k (omega arith)

outside-last : (news : List NewChain) (n i : ℕ) → IsOutsideFirst news (n + 1) i → IsOutside (new_at news n).blocks i
outside-last news n i out = out n (omega arith)

-- a map still stands after another one is written
stands-still : (size : ℕ) (c e : NewChain) (f h : Words) → ((j k : ℕ) → j < length c.blocks → k < length e.blocks → block_at c.blocks j ≢ block_at e.blocks k)
    → SameOutside e.blocks f h → StandsAt size c f → StandsAt size c h
stands-still size c e f h apart same stands =
    IsChain-same f h size (first_or_zero c.blocks) (length c.extents) c.blocks c.extents
    (λ k j within word. same (512 * block_at c.blocks k + j) (λ m below at. apart k m within below (omega arith)))
    stands

pub writes-more : (news : List NewChain) (n : ℕ) (d m e : List Cell) (p q r : Supply) → n < length news
    → (is_on p ≡ true → MayWriteAll news d) → WritesFirst news n d m p q → Writes (new_at news n) m e q r
    → WritesFirst news (n + 1) d e p r
writes-more news n d m e p q r below may first next = record {
  size = next.size ∙ first.size;
  lent = λ i. next.lent i ∙ first.lent i;
  steps = subst (λ k. Steps k p r) (sym (sum_by_more (λ (c : NewChain). 577 * length c.blocks + 1) news n no_new below))
      (Steps-then (write_steps (take n news)) (577 * length (new_at news n).blocks + 1) p q r first.steps next.steps);
  off = λ off.
      let before = first.off off in
      let after = next.off (subst (λ s. is_on s ≡ false) (sym before.1) off) in
      (after.0 ∙ before.0, after.1 ∙ before.1);
  each_image = Follows-weaken (Then (SameOutsideFirst news n) (SameOutside (new_at news n).blocks)) (SameOutsideFirst news (n + 1)) d e
      (λ a c then i out. then.2 i (outside-last news n i out) ∙ then.1 i (outside-rest news n i out))
      (Follows-then (SameOutsideFirst news n) (SameOutside (new_at news n).blocks) d m e (λ i lent. first.lent i ∙ lent) first.each_image next.each_image);
  others = λ i out. settles-then (cell d i) (cell m i) (cell e i) (first.others i (outside-rest news n i out)) (next.others i (outside-last news n i out));
  stand = λ on image is k within.
      let from : (before : Words) × ComesFrom m image before × IsWritten (length m) (new_at news n).extents (new_at news n).blocks before image = next.durable on image is in
      elim (cases_eq k n) [
        | inl same ↦ subst (λ j. StandsAt (length d) (new_at news j) image) (sym same) (subst (λ size. StandsAt size (new_at news n) image) first.size from.2.chain)
        | inr other ↦
            stands-still (length d) (new_at news k) (new_at news n) from.0 image
            ((may (first.steps.on_before (next.steps.on_before on))).apart k n (omega arith) below) from.2.others
            (first.stand (next.steps.on_before on) from.0 from.1.is_image k (omega arith))
      ];
  keeps = λ on i single. next.keeps on i (first.keeps (next.steps.on_before on) i single);
}

-- ---- the device beside them

-- an image that differs from one before in data blocks that no chain has reads as the same volume
pub reads-beside : (g : Geometry) (v : Volume) (blocks : List ℕ) (before image : Words) → AreUnchained g v blocks → SameOutside blocks before image
    → Reads g (journaled before) v → Reads g (journaled image) v
reads-beside g v blocks before image free same r =
    reads-written g (journaled before) (journaled image) v blocks free
    (λ i out. journaled-same before image i (λ w journal. same w (journal-outside g blocks w free.in_data journal)) (same i out)) r

-- the commit word settles, and stays 0
commit-outside : (g : Geometry) (blocks : List ℕ) → All (λ b. is_data_block g b ≡ true) blocks → IsOutside blocks commit_word
commit-outside g blocks in_data = journal-outside g blocks commit_word in_data refl

idle-settled : (g : Geometry) (blocks : List ℕ) (d m : List Cell) → All (λ b. is_data_block g b ≡ true) blocks
    → ((i : ℕ) → IsOutside blocks i → Settles (cell d i) (cell m i)) → cell d commit_word ≡ Single 0 → cell m commit_word ≡ Single 0
idle-settled g blocks d m in_data others idle =
    settled-single (cell d commit_word) (cell m commit_word) (others commit_word (commit-outside g blocks in_data)) (ap is_single idle)
    ∙ ap Single (ap newest idle)

-- so the device still stands at the volume
pub stands-written : (g : Geometry) (v : Volume) (blocks : List ℕ) (d m : List Cell) → Stands g v d → AreUnchained g v blocks → length m ≡ length d
    → ((i : ℕ) → IsOutside blocks i → Settles (cell d i) (cell m i)) → KeepsSingle d m → Follows (SameOutside blocks) d m → Stands g v m
stands-written g v blocks d m stands free size others keeps follows = record {
  size = size ∙ stands.size;
  idle = idle-settled g blocks d m free.in_data others stands.idle;
  single = λ i below. keeps i (stands.single i below);
  chains = λ ino k i below at. keeps i (stands.chains ino k i below at);
  reads = λ image is.
      let from : (before : Words) × ComesFrom d image before × SameOutside blocks before image = follows image is in
      reads-beside g v blocks from.0 image free from.2 (stands.reads from.0 from.1.is_image);
}

-- and a commit may begin
pub may-commit-written : (g : Geometry) (blocks : List ℕ) (b : List Record) (d m : List Cell) → MayCommit g b d
    → All (λ b. is_data_block g b ≡ true) blocks → length m ≡ length d
    → ((i : ℕ) → IsOutside blocks i → Settles (cell d i) (cell m i)) → KeepsSingle d m → MayCommit g b m
may-commit-written g blocks b d m may in_data size others keeps = record {
  blocks = size ∙ may.blocks;
  lines = may.lines;
  idle = idle-settled g blocks d m in_data others may.idle;
  journal = λ i below. keeps i (may.journal i below);
  targets = λ k below i at. keeps i (may.targets k below i at);
}

-- a chain of data blocks stands in the journaled view where it stands in the image
pub has-written : (g : Geometry) (c : NewChain) (image : Words) → image commit_word ≡ 0 → All (λ b. is_data_block g b ≡ true) c.blocks
    → StandsAt (512 * g.blocks) c image → HasNew g (journaled image) c
has-written g c image idle in_data stands = record {
  is_chain = IsChain-same image (journaled image) (512 * g.blocks) (first_or_zero c.blocks) (length c.extents) c.blocks c.extents
      (λ k j within word. journaled-idle image (512 * block_at c.blocks k + j) idle
      (behind_log-words g (512 * block_at c.blocks k + j) (data_word g (block_at c.blocks k) j (in_data k 0 within) word)))
      stands;
  in_data = in_data;
}

-- ---- the write of the maps, and then a commit

module _ (g : Geometry) (news : List NewChain) (v : Volume) (d m : List Cell) (p q : Supply) (stands : Stands g v d)
    (free : AreUnchained g v (blocks_of news)) (first : WritesFirst news (length news) d m p q) where
  same_outside : Follows (SameOutside (blocks_of news)) d m
  same_outside = Follows-weaken (SameOutsideFirst news (length news)) (SameOutside (blocks_of news)) d m
      (λ a c same i out. same i (outside-each news i out)) first.each_image

  -- with power left the device stands at the volume, and the maps stand in it
  pub stands-beside : is_on q ≡ true → Stands g v m
  stands-beside on =
      stands-written g v (blocks_of news) d m stands free first.size (λ i out. first.others i (outside-each news i out)) (first.keeps on) same_outside

  pub has-all : is_on q ≡ true → EachImageHas g news m
  has-all on image is k below =
      has-written g (new_at news k) image (idle-image m image (stands-beside on).idle is)
      (in_data-each g news k below free.in_data)
      (subst (λ size. StandsAt size (new_at news k) image) stands.size (first.stand on image is k below))

  -- Wherever the power goes, in the write of the maps or in the commit, each image reads as the old volume or as the
  -- new one.
  pub each_image-landed : (w : Volume) (b : List Record) (e : List Cell) → Turns g news v w b → (is_on q ≡ false → e ≡ m)
      → Follows (IsBeforeOrAfter g b) m e → Follows (IsOldOrNew g (blocks_of news) v w) d e
  each_image-landed w b e turns off follows = elim (cases_Bool (is_on q)) [
    | inl on ↦
        Follows-weaken (Then (SameOutside (blocks_of news)) (IsOldOrNew g [] v w)) (IsOldOrNew g (blocks_of news) v w) d e
        (λ before image then. record {
          reads = then.2.reads;
          others = λ i journal line out. then.2.others i journal line (λ k below. absurd (omega arith)) ∙ then.1 i out;
          sound = then.2.sound;
        })
        (Follows-then (SameOutside (blocks_of news)) (IsOldOrNew g [] v w) d m e (λ i lent. first.lent i ∙ lent) same_outside
        (each_image-committed g news v w b m e (stands-beside on) (has-all on) turns follows))
    | inr gone ↦ subst (Follows (IsOldOrNew g (blocks_of news) v w) d) (sym (off gone)) (unlanded w)
  ]
    where
      unlanded : (w : Volume) → Follows (IsOldOrNew g (blocks_of news) v w) d m
      unlanded w image is =
          let from : (before : Words) × ComesFrom d image before × SameOutside (blocks_of news) before image = same_outside image is in
          let idle : from.0 commit_word ≡ 0 = idle-image d from.0 stands.idle from.1.is_image in (
            from.0,
            from.1,
            record {
              reads = inl (reads-beside g v (blocks_of news) from.0 image free from.2 (stands.reads from.0 from.1.is_image));
              others = λ i journal line out. from.2 i out;
              sound = idle-sound g image (from.2 commit_word (commit-outside g (blocks_of news) free.in_data) ∙ idle);
            },
          )

  -- Done: the device stands at the new volume.
  pub stands-landed : (w : Volume) (b : List Record) (e : List Cell) → is_on q ≡ true → MayWriteAll news d → Turns g news v w b
      → length e ≡ length m → cell e commit_word ≡ Single 0 → KeepsSingle m e → Follows (IsAfter g b) m e → Stands g w e
  stands-landed w b e on may turns size idle keeps follows =
      stands-committed g news v w b m e (stands-beside on) (has-all on)
      (λ k below j i within at. first.keeps on i ((may.each k below).single j i within at)) turns size idle keeps follows

-- a step of a later part is one of the whole
pub took-later : (n : ℕ) (p q r : Supply) → Steps n p q → TakesAStep q r → TakesAStep p r
took-later n p q r steps took given of = omega (arith, steps.later, took given (steps.given ∙ of))

-- What stays of images and of cells, whatever the device stands at.
pub same_elsewhere : (g : Geometry) (news : List NewChain) (b : List Record) (d m e : List Cell) (p q : Supply)
    → WritesFirst news (length news) d m p q → Follows (IsBeforeOrAfter g b) m e → Follows (SameElsewhere b (blocks_of news)) d e
same_elsewhere g news b d m e p q first follows =
    Follows-weaken (Then (SameOutsideFirst news (length news)) (IsBeforeOrAfter g b)) (SameElsewhere b (blocks_of news)) d e
    (λ before image then i out. then.2.others i out.journal out.lines ∙ then.1 i (outside-each news i out.outside))
    (Follows-then (SameOutsideFirst news (length news)) (IsBeforeOrAfter g b) d m e (λ i lent. first.lent i ∙ lent) first.each_image follows)

pub settles_elsewhere : (news : List NewChain) (b : List Record) (d m e : List Cell) (p q : Supply)
    → WritesFirst news (length news) d m p q
    → ((i : ℕ) → is_journal_word i ≡ false → IsNew b (i / 8) → Settles (cell m i) (cell e i))
    → (i : ℕ) → IsElsewhere b (blocks_of news) i → Settles (cell d i) (cell e i)
settles_elsewhere news b d m e p q first others i out =
    settles-then (cell d i) (cell m i) (cell e i) (first.others i (outside-each news i out.outside)) (others i out.journal out.lines)
