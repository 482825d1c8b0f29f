-- A block of a staging file that is lent, and one that comes back: K-Split stays ready.
use Rattle.std.proofs.Common.{◌≡◌, ◌≢◌, ℕ, ◌*◌, ◌/◌, ◌<◌, Bool, true, false, List, length, Some, Result, Ok, Err, IfOk, if◌then◌else◌, refl, sym, ◌∙◌, ap, subst, arith}
use Rattle.std.specs.Prelude.{OnErr}
use Rattle.std.proofs.lemmas.Bool.{both_ways}
use Rattle.std.proofs.lemmas.Bool.Decides.{nat_tests}
use Rattle.std.proofs.lemmas.Option.{same_Some}
use Rattle.block_io.specs.pm_model.declared.Cell.{Cell}
use Rattle.block_io.specs.pm_model.declared.Cell.TheVariants.{Lent, Marked, Single, Two}
use Rattle.block_io.specs.pm_model.CellLaws.{newest-candidate, single-home}
use Rattle.block_io.specs.pm_model.Cells.{cell, IsCandidate, is_lent, is_single, newest}
use Rattle.block_io.specs.pm_model.Images.{IsImage}
use Rattle.block_io.specs.pm_model.Parts.{ComesBack, GoesOut}
use Rattle.block_io.specs.pm_model.Words.{Words}
use Rattle.block_io.specs.layout_model.Places.{commit_word, is_data_block}
use Rattle.block_io.specs.extent_model.declared.extent_words.Extent.{Extent}
use Rattle.block_io.specs.extent_model.Extents.{covers, disk_at}
use Rattle.block_io.specs.extent_model.Covers.{covers-disk_at}
use Rattle.block_io.specs.image_model.Rules.{file_blocks_of}
use Rattle.block_io.specs.image_model.Volume.{extents, inode, Volume}
use Rattle.k_group_commit.specs.BesideLaws.{ChangesOthers, rests-single, rests-uncovered, RestsOn}
use Rattle.k_group_commit.specs.Gathered.{IsCovered}
use Rattle.k_map_plans.specs.volume_laws.PoolLaws.{covered-in_data}
use Rattle.k_map_plans.specs.k_journal.declared.batches.Record.{Record}
use Rattle.k_map_plans.specs.k_plans.View.{TablesView}
use Rattle.k_map_plans.specs.k_plans.Whole.{IsWhole}
use Rattle.k_split.specs.Loans.{MayLend}
use Rattle.k_split.specs.Order.{IsReady, view_of}
use Rattle.k_split.proofs.Beside.{ready-others, view-ready}

pub is_lent-Lent : (c : Cell) → is_lent c ≡ true → c ≡ Lent
is_lent-Lent (Single x) is = cc
is_lent-Lent (Two x y) is = cc
is_lent-Lent (Marked x y) is = cc
is_lent-Lent Lent is = refl

-- ---- images where words go out, and where they come back

-- each image comes from one before that has the same words that stay
abbrev pub Comes : (ℕ → Type 0) → List Cell → List Cell → Type 0
Comes Stays d e = (image : Words) → IsImage e image → (before : Words) × IsImage d before × ((i : ℕ) → Stays i → image i ≡ before i)

module _ (Stays : ℕ → Type 0) (d e : List Cell) (same : (i : ℕ) → Stays i → cell e i ≡ cell d i) where
  -- an image of the device without what is lent, with what it held last
  abbrev back_of : Words → Words
  back_of image i = if is_lent (cell d i) then image i else (if is_lent (cell e i) then newest (cell d i) else image i)

  pub comes-out : ((i : ℕ) → is_lent (cell e i) ≡ false → cell e i ≡ cell d i) → Comes Stays d e
  comes-out home image is = (back_of image, candidate, λ i stays. sym (kept i stays)) where
    kept : (i : ℕ) → Stays i → back_of image i ≡ image i
    kept i stays = by (is_lent (cell d i)) (is_lent (cell e i)) refl (ap is_lent (same i stays)) where
      by : (a b : Bool) → is_lent (cell d i) ≡ a → b ≡ is_lent (cell d i) → (if a then image i else (if b then newest (cell d i) else image i)) ≡ image i
      by true b here alike = refl
      by false b here alike = rw (alike ∙ here) refl

    candidate : IsImage d (back_of image)
    candidate i = by (is_lent (cell d i)) (is_lent (cell e i)) refl refl where
      by : (a b : Bool) → is_lent (cell d i) ≡ a → is_lent (cell e i) ≡ b → IsCandidate (cell d i) (if a then image i else (if b then newest (cell d i) else image i))
      by true b lent there = subst (λ c. IsCandidate c (image i)) (sym (is_lent-Lent (cell d i) lent)) tt
      by false true here there = newest-candidate (cell d i)
      by false false here there = subst (λ c. IsCandidate c (image i)) (home i there) (is i)

  pub comes-in : ((i : ℕ) → is_lent (cell d i) ≡ false → cell e i ≡ cell d i) → Comes Stays d e
  comes-in home image is = (image, candidate, λ i stays. refl) where
    candidate : IsImage d image
    candidate i = by (is_lent (cell d i)) refl where
      by : (a : Bool) → is_lent (cell d i) ≡ a → IsCandidate (cell d i) (image i)
      by true lent = subst (λ c. IsCandidate c (image i)) (sym (is_lent-Lent (cell d i) lent)) tt
      by false here = subst (λ c. IsCandidate c (image i)) (home i here) (is i)

-- ---- a block goes out

module _ (t : TablesView) (group c : List Record) (d e part : List Cell) (batched : Bool) (ready : IsReady t group c d batched) (staging block b : ℕ)
    (may : MayLend t.volume d staging block b) (out : GoesOut 512 b d e part) (size : length e ≡ length d) where
  below : staging < length t.volume.inodes
  below = omega (arith, may.most, ready.opened.whole.kept.geometry.least_inodes, ready.opened.whole.kept.all.inode_count)

  has : covers (extents t.volume staging) b ≡ true
  has = covers-disk_at (extents t.volume staging) block b may.at

  rests : RestsOn t.volume.geometry ready.committed ready.opened.news (λ i. i / 512 ≢ b)
  rests =
      rests-uncovered ready.committed t group d ready.opened (λ i. i / 512 ≢ b)
      (λ i bare at. bare (subst (IsCovered t.volume) (sym at) (staging, below, has)))

  home : (i : ℕ) → is_lent (cell e i) ≡ false → cell e i ≡ cell d i
  home i none = out.others i (λ at. both_ways (is_lent (cell e i)) none (ap is_lent (out.out i at)))

  changes : ChangesOthers (λ i. i / 512 ≢ b) d e
  changes = record {
    size = size;
    idle = λ is. out.others commit_word (rests.low commit_word (omega arith)) ∙ is;
    singles = λ i stays single. ap is_single (out.others i stays) ∙ single;
    comes = comes-out (λ i. i / 512 ≢ b) d e (λ i stays. out.others i stays) home;
  }

  pub ready_lent : IsReady t group c e batched
  ready_lent =
      ready-others t group c d e batched ready (λ i. i / 512 ≢ b) rests changes
      (λ i in_it free.
      ap is_single
      (out.others i (λ same.
      both_ways (covers (extents t.volume staging) (i / 512)) (free staging may.least may.most) (ap (covers (extents t.volume staging)) same ∙ has)))
      ∙ ready.unstaged i in_it free)

  pub view_lent : (lost now : Bool) → view_of t group e batched now ≡ record (view_of t group d batched lost) { cells = e; lost = now }
  view_lent lost now = view-ready t group c d e batched lost now ready (λ i. i / 512 ≢ b) rests changes

-- ---- a block comes back

module _ (t : TablesView) (group c : List Record) (d e part : List Cell) (batched : Bool) (ready : IsReady t group c d batched) (n : ℕ)
    (lent : (i : ℕ) → i / 512 ≡ n → is_lent (cell d i) ≡ true) (back : ComesBack 512 n part d e) (size : length e ≡ length d) where
  -- a word of one candidate was not out
  apart : (i : ℕ) → is_single (cell d i) ≡ true → i / 512 ≢ n
  apart i single at = both_ways (is_lent (cell d i)) (single-home (cell d i) single) (lent i at)

  rests_back : RestsOn t.volume.geometry ready.committed ready.opened.news (λ i. i / 512 ≢ n)
  rests_back = rests-single ready.committed t group d ready.opened (λ i. i / 512 ≢ n) apart

  changes_back : ChangesOthers (λ i. i / 512 ≢ n) d e
  changes_back = record {
    size = size;
    idle = λ is. back.others commit_word (apart commit_word (ap is_single is)) ∙ is;
    singles = λ i stays single. ap is_single (back.others i stays) ∙ single;
    comes = comes-in (λ i. i / 512 ≢ n) d e (λ i stays. back.others i stays)
        (λ i home. back.others i (λ at. both_ways (is_lent (cell d i)) home (lent i at)));
  }

  pub ready_back : IsReady t group c e batched
  ready_back =
      ready-others t group c d e batched ready (λ i. i / 512 ≢ n) rests_back changes_back
      (λ i in_it free. let single = ready.unstaged i in_it free in ap is_single (back.others i (apart i single)) ∙ single)

-- whatever the answer is
pub ready_asked : {T E : Type 0} (cells_of : T → List Cell) (t : TablesView) (group c : List Record) (d e : List Cell) (batched : Bool) (staging block b : ℕ) (r : Result T E)
    → IsReady t group c d batched → MayLend t.volume d staging block b → IfOk r (λ x. GoesOut 512 b d e (cells_of x)) → OnErr r (e ≡ d) → length e ≡ length d
    → IsReady t group c e batched
ready_asked cells_of t group c d e batched staging block b (Ok x) ready may out same size = ready_lent t group c d e (cells_of x) batched ready staging block b may out size
ready_asked cells_of t group c d e batched staging block b (Err y) ready may out same size = subst (λ (cells : List Cell). IsReady t group c cells batched) (sym same) ready

pub view_asked : {T E : Type 0} (cells_of : T → List Cell) (t : TablesView) (group c : List Record) (d e : List Cell) (batched lost : Bool) (staging block b : ℕ) (r : Result T E)
    → IsReady t group c d batched → MayLend t.volume d staging block b → IfOk r (λ x. GoesOut 512 b d e (cells_of x)) → OnErr r (e ≡ d) → length e ≡ length d
    → view_of t group e batched lost ≡ record (view_of t group d batched lost) { cells = e }
view_asked cells_of t group c d e batched lost staging block b (Ok x) ready may out same size =
    view_lent t group c d e (cells_of x) batched ready staging block b may out size lost lost
view_asked cells_of t group c d e batched lost staging block b (Err y) ready may out same size =
    subst (λ (cells : List Cell). view_of t group cells batched lost ≡ record (view_of t group d batched lost) { cells = cells }) (sym same) refl

-- the block that is found is the one that was asked for
pub same_disk : (v : Volume) (d : List Cell) (staging block b : ℕ) (es : List Extent) (disk : ℕ) → MayLend v d staging block b → es ≡ extents v staging → disk_at es block ≡ Some disk → b ≡ disk
same_disk v d staging block b es disk may same at = same_Some b disk (sym may.at ∙ ap (λ fs. disk_at fs block) (sym same) ∙ at)

pub lend_within : (v : Volume) (d : List Cell) (staging block b : ℕ) → IsWhole v → length d ≡ 512 * v.geometry.blocks → MayLend v d staging block b → b < length d / 512
lend_within v d staging block b whole size may =
    by (covered-in_data v.geometry (file_blocks_of (inode v staging).kind) (extents v staging) b
    (whole.kept.kept.in_data staging (omega (arith, may.most, whole.kept.geometry.least_inodes)))
    (covers-disk_at (extents v staging) block b may.at))
  where
    by : is_data_block v.geometry b ≡ true → b < length d / 512
    by is = grind (arith, nat_tests, is, size)

-- what was not out is as it was
pub home_back : (d e part : List Cell) (n : ℕ) → ((i : ℕ) → i / 512 ≡ n → is_lent (cell d i) ≡ true) → ComesBack 512 n part d e
    → (i : ℕ) → is_lent (cell d i) ≡ false → cell e i ≡ cell d i
home_back d e part n lent back i home = back.others i (λ at. both_ways (is_lent (cell d i)) home (lent i at))
