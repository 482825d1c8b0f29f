-- A file gets another length: its map has no more extents and blocks than before, so that no fewer blocks are free.
use Rattle.std.proofs.Common.{◌≡◌, ◌≢◌, ◌≤◌, ◌<◌, ℕ, zero, suc, true, false, List, [], length, None, Ok, refl, sym, ◌∙◌, ap, subst, arith, inl, inr}
use Rattle.std.specs.Prelude.{is_some, nat_lt}
use Rattle.std.proofs.lemmas.Bool.{cases_eq, cases_lt}
use Rattle.std.proofs.lemmas.Bool.Decides.{nat_tests}
use Rattle.std.proofs.lemmas.List.{length-set}
use Rattle.log_laws.specs.block_counts.Counts.{blocks_for}
use Rattle.log_laws.specs.layout_model.declared.lines.Inode.{Inode}
use Rattle.log_laws.specs.layout_model.declared.lines.Kind.TheVariants.{File, Staging}
use Rattle.log_laws.specs.image_model.Reading.{inode_set}
use Rattle.log_laws.specs.image_model.Room.{unused_blocks}
use Rattle.log_laws.specs.image_model.Rules.{file_blocks_of}
use Rattle.log_laws.specs.image_model.Volume.{chain, extents, inode, Volume}
use Rattle.log_laws.specs.extent_model.Counts.{block_count-mapped, is_mapped, one_if}
use Rattle.file_overlay.specs.extent_model.declared.extent_words.Extent.{Extent}
use Rattle.file_overlay.specs.extent_model.Extents.{block_count, disk_at, IsCanonical}
use Rattle.file_overlay.specs.extent_model.Maps.{IsPart}
use Rattle.k_split.specs.k_map_plans.Plans.{IsLiveFile, IsStagingFile}
use Rattle.k_split.proofs.k_plans_proofs.FreeCounts.{unwaiting-counted}
use Rattle.k_split.specs.k_plans.Whole.{IsWhole}
use Rattle.k_split.specs.k_split_model.View.{View}
use Rattle.k_split.specs.MapChanges.{free_blocks_in, is_free_in, IsSizeAnswer}
use Rattle.k_split.specs.k_split_model.MapChangesChanges.{IsSized, with_size}
use Rattle.k_split.specs.k_split_model.Taken.{with_map}
use Rattle.log_laws.specs.volume_laws.Changes.{extents-set_other, inode-set_other, inode-set_same}
use Rattle.k_split.specs.volume_change_laws.Bounds.{count_below-most}
use Rattle.k_split.specs.volume_change_laws.Lengths.{begins, disk_before, length-begins, starts}
use Rattle.log_laws.specs.volume_laws.PoolLaws.{AreInData, unused-set}
use Rattle.fsync_relink.specs.Others.{GoesOn, KeepsRest}
use Rattle.fsync_relink.proofs.RelinkLaws.{has-chain}

-- ---- the front of a map

module _ (n : ℕ) (es part : List Extent) (c : IsCanonical es) (is : IsPart (λ b. nat_lt b n) es part) where
  front-same : (b : ℕ) → b < n → disk_at part b ≡ disk_at es b
  front-same b below = let inside : nat_lt b n ≡ true = grind (arith, nat_tests, below) in rw inside at (is.blocks b)

  front-none : (b : ℕ) → n ≤ b → disk_at part b ≡ None
  front-none b past = let out : nat_lt b n ≡ false = grind (arith, nat_tests, past) in rw out at (is.blocks b)

  fewer-mapped : (b : ℕ) → one_if (is_mapped part b) ≤ one_if (is_mapped es b)
  fewer-mapped b = elim (cases_lt b n) [
    | inl below ↦ omega (arith, ap (λ d. one_if (is_some d)) (front-same b below))
    | inr past ↦ omega (arith, ap (λ d. one_if (is_some d)) (front-none b past))
  ]

  pub fewer-blocks : block_count part ≤ block_count es
  fewer-blocks = omega (arith, block_count-mapped part is.canonical, block_count-mapped es c, count_below-most (is_mapped part) (is_mapped es) 4096 fewer-mapped)

  before-same : (b : ℕ) → b < n → disk_before part b ≡ disk_before es b
  before-same zero below = refl
  before-same (suc b) below = front-same b (omega (arith, below))

  fewer-begin : (b : ℕ) → one_if (begins part b) ≤ one_if (begins es b)
  fewer-begin b = elim (cases_lt b n) [
    | inl below ↦
        let same : begins part b ≡ begins es b = λ i. starts (before-same b below i) (front-same b below i) in
        omega (arith, ap one_if same)
    | inr past ↦ omega (arith, ap (λ d. one_if (starts (disk_before part b) d)) (front-none b past))
  ]

  pub fewer-extents : length part ≤ length es
  fewer-extents = omega (arith, length-begins part is.canonical, length-begins es c, count_below-most (begins part) (begins es) 4096 fewer-begin)

-- ---- the length alone

in-data : (v : Volume) → IsWhole v → AreInData v (λ ino. file_blocks_of (inode v ino).kind)
in-data v whole = record {
  chains = λ ino below. whole.chains ino;
  files = λ ino below. whole.kept.kept.in_data ino (omega (arith, below, whole.kept.all.inode_count));
}

module _ (ino size : ℕ) (k l : View) (on : GoesOn k) (file : IsLiveFile ino k.volume) (gave : IsSizeAnswer ino size k l (Ok tt)) where
  abbrev line : Inode
  line = with_size size (inode k.volume ino)

  whole : IsWhole k.volume
  whole = on.order.whole

  sized : IsSized (is_free_in k) ino size k.volume l.volume
  sized = gave.1.sized

  given : l.volume ≡ inode_set ino (with_map sized.blocks sized.es line) sized.blocks sized.es k.volume
  given = sized.is_sized

  pub line-beside : (i : ℕ) → i ≢ ino → inode l.volume i ≡ inode k.volume i
  line-beside i other = ap (λ v. inode v i) given ∙ inode-set_other ino (with_map sized.blocks sized.es line) sized.blocks sized.es k.volume i other

  pub map-beside : (i : ℕ) → i ≢ ino → extents l.volume i ≡ extents k.volume i
  map-beside i other = ap (λ v. extents v i) given ∙ extents-set_other ino (with_map sized.blocks sized.es line) sized.blocks sized.es k.volume i other

  kinds-same : (i : ℕ) → (inode l.volume i).kind ≡ (inode k.volume i).kind
  kinds-same i = elim (cases_eq i ino) [
    | inl own ↦
        ap (λ j. (inode l.volume j).kind) own
        ∙ (ap (λ v. (inode v ino).kind) given
        ∙ (ap (λ (x : Inode). x.kind) (inode-set_same ino (with_map sized.blocks sized.es line) sized.blocks sized.es k.volume file.below) ∙ ap (λ j. (inode k.volume j).kind) (sym own)))
    | inr other ↦ ap (λ (x : Inode). x.kind) (line-beside i other)
  ]

  pub no-staging : (x : ℕ) → IsStagingFile x k.volume → x ≢ ino
  no-staging x is same = let never : Staging ≡ File = sym is.kind ∙ (ap (λ i. (inode k.volume i).kind) same ∙ file.file) in absurd (cc)

  -- no fewer blocks are free
  fewer-used : unused_blocks k.volume ≤ unused_blocks l.volume
  fewer-used =
      let x : Volume = inode_set ino (with_map sized.blocks sized.es line) sized.blocks sized.es k.volume in
      let whole_x : IsWhole x = subst IsWhole given gave.2.order.whole in
      let set =
      unused-set k.volume ino (with_map sized.blocks sized.es line) sized.blocks sized.es (λ i. file_blocks_of (inode k.volume i).kind) (λ i. file_blocks_of (inode x i).kind)
      file.below whole.maps (in-data k.volume whole) (in-data x whole_x) whole.kept.kept.once whole_x.kept.kept.once
      in
      let same : unused_blocks l.volume ≡ unused_blocks x = ap unused_blocks given in
      let had = has-chain k ino on.order on.unbatched file.below in
      let fewer = fewer-blocks (blocks_for size) (extents k.volume ino) sized.es had.canonical sized.cut in
      let extents_few = fewer-extents (blocks_for size) (extents k.volume ino) sized.es had.canonical sized.cut in
      let chains : length sized.blocks ≤ length (chain k.volume ino) = omega (arith, sized.count, had.counted, extents_few) in
      omega (arith, set, same, fewer, chains)

  pub free-more : free_blocks_in k ≤ free_blocks_in l
  free-more = omega (
    arith,
    fewer-used,
    unwaiting-counted (record { volume = k.volume; aside = []; waiting = k.waiting }) refl (on.order.none_waits on.unbatched),
    unwaiting-counted (record { volume = l.volume; aside = []; waiting = l.waiting }) refl (gave.2.order.none_waits (gave.2.batched ∙ on.unbatched)),
  )

  pub keeps-sized : KeepsRest k l
  keeps-sized = record {
    goes_on = record { order = gave.2.order; unbatched = gave.2.batched ∙ on.unbatched; on = gave.2.kept_on };
    numbers = ap (λ (v : Volume). v.geometry) given;
    base = ap (λ (v : Volume). v.base) given;
    count = ap (λ (v : Volume). length v.inodes) given ∙ length-set k.volume.inodes ino (with_map sized.blocks sized.es line);
    kinds = kinds-same;
    lent = gave.2.changes.lent;
    singles = gave.2.singles;
    staged = λ x b n is at. sym (ap (λ es. disk_at es b) (map-beside x (no-staging x is))) ∙ at;
  }
