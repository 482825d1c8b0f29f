-- A file gets its own length again: what its map has past the end goes, and the image shows what it did.
use Rattle.std.proofs.Common.{◌≡◌, ◌≢◌, ◌≤◌, ◌<◌, ◌+◌, ℕ, zero, suc, true, false, List, [], length, None, Result, Ok, Err, refl, sym, ◌∙◌, ap, subst, arith, inl, inr}
use Rattle.std.specs.Prelude.{All, is_some, nat_lt}
use Rattle.std.proofs.lemmas.Bool.{cases_eq, cases_lt}
use Rattle.std.proofs.lemmas.Bool.Decides.{nat_tests}
use Rattle.block_counts.specs.Counts.{blocks_for}
use Rattle.k_check.specs.pm_model.declared.Cell.{Cell}
use Rattle.k_check.specs.pm_model.Cells.{AllSingle}
use Rattle.k_check.specs.pm_model.Images.{Follows}
use Rattle.layout_model.specs.declared.lines.Inode.{Inode}
use Rattle.layout_model.specs.declared.lines.Kind.TheVariants.{File, Staging}
use Rattle.layout_model.specs.block_counts.declared.TheConstants.{LONGEST_FILE}
use Rattle.layout_model.specs.Lines.{is_inode, is_inode_of_kind}
use Rattle.k_check.specs.layout_model.Places.{Geometry, reserve}
use Rattle.k_check.specs.image_model.Live.{live_entries}
use Rattle.k_check.specs.image_model.Reading.{inode_set}
use Rattle.k_check.specs.image_model.Room.{unused_blocks}
use Rattle.k_check.specs.image_model.Rules.{file_blocks_of}
use Rattle.k_check.specs.image_model.Volume.{chain, extents, inode, Volume}
use Rattle.k_check.specs.extent_model.Counts.{block_count-mapped, is_mapped, one_if}
use Rattle.k_check.specs.extent_model.declared.extent_words.Extent.{Extent}
use Rattle.k_check.specs.extent_model.Extents.{block_count, disk_at, IsCanonical}
use Rattle.k_check.specs.extent_model.Maps.{IsPart}
use Rattle.k_split.specs.k_map_plans.Plans.{IsLiveFile}
use Rattle.k_split.specs.k_plans.Whole.{IsWhole}
use Rattle.staging_files.specs.k_split_model.View.{View}
use Rattle.staging_files.specs.k_split.declared.faults.KFault.{KFault}
use Rattle.staging_files.specs.k_split.SizeLaws.{sized-free}
use Rattle.staging_files.specs.k_split.MapChanges.{ChangesMaps, is_free_in, IsSizeAnswer, IsSizedWith}
use Rattle.staging_files.specs.k_split_model.MapChangesChanges.{IsSized, with_size}
use Rattle.staging_files.specs.k_split_model.Taken.{switched, with_map}
use Rattle.staging_files.proofs.GiveUpLaws.{staging-file}
use Rattle.staging_files.specs.Keeps.{IsStaging}
use Rattle.k_check.specs.volume_laws.Changes.{extents-set_other, extents-set_same}
use Rattle.staging_files.specs.volume_change_laws.Bounds.{count_below-most}
use Rattle.staging_files.specs.volume_change_laws.Lengths.{begins, disk_before, length-begins, starts}
use Rattle.staging_files.specs.volume_laws.PoolLaws.{unused-set}
use Rattle.log_replay.proofs.Passed.{chain-counted, map-canonical}
use Rattle.log_replay.specs.Replays.{seen, ShowsTheSame}
use Rattle.log_replay.proofs.Keeping.{images-next, images-off, images-own, images-then, shows-first, shows-next}
use Rattle.log_replay.proofs.Lines.{applied-set, in-data, KeepsBytes, KeepsLines, lines-set, live-kept, low-file, used-below}
use Rattle.log_replay.specs.declared.stops.Stop.{Stop}
use Rattle.log_replay.specs.Quiet.{IsQuiet, OnDone, ShowsAsBefore}
use Rattle.log_replay.specs.Sweeps.{AreTrimmed, EndsInTime, IsTrimmedOne}

-- ---- the front of a map

module _ (n : ℕ) (es part : List Extent) (c : IsCanonical es) (is : IsPart (λ b. nat_lt b n) es part) where
  front-same : (b : ℕ) → b < n → disk_at part b ≡ disk_at es b
  front-same b below = let inside : nat_lt b n ≡ true = grind (arith, nat_tests, below) in rw inside at (is.blocks b)

  front-none : (b : ℕ) → n ≤ b → disk_at part b ≡ None
  front-none b past = let out : nat_lt b n ≡ false = grind (arith, nat_tests, past) in rw out at (is.blocks b)

  fewer-mapped : (b : ℕ) → one_if (is_mapped part b) ≤ one_if (is_mapped es b)
  fewer-mapped b = elim (cases_lt b n) [
    | inl below ↦ omega (arith, ap (λ d. one_if (is_some d)) (front-same b below))
    | inr past ↦ omega (arith, ap (λ d. one_if (is_some d)) (front-none b past))
  ]

  pub fewer-blocks : block_count part ≤ block_count es
  fewer-blocks = omega (arith, block_count-mapped part is.canonical, block_count-mapped es c, count_below-most (is_mapped part) (is_mapped es) 4096 fewer-mapped)

  before-same : (b : ℕ) → b < n → disk_before part b ≡ disk_before es b
  before-same zero below = refl
  before-same (suc b) below = front-same b (omega (arith, below))

  fewer-begin : (b : ℕ) → one_if (begins part b) ≤ one_if (begins es b)
  fewer-begin b = elim (cases_lt b n) [
    | inl below ↦
        let same : begins part b ≡ begins es b = λ i. starts (before-same b below i) (front-same b below i) in
        omega (arith, ap one_if same)
    | inr past ↦ omega (arith, ap (λ d. one_if (starts (disk_before part b) d)) (front-none b past))
  ]

  pub fewer-extents : length part ≤ length es
  fewer-extents = omega (arith, length-begins part is.canonical, length-begins es c, count_below-most (begins part) (begins es) 4096 fewer-begin)

-- ---- one file gets its own length again, done or cut off

module _ (ino : ℕ) (k : View) (w : Volume) (blocks : List ℕ) (quiet : IsQuiet k) (live : IsLiveFile ino k.volume)
    (makes : IsSizedWith ino (inode k.volume ino).size k w blocks) (after : IsWhole w) where
  abbrev size : ℕ
  size = (inode k.volume ino).size

  abbrev line : Inode
  line = with_size size (inode k.volume ino)

  whole : IsWhole k.volume
  whole = quiet.rest.order.whole

  sized : IsSized (is_free_in k) ino size k.volume w
  sized = makes.sized

  given : w ≡ switched ino line sized.blocks sized.es k.volume
  given = sized.is_sized

  mapped : ino < length k.volume.maps
  mapped = omega (arith, live.below, whole.maps.map_count)

  lines : KeepsLines k.volume w
  lines = subst (KeepsLines k.volume) (sym given) (lines-set ino (with_map sized.blocks sized.es line) sized.blocks sized.es k.volume live.below refl refl refl)

  applied : (i : ℕ) → (inode w i).applied ≡ (inode k.volume i).applied
  applied i = ap (λ v. (inode v i).applied) given ∙ applied-set ino (with_map sized.blocks sized.es line) sized.blocks sized.es k.volume live.below refl i

  map-own : extents w ino ≡ sized.es
  map-own = ap (λ v. extents v ino) given ∙ extents-set_same ino (with_map sized.blocks sized.es line) sized.blocks sized.es k.volume mapped

  map-other : (i : ℕ) → i ≢ ino → extents w i ≡ extents k.volume i
  map-other i other = ap (λ v. extents v i) given ∙ extents-set_other ino (with_map sized.blocks sized.es line) sized.blocks sized.es k.volume i other

  bytes : KeepsBytes k.volume w
  bytes i block file within = elim (cases_eq i ino) [
    | inl own ↦
        let below : block < blocks_for size = omega (arith, within, ap (λ n. (inode k.volume n).size) own) in
        ap (λ n. disk_at (extents w n) block) own
        ∙ (ap (λ es. disk_at es block) map-own ∙ (front-same (blocks_for size) (extents k.volume ino) sized.es canonical sized.cut block below
        ∙ ap (λ n. disk_at (extents k.volume n) block) (sym own)))
    | inr other ↦ ap (λ es. disk_at es block) (map-other i other)
  ] where
    canonical : IsCanonical (extents k.volume ino)
    canonical = map-canonical k ino quiet.rest.order quiet.rest.unbatched live.below

  none : live_entries w (seen k) ≡ []
  none = live-kept k.volume w lines (seen k) applied ∙ quiet.none

  free : All (λ b. is_free_in k b ≡ true) blocks
  free = sized-free ino size k w blocks live.below whole.maps makes

  freed : unused_blocks k.volume ≤ unused_blocks w
  freed =
      let x : Volume = inode_set ino (with_map sized.blocks sized.es line) sized.blocks sized.es k.volume in
      let whole_x : IsWhole x = subst IsWhole given after in
      let set =
      unused-set k.volume ino (with_map sized.blocks sized.es line) sized.blocks sized.es (λ i. file_blocks_of (inode k.volume i).kind) (λ i. file_blocks_of (inode x i).kind)
      live.below whole.maps (in-data k.volume whole) (in-data x whole_x) whole.kept.kept.once whole_x.kept.kept.once
      in
      let same : unused_blocks w ≡ unused_blocks x = ap unused_blocks given in
      let canonical : IsCanonical (extents k.volume ino) = map-canonical k ino quiet.rest.order quiet.rest.unbatched live.below in
      let fewer = fewer-blocks (blocks_for size) (extents k.volume ino) sized.es canonical sized.cut in
      let extents_few = fewer-extents (blocks_for size) (extents k.volume ino) sized.es canonical sized.cut in
      let chains : length sized.blocks ≤ length (chain k.volume ino) = omega (arith, sized.count, chain-counted k ino quiet.rest.order quiet.rest.unbatched live.below, extents_few) in
      omega (arith, set, same, fewer, chains)

  trimmed-own : EndsInTime w ino
  trimmed-own file block past =
      ap (λ es. disk_at es block) map-own
      ∙ front-none (blocks_for size) (extents k.volume ino) sized.es (map-canonical k ino quiet.rest.order quiet.rest.unbatched live.below) sized.cut block
      (subst (λ n. blocks_for n ≤ block) (lines.size ino) past)

  trimmed-other : (i : ℕ) → i ≢ ino → EndsInTime k.volume i → EndsInTime w i
  trimmed-other i other short file block past =
      ap (λ es. disk_at es block) (map-other i other) ∙ short (sym (lines.kind i) ∙ file) block (subst (λ n. blocks_for n ≤ block) (lines.size i) past)

  trimmed-staged : (x : ℕ) → IsStaging x → extents w x ≡ extents k.volume x
  trimmed-staged x is = map-other x (λ same.
      let staging = (staging-file k.volume x whole is).kind in
      let never : File ≡ Staging = sym live.file ∙ (ap (λ i. (inode k.volume i).kind) (sym same) ∙ staging) in
      cc)

  -- each image shows what it did
  images-trimmed : (d : List Cell) → ChangesMaps blocks k.committed w k.cells d → Follows (ShowsTheSame k.volume.geometry) k.cells d
  images-trimmed d changes = images-next k w blocks quiet after lines bytes none free freed d changes

shows-trimmed : (ino : ℕ) (k0 k k2 : View) → ShowsAsBefore k0 k → IsLiveFile ino k.volume → IsSizeAnswer ino (inode k.volume ino).size k k2 (Ok tt) → ShowsAsBefore k0 k2
shows-trimmed ino k0 k k2 was live gave =
    shows-next k0 k k2 gave.0 was gave.2 (lines ino k k2.volume gave.0 was.quiet live gave.1 gave.2.order.whole) (bytes ino k k2.volume gave.0 was.quiet live gave.1 gave.2.order.whole)
    (none ino k k2.volume gave.0 was.quiet live gave.1 gave.2.order.whole) (free ino k k2.volume gave.0 was.quiet live gave.1 gave.2.order.whole)
    (freed ino k k2.volume gave.0 was.quiet live gave.1 gave.2.order.whole)

-- what is answered of it
pub size-images : (ino size : ℕ) (k k2 : View) (r : Result (Unit {0}) KFault) → IsQuiet k → IsLiveFile ino k.volume → size ≡ (inode k.volume ino).size
    → IsSizeAnswer ino size k k2 r → Follows (ShowsTheSame k.volume.geometry) k.cells k2.cells
size-images ino size k k2 r quiet live own answer = by r (subst (λ n. IsSizeAnswer ino n k k2 r) own answer) where
  by : (r : Result (Unit {0}) KFault) → IsSizeAnswer ino (inode k.volume ino).size k k2 r → Follows (ShowsTheSame k.volume.geometry) k.cells k2.cells
  by (Ok done) gave = images-trimmed ino k k2.volume gave.0 quiet live gave.1 gave.2.order.whole k2.cells gave.2.changes
  by (Err (KFault.Refused errno)) never = absurd never
  by (Err (KFault.Room room)) never = absurd never
  by (Err KFault.NoMemory) same =
      subst (λ (z : View). Follows (ShowsTheSame k.volume.geometry) k.cells z.cells) (sym same) (images-own k k quiet.rest.single (shows-first k quiet))
  by (Err KFault.PowerLost) (inl off) = images-off k k k2 quiet.rest.single (shows-first k quiet) off
  by (Err KFault.PowerLost) (inr (w, blocks, makes, cut)) = images-trimmed ino k w blocks quiet live makes cut.whole k2.cells cut.changes

-- ---- what a new length asks for

pub size-fits : (k : View) (ino : ℕ) → IsQuiet k → IsLiveFile ino k.volume → (inode k.volume ino).size ≤ LONGEST_FILE
size-fits k ino quiet live = fits (inode k.volume ino) live.file (quiet.rest.order.whole.inodes ino) where
  fits : (x : Inode) → x.kind ≡ File → is_inode x ≡ true → x.size ≤ LONGEST_FILE
  fits x file is =
      let own : is_inode_of_kind File x ≡ true = subst (λ kind. is_inode_of_kind kind x ≡ true) file is in
      grind (arith, nat_tests, own)

pub room-there : (k : View) → IsQuiet k → reserve k.volume.geometry ≤ unused_blocks k.volume + 3
room-there k quiet = omega (arith, quiet.checked.log.recovers.unused)

-- ---- one inode after the other

pub record IsOnTheWay (k0 k : View) (ino : ℕ) : Type 0 where
  pub shows : ShowsAsBefore k0 k
  pub staged : (x : ℕ) → IsStaging x → extents k.volume x ≡ extents k0.volume x
  pub short : (i : ℕ) → i < ino → EndsInTime k.volume i

pub way-begins : (k : View) → IsQuiet k → IsOnTheWay k k 5
way-begins k quiet = record {
  shows = shows-first k quiet;
  staged = λ x is. refl;
  short = λ i below file.
      let kept = quiet.rest.order.whole.kept in
      absurd (omega (arith, below, low-file i (inode k.volume i).kind (kept.kept.kinds i (omega (arith, below, kept.geometry.least_inodes))) file));
}

pub way-next : (k0 k k2 : View) (ino : ℕ) → IsOnTheWay k0 k ino → IsTrimmedOne ino k k2 → IsOnTheWay k0 k2 (ino + 1)
way-next k0 k k2 ino way (inl kept) = subst (λ z. IsOnTheWay k0 z (ino + 1)) (sym kept.1) (record {
  shows = way.shows;
  staged = way.staged;
  short = λ i below. elim (cases_eq i ino) [
    | inl same ↦ subst (EndsInTime k.volume) (sym same) kept.0
    | inr other ↦ way.short i (omega (arith, below, other))
  ];
})
way-next k0 k k2 ino way (inr cut) = record {
  shows = shows-trimmed ino k0 k k2 way.shows cut.1 cut.2;
  staged = λ x is. trimmed-staged ino k k2.volume cut.2.0 way.shows.quiet cut.1 cut.2.1 cut.2.2.order.whole x is ∙ way.staged x is;
  short = λ i below. elim (cases_eq i ino) [
    | inl same ↦ subst (EndsInTime k2.volume) (sym same) (trimmed-own ino k k2.volume cut.2.0 way.shows.quiet cut.1 cut.2.1 cut.2.2.order.whole)
    | inr other ↦ trimmed-other ino k k2.volume cut.2.0 way.shows.quiet cut.1 cut.2.1 cut.2.2.order.whole i other (way.short i (omega (arith, below, other)))
  ];
}

pub way-ends : (k0 k : View) (ino : ℕ) → IsOnTheWay k0 k ino → k0.volume.geometry.inodes ≤ ino → AreTrimmed k0 k
way-ends k0 k ino way all = record {
  shows = way.shows;
  staged = way.staged;
  short = λ i file.
      way.short i (omega (arith, all, used-below k.volume i file, way.shows.quiet.rest.order.whole.kept.all.inode_count, inodes)) file;
} where
  inodes : k.volume.geometry.inodes ≡ k0.volume.geometry.inodes
  inodes = ap (λ (g : Geometry). g.inodes) way.shows.geometry

-- a file that did not end in time got its own length again, where it is done
pub trimmed-one : (ino size : ℕ) (k k2 : View) (r : Result (Unit {0}) Stop) → size ≡ (inode k.volume ino).size → (¬ EndsInTime k.volume ino) → IsLiveFile ino k.volume
    → OnDone r (IsSizeAnswer ino size k k2 (Ok tt)) → OnDone r (IsTrimmedOne ino k k2)
trimmed-one ino size k k2 (Ok done_is) own late live sized = inr (late, live, subst (λ n. IsSizeAnswer ino n k k2 (Ok tt)) own sized)
trimmed-one ino size k k2 (Err e) own late live sized = tt

-- images beside those of the beginning
pub way-images : (k0 k : View) (ino : ℕ) (d : List Cell) → AllSingle k0.cells → IsOnTheWay k0 k ino → Follows (ShowsTheSame k.volume.geometry) k.cells d
    → Follows (ShowsTheSame k0.volume.geometry) k0.cells d
way-images k0 k ino d single way images = images-then k0 k d single way.shows images
