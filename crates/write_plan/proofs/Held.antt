-- While nothing is staged, the inodes have at most the blocks that their sizes hold.
use Rattle.std.specs.Prelude.{◌≡◌, ◌⊎◌, ◌≤◌, ◌<◌, ◌+◌, ◌-◌, ℕ, zero, suc, Bool, List, [], ◌∷◌, length, Option, None, Some, is_some, slice_index, sum_by, refl}
use Rattle.std.specs.List.{range_with_len}
use Rattle.std.proofs.Common.{arith, ap, ◌∙◌, sym, subst, inl, inr}
use Rattle.std.proofs.lemmas.Bool.{cases_Bool, cases_lt}
use Rattle.std.proofs.lemmas.List.Sums.{sum_by-cons}
use Rattle.eof_laws.specs.block_counts.Counts.{blocks_for, chains_for, held_by, reserve_for}
use Rattle.eof_laws.specs.pm_model.ImageLaws.{IsImage-words_of}
use Rattle.eof_laws.specs.pm_model.Images.{words_of}
use Rattle.eof_laws.specs.layout_model.declared.lines.Kind.{Kind}
use Rattle.eof_laws.specs.layout_model.declared.lines.Kind.TheVariants.{Directory, File, Free, Staging}
use Rattle.eof_laws.specs.layout_model.Journal.{journaled}
use Rattle.eof_laws.specs.layout_model.Places.{data_blocks, Geometry}
use Rattle.eof_laws.specs.image_model.Live.{is_directory}
use Rattle.eof_laws.specs.image_model.Room.{unused_blocks}
use Rattle.eof_laws.specs.image_model.Rules.{file_blocks_of, IsKindAt}
use Rattle.eof_laws.specs.image_model.Volume.{extents, inode, Volume}
use Rattle.eof_laws.specs.extent_model.Counts.{block_count-mapped, count_below, count_below-le, count_below-more, count_below-none, is_mapped, one_if}
use Rattle.eof_laws.specs.extent_model.Facts.{IsCanonical-tail}
use Rattle.eof_laws.specs.extent_model.declared.extent_words.Extent.{Extent}
use Rattle.eof_laws.specs.extent_model.Extents.{block_count, disk_at, IsCanonical, IsExtent}
use Rattle.eof_laws.specs.Ends.{FilesEnd}
use Rattle.eof_laws.specs.file_table.Files.{size_in}
use Rattle.eof_laws.proofs.k_plans_proofs.Wholes.{directory-bare, free-bare}
use Rattle.eof_laws.specs.k_plans.Whole.{IsWhole}
use Rattle.eof_laws.specs.k_split_model.MapChangesChanges.{holes}
use Rattle.eof_laws.specs.k_split_model.Stands.{Stands}
use Rattle.eof_laws.specs.k_split_model.View.{View}
use Rattle.eof_laws.specs.posix_tables.Open.{Tables}
use Rattle.fsync_relink.specs.posix_spec.State.{State}
use Rattle.eof_laws.specs.volume_laws.PoolLaws.{unused-held}
use Rattle.eof_laws.specs.volume_laws.Uses.{blocks_held, blocks_of}
use Rattle.fsync_relink.proofs.RelinkLaws.{has-chain}
use Rattle.live_model.specs.world_model.HeldLaws.{HeldIsTheSum}
use Rattle.live_model.specs.world_model.Jobs.{live_claims}
use Rattle.live_model.specs.world_model.Stands.{is_used}
use Rattle.live_model.specs.world_model.TreeRules.{used_below}
use Rattle.live_model.specs.staging_files.GivesUp.{nothing_staged}
use Rattle.live_model.specs.staging_files.Keeps.{IsKeptEmpty, IsStaging}
use Rattle.live_model.specs.Standing.{Kept, StandsAt}
use Rattle.eof_laws.specs.file_table.Files.{Files}
use Rattle.eof_laws.specs.pm_model.Words.{Words}
use Rattle.eof_laws.specs.layout_model.declared.lines.Draft.{Draft}
use Rattle.write_plan.specs.Shown.{AreInFiles, LeavesReserve}

-- ---- sums

plus_none : (m : ℕ) → m + 0 ≡ m
plus_none m = omega arith

plus_more : (m i : ℕ) → m + suc i ≡ m + 1 + i
plus_more m i = omega arith

-- a sum over places is at most one over the elements there
sum_bound : (f h : ℕ → ℕ) (a : ℕ) (xs : List ℕ) → ((i : ℕ) → i < length xs → f (a + i) ≤ h (slice_index xs i)) → sum_by f (range_with_len a (length xs)) ≤ sum_by h xs
sum_bound f h a [] each = omega arith
sum_bound f h a (x ∷ xs) each =
    let first : f a ≤ h x = subst (λ m. f m ≤ h x) (plus_none a) (each 0 (omega arith)) in
    omega (
      arith,
      sum_by-cons f a (range_with_len (a + 1) (length xs)),
      sum_by-cons h x xs,
      first,
      sum_bound f h (a + 1) xs (λ i below. subst (λ m. f m ≤ h (slice_index xs i)) (plus_more a i) (each (suc i) (omega (arith, below)))),
    )

-- and at one place so much less
sum_bound_less : (f h : ℕ → ℕ) (a : ℕ) (xs : List ℕ) (p less : ℕ) → p < length xs → f (a + p) + less ≤ h (slice_index xs p) → ((i : ℕ) → i < length xs → f (a + i) ≤ h (slice_index xs i)) → sum_by f (range_with_len a (length xs)) + less ≤ sum_by h xs
sum_bound_less f h a [] p less there one each = absurd (omega (arith, there))
sum_bound_less f h a (x ∷ xs) zero less there one each =
    let first : f a + less ≤ h x = subst (λ m. f m + less ≤ h x) (plus_none a) one in
    omega (
      arith,
      sum_by-cons f a (range_with_len (a + 1) (length xs)),
      sum_by-cons h x xs,
      first,
      sum_bound f h (a + 1) xs (λ i below. subst (λ m. f m ≤ h (slice_index xs i)) (plus_more a i) (each (suc i) (omega (arith, below)))),
    )
sum_bound_less f h a (x ∷ xs) (suc p) less there one each =
    let first : f a ≤ h x = subst (λ m. f m ≤ h x) (plus_none a) (each 0 (omega arith)) in
    omega (
      arith,
      sum_by-cons f a (range_with_len (a + 1) (length xs)),
      sum_by-cons h x xs,
      first,
      sum_bound_less f h (a + 1) xs p less (omega (arith, there)) (subst (λ m. f m + less ≤ h (slice_index xs p)) (plus_more a p) one)
          (λ i below. subst (λ m. f m ≤ h (slice_index xs i)) (plus_more a i) (each (suc i) (omega (arith, below)))),
    )

-- ---- a map

extents_at_most : (es : List Extent) → IsCanonical es → length es ≤ block_count es
extents_at_most [] c = omega arith
extents_at_most (e ∷ es) c =
    let ok : IsExtent e = c.each 0 e (omega arith) in
    omega (arith, sum_by-cons (λ (x : Extent). x.count) e es, extents_at_most es (IsCanonical-tail e es c), ok.filled)

-- a map that ends has at most so many blocks
blocks_at_most : (es : List Extent) (end : ℕ) → IsCanonical es → ((b : ℕ) → end ≤ b → disk_at es b ≡ None) → block_count es ≤ end
blocks_at_most es end c none = elim (cases_lt end 4096) [
  | inl low ↦
      omega (arith, block_count-mapped es c, count_below-none (λ b. is_mapped es b) end 4096 (omega (arith, low)) (λ b past below. ap is_some (none b past)), count_below-le (λ b. is_mapped es b) end)
  | inr high ↦ omega (arith, high, block_count-mapped es c, count_below-le (λ b. is_mapped es b) 4096)
]

-- the blocks of a range that have one, and the holes, are no more than its blocks
one_more_place : (es : List Extent) (first count : ℕ) (o : Option ℕ) → disk_at es first ≡ o
    → count_below (λ b. is_mapped es b) (first + 1 + count) + length (holes es (first + 1) count) ≤ count_below (λ b. is_mapped es b) (first + 1) + count
    → count_below (λ b. is_mapped es b) (first + 1 + count) + length (holes es first (suc count)) ≤ count_below (λ b. is_mapped es b) first + suc count
one_more_place es first count None is rest =
    let one : holes es first (suc count) ≡ first ∷ holes es (first + 1) count = rw is refl in
    let none : one_if (is_mapped es first) ≡ 0 = rw is refl in
    omega (arith, rest, ap length one, none, count_below-more (λ b. is_mapped es b) first)
one_more_place es first count (Some b) is rest =
    let same : holes es first (suc count) ≡ holes es (first + 1) count = rw is refl in
    let one : one_if (is_mapped es first) ≡ 1 = rw is refl in
    omega (arith, rest, ap length same, one, count_below-more (λ b. is_mapped es b) first)

mapped_and_holes : (es : List Extent) (first count : ℕ) → count_below (λ b. is_mapped es b) (first + count) + length (holes es first count) ≤ count_below (λ b. is_mapped es b) first + count
mapped_and_holes es first zero = omega (arith, ap (count_below (λ b. is_mapped es b)) {x = first + 0} {y = first} (plus_none first))
mapped_and_holes es first (suc count) =
    subst (λ m. count_below (λ b. is_mapped es b) m + length (holes es first (suc count)) ≤ count_below (λ b. is_mapped es b) first + suc count) (sym (plus_more first count))
    (one_more_place es first count (disk_at es first) refl (mapped_and_holes es (first + 1) count))

-- what passes below a place, and as many more as lie behind it
below_more : (f : ℕ → Bool) (m n : ℕ) → count_below f (m + n) ≤ count_below f m + n
below_more f m zero = omega (arith, ap (count_below f) {x = m + 0} {y = m} (plus_none m))
below_more f m (suc n) = elim (cases_Bool (f m)) [
  | inl passes ↦ omega (arith, below_more f (m + 1) n, count_below-more f m, ap (count_below f) (plus_more m n), ap one_if passes)
  | inr fails ↦ omega (arith, below_more f (m + 1) n, count_below-more f m, ap (count_below f) (plus_more m n), ap one_if fails)
]

below_grows : (f : ℕ → Bool) (m n : ℕ) → count_below f m ≤ count_below f (m + n)
below_grows f m zero = omega (arith, ap (count_below f) {x = m + 0} {y = m} (plus_none m))
below_grows f m (suc n) = omega (arith, below_grows f (m + 1) n, count_below-more f m, ap (count_below f) (plus_more m n))

-- a map that ends has at most so many blocks, with the holes of a range below the end
blocks_and_holes : (es : List Extent) (end first count : ℕ) → IsCanonical es → ((b : ℕ) → end ≤ b → disk_at es b ≡ None) → first + count ≤ end → block_count es + length (holes es first count) ≤ end
blocks_and_holes es end first count c none within =
    omega (arith, few (cases_lt end 4096), rest, mapped_and_holes es first count, count_below-le (λ b. is_mapped es b) first) where
      few : (end < 4096) ⊎ (4096 ≤ end) → block_count es ≤ count_below (λ b. is_mapped es b) end
      few (inl low) =
          omega (arith, block_count-mapped es c, count_below-none (λ b. is_mapped es b) end 4096 (omega (arith, low)) (λ b past below. ap is_some (none b past)))
      few (inr high) =
          let same : 4096 + (end - 4096) ≡ end = omega (arith, high) in
          omega (arith, block_count-mapped es c, below_grows (λ b. is_mapped es b) 4096 (end - 4096), ap (count_below (λ b. is_mapped es b)) same)

      rest : count_below (λ b. is_mapped es b) end ≤ count_below (λ b. is_mapped es b) (first + count) + (end - (first + count))
      rest =
          let same : first + count + (end - (first + count)) ≡ end = omega (arith, within) in
          omega (arith, below_more (λ b. is_mapped es b) (first + count) (end - (first + count)), ap (count_below (λ b. is_mapped es b)) same)

no_extents : (es : List Extent) → length es ≡ 0 → block_count es ≡ 0
no_extents [] is = refl
no_extents (e ∷ es) is = absurd (omega (arith, is))

more_chains : (a b : ℕ) → a ≤ b → chains_for a ≤ chains_for b
more_chains a b le = omega (arith, le)

-- ---- the inodes

module _ (v : Volume) (files : Files) (are : AreInFiles v files) where
  whole : IsWhole v
  whole = are.whole

  -- an inode whose map has no extent has no block
  bare_blocks : (ino : ℕ) → ino < length v.inodes → length (extents v ino) ≡ 0 → blocks_of v ino ≡ 0
  bare_blocks ino below is =
      let counted = are.chains ino below in
      let none : chains_for (length (extents v ino)) ≡ 0 = ap chains_for is in
      omega (arith, counted, none, no_extents (extents v ino) is)

  by_kind : (ino : ℕ) (kind : Kind) → (inode v ino).kind ≡ kind → ino < length v.inodes → blocks_of v ino ≤ held_by (size_in files ino)
  by_kind ino Free is below = omega (arith, bare_blocks ino below (are.lines ino below ∙ (free-bare v ino whole is).extents))
  by_kind ino Directory is below = omega (arith, bare_blocks ino below (are.lines ino below ∙ (directory-bare v ino whole (ap is_directory is)).extents))
  by_kind ino Staging is below =
      let at : IsKindAt ino Staging = subst (IsKindAt ino) is (whole.kept.kept.kinds ino (omega (arith, below, whole.kept.all.inode_count))) in
      let staging : IsStaging ino = record { least = at.0; most = at.1 } in
      omega (arith, bare_blocks ino below (ap (λ (es : List Extent). length es) (are.staging ino staging)))
  by_kind ino File is below =
      let blocks = blocks_at_most (extents v ino) (blocks_for (size_in files ino)) (are.canonical ino below) (λ b past. are.ends.maps ino b is past) in
      let few = extents_at_most (extents v ino) (are.canonical ino below) in
      let chains = more_chains (length (extents v ino)) (blocks_for (size_in files ino)) (omega (arith, few, blocks)) in
      omega (arith, blocks, chains, are.chains ino below)

  -- a file with its holes
  with_holes : (ino first count : ℕ) → (inode v ino).kind ≡ File → ino < length v.inodes → first + count ≤ blocks_for (size_in files ino)
      → blocks_of v ino + length (holes (extents v ino) first count) ≤ held_by (size_in files ino)
  with_holes ino first count is below within =
      let blocks = blocks_and_holes (extents v ino) (blocks_for (size_in files ino)) first count (are.canonical ino below) (λ b past. are.ends.maps ino b is past) within in
      let few = extents_at_most (extents v ino) (are.canonical ino below) in
      let chains = more_chains (length (extents v ino)) (blocks_for (size_in files ino)) (omega (arith, few, blocks)) in
      omega (arith, blocks, chains, are.chains ino below)

  held_all : blocks_held v ≤ sum_by held_by files.sizes
  held_all =
      let count = are.count in
      subst (λ m. sum_by (blocks_of v) (range_with_len 0 m) ≤ sum_by held_by files.sizes) count
      (sum_bound (blocks_of v) held_by 0 files.sizes (λ i below. subst (λ m. blocks_of v m ≤ held_by (slice_index files.sizes i)) (plus_zero i) (by_kind i (inode v i).kind refl (omega (arith, below, count)))))
    where
      plus_zero : (i : ℕ) → i ≡ 0 + i
      plus_zero i = omega arith

  -- so all data blocks but what files hold are unused
  pub unused_at_least : data_blocks v.geometry ≤ unused_blocks v + sum_by held_by files.sizes
  unused_at_least =
      let all =
      unused-held v (λ ino. file_blocks_of (inode v ino).kind)
      (record { chains = λ ino below. whole.chains ino; files = λ ino below. whole.kept.kept.in_data ino (omega (arith, below, whole.kept.all.inode_count)) }) (λ b is. whole.kept.kept.once b is)
      in
      omega (arith, all, held_all)

  -- and so, where a file is to have blocks in its holes
  pub unused_with_holes : (ino first count : ℕ) → (inode v ino).kind ≡ File → first + count ≤ blocks_for (size_in files ino)
      → data_blocks v.geometry + length (holes (extents v ino) first count) ≤ unused_blocks v + sum_by held_by files.sizes
  unused_with_holes ino first count file within =
      let all =
      unused-held v (λ i. file_blocks_of (inode v i).kind)
      (record { chains = λ i below. whole.chains i; files = λ i below. whole.kept.kept.in_data i (omega (arith, below, whole.kept.all.inode_count)) }) (λ b is. whole.kept.kept.once b is)
      in
      omega (arith, all, held_with)
    where
      there : ino < length v.inodes
      there = used_below v ino (ap is_used file)

      plus_zero : (i : ℕ) → i ≡ 0 + i
      plus_zero i = omega arith

      held_with : blocks_held v + length (holes (extents v ino) first count) ≤ sum_by held_by files.sizes
      held_with =
          let size = are.count in
          subst (λ m. sum_by (blocks_of v) (range_with_len 0 m) + length (holes (extents v ino) first count) ≤ sum_by held_by files.sizes) size
          (sum_bound_less (blocks_of v) held_by 0 files.sizes ino (length (holes (extents v ino) first count)) (omega (arith, there, size))
          (subst (λ m. blocks_of v m + length (holes (extents v ino) first count) ≤ held_by (slice_index files.sizes ino)) (plus_zero ino) (with_holes ino first count file there within))
          (λ i below. subst (λ m. blocks_of v m ≤ held_by (slice_index files.sizes i)) (plus_zero i) (by_kind i (inode v i).kind refl (omega (arith, below, size)))))

  -- what all files hold leaves the reserve
  pub leaves_the_reserve : HeldIsTheSum → (live : List Draft) (f : Words) (numbers : List ℕ) (s : State) → LeavesReserve v live f numbers s files
      → sum_by held_by files.sizes + reserve_for (data_blocks v.geometry) ≤ data_blocks v.geometry
  leaves_the_reserve held live f numbers s leaves =
      let sum = held v live f numbers s files.sizes leaves.stands leaves.sizes in
      let fits = leaves.fits in
      subst (λ m. sum_by held_by files.sizes + reserve_for m ≤ m) leaves.blocks (omega (arith, fits, sum))

-- ---- where a World stands together, with nothing staged

module _ (g : Geometry) (k : View) (t : Tables) (kept : Kept) (lines : Bool) (n : ℕ) (s : State) (stands : StandsAt g k t kept lines n s) where
  pub in_files : kept.staging ≡ nothing_staged → FilesEnd k.volume kept.files → AreInFiles k.volume kept.files
  in_files fresh ends = record {
    whole = stands.order.whole;
    count = stands.sizes.count;
    chains = λ ino below. (has-chain k ino stands.order stands.unbatched below).counted;
    canonical = λ ino below. (has-chain k ino stands.order stands.unbatched below).canonical;
    lines = λ ino below. line_says ino below;
    ends = ends;
    staging = λ ino is. stands.agrees.empty ino is (empty_staging ino is);
  } where
    -- the line of an inode says how many extents it has
    line_says : (ino : ℕ) → ino < length k.volume.inodes → length (extents k.volume ino) ≡ (inode k.volume ino).extents
    line_says ino below =
        let there : Stands k.volume.geometry k.volume k.cells = subst (λ u. Stands u.geometry u k.cells) (stands.order.settled stands.unbatched) stands.order.stands in
        let reads = there.reads (words_of k.cells) (IsImage-words_of k.cells) in
        (reads.chains ino (omega (arith, below, reads.inode_count))).map.counted

    empty_staging : (x : ℕ) → IsStaging x → IsKeptEmpty kept.staging x
    empty_staging x is = subst (λ st. IsKeptEmpty st x) (sym fresh) (zeros (x - 1) (omega (arith, is.most, is.least))) where
      zeros : (i : ℕ) → i < 4 → slice_index nothing_staged.given i ≡ 0
      zeros zero below = refl
      zeros (suc zero) below = refl
      zeros (suc (suc zero)) below = refl
      zeros (suc (suc (suc zero))) below = refl
      zeros (suc (suc (suc (suc i)))) below = absurd (omega (arith, below))

  pub leaves_kept : LeavesReserve k.volume (live_claims k.volume kept.claims) (journaled (words_of k.cells)) stands.numbers s kept.files
  leaves_kept = record {
    stands = (stands.flying.device.world (words_of k.cells) (IsImage-words_of k.cells)).valid.stands;
    sizes = stands.sizes;
    fits = (stands.flying.device.world (words_of k.cells) (IsImage-words_of k.cells)).valid.fits;
    blocks = stands.flying.device.room.blocks;
  }
