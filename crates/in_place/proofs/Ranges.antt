-- What an image shows of a file once bytes of it are written over, or some of them, where they lie.
use Rattle.std.specs.Prelude.{◌≡◌, ◌≢◌, ◌⊎◌, ◌≤◌, ◌<◌, ℕ, ◌+◌, ◌*◌, ◌-◌, ◌/◌, ◌%◌, nat_lt, cond, Bool, true, false, List, length, map, Option, Some, None, IsSome, slice_index, refl}
use Rattle.std.specs.List.{range_with_len}
use Rattle.std.proofs.Common.{arith, ap, ◌∙◌, sym, subst, inl, inr}
use Rattle.std.proofs.lemmas.Bool.{cases_lt}
use Rattle.std.proofs.lemmas.Bool.Decides.{nat_tests}
use Rattle.std.proofs.lemmas.List.FromFn.{get_or-map-range_with_len, get_or-range_with_len, length-map-range_with_len, length-range_with_len}
use Rattle.live_step_laws.specs.pm_model.Words.{byte_of, Words}
use Rattle.live_step_laws.specs.extent_model.Extents.{disk_at}
use Rattle.live_step_laws.specs.layout_model.Journal.{IsSound, journaled}
use Rattle.live_step_laws.specs.layout_model.Places.{data_blocks, first_data, Geometry, is_data_block}
use Rattle.live_step_laws.specs.layout_model.declared.lines.Draft.{Draft}
use Rattle.live_step_laws.specs.layout_model.declared.lines.Kind.TheVariants.{File, Staging}
use Rattle.live_step_laws.specs.image_model.Content.{byte_in, disk_by, disk_of, entry_of_block}
use Rattle.live_step_laws.specs.image_model.Placed.{block_at, IsOutside}
use Rattle.live_step_laws.specs.image_model.Volume.{extents, inode, Volume}
use Rattle.live_step_laws.specs.volume_laws.OwnerLaws.{IsOnePlace, one_owner}
use Rattle.live_step_laws.specs.block_io.Overwrites.{IsBeside, IsOverwritten, IsOverwrittenWhole, StandsIn}
use Rattle.live_step_laws.specs.k_split_model.Stands.{IsOldOrNew}
use Rattle.live_step_laws.specs.k_split.Bytes.{IsWrittenOver}
use Rattle.live_step_laws.specs.crash_spec.Sync.{IsPartOf}
use Rattle.live_step_laws.specs.posix_laws.FitsLaws.{length-overwritten}
use Rattle.live_step_laws.specs.world_model.Landed.{within_bounds}
use Rattle.live_step_laws.specs.world_model.Lent.{disk_of-in_data, in_data, once_named}
use Rattle.live_step_laws.specs.world_model.Stands.{FileStands, is_used, IsSane, IsUsed, LogStands}
use Rattle.live_step_laws.specs.world_model.TreeRules.{used_below}
use Rattle.live_step_laws.specs.world_write_laws.PlaceSteps.{covering, staging_below, used_staging}
use Rattle.live_step_laws.specs.world_write_laws.Places.{WritesInPlace}
use Rattle.posix_laws.proofs.ByteLaws.{index-overwritten}
use Rattle.posix_laws.specs.posix_tables.Bytes.{overwritten}
use Rattle.in_place.proofs.Places.{seen_byte}
use Rattle.in_place.specs.Placing.{SameBeside}
use Rattle.in_place.specs.PlaceLaws.{LieAt}

-- ---- a file has each of its blocks once

disk_of-once : (v : Volume) (live : List Draft) → IsSane v → LogStands v live → (i x y b : ℕ) → IsUsed v i → disk_of v live i x ≡ Some b → disk_of v live i y ≡ Some b → x ≡ y
disk_of-once v live sane log i x y b used first second = by (entry_of_block live i x) (entry_of_block live i y) refl refl first second where
  mapped : (p k q : ℕ) → disk_at (extents v i) p ≡ Some b → (inode v k).kind ≡ Staging → disk_at (extents v k) q ≡ Some b → ⊥
  mapped p k q at staging staged =
      let low = staging_below v k staging in
      let one : IsOnePlace i k p q = one_owner v b i k p q (once_named v sane k q b low staged) (used_below v i used) low at staged in
      used_staging (inode v i).kind used (ap (λ n. (inode v n).kind) one.inode ∙ staging)

  by : (o q : Option Draft) → entry_of_block live i x ≡ o → entry_of_block live i y ≡ q → disk_by v o i x ≡ Some b → disk_by v q i y ≡ Some b → x ≡ y
  by None None one two a c = let place : IsOnePlace i i x y = one_owner v b i i x y (once_named v sane i x b (used_below v i used) a) (used_below v i used) (used_below v i used) a c in place.place
  by None (Some e) one two a c = absurd (mapped x e.staging (e.staging_block + (y - e.file_block)) a (log.staging e (covering live i y e two).is) c)
  by (Some d) None one two a c = absurd (mapped y d.staging (d.staging_block + (x - d.file_block)) c (log.staging d (covering live i x d one).is) a)
  by (Some d) (Some e) one two a c =
      let mine = covering live i x d one in
      let its = covering live i y e two in
      let d_low = staging_below v d.staging (log.staging d mine.is) in
      let e_low = staging_below v e.staging (log.staging e its.is) in
      let place : IsOnePlace d.staging e.staging (d.staging_block + (x - d.file_block)) (e.staging_block + (y - e.file_block)) =
      one_owner v b d.staging e.staging (d.staging_block + (x - d.file_block)) (e.staging_block + (y - e.file_block)) (once_named v sane d.staging (d.staging_block + (x - d.file_block)) b d_low a) d_low e_low a c
      in
      let d_in = within_bounds d.file_block d.count x mine.within in
      let e_in = within_bounds e.file_block e.count y its.within in
      elim (log.apart d e mine.is its.is) [
        | inl same ↦
            let block : d.staging_block ≡ e.staging_block = ap (λ (z : Draft). z.staging_block) same in
            let first_block : d.file_block ≡ e.file_block = ap (λ (z : Draft). z.file_block) same in
            omega (arith, place.place, block, first_block, d_in.0, e_in.0)
        | inr apart ↦ elim (apart place.inode) [
          | inl before ↦ absurd (omega (arith, place.place, before, d_in.0, d_in.1, e_in.0, e_in.1))
          | inr behind ↦ absurd (omega (arith, place.place, behind, d_in.0, d_in.1, e_in.0, e_in.1))
        ]
      ]

-- ---- all data blocks

pub all_data : Geometry → List ℕ
all_data g = range_with_len (first_data g) (data_blocks g)

pub all_in_data : (g : Geometry) (k : ℕ) → k < length (all_data g) → is_data_block g (block_at (all_data g) k) ≡ true
unfolding all_data
all_in_data g k below =
    let many = length-range_with_len (first_data g) (data_blocks g) in
    let inside : k < data_blocks g = omega (arith, below, many) in
    let at = get_or-range_with_len (first_data g) (data_blocks g) k 0 inside in
    ap (is_data_block g) at ∙ there k inside
  where
    there : (n : ℕ) → n < data_blocks g → is_data_block g (first_data g + n) ≡ true
    there n inside = grind (arith, nat_tests, inside)

pub outside_data : (g : Geometry) (i b : ℕ) → IsOutside (all_data g) i → is_data_block g b ≡ true → i / 512 ≢ b
unfolding all_data
outside_data g i b outside is same =
    let least : first_data g ≤ b = grind (arith, nat_tests, is) in
    let most : b < g.blocks = grind (arith, nat_tests, is) in
    let many = length-range_with_len (first_data g) (data_blocks g) in
    let inside : b - first_data g < data_blocks g = omega (arith, least, most) in
    let at = get_or-range_with_len (first_data g) (data_blocks g) (b - first_data g) 0 inside in
    outside (b - first_data g) (omega (arith, inside, many)) (omega (arith, at, same, least))

pub written_old_or_new : (v : Volume) → IsSane v → (x place : ℕ) (bytes : List ℕ) → x < length v.inodes → (before image : Words) → IsWrittenOver v v x place bytes before image
    → IsOldOrNew v.geometry (all_data v.geometry) v v before image
written_old_or_new v sane x place bytes below before image over = record {
  reads = inl over.reads;
  others = λ i journal line outside. over.bytes_are.words i (λ q b stands. outside_data v.geometry i b outside (in_data v sane x (q / 4096) b below stands.at));
  sound = over.sound;
}

-- ---- the file's bytes

module _ (v : Volume) (live : List Draft) (ino at x place : ℕ) (bytes : List ℕ) (sane : IsSane v) (log : LogStands v live) (file : (inode v ino).kind ≡ File) (lies : LieAt v live ino at (length bytes) x place)
    (before image : Words) (sound : IsSound v.geometry before) (sound_then : IsSound v.geometry image) (others : (k : ℕ) → IsBeside (extents v x) place (length bytes) k → byte_of image k ≡ byte_of before k) where
  used : IsUsed v ino
  used = ap is_used file

  -- a byte of a block is none of the range, where none of the range has its place
  beside : (b i : ℕ) → i < 4096 → ((j : ℕ) → j < length bytes → disk_of v live ino ((at + j) / 4096) ≡ Some b → i ≢ (at + j) % 4096) → IsBeside (extents v x) place (length bytes) (4096 * b + i)
  beside b i low none q d stands same =
      let start = stands.from in
      let end = stands.below in
      let disk : b ≡ d = omega (arith, same, low) in
      let q_is : place + (q - place) ≡ q = omega (arith, start) in
      let inside : q - place < length bytes = omega (arith, start, end) in
      let here : disk_of v live ino ((at + (q - place)) / 4096) ≡ Some b = lies.same (q - place) inside ∙ (ap (λ n. disk_at (extents v x) (n / 4096)) q_is ∙ (stands.at ∙ ap Some (sym disk))) in
      let offset = lies.offset in
      none (q - place) inside here (omega (arith, same, disk, offset, start))

  -- blocks that the file has not are as they were
  pub others_same : (b i : ℕ) → is_data_block v.geometry b ≡ true → i < 4096 → ((block : ℕ) → disk_of v live ino block ≢ Some b) → byte_of (journaled image) (4096 * b + i) ≡ byte_of (journaled before) (4096 * b + i)
  others_same b i there low none =
      seen_byte v.geometry image b i sound_then there low
      ∙ (others (4096 * b + i) (beside b i low (λ j below here. absurd (none ((at + j) / 4096) here)))
      ∙ sym (seen_byte v.geometry before b i sound there low))

  -- and so are those that have none of the range
  pub beside_same : SameBeside v live ino at (length bytes) before image
  beside_same b i there low none =
      seen_byte v.geometry image b i sound_then there low
      ∙ (others (4096 * b + i) (beside b i low (λ j below here. absurd (none j below here)))
      ∙ sym (seen_byte v.geometry before b i sound there low))

  -- so are the file's bytes outside the range
  pub file_same : (i : ℕ) → (i < at) ⊎ (at + length bytes ≤ i) → byte_in (journaled image) (disk_of v live ino (i / 4096)) i ≡ byte_in (journaled before) (disk_of v live ino (i / 4096)) i
  file_same i out = by (disk_of v live ino (i / 4096)) refl where
    rest_small : (n : ℕ) → n % 4096 < 4096
    rest_small n = omega arith

    never : (j : ℕ) → j < length bytes → i / 4096 ≡ (at + j) / 4096 → i % 4096 ≡ (at + j) % 4096 → ⊥
    never j below one same = elim out [ inl low ↦ omega (arith, below, one, same, low) | inr high ↦ omega (arith, below, one, same, high) ]

    by : (o : Option ℕ) → disk_of v live ino (i / 4096) ≡ o → byte_in (journaled image) o i ≡ byte_in (journaled before) o i
    by None is = refl
    by (Some b) is =
        let there = disk_of-in_data v live sane log ino (i / 4096) b used is in
        seen_byte v.geometry image b (i % 4096) sound_then there (rest_small i)
        ∙ (others (4096 * b + i % 4096) (beside b (i % 4096) (rest_small i) (λ j below here same. never j below (disk_of-once v live sane log ino (i / 4096) ((at + j) / 4096) b used is here) same))
        ∙ sym (seen_byte v.geometry before b (i % 4096) sound there (rest_small i)))

  -- and those of the range are in the blocks of the inode
  record IsThere (j : ℕ) : Type 0 where
    b : ℕ
    stands : StandsIn (extents v x) place (length bytes) (place + j) b
    now : byte_in (journaled image) (disk_of v live ino ((at + j) / 4096)) (at + j) ≡ byte_of image (4096 * b + (place + j) % 4096)
    was : byte_in (journaled before) (disk_of v live ino ((at + j) / 4096)) (at + j) ≡ byte_of before (4096 * b + (place + j) % 4096)

  range_at : (j : ℕ) → j < length bytes → IsThere j
  range_at j below = by (disk_at (extents v x) ((place + j) / 4096)) refl (lies.some j below) where
    by : (o : Option ℕ) → disk_at (extents v x) ((place + j) / 4096) ≡ o → IsSome (disk_at (extents v x) ((place + j) / 4096)) → IsThere j
    by None is some = absurd (no (disk_at (extents v x) ((place + j) / 4096)) is some) where
      no : (q : Option ℕ) → q ≡ None → IsSome q → ⊥
      no None none is_some = cc
      no (Some c) none is_some = cc
    by (Some b) is some =
        let here : disk_of v live ino ((at + j) / 4096) ≡ Some b = lies.same j below ∙ is in
        let there = disk_of-in_data v live sane log ino ((at + j) / 4096) b used here in
        let small : (at + j) % 4096 < 4096 = omega arith in
        let offset = lies.offset in
        let off : (at + j) % 4096 ≡ (place + j) % 4096 = omega (arith, offset) in
        record {
          b = b;
          stands = record { from = omega arith; below = omega (arith, below); at = is };
          now = ap (λ o. byte_in (journaled image) o (at + j)) here ∙ (seen_byte v.geometry image b ((at + j) % 4096) sound_then there small ∙ ap (λ n. byte_of image (4096 * b + n)) off);
          was = ap (λ o. byte_in (journaled before) o (at + j)) here ∙ (seen_byte v.geometry before b ((at + j) % 4096) sound there small ∙ ap (λ n. byte_of before (4096 * b + n)) off);
        }

  -- ---- the whole of it

  pub written_whole : (now : List ℕ) → FileStands v live (journaled before) ino now → at + length bytes ≤ length now → IsOverwrittenWhole (extents v x) place bytes before image
      → WritesInPlace v live (journaled before) (journaled image) ino (overwritten now at bytes)
  written_whole now stands inside whole = record { file = file; size = stands.size ∙ sym long; each = each; others = others_same } where
    long : length (overwritten now at bytes) ≡ length now
    long = let size = length-overwritten now at bytes in omega (arith, size, inside)

    below_is : (i n : ℕ) → i < n → nat_lt i n ≡ true
    below_is i n low = grind (arith, nat_tests, low)

    not_below : (i n : ℕ) → n ≤ i → nat_lt i n ≡ false
    not_below i n high = grind (arith, nat_tests, high)

    index : (i : ℕ) (a b : Bool) → nat_lt i at ≡ a → nat_lt i (at + length bytes) ≡ b → slice_index (overwritten now at bytes) i ≡ cond a (slice_index now i) (cond b (slice_index bytes (i - at)) (slice_index now i))
    index i a b one two = index-overwritten now at bytes i ∙ (λ k. cond (one k) (slice_index now i) (cond (two k) (slice_index bytes (i - at)) (slice_index now i)))

    each : (i : ℕ) → i < length (overwritten now at bytes) → byte_in (journaled image) (disk_of v live ino (i / 4096)) i ≡ slice_index (overwritten now at bytes) i
    each i below = elim (cases_lt i at) [
      | inl low ↦ file_same i (inl low) ∙ (stands.each i (omega (arith, below, long)) ∙ sym (index i true true (below_is i at low) (below_is i (at + length bytes) (omega (arith, low)))))
      | inr from ↦ elim (cases_lt i (at + length bytes)) [
        | inl inside_of ↦
            let j_is : at + (i - at) ≡ i = omega (arith, from) in
            let short : i - at < length bytes = omega (arith, from, inside_of) in
            let there = range_at (i - at) short in
            let place_is : place + (i - at) - place ≡ i - at = omega arith in
            subst (λ n. byte_in (journaled image) (disk_of v live ino (n / 4096)) n ≡ slice_index bytes (i - at)) j_is
            (there.now ∙ (whole.each (place + (i - at)) there.b there.stands ∙ ap (slice_index bytes) place_is))
            ∙ sym (index i false true (not_below i at from) (below_is i (at + length bytes) inside_of))
        | inr past ↦ file_same i (inr past) ∙ (stands.each i (omega (arith, below, long)) ∙ sym (index i false false (not_below i at from) (not_below i (at + length bytes) past)))
      ]
    ]

  -- ---- or as far as it came

  -- the bytes that the image has
  pub found_of : ℕ → List ℕ
  found_of n = map (λ i. byte_in (journaled image) (disk_of v live ino (i / 4096)) i) (range_with_len 0 n)

  found_at : (n i : ℕ) → i < n → slice_index (found_of n) i ≡ byte_in (journaled image) (disk_of v live ino (i / 4096)) i
  unfolding found_of
  found_at n i below = get_or-map-range_with_len (λ k. byte_in (journaled image) (disk_of v live ino (k / 4096)) k) 0 n i i 0 below (omega arith)

  pub found_size : (n : ℕ) → length (found_of n) ≡ n
  unfolding found_of
  found_size n = length-map-range_with_len (λ k. byte_in (journaled image) (disk_of v live ino (k / 4096)) k) 0 n

  pub written_part : (now : List ℕ) → FileStands v live (journaled before) ino now → WritesInPlace v live (journaled before) (journaled image) ino (found_of (length now))
  written_part now stands = record {
    file = file;
    size = stands.size ∙ sym (found_size (length now));
    each = λ i below. (let many = found_size (length now) in sym (found_at (length now) i (omega (arith, below, many))));
    others = others_same;
  }

  pub part_found : (now old whole : List ℕ) → FileStands v live (journaled before) ino now → IsOverwritten (extents v x) place bytes before image → IsPartOf old whole now
      → ((j : ℕ) → j < length bytes → slice_index whole (at + j) ≡ slice_index bytes j) → IsPartOf old whole (found_of (length now))
  part_found now old whole stands over part puts = record { size = found_size (length now) ∙ part.size; each = each } where
    -- as it was, so a part as before
    by_old : (i : ℕ) → i < length now → byte_in (journaled image) (disk_of v live ino (i / 4096)) i ≡ byte_in (journaled before) (disk_of v live ino (i / 4096)) i
        → (slice_index (found_of (length now)) i ≡ slice_index whole i) ⊎ ((i < length old) × (slice_index (found_of (length now)) i ≡ slice_index old i))
    by_old i below same =
        let is : slice_index (found_of (length now)) i ≡ slice_index now i = found_at (length now) i below ∙ (same ∙ stands.each i below) in
        elim (part.each i below) [ inl new ↦ inl (is ∙ new) | inr was ↦ inr (was.0, is ∙ was.1) ]

    each : (i : ℕ) → i < length (found_of (length now)) → (slice_index (found_of (length now)) i ≡ slice_index whole i) ⊎ ((i < length old) × (slice_index (found_of (length now)) i ≡ slice_index old i))
    each i below_found = elim (cases_lt i at) [
      | inl low ↦ by_old i below (file_same i (inl low))
      | inr from ↦ elim (cases_lt i (at + length bytes)) [
        | inr past ↦ by_old i below (file_same i (inr past))
        | inl inside_of ↦ (
            let j_is : at + (i - at) ≡ i = omega (arith, from) in
            let short : i - at < length bytes = omega (arith, from, inside_of) in
            let there = range_at (i - at) short in
            let place_is : place + (i - at) - place ≡ i - at = omega arith in
            elim (over.each (place + (i - at)) there.b there.stands) [
              | inl same ↦ by_old i below (subst (λ n. byte_in (journaled image) (disk_of v live ino (n / 4096)) n ≡ byte_in (journaled before) (disk_of v live ino (n / 4096)) n) j_is (there.now ∙ (same ∙ sym there.was)))
              | inr new ↦
                  inl (found_at (length now) i below
                  ∙ (subst (λ n. byte_in (journaled image) (disk_of v live ino (n / 4096)) n ≡ slice_index bytes (i - at)) j_is (there.now ∙ (new ∙ ap (slice_index bytes) place_is))
                  ∙ (sym (puts (i - at) short) ∙ ap (slice_index whole) j_is)))
            ])
      ]
    ] where
      below : i < length now
      below = let many = found_size (length now) in omega (arith, below_found, many)
