-- A file that gets a size takes no free block more.
use Rattle.batch_publish_laws.specs.RoomsLaws.{counted}
use Rattle.batch_publish_laws.specs.Sizes.{SizeTakesNone}
use Rattle.live_model.specs.extent_model.Extents.{block_count, disk_at}
use Rattle.live_model.specs.extent_model.Maps.{IsPart}
use Rattle.live_model.specs.extent_model.declared.extent_words.Extent.{Extent}
use Rattle.live_model.specs.image_model.Volume.{Volume, extents, inode}
use Rattle.live_model.specs.k_split.volume_change_laws.Lengths.{begins, disk_before, length-begins, starts}
use Rattle.live_model.specs.k_split_model.MapChangesChanges.{with_size}
use Rattle.live_model.specs.layout_model.Places.{data_blocks}
use Rattle.live_model.specs.volume_laws.PoolLaws.{held-set}
use Rattle.live_model.specs.volume_laws.extent_model.Counts.{block_count-mapped, count_below, is_mapped, one_if}
use Rattle.live_model.specs.world_image_laws.k_split_model.Taken.{with_map}
use Rattle.std.proofs.Common.{ap, arith, inl, inr, sym, ◌∙◌}
use Rattle.std.proofs.lemmas.Bool.{cases_Bool}
use Rattle.std.proofs.lemmas.Bool.Decides.{nat_tests}
use Rattle.std.specs.Prelude.{Bool, List, None, Option, false, if◌then◌else◌, is_some, length, nat_lt, refl, suc, true, zero, ℕ, ◌≡◌, ◌≤◌}
use Rattle.world_write_laws.specs.block_counts.Counts.{blocks_for}
use Rattle.world_write_laws.specs.extent_model.Extents.{IsCanonical}
use Rattle.world_write_laws.specs.volume_laws.Uses.{blocks_held}

count_fewer : (f h : ℕ → Bool) (n : ℕ) → ((b : ℕ) → f b ≡ true → h b ≡ true) → count_below f n ≤ count_below h n
unfolding count_below
count_fewer f h zero weaker = omega arith
count_fewer f h (suc n) weaker = elim (cases_Bool (f n)) [
  | inl passes ↦ omega (arith, count_fewer f h n weaker, ap one_if passes, ap one_if (weaker n passes))
  | inr fails ↦ omega (arith, count_fewer f h n weaker, ap one_if fails)
]

module _ (old es : List Extent) (limit : ℕ) (part : IsPart (λ b. nat_lt b limit) old es) where
  at_low : (b : ℕ) → nat_lt b limit ≡ true → disk_at es b ≡ disk_at old b
  at_low b low = part.blocks b ∙ ap (λ (c : Bool). if c then disk_at old b else None) low

  before_low : (b : ℕ) → nat_lt b limit ≡ true → disk_before es b ≡ disk_before old b
  before_low zero low = refl
  before_low (suc b) low = at_low b (grind (arith, nat_tests, low))

  begins_was : (b : ℕ) → begins es b ≡ true → begins old b ≡ true
  begins_was b is = by (nat_lt b limit) refl where
    by : (c : Bool) → nat_lt b limit ≡ c → begins old b ≡ true
    by true low = let before = before_low b low in let at = at_low b low in sym (λ i. starts (before i) (at i)) ∙ is
    by false high =
        let none : disk_at es b ≡ None = part.blocks b ∙ ap (λ (c : Bool). if c then disk_at old b else None) high in
        let never : false ≡ true = sym (ap (starts (disk_before es b)) none) ∙ is in cc

  mapped_was : (b : ℕ) → is_mapped es b ≡ true → is_mapped old b ≡ true
  mapped_was b is = by (nat_lt b limit) (sym (ap (λ (o : Option ℕ). is_some o) (part.blocks b)) ∙ is) where
    by : (c : Bool) → is_some (if c then disk_at old b else None) ≡ true → is_some (disk_at old b) ≡ true
    by true there = there
    by false never = cc

  no_longer : IsCanonical old → length es ≤ length old
  no_longer canonical =
      let now = length-begins es part.canonical in
      let was = length-begins old canonical in
      let fewer = count_fewer (begins es) (begins old) 4096 begins_was in
      omega (arith, now, was, fewer)

  no_more : IsCanonical old → block_count es ≤ block_count old
  no_more canonical =
      let now = block_count-mapped es part.canonical in
      let was = block_count-mapped old canonical in
      let fewer = count_fewer (λ b. is_mapped es b) (λ b. is_mapped old b) 4096 mapped_was in
      omega (arith, now, was, fewer)

pub size_takes_none : SizeTakesNone
size_takes_none free ino size v w whole after full low sized =
    let held = held-set v ino (with_map sized.blocks sized.es (with_size size (inode v ino))) sized.blocks sized.es low whole.maps in
    let same = ap (λ (x : Volume). blocks_held x) sized.is_sized in
    let space = ap (λ (x : Volume). data_blocks x.geometry) sized.is_sized in
    let long = sized.count in
    let was = full.full ino low in
    let fewer = no_longer (extents v ino) sized.es (blocks_for size) sized.cut (full.canonical ino low) in
    let less = no_more (extents v ino) sized.es (blocks_for size) sized.cut (full.canonical ino low) in
    let before = counted v whole in
    let behind = counted w after in
    omega (arith, held, same, space, long, was, fewer, less, before, behind)
